-- A channel that is opened, and its ends' dispatchers.
use Rattle.std.proofs.Common.{◌≡◌, ◌++◌, sym, ap, ◌∙◌, true, cond}
use Rattle.ln_keys.specs.declared.keys.ChannelKeys.{Ghosts}
use Rattle.ln_hooks.specs.declared.verdict.Verdict.TheVariants.{Continue}
use Rattle.ln_world_channels.specs.declared.step.Open.{Open}
use Rattle.ln_world_channels.specs.declared.step.Step.TheVariants as channel_step
use Rattle.ln_world_channels.specs.World.{may_open}
use Rattle.ln_world_channels.specs.World as channels
use Rattle.ln_world_dispatch.specs.declared.step.Step.TheVariants as step
use Rattle.ln_world_dispatch.specs.World.{World, new_dispatchers, happens}

pub opened_so : {K : Type 0} (k : Ghosts K) (o : Open K k) (w between new : World K)
    → may_open o w.channels ≡ true
    → between ≡ record {
      channels = channels.happens k (channel_step.Open o) w.channels;
      dispatchers = w.dispatchers;
      used = w.used;
      hooks = w.hooks;
    }
    → new ≡ record {
      channels = between.channels;
      dispatchers = between.dispatchers ++ new_dispatchers o.channel o.funder o.fundee;
      used = between.used;
      hooks = between.hooks;
    }
    → new ≡ happens k Continue (step.Open o) w
opened_so k o w between new may moved joined =
    let behind = channels.happens k (channel_step.Open o) w.channels in
    let more = w.dispatchers ++ new_dispatchers o.channel o.funder o.fundee in
    joined
    ∙ ap (λ (b : World _). record {
      channels = b.channels;
      dispatchers = b.dispatchers ++ new_dispatchers o.channel o.funder o.fundee;
      used = b.used;
      hooks = b.hooks;
    }) moved
    ∙ ap (λ d. record { channels = behind; dispatchers = d; used = w.used; hooks = w.hooks })
    (sym (ap (λ b. cond b more w.dispatchers) may))
