use Rattle.std.proofs.Common.{position, sym, ap, ◌∙◌}
use Rattle.ln_world_channels.specs.WorldChannel.{is_node}
use Rattle.ln_world_channels.proofs.Worlds.{replaced, appended}
use Rattle.ln_world_channels.proofs.settings.set_for.Goals as goal

pub returns-in-Some-clause-set : goal.returns-in-Some-clause-set
returns-in-Some-clause-set c =
    replaced c.args.node c.args.settings c.args.all.now.items c.in-Some.i
    (sym c.in-Some.is ∙ c.place_of.ensures
    ∙ ap (λ ss. position (λ s. is_node s.node c.args.node) ss) c.deref.ensures.value)

pub returns-in_ok-push-in-None-clause-set : goal.returns-in_ok-push-in-None-clause-set
returns-in_ok-push-in-None-clause-set c =
    c.in_ok-push-in-None.ensures.items ∙ appended c.args.node c.args.settings c.args.all.now.items
    (sym (ap (λ ss. position (λ s. is_node s.node c.args.node) ss) c.deref.ensures.value)
    ∙ sym c.place_of.ensures ∙ c.in-None.is)
