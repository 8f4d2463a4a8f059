use Rattle.std.proofs.Common.{◌≡◌, ◌∙◌, sym, ap, subst}
use Rattle.ln_channel.specs.Past.{IsStageOf, link_after}
use Rattle.ln_channel.specs.Record.{saved_end}
use Rattle.ln_channel.specs.State.{State}
use Rattle.ln_link.specs.Loading.{CameBack}
use Rattle.ln_link.proofs.Taken.{may_take, taken_so}
use Rattle.ln_link.proofs.link.Link.take_past_of.Goals as goal

pub take_past_of-requires : goal.take_past_of-requires
take_past_of-requires g c =
    subst (λ (x : State _). IsStageOf c.other.inside.channel_machine.stage x.stage) (sym c.self.view_is)
    (subst (λ (y : State _). IsStageOf y.stage c.args.self.now.stage) (sym c.other.view_is)
    (may_take c.args.other.now.stage c.args.other.now.failure c.args.self.now c.requires))

pub returns : goal.returns
returns g c =
    let same : link_after c.other.inside.channel_machine c.self.inside.channel_machine
    ≡ link_after c.args.other.now c.args.self.now =
    ap (λ (y : State _). link_after y c.self.inside.channel_machine) c.other.view_is
    ∙ ap (link_after c.args.other.now) c.self.view_is in
    subst (CameBack c.args.self.now.keys c.args.other.now.failure (saved_end c.args.other.now.stage))
    (sym (c.take_past_of.ensures.state ∙ same))
    (taken_so c.args.other.now.stage c.args.other.now.failure c.args.self.now c.requires)
