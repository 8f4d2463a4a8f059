use Rattle.std.proofs.Common.{ap, ◌∙◌}
use Rattle.ln_channel.specs.State.{State}
use Rattle.ln_channel.proofs.Based.{link_based}
use Rattle.ln_channel.proofs.machine.ChannelMachine.compact.Goals as goal

pub returns-clause-state : goal.returns-clause-state
returns-clause-state g c = λ l s.
    let k = c.self.view_is ∙ s in
    link_based c.compact.result _ l c.compact.new.self k
    (c.compact.ensures.state l.stage (ap (λ (x : State _). x.stage) k))
