use Rattle.ln_manager.specs.Leads.{Leads}
use Rattle.ln_manager.proofs.manager.Manager.begin.Given as goal

-- calls lead on
abbrev pub invariant-loop-channel : goal.invariant-loop-channel
invariant-loop-channel g l = Leads g.K.ChannelKeys.signer l.fn.self.channels l.self.channels
