use Rattle.std.proofs.Common.{◌≡◌}
use Rattle.ln_manager.specs.Leads.{Leads}
use Rattle.ln_manager.proofs.manager.Manager.hand_on_all.Given as goal

-- the marks stay, and calls lead on
abbrev pub invariant-loop-output : goal.invariant-loop-output
invariant-loop-output g l =
    (l.self.is_out ≡ l.fn.self.is_out)
    × Leads g.K.ChannelKeys.signer l.fn.self.channels l.self.channels
