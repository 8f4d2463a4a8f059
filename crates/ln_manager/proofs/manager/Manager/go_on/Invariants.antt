use Rattle.std.proofs.Common.{◌≡◌}
use Rattle.ln_manager.specs.Leads.{Leads}
use Rattle.ln_manager.proofs.manager.Manager.go_on.Given as goal

-- the marks stay, and calls lead on
abbrev pub invariant-loop : goal.invariant-loop
invariant-loop g l =
    (l.self.is_out ≡ l.fn.self.is_out)
    × Leads g.K.ChannelKeys.signer l.fn.self.channels l.self.channels
