use Rattle.std.proofs.Common.{◌≡◌, ◌||◌, true}
use Rattle.ln_manager_channels.specs.Moves.{none_fresh}
use Rattle.ln_manager.specs.Leads.{Leads}
use Rattle.ln_manager.proofs.manager.Manager.turn_all.Given as goal

-- the marks stay, calls lead on, and each record that has changed stands in a batch
abbrev pub invariant-loop-channel : goal.invariant-loop-channel
invariant-loop-channel g l =
    (l.self-inside.is_out.items ≡ l.fn.self.is_out)
    × Leads g.K.ChannelKeys.signer l.fn.self.channels l.self-inside.channels
    × ((l.self-inside.is_spent || none_fresh l.self-inside.channels.parts.records) ≡ true)
