use Rattle.std.specs.Prelude.{◌≡◌, ◌+◌, ◌++◌, drop}
use Rattle.ln_channel.specs.Pending.{pending_from}
use Rattle.ln_channel.proofs.channel.Channel.pending_events.Given as goal

abbrev pub invariant-loop-entry : goal.invariant-loop-entry
invariant-loop-entry l =
    (l.number ≡ l.self.ledger.decided + l.entry-index)
    × (l.events.items ++ pending_from l.number (drop l.entry-index l.self.ledger.undecided) l.self
    ≡ pending_from l.self.ledger.decided l.self.ledger.undecided l.self)
