use Rattle.std.specs.Prelude.{◌≡◌, ◌+◌, ◌++◌, drop}
use Rattle.ln_channel.specs.Ledger.{next_event, refs_of, entered}
use Rattle.ln_channel.specs.Outputs.{events_of, numbered}
use Rattle.ln_channel.proofs.ledger.EventLedger.enter_all.Given as goal

abbrev pub invariant-loop-update : goal.invariant-loop-update
invariant-loop-update l =
    (l.number ≡ l.first + l.update-index)
    × (entered (refs_of l.own l.number (drop l.update-index l.updates)) l.self
    ≡ entered (refs_of l.own l.first l.updates) l.fn.self)
    × (l.outbox.sent ≡ l.fn.outbox.sent)
    × (l.outbox.told ++ numbered (next_event l.self) (events_of l.own (drop l.update-index l.updates))
    ≡ l.fn.outbox.told ++ numbered (next_event l.fn.self) (events_of l.own l.updates))
