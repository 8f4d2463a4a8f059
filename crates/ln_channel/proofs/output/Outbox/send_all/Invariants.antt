use Rattle.std.proofs.Common.{◌≡◌, ◌++◌, length}
use Rattle.std.specs.Vec.Iter.{into_iter_items, into_iter_len}
use Rattle.ln_channel.specs.Resume.{all_sent}
use Rattle.ln_channel.proofs.output.Outbox.send_all.Given as goal

abbrev pub invariant-loop-message : goal.invariant-loop-message
invariant-loop-message l =
    (l.self.sent ++ all_sent (into_iter_items l.message-iterator)
    ≡ l.fn.self.sent ++ all_sent (into_iter_items l.initial.message-iterator))
    × (l.self.told ≡ l.fn.self.told)
    × (into_iter_len l.message-iterator ≡ length (into_iter_items l.message-iterator))
