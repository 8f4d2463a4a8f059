use Rattle.std.proofs.Common.{◌≡◌, ◌++◌, length}
use Rattle.std.specs.Vec.Iter.{into_iter_items, into_iter_len}
use Rattle.ln_channel.specs.Resume.{owed_again}
use Rattle.ln_channel.proofs.output.Outbox.send_owed.Given as goal

abbrev pub invariant-loop-resend : goal.invariant-loop-resend
invariant-loop-resend l =
    (l.self.sent ++ owed_again (into_iter_items l.resend-iterator)
    ≡ l.fn.self.sent ++ owed_again (into_iter_items l.initial.resend-iterator))
    × (l.self.told ≡ l.fn.self.told)
    × (into_iter_len l.resend-iterator ≡ length (into_iter_items l.resend-iterator))
