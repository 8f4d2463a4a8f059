use Rattle.std.proofs.Common.{◌≡◌, ◌++◌, length}
use Rattle.std.specs.Vec.Iter.{into_iter_items, into_iter_len}
use Rattle.ln_channel.proofs.output.Outbox.into_outputs.Given as goal

abbrev pub invariant-loop-output : goal.invariant-loop-output
invariant-loop-output l =
    (l.yielded ++ into_iter_items l.output-iterator ≡ into_iter_items l.initial.output-iterator)
    × (l.sent.items ≡ l.initial.sent.items ++ l.yielded)
    × (into_iter_len l.output-iterator ≡ length (into_iter_items l.output-iterator))
