use Rattle.std.proofs.Common.{◌≡◌, ◌++◌, length}
use Rattle.std.specs.Vec.Iter.{into_iter_items, into_iter_len}
use Rattle.ln_host.specs.Hosted.{with_events}
use Rattle.ln_host.proofs.host_link.put_events.Given as goal

-- what came so far waits, and with what is still to come it is all
abbrev pub invariant-loop-pair : goal.invariant-loop-pair
invariant-loop-pair l =
    (l.line ≡ with_events l.yielded l.fn.line)
    × (l.yielded ++ into_iter_items l.pair-iterator ≡ into_iter_items l.initial.pair-iterator)
    × (into_iter_len l.pair-iterator ≡ length (into_iter_items l.pair-iterator))
