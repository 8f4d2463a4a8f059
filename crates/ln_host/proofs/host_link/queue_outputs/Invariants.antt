use Rattle.std.proofs.Common.{◌≡◌, ◌++◌, length}
use Rattle.std.specs.Vec.Iter.{into_iter_items, into_iter_len}
use Rattle.ln_host.specs.Hosted.{with_outputs}
use Rattle.ln_host.proofs.host_link.queue_outputs.Given as goal

-- what came so far waits, and with what is still to come it is all
abbrev pub invariant-loop-output : goal.invariant-loop-output
invariant-loop-output l =
    (l.line ≡ with_outputs l.machine.stage l.yielded l.fn.line)
    × (l.yielded ++ into_iter_items l.output-iterator ≡ into_iter_items l.initial.output-iterator)
    × (into_iter_len l.output-iterator ≡ length (into_iter_items l.output-iterator))
