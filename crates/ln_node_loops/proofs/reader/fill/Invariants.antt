use Rattle.std.proofs.Common.{length, ◌-◌, ◌≡◌, ◌≤◌, take}
use Rattle.std.specs.Io.KnownBytes.{Consumes}
use Rattle.ln_msgs.specs.Pings.CountedView.{inner_of}
use Rattle.ln_node_loops.proofs.reader.fill.Given as goal

abbrev pub invariant-loop-count : goal.invariant-loop-count
invariant-loop-count g l =
    (length l.buffer ≡ length l.initial.buffer) × (l.count ≤ length l.buffer)
    × Consumes (g.T.Read.remaining (inner_of l.initial.socket)) (g.T.Read.remaining (inner_of l.socket))
    (take l.count l.buffer)

abbrev pub decreases-loop-count : goal.decreases-loop-count
decreases-loop-count g l = length l.initial.buffer - l.count
