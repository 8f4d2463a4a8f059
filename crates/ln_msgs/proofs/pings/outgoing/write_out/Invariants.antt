-- Each turn writes some bytes, and what is written is the front of them.
use Rattle.std.proofs.Common.{◌-◌, ◌≤◌, length, take}
use Rattle.std.specs.Io.KnownBytes.{Appends}
use Rattle.ln_msgs.specs.Pings.CountedView.{inner_of, failures_of, calls_of}
use Rattle.ln_msgs.proofs.pings.outgoing.write_out.Given as goal

abbrev pub invariant-loop-written : goal.invariant-loop-written
invariant-loop-written g l = record {
  within : l.written ≤ length l.bytes;
  sent : Appends (g.W.Write.contents (inner_of l.initial.writer)) (g.W.Write.contents (inner_of l.writer))
      (take l.written l.bytes);
  failures : failures_of l.initial.writer ≤ failures_of l.writer;
  calls : calls_of l.initial.writer ≤ calls_of l.writer;
}

abbrev pub decreases-loop-written : goal.decreases-loop-written
decreases-loop-written g l = length l.bytes - l.written
