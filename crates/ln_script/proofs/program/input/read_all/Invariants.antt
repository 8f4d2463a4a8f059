-- Each turn but the last reads some bytes, and what is read and what is left are the input.
use Rattle.std.proofs.Common.{◌≤◌, ◌-◌, ◌^◌, length}
use Rattle.std.specs.Io.KnownBytes.{Keeps, prepend_known}
use Rattle.ln_msgs.specs.Pings.CountedView.{inner_of, failures_of}
use Rattle.ln_script.proofs.program.input.read_all.Given as goal

abbrev pub invariant-reads : goal.invariant-reads
invariant-reads g l = record {
  bytes : Keeps (g.R.Read.remaining (inner_of l.fn.reader))
      (prepend_known l.bytes.items (g.R.Read.remaining (inner_of l.reader)));
  failures : failures_of l.fn.reader ≤ failures_of l.reader;
}

abbrev pub decreases-reads : goal.decreases-reads
decreases-reads g l = 2 ^ 64 - length l.bytes.items
