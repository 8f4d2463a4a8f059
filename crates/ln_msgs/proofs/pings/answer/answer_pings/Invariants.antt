-- Between the turns all that was owed is written, and what was read and not yet taken is held.
use Rattle.std.proofs.Common.{◌≡◌, ◌+◌, ◌≤◌, []}
use Rattle.std.specs.Io.KnownBytes.{prepend_known}
use Rattle.ln_msgs.specs.Pings.CountedView.{inner_of, failures_of, calls_of}
use Rattle.ln_msgs.proofs.Progress.{Progress}
use Rattle.ln_msgs.proofs.pings.answer.answer_pings.Given as goal

abbrev pub invariant-turns : goal.invariant-turns
invariant-turns g l =
    let remaining = g.R.Read.remaining in
    let contents = g.W.Write.contents in
    record {
      progress : Progress (remaining (inner_of l.initial.reader))
          (prepend_known l.input (remaining (inner_of l.reader))) (contents (inner_of l.initial.writer))
          (contents (inner_of l.writer)) l.out;
      sent : l.out.bytes ≡ [];
      reader_failures : failures_of l.initial.reader ≤ failures_of l.reader;
      writer_failures : failures_of l.initial.writer ≤ failures_of l.writer;
      turns : l.counter ≤ calls_of l.reader + calls_of l.writer;
    }
