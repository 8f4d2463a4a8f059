use Rattle.std.proofs.Common.{Ok, ◌≡◌, ◌≢◌, [], ap, sym, subst, ◌∙◌, arith}
use Rattle.ln_bytes.specs.declared.fault.Fault.TheVariants.{Io}
use Rattle.std.proofs.lemmas.Bool.{eqb-true}
use Rattle.std.proofs.lemmas.List.{nil_from_length}
use Rattle.ln_msgs.specs.Frames.Frame.{HasNoFrame}
use Rattle.ln_msgs.specs.Pings.Served.{StopsAt}
use Rattle.ln_msgs.proofs.Progress.{begins, turned, stops, sent_all, filled, anyhow, nothing_done, some_sent, some}
use Rattle.ln_msgs.proofs.Faults.{not_io, not_memory}
use Rattle.ln_msgs.proofs.Progress.{stops_faulty, up_to_faulty, up_to_cut, not_empty, all_answered}
use Rattle.ln_msgs.proofs.pings.answer.answer_pings.Goals as goal
use Rattle.ln_msgs.proofs.pings.answer.answer_pings.Goals.{in-Full, in-NoFrame+in_ok-fill-in-NoFrame+else-not-branch}

pub returns-in_err-input-clause-answers_some_if_refused : goal.returns-in_err-input-clause-answers_some_if_refused
returns-in_err-input-clause-answers_some_if_refused g c = anyhow _ _ (nothing_done _ _)

pub returns-in_err-out-clause-answers_some_if_refused : goal.returns-in_err-out-clause-answers_some_if_refused
returns-in_err-out-clause-answers_some_if_refused g c = anyhow _ _ (nothing_done _ _)

pub turns-init : goal.turns-init
turns-init g c = record {
  progress = begins _ _ _ _ c.in_ok-input.ensures c.in_ok-out.ensures.has_no_bytes c.in_ok-out.ensures.has_no_pongs;
  sent = c.in_ok-out.ensures.has_no_bytes;
  reader_failures = omega arith;
  writer_failures = omega arith;
  turns = omega arith;
}

pub returns-in_err-send-clause-answers_some_if_refused : goal.returns-in_err-send-clause-answers_some_if_refused
returns-in_err-send-clause-answers_some_if_refused g c =
    let p = turned _ _ _ _ c.turns.input c.as_slice.result.now c.consume.new.self c.serve-taken.result.0 c.turns.out
    c.serve-taken.new.out c.as_slice.ensures c.consume.ensures c.turns.invariant.progress
    c.serve-taken.ensures.serves_whole_frames in
    anyhow _ _ (some_sent _ _ _ _ _ _ _ p c.send.ensures.sends_a_beginning)

pub returns-in-Fault-clause-answers_up_to_the_fault : goal.returns-in-Fault-clause-answers_up_to_the_fault
returns-in-Fault-clause-answers_up_to_the_fault g c ours theirs =
    let p = sent_all _ _ _ _ _ c.serve-taken.new.out c.send.new.self
    (turned _ _ _ _ c.turns.input c.as_slice.result.now c.consume.new.self c.serve-taken.result.0 c.turns.out
    c.serve-taken.new.out c.as_slice.ensures c.consume.ensures c.turns.invariant.progress
    c.serve-taken.ensures.serves_whole_frames) c.in_ok-send.ensures.sends_all.1 c.in_ok-send.ensures.sends_all.0
    c.send.ensures.keeps_the_count in
    let at = stops_faulty c.turns.input c.as_slice.result.now c.consume.new.self c.serve-taken.result.0
    c.serve-taken.result.1 c.in-Fault.fault c.as_slice.ensures c.consume.ensures
    c.serve-taken.ensures.stops_for_its_reason c.in-Fault.is in
    up_to_faulty _ _ _ _ c.consume.new.self c.send.new.self c.in-Fault.fault p
    c.in_ok-send.ensures.sends_all.0 at

pub returns-in-Fault-clause-answers_some_if_refused : goal.returns-in-Fault-clause-answers_some_if_refused
returns-in-Fault-clause-answers_some_if_refused g c =
    some _ _ _ _ c.consume.new.self c.send.new.self
    (sent_all _ _ _ _ _ c.serve-taken.new.out c.send.new.self
    (turned _ _ _ _ c.turns.input c.as_slice.result.now c.consume.new.self c.serve-taken.result.0 c.turns.out
    c.serve-taken.new.out c.as_slice.ensures c.consume.ensures c.turns.invariant.progress
    c.serve-taken.ensures.serves_whole_frames) c.in_ok-send.ensures.sends_all.1 c.in_ok-send.ensures.sends_all.0
    c.send.ensures.keeps_the_count)

pub returns-in-Fault-clause-io_is_a_failed_call : goal.returns-in-Fault-clause-io_is_a_failed_call
returns-in-Fault-clause-io_is_a_failed_call g c is =
    let io : c.in-Fault.fault ≡ Io = cc in
    absurd (not_io c.consume.new.self c.in-Fault.fault (stops_faulty c.turns.input c.as_slice.result.now _
    c.serve-taken.result.0 c.serve-taken.result.1 _ c.as_slice.ensures c.consume.ensures
    c.serve-taken.ensures.stops_for_its_reason c.in-Fault.is) io)

pub returns-in-Fault-clause-changes_nothing_without_memory : goal.returns-in-Fault-clause-changes_nothing_without_memory
returns-in-Fault-clause-changes_nothing_without_memory g c is =
    absurd (not_memory c.consume.new.self c.in-Fault.fault (stops_faulty c.turns.input c.as_slice.result.now _
    c.serve-taken.result.0 c.serve-taken.result.1 _ c.as_slice.ensures c.consume.ensures
    c.serve-taken.ensures.stops_for_its_reason c.in-Fault.is) cc)

pub returns-in_err-fill-in-NoFrame-clause-answers_some_if_refused
    : goal.returns-in_err-fill-in-NoFrame-clause-answers_some_if_refused
returns-in_err-fill-in-NoFrame-clause-answers_some_if_refused g c =
    let p = sent_all _ _ _ _ _ c.serve-taken.new.out c.send.new.self
    (turned _ _ _ _ c.turns.input c.as_slice.result.now c.consume.new.self c.serve-taken.result.0 c.turns.out
    c.serve-taken.new.out c.as_slice.ensures c.consume.ensures c.turns.invariant.progress
    c.serve-taken.ensures.serves_whole_frames) c.in_ok-send.ensures.sends_all.1 c.in_ok-send.ensures.sends_all.0
    c.send.ensures.keeps_the_count in
    anyhow _ _ (some _ _ _ _ c.fill.new.self c.send.new.self
    (filled _ _ _ _ _ c.send.new.self p c.fill.ensures.loses_no_byte))

pub returns-then-is_empty-clause-answers_all : goal.returns-then-is_empty-clause-answers_all
returns-then-is_empty-clause-answers_all g c =
    let p = filled _ _ _ _ _ c.send.new.self (sent_all _ _ _ _ _ c.serve-taken.new.out c.send.new.self
    (turned _ _ _ _ c.turns.input c.as_slice.result.now c.consume.new.self c.serve-taken.result.0 c.turns.out
    c.serve-taken.new.out c.as_slice.ensures c.consume.ensures c.turns.invariant.progress
    c.serve-taken.ensures.serves_whole_frames) c.in_ok-send.ensures.sends_all.1 c.in_ok-send.ensures.sends_all.0
    c.send.ensures.keeps_the_count) c.fill.ensures.loses_no_byte in
    let ended = c.in_ok-fill-in-NoFrame.ensures.false_is_the_end (ap Ok c.if-not-branch.true) in
    let none : c.fill.new.self ≡ [] = sym c.as_slice-then-not-branch.ensures
    ∙ nil_from_length _ (eqb-true _ _ (sym c.if-is_empty.ensures)) in
    rw c.pongs.ensures (all_answered _ _ _ _ c.fill.new.self c.send.new.self p
    c.in_ok-send.ensures.sends_all.0 none ended.1)

pub returns-then-not-branch-clause-answers_up_to_the_fault : goal.returns-then-not-branch-clause-answers_up_to_the_fault
returns-then-not-branch-clause-answers_up_to_the_fault g c ours theirs =
    let p = filled _ _ _ _ _ c.send.new.self (sent_all _ _ _ _ _ c.serve-taken.new.out c.send.new.self
    (turned _ _ _ _ c.turns.input c.as_slice.result.now c.consume.new.self c.serve-taken.result.0 c.turns.out
    c.serve-taken.new.out c.as_slice.ensures c.consume.ensures c.turns.invariant.progress
    c.serve-taken.ensures.serves_whole_frames) c.in_ok-send.ensures.sends_all.1 c.in_ok-send.ensures.sends_all.0
    c.send.ensures.keeps_the_count) c.fill.ensures.loses_no_byte in
    let ended = c.in_ok-fill-in-NoFrame.ensures.false_is_the_end (ap Ok c.if-not-branch.true) in
    let at = subst (StopsAt c.consume.new.self) c.in-NoFrame.is
    (stops c.turns.input c.as_slice.result.now c.consume.new.self c.serve-taken.result.0 c.serve-taken.result.1
    c.as_slice.ensures c.consume.ensures c.serve-taken.ensures.stops_for_its_reason) in
    let some_held : c.fill.new.self ≢ [] = λ e. not_empty _ (sym c.if-is_empty.ensures)
    (c.as_slice-then-not-branch.ensures ∙ e) in
    up_to_cut _ _ _ _ c.fill.new.self c.send.new.self p c.in_ok-send.ensures.sends_all.0 some_held
    (subst HasNoFrame (sym ended.0) at.0) ended.1

pub returns-then-not-branch-clause-answers_some_if_refused : goal.returns-then-not-branch-clause-answers_some_if_refused
returns-then-not-branch-clause-answers_some_if_refused g c =
    let p = sent_all _ _ _ _ _ c.serve-taken.new.out c.send.new.self
    (turned _ _ _ _ c.turns.input c.as_slice.result.now c.consume.new.self c.serve-taken.result.0 c.turns.out
    c.serve-taken.new.out c.as_slice.ensures c.consume.ensures c.turns.invariant.progress
    c.serve-taken.ensures.serves_whole_frames) c.in_ok-send.ensures.sends_all.1 c.in_ok-send.ensures.sends_all.0
    c.send.ensures.keeps_the_count in
    some _ _ _ _ c.fill.new.self c.send.new.self (filled _ _ _ _ _ c.send.new.self p c.fill.ensures.loses_no_byte)

pub turns-preserved : goal.turns-preserved
turns-preserved g c =
    let p = sent_all _ _ _ _ _ c.serve-taken.new.out c.send.new.self
    (turned _ _ _ _ c.turns.input c.as_slice.result.now c.consume.new.self c.serve-taken.result.0 c.turns.out
    c.serve-taken.new.out c.as_slice.ensures c.consume.ensures c.turns.invariant.progress
    c.serve-taken.ensures.serves_whole_frames) c.in_ok-send.ensures.sends_all.1 c.in_ok-send.ensures.sends_all.0
    c.send.ensures.keeps_the_count in
    elim c.match-stop.branch [
      | in-Full w ↦ record {
        progress = rw (w.input-is, w.reader-is) p;
        sent = c.in_ok-send.ensures.sends_all.0;
        reader_failures = rw w.reader-is c.turns.invariant.reader_failures;
        writer_failures = omega (arith, c.turns.invariant.writer_failures, c.send.ensures.no_fewer_failures);
        turns = rw w.reader-is (omega (
          arith,
          c.turns.invariant.turns,
          c.turns-test.true,
          c.in_ok-send.ensures.makes_a_call (omega (
            arith,
            c.serve-taken.ensures.waits_for_a_write_if_full w.in-Full.is,
          )),
        ));
      }
      | in-NoFrame+in_ok-fill-in-NoFrame+else-not-branch w ↦ record {
        progress = rw (w.input-is, w.reader-is) (filled _ _ _ _ _ c.send.new.self p w.fill.ensures.loses_no_byte);
        sent = c.in_ok-send.ensures.sends_all.0;
        reader_failures = rw w.reader-is (omega (
          arith,
          c.turns.invariant.reader_failures,
          w.fill.ensures.no_fewer_failures,
        ));
        writer_failures = omega (arith, c.turns.invariant.writer_failures, c.send.ensures.no_fewer_failures);
        turns = rw w.reader-is (omega (
          arith,
          c.turns.invariant.turns,
          c.turns-test.true,
          c.send.ensures.no_fewer_calls,
          w.fill.ensures.makes_a_call,
        ));
      }
    ]

pub returns-clause-answers_some_if_refused : goal.returns-clause-answers_some_if_refused
returns-clause-answers_some_if_refused g c = some _ _ _ _ c.turns.input c.turns.out c.turns.invariant.progress
