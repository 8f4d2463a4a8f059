use Rattle.std.proofs.Common.{Ok, Some, None, ap, sym, ◌∙◌, arith, append-nil, subst}
use Rattle.ln_msgs.specs.Frames.Frame.{IsFaulty}
use Rattle.ln_msgs.proofs.Serving.{serves_none, serves_more, faulty_from, left_is}
use Rattle.ln_msgs.proofs.pings.answer.serve.Goals as goal

pub frames-init : goal.frames-init
frames-init c = serves_none c.args.bytes.now c.args.out.now c.requires

pub returns-in-Err-clause-stops_for_its_reason : goal.returns-in-Err-clause-stops_for_its_reason
returns-in-Err-clause-stops_for_its_reason c =
    subst (λ rest. IsFaulty rest c.in-Err.fault) (sym
    (left_is c.args.bytes.now c.frames.rest.now c.args.out.now c.frames.out c.frames.invariant)) (record {
      message = c.in-Some.message.now;
      rest = c.in-Some.after.now;
      whole = c.in-Some.ensures.cuts_off_a_whole_frame;
      fault = faulty_from c.in-Some.message.now c.in-Err.fault (sym c.in-Err.ensures.reads_what_is_owed);
    })

pub frames-preserved-in-Some-owed : goal.frames-preserved-in-Some-owed
frames-preserved-in-Some-owed c =
    serves_more c.args.bytes.now c.frames.rest.now c.in-Some.message.now c.in-Some.after.now c.args.out.now c.frames.out
    c.push_pong.new.self (Some c.in-Some-owed.count) c.frames.invariant c.in-Some.ensures.cuts_off_a_whole_frame
    (sym c.in-Ok.ensures.reads_what_is_owed ∙ ap Ok c.in-Some-owed.is) c.push_pong.ensures.appends_a_pong
    (omega (arith, c.push_pong.ensures.counts_the_pong, c.frames.invariant.counted))

pub frames-preserved : goal.frames-preserved
frames-preserved c =
    serves_more c.args.bytes.now c.frames.rest.now c.in-Some.message.now c.in-Some.after.now c.args.out.now c.frames.out
    c.frames.out None c.frames.invariant c.in-Some.ensures.cuts_off_a_whole_frame
    (sym c.in-Ok.ensures.reads_what_is_owed ∙ ap Ok c.in_default-owed.is) (sym (append-nil c.frames.out.bytes))
    (omega (arith, c.frames.invariant.counted))
