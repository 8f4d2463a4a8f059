use Rattle.std.proofs.Common.{ap, sym, map, ◌∙◌, inr}
use Rattle.std.proofs.lemmas.List.{take_all}
use Rattle.ln_msgs.specs.Codec.Checking.{behind_fields}
use Rattle.std.proofs.lemmas.Result.{err_from_is_err_and}
use Rattle.ln_bytes.proofs.Reading.{said_itself}
use Rattle.ln_msgs.specs.Messages.Forms.{kind_of}
use Rattle.ln_msgs.proofs.Checking.{one_more, one_fails}
use Rattle.ln_msgs.proofs.codec.checking.past_fields.Goals as goal

pub returns-in_err-rest : goal.returns-in_err-rest
returns-in_err-rest c =
    let p = err_from_is_err_and c.from_residual.result c.from_residual.ensures.1 in
    rw (p.1, p.2) (inr (one_fails kind_of c.args.kinds.now c.args.bytes.now c.loop-kind.kind-index _
    c.loop-kind.rest.now c.in_err-rest.field-0.0 c.loop-kind-test.true c.loop-kind.invariant
    (said_itself c.in_err-rest.ensures)))

pub loop-kind-preserved : goal.loop-kind-preserved
loop-kind-preserved c =
    one_more kind_of c.args.kinds.now c.args.bytes.now c.loop-kind.kind-index _ c.loop-kind.rest.now
    c.in_ok-rest.rest.now c.loop-kind-test.true c.loop-kind.invariant c.in_ok-rest.ensures

pub returns : goal.returns
returns c =
    ap (λ xs. behind_fields (map kind_of xs) c.args.bytes.now)
    (sym (take_all c.loop-kind.kind-index c.args.kinds.now c.loop-kind-test.false)) ∙ c.loop-kind.invariant
