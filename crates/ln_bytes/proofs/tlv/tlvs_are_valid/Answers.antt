use Rattle.std.proofs.Common.{◌≡◌, None, take, ap, sym, ◌∙◌, inl, inr, true, false}
use Rattle.ln_bytes.specs.Tlv.{may_follow, last_type}
use Rattle.ln_bytes.proofs.Streams.{valid_more, refutes}
use Rattle.ln_bytes.proofs.tlv.tlvs_are_valid.Goals as goal

pub returns-then-not-follows : goal.returns-then-not-follows
returns-then-not-follows c =
    let at = c.loop-record in
    let here : may_follow (last_type None (take at.record-index c.args.records.now)) c.record-item.result.typ ≡ false =
    ap (λ o. may_follow o c.record-item.result.typ) (sym at.invariant.1) ∙ sym c.if-not-follows.ensures in
    let wrong = refutes c.args.known_even.now c.args.records.now at.record-index c.record-item.result
    c.loop-record-test.true c.record-item.is (inl here) in
    (λ e. absurd cc, λ m. absurd (wrong m))

pub returns-then-not-is_allowed : goal.returns-then-not-is_allowed
returns-then-not-is_allowed c =
    let at = c.loop-record in
    let wrong = refutes c.args.known_even.now c.args.records.now at.record-index c.record-item.result
    c.loop-record-test.true c.record-item.is (inr (sym c.if-not-is_allowed.ensures)) in
    (λ e. absurd cc, λ m. absurd (wrong m))

pub loop-record-preserved : goal.loop-record-preserved
loop-record-preserved c =
    let at = c.loop-record in
    let here : may_follow (last_type None (take at.record-index c.args.records.now)) c.record-item.result.typ ≡ true =
    ap (λ o. may_follow o c.record-item.result.typ) (sym at.invariant.1) ∙ sym c.if-not-follows.ensures in
    valid_more c.args.known_even.now c.args.records.now at.record-index c.record-item.result c.loop-record-test.true
    c.record-item.is at.invariant.0 here (sym c.if-not-is_allowed.ensures)
