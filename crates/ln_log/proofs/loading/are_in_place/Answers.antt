use Rattle.std.proofs.Common.{arith}
use Rattle.ln_log.specs.RecordForm.{AreInPlace}
use Rattle.ln_log.proofs.Readable.{refuted, no}
use Rattle.ln_log.proofs.Restored.{led_so}
use Rattle.ln_log.proofs.loading.are_in_place.Goals as goal

pub returns-then-not-counts_fit : goal.returns-then-not-counts_fit
returns-then-not-counts_fit c = no (λ (h : AreInPlace _). refuted c.counts_fit.result c.if-not-counts_fit.true
    (c.counts_fit.ensures.1 h.counts))

pub are_offered-requires-clause-few : goal.are_offered-requires-clause-few
are_offered-requires-clause-few c =
    let k = c.counts_fit.ensures.0 c.if-not-counts_fit.false in
    let m = c.may_be_led_to.ensures.0 c.if-not-may_be_led_to.false in
    omega (arith, m.own_count, k.own_signed, k.own_last)

pub are_offered-requires-then-are_offered-clause-few : goal.are_offered-requires-then-are_offered-clause-few
are_offered-requires-then-are_offered-clause-few c =
    let k = c.counts_fit.ensures.0 c.if-not-counts_fit.false in
    let m = c.may_be_led_to.ensures.0 c.if-not-may_be_led_to.false in
    omega (arith, m.peer_count, k.peer_current, k.peer_last)

pub returns-then-are_offered : goal.returns-then-are_offered
returns-then-are_offered c = (
  (λ e. record {
    funds = c.has_funds.ensures.0 c.if-not-has_funds.false;
    base = led_so _ _ _ _ _ _ _ _ c.as_slice-own_live_htlcs.ensures.value c.as_slice-peer_live_htlcs.ensures.value
        (c.may_be_led_to.ensures.0 c.if-not-may_be_led_to.false);
    counts = c.counts_fit.ensures.0 c.if-not-counts_fit.false;
    own_ids = (c.are_offered.ensures.0 c.if-are_offered.true).0;
    peer_ids = (c.are_offered-then-are_offered.ensures.0 e).0;
    own_amounts = (c.are_offered.ensures.0 c.if-are_offered.true).1;
    peer_amounts = (c.are_offered-then-are_offered.ensures.0 e).1;
  }),
  (λ (h : AreInPlace _). c.are_offered-then-are_offered.ensures.1 (h.peer_ids, h.peer_amounts)),
)
