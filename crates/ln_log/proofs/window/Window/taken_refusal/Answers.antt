use Rattle.std.proofs.Common.{ap, sym, ◌∙◌, arith}
use Rattle.ln_log.specs.Opening.{limits_of}
use Rattle.ln_log.proofs.Grows.{taken_is}
use Rattle.ln_log.proofs.Calls.{got_call_fault, got_amount_by, peer_due}
use Rattle.ln_log.proofs.window.Window.taken_refusal.Goals as goal

pub returns-in-Some-clause-refuses_exactly : goal.returns-in-Some-clause-refuses_exactly
returns-in-Some-clause-refuses_exactly c = λ l s.
    sym c.in-Some.is ∙ taken_is l c.args.update.now _ _ (c.len.ensures.length l s)
    (omega (arith, c.if-len-ge-MOST_UPDATES.false))
    (c.if-not-has_id.ensures l.received (peer_due _ _ l c.self.view_is s))
    (got_call_fault _ _ l c.args.update.now _ _ _ _ _ c.self.view_is s
    (c.limits_of-limits.ensures ∙ ap (limits_of c.self.inside.opening) c.other.ensures) c.other-2.ensures
    c.as_slice.ensures.value (c.front-held.ensures.updates l s) c.update_refusal.ensures)

pub returns-in-None-clause-refuses_exactly : goal.returns-in-None-clause-refuses_exactly
returns-in-None-clause-refuses_exactly c = λ l s.
    let fault = got_call_fault _ _ l c.args.update.now _ _ _ _ _ c.self.view_is s
    (c.limits_of-limits.ensures ∙ ap (limits_of c.self.inside.opening) c.other.ensures) c.other-2.ensures
    c.as_slice.ensures.value (c.front-held.ensures.updates l s) c.update_refusal.ensures in
    c.funds_refusal.ensures.nothing_within_funds
    (got_amount_by _ _ l c.args.update.now _ c.self.view_is s
    (omega (arith, c.len.ensures.length l s, c.if-len-ge-MOST_UPDATES.false)) fault c.in-None.is)
    ∙ sym c.in-None.is ∙ taken_is l c.args.update.now _ _ (c.len.ensures.length l s)
    (omega (arith, c.if-len-ge-MOST_UPDATES.false))
    (c.if-not-has_id.ensures l.received (peer_due _ _ l c.self.view_is s)) fault
