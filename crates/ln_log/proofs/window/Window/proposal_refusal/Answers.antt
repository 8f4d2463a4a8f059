use Rattle.std.proofs.Common.{◌≡◌, sym, ◌∙◌, arith, None}
use Rattle.ln_log.proofs.Grows.{proposal_is, proposal_refused, proposal_else}
use Rattle.ln_log.proofs.Calls.{own_call_fault, own_amount_by}
use Rattle.ln_log.proofs.window.Window.proposal_refusal.Goals as goal

pub returns-in-Some-update_refusal-clause-refuses_exactly : goal.returns-in-Some-update_refusal-clause-refuses_exactly
returns-in-Some-update_refusal-clause-refuses_exactly c = λ l s.
    proposal_refused l c.args.update.now _ _ _
    (proposal_is l c.args.update.now _ _ (c.len.ensures.length l s)
    (omega (arith, c.if-len-ge-MOST_UPDATES.false)) (sym (c.removal_refusal.ensures l s)
    ∙ c.in-None.is) (own_call_fault _ _ l c.args.update.now _ _ _ _ c.self.view_is s c.limits_of-limits.ensures
    c.as_slice.ensures.value (c.front-held.ensures.updates l s) c.update_refusal.ensures))
    c.in-Some-update_refusal.is c.peer_rule.ensures

pub returns-in-Some-funds_refusal-clause-refuses_exactly : goal.returns-in-Some-funds_refusal-clause-refuses_exactly
returns-in-Some-funds_refusal-clause-refuses_exactly c = λ l s. absurd (
    let none : c.funds_refusal.result ≡ None = c.funds_refusal.ensures.nothing_within_funds
    (own_amount_by _ _ l c.args.update.now _ c.self.view_is s
    (omega (arith, c.len.ensures.length l s, c.if-len-ge-MOST_UPDATES.false))
    (own_call_fault _ _ l c.args.update.now _ _ _ _ c.self.view_is s c.limits_of-limits.ensures
    c.as_slice.ensures.value (c.front-held.ensures.updates l s) c.update_refusal.ensures)
    c.in-None-update_refusal.is) in
    let some = c.in-Some-funds_refusal.is in
    cc)

pub returns-in-None-funds_refusal-clause-refuses_exactly : goal.returns-in-None-funds_refusal-clause-refuses_exactly
returns-in-None-funds_refusal-clause-refuses_exactly c = λ l s.
    proposal_else l c.args.update.now _ _
    (proposal_is l c.args.update.now _ _ (c.len.ensures.length l s)
    (omega (arith, c.if-len-ge-MOST_UPDATES.false)) (sym (c.removal_refusal.ensures l s)
    ∙ c.in-None.is) (own_call_fault _ _ l c.args.update.now _ _ _ _ c.self.view_is s c.limits_of-limits.ensures
    c.as_slice.ensures.value (c.front-held.ensures.updates l s) c.update_refusal.ensures))
    c.in-None-update_refusal.is c.length_refusal.ensures
