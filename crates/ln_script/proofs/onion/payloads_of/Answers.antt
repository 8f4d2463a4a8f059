use Rattle.std.proofs.Common.{◌-◌, ℕ, List, Some, length, take, drop, refl, sym, ap, ◌∙◌}
use Rattle.ln_script.specs.Onion.{payloads_at, in_front}
use Rattle.ln_script.specs.Step.{texts}
use Rattle.ln_script.proofs.Onions.{first_words, after_hop, no_hop, at_last, behind_three, not_empty, empty}
use Rattle.ln_script.proofs.onion.payloads_of.Goals as goal

pub loop-rest-init : goal.loop-rest-init
loop-rest-init c = first_words c.new-payloads.result.items c.args.payment c.args.amount c.args.expiry
    (texts c.args.hops.now) c.new-payloads.ensures.items

pub returns-in_default-clause-payloads : goal.returns-in_default-clause-payloads
returns-in_default-clause-payloads c =
    let some = not_empty c.loop-rest.rest.now c.is_empty.result c.is_empty.ensures c.loop-rest-test.true in
    no_hop _ c.loop-rest.payloads.items c.args.payment c.loop-rest.amount c.loop-rest.expiry
    (texts c.loop-rest.rest.now) c.loop-rest.invariant some (sym c.front_hop.ensures.front ∙ c.in_default.is)

pub loop-rest-preserved : goal.loop-rest-preserved
loop-rest-preserved c =
    let some = not_empty c.loop-rest.rest.now c.is_empty.result c.is_empty.ensures c.loop-rest-test.true in
    after_hop _ c.loop-rest.payloads.items c.args.payment c.loop-rest.amount c.loop-rest.expiry
    (texts c.loop-rest.rest.now) _ c.in-Some.hop c.loop-rest.invariant some
    (sym c.front_hop.ensures.front ∙ c.in-Some.is)
    (behind_three c.loop-rest.rest.now _ refl)
    ∙ ap (λ (ps : List (List ℕ)). in_front ps (payloads_at c.args.payment c.in-Some.hop.amount c.in-Some.hop.expiry
    (texts (take (length c.loop-rest.rest.now - 3) (drop 3 c.loop-rest.rest.now)))))
    (sym c.in_ok-push_hop.ensures.pushed)

pub returns-clause-payloads : goal.returns-clause-payloads
returns-clause-payloads c =
    let none = empty c.loop-rest.rest.now c.is_empty.result c.is_empty.ensures c.loop-rest-test.false in
    ap (λ (xs : List (List ℕ)). Some xs) c.in_ok-push_last.ensures.pushed
    ∙ at_last _ c.loop-rest.payloads.items c.args.payment c.loop-rest.amount c.loop-rest.expiry
    (texts c.loop-rest.rest.now) c.loop-rest.invariant none
