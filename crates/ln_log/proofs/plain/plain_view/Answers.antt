use Rattle.std.proofs.Common.{◌≡◌, List, [], arith, sym, ap, ◌∙◌, map, ◌++◌, subst}
use Rattle.ln_keys.specs.declared.view.Htlc.{Htlc}
use Rattle.ln_log.specs.declared.update.Update.{Update}
use Rattle.ln_log.specs.Updates.{total, is_any, is_failed, is_fulfilled}
use Rattle.ln_log.specs.View.{htlc_of, live_adds, AddsUp}
use Rattle.ln_keys.specs.declared.role.Role.TheVariants.{Funder, Fundee}
use Rattle.ln_log.proofs.Totals.{adds_up}
use Rattle.ln_log.proofs.Signs.{view_is}
use Rattle.ln_log.proofs.plain.plain_view.Goals as goal

-- the funder's HTLCs, then the fundee's
htlcs_are : (all out both none : List Htlc) (funder fundee r s : List Update) → all ≡ both
    → both ≡ out ++ map (htlc_of Fundee) (live_adds fundee r) → out ≡ none ++ map (htlc_of Funder) (live_adds funder s)
    → none ≡ [] → r ≡ funder → s ≡ fundee
    → all ≡ map (htlc_of Funder) (live_adds funder fundee) ++ map (htlc_of Fundee) (live_adds fundee funder)
htlcs_are all out both none funder fundee r s ea eb eo en er es =
    ea ∙ eb ∙ ap (λ x. out ++ map (htlc_of Fundee) (live_adds fundee x)) er
    ∙ ap (λ hs. hs ++ map (htlc_of Fundee) (live_adds fundee funder)) (eo
    ∙ ap (λ x. none ++ map (htlc_of Funder) (live_adds funder x)) es
    ∙ ap (λ hs. hs ++ map (htlc_of Funder) (live_adds funder fundee)) en)

pub overflow_cast-result : goal.overflow_cast-result
overflow_cast-result c =
    let all = adds_up c.args.opening.now c.args.funder.now c.args.fundee.now c.requires.funds c.requires.funded in
    omega (
      arith,
      all,
      c.requires.funds.funds,
      c.from-had.ensures,
      c.first_balance.ensures,
      (c.sums_of-out.ensures.failed ∙ ap (total is_failed c.args.funder.now)
          c.in_ok-of_funder.ensures.keeps_the_removals),
      (c.sums_of-out.ensures.offered ∙ ap (total is_any c.args.funder.now)
          c.in_ok-of_funder.ensures.keeps_the_removals),
      (c.sums_of-back.ensures.fulfilled ∙ ap (total is_fulfilled c.args.fundee.now)
          c.in_ok-of_fundee.ensures.keeps_the_removals),
    )

pub overflow_cast-result-2 : goal.overflow_cast-result-2
overflow_cast-result-2 c =
    let all = adds_up c.args.opening.now c.args.funder.now c.args.fundee.now c.requires.funds c.requires.funded in
    omega (
      arith,
      all,
      c.requires.funds.funds,
      c.from-got.ensures,
      c.first_balance-2.ensures,
      (c.sums_of-back.ensures.failed ∙ ap (total is_failed c.args.fundee.now)
          c.in_ok-of_fundee.ensures.keeps_the_removals),
      (c.sums_of-back.ensures.offered ∙ ap (total is_any c.args.fundee.now)
          c.in_ok-of_fundee.ensures.keeps_the_removals),
      (c.sums_of-out.ensures.fulfilled ∙ ap (total is_fulfilled c.args.funder.now)
          c.in_ok-of_funder.ensures.keeps_the_removals),
    )

pub returns-clause-view : goal.returns-clause-view
returns-clause-view c =
    view_is c.args.opening.now c.args.funder.now c.args.fundee.now _
    (omega (
      arith,
      c.from-had.ensures,
      c.first_balance.ensures,
      (c.sums_of-out.ensures.failed ∙ ap (total is_failed c.args.funder.now)
          c.in_ok-of_funder.ensures.keeps_the_removals),
      (c.sums_of-out.ensures.offered ∙ ap (total is_any c.args.funder.now)
          c.in_ok-of_funder.ensures.keeps_the_removals),
      (c.sums_of-back.ensures.fulfilled ∙ ap (total is_fulfilled c.args.fundee.now)
          c.in_ok-of_fundee.ensures.keeps_the_removals),
    ))
    (omega (
      arith,
      c.from-got.ensures,
      c.first_balance-2.ensures,
      (c.sums_of-back.ensures.failed ∙ ap (total is_failed c.args.fundee.now)
          c.in_ok-of_fundee.ensures.keeps_the_removals),
      (c.sums_of-back.ensures.offered ∙ ap (total is_any c.args.fundee.now)
          c.in_ok-of_fundee.ensures.keeps_the_removals),
      (c.sums_of-out.ensures.fulfilled ∙ ap (total is_fulfilled c.args.funder.now)
          c.in_ok-of_funder.ensures.keeps_the_removals),
    ))
    c.last_feerate.ensures
    (htlcs_are _ _ _ _ c.args.funder.now c.args.fundee.now _ _ c.new-3.ensures c.in_ok-push_live-2.ensures.appends_them
    c.in_ok-push_live.ensures.appends_them c.new-htlcs.ensures.items c.in_ok-of_fundee.ensures.keeps_the_removals
    c.in_ok-of_funder.ensures.keeps_the_removals)

pub returns-clause-adds_up : goal.returns-clause-adds_up
returns-clause-adds_up c =
    subst (AddsUp c.args.opening.now) (sym (returns-clause-view c))
    (adds_up c.args.opening.now c.args.funder.now c.args.fundee.now c.requires.funds c.requires.funded)
