use Rattle.std.proofs.Common.{◌↔◌, IsTrue, refl, rules, subst}
use Rattle.ln_log.specs.Window.{MayBeBase}
use Rattle.ln_log.proofs.Whole.{kept_of, moved, moved_whole, may_be}
use Rattle.ln_log.proofs.Bases.{tested, moved_by}
use Rattle.ln_log.proofs.Restored.{own_grown, peer_grown}
use Rattle.ln_log.proofs.log.UpdateLog.advance.Goals as goal

pub returns-then-not-branch-clause-exactly : goal.returns-then-not-branch-clause-exactly
returns-then-not-branch-clause-exactly c =
    subst (λ b. IsTrue b ↔ MayBeBase c.args.self.now c.args.to) c.if-not-branch.true
    (may_be _ _ _ c.args.self.now c.args.to _ c.self.view_is c.self.invariant
    (c.in_ok-advance.ensures.exactly _ (kept_of _ _ _ _ c.args.self.now c.self.view_is c.self.invariant refl)))

pub returns-clause-exactly : goal.returns-clause-exactly
returns-clause-exactly c =
    subst (λ b. IsTrue b ↔ MayBeBase c.args.self.now c.args.to) c.if-not-branch.false
    (may_be _ _ _ c.args.self.now c.args.to _ c.self.view_is c.self.invariant
    (c.in_ok-advance.ensures.exactly _ (kept_of _ _ _ _ c.args.self.now c.self.view_is c.self.invariant refl)))

pub invariant_of-self-2 : goal.invariant_of-self-2
invariant_of-self-2 c =
    moved_whole _ _ _ _ _ _ _ _ c.args.self.now c.args.to (record {
      view = c.self.view_is;
      before = c.self.invariant;
      may = (returns-clause-exactly c).0 refl;
      first = c.in_ok-advance.ensures.moves c.if-not-branch.false;
      stands = c.in_ok-advance.ensures.stands_for_the_same _ (kept_of _ _ _ _ c.args.self.now c.self.view_is
          c.self.invariant refl);
      own = own_grown _ _ _ c.with_all-own_past.ensures.same_start c.with_all-own_past.ensures.enters_them;
      own_leave = c.leaving.ensures _ (kept_of _ _ _ _ c.args.self.now c.self.view_is c.self.invariant refl);
      peer = peer_grown _ _ _ c.with_all-peer_past.ensures.same_start c.with_all-peer_past.ensures.enters_them;
      peer_leave = c.leaving-2.ensures _ (kept_of _ _ _ _ c.args.self.now c.self.view_is c.self.invariant refl);
    })

pub returns-then-not-branch-clause-by_its_test : goal.returns-then-not-branch-clause-by_its_test
returns-then-not-branch-clause-by_its_test c =
    tested _ c.args.self.now c.args.to (returns-then-not-branch-clause-exactly c)

pub returns-clause-by_its_test : goal.returns-clause-by_its_test
returns-clause-by_its_test c = tested _ c.args.self.now c.args.to (returns-clause-exactly c)

pub returns-then-not-branch-clause-moves_where_it_may : goal.returns-then-not-branch-clause-moves_where_it_may
returns-then-not-branch-clause-moves_where_it_may c = moved_by _ _ _ _ _
    (returns-then-not-branch-clause-by_its_test c) (λ e. absurd (cc)) (λ _. search rules)

pub returns-clause-moves_where_it_may : goal.returns-clause-moves_where_it_may
returns-clause-moves_where_it_may c = moved_by _ _ _ _ _ (returns-clause-by_its_test c)
    (λ _.
    moved _ _ _ _ _ _ _ _ c.args.self.now c.args.to (record {
      view = c.self.view_is;
      before = c.self.invariant;
      may = (returns-clause-exactly c).0 refl;
      first = c.in_ok-advance.ensures.moves c.if-not-branch.false;
      stands = c.in_ok-advance.ensures.stands_for_the_same _ (kept_of _ _ _ _ c.args.self.now c.self.view_is
          c.self.invariant refl);
      own = own_grown _ _ _ c.with_all-own_past.ensures.same_start c.with_all-own_past.ensures.enters_them;
      own_leave = c.leaving.ensures _ (kept_of _ _ _ _ c.args.self.now c.self.view_is c.self.invariant refl);
      peer = peer_grown _ _ _ c.with_all-peer_past.ensures.same_start c.with_all-peer_past.ensures.enters_them;
      peer_leave = c.leaving-2.ensures _ (kept_of _ _ _ _ c.args.self.now c.self.view_is c.self.invariant refl);
    }))
    (λ e. absurd (cc))
