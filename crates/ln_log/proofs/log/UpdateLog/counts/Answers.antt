use Rattle.std.proofs.Common.{◌≤◌, refl, ap, ◌∙◌, subst}
use Rattle.ln_log.specs.Log.{Counts}
use Rattle.ln_log.specs.declared.log.Side.TheVariants as side
use Rattle.ln_log.proofs.Stands.{same_counts_by}
use Rattle.ln_log.proofs.Whole.{kept_of, counts_whole, within_whole, first_is, counted, in_order}
use Rattle.ln_log.proofs.log.UpdateLog.counts.Goals as goal

pub returns-clause-own : goal.returns-clause-own
returns-clause-own c = λ l e.
    c.counts.ensures.own _ (kept_of _ _ _ _ l c.self.view_is c.self.invariant e)
    ∙ ap (λ (n : Counts). n.own) (counts_whole c.args.pair l)

pub returns-clause-peer : goal.returns-clause-peer
returns-clause-peer c = λ l e.
    c.counts.ensures.peer _ (kept_of _ _ _ _ l c.self.view_is c.self.invariant e)
    ∙ ap (λ (n : Counts). n.peer) (counts_whole c.args.pair l)

pub returns-clause-own_within : goal.returns-clause-own_within
returns-clause-own_within c = λ l e. c.counts.ensures.own_within _ (kept_of _ _ _ _ l c.self.view_is c.self.invariant e)

pub returns-clause-peer_within : goal.returns-clause-peer_within
returns-clause-peer_within c = λ l e. c.counts.ensures.peer_within _
    (kept_of _ _ _ _ l c.self.view_is c.self.invariant e)

pub returns-clause-ordered : goal.returns-clause-ordered
returns-clause-ordered c = λ l e.
    within_whole l (c.counts.ensures.ordered _ (kept_of _ _ _ _ l c.self.view_is c.self.invariant e))

pub returns-clause-lengths_fit : goal.returns-clause-lengths_fit
returns-clause-lengths_fit c = λ l e. c.counts.ensures.lengths_fit _
    (kept_of _ _ _ _ l c.self.view_is c.self.invariant e)

pub returns-clause-counted : goal.returns-clause-counted
returns-clause-counted c =
    same_counts_by _ _ (returns-clause-own c c.args.self.now refl) (returns-clause-peer c c.args.self.now refl)

pub returns-clause-in_range : goal.returns-clause-in_range
returns-clause-in_range c = record {
  own_first = subst (λ n. n ≤ c.counts.result.own) (first_is side.Own _ _ _ _ c.self.view_is c.self.invariant)
      c.counts.ensures.in_range.own_first;
  own_last = subst (λ n. c.counts.result.own ≤ n) (counted side.Own _ _ _ _ c.self.view_is c.self.invariant)
      c.counts.ensures.in_range.own_last;
  peer_first = subst (λ n. n ≤ c.counts.result.peer) (first_is side.Peer _ _ _ _ c.self.view_is c.self.invariant)
      c.counts.ensures.in_range.peer_first;
  peer_last = subst (λ n. c.counts.result.peer ≤ n) (counted side.Peer _ _ _ _ c.self.view_is c.self.invariant)
      c.counts.ensures.in_range.peer_last;
}

pub returns-clause-in_order : goal.returns-clause-in_order
returns-clause-in_order c = in_order _ _ _ _ c.self.view_is c.self.invariant

pub returns-clause-counts_fit : goal.returns-clause-counts_fit
returns-clause-counts_fit c =
    returns-clause-lengths_fit c c.args.self.now refl
