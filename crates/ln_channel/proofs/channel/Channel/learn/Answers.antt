use Rattle.std.proofs.Common.{sym, subst, ◌∙◌, ◌≤◌}
use Rattle.ln_log.specs.Log.{AllCounts}
use Rattle.ln_dance.specs.Dance.{after_learn}
use Rattle.ln_channel.specs.End.{End}
use Rattle.ln_channel.proofs.Accepting.{sound, dance_stands, stands_with_dance, on_ok}
use Rattle.ln_channel.proofs.channel.Channel.learn.Goals as goal

pub invariant_of-self : goal.invariant_of-self
invariant_of-self g c =
    let kept : End = record {
      dance = c.self.inside.dance;
      closing = c.self.inside.closing;
      terms = c.self.inside.terms;
      readiness = c.self.inside.readiness;
      ledger = c.self.inside.ledger;
    } in
    sound kept c.learn.new.self c.learn.ensures.same_opening c.self.invariant

pub returns-clause-state : goal.returns-clause-state
returns-clause-state g c = λ e s.
    let kept = c.self.view_is ∙ s in
    on_ok c.learn.result (stands_with_dance _ e c.learn.new.self (after_learn c.args.message.now e.dance) kept)
    (c.learn.ensures.moves_as_stated e.dance (dance_stands _ e kept))

pub returns-clause-grows : goal.returns-clause-grows
returns-clause-grows g c = rw (← c.self.view_is)
    (on_ok c.learn.result (λ s. subst (λ (a : AllCounts). c.self.inside.dance.log.acknowledged.peer
    ≤ a.acknowledged.peer) (sym s) c.peer_held.ensures.ordered) c.learn.ensures.counts)

pub returns-clause-first_stays_below : goal.returns-clause-first_stays_below
returns-clause-first_stays_below g c = rw (← c.self.view_is)
    (on_ok c.learn.result (λ s. subst (λ (a : AllCounts). a.first.peer ≤ c.self.inside.dance.log.acknowledged.peer)
    (sym s) c.peer_held.ensures.first) c.learn.ensures.counts)

pub returns-clause-same_channel : goal.returns-clause-same_channel
returns-clause-same_channel g c = rw (← c.self.view_is) c.learn.ensures.same_channel
