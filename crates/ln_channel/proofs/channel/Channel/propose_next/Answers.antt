use Rattle.std.proofs.Common.{refl, subst, ◌∙◌}
use Rattle.ln_log.specs.Log.{after_propose, proposal_fault}
use Rattle.ln_dance.specs.Dance.{with_log}
use Rattle.ln_channel.specs.End.{End, StandsFor, with_dance}
use Rattle.ln_channel.proofs.Accepting.{sound, dance_stands, stands_with_dance, on_ok, within}
use Rattle.ln_channel.proofs.channel.Channel.propose_next.Goals as goal

pub propose-requires : goal.propose-requires
propose-requires c = λ d s.
    let kept : End = record {
      dance = c.self.inside.dance;
      closing = c.self.inside.closing;
      terms = c.self.inside.terms;
      readiness = c.self.inside.readiness;
      ledger = c.self.inside.ledger;
    } in
    c.requires (with_dance d kept) (subst (λ (x : End). StandsFor x (with_dance d kept)) c.self.view_is
    (stands_with_dance kept kept c.self.inside.dance d refl s))

pub invariant_of-self : goal.invariant_of-self
invariant_of-self c =
    let kept : End = record {
      dance = c.self.inside.dance;
      closing = c.self.inside.closing;
      terms = c.self.inside.terms;
      readiness = c.self.inside.readiness;
      ledger = c.self.inside.ledger;
    } in
    sound kept c.propose.new.self c.propose.ensures.same_opening c.self.invariant

pub returns-clause-state : goal.returns-clause-state
returns-clause-state c = λ e s.
    let kept = c.self.view_is ∙ s in
    on_ok c.propose.result (stands_with_dance _ e c.propose.new.self
    (with_log (after_propose c.args.update e.dance.log) e.dance) kept)
    (c.propose.ensures.moves_as_stated e.dance (dance_stands _ e kept))

pub returns-clause-refuses_exactly : goal.returns-clause-refuses_exactly
returns-clause-refuses_exactly c = λ e s.
    within (proposal_fault e.dance.log c.args.update) c.propose.result
    (c.propose.ensures.refuses_exactly e.dance (dance_stands _ e (c.self.view_is ∙ s)))

pub returns-clause-same_channel : goal.returns-clause-same_channel
returns-clause-same_channel c = rw (← c.self.view_is) c.propose.ensures.same_channel
