use Rattle.std.proofs.Common.{sym, ◌∙◌}
use Rattle.ln_refusals.specs.declared.refusal.Refusal.TheVariants as refusal
use Rattle.ln_dance.specs.Dance.{after_sign, sign_fault}
use Rattle.ln_channel.specs.End.{End, is_ready}
use Rattle.ln_channel.proofs.Accepting.{sound, dance_stands, stands_with_dance, on_ok, within_if}
use Rattle.ln_channel.proofs.channel.Channel.sign_next.Goals as goal

pub invariant_of-self : goal.invariant_of-self
invariant_of-self g c =
    let kept : End = record {
      dance = c.self.inside.dance;
      closing = c.self.inside.closing;
      terms = c.self.inside.terms;
      readiness = c.self.inside.readiness;
      ledger = c.self.inside.ledger;
    } in
    sound kept c.sign.new.self c.sign.ensures.same_opening c.self.invariant

pub returns-clause-state : goal.returns-clause-state
returns-clause-state g c = λ e s.
    let kept = c.self.view_is ∙ s in
    on_ok c.sign.result (stands_with_dance _ e c.sign.new.self (after_sign e.dance) kept)
    (c.sign.ensures.moves_as_stated e.dance (dance_stands _ e kept))

pub returns-clause-refuses_exactly : goal.returns-clause-refuses_exactly
returns-clause-refuses_exactly g c = λ e s.
    within_if (is_ready e) refusal.NotReady (sign_fault e.dance) c.sign.result (sym (c.if-not-is_ready.ensures e s))
    (c.sign.ensures.refuses_exactly e.dance (dance_stands _ e (c.self.view_is ∙ s)))

pub returns-clause-same_channel : goal.returns-clause-same_channel
returns-clause-same_channel g c = rw (← c.self.view_is) c.sign.ensures.same_channel
