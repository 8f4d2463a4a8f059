use Rattle.std.proofs.Common.{sym, ap, ◌∙◌}
use Rattle.std.specs.Option.{option_copied}
use Rattle.ln_log.specs.Outcomes.{fate}
use Rattle.ln_log.proofs.Fated.{offers_none, offers_one}
use Rattle.ln_log.proofs.removal_check.OfferedHtlcs.offer.Goals as goal

pub returns-in-None-clause-offers : goal.returns-in-None-clause-offers
returns-in-None-clause-offers c = λ adds h.
    offers_none (fate c.args.self.now) adds c.args.update.now (sym c.add_of.ensures ∙ ap option_copied c.in-None.is) h

pub returns-in_ok-insert-in-Some-clause-offers : goal.returns-in_ok-insert-in-Some-clause-offers
returns-in_ok-insert-in-Some-clause-offers c = λ adds h.
    offers_one (fate c.args.self.now) _ adds c.args.update.now c.in-Some.add.now
    (sym c.add_of.ensures ∙ ap option_copied c.in-Some.is) c.in_ok-insert-in-Some.ensures.updates.0 h
