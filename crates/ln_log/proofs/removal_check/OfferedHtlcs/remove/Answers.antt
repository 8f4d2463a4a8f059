use Rattle.std.proofs.Common.{sym, ◌∙◌}
use Rattle.ln_log.specs.Outcomes.{fate}
use Rattle.ln_log.proofs.Fated.{removes_none, removes_one}
use Rattle.ln_log.proofs.removal_check.OfferedHtlcs.remove.Goals as goal

pub returns-in-None-clause-notes : goal.returns-in-None-clause-notes
returns-in-None-clause-notes c = λ adds before h _.
    removes_none (fate c.args.self.now) adds before c.args.update.now (sym c.removal_of.ensures ∙ c.in-None.is) h

pub returns-in_ok-insert-in-Some-clause-notes : goal.returns-in_ok-insert-in-Some-clause-notes
returns-in_ok-insert-in-Some-clause-notes c = λ adds before h _.
    removes_one (fate c.args.self.now) _ adds before c.args.update.now c.in-Some.removal
    (sym c.removal_of.ensures ∙ c.in-Some.is) (c.is_live.ensures.0 c.if-not-is_live.false)
    c.in_ok-insert-in-Some.ensures.updates.0 h
