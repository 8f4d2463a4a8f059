use Rattle.ln_log.proofs.Rules.{limits_rule}
use Rattle.ln_log.proofs.laws.limits_are_rules.Goals as goal

pub returns : goal.returns
returns c = limits_rule
