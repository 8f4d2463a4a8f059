use Rattle.ln_script.proofs.Widths as wide
use Rattle.ln_script.proofs.laws.steps_are_wide.Goals as goal

pub returns : goal.returns
returns c = wide.steps_are_wide
