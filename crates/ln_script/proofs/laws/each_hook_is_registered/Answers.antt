use Rattle.ln_script.proofs.Registered.{each_is_registered}
use Rattle.ln_script.proofs.laws.each_hook_is_registered.Goals as goal

pub returns : goal.returns
returns c = each_is_registered
