use Rattle.ln_script.proofs.Hooks.{code_told}
use Rattle.ln_script.proofs.hook.lawful_code.Goals as goal

pub returns : goal.returns
returns c = code_told c.new.result c.args.number c.new.ensures.has_the_number c.new.ensures.lawful
