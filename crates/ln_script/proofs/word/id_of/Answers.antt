use Rattle.ln_script.proofs.Words.{id_is}
use Rattle.ln_script.proofs.word.id_of.Goals as goal

pub returns : goal.returns
returns c = id_is c.args.block c.args.tx c.args.output _ _
