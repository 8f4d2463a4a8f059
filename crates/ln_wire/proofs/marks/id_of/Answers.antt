use Rattle.ln_wire.proofs.CommandLaws.{id_is}
use Rattle.ln_wire.proofs.marks.id_of.Goals as goal

pub returns : goal.returns
returns c = id_is c.args.block c.args.tx c.args.output _ _
