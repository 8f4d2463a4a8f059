-- What a handle holds: for another type, these two lines change.
use denote.RattleType.{RattleType}
use Rattle.ln_host_node.specs.contracts.node.HostNode.{the_row}

abbrev pub object : RattleType
object = the_row

abbrev pub Object : Type 0
Object = object.Denot
