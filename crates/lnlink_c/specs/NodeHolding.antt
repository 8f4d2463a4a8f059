-- A handle after its object has become another one.
use Rattle.std.specs.Prelude.{Some}
use Rattle.lnlink_c.specs.NodeObject.{Object}
use Rattle.lnlink_c.specs.declared.held_node.HeldNode.{HeldNode}

abbrev pub holding : HeldNode → Object → HeldNode
holding h w = record { at = h.at; value = Some w }
