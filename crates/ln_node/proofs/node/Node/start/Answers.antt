use denote.Param.Send.{sendable}
use Rattle.ln_node.proofs.Sent.{shared_send}
use Rattle.ln_node.proofs.node.Node.start.Goals as goal

pub add-requires-send-B : goal.add-requires-send-B
add-requires-send-B g c κs within = search (sendable, shared_send)
