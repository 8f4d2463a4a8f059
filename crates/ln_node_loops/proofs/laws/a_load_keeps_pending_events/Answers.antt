use Rattle.ln_node_loops.proofs.Loaded.{pending_so}
use Rattle.ln_node_loops.proofs.laws.a_load_keeps_pending_events.Goals as goal

pub returns : goal.returns
returns c = pending_so
