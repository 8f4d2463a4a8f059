use Rattle.ln_node_loops.proofs.Unsigned.{owed-so}
use Rattle.ln_node_loops.proofs.laws.a_signature_is_owed_where_sign_is_done.Goals as goal

pub returns : goal.returns
returns g c keys l = owed-so keys l
