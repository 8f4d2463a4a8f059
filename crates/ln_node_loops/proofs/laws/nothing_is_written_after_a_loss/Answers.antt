use Rattle.ln_node_loops.proofs.Losing.{stays_cut, is_cut}
use Rattle.ln_node_loops.proofs.laws.nothing_is_written_after_a_loss.Goals as goal

pub returns : goal.returns
returns g c own_init peer tried s s' t ts words news cuts none leads =
    stays_cut _ _ _ _ _ _ _ peer _ leads.0 ts leads.1 leads.2 s' none
    (is_cut _ _ g.E.End.pending g.E.End.owes _ _ peer s t leads.0 cuts leads.3) leads.7
