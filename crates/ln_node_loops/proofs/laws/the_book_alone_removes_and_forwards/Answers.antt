use Rattle.ln_node_loops.proofs.Removing.{by-book-all}
use Rattle.ln_node_loops.proofs.laws.the_book_alone_removes_and_forwards.Goals as goal

pub returns : goal.returns
returns g c own_init peer place a b began = by-book-all _ _ _ _ _ _ _ peer _ _ _ _ _ _ began.ran.leads
