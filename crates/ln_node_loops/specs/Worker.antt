-- What a contract sees of a worker.
use Rattle.std.specs.Prelude.{ℕ, List, Option}
use Rattle.ln_node_loops.specs.declared.worker.Worker.{Worker}
use Rattle.ln_node_loops.specs.Turns.{Stand}
use Rattle.ln_node_loops.specs.Wire.{connection_at}

module _ {E W C S : Type 0} (state : E → S) (contents : W → Option (List ℕ)) where
  abbrev pub stand : Worker E W C → Stand S
  stand w = record {
    end = state w.end;
    phase = w.phase;
    connection = connection_at contents w.connection;
  }
