-- What is known of the latest connection that a worker has.
use Rattle.std.specs.Prelude.{ℕ, List, Option}
use Rattle.ln_node_loops.specs.declared.wire.Wire.{Wire}
use Rattle.ln_node_loops.specs.declared.wire.Wire.TheVariants as wire
use Rattle.ln_node_loops.specs.Connection.{Latest, NoneYet, Open, Closed, connection_of}

abbrev pub connection_at : {W C : Type 0} → (W → Option (List ℕ)) → Wire W C → Latest
connection_at contents wire.NoneYet = NoneYet
connection_at contents (wire.Open writer) = Open (connection_of contents writer)
connection_at contents (wire.Closed closed) = Closed
