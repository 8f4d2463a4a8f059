-- A value that clauses alone read.
use Rattle.std.specs.declared.snapshot.Snapshot.{Snapshot}

abbrev pub of_value : {T : Type 0} → T → Snapshot T
of_value x = record { marker = record {}; value = x }
