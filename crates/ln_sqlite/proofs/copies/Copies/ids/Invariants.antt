use Rattle.std.proofs.Common.{◌≡◌, ◌++◌}
use Rattle.ln_sqlite.proofs.copies.Copies.ids.Given as goal

-- the ids so far and those that are left are all of them
abbrev pub invariant-loop-id : goal.invariant-loop-id
invariant-loop-id l = l.ids.items ++ l.id-iterator ≡ l.initial.id-iterator
