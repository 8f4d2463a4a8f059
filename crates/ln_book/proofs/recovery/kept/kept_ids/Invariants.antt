use Rattle.std.proofs.Common.{◌≡◌, ◌++◌, drop}
use Rattle.std.specs.Prelude.{filter}
use Rattle.ln_book.proofs.recovery.kept.kept_ids.Given as goal

-- those that are left complete those that were found
abbrev pub invariant-loop-id : goal.invariant-loop-id
invariant-loop-id g l =
    l.all.items ++ filter (g.T.Kept.removes l.kept) (drop l.id-index l.ids) ≡ filter (g.T.Kept.removes l.kept) l.ids
