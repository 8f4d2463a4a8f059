use Rattle.std.proofs.Common.{◌≡◌, ◌++◌, length}
use Rattle.std.specs.Vec.Iter.{into_iter_items, into_iter_len}
use Rattle.ln_node.specs.Stored.{AreLoaded}
use Rattle.ln_node.proofs.stored.load_all.Given as goal

-- what comes back of the rest comes after what has come back
abbrev pub invariant-loop-one : goal.invariant-loop-one
invariant-loop-one g l =
    ((rest : _) → AreLoaded g.S.RecordStore.store_view (into_iter_items l.one-iterator) rest
    → AreLoaded g.S.RecordStore.store_view (into_iter_items l.initial.one-iterator) (l.loaded.items ++ rest))
    × (into_iter_len l.one-iterator ≡ length (into_iter_items l.one-iterator))
