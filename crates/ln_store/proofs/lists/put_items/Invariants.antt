use Rattle.std.proofs.Common.{◌≡◌, ◌++◌, take}
use Rattle.std.specs.List.{flat_map}
use Rattle.ln_store.proofs.lists.put_items.Given as goal

-- the values so far stand after what was there
abbrev pub invariant-loop-item : goal.invariant-loop-item
invariant-loop-item g l =
    l.out.items ≡ l.initial.out.items ++ flat_map g.T.Stored.format.bytes (take l.item-index l.items)
