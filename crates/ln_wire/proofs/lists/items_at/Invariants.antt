use Rattle.std.proofs.Common.{◌≡◌, ◌-◌}
use Rattle.ln_store.specs.Format.{items_at}
use Rattle.ln_store.proofs.Loops.{with_front}
use Rattle.ln_wire.proofs.lists.items_at.Given as goal

-- what was read and what is still read is all
abbrev pub invariant-loop : goal.invariant-loop
invariant-loop g l =
    with_front l.items.items (items_at g.T.Wire.format (l.count - l.counter) l.rest)
    ≡ items_at g.T.Wire.format l.count l.bytes
