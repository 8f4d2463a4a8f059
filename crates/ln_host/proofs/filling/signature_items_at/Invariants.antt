use Rattle.std.proofs.Common.{◌≡◌, ◌-◌}
use Rattle.ln_store.specs.Format.{items_at, fixed}
use Rattle.ln_store.proofs.Loops.{with_front}
use Rattle.ln_host.proofs.filling.signature_items_at.Given as goal

-- what was read and what is still read is all
abbrev pub invariant-loop : goal.invariant-loop
invariant-loop l =
    with_front l.items.items (items_at (fixed 64) (l.count - l.counter) l.rest) ≡ items_at (fixed 64) l.count l.bytes
