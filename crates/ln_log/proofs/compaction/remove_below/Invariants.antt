use Rattle.std.proofs.Common.{◌≡◌, ◌≤◌, ℕ, drop}
use Rattle.ln_log.specs.Updates.{outcome}
use Rattle.ln_log.proofs.compaction.remove_below.Given as goal

-- what the rest doesn't remove isn't removed
abbrev pub invariant-loop-update : goal.invariant-loop-update
invariant-loop-update l = (id : ℕ) → l.next ≤ id → outcome id (drop l.update-index l.updates) ≡ outcome id l.updates
