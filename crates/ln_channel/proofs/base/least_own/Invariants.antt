use Rattle.std.specs.Prelude.{◌≡◌, ◌≤◌, drop}
use Rattle.ln_channel.specs.Base.{least_own}
use Rattle.ln_channel.proofs.base.least_own.Given as goal

abbrev pub invariant-loop-entry : goal.invariant-loop-entry
invariant-loop-entry l =
    (least_own l.least (drop l.entry-index l.entries) ≡ least_own l.held l.entries) × (l.least ≤ l.held)
