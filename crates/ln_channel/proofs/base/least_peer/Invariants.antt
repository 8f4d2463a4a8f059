use Rattle.std.specs.Prelude.{◌≡◌, ◌≤◌, drop}
use Rattle.ln_channel.specs.Base.{least_peer}
use Rattle.ln_channel.proofs.base.least_peer.Given as goal

abbrev pub invariant-loop-entry : goal.invariant-loop-entry
invariant-loop-entry l =
    (least_peer l.least (drop l.entry-index l.entries) ≡ least_peer l.held l.entries) × (l.least ≤ l.held)
