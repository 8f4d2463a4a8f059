-- The bits of the bytes so far are known.
use Rattle.std.proofs.Common.{◌≡◌, ◌<◌, ◌/◌, ◌%◌, ℕ, IsTrue}
use Rattle.ln_msgs.specs.Messages.Features.{HasFeature, is_listed}
use Rattle.ln_msgs.proofs.messages.features.knows_all.Given as goal

abbrev pub invariant-loop-place : goal.invariant-loop-place
invariant-loop-place l = (i : ℕ) → i < l.place → (k : ℕ) → k / 8 ≡ i → HasFeature l.features k → k % 2 ≡ 0
    → IsTrue (is_listed l.known k)
