-- The bits so far are known.
use Rattle.std.proofs.Common.{◌≡◌, ◌<◌, ◌+◌, ◌*◌, ◌%◌, ℕ, IsTrue}
use Rattle.std.specs.Int.{bit_at}
use Rattle.ln_msgs.specs.Messages.Features.{is_listed}
use Rattle.ln_msgs.proofs.messages.features.knows_byte.Given as goal

abbrev pub invariant-loop-bit : goal.invariant-loop-bit
invariant-loop-bit l = (j : ℕ) → j < l.bit → bit_at l.byte j ≡ 1 → j % 2 ≡ 0
    → IsTrue (is_listed l.known (8 * l.place + j))
