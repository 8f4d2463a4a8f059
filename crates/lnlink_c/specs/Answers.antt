-- The numbers that calls answer, and the bytes that they write.
use Rattle.std.specs.Prelude.{◌≡◌, ℕ, ◌+◌, ◌*◌, ◌<◌, ◌≤◌, ℤ, pos, List, ◌++◌, drop, length, Result, Ok, Err}
use Rattle.ln_refusals.specs.PeerRule.{rule_number}
use Rattle.ln_refusals.specs.Refusal.{refusal_number}
use Rattle.ln_refusals.specs.declared.lost_data.LostData.TheVariants as lost_data
use Rattle.ln_refusals.specs.declared.refusal.Refusal.{Refusal}
use Rattle.ln_refusals.specs.declared.refusal.Refusal.TheVariants as refusal
use Rattle.ln_host.specs.declared.answer.HostRefusal.{HostRefusal}
use Rattle.ln_host.specs.declared.answer.HostRefusal.TheVariants as host

-- what stands in the second byte: the peer's rule; or 1 where the own data is lost, 2 where the peer's is
abbrev pub detail_of : Refusal → ℕ
detail_of (refusal.PeerLimit rule) = rule_number rule
detail_of (refusal.ReestablishNumber lost_data.Own) = 1
detail_of (refusal.ReestablishNumber lost_data.Peer) = 2
detail_of r = 0

abbrev pub answer_number : Refusal → ℕ
answer_number r = detail_of r * 256 + refusal_number r

abbrev pub done_number : Result (Unit {0}) Refusal → ℕ
done_number (Ok u) = 0
done_number (Err r) = answer_number r

abbrev pub host_number : HostRefusal → ℕ
host_number (host.Refused r) = answer_number r
host_number host.Asks = 80
host_number host.Answer = 81

abbrev pub host_done_number : Result (Unit {0}) HostRefusal → ℕ
host_done_number (Ok u) = 0
host_done_number (Err e) = host_number e

-- the bytes stand at the start of what there is room for, and the rest is as it was; 82 where there isn't
abbrev pub Copies : List ℕ → ℤ → List ℕ → List ℕ → Type 0
Copies bytes answer old new =
    (length bytes ≤ length old → (answer ≡ pos 0) × (new ≡ bytes ++ drop (length bytes) old))
    × (length old < length bytes → (answer ≡ pos 82) × (new ≡ old))
