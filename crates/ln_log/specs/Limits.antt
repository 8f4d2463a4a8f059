-- When an update may be proposed (BOLT 2, "Adding an HTLC", "Removing an HTLC", "Updating Fees",
-- "Requirements").
use Rattle.std.specs.Prelude.{◌≡◌, ℕ, ◌+◌, ◌*◌, ◌^◌, List, length, Option, Some, None, Result, ◌||◌, ◌==◌, nat_le}
use Rattle.std.specs.Prelude.{nat_lt, Bool, if◌then◌else◌}
use Rattle.ln_bytes.specs.Answers.{Refuses}
use Rattle.ln_bytes.specs.Same.{are_same}
use Rattle.ln_refusals.specs.declared.refusal.Refusal.{Refusal}
use Rattle.ln_refusals.specs.declared.refusal.Refusal.TheVariants as refusal
use Rattle.ln_keys.specs.declared.role.Role.{Role}
use Rattle.ln_keys.specs.declared.role.Role.TheVariants.{Funder, Fundee}
use Rattle.ln_keys.specs.Hash.{payment_hash}
use Rattle.ln_log.specs.declared.opening.Limits.{Limits}
use Rattle.ln_log.specs.declared.opening.Opening.{Opening}
use Rattle.ln_log.specs.declared.standing.Standing.{Standing}
use Rattle.ln_log.specs.declared.update.Add.{Add}
use Rattle.ln_log.specs.declared.update.Update.{Update}
use Rattle.ln_log.specs.declared.update.Update.TheVariants as update
use Rattle.ln_log.specs.Opening.{limits_of, first_balance}
use Rattle.ln_log.specs.Updates.{outcome, total, is_live, next_id, add_with}
use Rattle.ln_log.specs.View.{live_adds, balance}

-- how the side that offered own stands by both lists: the id of its next HTLC, its live HTLCs, their sum,
-- and its balance
abbrev pub standing_of : ℕ → List Update → List Update → Standing
standing_of first own peer = record {
  next_id = next_id own;
  live = length (live_adds own peer);
  in_flight = total is_live own peer;
  balance = balance first own peer;
}

-- the first limit that a further add would break
abbrev pub add_fault : Limits → Standing → Add → Option Refusal
add_fault l s a =
    if (a.amount == 0) || nat_lt a.amount l.minimum then Some refusal.AmountBelowMinimum
    else (if nat_lt 499999999 a.expiry then Some refusal.ExpiryRange
    else (if nat_lt l.accepted (s.live + 1) then Some refusal.TooManyHtlcs
    else (if nat_lt l.in_flight (s.in_flight + a.amount) then Some refusal.InFlightOver
    else (if nat_lt s.balance (a.amount + 1000 * l.reserve) then Some refusal.CannotAfford
    else None))))

-- the HTLC of this id in one list, unless the other list removes it; a removal names one that its side holds as
-- irrevocably committed and hasn't removed
abbrev pub removable : ℕ → List Update → List Update → Option Add
removable id own held = if is_live (outcome id own) then add_with id held else None

-- a preimage fulfils the HTLC whose payment hash is its SHA-256
abbrev pub fulfil_fault : List ℕ → Option Add → Option Refusal
fulfil_fault preimage None = Some refusal.NoSuchHtlc
fulfil_fault preimage (Some a) = if are_same (payment_hash preimage) a.hash then None
    else Some refusal.PreimageWrong

abbrev pub fail_fault : Option Add → Option Refusal
fail_fault None = Some refusal.NoSuchHtlc
fail_fault (Some a) = None

-- the BADONION bit, 0x8000, is the highest of a code's 16
abbrev pub malformed_fault : ℕ → Option Add → Option Refusal
malformed_fault code None = Some refusal.NoSuchHtlc
malformed_fault code (Some a) = if nat_le 32768 code then None else Some refusal.OutOfPlace

-- the funder alone pays the fee
abbrev pub fee_fault : Role → Option Refusal
fee_fault Funder = None
fee_fault Fundee = Some refusal.NotFunder

-- what is wrong with an update of a side that stands so after own, and holds held of the other side's
abbrev pub fault_at : Limits → Standing → Role → List Update → List Update → Update → Option Refusal
fault_at l s side own held (update.Add a) = add_fault l s a
fault_at l s side own held (update.Fulfil f) = fulfil_fault f.preimage (removable f.id own held)
fault_at l s side own held (update.Fail f) = fail_fault (removable f.id own held)
fault_at l s side own held (update.Malformed m) = malformed_fault m.failure_code (removable m.id own held)
fault_at l s side own held (update.Fee f) = fee_fault side

-- by whole lists: after own, where the side's next signature covers seen of the other side's updates, and
-- the side holds held of them
abbrev pub update_fault : Opening → Role → List Update → List Update → List Update → Update → Option Refusal
update_fault o side own seen held u = fault_at (limits_of o side)
    (standing_of (first_balance o side) own seen) side own held u

-- the update has the id that is due
abbrev pub HasNextId : List Update → Update → Type 0
HasNextId own (update.Add a) = a.id ≡ next_id own
HasNextId own (update.Fulfil f) = Unit {0}
HasNextId own (update.Fail f) = Unit {0}
HasNextId own (update.Malformed m) = Unit {0}
HasNextId own (update.Fee f) = Unit {0}

abbrev pub id_fault : List Update → Update → Option Refusal
id_fault own (update.Add a) = if a.id == next_id own then None else Some refusal.BadId
id_fault own (update.Fulfil f) = None
id_fault own (update.Fail f) = None
id_fault own (update.Malformed m) = None
id_fault own (update.Fee f) = None

-- a side proposes no more updates than these
abbrev pub most_updates : ℕ
most_updates = 2 ^ 62

abbrev pub is_at_update_limit : List Update → Bool
is_at_update_limit own = nat_le most_updates (length own)

-- the first of two faults
abbrev pub first_fault : Option Refusal → Option Refusal → Option Refusal
first_fault None next = next
first_fault (Some r) next = Some r

-- the answer is the refusal that there is, and Ok where there is none, but for want of memory
abbrev pub Answers : {A : Type 0} → Option Refusal → Result A Refusal → Type 0
Answers fault answer = Refuses (λ e none. (e ≡ refusal.Memory) × (none ≡ None)) fault answer
