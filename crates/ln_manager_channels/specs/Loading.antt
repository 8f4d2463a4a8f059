-- What comes back from the records of all channels.
use Rattle.std.specs.Prelude.{◌≡◌, ◌⊎◌, ℕ, List, [], ◌∷◌, ◌++◌, length, Option, Some, None, is_some, Result, Ok, Err}
use Rattle.std.specs.Prelude.{if◌then◌else◌}
use Rattle.ln_refusals.specs.declared.refusal.Refusal.{Refusal}
use Rattle.ln_refusals.specs.declared.refusal.Refusal.TheVariants as refusal
use Rattle.ln_channel.specs.Record.{saved_end}
use Rattle.ln_channel.specs.State.{State}
use Rattle.ln_store.specs.Record.{record_at}
use Rattle.ln_link.specs.Loading.{Loads}
use Rattle.ln_manager_channels.specs.declared.newest.Newest.{Newest}
use Rattle.ln_manager_channels.specs.declared.saved.Saved.{Saved}
use Rattle.ln_manager_channels.specs.Links.{id_by_end}
use Rattle.ln_manager_channels.specs.Moves.{with_place}
use Rattle.ln_manager_channels.specs.Numbers.{NumbersById, number_at, numbered}

-- the links that have come back, with places for their records, and their numbers
pub record Seats (K : Type 0) : Type 0 where
  pub links : List (State K)
  pub records : List Newest
  pub numbers : NumbersById

-- 70 where a record tells of no end that both have signed, or of one whose id another one has
abbrev pub seat_fault : Option (List ℕ) → NumbersById → Option Refusal
seat_fault None by_id = Some refusal.Damaged
seat_fault (Some id) by_id = if is_some (number_at id by_id) then Some refusal.Damaged else None

abbrev pub numbered_by : Option (List ℕ) → ℕ → NumbersById → NumbersById
numbered_by None n by_id = by_id
numbered_by (Some id) n by_id = numbered id n by_id

abbrev pub link_id : {K : Type 0} → State K → Option (List ℕ)
link_id l = id_by_end (saved_end l.stage)

-- one more link has the next number
abbrev pub seated : {K : Type 0} → State K → Seats K → Seats K
seated l s = record {
  links = s.links ++ l ∷ [];
  records = with_place (length s.links) s.records;
  numbers = numbered_by (link_id l) (length s.links) s.numbers;
}

-- ---- one channel comes back from its record

unfoldable pub ComesBack : {K : Type 0} → Saved K → Result (State K) Refusal → Type 0
ComesBack x answer = Loads x.keys (record_at x.bytes) answer

-- a link has come back from this record, and has the next number
abbrev pub SeatsOne : {K : Type 0} → Saved K → Seats K → Seats K → Type 0
SeatsOne x p q = (l : State _) × ComesBack x (Ok l) × (seat_fault (link_id l) p.numbers ≡ None) × (q ≡ seated l p)

-- none has: it can't be read, or another one has its id
abbrev pub LacksOne : {K : Type 0} → Saved K → Seats K → Refusal → Type 0
LacksOne x p r =
    ComesBack x (Err r) ⊎ ((l : State _) × ComesBack x (Ok l) × (seat_fault (link_id l) p.numbers ≡ Some r))

-- ---- all do, in the order of their records

abbrev pub SeatsAll : {K : Type 0} → List (Saved K) → Seats K → Seats K → Type 0
SeatsAll [] p q = q ≡ p
SeatsAll (x ∷ xs) p q = (m : Seats _) × SeatsOne x p m × SeatsAll xs m q

-- the first that can't tells why
abbrev pub LacksSome : {K : Type 0} → List (Saved K) → Seats K → Refusal → Type 0
LacksSome [] p r = ⊥
LacksSome (x ∷ xs) p r = LacksOne x p r ⊎ ((m : Seats _) × SeatsOne x p m × LacksSome xs m r)

abbrev pub no_seats : {K : Type 0} → Seats K
no_seats = record { links = []; records = []; numbers = [] }
