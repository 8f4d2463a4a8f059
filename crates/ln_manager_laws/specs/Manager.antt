-- A manager of channels: their links, and the book of their payments.
use Rattle.std.specs.Prelude.{◌≡◌, ℕ, List, [], Bool, false, Option, Some, None, if◌then◌else◌}
use Rattle.std.specs.List.{find}
use Rattle.ln_channel.specs.End.{End}
use Rattle.ln_channel.specs.Naming.{channel_of}
use Rattle.ln_channel.specs.State.{State}
use Rattle.ln_book_tables.specs.Replay.{Table, no_table, same}
use Rattle.ln_payment_circuits.specs.Snapshot.{Snapshot, IsIn}
use Rattle.ln_manager_laws.specs.Calls.{Seat}

pub record Manager (K : Type 0) : Type 0 where
  pub seats : List (Seat K)  -- by the numbers of their channels
  pub book : Table

abbrev pub no_channels : {K : Type 0} → Manager K
no_channels = record { seats = []; book = no_table }

-- ---- channels by their ids

abbrev pub has_id : List ℕ → Option End → Bool
has_id id None = false
has_id id (Some e) = same id e.dance.channel

abbrev pub seat_of : {K : Type 0} → List ℕ → List (Seat K) → Option (Seat K)
seat_of id xs = find (λ x. has_id id x.end) xs

abbrev pub end_in : {K : Type 0} → Option (Seat K) → Option End
end_in None = None
end_in (Some x) = x.end

abbrev pub halted_in : {K : Type 0} → Option (Seat K) → Bool
halted_in None = false
halted_in (Some x) = x.link.halted

abbrev pub end_of : {K : Type 0} → List ℕ → Manager K → Option End
end_of id m = end_in (seat_of id m.seats)

-- both sides of a link that works have agreed on this id, or have signed it
abbrev pub agreed_id : {K : Type 0} → State K → Option (List ℕ)
agreed_id l = if l.halted then None else channel_of l.stage

abbrev pub id_by : Option End → Option (List ℕ) → Option (List ℕ)
id_by None agreed = agreed
id_by (Some e) agreed = Some e.dance.channel

abbrev pub seat_id : {K : Type 0} → Seat K → Option (List ℕ)
seat_id x = id_by x.end (agreed_id x.link)

-- ---- as the circuits of payments see it, where numbers stand for ids

abbrev pub snapshot : {K : Type 0} → (ℕ → List ℕ) → Manager K → Snapshot
snapshot id_of m = record {
  ends = λ c. end_of (id_of c) m;
  halted = λ c. halted_in (seat_of (id_of c) m.seats);
  book = m.book.htlcs;
}

-- each channel's id is that of a number
abbrev pub AreNumbered : {K : Type 0} → (ℕ → List ℕ) → Manager K → Type 0
AreNumbered {K} id_of m =
    (x : Seat K) → IsIn x m.seats → (e : End) → x.end ≡ Some e → (c : ℕ) × (e.dance.channel ≡ id_of c)
