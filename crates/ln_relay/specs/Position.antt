-- Where a seat stands, and what the three seats of a relay know together.
use Rattle.std.specs.Prelude.{◌≡◌, ℕ, List, ◌++◌, length}
use Rattle.ln_relay.specs.declared.finished.Finished.{Finished}
use Rattle.ln_relay.specs.Merge.{IsMerge}
use Rattle.ln_relay.specs.History.{Seat, First, Second, Receiver, History, IsInOrder, own}
use Rattle.ln_relay.specs.History.{Step, RefusedAsFull, RefusedAsEmpty, CanHappen}

-- a seat's relay, how many items that can hold, and which of its seats it is
pub record Position (R : Type 0) : Type 0 where
  pub relay : R
  pub room : ℕ
  pub seat : Seat

module _ {R T : Type 0} where
  -- at one moment the step could happen, in a history in which the seat's own list was this one
  abbrev pub CouldHappen : Position R → List T → Step T → Type 0
  CouldHappen p list step = (h : History T) × IsInOrder h × (own p.seat h ≡ list) × CanHappen p.room step h

  -- at one moment the relay was full
  abbrev pub WasFull : Position R → List T → Type 0
  WasFull p put = CouldHappen p put RefusedAsFull

  -- at one moment the relay was empty
  abbrev pub WasEmpty : Position R → List T → Type 0
  WasEmpty p taken = CouldHappen p taken RefusedAsEmpty

-- what was taken, followed by what is left, is a merge of what each sender has put
abbrev pub IsMergeOfAll : {T : Type 0} → List T → List T → List T → Type 0
IsMergeOfAll {T} first second taken = (left : List T) × IsMerge first second (taken ++ left)

-- the three seats of one relay
pub record AreSeatsOfOne {R : Type 0} (first second receiver : Position R) : Type 0 where
  pub first_sends : first.seat ≡ First
  pub second_sends : second.seat ≡ Second
  pub third_receives : receiver.seat ≡ Receiver
  pub second_is_beside : second.relay ≡ first.relay
  pub receiver_is_beside : receiver.relay ≡ first.relay

-- how many items were put from each seat, and taken
pub record AreCounts {T : Type 0} (done : Finished) (first second taken : List T) : Type 0 where
  pub of_first : done.put_first ≡ length first
  pub of_second : done.put_second ≡ length second
  pub of_receiver : done.taken ≡ length taken
