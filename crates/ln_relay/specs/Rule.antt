-- The rule that both relays keep: the relay has a history, and each seat knows its own part of it.
use Rattle.std.specs.Prelude.{◌≡◌, ℕ, Bool, true, false, List, [], ◌∷◌, ◌++◌, Option, Some, None, ⊤}
use mathlib.Core.Option.{some}
use lib.ListN.{get_elem?}
use Rattle.ln_relay.specs.declared.rule.Hand.{Hand}
use Rattle.ln_relay.specs.History.{Seat, First, Second, History, IsInOrder}

abbrev pub hand : {T : Type 0} → Option (List T) → Option (List T) → Option (List T) → Hand T
hand a b c = record { first = a; second = b; taken = c }

-- the pass with this number, if it knows the part, is its one owner and knows the list
abbrev pub Owns : {T : Type 0} → Option (List T) → ℕ → List T → ℕ → Type 0
Owns None owner list port = ⊤
Owns (Some known) owner list port = (port ≡ owner) × (known ≡ list)

-- one pass at most knows this part, and what it knows is the list
abbrev pub Keeps : {T : Type 0} → (Hand T → Option (List T)) → List T → List (Hand T) → Type 0
Keeps {T} part list views =
    (owner : ℕ) × ((port : ℕ) (v : Hand T) → get_elem? views port ≡ some v → Owns (part v) owner list port)

-- the queue belongs to a history in order, and the passes know its lists
abbrev pub Relayed : {T : Type 0} → List T → List (Hand T) → Type 0
Relayed {T} queued views =
    (h : History T) × (h.queued ≡ queued) × IsInOrder h
    × Keeps (λ v. v.first) h.first views × Keeps (λ v. v.second) h.second views × Keeps (λ v. v.taken) h.taken views

-- the part, where it is known, is this list
abbrev pub Agrees : {T : Type 0} → Option (List T) → List T → Type 0
Agrees None list = ⊤
Agrees (Some known) list = known ≡ list

-- the queue belongs to a history in order, in which the lists are those that the pass knows
abbrev pub HasHistory : {T : Type 0} → Hand T → List T → Type 0
HasHistory {T} v queued =
    (h : History T) × (h.queued ≡ queued) × IsInOrder h
    × Agrees v.first h.first × Agrees v.second h.second × Agrees v.taken h.taken

abbrev pub more : {T : Type 0} → Option (List T) → T → Option (List T)
more None x = None
more (Some l) x = Some (l ++ x ∷ [])

-- what a sender knows once it has put x
abbrev pub with_put : {T : Type 0} → Hand T → T → Hand T
with_put v x = hand (more v.first x) (more v.second x) v.taken

-- what the receiver knows once it has taken x
abbrev pub with_taken : {T : Type 0} → Hand T → T → Hand T
with_taken v x = hand v.first v.second (more v.taken x)

abbrev pub either : {T : Type 0} → Option (List T) → Option (List T) → Option (List T)
either None p = p
either (Some l) p = Some l

-- what two passes know together, and what is left to the second
abbrev pub both : {T : Type 0} → Hand T → Hand T → Hand T
both v w = hand (either v.first w.first) (either v.second w.second) (either v.taken w.taken)

abbrev pub spent : {T : Type 0} → Hand T
spent = hand None None None

abbrev pub of_first : {T : Type 0} → List T → Hand T
of_first l = hand (Some l) None None

abbrev pub of_second : {T : Type 0} → List T → Hand T
of_second l = hand None (Some l) None

abbrev pub of_receiver : {T : Type 0} → List T → Hand T
of_receiver l = hand None None (Some l)

abbrev pub is_one_sender : {T : Type 0} → Option (List T) → Option (List T) → Option (List T) → Bool
is_one_sender (Some a) (Some b) c = false
is_one_sender (Some a) None (Some c) = false
is_one_sender (Some a) None None = true
is_one_sender None (Some b) (Some c) = false
is_one_sender None (Some b) None = true
is_one_sender None None c = false

-- it knows what one sender has put, and nothing else
abbrev pub is_sender : {T : Type 0} → Hand T → Bool
is_sender v = is_one_sender v.first v.second v.taken

abbrev pub is_one_receiver : {T : Type 0} → Option (List T) → Option (List T) → Option (List T) → Bool
is_one_receiver (Some a) b c = false
is_one_receiver None (Some b) c = false
is_one_receiver None None None = false
is_one_receiver None None (Some c) = true

-- it knows what was taken, and nothing else
abbrev pub is_receiver : {T : Type 0} → Hand T → Bool
is_receiver v = is_one_receiver v.first v.second v.taken

abbrev pub or_none : {T : Type 0} → Option (List T) → List T
or_none None = []
or_none (Some l) = l

-- a sender's own list
abbrev pub put_in : {T : Type 0} → Hand T → List T
put_in v = or_none (either v.first v.second)

abbrev pub taken_in : {T : Type 0} → Hand T → List T
taken_in v = or_none v.taken

abbrev pub seat_of : {T : Type 0} → Option (List T) → Seat
seat_of None = Second
seat_of (Some l) = First

-- which sender it is
abbrev pub seat_in : {T : Type 0} → Hand T → Seat
seat_in v = seat_of v.first

-- what is left at the first seat as the second sender's part leaves, and that part
abbrev pub without_second : {T : Type 0} → Hand T → Hand T
without_second v = hand v.first None v.taken

abbrev pub only_second : {T : Type 0} → Hand T → Hand T
only_second v = hand None v.second None

-- what is left at the first seat as the receiver's part leaves, and that part
abbrev pub without_taken : {T : Type 0} → Hand T → Hand T
without_taken v = hand v.first v.second None

abbrev pub only_taken : {T : Type 0} → Hand T → Hand T
only_taken v = hand None None v.taken
