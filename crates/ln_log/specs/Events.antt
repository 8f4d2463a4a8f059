-- What a side comes to hold as irrevocably committed, move by move, and its close (BOLT 2, "Normal Operation" and
-- "Closing Negotiation").
use Rattle.std.specs.Prelude.{ℕ, List, [], ◌∷◌, ◌++◌, length, drop, Bool, true, false, Option, Some, None}
use Rattle.std.specs.Prelude.{if◌then◌else◌}
use Rattle.ln_keys.specs.declared.role.Role.{Role}
use Rattle.ln_keys.specs.declared.role.Role.TheVariants.{Funder, Fundee}
use Rattle.ln_log.specs.declared.update.Update.{Update}
use Rattle.ln_log.specs.declared.update.Update.TheVariants as update
use Rattle.ln_log.specs.Machine.{Party, Machine, Move, Open, Propose, Sign, Accept, Learn, Drop, Shut, Close, party}
use Rattle.ln_log.specs.Machine.{moved, after}

pub data Event : Type 0 where
  Held : (own : Bool) (u : Update) → Event  -- an update, the side's own or the other side's: an add or a removal
  ClosedAt : (fee : ℕ) → Event  -- the channel

-- a change of the fee is no event
abbrev pub is_event : Update → Bool
is_event (update.Add a) = true
is_event (update.Fulfil f) = true
is_event (update.Fail f) = true
is_event (update.Malformed m) = true
is_event (update.Fee f) = false

-- what updates that are newly held tell, in their order
abbrev pub held_events : Bool → List Update → List Event
held_events own [] = []
held_events own (u ∷ us) = if is_event u then Held own u ∷ held_events own us else held_events own us

-- the updates by which a list has grown
abbrev pub grown : List Update → List Update → List Update
grown before now = drop (length before) now

-- as a side accepts, its own updates that its commitment newly covers
abbrev pub accept_events : Party → Party → List Event
accept_events before now = held_events true (grown before.current.own now.current.own)

-- as it learns, those of the other side that are newly acknowledged to it
abbrev pub learn_events : Party → Party → List Event
learn_events before now = held_events false (grown before.acknowledged.peer now.acknowledged.peer)

-- where the move is the side's own
abbrev pub if_own : Role → Role → List Event → List Event
if_own Funder Funder es = es
if_own Funder Fundee es = []
if_own Fundee Funder es = []
if_own Fundee Fundee es = es

-- what a move tells the side x
abbrev pub move_events : Role → Move → Machine → List Event
move_events x (Open o) m = []
move_events x (Propose y u) m = []
move_events x (Sign y) m = []
move_events x (Accept y) m = if_own x y (accept_events (party y m) (party y (moved (Accept y) m)))
move_events x (Learn y) m = if_own x y (learn_events (party y m) (party y (moved (Learn y) m)))
move_events x (Drop y) m = []
move_events x (Shut y) m = []
move_events x (Close y fee) m = if_own x y (ClosedAt fee ∷ [])

abbrev pub events_of : Role → Move → Option Machine → List Event
events_of x move None = []
events_of x move (Some m) = move_events x move m

-- the events of the side x over a list of moves, in their order
abbrev pub events : Role → List Move → Option Machine → List Event
events x [] m = []
events x (move ∷ moves) m = events_of x move m ++ events x moves (after move m)
