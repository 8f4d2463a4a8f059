-- What a relay stands for at one moment, and the steps by which it moves on.
use Rattle.std.specs.Prelude.{◌≡◌, ◌<◌, ℕ, List, [], ◌∷◌, ◌++◌, length, drop, ⊤}
use Rattle.ln_relay.specs.Merge.{IsMerge}

-- the seats of a relay: two send, one receives
pub data Seat : Type 0 where
  First : Seat
  Second : Seat
  Receiver : Seat

-- what each sender has put, what was taken, and what is queued, each oldest first
pub record History (T : Type 0) : Type 0 where
  pub first : List T
  pub second : List T
  pub taken : List T
  pub queued : List T

-- what was taken, followed by what is queued, is a merge of what the senders have put
abbrev pub IsInOrder : {T : Type 0} → History T → Type 0
IsInOrder h = IsMerge h.first h.second (h.taken ++ h.queued)

-- the list that a seat knows: what it has put, or what it has taken
abbrev pub own : {T : Type 0} → Seat → History T → List T
own First h = h.first
own Second h = h.second
own Receiver h = h.taken

-- the five kinds of atomic step
pub data Step (T : Type 0) : Type 0 where
  FirstPuts : T → Step T
  SecondPuts : T → Step T
  Takes : T → Step T
  RefusedAsFull : Step T
  RefusedAsEmpty : Step T

-- when a step can happen in a relay with so much room
abbrev pub CanHappen : {T : Type 0} → ℕ → Step T → History T → Type 0
CanHappen room (FirstPuts x) h = length h.queued < room
CanHappen room (SecondPuts x) h = length h.queued < room
CanHappen room (Takes x) h = h.queued ≡ x ∷ drop 1 h.queued
CanHappen room RefusedAsFull h = length h.queued ≡ room
CanHappen room RefusedAsEmpty h = h.queued ≡ []

-- what a step makes of a history: items join at the back and leave at the front
abbrev pub after : {T : Type 0} → Step T → History T → History T
after (FirstPuts x) h = record h { first = h.first ++ x ∷ []; queued = h.queued ++ x ∷ [] }
after (SecondPuts x) h = record h { second = h.second ++ x ∷ []; queued = h.queued ++ x ∷ [] }
after (Takes x) h = record h { taken = h.taken ++ x ∷ []; queued = drop 1 h.queued }
after RefusedAsFull h = h
after RefusedAsEmpty h = h

-- what a step adds to the list that a seat knows: each step changes the list of one seat, or of none
abbrev pub adds : {T : Type 0} → Seat → Step T → List T
adds First (FirstPuts x) = x ∷ []
adds Second (SecondPuts x) = x ∷ []
adds Receiver (Takes x) = x ∷ []
adds seat step = []

-- nothing was put or taken yet
abbrev pub nothing : {T : Type 0} → History T
nothing = record { first = []; second = []; taken = []; queued = [] }

-- the steps can happen one after the other, as the threads come to them
abbrev pub CanRun : {T : Type 0} → ℕ → List (Step T) → History T → Type 0
CanRun room [] h = ⊤
CanRun room (step ∷ steps) h = CanHappen room step h × CanRun room steps (after step h)

abbrev pub run : {T : Type 0} → List (Step T) → History T → History T
run [] h = h
run (step ∷ steps) h = run steps (after step h)

abbrev pub all_added : {T : Type 0} → Seat → List (Step T) → List T
all_added seat [] = []
all_added seat (step ∷ steps) = adds seat step ++ all_added seat steps
