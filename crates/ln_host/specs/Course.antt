-- A hosted link over every list of calls, and the calls of its line that these make.
use Rattle.std.specs.Prelude.{◌≡◌, ℕ, List, [], ◌∷◌, ◌++◌, false, Result, ⊤}
use Rattle.std.specs.FinMap as finite
use Rattle.ln_msgs.specs.declared.messages.message.Message.{Message}
use Rattle.ln_refusals.specs.declared.refusal.Refusal.{Refusal}
use Rattle.ln_channel.specs.declared.command.Command.{Command}
use Rattle.ln_host.specs.declared.answer.HostRefusal.{HostRefusal}
use Rattle.ln_host.specs.Calls.{Call, Saves, Sends, Tells, Fills, Takes, Loses, run, begun}
use Rattle.ln_host.specs.Hosted.{Seat, IsConnected, IsObeyed, disconnected, funded, shown}
use Rattle.ln_host.specs.Hearing.{IsHeard}
use Rattle.ln_host.specs.Doing.{done_by, IsDone}

-- what a host calls of its link
pub data HostCall : Type 0 where
  Hears : (m : Message) → (answer : List ℕ) → HostCall
  Obeys : (c : Command) → HostCall
  Connects : HostCall
  Disconnects : HostCall
  Funds : (txid : List ℕ) → (output : ℕ) → HostCall
  Shows : HostCall
  Does : (answer : List ℕ) → HostCall

-- what it makes of the link: what its contract promises, whatever it answers
abbrev pub Happens : HostCall → Seat → Seat → Type 0
Happens (Hears m answer) old new = (result : Result (Unit {0}) HostRefusal) × IsHeard m answer result old new
Happens (Obeys c) old new = (result : Result (Unit {0}) Refusal) × IsObeyed c result old new
Happens Connects old new = (result : Result (Unit {0}) Refusal) × IsConnected result old new
Happens Disconnects old new = new ≡ disconnected old
Happens (Funds txid output) old new = new ≡ funded txid output old
Happens Shows old new = new ≡ shown old
Happens (Does answer) old new = (result : Result (Unit {0}) HostRefusal) × IsDone (done_by answer old) result old new

abbrev pub Runs : List HostCall → Seat → Seat → Type 0
Runs [] old new = new ≡ old
Runs (h ∷ hs) old new = (next : Seat) × Happens h old next × Runs hs next new

-- a link that is new, or was loaded: no message and no record waits, and it has saved none
pub record IsBegun (s : Seat) : Type 0 where
  pub record_waits : s.line.record_waits ≡ false
  pub messages : s.line.messages ≡ []
  pub records : s.records ≡ finite.empty

-- ---- what they make of its line

-- it puts a record, a message or what is told
abbrev pub IsPut : Call → Type 0
IsPut Saves = ⊤
IsPut (Sends m) = ⊤
IsPut (Tells t) = ⊤
IsPut (Fills f) = ⊥
IsPut Takes = ⊥
IsPut Loses = ⊥

abbrev pub ArePut : List Call → Type 0
ArePut [] = ⊤
ArePut (c ∷ cs) = IsPut c × ArePut cs

-- what stands first is filled, or taken off, or nothing is done
abbrev pub IsOfHead : List Call → Type 0
IsOfHead [] = ⊤
IsOfHead (Takes ∷ []) = ⊤
IsOfHead (Fills f ∷ []) = ⊤
IsOfHead cs = ⊥

-- the calls of its line that a call may make
abbrev pub MayMake : HostCall → List Call → Type 0
MayMake (Hears m answer) cs = ArePut cs
MayMake (Obeys c) cs = ArePut cs
MayMake Connects cs = ArePut cs
MayMake Disconnects cs = cs ≡ Loses ∷ []
MayMake (Funds txid output) cs = cs ≡ []
MayMake Shows cs = cs ≡ []
MayMake (Does answer) cs = IsOfHead cs

-- those of each, one after the other
abbrev pub MayMakeAll : List HostCall → List Call → Type 0
MayMakeAll [] cs = cs ≡ []
MayMakeAll (h ∷ hs) cs =
    (first : List Call) × (rest : List Call) × (cs ≡ first ++ rest) × MayMake h first × MayMakeAll hs rest

-- what is told of a loaded link
abbrev pub AreTold : List Call → Type 0
AreTold [] = ⊤
AreTold (Tells t ∷ cs) = AreTold cs
AreTold (c ∷ cs) = ⊥

-- the line is what calls of it make of an empty one: of what a loaded link tells, and then of these
pub record IsLineOf (hs : List HostCall) (s : Seat) : Type 0 where
  pub told : List Call
  pub made : List Call
  pub are_told : AreTold told
  pub are_made : MayMakeAll hs made
  pub line : s.line ≡ (run (told ++ made) begun).line
