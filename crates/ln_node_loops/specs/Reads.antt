-- What a reader puts for the bytes of a connection (BOLT 1, "Lightning Message Format").
use Rattle.std.specs.Prelude.{◌≡◌, ◌<◌, ℕ, List, [], ◌∷◌, ◌++◌, map, length, Option, Some, None, ◌⊎◌, Result, Ok, Err}
use Rattle.std.specs.Io.KnownBytes.{Consumes, IsAtEnd}
use Rattle.ln_bytes.specs.declared.fault.Fault.{Fault}
use Rattle.ln_bytes.specs.declared.fault.Fault.TheVariants.{Memory, Io}
use Rattle.ln_msgs.specs.declared.messages.message.Incoming.{Incoming}
use Rattle.ln_msgs.specs.declared.messages.message.Incoming.TheVariants.{Known, Ignored}
use Rattle.ln_msgs.specs.Messages.Typed.{heard}
use Rattle.ln_msgs.specs.Frames.Frame.{frame, HasFrame, Hears, IsFaulty, HasNoFrame}
use Rattle.ln_node_loops.specs.declared.item.Item.{Item}
use Rattle.ln_node_loops.specs.declared.item.Item.TheVariants as item

-- the messages of known types, in order, as items
abbrev pub reads : {J : Type 0} → List Incoming → List (Item J)
reads [] = []
reads (Known m ∷ hs) = item.Read m ∷ reads hs
reads (Ignored typ ∷ hs) = reads hs

-- no byte stands after a whole frame
abbrev pub HasNoneAfterAFrame : List ℕ → Type 0
HasNoneAfterAFrame bytes = (message more : List ℕ) → HasFrame bytes message more → more ≡ []

-- less than a frame was read, as a read failed; or at most one, for whose message there was no memory
abbrev pub FallsShort : List ℕ → Fault → Type 0
FallsShort rest f = ((f ≡ Io) × HasNoFrame rest) ⊎ ((f ≡ Memory) × HasNoneAfterAFrame rest)

-- Why no further message was heard after whole frames: the stream is at its end, where a frame may be cut off; or the
-- next message has a fault, a read failed, or there was no memory for the next message.
abbrev pub Stops : List ℕ → Option (List ℕ) → Result (Unit {0}) Fault → Type 0
Stops rest after (Ok u) = HasNoFrame rest × IsAtEnd after
Stops rest after (Err f) = IsFaulty rest f ⊎ FallsShort rest f

-- so many bytes were read; or fewer, at the end of the stream or as a read failed; or none, where there is no memory
abbrev pub Fills : {V : Type 0} → (V → List ℕ) → ℕ → Option (List ℕ) → Option (List ℕ) → Result (Option V) Fault
    → Type 0
Fills items n before after (Ok (Some v)) = (length (items v) ≡ n) × Consumes before after (items v)
Fills items n before after (Ok None) =
    (came : List ℕ) × (length came < n) × Consumes before after came × IsAtEnd after
Fills items n before after (Err f) =
    ((f ≡ Io) × ((came : List ℕ) × (length came < n) × Consumes before after came))
    ⊎ ((f ≡ Memory) × Consumes before after [])

-- the next frame was read, which has this message; or none, at the end of the stream or by a fault
abbrev pub Finds : {V : Type 0} → (V → List ℕ) → Option (List ℕ) → Option (List ℕ) → Result (Option V) Fault → Type 0
Finds items before after (Ok (Some v)) = (length (items v) < 65536) × Consumes before after (frame (items v))
Finds items before after (Ok None) = (rest : List ℕ) × Consumes before after rest × HasNoFrame rest × IsAtEnd after
Finds items before after (Err f) = (rest : List ℕ) × Consumes before after rest × FallsShort rest f

-- the messages of known types in the whole frames that were read were put, in order
pub record Reads {J : Type 0} (before after : Option (List ℕ)) (why : Result (Unit {0}) Fault)
    (put put' : List (Item J)) : Type 0 where
  pub messages : List Incoming
  pub front : List ℕ
  pub rest : List ℕ
  pub hears : Hears (map heard messages) front
  pub consumed : Consumes before after (front ++ rest)
  pub stops : Stops rest after why
  pub relayed : put' ≡ put ++ reads messages

-- and Joined before them, and Broken after
pub record HandsOn {J : Type 0} (before after : Option (List ℕ)) (why : Result (Unit {0}) Fault) (joined : J)
    (put put' : List (Item J)) : Type 0 where
  pub between : List (Item J)
  pub reads_all : Reads before after why [] between
  pub relayed : put' ≡ put ++ item.Joined joined ∷ between ++ item.Broken ∷ []
