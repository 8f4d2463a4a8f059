-- The pongs that answer pings (BOLT 1, "The ping and pong Messages").
use Rattle.std.specs.Prelude.{ℕ, ◌+◌, ◌-◌, ◌^◌, min, List, [], ◌∷◌, replicate, Option, Some, None, ◌==◌, nat_lt}
use Rattle.std.specs.Prelude.{if◌then◌else◌, Result, Ok}
use Rattle.ln_bytes.specs.Reading.{◌>>=◌}
use Rattle.ln_bytes.specs.declared.fault.Fault.{Fault}
use Rattle.std.specs.List.{flat_map}
use Rattle.ln_msgs.specs.Codec.Field.{Value, Num, Str, Many}
use Rattle.ln_msgs.specs.Messages.Table.{Form, form_of}
use Rattle.ln_msgs.specs.Messages.Message.{Wire, wire_bytes, formed_at, payload_at, message_at, Heard, Known, Ignored}
use Rattle.ln_msgs.specs.Frames.Frame.{frame}

-- how many bytes of pong a ping's fields ask for: from 65,532 on, no pong is owed
abbrev pub asked : List Value → Option ℕ
asked [] = None
asked (Num n ∷ vs) = if nat_lt n 65532 then Some n else None
asked (Str bytes ∷ vs) = None
asked (Many items ∷ vs) = None

-- the same for any message
abbrev pub owed : Heard → Option ℕ
owed (Known w) = if w.typ == 18 then asked w.values else None
owed (Ignored typ) = None

-- what the bytes after a known type ask for, or their first fault
abbrev pub asked_at : Form → ℕ → List ℕ → Result (Option ℕ) Fault
asked_at form typ payload = formed_at form typ payload >>= λ heard. Ok (owed heard)

abbrev pub other_asked_at : ℕ → List ℕ → Result (Option ℕ) Fault
other_asked_at typ payload = payload_at (form_of typ) typ payload >>= λ heard. Ok (owed heard)

-- what a message's bytes ask for, or their first fault
unfoldable pub owed_at : List ℕ → Result (Option ℕ) Fault
owed_at message = do
  heard ← message_at message
  Ok (owed heard)

-- a pong of so many bytes, each zero
abbrev pub pong : ℕ → Wire
pong n = record { typ = 19; values = Str (replicate n 0) ∷ []; records = [] }

abbrev pub pong_frame : ℕ → List ℕ
pong_frame n = frame (wire_bytes (pong n))

-- what is written for one message
abbrev pub paid : Option ℕ → List ℕ
paid None = []
paid (Some n) = pong_frame n

abbrev pub reply : Heard → List ℕ
reply h = paid (owed h)

-- what is written for messages, in their order
abbrev pub replies : List Heard → List ℕ
replies hs = flat_map reply hs

abbrev pub one_if_owed : Option ℕ → ℕ
one_if_owed None = 0
one_if_owed (Some n) = 1

-- how many pongs that is
abbrev pub pongs : List Heard → ℕ
pongs [] = 0
pongs (h ∷ hs) = one_if_owed (owed h) + pongs hs

-- the count that is told, which stops at 2^64 - 1
abbrev pub told : ℕ → ℕ
told n = min n (2 ^ 64 - 1)
