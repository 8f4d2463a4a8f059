-- Frames: how messages follow one another in a stream of bytes.
use Rattle.std.specs.Prelude.{◌≡◌, ◌≢◌, ℕ, ◌<◌, List, [], ◌∷◌, ◌++◌, length, Ok, Err}
use Rattle.ln_bytes.specs.Endian.{big_bytes}
use Rattle.ln_bytes.specs.declared.fault.Fault.{Fault}
use Rattle.ln_msgs.specs.Messages.Message.{Heard, message_at}

-- two bytes of length, and a message of that many bytes
abbrev pub frame : List ℕ → List ℕ
frame message = big_bytes 2 (length message) ++ message

-- a message at the front of the bytes, in a whole frame, and what follows
pub record HasFrame (bytes message rest : List ℕ) : Type 0 where
  pub fits : length message < 65536
  pub bytes_are : bytes ≡ frame message ++ rest

-- no whole frame is at the front
abbrev pub HasNoFrame : List ℕ → Type 0
HasNoFrame bytes = (message rest : List ℕ) → HasFrame bytes message rest → ⊥

-- the bytes are whole frames of messages that are heard so, in this order, and nothing else
abbrev pub Hears : List Heard → List ℕ → Type 0
Hears [] bytes = bytes ≡ []
Hears (h ∷ hs) bytes = (message : List ℕ) × (rest : List ℕ) × HasFrame bytes message rest
    × (message_at message ≡ Ok h) × Hears hs rest

-- a whole frame is at the front, and its message has this first fault
pub record IsFaulty (bytes : List ℕ) (f : Fault) : Type 0 where
  pub message : List ℕ
  pub rest : List ℕ
  pub whole : HasFrame bytes message rest
  pub fault : message_at message ≡ Err f

-- the bytes end inside a frame
abbrev pub IsCut : List ℕ → Type 0
IsCut bytes = (bytes ≢ []) × HasNoFrame bytes

-- no further message is heard: the bytes are at their end, or cut, or faulty
abbrev pub EndsHearing : List ℕ → Type 0
EndsHearing bytes = (message rest : List ℕ) (h : Heard) → HasFrame bytes message rest → message_at message ≢ Ok h
