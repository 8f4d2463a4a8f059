-- Messages as the bytes that pass between peers.
use Rattle.std.specs.Prelude.{◌≡◌, ◌⊎◌, ◌<◌, ◌≤◌, ℕ, List, length, Option, Some, None, Result, Ok, Err, ⊤}
use Rattle.ln_bytes.specs.declared.fault.Fault.{Fault}
use Rattle.ln_msgs.specs.Codec.Writing.{CanBeWritten}
use Rattle.ln_msgs.specs.Messages.Message.{Wire, Heard, Known, Ignored, message_at, wire_bytes}
use Rattle.ln_msgs.specs.Messages.Typed.{wire}
use Rattle.ln_msgs.specs.declared.messages.message.Message.{Message}
use Rattle.ln_refusals.specs.Refusal.{refusal_of}
use Rattle.ln_refusals.specs.declared.refusal.Refusal.{Refusal}
use Rattle.ln_refusals.specs.declared.refusal.Refusal.TheVariants as refusal

-- what is said is this message, or one that is ignored
abbrev pub Says : Result Heard Fault → Option Message → Type 0
Says (Ok (Known w)) (Some m) = w ≡ wire m
Says (Ok (Ignored typ)) None = ⊤
Says said m = ⊥

abbrev pub IsFirstFault : Result Heard Fault → Refusal → Type 0
IsFirstFault (Ok h) e = ⊥
IsFirstFault (Err f) e = e ≡ refusal_of f

-- what bytes say (BOLT 1, "Lightning Message Format"), unless memory ran out
abbrev pub Reads : List ℕ → Result (Option Message) Refusal → Type 0
Reads bytes (Ok m) = Says (message_at bytes) m
Reads bytes (Err e) = (e ≡ refusal.Memory) ⊎ IsFirstFault (message_at bytes) e

-- what is answered of the message that bytes are; their first fault where they are none
abbrev pub AnswersBy : {A : Type 0} → (Option Message → Result A Refusal → Type 0) → Result (Option Message) Refusal
    → Result A Refusal → Type 0
AnswersBy By (Ok m) result = By m result
AnswersBy By (Err e) result = result ≡ Err e

pub record Answers {A : Type 0} (By : Option Message → Result A Refusal → Type 0) (bytes : List ℕ)
    (result : Result A Refusal) : Type 0 where
  pub message : Result (Option Message) Refusal
  pub is_read : Reads bytes message
  pub answers : AnswersBy By message result

-- its records may stand after its fields, and it isn't too long
abbrev pub IsWritable : Wire → Type 0
IsWritable w = CanBeWritten w × (length (wire_bytes w) ≤ 65535)

-- no bytes of a message: its records may not stand after its fields, or it is too long
abbrev pub CannotBeWritten : Wire → Type 0
CannotBeWritten w = ¬ CanBeWritten w ⊎ (65535 < length (wire_bytes w))

-- the bytes of a message, seen by view
abbrev pub Writes : {V : Type 0} → (V → List ℕ) → Message → Result V Refusal → Type 0
Writes view m (Ok v) = (view v ≡ wire_bytes (wire m)) × IsWritable (wire m)
Writes view m (Err e) = (e ≡ refusal.Memory) ⊎ ((e ≡ refusal.TooLong) × CannotBeWritten (wire m))
