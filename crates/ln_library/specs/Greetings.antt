-- What of a connection is of no channel, by bytes (BOLT 1).
use Rattle.std.specs.Prelude.{◌≡◌, ℕ, zero, suc, ◌*◌, ◌/◌, ◌%◌, List, [], length, take, drop, Bool, true, false, not}
use Rattle.std.specs.Prelude.{◌==◌, ◌||◌, nat_lt, Option, Some, None, Result, Ok, Err, if◌then◌else◌}
use Rattle.ln_bytes.specs.declared.fault.Fault.{Fault}
use Rattle.ln_bytes.specs.Same.{are_same}
use Rattle.ln_bytes.specs.Tlv.{value_of}
use Rattle.ln_msgs.specs.Messages.Features.{IsAllKnown, HasUnknown}
use Rattle.ln_msgs.specs.Messages.Message.{Heard}
use Rattle.ln_msgs.specs.declared.messages.message.Message.{Message}
use Rattle.ln_msgs.specs.declared.messages.message.Message.TheVariants as message
use Rattle.ln_msgs.specs.declared.messages.setup.Init.{Init}
use Rattle.ln_msgs.specs.declared.messages.setup.Pong.{Pong}
use Rattle.ln_text.specs.MessageText.{heard_text}
use Rattle.ln_refusals.specs.Refusal.{refusal_of}
use Rattle.ln_refusals.specs.declared.refusal.Refusal.{Refusal}
use Rattle.ln_refusals.specs.declared.refusal.Refusal.TheVariants as refusal
use Rattle.ln_host.specs.Greeting.{init_with, pong_to, channel_of}
use Rattle.ln_wire.specs.Forms.{Gives}
use Rattle.ln_library.specs.Messages.{Writes}

-- ---- an init that is sent

-- chains of 32 bytes each (8), then neither string longer than a message (7)
abbrev pub init_of : List ℕ → List ℕ → Result Init Refusal
init_of features chains =
    if not (length chains % 32 == 0) then Err refusal.FieldLength
    else (if nat_lt 65535 (length features) || nat_lt 65535 (length chains) then Err refusal.TooLong
    else Ok (init_with features chains))

abbrev pub Greets : {V : Type 0} → (V → List ℕ) → Result Init Refusal → Result V Refusal → Type 0
Greets view (Ok i) result = Writes view (message.Init i) result
Greets view (Err e) result = result ≡ Err e

-- ---- an init that came; another message is out of place: 21

-- 9 where it asks for an even bit that isn't known
abbrev pub IsChecked : Init → List ℕ → Result (Unit {0}) Refusal → Type 0
IsChecked i known (Ok u) = IsAllKnown i known
IsChecked i known (Err e) = (e ≡ refusal.UnknownFeature) × HasUnknown i known

abbrev pub ChecksInit : List ℕ → Option Message → Result (Unit {0}) Refusal → Type 0
ChecksInit known None result = result ≡ Err refusal.OutOfPlace
ChecksInit known (Some (message.Init i)) result = IsChecked i known result
ChecksInit known (Some m) result = result ≡ Err refusal.OutOfPlace

-- the chain hash of this number, 32 bytes
abbrev pub chain_at : ℕ → List ℕ → List ℕ
chain_at n chains = take 32 (drop (32 * n) chains)

-- it is so of a number below this one
abbrev pub any_below : (ℕ → Bool) → ℕ → Bool
any_below p zero = false
any_below p (suc n) = any_below p n || p n

abbrev pub is_among : List ℕ → List ℕ → Bool
is_among chain chains = any_below (λ n. are_same chain (chain_at n chains)) (length chains / 32)

abbrev pub are_shared : List ℕ → List ℕ → Bool
are_shared networks chains = any_below (λ n. is_among (chain_at n networks) chains) (length networks / 32)

-- by its record `networks`, type 1, where it has one
abbrev pub shares_with : List ℕ → Option (List ℕ) → Bool
shares_with chains None = true
shares_with chains (Some networks) = are_shared networks chains

abbrev pub chain_answer : List ℕ → Option Message → Result (Unit {0}) Refusal
chain_answer chains None = Err refusal.OutOfPlace
chain_answer chains (Some (message.Init i)) =
    if shares_with chains (value_of 1 i.records) then Ok tt else Err refusal.OutOfPlace
chain_answer chains (Some m) = Err refusal.OutOfPlace

-- ---- other messages

-- no bytes where the ping asks for no pong
abbrev pub PongIs : {V : Type 0} → (V → List ℕ) → Option Pong → Result V Refusal → Type 0
PongIs view None result = Gives view result (Ok [])
PongIs view (Some p) result = Writes view (message.Pong p) result

-- 21 where it is no ping
abbrev pub Pongs : {V : Type 0} → (V → List ℕ) → Option Message → Result V Refusal → Type 0
Pongs view None result = result ≡ Err refusal.OutOfPlace
Pongs view (Some (message.Ping p)) result = PongIs view (pong_to p) result
Pongs view (Some m) result = result ≡ Err refusal.OutOfPlace

abbrev pub bytes_or_none : Option (List ℕ) → List ℕ
bytes_or_none None = []
bytes_or_none (Some bytes) = bytes

-- no bytes where it is of no channel
abbrev pub id_bytes : Option Message → List ℕ
id_bytes None = []
id_bytes (Some m) = bytes_or_none (channel_of m)

-- what bytes say, as text
abbrev pub text_of : Result Heard Fault → Result (List ℕ) Refusal
text_of (Ok h) = Ok (heard_text h)
text_of (Err f) = Err (refusal_of f)
