-- A message to a link whose host brings keys, disk and sockets, with the answer to the question about it.
use Rattle.std.specs.Prelude.{◌≡◌, ◌⊎◌, ℕ, List, [], ◌++◌, Option, Some, None, Result, Ok, Err, if◌then◌else◌}
use Rattle.std.specs.FinMap as finite
use Rattle.ln_refusals.specs.declared.refusal.Refusal.{Refusal}
use Rattle.ln_refusals.specs.declared.refusal.Refusal.TheVariants as refusal
use Rattle.ln_msgs.specs.Messages.Message.{Wire}
use Rattle.ln_msgs.specs.Messages.Reply.{reply_to}
use Rattle.ln_msgs.specs.Messages.Typed.{wire}
use Rattle.ln_msgs.specs.declared.messages.message.Message.{Message}
use Rattle.ln_store.specs.Store.{Records, in_memory}
use Rattle.ln_channel.specs.declared.output.Output.{Output}
use Rattle.ln_channel.specs.declared.machine.ConnectionState.{ConnectionState}
use Rattle.ln_channel.specs.State.{State, is_down}
use Rattle.ln_link.specs.Saving.{AnswersOver}
use Rattle.ln_host.specs.declared.answer.Answer.{Answer}
use Rattle.ln_host.specs.declared.answer.HostRefusal.{HostRefusal}
use Rattle.ln_host.specs.declared.answer.HostRefusal.TheVariants as host
use Rattle.ln_host.specs.declared.keys.HostKeys.{HostKeys}
use Rattle.ln_host.specs.declared.record.HeldSignatures.{HeldSignatures}
use Rattle.ln_host.specs.declared.seen.Seen.{Seen}
use Rattle.ln_host.specs.declared.seen.Seen.TheVariants as seen
use Rattle.ln_host.specs.Answer.{answer_of, keys_told}
use Rattle.ln_host.specs.Greeting.{channel_of}
use Rattle.ln_host.specs.Hosted.{Seat, handed, halted, Hands, with_link}
use Rattle.ln_host.specs.Keys.{host_signer}
use Rattle.ln_host.specs.Line.{with_message}
use Rattle.ln_host.specs.Question.{question_of}
use Rattle.ln_host.specs.Seen.{seen_in, secret_of}

-- ---- what the host told

-- a channel that the host has a record of has one here too, which says nothing
abbrev pub known : Option (List ℕ) → Records → Records
known None rs = rs
known (Some channel) rs = finite.insert rs channel []

-- the keys of the link are what was told
abbrev pub told : Answer → Seat → Seat
told a s = record s {
  link = record s.link { keys = keys_told s.first_point a };
  records = known a.known s.records;
}

-- ---- what a message that is taken has for the chain

-- signatures replace those that were held
abbrev pub held_by : Seen → Option HeldSignatures → Option HeldSignatures
held_by seen.Nothing held = held
held_by (seen.Signatures s) held = Some s
held_by (seen.Secret s) held = held

-- a secret is kept until the record after it is saved
abbrev pub kept : Seen → Seat → Seat
kept x s = record s { signatures = held_by x s.signatures; secrets = s.secrets ++ secret_of x }

-- ---- how the peer is told of a refusal (BOLT 1, "The `error` and `warning` Messages")

-- where the message names a channel, and there is a connection
abbrev pub reply_due : Refusal → Option (List ℕ) → ConnectionState → Option Wire
reply_due r None c = None
reply_due r (Some channel) c = if is_down c then None else reply_to r channel

abbrev pub with_reply : Message → Seat → Seat
with_reply m s = record s { line = with_message (record { message = m; blank = None }) s.line }

pub record IsReplied (w : Wire) (r e : Refusal) (s new : Seat) : Type 0 where
  pub reply : Message
  pub says : wire reply ≡ w
  pub refusal : e ≡ r
  pub line : new ≡ with_reply reply s

-- the reply waits, or the link halts where there is no memory for it
abbrev pub Replies : Option Wire → Refusal → Refusal → Seat → Seat → Type 0
Replies None r e s new = (e ≡ r) × (new ≡ s)
Replies (Some w) r e s new = IsReplied w r e s new ⊎ ((e ≡ refusal.Memory) × (new ≡ halted s))

-- ---- a message, by what the link answers

-- taken, what it has is kept and what it hands out waits; refused, nothing of it is kept
abbrev pub Heard : Message → Seen → Result (List Output) Refusal → Seat → Result (Unit {0}) Refusal → Seat → Type 0
Heard m x (Ok os) s result new = Hands os (kept x s) result new
Heard m x (Err r) s (Ok u) new = ⊥
Heard m x (Err r) s (Err e) new = Replies (reply_due r (channel_of m) s.link.connection) r e (handed [] s) new

pub record IsTaken (m : Message) (x : Seen) (result : Result (Unit {0}) Refusal) (s new : Seat) : Type 0 where
  pub answer : Result (List Output) Refusal
  pub link : State HostKeys
  pub records : Records
  pub answers : AnswersOver (λ os. os) (host_signer s.link.keys) s.link m answer link (in_memory s.records)
      (in_memory records)
  pub hears : Heard m x answer (with_link link records s) result new

-- want of memory before the link takes it changes nothing
abbrev pub TakesUnlessMemory : Message → Seen → Answer → Result (Unit {0}) Refusal → Seat → Seat → Type 0
TakesUnlessMemory m x a result old new =
    ((result ≡ Err refusal.Memory) × (new ≡ old)) ⊎ IsTaken m x result (told a old) new

-- ---- a message with an answer

abbrev pub by_link : Result (Unit {0}) Refusal → Result (Unit {0}) HostRefusal
by_link (Ok u) = Ok u
by_link (Err r) = Err (host.Refused r)

-- by 80 and 81, and by want of memory before the link takes it, nothing has changed
abbrev pub ByAnswer : Message → Seen → Result Answer HostRefusal → Result (Unit {0}) HostRefusal → Seat → Seat → Type 0
ByAnswer m x (Err e) result old new =
    (new ≡ old) × ((result ≡ Err e) ⊎ (result ≡ Err (host.Refused refusal.Memory)))
ByAnswer m x (Ok a) result old new =
    (taken : Result (Unit {0}) Refusal) × (result ≡ by_link taken) × TakesUnlessMemory m x a taken old new

abbrev pub IsHeard : Message → List ℕ → Result (Unit {0}) HostRefusal → Seat → Seat → Type 0
IsHeard m bytes result old new =
    ByAnswer m (seen_in (question_of old.link m) m) (answer_of (question_of old.link m) bytes) result old new
