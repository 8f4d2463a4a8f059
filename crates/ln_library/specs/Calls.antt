-- The calls of a link by bytes: what is read, which call of ln_host it is, and what is written.
use Rattle.std.specs.Prelude.{◌≡◌, ◌≢◌, ◌⊎◌, ℕ, List, [], length, Option, Some, None, Result, Ok, Err, ◌==◌}
use Rattle.std.specs.Prelude.{if◌then◌else◌}
use Rattle.ln_msgs.specs.declared.messages.message.Message.{Message}
use Rattle.ln_refusals.specs.declared.refusal.Refusal.{Refusal}
use Rattle.ln_refusals.specs.declared.refusal.Refusal.TheVariants as refusal
use Rattle.ln_msgs.specs.Messages.Message.{wire_bytes}
use Rattle.ln_msgs.specs.Messages.Typed.{wire}
use Rattle.ln_channel.specs.declared.command.Command.{Command}
use Rattle.ln_channel.specs.declared.machine.Stage.{Stage}
use Rattle.ln_channel.specs.State.{State}
use Rattle.ln_host.specs.declared.answer.HostRefusal.{HostRefusal}
use Rattle.ln_host.specs.declared.answer.HostRefusal.TheVariants as host
use Rattle.ln_host.specs.declared.keys.HostKeys.{HostKeys}
use Rattle.ln_host.specs.declared.line.Head.{Head}
use Rattle.ln_host.specs.declared.line.Head.TheVariants as head
use Rattle.ln_host.specs.declared.line.Told.{Told}
use Rattle.ln_host.specs.declared.line.Told.TheVariants as told
use Rattle.ln_host.specs.declared.question.Question.{Question}
use Rattle.ln_host.specs.declared.record.HostRecord.{HostRecord}
use Rattle.ln_host.specs.Hearing.{IsHeard, by_link}
use Rattle.ln_host.specs.Hosted.{Seat, IsObeyed, new_hosted, funded, host_record}
use Rattle.ln_host.specs.Line.{IsHead}
use Rattle.ln_host.specs.Question.{question_of}
use Rattle.ln_host.specs.Seats.{ComesBack, IsRefusedRecord}
use Rattle.ln_wire.specs.Commands.{command_form}
use Rattle.ln_wire.specs.Forms.{Gives, whole_in, written_in}
use Rattle.ln_wire.specs.Items.{saved as saved_form, item_form}
use Rattle.ln_wire.specs.declared.items.Item.TheVariants as item
use Rattle.ln_wire.specs.Questions.{question_form}
use Rattle.ln_library.specs.Messages.{Reads, IsWritable, CannotBeWritten}

-- ---- a link that begins, by what was read, where that is fit for it, and by a point of 33 bytes

-- bytes of another number than this are answered by 81
abbrev pub exactly : ℕ → List ℕ → Result (List ℕ) HostRefusal
exactly n bytes = if length bytes == n then Ok bytes else Err host.Answer

-- a new link of ln_host, at the stage of what was read
pub record Begins {A : Type 0} (Fits : A → Type 0) (stage_of : A → Stage) (read : Result A Refusal) (point : List ℕ)
    (s : Seat) : Type 0 where
  pub value : A
  pub is_read : read ≡ Ok value
  pub fits : Fits value
  pub point_length : length point ≡ 33
  pub seat : s ≡ new_hosted point (stage_of value)

-- the bytes are none, or what they are isn't fit: 40
abbrev pub IsUnfit : {A : Type 0} → (A → Type 0) → Result A Refusal → HostRefusal → Type 0
IsUnfit Fits (Ok x) e = (e ≡ host.Refused refusal.NotReady) × ¬ Fits x
IsUnfit Fits (Err r) e = e ≡ host.Refused r

-- 81 to a point of another length comes first
abbrev pub CannotBegin : {A : Type 0} → (A → Type 0) → Result A Refusal → List ℕ → HostRefusal → Type 0
CannotBegin Fits read point e =
    (e ≡ host.Refused refusal.Memory)
    ⊎ (((length point ≢ 33) × (e ≡ host.Answer)) ⊎ ((length point ≡ 33) × IsUnfit Fits read e))

-- the link of what a host saved
pub record IsLoaded (bytes : List ℕ) (s : Seat) : Type 0 where
  pub saved : HostRecord
  pub is_read : whole_in saved_form bytes ≡ Ok saved
  pub comes_back : ComesBack saved s

-- the bytes are nothing that a host saved, or their record is refused
abbrev pub IsUnloadable : Result HostRecord Refusal → Refusal → Type 0
IsUnloadable (Ok r) e = IsRefusedRecord r e
IsUnloadable (Err r) e = e ≡ r

abbrev pub CannotLoad : List ℕ → Refusal → Type 0
CannotLoad bytes e = (e ≡ refusal.Memory) ⊎ IsUnloadable (whole_in saved_form bytes) e

-- ---- messages and commands

abbrev pub question_bytes : Option Question → Result (List ℕ) Refusal
question_bytes None = Ok []
question_bytes (Some q) = written_in question_form q

-- nothing is asked about a message that is ignored
abbrev pub asked_about : State HostKeys → Option Message → Option Question
asked_about l None = None
asked_about l (Some m) = question_of l m

-- the bytes of the question about the message that these bytes are
abbrev pub AsksBy : {V : Type 0} → (V → List ℕ) → State HostKeys → Result (Option Message) Refusal → Result V Refusal
    → Type 0
AsksBy view l (Ok m) result = Gives view result (question_bytes (asked_about l m))
AsksBy view l (Err e) result = result ≡ Err e

pub record Asks {V : Type 0} (view : V → List ℕ) (l : State HostKeys) (bytes : List ℕ) (result : Result V Refusal)
    : Type 0 where
  pub message : Result (Option Message) Refusal
  pub is_read : Reads bytes message
  pub asks : AsksBy view l message result

-- one that is ignored does nothing
abbrev pub HearsBy : Result (Option Message) Refusal → List ℕ → Result (Unit {0}) HostRefusal → Seat → Seat → Type 0
HearsBy (Ok (Some m)) answer result old new = IsHeard m answer result old new
HearsBy (Ok None) answer result old new = (result ≡ Ok tt) × (new ≡ old)
HearsBy (Err e) answer result old new = (result ≡ Err (host.Refused e)) × (new ≡ old)

pub record Hears (bytes answer : List ℕ) (result : Result (Unit {0}) HostRefusal) (old new : Seat) : Type 0 where
  pub message : Result (Option Message) Refusal
  pub is_read : Reads bytes message
  pub hears : HearsBy message answer result old new

abbrev pub ObeysBy : Result Command Refusal → Result (Unit {0}) Refusal → Seat → Seat → Type 0
ObeysBy (Ok c) result old new = IsObeyed c result old new
ObeysBy (Err e) result old new = (result ≡ Err e) × (new ≡ old)

pub record Obeys (bytes : List ℕ) (result : Result (Unit {0}) Refusal) (old new : Seat) : Type 0 where
  pub command : Result Command Refusal
  pub is_read : Gives (λ c. c) command (whole_in command_form bytes)
  pub obeys : ObeysBy command result old new

-- ---- a funding that is named

abbrev pub funding_row : List ℕ → Result (Unit {0}) Refusal → Result (Unit {0}) HostRefusal
funding_row txid answer = if length txid == 32 then by_link answer else Err host.Answer

abbrev pub funded_by : List ℕ → ℕ → Seat → Seat
funded_by txid output s = if length txid == 32 then funded txid output s else s

-- ---- what stands first in the line, as an item

-- a message as its bytes
abbrev pub Sends : {V : Type 0} → (V → List ℕ) → Message → Result V Refusal → Type 0
Sends view m (Ok v) =
    (written_in item_form (item.Send (wire_bytes (wire m))) ≡ Ok (view v)) × IsWritable (wire m)
Sends view m (Err e) = (e ≡ refusal.Memory) ⊎ ((e ≡ refusal.TooLong) × CannotBeWritten (wire m))

abbrev pub record_bytes : Option HostRecord → Result (List ℕ) Refusal
record_bytes None = Ok []
record_bytes (Some r) = written_in item_form (item.Record r)

abbrev pub told_bytes : Told → Result (List ℕ) Refusal
told_bytes (told.Event n e) = written_in item_form (item.Event n e)
told_bytes (told.Closed fee) = written_in item_form (item.Closed fee)

-- the record is what waits to be saved; where nothing waits there are no bytes, for which no memory is wanted
abbrev pub ShowsHead : {V : Type 0} → (V → List ℕ) → Seat → Option Head → Result V Refusal → Type 0
ShowsHead view s None (Ok v) = view v ≡ []
ShowsHead view s None (Err e) = ⊥
ShowsHead view s (Some head.Record) result = Gives view result (record_bytes (host_record s))
ShowsHead view s (Some (head.Blank b)) result = Gives view result (written_in item_form (item.Blank b.now))
ShowsHead view s (Some (head.Send m)) result = Sends view m.now result
ShowsHead view s (Some (head.Told t)) result = Gives view result (told_bytes t.now)

pub record Shows {V : Type 0} (view : V → List ℕ) (s : Seat) (result : Result V Refusal) : Type 0 where
  pub head : Option Head
  pub is_head : IsHead s.line head
  pub shows : ShowsHead view s head result
