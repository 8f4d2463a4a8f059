-- A link whose host brings keys, disk and sockets: what it keeps, and what a call hands to its line.
use Rattle.std.specs.Prelude.{◌≡◌, ℕ, List, [], ◌∷◌, ◌++◌, Bool, true, false, not, Option, Some, None, Result, Ok, Err}
use Rattle.std.specs.Prelude.{replicate, map}
use Rattle.std.specs.FinMap as finite
use Rattle.ln_bytes.specs.Same.{are_same}
use Rattle.ln_refusals.specs.declared.refusal.Refusal.{Refusal}
use Rattle.ln_refusals.specs.declared.refusal.Refusal.TheVariants as refusal
use Rattle.ln_hooks.specs.declared.event.ChannelEvent.{ChannelEvent}
use Rattle.ln_store.specs.Store.{Records, in_memory}
use Rattle.ln_channel.specs.declared.command.Command.{Command}
use Rattle.ln_channel.specs.declared.machine.Stage.{Stage}
use Rattle.ln_channel.specs.declared.output.Output.{Output}
use Rattle.ln_channel.specs.declared.output.Output.TheVariants as output
use Rattle.ln_channel.specs.Asking.{with_named}
use Rattle.ln_channel.specs.End.{End}
use Rattle.ln_channel.specs.Pending.{pending_at}
use Rattle.ln_channel.specs.Record.{saved_end}
use Rattle.ln_channel.specs.State.{State, begun, drops, halts}
use Rattle.ln_channel.specs.Step.{Answered, commanded, connected}
use Rattle.ln_link.specs.Saving.{AnswersCommand}
use Rattle.ln_host.specs.declared.keys.HostKeys.{HostKeys}
use Rattle.ln_host.specs.declared.line.Told.{Told}
use Rattle.ln_host.specs.declared.line.Told.TheVariants as told
use Rattle.ln_host.specs.declared.record.HeldSignatures.{HeldSignatures}
use Rattle.ln_host.specs.declared.record.HostRecord.{HostRecord}
use Rattle.ln_host.specs.declared.record.PeerSecret.{PeerSecret}
use Rattle.ln_host.specs.Keys.{host_signer}
use Rattle.ln_host.specs.Blank.{blank_of}
use Rattle.ln_host.specs.Line.{Waiting, empty, covered_by, with_record, with_message, with_told, lost}

-- ---- what it keeps

-- as a call finds it or leaves it
pub record Seat : Type 0 where
  pub link : State HostKeys
  pub first_point : List ℕ  -- the own per commitment point of commitment 0
  pub records : Records  -- what the link has saved since the record that the host has
  pub taken : Option (List ℕ)  -- the record that the host has
  pub signatures : Option HeldSignatures  -- the peer's, over the own commitment
  pub secrets : List PeerSecret  -- the peer's, since the record that the host has
  pub line : Waiting
  pub is_shown : Bool  -- the host was shown what stands first, and no call came since

-- nothing is saved yet, and nothing waits
abbrev pub hosted : List ℕ → State HostKeys → Seat
hosted first_point l = record {
  link = l;
  first_point = first_point;
  records = finite.empty;
  taken = None;
  signatures = None;
  secrets = [];
  line = empty;
  is_shown = false;
}

-- keys of a host that has told nothing yet
abbrev pub keys_with : List ℕ → HostKeys
keys_with first_point = record { first_point = first_point; is_right = false; secret = replicate 32 0 }

-- a new link
abbrev pub new_hosted : List ℕ → Stage → Seat
new_hosted first_point s = hosted first_point (begun (keys_with first_point) s)

-- ---- what the host has saved

-- the record of an end that was saved since
abbrev pub record_in : Option End → Records → Option (List ℕ)
record_in None rs = None
record_in (Some e) rs = finite.get rs e.dance.channel

-- that of the link
abbrev pub record_of : Seat → Option (List ℕ)
record_of s = record_in (saved_end s.link.stage) s.records

abbrev pub is_taken : Option (List ℕ) → List ℕ → Bool
is_taken None bytes = false
is_taken (Some taken) bytes = are_same taken bytes

-- the record isn't what the host has taken
abbrev pub is_unsaved : Option (List ℕ) → Option (List ℕ) → Bool
is_unsaved None taken = false
is_unsaved (Some bytes) taken = not (is_taken taken bytes)

abbrev pub waits : Seat → Bool
waits s = is_unsaved (record_of s) s.taken

-- ---- what the host is shown to be saved: the record, and what the chain may need that no record has

abbrev pub saved_with : List ℕ → Option (List ℕ) → Seat → Option HostRecord
saved_with channel None s = None
saved_with channel (Some bytes) s = Some
    (record { channel = channel; signatures = s.signatures; secrets = s.secrets; record_bytes = bytes })

abbrev pub saved_by : Option End → Seat → Option HostRecord
saved_by None s = None
saved_by (Some e) s = saved_with e.dance.channel (finite.get s.records e.dance.channel) s

abbrev pub host_record : Seat → Option HostRecord
host_record s = saved_by (saved_end s.link.stage) s

-- ---- what a call hands out waits in the line

-- a message with what is blank in it, by the stage that the call leaves; an event; the close
abbrev pub with_output : Stage → Output → Waiting → Waiting
with_output s (output.Send m) w = with_message (record { message = m; blank = blank_of s m }) w
with_output s (output.Event n e) w = with_told (told.Event n e) w
with_output s (output.Closed fee) w = with_told (told.Closed fee) w
with_output s (output.Signed n) w = w
with_output s (output.Committed own peer) w = w

abbrev pub with_outputs : Stage → List Output → Waiting → Waiting
with_outputs s [] w = w
with_outputs s (o ∷ os) w = with_outputs s os (with_output s o w)

-- the first of them wait, and not all
pub record WaitInPart (s : Stage) (os : List Output) (old new : Waiting) : Type 0 where
  pub first : List Output
  pub next : Output
  pub rest : List Output
  pub parts : os ≡ first ++ next ∷ rest
  pub line : new ≡ with_outputs s first old

-- where no record waits, none is kept beside the one that the host has
abbrev pub kept_while : Bool → Records → Records
kept_while true rs = rs
kept_while false rs = finite.empty

-- the record waits where the host hasn't taken it, and what is handed out waits after it; what stands first then wasn't
-- shown yet
abbrev pub handed : List Output → Seat → Seat
handed os s = record s {
  records = kept_while (covered_by (waits s) s.line.record_waits) s.records;
  line = with_outputs s.link.stage os (with_record (waits s) s.line);
  is_shown = false;
}

abbrev pub halted : Seat → Seat
halted s = record s { link = halts s.link }

-- there was no memory for all of them: the first wait, and the link halts
pub record HandsInPart (os : List Output) (s new : Seat) : Type 0 where
  pub first : List Output
  pub next : Output
  pub rest : List Output
  pub parts : os ≡ first ++ next ∷ rest
  pub halts : new ≡ halted (handed first s)

abbrev pub Hands : List Output → Seat → Result (Unit {0}) Refusal → Seat → Type 0
Hands os s (Ok u) new = new ≡ handed os s
Hands os s (Err e) new = (e ≡ refusal.Memory) × HandsInPart os s new

-- ---- a connection, or a command, by what its link answers

-- the link, and what it has saved, as its own call leaves them
abbrev pub with_link : State HostKeys → Records → Seat → Seat
with_link l rs s = record s { link = l; records = rs }

-- what it hands out waits; its refusal is answered
abbrev pub Passes : Result (List Output) Refusal → Seat → Result (Unit {0}) Refusal → Seat → Type 0
Passes (Ok os) s result new = Hands os s result new
Passes (Err r) s result new = (result ≡ Err r) × (new ≡ handed [] s)

pub record IsConnected (result : Result (Unit {0}) Refusal) (old new : Seat) : Type 0 where
  pub answer : Result (List Output) Refusal
  pub link : State HostKeys
  pub answers : Answered (λ os. os) (connected (host_signer old.link.keys) old.link) old.link answer link
  pub passes : Passes answer (with_link link old.records old) result new

pub record IsObeyed (c : Command) (result : Result (Unit {0}) Refusal) (old new : Seat) : Type 0 where
  pub answer : Result (List Output) Refusal
  pub link : State HostKeys
  pub records : Records
  pub answers : AnswersCommand (λ os. os) (commanded (host_signer old.link.keys) old.link c) old.link c answer link
      (in_memory old.records) (in_memory records)
  pub passes : Passes answer (with_link link records old) result new

-- ---- other calls

-- its messages go with a connection
abbrev pub disconnected : Seat → Seat
disconnected s = record s { link = drops s.link; line = lost s.line; is_shown = false }

abbrev pub funded : List ℕ → ℕ → Seat → Seat
funded txid output s = record s { link = record s.link { stage = with_named txid output s.link.stage } }

abbrev pub shown : Seat → Seat
shown s = record s { is_shown = true }

-- ---- a link that comes back from what its host saved

abbrev pub told_event : ℕ × ChannelEvent → Told
told_event p = told.Event p.0 p.1

-- events wait after what is told
abbrev pub with_events : List (ℕ × ChannelEvent) → Waiting → Waiting
with_events ps w = record w { told = w.told ++ map told_event ps }

-- those that aren't decided
abbrev pub with_pending : Seat → Seat
with_pending s = record s { line = with_events (pending_at s.link.stage) s.line }

-- and the peer's signatures are kept
abbrev pub loaded : State HostKeys → HostRecord → Seat
loaded l r = with_pending (record (hosted (replicate 33 0) l) { signatures = r.signatures })
