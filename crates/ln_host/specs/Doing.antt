-- What stands first in the line of a link is dealt with by its host.
use Rattle.std.specs.Prelude.{◌≡◌, ◌⊎◌, ℕ, List, [], ◌∷◌, length, ◌==◌, Bool, true, false, ◌||◌}
use Rattle.std.specs.Prelude.{Option, Some, None, Result, Ok, Err, if◌then◌else◌}
use Rattle.std.specs.FinMap as finite
use Rattle.ln_refusals.specs.declared.refusal.Refusal.TheVariants as refusal
use Rattle.ln_host.specs.declared.answer.HostRefusal.{HostRefusal}
use Rattle.ln_host.specs.declared.answer.HostRefusal.TheVariants as host
use Rattle.ln_host.specs.declared.blank.Blank.{Blank}
use Rattle.ln_host.specs.declared.filling.Filling.{Filling}
use Rattle.ln_host.specs.declared.line.Outgoing.{Outgoing}
use Rattle.ln_host.specs.declared.line.Told.{Told}
use Rattle.ln_host.specs.Blank.{filling_at}
use Rattle.ln_host.specs.Hosted.{Seat, record_of}
use Rattle.ln_host.specs.Line.{Waiting, without_head, first_filled, is_blank_first}

-- what stands first after it wasn't shown yet
abbrev pub with_line : Waiting → Seat → Seat
with_line w s = record s { line = w; is_shown = false }

-- it leaves
abbrev pub taken_off : Seat → Seat
taken_off s = with_line (without_head s.line) s

-- the record is what the host has, with the secrets that came before it
abbrev pub record_saved : Seat → Seat
record_saved s = record (taken_off s) { records = finite.empty; taken = record_of s; secrets = [] }

-- it has no blank, so it takes no answer: 81
abbrev pub unanswered : List ℕ → Seat → Result Seat HostRefusal
unanswered answer s = if length answer == 0 then Ok s else Err host.Answer

abbrev pub filled_first : Filling → Seat → Seat
filled_first f s = with_line (record s.line { messages = first_filled f s.line.messages }) s

-- 81 where what is given is none of it
abbrev pub filled_by : Option Filling → Seat → Result Seat HostRefusal
filled_by None s = Err host.Answer
filled_by (Some f) s = Ok (filled_first f s)

abbrev pub message_done : Option Blank → List ℕ → Seat → Result Seat HostRefusal
message_done None answer s = unanswered answer (taken_off s)
message_done (Some b) answer s = filled_by (filling_at b answer) s

abbrev pub told_done : List Told → List ℕ → Seat → Result Seat HostRefusal
told_done [] answer s = Err (host.Refused refusal.NotReady)
told_done (t ∷ ts) answer s = unanswered answer (taken_off s)

abbrev pub first_done : List Outgoing → List ℕ → Seat → Result Seat HostRefusal
first_done [] answer s = told_done s.line.told answer s
first_done (m ∷ ms) answer s = message_done m.blank answer s

abbrev pub head_done : List ℕ → Seat → Result Seat HostRefusal
head_done answer s =
    if s.line.record_waits then unanswered answer (record_saved s) else first_done s.line.messages answer s

-- what done makes of it: 40 where nothing waits, or what stands first wasn't shown
abbrev pub done_by : List ℕ → Seat → Result Seat HostRefusal
done_by answer s = if s.is_shown then head_done answer s else Err (host.Refused refusal.NotReady)

-- a record or a filling is kept
abbrev pub takes_memory : Waiting → Bool
takes_memory w = w.record_waits || is_blank_first w.messages

-- refused, nothing has changed; a record or a filling may want memory
abbrev pub IsDone : Result Seat HostRefusal → Result (Unit {0}) HostRefusal → Seat → Seat → Type 0
IsDone done (Ok u) old new = done ≡ Ok new
IsDone done (Err e) old new =
    (new ≡ old)
    × ((done ≡ Err e) ⊎ ((e ≡ host.Refused refusal.Memory) × (takes_memory old.line ≡ true)))
