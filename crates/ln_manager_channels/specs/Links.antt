-- The links of channels, by their numbers.
use Rattle.std.specs.Prelude.{ℕ, List, Bool, false, not, ◌&&◌, ◌||◌, Option, Some, None, Result, Ok, Err, slice_get}
use Rattle.std.specs.Prelude.{if◌then◌else◌}
use Rattle.ln_refusals.specs.declared.refusal.Refusal.{Refusal}
use Rattle.ln_channel.specs.Asking.{agreed_end}
use Rattle.ln_channel.specs.End.{End}
use Rattle.ln_channel.specs.Record.{saved_end}
use Rattle.ln_channel.specs.State.{State, is_down}
use Rattle.ln_book_tables.specs.Replay.{same}
use Rattle.ln_book.specs.declared.switch.uses.Use.{Use}
use Rattle.ln_book.specs.Uses.{use_of}
use Rattle.ln_manager_channels.specs.Numbers.{NumbersById, number_at}

-- ---- the link at a place, where there is one

abbrev pub end_in : {K : Type 0} → Option (State K) → Option End
end_in None = None
end_in (Some l) = saved_end l.stage

abbrev pub halted_in : {K : Type 0} → Option (State K) → Bool
halted_in None = false
halted_in (Some l) = l.halted

-- it works and has a connection
abbrev pub is_up : {K : Type 0} → Option (State K) → Bool
is_up None = false
is_up (Some l) = not l.halted && not (is_down l.connection)

abbrev pub id_by_end : Option End → Option (List ℕ)
id_by_end None = None
id_by_end (Some e) = Some e.dance.channel

-- the end of one that works
abbrev pub working_end : {K : Type 0} → Option (State K) → Option End
working_end None = None
working_end (Some l) = if l.halted then None else saved_end l.stage

-- the id of the end of a link that works
abbrev pub working_id : {K : Type 0} → Option (State K) → Option (List ℕ)
working_id None = None
working_id (Some l) = if l.halted then None else id_by_end (saved_end l.stage)

-- whether it was done, or by what it was refused
abbrev pub done_in : {A : Type 0} → Result A Refusal → Result (Unit {0}) Refusal
done_in (Ok v) = Ok tt
done_in (Err r) = Err r

-- what the book is told of its end
abbrev pub use_by : {K : Type 0} → State K → Option End → Option Use
use_by l None = None
use_by l (Some e) = Some (use_of l e)

abbrev pub use_in : {K : Type 0} → Option (State K) → Option Use
use_in None = None
use_in (Some l) = use_by l (saved_end l.stage)

-- ---- channels by their ids

abbrev pub has_id : List ℕ → Option End → Bool
has_id id None = false
has_id id (Some e) = same id e.dance.channel

-- its end has this id, or it works and both sides have agreed on it
abbrev pub is_of : {K : Type 0} → List ℕ → Option (State K) → Bool
is_of id None = false
is_of id (Some l) = has_id id (saved_end l.stage) || (not l.halted && has_id id (agreed_end l.stage))

abbrev pub number_if : {K : Type 0} → List ℕ → List (State K) → Option ℕ → Option ℕ
number_if id ls None = None
number_if id ls (Some n) = if is_of id (slice_get ls n) then Some n else None

-- the number of the channel that has this id, or awaits it
abbrev pub number_in : {K : Type 0} → NumbersById → List (State K) → List ℕ → Option ℕ
number_in by_id ls id = number_if id ls (number_at id by_id)
