-- The events of a channel end by number: those that were decided, and after them the undecided ones in their order;
-- what was decided about HTLCs, and what became of those that were forwarded.
use Rattle.std.specs.Prelude.{ℕ, ◌+◌, ◌^◌, List, [], ◌∷◌, ◌++◌, length, drop, filter, Bool, true, false, not}
use Rattle.std.specs.Prelude.{◌&&◌, ◌||◌, ◌==◌, nat_lt, Option, Some, None, option_map, Result, Ok, Err, if◌then◌else◌}
use Rattle.std.specs.List.{cons_option, list_any}
use Rattle.ln_refusals.specs.declared.refusal.Refusal.{Refusal}
use Rattle.ln_refusals.specs.declared.refusal.Refusal.TheVariants as refusal
use Rattle.ln_log.specs.declared.update.Add.{Add}
use Rattle.ln_log.specs.declared.update.Removal.{Removal}
use Rattle.ln_log.specs.declared.update.Update.{Update}
use Rattle.ln_log.specs.declared.mark.Decision.{Decision}
use Rattle.ln_log.specs.declared.mark.EventRef.{EventRef}
use Rattle.ln_log.specs.declared.mark.EventRef.TheVariants as ref
use Rattle.ln_log.specs.declared.mark.Mark.{Mark}
use Rattle.ln_log.specs.declared.mark.Mark.TheVariants as mark
use Rattle.ln_log.specs.declared.mark.Settlement.{Settlement}
use Rattle.ln_log.specs.Updates.{offered, removed, add_with}
use Rattle.ln_log.specs.Mark.{is_held, is_held_by}
use Rattle.ln_log.specs.Log.{Log, update_at}
use Rattle.ln_hooks.specs.Event.{event_of}

pub record Ledger : Type 0 where
  pub decided : ℕ
  pub undecided : List EventRef
  pub decisions : List Decision
  pub results : List Settlement

-- an end has no more events: 2^62 updates of either side, and the close
abbrev pub most_decided : ℕ
most_decided = 2 ^ 63 + 1

abbrev pub no_events : Ledger
no_events = record { decided = 0; undecided = []; decisions = []; results = [] }

-- ---- events

-- the number of the next event
abbrev pub next_event : Ledger → ℕ
next_event l = l.decided + length l.undecided

-- the update of this number, of this side's own or of the peer's
abbrev pub ref_of : Bool → ℕ → EventRef
ref_of true n = ref.Own n
ref_of false n = ref.Peer n

-- which updates of one side are events, where the first one has this number
abbrev pub refs_of : Bool → ℕ → List Update → List EventRef
refs_of own n [] = []
refs_of own n (u ∷ us) = cons_option (option_map (λ e. ref_of own n) (event_of own u)) (refs_of own (n + 1) us)

abbrev pub entered : List EventRef → Ledger → Ledger
entered rs l = record l { undecided = l.undecided ++ rs }

-- ---- results: what became of the own HTLCs that forward others

abbrev pub origin_of : Option Add → Option (List ℕ × ℕ)
origin_of None = None
origin_of (Some a) = a.origin

-- an HTLC that forwards none gives none
abbrev pub settlement_from : ℕ → Update → Option (List ℕ × ℕ) → Option Settlement
settlement_from id u None = None
settlement_from id u (Some o) = Some (record { id = id; origin = o; removal = u })

abbrev pub settlement_of : List Update → Update → Option Removal → Option Settlement
settlement_of own u None = None
settlement_of own u (Some r) = settlement_from r.id u (origin_of (add_with r.id own))

-- by the update of the peer's that removes an own HTLC
abbrev pub settlement_by : List Update → Update → Option Settlement
settlement_by own u = settlement_of own u (removed u)

abbrev pub settlements : List Update → List Update → List Settlement
settlements own [] = []
settlements own (u ∷ us) = cons_option (settlement_by own u) (settlements own us)

-- the results of updates of the peer's that are newly held
abbrev pub resulted : List Update → List Update → Ledger → Ledger
resulted own us l = record l { results = l.results ++ settlements own us }

-- ---- a decision

abbrev pub id_offered : Option Add → Option ℕ
id_offered None = None
id_offered (Some a) = Some a.id

-- the HTLC that an update offers
abbrev pub htlc_offered : Option Update → Option ℕ
htlc_offered None = None
htlc_offered (Some u) = id_offered (offered u)

-- the peer's HTLC that an event tells of
abbrev pub htlc_of : Log → EventRef → Option ℕ
htlc_of log (ref.Own n) = None
htlc_of log (ref.Peer n) = htlc_offered (update_at log.first.peer log.received n)
htlc_of log ref.Close = None

-- the one that the first of these events tells of
abbrev pub first_htlc : Log → List EventRef → Option ℕ
first_htlc log [] = None
first_htlc log (r ∷ rs) = htlc_of log r

-- None does nothing; any other mark needs an HTLC of the peer's, and is kept
abbrev pub marked : Mark → Option ℕ → Ledger → Result Ledger Refusal
marked mark.None htlc l = Ok l
marked m None l = Err refusal.NotReady
marked m (Some id) l = Ok (record l { decisions = l.decisions ++ record { id = id; mark = m } ∷ [] })

-- the first undecided event is decided
abbrev pub decided_first : Result Ledger Refusal → Result Ledger Refusal
decided_first (Ok l) = Ok (record l { decided = l.decided + 1; undecided = drop 1 l.undecided })
decided_first (Err r) = Err r

-- events are decided in turn: the event of this number is the first undecided one
abbrev pub is_in_turn : ℕ → Ledger → Bool
is_in_turn event l = (event == l.decided) && (nat_lt event most_decided && nat_lt 0 (length l.undecided))

-- an HTLC is held by the number of its own event
abbrev pub is_of_event : ℕ → Mark → Bool
is_of_event event m = not (is_held m) || is_held_by event m

-- the event of this number, which tells of this HTLC of the peer's if of one, is decided so
abbrev pub decide_row : ℕ → Mark → Option ℕ → Ledger → Result Ledger Refusal
decide_row event m htlc l =
    if is_in_turn event l && is_of_event event m then decided_first (marked m htlc l) else Err refusal.NotReady

-- ---- a held HTLC is resumed

abbrev pub is_held_at : ℕ → Decision → Bool
is_held_at event d = is_held_by event d.mark

-- the first of these decisions that is held so gets the mark in its place
abbrev pub with_mark : ℕ → Mark → List Decision → List Decision
with_mark event m [] = []
with_mark event m (d ∷ ds) =
    if is_held_at event d then record { id = d.id; mark = m } ∷ ds else d ∷ with_mark event m ds

-- a mark that says what becomes of an HTLC: it is neither to be held again, nor to be left with nothing done
abbrev pub is_answer : Mark → Bool
is_answer mark.None = false
is_answer (mark.Held n) = false
is_answer m = true

-- one is held so, and it is answered
abbrev pub may_resume : ℕ → Mark → Ledger → Bool
may_resume event m l = is_answer m && list_any (is_held_at event) l.decisions

abbrev pub resume_held_row : ℕ → Mark → Ledger → Result Ledger Refusal
resume_held_row event m l =
    if may_resume event m l then Ok (record l { decisions = with_mark event m l.decisions }) else Err refusal.NotReady

-- ---- a result that has been passed on

abbrev pub is_not_of : ℕ → Settlement → Bool
is_not_of id s = not (s.id == id)

abbrev pub forgotten : ℕ → Ledger → Ledger
forgotten id l = record l { results = filter (is_not_of id) l.results }
