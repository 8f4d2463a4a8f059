-- Which events of channels are with the host of a node, and which are for it.
use Rattle.std.specs.Prelude.{ℕ, List, Bool, true, false, not, nat_lt, ◌==◌, ◌&&◌, Option, Some, None, slice_get}
use Rattle.std.specs.Prelude.{Result, Ok, Err, if◌then◌else◌}
use Rattle.ln_refusals.specs.declared.refusal.Refusal.{Refusal}
use Rattle.ln_refusals.specs.declared.refusal.Refusal.TheVariants as refusal
use Rattle.ln_hooks.specs.declared.event.ChannelEvent.{ChannelEvent}
use Rattle.ln_channel.specs.End.{End}
use Rattle.ln_channel.specs.State.{State}
use Rattle.ln_manager_channels.specs.Events.{first_event}
use Rattle.ln_manager_channels.specs.Links.{end_in, halted_in}
use Rattle.ln_manager_channels.specs.Places.{changed_at}

-- ---- the first undecided event of each channel is with the host, or isn't

abbrev pub marked : Option Bool → Bool
marked None = false
marked (Some with_host) = with_host

abbrev pub is_with_host : ℕ → List Bool → Bool
is_with_host c marks = marked (slice_get marks c)

abbrev pub marked_at : ℕ → Bool → List Bool → List Bool
marked_at c with_host marks = changed_at c (λ m. with_host) marks

-- ---- which one is for the host

-- its number
abbrev pub decided_in : Option End → ℕ
decided_in None = 0
decided_in (Some e) = e.ledger.decided

-- the link works, the host hasn't the event, and its record is saved
abbrev pub is_for_host : {K : Type 0} → Option (State K) → Bool → ℕ → Bool
is_for_host l with_host saved = not (halted_in l) && (not with_host && nat_lt (decided_in (end_in l)) saved)

abbrev pub event_if : {K : Type 0} → Bool → Option (State K) → Option ChannelEvent
event_if for_host l = if for_host then first_event (end_in l) else None

-- so many events of the saved record
abbrev pub event_for_host : {K : Type 0} → Option (State K) → Bool → ℕ → Option ChannelEvent
event_for_host l with_host saved = event_if (is_for_host l with_host saved) l

-- ---- what the host may decide

abbrev pub deciding : Bool → Bool → Result (Unit {0}) Refusal
deciding true is_it = Err refusal.Halted
deciding false true = Ok tt
deciding false false = Err refusal.NotReady

-- 62 of a link that has halted; 40 where the event of this number isn't with the host
abbrev pub may_decide : {K : Type 0} → Option (State K) → Bool → ℕ → Result (Unit {0}) Refusal
may_decide l with_host event = deciding (halted_in l) (with_host && (decided_in (end_in l) == event))
