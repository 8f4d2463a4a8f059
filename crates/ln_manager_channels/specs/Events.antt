-- The events of a channel's end that aren't decided, and which of them its book hears.
use Rattle.std.specs.Prelude.{ℕ, ◌+◌, ◌-◌, ◌^◌, min, List, [], ◌∷◌, length, slice_get, true, false, nat_lt}
use Rattle.std.specs.Prelude.{Option, Some, None, option_map, if◌then◌else◌}
use Rattle.ln_log.specs.declared.mark.EventRef.{EventRef}
use Rattle.ln_log.specs.declared.mark.EventRef.TheVariants as ref
use Rattle.ln_log.specs.declared.log.Side.{Side}
use Rattle.ln_log.specs.declared.log.Side.TheVariants as side
use Rattle.ln_log.specs.declared.update.Update.{Update}
use Rattle.ln_log.specs.Log.{Log, first_of, updates_of, update_at}
use Rattle.ln_hooks.specs.declared.event.ChannelEvent.{ChannelEvent}
use Rattle.ln_channel.specs.Ledger.{Ledger}
use Rattle.ln_channel.specs.End.{End}
use Rattle.ln_channel.specs.Pending.{event_in, named_by}

-- how many it has told
abbrev pub event_count : Option End → ℕ
event_count None = 0
event_count (Some e) = min (e.ledger.decided + length e.ledger.undecided) (2 ^ 64 - 1)

-- ---- the first one

abbrev pub first_named : List EventRef → End → Option ChannelEvent
first_named [] e = None
first_named (r ∷ rs) e = named_by r e

abbrev pub first_event : Option End → Option ChannelEvent
first_event None = None
first_event (Some e) = first_named e.ledger.undecided e

-- with its channel's id and its number
abbrev pub next_event : Option End → Option (List ℕ × ℕ × ChannelEvent)
next_event None = None
next_event (Some e) = option_map (λ told. (e.dance.channel, e.ledger.decided, told)) (first_named e.ledger.undecided e)

-- ---- that of a number

abbrev pub entry_at : ℕ → Ledger → Option EventRef
entry_at n l = if nat_lt n l.decided then None else slice_get l.undecided (n - l.decided)

-- how many updates of a side a log holds as irrevocably committed
abbrev pub held_count : Side → Log → ℕ
held_count side.Own l = l.current.own
held_count side.Peer l = l.acknowledged.peer

abbrev pub held_update : Side → ℕ → Log → Option Update
held_update x n l = if nat_lt n (held_count x l) then update_at (first_of x l) (updates_of x l) n else None

-- where the end holds it as irrevocably committed
abbrev pub held_event : EventRef → End → Option ChannelEvent
held_event (ref.Own n) e = event_in true (held_update side.Own n e.dance.log)
held_event (ref.Peer n) e = event_in false (held_update side.Peer n e.dance.log)
held_event ref.Close e = None

abbrev pub held_by : Option EventRef → End → Option ChannelEvent
held_by None e = None
held_by (Some r) e = held_event r e

abbrev pub told_event : ℕ → End → Option ChannelEvent
told_event n e = held_by (entry_at n e.ledger) e

abbrev pub told_in : ℕ → Option End → Option ChannelEvent
told_in n None = None
told_in n (Some e) = told_event n e
