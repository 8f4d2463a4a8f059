-- The events that an end has yet to decide, as it has them now.
use Rattle.std.specs.Prelude.{ℕ, ◌+◌, List, [], ◌∷◌, true, false, Bool, Option, Some, None, option_map}
use Rattle.std.specs.List.{cons_option}
use Rattle.ln_log.specs.declared.update.Update.{Update}
use Rattle.ln_log.specs.declared.mark.EventRef.{EventRef}
use Rattle.ln_log.specs.declared.mark.EventRef.TheVariants as ref
use Rattle.ln_log.specs.Log.{update_at}
use Rattle.ln_hooks.specs.declared.event.ChannelEvent.{ChannelEvent}
use Rattle.ln_hooks.specs.declared.event.ChannelEvent.TheVariants as event
use Rattle.ln_hooks.specs.Event.{event_of}
use Rattle.ln_channel.specs.declared.machine.Stage.{Stage}
use Rattle.ln_channel.specs.declared.machine.Stage.TheVariants as stage
use Rattle.ln_channel.specs.End.{End}

-- the event of an update, where there is one
abbrev pub event_in : Bool → Option Update → Option ChannelEvent
event_in own None = None
event_in own (Some u) = event_of own u

-- the event that an entry of the ledger names
abbrev pub named_by : EventRef → End → Option ChannelEvent
named_by (ref.Own n) e = event_in true (update_at e.dance.log.first.own e.dance.log.own n)
named_by (ref.Peer n) e = event_in false (update_at e.dance.log.first.peer e.dance.log.received n)
named_by ref.Close e = option_map event.Closed e.closing.closed

-- those of these entries, each with its number, where the first entry has this one
abbrev pub pending_from : ℕ → List EventRef → End → List (ℕ × ChannelEvent)
pending_from n [] e = []
pending_from n (r ∷ rs) e =
    cons_option (option_map (λ event. (n, event)) (named_by r e)) (pending_from (n + 1) rs e)

-- the undecided ones
abbrev pub pending_events : End → List (ℕ × ChannelEvent)
pending_events e = pending_from e.ledger.decided e.ledger.undecided e

-- a link has none before both have signed the opening
abbrev pub pending_at : Stage → List (ℕ × ChannelEvent)
pending_at (stage.Funded e) = pending_events e
pending_at s = []
