-- What a link hands out: first messages to the peer, then what it tells.
use Rattle.std.specs.Prelude.{ℕ, ◌+◌, List, [], ◌∷◌, ◌++◌, Bool}
use Rattle.std.specs.List.{cons_option}
use Rattle.ln_msgs.specs.declared.messages.message.Message.{Message}
use Rattle.ln_log.specs.declared.update.Update.{Update}
use Rattle.ln_hooks.specs.declared.event.ChannelEvent.{ChannelEvent}
use Rattle.ln_hooks.specs.Event.{event_of}
use Rattle.ln_channel.specs.declared.output.Output.{Output}
use Rattle.ln_channel.specs.declared.output.Output.TheVariants as output

-- messages to the peer, and what is told
pub record Handed : Type 0 where
  pub sent : List Output
  pub told : List Output

abbrev pub nothing : Handed
nothing = record { sent = []; told = [] }

abbrev pub sends : List Message → Handed → Handed
sends [] h = h
sends (m ∷ ms) h = sends ms (record h { sent = h.sent ++ output.Send m ∷ [] })

abbrev pub all_of : Handed → List Output
all_of h = h.sent ++ h.told

-- the events of updates of one side, in their order
abbrev pub events_of : Bool → List Update → List ChannelEvent
events_of own [] = []
events_of own (u ∷ us) = cons_option (event_of own u) (events_of own us)

-- events with their numbers, from this one on
abbrev pub numbered : ℕ → List ChannelEvent → List Output
numbered n [] = []
numbered n (e ∷ es) = output.Event n e ∷ numbered (n + 1) es
