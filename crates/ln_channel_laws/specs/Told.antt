-- The events that an end tells over a list of steps, and what the machine's moves tell its side.
use Rattle.std.specs.Prelude.{◌≡◌, List, [], ◌∷◌, ◌++◌, Bool, true, false, Option, Some, Result, Ok, Err}
use Rattle.std.specs.List.{cons_option}
use Rattle.ln_msgs.specs.declared.messages.message.Message.{Message}
use Rattle.ln_refusals.specs.declared.refusal.Refusal.{Refusal}
use Rattle.ln_keys.specs.declared.role.Role.{Role}
use Rattle.ln_keys.specs.declared.role.Role.TheVariants.{Funder, Fundee}
use Rattle.ln_keys.specs.Signer.{Signer}
use Rattle.ln_log.specs.Events.{Event, Held, ClosedAt}
use Rattle.ln_hooks.specs.declared.event.ChannelEvent.{ChannelEvent}
use Rattle.ln_hooks.specs.declared.event.ChannelEvent.TheVariants as event
use Rattle.ln_hooks.specs.Event.{event_of}
use Rattle.ln_channel.specs.declared.machine.ConnectionState.{ConnectionState}
use Rattle.ln_channel.specs.declared.output.Output.{Output}
use Rattle.ln_channel.specs.declared.output.Output.TheVariants as output
use Rattle.ln_channel.specs.Outputs.{all_of}
use Rattle.ln_channel.specs.End.{End, Turn}
use Rattle.ln_channel_laws.specs.Ends.{Ends, turned, message_at, command_at, Act, Deliver, Give, Note, Lose, Cut, Save}
use Rattle.ln_channel_laws.specs.Ends.{Step, By, Connect, happens}

-- as an end tells it; an add beyond what an event can tell is none
abbrev pub event_at : Event → Option ChannelEvent
event_at (Held own u) = event_of own u
event_at (ClosedAt fee) = Some (event.Closed fee)

abbrev pub as_told : List Event → List ChannelEvent
as_told [] = []
as_told (e ∷ es) = cons_option (event_at e) (as_told es)

-- the events among what is handed out, with their numbers
abbrev pub events_in : List Output → List Output
events_in [] = []
events_in (output.Send m ∷ os) = events_in os
events_in (output.Signed n ∷ os) = events_in os
events_in (output.Committed own peer ∷ os) = events_in os
events_in (output.Event n e ∷ os) = output.Event n e ∷ events_in os
events_in (output.Closed fee ∷ os) = events_in os

-- what is handed out: messages to the peer, and what is told beside them
abbrev pub told_by : Result Turn Refusal → List Output
told_by (Ok t) = all_of t.handed
told_by (Err r) = []

abbrev pub told_on : Signer → ConnectionState → List Message → End → List Output
told_on keys l [] e = []
told_on keys l (m ∷ ms) e = told_by (message_at keys l m e)

abbrev pub told_in : Signer → Act → Ends → List Output
told_in keys Deliver p = told_on keys p.x_line p.to_x p.x
told_in keys (Give c) p = told_by (command_at keys p.x_line c p.x)
told_in keys (Note c) p = []
told_in keys Lose p = []
told_in keys (Cut n) p = []
told_in keys Save p = []

-- by the end of this role; what a connection that comes up hands out is a message alone, and left out
abbrev pub told : Signer → Signer → Role → Step → Ends → List Output
told a b Funder (By Funder act) p = told_in a act p
told a b Funder (By Fundee act) p = []
told a b Fundee (By Funder act) p = []
told a b Fundee (By Fundee act) p = told_in b act (turned p)
told a b Funder Connect p = []
told a b Fundee Connect p = []

abbrev pub all_told : Signer → Signer → Role → List Step → Ends → List Output
all_told a b side [] p = []
all_told a b side (s ∷ ss) p = told a b side s p ++ all_told a b side ss (happens a b s p)

-- ---- nothing comes after the close

-- the events among what is handed out, without their numbers
abbrev pub unnumbered : List Output → List ChannelEvent
unnumbered [] = []
unnumbered (output.Send m ∷ os) = unnumbered os
unnumbered (output.Signed n ∷ os) = unnumbered os
unnumbered (output.Committed own peer ∷ os) = unnumbered os
unnumbered (output.Event n e ∷ os) = e ∷ unnumbered os
unnumbered (output.Closed fee ∷ os) = unnumbered os

abbrev pub is_closing : ChannelEvent → Bool
is_closing (event.Added own id amount hash expiry onion) = false
is_closing (event.Settled own id how) = false
is_closing (event.Closed fee) = true

-- of events in their order, nothing stands after a close: it is the last, and there is one at most
abbrev pub ClosesLast : List ChannelEvent → Type 0
ClosesLast [] = Unit {0}
ClosesLast (e ∷ es) = (is_closing e ≡ true → es ≡ []) × ClosesLast es
