-- Which moves of the channel's abstract machine the steps of a world are, and what the ends of a channel tell (BOLT 2,
-- "Normal Operation").
use Rattle.std.specs.Prelude.{◌≡◌, ℕ, List, [], ◌∷◌, ◌++◌, Option, Some, None, Result, Ok, Err, ◌==◌, ◌&&◌}
use Rattle.std.specs.Prelude.{if◌then◌else◌}
use Rattle.ln_msgs.specs.declared.messages.message.Message.{Message}
use Rattle.ln_refusals.specs.declared.refusal.Refusal.{Refusal}
use Rattle.ln_keys.specs.declared.keys.ChannelKeys.{Ghosts}
use Rattle.ln_keys.specs.declared.role.Role.{Role}
use Rattle.ln_keys.specs.declared.role.Role.TheVariants.{Funder, Fundee}
use Rattle.ln_keys.specs.Signer.{Signer}
use Rattle.ln_log.specs.Machine.{Machine, IsRun, Drop, Open}
use Rattle.ln_log.specs.Machine as machine
use Rattle.ln_log.specs.Events.{events}
use Rattle.ln_hooks.specs.declared.event.ChannelEvent.{ChannelEvent}
use Rattle.ln_channel.specs.declared.command.Command.{Command}
use Rattle.ln_channel.specs.declared.machine.ConnectionState.{ConnectionState}
use Rattle.ln_channel.specs.declared.machine.Stage.{Stage}
use Rattle.ln_channel.specs.declared.machine.Stage.TheVariants as stage
use Rattle.ln_channel.specs.declared.output.Output.{Output}
use Rattle.ln_channel.specs.Outputs.{numbered}
use Rattle.ln_channel.specs.End.{End}
use Rattle.ln_channel.specs.State.{State, is_down}
use Rattle.ln_channel.specs.Step.{Done, handled, commanded}
use Rattle.ln_channel_laws.specs.Moves.{machine_by, moves_asked, moves_between, after_all}
use Rattle.ln_channel_laws.specs.Told.{as_told, events_in, unnumbered, ClosesLast}
use Rattle.ln_channel_laws.specs.Pending.{IsInStep}
use Rattle.ln_world_channels.specs.declared.step.Act.{Act}
use Rattle.ln_world_channels.specs.declared.step.Act.TheVariants as act
use Rattle.ln_world_channels.specs.declared.step.Step.{Step}
use Rattle.ln_world_channels.specs.declared.step.Step.TheVariants as step
use Rattle.ln_world_channels.specs.Settings.{opening_by}
use Rattle.ln_world_channels.specs.Both.{Both, SimEnd, Move, By, Disconnects, Halts, Restarts, Stops, HaltsAfter, Meet}
use Rattle.ln_world_channels.specs.Both.{first_message}
use Rattle.ln_world_channels.specs.WorldChannel.{WorldChannel, place_of}
use Rattle.ln_world_channels.specs.World.{World, empty, channel, settings_of, may_open}
use Rattle.ln_world_channels.specs.Promises.{AtEnd}
use Rattle.ln_world_channels.specs.Course.{in_channel, over}

-- ---- the machine that a channel stands for: none where there is no channel, or where an end of it isn't open

abbrev pub machine_with : End → Stage → Option Machine
machine_with x (stage.Funded y) = Some (machine_by x y)
machine_with x s = None

abbrev pub machine_of_stages : Stage → Stage → Option Machine
machine_of_stages (stage.Funded x) s = machine_with x s
machine_of_stages r s = None

abbrev pub machine_of : {K : Type 0} → Option (WorldChannel K) → Option Machine
machine_of None = None
machine_of (Some c) = machine_of_stages c.both.x.link.stage c.both.y.link.stage

-- ---- a message, by what the link was before and is after it

abbrev pub moves_to : Role → Message → End → Stage → List machine.Move
moves_to side m e (stage.Funded f) = moves_between side m e f
moves_to side m e s = []

abbrev pub moves_from : Role → Message → Stage → Stage → List machine.Move
moves_from side m (stage.Funded e) s = moves_to side m e s
moves_from side m r s = []

abbrev pub moves_of_message : Role → Message → Stage → Result Done Refusal → List machine.Move
moves_of_message side m s (Ok d) = moves_from side m s d.stage
moves_of_message side m s (Err r) = []

abbrev pub moves_delivered : {K : Type 0} → (K → Signer) → Role → List Message → State K → List machine.Move
moves_delivered signer side [] l = []
moves_delivered signer side (m ∷ ms) l = moves_of_message side m l.stage (handled (signer l.keys) l m)

-- ---- a command, where it isn't refused

abbrev pub moves_asked_of : Role → Command → Stage → List machine.Move
moves_asked_of side c (stage.Funded e) = moves_asked side c e
moves_asked_of side c s = []

abbrev pub moves_of_command : Role → Command → Stage → Result Done Refusal → List machine.Move
moves_of_command side c s (Ok d) = moves_asked_of side c s
moves_of_command side c s (Err r) = []

-- ---- a move of a channel

abbrev pub moves_of_act : {K : Type 0} → (K → Signer) → Role → Act → SimEnd K → List machine.Move
moves_of_act signer side act.Deliver p = moves_delivered signer side p.inbox p.link
moves_of_act signer side (act.Send c) p =
    moves_of_command side c p.link.stage (commanded (signer p.link.keys) p.link c)

-- a lost connection drops what no signature covers; an end that halts loses it, and where it comes back that is one
abbrev pub moves_of_disconnect : Role → ConnectionState → List machine.Move
moves_of_disconnect side l = if is_down l then [] else Drop side ∷ []

-- after an act a stop is one too, and so is a failed save: no act makes a connection, or ends one
abbrev pub moves_of_stop : {K : Type 0} → (K → Signer) → Role → Act → SimEnd K → List machine.Move
moves_of_stop signer side a p = moves_of_act signer side a p ++ moves_of_disconnect side p.link.connection

abbrev pub moves_of : {K : Type 0} → (K → Signer) → Move → Both K → List machine.Move
moves_of signer (By side a) p = moves_of_act signer side a (place_of side p)
moves_of signer (Disconnects side) p = moves_of_disconnect side (place_of side p).link.connection
moves_of signer (Halts side) p = moves_of_disconnect side (place_of side p).link.connection
moves_of signer (Restarts side) p = moves_of_disconnect side (place_of side p).link.connection
moves_of signer (Stops side a) p = moves_of_stop signer side a (place_of side p)
moves_of signer (HaltsAfter side a) p = moves_of_stop signer side a (place_of side p)
moves_of signer Meet p = []

-- ---- all moves of the channel with this number, its opening first

abbrev pub moves_of_opening : {K : Type 0} → (k : Ghosts K) → ℕ → Step K k → World K → List machine.Move
moves_of_opening k n (step.Open o) w =
    if may_open o w && o.channel == n
    then Open (opening_by o.satoshis o.push (settings_of o.funder w.settings) (settings_of o.fundee w.settings)) ∷ []
    else []
moves_of_opening k n s w = []

abbrev pub moves_in : {K : Type 0} → (k : Ghosts K) → ℕ → Step K k → World K → List machine.Move
moves_in k n s w = moves_of_opening k n s w ++ in_channel k (λ id. moves_of k.signer) s w (channel n w.channels)

abbrev pub history : {K : Type 0} → (k : Ghosts K) → ℕ → List (Step K k) → World K → List machine.Move
history k n ss w = over k (moves_in k n) ss w

-- ---- what an end hands out: messages to the peer, and what is told beside them

abbrev pub outputs_of : Result Done Refusal → List Output
outputs_of (Ok d) = d.outputs
outputs_of (Err r) = []

abbrev pub delivery_tells : {K : Type 0} → (K → Signer) → List Message → State K → List Output
delivery_tells signer [] l = []
delivery_tells signer (m ∷ ms) l = outputs_of (handled (signer l.keys) l m)

abbrev pub act_tells : {K : Type 0} → (K → Signer) → Act → SimEnd K → List Output
act_tells signer act.Deliver p = delivery_tells signer p.inbox p.link
act_tells signer (act.Send c) p = outputs_of (commanded (signer p.link.keys) p.link c)

-- the end of this side, in a move; where its node stops after an act, or the act's save fails and the store has it all
-- the same, what the act hands out counts as told, though nobody heard it
abbrev pub tells : {K : Type 0} → (K → Signer) → Role → Move → Both K → List Output
tells signer Funder (By Funder a) p = act_tells signer a p.x
tells signer Funder (By Fundee a) p = []
tells signer Funder (Disconnects side) p = []
tells signer Funder (Halts side) p = []
tells signer Funder (Restarts side) p = []
tells signer Funder (Stops Funder a) p = act_tells signer a p.x
tells signer Funder (Stops Fundee a) p = []
tells signer Funder (HaltsAfter Funder a) p = act_tells signer a p.x
tells signer Funder (HaltsAfter Fundee a) p = []
tells signer Funder Meet p = outputs_of (first_message signer p.x.link)
tells signer Fundee (By Funder a) p = []
tells signer Fundee (By Fundee a) p = act_tells signer a p.y
tells signer Fundee (Disconnects side) p = []
tells signer Fundee (Halts side) p = []
tells signer Fundee (Restarts side) p = []
tells signer Fundee (Stops Funder a) p = []
tells signer Fundee (Stops Fundee a) p = act_tells signer a p.y
tells signer Fundee (HaltsAfter Funder a) p = []
tells signer Fundee (HaltsAfter Fundee a) p = act_tells signer a p.y
tells signer Fundee Meet p = outputs_of (first_message signer p.y.link)

-- the end of this side of the channel with this number, since it was opened
abbrev pub told_in : {K : Type 0} → (k : Ghosts K) → ℕ → Role → Step K k → World K → List Output
told_in k n side s w = in_channel k (λ id. tells k.signer side) s w (channel n w.channels)

abbrev pub all_told : {K : Type 0} → (k : Ghosts K) → ℕ → Role → List (Step K k) → World K → List Output
all_told k n side ss w = over k (told_in k n side) ss w

-- ---- what the end of this side of a channel has yet to decide is in step with these events; no channel has any

abbrev pub AreInStep : {K : Type 0} → Role → List ChannelEvent → Option (WorldChannel K) → Type 0
AreInStep side events None = events ≡ []
AreInStep side events (Some c) = AtEnd (IsInStep events) (place_of side c.both).link.stage

-- ---- what is promised of the channel with this number, by all steps so far and the world that they lead to

-- its opening and its moves lead the machine to the opening and the two parties that its links stand for; where no
-- channel has the number there is no machine, and no step is a move
abbrev pub MovesLead : {K : Type 0} → (k : Ghosts K) → ℕ → List (Step K k) → World K → Type 0
MovesLead k n ss w = after_all (history k n ss empty) None ≡ machine_of (channel n w.channels)

-- each of these is one that the machine may make where it is made
abbrev pub MovesMayBeMade : {K : Type 0} → (k : Ghosts K) → ℕ → List (Step K k) → World K → Type 0
MovesMayBeMade k n ss w = IsRun (history k n ss empty) None (machine_of (channel n w.channels))

-- the events of these moves for this side
abbrev pub events_by : {K : Type 0} → (k : Ghosts K) → ℕ → Role → List (Step K k) → List ChannelEvent
events_by k n side ss = as_told (events side (history k n ss empty) None)

-- the events among all that the side's end hands out are these: each once, in their order, numbered from 0
abbrev pub EventsAreTold : {K : Type 0} → (k : Ghosts K) → ℕ → Role → List (Step K k) → Type 0
EventsAreTold k n side ss = events_in (all_told k n side ss empty) ≡ numbered 0 (events_by k n side ss)

-- what the side's end has yet to decide is these from a count on, and none is missing
abbrev pub UndecidedFollow : {K : Type 0} → (k : Ghosts K) → ℕ → Role → List (Step K k) → World K → Type 0
UndecidedFollow k n side ss w = AreInStep side (events_by k n side ss) (channel n w.channels)

-- after the close comes no event among those that the side's end hands out
abbrev pub HandsCloseLast : {K : Type 0} → (k : Ghosts K) → ℕ → Role → List (Step K k) → Type 0
HandsCloseLast k n side ss = ClosesLast (unnumbered (all_told k n side ss empty))
