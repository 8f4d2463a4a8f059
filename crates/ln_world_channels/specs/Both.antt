-- The two ends of one channel, each a link of its own, and what is in flight to each (BOLT 2). What an end does is told
-- from that end, as x, with the other at y: what a message, a command, a connection and its loss make of an end is what
-- the rows of a link say.
use Rattle.std.specs.Prelude.{ℕ, List, [], ◌∷◌, ◌++◌, Bool, not, ◌&&◌, Option, Some, None, Result, Ok, Err}
use Rattle.std.specs.Prelude.{if◌then◌else◌}
use Rattle.ln_msgs.specs.declared.messages.message.Message.{Message}
use Rattle.ln_refusals.specs.declared.refusal.Refusal.{Refusal}
use Rattle.ln_keys.specs.declared.role.Role.{Role}
use Rattle.ln_keys.specs.declared.role.Role.TheVariants.{Funder, Fundee}
use Rattle.ln_keys.specs.Signer.{Signer}
use Rattle.ln_channel.specs.Base.{based_stage}
use Rattle.ln_channel.specs.End.{End as ChannelEnd, end_dropped}
use Rattle.ln_channel.specs.Record.{saved_end, came_back}
use Rattle.ln_channel.specs.State.{State, is_down, refused, drops, numbers_of}
use Rattle.ln_channel.specs.State as state
use Rattle.ln_channel.specs.Step.{Done, handled, commanded, connected}
use Rattle.ln_link.specs.Saving.{reached, settled}
use Rattle.ln_world_channels.specs.declared.step.Act.{Act}
use Rattle.ln_world_channels.specs.declared.step.Act.TheVariants as act
use Rattle.ln_world_channels.specs.declared.step.End.{End}
use Rattle.ln_world_channels.specs.declared.answer.Answer.{Answer}
use Rattle.ln_world_channels.specs.declared.answer.Answer.TheVariants as answer
use Rattle.ln_world_channels.specs.declared.line.Line.{Line}
use Rattle.ln_world_channels.specs.declared.line.Line.TheVariants as line
use Rattle.ln_channel_laws.specs.Ends.{messages_in}
use Rattle.ln_world_channels.specs.Lines.{lines_of, replies, refused_lines}

-- an end with its keys, which outlive its link, and the messages in flight to it, the oldest first
pub record SimEnd (K : Type 0) : Type 0 where
  pub keys : K
  pub link : State K
  pub inbox : List Message

pub record Both (K : Type 0) : Type 0 where
  pub x : SimEnd K
  pub y : SimEnd K

-- told from the other end
abbrev pub swapped : {K : Type 0} → Both K → Both K
swapped p = record { x = p.y; y = p.x }

-- what is sent to an end is in flight to it, and is lost where that end has no connection
abbrev pub reaches : {K : Type 0} → List Message → SimEnd K → SimEnd K
reaches ms p = if is_down p.link.connection then p else record p { inbox = p.inbox ++ ms }

-- ---- what a link answers

-- what it leaves of the link, which is saved where it isn't refused, and whose base moves on then
abbrev pub left : {K : Type 0} → (Refusal → State K → State K) → Result Done Refusal → State K → State K
left after (Ok d) l = settled d l
left after (Err r) l = after r l

-- what it sends; after a refusal the reply
abbrev pub sent_by : List ℕ → Result Done Refusal → List Message
sent_by id (Ok d) = messages_in d.outputs
sent_by id (Err r) = replies id r

abbrev pub answer_lines : End → List ℕ → Result Done Refusal → List Line
answer_lines e id (Ok d) = lines_of e (numbers_of d.stage) d.outputs
answer_lines e id (Err r) = refused_lines e id r

-- what a call answered of a link that it left so
abbrev pub said_by : {K : Type 0} → Answer → State K → Result Done Refusal
said_by (answer.Done outputs) l = Ok (record { connection = l.connection; stage = l.stage; outputs = outputs.items })
said_by (answer.Refused r) l = Err r

-- an answer, told of the link as it is saved
abbrev pub as_saved : Result Done Refusal → Result Done Refusal
as_saved (Ok d) = Ok (record { connection = d.connection; stage = based_stage d.stage; outputs = d.outputs })
as_saved (Err r) = Err r

-- a refused command changes nothing
abbrev pub unchanged : {K : Type 0} → Refusal → State K → State K
unchanged r l = l

-- x answers, in the channel of this id
abbrev pub answers : {K : Type 0} → (Refusal → State K → State K) → List ℕ → Result Done Refusal → Both K → Both K
answers after id row p = record {
  x = record p.x { link = left after row p.x.link };
  y = reaches (sent_by id row) p.y;
}

-- ---- acts

-- x takes the message in front
abbrev pub delivers : {K : Type 0} → (K → Signer) → List ℕ → List Message → Both K → Both K
delivers signer id [] p = p
delivers signer id (m ∷ ms) p =
    answers refused id (handled (signer p.x.link.keys) p.x.link m)
    (record { x = record p.x { inbox = ms }; y = p.y })

abbrev pub delivered_lines : {K : Type 0} → (K → Signer) → End → List ℕ → List Message → State K → List Line
delivered_lines signer e id [] l = line.Idle ∷ []
delivered_lines signer e id (m ∷ ms) l = answer_lines e id (handled (signer l.keys) l m)

abbrev pub acts : {K : Type 0} → (K → Signer) → List ℕ → Act → Both K → Both K
acts signer id act.Deliver p = delivers signer id p.x.inbox p
acts signer id (act.Send c) p = answers unchanged id (commanded (signer p.x.link.keys) p.x.link c) p

abbrev pub act_lines : {K : Type 0} → (K → Signer) → End → List ℕ → Act → SimEnd K → List Line
act_lines signer e id act.Deliver p = delivered_lines signer e id p.inbox p.link
act_lines signer e id (act.Send c) p = answer_lines e id (commanded (signer p.link.keys) p.link c)

-- an end loses its connection, and what is in flight to it
abbrev pub disconnected : {K : Type 0} → SimEnd K → SimEnd K
disconnected p = record { keys = p.keys; link = drops p.link; inbox = [] }

abbrev pub disconnects : {K : Type 0} → Both K → Both K
disconnects p = record { x = disconnected p.x; y = p.y }

-- ---- an end has no memory for what it was to do

-- it begins nothing of that: it loses its connection, and answers nothing until it comes back from its record
abbrev pub halted : {K : Type 0} → SimEnd K → SimEnd K
halted p = record { keys = p.keys; link = state.halts p.link; inbox = [] }

abbrev pub halts : {K : Type 0} → Both K → Both K
halts p = record { x = halted p.x; y = p.y }

-- ---- an end comes back: its node restarts, or it reloads alone

-- it comes back from its record; one whose opening isn't signed by both has none, and loses its connection alone
abbrev pub back : {K : Type 0} → K → State K → Option ChannelEnd → State K
back keys l (Some e) = came_back keys l.failure (end_dropped e)
back keys l None = drops l

abbrev pub restarted : {K : Type 0} → SimEnd K → SimEnd K
restarted p = record { keys = p.keys; link = back p.keys p.link (saved_end p.link.stage); inbox = [] }

-- the other end isn't touched, nor is what is in flight to it
abbrev pub restarts : {K : Type 0} → Both K → Both K
restarts p = record { x = restarted p.x; y = p.y }

-- ---- it acts, and its node stops after the save

-- what it is after the act, whoever gets what it hands out
abbrev pub delivered_unheard : {K : Type 0} → (K → Signer) → List Message → SimEnd K → SimEnd K
delivered_unheard signer [] p = p
delivered_unheard signer (m ∷ ms) p =
    record { keys = p.keys; link = left refused (handled (signer p.link.keys) p.link m) p.link; inbox = ms }

abbrev pub unheard : {K : Type 0} → (K → Signer) → Act → SimEnd K → SimEnd K
unheard signer act.Deliver p = delivered_unheard signer p.inbox p
unheard signer (act.Send c) p = record p { link = left unchanged (commanded (signer p.link.keys) p.link c) p.link }

-- it comes back from the record that the act has saved; what it handed out reaches nobody
abbrev pub stops : {K : Type 0} → (K → Signer) → List ℕ → Act → Both K → Both K
stops signer id a p = record { x = restarted (acts signer id a p).x; y = p.y }

-- ---- it acts, and its save fails, but its store has the record as the act leaves it

-- it halts so; what it was to hand out reaches nobody
abbrev pub halts_after : {K : Type 0} → (K → Signer) → List ℕ → Act → Both K → Both K
halts_after signer id a p = record { x = halted (acts signer id a p).x; y = p.y }

-- ---- a connection: both ends have it before either sends, so that nothing is lost

abbrev pub first_message : {K : Type 0} → (K → Signer) → State K → Result Done Refusal
first_message signer l = connected (signer l.keys) l

-- what an end sends over its new connection
abbrev pub greets : Result Done Refusal → List Message
greets (Ok d) = messages_in d.outputs
greets (Err r) = []

abbrev pub first_message_lines : End → Result Done Refusal → List Line
first_message_lines e (Ok d) = lines_of e (numbers_of d.stage) d.outputs
first_message_lines e (Err r) = []

-- by a new connection nothing is saved, and no base moves
abbrev pub greeted : {K : Type 0} → Result Done Refusal → State K → State K
greeted (Ok d) l = reached d l
greeted (Err r) l = l

abbrev pub comes_up : {K : Type 0} → (K → Signer) → SimEnd K → SimEnd K
comes_up signer p = record p { link = greeted (first_message signer p.link) p.link }

abbrev pub meet : {K : Type 0} → (K → Signer) → Both K → Both K
meet signer p = record {
  x = reaches (greets (first_message signer p.y.link)) (comes_up signer p.x);
  y = reaches (greets (first_message signer p.x.link)) (comes_up signer p.y);
}

abbrev pub may_come_up : {K : Type 0} → State K → Bool
may_come_up l = is_down l.connection && not l.halted

-- ---- moves of a channel, where the funder's end is x and the fundee's is y

pub data Move : Type 0 where
  By : (side : Role) (act : Act) → Move
  Disconnects : (side : Role) → Move
  Halts : (side : Role) → Move
  Restarts : (side : Role) → Move
  Stops : (side : Role) (act : Act) → Move
  HaltsAfter : (side : Role) (act : Act) → Move
  Meet : Move

-- told from the funder's end or from the fundee's
abbrev pub from : {K : Type 0} → Role → (Both K → Both K) → Both K → Both K
from Funder f p = f p
from Fundee f p = swapped (f (swapped p))

unfoldable pub moves : {K : Type 0} → (K → Signer) → List ℕ → Move → Both K → Both K
moves signer id (By side act) p = from side (acts signer id act) p
moves signer id (Disconnects side) p = from side disconnects p
moves signer id (Halts side) p = from side halts p
moves signer id (Restarts side) p = from side restarts p
moves signer id (Stops side act) p = from side (stops signer id act) p
moves signer id (HaltsAfter side act) p = from side (halts_after signer id act) p
moves signer id Meet p = meet signer p

abbrev pub run : {K : Type 0} → (K → Signer) → List ℕ → List Move → Both K → Both K
run signer id [] p = p
run signer id (m ∷ ms) p = run signer id ms (moves signer id m p)
