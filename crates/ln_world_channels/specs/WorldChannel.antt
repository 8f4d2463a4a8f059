-- A channel between two nodes: which moves of its two ends an act, the loss of a connection, a node's restart and a new
-- connection are, how it is opened, and what is told of it.
use Rattle.std.specs.Prelude.{ℕ, List, [], ◌∷◌, ◌++◌, Bool, true, false, ◌==◌, ◌&&◌, Option, Some, None}
use Rattle.std.specs.Prelude.{if◌then◌else◌}
use Rattle.ln_msgs.specs.declared.messages.message.Message.{Message}
use Rattle.ln_keys.specs.declared.keys.ChannelKeys.{Ghosts}
use Rattle.ln_keys.specs.declared.role.Role.{Role}
use Rattle.ln_keys.specs.declared.role.Role.TheVariants.{Funder, Fundee}
use Rattle.ln_keys.specs.Signer.{Signer}
use Rattle.ln_channel.specs.declared.machine.Stage.TheVariants as stage
use Rattle.ln_channel.specs.State.{begun}
use Rattle.ln_world_channels.specs.declared.step.Act.{Act}
use Rattle.ln_world_channels.specs.declared.step.Act.TheVariants as act
use Rattle.ln_world_channels.specs.declared.step.End.{End}
use Rattle.ln_world_channels.specs.declared.step.Node.{Node}
use Rattle.ln_world_channels.specs.declared.step.Open.{Open}
use Rattle.ln_world_channels.specs.declared.step.RecordLeft.{RecordLeft}
use Rattle.ln_world_channels.specs.declared.step.RecordLeft.TheVariants as record_left
use Rattle.ln_world_channels.specs.declared.settings.Settings.{Settings}
use Rattle.ln_world_channels.specs.declared.line.Line.{Line}
use Rattle.ln_world_channels.specs.declared.line.Line.TheVariants as line
use Rattle.ln_world_channels.specs.Settings.{config_of, spec_of, channel_id_of}
use Rattle.ln_world_channels.specs.Both.{Both, SimEnd, Move, By, Disconnects, Halts, Restarts, Stops, HaltsAfter, Meet}
use Rattle.ln_world_channels.specs.Both.{may_come_up, first_message_lines, first_message, unheard, act_lines}
use Rattle.ln_world_channels.specs.Both.{run as run_both}

pub record WorldChannel (K : Type 0) : Type 0 where
  pub number : ℕ
  pub funder : Node
  pub fundee : Node
  pub both : Both K  -- the funder's end is x

abbrev pub is_node : Node → Node → Bool
is_node a b = a.letter == b.letter

abbrev pub place_of : {K : Type 0} → Role → Both K → SimEnd K
place_of Funder p = p.x
place_of Fundee p = p.y

-- ---- which moves of a channel a step is

abbrev pub side_of : {K : Type 0} → Node → WorldChannel K → Option Role
side_of n c = if is_node c.funder n then Some Funder else (if is_node c.fundee n then Some Fundee else None)

abbrev pub by : Option Role → (Role → Move) → List Move
by None f = []
by (Some side) f = f side ∷ []

abbrev pub end_at : ℕ → Node → End
end_at n node = record { node = node; channel = n }

abbrev pub end_of : {K : Type 0} → Role → WorldChannel K → End
end_of Funder c = end_at c.number c.funder
end_of Fundee c = end_at c.number c.fundee

-- both ends are down, and neither has halted
abbrev pub may_meet : {K : Type 0} → Both K → Bool
may_meet p = may_come_up p.x.link && may_come_up p.y.link

abbrev pub moved : {K : Type 0} → (K → Signer) → (WorldChannel K → List Move) → WorldChannel K → WorldChannel K
moved signer f c = record {
  number = c.number;
  funder = c.funder;
  fundee = c.fundee;
  both = run_both signer (channel_id_of c.number) (f c) c.both;
}

-- the table: which moves of a channel an act, the loss of a connection, a node's restart and a new connection are
abbrev pub act_moves : {K : Type 0} → Node → Act → WorldChannel K → List Move
act_moves n a c = by (side_of n c) (λ side. By side a)

abbrev pub disconnect_moves : {K : Type 0} → Node → WorldChannel K → List Move
disconnect_moves n c = by (side_of n c) Disconnects

-- it has no memory for an act
abbrev pub halt_moves : {K : Type 0} → Node → WorldChannel K → List Move
halt_moves n c = by (side_of n c) Halts

-- the save of what it comes to by an act fails
abbrev pub halt_after_moves : {K : Type 0} → Node → Act → WorldChannel K → List Move
halt_after_moves n a c = by (side_of n c) (λ side. HaltsAfter side a)

abbrev pub failed_save_moves : {K : Type 0} → RecordLeft → Node → Act → WorldChannel K → List Move
failed_save_moves record_left.Old n a c = halt_moves n c
failed_save_moves record_left.New n a c = halt_after_moves n a c

abbrev pub restart_moves : {K : Type 0} → Node → WorldChannel K → List Move
restart_moves n c = by (side_of n c) Restarts

-- a node stops after an act of its end in the channel with this number; its other ends come back as they were saved
abbrev pub stop_moves : {K : Type 0} → End → Act → WorldChannel K → List Move
stop_moves e a c =
    if c.number == e.channel then by (side_of e.node c) (λ side. Stops side a) else restart_moves e.node c

abbrev pub up_moves : {K : Type 0} → WorldChannel K → List Move
up_moves c = if may_meet c.both then Meet ∷ [] else []

-- ---- an act that a node may stop round, or have no memory for

-- a message is in flight to the end, or it is given a command
abbrev pub has_front : List Message → Bool
has_front [] = false
has_front (m ∷ ms) = true

abbrev pub may_do : {K : Type 0} → Act → SimEnd K → Bool
may_do act.Deliver p = has_front p.inbox
may_do (act.Send c) p = true

abbrev pub side_may_do : {K : Type 0} → Act → Option Role → Both K → Bool
side_may_do a None p = false
side_may_do a (Some side) p = may_do a (place_of side p)

-- the node's end
abbrev pub may_act : {K : Type 0} → Node → Act → WorldChannel K → Bool
may_act n a c = side_may_do a (side_of n c) c.both

-- ---- an end that has halted

abbrev pub side_has_halted : {K : Type 0} → Option Role → Both K → Bool
side_has_halted None p = false
side_has_halted (Some side) p = (place_of side p).link.halted

-- the node's end
abbrev pub has_halted : {K : Type 0} → Node → WorldChannel K → Bool
has_halted n c = side_has_halted (side_of n c) c.both

-- ---- an act that is done, whoever hears of it

-- as the act leaves the node's end, whoever gets what it hands out
abbrev pub side_unheard : {K : Type 0} → (K → Signer) → Act → Option Role → Both K → Both K
side_unheard signer a None p = p
side_unheard signer a (Some Funder) p = record { x = unheard signer a p.x; y = p.y }
side_unheard signer a (Some Fundee) p = record { x = p.x; y = unheard signer a p.y }

abbrev pub acted_unheard : {K : Type 0} → (K → Signer) → Node → Act → WorldChannel K → WorldChannel K
acted_unheard signer n a c = record {
  number = c.number;
  funder = c.funder;
  fundee = c.fundee;
  both = side_unheard signer a (side_of n c) c.both;
}

-- ---- a channel that is opened (BOLT 2, "Channel Establishment v1")

-- a channel of two new links, by what was set for the funder and for the fundee
abbrev pub begun_by : {K : Type 0} → (k : Ghosts K) → Open K k → Settings → Settings → WorldChannel K
begun_by k o funder fundee = record {
  number = o.channel;
  funder = o.funder;
  fundee = o.fundee;
  both = record {
    x = record {
      keys = o.keys.funder;
      link = begun o.keys.funder (stage.AwaitsAccept
          (spec_of o.channel (config_of o.funder funder) o.satoshis o.push));
      inbox = [];
    };
    y = record {
      keys = o.keys.fundee;
      link = begun o.keys.fundee (stage.AwaitsOpen (config_of o.fundee fundee));
      inbox = [];
    };
  };
}

-- they connect, and each of the four messages is taken
abbrev pub opening_moves : List Move
opening_moves =
    Meet ∷ By Fundee act.Deliver ∷ By Funder act.Deliver ∷ By Fundee act.Deliver ∷ By Funder act.Deliver ∷ []

abbrev pub opened_by : {K : Type 0} → (k : Ghosts K) → Open K k → Settings → Settings → WorldChannel K
opened_by k o funder fundee = moved k.signer (λ c. opening_moves) (begun_by k o funder fundee)

-- ---- what is told of it

unfoldable pub acted_lines : {K : Type 0} → (K → Signer) → Act → WorldChannel K → Option Role → List Line
acted_lines signer a c None = line.Idle ∷ []
acted_lines signer a c (Some side) =
    act_lines signer (end_of side c) (channel_id_of c.number) a (place_of side c.both)

abbrev pub fallen_lines : Option Role → List Line
fallen_lines None = line.Idle ∷ []
fallen_lines (Some side) = []

unfoldable pub met_lines : {K : Type 0} → (K → Signer) → WorldChannel K → List Line
met_lines signer c =
    if may_meet c.both
    then first_message_lines (end_at c.number c.funder) (first_message signer c.both.x.link)
    ++ first_message_lines (end_at c.number c.fundee) (first_message signer c.both.y.link)
    else line.Idle ∷ []
