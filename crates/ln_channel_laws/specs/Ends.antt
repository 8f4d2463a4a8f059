-- The two ends of one channel, and the messages between them, over connections that come and go (BOLT 2). What an end
-- does is told from that end, as x, with the other at y: what a message or a command makes of an end is what its own
-- rows say.
use Rattle.std.specs.Prelude.{ℕ, List, [], ◌∷◌, ◌++◌, take, Result, Ok, Err, if◌then◌else◌}
use Rattle.ln_msgs.specs.declared.messages.message.Message.{Message}
use Rattle.ln_msgs.specs.declared.messages.message.Message.TheVariants as message
use Rattle.ln_refusals.specs.declared.refusal.Refusal.{Refusal}
use Rattle.ln_refusals.specs.declared.refusal.Refusal.TheVariants as refusal
use Rattle.ln_keys.specs.declared.role.Role.{Role}
use Rattle.ln_keys.specs.declared.role.Role.TheVariants.{Funder, Fundee}
use Rattle.ln_keys.specs.Signer.{Signer}
use Rattle.ln_dance.specs.Resume.{reestablish_message}
use Rattle.ln_channel.specs.declared.command.Command.{Command}
use Rattle.ln_channel.specs.declared.machine.ConnectionState.{ConnectionState}
use Rattle.ln_channel.specs.declared.machine.ConnectionState.TheVariants.{Down, AwaitingReestablish, Connected}
use Rattle.ln_channel.specs.declared.opening.Opened.{Opened}
use Rattle.ln_channel.specs.declared.output.Output.{Output}
use Rattle.ln_channel.specs.declared.output.Output.TheVariants as output
use Rattle.ln_channel.specs.End.{End, Turn, end_of, end_dropped}
use Rattle.ln_channel.specs.Taking.{taken}
use Rattle.ln_channel.specs.Base.{based}
use Rattle.ln_channel.specs.Ledger.{Ledger}
use Rattle.ln_channel.specs.Commands.{ledgered, command_row, unready_fault}
use Rattle.ln_channel.specs.Resume.{resume_row}
use Rattle.ln_channel.specs.State.{is_down}
use Rattle.ln_channel.specs.Step.{faulted, line_fault}

pub record Ends : Type 0 where
  pub x_line : ConnectionState
  pub y_line : ConnectionState
  pub x : End
  pub y : End
  pub to_x : List Message  -- in flight, the oldest first
  pub to_y : List Message
  pub said_x : List Message  -- every message that it has sent
  pub said_y : List Message

-- told from the other end
abbrev pub turned : Ends → Ends
turned p = record {
  x_line = p.y_line;
  y_line = p.x_line;
  x = p.y;
  y = p.x;
  to_x = p.to_y;
  to_y = p.to_x;
  said_x = p.said_y;
  said_y = p.said_x;
}

-- two ends that were just opened
abbrev pub opened : Opened → Opened → Ends
opened funder fundee = record {
  x_line = Connected;
  y_line = Connected;
  x = end_of funder;
  y = end_of fundee;
  to_x = [];
  to_y = [];
  said_x = [];
  said_y = [];
}

-- ---- what x does

-- by its connection: until the peer's channel_reestablish has come, nothing else may (BOLT 2, "Message
-- Retransmission")
abbrev pub met_again : Signer → Message → End → Result Turn Refusal
met_again keys (message.ChannelReestablish m) e = resume_row keys m e
met_again keys m e = Err refusal.OutOfPlace

abbrev pub message_at : Signer → ConnectionState → Message → End → Result Turn Refusal
message_at keys Down m e = Err refusal.OutOfPlace
message_at keys AwaitingReestablish m e = met_again keys m e
message_at keys Connected m e = taken keys m e

abbrev pub command_at : Signer → ConnectionState → Command → End → Result Turn Refusal
command_at keys l c e = faulted (unready_fault c e) (faulted (line_fault l) (command_row keys c e))

-- the messages among what is handed out
abbrev pub messages_in : List Output → List Message
messages_in [] = []
messages_in (output.Send m ∷ os) = m ∷ messages_in os
messages_in (output.Signed n ∷ os) = messages_in os
messages_in (output.Committed own peer ∷ os) = messages_in os
messages_in (output.Event n e ∷ os) = messages_in os
messages_in (output.Closed fee ∷ os) = messages_in os

-- what is sent to an end that has no connection is lost
abbrev pub arrive : ConnectionState → List Message → List Message → List Message
arrive Down sent ms = ms
arrive AwaitingReestablish sent ms = ms ++ sent
arrive Connected sent ms = ms ++ sent

-- x has met y, and has made this turn
abbrev pub becomes : Turn → Ends → Ends
becomes t p = record {
  x_line = Connected;
  y_line = p.y_line;
  x = t.end;
  y = p.y;
  to_x = p.to_x;
  to_y = arrive p.y_line (messages_in t.handed.sent) p.to_y;
  said_x = p.said_x ++ messages_in t.handed.sent;
  said_y = p.said_y;
}

-- where x refuses, it is as it was
abbrev pub answers : Result Turn Refusal → Ends → Ends
answers (Ok t) p = becomes t p
answers (Err r) p = p

-- x takes the message in front
abbrev pub delivers : Signer → List Message → Ends → Ends
delivers keys [] p = p
delivers keys (m ∷ ms) p = answers (message_at keys p.x_line m p.x) (record p { to_x = ms })

-- x loses its connection, and what is in flight to it; what it has sent may still come to y, or the first of it
abbrev pub loses : Ends → Ends
loses p = if is_down p.x_line then p else record p { x_line = Down; x = end_dropped p.x; to_x = [] }

-- a decision changes x's ledger alone, with a connection or without; where it is refused, nothing
abbrev pub ledger_behind : Result Ledger Refusal → Ledger → Ledger
ledger_behind (Ok l) old = l
ledger_behind (Err r) old = old

abbrev pub notes : Command → Ends → Ends
notes c p = record p { x = record p.x { ledger = ledger_behind (ledgered c p.x) p.x.ledger } }

-- of what was sent to an end, the first messages still come, after the channel_reestablish that an end waits for
abbrev pub still_come : {A : Type 0} → ℕ → ConnectionState → List A → List A
still_come n Down ms = ms
still_come n AwaitingReestablish [] = []
still_come n AwaitingReestablish (m ∷ ms) = m ∷ take n ms
still_come n Connected ms = take n ms

-- x has lost its connection, and with it what it had sent last
abbrev pub cuts : ℕ → Ends → Ends
cuts n p = if is_down p.x_line then record p { to_y = still_come n p.y_line p.to_y } else p

-- x is saved: what it needn't keep one by one any more is left out, and nothing is sent
abbrev pub saves : Ends → Ends
saves p = record p { x = based p.x }

pub data Act : Type 0 where
  Deliver : Act
  Give : (c : Command) → Act
  Note : (c : Command) → Act
  Lose : Act
  Cut : (left : ℕ) → Act
  Save : Act

abbrev pub acts : Signer → Act → Ends → Ends
acts keys Deliver p = delivers keys p.to_x p
acts keys (Give c) p = answers (command_at keys p.x_line c p.x) p
acts keys (Note c) p = notes c p
acts keys Lose p = loses p
acts keys (Cut n) p = cuts n p
acts keys Save p = saves p

-- ---- steps, where the funder, of keys a, is x, and the fundee, of keys b, is y

-- a connection joins two ends that have none: each tells where it stands
abbrev pub joined : Signer → Signer → Ends → Ends
joined a b p =
    let from_x = message.ChannelReestablish (reestablish_message a p.x.dance) in
    let from_y = message.ChannelReestablish (reestablish_message b p.y.dance) in
    record {
      x_line = AwaitingReestablish;
      y_line = AwaitingReestablish;
      x = p.x;
      y = p.y;
      to_x = from_y ∷ [];
      to_y = from_x ∷ [];
      said_x = p.said_x ++ from_x ∷ [];
      said_y = p.said_y ++ from_y ∷ [];
    }

abbrev pub connects : Signer → Signer → ConnectionState → ConnectionState → Ends → Ends
connects a b Down Down p = joined a b p
connects a b Down AwaitingReestablish p = p
connects a b Down Connected p = p
connects a b AwaitingReestablish l p = p
connects a b Connected l p = p

pub data Step : Type 0 where
  By : (side : Role) (act : Act) → Step
  Connect : Step

abbrev pub happens : Signer → Signer → Step → Ends → Ends
happens a b (By Funder act) p = acts a act p
happens a b (By Fundee act) p = turned (acts b act (turned p))
happens a b Connect p = connects a b p.x_line p.y_line p

abbrev pub run : Signer → Signer → List Step → Ends → Ends
run a b [] p = p
run a b (s ∷ ss) p = run a b ss (happens a b s p)
