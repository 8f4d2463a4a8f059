-- Which moves of the channel's abstract machine the steps of two ends are. An update is as it is sent: where an add
-- came from is no part of it.
use Rattle.std.specs.Prelude.{ℕ, List, [], ◌∷◌, ◌++◌, Bool, true, false, Option, Some, None, Result, Ok, Err}
use Rattle.std.specs.Prelude.{if◌then◌else◌}
use Rattle.ln_msgs.specs.declared.messages.message.Message.{Message}
use Rattle.ln_msgs.specs.declared.messages.message.Message.TheVariants as message
use Rattle.ln_refusals.specs.declared.refusal.Refusal.{Refusal}
use Rattle.ln_keys.specs.declared.role.Role.{Role}
use Rattle.ln_keys.specs.declared.role.Role.TheVariants.{Funder, Fundee}
use Rattle.ln_keys.specs.Signer.{Signer}
use Rattle.ln_log.specs.declared.update.Update.TheVariants as update
use Rattle.ln_log.specs.Updates.{next_id}
use Rattle.ln_log.specs.Machine.{Machine, Move, Open, Propose, Sign, Accept, Learn, Drop, Shut, Close, after}
use Rattle.ln_channel.specs.declared.command.Command.{Command}
use Rattle.ln_channel.specs.declared.command.Command.TheVariants as command
use Rattle.ln_channel.specs.declared.machine.ConnectionState.{ConnectionState}
use Rattle.ln_channel.specs.declared.opening.Opened.{Opened}
use Rattle.ln_channel.specs.End.{End, Turn}
use Rattle.ln_channel.specs.State.{is_down}
use Rattle.ln_channel_laws.specs.Ends.{Ends, opened, turned, message_at, command_at, Act, Deliver, Give, Note, Lose}
use Rattle.ln_channel_laws.specs.Ends.{Cut}
use Rattle.ln_channel_laws.specs.Ends.{Save, Step, By, Connect, happens}
use Rattle.ln_channel_laws.specs.Promises.{party}

-- the machine that a funder's and a fundee's end stand for
abbrev pub machine_by : End → End → Machine
machine_by x y = record { opening = x.dance.log.opening; funder = party x; fundee = party y }

-- the funder being x
abbrev pub machine_of : Ends → Machine
machine_of p = machine_by p.x p.y

-- ---- a command

-- what is asked for, where it isn't refused
abbrev pub moves_asked : Role → Command → End → List Move
moves_asked side (command.Confirm id) e = []
moves_asked side (command.Add amount hash expiry onion origin) e =
    Propose side (update.Add (record {
      id = next_id e.dance.log.own;
      amount = amount;
      hash = hash;
      expiry = expiry;
      onion = onion;
      origin = None;
    })) ∷ []
moves_asked side (command.Fulfil id preimage) e =
    Propose side (update.Fulfil (record { id = id; preimage = preimage })) ∷ []
moves_asked side (command.Fail id reason) e = Propose side (update.Fail (record { id = id; reason = reason })) ∷ []
moves_asked side (command.Malformed id sha code) e =
    Propose side (update.Malformed (record { id = id; sha256_of_onion = sha; failure_code = code })) ∷ []
moves_asked side (command.Fee feerate) e = Propose side (update.Fee (record { feerate = feerate })) ∷ []
moves_asked side command.Sign e = Sign side ∷ []
moves_asked side (command.Shutdown script) e = Shut side ∷ []
moves_asked side (command.Decide event mark) e = []
moves_asked side (command.Forget id) e = []
moves_asked side (command.Resume event mark) e = []

abbrev pub moves_of_command : Role → Command → End → Result Turn Refusal → List Move
moves_of_command side c e (Ok t) = moves_asked side c e
moves_of_command side c e (Err r) = []

-- ---- a message

-- a signature is accepted, and a revocation learned from
abbrev pub moves_taken : Role → Message → List Move
moves_taken side (message.CommitmentSigned m) = Accept side ∷ []
moves_taken side (message.RevokeAndAck m) = Learn side ∷ []
moves_taken side m = []

-- a close that there was not before
abbrev pub closes : Role → Option ℕ → Option ℕ → List Move
closes side None None = []
closes side None (Some fee) = Close side fee ∷ []
closes side (Some before) now = []

-- a shutdown that was not sent before
abbrev pub shuts : Role → Bool → Bool → List Move
shuts side false true = Shut side ∷ []
shuts side false false = []
shuts side true now = []

-- what is taken, then what the end, e before it and f after it, makes of it in its turn
abbrev pub moves_between : Role → Message → End → End → List Move
moves_between side m e f = moves_taken side m ++ (closes side e.closing.closed f.closing.closed
    ++ shuts side e.closing.shut f.closing.shut)

abbrev pub moves_of_message : Role → Message → End → Result Turn Refusal → List Move
moves_of_message side m e (Ok t) = moves_between side m e t.end
moves_of_message side m e (Err r) = []

-- ---- a step

abbrev pub moves_delivered : Signer → Role → ConnectionState → List Message → End → List Move
moves_delivered keys side l [] e = []
moves_delivered keys side l (m ∷ ms) e = moves_of_message side m e (message_at keys l m e)

-- told from x, whose role is this
abbrev pub moves_of_act : Signer → Role → Act → Ends → List Move
moves_of_act keys side Deliver p = moves_delivered keys side p.x_line p.to_x p.x
moves_of_act keys side (Give c) p = moves_of_command side c p.x (command_at keys p.x_line c p.x)
moves_of_act keys side (Note c) p = []
moves_of_act keys side Lose p = if is_down p.x_line then [] else Drop side ∷ []
moves_of_act keys side (Cut n) p = []
moves_of_act keys side Save p = []

abbrev pub moves_of : Signer → Signer → Step → Ends → List Move
moves_of a b (By Funder act) p = moves_of_act a Funder act p
moves_of a b (By Fundee act) p = moves_of_act b Fundee act (turned p)
moves_of a b Connect p = []

abbrev pub all_moves : Signer → Signer → List Step → Ends → List Move
all_moves a b [] p = []
all_moves a b (s ∷ ss) p = moves_of a b s p ++ all_moves a b ss (happens a b s p)

-- what the machine is after a list of moves
abbrev pub after_all : List Move → Option Machine → Option Machine
after_all [] m = m
after_all (move ∷ moves) m = after_all moves (after move m)

-- from the opening on
abbrev pub history : Signer → Signer → Opened → Opened → List Step → List Move
history a b funder fundee ss = Open funder.dance.log.opening ∷ all_moves a b ss (opened funder fundee)
