-- When an end does what a command asks for: it has met its peer, its readiness lets it, and the channel's machine may
-- make the move (BOLT 2, "Normal Operation" and "Channel Close").
use Rattle.std.specs.Prelude.{◌≡◌, ◌≢◌, ◌↔◌, ◌-◌, ◌^◌, ◌<◌, ◌≤◌, List, [], ◌∷◌, length, true, false, Option, Some, None}
use Rattle.ln_keys.specs.declared.role.Role.{Role}
use Rattle.ln_keys.specs.declared.role.Role.TheVariants.{Funder, Fundee}
use Rattle.ln_keys.specs.Signer.{Signer}
use Rattle.ln_log.specs.Machine.{Machine, Move, MayMove, after}
use Rattle.ln_channel.specs.declared.command.Command.{Command}
use Rattle.ln_channel.specs.declared.command.Command.TheVariants as command
use Rattle.ln_channel.specs.declared.machine.ConnectionState.{ConnectionState}
use Rattle.ln_channel.specs.declared.machine.ConnectionState.TheVariants.{Connected}
use Rattle.ln_channel.specs.End.{End}
use Rattle.ln_channel_laws.specs.Ends.{Ends, command_at}
use Rattle.ln_channel_laws.specs.Promises.{IsTaken}
use Rattle.ln_channel_laws.specs.Moves.{moves_asked, machine_of}

-- ---- what a command asks of the end's own readiness

-- both channel_ready were sent
abbrev pub IsReady : End → Type 0
IsReady e = (e.readiness.ready_sent ≡ true) × (e.readiness.ready_received ≡ true)

-- and there is a number for one more update
abbrev pub HasRoom : End → Type 0
HasRoom e = IsReady e × (length e.dance.log.own < 2 ^ 62)

-- that its own side hasn't shut down, the machine tells of an update; whether the peer has, only the end does. What is
-- too long doesn't go into a message. Decide and Forget are no commands of a connection
abbrev pub IsReadyFor : Command → End → Type 0
IsReadyFor (command.Confirm id) e = (e.readiness.ready_sent ≡ false) × (e.closing.closed ≡ None)
IsReadyFor (command.Add amount hash expiry onion origin) e = HasRoom e × (e.closing.peer_shut ≡ false)
IsReadyFor (command.Fulfil id preimage) e = HasRoom e
IsReadyFor (command.Fail id reason) e = HasRoom e × (length reason ≤ 65491)
IsReadyFor (command.Malformed id sha code) e = HasRoom e
IsReadyFor (command.Fee feerate) e = HasRoom e × (e.closing.peer_shut ≡ false)
IsReadyFor command.Sign e = IsReady e × (e.dance.numbers.signed ≢ 2 ^ 48 - 1)
IsReadyFor (command.Shutdown script) e = (e.closing.shut ≡ false) × (length script ≤ 65499)
IsReadyFor (command.Decide event mark) e = ⊥
IsReadyFor (command.Forget id) e = ⊥
IsReadyFor (command.Resume event mark) e = ⊥

-- ---- and of the machine

abbrev pub MayMake : List Move → Option Machine → Type 0
MayMake [] m = Unit {0}
MayMake (move ∷ moves) m = MayMove move m × MayMake moves (after move m)

-- the end of this side, in a channel that this is the machine of
pub record MayDo (side : Role) (l : ConnectionState) (c : Command) (e : End) (m : Machine) : Type 0 where
  pub met : l ≡ Connected
  pub ready : IsReadyFor c e
  pub moves : MayMake (moves_asked side c e) (Some m)

-- ---- each end does what it may, and nothing else

abbrev pub Does : Signer → Role → ConnectionState → Command → End → Machine → Type 0
Does keys side l c e m = IsTaken (command_at keys l c e) ↔ MayDo side l c e m

pub record BothDo (a b : Signer) (c : Command) (p : Ends) : Type 0 where
  pub funder : Does a Funder p.x_line c p.x (machine_of p)
  pub fundee : Does b Fundee p.y_line c p.y (machine_of p)
