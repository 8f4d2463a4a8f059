-- Which other channel's worker may have something to do once a command of the book was answered.
use Rattle.std.specs.Prelude.{ℕ, List, Option, Some, None}
use Rattle.ln_log.specs.declared.mark.Mark.{Mark}
use Rattle.ln_log.specs.declared.mark.Mark.TheVariants as mark
use Rattle.ln_channel.specs.declared.command.Command.{Command}
use Rattle.ln_channel.specs.declared.command.Command.TheVariants as command

-- the channel in which a payment goes on that is decided so
abbrev pub outgoing_channel : Mark → Option (List ℕ)
outgoing_channel mark.None = None
outgoing_channel (mark.Forward c amount expiry) = Some c
outgoing_channel (mark.Fail reason) = None
outgoing_channel (mark.Malformed code) = None
outgoing_channel (mark.Fulfil preimage) = None
outgoing_channel (mark.Held n) = None

-- the channel by which a payment came
abbrev pub incoming_channel : Option (List ℕ × ℕ) → Option (List ℕ)
incoming_channel None = None
incoming_channel (Some (c, id)) = Some c

-- a decision is carried out in the outgoing channel; what was offered there for a payment is told to the incoming one
abbrev pub other_channel : Command → Option (List ℕ)
other_channel (command.Confirm id) = None
other_channel (command.Add amount hash expiry onion origin) = incoming_channel origin
other_channel (command.Fulfil id preimage) = None
other_channel (command.Fail id reason) = None
other_channel (command.Malformed id sha code) = None
other_channel (command.Fee rate) = None
other_channel command.Sign = None
other_channel (command.Shutdown script) = None
other_channel (command.Decide event m) = outgoing_channel m
other_channel (command.Resume event m) = outgoing_channel m
other_channel (command.Forget id) = None

-- the same of the latest command
abbrev pub latest_other : Option (List ℕ) → Option Command → Option (List ℕ)
latest_other before None = before
latest_other before (Some c) = other_channel c
