-- What of a link outlives a restart.
use Rattle.std.specs.Prelude.{Option, Some, None, false}
use Rattle.ln_refusals.specs.declared.refusal.Refusal.{Refusal}
use Rattle.ln_channel.specs.declared.machine.ConnectionState.TheVariants as connection
use Rattle.ln_channel.specs.declared.machine.Stage.{Stage}
use Rattle.ln_channel.specs.declared.machine.Stage.TheVariants as stage
use Rattle.ln_channel.specs.End.{End}
use Rattle.ln_channel.specs.State.{State}

-- the end of a channel whose opening both have signed
abbrev pub saved_end : Stage → Option End
saved_end (stage.Funded e) = Some e
saved_end s = None

-- a link that has its end again, and the failure of its channel, and no connection
abbrev pub came_back : {K : Type 0} → K → Option Refusal → End → State K
came_back keys failure e =
    record { keys = keys; connection = connection.Down; halted = false; failure = failure; stage = stage.Funded e }
