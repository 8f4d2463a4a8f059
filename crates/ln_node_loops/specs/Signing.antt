-- Whether a signature is owed (BOLT 2, "Committing Updates So Far: commitment_signed").
use Rattle.std.specs.Prelude.{Bool, true, false, not, ◌&&◌, Option, Some, None, is_none, Result, Ok, Err}
use Rattle.ln_refusals.specs.declared.refusal.Refusal.{Refusal}
use Rattle.ln_channel.specs.Commands.{sign_command_fault}
use Rattle.ln_channel.specs.End.{End}
use Rattle.ln_channel.specs.Record.{saved_end}
use Rattle.ln_channel.specs.State.{State, is_connected}

abbrev pub owes_by : Option End → Bool
owes_by None = false
owes_by (Some e) = is_none (sign_command_fault e)

-- a link owes a signature where it would sign: it works, its peer is there, none of its signatures is unrevoked, and
-- there is an update that none of them covers
abbrev pub owes_signature : {K : Type 0} → State K → Bool
owes_signature l =
    is_connected l.connection && (not l.halted && (is_none l.failure && owes_by (saved_end l.stage)))

abbrev pub is_done : {A : Type 0} → Result A Refusal → Bool
is_done (Ok d) = true
is_done (Err r) = false
