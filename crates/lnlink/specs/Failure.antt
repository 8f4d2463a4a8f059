-- Why the program ends without success: its exit status, and whether its words are the reason.
use Rattle.std.specs.Prelude.{ℕ}
use Rattle.ln_script.specs.ProgramError.{status_of}
use Rattle.lnlink.specs.declared.failure.Failure.{Failure}
use Rattle.lnlink.specs.declared.failure.Failure.TheVariants.{Usage, Stopped}

abbrev pub exit_status : Failure → ℕ
exit_status (Usage text) = 2
exit_status (Stopped error) = status_of error

-- the words are no command
abbrev pub IsUsage : Failure → Type 0
IsUsage (Usage text) = Unit {0}
IsUsage (Stopped error) = ⊥
