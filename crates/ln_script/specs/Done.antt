-- What each command of the program does with its input and output, where their bytes are known.
use Rattle.std.specs.Prelude.{◌≡◌, ◌≢◌, ◌⊎◌, ℕ, ◌-◌, ◌^◌, ◌≤◌, List, Option, Result, Err, IfSome, string_bytes}
use Rattle.std.specs.Prelude.{true, false}
use Rattle.std.specs.Prelude.{if◌then◌else◌}
use Rattle.std.specs.Str.{is_utf8}
use Rattle.ln_bytes.specs.declared.fault.Fault.{Fault}
use Rattle.ln_bytes.specs.declared.fault.Fault.TheVariants as fault
use Rattle.ln_refusals.specs.declared.refusal.Refusal.{Refusal}
use Rattle.ln_refusals.specs.declared.refusal.Refusal.TheVariants.{Memory, Io, BadScript}
use Rattle.ln_refusals.specs.Refusal.{refusal_of}
use Rattle.ln_msgs.specs.Pings.Counted.{HasRisen}
use Rattle.ln_msgs.specs.Pings.Answered.{AnswersAll, AnswersUpTo, AnswersSome}
use Rattle.ln_script.specs.Hook.{SaysOf}
use Rattle.ln_script.specs.Step.{ToyStep}
use Rattle.ln_script.specs.Script.{script_at, script_hooks}
use Rattle.ln_script.specs.Report.{ReportsScript, ReportsScriptPartly}
use Rattle.ln_script.specs.declared.program.choice.Choice.{Choice}
use Rattle.ln_script.specs.declared.program.choice.Choice.TheVariants as choice
use Rattle.ln_script.specs.declared.program.program_error.ProgramError.{ProgramError}
use Rattle.ln_script.specs.declared.program.program_error.ProgramError.TheVariants.{Refused}
use Rattle.ln_script.specs.declared.program.program_error.ProgramError.TheVariants as error
use Rattle.ln_script.specs.declared.bad_line.BadLine.{BadLine}
use Rattle.ln_script.specs.Flaw.{bad_line_in}
use Rattle.ln_script.specs.Printed.{Prints, PrintsPartly}
use Rattle.ln_script.specs.Text.{decoded}

-- the steps of a script's bytes, or the number of its first bad line; 0 where they aren't UTF-8
abbrev pub script_in : List ℕ → Result (List ToyStep) ℕ
script_in bytes = if is_utf8 bytes then script_at bytes else Err 0

-- its report, with the hooks that its lines ask for
abbrev pub Simulates : Option (List ℕ) → Option (List ℕ) → List ℕ → Type 0
Simulates old new bytes = ReportsScript SaysOf (script_hooks bytes) (script_in bytes) old new

-- a beginning of it, or nothing where there is none
abbrev pub SimulatesPartly : Option (List ℕ) → Option (List ℕ) → List ℕ → Type 0
SimulatesPartly old new bytes = ReportsScriptPartly SaysOf (script_hooks bytes) (script_in bytes) old new

-- what is told where a script's text is refused: of a bad line what is wrong with it
abbrev pub told_refusal : List ℕ → Refusal → ProgramError
told_refusal text (BadScript line) = error.BadLine (bad_line_in text line)
told_refusal text r = Refused r

-- by one of its lines, or the whole of it
abbrev pub IsOfScript : ProgramError → Type 0
IsOfScript f = (f ≡ error.NotText) ⊎ ((bad : BadLine) × (f ≡ error.BadLine bad))

-- the first bad line, and what is wrong with it
abbrev pub IsBadText : List ℕ → ProgramError → Type 0
IsBadText text f = (line : ℕ) × (f ≡ error.BadLine (bad_line_in text line)) × (script_at text ≡ Err line)

-- that, or the bytes are no text
abbrev pub AreNoScript : List ℕ → ProgramError → Type 0
AreNoScript bytes f = ((f ≡ error.NotText) × (is_utf8 bytes ≡ false))
    ⊎ ((is_utf8 bytes ≡ true) × IsBadText bytes f)

module _ (input input_after output output_after : Option (List ℕ)) where
  -- all that a command is for
  abbrev pub Does : Choice → Type 0
  Does choice.Answer = (count : ℕ) × AnswersAll input input_after output output_after count
  Does (choice.Decode text) = Prints output output_after (decoded (string_bytes text))
  Does choice.Simulate = IfSome input (λ bytes. Simulates output output_after bytes)

  -- a beginning of it
  abbrev pub DoesPartly : Choice → Type 0
  DoesPartly choice.Answer = AnswersSome input input_after output output_after
  DoesPartly (choice.Decode text) = PrintsPartly output output_after (decoded (string_bytes text))
  DoesPartly choice.Simulate = IfSome input (λ bytes. SimulatesPartly output output_after bytes)

  -- why it stops there: what was read is at fault, or there was no memory, or a call of the reader or the writer
  -- failed
  abbrev pub StopsBy : (failed : Type 0) → Choice → ProgramError → Type 0
  StopsBy failed choice.Answer f = (e : Fault) × (f ≡ Refused (refusal_of e)) × (e ≡ fault.Io → failed)
      × (e ≢ fault.Memory → e ≢ fault.Io → AnswersUpTo input input_after output output_after e)
  StopsBy failed (choice.Decode text) f =
      (f ≡ Refused Memory) ⊎ ((f ≡ Refused Io) × failed) ⊎ (decoded (string_bytes text) ≡ Err f)
  StopsBy failed choice.Simulate f = (f ≡ Refused Memory) ⊎ ((f ≡ Refused Io) × failed)
      ⊎ (IsOfScript f × IfSome input (λ bytes. AreNoScript bytes f))

-- a call of one of them failed, or they were called 2^64 - 1 times
abbrev pub HasFailed : (reads reads_after writes writes_after calls : ℕ) → Type 0
HasFailed reads reads_after writes writes_after calls =
    HasRisen reads reads_after ⊎ HasRisen writes writes_after ⊎ (2 ^ 64 - 1 ≤ calls)
