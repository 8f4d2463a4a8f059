-- The exit status and the text of each error of the program.
use Rattle.std.specs.Prelude.{ℕ, List, ◌++◌, codes}
use Rattle.ln_refusals.specs.Refusal.{refusal_name}
use Rattle.ln_refusals.specs.RefusalText.{refusal_text}
use Rattle.ln_script.specs.Flaw.{bad_line_text}
use Rattle.ln_script.specs.declared.program.program_error.ProgramError.{ProgramError}
use Rattle.ln_script.specs.declared.program.program_error.ProgramError.TheVariants.{NotHex, NotText, BadLine, Refused}

abbrev pub status_of : ProgramError → ℕ
status_of NotHex = 2
status_of NotText = 1
status_of (BadLine bad) = 1
status_of (Refused refusal) = 1

abbrev pub error_text : ProgramError → List ℕ
error_text NotHex = codes "the message isn't hexadecimal, two digits a byte"
error_text NotText = codes "the script isn't UTF-8 (refused 64 BadScript)"
error_text (BadLine bad) = bad_line_text bad
error_text (Refused refusal) = refusal_text refusal ++ (codes " " ++ refusal_name refusal)
