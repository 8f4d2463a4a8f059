-- What a text in hexadecimal says.
use Rattle.std.specs.Prelude.{ℕ, List, Result, Ok, Err}
use Rattle.hex.specs.Hex.{decode_of}
use Rattle.hex.specs.declared.error.FromHexError.{FromHexError}
use Rattle.ln_bytes.specs.declared.fault.Fault.{Fault}
use Rattle.ln_msgs.specs.Messages.Message.{Heard, message_at}
use Rattle.ln_refusals.specs.Refusal.{refusal_of}
use Rattle.ln_text.specs.MessageText.{heard_text}
use Rattle.ln_script.specs.declared.program.program_error.ProgramError.{ProgramError}
use Rattle.ln_script.specs.declared.program.program_error.ProgramError.TheVariants.{NotHex, Refused}

abbrev pub read_text : Result Heard Fault → Result (List ℕ) ProgramError
read_text (Ok h) = Ok (heard_text h)
read_text (Err f) = Err (Refused (refusal_of f))

abbrev pub spelled_text : Result (List ℕ) FromHexError → Result (List ℕ) ProgramError
spelled_text (Ok bytes) = read_text (message_at bytes)
spelled_text (Err e) = Err NotHex

abbrev pub decoded : List ℕ → Result (List ℕ) ProgramError
decoded text = spelled_text (decode_of text)
