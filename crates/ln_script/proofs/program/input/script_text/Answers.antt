use Rattle.std.proofs.Common.{refl}
use Rattle.std.proofs.lemmas.Str.{is_utf8-from_IsUtf8}
use Rattle.ln_script.proofs.Printing.{no_utf8}
use Rattle.ln_script.proofs.program.input.script_text.Goals as goal

pub returns-in-Ok-clause-gives_the_bytes : goal.returns-in-Ok-clause-gives_the_bytes
returns-in-Ok-clause-gives_the_bytes c =
    (is_utf8-from_IsUtf8 c.args.bytes.now c.in-Ok.ensures.cases.1, c.in-Ok.ensures.cases.0)

pub returns-in-Err-clause-refused : goal.returns-in-Err-clause-refused
returns-in-Err-clause-refused c = (no_utf8 c.args.bytes.now c.in-Err.ensures.cases.0, refl)
