use Rattle.std.proofs.Common.{◌≡◌, ◌++◌, take, string_bytes}
use Rattle.std.specs.List.{flat_map}
use Rattle.ln_text.specs.MessageText.{signature_line}
use Rattle.ln_text.proofs.message.put_signatures.Given as goal

abbrev pub invariant-loop-signature : goal.invariant-loop-signature
invariant-loop-signature l = string_bytes l.out ≡ string_bytes l.initial.out
    ++ flat_map signature_line (take l.signature-index l.list)
