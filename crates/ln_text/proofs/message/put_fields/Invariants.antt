use Rattle.std.proofs.Common.{◌≡◌, ◌++◌, take, string_bytes}
use Rattle.std.specs.List.{flat_map}
use Rattle.ln_text.specs.Shown.{shown_field}
use Rattle.ln_text.proofs.message.put_fields.Given as goal

abbrev pub invariant-loop-field : goal.invariant-loop-field
invariant-loop-field l = string_bytes l.out ≡ string_bytes l.initial.out
    ++ flat_map shown_field (take l.field-index l.fields)
