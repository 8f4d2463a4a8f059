use Rattle.std.proofs.Common.{◌≡◌, ◌++◌, take, string_bytes}
use Rattle.std.specs.List.{flat_map}
use Rattle.ln_text.specs.MessageText.{record_text}
use Rattle.ln_text.proofs.message.put_records.Given as goal

abbrev pub invariant-loop-record : goal.invariant-loop-record
invariant-loop-record l = string_bytes l.out ≡ string_bytes l.initial.out
    ++ flat_map record_text (take l.record-index l.records)
