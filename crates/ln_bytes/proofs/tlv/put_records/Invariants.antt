use Rattle.std.proofs.Common.{◌≡◌, ◌++◌, take}
use Rattle.ln_bytes.specs.Tlv.{stream_bytes, AreFit}
use Rattle.ln_bytes.proofs.tlv.put_records.Given as goal

abbrev pub invariant-loop-record : goal.invariant-loop-record
invariant-loop-record l =
    (l.out.items ≡ l.initial.out.items ++ stream_bytes (take l.record-index l.records))
    × AreFit (take l.record-index l.records)
