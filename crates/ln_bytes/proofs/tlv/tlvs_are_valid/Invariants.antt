use Rattle.std.proofs.Common.{◌≡◌, None, take}
use Rattle.ln_bytes.specs.Tlv.{AreValid, last_type}
use Rattle.ln_bytes.proofs.tlv.tlvs_are_valid.Given as goal

abbrev pub invariant-loop-record : goal.invariant-loop-record
invariant-loop-record l = AreValid l.known_even None (take l.record-index l.records)
    × (l.before ≡ last_type None (take l.record-index l.records))
