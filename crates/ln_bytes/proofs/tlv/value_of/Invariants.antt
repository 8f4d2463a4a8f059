use Rattle.std.specs.Prelude.{◌≡◌, drop}
use Rattle.ln_bytes.specs.Tlv.{value_of}
use Rattle.ln_bytes.proofs.tlv.value_of.Given as goal

abbrev pub invariant-loop-record : goal.invariant-loop-record
invariant-loop-record l = value_of l.typ (drop l.record-index l.records) ≡ value_of l.typ l.records
