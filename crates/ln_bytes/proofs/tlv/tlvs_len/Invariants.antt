use Rattle.std.proofs.Common.{◌≡◌, ◌+◌, length, take}
use Rattle.ln_bytes.specs.Tlv.{stream_bytes}
use Rattle.ln_bytes.proofs.tlv.tlvs_len.Given as goal

abbrev pub invariant-loop-record : goal.invariant-loop-record
invariant-loop-record l = l.left + length (stream_bytes (take l.record-index l.records)) ≡ l.most
