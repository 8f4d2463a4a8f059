use Rattle.std.proofs.Common.{arith}
use Rattle.ln_bytes.proofs.Streams.{counted_more}
use Rattle.ln_bytes.proofs.tlv.tlvs_len.Goals as goal

pub returns-then-left-len-clause-none_is_too_many : goal.returns-then-left-len-clause-none_is_too_many
returns-then-left-len-clause-none_is_too_many c =
    let more = counted_more c.args.records.now c.loop-record.record-index c.record-item.result
    c.loop-record-test.true c.record-item.is in
    omega (arith, more, c.record_len-len.ensures)
