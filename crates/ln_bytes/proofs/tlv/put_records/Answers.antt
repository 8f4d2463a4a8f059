use Rattle.std.proofs.Common.{take}
use Rattle.ln_bytes.specs.Tlv.{stream_bytes}
use Rattle.ln_bytes.proofs.Streams.{begins_still}
use Rattle.ln_bytes.proofs.tlv.put_records.Goals as goal

pub returns-in_err-put_record-clause-begins_as_before : goal.returns-in_err-put_record-clause-begins_as_before
returns-in_err-put_record-clause-begins_as_before c =
    begins_still c.args.out.now.items (stream_bytes (take c.loop-record.record-index c.args.records.now))
    c.loop-record.out.items c.put_record.new.out.items c.loop-record.invariant.0 c.put_record.ensures.begins_as_before
