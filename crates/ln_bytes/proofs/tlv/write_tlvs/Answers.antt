use Rattle.std.proofs.Common.{◌++◌, ap, ◌∙◌}
use Rattle.ln_bytes.specs.Tlv.{stream_bytes}
use Rattle.ln_bytes.proofs.Streams.{is_written}
use Rattle.ln_bytes.proofs.tlv.write_tlvs.Goals as goal

pub returns-clause-spells_the_records : goal.returns-clause-spells_the_records
returns-clause-spells_the_records c = λ known_even all.
    is_written known_even c.args.records.now c.append_tlvs.new.out.items c.requires all
    c.in_ok-append_tlvs.ensures.has_fitting_records (c.in_ok-append_tlvs.ensures.appends_the_stream
    ∙ ap (λ l. l ++ stream_bytes c.args.records.now) c.new-out.ensures.items)
