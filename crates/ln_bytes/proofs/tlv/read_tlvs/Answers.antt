use Rattle.std.proofs.Common.{subst}
use Rattle.ln_bytes.specs.Reading.{Gives}
use Rattle.ln_bytes.proofs.Streams.{stream_again, stream_faulty, is_stream, is_rising}
use Rattle.ln_bytes.proofs.tlv.read_tlvs.Goals as goal

pub returns-clause-types_rise : goal.returns-clause-types_rise
returns-clause-types_rise c = is_rising c.args.known_even.now c.args.bytes.now c.all_records.result
    c.all_records.ensures.is_spelled_so

pub returns-clause-reads_each_spelling : goal.returns-clause-reads_each_spelling
returns-clause-reads_each_spelling c = λ rs spells.
    subst (λ read. Gives (λ v. v.items) c.all_records.result read)
    (stream_again c.args.known_even.now rs c.args.bytes.now spells)
    (is_stream c.args.known_even.now c.args.bytes.now c.all_records.result c.all_records.ensures.is_spelled_so
    c.all_records.ensures.tells_the_first_fault)

pub returns-clause-refuses_each_fault : goal.returns-clause-refuses_each_fault
returns-clause-refuses_each_fault c = λ f has.
    subst (λ read. Gives (λ v. v.items) c.all_records.result read)
    (stream_faulty c.args.known_even.now c.args.bytes.now f has)
    (is_stream c.args.known_even.now c.args.bytes.now c.all_records.result c.all_records.ensures.is_spelled_so
    c.all_records.ensures.tells_the_first_fault)

pub returns-clause-reads_as_defined : goal.returns-clause-reads_as_defined
returns-clause-reads_as_defined c = is_stream c.args.known_even.now c.args.bytes.now c.all_records.result
    c.all_records.ensures.is_spelled_so c.all_records.ensures.tells_the_first_fault
