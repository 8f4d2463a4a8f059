use Rattle.std.proofs.Common.{refl}
use Rattle.ln_msgs.specs.Messages.Table.{form_of}
use Rattle.ln_msgs.proofs.Writing.{is_written_by}
use Rattle.ln_msgs.proofs.codec.encoding.encoded.Goals as goal

pub returns : goal.returns
returns c w are typ_is records_are =
    is_written_by (form_of w.typ) c.put_parts.result w c.args.typ c.args.fields.now c.args.records.now refl
    c.ranges.typ.fits are typ_is records_are c.put_parts.ensures.writes_the_parts
    c.put_parts.ensures.refuses_what_is_too_long c.put_parts.ensures.has_one_of_two_faults
