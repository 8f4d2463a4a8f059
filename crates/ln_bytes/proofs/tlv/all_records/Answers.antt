use Rattle.ln_bytes.proofs.Streams.{gets_shorter, goes_on}
use Rattle.ln_bytes.proofs.tlv.all_records.Goals as goal

pub loop-rest-smaller : goal.loop-rest-smaller
loop-rest-smaller c =
    gets_shorter c.args.known_even.now c.loop-rest.before c.loop-rest.rest.now
    (record { typ = c.in_ok-typ.typ; value = c.in_ok-typ.value.now })
    c.in_ok-typ.after.now c.loop-rest.invariant.rest_fits c.in_ok-typ.ensures

pub loop-rest-preserved : goal.loop-rest-preserved
loop-rest-preserved c =
    rw (c.in_ok-push.ensures.items, c.in_ok-value.ensures)
    (goes_on c.args.known_even.now c.args.bytes.now c.loop-rest.records.items c.loop-rest.before c.loop-rest.rest.now
    (record { typ = c.in_ok-typ.typ; value = c.in_ok-typ.value.now })
    c.in_ok-typ.after.now c.loop-rest.invariant c.in_ok-typ.ensures)
