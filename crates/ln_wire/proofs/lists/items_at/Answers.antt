use Rattle.std.proofs.lemmas.Result.{err_from_is_err_and}
use Rattle.ln_store.specs.Format.{items_at}
use Rattle.ln_store.proofs.Loops.{goes_on, ends, is_done}
use Rattle.ln_wire.proofs.lists.items_at.Goals as goal

pub returns-in_err-item : goal.returns-in_err-item
returns-in_err-item g c =
    let f = g.T.Wire.format in
    let p = err_from_is_err_and c.from_residual.result c.from_residual.ensures.1 in
    rw (p.1, p.2) (ends f c.in_err-item.field-0.0 c.loop.items.items c.args.count c.loop.counter c.loop.rest.now
    (items_at f c.args.count c.args.bytes.now) c.loop-test.true c.in_err-item.ensures c.loop.invariant)

pub loop-preserved : goal.loop-preserved
loop-preserved g c =
    let f = g.T.Wire.format in
    rw c.in_ok-push.ensures.items (goes_on f c.loop.items.items c.args.count c.loop.counter c.loop.rest.now
    c.in_ok-item.item c.in_ok-item.after.now (items_at f c.args.count c.args.bytes.now) c.loop-test.true
    c.in_ok-item.ensures c.loop.invariant)

pub returns : goal.returns
returns g c =
    let f = g.T.Wire.format in
    is_done f c.loop.items.items c.args.count c.loop.counter c.loop.rest.now (items_at f c.args.count c.args.bytes.now)
    c.loop-test.false c.loop.invariant
