use Rattle.std.proofs.Common.{◌∙◌}
use Rattle.ln_world.proofs.Following.{one_heard}
use Rattle.ln_world.proofs.book_reports.on_events.Goals as goal

pub loop-number-preserved : goal.loop-number-preserved
loop-number-preserved c =
    one_heard c.args.id c.loop-number.number c.args.count c.args.end.now c.loop-number.book c.on_event.new.book
    c.loop-number-test.true c.in_ok-on_event.ensures.reported ∙ c.loop-number.invariant
