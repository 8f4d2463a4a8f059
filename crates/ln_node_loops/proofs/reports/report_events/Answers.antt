use Rattle.std.proofs.Common.{◌∙◌}
use Rattle.ln_node_loops.proofs.Settling.{events-turn}
use Rattle.ln_node_loops.proofs.reports.report_events.Goals as goal

pub loop-one-preserved : goal.loop-one-preserved
loop-one-preserved g c = (
  events-turn _ _ _ _ _ _ c.one-item.result c.loop-one-test.true c.one-item.is c.loop-one.invariant.0
      c.report_settled.ensures.says_what_is_settled,
  c.report_settled.ensures.notes_nothing ∙ c.loop-one.invariant.1,
)
