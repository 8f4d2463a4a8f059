use Rattle.std.proofs.Common.{◌∙◌}
use Rattle.ln_node_loops.proofs.Settling.{outputs-turn}
use Rattle.ln_node_loops.proofs.reports.report_outputs.Goals as goal

pub loop-output-preserved : goal.loop-output-preserved
loop-output-preserved g c = (
  outputs-turn _ _ _ _ _ _ c.output-item.result c.loop-output-test.true c.output-item.is c.loop-output.invariant.0
      c.report_output.ensures.says_what_is_settled,
  c.report_output.ensures.notes_nothing ∙ c.loop-output.invariant.1,
)
