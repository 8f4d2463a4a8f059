use Rattle.ln_node_loops.proofs.Owing.{in-parts}
use Rattle.ln_node_loops.proofs.rounds.report_pending.Goals as goal

pub returns-clause-says_what_is_owed : goal.returns-clause-says_what_is_owed
returns-clause-says_what_is_owed g c =
    in-parts _ _ _ _ _ _ _ c.report_kept_if.ensures.says_what_is_kept
    c.settle_events.ensures.says_what_is_settled c.report_use.ensures.says_the_use
