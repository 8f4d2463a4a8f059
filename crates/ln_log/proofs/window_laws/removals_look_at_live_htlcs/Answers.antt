use Rattle.ln_log.proofs.Behind.{offered_below, found, outcome_kept}
use Rattle.ln_log.proofs.window_laws.removals_look_at_live_htlcs.Goals as goal

pub returns-clause-offered_below_the_next_id : goal.returns-clause-offered_below_the_next_id
returns-clause-offered_below_the_next_id c = offered_below

pub returns-clause-found_among_them : goal.returns-clause-found_among_them
returns-clause-found_among_them c = found

pub returns-clause-remove_nothing : goal.returns-clause-remove_nothing
returns-clause-remove_nothing c = outcome_kept
