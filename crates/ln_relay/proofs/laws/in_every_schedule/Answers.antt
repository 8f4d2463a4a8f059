use Rattle.std.proofs.Common.{◌++◌, ap, ◌∙◌, arith}
use Rattle.ln_relay.specs.Merge.{neither}
use Rattle.ln_relay.specs.History.{nothing, all_added}
use Rattle.ln_relay.proofs.Histories.{runs_in_order, runs_within, runs_own, starts_empty}
use Rattle.ln_relay.proofs.laws.in_every_schedule.Goals as goal

pub returns-clause-keeps_order : goal.returns-clause-keeps_order
returns-clause-keeps_order g c = λ room steps can. runs_in_order room steps nothing can neither

pub returns-clause-keeps_within_the_room : goal.returns-clause-keeps_within_the_room
returns-clause-keeps_within_the_room g c = λ room steps can. runs_within room steps nothing can (omega arith)

pub returns-clause-each_seat : goal.returns-clause-each_seat
returns-clause-each_seat g c = λ seat steps.
    runs_own seat steps nothing ∙ ap (λ l. l ++ all_added seat steps) (starts_empty seat)
