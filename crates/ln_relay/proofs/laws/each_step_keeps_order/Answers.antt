use Rattle.ln_relay.proofs.Histories.{keeps_order, keeps_room, adds_own}
use Rattle.ln_relay.proofs.laws.each_step_keeps_order.Goals as goal

pub returns-clause-keeps_order : goal.returns-clause-keeps_order
returns-clause-keeps_order g c = λ room step h. keeps_order room step h

pub returns-clause-keeps_within_the_room : goal.returns-clause-keeps_within_the_room
returns-clause-keeps_within_the_room g c = λ room step h. keeps_room room step h

pub returns-clause-one_seat : goal.returns-clause-one_seat
returns-clause-one_seat g c = λ seat step h. adds_own seat step h
