use Rattle.ln_relay.proofs.Steps.{learns}
use Rattle.ln_relay.proofs.Positions.{second_in, receiver_in}
use Rattle.ln_relay.proofs.bounded.finish.Goals as goal

pub absorb-requires-clause-rule : goal.absorb-requires-clause-rule
absorb-requires-clause-rule g c = let seats = c.requires.of_one in
    second_in _ _ _ _ c.args.first.sends seats.first_sends c.args.second.sends seats.second_sends

pub absorb-requires-2-clause-rule : goal.absorb-requires-2-clause-rule
absorb-requires-2-clause-rule g c = let seats = c.requires.of_one in
    receiver_in _ _ _ _ _ _ c.args.first.sends seats.first_sends c.args.second.sends seats.second_sends
    c.absorb.ensures.rule c.args.receiver.receives

pub learn_as-requires-clause-rule : goal.learn_as-requires-clause-rule
learn_as-requires-clause-rule g c = learns _ _
