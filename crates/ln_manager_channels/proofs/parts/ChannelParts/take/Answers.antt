use Rattle.ln_manager_channels.specs.Moves.{TakesAt, TakesOver}
use Rattle.ln_manager_channels.proofs.Placed.{beside_past, beside_at}
use Rattle.ln_manager_channels.proofs.parts.ChannelParts.take.Goals as goal

pub returns-in-None-clause-takes : goal.returns-in-None-clause-takes
unfolding TakesOver
returns-in-None-clause-takes g c = beside_past c.args.channel
    (λ n n' ls ls' a. TakesAt g.K.ChannelKeys.signer c.args.channel c.args.keys c.args.message a ls ls' n n')
    c.args.self.now.records.items c.args.self.now.links.items c.in-None.ensures.item.3

pub returns-in-Some-clause-takes : goal.returns-in-Some-clause-takes
unfolding TakesOver
returns-in-Some-clause-takes g c = beside_at c.args.channel
    (λ n n' ls ls' a. TakesAt g.K.ChannelKeys.signer c.args.channel c.args.keys c.args.message a ls ls' n n')
    c.args.self.now.records.items c.in-Some.newest.now c.take_at.new.newest c.args.self.now.links.items
    c.take_at.new.links.items c.take_at.result c.in-Some.ensures.item.3.0 c.in-Some.ensures.value c.take_at.ensures
