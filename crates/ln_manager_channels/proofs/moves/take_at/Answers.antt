use Rattle.ln_manager_channels.specs.Moves.{Takes}
use Rattle.ln_manager_channels.proofs.Placed.{beside_past, beside_at}
use Rattle.ln_manager_channels.proofs.moves.take_at.Goals as goal

pub returns-in-None : goal.returns-in-None
returns-in-None g c = beside_past c.args.channel (Takes g.K.ChannelKeys.signer c.args.keys c.args.message)
    c.args.links.now.items c.args.newest.now c.in-None.ensures.item.3

pub returns-in-Some : goal.returns-in-Some
returns-in-Some g c = beside_at c.args.channel (Takes g.K.ChannelKeys.signer c.args.keys c.args.message)
    c.args.links.now.items c.in-Some.link.now c.take.new.link c.args.newest.now c.take.new.newest c.take.result
    c.in-Some.ensures.item.3.0 c.in-Some.ensures.value c.take.ensures
