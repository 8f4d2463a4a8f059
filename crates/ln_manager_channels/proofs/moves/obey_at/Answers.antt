use Rattle.ln_manager_channels.specs.Moves.{Obeys}
use Rattle.ln_manager_channels.proofs.Placed.{beside_past, beside_at}
use Rattle.ln_manager_channels.proofs.moves.obey_at.Goals as goal

pub returns-in-None : goal.returns-in-None
returns-in-None g c = beside_past c.args.channel (Obeys g.K.ChannelKeys.signer c.args.command)
    c.args.links.now.items c.args.newest.now c.in-None.ensures.item.3

pub returns-in-Some : goal.returns-in-Some
returns-in-Some g c = beside_at c.args.channel (Obeys g.K.ChannelKeys.signer c.args.command)
    c.args.links.now.items c.in-Some.link.now c.obey.new.link c.args.newest.now c.obey.new.newest c.obey.result
    c.in-Some.ensures.item.3.0 c.in-Some.ensures.value c.obey.ensures
