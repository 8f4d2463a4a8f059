use Rattle.ln_manager_channels.specs.Moves.{Connects}
use Rattle.ln_manager_channels.proofs.Placed.{answers_past, answers_at}
use Rattle.ln_manager_channels.proofs.moves.connect_at.Goals as goal

pub returns-in-None : goal.returns-in-None
returns-in-None g c =
    answers_past c.args.channel (Connects g.K.ChannelKeys.signer) c.args.links.now.items c.in-None.ensures.item.3

pub returns-in-Some : goal.returns-in-Some
returns-in-Some g c = answers_at c.args.channel (Connects g.K.ChannelKeys.signer) c.args.links.now.items
    c.in-Some.link.now c.connect.new.link c.connect.result c.in-Some.ensures.item.3.0 c.in-Some.ensures.value
    c.connect.ensures
