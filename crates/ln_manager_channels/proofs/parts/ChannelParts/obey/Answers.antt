use Rattle.ln_manager_channels.proofs.Placed.{obeys_past, obeys_at}
use Rattle.ln_manager_channels.proofs.parts.ChannelParts.obey.Goals as goal

pub returns-in-None-clause-obeys : goal.returns-in-None-clause-obeys
returns-in-None-clause-obeys g c = obeys_past g.K.ChannelKeys.signer c.args.channel c.args.command
    c.args.self.now.records.items c.args.self.now.links.items c.halt_at.new.links.items c.in-None.ensures.item.3
    c.halt_at.ensures

pub returns-in-Some-clause-obeys : goal.returns-in-Some-clause-obeys
returns-in-Some-clause-obeys g c = obeys_at g.K.ChannelKeys.signer c.args.channel c.args.command
    c.args.self.now.records.items c.args.self.now.links.items c.obey_at.new.links.items c.in-Some.newest.now
    c.obey_at.new.newest c.obey_at.result c.in-Some.ensures.item.3.0 c.in-Some.ensures.value c.obey_at.ensures
