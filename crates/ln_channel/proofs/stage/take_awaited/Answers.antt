use Rattle.ln_channel.proofs.Taken.{awaited_so}
use Rattle.ln_channel.proofs.stage.take_awaited.Goals as goal

pub returns-in-ChannelReestablish-clause-moves : goal.returns-in-ChannelReestablish-clause-moves
returns-in-ChannelReestablish-clause-moves g c = λ e s.
    awaited_so (g.K.ChannelKeys.signer c.args.keys.now) c.args.connection.now c.take_reestablish.new.connection _ _ e
    c.args.channel.now c.take_reestablish.new.channel c.take_reestablish.result c.in-ChannelReestablish.is
    (c.take_reestablish.ensures.moves e s)
