use Rattle.ln_channel.specs.Taking.{is_viewed}
use Rattle.ln_channel.specs.Step.{stage_row}
use Rattle.ln_channel.proofs.Kept.{stage_moves}
use Rattle.ln_channel.proofs.machine.Stage.take.Goals as goal

pub returns-in-Funded-clause-moves : goal.returns-in-Funded-clause-moves
returns-in-Funded-clause-moves g c = λ s stands.
    stage_moves (is_viewed c.args.message)
    (stage_row (g.K.ChannelKeys.signer c.args.keys.now) c.args.connection.now c.args.message) c.args.connection.now
    c.take_saved.new.connection c.in-Funded.channel c.take_saved.new.channel c.args.self.now s c.take_saved.result
    c.in-Funded.is stands c.take_saved.ensures.moves
