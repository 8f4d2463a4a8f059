use Rattle.std.proofs.Common.{ap, ◌∙◌}
use Rattle.ln_world_channels.specs.WorldChannel.{halt_moves}
use Rattle.ln_world_channels.specs.World.{moved_at}
use Rattle.ln_world_channels.proofs.Stopping.{halted_there}
use Rattle.ln_world_channels.proofs.channels.Channels.halt_after.Goals as goal

pub returns-clause-moved : goal.returns-clause-moved
returns-clause-moved g c =
    let signer = g.K.ChannelKeys.signer in
    c.halt.ensures
    ∙ ap (moved_at signer c.args.end.channel (halt_moves c.args.end.node)) c.in_ok-act_unheard.ensures.acted
    ∙ halted_there signer c.args.end c.args.what c.args.self.now
