use Rattle.std.proofs.Common.{ap, ◌∙◌}
use Rattle.ln_world_channels.specs.WorldChannel.{restart_moves}
use Rattle.ln_world_channels.specs.World.{all_moved}
use Rattle.ln_world_channels.proofs.Moving.{on_ok}
use Rattle.ln_world_channels.proofs.Stopping.{all_stopped}
use Rattle.ln_world_channels.proofs.channels.Channels.stop.Goals as goal

pub returns-clause-moved : goal.returns-clause-moved
returns-clause-moved g c =
    on_ok c.restart.result (λ e. e
    ∙ ap (all_moved g.K.ChannelKeys.signer (restart_moves c.args.end.node)) c.in_ok-act_unheard.ensures.acted
    ∙ all_stopped g.K.ChannelKeys.signer c.args.end c.args.what c.args.self.now) c.restart.ensures.moved
