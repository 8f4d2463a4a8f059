use Rattle.std.proofs.Common.{sym, subst, None}
use Rattle.ln_log.specs.Machine.{IsRun}
use Rattle.ln_world_channels.specs.World as channels
use Rattle.ln_world_channels.specs.Machine.{machine_of, history}
use Rattle.ln_world_channels.proofs.Told.{may_be_made}
use Rattle.ln_world.specs.Promises.{channel_steps}
use Rattle.ln_world.proofs.Plains.{ran_channels}
use Rattle.ln_world.proofs.machine.each_move_may_be_made.Goals as goal

pub returns : goal.returns
returns g c =
    λ steps hooks number. subst (λ (w : channels.World _). IsRun
    (history g.K.ChannelKeys number (channel_steps g.K.ChannelKeys hooks steps) channels.empty) None
    (machine_of (channels.channel number w.channels))) (sym (ran_channels g.K.ChannelKeys hooks steps))
    (may_be_made g.K.ChannelKeys (channel_steps g.K.ChannelKeys hooks steps) number)
