use Rattle.std.proofs.Common.{sym, subst, None}
use Rattle.ln_log.specs.Machine.{IsRun}
use Rattle.ln_world_channels.specs.World as channels
use Rattle.ln_world_channels.specs.Machine.{machine_of, history}
use Rattle.ln_world_channels.proofs.Told.{may_be_made}
use Rattle.ln_world_dispatch.specs.World.{empty, plains}
use Rattle.ln_world_dispatch.proofs.Plains.{ran}
use Rattle.ln_world_dispatch.proofs.machine.each_move_may_be_made.Goals as goal

pub returns : goal.returns
returns g c =
    λ steps hooks number. subst (λ (w : channels.World _). IsRun
    (history g.K.ChannelKeys number (plains g.K.ChannelKeys steps (empty hooks)) channels.empty) None
    (machine_of (channels.channel number w.channels))) (sym (ran g.K.ChannelKeys hooks steps))
    (may_be_made g.K.ChannelKeys (plains g.K.ChannelKeys steps (empty hooks)) number)
