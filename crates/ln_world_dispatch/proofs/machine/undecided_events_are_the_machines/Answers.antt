use Rattle.std.proofs.Common.{sym, subst}
use Rattle.ln_world_channels.specs.World as channels
use Rattle.ln_world_channels.specs.Machine.{AreInStep}
use Rattle.ln_world_channels.proofs.Told.{in_step_so}
use Rattle.ln_world_dispatch.specs.World.{empty, plains}
use Rattle.ln_world_dispatch.specs.Promises.{events_of}
use Rattle.ln_world_dispatch.proofs.Plains.{ran}
use Rattle.ln_world_dispatch.proofs.machine.undecided_events_are_the_machines.Goals as goal

pub returns : goal.returns
returns g c =
    λ steps hooks number side. subst (λ (w : channels.World _). AreInStep side
    (events_of g.K.ChannelKeys hooks number side steps) (channels.channel number w.channels))
    (sym (ran g.K.ChannelKeys hooks steps))
    (in_step_so g.K.ChannelKeys (plains g.K.ChannelKeys steps (empty hooks)) number side)
