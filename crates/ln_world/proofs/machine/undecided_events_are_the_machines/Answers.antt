use Rattle.std.proofs.Common.{sym, subst}
use Rattle.ln_world_channels.specs.World as channels
use Rattle.ln_world_channels.specs.Machine.{AreInStep}
use Rattle.ln_world_channels.proofs.Told.{in_step_so}
use Rattle.ln_world.specs.Promises.{channel_steps}
use Rattle.ln_world.specs.Promises.{events_of}
use Rattle.ln_world.proofs.Plains.{ran_channels}
use Rattle.ln_world.proofs.machine.undecided_events_are_the_machines.Goals as goal

pub returns : goal.returns
returns g c =
    λ steps hooks number side. subst (λ (w : channels.World _). AreInStep side
    (events_of g.K.ChannelKeys hooks number side steps) (channels.channel number w.channels))
    (sym (ran_channels g.K.ChannelKeys hooks steps))
    (in_step_so g.K.ChannelKeys (channel_steps g.K.ChannelKeys hooks steps) number side)
