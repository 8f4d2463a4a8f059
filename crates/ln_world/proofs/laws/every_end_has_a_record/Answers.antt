use Rattle.std.proofs.Common.{sym, subst}
use Rattle.ln_world_channels.specs.Promises as promise
use Rattle.ln_world_channels.specs.Records as record_of
use Rattle.ln_world_channels.specs.World as channels
use Rattle.ln_world_channels.proofs.Recorded.{all_have}
use Rattle.ln_world.specs.Promises.{channel_steps}
use Rattle.ln_world.proofs.Plains.{ran_channels, none_damaged}
use Rattle.ln_world.proofs.WideEnds.{are_wide}
use Rattle.ln_world.proofs.laws.every_end_has_a_record.Goals as goal

pub returns-clause-records : goal.returns-clause-records
returns-clause-records g c =
    λ steps hooks wide. subst (λ (w : channels.World _). promise.OfEach record_of.HaveRecords w)
    (sym (ran_channels g.K.ChannelKeys hooks steps)) (all_have g.K.ChannelKeys
    (channel_steps g.K.ChannelKeys hooks steps) (are_wide g.K.ChannelKeys steps hooks wide))

pub returns-clause-never_damaged : goal.returns-clause-never_damaged
returns-clause-never_damaged g c =
    λ steps hooks wide. none_damaged g.K.ChannelKeys steps hooks (are_wide g.K.ChannelKeys steps hooks wide)
