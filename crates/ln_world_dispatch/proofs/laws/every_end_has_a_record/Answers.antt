use Rattle.ln_world_channels.specs.Records as record_of
use Rattle.ln_world_channels.specs.World as channels
use Rattle.ln_world_channels.proofs.Recorded.{all_have}
use Rattle.std.proofs.Common.{sym, subst}
use Rattle.ln_world_channels.specs.Promises as promise
use Rattle.ln_world_dispatch.specs.World.{empty, plains}
use Rattle.ln_world_dispatch.proofs.Plains.{ran, none_damaged}
use Rattle.ln_world_dispatch.proofs.laws.every_end_has_a_record.Goals as goal

pub returns-clause-records : goal.returns-clause-records
returns-clause-records g c =
    λ steps hooks wide. subst (λ (w : channels.World _). promise.OfEach record_of.HaveRecords w)
    (sym (ran g.K.ChannelKeys hooks steps))
    (all_have g.K.ChannelKeys (plains g.K.ChannelKeys steps (empty hooks)) wide)

pub returns-clause-never_damaged : goal.returns-clause-never_damaged
returns-clause-never_damaged g c = none_damaged g.K.ChannelKeys
