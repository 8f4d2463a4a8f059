use Rattle.ln_world_channels.proofs.Promised.{headline}
use Rattle.ln_world_channels.proofs.Told.{none_adds_late}
use Rattle.ln_world_dispatch.proofs.Dispatchers.{calls_follow}
use Rattle.ln_world.specs.World.{empty, plains}
use Rattle.ln_world.specs.Promises.{channel_steps}
use Rattle.ln_world.proofs.Plains.{of_each}
use Rattle.ln_world.proofs.laws.headline.Goals as goal

pub returns-clause-holds_what_is_covered : goal.returns-clause-holds_what_is_covered
returns-clause-holds_what_is_covered g c = of_each g.K.ChannelKeys _ (headline g.K.ChannelKeys)

pub returns-clause-adds_nothing_late : goal.returns-clause-adds_nothing_late
returns-clause-adds_nothing_late g c =
    λ steps hooks number. none_adds_late g.K.ChannelKeys (channel_steps g.K.ChannelKeys hooks steps) number

pub returns-clause-calls_follow : goal.returns-clause-calls_follow
returns-clause-calls_follow g c =
    λ steps hooks. calls_follow g.K.ChannelKeys (plains g.K.ChannelKeys steps (empty hooks)) hooks
