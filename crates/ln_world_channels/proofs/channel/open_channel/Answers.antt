use Rattle.std.proofs.Common.{ap, subst, ◌∙◌}
use Rattle.ln_world_channels.specs.Settings.{channel_id_of}
use Rattle.ln_world_channels.specs.WorldChannel.{WorldChannel, moved, opening_moves}
use Rattle.ln_world_channels.specs.Failing.{ByRecord, MovesLack}
use Rattle.ln_world_channels.proofs.channel.open_channel.Goals as goal

pub returns-in-Ok-clause-opened : goal.returns-in-Ok-clause-opened
returns-in-Ok-clause-opened g c = c.in-Ok.ensures.moved
    ∙ ap (moved g.K.ChannelKeys.signer (λ d. opening_moves)) c.in_ok-channel.ensures.begun

pub returns-in-Err-clause-fails : goal.returns-in-Err-clause-fails
returns-in-Err-clause-fails g c =
    subst (λ (d : WorldChannel _). ByRecord c.in-Err.refusal
    (MovesLack g.K.ChannelKeys.signer (channel_id_of d.number) opening_moves d.both)) c.in_ok-channel.ensures.begun
    c.in-Err.ensures.fails
