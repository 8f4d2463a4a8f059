use Rattle.std.proofs.Common.{refl}
use Rattle.ln_channel.proofs.Turning.{signed_so}
use Rattle.ln_channel.proofs.stage.opened_by_signed.Goals as goal

pub returns : goal.returns
returns g c = λ s stands.
    signed_so (g.K.ChannelKeys.signer c.args.keys.now) c.args.connection c.args.message.now c.in-AwaitsSigned.channel
    c.args.stage.now c.save.new.stage s c.new.result c.in-AwaitsSigned.is stands
    (c.in_ok-check_funding-in-AwaitsSigned.ensures.refuses_exactly c.in-AwaitsSigned.channel refl)
    (c.save.ensures _ refl) c.new.ensures
