use Rattle.std.proofs.Common.{ap}
use Rattle.ln_manager_channels.specs.Kept.{parts_of}
use Rattle.ln_manager_channels.proofs.Entered.{just_begun}
use Rattle.ln_manager_channels.proofs.channels.Channels.begun.Goals as goal

pub invariant_of-result : goal.invariant_of-result
invariant_of-result g c = just_begun g.K.ChannelKeys.signer (parts_of c.begun-began.result.told.start)
    (parts_of c.args.parts) (ap (λ h. parts_of h.start) c.begun-began.ensures) c.requires
