use Rattle.ln_manager_channels.specs.Calls as call
use Rattle.ln_manager_channels.specs.Kept.{parts_of}
use Rattle.ln_manager_channels.proofs.Entered.{one_more}
use Rattle.ln_manager_channels.proofs.channels.Channels.message.Goals as goal

pub invariant_of-self : goal.invariant_of-self
invariant_of-self g c =
    let signer = g.K.ChannelKeys.signer in
    let p = parts_of c.self.inside.parts in
    let q = parts_of c.message.new.self in
    one_more signer (call.Message c.args.channel c.args.keys c.args.message)
    (parts_of c.self.inside.began.told.start) p q c.self.invariant
    ((c.message.result, c.message.ensures.takes), c.message.ensures.book_stays)
