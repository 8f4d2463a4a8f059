use Rattle.ln_manager_channels.specs.Calls as call
use Rattle.ln_manager_channels.specs.Kept.{parts_of}
use Rattle.ln_manager_channels.proofs.Entered.{one_more}
use Rattle.ln_manager_channels.proofs.channels.Channels.command.Goals as goal

pub invariant_of-self : goal.invariant_of-self
invariant_of-self g c =
    let signer = g.K.ChannelKeys.signer in
    let p = parts_of c.self.inside.parts in
    let q = parts_of c.command.new.self in
    one_more signer (call.Command c.args.channel c.args.command)
    (parts_of c.self.inside.began.told.start) p q c.self.invariant
    ((c.command.result, c.command.ensures.obeys), (c.command.ensures.numbers_stay, c.command.ensures.book_stays))
