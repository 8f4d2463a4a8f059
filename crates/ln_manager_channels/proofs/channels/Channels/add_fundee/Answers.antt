use Rattle.ln_channel.specs.declared.machine.Stage.TheVariants as stage
use Rattle.ln_channel.specs.State.{begun}
use Rattle.ln_manager_channels.specs.Calls as call
use Rattle.ln_manager_channels.specs.Kept.{parts_of}
use Rattle.ln_manager_channels.proofs.Entered.{one_more, adds_so}
use Rattle.ln_manager_channels.proofs.channels.Channels.add_fundee.Goals as goal

pub invariant_of-self : goal.invariant_of-self
invariant_of-self g c =
    let signer = g.K.ChannelKeys.signer in
    let p = parts_of c.self.inside.parts in
    let q = parts_of c.add.new.self in
    one_more signer (call.AddFundee c.args.keys c.args.config)
    (parts_of c.self.inside.began.told.start) p q c.self.invariant
    (adds_so p q c.fundee.result (begun c.args.keys (stage.AwaitsOpen c.args.config)) c.fundee.ensures c.add.result
    c.add.ensures.adds c.add.ensures.adds_none_if_refused c.add.ensures.makes_place c.add.ensures.makes_place_at_most
    c.add.ensures.numbers_stay c.add.ensures.book_stays)
