use Rattle.std.proofs.Common.{refl}
use Rattle.ln_manager_channels.specs.Calls as call
use Rattle.ln_manager_channels.specs.Calls.{Parts}
use Rattle.ln_manager_channels.specs.Kept.{parts_of}
use Rattle.ln_manager_channels.proofs.Entered.{one_more}
use Rattle.ln_manager_channels.proofs.channels.Channels.name_funding.Goals as goal

pub invariant_of-self : goal.invariant_of-self
invariant_of-self g c =
    let signer = g.K.ChannelKeys.signer in
    let p = parts_of c.self.inside.parts in
    let q : Parts _ = record {
      links = c.name_at.new.links.items;
      records = c.self.inside.parts.records.items;
      numbers = c.self.inside.parts.numbers;
      book = c.self.inside.parts.book;
    } in
    one_more signer (call.NameFunding c.args.channel c.args.txid c.args.output)
    (parts_of c.self.inside.began.told.start) p q c.self.invariant
    (c.name_at.ensures.names, (refl, refl, refl))
