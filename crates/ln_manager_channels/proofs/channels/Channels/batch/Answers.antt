use Rattle.std.proofs.Common.{refl}
use Rattle.ln_manager_channels.specs.Calls as call
use Rattle.ln_manager_channels.specs.Calls.{Parts}
use Rattle.ln_manager_channels.specs.Kept.{parts_of}
use Rattle.ln_manager_channels.proofs.Entered.{one_more}
use Rattle.ln_manager_channels.proofs.channels.Channels.batch.Goals as goal

pub invariant_of-self : goal.invariant_of-self
invariant_of-self g c =
    let signer = g.K.ChannelKeys.signer in
    let p = parts_of c.self.inside.parts in
    let q : Parts _ = record {
      links = c.self.inside.parts.links.items;
      records = c.batch_at.new.records.items;
      numbers = c.self.inside.parts.numbers;
      book = c.self.inside.parts.book;
    } in
    one_more signer (call.Batch c.args.channel)
    (parts_of c.self.inside.began.told.start) p q c.self.invariant
    (refl, c.batch_at.ensures, (refl, refl))
