use Rattle.std.proofs.Common.{refl, inl}
use Rattle.ln_manager_channels.specs.Calls as call
use Rattle.ln_manager_channels.specs.Calls.{Parts}
use Rattle.ln_manager_channels.specs.Kept.{parts_of}
use Rattle.ln_manager_channels.proofs.Entered.{one_more}
use Rattle.ln_manager_channels.proofs.channels.Channels.set_height.Goals as goal

pub invariant_of-self : goal.invariant_of-self
invariant_of-self g c =
    let signer = g.K.ChannelKeys.signer in
    let p = parts_of c.self.inside.parts in
    let q : Parts _ = record {
      links = c.self.inside.parts.links.items;
      records = c.self.inside.parts.records.items;
      numbers = c.self.inside.parts.numbers;
      book = c.set_height.new.book;
    } in
    one_more signer (call.SetHeight c.args.height)
    (parts_of c.self.inside.began.told.start) p q c.self.invariant
    (inl c.set_height.ensures.enters_the_height, (refl, refl, refl))
