use Rattle.std.proofs.Common.{refl}
use Rattle.ln_manager_channels.specs.Calls as call
use Rattle.ln_manager_channels.specs.Calls.{Parts}
use Rattle.ln_manager_channels.specs.Kept.{parts_of}
use Rattle.ln_manager_channels.proofs.Entered.{one_more, follows_so}
use Rattle.ln_manager_channels.proofs.channels.Channels.follow.Goals as goal

pub invariant_of-self : goal.invariant_of-self
invariant_of-self g c =
    let signer = g.K.ChannelKeys.signer in
    let p = parts_of c.self.inside.parts in
    let q : Parts _ = record {
      links = c.self.inside.parts.links.items;
      records = c.self.inside.parts.records.items;
      numbers = c.self.inside.parts.numbers;
      book = c.follow.new.book;
    } in
    one_more signer (call.Follow c.args.policy c.args.used)
    (parts_of c.self.inside.began.told.start) p q c.self.invariant
    (follows_so p q c.args.policy c.args.used c.follow.result c.follow.ensures.followed
    c.follow.ensures.enters_the_route_at_most refl refl refl)
