use Rattle.std.proofs.Common.{slice_get}
use Rattle.ln_manager_channels.specs.Books.{with_heard}
use Rattle.ln_manager_channels.specs.Calls as call
use Rattle.ln_manager_channels.specs.Events.{told_in}
use Rattle.ln_manager_channels.specs.Kept.{parts_of}
use Rattle.ln_manager_channels.specs.Links.{working_end, working_id}
use Rattle.ln_manager_channels.proofs.Entered.{one_more, hears_so}
use Rattle.ln_manager_channels.proofs.channels.Channels.hear.Goals as goal

pub invariant_of-self : goal.invariant_of-self
invariant_of-self g c =
    let signer = g.K.ChannelKeys.signer in
    let p = parts_of c.self.inside.parts in
    let q = parts_of c.hear.new.self in
    one_more signer (call.Hear c.args.channel c.args.number)
    (parts_of c.self.inside.began.told.start) p q c.self.invariant
    (hears_so p q (with_heard (working_id (slice_get p.links c.args.channel))
    (told_in c.args.number (working_end (slice_get p.links c.args.channel))) p.book)
    c.hear.result c.hear.ensures.hears c.hear.ensures.changes_nothing_if_refused c.hear.ensures.links_stay
    c.hear.ensures.numbers_stay c.hear.ensures.records_stay)
