use Rattle.std.proofs.Common.{refl}
use Rattle.ln_history.specs.History.{with_entry}
use Rattle.ln_book_tables.specs.declared.entry.Entry.TheVariants as entry
use Rattle.ln_manager_channels.specs.Calls as call
use Rattle.ln_manager_channels.specs.Calls.{Parts}
use Rattle.ln_manager_channels.specs.Kept.{parts_of}
use Rattle.ln_manager_channels.proofs.Entered.{one_more, hears_so}
use Rattle.ln_manager_channels.proofs.channels.Channels.expect.Goals as goal

pub invariant_of-self : goal.invariant_of-self
invariant_of-self g c =
    let signer = g.K.ChannelKeys.signer in
    let p = parts_of c.self.inside.parts in
    let q : Parts _ = record {
      links = c.self.inside.parts.links.items;
      records = c.self.inside.parts.records.items;
      numbers = c.self.inside.parts.numbers;
      book = c.expect.new.self;
    } in
    one_more signer (call.Expect c.args.preimage c.args.secret c.args.amount)
    (parts_of c.self.inside.began.told.start) p q c.self.invariant
    (hears_so p q (with_entry (entry.Expect (record {
      preimage = c.args.preimage;
      expected = record { secret = c.args.secret; amount = c.args.amount };
    })) p.book)
    c.expect.result c.expect.ensures.enters_the_invoice c.expect.ensures.changes_nothing_if_refused refl refl refl)
