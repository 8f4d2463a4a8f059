use Rattle.std.proofs.Common.{◌∙◌, sym}
use Rattle.ln_manager_channels.specs.Obeying.{deciding}
use Rattle.ln_manager_channels.proofs.Obeyed.{same_parts, decides_so}
use Rattle.ln_manager_channels.proofs.parts.ChannelParts.decide.Goals as goal

pub returns-in-Ok-clause-decides : goal.returns-in-Ok-clause-decides
returns-in-Ok-clause-decides g c =
    let next = c.in-Ok-Some.next in
    let services = g.O.Onion.services c.args.onion.now in
    decides_so g.K.ChannelKeys.signer services c.args.channel
    (record {
      links = c.args.self.now.links.items;
      records = c.args.self.now.records.items;
      book = c.args.self.now.book;
    })
    (record {
      links = c.obey_due-given.new.self.links.items;
      records = c.obey_due-given.new.self.records.items;
      book = c.obey_due-given.new.self.book;
    })
    _ next.0 next.1 next.2 c.args.verdict c.in-Ok.mark c.obey_due-given.result
    (record {
      links = c.decide_in_book.new.self.links.items;
      records = c.decide_in_book.new.self.records.items;
      book = c.decide_in_book.new.self.book;
    })
    (sym c.in-Ok-Some.ensures.event ∙ c.in-Ok-Some.field-0-is) c.in-Ok.ensures.answers_the_mark
    (same_parts (deciding services next.0 next.1 next.2 c.args.verdict (record {
      links = c.args.self.now.links.items;
      records = c.args.self.now.records.items;
      book = c.args.self.now.book;
    })) _ c.decide_in_book.ensures.links_stay c.decide_in_book.ensures.records_stay c.in-Ok.ensures.decides)
    c.obey_due-given.ensures.concludes
