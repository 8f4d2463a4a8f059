use Rattle.std.proofs.Common.{◌∙◌, sym, ap}
use Rattle.ln_manager_channels.specs.Obeying as obeying
use Rattle.ln_manager_channels.proofs.Obeyed.{stops_so, due_stops, due_none, due_other, due_so}
use Rattle.ln_manager_channels.proofs.parts.ChannelParts.obey_due.Goals as goal

pub returns-then-is_due-clause-concludes : goal.returns-then-is_due-clause-concludes
returns-then-is_due-clause-concludes g c = due_so g.K.ChannelKeys.signer (g.O.Onion.services c.args.onion.now)
    c.args.channel
    (record {
      links = c.args.self.now.links.items;
      records = c.args.self.now.records.items;
      book = c.args.self.now.book;
    })
    (record {
      links = c.conclude.new.self.links.items;
      records = c.conclude.new.self.records.items;
      book = c.conclude.new.self.book;
    })
    c.args.id (obeying.is_due c.args.due) c.conclude.result c.in-Ok-Some.command
    (record {
      links = c.args.self.now.links.items;
      records = c.args.self.now.records.items;
      book = c.take_commands.new.self;
    })
    (sym c.in-Ok-Some.ensures.answers_the_first ∙ c.in-Ok-Some.field-0-is)
    (ap (λ b. record {
      links = c.args.self.now.links.items;
      records = c.args.self.now.records.items;
      book = b;
    }) c.in-Ok-Some.ensures.enters_what_is_taken)
    (sym c.if-is_due.ensures) c.conclude.ensures.concludes

pub returns-else-is_due-clause-concludes : goal.returns-else-is_due-clause-concludes
returns-else-is_due-clause-concludes g c = due_other g.K.ChannelKeys.signer (g.O.Onion.services c.args.onion.now)
    c.args.channel
    (record {
      links = c.args.self.now.links.items;
      records = c.args.self.now.records.items;
      book = c.args.self.now.book;
    })
    (record {
      links = c.stop.new.self.links.items;
      records = c.stop.new.self.records.items;
      book = c.stop.new.self.book;
    })
    c.args.id (obeying.is_due c.args.due) c.stop.result c.in-Ok-Some.command
    (record {
      links = c.args.self.now.links.items;
      records = c.args.self.now.records.items;
      book = c.take_commands.new.self;
    })
    (sym c.in-Ok-Some.ensures.answers_the_first ∙ c.in-Ok-Some.field-0-is)
    (ap (λ b. record {
      links = c.args.self.now.links.items;
      records = c.args.self.now.records.items;
      book = b;
    }) c.in-Ok-Some.ensures.enters_what_is_taken)
    (sym c.if-is_due.ensures)
    (stops_so c.args.channel
    (record {
      links = c.args.self.now.links.items;
      records = c.args.self.now.records.items;
      book = c.take_commands.new.self;
    })
    (record {
      links = c.stop.new.self.links.items;
      records = c.stop.new.self.records.items;
      book = c.stop.new.self.book;
    })
    c.stop.result c.stop.ensures.answer c.stop.ensures.halts c.stop.ensures.records_stay
    c.stop.ensures.book_stays)

pub returns-in-Ok-None-clause-concludes : goal.returns-in-Ok-None-clause-concludes
returns-in-Ok-None-clause-concludes g c = due_none g.K.ChannelKeys.signer (g.O.Onion.services c.args.onion.now)
    c.args.channel
    (record {
      links = c.args.self.now.links.items;
      records = c.args.self.now.records.items;
      book = c.args.self.now.book;
    })
    (record {
      links = c.stop-in-Ok-None.new.self.links.items;
      records = c.stop-in-Ok-None.new.self.records.items;
      book = c.stop-in-Ok-None.new.self.book;
    })
    c.args.id (obeying.is_due c.args.due) c.stop-in-Ok-None.result
    (record {
      links = c.args.self.now.links.items;
      records = c.args.self.now.records.items;
      book = c.take_commands.new.self;
    })
    (sym c.in-Ok-None.ensures.answers_the_first ∙ c.in-Ok-None.field-0-is)
    (ap (λ b. record {
      links = c.args.self.now.links.items;
      records = c.args.self.now.records.items;
      book = b;
    }) c.in-Ok-None.ensures.enters_what_is_taken)
    (stops_so c.args.channel
    (record {
      links = c.args.self.now.links.items;
      records = c.args.self.now.records.items;
      book = c.take_commands.new.self;
    })
    (record {
      links = c.stop-in-Ok-None.new.self.links.items;
      records = c.stop-in-Ok-None.new.self.records.items;
      book = c.stop-in-Ok-None.new.self.book;
    })
    c.stop-in-Ok-None.result c.stop-in-Ok-None.ensures.answer c.stop-in-Ok-None.ensures.halts
    c.stop-in-Ok-None.ensures.records_stay
    c.stop-in-Ok-None.ensures.book_stays)

pub returns-in-Err-clause-concludes : goal.returns-in-Err-clause-concludes
returns-in-Err-clause-concludes g c = due_stops g.K.ChannelKeys.signer (g.O.Onion.services c.args.onion.now)
    c.args.channel
    (record {
      links = c.args.self.now.links.items;
      records = c.args.self.now.records.items;
      book = c.args.self.now.book;
    })
    (record {
      links = c.stop-in-Err.new.self.links.items;
      records = c.stop-in-Err.new.self.records.items;
      book = c.stop-in-Err.new.self.book;
    })
    c.args.id (obeying.is_due c.args.due) c.stop-in-Err.result
    (stops_so c.args.channel
    (record {
      links = c.args.self.now.links.items;
      records = c.args.self.now.records.items;
      book = c.args.self.now.book;
    })
    (record {
      links = c.stop-in-Err.new.self.links.items;
      records = c.stop-in-Err.new.self.records.items;
      book = c.stop-in-Err.new.self.book;
    })
    c.stop-in-Err.result c.stop-in-Err.ensures.answer c.stop-in-Err.ensures.halts c.stop-in-Err.ensures.records_stay
    (c.stop-in-Err.ensures.book_stays ∙ c.in-Err.ensures.changes_nothing_if_refused))
