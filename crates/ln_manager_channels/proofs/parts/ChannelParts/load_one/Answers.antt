use Rattle.ln_manager_channels.proofs.Seated.{one_seated, one_lacks}
use Rattle.ln_manager_channels.proofs.parts.ChannelParts.load_one.Goals as goal

pub returns-in-Ok-clause-seats : goal.returns-in-Ok-clause-seats
returns-in-Ok-clause-seats g c =
    one_seated c.args.saved c.in-Ok.link _ _ c.in-Ok.ensures c.seat.result c.seat.ensures.may c.seat.ensures.seats

pub returns-in-Ok-clause-fails : goal.returns-in-Ok-clause-fails
returns-in-Ok-clause-fails g c = one_lacks c.args.saved c.in-Ok.link
    (record {
      links = c.args.self.now.links.items;
      records = c.args.self.now.records.items;
      numbers = c.args.self.now.numbers;
    })
    (record {
      links = c.args.self.now.links.items;
      records = c.args.self.now.records.items;
      numbers = c.args.self.now.numbers;
    })
    c.in-Ok.ensures c.seat.result c.seat.ensures.fails
