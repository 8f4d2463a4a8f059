use Rattle.std.proofs.Common.{◌∙◌, length, refl, sym, ap, subst, arith}
use Rattle.std.specs.Vec.Iter.{into_iter_items}
use Rattle.ln_manager_channels.specs.Loading.{SeatsAll, LacksSome}
use Rattle.ln_manager_channels.proofs.Seated.{next_seats, next_lacks, lacks_first, none_left}
use Rattle.ln_manager_channels.proofs.parts.ChannelParts.load_each.Goals as goal

pub loop-each-preserved : goal.loop-each-preserved
loop-each-preserved g c = (
  λ q all. c.loop-each.invariant.0 q (subst (λ xs. SeatsAll xs
      (record {
        links = c.loop-each.self.links.items;
        records = c.loop-each.self.records.items;
        numbers = c.loop-each.self.numbers;
      }) q)
      (sym c.in-Some.ensures.steps.0)
      (next_seats c.in-Some.each (into_iter_items c.next.new.self)
      (record {
        links = c.loop-each.self.links.items;
        records = c.loop-each.self.records.items;
        numbers = c.loop-each.self.numbers;
      })
      (record {
        links = c.load_one.new.self.links.items;
        records = c.load_one.new.self.records.items;
        numbers = c.load_one.new.self.numbers;
      })
      c.in-Ok.ensures.seats q all)),
  λ e lacks. c.loop-each.invariant.1 e (subst (λ xs. LacksSome xs
      (record {
        links = c.loop-each.self.links.items;
        records = c.loop-each.self.records.items;
        numbers = c.loop-each.self.numbers;
      }) e)
      (sym c.in-Some.ensures.steps.0)
      (next_lacks c.in-Some.each (into_iter_items c.next.new.self)
      (record {
        links = c.loop-each.self.links.items;
        records = c.loop-each.self.records.items;
        numbers = c.loop-each.self.numbers;
      })
      (record {
        links = c.load_one.new.self.links.items;
        records = c.load_one.new.self.records.items;
        numbers = c.load_one.new.self.numbers;
      })
      c.in-Ok.ensures.seats e lacks)),
  c.in-Ok.ensures.book_stays ∙ c.loop-each.invariant.2,
  omega (arith, c.in-Some.ensures.steps.1, c.loop-each.invariant.3, ap length c.in-Some.ensures.steps.0),
)

pub returns-in-Err-clause-fails : goal.returns-in-Err-clause-fails
returns-in-Err-clause-fails g c = lacks_first c.in-Some.each (into_iter_items c.next.new.self)
    (record {
      links = c.loop-each.self.links.items;
      records = c.loop-each.self.records.items;
      numbers = c.loop-each.self.numbers;
    })
    c.in-Err.refusal _
    (λ lacks. subst (λ xs. LacksSome xs
    (record {
      links = c.args.self.now.links.items;
      records = c.args.self.now.records.items;
      numbers = c.args.self.now.numbers;
    }) c.in-Err.refusal)
    c.into_iter-each-iterator.ensures.into_iter_gives.0
    (c.loop-each.invariant.1 c.in-Err.refusal (subst (λ xs. LacksSome xs
    (record {
      links = c.loop-each.self.links.items;
      records = c.loop-each.self.records.items;
      numbers = c.loop-each.self.numbers;
    }) c.in-Err.refusal)
    (sym c.in-Some.ensures.steps.0) lacks)))
    c.in-Err.ensures.fails

pub returns-clause-seats : goal.returns-clause-seats
returns-clause-seats g c = subst (λ xs. SeatsAll xs
    (record {
      links = c.args.self.now.links.items;
      records = c.args.self.now.records.items;
      numbers = c.args.self.now.numbers;
    })
    (record {
      links = c.loop-each.self.links.items;
      records = c.loop-each.self.records.items;
      numbers = c.loop-each.self.numbers;
    }))
    c.into_iter-each-iterator.ensures.into_iter_gives.0
    (c.loop-each.invariant.0
    (record {
      links = c.loop-each.self.links.items;
      records = c.loop-each.self.records.items;
      numbers = c.loop-each.self.numbers;
    })
    (subst (λ xs. SeatsAll xs
    (record {
      links = c.loop-each.self.links.items;
      records = c.loop-each.self.records.items;
      numbers = c.loop-each.self.numbers;
    })
    (record {
      links = c.loop-each.self.links.items;
      records = c.loop-each.self.records.items;
      numbers = c.loop-each.self.numbers;
    }))
    (sym (none_left _ (sym c.loop-each.invariant.3 ∙ c.in-None.ensures.steps.0))) refl))
