use Rattle.std.proofs.Common.{◌∙◌, ap, sym, refl, arith, cond, subst, ◌++◌, ◌∷◌, []}
use Rattle.std.proofs.lemmas.List.{length-append}
use Rattle.ln_book_tables.specs.Due.{is_due}
use Rattle.ln_book_tables.specs.Places.{places_of}
use Rattle.ln_book_tables.specs.Slots.{passes}
use Rattle.ln_book_tables.proofs.Passing.{behind_joined}
use Rattle.ln_book_tables.proofs.Named.{behind_push, due_name}
use Rattle.ln_book_tables.specs.Filled.{one_or_none, StandApart}
use Rattle.ln_book_tables.specs.KeyIndex.{put_at}
use Rattle.ln_book_tables.proofs.Filled.{held_pushed, exact_pushed}
use Rattle.ln_book_tables.proofs.indices.Indices.push.Goals as goal

pub returns-clause-indexed : goal.returns-clause-indexed
returns-clause-indexed c ss last indexed =
    let place = c.args.place in
    let slot = c.args.slot.now in
    record {
      due =
          c.push_place.ensures.indexed
          ∙ ap (λ b. cond b (c.args.self.now.due.items ++ place ∷ []) c.args.self.now.due.items)
          (ap (λ n. n.due) c.names_in-names.ensures ∙ due_name slot)
          ∙ ap (λ ps. cond (passes is_due slot) (ps ++ place ∷ []) ps) indexed.due
          ∙ ap (λ n. cond (passes is_due slot) (places_of (passes is_due) ss ++ n ∷ []) (places_of (passes is_due) ss))
          (sym last)
          ∙ sym (behind_joined (passes is_due) ss slot);
      room = omega (arith, length-append ss (slot ∷ []), last, c.requires.room, c.push_place.ensures.room);
      by_key = behind_push ss place slot (λ n. n.key) c.names_in-names.result
          c.args.self.now.by_key c.enter_any.new.self last
          c.names_in-names.ensures refl c.enter_any.ensures.indexed indexed.by_key;
      by_event = behind_push ss place slot (λ n. n.event) c.names_in-names.result
          c.args.self.now.by_event c.enter_any-2.new.self last
          c.names_in-names.ensures refl c.enter_any-2.ensures.indexed indexed.by_event;
      by_held = behind_push ss place slot (λ n. n.held) c.names_in-names.result
          c.args.self.now.by_held c.enter_any-3.new.self last
          c.names_in-names.ensures refl c.enter_any-3.ensures.indexed indexed.by_held;
      by_outgoing = behind_push ss place slot (λ n. n.outgoing) c.names_in-names.result
          c.args.self.now.by_outgoing c.enter_any-4.new.self last
          c.names_in-names.ensures refl c.enter_any-4.ensures.indexed indexed.by_outgoing;
      by_over = behind_push ss place slot (λ n. n.over) c.names_in-names.result
          c.args.self.now.by_over c.enter_any-5.new.self last
          c.names_in-names.ensures refl c.enter_any-5.ensures.indexed indexed.by_over;
    }

pub returns-clause-counted : goal.returns-clause-counted
returns-clause-counted c ss counted room = record {
  count = λ exact. omega (
    arith,
    held_pushed ss c.args.slot.now,
    c.enter_any.ensures.more,
    counted.count (c.enter_any.ensures.was_exact exact),
    ap (λ n. one_or_none n.key) c.names_in-names.ensures,
  );
  room = omega (arith, room, c.enter_any.ensures.room);
}

pub returns-clause-exact : goal.returns-clause-exact
returns-clause-exact c ss last indexed counted room exact =
    exact_pushed ss c.args.slot.now c.args.place c.args.self.now.by_key c.enter_any.new.self last indexed.by_key
    (λ at none ix apart is. c.enter_any.ensures.stays_exact at none ix
    (subst (λ n. StandApart (put_at c.args.place n.key at)) (sym c.names_in-names.ensures) apart)
    (omega (
      arith,
      held_pushed ss c.args.slot.now,
      room,
      counted.count is,
      ap (λ n. one_or_none n.key) c.names_in-names.ensures,
    )) is) exact
