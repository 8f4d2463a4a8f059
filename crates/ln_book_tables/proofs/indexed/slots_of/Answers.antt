use Rattle.std.proofs.Common.{◌∙◌, ◌++◌, ◌∷◌, [], ap, sym, length, arith}
use Rattle.std.proofs.lemmas.List.{append_assoc}
use Rattle.std.specs.Vec.Iter.{into_iter_items}
use Rattle.ln_book_tables.specs.Slots.{in_slots}
use Rattle.ln_book_tables.proofs.InSlots.{in_pushed}
use Rattle.ln_book_tables.proofs.indexed.slots_of.Goals as goal

pub loop-htlc-preserved : goal.loop-htlc-preserved
loop-htlc-preserved c = (
  append_assoc c.loop-htlc.yielded (c.in-Some.htlc ∷ []) (into_iter_items c.next.new.self)
      ∙ ap (λ hs. c.loop-htlc.yielded ++ hs) (sym c.in-Some.ensures.steps.0) ∙ c.loop-htlc.invariant.0,
  ap in_slots c.in_ok-push.ensures.items ∙ in_pushed c.loop-htlc.slots.items c.in-Some.htlc
      ∙ ap (λ hs. hs ++ c.in-Some.htlc ∷ []) c.loop-htlc.invariant.1,
  omega (
    arith,
    c.in-Some.ensures.steps.1,
    ap length c.in-Some.ensures.steps.0,
    c.loop-htlc.invariant.2,
  ),
)
