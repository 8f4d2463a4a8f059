use Rattle.std.proofs.Common.{◌≡◌, ◌≤◌, ◌<◌, ◌+◌, ◌++◌, ◌∷◌, [], ◌∙◌, ap, sym, subst, arith, length, take, rules}
use Rattle.std.proofs.lemmas.List.{length-take-le, take_more}
use Rattle.ln_book_tables.specs.Due.{is_due}
use Rattle.ln_book_tables.specs.Indices.{IsIndexed}
use Rattle.ln_book_tables.specs.Slots.{passes}
use Rattle.ln_book_tables.specs.Filled.{held_in, room_in, IsCounted, IsExact}
use Rattle.ln_book_tables.proofs.Filled.{held_taken}
use Rattle.ln_book_tables.proofs.Passing.{at_most}
use Rattle.ln_book_tables.proofs.slots.index_all.Goals as goal

pub push-requires-clause-fewer : goal.push-requires-clause-fewer
push-requires-clause-fewer c =
    let lt : c.loop-place.place < length c.args.slots.now = search rules in
    omega (
      arith,
      c.loop-place.indices.due.ok.0,
      ap length c.loop-place.invariant.0.due,
      at_most (passes is_due) (take c.loop-place.place c.args.slots.now),
      length-take-le c.loop-place.place c.args.slots.now (omega (arith, lt)),
    )

pub loop-place-preserved : goal.loop-place-preserved
loop-place-preserved c =
    let ss = c.args.slots.now in
    let i = c.loop-place.place in
    let slot = c.index-slots-place.result in
    let lt : i < length ss = search rules in
    let more : take (i + 1) ss ≡ take i ss ++ slot ∷ [] =
    take_more ss i slot lt ∙ ap (λ s. take i ss ++ s ∷ []) (sym c.index-slots-place.is) in
    let last : length (take i ss) ≡ i = length-take-le i ss (omega (arith, lt)) in
    let room : held_in (take i ss ++ slot ∷ []) ≤ room_in c.loop-place.indices.by_key =
    omega (arith, ap held_in more, held_taken (i + 1) ss, c.requires.keys, c.loop-place.invariant.4) in (
      subst (λ us. IsIndexed us c.push.new.self) (sym more)
          (c.push.ensures.indexed (take i ss) last c.loop-place.invariant.0),
      c.push.ensures.room ∙ c.loop-place.invariant.1,
      subst (λ us. IsCounted us c.push.new.self.by_key) (sym more)
          (c.push.ensures.counted (take i ss) c.loop-place.invariant.2 room),
      subst (λ us. IsExact us c.push.new.self.by_key) (sym more)
          (c.push.ensures.exact (take i ss) last c.loop-place.invariant.0 c.loop-place.invariant.2 room
          c.loop-place.invariant.3),
      omega (arith, c.loop-place.invariant.4, c.push.ensures.key_room),
    )
