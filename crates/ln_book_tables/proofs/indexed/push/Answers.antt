use Rattle.std.proofs.Common.{◌≡◌, ◌≤◌, ◌+◌, ◌++◌, ◌∷◌, [], Some, ap, arith, length}
use Rattle.ln_book_tables.specs.Due.{is_due}
use Rattle.ln_book_tables.specs.Slots.{passes}
use Rattle.ln_book_tables.specs.Filled.{held_in, room_in}
use Rattle.ln_book_tables.proofs.Filled.{held_pushed, kept_pushed}
use Rattle.ln_book_tables.proofs.Passing.{at_most}
use Rattle.ln_book_tables.proofs.indexed.push.Goals as goal

pub push-requires-clause-fewer : goal.push-requires-clause-fewer
push-requires-clause-fewer c = omega (
  arith,
  c.args.indices.now.due.ok.0,
  ap length c.requires.kept.indexed.due,
  at_most (passes is_due) c.args.slots.now.items,
  c.args.slots.now.ok.0,
  c.len-place.ensures,
)

pub returns-clause-kept : goal.returns-clause-kept
returns-clause-kept c =
    let ss = c.args.slots.now.items in
    let k = c.requires.kept in
    let last : length ss ≡ c.len-place.result = omega (arith, c.len-place.ensures, c.args.slots.now.ok.0) in
    let one : held_in (ss ++ Some c.args.htlc ∷ []) ≡ held_in ss + 1 = held_pushed ss (Some c.args.htlc) in
    let room : held_in (ss ++ Some c.args.htlc ∷ []) ≤ room_in c.args.indices.now.by_key =
    omega (arith, one, c.requires.key_room) in
    kept_pushed ss c.push_reserved.new.self.items c.args.htlc c.push.new.self c.push_reserved.ensures.items
    (c.push.ensures.indexed ss last k.indexed) (c.push.ensures.counted ss k.counted room)
    (c.push.ensures.exact ss last k.indexed k.counted room k.exact) k.half
