use Rattle.std.proofs.Common.{ℕ, refl, ap, arith, ◌∙◌, cond, is_some}
use Rattle.ln_book_tables.proofs.Filled.{at_most_one}
use Rattle.ln_book_tables.proofs.key_index.KeyIndex.leave.Goals as goal

pub returns-clause-leaves : goal.returns-clause-leaves
returns-clause-leaves c = (refl, c.swap_remove.ensures.updates.0)

pub returns-clause-one_fewer : goal.returns-clause-one_fewer
returns-clause-one_fewer c = λ place there.
    omega (
      arith,
      c.swap_remove.ensures.len,
      ap {B = ℕ} (λ o. cond (is_some o) 1 0) (c.swap_remove.ensures.value ∙ there),
    )

pub returns-clause-room : goal.returns-clause-room
returns-clause-room c =
    omega (
      arith,
      c.swap_remove.ensures.len,
      at_most_one (is_some c.swap_remove.result),
      c.swap_remove.ensures.room.0,
    )
