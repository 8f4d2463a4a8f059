use Rattle.std.proofs.Common.{◌∙◌, ap, arith}
use Rattle.ln_book_tables.specs.Filled.{one_or_none}
use Rattle.ln_book_tables.proofs.Keyed.{behind_leave}
use Rattle.ln_book_tables.proofs.Filled.{stands_here}
use Rattle.ln_book_tables.proofs.key_index.KeyIndex.leave_any.Goals as goal

pub returns-in-Some-clause-indexed : goal.returns-in-Some-clause-indexed
returns-in-Some-clause-indexed c place at is indexed =
    behind_leave at place c.in-Some.key c.args.self.now c.leave.new.self (is ∙ c.in-Some.is) c.leave.ensures.leaves
    indexed

pub returns-in-Some-clause-fewer : goal.returns-in-Some-clause-fewer
returns-in-Some-clause-fewer c place at is indexed exact =
    omega (
      arith,
      c.leave.ensures.one_fewer place
          (stands_here at place c.in-Some.key c.args.self.now (is ∙ c.in-Some.is) indexed exact),
      ap one_or_none c.in-Some.is,
    )

pub returns-in-Some-clause-room : goal.returns-in-Some-clause-room
returns-in-Some-clause-room c = omega (arith, c.leave.ensures.room, ap one_or_none c.in-Some.is)
