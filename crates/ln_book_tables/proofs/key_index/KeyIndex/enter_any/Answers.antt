use Rattle.std.proofs.Common.{subst, sym, ap, arith}
use Rattle.ln_book_tables.specs.Filled.{one_or_none, StandApart}
use Rattle.ln_book_tables.proofs.Keyed.{behind_enter}
use Rattle.ln_book_tables.proofs.Filled.{stood_nowhere}
use Rattle.ln_book_tables.specs.KeyIndex.{IsIndexOf, put_at}
use Rattle.ln_book_tables.proofs.key_index.KeyIndex.enter_any.Goals as goal

pub returns-in-Some-clause-indexed : goal.returns-in-Some-clause-indexed
returns-in-Some-clause-indexed c at is indexed =
    subst (λ k. IsIndexOf (put_at c.args.place k at) c.enter.new.self) (sym c.in-Some.is)
    (behind_enter at c.args.place c.in-Some.key c.args.self.now c.enter.new.self is c.enter.ensures.enters indexed)

pub returns-in-Some-clause-stays_exact : goal.returns-in-Some-clause-stays_exact
returns-in-Some-clause-stays_exact c at is indexed apart spare exact =
    c.enter.ensures.stays_exact exact (omega (arith, spare, ap one_or_none c.in-Some.is))
    (stood_nowhere at c.args.place c.in-Some.key c.args.self.now is indexed exact
    (subst (λ k. StandApart (put_at c.args.place k at)) c.in-Some.is apart))

pub returns-in-Some-clause-was_exact : goal.returns-in-Some-clause-was_exact
returns-in-Some-clause-was_exact c exact = (c.enter.ensures.enters exact).0

pub returns-in-Some-clause-more : goal.returns-in-Some-clause-more
returns-in-Some-clause-more c = omega (arith, c.enter.ensures.one_more, ap one_or_none c.in-Some.is)
