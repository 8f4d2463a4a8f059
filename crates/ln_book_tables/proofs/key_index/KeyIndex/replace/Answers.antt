use Rattle.std.proofs.Common.{◌∙◌, ap, sym, subst, arith, IsTrue, ◌+◌}
use Rattle.ln_book_tables.specs.KeyIndex.{put_at}
use Rattle.ln_book_tables.specs.Filled.{one_or_none, count_in, room_in}
use Rattle.ln_book_tables.proofs.Keyed.{as_index, put_again, put_there}
use Rattle.ln_book_tables.proofs.Filled.{apart_as, at_most_one_key}
use Rattle.std.specs.Prelude.{None}
use Rattle.ln_book_tables.proofs.key_index.KeyIndex.replace.Goals as goal

pub returns-clause-indexed : goal.returns-clause-indexed
returns-clause-indexed c at is indexed =
    as_index (put_at c.args.place c.args.after.now (put_at c.args.place None at))
    (put_at c.args.place c.args.after.now at)
    c.enter_any.new.self (put_again at c.args.place None c.args.after.now)
    (c.enter_any.ensures.indexed (put_at c.args.place None at) (put_there at c.args.place None)
    (c.leave_any.ensures.indexed c.args.place at is indexed))

pub returns-clause-stays_exact : goal.returns-clause-stays_exact
returns-clause-stays_exact c at is indexed apart spare exact =
    c.enter_any.ensures.stays_exact (put_at c.args.place None at) (put_there at c.args.place None)
    (c.leave_any.ensures.indexed c.args.place at is indexed)
    (apart_as (put_at c.args.place c.args.after.now at)
    (put_at c.args.place c.args.after.now (put_at c.args.place None at))
    (λ i. sym (put_again at c.args.place None c.args.after.now i)) apart)
    (omega (arith, spare, c.leave_any.ensures.spare, at_most_one_key c.args.after.now))
    (subst IsTrue (sym c.leave_any.ensures.as_exact) exact)

pub returns-clause-fewer : goal.returns-clause-fewer
returns-clause-fewer c at is indexed none exact =
    ap (λ x. count_in x + one_or_none c.args.before.now) (c.enter_any.ensures.same_if_none none)
    ∙ c.leave_any.ensures.fewer c.args.place at is indexed exact

pub returns-clause-as_exact : goal.returns-clause-as_exact
returns-clause-as_exact c none =
    ap (λ x. x.exact) (c.enter_any.ensures.same_if_none none) ∙ c.leave_any.ensures.as_exact

pub returns-clause-room : goal.returns-clause-room
returns-clause-room c none =
    omega (arith, c.leave_any.ensures.room, ap room_in (c.enter_any.ensures.same_if_none none))
