use Rattle.std.proofs.Common.{inl, inr, refl}
use Rattle.ln_sqlite.specs.Together.{replaced_all}
use Rattle.ln_sqlite.proofs.together.put_and_commit.Goals as goal

pub returns-in-Ok-clause-commits : goal.returns-in-Ok-clause-commits
returns-in-Ok-clause-commits g c clean _ before records was =
    c.in-Ok.ensures.commits clean before (replaced_all records c.args.jobs.now)
    (c.if-not-put_all.ensures.puts_all (c.commit.ensures.was_clean clean) refl before records was)

pub returns-in-Ok-clause-leaves_one_at_a_stop : goal.returns-in-Ok-clause-leaves_one_at_a_stop
returns-in-Ok-clause-leaves_one_at_a_stop g c clean before records was trees left =
    let early = c.commit.ensures.was_clean clean in elim
    (c.commit.ensures.leaves_one_at_a_stop clean before (replaced_all records c.args.jobs.now)
    (c.if-not-put_all.ensures.puts_all early refl before records was) trees left) [
      | inl old ↦ inl (c.put_all.ensures.leaves_the_old_at_a_stop early before records was trees old)
      | inr new ↦ inr new
    ]

pub returns-in-Err-clause-leaves_the_last : goal.returns-in-Err-clause-leaves_the_last
returns-in-Err-clause-leaves_the_last g c clean live _ before records was =
    c.in-Err.ensures.leaves_the_last clean live before (replaced_all records c.args.jobs.now)
    (c.if-not-put_all.ensures.puts_all (c.commit.ensures.was_clean clean) refl before records was)

pub returns-in-Err-clause-leaves_one_at_a_stop : goal.returns-in-Err-clause-leaves_one_at_a_stop
returns-in-Err-clause-leaves_one_at_a_stop g c clean before records was trees left =
    let early = c.commit.ensures.was_clean clean in elim
    (c.commit.ensures.leaves_one_at_a_stop clean before (replaced_all records c.args.jobs.now)
    (c.if-not-put_all.ensures.puts_all early refl before records was) trees left) [
      | inl old ↦ inl (c.put_all.ensures.leaves_the_old_at_a_stop early before records was trees old)
      | inr new ↦ inr new
    ]

pub returns-then-not-put_all-clause-leaves_one_at_a_stop : goal.returns-then-not-put_all-clause-leaves_one_at_a_stop
returns-then-not-put_all-clause-leaves_one_at_a_stop g c clean before records was trees left =
    inl (c.put_all.ensures.leaves_the_old_at_a_stop clean before records was trees left)
