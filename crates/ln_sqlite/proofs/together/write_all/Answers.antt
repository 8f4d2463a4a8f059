use Rattle.std.proofs.Common.{inl, inr}
use Rattle.ln_sqlite.proofs.together.write_all.Goals as goal

pub returns-in-Ok-clause-replaces_all : goal.returns-in-Ok-clause-replaces_all
returns-in-Ok-clause-replaces_all g c clean wrote records was =
    c.finish.ensures.commits clean wrote records records
    (c.in-Ok.ensures.begins (c.finish.ensures.was_clean clean) records was)

pub returns-in-Ok-clause-leaves_the_table : goal.returns-in-Ok-clause-leaves_the_table
returns-in-Ok-clause-leaves_the_table g c clean live lost records was =
    c.finish.ensures.goes_back clean live lost records records
    (c.in-Ok.ensures.begins (c.finish.ensures.was_clean clean) records was)

pub returns-in-Ok-clause-leaves_all_or_none_at_a_stop : goal.returns-in-Ok-clause-leaves_all_or_none_at_a_stop
returns-in-Ok-clause-leaves_all_or_none_at_a_stop g c clean records was trees left =
    let early = c.finish.ensures.was_clean clean in elim
    (c.finish.ensures.leaves_one_at_a_stop clean records records (c.in-Ok.ensures.begins early records was) trees
    left) [
      | inl old ↦ inl (c.begin.ensures.leaves_the_old_at_a_stop early trees old)
      | inr new ↦ inr new
    ]

pub returns-in-Err-clause-leaves_all_or_none_at_a_stop : goal.returns-in-Err-clause-leaves_all_or_none_at_a_stop
returns-in-Err-clause-leaves_all_or_none_at_a_stop g c clean records was trees left =
    inl (c.begin.ensures.leaves_the_old_at_a_stop clean trees left)
