use Rattle.ln_sqlite.proofs.together.finish.Goals as goal

pub returns-clause-goes_back : goal.returns-clause-goes_back
returns-clause-goes_back g c clean live _ before records was =
    c.roll_back.ensures.goes_back clean live before
    (c.put_and_commit.ensures.leaves_the_last (c.roll_back.ensures.was_clean clean)
    (c.roll_back.ensures.was_open clean live) c.if-put_and_commit.false before records was)

pub returns-clause-leaves_one_at_a_stop : goal.returns-clause-leaves_one_at_a_stop
returns-clause-leaves_one_at_a_stop g c clean before records was trees left =
    c.put_and_commit.ensures.leaves_one_at_a_stop (c.roll_back.ensures.was_clean clean) before records was trees
    (c.roll_back.ensures.leaves_the_old_at_a_stop clean trees left)
