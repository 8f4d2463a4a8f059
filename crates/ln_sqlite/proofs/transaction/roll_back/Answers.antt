use Rattle.std.proofs.Common.{arith, inl, inr}
use Rattle.sqlite.specs.Held.{state}
use Rattle.ln_sqlite.proofs.Within.{ends_all, roll_back_was_open, roll_back_commits_nothing}
use Rattle.ln_sqlite.proofs.transaction.roll_back.Goals as goal

pub returns-clause-goes_back : goal.returns-clause-goes_back
returns-clause-goes_back g c clean live before =
    ends_all (state g.S.Store c.args.connection.now) (state g.S.Store c.execute.new.self) c.execute.result before live
    (c.execute.ensures.runs clean)

pub returns-clause-leaves_the_old_at_a_stop : goal.returns-clause-leaves_the_old_at_a_stop
returns-clause-leaves_the_old_at_a_stop g c clean trees left = elim
    (c.execute.ensures.survives.crash clean trees left) [
      | inl before ↦ before
      | inr by ↦ absurd (roll_back_commits_nothing (state g.S.Store c.args.connection.now) trees by)
    ]

pub returns-clause-was_open : goal.returns-clause-was_open
returns-clause-was_open g c clean live =
    roll_back_was_open (state g.S.Store c.args.connection.now) (state g.S.Store c.execute.new.self) c.execute.result
    live (c.execute.ensures.runs clean)

pub returns-clause-was_clean : goal.returns-clause-was_clean
returns-clause-was_clean g c clean = omega (arith, clean, c.execute.ensures.survives.clean)
