use Rattle.std.proofs.Common.{arith, Ok, Err, OnOk, OnErr, inl, inr, []}
use Rattle.sqlite.specs.Held.{state}
use Rattle.ln_sqlite.proofs.Texts.{begin_text}
use Rattle.ln_sqlite.proofs.Meaning.{on_err}
use Rattle.ln_sqlite.proofs.Within.{on_begin, begin_commits_nothing}
use Rattle.ln_sqlite.proofs.transaction.begin.Goals as goal

pub returns-clause-begins : goal.returns-clause-begins
returns-clause-begins g c clean =
    on_begin (state g.S.Store c.args.connection.now) (state g.S.Store c.execute.new.self) c.execute.result
    (c.execute.ensures.runs clean)

pub returns-clause-leaves_the_table : goal.returns-clause-leaves_the_table
returns-clause-leaves_the_table g c clean live =
    on_err (state g.S.Store c.args.connection.now) (state g.S.Store c.execute.new.self) [] [] begin_text []
    c.execute.result live (c.execute.ensures.runs clean)

pub returns-clause-leaves_the_old_at_a_stop : goal.returns-clause-leaves_the_old_at_a_stop
returns-clause-leaves_the_old_at_a_stop g c clean trees left = elim
    (c.execute.ensures.survives.crash clean trees left) [
      | inl before ↦ before
      | inr by ↦ absurd (begin_commits_nothing (state g.S.Store c.args.connection.now) trees by)
    ]

pub returns-clause-was_clean : goal.returns-clause-was_clean
returns-clause-was_clean g c clean = omega (arith, clean, c.execute.ensures.survives.clean)
