use Rattle.std.proofs.Common.{arith, inl, inr, []}
use Rattle.sqlite.specs.Held.{state}
use Rattle.ln_sqlite.proofs.Texts.{commit_text}
use Rattle.ln_sqlite.proofs.Within.{on_commit, on_err_within, commit_commits}
use Rattle.ln_sqlite.proofs.transaction.commit.Goals as goal

pub returns-clause-commits : goal.returns-clause-commits
returns-clause-commits g c clean =
    on_commit (state g.S.Store c.args.connection.now) (state g.S.Store c.execute.new.self) c.execute.result
    (c.execute.ensures.runs clean)

pub returns-clause-leaves_the_last : goal.returns-clause-leaves_the_last
returns-clause-leaves_the_last g c clean live =
    on_err_within (state g.S.Store c.args.connection.now) (state g.S.Store c.execute.new.self) commit_text []
    c.execute.result live (c.execute.ensures.runs clean)

pub returns-clause-leaves_one_at_a_stop : goal.returns-clause-leaves_one_at_a_stop
returns-clause-leaves_one_at_a_stop g c clean before records was trees left = elim
    (c.execute.ensures.survives.crash clean trees left) [
      | inl old ↦ inl old
      | inr by ↦ inr (commit_commits (state g.S.Store c.args.connection.now) before records was trees by)
    ]

pub returns-clause-was_clean : goal.returns-clause-was_clean
returns-clause-was_clean g c clean = omega (arith, clean, c.execute.ensures.survives.clean)
