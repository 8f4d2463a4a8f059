use Rattle.std.proofs.Common.{inl, inr, arith}
use Rattle.sqlite.specs.Held.{state}
use Rattle.ln_sqlite.proofs.Texts.{upsert_text}
use Rattle.ln_sqlite.proofs.Meaning.{on_ok, on_err, commits}
use Rattle.ln_sqlite.proofs.Within.{on_put, on_err_within, put_commits_nothing}
use Rattle.ln_sqlite.proofs.statements.save_row.Goals as goal

pub returns-clause-replaces_the_row : goal.returns-clause-replaces_the_row
returns-clause-replaces_the_row g c clean =
    on_ok (state g.S.Store c.args.connection.now)
    (state g.S.Store c.execute.new.self) c.args.id.now c.args.bytes.now c.execute.result
    (c.execute.ensures.runs clean)

pub returns-clause-leaves_the_table : goal.returns-clause-leaves_the_table
returns-clause-leaves_the_table g c clean live =
    on_err (state g.S.Store c.args.connection.now)
    (state g.S.Store c.execute.new.self) c.args.id.now c.args.bytes.now upsert_text _ c.execute.result live
    (c.execute.ensures.runs clean)

pub returns-clause-leaves_one_at_a_stop : goal.returns-clause-leaves_one_at_a_stop
returns-clause-leaves_one_at_a_stop g c clean records was trees left = elim
    (c.execute.ensures.survives.crash clean trees left) [
      | inl before ↦ inl before
      | inr by ↦ inr (commits (state g.S.Store c.args.connection.now) c.args.id.now c.args.bytes.now records trees was
          by)
    ]

pub returns-clause-puts_within : goal.returns-clause-puts_within
returns-clause-puts_within g c clean =
    on_put (state g.S.Store c.args.connection.now) (state g.S.Store c.execute.new.self) c.args.id.now c.args.bytes.now
    c.execute.result (c.execute.ensures.runs clean)

pub returns-clause-leaves_the_last_within : goal.returns-clause-leaves_the_last_within
returns-clause-leaves_the_last_within g c clean live =
    on_err_within (state g.S.Store c.args.connection.now) (state g.S.Store c.execute.new.self) upsert_text _
    c.execute.result live (c.execute.ensures.runs clean)

pub returns-clause-leaves_the_old_at_a_stop_within : goal.returns-clause-leaves_the_old_at_a_stop_within
returns-clause-leaves_the_old_at_a_stop_within g c clean before records was trees left = elim
    (c.execute.ensures.survives.crash clean trees left) [
      | inl old ↦ old
      | inr by ↦ absurd (put_commits_nothing (state g.S.Store c.args.connection.now) before records was trees
          c.args.id.now c.args.bytes.now by)
    ]

pub returns-clause-was_clean : goal.returns-clause-was_clean
returns-clause-was_clean g c clean = omega (arith, clean, c.execute.ensures.survives.clean)
