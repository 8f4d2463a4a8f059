use Rattle.std.proofs.Common.{refl, sym, ap, subst, ◌∙◌, rules, arith}
use Rattle.sqlite_value.specs.declared.value.Value.TheVariants.{Blob}
use Rattle.sqlite.specs.Held.{state}
use Rattle.sqlite.specs.State.{HasCleanDisk}
use Rattle.sqlite.specs.Given.{Advances}
use Rattle.ln_sqlite.proofs.Passing.{begins, goes_on, ends, refused_leaves}
use Rattle.ln_sqlite.proofs.statements.has_ids.Goals as goal

pub returns-in_err-rows-clause-leaves_the_table : goal.returns-in_err-rows-clause-leaves_the_table
returns-in_err-rows-clause-leaves_the_table g c clean live kept was =
    let held = rw c.in_err-rows.was at c.query.follows.holds-at-none in
    refused_leaves (state g.S.Store c.args.connection.now) (state g.S.Store c.query.follows.lender-at-none) _ kept live
    (held.err clean) was

pub rows-init : goal.rows-init
rows-init g c = (
  refl,
  begins g.S.Store c.args.connection.now c.args.ids.now c.in_ok-rows.rows.conn.now
      c.in_ok-rows.ensures.begun,
)

pub rows-preserved : goal.rows-preserved
rows-preserved g c = (
  c.advance.ensures.same_reference ∙ c.rows.invariant.0,
  goes_on g.S.Store c.args.connection.now c.args.ids.now c.rows.rows.conn.now c.advance.new.self.conn.now c.rows.at
      c.rows.invariant.1 c.advance.ensures.survives.clean c.in-Some.row.now
      (λ clean. subst (Advances g.S.Store c.rows.rows.conn.now c.advance.new.self.conn.now) (sym c.in-Some.ensures)
      (c.in_ok-advance.ensures.ok clean))
      (λ clean. c.in_ok-advance.ensures.same clean)
      (c.shows.ensures c.if-not-shows.false ∙ ap Blob c.as_slice.ensures),
)

pub returns-clause-has_these : goal.returns-clause-has_these
returns-clause-has_these g c clean all has =
    let late : HasCleanDisk (state g.S.Store c.advance-2.new.self.conn.now) = search rules in
    ends g.S.Store c.args.connection.now c.args.ids.now c.rows.rows.conn.now c.advance-2.new.self.conn.now c.rows.at
    c.rows.invariant.1 c.advance-2.ensures.survives.clean
    (λ clean. subst (Advances g.S.Store c.rows.rows.conn.now c.advance-2.new.self.conn.now) (sym c.in-None.ensures)
    (c.in_ok-advance-2.ensures.ok clean))
    (omega (arith, c.rows-test.false, c.rows.auto.at-end)) late has
