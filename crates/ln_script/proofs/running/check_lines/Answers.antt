use Rattle.std.proofs.Common.{ℕ, ◌<◌, List, [], ◌++◌, Some, length, get_or, refl}
use Rattle.std.specs.Borrow.{Bor}
use Rattle.std.proofs.lemmas.Result.{err_from_is_err_and}
use Rattle.ln_script.proofs.Telling.{refused_at}
use Rattle.ln_script.specs.Step.{texts}
use Rattle.ln_script.specs.Script.{steps_from}
use Rattle.ln_script.proofs.Script.{first_lines, after_line, at_end, text_at, as_many, no_more}
use Rattle.ln_script.proofs.running.check_lines.Goals as goal

pub loop-number-init : goal.loop-number-init
loop-number-init c = ([], first_lines [] _ _ refl refl)

pub loop-number-preserved : goal.loop-number-preserved
loop-number-preserved c =
    let items : List (Bor (List ℕ)) = c.args.lines.now in
    let i : ℕ = c.loop-number.number in
    let d : Bor (List ℕ) = record { ref_ptr = (0, 0); now = [] } in
    let within : i < length items = c.loop-number-test.true in
    let so = c.loop-number.invariant in (
      so.0 ++ c.in_ok-steps_of_line.field-0.items,
      after_line (steps_from 1 (texts items)) so.0 (so.0 ++ c.in_ok-steps_of_line.field-0.items) (texts items) i
          (get_or items i d).now (Some c.in_ok-steps_of_line.field-0.items) so.1 (as_many items i within)
          (text_at items i d within) c.in_ok-steps_of_line.ensures.read refl,
    )

pub returns-clause-good : goal.returns-clause-good
returns-clause-good c =
    let items : List (Bor (List ℕ)) = c.args.lines.now in
    let so = c.loop-number.invariant in (
      so.0,
      at_end (steps_from 1 (texts items)) so.0 (texts items) c.loop-number.number so.1
          (no_more items c.loop-number.number c.loop-number-test.false),
    )

pub returns-in_err-steps_of_line-clause-refused : goal.returns-in_err-steps_of_line-clause-refused
returns-in_err-steps_of_line-clause-refused c =
    let items : List (Bor (List ℕ)) = c.args.lines.now in
    let i : ℕ = c.loop-number.number in
    let d : Bor (List ℕ) = record { ref_ptr = (0, 0); now = [] } in
    let within : i < length items = c.loop-number-test.true in
    let p = err_from_is_err_and c.from_residual.result c.from_residual.ensures.1 in
    rw (p.1, p.2) (refused_at (texts items) c.loop-number.invariant.0 i (get_or items i d).now _
    c.loop-number.invariant.1 (as_many items i within) (text_at items i d within)
    c.in_err-steps_of_line.ensures.refused)
