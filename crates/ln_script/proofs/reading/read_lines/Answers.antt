use Rattle.std.proofs.Common.{ℕ, ◌<◌, ◌+◌, List, [], Bool, length, get_or, refl, sym, ap, ◌∙◌, inr}
use Rattle.std.specs.Borrow.{Bor}
use Rattle.ln_script.specs.Step.{texts, if_good}
use Rattle.ln_script.specs.Script.{steps_from}
use Rattle.ln_script.proofs.Script.{first_lines, after_line, at_bad, at_end, text_at, as_many, no_more}
use Rattle.ln_script.proofs.reading.read_lines.Goals as goal

pub loop-number-init : goal.loop-number-init
loop-number-init c = first_lines _ _ _ c.new-steps.ensures.items refl

pub loop-number-preserved : goal.loop-number-preserved
loop-number-preserved c =
    let items : List (Bor (List ℕ)) = c.args.lines.now in
    let i : ℕ = c.loop-number.number in
    let d : Bor (List ℕ) = record { ref_ptr = (0, 0); now = [] } in
    let within : i < length items = c.loop-number-test.true in
    after_line (steps_from 1 (texts items)) c.loop-number.steps.items c.read_line.new.steps.items (texts items)
    i (get_or items i d).now _ c.loop-number.invariant (as_many items i within) (text_at items i d within)
    refl (ap (λ (g : Bool). if_good g c.read_line.new.steps.items) (sym c.if-not-branch.false)
    ∙ c.in_ok-read_line.ensures.read)

pub returns-then-not-branch-clause-refused : goal.returns-then-not-branch-clause-refused
returns-then-not-branch-clause-refused c =
    let items : List (Bor (List ℕ)) = c.args.lines.now in
    let i : ℕ = c.loop-number.number in
    let d : Bor (List ℕ) = record { ref_ptr = (0, 0); now = [] } in
    let within : i < length items = c.loop-number-test.true in
    inr (
      i + 1,
      refl,
      at_bad (steps_from 1 (texts items)) c.loop-number.steps.items (texts items) i (get_or items i d).now _
          c.loop-number.invariant (as_many items i within) (text_at items i d within) refl
          (ap (λ (g : Bool). if_good g c.read_line.new.steps.items) (sym c.if-not-branch.true)
          ∙ c.in_ok-read_line.ensures.read),
    )

pub returns-clause-read : goal.returns-clause-read
returns-clause-read c =
    let items : List (Bor (List ℕ)) = c.args.lines.now in
    at_end (steps_from 1 (texts items)) c.loop-number.steps.items (texts items) c.loop-number.number
    c.loop-number.invariant (no_more items c.loop-number.number c.loop-number-test.false)
