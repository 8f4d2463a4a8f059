use Rattle.std.proofs.lemmas.Result.{err_from_is_err_and}
use Rattle.std.proofs.Common.{ℕ, ◌<◌, List, [], length, get_or, arith}
use Rattle.std.specs.Borrow.{Bor}
use Rattle.ln_script.specs.Step.{texts}
use Rattle.ln_script.proofs.Script.{text_at, as_many, no_more}
use Rattle.ln_script.proofs.Reports.{on_err_so, nothing_done}
use Rattle.ln_script.proofs.Telling.{begun, all_stand, no_lines, line_told, line_stops, lines_stop, line_refused}
use Rattle.ln_script.proofs.Telling.{lines_end}
use Rattle.ln_script.proofs.running.print_lines.Goals as goal

pub loop-number-init : goal.loop-number-init
loop-number-init g c = record {
  so_far = no_lines g.H.Serve.calls c.args.hooks.items (texts c.args.lines.now) _ _
      (begun g.H.Serve.calls c.args.hooks.items _ _ _ _ _ _ c.in_ok-world.ensures.dispatchers
      c.in_ok-world.ensures.nodes
      c.in_ok-world.ensures.no_tables c.in_ok-world.ensures.offered);
  failures = omega arith;
}

pub print_each-requires : goal.print_each-requires
print_each-requires g c = all_stand g.H.Serve.calls c.args.hooks.items _ _ _ c.loop-number.invariant.so_far.told

pub loop-number-preserved : goal.loop-number-preserved
loop-number-preserved g c =
    let items : List (Bor (List ℕ)) = c.args.lines.now in
    let i : ℕ = c.loop-number.number in
    let d : Bor (List ℕ) = record { ref_ptr = (0, 0); now = [] } in
    let within : i < length items = c.loop-number-test.true in
    record {
      so_far = line_told g.H.Serve.calls c.args.hooks.items (texts items) i _ _ _ _ _ (get_or items i d).now _ _
          c.loop-number.invariant.so_far (as_many items i within) (text_at items i d within)
          c.in_ok-steps.ensures.read c.place_hooks-place.ensures.placed c.place_hooks-place.ensures.next
          c.in_ok-print_each.ensures.prints_it;
      failures = omega (arith, c.loop-number.invariant.failures, c.print_each.ensures.no_fewer_failures);
    }

pub returns-clause-prints_it : goal.returns-clause-prints_it
returns-clause-prints_it g c =
    let items : List (Bor (List ℕ)) = c.args.lines.now in
    lines_end g.H.Serve.calls c.args.hooks.items (texts items) c.loop-number.number _ _ _
    c.loop-number.invariant.so_far (no_more items c.loop-number.number c.loop-number-test.false)

pub returns-in_err-print_each-clause-front : goal.returns-in_err-print_each-clause-front
returns-in_err-print_each-clause-front g c =
    let items : List (Bor (List ℕ)) = c.args.lines.now in
    let i : ℕ = c.loop-number.number in
    let d : Bor (List ℕ) = record { ref_ptr = (0, 0); now = [] } in
    let within : i < length items = c.loop-number-test.true in
    λ steps ok. on_err_so _ _ (line_stops g.H.Serve.calls c.args.hooks.items (texts items) i _ _ _
    (get_or items i d).now _ _ _ _ _ _ _ c.loop-number.invariant.so_far (as_many items i within)
    (text_at items i d within) c.in_ok-steps.ensures.read c.place_hooks-place.ensures.placed
    c.loop-number.invariant.failures c.in_err-print_each.ensures.stops steps ok).0

pub returns-in_err-print_each-clause-cause : goal.returns-in_err-print_each-clause-cause
returns-in_err-print_each-clause-cause g c =
    let items : List (Bor (List ℕ)) = c.args.lines.now in
    let i : ℕ = c.loop-number.number in
    let d : Bor (List ℕ) = record { ref_ptr = (0, 0); now = [] } in
    let within : i < length items = c.loop-number-test.true in
    let p = err_from_is_err_and c.from_residual-in_err-print_each.result c.from_residual-in_err-print_each.ensures.1 in
    λ steps ok. rw (p.1, p.2) (line_stops g.H.Serve.calls c.args.hooks.items (texts items) i _ _ _
    (get_or items i d).now _ _ _ _ _ _ _ c.loop-number.invariant.so_far (as_many items i within)
    (text_at items i d within) c.in_ok-steps.ensures.read c.place_hooks-place.ensures.placed
    c.loop-number.invariant.failures c.in_err-print_each.ensures.stops steps ok).1

pub returns-in_err-steps-clause-front : goal.returns-in_err-steps-clause-front
returns-in_err-steps-clause-front g c =
    λ steps ok. on_err_so _ _ (lines_stop g.H.Serve.calls c.args.hooks.items (texts c.args.lines.now)
    c.loop-number.number _ _ _ c.loop-number.invariant.so_far steps ok)

pub returns-in_err-world-clause-front : goal.returns-in_err-world-clause-front
returns-in_err-world-clause-front g c =
    λ steps ok. on_err_so _ _ (nothing_done g.H.Serve.calls c.args.hooks.items _ _)

pub returns-in_err-steps-clause-cause : goal.returns-in_err-steps-clause-cause
returns-in_err-steps-clause-cause g c =
    let items : List (Bor (List ℕ)) = c.args.lines.now in
    let i : ℕ = c.loop-number.number in
    let d : Bor (List ℕ) = record { ref_ptr = (0, 0); now = [] } in
    let within : i < length items = c.loop-number-test.true in
    let p = err_from_is_err_and c.from_residual-in_err-steps.result c.from_residual-in_err-steps.ensures.1 in
    λ steps ok. rw (p.1, p.2) (line_refused g.H.Serve.calls c.args.hooks.items (texts items) i _ _ _
    (get_or items i d).now _ _ c.loop-number.invariant.so_far (as_many items i within) (text_at items i d within)
    c.in_err-steps.ensures.refused steps ok)
