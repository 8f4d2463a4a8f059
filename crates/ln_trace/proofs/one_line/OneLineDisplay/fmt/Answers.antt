use Rattle.std.proofs.Common.{[], ◌∷◌, ◌++◌, refl, sym, ap, ◌∙◌, append_assoc, append-nil, rules, true}
use Rattle.std.proofs.Output.{has_written_append, has_written_of_eq}
use Rattle.std.proofs.lemmas.Iterator.Splits.{YieldsList-from_lines}
use Rattle.std.specs.Str.Iter.{lines_steps, lines_rest}
use Rattle.ln_trace.proofs.Joining.{after_line, at_end}
use Rattle.ln_trace.proofs.one_line.OneLineDisplay.fmt.Goals as goal

pub loop-line-init : goal.loop-line-init
loop-line-init g c =
    let starts = YieldsList-from_lines c.args.self.now.0.now
    (ap lines_rest c.into_iter-line-iterator.ensures.into_iter_gives ∙ c.lines-line-items.ensures.rest) in
    (tt, tt, ([], (refl, refl)), λ plain. ([], _, search rules, starts.runs, refl))

pub loop-line-preserved : goal.loop-line-preserved
unfolding lib.Utf8.encode
loop-line-preserved g c = (
  tt,
  tt,
  (44 ∷ 32 ∷ [], (refl, refl)),
  λ plain.
      let so_far = c.loop-line.invariant.3 plain in
      let next = after_line lines_steps (λ x. x.now) c.loop-line.between.now so_far.1 _ _ c.in-Some.line so_far.3
      c.in-Some.ensures.steps in
      let before = c.in_ok-write_str.ensures.writes so_far.2.plain (refl {a = true}) in
      let line = c.in_ok-write_str-2.ensures.writes before.plain (refl {a = true}) in (
        so_far.0 ++ (c.loop-line.between.now ++ c.in-Some.line.now),
        next.0,
        has_written_append _ _ _ _ _ _ so_far.2 (has_written_append _ _ _ _ _ _ before line),
        next.2,
        rw (append_assoc, append_assoc, ← next.1) so_far.4,
      ),
)

pub returns-clause-writes : goal.returns-clause-writes
returns-clause-writes g c = λ plain ok.
    let so_far = c.loop-line.invariant.3 plain in
    let last = at_end lines_steps (λ x. x.now) c.loop-line.between.now _ _ _ so_far.3 c.in-None.ensures.steps in
    has_written_of_eq _ _ _ _ _ (sym (append-nil _) ∙ ap (λ left. so_far.0 ++ left) (sym last) ∙ so_far.4) so_far.2
