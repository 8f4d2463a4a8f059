use Rattle.std.proofs.Common.{◌≡◌, ℕ, ◌+◌, ◌-◌, ◌≤◌, List, ◌++◌, rules, arith, length, take, slice_range, sym, ap, ◌∙◌}
use Rattle.std.proofs.Common.{refl, subst, le_refl, drop_at, length-take-le}
use Rattle.std.proofs.lemmas.Slice.{take-put_mid_below}
use Rattle.std.proofs.lemmas.List.{take-append-le}
use Rattle.std.specs.Io.KnownBytes.{Consumes}
use Rattle.std.proofs.KnownBytes.{Consumes-trans, Consumes-kept}
use borrow.Rule.Slice.PartMut.{put_mid, post_of}
use lib.Seq.{take-add}
use Rattle.ln_node_loops.proofs.reader.fill.Goals as goal

split : (a b : ℕ) (old new : List ℕ) → a ≤ b → take a new ≡ take a old
    → take a old ++ slice_range new a b ≡ take b new
split a b old new h front =
    let same : a + (b - a) ≡ b = omega arith in
    ap (λ l. l ++ slice_range new a b) (sym front) ∙ sym (take-add a (b - a) new) ∙ ap (λ n. take n new) same

middle : (a k n : ℕ) (xs ys : List ℕ) → a ≤ length xs → n ≤ length ys
    → slice_range (put_mid a k xs ys) a (a + n) ≡ take n ys
middle a k n xs ys within fits =
    let same : (a + n) - a ≡ n = omega arith in
    let after = post_of a k xs in
    ap (take ((a + n) - a)) (drop_at (take a xs) (ys ++ after) a (length-take-le a xs within))
    ∙ ap (λ m. take m (ys ++ after)) same ∙ take-append-le n ys after fits

pub loop-count-preserved : goal.loop-count-preserved
loop-count-preserved g c =
    let from = c.loop-count.count in
    let room = length c.loop-count.buffer - from in
    let within = c.loop-count.invariant.1 in
    let part = middle from room c.in-Ok.more c.loop-count.buffer c.read.new.buffer within c.in-Ok.ensures.bound.0 in
    let joined = split from (from + c.in-Ok.more) c.loop-count.buffer
    (put_mid from room c.loop-count.buffer c.read.new.buffer) (omega arith)
    (take-put_mid_below _ _ _ _ _ (le_refl _) within) in (
      search rules,
      search rules,
      subst (Consumes _ _) (ap (λ l. take from c.loop-count.buffer ++ l) (sym part) ∙ joined)
          (Consumes-trans _ _ _ _ _ c.loop-count.invariant.2 c.in-Ok.ensures.bytes.0),
    )

pub returns-in-Err-clause-fails : goal.returns-in-Err-clause-fails
returns-in-Err-clause-fails g c =
    let long = length-take-le c.loop-count.count c.loop-count.buffer c.loop-count.invariant.1 in (
      refl,
      (
        take c.loop-count.count c.loop-count.buffer,
        omega (arith, long, c.loop-count-test.true, c.loop-count.invariant.0),
        Consumes-kept _ _ _ _ c.loop-count.invariant.2 c.in-Err.ensures.bytes,
      ),
    )
