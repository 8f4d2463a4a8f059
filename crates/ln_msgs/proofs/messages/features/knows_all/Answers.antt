use Rattle.std.proofs.Common.{◌≡◌, ℕ, ◌+◌, ◌-◌, ◌*◌, ◌/◌, ◌%◌, ◌<◌, List, length, get_or, reverse, IsTrue, sym, ap}
use Rattle.std.proofs.Common.{subst, ◌∙◌, arith, below_more}
use Rattle.std.proofs.lemmas.List.{get_or-reverse}
use Rattle.std.specs.Int.{bit_at}
use Rattle.ln_msgs.specs.Messages.Features.{HasFeature, is_listed}
use Rattle.ln_msgs.proofs.messages.features.knows_all.Goals as goal

-- a bit of a byte is a bit of the map
of_byte : (features : List ℕ) (place j : ℕ) → place < length features → j < 8
    → bit_at (get_or features (length features - 1 - place) 0) j ≡ 1 → HasFeature features (8 * place + j)
of_byte features place j within low set =
    let at : (8 * place + j) / 8 ≡ place = omega arith in
    let bit : (8 * place + j) % 8 ≡ j = omega arith in
    ap (λ n. bit_at (get_or (reverse features) n 0) ((8 * place + j) % 8)) at
    ∙ ap (λ n. bit_at (get_or (reverse features) place 0) n) bit
    ∙ ap (λ b. bit_at b j) (get_or-reverse features place 0 within) ∙ set

-- a bit of the map is a bit of its byte
in_byte : (features : List ℕ) (place k : ℕ) → place < length features → k / 8 ≡ place → HasFeature features k
    → bit_at (get_or features (length features - 1 - place) 0) (k % 8) ≡ 1
in_byte features place k within at set =
    ap (λ b. bit_at b (k % 8)) (sym (get_or-reverse features place 0 within)
    ∙ ap (λ n. get_or (reverse features) n 0) (sym at)) ∙ set

pub returns-then-not-knows_byte-clause-false_has_an_unknown_bit
    : goal.returns-then-not-knows_byte-clause-false_has_an_unknown_bit
returns-then-not-knows_byte-clause-false_has_an_unknown_bit c = λ e.
    let place = c.loop-place.place in
    let found = c.knows_byte.ensures.false_has_an_unknown_bit c.if-not-knows_byte.true in (
      8 * place + found.0,
      of_byte c.args.features.now place found.0 c.loop-place-test.true found.1 found.2,
      omega (arith, found.3),
      found.4,
    )

pub loop-place-preserved : goal.loop-place-preserved
loop-place-preserved c = below_more _ _ c.loop-place.invariant (λ k at set even.
    let place = c.loop-place.place in
    let low : k % 8 < 8 = omega arith in
    let same : 8 * place + k % 8 ≡ k = omega arith in
    subst (λ n. IsTrue (is_listed c.args.known.now n)) same
    (c.knows_byte.ensures.true_is_all_known c.if-not-knows_byte.false (k % 8) low
    (in_byte c.args.features.now place k c.loop-place-test.true at set) (omega arith)))
