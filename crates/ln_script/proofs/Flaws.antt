-- The first flaw of the words of hops, hop by hop.
use Rattle.std.proofs.Common.{◌≡◌, ◌<◌, ◌≤◌, ℕ, List, [], ◌∷◌, length, refl, arith}
use Rattle.std.specs.Borrow.{Bor}
use Rattle.ln_script.specs.Flaw.{flaw_among, hop_wants, route_flaw}
use Rattle.ln_script.specs.Step.{texts}

-- fewer words than a hop's, and one at least
pub last_words : (ws : List (Bor (List ℕ))) → length ws < 3 → 1 ≤ length ws
    → flaw_among hop_wants (texts ws) ≡ route_flaw (texts ws)
last_words [] few some = absurd (omega (arith, some))
last_words (a ∷ []) few some = refl
last_words (a ∷ b ∷ []) few some = refl
last_words (a ∷ b ∷ c ∷ ws) few some = absurd (omega (arith, few))
