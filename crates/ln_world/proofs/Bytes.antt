-- A byte of a list, 0 after its end.
use Rattle.std.proofs.Common.{◌≡◌, ℕ, zero, suc, ◌≤◌, List, [], ◌∷◌, length, refl, arith, get_or}
use Rattle.ln_world.specs.BookReports.{byte_at}

pub byte_there : (n : ℕ) (bs : List ℕ) → get_or bs n 0 ≡ byte_at n bs
byte_there zero [] = refl
byte_there (suc n) [] = refl
byte_there zero (b ∷ bs) = refl
byte_there (suc n) (b ∷ bs) = byte_there n bs

pub byte_past : (n : ℕ) (bs : List ℕ) → length bs ≤ n → 0 ≡ byte_at n bs
byte_past n [] h = by n
  where
    by : (n : ℕ) → 0 ≡ byte_at n []
    by zero = refl
    by (suc n) = refl
byte_past zero (b ∷ bs) h = absurd (omega (arith, h))
byte_past (suc n) (b ∷ bs) h = byte_past n bs (omega (arith, h))
