-- Writing one thing after another.
use Rattle.std.proofs.Common.{◌≡◌, List, ◌++◌, ap, ◌∙◌, append_assoc, ℕ}

pub follows : (x y z a b : List ℕ) → y ≡ x ++ a → z ≡ y ++ b → z ≡ x ++ (a ++ b)
follows x y z a b p q = q ∙ ap (λ (l : List ℕ). l ++ b) p ∙ append_assoc x a b

-- six things
pub six_follow : (x s t u v w z a b c d e f : List ℕ) → s ≡ x ++ a → t ≡ s ++ b → u ≡ t ++ c → v ≡ u ++ d → w ≡ v ++ e
    → z ≡ w ++ f → z ≡ x ++ (a ++ (b ++ (c ++ (d ++ (e ++ f)))))
six_follow x s t u v w z a b c d e f p q r g h i =
    follows x s z a _ p (follows s t z b _ q (follows t u z c _ r (follows u v z d _ g (follows v w z e f h i))))
