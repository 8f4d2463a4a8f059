-- One list within another.
use Rattle.std.specs.Prelude.{◌≡◌, List, ◌++◌}

-- p begins q: q is p, followed by some list
abbrev pub Begins : {A : Type 0} → List A → List A → Type 0
Begins {A} p q = (rest : List A) × (p ++ rest ≡ q)
