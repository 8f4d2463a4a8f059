-- Channels that come back, one after the other.
use Rattle.std.proofs.Common.{◌≡◌, ◌++◌, ◌∷◌, [], List, length, refl, sym, subst, append-nil, arith}
use Rattle.std.proofs.lemmas.List.{append_assoc}
use Rattle.ln_store.specs.Store.{StoreView}
use Rattle.ln_node.specs.declared.stored.Loaded.{Loaded}
use Rattle.ln_node.specs.declared.stored.Stored.{Stored}
use Rattle.ln_node.specs.Stored.{IsLoaded, AreLoaded}

pub none : {A : Type 0} (xs : List A) → length xs ≡ 0 → xs ≡ []
none [] e = refl
none (x ∷ xs) e = absurd (omega (arith, e))

module _ {K S T : Type 0} (seen : S → StoreView) where
  pub one-more : (first left : List (Stored K S T)) (so : List (Loaded K S T)) (s : Stored K S T) (l : Loaded K S T)
      → ((rest : List (Loaded K S T)) → AreLoaded seen (s ∷ left) rest → AreLoaded seen first (so ++ rest))
      → IsLoaded seen s l
      → (rest : List (Loaded K S T)) → AreLoaded seen left rest → AreLoaded seen first ((so ++ l ∷ []) ++ rest)
  one-more first left so s l before is rest are =
      subst (AreLoaded seen first) (sym (append_assoc so (l ∷ []) rest)) (before (l ∷ rest) (is, are))

  pub no-more : (first : List (Stored K S T)) (so : List (Loaded K S T))
      → ((rest : List (Loaded K S T)) → AreLoaded seen [] rest → AreLoaded seen first (so ++ rest))
      → AreLoaded seen first so
  no-more first so before = subst (AreLoaded seen first) (append-nil so) (before [] tt)

  pub as-many : (ss : List (Stored K S T)) (ls : List (Loaded K S T)) → AreLoaded seen ss ls → length ls ≡ length ss
  as-many [] [] are = refl
  as-many [] (l ∷ ls) are = elim are [ ]
  as-many (s ∷ ss) [] are = elim are [ ]
  as-many (s ∷ ss) (l ∷ ls) are = omega (arith, as-many ss ls are.1)
