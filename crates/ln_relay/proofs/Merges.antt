-- A merge grows at its end.
use Rattle.std.proofs.Common.{List, [], ◌∷◌, ◌++◌}
use Rattle.ln_relay.specs.Merge.{IsMerge, neither, from_first, from_second}

pub more_first : {A : Type 0} (x : A) (xs ys zs : List A) → IsMerge xs ys zs
    → IsMerge (xs ++ x ∷ []) ys (zs ++ x ∷ [])
more_first x _ _ _ neither = from_first x [] [] [] neither
more_first x _ _ _ (from_first y xs ys zs m) =
    from_first y (xs ++ x ∷ []) ys (zs ++ x ∷ []) (more_first x xs ys zs m)
more_first x _ _ _ (from_second y xs ys zs m) =
    from_second y (xs ++ x ∷ []) ys (zs ++ x ∷ []) (more_first x xs ys zs m)

pub more_second : {A : Type 0} (x : A) (xs ys zs : List A) → IsMerge xs ys zs
    → IsMerge xs (ys ++ x ∷ []) (zs ++ x ∷ [])
more_second x _ _ _ neither = from_second x [] [] [] neither
more_second x _ _ _ (from_first y xs ys zs m) =
    from_first y xs (ys ++ x ∷ []) (zs ++ x ∷ []) (more_second x xs ys zs m)
more_second x _ _ _ (from_second y xs ys zs m) =
    from_second y xs (ys ++ x ∷ []) (zs ++ x ∷ []) (more_second x xs ys zs m)
