-- How the one owner of a part changes with each kind of step.
use Rattle.std.proofs.Common.{◌≡◌, ◌≢◌, ◌⊎◌, ℕ, zero, suc, List, [], ◌∷◌, ◌++◌, Option, Some, None, length, set, sym}
use Rattle.std.proofs.Common.{refl, ap, ◌∙◌, subst, inl, inr, ⊎_elim}
use mathlib.Core.Option.{some, some-ne-none, some-injective}
use lib.ListN.{get_elem?}
use Rattle.crossbeam_queue.proofs.Lists.{at_set}
use Rattle.ln_relay.specs.declared.rule.Hand.{Hand}
use Rattle.ln_relay.specs.Rule.{Owns, Keeps, Agrees}

at_last : {A : Type 0} (l : List A) (a b : A) (j : ℕ) → get_elem? (l ++ a ∷ []) j ≡ some b
    → (get_elem? l j ≡ some b) ⊎ ((j ≡ length l) × (a ≡ b))
at_last [] a b zero e = inr (refl, some-injective a b e)
at_last [] a b (suc j) e = absurd (some-ne-none b (sym e))
at_last (x ∷ xs) a b zero e = inl e
at_last (x ∷ xs) a b (suc j) e = ⊎_elim (λ f. inl f) (λ f. inr (ap suc f.0, f.1)) (at_last xs a b j e)

module _ {T : Type 0} where
  -- who isn't the owner knows nothing of the part
  elsewhere : (o : Option (List T)) (s t : ℕ) (l m : List T) (j : ℕ) → j ≢ s → Owns o s l j → Owns o t m j
  elsewhere None s t l m j n h = tt
  elsewhere (Some k) s t l m j n h = absurd (n h.0)

  pub agrees : (o : Option (List T)) (s : ℕ) (l : List T) (j : ℕ) → Owns o s l j → Agrees o l
  agrees None s l j h = tt
  agrees (Some k) s l j h = h.1

  -- the pass at j knows what o says
  moved : (o p : Option (List T)) (s : ℕ) (l : List T) (i j : ℕ) → i ≡ j → o ≡ p → Owns o s l i → Owns p s l j
  moved o p s l i j e f h = subst (λ (y : ℕ × Option (List T)). Owns y.1 s l y.0) (λ k. (e k, f k)) h

  begins_one : (part : Hand T → Option (List T)) (v : Hand T) (j : ℕ) (u : Hand T) → part v ≡ Some []
      → get_elem? (v ∷ []) j ≡ some u → Owns (part u) 0 [] j
  begins_one part v zero u e g =
      moved (Some []) (part u) 0 [] 0 0 refl (sym e ∙ ap part (some-injective v u g)) (refl, refl)
  begins_one part v (suc j) u e g = absurd (some-ne-none u (sym g))

  pub begins : (part : Hand T → Option (List T)) (v : Hand T) → part v ≡ Some [] → Keeps part [] (v ∷ [])
  begins part v e = (0, λ j u g. begins_one part v j u e g)

  module _ (part : Hand T → Option (List T)) (l : List T) (views : List (Hand T)) (k : Keeps part l views) where
    -- the pass at j is the one that was set, or another
    told : (port j : ℕ) (w u : Hand T) (s : ℕ) (m : List T) → get_elem? (set views port w) j ≡ some u
        → (w ≡ u → j ≡ port → Owns (part u) s m j) → (j ≢ port → get_elem? views j ≡ some u → Owns (part u) s m j)
        → Owns (part u) s m j
    told port j w u s m g here there =
        ⊎_elim (λ (x : (j ≡ port) × (w ≡ u)). here x.1 x.0)
        (λ (x : (j ≢ port) × (get_elem? views j ≡ some u)). there x.0 x.1) (at_set views port j w u g)

    pub known : (port : ℕ) (v : Hand T) (m : List T) → get_elem? views port ≡ some v → part v ≡ Some m
        → (port ≡ k.0) × (m ≡ l)
    known port v m at e = moved (part v) (Some m) k.0 l port port refl e (k.1 port v at)

    -- a step that leaves the part as it is
    pub same : (port : ℕ) (v w : Hand T) → get_elem? views port ≡ some v → part w ≡ part v
        → Keeps part l (set views port w)
    same port v w at e = (
      k.0,
      λ j u g. told port j w u k.0 l g
          (λ f p. moved (part v) (part u) k.0 l port j (sym p) (sym e ∙ ap part f) (k.1 port v at))
          (λ p f. k.1 j u f),
    )

    -- the owner's list becomes m
    pub changes : (port : ℕ) (v w : Hand T) (old m : List T) → get_elem? views port ≡ some v → part v ≡ Some old
        → part w ≡ Some m → Keeps part m (set views port w)
    changes port v w old m at e f = let mine = known port v old at e in (
      k.0,
      λ j u g. told port j w u k.0 m g
          (λ f' p. moved (Some m) (part u) k.0 m port j (sym p) (sym f ∙ ap part f') (mine.0, refl))
          (λ p f'. elsewhere (part u) k.0 k.0 l m j (λ q. p (q ∙ sym mine.0)) (k.1 j u f')),
    )

    -- a pass forgets the part
    pub forgets : (port : ℕ) (w : Hand T) → part w ≡ None → Keeps part l (set views port w)
    forgets port w e = (
      k.0,
      λ j u g. told port j w u k.0 l g
          (λ f p. moved None (part u) k.0 l port j (sym p) (sym e ∙ ap part f) tt) (λ p f. k.1 j u f),
    )

    -- a new pass that knows nothing of the part
    pub joined : (w : Hand T) → part w ≡ None → Keeps part l (views ++ w ∷ [])
    joined w e = (
      k.0,
      λ j u g. ⊎_elim (λ (x : get_elem? views j ≡ some u). k.1 j u x)
          (λ (x : (j ≡ length views) × (w ≡ u)). moved None (part u) k.0 l j j refl (sym e ∙ ap part x.1) tt)
          (at_last views w u j g),
    )

    -- the part goes to a new pass
    pub handed : (port : ℕ) (v left right : Hand T) (m : List T) → get_elem? views port ≡ some v → part v ≡ Some m
        → part left ≡ None → part right ≡ Some m → Keeps part l (set views port left ++ right ∷ [])
    handed port v left right m at e f r =
        let mine = known port v m at e in
        let vs : List (Hand T) = set views port left in (
          length vs,
          λ j u g. ⊎_elim
              (λ (y : get_elem? vs j ≡ some u). told port j left u (length vs) l y
              (λ f' p. moved None (part u) (length vs) l port j (sym p) (sym f ∙ ap part f') tt)
              (λ p f'. elsewhere (part u) k.0 (length vs) l l j (λ q. p (q ∙ sym mine.0)) (k.1 j u f')))
              (λ (y : (j ≡ length vs) × (right ≡ u)).
              moved (Some m) (part u) (length vs) l (length vs) j (sym y.0) (sym r ∙ ap part y.1) (refl, mine.1))
              (at_last vs right u j g),
        )

    -- the part comes from another pass, which is then spent
    pub fetched : (port other : ℕ) (u both spent : Hand T) (m : List T) → other ≢ port
        → get_elem? views other ≡ some u → part u ≡ Some m → part both ≡ Some m → part spent ≡ None
        → Keeps part l (set (set views port both) other spent)
    fetched port other u both spent m apart at e f s =
        let theirs = known other u m at e in
        let vs : List (Hand T) = set views port both in (
          port,
          λ j y g. ⊎_elim
              (λ (x : (j ≡ other) × (spent ≡ y)).
              moved None (part y) port l other j (sym x.0) (sym s ∙ ap part x.1) tt)
              (λ (x : (j ≢ other) × (get_elem? vs j ≡ some y)). told port j both y port l x.1
              (λ f' p. moved (Some m) (part y) port l port j (sym p) (sym f ∙ ap part f') (refl, theirs.1))
              (λ p f'. elsewhere (part y) k.0 port l l j (λ q. x.0 (q ∙ sym theirs.0)) (k.1 j y f')))
              (at_set vs other j spent y g),
        )
