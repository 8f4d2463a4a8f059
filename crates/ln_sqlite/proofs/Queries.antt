-- What a query of the table alone shows.
use Rattle.std.proofs.Common.{◌≡◌, inl, inr, ℕ, zero, suc, ◌<◌, Bool, true, List, [], ◌∷◌, length, map, get_or, All}
use Rattle.std.proofs.Common.{cond, flat_map, refl, sym, ap, subst, ◌∙◌, arith}
use Rattle.std.proofs.lemmas.Bool.{cases_Bool}
use Rattle.std.proofs.lemmas.List.Sorted.{All-permutation, IsPermutation-sym}
use Rattle.std.specs.List.{list_all}
use Rattle.std.specs.List.Sorted.{IsPermutation}
use Rattle.sqlite_value.specs.declared.keys.Key.{Key}
use Rattle.sqlite_value.specs.Order.{Row}
use Rattle.sqlite_trees.specs.Tree.{Trees}
use Rattle.sqlite_rules.specs.Lists.{Has}
use Rattle.sqlite_rules.proofs.ProbeLemmas.{has_mapped, mapped_has}
use Rattle.sqlite_sql.specs.Term.{Term, Env, eval_all, holds}
use Rattle.sqlite.specs.Query.{IsAnswer, output, Output}
use Rattle.sqlite.specs.Program.{overlay}
use Rattle.ln_sqlite.proofs.Texts.{plain_query}

-- ---- members, in any order

module _ {X : Type 0} where
  pub has_at : (xs : List X) (i : ℕ) (d : X) → i < length xs → Has xs (get_or xs i d)
  has_at [] i d low = absurd (omega arith)
  has_at (x ∷ xs) zero d low = inl refl
  has_at (x ∷ xs) (suc i) d low = inr (has_at xs i d (omega arith))

  all_in : (P : X → Type 0) (xs : List X) (x : X) → All P xs → Has xs x → P x
  all_in P [] x all none = absurd none
  all_in P (y ∷ xs) x all (inl is) = subst P (sym is) (all 0 y (omega arith))
  all_in P (y ∷ xs) x all (inr later) = all_in P xs x (λ i d low. all (suc i) d (omega arith)) later

  stay : (xs ys : List X) (x : X) → IsPermutation xs ys → Has xs x → Has ys x
  stay xs ys x same has = all_in (λ y. Has ys y) xs x (All-permutation (λ y. Has ys y) ys xs
      (IsPermutation-sym xs ys same) (λ i d low. has_at ys i d low)) has

-- ---- the rows that are kept, and what is shown of them

module _ (filter project : List Term) (order : List (Term × Key)) (params : Row) where
  abbrev pub passes : Row → Bool
  passes r = list_all (holds (params ∷ r ∷ [])) filter

  abbrev pub shown_of : Row → Row
  shown_of r = eval_all project (params ∷ r ∷ [])

  -- what is shown of each row of the table that passes, and of no other
  pub record AreOutputs (table shows : List Row) : Type 0 where
    pub sound : (x : Row) → Has shows x → (r : Row) × Has table r × (passes r ≡ true) × (x ≡ shown_of r)
    pub complete : (r : Row) → Has table r → passes r ≡ true → Has shows (shown_of r)

  abbrev env : Row → Env
  env r = params ∷ r ∷ []

  abbrev picked : List Row → List Env
  picked rows = flat_map (λ r. cond (passes r) (env r ∷ []) []) rows

  from_picked : (rows : List Row) (e : Env) → Has (picked rows) e
      → (r : Row) × Has rows r × (passes r ≡ true) × (e ≡ env r)
  from_picked [] e none = absurd none
  from_picked (r ∷ rows) e h = elim (cases_Bool (passes r)) [
    | inl pass ↦ elim (rw pass at h) [
      | inl is ↦ (r, inl refl, pass, is)
      | inr later ↦ let it = from_picked rows e later in (it.0, inr it.1, it.2, it.3)
    ]
    | inr stop ↦ let it = from_picked rows e (rw stop at h) in (it.0, inr it.1, it.2, it.3)
  ]

  to_picked : (rows : List Row) (r : Row) → Has rows r → passes r ≡ true → Has (picked rows) (env r)
  to_picked [] r none pass = absurd none
  to_picked (x ∷ rows) r (inl is) pass = rw (sym is, pass) (inl refl)
  to_picked (x ∷ rows) r (inr later) pass = elim (cases_Bool (passes x)) [
    | inl also ↦ rw also (inr (to_picked rows r later pass))
    | inr stop ↦ rw stop (to_picked rows r later pass)
  ]

  pub outputs : (db : Trees) (rows : List Row) → IsAnswer (plain_query filter project order) (overlay db []) params rows
      → AreOutputs (db 0) rows
  outputs db rows a =
      let out = output (plain_query filter project order) in
      let staged : a.staged ≡ picked (db 0) = a.grouped in
      let kept : a.kept ≡ map out (picked (db 0)) = a.distinct ∙ ap (map out) staged in
      let back = IsPermutation-sym a.kept a.ordered a.same in
      let shows : rows ≡ map (λ (o : Output). o.1) a.ordered = a.shown in
      record {
        sound = λ x has_x.
            let o = has_mapped (λ (p : Output). p.1) a.ordered x (subst (λ l. Has l x) shows has_x) in
            let k = subst (λ l. Has l o.0) kept (stay a.ordered a.kept o.0 back o.1) in
            let e = has_mapped out (picked (db 0)) o.0 k in
            let r = from_picked (db 0) e.0 e.1 in
            (r.0, r.1, r.2, o.2 ∙ ap (λ (p : Output). p.1) e.2 ∙ ap (λ v. (out v).1) r.3);
        complete = λ r has_r pass.
            let e = to_picked (db 0) r has_r pass in
            let k = mapped_has out (picked (db 0)) (env r) e in
            let o = stay a.kept a.ordered (out (env r)) a.same (subst (λ l. Has l (out (env r))) (sym kept) k) in
            subst (λ l. Has l (shown_of r)) (sym shows) (mapped_has (λ (p : Output). p.1) a.ordered (out (env r)) o);
      }
