-- What an end answers of the removals that it has kept, of an HTLC of the book.
use Rattle.std.proofs.Common.{◌≡◌, inl, inr, ℕ, List, [], ◌∷◌, refl, sym, ap, ◌∙◌, Bool, true, false, cond, ◌==◌}
use Rattle.std.proofs.Common.{◌&&◌, ◌||◌}
use Rattle.std.proofs.lemmas.Bool.{eq-eqb}
use Rattle.std.proofs.Math.Bool.{or-true}
use Rattle.ln_book_tables.specs.declared.htlc.Htlc.{Htlc}
use Rattle.ln_book_tables.specs.Replay.{same, is_among}
use Rattle.ln_book.specs.Kept.{kept_ids}
use Rattle.ln_payment_circuits.specs.Snapshot.{IsIn}

-- one whose removal was kept is among them
pub kept_among : (f : ℕ → Bool) (c : List ℕ) (hs : List Htlc) (x : Htlc) → IsIn x hs → same c x.key.channel ≡ true
    → f x.key.id ≡ true → is_among x.key.id (kept_ids f c hs) ≡ true
kept_among f c [] x m at kept = absurd m
kept_among f c (h ∷ hs) x (inl e) at kept =
    ap (λ b. is_among x.key.id (cond b (h.key.id ∷ kept_ids f c hs) (kept_ids f c hs)))
    (ap (λ (z : Htlc). same c z.key.channel && f z.key.id) e ∙ ap (λ b. b && f x.key.id) at ∙ kept)
    ∙ ap (λ b. b || is_among x.key.id (kept_ids f c hs)) (eq-eqb x.key.id h.key.id
    (ap (λ (z : Htlc). z.key.id) (sym e)))
kept_among f c (h ∷ hs) x (inr m) at kept = cases (same c h.key.channel && f h.key.id) (kept_among f c hs x m at kept)
  where
    cases : (b : Bool) → is_among x.key.id (kept_ids f c hs) ≡ true
        → is_among x.key.id (cond b (h.key.id ∷ kept_ids f c hs) (kept_ids f c hs)) ≡ true
    cases true k = ap (λ b. (x.key.id == h.key.id) || b) k ∙ or-true (x.key.id == h.key.id)
    cases false k = k

-- so of one that isn't among them none was kept
pub none_kept : (f : ℕ → Bool) (c : List ℕ) (hs : List Htlc) (x : Htlc) → IsIn x hs → same c x.key.channel ≡ true
    → is_among x.key.id (kept_ids f c hs) ≡ false → f x.key.id ≡ false
none_kept f c hs x m at none = cases (f x.key.id) refl
  where
    cases : (b : Bool) → f x.key.id ≡ b → f x.key.id ≡ false
    cases false e = e
    cases true e = absurd (let no : true ≡ false = sym (kept_among f c hs x m at e) ∙ none in cc)
