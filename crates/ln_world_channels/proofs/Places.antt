-- The first place that passes a test, and the channel that is moved where it stands.
use Rattle.std.proofs.Common.{◌≡◌, ℕ, zero, suc, ◌+◌, ◌<◌, ◌≤◌, ◌==◌, List, [], ◌∷◌, ◌++◌, length, get_or, set, map}
use Rattle.std.proofs.Common.{take, drop, refl, sym, ap, ◌∙◌, subst, arith, Bool, true, false, cond, Option, Some, None}
use Rattle.std.proofs.Common.{position, is_none, is_some, ltb-false, nat_lt, not, eqb-true, eq-eqb, ne_eqb}
use Rattle.std.specs.List.{position_or_len, find}
use Rattle.std.proofs.lemmas.List.Folds.{find_at}
use Rattle.std.proofs.lemmas.List.Quantifiers.{position-Some}
use Rattle.std.proofs.lemmas.Option.{slice_get_past}
use Rattle.ln_keys.specs.Signer.{Signer}
use Rattle.ln_world_channels.specs.Both.{Move}
use Rattle.ln_world_channels.specs.WorldChannel.{WorldChannel, moved}
use Rattle.ln_world_channels.specs.World.{channel, AreOnce, changed_if, moved_at, if_there}
use Rattle.ln_world_channels.specs.declared.line.Line.{Line}
use Rattle.ln_world_channels.specs.declared.line.Line.TheVariants as line

-- ---- the first that passes

by_place : {X : Type 0} (p : X → Bool) (P : List X → ℕ → Type 0)
    → ((x : X) (xs : List X) → p x ≡ true → P (x ∷ xs) 0)
    → ((x : X) (xs : List X) (i : ℕ) → p x ≡ false → P xs i → P (x ∷ xs) (suc i))
    → (xs : List X) (i : ℕ) (d : X) → i < length xs → p (get_or xs i d) ≡ true
    → ((k : ℕ) → k < i → p (get_or xs k d) ≡ false) → P xs i
by_place p P here later [] i d lt at before = absurd (omega (arith, lt))
by_place p P here later (x ∷ xs) zero d lt at before = here x xs at
by_place p P here later (x ∷ xs) (suc i) d lt at before =
    later x xs i (before 0 (omega arith))
    (by_place p P here later xs i d (omega (arith, lt)) at (λ k h. before (suc k) (omega (arith, h))))

pub at_first : {X : Type 0} (p : X → Bool) (P : List X → ℕ → Type 0)
    → ((x : X) (xs : List X) → p x ≡ true → P (x ∷ xs) 0)
    → ((x : X) (xs : List X) (i : ℕ) → p x ≡ false → P xs i → P (x ∷ xs) (suc i))
    → (xs : List X) (i : ℕ) (d : X) → Some i ≡ position p xs → P xs i
at_first p P here later xs i d e =
    let h = position-Some p xs i d (sym e) in by_place p P here later xs i d h.0 h.1 h.2

-- ---- what is found

found : {K : Type 0} (t : Bool) (c : WorldChannel K) (o : Option (WorldChannel K)) → cond t (Some c) o ≡ None
    → (t ≡ false) × (o ≡ None)
found true c o e = absurd (cc)
found false c o e = (refl, e)

same_found : {K : Type 0} (n : ℕ) (cs : List (WorldChannel K)) → find (λ c. c.number == n) cs ≡ channel n cs
same_found n [] = refl
same_found n (c ∷ cs) = ap (λ o. cond (c.number == n) (Some c) o) (same_found n cs)

pub lacks : (t : Bool) (i : ℕ) → ◌≡◌ {A = Option ℕ} (cond t (Some i) None) None → t ≡ false
lacks true i e = absurd (cc)
lacks false i e = refl

pub not_found : {K : Type 0} (n : ℕ) (cs : List (WorldChannel K)) → position (λ c. c.number == n) cs ≡ None
    → channel n cs ≡ None
not_found n cs e =
    let i = position_or_len (λ (c : WorldChannel _). c.number == n) cs in
    let le : length cs ≤ i = ltb-false i (length cs) (lacks (nat_lt i (length cs)) i e) in
    sym (same_found n cs) ∙ find_at (λ c. c.number == n) cs ∙ slice_get_past cs i le

pub found_where : {K : Type 0} (n : ℕ) (cs : List (WorldChannel K)) (i : ℕ) (d : WorldChannel K)
    → Some i ≡ position (λ c. c.number == n) cs → channel n cs ≡ Some (get_or cs i d)
found_where n cs i d e = at_first (λ c. c.number == n) (λ l k. channel n l ≡ Some (get_or l k d))
    (λ c l h. ap (λ t. cond t (Some c) (channel n l)) h)
    (λ c l k h same. ap (λ t. cond t (Some c) (channel n l)) h ∙ same) cs i d e

-- where a slice of them was searched
pub searched : {K : Type 0} (n : ℕ) (cs slice : List (WorldChannel K)) (place o : Option ℕ) → place ≡ o
    → place ≡ position (λ c. c.number == n) slice → slice ≡ cs → o ≡ position (λ c. c.number == n) cs
searched n cs slice place o is e same =
    sym is ∙ e ∙ ap (position (λ (c : WorldChannel _). c.number == n)) same

-- ---- one channel moves

changed_nowhere : {K : Type 0} (n : ℕ) (f : WorldChannel K → WorldChannel K) (cs : List (WorldChannel K))
    → channel n cs ≡ None → cs ≡ map (changed_if n f) cs
changed_nowhere n f [] e = refl
changed_nowhere n f (c ∷ cs) e =
    let h : ((c.number == n) ≡ false) × (channel n cs ≡ None) = found (c.number == n) c (channel n cs) e in
    ap (λ l. c ∷ l) (changed_nowhere n f cs h.1)
    ∙ ap (λ t. cond t (f c) c ∷ map (changed_if n f) cs) (sym h.0)

changed_at : {K : Type 0} (n : ℕ) (f : WorldChannel K → WorldChannel K) (cs : List (WorldChannel K)) (i : ℕ)
    (d : WorldChannel K) → Some i ≡ position (λ c. c.number == n) cs
    → AreOnce cs → set cs i (f (get_or cs i d)) ≡ map (changed_if n f) cs
changed_at n f cs i d e =
    at_first (λ c. c.number == n) (λ l k. AreOnce l → set l k (f (get_or l k d)) ≡ map (changed_if n f) l)
    (λ c l h once. ap (λ t. f c ∷ t)
    (changed_nowhere n f l (subst (λ m. channel m l ≡ None) (eqb-true c.number n h) once.0))
    ∙ ap (λ t. cond t (f c) c ∷ map (changed_if n f) l) (sym h))
    (λ c l k h same once. ap (λ t. c ∷ t) (same once.1)
    ∙ ap (λ t. cond t (f c) c ∷ map (changed_if n f) l) (sym h))
    cs i d e

pub changed : {K : Type 0} (n : ℕ) (f : WorldChannel K → WorldChannel K) (cs : List (WorldChannel K)) (i : ℕ)
    (d e : WorldChannel K) → AreOnce cs → Some i ≡ position (λ c. c.number == n) cs → e ≡ f (get_or cs i d)
    → set cs i e ≡ map (changed_if n f) cs
changed n f cs i d e once p h = ap (λ x. set cs i x) h ∙ changed_at n f cs i d p once

pub unchanged_there : {K : Type 0} (n : ℕ) (f : WorldChannel K → WorldChannel K) (cs : List (WorldChannel K))
    → position (λ c. c.number == n) cs ≡ None → cs ≡ map (changed_if n f) cs
unchanged_there n f cs e = changed_nowhere n f cs (not_found n cs e)

pub nowhere : {K : Type 0} (s : K → Signer) (n : ℕ) (f : WorldChannel K → List Move) (cs : List (WorldChannel K))
    → channel n cs ≡ None → cs ≡ moved_at s n f cs
nowhere s n f cs e = changed_nowhere n (moved s f) cs e

pub placed : {K : Type 0} (s : K → Signer) (n : ℕ) (f : WorldChannel K → List Move) (cs : List (WorldChannel K)) (i : ℕ)
    (d e : WorldChannel K) → AreOnce cs → Some i ≡ position (λ c. c.number == n) cs → e ≡ moved s f (get_or cs i d)
    → set cs i e ≡ moved_at s n f cs
placed s n f cs i d e once p h = changed n (moved s f) cs i d e once p h

-- ---- each channel moves, one after the other

one_more : {X : Type 0} (f : X → X) (cs : List X) (i : ℕ) (d e : X) → i < length cs
    → e ≡ f (get_or (map f (take i cs) ++ drop i cs) i d)
    → set (map f (take i cs) ++ drop i cs) i e ≡ map f (take (suc i) cs) ++ drop (suc i) cs
one_more f [] i d e lt h = absurd (omega (arith, lt))
one_more f (c ∷ cs) zero d e lt h = ap (λ x. x ∷ cs) h
one_more f (c ∷ cs) (suc i) d e lt h = ap (λ l. f c ∷ l) (one_more f cs i d e (omega (arith, lt)) h)

pub all_more : {X : Type 0} (f : X → X) (cs now : List X) (i : ℕ) (d e : X)
    → now ≡ map f (take i cs) ++ drop i cs → i < length cs → e ≡ f (get_or now i d)
    → set now i e ≡ map f (take (i + 1) cs) ++ drop (i + 1) cs
all_more f cs now i d e same lt h =
    let next : suc i ≡ i + 1 = omega arith in
    ap (λ l. set l i e) same ∙ one_more f cs i d e lt (h ∙ ap (λ l. f (get_or l i d)) same)
    ∙ ap (λ k. map f (take k cs) ++ drop k cs) next

still_at : {X : Type 0} (f : X → X) (cs : List X) (i : ℕ) (d : X)
    → get_or (map f (take i cs) ++ drop i cs) i d ≡ get_or cs i d
still_at f [] zero d = refl
still_at f [] (suc i) d = refl
still_at f (c ∷ cs) zero d = refl
still_at f (c ∷ cs) (suc i) d = still_at f cs i d

-- the next one hasn't moved yet
pub unmoved : {X : Type 0} (f : X → X) (cs now : List X) (i : ℕ) (d : X) → now ≡ map f (take i cs) ++ drop i cs
    → get_or now i d ≡ get_or cs i d
unmoved f cs now i d same = ap (λ l. get_or l i d) same ∙ still_at f cs i d

-- ---- each number once

set_alike : {K : Type 0} (n : ℕ) (cs : List (WorldChannel K)) (i : ℕ) (d e : WorldChannel K)
    → e.number ≡ (get_or cs i d).number → channel n cs ≡ None → channel n (set cs i e) ≡ None
set_alike n [] i d e same h = refl
set_alike n (c ∷ cs) zero d e same h =
    let g : ((c.number == n) ≡ false) × (channel n cs ≡ None) = found (c.number == n) c (channel n cs) h in
    ap (λ m. cond (m == n) (Some e) (channel n cs)) same ∙ ap (λ t. cond t (Some e) (channel n cs)) g.0 ∙ g.1
set_alike n (c ∷ cs) (suc i) d e same h =
    let g : ((c.number == n) ≡ false) × (channel n cs ≡ None) = found (c.number == n) c (channel n cs) h in
    ap (λ t. cond t (Some c) (channel n (set cs i e))) g.0 ∙ set_alike n cs i d e same g.1

pub once-set : {K : Type 0} (cs : List (WorldChannel K)) (i : ℕ) (d e : WorldChannel K)
    → e.number ≡ (get_or cs i d).number → AreOnce cs → AreOnce (set cs i e)
once-set [] i d e same h = tt
once-set (c ∷ cs) zero d e same h = (subst (λ m. channel m cs ≡ None) (sym same) h.0, h.1)
once-set (c ∷ cs) (suc i) d e same h = (set_alike c.number cs i d e same h.0, once-set cs i d e same h.1)

-- the channel there is changed, and keeps its number
pub still_once : {K : Type 0} (cs : List (WorldChannel K)) (i : ℕ) (d e : WorldChannel K) → d ≡ get_or cs i d
    → e.number ≡ d.number → AreOnce cs → AreOnce (set cs i e)
still_once cs i d e at same h = once-set cs i d e (same ∙ ap (λ (c : WorldChannel _). c.number) at) h

pushed : {K : Type 0} (t : Bool) (c : WorldChannel K) (o : Option (WorldChannel K)) → o ≡ None → t ≡ false
    → cond t (Some c) o ≡ None
pushed t c o e f = ap (λ b. cond b (Some c) o) f ∙ e

none-push : {K : Type 0} (n : ℕ) (d : WorldChannel K) (cs : List (WorldChannel K)) → channel n cs ≡ None
    → (d.number == n) ≡ false → channel n (cs ++ d ∷ []) ≡ None
none-push n d [] e f = pushed (d.number == n) d None refl f
none-push n d (c ∷ cs) e f =
    let h : ((c.number == n) ≡ false) × (channel n cs ≡ None) = found (c.number == n) c (channel n cs) e in
    pushed (c.number == n) c (channel n (cs ++ d ∷ [])) (none-push n d cs h.1 f) h.0

pub once-push : {K : Type 0} (d : WorldChannel K) (cs : List (WorldChannel K)) → channel d.number cs ≡ None → AreOnce cs
    → AreOnce (cs ++ d ∷ [])
once-push d [] e h = (refl, tt)
once-push d (c ∷ cs) e h =
    let g : ((c.number == d.number) ≡ false) × (channel d.number cs ≡ None) =
    found (c.number == d.number) c (channel d.number cs) e in
    let other : (d.number == c.number) ≡ false =
    ne_eqb d.number c.number (λ same. absurd (cc (g.0, eq-eqb c.number d.number (sym same)))) in
    (none-push c.number d cs h.0 other, once-push d cs g.1 h.1)

-- ---- what is told of a channel that is found

pub there_is : {K : Type 0} (n : ℕ) (f : WorldChannel K → List Line) (cs : List (WorldChannel K)) (i : ℕ)
    (d : WorldChannel K) → Some i ≡ position (λ c. c.number == n) cs → f (get_or cs i d) ≡ if_there f (channel n cs)
there_is n f cs i d e = sym (ap (if_there f) (found_where n cs i d e))

pub there_is_none : {K : Type 0} (n : ℕ) (f : WorldChannel K → List Line) (cs : List (WorldChannel K))
    → position (λ c. c.number == n) cs ≡ None → line.Idle ∷ [] ≡ if_there f (channel n cs)
there_is_none n f cs e = sym (ap (if_there f) (not_found n cs e))

some_found : {K : Type 0} (n : ℕ) (cs : List (WorldChannel K)) (i : ℕ) → Some i ≡ position (λ c. c.number == n) cs
    → is_none (channel n cs) ≡ false
some_found n [] i e = absurd (cc)
some_found n (c ∷ cs) i e = ap is_none (found_where n (c ∷ cs) i c e)

pub same_test : {K : Type 0} (n : ℕ) (cs : List (WorldChannel K)) (o : Option ℕ) (t : Bool)
    → o ≡ position (λ c. c.number == n) cs → is_some o ≡ not t → t ≡ is_none (channel n cs)
same_test n cs None true e h = sym (ap is_none (not_found n cs (sym e)))
same_test n cs None false e h = absurd (cc)
same_test n cs (Some i) true e h = absurd (cc)
same_test n cs (Some i) false e h = sym (some_found n cs i e)

pub once-either : {K : Type 0} (t : Bool) (cs ds : List (WorldChannel K)) → AreOnce cs → AreOnce ds
    → AreOnce (cond t cs ds)
once-either true cs ds a b = a
once-either false cs ds a b = b
