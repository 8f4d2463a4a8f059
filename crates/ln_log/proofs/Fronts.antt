-- The lists that are kept after a base: what of them a call is handed, and single HTLCs in them.
use Rattle.std.proofs.Common.{◌≡◌, ℕ, ◌+◌, ◌-◌, ◌≤◌, List, [], ◌∷◌, ◌++◌, length, take, drop, refl, sym}
use Rattle.std.proofs.Common.{ap, ◌∙◌, subst, arith, Bool, true, false, cond, Option, Some, None, inl, inr}
use Rattle.std.proofs.Common.{append_assoc}
use Rattle.std.proofs.lemmas.Bool.Decides.{leb_tells}
use Rattle.std.proofs.lemmas.List.{drop-take, drop-drop, take-take}
use Rattle.std.proofs.Math.Seq.{take-append-add, drop-append-add, drop-append_seam}
use Rattle.ln_keys.specs.declared.role.Role.{Role}
use Rattle.ln_log.specs.declared.opening.Limits.{Limits}
use Rattle.ln_log.specs.declared.standing.Standing.{Standing}
use Rattle.ln_log.specs.declared.update.Add.{Add}
use Rattle.ln_log.specs.declared.update.Removal.{Removal}
use Rattle.ln_log.specs.declared.update.Update.{Update}
use Rattle.ln_log.specs.declared.update.Update.TheVariants as update
use Rattle.ln_log.specs.declared.outcome.Outcome.{Outcome}
use Rattle.ln_log.specs.declared.outcome.Outcome.TheVariants.{Live, Fulfilled, Failed}
use Rattle.ln_log.specs.Updates.{removed, next_id, add_with, outcome, is_live}
use Rattle.ln_log.specs.Limits.{removable, fulfil_fault, fail_fault, malformed_fault, fault_at}
use Rattle.ln_log.specs.Standing.{with_own, with_peer, with_removal, with_all, without, paid_by, PaidFits, OwnFits}
use Rattle.ln_log.specs.Standing.{FoundFits, RemovalFits, AllFit}
use Rattle.ln_log.specs.Log.{AreNumbered, RemovesLive, AreRemovals, IsNotGone, AreNotGone}
use Rattle.ln_log.specs.Window.{live_htlcs}
use Rattle.ln_log.proofs.Removing.{or_else, outcome-append, add_with-append, below, numbered-take, numbered-drop}
use Rattle.ln_log.proofs.Behind.{AreLiveIn, live_in, found, outcome_kept}

-- ---- slices

-- a beginning of a list after others
pub cut_at : (live f n : ℕ) (xs us : List Update) → live ≡ length xs → f ≤ n
    → take (live + (n - f)) (xs ++ drop f us) ≡ xs ++ drop f (take n us)
cut_at live f n xs us e le =
    ap (λ k. take (k + (n - f)) (xs ++ drop f us)) e ∙ take-append-add xs (drop f us) (n - f)
    ∙ ap (λ x. xs ++ x) (sym (drop-take f (n - f) us) ∙ ap (λ k. drop f (take k us)) (omega (arith, le)))

-- and its end
pub cut_off : (live f n : ℕ) (xs us : List Update) → live ≡ length xs → f ≤ n
    → drop (live + (n - f)) (xs ++ drop f us) ≡ drop n us
cut_off live f n xs us e le =
    ap (λ k. drop (k + (n - f)) (xs ++ drop f us)) e ∙ drop-append-add xs (drop f us) (n - f)
    ∙ drop-drop (n - f) f us ∙ ap (λ k. drop k us) (omega (arith, le))

pub behind_all : (live f : ℕ) (xs us : List Update) → live ≡ length xs → drop live (xs ++ drop f us) ≡ drop f us
behind_all live f xs us e = ap (λ k. drop k (xs ++ drop f us)) e ∙ drop-append_seam xs (drop f us)

-- what follows a beginning offers HTLCs that are new
pub follows : (m n : ℕ) (us q : List Update) → m ≤ n → AreNumbered 0 us
    → ((id : ℕ) → next_id (take m us) ≤ id → outcome id q ≡ Live) → AreLiveIn (drop m (take n us)) q
follows m n us q le ids new =
    live_in (next_id (take m us)) (drop m (take n us)) q
    (subst (λ k. AreNumbered k (drop m (take n us))) (omega (arith, ap next_id (take-take m n us le)))
    (numbered-drop 0 m (take n us) (numbered-take 0 n us ids))) new

-- and so does all the rest
pub goes_on : (m : ℕ) (us q : List Update) → AreNumbered 0 us
    → ((id : ℕ) → next_id (take m us) ≤ id → outcome id q ≡ Live) → AreLiveIn (drop m us) q
goes_on m us q ids new = live_in (next_id (take m us)) (drop m us) q
    (subst (λ k. AreNumbered k (drop m us)) (omega arith) (numbered-drop 0 m us ids)) new

-- ---- an HTLC that a side may remove

no_either_way : (b : Bool) → cond {A = Option Add} b None None ≡ None
no_either_way true = refl
no_either_way false = refl

removable_one : (o ow : Outcome) (x y : Option Add) → (is_live o ≡ false → y ≡ None)
    → cond (is_live ow) (or_else (cond (is_live o) x None) y) None
    ≡ cond (is_live (cond (is_live o) ow o)) (or_else x y) None
removable_one Live ow x y h = refl
removable_one Fulfilled ow x y h = ap (λ z. cond (is_live ow) z None) (h refl) ∙ no_either_way (is_live ow)
removable_one Failed ow x y h = ap (λ z. cond (is_live ow) z None) (h refl) ∙ no_either_way (is_live ow)

pub not_live : (o : Outcome) → is_live o ≡ false → o ≡ Live → ⊥
not_live o e f = let is : false ≡ true = sym e ∙ ap is_live f in cc

-- what a base removes isn't offered after it
pub gone_before : (id : ℕ) (p q v : List Update) → AreNumbered (next_id q) v
    → ((i : ℕ) → next_id q ≤ i → outcome i p ≡ Live) → is_live (outcome id p) ≡ false → add_with id v ≡ None
gone_before id p q v ids new e = elim (leb_tells (next_id q) id) [
  | inl g ↦ absurd (not_live (outcome id p) e (new id g.1))
  | inr g ↦ below (next_id q) id v ids g.1
]

-- found by what is kept, as by whole lists
pub removable_behind : (id : ℕ) (p w q v : List Update) → AreNumbered (next_id q) v
    → ((i : ℕ) → next_id q ≤ i → outcome i p ≡ Live)
    → removable id (live_htlcs p q ++ w) (live_htlcs q p ++ v) ≡ removable id (p ++ w) (q ++ v)
removable_behind id p w q v ids new =
    ap (λ o. cond (is_live o) (add_with id (live_htlcs q p ++ v)) None) (outcome_kept id p q w)
    ∙ ap (λ x. cond (is_live (outcome id w)) x None)
    (add_with-append id (live_htlcs q p) v ∙ ap (λ x. or_else x (add_with id v)) (found id q p))
    ∙ removable_one (outcome id p) (outcome id w) (add_with id q) (add_with id v) (gone_before id p q v ids new)
    ∙ ap (λ o. cond (is_live o) (or_else (add_with id q) (add_with id v)) None) (sym (outcome-append id p w))
    ∙ ap (λ x. cond (is_live (outcome id (p ++ w))) x None) (sym (add_with-append id q v))

-- and so is what is wrong with a further update
pub fault_behind : (lim : Limits) (s : Standing) (side : Role) (p w q v : List Update) (u : Update)
    → AreNumbered (next_id q) v → ((i : ℕ) → next_id q ≤ i → outcome i p ≡ Live)
    → fault_at lim s side (live_htlcs p q ++ w) (live_htlcs q p ++ v) u ≡ fault_at lim s side (p ++ w) (q ++ v) u
fault_behind lim s side p w q v (update.Add a) ids new = refl
fault_behind lim s side p w q v (update.Fulfil f) ids new =
    ap (fulfil_fault f.preimage) (removable_behind f.id p w q v ids new)
fault_behind lim s side p w q v (update.Fail f) ids new = ap fail_fault (removable_behind f.id p w q v ids new)
fault_behind lim s side p w q v (update.Malformed m) ids new =
    ap (malformed_fault m.failure_code) (removable_behind m.id p w q v ids new)
fault_behind lim s side p w q v (update.Fee f) ids new = refl

-- ---- HTLCs that a base doesn't remove

live_first : (o n : Outcome) → cond (is_live o) n o ≡ Live → o ≡ Live
live_first Live n e = refl
live_first Fulfilled n e = e
live_first Failed n e = e

-- what is live after more is live before
pub live_before : (id : ℕ) (q m : List Update) → outcome id (q ++ m) ≡ Live → outcome id q ≡ Live
live_before id q m e = live_first (outcome id q) (outcome id m) (sym (outcome-append id q m) ∙ e)

pub one_not_gone : (adds before q m : List Update) (r : Option Removal) → before ≡ q ++ m → RemovesLive adds before r
    → IsNotGone q r
one_not_gone adds before q m None e h = tt
one_not_gone adds before q m (Some r) e h = live_before r.id q m (ap (outcome r.id) (sym e) ∙ h.1)

pub not_gone : (adds before q m us : List Update) → before ≡ q ++ m → AreRemovals adds before us → AreNotGone q us
not_gone adds before q m [] e h = tt
not_gone adds before q m (u ∷ us) e h = (
  one_not_gone adds before q m (removed u) e h.0,
  not_gone adds (before ++ u ∷ []) q (m ++ u ∷ []) us (ap (λ x. x ++ u ∷ []) e ∙ append_assoc q m (u ∷ [])) h.1,
)

-- is found by what is kept, as by whole lists
pub add_behind : (id : ℕ) (p w q : List Update) → outcome id q ≡ Live
    → add_with id (live_htlcs p q ++ w) ≡ add_with id (p ++ w)
add_behind id p w q e = add_with-append id (live_htlcs p q) w
    ∙ ap (λ x. or_else x (add_with id w)) (found id p q ∙ ap (λ o. cond (is_live o) (add_with id p) None) e)
    ∙ sym (add_with-append id p w)

-- ---- standings

removal_same : (s : Standing) (p w q : List Update) (r : Option Removal) → IsNotGone q r
    → with_removal s (live_htlcs p q ++ w) r ≡ with_removal s (p ++ w) r
removal_same s p w q None h = refl
removal_same s p w q (Some r) h = ap (without s r.outcome) (add_behind r.id p w q h)

removal_fits : (s : Standing) (p w q : List Update) (r : Option Removal) → IsNotGone q r
    → RemovalFits s (p ++ w) r → RemovalFits s (live_htlcs p q ++ w) r
removal_fits s p w q None h f = tt
removal_fits s p w q (Some r) h f = subst (FoundFits s r.outcome) (sym (add_behind r.id p w q h)) f

-- moved by what the other side removes
pub all_same : (s : Standing) (p w q us : List Update) → AreNotGone q us
    → with_all s (live_htlcs p q ++ w) us ≡ with_all s (p ++ w) us
all_same s p w q [] h = refl
all_same s p w q (u ∷ us) h =
    ap (λ x. with_all x (live_htlcs p q ++ w) us) (removal_same s p w q (removed u) h.0)
    ∙ all_same (with_peer s (p ++ w) u) p w q us h.1

pub all_fit : (s : Standing) (p w q us : List Update) → AreNotGone q us → AllFit s (p ++ w) us
    → AllFit s (live_htlcs p q ++ w) us
all_fit s p w q [] h f = tt
all_fit s p w q (u ∷ us) h f = (
  removal_fits s p w q (removed u) h.0 f.0,
  subst (λ x. AllFit x (live_htlcs p q ++ w) us) (sym (removal_same s p w q (removed u) h.0))
      (all_fit (with_peer s (p ++ w) u) p w q us h.1 f.1),
)

-- moved by an own update
pub own_same : (s : Standing) (p w q : List Update) (u : Update) → IsNotGone q (removed u)
    → with_own s (live_htlcs p q ++ w) u ≡ with_own s (p ++ w) u
own_same s p w q (update.Add a) h = refl
own_same s p w q (update.Fulfil f) h = ap (paid_by s) (add_behind f.id p w q h)
own_same s p w q (update.Fail f) h = refl
own_same s p w q (update.Malformed m) h = refl
own_same s p w q (update.Fee f) h = refl

pub own_fit : (s : Standing) (p w q : List Update) (u : Update) → IsNotGone q (removed u) → OwnFits s (p ++ w) u
    → OwnFits s (live_htlcs p q ++ w) u
own_fit s p w q (update.Add a) h f = f
own_fit s p w q (update.Fulfil x) h f = subst (PaidFits s) (sym (add_behind x.id p w q h)) f
own_fit s p w q (update.Fail x) h f = tt
own_fit s p w q (update.Malformed x) h f = tt
own_fit s p w q (update.Fee x) h f = tt
