-- The dispatcher of an end, where it stands.
use Rattle.std.proofs.Common.{◌≡◌, ℕ, suc, ◌+◌, ◌≤◌, List, [], ◌∷◌, length, get_or, set, refl, sym, ap, ◌∙◌, arith}
use Rattle.std.proofs.Common.{Bool, true, false, cond, not, nat_lt, Some, None, position, ltb-false}
use Rattle.std.specs.List.{position_or_len}
use Rattle.ln_world_channels.specs.declared.step.End.{End}
use Rattle.ln_world_channels.proofs.Places.{at_first, lacks}
use Rattle.ln_world_dispatch.specs.Dispatcher.{Dispatcher, is_at, dispatcher_at, at_dispatcher}

-- ---- where none passes

no_room : (t : Bool) (i k : ℕ) → suc k ≤ cond (not t) (1 + i) 0 → (t ≡ false) × (k ≤ i)
no_room true i k h = absurd (omega (arith, h))
no_room false i k h = (refl, omega (arith, h))

past_all : {X : Type 0} (p : X → Bool) (P : List X → Type 0) → P []
    → ((x : X) (xs : List X) → p x ≡ false → P xs → P (x ∷ xs))
    → (xs : List X) → length xs ≤ position_or_len p xs → P xs
past_all p P nil more [] h = nil
past_all p P nil more (x ∷ xs) h =
    let g = no_room (p x) (position_or_len p xs) (length xs) h in more x xs g.0 (past_all p P nil more xs g.1)

pub nowhere : {X : Type 0} (p : X → Bool) (P : List X → Type 0) → P []
    → ((x : X) (xs : List X) → p x ≡ false → P xs → P (x ∷ xs))
    → (xs : List X) → position p xs ≡ None → P xs
nowhere p P nil more xs e =
    let i = position_or_len p xs in
    past_all p P nil more xs (ltb-false i (length xs) (lacks (nat_lt i (length xs)) i e))

-- ---- the dispatcher

pub dispatcher_none : (e : End) (ds : List Dispatcher) → position (is_at e) ds ≡ None → dispatcher_at e ds ≡ None
dispatcher_none e ds is =
    nowhere (is_at e) (λ l. dispatcher_at e l ≡ None) refl
    (λ d l h same. ap (λ t. cond t (Some d) (dispatcher_at e l)) h ∙ same) ds is

pub dispatcher_found : (e : End) (ds : List Dispatcher) (i : ℕ) (d : Dispatcher) → Some i ≡ position (is_at e) ds
    → dispatcher_at e ds ≡ Some (get_or ds i d)
dispatcher_found e ds i d is =
    at_first (is_at e) (λ l k. dispatcher_at e l ≡ Some (get_or l k d))
    (λ x l h. ap (λ t. cond t (Some x) (dispatcher_at e l)) h)
    (λ x l k h same. ap (λ t. cond t (Some x) (dispatcher_at e l)) h ∙ same) ds i d is

pub moves_none : (e : End) (f : Dispatcher → Dispatcher) (ds : List Dispatcher) → position (is_at e) ds ≡ None
    → ds ≡ at_dispatcher e f ds
moves_none e f ds is =
    nowhere (is_at e) (λ l. l ≡ at_dispatcher e f l) refl
    (λ d l h same. ap (λ t. d ∷ t) same ∙ sym (ap (λ t. cond t (f d ∷ l) (d ∷ at_dispatcher e f l)) h)) ds is

pub moves_found : (e : End) (f : Dispatcher → Dispatcher) (ds : List Dispatcher) (i : ℕ) (d x : Dispatcher)
    → Some i ≡ position (is_at e) ds → x ≡ f (get_or ds i d) → set ds i x ≡ at_dispatcher e f ds
moves_found e f ds i d x is same =
    ap (λ y. set ds i y) same
    ∙ at_first (is_at e) (λ l k. set l k (f (get_or l k d)) ≡ at_dispatcher e f l)
    (λ y l h. sym (ap (λ t. cond t (f y ∷ l) (y ∷ at_dispatcher e f l)) h))
    (λ y l k h rest. ap (λ t. y ∷ t) rest ∙ sym (ap (λ t. cond t (f y ∷ l) (y ∷ at_dispatcher e f l)) h)) ds i d is
