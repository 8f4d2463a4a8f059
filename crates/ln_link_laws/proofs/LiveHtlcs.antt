-- The live HTLCs that a record has of a side are the same in any order: sums over them, and which of them is there.
use Rattle.std.proofs.Common.{◌≡◌, ◌∙◌, ◌+◌, ℕ, List, [], ◌∷◌, ◌++◌, refl, sym, ap, arith}
use Rattle.std.proofs.Common.{Bool, true, false, nat_le, ◌==◌, ◌&&◌, ◌||◌, if◌then◌else◌, Option, Some, None}
use Rattle.std.proofs.Math.Bool.{or-false}
use Rattle.std.proofs.lemmas.Bool.{le-leb}
use Rattle.std.proofs.lemmas.List.Sums.{sum_by-append, sum_by-cons, sum_by-insert}
use Rattle.std.specs.List.{list_any, sum_by, insert}
use Rattle.ln_keys.specs.declared.role.Role.{Role}
use Rattle.ln_keys.specs.declared.role.Role.TheVariants.{Funder, Fundee}
use Rattle.ln_log.specs.declared.update.Add.{Add}
use Rattle.ln_log.specs.declared.update.Update.{Update}
use Rattle.ln_log.specs.declared.update.Update.TheVariants as update
use Rattle.ln_log.specs.declared.outcome.Outcome.{Outcome}
use Rattle.ln_log.specs.Updates.{offered, add_with, found_or, is_some, share, total}
use Rattle.ln_log.specs.RecordForm.{as_offered}
use Rattle.ln_store.specs.declared.record.LiveHtlc.{LiveHtlc}
use Rattle.ln_store.specs.Removals.{are_one_side, is_htlc, is_there}
use Rattle.ln_store.specs.Views.{live_htlcs_of}
use Rattle.ln_link.specs.Loading.{place_in, live_htlcs_from, live_htlcs_in}

-- ---- sums

-- each sum over these is that over those
abbrev pub AreSame : List Update → List Update → Type 0
AreSame us vs = (f : Update → ℕ) → sum_by f us ≡ sum_by f vs

offered_sum : (f : Update → ℕ) (adds : List Add) → sum_by f (as_offered adds) ≡ sum_by (λ a. f (update.Add a)) adds
offered_sum f [] = refl
offered_sum f (a ∷ adds) =
    sum_by-cons f (update.Add a) (as_offered adds) ∙ ap (λ n. f (update.Add a) + n) (offered_sum f adds)
    ∙ sym (sum_by-cons (λ a. f (update.Add a)) a adds)

-- one more, wherever it is put
one_more : (f : Update → ℕ) (adds : List Add) (n : ℕ) (a : Add)
    → sum_by f (as_offered (insert adds n a)) ≡ sum_by f (as_offered adds) + f (update.Add a)
one_more f adds n a =
    offered_sum f (insert adds n a) ∙ sum_by-insert (λ a. f (update.Add a)) adds n a
    ∙ ap (λ m. m + f (update.Add a)) (sym (offered_sum f adds))

one_sum : (f : Update → ℕ) (side : Role) (one : Bool) (acc : List Add) (n : ℕ) (a : Add) (hs : List LiveHtlc)
    → ((adds : List Add) → sum_by f (as_offered (live_htlcs_from side adds hs))
    ≡ sum_by f (as_offered adds) + sum_by f (live_htlcs_of side hs))
    → sum_by f (as_offered (live_htlcs_from side (if one then insert acc n a else acc) hs))
    ≡ sum_by f (as_offered acc) + sum_by f (if one then update.Add a ∷ live_htlcs_of side hs else live_htlcs_of side hs)
one_sum f side true acc n a hs rest =
    let p = rest (insert acc n a) in
    let q = one_more f acc n a in
    let r = sum_by-cons f (update.Add a) (live_htlcs_of side hs) in
    omega (arith, p, q, r)
one_sum f side false acc n a hs rest = rest acc

live_htlcs_sum : (f : Update → ℕ) (side : Role) (acc : List Add) (live : List LiveHtlc)
    → sum_by f (as_offered (live_htlcs_from side acc live))
    ≡ sum_by f (as_offered acc) + sum_by f (live_htlcs_of side live)
live_htlcs_sum f side acc [] = omega arith
live_htlcs_sum f side acc (h ∷ hs) =
    one_sum f side (are_one_side side h.offerer) acc (place_in h.add.id acc) h.add hs
    (λ adds. live_htlcs_sum f side adds hs)

pub same_live_htlcs : (side : Role) (live : List LiveHtlc)
    → AreSame (as_offered (live_htlcs_in side live)) (live_htlcs_of side live)
same_live_htlcs side live f = live_htlcs_sum f side [] live ∙ omega arith

-- and so with any updates after them
behind_same : (us vs ws : List Update) → AreSame us vs → AreSame (us ++ ws) (vs ++ ws)
behind_same us vs ws h f =
    sum_by-append f us ws ∙ ap (λ n. n + sum_by f ws) (h f) ∙ sym (sum_by-append f vs ws)

pub same_total : (test : Outcome → Bool) (us vs ws removals : List Update) → AreSame us vs
    → total test (us ++ ws) removals ≡ total test (vs ++ ws) removals
same_total test us vs ws removals h = behind_same us vs ws h (share test removals)

pub none_left : (us : List Update) → sum_by (λ u. 1) us ≡ 0 → us ≡ []
none_left [] e = refl
none_left (u ∷ us) e = absurd (omega (arith, sum_by-cons (λ (u : Update). 1) u us, e))

-- ---- which of them is there

one_if : Bool → ℕ
one_if true = 1
one_if false = 0

-- 1 for an HTLC of this id
abbrev named : ℕ → Option Add → ℕ
named id None = 0
named id (Some a) = one_if (a.id == id)

named_one : (same : Bool) (a : Add) (rest : Option Add) (n : ℕ) → is_some rest ≡ nat_le 1 n
    → is_some (if same then Some a else rest) ≡ nat_le 1 (one_if same + n)
unfolding one_if
named_one true a rest n e = sym (le-leb 1 (1 + n) (omega arith))
named_one false a rest n e = e ∙ ap (nat_le 1) (omega arith)

found_one : (id : ℕ) (a rest : Option Add) (n : ℕ) → is_some rest ≡ nat_le 1 n
    → is_some (found_or id a rest) ≡ nat_le 1 (named id a + n)
found_one id None rest n e = e ∙ ap (nat_le 1) (omega arith)
found_one id (Some a) rest n e = named_one (a.id == id) a rest n e

-- an HTLC of this id is found where there is one at least
found_so : (id : ℕ) (us : List Update) → is_some (add_with id us) ≡ nat_le 1 (sum_by (λ u. named id (offered u)) us)
found_so id [] = refl
found_so id (u ∷ us) =
    found_one id (offered u) (add_with id us) (sum_by (λ u. named id (offered u)) us) (found_so id us)
    ∙ ap (nat_le 1) (sym (sum_by-cons (λ u. named id (offered u)) u us))

same_found : (id : ℕ) (us vs : List Update) → AreSame us vs → is_some (add_with id us) ≡ is_some (add_with id vs)
same_found id us vs h =
    found_so id us ∙ ap (nat_le 1) (h (λ u. named id (offered u))) ∙ sym (found_so id vs)

named_so : (same : Bool) (a : Add) (r : Option Add) (w any : Bool) → ((w || any) ≡ true → is_some r ≡ true)
    → (w || (same || any)) ≡ true → is_some (if same then Some a else r) ≡ true
named_so true a r w any f h = refl
named_so false a r w any f h = f h

one_so : (one : Bool) (a : Add) (rest window : List Update) (id : ℕ) (any : Bool)
    → ((is_some (add_with id window) || any) ≡ true → is_some (add_with id (rest ++ window)) ≡ true)
    → (is_some (add_with id window) || ((one && (a.id == id)) || any)) ≡ true
    → is_some (add_with id ((if one then update.Add a ∷ rest else rest) ++ window)) ≡ true
one_so true a rest window id any f h =
    named_so (a.id == id) a (add_with id (rest ++ window)) (is_some (add_with id window)) any f h
one_so false a rest window id any f h = f h

-- what is there the live HTLCs or the window offer
there_so : (side : Role) (live : List LiveHtlc) (window : List Update) (id : ℕ)
    → is_there side live window id ≡ true → is_some (add_with id (live_htlcs_of side live ++ window)) ≡ true
there_so side [] window id h = sym (or-false (is_some (add_with id window))) ∙ h
there_so side (l ∷ ls) window id h =
    one_so (are_one_side side l.offerer) l.add (live_htlcs_of side ls) window id (list_any (is_htlc side id) ls)
    (there_so side ls window id) h

-- also as they are put by their ids
pub is_offered : (side : Role) (live : List LiveHtlc) (window : List Update) (id : ℕ)
    → is_there side live window id ≡ true
    → is_some (add_with id (as_offered (live_htlcs_in side live) ++ window)) ≡ true
is_offered side live window id h =
    same_found id (as_offered (live_htlcs_in side live) ++ window) (live_htlcs_of side live ++ window)
    (behind_same (as_offered (live_htlcs_in side live)) (live_htlcs_of side live) window (same_live_htlcs side live))
    ∙ there_so side live window id h

-- ---- none of them

one_is_left : (x : Role) (a : Add) (us vs : List Update)
    → (if are_one_side Funder x then update.Add a ∷ us else us) ≡ []
    → (if are_one_side Fundee x then update.Add a ∷ vs else vs) ≡ [] → ⊥
one_is_left Funder a us vs e f = absurd (cc)
one_is_left Fundee a us vs e f = absurd (cc)

no_live_htlcs : (live : List LiveHtlc) → live_htlcs_of Funder live ≡ [] → live_htlcs_of Fundee live ≡ [] → live ≡ []
no_live_htlcs [] e f = refl
no_live_htlcs (h ∷ hs) e f = absurd (one_is_left h.offerer h.add (live_htlcs_of Funder hs)
    (live_htlcs_of Fundee hs) e f)

none_of : (side : Role) (live : List LiveHtlc) → live_htlcs_in side live ≡ [] → live_htlcs_of side live ≡ []
none_of side live e = none_left (live_htlcs_of side live)
    (sym (same_live_htlcs side live (λ u. 1)) ∙ ap (λ adds. sum_by (λ (u : Update). 1) (as_offered adds)) e)

-- where neither side has one there is none
pub none_live : (live : List LiveHtlc) → live_htlcs_in Funder live ≡ [] → live_htlcs_in Fundee live ≡ [] → live ≡ []
none_live live e f = no_live_htlcs live (none_of Funder live e) (none_of Fundee live f)
