-- What a book reads off the end by which an HTLC came in.
use Rattle.std.proofs.Common.{◌≡◌, inl, inr, ℕ, suc, ◌≤◌, ◌<◌, List, [], ◌∷◌, ◌++◌, take, drop, map}
use Rattle.std.proofs.Common.{filter, refl, sym, ap, ◌∙◌, subst, arith, Bool, true, false, cond, not, ◌==◌, ◌&&◌, ◌||◌}
use Rattle.std.proofs.Common.{nat_lt}
use Rattle.std.proofs.Common.{Option, Some, None}
use Rattle.std.specs.List.{cons_option, find}
use Rattle.std.proofs.lemmas.Bool.{eqb-true, eq-eqb, ltb-true}
use Rattle.std.proofs.lemmas.Bool.Decides.{eqb_tells}
use Rattle.std.proofs.lemmas.List.{take-append-drop, take_rest}
use Rattle.std.proofs.Math.Bool.{and-false, and-true, or-false}
use Rattle.ln_log.specs.declared.log.Side.TheVariants as side
use Rattle.ln_log.specs.declared.mark.Decision.{Decision}
use Rattle.ln_log.specs.declared.outcome.Outcome.{Outcome}
use Rattle.ln_log.specs.declared.outcome.Outcome.TheVariants.{Live, Fulfilled, Failed}
use Rattle.ln_log.specs.declared.update.Add.{Add}
use Rattle.ln_log.specs.declared.update.Update.{Update}
use Rattle.ln_log.specs.Updates.{offered, is_some, next_id, add_with, found_or, outcome, is_live}
use Rattle.ln_log.specs.Window.{first_live_htlcs, first_balances}
use Rattle.ln_log.specs.Log.{Log, AreNumbered, between}
use Rattle.ln_log.proofs.Removing.{outcome-append, numbered-take}
use Rattle.ln_log.proofs.Behind.{found, offered_below}
use Rattle.ln_book_tables.specs.declared.htlc.Htlc.{Htlc}
use Rattle.ln_book_tables.specs.Replay.{same, is_htlc}
use Rattle.ln_book.specs.Kept.{own_window, has_own_removal}
use Rattle.ln_book.specs.Kept as kept
use Rattle.ln_book.specs.Rebuild.{key_at, peer_updates, holds_removal, incoming_by, incoming_in, htlc_by}
use Rattle.ln_book.specs.Rebuild.{decided_by, decided_in}
use Rattle.ln_payment.specs.Rebuild.{incoming_leg_of}
use Rattle.ln_payment_circuits.specs.Snapshot.{is_gone, All}
use Rattle.ln_payment_circuits.proofs.Updates.{front_live}
use Rattle.ln_payment_circuits.proofs.Parts.{removal_of, removal_by, stage_by}
use Rattle.ln_payment_circuits.proofs.Removals.{split_front}
use Rattle.ln_payment_circuits.proofs.Rising.{IsRising}
use Rattle.ln_payment_circuits.proofs.Entries.{is_same, incoming_as}

-- ---- the removal

-- where none is in the base
module _ (l : Log) (id : ℕ) (live : outcome id (take l.first.own l.own) ≡ Live) (ids : AreNumbered 0 l.received)
    (first : l.first.own ≤ l.current.own) where
  window_so : (n : ℕ) → l.first.own ≤ n
      → outcome id (take n l.own) ≡ outcome id (between l.first.own n l.own)
  window_so n le =
      ap (outcome id) (split_front l.first.own n l.own le)
      ∙ outcome-append id (take l.first.own l.own) (between l.first.own n l.own)
      ∙ ap (λ o. cond (is_live o) (outcome id (between l.first.own n l.own)) o) live

  own_so : outcome id l.own ≡ outcome id (own_window l)
  own_so =
      ap (outcome id) (sym (take-append-drop l.first.own l.own))
      ∙ outcome-append id (take l.first.own l.own) (drop l.first.own l.own)
      ∙ ap (λ o. cond (is_live o) (outcome id (drop l.first.own l.own)) o) live
      ∙ ap (outcome id) (sym (take_rest l.own l.first.own))

  pub holds_so : holds_removal id l ≡ is_gone id (take l.current.own l.own)
  holds_so = ap (λ o. not (is_live o)) (sym (window_so l.current.own first))

  -- what was offered in the base is live there
  not_gone : kept.is_gone id l ≡ false
  not_gone = cases (nat_lt id (first_balances l).next_peer) refl
    where
      cases : (b : Bool) → nat_lt id (first_balances l).next_peer ≡ b
          → (nat_lt id (first_balances l).next_peer && not (is_some (add_with id
          (first_live_htlcs side.Peer l)))) ≡ false
      cases false e = ap (λ b. b && not (is_some (add_with id (first_live_htlcs side.Peer l)))) e
      cases true e =
          let below : id < next_id (take l.first.peer l.received) = ltb-true id (first_balances l).next_peer e in
          let there : is_some (add_with id (take l.first.peer l.received)) ≡ true =
          (offered_below id (take l.first.peer l.received) (numbered-take 0 l.first.peer l.received ids)).1 below in
          let seen : is_some (add_with id (first_live_htlcs side.Peer l)) ≡ true =
          ap is_some (found id (take l.first.peer l.received) (take l.first.own l.own)
          ∙ ap (λ o. cond (is_live o) (add_with id (take l.first.peer l.received)) None) live) ∙ there in
          ap (λ b. nat_lt id (first_balances l).next_peer && not b) seen
          ∙ and-false (nat_lt id (first_balances l).next_peer)

  pub has_so : has_own_removal id l ≡ is_gone id l.own
  has_so =
      ap (λ b. not (is_live (outcome id (own_window l))) || b) not_gone
      ∙ or-false (not (is_live (outcome id (own_window l)))) ∙ ap (λ o. not (is_live o)) (sym own_so)

  back_so : (o : Outcome) (held signed : Bool) → (o ≡ Live → held ≡ false)
      → incoming_as (incoming_by held (not (is_live o))) ≡ incoming_leg_of (removal_by o (stage_by held signed))
  back_so Live held signed h = ap (λ b. incoming_as (incoming_by b false)) (h refl)
  back_so Fulfilled true signed h = refl
  back_so Fulfilled false true h = refl
  back_so Fulfilled false false h = refl
  back_so Failed true signed h = refl
  back_so Failed false true h = refl
  back_so Failed false false h = refl

  pub back_is : incoming_as (incoming_in id l) ≡ incoming_leg_of (removal_of id l)
  back_is =
      ap (λ b. incoming_as (incoming_by b (has_own_removal id l))) holds_so
      ∙ ap (λ b. incoming_as (incoming_by (is_gone id (take l.current.own l.own)) b)) has_so
      ∙ back_so (outcome id l.own) (is_gone id (take l.current.own l.own)) (is_gone id (take l.signed.own l.own))
      (λ e. ap (λ o. not (is_live o)) (front_live id l.current.own l.own e))

-- ---- the decision

pub add_id : (i : ℕ) (us : List Update) (a : Add) → add_with i us ≡ Some a → a.id ≡ i
add_id i [] a e = absurd (cc)
add_id i (u ∷ us) a e = cases (offered u) e (λ r. add_id i us a r)
  where
    cases : (o : Option Add) → found_or i o (add_with i us) ≡ Some a → (add_with i us ≡ Some a → a.id ≡ i) → a.id ≡ i
    cases None f rest = rest f
    cases (Some b) f rest = either (b.id == i) refl f
      where
        either : (t : Bool) → (b.id == i) ≡ t → cond t (Some b) (add_with i us) ≡ Some a → a.id ≡ i
        either true is g = let same : b ≡ a = cc in ap (λ (z : Add). z.id) (sym same) ∙ eqb-true b.id i is
        either false is g = rest g

-- of the decisions of one end, those of this HTLC
pub of_id : (ch : List ℕ) (l : Log) (id : ℕ) (ds : List Decision)
    → filter (is_htlc (key_at ch id)) (decided_in ch l ds) ≡ decided_in ch l (filter (λ d. d.id == id) ds)
of_id ch l id [] = refl
of_id ch l id (d ∷ ds) = cases (add_with d.id (peer_updates l)) refl (d.id == id) refl (of_id ch l id ds)
  where
    q : Htlc → Bool
    q = is_htlc (key_at ch id)

    key_so : (a : Add) → add_with d.id (peer_updates l) ≡ Some a → (t : Bool) → (d.id == id) ≡ t
        → q (htlc_by ch d.mark (incoming_in d.id l) a) ≡ t
    key_so a is t e =
        let same_id = add_id d.id (peer_updates l) a is in
        ap (λ n. (id == n) && same ch ch) same_id
        ∙ ap (λ b. (id == d.id) && b) (is_same ch ch refl) ∙ and-true (id == d.id) ∙ turned d.id id ∙ e
      where
        turned : (m n : ℕ) → (n == m) ≡ (m == n)
        turned m n = elim (eqb_tells n m) [
          | inl g ↦ g.0 ∙ sym (eq-eqb m n (sym g.1))
          | inr g ↦ g.0 ∙ sym (other m n (λ e. g.1 (sym e)))
        ]
          where
            other : (m n : ℕ) → (m ≡ n → ⊥) → (m == n) ≡ false
            other m n f = elim (eqb_tells m n) [
              | inl k ↦ absurd (f k.1)
              | inr k ↦ k.0
            ]

    cases : (o : Option Add) → add_with d.id (peer_updates l) ≡ o → (t : Bool) → (d.id == id) ≡ t
        → filter q (decided_in ch l ds) ≡ decided_in ch l (filter (λ d. d.id == id) ds)
        → filter q (cons_option (decided_by ch d.mark (incoming_in d.id l) o) (decided_in ch l ds))
        ≡ decided_in ch l (cond t (d ∷ filter (λ d. d.id == id) ds) (filter (λ d. d.id == id) ds))
    cases None is true e rest = rest ∙ sym (ap (λ o. cons_option (decided_by ch d.mark (incoming_in d.id l) o)
        (decided_in ch l (filter (λ d. d.id == id) ds))) is)
    cases None is false e rest = rest
    cases (Some a) is true e rest =
        ap (λ b. cond b (htlc_by ch d.mark (incoming_in d.id l) a ∷ filter q (decided_in ch l ds))
        (filter q (decided_in ch l ds)))
        (key_so a is true e)
        ∙ ap (λ xs. htlc_by ch d.mark (incoming_in d.id l) a ∷ xs) rest
        ∙ sym (ap (λ o. cons_option (decided_by ch d.mark (incoming_in d.id l) o)
        (decided_in ch l (filter (λ d. d.id == id) ds))) is)
    cases (Some a) is false e rest =
        ap (λ b. cond b (htlc_by ch d.mark (incoming_in d.id l) a ∷ filter q (decided_in ch l ds))
        (filter q (decided_in ch l ds)))
        (key_so a is false e) ∙ rest

-- those of another channel are of none of its HTLCs
pub of_none : (ch at : List ℕ) (l : Log) (id : ℕ) → same at ch ≡ false → (ds : List Decision)
    → filter (is_htlc (key_at at id)) (decided_in ch l ds) ≡ []
of_none ch at l id other [] = refl
of_none ch at l id other (d ∷ ds) = cases (add_with d.id (peer_updates l)) (of_none ch at l id other ds)
  where
    q : Htlc → Bool
    q = is_htlc (key_at at id)

    cases : (o : Option Add) → filter q (decided_in ch l ds) ≡ []
        → filter q (cons_option (decided_by ch d.mark (incoming_in d.id l) o) (decided_in ch l ds)) ≡ []
    cases None rest = rest
    cases (Some a) rest =
        ap (λ b. cond b (htlc_by ch d.mark (incoming_in d.id l) a ∷ filter q (decided_in ch l ds))
        (filter q (decided_in ch l ds)))
        (ap (λ b. (id == a.id) && b) other ∙ and-false (id == a.id)) ∙ rest

-- a decision's HTLC was offered
pub below_all : (lo : ℕ) (ds : List Decision) (ys : List ℕ) (hi : ℕ) (i : ℕ) (d : Decision)
    → IsRising lo (map (λ d. d.id) ds ++ ys) hi → find (λ d. d.id == i) ds ≡ Some d → d.id < hi
below_all lo [] ys hi i d h e = absurd (cc)
below_all lo (z ∷ ds) ys hi i d h e = cases (z.id == i) e (λ r. below_all (suc z.id) ds ys hi i d h.1 r)
  where
    last : (n : ℕ) (zs : List Decision) (ws : List ℕ) → IsRising n (map (λ d. d.id) zs ++ ws) hi → n ≤ hi
    last n [] [] k = k
    last n [] (w ∷ ws) k = let a = k.0 in let b = last (suc w) [] ws k.1 in omega (arith, a, b)
    last n (y ∷ zs) ws k = let a = k.0 in let b = last (suc y.id) zs ws k.1 in omega (arith, a, b)

    cases : (b : Bool) → cond b (Some z) (find (λ d. d.id == i) ds) ≡ Some d
        → (find (λ d. d.id == i) ds ≡ Some d → d.id < hi) → d.id < hi
    cases true f rest = let same : z ≡ d = cc in
        subst (λ (w : Decision). w.id < hi) same (let le = last (suc z.id) ds ys h.1 in omega (arith, le))
    cases false f rest = rest f

pub found_id : (i : ℕ) (ds : List Decision) (d : Decision) → find (λ d. d.id == i) ds ≡ Some d → d.id ≡ i
found_id i [] d e = absurd (cc)
found_id i (z ∷ ds) d e = cases (z.id == i) refl e (λ r. found_id i ds d r)
  where
    cases : (b : Bool) → (z.id == i) ≡ b → cond b (Some z) (find (λ d. d.id == i) ds) ≡ Some d
        → (find (λ d. d.id == i) ds ≡ Some d → d.id ≡ i) → d.id ≡ i
    cases true is f rest = let same : z ≡ d = cc in ap (λ (w : Decision). w.id) (sym same) ∙ eqb-true z.id i is
    cases false is f rest = rest f

pub none_of_id : (i : ℕ) (ds : List Decision) → find (λ d. d.id == i) ds ≡ None → filter (λ d. d.id == i) ds ≡ []
none_of_id i [] e = refl
none_of_id i (z ∷ ds) e = cases (z.id == i) e (λ r. none_of_id i ds r)
  where
    cases : (b : Bool) → cond b (Some z) (find (λ d. d.id == i) ds) ≡ None
        → (find (λ d. d.id == i) ds ≡ None → filter (λ d. d.id == i) ds ≡ [])
        → cond b (z ∷ filter (λ d. d.id == i) ds) (filter (λ d. d.id == i) ds) ≡ []
    cases true f rest = absurd (cc)
    cases false f rest = rest f

pub member_all : (P : Decision → Type 0) (i : ℕ) (ds : List Decision) (d : Decision) → All P ds
    → find (λ d. d.id == i) ds ≡ Some d → P d
member_all P i [] d h e = absurd (cc)
member_all P i (z ∷ ds) d h e = cases (z.id == i) e (λ r. member_all P i ds d h.1 r)
  where
    cases : (b : Bool) → cond b (Some z) (find (λ d. d.id == i) ds) ≡ Some d
        → (find (λ d. d.id == i) ds ≡ Some d → P d) → P d
    cases true f rest = let same : z ≡ d = cc in subst P same h.0
    cases false f rest = rest f
