-- What the shifts of an end make of what links have of an HTLC that came in, where the book has no part in it.
use Rattle.std.proofs.Common.{◌≡◌, ℕ, ◌≤◌, List, [], ◌∷◌, ◌++◌, take, refl, sym, ap, ◌∙◌, subst, arith}
use Rattle.std.proofs.Common.{Bool, true, false, cond, ◌==◌, Some, None}
use Rattle.ln_log.specs.declared.update.Update.{Update}
use Rattle.ln_log.specs.declared.update.Update.TheVariants as update
use Rattle.ln_log.specs.declared.mark.EventRef.TheVariants as ref
use Rattle.ln_log.specs.Updates.{removed, add_with, outcome}
use Rattle.ln_log.specs.Log.{Log, Counts, between}
use Rattle.ln_log.specs.Log as log
use Rattle.ln_log.specs.Window.{may_be_base}
use Rattle.ln_log.proofs.Removing.{outcome-none}
use Rattle.std.proofs.lemmas.Bool.{leb-true, and_parts}
use Rattle.std.proofs.Common.{nat_le}
use Rattle.ln_channel.specs.declared.command.Command.TheVariants as command
use Rattle.ln_channel.specs.Ledger.{Ledger, refs_of, entered, resulted, settlements, first_htlc, forgotten}
use Rattle.ln_channel.specs.Since.{own_since, peer_since}
use Rattle.ln_channel.specs.Base.{based, next_base, allowed}
use Rattle.ln_channel.specs.End.{End}
use Rattle.ln_payment.specs.Parts.{Payment}
use Rattle.ln_payment.specs.Moves.{Move, AreMade, after, moved}
use Rattle.std.specs.List.{find}
use Rattle.std.proofs.lemmas.List.{take-append-le}
use Rattle.ln_log.specs.Updates.{is_some}
use Rattle.ln_payment_circuits.specs.Snapshot.{is_gone, IsSoundLog, Incoming}
use Rattle.ln_payment_circuits.specs.Circuit.{Forwards}
use Rattle.ln_payment_circuits.specs.Shift.{Shift, Stays, Takes, Proposes, Signs, Accepts, Learns, Closes, Notes}
use Rattle.ln_payment_circuits.proofs.Updates.{not_gone}
use Rattle.ln_payment_circuits.proofs.Parts.{course_of, course_by, ended_by, removal_of, HasAdd, has_result}
use Rattle.ln_payment_circuits.proofs.Links.{decision_by, stays, Side, Links, IsOfLinks, HasMoves, Changed, signs}
use Rattle.ln_payment_circuits.proofs.Links.{accepts}
use Rattle.ln_payment_circuits.proofs.Links.{learns, proposes}
use Rattle.ln_payment_circuits.proofs.Ledgers.{nothing, bases}
use Rattle.ln_payment_circuits.proofs.Results.{some_new, none_new}
use Rattle.ln_payment_circuits.proofs.Tidy.{IsTidyLedger, tidy_takes, tidy_proposes, tidy_accepts, tidy_closes}
use Rattle.ln_payment_circuits.proofs.Tidy.{tidy_learns}
use Rattle.ln_payment_circuits.proofs.Tidy.{tidy_based, tidy_forgets, tidy_decides, decides_so, tidy_resumes}
use Rattle.ln_payment_circuits.proofs.Tidy.{resumes_so}
use Rattle.ln_payment_circuits.specs.Snapshot.{IsFit}
use Rattle.ln_payment_circuits.specs.Shift.{IsPlainUpdate, IsPlain}

abbrev pub side_of : End → Side
side_of e = record { log = e.dance.log; results = e.ledger.results; decisions = e.ledger.decisions }

abbrev pub IsTidy : End → Type 0
IsTidy e = IsTidyLedger e.dance.log e.ledger

-- ---- tidiness

tidy_alike : (f : End) (l : Log) (g : Ledger) → f.dance.log ≡ l → f.ledger ≡ g → IsTidyLedger l g → IsTidy f
tidy_alike f l g a b t = subst (λ m. IsTidyLedger m f.ledger) (sym a) (subst (IsTidyLedger l) (sym b) t)

pub tidy_shift : (e f : End) → IsFit e → IsTidy e → Shift e f → IsTidy f
tidy_shift e f h t (Stays l g) = tidy_alike f e.dance.log e.ledger l g t
tidy_shift e f h t (Takes u may l g) = tidy_alike f (log.after_receive u e.dance.log) e.ledger l g
    (tidy_takes e.dance.log e.ledger u h t)
tidy_shift e f h t (Proposes u may next l g) =
    tidy_alike f (log.after_propose u e.dance.log) e.ledger l g (tidy_proposes e.dance.log e.ledger u h t)
tidy_shift e f h t (Signs l g) = tidy_alike f (log.after_sign e.dance.log) e.ledger l g (record {
  ids = t.ids;
  open_still = t.open_still;
  marks = t.marks;
  true_results = t.true_results;
  once = t.once;
  waits = t.waits;
})
tidy_shift e f h t (Accepts l g) =
    let us = own_since e.dance.log.current.own (log.after_accept e.dance.log) in
    tidy_alike f (log.after_accept e.dance.log) (entered (refs_of true e.dance.log.current.own us) e.ledger) l g
    (tidy_accepts e.dance.log e.ledger e.dance.log.current.own us t)
tidy_shift e f h t (Learns l g) =
    let n = e.dance.log.acknowledged.peer in
    let us = peer_since n (log.after_learn e.dance.log) in
    tidy_alike f (log.after_learn e.dance.log) (resulted e.dance.log.own us (entered (refs_of false n us) e.ledger)) l g
    (tidy_learns e.dance.log e.ledger h t)
tidy_shift e f h t (Closes l g) =
    tidy_alike f e.dance.log (entered (ref.Close ∷ []) e.ledger) l g (tidy_closes e.dance.log e.ledger t)
tidy_shift e f h t (Notes (command.Decide event m) l g) =
    let d = decides_so event m (first_htlc e.dance.log e.ledger.undecided) e.ledger f.ledger g in
    tidy_alike f e.dance.log f.ledger l refl (tidy_decides e.dance.log e.ledger h t f.ledger event m d)
tidy_shift e f h t (Notes (command.Forget i) l g) =
    let is : forgotten i e.ledger ≡ f.ledger = cc in
    tidy_alike f e.dance.log (forgotten i e.ledger) l (sym is) (tidy_forgets e.dance.log e.ledger h t i)
tidy_shift e f h t (Notes (command.Resume event m) l g) =
    tidy_alike f e.dance.log f.ledger l refl (tidy_resumes e.dance.log e.ledger h t f.ledger event m
    (resumes_so event m e.ledger f.ledger g))
tidy_shift e f h t (Notes (command.Confirm i) l g) = absurd (cc)
tidy_shift e f h t (Notes (command.Add amount hash expiry onion origin) l g) = absurd (cc)
tidy_shift e f h t (Notes (command.Fulfil i preimage) l g) = absurd (cc)
tidy_shift e f h t (Notes (command.Fail i reason) l g) = absurd (cc)
tidy_shift e f h t (Notes (command.Malformed i sha code) l g) = absurd (cc)
tidy_shift e f h t (Notes (command.Fee feerate) l g) = absurd (cc)
tidy_shift e f h t (Notes command.Sign l g) = absurd (cc)
tidy_shift e f h t (Notes (command.Shutdown script) l g) = absurd (cc)

-- ---- the base

pub base_moves : (f : End) → f.dance.log.first.own ≤ f.dance.log.current.own
    → (f.dance.log.first.own ≤ (next_base f).own) × ((next_base f).own ≤ f.dance.log.current.own)
base_moves f le = cases (may_be_base f.dance.log (allowed f)) refl
  where
    cases : (b : Bool) → may_be_base f.dance.log (allowed f) ≡ b
        → (f.dance.log.first.own ≤ (cond b (allowed f) f.dance.log.first).own)
        × ((cond b (allowed f) f.dance.log.first).own ≤ f.dance.log.current.own)
    cases true e =
        let p = and_parts (nat_le f.dance.log.first.own (allowed f).own) _ e in
        let q = and_parts (nat_le (allowed f).own f.dance.log.current.own) _ p.1 in
        (leb-true f.dance.log.first.own (allowed f).own p.0, leb-true (allowed f).own f.dance.log.current.own q.0)
    cases false e = (omega arith, le)

pub tidy_based_end : (f : End) → f.dance.log.first.own ≤ f.dance.log.current.own → IsTidy f → IsTidy (based f)
tidy_based_end f le t = tidy_based f.dance.log f.ledger (next_base f) (base_moves f le).0 t

-- ---- an HTLC that came in

plain_removes : (u : Update) → IsPlainUpdate u → removed u ≡ None
plain_removes (update.Add a) p = refl
plain_removes (update.Fulfil f) p = absurd p
plain_removes (update.Fail f) p = absurd p
plain_removes (update.Malformed m) p = absurd p
plain_removes (update.Fee f) p = refl

forwards_none : (o : List ℕ × ℕ) (i : ℕ) (u : Update) → IsPlainUpdate u → Forwards o (add_with i (u ∷ [])) → ⊥
forwards_none o i (update.Add a) p h = cases (a.id == i) h
  where
    cases : (b : Bool) → Forwards o (cond b (Some a) None) → ⊥
    cases true k = let no : None ≡ Some o = sym p ∙ k in absurd (cc)
    cases false k = k
forwards_none o i (update.Fulfil f) p h = p
forwards_none o i (update.Fail f) p h = p
forwards_none o i (update.Malformed m) p h = p
forwards_none o i (update.Fee f) p h = h

pub after_both : (ms ns : List Move) (p : Payment) → after (ms ++ ns) p ≡ after ns (after ms p)
after_both [] ns p = refl
after_both (m ∷ ms) ns p = after_both ms ns (moved m p)

pub made_both : (ms ns : List Move) (p : Payment) → AreMade ms p → AreMade ns (after ms p) → AreMade (ms ++ ns) p
made_both [] ns p a b = b
made_both (m ∷ ms) ns p a b = (a.0, made_both ms ns (moved m p) a.1 b)

module _ (origin : Incoming → List ℕ × ℕ) (h : Incoming) where
  pub stay : (s t : Links) (p : Payment) → IsOfLinks origin h t p → HasMoves origin h t p
  stay s t p k = record { moves = []; made = tt; of_links = k; note = refl }

  takes : (c : ℕ) (x y : Side) (s t : Links) → Changed origin c x y s t → (u : Update)
      → y.log ≡ log.after_receive u x.log → y.results ≡ x.results → y.decisions ≡ x.decisions → IsSoundLog x.log
      → (p : Payment) → IsOfLinks origin h s p → IsOfLinks origin h t p
  takes c x y s t g u l r d sound p k =
      let a = sound.within.peer_acknowledged in
      let b = sound.within.peer_signed in
      let e = sound.within.peer_current in
      let m = x.log.acknowledged.peer in
      let front : take m (x.log.received ++ u ∷ []) ≡ take m x.log.received =
      take-append-le m x.log.received (u ∷ []) (omega (arith, a, b, e)) in
      stays origin h c x y s t g
      (ap (λ (n : Log). decision_by (find (λ e. e.id == h.id) y.decisions) (is_gone h.id (take n.first.own n.own))) l
      ∙ ap (λ ds. decision_by (find (λ e. e.id == h.id) ds) (is_gone h.id (take x.log.first.own x.log.own))) d)
      (ap (removal_of h.id) l)
      (λ i z. subst (λ (n : Log). HasAdd (origin h) i n) l z)
      (λ i z. subst (λ (n : Log). HasAdd (origin h) i n) (sym l) z)
      (λ i z. ap (λ (n : Log). course_of i n y.results) l ∙ ap (course_of i (log.after_receive u x.log)) r
      ∙ ap (λ us. course_by (is_some (add_with i (take x.log.signed.own x.log.own)))
      (ended_by (outcome i us) (has_result i x.results))) front) p k

  -- one after the other
  pub goes_then : (s t : Links) (p : Payment) (first : HasMoves origin h s p)
      → ((q : Payment) → IsOfLinks origin h s q → HasMoves origin h t q) → HasMoves origin h t p
  goes_then s t p first then =
      let q = after first.moves p in
      let next = then q first.of_links in
      record {
        moves = first.moves ++ next.moves;
        made = made_both first.moves next.moves p first.made next.made;
        of_links = subst (IsOfLinks origin h t) (sym (after_both first.moves next.moves p)) next.of_links;
        note = ap (λ (z : Payment). z.note) (after_both first.moves next.moves p) ∙ next.note ∙ first.note;
      }

  pub base_shift : (c : ℕ) (f : End) (s t : Links) → Changed origin c (side_of f) (side_of (based f)) s t
      → f.dance.log.first.own ≤ f.dance.log.current.own → (p : Payment) → IsOfLinks origin h s p → HasMoves origin h t p
  base_shift c f s t g le p k =
      let b = base_moves f le in
      bases origin h c (side_of f) (side_of (based f)) s t g (next_base f).own b.0 b.1
      (next_base f) refl refl refl refl p k

  pub plain_shift : (c : ℕ) (e f : End) (s t : Links) → Changed origin c (side_of e) (side_of f) s t → IsFit e
      → (x : Shift e f) → IsPlain x → (p : Payment) → IsOfLinks origin h s p → HasMoves origin h t p
  plain_shift c e f s t g fit (Stays l r) none p k =
      stay s t p (nothing origin h c (side_of e) (side_of f) s t g l (ap (λ (z : Ledger). z.results) r)
      (ap (λ (z : Ledger). z.decisions) r) p k)
  plain_shift c e f s t g fit (Takes u may l r) none p k =
      stay s t p (takes c (side_of e) (side_of f) s t g u l (ap (λ (z : Ledger). z.results) r)
      (ap (λ (z : Ledger). z.decisions) r) fit.sound p k)
  plain_shift c e f s t g fit (Proposes u may next l r) none p k =
      stay s t p (proposes origin h c (side_of e) (side_of f) s t g u l (ap (λ (z : Ledger). z.results) r)
      (ap (λ (z : Ledger). z.decisions) r) fit.sound (λ i. forwards_none (origin h) i u none)
      (λ is. outcome-none h.id e.dance.log.own u (plain_removes u none)) p k)
  plain_shift c e f s t g fit (Signs l r) none p k =
      signs origin h c (side_of e) (side_of f) s t g l (ap (λ (z : Ledger). z.results) r)
      (ap (λ (z : Ledger). z.decisions) r) fit.sound p k
  plain_shift c e f s t g fit (Accepts l r) none p k =
      accepts origin h c (side_of e) (side_of f) s t g l (ap (λ (z : Ledger). z.results) r)
      (ap (λ (z : Ledger). z.decisions) r) fit.sound p k
  plain_shift c e f s t g fit (Learns l r) none p k =
      let us = peer_since e.dance.log.acknowledged.peer (log.after_learn e.dance.log) in
      learns origin h c (side_of e) (side_of f) s t g (settlements e.dance.log.own us) l
      (ap (λ (z : Ledger). z.results) r)
      (ap (λ (z : Ledger). z.decisions) r) fit.sound
      (λ i a. (
        some_new (origin h) i e.dance.log.own us a,
        λ live. none_new i e.dance.log.own us (not_gone (outcome i us) live),
      )) p k
  plain_shift c e f s t g fit (Closes l r) none p k =
      stay s t p (nothing origin h c (side_of e) (side_of f) s t g l (ap (λ (z : Ledger). z.results) r)
      (ap (λ (z : Ledger). z.decisions) r) p k)
  plain_shift c e f s t g fit (Notes n l r) none p k = absurd none
