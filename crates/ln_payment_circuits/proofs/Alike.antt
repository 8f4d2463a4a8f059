-- Links of which a payment has the same parts: they are the same, or a channel has opened.
use Rattle.std.proofs.Common.{◌≡◌, inl, inr, ℕ, List, [], ◌∷◌, take, refl, sym, ap, ◌∙◌, subst, arith}
use Rattle.std.proofs.Common.{◌==◌, Option, Some, None}
use Rattle.std.specs.Prelude.{option_map}
use Rattle.std.specs.List.{find}
use Rattle.std.proofs.lemmas.Bool.{eqb-true}
use Rattle.std.proofs.Math.Seq.{take-nil}
use Rattle.ln_log.specs.Updates.{outcome, is_some, add_with}
use Rattle.ln_log.specs.Log.{Log}
use Rattle.ln_channel.specs.End.{End}
use Rattle.ln_channel.specs.Ledger.{Ledger}
use Rattle.ln_payment.specs.Parts.{Out, Payment, Undecided, NoRemoval, Uncovered}
use Rattle.ln_payment_circuits.specs.Snapshot.{Snapshot, Incoming, is_gone, origin}
use Rattle.ln_payment_circuits.specs.Circuit.{Forwards, ArePaidFor}
use Rattle.ln_payment_circuits.specs.Happens.{Goes, AreSame, IsNew}
use Rattle.ln_payment_circuits.proofs.Lists.{either}
use Rattle.ln_payment_circuits.proofs.Parts.{course_by, ended_by, has_result}
use Rattle.ln_payment_circuits.proofs.Logs.{no_removal}
use Rattle.ln_payment_circuits.proofs.Links.{Side, Links, HasAddAt, AreOuts, IsOfLinks, decision_at, decision_by}
use Rattle.ln_payment_circuits.proofs.Links.{removal_at}
use Rattle.ln_payment_circuits.proofs.Links.{course_at}
use Rattle.ln_payment_circuits.proofs.Held.{held_begun}
use Rattle.ln_payment_circuits.proofs.Shifts.{side_of, IsTidy}
use Rattle.ln_payment_circuits.proofs.Tidy.{IsTidyLedger}
use Rattle.ln_payment_circuits.proofs.Preimages.{ArePaid}
use Rattle.ln_payment_circuits.proofs.Scenes.{Scene, HavePayments, links_go}
use Rattle.ln_payment_circuits.proofs.Moments.{links_of}

pub record AreAlike (l m : Links) : Type 0 where
  pub decision : (id d : ℕ) → decision_at id (m.sides d) ≡ decision_at id (l.sides d)
  pub removal : (id d : ℕ) → removal_at id (m.sides d) ≡ removal_at id (l.sides d)
  pub course : (i d : ℕ) → course_at i (m.sides d) ≡ course_at i (l.sides d)
  pub incoming : (o : List ℕ × ℕ) (i d : ℕ) → HasAddAt o i (m.sides d) → HasAddAt o i (l.sides d)
  pub on : (o : List ℕ × ℕ) (i d : ℕ) → HasAddAt o i (l.sides d) → HasAddAt o i (m.sides d)
  pub halted : (d : ℕ) → m.halted d ≡ l.halted d

module _ (id_of : ℕ → List ℕ) (l m : Links) (a : AreAlike l m) where
  outs_alike : (h : Incoming) (qs : List Out) → AreOuts (origin id_of) h l qs → AreOuts (origin id_of) h m qs
  outs_alike h [] k = λ c i b. k c i (a.incoming (origin id_of h) i c b)
  outs_alike h (q ∷ []) k = (
    a.on (origin id_of h) q.id q.channel k.0,
    k.1 ∙ sym (a.course q.id q.channel),
    λ c i b. k.2 c i (a.incoming (origin id_of h) i c b),
  )
  outs_alike h (q ∷ r ∷ qs) k = absurd k

  links_alike : (h : Incoming) (p : Payment) → IsOfLinks (origin id_of) h l p → IsOfLinks (origin id_of) h m p
  links_alike h p k = record {
    decision = k.decision ∙ sym (a.decision h.id h.channel);
    removal = k.removal ∙ sym (a.removal h.id h.channel);
    outs = outs_alike h p.outs k.outs;
    halted = λ d. k.halted d ∙ sym (a.halted d);
  }

pub payments_alike : (id_of : ℕ → List ℕ) (s t : Scene) → AreAlike s.links t.links → t.book ≡ s.book
    → HavePayments id_of s → HavePayments id_of t
payments_alike id_of s t a book k h = links_go id_of h s t book (k h) (record {
  moves = [];
  made = tt;
  of_links = links_alike id_of s.links t.links a h (k h).0 (k h).1.of_links;
  note = refl;
})

-- ---- the same ends

pub same_links : (s t : Snapshot) → AreSame s t → AreAlike (links_of s) (links_of t)
same_links s t g = record {
  decision = λ id d. ap (λ o. decision_at id (option_map side_of o)) (g.ends d);
  removal = λ id d. ap (λ o. removal_at id (option_map side_of o)) (g.ends d);
  course = λ i d. ap (λ o. course_at i (option_map side_of o)) (g.ends d);
  incoming = λ o i d. subst (λ z. HasAddAt o i (option_map side_of z)) (g.ends d);
  on = λ o i d. subst (λ z. HasAddAt o i (option_map side_of z)) (sym (g.ends d));
  halted = g.halted;
}

-- ---- a channel has opened

module _ (e : End) (new : IsNew e) where
  abbrev l : Log
  l = e.dance.log

  front : (n : ℕ) → take n l.own ≡ []
  front n = ap (take n) new.own ∙ take-nil n

  decision_new : (id : ℕ) → decision_at id (Some (side_of e)) ≡ Undecided
  decision_new id =
      ap (λ (z : Ledger). decision_by (find (λ d. d.id == id) z.decisions) (is_gone id (take l.first.own l.own)))
      new.ledger
      ∙ ap (λ us. decision_by None (is_gone id us)) (front l.first.own)

  removal_new : (id : ℕ) → removal_at id (Some (side_of e)) ≡ NoRemoval
  removal_new id = no_removal l id (ap (outcome id) new.own)

  course_new : (i : ℕ) → course_at i (Some (side_of e)) ≡ Uncovered
  course_new i = ap (λ us. course_by (is_some (add_with i us))
      (ended_by (outcome i (take l.acknowledged.peer l.received))
      (has_result i e.ledger.results))) (front l.signed.own)

  none_new : (o : List ℕ × ℕ) (i : ℕ) → HasAddAt o i (Some (side_of e)) → ⊥
  none_new o i k = subst (λ us. Forwards o (add_with i us)) new.own k

  pub tidy_new : IsTidy e
  tidy_new = subst (IsTidyLedger l) (sym new.ledger) (record {
    ids = omega arith;
    open_still = tt;
    marks = tt;
    true_results = tt;
    once = tt;
    waits = held_begun 0;
  })

  pub paid_new : ArePaid l
  paid_new = subst (λ us. ArePaidFor (take l.signed.peer l.received) us) (sym new.own) tt

  module _ (c : ℕ) (s t : Snapshot) (g : Goes c None e s t) where
    of_part : {A : Type 0} (f : Option Side → A) → f (Some (side_of e)) ≡ f None → (d : ℕ)
        → f ((links_of t).sides d) ≡ f ((links_of s).sides d)
    of_part f is d = elim (either (d == c)) [
      | inl here ↦ ap (λ n. f ((links_of t).sides n)) (eqb-true d c here)
          ∙ ap (λ o. f (option_map side_of o)) g.now ∙ is ∙ sym (ap (λ o. f (option_map side_of o)) g.before)
          ∙ sym (ap (λ n. f ((links_of s).sides n)) (eqb-true d c here))
      | inr isnt ↦ ap (λ o. f (option_map side_of o)) (g.others d isnt)
    ]

    back_new : (o : List ℕ × ℕ) (i d : ℕ) → HasAddAt o i ((links_of t).sides d) → HasAddAt o i ((links_of s).sides d)
    back_new o i d k = elim (either (d == c)) [
      | inl here ↦ absurd (none_new o i (subst (λ z. HasAddAt o i (option_map side_of z)) g.now
          (subst (λ n. HasAddAt o i ((links_of t).sides n)) (eqb-true d c here) k)))
      | inr isnt ↦ subst (λ z. HasAddAt o i (option_map side_of z)) (g.others d isnt) k
    ]

    on_new : (o : List ℕ × ℕ) (i d : ℕ) → HasAddAt o i ((links_of s).sides d) → HasAddAt o i ((links_of t).sides d)
    on_new o i d k = elim (either (d == c)) [
      | inl here ↦ absurd (subst (λ z. HasAddAt o i (option_map side_of z)) g.before
          (subst (λ n. HasAddAt o i ((links_of s).sides n)) (eqb-true d c here) k))
      | inr isnt ↦ subst (λ z. HasAddAt o i (option_map side_of z)) (sym (g.others d isnt)) k
    ]

    pub opened_links : AreAlike (links_of s) (links_of t)
    opened_links = record {
      decision = λ id. of_part (decision_at id) (decision_new id);
      removal = λ id. of_part (removal_at id) (removal_new id);
      course = λ i. of_part (course_at i) (course_new i);
      incoming = back_new;
      on = on_new;
      halted = g.halted;
    }
