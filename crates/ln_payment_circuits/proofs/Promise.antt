-- One payment out for each payment in, of a node whose payments are those of the machine; and so at the beginning.
use Rattle.std.proofs.Common.{◌≡◌, ℕ, List, [], ◌∷◌, take, drop, refl, sym, ap, ◌∙◌, subst, Bool, false}
use Rattle.std.proofs.Common.{Option, Some, None}
use Rattle.std.specs.Prelude.{option_map}
use Rattle.std.proofs.lemmas.List.{take-append-drop}
use Rattle.ln_log.specs.declared.outcome.Outcome.{Outcome}
use Rattle.ln_log.specs.declared.outcome.Outcome.TheVariants.{Live, Fulfilled, Failed}
use Rattle.ln_log.specs.Updates.{add_with, outcome, is_live}
use Rattle.ln_channel.specs.End.{End}
use Rattle.ln_payment.specs.Parts.{Kind, Fulfils, Fails, Stage, By}
use Rattle.ln_payment.specs.Parts.{Out, Each, IsEnd, HasEnded}
use Rattle.ln_payment.specs.Promises.{Follows}
use Rattle.ln_payment.specs.Parts.{begun as begun_payment}
use Rattle.ln_payment.proofs.Law.{kept_begun}
use Rattle.ln_payment_circuits.specs.Snapshot.{Snapshot, Incoming, is_gone, origin}
use Rattle.ln_payment_circuits.specs.Circuit.{IsCoveredAt, removed_at, fate_at, ArePaidFor, ArePaidAt, PaysOnce}
use Rattle.ln_payment_circuits.proofs.Parts.{some_of, course_by, ended_by, has_result, removal_by, stage_by}
use Rattle.ln_payment_circuits.proofs.Logs.{add_covered}
use Rattle.ln_payment_circuits.proofs.Links.{HasAddAt, AreOuts, course_at, removal_at}
use Rattle.ln_payment_circuits.proofs.Shifts.{side_of}
use Rattle.ln_payment_circuits.proofs.Preimages.{ArePaid, all_more}
use Rattle.ln_payment_circuits.proofs.Scenes.{HasPayment, HavePayments}
use Rattle.ln_payment_circuits.proofs.Moments.{scene_of, links_of, EachEnd}

has_covered : (o : List ℕ × ℕ) (i : ℕ) (x : Option End) → IsCoveredAt o i x → HasAddAt o i (option_map side_of x)
has_covered o i None k = absurd k
has_covered o i (Some e) k = add_covered o i e.dance.log k

abbrev outcome_of : Kind → Outcome
outcome_of Fulfils = Fulfilled
outcome_of Fails = Failed

-- what has a removal has one of a kind
kind_by : (o : Outcome) (s : Stage) → is_live o ≡ false → (k : Kind) × (removal_by o s ≡ By k s) × (o ≡ outcome_of k)
kind_by Live s e = absurd (cc)
kind_by Fulfilled s e = (Fulfils, refl, refl)
kind_by Failed s e = (Fails, refl, refl)

removal_kind : (id : ℕ) (x : Option End) → is_live (removed_at id x) ≡ false
    → (k : Kind) × (t : Stage) × (removal_at id (option_map side_of x) ≡ By k t) × (removed_at id x ≡ outcome_of k)
removal_kind id None e = absurd (cc)
removal_kind id (Some x) e =
    let l = x.dance.log in
    let t = stage_by (is_gone id (take l.current.own l.own)) (is_gone id (take l.signed.own l.own)) in
    let r = kind_by (outcome id l.own) t e in
    (r.0, t, r.1, r.2)

-- what has ended, ended so
ends_as : (o : Outcome) (r : Bool) (k : Kind) → IsEnd k (ended_by o r) → o ≡ outcome_of k
ends_as Live r k e = absurd e
ends_as Fulfilled r k e = ap outcome_of e
ends_as Failed r k e = ap outcome_of e

fate_is : (o : List ℕ × ℕ) (i : ℕ) (x : Option End) (k : Kind) → IsCoveredAt o i x
    → IsEnd k (course_at i (option_map side_of x)) → fate_at i x ≡ outcome_of k
fate_is o i None k c e = absurd c
fate_is o i (Some x) k c e =
    let l = x.dance.log in
    let held = outcome i (take l.acknowledged.peer l.received) in
    let results = has_result i x.ledger.results in
    ends_as held results k
    (subst (λ b. IsEnd k (course_by b (ended_by held results))) (some_of o (add_with i (take l.signed.own l.own)) c) e)

-- by all that was received
paid_at : (x : Option End) → ((e : End) → x ≡ Some e → ArePaid e.dance.log) → ArePaidAt x
paid_at None paid = tt
paid_at (Some e) paid =
    let l = e.dance.log in
    subst (λ us. ArePaidFor us l.own) (take-append-drop l.signed.peer l.received)
    (all_more (take l.signed.peer l.received) (drop l.signed.peer l.received) l.own (paid e refl))

module _ (id_of : ℕ → List ℕ) (h : Incoming) (s : Snapshot) where
  one_out : (os : List Out) → AreOuts (origin id_of) h (links_of s) os → (c d i j : ℕ)
      → HasAddAt (origin id_of h) i ((links_of s).sides c) → HasAddAt (origin id_of h) j ((links_of s).sides d)
      → (c ≡ d) × (i ≡ j)
  one_out [] o c d i j a b = absurd (o c i a)
  one_out (q ∷ []) o c d i j a b =
      let x = o.2 c i a in
      let y = o.2 d j b in
      (x.0 ∙ sym y.0, x.1 ∙ sym y.1)
  one_out (q ∷ r ∷ os) o c d i j a b = absurd o

  all_ended : (os : List Out) → AreOuts (origin id_of) h (links_of s) os → (n : Kind) → Each (HasEnded n) os → (c i : ℕ)
      → HasAddAt (origin id_of h) i ((links_of s).sides c) → IsEnd n (course_at i ((links_of s).sides c))
  all_ended [] o n e c i a = absurd (o c i a)
  all_ended (q ∷ []) o n e c i a =
      let x = o.2 c i a in
      subst (IsEnd n) (o.1 ∙ ap (λ z. course_at z ((links_of s).sides q.channel)) (sym x.1)
      ∙ ap (λ z. course_at i ((links_of s).sides z)) (sym x.0)) e.0
  all_ended (q ∷ r ∷ os) o n e c i a = absurd o

  pub pays_once : EachEnd (λ e. ArePaid e.dance.log) s → HasPayment id_of h (scene_of s) → PaysOnce id_of h s
  pays_once paid k = record {
    at_most_one = λ c d i j a b. one_out k.0.outs k.1.of_links.outs c d i j
        (has_covered (origin id_of h) i (s.ends c) a) (has_covered (origin id_of h) j (s.ends d) b);
    removed_alike = λ c i a e. let r = removal_kind h.id (s.ends h.channel) e in
        fate_is (origin id_of h) i (s.ends c) r.0 a
        (all_ended k.0.outs k.1.of_links.outs r.0
        (subst (λ z. Follows z k.0.outs) (k.1.of_links.removal ∙ r.2) k.1.kept.follows) c i
        (has_covered (origin id_of h) i (s.ends c) a))
        ∙ sym r.3;
    fulfilled = paid_at (s.ends h.channel) (paid h.channel);
  }

-- ---- at the beginning

pub begun : (id_of : ℕ → List ℕ)
    → HavePayments id_of (record { links = record { sides = λ c. None; halted = λ c. false }; book = [] })
begun id_of h = (
  begun_payment,
  record {
    kept = kept_begun;
    holds = tt;
    of_links = record { decision = refl; removal = refl; outs = λ c i a. a; halted = λ c. refl };
    note = refl;
  },
)
