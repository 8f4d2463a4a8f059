-- Scenes of which nothing has changed that a payment is read off; and that ids of channels tell their numbers.
use Rattle.std.proofs.Common.{◌≡◌, ℕ, List, [], ◌∷◌, sym, ap, ◌∙◌, subst}
use Rattle.std.specs.Prelude.{slice_index}
use Rattle.std.specs.Int.Bits.{xor_zero_r}
use Rattle.ln_world_channels.specs.Settings.{channel_id_of}
use Rattle.ln_payment.specs.Parts.{Out, Payment}
use Rattle.ln_payment_circuits.specs.Snapshot.{Incoming, IsIn, origin}
use Rattle.ln_payment_circuits.proofs.Links.{HasAddAt, AreOuts, IsOfLinks, decision_at, removal_at, course_at}
use Rattle.ln_payment_circuits.proofs.Entries.{HasEntry}
use Rattle.ln_payment_circuits.proofs.Scenes.{Scene, HavePayments, by_moves}
use Rattle.ln_payment_circuits.proofs.Resumed.{HoldAlike}
use Rattle.ln_payment_circuits.proofs.Agrees.{agrees_fewer, was_same}
use Rattle.ln_payment_circuits.proofs.Past.{IsPast, past_on, offers_same}

-- one to one
pub one_id : (c d : ℕ) → channel_id_of c ≡ channel_id_of d → c ≡ d
unfolding channel_id_of
one_id c d e = sym (xor_zero_r c) ∙ ap (λ l. slice_index l 31) e ∙ xor_zero_r d

pub record IsSame (s t : Scene) : Type 0 where
  pub sides : (d : ℕ) → t.links.sides d ≡ s.links.sides d
  pub halted : (d : ℕ) → t.links.halted d ≡ s.links.halted d
  pub book : t.book ≡ s.book

module _ (id_of : ℕ → List ℕ) (s t : Scene) (e : IsSame s t) where
  outs_so : (h : Incoming) (qs : List Out) → AreOuts (origin id_of) h s.links qs → AreOuts (origin id_of) h t.links qs
  outs_so h [] o = λ c i a. o c i (subst (HasAddAt (origin id_of h) i) (e.sides c) a)
  outs_so h (q ∷ []) o = (
    subst (HasAddAt (origin id_of h) q.id) (sym (e.sides q.channel)) o.0,
    o.1 ∙ ap (course_at q.id) (sym (e.sides q.channel)),
    λ c i a. o.2 c i (subst (HasAddAt (origin id_of h) i) (e.sides c) a),
  )
  outs_so h (q ∷ r ∷ qs) o = absurd o

  pub same_stand : (h : Incoming) (p : Payment) → IsOfLinks (origin id_of) h s.links p
      → IsOfLinks (origin id_of) h t.links p
  same_stand h p k = record {
    decision = k.decision ∙ ap (decision_at h.id) (sym (e.sides h.channel));
    removal = k.removal ∙ ap (removal_at h.id) (sym (e.sides h.channel));
    outs = outs_so h p.outs k.outs;
    halted = λ d. k.halted d ∙ sym (e.halted d);
  }

  pub same_paid : HavePayments id_of s → HavePayments id_of t
  same_paid k h = by_moves id_of h t (k h).0 ((k h).1.kept, (k h).1.holds) [] tt (same_stand h (k h).0 (k h).1.of_links)
      (subst (λ xs. HasEntry id_of h xs (k h).0.note) (sym e.book) (k h).1.note)

  pub same_agrees : HoldAlike id_of s → HoldAlike id_of t
  same_agrees a = agrees_fewer id_of s t (record {
    links = λ c Y is d m. (Y, sym (e.sides c) ∙ is, m);
    book = λ x m. (x, subst (λ xs. IsIn x xs) e.book m, was_same x);
  }) a

  pub same_past : IsPast id_of s → IsPast id_of t
  same_past = past_on id_of s t (λ c halted. (sym (e.halted c) ∙ halted, e.sides c))
      (λ h c i y halted. offers_same id_of s.book t.book e.book h c i y)
