-- What an end newly tells by a call of which its book has no part: each own removal is held then, and each own HTLC of
-- which it tells has ended so.
use Rattle.std.proofs.Common.{◌≡◌, inl, inr, ℕ, ◌-◌, List, [], ◌∷◌, ◌++◌, drop, refl, sym, ap, ◌∙◌, subst}
use Rattle.std.proofs.Common.{append-nil, Bool, true, false, Option, Some, None, option_map}
use Rattle.std.proofs.lemmas.List.{take-append-drop}
use Rattle.ln_log.specs.declared.update.Update.{Update}
use Rattle.ln_log.specs.declared.update.Update.TheVariants as update
use Rattle.ln_log.specs.declared.mark.EventRef.{EventRef}
use Rattle.ln_log.specs.declared.mark.EventRef.TheVariants as ref
use Rattle.ln_log.specs.Log.{Log, between}
use Rattle.ln_log.specs.Log as log
use Rattle.ln_hooks.specs.Amount.{bounded}
use Rattle.ln_hooks.specs.declared.event.ChannelEvent.TheVariants as event
use Rattle.ln_hooks.specs.Event.{event_of}
use Rattle.ln_channel.specs.Ledger.{Ledger, refs_of}
use Rattle.ln_channel.specs.Since.{own_since, peer_since}
use Rattle.ln_channel.specs.Base.{based, next_base}
use Rattle.ln_channel.specs.End.{End}
use Rattle.ln_payment.specs.Parts.{Kind, IsHeld, IsEnd}
use Rattle.ln_payment_circuits.specs.Shift.{Shift, Stays, Takes, Proposes, Signs, Accepts, Learns, Closes, Notes}
use Rattle.ln_payment_circuits.specs.Shift.{IsPlain}
use Rattle.ln_payment_circuits.specs.Snapshot.{IsIn, IsFit}
use Rattle.ln_payment_circuits.proofs.Parts.{removal_of, course_of}
use Rattle.ln_payment_circuits.proofs.Removals.{newly}
use Rattle.ln_payment_circuits.proofs.Links.{Links, removal_at, course_at}
use Rattle.ln_payment_circuits.proofs.Shifts.{side_of as read_side}
use Rattle.ln_payment_circuits.proofs.Heard.{accepted_is_held, learned_is_ended}
use Rattle.ln_world.proofs.Hearing.{IsSo, AreSo, EachSo, own_so, peer_so}

-- the events that are new by it
abbrev pub news : {x f : End} → Shift x f → List EventRef
news (Stays l g) = []
news (Takes u may l g) = []
news (Proposes u may next l g) = []
news (Signs l g) = []
news {x} (Accepts l g) =
    refs_of true x.dance.log.current.own (own_since x.dance.log.current.own (log.after_accept x.dance.log))
news {x} (Learns l g) =
    refs_of false x.dance.log.acknowledged.peer (peer_since x.dance.log.acknowledged.peer (log.after_learn x.dance.log))
news (Closes l g) = ref.Close ∷ []
news (Notes c l g) = []

same_ledger : (x f : End) → f.ledger ≡ x.ledger → f.ledger.undecided ≡ x.ledger.undecided ++ []
same_ledger x f g = ap (λ (l : Ledger). l.undecided) g ∙ sym (append-nil x.ledger.undecided)

pub undecided_so : (x f : End) (s : Shift x f) → IsPlain s → f.ledger.undecided ≡ x.ledger.undecided ++ news s
undecided_so x f (Stays l g) n = same_ledger x f g
undecided_so x f (Takes u may l g) n = same_ledger x f g
undecided_so x f (Proposes u may next l g) n = same_ledger x f g
undecided_so x f (Signs l g) n = same_ledger x f g
undecided_so x f (Accepts l g) n = ap (λ (l : Ledger). l.undecided) g
undecided_so x f (Learns l g) n = ap (λ (l : Ledger). l.undecided) g
undecided_so x f (Closes l g) n = ap (λ (l : Ledger). l.undecided) g
undecided_so x f (Notes c l g) n = absurd n

pub decided_so : (x f : End) (s : Shift x f) → IsPlain s → f.ledger.decided ≡ x.ledger.decided
decided_so x f (Stays l g) n = ap (λ (l : Ledger). l.decided) g
decided_so x f (Takes u may l g) n = ap (λ (l : Ledger). l.decided) g
decided_so x f (Proposes u may next l g) n = ap (λ (l : Ledger). l.decided) g
decided_so x f (Signs l g) n = ap (λ (l : Ledger). l.decided) g
decided_so x f (Accepts l g) n = ap (λ (l : Ledger). l.decided) g
decided_so x f (Learns l g) n = ap (λ (l : Ledger). l.decided) g
decided_so x f (Closes l g) n = ap (λ (l : Ledger). l.decided) g
decided_so x f (Notes c l g) n = absurd n

-- ---- each is so

module _ (s : Links) (c : ℕ) where
  each_so : (own : Bool) (us : List Update) → ((u : Update) → IsIn u us → IsSo s c (event_of own u))
      → EachSo s c own us
  each_so own [] f = tt
  each_so own (u ∷ us) f = (f u (inl refl), each_so own us (λ v m. f v (inr m)))

  added_so : (own : Bool) (id : ℕ) (hash : List ℕ) (expiry : ℕ) (onion : List ℕ) (o : Option ℕ)
      → IsSo s c (option_map (λ amount. event.Added own id amount hash expiry onion) o)
  added_so own id hash expiry onion None = tt
  added_so own id hash expiry onion (Some amount) = tt

  module _ (x f : End) (fit : IsFit x) (side : s.sides c ≡ Some (read_side (based f))) where
    held_now : f.dance.log ≡ log.after_accept x.dance.log → (i : ℕ)
        → IsHeld (removal_of i (log.after_accept x.dance.log))
        → IsHeld (removal_at i (s.sides c))
    held_now l i h = subst (λ o. IsHeld (removal_at i o)) (sym side)
        (subst (λ (m : Log). IsHeld (removal_of i (record m { first = next_base f }))) (sym l) h)

    own_held : f.dance.log ≡ log.after_accept x.dance.log → (u : Update)
        → IsIn u (between x.dance.log.current.own x.dance.log.acknowledged.own x.dance.log.own)
        → IsSo s c (event_of true u)
    own_held l (update.Add a) m = added_so true a.id a.hash a.expiry a.onion (bounded a.amount)
    own_held l (update.Fulfil g) m = held_now l g.id
        (accepted_is_held x.dance.log (update.Fulfil g) _ fit.sound.within.own_current m refl)
    own_held l (update.Fail g) m = held_now l g.id
        (accepted_is_held x.dance.log (update.Fail g) _ fit.sound.within.own_current m refl)
    own_held l (update.Malformed g) m = held_now l g.id
        (accepted_is_held x.dance.log (update.Malformed g) _ fit.sound.within.own_current m refl)
    own_held l (update.Fee g) m = tt

    ended_now : f.dance.log ≡ log.after_learn x.dance.log → (i : ℕ) (k : Kind)
        → IsEnd k (course_of i (log.after_learn x.dance.log) f.ledger.results) → IsEnd k (course_at i (s.sides c))
    ended_now l i k h = subst (λ o. IsEnd k (course_at i o)) (sym side)
        (subst (λ (m : Log). IsEnd k (course_of i (record m { first = next_base f }) f.ledger.results)) (sym l) h)

    peer_ended : f.dance.log ≡ log.after_learn x.dance.log → (u : Update) → IsIn u (newly x.dance.log)
        → IsSo s c (event_of false u)
    peer_ended l (update.Add a) m = added_so false a.id a.hash a.expiry a.onion (bounded a.amount)
    peer_ended l (update.Fulfil g) m = ended_now l g.id _
        (learned_is_ended x.dance.log f.ledger.results (update.Fulfil g) _ _ fit.sound m refl refl)
    peer_ended l (update.Fail g) m = ended_now l g.id _
        (learned_is_ended x.dance.log f.ledger.results (update.Fail g) _ _ fit.sound m refl refl)
    peer_ended l (update.Malformed g) m = ended_now l g.id _
        (learned_is_ended x.dance.log f.ledger.results (update.Malformed g) _ _ fit.sound m refl refl)
    peer_ended l (update.Fee g) m = tt

    pub news_so : (z : Shift x f) → AreSo s c (news z) (based f)
    news_so (Stays l g) = tt
    news_so (Takes u may l g) = tt
    news_so (Proposes u may next l g) = tt
    news_so (Signs l g) = tt
    news_so (Accepts l g) =
        let n = x.dance.log.current.own in
        let k = x.dance.log.acknowledged.own - n in
        own_so s c (based f) n (own_since n (log.after_accept x.dance.log)) (drop k (drop n x.dance.log.own))
        (ap (λ (m : Log). drop n m.own) l ∙ sym (take-append-drop k (drop n x.dance.log.own)))
        (each_so true (own_since n (log.after_accept x.dance.log)) (own_held l))
    news_so (Learns l g) =
        let n = x.dance.log.acknowledged.peer in
        let k = x.dance.log.signed.peer - n in
        peer_so s c (based f) n (peer_since n (log.after_learn x.dance.log)) (drop k (drop n x.dance.log.received))
        (ap (λ (m : Log). drop n m.received) l ∙ sym (take-append-drop k (drop n x.dance.log.received)))
        (each_so false (peer_since n (log.after_learn x.dance.log)) (peer_ended l))
    news_so (Closes l g) = (close_so f.closing.closed, tt)
      where
        close_so : (o : Option ℕ) → IsSo s c (option_map event.Closed o)
        close_so None = tt
        close_so (Some fee) = tt
    news_so (Notes n l g) = tt
