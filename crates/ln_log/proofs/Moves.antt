-- What a log does, as moves of the channel's machine.
use Rattle.std.proofs.Common.{◌≡◌, ℕ, ◌≤◌, List, [], ◌∷◌, length, take, drop, refl, sym, ap, ◌∙◌, arith, ◌↔◌, Bool}
use Rattle.std.proofs.Common.{true, false, cond, not, Option, Some, None, is_none, option_map}
use Rattle.std.proofs.lemmas.List.{take-append-le, take-append-drop, take-take, take_all, map-append, length-map}
use Rattle.std.proofs.lemmas.List.{length-take-le}
use Rattle.ln_refusals.specs.declared.refusal.Refusal.{Refusal}
use Rattle.ln_refusals.specs.declared.refusal.Refusal.TheVariants as refusal
use Rattle.ln_refusals.specs.declared.peer_rule.PeerRule.TheVariants as rule
use Rattle.ln_log.specs.declared.update.Add.{Add}
use Rattle.ln_log.specs.declared.update.Removal.{Removal}
use Rattle.ln_log.specs.declared.update.Update.{Update}
use Rattle.ln_log.specs.declared.update.Update.TheVariants as update
use Rattle.ln_log.specs.Opening.{limits_of, first_balance}
use Rattle.ln_log.specs.Updates.{removed, as_sent, all_sent, is_some, add_with, outcome, is_live}
use Rattle.ln_log.specs.Limits.{standing_of, update_fault, HasNextId, is_at_update_limit, first_fault}
use Rattle.ln_log.specs.Machine as machine
use Rattle.ln_log.specs.Machine.{Party, MayFollow, MayPropose, MayShut}
use Rattle.ln_log.specs.Log.{Log, IsWithin, RemovesLive, party_of, after_propose, after_receive, after_sign}
use Rattle.ln_log.specs.Log.{after_accept, after_learn, after_drop, peer_limit, removal_fault, proposal_fault}
use Rattle.ln_log.specs.Log.{length_fault}
use Rattle.ln_log.proofs.Removing.{add_with-more}
use Rattle.ln_log.proofs.Kept.{names_live}
use Rattle.ln_log.proofs.Sent.{next_sent, update_fault_sent}

-- a party by the lists that its counts cut out
abbrev made : Bool → Option ℕ → List Update → List Update → List Update → List Update → List Update
    → List Update → List Update → Party
made shut closed own s t c d a e = record {
  own = own;
  signed = record { own = s; peer = t };
  current = record { own = c; peer = d };
  acknowledged = record { own = a; peer = e };
  shut = shut;
  closed = closed;
}

same_party : (m : Bool) (f : Option ℕ) (o o' s s' t t' c c' d d' a a' e e' : List Update) → o ≡ o' → s ≡ s' → t ≡ t'
    → c ≡ c' → d ≡ d' → a ≡ a' → e ≡ e' → made m f o s t c d a e ≡ made m f o' s' t' c' d' a' e'
same_party m f o o' s s' t t' c c' d d' a a' e e' ho hs ht hc hd ha he =
    ap (λ x. made m f x s t c d a e) ho ∙ ap (λ x. made m f o' x t c d a e) hs ∙ ap (λ x. made m f o' s' x c d a e) ht
    ∙ ap (λ x. made m f o' s' t' x d a e) hc
    ∙ ap (λ x. made m f o' s' t' c' x a e) hd ∙ ap (λ x. made m f o' s' t' c' d' x e) ha
    ∙ ap (made m f o' s' t' c' d' a') he

pub party_proposed : (m : Bool) (f : Option ℕ) (l : Log) (u : Update) → IsWithin l
    → party_of m f (after_propose u l) ≡ machine.after_propose (as_sent u) (party_of m f l)
party_proposed m f l u w =
    let front = λ (n : ℕ) (le : n ≤ length l.own). ap all_sent (take-append-le n l.own (u ∷ []) le) in
    same_party m f _ _ _ _ _ _ _ _ _ _ _ _ _ _ (map-append as_sent l.own (u ∷ []))
    (front l.signed.own w.own_signed) refl
    (front l.current.own (omega (arith, w.own_current, w.own_acknowledged, w.own_signed))) refl
    (front l.acknowledged.own (omega (arith, w.own_acknowledged, w.own_signed))) refl

pub party_received : (m : Bool) (f : Option ℕ) (l : Log) (u : Update) → IsWithin l
    → party_of m f (after_receive u l) ≡ party_of m f l
party_received m f l u w =
    let front = λ (n : ℕ) (le : n ≤ length l.received). ap all_sent (take-append-le n l.received (u ∷ []) le) in
    same_party m f _ _ _ _ _ _ _ _ _ _ _ _ _ _ refl refl
    (front l.signed.peer (omega (arith, w.peer_signed, w.peer_current))) refl
    (front l.current.peer w.peer_current) refl (front l.acknowledged.peer
    (omega (arith, w.peer_acknowledged, w.peer_signed, w.peer_current)))

pub party_signed : (m : Bool) (f : Option ℕ) (l : Log)
    → party_of m f (after_sign l) ≡ machine.after_sign (party_of m f l)
party_signed m f l = same_party m f _ _ _ _ _ _ _ _ _ _ _ _ _ _ refl
    (ap all_sent (take_all (length l.own) l.own (omega arith))) refl refl refl refl refl

pub party_accepted : (m n : Bool) (f g : Option ℕ) (l p : Log)
    → all_sent (take l.acknowledged.own l.own) ≡ all_sent (take p.signed.peer p.received)
    → all_sent l.received ≡ all_sent (take p.signed.own p.own)
    → party_of m f (after_accept l) ≡ machine.after_accept (party_of n g p) (party_of m f l)
party_accepted m n f g l p own peer = same_party m f _ _ _ _ _ _ _ _ _ _ _ _ _ _ refl refl refl own
    (ap all_sent (take_all (length l.received) l.received (omega arith)) ∙ peer) refl refl

pub party_acknowledged : (m n : Bool) (f g : Option ℕ) (l p : Log)
    → all_sent (take l.signed.own l.own) ≡ all_sent (take p.current.peer p.received)
    → all_sent (take l.signed.peer l.received) ≡ all_sent (take p.current.own p.own)
    → party_of m f (after_learn l) ≡ machine.after_learn (party_of n g p) (party_of m f l)
party_acknowledged m n f g l p own peer = same_party m f _ _ _ _ _ _ _ _ _ _ _ _ _ _ refl refl refl refl refl own peer

pub party_dropped : (m : Bool) (f : Option ℕ) (l : Log) → IsWithin l
    → party_of m f (after_drop l) ≡ machine.after_drop (party_of m f l)
party_dropped m f l w =
    let own = λ (n : ℕ) (le : n ≤ l.signed.own). ap all_sent (take-take n l.signed.own l.own le) in
    let got = λ (n : ℕ) (le : n ≤ l.current.peer). ap all_sent (take-take n l.current.peer l.received le) in
    same_party m f _ _ _ _ _ _ _ _ _ _ _ _ _ _ refl (own l.signed.own (omega arith)) (got l.signed.peer w.peer_signed)
    (own l.current.own (omega (arith, w.own_current, w.own_acknowledged))) (got l.current.peer (omega arith))
    (own l.acknowledged.own w.own_acknowledged) (got l.acknowledged.peer
    (omega (arith, w.peer_acknowledged, w.peer_signed)))

-- ---- when a side may send shutdown

pub shut_so : (s : Bool) (c : Option ℕ) (l : Log) → IsWithin l
    → ((l.acknowledged.own ≡ length l.own) ↔ MayShut (party_of s c l))
shut_so s c l w = (
  (λ e. sym (ap all_sent (take_all l.acknowledged.own l.own (omega (arith, e))))),
  (λ same. sym (length-map (take l.acknowledged.own l.own) as_sent
      ∙ length-take-le l.acknowledged.own l.own (omega (arith, w.own_acknowledged, w.own_signed)))
      ∙ sym (ap length same)
      ∙ length-map l.own as_sent),
)

-- ---- what may be proposed

follows : (s : Bool) (u : Update) → MayFollow s u → MayFollow s (as_sent u)
follows s (update.Add a) h = h
follows s (update.Fulfil f) h = tt
follows s (update.Fail f) h = tt
follows s (update.Malformed m) h = tt
follows s (update.Fee f) h = h

followed : (s : Bool) (u : Update) → MayFollow s (as_sent u) → MayFollow s u
followed s (update.Add a) h = h
followed s (update.Fulfil f) h = tt
followed s (update.Fail f) h = tt
followed s (update.Malformed m) h = tt
followed s (update.Fee f) h = h

next_is : (own : List Update) (u : Update) → HasNextId own u → HasNextId (all_sent own) (as_sent u)
next_is own (update.Add a) h = h ∙ sym (next_sent own)
next_is own (update.Fulfil f) h = tt
next_is own (update.Fail f) h = tt
next_is own (update.Malformed m) h = tt
next_is own (update.Fee f) h = tt

first_none : (a b : Option Refusal) → first_fault a b ≡ None → (a ≡ None) × (b ≡ None)
first_none None b e = (refl, e)
first_none (Some r) b e = absurd (cc)

unspent : (b : Bool) → cond b (Some refusal.NumbersSpent) None ≡ None → b ≡ false
unspent true e = absurd (cc)
unspent false e = refl

unmapped : (o : Option Refusal) → option_map peer_limit o ≡ None → o ≡ None
unmapped None e = refl
unmapped (Some r) e = absurd (cc)

pub may : (s : Bool) (c : Option ℕ) (l : Log) (u : Update) → HasNextId l.own u → MayFollow s u
    → proposal_fault l u ≡ None → MayPropose l.opening l.role (as_sent u) (party_of s c l)
    × (is_at_update_limit l.own ≡ false) × (length_fault u ≡ None)
may s c l u next follow e =
    let a = first_none _ _ e in
    let b = first_none _ _ a.1 in
    let d = first_none _ _ b.1 in (
      record {
        open_still = follows s u follow;
        next = next_is l.own u next;
        within = update_fault_sent l.opening l.role l.own (take l.current.peer l.received)
            (take l.acknowledged.peer l.received) u ∙ unmapped _ d.0;
      },
      unspent (is_at_update_limit l.own) a.0,
      d.1,
    )

-- a removal that the machine allows is one that the log knows
there : (x : Option Add) → is_some x ≡ true → is_none x ≡ false
there None e = absurd (cc)
there (Some a) e = refl

known : (l : Log) (r : Option Removal) → RemovesLive (take l.acknowledged.peer l.received) l.own r
    → removal_fault l r ≡ None
known l None h = refl
known l (Some r) h =
    let held : is_none (add_with r.id (take l.acknowledged.peer l.received)) ≡ false =
    there (add_with r.id (take l.acknowledged.peer l.received)) h.0 in
    let got : is_none (add_with r.id l.received) ≡ false =
    ap (λ us. is_none (add_with r.id us)) (sym (take-append-drop l.acknowledged.peer l.received))
    ∙ ap is_none (add_with-more r.id (take l.acknowledged.peer l.received) (drop l.acknowledged.peer l.received) h.0)
    ∙ held in
    let live : not (is_live (outcome r.id l.own)) ≡ false = ap (λ o. not (is_live o)) h.1 in
    ap (λ b. cond b (Some (refusal.PeerLimit rule.NoSuchHtlc))
    (cond (not (is_live (outcome r.id l.own))) (Some refusal.AlreadyRemoved)
    (cond (is_none (add_with r.id (take l.acknowledged.peer l.received))) (Some refusal.NotCommitted) None))) got
    ∙ ap (λ b. cond b (Some refusal.AlreadyRemoved)
    (cond (is_none (add_with r.id (take l.acknowledged.peer l.received))) (Some refusal.NotCommitted) None)) live
    ∙ ap (λ b. cond b (Some refusal.NotCommitted) None) held

pub may_so : (s : Bool) (c : Option ℕ) (l : Log) (u : Update) → MayPropose l.opening l.role (as_sent u) (party_of s c l)
    × (is_at_update_limit l.own ≡ false) × (length_fault u ≡ None) → MayFollow s u × (proposal_fault l u ≡ None)
may_so s c l u h =
    let none : update_fault l.opening l.role l.own (take l.current.peer l.received)
    (take l.acknowledged.peer l.received) u ≡ None =
    sym (update_fault_sent l.opening l.role l.own (take l.current.peer l.received)
    (take l.acknowledged.peer l.received) u) ∙ h.0.within in
    let removal : removal_fault l (removed u) ≡ None =
    known l (removed u) (names_live (limits_of l.opening l.role)
    (standing_of (first_balance l.opening l.role) l.own (take l.current.peer l.received)) l.role l.own
    (take l.acknowledged.peer l.received) u none) in (
      followed s u h.0.open_still,
      ap (λ b. first_fault (cond b (Some refusal.NumbersSpent) None)
          (first_fault (removal_fault l (removed u)) (first_fault
          (option_map peer_limit (update_fault l.opening l.role l.own (take l.current.peer l.received)
          (take l.acknowledged.peer l.received) u)) (length_fault u)))) h.1
          ∙ ap (λ x. first_fault x (first_fault (option_map peer_limit
          (update_fault l.opening l.role l.own (take l.current.peer l.received) (take l.acknowledged.peer l.received)
          u)) (length_fault u))) removal
          ∙ ap (λ x. first_fault (option_map peer_limit x) (length_fault u)) none
          ∙ h.2,
    )
