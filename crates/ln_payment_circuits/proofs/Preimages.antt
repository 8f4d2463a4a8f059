-- Each fulfilment that an end of a channel proposes has a preimage of the HTLC's hash.
use Rattle.std.proofs.Common.{◌≡◌, ℕ, ◌-◌, ◌≤◌, List, [], ◌∷◌, ◌++◌, take, drop, refl, sym, subst, arith, zero, suc}
use Rattle.std.proofs.Common.{Bool, true, false, cond, Option, Some, None}
use Rattle.std.proofs.lemmas.List.{take-take, take-append-le}
use Rattle.std.specs.Cmp.Lexicographic.{bytes_decides}
use Rattle.std.specs.Prelude.{option_map}
use Rattle.ln_refusals.specs.declared.refusal.Refusal.{Refusal}
use Rattle.ln_refusals.specs.declared.refusal.Refusal.TheVariants as refusal
use Rattle.ln_bytes.specs.Same.{are_same}
use Rattle.ln_keys.specs.Hash.{payment_hash}
use Rattle.ln_log.specs.declared.update.Add.{Add}
use Rattle.ln_log.specs.declared.update.Update.{Update}
use Rattle.ln_log.specs.declared.update.Update.TheVariants as update
use Rattle.ln_log.specs.Updates.{add_with, is_some, outcome, is_live}
use Rattle.ln_log.specs.Limits.{fulfil_fault, removable, first_fault}
use Rattle.ln_log.specs.Log.{Log, IsWithin, proposal_fault, peer_limit}
use Rattle.ln_log.specs.Log as log
use Rattle.ln_log.proofs.Removing.{add_with-more}
use Rattle.ln_channel.specs.Base.{based}
use Rattle.ln_channel.specs.Commands.{own_fault}
use Rattle.ln_channel.specs.End.{End}
use Rattle.ln_payment_circuits.specs.Shift.{Shift, Stays, Takes, Proposes, Signs, Accepts, Learns, Closes, Notes}
use Rattle.ln_payment_circuits.proofs.Removals.{split_front}
use Rattle.ln_payment_circuits.specs.Circuit.{PaysFor, IsPaidFor, ArePaidFor}

-- by what the own signature covers of the peer's
abbrev pub ArePaid : Log → Type 0
ArePaid l = ArePaidFor (take l.signed.peer l.received) l.own

pays_more : (p : List ℕ) (id : ℕ) (us vs : List Update) → PaysFor p (add_with id us)
    → PaysFor p (add_with id (us ++ vs))
pays_more p id us vs h = subst (PaysFor p) (sym (add_with-more id us vs (there (add_with id us) h))) h
  where
    there : (o : Option Add) → PaysFor p o → is_some o ≡ true
    there None f = absurd f
    there (Some a) f = refl

paid_more : (us vs : List Update) (u : Update) → IsPaidFor us u → IsPaidFor (us ++ vs) u
paid_more us vs (update.Fulfil f) h = pays_more f.preimage f.id us vs h
paid_more us vs (update.Add a) h = tt
paid_more us vs (update.Fail f) h = tt
paid_more us vs (update.Malformed m) h = tt
paid_more us vs (update.Fee f) h = tt

pub all_more : (us vs ws : List Update) → ArePaidFor us ws → ArePaidFor (us ++ vs) ws
all_more us vs [] h = tt
all_more us vs (w ∷ ws) h = (paid_more us vs w h.0, all_more us vs ws h.1)

-- by more of the peer's
pub paid_front : (m n : ℕ) (us ws : List Update) → m ≤ n → ArePaidFor (take m us) ws → ArePaidFor (take n us) ws
paid_front m n us ws le h =
    subst (λ vs. ArePaidFor vs ws) (sym (split_front m n us le)) (all_more (take m us) (take (n - m) (drop m us)) ws h)

paid_last : (us ws : List Update) (u : Update) → ArePaidFor us ws → IsPaidFor us u → ArePaidFor us (ws ++ u ∷ [])
paid_last us [] u h k = (k, tt)
paid_last us (w ∷ ws) u h k = (h.0, paid_last us ws u h.1 k)

paid_take : (us ws : List Update) (n : ℕ) → ArePaidFor us ws → ArePaidFor us (take n ws)
paid_take us ws zero h = tt
paid_take us [] (suc n) h = tt
paid_take us (w ∷ ws) (suc n) h = (h.0, paid_take us ws n h.1)

-- ---- what is proposed

pub none_both : (a b : Option Refusal) → first_fault a b ≡ None → (a ≡ None) × (b ≡ None)
none_both None b e = (refl, e)
none_both (Some r) b e = absurd (cc)

no_map : (o : Option Refusal) → option_map peer_limit o ≡ None → o ≡ None
no_map None e = refl
no_map (Some r) e = absurd (cc)

pays_by : (p : List ℕ) (id : ℕ) (own held : List Update) → fulfil_fault p (removable id own held) ≡ None
    → PaysFor p (add_with id held)
pays_by p id own held e = cases (is_live (outcome id own)) e
  where
    of_add : (o : Option Add) → fulfil_fault p o ≡ None → PaysFor p o
    of_add None e = absurd (cc)
    of_add (Some a) e = by_test (are_same (payment_hash p) a.hash) refl e
      where
        by_test : (b : Bool) → are_same (payment_hash p) a.hash ≡ b
            → cond b None (Some refusal.PreimageWrong) ≡ None
            → payment_hash p ≡ a.hash
        by_test true is f = (bytes_decides (payment_hash p) a.hash).0 is
        by_test false is f = absurd (cc)

    cases : (b : Bool) → fulfil_fault p (cond b (add_with id held) None) ≡ None → PaysFor p (add_with id held)
    cases true f = of_add (add_with id held) f
    cases false f = absurd (cc)

pub new_paid : (l : Log) (u : Update) → IsWithin l → proposal_fault l u ≡ None
    → IsPaidFor (take l.signed.peer l.received) u
new_paid l (update.Add a) w e = tt
new_paid l (update.Fail f) w e = tt
new_paid l (update.Malformed m) w e = tt
new_paid l (update.Fee f) w e = tt
new_paid l (update.Fulfil f) w e =
    let a = none_both _ _ e in
    let b = none_both _ _ a.1 in
    let c = none_both _ _ b.1 in
    let h = pays_by f.preimage f.id l.own (take l.acknowledged.peer l.received) (no_map _ c.0) in
    (paid_front l.acknowledged.peer l.signed.peer l.received (update.Fulfil f ∷ []) w.peer_acknowledged (h, tt)).0

-- ---- an end goes on

paid_alike : (f : End) (l : Log) → f.dance.log ≡ l → ArePaid l → ArePaid f.dance.log
paid_alike f l e h = subst ArePaid (sym e) h

pub paid_shift : (e f : End) → IsWithin e.dance.log → ArePaid e.dance.log → Shift e f → ArePaid f.dance.log
paid_shift e f w h (Stays l g) = paid_alike f e.dance.log l h
paid_shift e f w h (Takes u may l g) =
    let k = e.dance.log in
    let a = w.peer_signed in
    let b = w.peer_current in
    paid_alike f (log.after_receive u k) l (subst (λ vs. ArePaidFor vs k.own)
    (sym (take-append-le k.signed.peer k.received (u ∷ []) (omega (arith, a, b)))) h)
paid_shift e f w h (Proposes u may next l g) =
    let k = e.dance.log in
    paid_alike f (log.after_propose u k) l (paid_last (take k.signed.peer k.received) k.own u h
    (new_paid k u w (none_both (own_fault e u) (proposal_fault k u) may).1))
paid_shift e f w h (Signs l g) =
    let k = e.dance.log in
    paid_alike f (log.after_sign k) l (paid_front k.signed.peer k.current.peer k.received k.own w.peer_signed h)
paid_shift e f w h (Accepts l g) = paid_alike f (log.after_accept e.dance.log) l h
paid_shift e f w h (Learns l g) = paid_alike f (log.after_learn e.dance.log) l h
paid_shift e f w h (Closes l g) = paid_alike f e.dance.log l h
paid_shift e f w h (Notes c l g) = paid_alike f e.dance.log l h

pub paid_dropped : (l : Log) → IsWithin l → ArePaid l → ArePaid (log.after_drop l)
paid_dropped l w h =
    subst (λ vs. ArePaidFor vs (take l.signed.own l.own)) (sym
    (take-take l.signed.peer l.current.peer l.received w.peer_signed))
    (paid_take (take l.signed.peer l.received) l.own l.signed.own h)

pub paid_based : (f : End) → ArePaid f.dance.log → ArePaid (based f).dance.log
paid_based f h = h
