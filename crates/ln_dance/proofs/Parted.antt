-- What partners tell each other as a connection comes back is served, and what is sent again is what was sent first.
use Rattle.std.proofs.Common.{◌≡◌, ◌≢◌, ◌↔◌, ℕ, ◌+◌, ◌-◌, ◌≤◌, List, [], ◌∷◌, ◌++◌, take, drop, length}
use Rattle.std.proofs.Common.{refl, sym, ap, ◌∙◌, arith, Bool, true, false, cond, not, ◌&&◌, ◌||◌, ◌==◌}
use Rattle.std.proofs.Common.{Option, Some, None, inl, inr}
use Rattle.std.proofs.lemmas.Bool.{eq-eqb}
use Rattle.std.proofs.lemmas.Bool.Decides.{eqb_tells}
use Rattle.std.proofs.lemmas.List.{take-append-le, take-take, take_all}
use Rattle.ln_bytes.specs.Same.{are_same}
use Rattle.ln_bytes.proofs.Same.{same_as_itself}
use Rattle.ln_msgs.specs.declared.messages.commitments.ChannelReestablish.{ChannelReestablish}
use Rattle.ln_msgs.specs.declared.messages.commitments.CommitmentSigned.{CommitmentSigned}
use Rattle.ln_msgs.specs.declared.messages.commitments.RevokeAndAck.{RevokeAndAck}
use Rattle.ln_refusals.specs.declared.refusal.Refusal.{Refusal}
use Rattle.ln_refusals.specs.declared.refusal.Refusal.TheVariants as refusal
use Rattle.ln_keys.specs.declared.view.View.{View}
use Rattle.ln_keys.specs.Signer.{Signer}
use Rattle.ln_log.specs.declared.update.Update.{Update}
use Rattle.ln_log.specs.declared.log.Pair.TheVariants as pair
use Rattle.ln_log.specs.Machine.{Covered}
use Rattle.ln_log.specs.Log.{IsWithin, after_propose, after_receive, after_drop, unacknowledged}
use Rattle.ln_log.specs.Log.{covered, counts_of, view_for}
use Rattle.ln_dance.specs.Dance.{Dancer, view_at, owes, after_sign, signed_message, after_accept, revoked_message}
use Rattle.ln_dance.specs.Dance.{after_learn, with_log, with_next_point}
use Rattle.ln_dance.specs.Resume.{secret_or_zeros, reestablish_message, lacks_signature, lacks_revocation}
use Rattle.ln_dance.specs.Resume.{can_be_served, knows_secret, lost_data, resume_fault, signature_again}
use Rattle.ln_dance.specs.Resume.{revocation_again}
use Rattle.ln_dance.specs.Reconnect.{KeepsUp, HaveParted, HasSigned, HasRevoked}

-- ---- what is told is served

first_holds : (b c : Bool) → b ≡ true → b || c ≡ true
first_holds true c e = refl
first_holds false c e = absurd (cc)

second_holds : (b c : Bool) → c ≡ true → b || c ≡ true
second_holds true c e = refl
second_holds false c e = e

pub both_hold : (b c : Bool) → b ≡ true → c ≡ true → b && c ≡ true
both_hold true c eb ec = ec
both_hold false c eb ec = absurd (cc)

are_both : (b c : Bool) → b && c ≡ true → b ≡ true
are_both true c e = refl
are_both false c e = absurd (cc)

is_equal : (m n : ℕ) → (m == n) ≡ true → m ≡ n
is_equal m n e = elim (eqb_tells m n) [ inl g ↦ g.1 | inr g ↦ absurd (let no : true ≡ false = sym e ∙ g.0 in cc) ]

-- the last signature, of s, is lacked by who has commitment c, where it isn't accepted
waits : (c s a : ℕ) → a ≤ c → s ≤ a + 1 → c + 1 ≡ s → (c + 1 == s) && (s == a + 1) ≡ true
waits c s a above one e = both_hold _ _ (eq-eqb (c + 1) s e) (eq-eqb s (a + 1) (omega (arith, above, one, e)))

next_after : (c s a : ℕ) → a ≤ c → c ≤ s → s ≤ a + 1 → c + 1 ≢ s + 1 → c + 1 ≡ s
next_after c s a above below one differ = omega (arith, above, below, one, differ)

pub serves_signature : (c s a : ℕ) → a ≤ c → c ≤ s → s ≤ a + 1
    → (c + 1 == s + 1) || ((c + 1 == s) && (s == a + 1)) ≡ true
serves_signature c s a above below one = elim (eqb_tells (c + 1) (s + 1)) [
  | inl g ↦ first_holds _ _ g.0
  | inr g ↦ second_holds _ _ (waits c s a above one (next_after c s a above below one g.1))
]

one_less : (a c s : ℕ) → a ≤ c → c ≤ s → s ≤ a + 1 → a ≢ c → a + 1 ≡ c
one_less a c s above below one differ = omega (arith, above, below, one, differ)

pub serves_revocation : (a c s : ℕ) → a ≤ c → c ≤ s → s ≤ a + 1 → (a == c) || (a + 1 == c) ≡ true
serves_revocation a c s above below one = elim (eqb_tells a c) [
  | inl g ↦ first_holds _ _ g.0
  | inr g ↦ second_holds _ _ (eq-eqb (a + 1) c (one_less a c s above below one g.1))
]

-- the last of n secrets is o
abbrev pub IsLast : Signer → ℕ → Option (List ℕ) → Type 0
IsLast k n o = (i : ℕ) → n ≡ i + 1 → o ≡ Some (k.secret_of i)

is_told : (k : Signer) (n : ℕ) (o : Option (List ℕ)) → n ≢ 0 → IsLast k n o
    → are_same (secret_or_zeros o) (k.secret_of (n - 1)) ≡ true
is_told k n o some h =
    ap (λ p. are_same (secret_or_zeros p) (k.secret_of (n - 1))) (h (n - 1) (omega (arith, some)))
    ∙ same_as_itself (k.secret_of (n - 1))

pub knows : (k : Signer) (n : ℕ) (o : Option (List ℕ)) → IsLast k n o
    → (n == 0) || are_same (secret_or_zeros o) (k.secret_of (n - 1)) ≡ true
knows k n o h = elim (eqb_tells n 0) [
  | inl g ↦ first_holds _ _ g.0
  | inr g ↦ second_holds _ _ (is_told k n o g.1 h)
]

abbrev answer_by : Refusal → Bool → Bool → Option Refusal
answer_by r b c = cond b (cond c None (Some refusal.SecretWrong)) (Some r)

served_if : (r : Refusal) (b c : Bool) → b ≡ true → c ≡ true → answer_by r b c ≡ None
served_if r b c eb ec = ap (λ x. answer_by r x c) eb ∙ ap (λ x. answer_by r true x) ec

module _ (a b : Signer) (x y : Dancer) (m : ChannelReestablish) (h : HaveParted a b x y)
    (e : m ≡ reestablish_message b y) where
  is_served : can_be_served (reestablish_message b y) x ≡ true
  is_served =
      let s = h.there in
      let r = h.back in
      both_hold _ _
      (serves_signature y.numbers.commitment x.numbers.signed x.numbers.revoked s.revoked s.accepted s.one_unrevoked)
      (serves_revocation y.numbers.revoked x.numbers.commitment y.numbers.signed r.revoked r.accepted r.one_unrevoked)

  pub served : resume_fault a m x ≡ None
  served =
      ap (λ (n : ChannelReestablish). resume_fault a n x) e
      ∙ served_if (refusal.ReestablishNumber (lost_data a (reestablish_message b y) x))
      (can_be_served (reestablish_message b y) x) (knows_secret a (reestablish_message b y)) is_served
      (knows a y.numbers.revoked y.peer.secret h.back.secret)

  pub lacked_signature : lacks_signature m x ≡ true ↔ (y.numbers.commitment + 1 ≡ x.numbers.signed)
  lacked_signature =
      let s = h.there in
      let same : lacks_signature m x ≡ lacks_signature (reestablish_message b y) x
      = ap (λ (n : ChannelReestablish). lacks_signature n x) e in (
        λ t. is_equal (y.numbers.commitment + 1) x.numbers.signed (are_both _ _ (sym same ∙ t)),
        λ t. same ∙ waits y.numbers.commitment x.numbers.signed x.numbers.revoked s.revoked s.one_unrevoked t,
      )

  pub lacked_revocation : lacks_revocation m x ≡ true ↔ (y.numbers.revoked + 1 ≡ x.numbers.commitment)
  lacked_revocation =
      let same : lacks_revocation m x ≡ lacks_revocation (reestablish_message b y) x
      = ap (λ (n : ChannelReestablish). lacks_revocation n x) e in (
        λ t. is_equal (y.numbers.revoked + 1) x.numbers.commitment (sym same ∙ t),
        λ t. same ∙ eq-eqb (y.numbers.revoked + 1) x.numbers.commitment t,
      )

-- ---- the dance keeps up

none_owed : (s r : ℕ) → not (s == r) ≡ false → s ≡ r
none_owed s r e = elim (eqb_tells s r) [
  | inl g ↦ g.1
  | inr g ↦ absurd (let is : true ≡ false = ap not (sym g.0) ∙ e in cc)
]

pub up_signed : (k : Signer) (x y : Dancer) → owes x ≡ false → KeepsUp k x y → KeepsUp k (after_sign x) y
up_signed k x y o h =
    let all = none_owed x.numbers.signed x.numbers.revoked o in
    let below = h.accepted in
    record {
      revoked = h.revoked;
      accepted = omega (arith, below);
      one_unrevoked = omega (arith, all);
      secret = h.secret;
    }

pub up_accepted : (k : Signer) (x y : Dancer) → y.numbers.commitment + 1 ≡ x.numbers.signed → KeepsUp k x y
    → KeepsUp k x (after_accept y)
up_accepted k x y e h =
    let above = h.revoked in
    record {
      revoked = omega (arith, above);
      accepted = omega (arith, e);
      one_unrevoked = h.one_unrevoked;
      secret = h.secret;
    }

same_place : (m n : ℕ) → m + 1 ≡ n + 1 → m ≡ n
same_place m n e = omega (arith, e)

pub up_learned : (k : Signer) (x y z : Dancer) (m : RevokeAndAck) → z.numbers.commitment ≡ x.numbers.revoked
    → m ≡ revoked_message k z → x.numbers.revoked + 1 ≡ y.numbers.commitment → KeepsUp k x y
    → KeepsUp k (after_learn m x) y
up_learned k x y z m at e next h =
    let below = h.one_unrevoked in
    record {
      revoked = omega (arith, next);
      accepted = h.accepted;
      one_unrevoked = omega (arith, below);
      secret = λ n t.
          ap (λ (r : RevokeAndAck). Some r.secret) e
          ∙ ap (λ i. Some (k.secret_of i)) (at ∙ same_place x.numbers.revoked n t);
    }

-- ---- what is sent again

same_view : (x z : Dancer) → HasSigned x z → view_at pair.Signed z ≡ view_at pair.ToSign x
same_view x z h =
    let own : List Update = take (length x.log.own) x.log.own in
    let whole : x.log.own ≡ own = sym (take_all (length x.log.own) x.log.own (omega arith)) in
    let lists : covered z.log (counts_of pair.Signed z.log) ≡ covered x.log (counts_of pair.ToSign x.log)
    = ap (λ us. record { own = us; peer = take z.log.signed.peer z.log.received }) (h.own ∙ whole)
    ∙ ap (λ us. record { own = own; peer = us }) h.peer in
    ap (λ o. view_for o z.log.role (covered z.log (counts_of pair.Signed z.log))) h.opening
    ∙ ap (λ r. view_for x.log.opening r (covered z.log (counts_of pair.Signed z.log))) h.role
    ∙ ap (λ (c : Covered). view_for x.log.opening x.log.role c) lists

abbrev signed_with : Signer → List ℕ → ℕ → List ℕ → View → CommitmentSigned
signed_with k channel n point v = record {
  channel_id = channel;
  signature = k.signature n point v;
  htlc_signatures = k.htlc_signatures n point v;
  records = [];
}

pub signed_again : (k : Signer) (x z : Dancer) → HasSigned x z → signature_again k z ≡ signed_message k x
signed_again k x z h =
    ap (λ c. signed_with k c z.numbers.signed z.peer.next_point (view_at pair.Signed z)) h.channel
    ∙ ap (λ n. signed_with k x.channel n z.peer.next_point (view_at pair.Signed z)) h.number
    ∙ ap (λ p. signed_with k x.channel (x.numbers.signed + 1) p (view_at pair.Signed z)) h.point
    ∙ ap (λ v. signed_with k x.channel (x.numbers.signed + 1) x.peer.next_point v) (same_view x z h)

pub same_updates : (x z : Dancer) → HasSigned x z → unacknowledged z.log ≡ drop x.log.acknowledged.own x.log.own
same_updates x z h =
    ap (λ n. drop n (take z.log.signed.own z.log.own)) h.acknowledged ∙ ap (drop x.log.acknowledged.own) h.own

pub signs_so : (x : Dancer) → HasSigned x (after_sign x)
signs_so x = record {
  channel = refl;
  opening = refl;
  role = refl;
  own = take_all (length x.log.own) x.log.own (omega arith);
  peer = refl;
  acknowledged = refl;
  number = refl;
  point = refl;
}

-- with other updates after those that were signed
with_lists : (x z : Dancer) (own got : List Update) → take z.log.signed.own own ≡ take z.log.signed.own z.log.own
    → take z.log.signed.peer got ≡ take z.log.signed.peer z.log.received → HasSigned x z
    → HasSigned x (with_log (record z.log { own = own; received = got }) z)
with_lists x z own got eo eg h = record {
  channel = h.channel;
  opening = h.opening;
  role = h.role;
  own = eo ∙ h.own;
  peer = eg ∙ h.peer;
  acknowledged = h.acknowledged;
  number = h.number;
  point = h.point;
}

pub so_proposed : (x z : Dancer) (u : Update) → IsWithin z.log → HasSigned x z
    → HasSigned x (with_log (after_propose u z.log) z)
so_proposed x z u w h =
    with_lists x z (z.log.own ++ u ∷ []) z.log.received
    (take-append-le z.log.signed.own z.log.own (u ∷ []) w.own_signed) refl h

pub so_received : (x z : Dancer) (u : Update) → IsWithin z.log → HasSigned x z
    → HasSigned x (with_log (after_receive u z.log) z)
so_received x z u w h =
    let below = w.peer_signed in
    let within = w.peer_current in
    with_lists x z z.log.own (z.log.received ++ u ∷ [])
    refl (take-append-le z.log.signed.peer z.log.received (u ∷ []) (omega (arith, below, within))) h

pub so_accepted : (x z : Dancer) → HasSigned x z → HasSigned x (after_accept z)
so_accepted x z h = record {
  channel = h.channel;
  opening = h.opening;
  role = h.role;
  own = h.own;
  peer = h.peer;
  acknowledged = h.acknowledged;
  number = h.number;
  point = h.point;
}

pub so_dropped : (x z : Dancer) → IsWithin z.log → HasSigned x z → HasSigned x (with_log (after_drop z.log) z)
so_dropped x z w h =
    with_lists x z (take z.log.signed.own z.log.own) (take z.log.current.peer z.log.received)
    (take-take z.log.signed.own z.log.signed.own z.log.own (omega arith))
    (take-take z.log.signed.peer z.log.current.peer z.log.received w.peer_signed) h

pub so_told : (x z : Dancer) (p : List ℕ) → p ≡ x.peer.next_point → HasSigned x z → HasSigned x (with_next_point p z)
so_told x z p e h = record {
  channel = h.channel;
  opening = h.opening;
  role = h.role;
  own = h.own;
  peer = h.peer;
  acknowledged = h.acknowledged;
  number = h.number;
  point = e;
}

-- the secret of one commitment, and the point of another
abbrev revoked_with : Signer → List ℕ → ℕ → ℕ → RevokeAndAck
revoked_with k channel m n = record {
  channel_id = channel;
  secret = k.secret_of m;
  next_point = k.point_of n;
  records = [];
}

pub revoked_again : (k : Signer) (x z : Dancer) → HasRevoked x z → revocation_again k z ≡ revoked_message k x
revoked_again k x z h =
    let next = h.number in
    ap (λ c. revoked_with k c (z.numbers.commitment - 1) (z.numbers.commitment + 1)) h.channel
    ∙ ap (λ n. revoked_with k x.channel n (z.numbers.commitment + 1)) (omega (arith, next))
    ∙ ap (λ n. revoked_with k x.channel x.numbers.commitment n) (omega (arith, next))

pub revokes_so : (x : Dancer) → HasRevoked x (after_accept x)
revokes_so x = record { channel = refl; number = refl }
