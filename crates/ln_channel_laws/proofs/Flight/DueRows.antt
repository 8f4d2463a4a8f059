-- What is due in front of an end is taken by its rows.
use Rattle.std.proofs.Common.{◌&&◌}
use Rattle.std.proofs.Common.{◌≡◌, ℕ, ◌+◌, ◌<◌, ◌^◌, List, length, take, refl, sym, ap, ◌∙◌, arith, Bool, true, false}
use Rattle.std.proofs.Common.{cond, not, ◌||◌, ◌==◌, nat_le, option_map, Option, Some, None, Ok, inl, inr}
use Rattle.std.proofs.lemmas.Bool.Decides.{eqb_tells}
use Rattle.ln_msgs.specs.declared.messages.commitments.CommitmentSigned.{CommitmentSigned}
use Rattle.ln_msgs.specs.declared.messages.commitments.RevokeAndAck.{RevokeAndAck}
use Rattle.ln_refusals.specs.declared.refusal.Refusal.{Refusal}
use Rattle.ln_refusals.specs.declared.refusal.Refusal.TheVariants as refusal
use Rattle.ln_keys.specs.declared.role.Role.{Role}
use Rattle.ln_keys.specs.Role.{other_role}
use Rattle.ln_keys.specs.Signer.{Signer}
use Rattle.ln_keys.specs.Partners.{ArePartners}
use Rattle.ln_log.specs.declared.opening.Opening.{Opening}
use Rattle.ln_log.specs.declared.update.Update.{Update as Change}
use Rattle.ln_log.specs.declared.update.Update.TheVariants as update
use Rattle.ln_log.specs.Updates.{as_sent, all_sent, removed}
use Rattle.ln_log.specs.Limits.{first_fault, id_fault, is_at_update_limit}
use Rattle.ln_log.specs.Limits as limits
use Rattle.ln_log.specs.Log.{taken_fault, proposal_fault, removal_fault, length_fault, peer_limit}
use Rattle.ln_log.proofs.Sent.{next_sent, update_fault_sent}
use Rattle.ln_dance.specs.Dance.{Dancer, revoked_message, accept_fault, learn_fault}
use Rattle.ln_dance.specs.Messages.{update_message}
use Rattle.ln_dance.specs.Resume.{signature_again, revocation_again}
use Rattle.ln_dance.specs.Exchange.{IsSignedFor, IsRevokedFor}
use Rattle.ln_dance.specs.Reconnect.{HasSigned, HasRevoked}
use Rattle.ln_dance.proofs.Faces.{accepted, learned, told}
use Rattle.ln_dance.proofs.Parted.{signed_again, revoked_again}
use Rattle.ln_channel.specs.End.{End, is_ready, is_settled, quiet}
use Rattle.ln_channel.specs.Taking.{takes, late_fault, early_fault, update_fault, update_row, signature_fault}
use Rattle.ln_channel.specs.Taking.{signature_row, accepting, accepts, learning, revokes, revocation_row, message_row}
use Rattle.ln_channel_laws.proofs.Tests.{first_none, no_fault, unless_none}
use Rattle.ln_channel_laws.proofs.Flight.Sides.{opens}
use Rattle.ln_channel_laws.proofs.Flight.Walk.{FitsBehind}
use Rattle.ln_channel_laws.proofs.Readiness.ReadinessInFlight.{IsAllowed}
use Rattle.ln_channel_laws.proofs.Flight.Images.{length-sent, take-sent, sent-twice}

-- ---- an update

pub row_of_update : (k : Signer) (channel : List ℕ) (u : Change) (e : End)
    → message_row k (update_message channel u) e ≡ update_row (as_sent u) e
row_of_update k channel (update.Add a) e = refl
row_of_update k channel (update.Fulfil f) e = refl
row_of_update k channel (update.Fail f) e = refl
row_of_update k channel (update.Malformed m) e = refl
row_of_update k channel (update.Fee f) e = refl

id_sent : (us : List Change) (u : Change) → id_fault (all_sent us) u ≡ id_fault us u
id_sent us (update.Add a) = ap (λ n. cond (a.id == n) None (Some refusal.BadId)) (next_sent us)
id_sent us (update.Fulfil f) = refl
id_sent us (update.Fail f) = refl
id_sent us (update.Malformed m) = refl
id_sent us (update.Fee f) = refl

pub room_sent : (us : List Change) → is_at_update_limit (all_sent us) ≡ is_at_update_limit us
room_sent us = ap (λ n. nat_le 4611686018427387904 n) (length-sent us)

unbegun : (s p t : Bool) → p ≡ false → (s && (p && t)) ≡ false
unbegun true p t e = ap (λ b. b && t) e
unbegun false p t e = refl

late_none : (e : End) (u : Change) → IsAllowed (opens u) e.closing.peer_shut → late_fault e u ≡ None
late_none e (update.Add a) may = ap (λ s. cond s (Some refusal.AddAfterShutdown) None) may
late_none e (update.Fulfil f) may = refl
late_none e (update.Fail f) may = refl
late_none e (update.Malformed m) may = refl
late_none e (update.Fee f) may = ap (λ s. cond s (Some refusal.OutOfPlace) None)
    (unbegun e.closing.shut e.closing.peer_shut (is_settled e.dance.log) may)

early_none : (ready full : Bool) (f : Option Refusal) → ready ≡ true → full ≡ false → f ≡ None
    → cond (not ready || full) (Some refusal.OutOfPlace) f ≡ None
early_none true false f e g h = h
early_none true true f e g h = absurd (cc)
early_none false full f e g h = absurd (cc)

firsts : (f g : Option Refusal) → f ≡ None → g ≡ None → first_fault f g ≡ None
firsts f g e h = ap (λ o. first_fault o g) e ∙ h

-- what stays with the sender changes nothing
same_limits : (o : Opening) (r : Role) (own seen held : List Change) (n m : ℕ) (u : Change)
    → limits.update_fault o r (all_sent own) (take n (all_sent seen)) (take m (all_sent held)) (as_sent u)
    ≡ limits.update_fault o r own (take n seen) (take m held) u
same_limits o r own seen held n m u =
    ap (λ s. limits.update_fault o r (all_sent own) s (take m (all_sent held)) (as_sent u)) (take-sent n seen)
    ∙ ap (λ s. limits.update_fault o r (all_sent own) (all_sent (take n seen)) s (as_sent u)) (take-sent m held)
    ∙ update_fault_sent o r own (take n seen) (take m held) u

unlimited : (o : Opening) (r : Role) (e : End) (u : Change) → e.dance.log.opening ≡ o → other_role e.dance.log.role ≡ r
    → FitsBehind o r (all_sent e.dance.log.received) (take e.dance.log.acknowledged.own (all_sent e.dance.log.own))
    (take e.dance.log.current.own (all_sent e.dance.log.own)) u → taken_fault e.dance.log u ≡ None
unlimited o r e u eo er f =
    let l = e.dance.log in
    let a = l.acknowledged.own in
    let c = l.current.own in
    firsts (cond (is_at_update_limit l.received) (Some refusal.OutOfPlace) None) _
    (ap (λ b. cond b (Some refusal.OutOfPlace) None) (sym (room_sent l.received) ∙ f.room))
    (firsts (id_fault l.received u) _ (sym (id_sent l.received u) ∙ f.next)
    (ap (λ q. limits.update_fault q (other_role l.role) l.received (take a l.own) (take c l.own) u) eo
    ∙ ap (λ q. limits.update_fault o q l.received (take a l.own) (take c l.own) u) er
    ∙ sym (same_limits o r l.received l.own l.own a c u)
    ∙ ap (λ v. limits.update_fault o r (all_sent l.received) (take a (all_sent l.own))
    (take c (all_sent l.own)) v) f.sent
    ∙ f.within))

pub update_taken : (o : Opening) (r : Role) (e : End) (u : Change) → e.dance.log.opening ≡ o
    → other_role e.dance.log.role ≡ r → is_ready e ≡ true → IsAllowed (opens u) e.closing.peer_shut
    → FitsBehind o r (all_sent e.dance.log.received) (take e.dance.log.acknowledged.own (all_sent e.dance.log.own))
    (take e.dance.log.current.own (all_sent e.dance.log.own)) u → update_row u e ≡ Ok (quiet (takes u e))
update_taken o r e u eo er ready may f =
    unless_none (update_fault e u) (quiet (takes u e))
    (firsts (early_fault e u) (taken_fault e.dance.log u)
    (early_none (is_ready e) (is_at_update_limit e.dance.log.received) (late_fault e u) ready
    (sym (room_sent e.dance.log.received) ∙ f.room) (late_none e u may))
    (unlimited o r e u eo er f))

-- ---- an update of its own

id_as_sent : (us : List Change) (u : Change) → id_fault us (as_sent u) ≡ id_fault us u
id_as_sent us (update.Add a) = refl
id_as_sent us (update.Fulfil f) = refl
id_as_sent us (update.Fail f) = refl
id_as_sent us (update.Malformed m) = refl
id_as_sent us (update.Fee f) = refl

mapped_none : (f : Refusal → Refusal) (o : Option Refusal) → option_map f o ≡ None → o ≡ None
mapped_none f None e = refl
mapped_none f (Some r) e = absurd (cc)

pub proposal_fits : (e : End) (u : Change) → id_fault e.dance.log.own u ≡ None → proposal_fault e.dance.log u ≡ None
    → FitsBehind e.dance.log.opening e.dance.log.role (all_sent e.dance.log.own)
    (take e.dance.log.current.peer (all_sent e.dance.log.received))
    (take e.dance.log.acknowledged.peer (all_sent e.dance.log.received)) (as_sent u)
proposal_fits e u id h =
    let l = e.dance.log in
    let p = first_none (cond (is_at_update_limit l.own) (Some refusal.NumbersSpent) None) _ h in
    let q = first_none (removal_fault l (removed u)) _ p.1 in
    let r = first_none _ (length_fault u) q.1 in
    record {
      room = room_sent l.own ∙ no_fault (is_at_update_limit l.own) refusal.NumbersSpent p.0;
      next = id_sent l.own (as_sent u) ∙ id_as_sent l.own u ∙ id;
      within = same_limits l.opening l.role l.own l.received l.received l.current.peer l.acknowledged.peer u
          ∙ mapped_none peer_limit _ r.0;
      sent = sent-twice u;
    }

-- ---- a signature

-- y as it signed last
abbrev at_signing : Dancer → Dancer
at_signing y = record y {
  log = record y.log {
    own = take y.log.signed.own y.log.own;
    current = record { own = y.log.current.own; peer = y.log.signed.peer };
  };
  numbers = record { commitment = y.numbers.commitment; signed = y.numbers.revoked; revoked = y.numbers.revoked };
}

pub signature_right : (a b : Signer) (x y : Dancer) (m : CommitmentSigned) → ArePartners b a → m ≡ signature_again b y
    → x.numbers.commitment + 1 ≡ y.numbers.signed → y.numbers.signed ≡ y.numbers.revoked + 1
    → x.log.opening ≡ y.log.opening → x.log.role ≡ other_role y.log.role
    → all_sent x.log.received ≡ take y.log.signed.own (all_sent y.log.own)
    → take x.log.acknowledged.own (all_sent x.log.own) ≡ take y.log.signed.peer (all_sent y.log.received)
    → y.peer.next_point ≡ a.point_of (y.numbers.revoked + 1) → length (a.point_of (y.numbers.revoked + 1)) ≡ 33
    → y.numbers.signed < 2 ^ 48 → accept_fault a m x ≡ None
signature_right a b x y m p named next one eo er own peer point len below =
    let z = at_signing y in
    let has : HasSigned z y = record {
      channel = refl;
      opening = refl;
      role = refl;
      own = refl;
      peer = refl;
      acknowledged = refl;
      number = one;
      point = refl;
    } in
    let for : IsSignedFor a z x = record {
      opening = eo;
      roles = er;
      own = sym (own ∙ take-sent y.log.signed.own y.log.own);
      peer = sym (take-sent y.log.signed.peer y.log.received) ∙ sym peer ∙ take-sent x.log.acknowledged.own x.log.own;
      number = omega (arith, next, one);
      point = point;
      point_length = ap length point ∙ len;
    } in
    accepted b a z x m p for (omega (arith, below, one)) (named ∙ signed_again b z y has)

pub signature_taken : (k : Signer) (m : CommitmentSigned) (e : End) → is_ready e ≡ true
    → accept_fault k m e.dance ≡ None → signature_row k m e ≡ Ok (accepting k e.dance.log.current.own e (accepts e))
signature_taken k m e ready h = unless_none (signature_fault k m e) _
    (ap (λ b. cond b (accept_fault k m e.dance) (Some refusal.OutOfPlace)) ready ∙ h)

-- ---- a revocation

-- y as it accepted last
abbrev at_accepting : ℕ → Dancer → Dancer
at_accepting n y = record y {
  numbers = record {
    commitment = n;
    signed = y.numbers.signed;
    revoked = y.numbers.revoked;
  };
}

owing : (s a : ℕ) → s ≡ a + 1 → not (s == a) ≡ true
owing s a e = elim (eqb_tells s a) [
  | inl g ↦
      absurd (let is = g.1 in omega (arith, e, is))
  | inr g ↦ ap not g.0
]

abbrev pub IsTold : Signer → Dancer → Dancer → RevokeAndAck → Type 0
IsTold b x y m = IsRevokedFor b (at_accepting x.numbers.revoked y) x
    × (m ≡ revoked_message b (at_accepting x.numbers.revoked y))

pub revoked_so : (b : Signer) (x y : Dancer) (m : RevokeAndAck) → m ≡ revocation_again b y
    → x.numbers.revoked + 1 ≡ y.numbers.commitment
    → x.peer.point ≡ b.point_of x.numbers.revoked → IsTold b x y m
revoked_so b x y m named next point =
    let z = at_accepting x.numbers.revoked y in
    let has : HasRevoked z y = record { channel = refl; number = sym next } in
    (record { number = refl; point = point }, named ∙ revoked_again b z y has)

pub revocation_right : (a b : Signer) (x y : Dancer) (m : RevokeAndAck) → ArePartners a b → IsTold b x y m
    → x.numbers.signed ≡ x.numbers.revoked + 1 → x.numbers.signed < 2 ^ 48 → learn_fault a m x ≡ None
revocation_right a b x y m p t one below = learned a b x (at_accepting x.numbers.revoked y) m p t.0
    (omega (arith, one, below)) (owing x.numbers.signed x.numbers.revoked one) t.1

pub next_told : (b : Signer) (x y : Dancer) (m : RevokeAndAck) → IsTold b x y m
    → m.next_point ≡ b.point_of (x.numbers.revoked + 1 + 1)
next_told b x y m t = told b x (at_accepting x.numbers.revoked y) m t.0 t.1

pub revocation_taken : (k : Signer) (m : RevokeAndAck) (e : End) → learn_fault k m e.dance ≡ None
    → revocation_row k m e ≡ Ok (learning e.dance.log.acknowledged.peer (revokes m e))
revocation_taken k m e h = unless_none (learn_fault k m e.dance) _ h
