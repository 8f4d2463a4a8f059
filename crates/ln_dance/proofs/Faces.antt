-- What one side signs its partner accepts, and what that one revokes the first learns.
use Rattle.std.proofs.Common.{◌≡◌, ℕ, ◌+◌, length, take, sym, ap, ◌∙◌, arith, Bool, true, false}
use Rattle.std.proofs.Common.{cond, Some, None, inl, inr}
use Rattle.std.proofs.lemmas.List.{take_all}
use Rattle.std.proofs.lemmas.Bool.Decides.{eqb_tells}
use Rattle.ln_msgs.specs.declared.messages.commitments.CommitmentSigned.{CommitmentSigned}
use Rattle.ln_msgs.specs.declared.messages.commitments.RevokeAndAck.{RevokeAndAck}
use Rattle.ln_refusals.specs.declared.refusal.Refusal.TheVariants as refusal
use Rattle.ln_keys.specs.Signer.{Signer}
use Rattle.ln_keys.specs.Partners.{ArePartners}
use Rattle.ln_log.specs.declared.log.Pair.TheVariants as pair
use Rattle.ln_log.specs.Updates.{all_sent}
use Rattle.ln_log.specs.Log.{covered, counts_of, view_for}
use Rattle.ln_log.specs.Machine.{Covered}
use Rattle.ln_dance.specs.Dance.{Dancer, IsNumber, last_number, view_at, owes, is_last, signed_message}
use Rattle.ln_dance.specs.Dance.{accept_fault, revoked_message, learn_fault, after_learn}
use Rattle.ln_dance.specs.Exchange.{IsSignedFor, IsRevokedFor}
use Rattle.ln_log.proofs.Sent.{turned_views}

-- what the one signed for is what the other accepts
view_faces : (k : Signer) (x y : Dancer) → IsSignedFor k x y → view_at pair.ToSign x ≡ view_at pair.ToAccept y
view_faces k x y h =
    let own : all_sent (take (length x.log.own) x.log.own) ≡ all_sent (take (length y.log.received) y.log.received)
    = ap all_sent (take_all (length x.log.own) x.log.own (omega arith)) ∙ h.own
    ∙ sym (ap all_sent (take_all (length y.log.received) y.log.received (omega arith))) in
    let both : Covered = covered y.log (counts_of pair.ToAccept y.log) in
    turned_views x.log.opening x.log.role (covered x.log (counts_of pair.ToSign x.log)) both (cc (own, h.peer))
    ∙ ap (λ r. view_for x.log.opening r both) (sym h.roles)
    ∙ ap (λ o. view_for o y.log.role both) (sym h.opening)

not_last : (n : ℕ) → IsNumber (n + 1) → is_last n ≡ false
not_last n below = elim (eqb_tells n last_number) [
  | inl g ↦
      absurd (let is = g.1 in omega (arith, below, is))
  | inr g ↦ g.0
]

accepted_if : (b c : Bool) → b ≡ false → c ≡ true
    → cond b (Some refusal.OutOfPlace) (cond c None (Some refusal.SignatureWrong)) ≡ None
accepted_if b c eb ec = ap (λ x. cond x (Some refusal.OutOfPlace) (cond c None (Some refusal.SignatureWrong))) eb
    ∙ ap (λ x. cond x None (Some refusal.SignatureWrong)) ec

pub accepted : (a b : Signer) (x y : Dancer) (m : CommitmentSigned) → ArePartners a b → IsSignedFor b x y
    → IsNumber (x.numbers.signed + 1) → m ≡ signed_message a x → accept_fault b m y ≡ None
accepted a b x y m p h below e =
    let last : is_last y.numbers.commitment ≡ false = ap is_last h.number ∙ not_last x.numbers.signed below in
    let next : y.numbers.commitment + 1 ≡ x.numbers.signed + 1 = ap (λ n. n + 1) h.number in
    accepted_if (is_last y.numbers.commitment) _ last
    (ap (λ n. b.accepts n (b.point_of n) (view_at pair.ToAccept y) m.signature m.htlc_signatures) next
    ∙ ap (λ q. b.accepts (x.numbers.signed + 1) q (view_at pair.ToAccept y) m.signature m.htlc_signatures) (sym h.point)
    ∙ ap (λ v. b.accepts (x.numbers.signed + 1) x.peer.next_point v m.signature m.htlc_signatures)
    (sym (view_faces b x y h))
    ∙ ap (λ (n : CommitmentSigned). b.accepts (x.numbers.signed + 1) x.peer.next_point (view_at pair.ToSign x)
    n.signature n.htlc_signatures) e
    ∙ p.there.commitments (x.numbers.signed + 1) x.peer.next_point (view_at pair.ToSign x)
    (omega (arith, below)) h.point_length)

learned_if : (b c : Bool) → b ≡ true → c ≡ true
    → cond b (cond c None (Some refusal.SecretWrong)) (Some refusal.NothingToRevoke) ≡ None
learned_if b c eb ec = ap (λ x. cond x (cond c None (Some refusal.SecretWrong)) (Some refusal.NothingToRevoke)) eb
    ∙ ap (λ x. cond x None (Some refusal.SecretWrong)) ec

pub learned : (a b : Signer) (x y : Dancer) (m : RevokeAndAck) → ArePartners a b → IsRevokedFor b y x
    → IsNumber y.numbers.commitment → owes x ≡ true → m ≡ revoked_message b y → learn_fault a m x ≡ None
learned a b x y m p h below o e =
    let at : x.peer.point ≡ b.point_of y.numbers.commitment = h.point ∙ ap b.point_of (sym h.number) in
    learned_if (owes x) _ o
    (ap (λ (n : RevokeAndAck). a.fits x.numbers.revoked n.secret x.peer.point) e
    ∙ ap (λ n. a.fits n (b.secret_of y.numbers.commitment) x.peer.point) (sym h.number)
    ∙ ap (a.fits y.numbers.commitment (b.secret_of y.numbers.commitment)) at
    ∙ p.back.secrets y.numbers.commitment (omega (arith, below)))

pub told : (b : Signer) (x y : Dancer) (m : RevokeAndAck) → IsRevokedFor b y x → m ≡ revoked_message b y
    → (after_learn m x).peer.next_point ≡ b.point_of ((after_learn m x).numbers.revoked + 1)
told b x y m h e = ap (λ (n : RevokeAndAck). n.next_point) e
    ∙ ap b.point_of (let same = h.number in omega (arith, same))
