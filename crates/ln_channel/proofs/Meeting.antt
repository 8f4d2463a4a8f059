-- Between partners no message of an opening is refused, and its ends are the two ends of one channel.
use Rattle.std.proofs.Common.{◌≡◌, ℕ, ◌*◌, nat_eq, nat_le, List, [], length, refl, sym, ap, ◌∙◌, subst}
use Rattle.std.proofs.Common.{arith}
use Rattle.std.proofs.Common.{Bool, true, cond, ◌&&◌, Option, Some, None, Result, Ok, Err}
use Rattle.std.specs.Cmp.Lexicographic.{pointwise}
use Rattle.std.proofs.lemmas.Bool.{le-leb}
use Rattle.std.proofs.lemmas.List.{nil_from_length}
use Rattle.ln_bytes.proofs.Same.{same_as_itself, same_if_equal}
use Rattle.ln_bytes.specs.Tlv.{value_of}
use Rattle.ln_msgs.specs.declared.messages.opening.AcceptChannel.{AcceptChannel}
use Rattle.ln_msgs.specs.declared.messages.opening.FundingCreated.{FundingCreated}
use Rattle.ln_msgs.specs.declared.messages.opening.FundingSigned.{FundingSigned}
use Rattle.ln_refusals.specs.declared.refusal.Refusal.{Refusal}
use Rattle.ln_refusals.specs.declared.refusal.Refusal.TheVariants as refusal
use Rattle.ln_keys.specs.declared.view.View.{View}
use Rattle.ln_keys.specs.Signer.{Signer}
use Rattle.ln_keys.specs.Partners.{IsVerifiedBy}
use Rattle.ln_log.specs.declared.log.Pair.TheVariants as pair
use Rattle.ln_log.specs.declared.log.Side.TheVariants as side
use Rattle.ln_log.specs.declared.opening.Opening.{Opening}
use Rattle.ln_log.specs.Opening.{IsFit, is_fit}
use Rattle.ln_dance.specs.Dance.{view_at}
use Rattle.ln_channel.specs.declared.config.Config.{Config}
use Rattle.ln_channel.specs.declared.config.OpenSpec.{OpenSpec}
use Rattle.ln_channel.specs.declared.opening.Opened.{Opened}
use Rattle.ln_channel.specs.Config.{offered}
use Rattle.ln_channel.specs.Opening.{Agreement, unless, open_message, open_fault, agreement, accept_message, typed}
use Rattle.ln_channel.specs.Opening.{repeats, accept_fault, funder_end, created_message, created_fault, fundee_end}
use Rattle.ln_channel.specs.Opening.{funding_message, first_fault}
use Rattle.ln_channel.specs.Meeting.{CanOpen, Opens, AreEnds}

-- ---- tests that pass

five : (p q r s t : Bool) → p ≡ true → q ≡ true → r ≡ true → s ≡ true → t ≡ true → (p && q && r && s && t) ≡ true
five p q r s t ep eq er es et =
    ap (λ b. b && q && r && s && t) ep ∙ ap (λ b. b && r && s && t) eq ∙ ap (λ b. b && s && t) er
    ∙ ap (λ b. b && t) es ∙ et

fit : (o : Opening) → IsFit o → is_fit o ≡ true
fit o f =
    five (nat_le 1 o.satoshis) (nat_le o.satoshis 2100000000000000) (nat_le o.push (1000 * o.satoshis))
    (nat_le o.funder.accepted 483) (nat_le o.fundee.accepted 483)
    (le-leb 1 o.satoshis f.some_funds) (le-leb o.satoshis 2100000000000000 f.funds)
    (le-leb o.push (1000 * o.satoshis) f.push) (le-leb o.funder.accepted 483 f.funder_accepts)
    (le-leb o.fundee.accepted 483 f.fundee_accepts)

unfaulted : (p q : Bool) → p ≡ true → q ≡ true → cond (p && q) None (Some refusal.OutOfPlace) ≡ None
unfaulted p q ep eq = ap (λ b. cond (b && q) None (Some refusal.OutOfPlace)) ep
    ∙ ap (λ b. cond b None (Some refusal.OutOfPlace)) eq

both : (p q : Bool) → p ≡ true → q ≡ true → (p && q) ≡ true
both p q ep eq = ap (λ b. b && q) ep ∙ eq

-- what is typed repeats what was asked for
repeated : (o : Option (List ℕ)) → repeats o (value_of 1 (typed o)) ≡ true
repeated None = refl
repeated (Some v) = same_as_itself v

-- what one signs of a commitment without HTLCs the other accepts
accepted : (one other : Signer) (point : List ℕ) (v : View) → IsVerifiedBy one other
    → length point ≡ 33 → length v.htlcs ≡ 0
    → other.accepts 0 point v (one.signature 0 point v) [] ≡ true
accepted one other point v t len none =
    let no : one.htlc_signatures 0 point v ≡ [] =
    nil_from_length (one.htlc_signatures 0 point v) (t.htlcs 0 point v ∙ none) in
    ap (λ (hs : List (List ℕ)). other.accepts 0 point v (one.signature 0 point v) hs) (sym no)
    ∙ t.commitments 0 point v (omega arith) len

right : (b : Bool) → b ≡ true → cond b None (Some refusal.SignatureWrong) ≡ None
right b e = ap (λ x. cond x None (Some refusal.SignatureWrong)) e

-- ---- the messages that they tell each other

abbrev told_accept : Signer → Signer → OpenSpec → Config → AcceptChannel
told_accept a b s c = accept_message b c (open_message a s)

abbrev told_agreement : Signer → Signer → OpenSpec → Config → Agreement
told_agreement a b s c = agreement b c (open_message a s)

abbrev told_created : Signer → Signer → OpenSpec → Config → FundingCreated
told_created a b s c = created_message a s (told_accept a b s c)

abbrev told_signed : Signer → Signer → OpenSpec → Config → FundingSigned
told_signed a b s c = funding_message b (told_agreement a b s c) (told_created a b s c)

abbrev first_end : Signer → Signer → OpenSpec → Config → Opened
first_end a b s c = funder_end a s (told_accept a b s c)

abbrev second_end : Signer → Signer → OpenSpec → Config → Opened
second_end a b s c = fundee_end (told_agreement a b s c) (told_created a b s c)

-- ---- none is refused

fit_both : (a b : Signer) (s : OpenSpec) (c : Config) → CanOpen a b s c → IsFit (offered s c.limits)
fit_both a b s c h = record {
  some_funds = h.spec.opening.some_funds;
  funds = h.spec.opening.funds;
  push = h.spec.opening.push;
  funder_accepts = h.spec.opening.funder_accepts;
  fundee_accepts = h.config.accepted;
}

open_right : (a b : Signer) (s : OpenSpec) (c : Config) → CanOpen a b s c → open_fault c (open_message a s) ≡ None
open_right a b s c h =
    unfaulted (pointwise nat_eq s.config.chain_hash c.chain_hash) (is_fit (offered s c.limits))
    (same_if_equal s.config.chain_hash c.chain_hash h.chain) (fit (offered s c.limits) (fit_both a b s c h))

accept_right : (a b : Signer) (s : OpenSpec) (c : Config) → CanOpen a b s c
    → accept_fault s (told_accept a b s c) ≡ None
accept_right a b s c h =
    let few : is_fit (offered s c.limits) ≡ true = fit (offered s c.limits) (fit_both a b s c h) in
    unfaulted (pointwise nat_eq s.temporary_id s.temporary_id) (is_fit (offered s c.limits)
    && repeats (value_of 1 s.records) (value_of 1 (typed (value_of 1 s.records))))
    (same_as_itself s.temporary_id)
    (both (is_fit (offered s c.limits)) (repeats (value_of 1 s.records) (value_of 1 (typed (value_of 1 s.records)))) few
    (repeated (value_of 1 s.records)))

created_right : (a b : Signer) (s : OpenSpec) (c : Config) → CanOpen a b s c
    → created_fault b (told_agreement a b s c) (told_created a b s c) ≡ None
created_right a b s c h =
    ap (λ x. cond x (first_fault b (second_end a b s c).dance (told_created a b s c).signature)
    (Some refusal.OutOfPlace)) (same_as_itself s.temporary_id)
    ∙ right _ (accepted a b (b.point_of 0) (view_at (pair.Current side.Own) (second_end a b s c).dance)
    h.partners.there (h.partners.back.sized_points 0 (omega arith)) refl)

signed_right : (a b : Signer) (s : OpenSpec) (c : Config) → CanOpen a b s c
    → first_fault a (first_end a b s c).dance (told_signed a b s c).signature ≡ None
signed_right a b s c h =
    right _ (accepted b a (a.point_of 0) (view_at (pair.Current side.Own) (first_end a b s c).dance)
    h.partners.back (h.partners.there.sized_points 0 (omega arith)) refl)

given : {A : Type 0} (f : Option Refusal) (x : A) → f ≡ None → unless f x ≡ Ok x
given f x e = ap (λ o. unless o x) e

pub none_refused : (a b : Signer) (s : OpenSpec) (c : Config) → CanOpen a b s c
    → (funder : Opened) × (fundee : Opened) × Opens a b s c funder fundee
none_refused a b s c h = (
  first_end a b s c,
  second_end a b s c,
  record {
    agreement = told_agreement a b s c;
    accept = told_accept a b s c;
    created = told_created a b s c;
    signed = told_signed a b s c;
    open_channel = given _ _ (open_right a b s c h);
    accept_channel = given _ _ (accept_right a b s c h);
    funding_created = given _ _ (created_right a b s c h);
    funding_signed = given _ _ (signed_right a b s c h);
  },
)

-- ---- what it comes to

abbrev ok_or : {A : Type 0} → A → Result A Refusal → A
ok_or x (Ok y) = y
ok_or x (Err r) = x

was_given : {A : Type 0} (f : Option Refusal) (x y : A) → unless f x ≡ Ok y → x ≡ y
was_given None x y e = ap (ok_or x) e
was_given (Some r) x y e = absurd (cc)

faced : (a b : Signer) (s : OpenSpec) (c : Config) → AreEnds a b (first_end a b s c) (second_end a b s c)
faced a b s c = record {
  channel = refl;
  opening = refl;
  roles = refl;
  open_channel = refl;
  accept_channel = refl;
  funders_point = refl;
  fundees_point = refl;
}

pub are_ends : (a b : Signer) (s : OpenSpec) (c : Config) (funder fundee : Opened) → Opens a b s c funder fundee
    → AreEnds a b funder fundee
are_ends a b s c funder fundee o =
    let opened : (told_agreement a b s c, told_accept a b s c) ≡ (o.agreement, o.accept) =
    was_given (open_fault c (open_message a s)) _ _ o.open_channel in
    let agreed : told_agreement a b s c ≡ o.agreement = ap (λ (p : Agreement × AcceptChannel). p.0) opened in
    let accept : told_accept a b s c ≡ o.accept = ap (λ (p : Agreement × AcceptChannel). p.1) opened in
    let answered : (funder_end a s o.accept, created_message a s o.accept) ≡ (funder, o.created) =
    was_given (accept_fault s o.accept) _ _ o.accept_channel in
    let created : told_created a b s c ≡ o.created = ap (created_message a s) accept
    ∙ ap (λ (p : Opened × FundingCreated). p.1) answered in
    let funder_is : first_end a b s c ≡ funder = ap (funder_end a s) accept
    ∙ ap (λ (p : Opened × FundingCreated). p.0) answered in
    let funded : (fundee_end o.agreement o.created, funding_message b o.agreement o.created) ≡ (fundee, o.signed) =
    was_given (created_fault b o.agreement o.created) _ _ o.funding_created in
    let fundee_is : second_end a b s c ≡ fundee =
    ap (λ (g : Agreement). fundee_end g (told_created a b s c)) agreed ∙ ap (fundee_end o.agreement) created
    ∙ ap (λ (p : Opened × FundingSigned). p.0) funded in
    let P : Opened → Type 0 = λ x. AreEnds a b x fundee in
    let Q : Opened → Type 0 = λ x. AreEnds a b (first_end a b s c) x in
    subst P funder_is (subst Q fundee_is (faced a b s c))
