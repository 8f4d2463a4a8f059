-- Each item is read as it is written, and nothing else is.
use Rattle.std.proofs.Common.{◌≡◌, ℕ, ◌/◌, ◌%◌, ◌<◌, Bool, true, false, cond, List, [], ◌∷◌, Option, Some}
use Rattle.std.proofs.Common.{None, nat_lt, ◌==◌, ◌+◌, ◌*◌, refl, sym, ap, ◌∙◌, arith, inl, inr}
use Rattle.std.proofs.lemmas.Bool.{eqb-true, ltb-true, eqb-false}
use Rattle.ln_bytes.proofs.Reading.{chosen}
use Rattle.ln_refusals.specs.declared.lost_data.LostData.TheVariants as lost_data
use Rattle.ln_refusals.specs.declared.refusal.Refusal.{Refusal}
use Rattle.ln_refusals.specs.declared.refusal.Refusal.TheVariants as refusal
use Rattle.ln_keys.specs.declared.role.Role.{Role}
use Rattle.ln_keys.specs.declared.role.Role.TheVariants.{Funder, Fundee}
use Rattle.ln_log.specs.declared.update.Add.{Add}
use Rattle.ln_log.specs.declared.update.Fulfil.{Fulfil}
use Rattle.ln_log.specs.declared.update.Fail.{Fail}
use Rattle.ln_log.specs.declared.update.Malformed.{Malformed}
use Rattle.ln_log.specs.declared.update.Fee.{Fee}
use Rattle.ln_log.specs.declared.update.Update.{Update}
use Rattle.ln_log.specs.declared.update.Update.TheVariants as kinds
use Rattle.ln_log.specs.Updates.{offered}
use Rattle.ln_dance.specs.declared.dance.Later.{Later}
use Rattle.ln_dance.specs.declared.dance.Later.TheVariants.{Signature, Revocation}
use Rattle.ln_log.specs.declared.mark.Mark.{Mark}
use Rattle.ln_log.specs.declared.mark.Mark.TheVariants as mark
use Rattle.ln_log.specs.declared.mark.EventRef.{EventRef}
use Rattle.ln_log.specs.declared.mark.EventRef.TheVariants as ref
use Rattle.ln_store.specs.declared.record.Flags.{Flags}
use Rattle.ln_store.specs.Format.{Format, number, fixed, sized, ◌&◌, kind}
use Rattle.ln_store.specs.Items as it
use Rattle.ln_store.specs.Items.{role_number, role_of, bit, later_bit, is_odd, flags_number, flags_of, failure_with}
use Rattle.ln_store.specs.Items.{failure_code, failure_number, failure_of, failures, update_tag, update_form, add_form}
use Rattle.ln_store.specs.Items.{event_tag, event_form, mark_tag, mark_form, the_fulfil, the_fail, the_malformed}
use Rattle.ln_store.specs.Items.{the_fee}
use Rattle.ln_store.specs.Items.{own_number, peer_number, the_close, forward_of, reason_of, code_of, preimage_of}
use Rattle.ln_store.specs.Items.{event_held}
use Rattle.ln_store.proofs.Formats.{IsLawful, number_is_lawful, fixed_is_lawful, sized_is_lawful, both_are_lawful}
use Rattle.ln_store.proofs.Formats.{list_is_lawful, optional_is_lawful, tagged_is_lawful, nothing_is_lawful}
use Rattle.ln_store.proofs.Formats.{made_is_lawful, kind_is_lawful, code_is_lawful, only_is_lawful}

-- ---- steps

also : {A B : Type 0} {f : Format A} {g : Format B} → IsLawful f → IsLawful g → IsLawful (f & g)
also {f = f} {g = g} lf lg = both_are_lawful f g lf lg

picked : {A : Type 0} (b : Bool) (f g : Format A) → IsLawful f → IsLawful g → IsLawful (cond b f g)
picked true f g lf lg = lf
picked false f g lf lg = lg

own_picked : {A : Type 0} (tag : A → ℕ) (n m : ℕ) (f g : Format A) (x : A) → (f.fits x ≡ true → tag x ≡ m)
    → (g.fits x ≡ true → tag x ≡ n) → (cond (n == m) f g).fits x ≡ true → tag x ≡ n
own_picked tag n m f g x pf pg h =
    elim (n == m) as (λ b. (n == m) ≡ b → (cond b f g).fits x ≡ true → tag x ≡ n) [
      | true ↦ λ e k. pf k ∙ sym (eqb-true n m e)
      | false ↦ λ e k. pg k
    ] refl h

abbrev here : {A : Type 0} → A → Option A
here x = Some x

some_is : {A : Type 0} (x y : A) → here x ≡ here y → x ≡ y
some_is x y e = cc

-- ---- who, and what was sent and taken

role_back : (n : ℕ) (r : Role) → role_of n ≡ Some r → role_number r ≡ n
role_back n r e = elim (chosen (n == 0) (Some Funder) _ (Some r) e) [
  | inl h ↦ ap role_number (sym (some_is Funder r h.1)) ∙ sym (eqb-true n 0 h.0)
  | inr h ↦ elim (chosen (n == 1) (Some Fundee) None (Some r) h.1) [
    | inl g ↦ ap role_number (sym (some_is Fundee r g.1)) ∙ sym (eqb-true n 1 g.0)
    | inr g ↦ absurd cc
  ]
]

role_forth : (x y : Role) → role_of (role_number x) ≡ Some y → y ≡ x
role_forth Funder y e = sym (some_is Funder y e)
role_forth Fundee y e = sym (some_is Fundee y e)

pub role_is_lawful : IsLawful it.role
unfolding it.role
role_is_lawful = code_is_lawful 1 role_number role_of (λ n x b e. role_back n x e) role_forth

bit_is : (m : ℕ) → bit (is_odd m) ≡ m % 2
bit_is m = elim (m % 2 == 1) as (λ b. (m % 2 == 1) ≡ b → bit b ≡ m % 2) [
  | true ↦ λ e. sym (eqb-true (m % 2) 1 e)
  | false ↦ λ e. let ne = eqb-false (m % 2) 1 e in omega (arith, ne)
] refl

later_is : (m : ℕ) → later_bit (cond (is_odd m) Revocation Signature) ≡ m % 2
later_is m = elim (m % 2 == 1) as (λ b. (m % 2 == 1) ≡ b → later_bit (cond b Revocation Signature) ≡ m % 2) [
  | true ↦ λ e. sym (eqb-true (m % 2) 1 e)
  | false ↦ λ e. let ne = eqb-false (m % 2) 1 e in omega (arith, ne)
] refl

half : (n : ℕ) → n ≡ n % 2 + 2 * (n / 2)
half n = omega arith

quarter : (n : ℕ) → n / 4 ≡ n / 2 / 2
quarter n = omega arith

eighth : (n : ℕ) → n / 8 ≡ n / 4 / 2
eighth n = omega arith

sixteenth : (n : ℕ) → n / 16 ≡ n / 8 / 2
sixteenth n = omega arith

bit_below : (n : ℕ) → n < 32 → n / 16 ≡ n / 16 % 2
bit_below n h = omega (arith, h)

bits_add_up : (n n2 n4 n8 n16 a b c d l : ℕ) → n ≡ a + 2 * n2 → n2 ≡ b + 2 * n4 → n4 ≡ c + 2 * n8 → n8 ≡ d + 2 * n16
    → n16 ≡ l → a + 2 * b + 4 * c + 8 * d + 16 * l ≡ n
bits_add_up n n2 n4 n8 n16 a b c d l e2 e4 e8 e16 e = omega (arith, e2, e4, e8, e16, e)

-- a number by its half and what is odd of it
halved : (n m r : ℕ) → n / 2 ≡ m → r ≡ n % 2 → n ≡ r + 2 * m
halved n m r e f = let h = half n in omega (arith, e, f, h)

flags_back : (n : ℕ) (f : Flags) → flags_of n ≡ Some f → flags_number f ≡ n
flags_back n f e = elim (chosen (nat_lt n 32) _ None (Some f) e) [
  | inl h ↦
      let below : n < 32 = ltb-true n 32 h.0 in
      ap flags_number (sym (some_is _ f h.1)) ∙ bits_add_up n (n / 2) (n / 4) (n / 8) (n / 16) _ _ _ _ _
      (halved n (n / 2) _ refl (bit_is n)) (halved (n / 2) (n / 4) _ (sym (quarter n)) (bit_is (n / 2)))
      (halved (n / 4) (n / 8) _ (sym (eighth n)) (bit_is (n / 4)))
      (halved (n / 8) (n / 16) _ (sym (sixteenth n)) (bit_is (n / 8)))
      (bit_below n below ∙ sym (later_is (n / 16)))
  | inr h ↦ absurd cc
]

flags_forth_of : (a b c d : Bool) (l : Later) (y : Flags) → flags_of (flags_number (record {
  ready_sent = a;
  ready_received = b;
  shut_sent = c;
  shut_received = d;
  later = l;
})) ≡ Some y → y ≡ record { ready_sent = a; ready_received = b; shut_sent = c; shut_received = d; later = l }
flags_forth_of true true true true Signature y e = sym (some_is _ y e)
flags_forth_of true true true true Revocation y e = sym (some_is _ y e)
flags_forth_of true true true false Signature y e = sym (some_is _ y e)
flags_forth_of true true true false Revocation y e = sym (some_is _ y e)
flags_forth_of true true false true Signature y e = sym (some_is _ y e)
flags_forth_of true true false true Revocation y e = sym (some_is _ y e)
flags_forth_of true true false false Signature y e = sym (some_is _ y e)
flags_forth_of true true false false Revocation y e = sym (some_is _ y e)
flags_forth_of true false true true Signature y e = sym (some_is _ y e)
flags_forth_of true false true true Revocation y e = sym (some_is _ y e)
flags_forth_of true false true false Signature y e = sym (some_is _ y e)
flags_forth_of true false true false Revocation y e = sym (some_is _ y e)
flags_forth_of true false false true Signature y e = sym (some_is _ y e)
flags_forth_of true false false true Revocation y e = sym (some_is _ y e)
flags_forth_of true false false false Signature y e = sym (some_is _ y e)
flags_forth_of true false false false Revocation y e = sym (some_is _ y e)
flags_forth_of false true true true Signature y e = sym (some_is _ y e)
flags_forth_of false true true true Revocation y e = sym (some_is _ y e)
flags_forth_of false true true false Signature y e = sym (some_is _ y e)
flags_forth_of false true true false Revocation y e = sym (some_is _ y e)
flags_forth_of false true false true Signature y e = sym (some_is _ y e)
flags_forth_of false true false true Revocation y e = sym (some_is _ y e)
flags_forth_of false true false false Signature y e = sym (some_is _ y e)
flags_forth_of false true false false Revocation y e = sym (some_is _ y e)
flags_forth_of false false true true Signature y e = sym (some_is _ y e)
flags_forth_of false false true true Revocation y e = sym (some_is _ y e)
flags_forth_of false false true false Signature y e = sym (some_is _ y e)
flags_forth_of false false true false Revocation y e = sym (some_is _ y e)
flags_forth_of false false false true Signature y e = sym (some_is _ y e)
flags_forth_of false false false true Revocation y e = sym (some_is _ y e)
flags_forth_of false false false false Signature y e = sym (some_is _ y e)
flags_forth_of false false false false Revocation y e = sym (some_is _ y e)

pub flags_are_lawful : IsLawful it.flags
unfolding it.flags
flags_are_lawful = code_is_lawful 1 flags_number flags_of (λ n x b e. flags_back n x e)
    (λ x y e. flags_forth_of x.ready_sent x.ready_received x.shut_sent x.shut_received x.later y e)

failure_back_of : (n : ℕ) (rs : List Refusal) (x : Option Refusal) → failure_with n rs ≡ Some x → failure_number x ≡ n
failure_back_of n [] x e = absurd cc
failure_back_of n (r ∷ rs) x e = elim (chosen (n == failure_code r) (Some (Some r)) _ (Some x) e) [
  | inl h ↦ ap failure_number (sym (some_is (Some r) x h.1)) ∙ sym (eqb-true n (failure_code r) h.0)
  | inr h ↦ failure_back_of n rs x h.1
]

failure_back : (n : ℕ) (x : Option Refusal) → failure_of n ≡ Some x → failure_number x ≡ n
failure_back n x e = elim (chosen (n == 0) (Some None) _ (Some x) e) [
  | inl h ↦ ap failure_number (sym (some_is None x h.1)) ∙ sym (eqb-true n 0 h.0)
  | inr h ↦ failure_back_of n failures x h.1
]

failure_forth : (x y : Option Refusal) → failure_of (failure_number x) ≡ Some y → y ≡ x
failure_forth None y e = sym (some_is None y e)
failure_forth (Some refusal.Truncated) y e = absurd cc
failure_forth (Some refusal.NotMinimal) y e = absurd cc
failure_forth (Some refusal.TlvOrder) y e = absurd cc
failure_forth (Some refusal.TlvUnknownEven) y e = absurd cc
failure_forth (Some refusal.TlvLength) y e = absurd cc
failure_forth (Some refusal.UnknownEvenType) y e = absurd cc
failure_forth (Some refusal.TooLong) y e = absurd cc
failure_forth (Some refusal.FieldLength) y e = absurd cc
failure_forth (Some refusal.UnknownFeature) y e = absurd cc
failure_forth (Some refusal.UnknownChannel) y e = absurd cc
failure_forth (Some refusal.OutOfPlace) y e = sym (some_is (Some refusal.OutOfPlace) y e)
failure_forth (Some refusal.BadId) y e = sym (some_is (Some refusal.BadId) y e)
failure_forth (Some refusal.AmountBelowMinimum) y e = sym (some_is (Some refusal.AmountBelowMinimum) y e)
failure_forth (Some refusal.TooManyHtlcs) y e = sym (some_is (Some refusal.TooManyHtlcs) y e)
failure_forth (Some refusal.InFlightOver) y e = sym (some_is (Some refusal.InFlightOver) y e)
failure_forth (Some refusal.CannotAfford) y e = sym (some_is (Some refusal.CannotAfford) y e)
failure_forth (Some refusal.ExpiryRange) y e = sym (some_is (Some refusal.ExpiryRange) y e)
failure_forth (Some refusal.NoSuchHtlc) y e = sym (some_is (Some refusal.NoSuchHtlc) y e)
failure_forth (Some refusal.PreimageWrong) y e = sym (some_is (Some refusal.PreimageWrong) y e)
failure_forth (Some refusal.NotFunder) y e = sym (some_is (Some refusal.NotFunder) y e)
failure_forth (Some refusal.SignatureWrong) y e = sym (some_is (Some refusal.SignatureWrong) y e)
failure_forth (Some refusal.SecretWrong) y e = sym (some_is (Some refusal.SecretWrong) y e)
failure_forth (Some refusal.NothingToRevoke) y e = sym (some_is (Some refusal.NothingToRevoke) y e)
failure_forth (Some (refusal.ReestablishNumber lost_data.Unproved)) y e =
    sym (some_is (Some (refusal.ReestablishNumber lost_data.Unproved)) y e)
failure_forth (Some (refusal.ReestablishNumber lost_data.Own)) y e =
    sym (some_is (Some (refusal.ReestablishNumber lost_data.Own)) y e)
failure_forth (Some (refusal.ReestablishNumber lost_data.Peer)) y e =
    sym (some_is (Some (refusal.ReestablishNumber lost_data.Peer)) y e)
failure_forth (Some refusal.AddAfterShutdown) y e = sym (some_is (Some refusal.AddAfterShutdown) y e)
failure_forth (Some refusal.FeeOutside) y e = absurd cc
failure_forth (Some refusal.PeerError) y e = sym (some_is (Some refusal.PeerError) y e)
failure_forth (Some refusal.NotReady) y e = absurd cc
failure_forth (Some refusal.SignatureOutstanding) y e = absurd cc
failure_forth (Some refusal.NothingToSign) y e = absurd cc
failure_forth (Some refusal.Shut) y e = absurd cc
failure_forth (Some (refusal.PeerLimit n)) y e = absurd cc
failure_forth (Some refusal.UpdatesPending) y e = absurd cc
failure_forth (Some refusal.NumbersSpent) y e = absurd cc
failure_forth (Some refusal.Disconnected) y e = absurd cc
failure_forth (Some refusal.NotCommitted) y e = absurd cc
failure_forth (Some refusal.AlreadyRemoved) y e = absurd cc
failure_forth (Some refusal.Memory) y e = absurd cc
failure_forth (Some refusal.Store) y e = absurd cc
failure_forth (Some refusal.Halted) y e = absurd cc
failure_forth (Some refusal.Io) y e = absurd cc
failure_forth (Some (refusal.BadScript n)) y e = absurd cc
failure_forth (Some refusal.GaveUp) y e = absurd cc
failure_forth (Some refusal.Damaged) y e = absurd cc
failure_forth (Some refusal.Version) y e = absurd cc

pub failure_is_lawful : IsLawful it.failure
unfolding it.failure
failure_is_lawful = code_is_lawful 2 failure_number failure_of (λ n x b e. failure_back n x e) failure_forth

-- ---- what was agreed on, and numbers of commitments

n8 : IsLawful (number 8)
n8 = number_is_lawful 8

pub fees_are_lawful : IsLawful it.fees
unfolding it.fees
fees_are_lawful = made_is_lawful _ _ _ (also n8 (also n8 n8)) (λ y. refl) (λ x. refl)

pub agreement_is_lawful : IsLawful it.agreement
unfolding it.agreement
agreement_is_lawful = made_is_lawful _ _ _ (also (sized_is_lawful 4) (also (sized_is_lawful 4)
    (also (optional_is_lawful _ (fixed_is_lawful 8)) (also fees_are_lawful
    (also (sized_is_lawful 2) (optional_is_lawful _ (sized_is_lawful 2))))))) (λ y. refl) (λ x. refl)

pub numbers_are_lawful : IsLawful it.numbers
unfolding it.numbers
numbers_are_lawful = made_is_lawful _ _ _ (also n8 (also n8 n8)) (λ y. refl) (λ x. refl)

pub peer_is_lawful : IsLawful it.peer
unfolding it.peer
peer_is_lawful = made_is_lawful _ _ _ (also (fixed_is_lawful 33) (also (fixed_is_lawful 33)
    (optional_is_lawful _ (fixed_is_lawful 32)))) (λ y. refl) (λ x. refl)

-- ---- updates

pub add_is_lawful : IsLawful it.add
unfolding it.add
add_is_lawful = made_is_lawful _ _ _ (also n8 (also n8 (also (fixed_is_lawful 32) (also (number_is_lawful 4)
    (also (fixed_is_lawful 1366) (optional_is_lawful _ (also (fixed_is_lawful 32) n8))))))) (λ y. refl) (λ x. refl)

fulfil_is_lawful : IsLawful it.fulfil
unfolding it.fulfil
fulfil_is_lawful = made_is_lawful _ _ _ (also n8 (fixed_is_lawful 32)) (λ y. refl) (λ x. refl)

fail_is_lawful : IsLawful it.fail
unfolding it.fail
fail_is_lawful = made_is_lawful _ _ _ (also n8 (sized_is_lawful 2)) (λ y. refl) (λ x. refl)

malformed_is_lawful : IsLawful it.malformed
unfolding it.malformed
malformed_is_lawful = made_is_lawful _ _ _ (also n8 (also (fixed_is_lawful 32) (number_is_lawful 2))) (λ y. refl)
    (λ x. refl)

fee_is_lawful : IsLawful it.fee
unfolding it.fee
fee_is_lawful = made_is_lawful _ _ _ (number_is_lawful 4) (λ y. refl) (λ x. refl)

add_forth : (x : Update) (y : Add) → offered x ≡ Some y → (kinds.Add) y ≡ x
add_forth (kinds.Add a) y e = ap (kinds.Add) (sym (some_is a y e))
add_forth (kinds.Fulfil a) y e = absurd cc
add_forth (kinds.Fail a) y e = absurd cc
add_forth (kinds.Malformed a) y e = absurd cc
add_forth (kinds.Fee a) y e = absurd cc

add_own : (x : Update) → (kind (kinds.Add) offered it.add).fits x ≡ true → update_tag x ≡ 0
add_own (kinds.Add a) h = refl
add_own (kinds.Fulfil a) h = absurd cc
add_own (kinds.Fail a) h = absurd cc
add_own (kinds.Malformed a) h = absurd cc
add_own (kinds.Fee a) h = absurd cc

add_kind : IsLawful (kind (kinds.Add) offered it.add)
add_kind = kind_is_lawful (kinds.Add) offered _ (add_is_lawful) (λ y. refl) add_forth

fulfil_forth : (x : Update) (y : Fulfil) → the_fulfil x ≡ Some y → (kinds.Fulfil) y ≡ x
fulfil_forth (kinds.Add a) y e = absurd cc
fulfil_forth (kinds.Fulfil a) y e = ap (kinds.Fulfil) (sym (some_is a y e))
fulfil_forth (kinds.Fail a) y e = absurd cc
fulfil_forth (kinds.Malformed a) y e = absurd cc
fulfil_forth (kinds.Fee a) y e = absurd cc

fulfil_own : (x : Update) → (kind (kinds.Fulfil) the_fulfil it.fulfil).fits x ≡ true → update_tag x ≡ 1
fulfil_own (kinds.Add a) h = absurd cc
fulfil_own (kinds.Fulfil a) h = refl
fulfil_own (kinds.Fail a) h = absurd cc
fulfil_own (kinds.Malformed a) h = absurd cc
fulfil_own (kinds.Fee a) h = absurd cc

fulfil_kind : IsLawful (kind (kinds.Fulfil) the_fulfil it.fulfil)
fulfil_kind = kind_is_lawful (kinds.Fulfil) the_fulfil _ (fulfil_is_lawful) (λ y. refl) fulfil_forth

fail_forth : (x : Update) (y : Fail) → the_fail x ≡ Some y → (kinds.Fail) y ≡ x
fail_forth (kinds.Add a) y e = absurd cc
fail_forth (kinds.Fulfil a) y e = absurd cc
fail_forth (kinds.Fail a) y e = ap (kinds.Fail) (sym (some_is a y e))
fail_forth (kinds.Malformed a) y e = absurd cc
fail_forth (kinds.Fee a) y e = absurd cc

fail_own : (x : Update) → (kind (kinds.Fail) the_fail it.fail).fits x ≡ true → update_tag x ≡ 2
fail_own (kinds.Add a) h = absurd cc
fail_own (kinds.Fulfil a) h = absurd cc
fail_own (kinds.Fail a) h = refl
fail_own (kinds.Malformed a) h = absurd cc
fail_own (kinds.Fee a) h = absurd cc

fail_kind : IsLawful (kind (kinds.Fail) the_fail it.fail)
fail_kind = kind_is_lawful (kinds.Fail) the_fail _ (fail_is_lawful) (λ y. refl) fail_forth

malformed_forth : (x : Update) (y : Malformed) → the_malformed x ≡ Some y → (kinds.Malformed) y ≡ x
malformed_forth (kinds.Add a) y e = absurd cc
malformed_forth (kinds.Fulfil a) y e = absurd cc
malformed_forth (kinds.Fail a) y e = absurd cc
malformed_forth (kinds.Malformed a) y e = ap (kinds.Malformed) (sym (some_is a y e))
malformed_forth (kinds.Fee a) y e = absurd cc

malformed_own : (x : Update) → (kind (kinds.Malformed) the_malformed it.malformed).fits x ≡ true → update_tag x ≡ 3
malformed_own (kinds.Add a) h = absurd cc
malformed_own (kinds.Fulfil a) h = absurd cc
malformed_own (kinds.Fail a) h = absurd cc
malformed_own (kinds.Malformed a) h = refl
malformed_own (kinds.Fee a) h = absurd cc

malformed_kind : IsLawful (kind (kinds.Malformed) the_malformed it.malformed)
malformed_kind = kind_is_lawful (kinds.Malformed) the_malformed _ (malformed_is_lawful) (λ y. refl) malformed_forth

fee_forth : (x : Update) (y : Fee) → the_fee x ≡ Some y → (kinds.Fee) y ≡ x
fee_forth (kinds.Add a) y e = absurd cc
fee_forth (kinds.Fulfil a) y e = absurd cc
fee_forth (kinds.Fail a) y e = absurd cc
fee_forth (kinds.Malformed a) y e = absurd cc
fee_forth (kinds.Fee a) y e = ap (kinds.Fee) (sym (some_is a y e))

fee_own : (x : Update) → (kind (kinds.Fee) the_fee it.fee).fits x ≡ true → update_tag x ≡ 4
fee_own (kinds.Add a) h = absurd cc
fee_own (kinds.Fulfil a) h = absurd cc
fee_own (kinds.Fail a) h = absurd cc
fee_own (kinds.Malformed a) h = absurd cc
fee_own (kinds.Fee a) h = refl

fee_kind : IsLawful (kind (kinds.Fee) the_fee it.fee)
fee_kind = kind_is_lawful (kinds.Fee) the_fee _ (fee_is_lawful) (λ y. refl) fee_forth

update_forms : (n : ℕ) → IsLawful (update_form n)
update_forms n = picked (n == 0) _ _ add_kind
    (picked (n == 1) _ _ fulfil_kind (picked (n == 2) _ _ fail_kind
    (picked (n == 3) _ _ malformed_kind (picked (n == 4) _ _ fee_kind (nothing_is_lawful)))))

update_own : (n : ℕ) (x : Update) → (update_form n).fits x ≡ true → update_tag x ≡ n
update_own n x = own_picked update_tag n 0 _ _ x (add_own x)
    (own_picked update_tag n 1 _ _ x (fulfil_own x)
    (own_picked update_tag n 2 _ _ x (fail_own x)
    (own_picked update_tag n 3 _ _ x (malformed_own x) (own_picked update_tag n 4 _ _ x (fee_own x) (λ h. absurd cc)))))

pub update_is_lawful : IsLawful it.update
unfolding it.update
update_is_lawful = tagged_is_lawful update_tag update_form update_forms update_own

-- ---- the base and the window after it

add_forms : (n : ℕ) → IsLawful (add_form n)
add_forms n = picked (n == 0) _ _ add_is_lawful nothing_is_lawful

adds_own : (n : ℕ) (x : Add) → (add_form n).fits x ≡ true → 0 ≡ n
adds_own n x = own_picked (λ a. 0) n 0 _ _ x (λ h. refl) (λ h. absurd cc)

pub live_is_lawful : IsLawful it.live
unfolding it.live
live_is_lawful = made_is_lawful _ _ _ (also role_is_lawful (tagged_is_lawful (λ a. 0) add_form add_forms adds_own))
    (λ y. refl) (λ x. refl)

sides_are_lawful : IsLawful it.sides
unfolding it.sides
sides_are_lawful = made_is_lawful _ _ _ (also n8 n8) (λ y. refl) (λ x. refl)

pub base_is_lawful : IsLawful it.base
unfolding it.base
base_is_lawful = made_is_lawful _ _ _ (also sides_are_lawful (also sides_are_lawful (also sides_are_lawful
    (also (number_is_lawful 4) (list_is_lawful _ live_is_lawful))))) (λ y. refl) (λ x. refl)

pub window_is_lawful : IsLawful it.window
unfolding it.window
window_is_lawful = made_is_lawful _ _ _ (also (list_is_lawful _ update_is_lawful) (list_is_lawful _ update_is_lawful))
    (λ y. refl) (λ x. refl)

covered_is_lawful : IsLawful it.covered
unfolding it.covered
covered_is_lawful = made_is_lawful _ _ _ (also n8 n8) (λ y. refl) (λ x. refl)

covered_by_own_is_lawful : IsLawful it.covered_by_own
unfolding it.covered_by_own
covered_by_own_is_lawful = made_is_lawful _ _ _ (also n8 n8) (λ y. refl) (λ x. refl)

pub pairs_are_lawful : IsLawful it.pairs
unfolding it.pairs
pairs_are_lawful = made_is_lawful _ _ _ (also covered_is_lawful (also covered_is_lawful covered_by_own_is_lawful))
    (λ y. refl) (λ x. refl)

-- ---- events and forwarded HTLCs

zero_of : (n : ℕ) → Option (Unit {0})
zero_of n = cond (n == 0) (Some tt) None

zero_back : (n : ℕ) (u : Unit {0}) → cond (n == 0) (Some tt) None ≡ Some u → 0 ≡ n
zero_back n u e = elim (chosen (n == 0) (Some tt) None (Some u) e) [
  | inl h ↦ sym (eqb-true n 0 h.0)
  | inr h ↦ absurd cc
]

no_number_is_lawful : IsLawful it.no_number
unfolding it.no_number
no_number_is_lawful = code_is_lawful 8 _ _ (λ n u b e. zero_back n u e) (λ x y e. refl)

own_forth : (x : EventRef) (y : ℕ) → own_number x ≡ Some y → (ref.Own) y ≡ x
own_forth (ref.Own n) y e = ap (ref.Own) (sym (some_is n y e))
own_forth (ref.Peer n) y e = absurd cc
own_forth ref.Close y e = absurd cc

own_own : (x : EventRef) → (kind (ref.Own) own_number (number 8)).fits x ≡ true → event_tag x ≡ 0
own_own (ref.Own n) h = refl
own_own (ref.Peer n) h = absurd cc
own_own ref.Close h = absurd cc

own_kind : IsLawful (kind (ref.Own) own_number (number 8))
own_kind = kind_is_lawful (ref.Own) own_number _ (n8) (λ y. refl) own_forth

peer_forth : (x : EventRef) (y : ℕ) → peer_number x ≡ Some y → (ref.Peer) y ≡ x
peer_forth (ref.Own n) y e = absurd cc
peer_forth (ref.Peer n) y e = ap (ref.Peer) (sym (some_is n y e))
peer_forth ref.Close y e = absurd cc

peer_own : (x : EventRef) → (kind (ref.Peer) peer_number (number 8)).fits x ≡ true → event_tag x ≡ 1
peer_own (ref.Own n) h = absurd cc
peer_own (ref.Peer n) h = refl
peer_own ref.Close h = absurd cc

peer_kind : IsLawful (kind (ref.Peer) peer_number (number 8))
peer_kind = kind_is_lawful (ref.Peer) peer_number _ (n8) (λ y. refl) peer_forth

close_forth : (x : EventRef) (y : Unit {0}) → the_close x ≡ Some y → (λ (u : Unit {0}). ref.Close) y ≡ x
close_forth (ref.Own n) y e = absurd cc
close_forth (ref.Peer n) y e = absurd cc
close_forth ref.Close y e = ap (λ (u : Unit {0}). ref.Close) (sym (some_is tt y e))

close_own : (x : EventRef) → (kind (λ (u : Unit {0}). ref.Close) the_close it.no_number).fits x ≡ true → event_tag x ≡ 2
close_own (ref.Own n) h = absurd cc
close_own (ref.Peer n) h = absurd cc
close_own ref.Close h = refl

close_kind : IsLawful (kind (λ (u : Unit {0}). ref.Close) the_close it.no_number)
close_kind = kind_is_lawful (λ (u : Unit {0}). ref.Close) the_close _ (no_number_is_lawful) (λ y. refl) close_forth

event_forms : (n : ℕ) → IsLawful (event_form n)
event_forms n = picked (n == 0) _ _ own_kind (picked (n == 1) _ _ peer_kind
    (picked (n == 2) _ _ close_kind (nothing_is_lawful)))

event_own : (n : ℕ) (x : EventRef) → (event_form n).fits x ≡ true → event_tag x ≡ n
event_own n x = own_picked event_tag n 0 _ _ x (own_own x)
    (own_picked event_tag n 1 _ _ x (peer_own x) (own_picked event_tag n 2 _ _ x (close_own x) (λ h. absurd cc)))

event_is_lawful : IsLawful it.event
unfolding it.event
event_is_lawful = tagged_is_lawful event_tag event_form event_forms event_own

pub events_are_lawful : IsLawful it.events
unfolding it.events
events_are_lawful = made_is_lawful _ _ _ (also n8 (list_is_lawful _ event_is_lawful)) (λ y. refl) (λ x. refl)

forward_forth : (x : Mark) (y : List ℕ × (ℕ × ℕ)) → forward_of x ≡ Some y
    → (λ (p : List ℕ × (ℕ × ℕ)). mark.Forward p.0 p.1.0 p.1.1) y ≡ x
forward_forth mark.None y e = absurd cc
forward_forth (mark.Forward c a t) y e = ap (λ (p : List ℕ × (ℕ × ℕ)). mark.Forward p.0 p.1.0 p.1.1)
    (sym (some_is (c, (a, t)) y e))
forward_forth (mark.Fail r) y e = absurd cc
forward_forth (mark.Malformed r) y e = absurd cc
forward_forth (mark.Fulfil r) y e = absurd cc
forward_forth (mark.Held n) y e = absurd cc

forward_own : (x : Mark)
    → (kind (λ (p : List ℕ × (ℕ × ℕ)). mark.Forward p.0 p.1.0 p.1.1) forward_of (fixed 32 & number 8 & number 4)).fits
    x ≡ true → mark_tag x ≡ 1
forward_own mark.None h = absurd cc
forward_own (mark.Forward c a t) h = refl
forward_own (mark.Fail r) h = absurd cc
forward_own (mark.Malformed r) h = absurd cc
forward_own (mark.Fulfil r) h = absurd cc
forward_own (mark.Held n) h = absurd cc

forward_kind : IsLawful (kind (λ (p : List ℕ × (ℕ × ℕ)). mark.Forward p.0 p.1.0 p.1.1) forward_of
    (fixed 32 & number 8 & number 4))
forward_kind = kind_is_lawful (λ (p : List ℕ × (ℕ × ℕ)). mark.Forward p.0 p.1.0 p.1.1) forward_of _
    (also (fixed_is_lawful 32) (also n8 (number_is_lawful 4))) (λ y. refl) forward_forth

reason_forth : (x : Mark) (y : List ℕ) → reason_of x ≡ Some y → (mark.Fail) y ≡ x
reason_forth mark.None y e = absurd cc
reason_forth (mark.Forward c a t) y e = absurd cc
reason_forth (mark.Fail r) y e = ap (mark.Fail) (sym (some_is r y e))
reason_forth (mark.Malformed r) y e = absurd cc
reason_forth (mark.Fulfil r) y e = absurd cc
reason_forth (mark.Held n) y e = absurd cc

reason_own : (x : Mark) → (kind (mark.Fail) reason_of (sized 8)).fits x ≡ true → mark_tag x ≡ 2
reason_own mark.None h = absurd cc
reason_own (mark.Forward c a t) h = absurd cc
reason_own (mark.Fail r) h = refl
reason_own (mark.Malformed r) h = absurd cc
reason_own (mark.Fulfil r) h = absurd cc
reason_own (mark.Held n) h = absurd cc

reason_kind : IsLawful (kind (mark.Fail) reason_of (sized 8))
reason_kind = kind_is_lawful (mark.Fail) reason_of _ (sized_is_lawful 8) (λ y. refl) reason_forth

code_forth : (x : Mark) (y : ℕ) → code_of x ≡ Some y → (mark.Malformed) y ≡ x
code_forth mark.None y e = absurd cc
code_forth (mark.Forward c a t) y e = absurd cc
code_forth (mark.Fail r) y e = absurd cc
code_forth (mark.Malformed r) y e = ap (mark.Malformed) (sym (some_is r y e))
code_forth (mark.Fulfil r) y e = absurd cc
code_forth (mark.Held n) y e = absurd cc

code_own : (x : Mark) → (kind (mark.Malformed) code_of (number 2)).fits x ≡ true → mark_tag x ≡ 3
code_own mark.None h = absurd cc
code_own (mark.Forward c a t) h = absurd cc
code_own (mark.Fail r) h = absurd cc
code_own (mark.Malformed r) h = refl
code_own (mark.Fulfil r) h = absurd cc
code_own (mark.Held n) h = absurd cc

code_kind : IsLawful (kind (mark.Malformed) code_of (number 2))
code_kind = kind_is_lawful (mark.Malformed) code_of _ (number_is_lawful 2) (λ y. refl) code_forth

preimage_forth : (x : Mark) (y : List ℕ) → preimage_of x ≡ Some y → (mark.Fulfil) y ≡ x
preimage_forth mark.None y e = absurd cc
preimage_forth (mark.Forward c a t) y e = absurd cc
preimage_forth (mark.Fail r) y e = absurd cc
preimage_forth (mark.Malformed r) y e = absurd cc
preimage_forth (mark.Fulfil r) y e = ap (mark.Fulfil) (sym (some_is r y e))
preimage_forth (mark.Held n) y e = absurd cc

preimage_own : (x : Mark) → (kind (mark.Fulfil) preimage_of (fixed 32)).fits x ≡ true → mark_tag x ≡ 4
preimage_own mark.None h = absurd cc
preimage_own (mark.Forward c a t) h = absurd cc
preimage_own (mark.Fail r) h = absurd cc
preimage_own (mark.Malformed r) h = absurd cc
preimage_own (mark.Fulfil r) h = refl
preimage_own (mark.Held n) h = absurd cc

preimage_kind : IsLawful (kind (mark.Fulfil) preimage_of (fixed 32))
preimage_kind = kind_is_lawful (mark.Fulfil) preimage_of _ (fixed_is_lawful 32) (λ y. refl) preimage_forth

held_forth : (x : Mark) (y : ℕ) → event_held x ≡ Some y → (mark.Held) y ≡ x
held_forth mark.None y e = absurd cc
held_forth (mark.Forward c a t) y e = absurd cc
held_forth (mark.Fail r) y e = absurd cc
held_forth (mark.Malformed r) y e = absurd cc
held_forth (mark.Fulfil r) y e = absurd cc
held_forth (mark.Held n) y e = ap (mark.Held) (sym (some_is n y e))

held_own : (x : Mark) → (kind (mark.Held) event_held (number 8)).fits x ≡ true → mark_tag x ≡ 5
held_own mark.None h = absurd cc
held_own (mark.Forward c a t) h = absurd cc
held_own (mark.Fail r) h = absurd cc
held_own (mark.Malformed r) h = absurd cc
held_own (mark.Fulfil r) h = absurd cc
held_own (mark.Held n) h = refl

held_kind : IsLawful (kind (mark.Held) event_held (number 8))
held_kind = kind_is_lawful (mark.Held) event_held _ n8 (λ y. refl) held_forth

mark_forms : (n : ℕ) → IsLawful (mark_form n)
mark_forms n = picked (n == 1) _ _ forward_kind
    (picked (n == 2) _ _ reason_kind (picked (n == 3) _ _ code_kind
    (picked (n == 4) _ _ preimage_kind (picked (n == 5) _ _ held_kind (nothing_is_lawful)))))

mark_own : (n : ℕ) (x : Mark) → (mark_form n).fits x ≡ true → mark_tag x ≡ n
mark_own n x = own_picked mark_tag n 1 _ _ x (forward_own x)
    (own_picked mark_tag n 2 _ _ x (reason_own x)
    (own_picked mark_tag n 3 _ _ x (code_own x) (own_picked mark_tag n 4 _ _ x (preimage_own x)
    (own_picked mark_tag n 5 _ _ x (held_own x) (λ h. absurd cc)))))

stored_mark_is_lawful : IsLawful it.stored_mark
unfolding it.stored_mark
stored_mark_is_lawful = tagged_is_lawful mark_tag mark_form mark_forms mark_own

decision_is_lawful : IsLawful it.decision
unfolding it.decision
decision_is_lawful = made_is_lawful _ _ _ (also n8 stored_mark_is_lawful) (λ y. refl) (λ x. refl)

settlement_is_lawful : IsLawful it.settlement
unfolding it.settlement
settlement_is_lawful = made_is_lawful _ _ _
    (also n8 (also (also (fixed_is_lawful 32) n8) (only_is_lawful _ _ update_is_lawful))) (λ y. refl) (λ x. refl)

pub forwards_are_lawful : IsLawful it.forwards
unfolding it.forwards
forwards_are_lawful = made_is_lawful _ _ _ (also (list_is_lawful _ decision_is_lawful)
    (list_is_lawful _ settlement_is_lawful))
    (λ y. refl) (λ x. refl)

pub closing_fees_are_lawful : IsLawful it.closing_fees
unfolding it.closing_fees
closing_fees_are_lawful = made_is_lawful _ _ _ (also (optional_is_lawful _ n8) (also (optional_is_lawful _ n8)
    (optional_is_lawful _ n8))) (λ y. refl) (λ x. refl)

-- ---- all of them

header_is_lawful : IsLawful it.header
unfolding it.header
header_is_lawful = made_is_lawful _ _ _ (also (fixed_is_lawful 32) (also role_is_lawful (also flags_are_lawful
    failure_is_lawful))) (λ y. refl) (λ x. refl)

commitments_are_lawful : IsLawful it.commitments
unfolding it.commitments
commitments_are_lawful = made_is_lawful _ _ _ (also numbers_are_lawful peer_is_lawful) (λ y. refl) (λ x. refl)

updates_are_lawful : IsLawful it.updates
unfolding it.updates
updates_are_lawful = made_is_lawful _ _ _ (also base_is_lawful (also window_is_lawful pairs_are_lawful))
    (λ y. refl) (λ x. refl)

progress_is_lawful : IsLawful it.progress
unfolding it.progress
progress_is_lawful = made_is_lawful _ _ _ (also events_are_lawful (also forwards_are_lawful closing_fees_are_lawful))
    (λ y. refl) (λ x. refl)

pub items_are_lawful : IsLawful it.items
unfolding it.items
items_are_lawful = made_is_lawful _ _ _ (also header_is_lawful (also agreement_is_lawful (also commitments_are_lawful
    (also updates_are_lawful progress_is_lawful)))) (λ y. refl) (λ x. refl)
