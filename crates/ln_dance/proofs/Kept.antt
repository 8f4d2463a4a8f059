-- What each call of the dance keeps.
use Rattle.std.proofs.Common.{◌≡◌, ◌≢◌, ℕ, ◌+◌, refl, sym, ap, ◌∙◌, subst, arith, Bool, true, false}
use Rattle.std.proofs.Common.{cond, not, ◌&&◌, ◌==◌, Option, Some, None, Result, Ok, Err, OnOk, OnErr, inl, inr}
use Rattle.std.proofs.lemmas.Bool.{eq-eqb}
use Rattle.std.proofs.lemmas.Bool.Decides.{eqb_tells}
use Rattle.ln_refusals.specs.declared.refusal.Refusal.{Refusal}
use Rattle.ln_refusals.specs.declared.refusal.Refusal.TheVariants as refusal
use Rattle.ln_log.specs.Limits.{first_fault}
use Rattle.ln_log.specs.Log.{Log, Counts, AllCounts, all_counts, same_counts, at_opening}
use Rattle.ln_log.specs.Window.{after_advance}
use Rattle.ln_dance.specs.declared.dance.Numbers.{Numbers}
use Rattle.ln_dance.specs.Dance.{Dancer, IsNumber, last_number, AreInStep, owes, is_last, sign_fault, with_log}

-- ---- results

pub map_ok : {A P Q : Type 0} (r : Result A Refusal) → (P → Q) → OnOk r P → OnOk r Q
map_ok (Ok x) f h = f h
map_ok (Err e) f h = h

-- ---- a log that was changed in another way

pub kept_by : (n : Numbers) (l m : Log) → AreInStep n l → all_counts m ≡ all_counts l → AreInStep n m
kept_by n l m k e = record {
  commitment = k.commitment;
  signed = k.signed;
  revoked = k.revoked;
  one_unrevoked = k.one_unrevoked;
  acknowledged = λ same. ap (λ (c : AllCounts). same_counts c.acknowledged c.signed) e ∙ k.acknowledged same;
}

pub log_becomes : (v d : Dancer) (f : Log → Log) (m : Log) → v ≡ d → m ≡ f v.log → with_log m v ≡ with_log (f d.log) d
log_becomes v d f m e h = ap (λ x. with_log x v) h ∙ ap (λ (x : Dancer). with_log (f x.log) x) e

-- ---- a base that moves on

pub kept_advanced : (r : Result Bool Refusal) (n : Numbers) (l m : Log) (to : Counts) → AreInStep n l
    → OnErr r (m ≡ l) → OnOk r (m ≡ after_advance to l) → AreInStep n m
kept_advanced (Ok x) n l m to k same e = subst (AreInStep n) (sym e) (record {
  commitment = k.commitment;
  signed = k.signed;
  revoked = k.revoked;
  one_unrevoked = k.one_unrevoked;
  acknowledged = k.acknowledged;
})
kept_advanced (Err x) n l m to k same e = subst (AreInStep n) (sym same) k

pub opening_advanced : (r : Result Bool Refusal) (l m : Log) (to : Counts) → OnErr r (m ≡ l)
    → OnOk r (m ≡ after_advance to l) → at_opening m ≡ at_opening l
opening_advanced (Ok x) l m to same e = ap at_opening e
opening_advanced (Err x) l m to same e = ap at_opening same

-- ---- signing

none_both : (a b : Option Refusal) → first_fault a b ≡ None → (a ≡ None) × (b ≡ None)
none_both None b e = (refl, e)
none_both (Some r) b e = absurd (cc)

untested : (b : Bool) (r : Refusal) → cond b (Some r) None ≡ None → b ≡ false
untested true r e = absurd (cc)
untested false r e = refl

unless : (b : Bool) (r : Refusal) (o : Option Refusal) → cond b (Some r) o ≡ None → (b ≡ false) × (o ≡ None)
unless true r o e = absurd (cc)
unless false r o e = (refl, e)

not_last : (n : ℕ) → IsNumber n → is_last n ≡ false → IsNumber (n + 1)
not_last n lt e = elim (eqb_tells n last_number) [
  | inl g ↦ absurd (let is : true ≡ false = sym g.0 ∙ e in cc)
  | inr g ↦ (let differ = g.1 in omega (arith, lt, differ))
]

pub signed_below : (d : Dancer) → AreInStep d.numbers d.log → sign_fault d ≡ None → IsNumber (d.numbers.signed + 1)
signed_below d k e = not_last d.numbers.signed k.signed
    (untested (is_last d.numbers.signed) refusal.NumbersSpent
    (none_both _ _ (unless (owes d) refusal.SignatureOutstanding _ e).1).1)

same_number : (s r : ℕ) → not (s == r) ≡ false → s ≡ r
same_number s r e = elim (eqb_tells s r) [
  | inl g ↦ g.1
  | inr g ↦
      absurd (let is : true ≡ false = ap not (sym g.0) ∙ e in cc)
]

other_number : (s r : ℕ) → not (s == r) ≡ true → s ≢ r
other_number s r e same = absurd (let is : false ≡ true = ap not (sym (eq-eqb s r same)) ∙ e in cc)

pub kept_signed : (d : Dancer) (m : Log) (n : Numbers) → AreInStep d.numbers d.log → sign_fault d ≡ None
    → n ≡ record { commitment = d.numbers.commitment; signed = d.numbers.signed + 1; revoked = d.numbers.revoked }
    → AreInStep n m
kept_signed d m n k e en =
    let all : d.numbers.signed ≡ d.numbers.revoked =
    same_number d.numbers.signed d.numbers.revoked (unless (owes d) refusal.SignatureOutstanding _ e).0 in
    subst (λ x. AreInStep x m) (sym en) (record {
      commitment = k.commitment;
      signed = signed_below d k e;
      revoked = omega (arith, all);
      one_unrevoked = omega (arith, all);
      acknowledged = λ same. absurd (omega (arith, all, same));
    })

-- ---- accepting

pub next_below : (n : ℕ) → IsNumber n → n ≢ last_number → IsNumber (n + 1)
next_below n lt differ = omega (arith, lt, differ)

pub kept_accepted : (n : Numbers) (l m : Log) (c : Counts) → AreInStep n l → n.commitment ≢ last_number
    → all_counts m ≡ record (all_counts l) { current = c }
    → AreInStep (record n { commitment = n.commitment + 1 }) m
kept_accepted n l m c k differ e = record {
  commitment = next_below n.commitment k.commitment differ;
  signed = k.signed;
  revoked = k.revoked;
  one_unrevoked = k.one_unrevoked;
  acknowledged = λ same. ap (λ (a : AllCounts). same_counts a.acknowledged a.signed) e ∙ k.acknowledged same;
}

-- ---- learning

same_self : (c : Counts) → same_counts c c ≡ true
same_self c = ap (λ b. b && (c.peer == c.peer)) (eq-eqb c.own c.own refl) ∙ eq-eqb c.peer c.peer refl

pub kept_learned : (n : Numbers) (l m : Log) → AreInStep n l → not (n.signed == n.revoked) ≡ true
    → all_counts m ≡ record (all_counts l) { acknowledged = l.signed }
    → AreInStep (record n { revoked = n.revoked + 1 }) m
kept_learned n l m k o e =
    let differ = other_number n.signed n.revoked o in
    record {
      commitment = k.commitment;
      signed = k.signed;
      revoked = (let less = k.revoked in omega (arith, less, differ));
      one_unrevoked = (let one = k.one_unrevoked in omega (arith, one));
      acknowledged = λ _. ap (λ (a : AllCounts). same_counts a.acknowledged a.signed) e ∙ same_self l.signed;
    }
