-- The rules of a closing fee.
use Rattle.std.proofs.Common.{◌≡◌, ◌⊎◌, inl, inr, ℕ, ◌≤◌, min, max, refl, sym, ap, ◌∙◌, arith, Bool, true, false, cond}
use Rattle.std.proofs.Common.{◌&&◌, ◌==◌, nat_le, Option, Some, None, is_none, Result, Ok, Err}
use Rattle.std.proofs.lemmas.Bool.{eqb-true, eq-eqb, leb-true, le-leb}
use Rattle.ln_refusals.specs.declared.refusal.Refusal.{Refusal}
use Rattle.ln_refusals.specs.declared.refusal.Refusal.TheVariants as refusal
use Rattle.ln_close.specs.declared.closing.FeeAnswer.{FeeAnswer}
use Rattle.ln_close.specs.declared.closing.FeeAnswer.TheVariants as answer
use Rattle.ln_close.specs.declared.closing.Closing.{Closing}
use Rattle.ln_close.specs.Closing.{is_funder, is_fee, nearest, within_both, counter, answer_to}
use Rattle.ln_channel_laws.proofs.Fees.FeesInFlight.{Deal, Fair, Refused, Elsewhere, Outside, Apart}
use Rattle.ln_channel_laws.proofs.Fees.Deals.{deal_of}

abbrev pub RuleSays : Deal → ℕ → Option (ℕ × ℕ) → Result FeeAnswer Refusal → Type 0
RuleSays d fee rg (Ok a) = Fair d fee rg a
RuleSays d fee rg (Err r) = Refused d fee rg

pub either : (P : Result FeeAnswer Refusal → Type 0) (t : Bool) (a b : Result FeeAnswer Refusal) → (t ≡ true → P a)
    → (t ≡ false → P b) → P (cond t a b)
either P true a b f g = f refl
either P false a b f g = g refl

pub is_fee_so : (fee : ℕ) (o : Option ℕ) → is_fee o fee ≡ true → o ≡ Some fee
is_fee_so fee None e = absurd (cc)
is_fee_so fee (Some n) e = ap Some (eqb-true n fee e)

is_fee_not : (fee : ℕ) (o : Option ℕ) → is_fee o fee ≡ false → o ≡ Some fee → ⊥
is_fee_not fee o e f =
    let d : true ≡ false = sym (eq-eqb fee fee refl) ∙ ap (λ o. is_fee o fee) (sym f) ∙ e in absurd (cc)

le_not : (a b : ℕ) → nat_le a b ≡ false → a ≤ b → ⊥
le_not a b e h = let d : true ≡ false = sym (le-leb a b h) ∙ e in absurd (cc)

eq_not : (a b : ℕ) → (a == b) ≡ false → a ≡ b → ⊥
eq_not a b e h = let d : true ≡ false = sym (eq-eqb a b h) ∙ e in absurd (cc)

pub both_not : (a b c d : ℕ) → (nat_le a b && nat_le c d) ≡ false → a ≤ b → c ≤ d → ⊥
both_not a b c d e h k =
    let f : true ≡ false = sym (ap (λ t. t && nat_le c d) (le-leb a b h) ∙ le-leb c d k) ∙ e in absurd (cc)

pub none_is : (o : Option ℕ) → is_none o ≡ true → o ≡ None
none_is None e = refl
none_is (Some n) e = absurd (cc)

some_is : (o : Option ℕ) → is_none o ≡ false → (n : ℕ) × (o ≡ Some n)
some_is None e = absurd (cc)
some_is (Some n) e = (n, refl)

-- no rule before the last fits
record IsLate (d : Deal) (fee : ℕ) : Type 0 where
  unclosed : d.closed ≡ None
  unbid : d.bid ≡ Some fee → ⊥
  unheard : d.heard ≡ Some fee → ⊥
  outside : d.fees.least ≤ fee → fee ≤ d.fees.greatest → ⊥

late_refused : (d : Deal) (fee : ℕ) (rg : Option (ℕ × ℕ)) → IsLate d fee
    → (d.funder ≡ true) ⊎ (((n : ℕ) × (d.bid ≡ Some n)) ⊎ Apart d.fees rg) → Refused d fee rg
late_refused d fee rg l h = Outside l.unclosed l.unbid l.unheard l.outside h

nearest_in : (fee a b lo hi : ℕ) → max a lo ≤ min b hi
    → (lo ≤ nearest (max a lo) (min b hi) fee) × (nearest (max a lo) (min b hi) fee ≤ hi)
nearest_in fee a b lo hi h = (omega (arith, h), omega (arith, h))

says_within : (c : Closing) (fee : ℕ) (range : Option (ℕ × ℕ)) → is_funder c.role ≡ false → c.own_fee ≡ None
    → IsLate (deal_of c) fee → RuleSays (deal_of c) fee range (within_both c.fees fee range)
says_within c fee None e f l = late_refused (deal_of c) fee None l (inr (inr tt))
says_within c fee (Some r) e f l =
    either (RuleSays (deal_of c) fee (Some r)) (nat_le (max c.fees.least r.0) (min c.fees.greatest r.1))
    (Ok (answer.Propose (nearest (max c.fees.least r.0) (min c.fees.greatest r.1) fee))) (Err refusal.FeeOutside)
    (λ t. (
      e,
      f,
      l.unclosed,
      nearest_in fee c.fees.least c.fees.greatest r.0 r.1
          (leb-true (max c.fees.least r.0) (min c.fees.greatest r.1) t),
    ))
    (λ t. late_refused (deal_of c) fee (Some r) l
    (inr (inr (le_not (max c.fees.least r.0) (min c.fees.greatest r.1) t))))

says_counter : (c : Closing) (fee : ℕ) (range : Option (ℕ × ℕ)) → IsLate (deal_of c) fee
    → RuleSays (deal_of c) fee range (counter c fee range)
says_counter c fee range l =
    either (RuleSays (deal_of c) fee range) (is_funder c.role) (Err refusal.FeeOutside)
    (cond (is_none c.own_fee) (within_both c.fees fee range) (Err refusal.FeeOutside))
    (λ t. late_refused (deal_of c) fee range l (inl t))
    (λ t. either (RuleSays (deal_of c) fee range) (is_none c.own_fee) (within_both c.fees fee range)
    (Err refusal.FeeOutside) (λ u. says_within c fee range t (none_is c.own_fee u) l)
    (λ u. late_refused (deal_of c) fee range l (inr (inl (some_is c.own_fee u)))))

says_open : (c : Closing) (fee : ℕ) (range : Option (ℕ × ℕ)) → c.closed ≡ None
    → RuleSays (deal_of c) fee range (answer_to (record c { closed = None }) fee range)
says_open c fee range e =
    let P = RuleSays (deal_of c) fee range in
    let n : Closing = record c { closed = None } in
    let inside = nat_le c.fees.least fee && nat_le fee c.fees.greatest in
    let echoes = cond inside (Ok (answer.EchoAndClose fee)) (counter n fee range) in
    let again = cond (is_fee c.peer_fee fee) (Ok answer.Nothing) echoes in
    either P (is_fee c.own_fee fee) (Ok (answer.Close fee)) again (λ t. (refl, is_fee_so fee c.own_fee t, e))
    (λ t. either P (is_fee c.peer_fee fee) (Ok answer.Nothing) echoes (λ h. tt)
    (λ h. either P inside (Ok (answer.EchoAndClose fee)) (counter n fee range)
    (λ i. (refl, is_fee_not fee c.peer_fee h, is_fee_not fee c.own_fee t, e))
    (λ i. says_counter c fee range (record {
      unclosed = e;
      unbid = is_fee_not fee c.own_fee t;
      unheard = is_fee_not fee c.peer_fee h;
      outside = both_not c.fees.least fee fee c.fees.greatest i;
    }))))

says_by : (o : Option ℕ) (c : Closing) (fee : ℕ) (range : Option (ℕ × ℕ)) → c.closed ≡ o
    → RuleSays (deal_of c) fee range (answer_to (record c { closed = o }) fee range)
says_by None c fee range e = says_open c fee range e
says_by (Some n) c fee range e =
    either (RuleSays (deal_of c) fee range) (n == fee) (Ok answer.Nothing) (Err refusal.FeeOutside) (λ t. tt)
    (λ t. Elsewhere n e (eq_not n fee t))

pub rule_says : (c : Closing) (fee : ℕ) (range : Option (ℕ × ℕ))
    → RuleSays (deal_of c) fee range (answer_to c fee range)
rule_says c fee range = says_by c.closed c fee range refl
