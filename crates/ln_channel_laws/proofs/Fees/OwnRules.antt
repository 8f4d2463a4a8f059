-- What an end's own rules of the closing fee keep: it has heard the fee that it is closed at, answers each one, and
-- closes where it has heard its own.
use Rattle.std.proofs.Common.{◌≡◌, ◌⊎◌, inl, inr, ℕ, ◌≤◌, min, max, refl, sym, ap, ◌∙◌, subst, arith, true, false}
use Rattle.std.proofs.Common.{cond, ◌&&◌, ◌==◌, nat_le, Option, Some, None, is_some, is_none, Result, Ok, Err}
use Rattle.std.proofs.lemmas.Bool.{eqb-true, leb-true}
use Rattle.ln_refusals.specs.declared.refusal.Refusal.{Refusal}
use Rattle.ln_refusals.specs.declared.refusal.Refusal.TheVariants as refusal
use Rattle.ln_close.specs.declared.closing.Fees.{Fees}
use Rattle.ln_close.specs.declared.closing.FeeAnswer.{FeeAnswer}
use Rattle.ln_close.specs.declared.closing.FeeAnswer.TheVariants as answer
use Rattle.ln_close.specs.declared.closing.Closing.{Closing}
use Rattle.ln_close.specs.Closing.{is_funder, is_fee, nearest, within_both, counter, answer_to}
use Rattle.ln_channel_laws.proofs.Fees.FeesInFlight.{Deal, Fair, dealt, not_none, some_of, some_same}
use Rattle.ln_channel_laws.proofs.Fees.Deals.{deal_of}
use Rattle.ln_channel_laws.proofs.Fees.FeeRules.{either, is_fee_so, both_not}

-- the funder proposes no other fee than its first, so that it closes at any that it hears
pub record Firm (d : Deal) : Type 0 where
  pub heard_it : (n : ℕ) → d.closed ≡ Some n → d.heard ≡ Some n
  pub answered : (n : ℕ) → d.heard ≡ Some n → is_some d.bid ≡ true
  pub closes : (n : ℕ) → d.bid ≡ Some n → d.heard ≡ Some n → d.closed ≡ Some n
  pub decided : d.funder ≡ true → (n : ℕ) → d.heard ≡ Some n → d.closed ≡ Some n

-- ---- where the funder begins

pub firm_first : (d : Deal) → d.bid ≡ None → Firm d → Firm (record d { bid = Some d.fees.first })
firm_first d none h = record {
  heard_it = h.heard_it;
  answered = λ n k. refl;
  closes = λ n k l. absurd (let no : true ≡ false = sym (h.answered n l) ∙ ap is_some none in cc);
  decided = h.decided;
}

-- ---- what an answer says beside what is fair

-- it does nothing at a fee that it has heard or closed at, and proposes another than it takes
abbrev pub Sure : Deal → ℕ → Result FeeAnswer Refusal → Type 0
Sure d fee (Ok answer.Nothing) = (d.heard ≡ Some fee) ⊎ (d.closed ≡ Some fee)
Sure d fee (Ok (answer.Close n)) = Unit {0}
Sure d fee (Ok (answer.EchoAndClose n)) = Unit {0}
Sure d fee (Ok (answer.Propose n)) = n ≡ fee → ⊥
Sure d fee (Err r) = Unit {0}

own_nearest : (fee a b lo hi : ℕ) → max a lo ≤ min b hi
    → (a ≤ nearest (max a lo) (min b hi) fee) × (nearest (max a lo) (min b hi) fee ≤ b)
own_nearest fee a b lo hi h = (omega (arith, h), omega (arith, h))

another : (f : Fees) (fee n : ℕ) → (f.least ≤ fee → fee ≤ f.greatest → ⊥) → (f.least ≤ n) × (n ≤ f.greatest) → n ≡ fee
    → ⊥
another f fee n outside inside same =
    outside (subst (λ m. f.least ≤ m) same inside.0) (subst (λ m. m ≤ f.greatest) same inside.1)

sure_within : (c : Closing) (fee : ℕ) (range : Option (ℕ × ℕ)) → (c.fees.least ≤ fee → fee ≤ c.fees.greatest → ⊥)
    → Sure (deal_of c) fee (within_both c.fees fee range)
sure_within c fee None outside = tt
sure_within c fee (Some r) outside =
    let n = nearest (max c.fees.least r.0) (min c.fees.greatest r.1) fee in
    either (Sure (deal_of c) fee) (nat_le (max c.fees.least r.0) (min c.fees.greatest r.1))
    (Ok (answer.Propose n)) (Err refusal.FeeOutside)
    (λ t. another c.fees fee n outside (own_nearest fee c.fees.least c.fees.greatest r.0 r.1
    (leb-true (max c.fees.least r.0) (min c.fees.greatest r.1) t)))
    (λ t. tt)

sure_counter : (c : Closing) (fee : ℕ) (range : Option (ℕ × ℕ)) → (c.fees.least ≤ fee → fee ≤ c.fees.greatest → ⊥)
    → Sure (deal_of c) fee (counter c fee range)
sure_counter c fee range outside =
    either (Sure (deal_of c) fee) (is_funder c.role) (Err refusal.FeeOutside)
    (cond (is_none c.own_fee) (within_both c.fees fee range) (Err refusal.FeeOutside)) (λ t. tt)
    (λ t. either (Sure (deal_of c) fee) (is_none c.own_fee) (within_both c.fees fee range)
    (Err refusal.FeeOutside) (λ u. sure_within c fee range outside) (λ u. tt))

sure_open : (c : Closing) (fee : ℕ) (range : Option (ℕ × ℕ))
    → Sure (deal_of c) fee (answer_to (record c { closed = None }) fee range)
sure_open c fee range =
    let P = Sure (deal_of c) fee in
    let n : Closing = record c { closed = None } in
    let inside = nat_le c.fees.least fee && nat_le fee c.fees.greatest in
    let echoes = cond inside (Ok (answer.EchoAndClose fee)) (counter n fee range) in
    let again = cond (is_fee c.peer_fee fee) (Ok answer.Nothing) echoes in
    either P (is_fee c.own_fee fee) (Ok (answer.Close fee)) again (λ t. tt)
    (λ t. either P (is_fee c.peer_fee fee) (Ok answer.Nothing) echoes (λ h. inl (is_fee_so fee c.peer_fee h))
    (λ h. either P inside (Ok (answer.EchoAndClose fee)) (counter n fee range) (λ i. tt)
    (λ i. sure_counter c fee range (both_not c.fees.least fee fee c.fees.greatest i))))

sure_by : (o : Option ℕ) (c : Closing) (fee : ℕ) (range : Option (ℕ × ℕ)) → c.closed ≡ o
    → Sure (deal_of c) fee (answer_to (record c { closed = o }) fee range)
sure_by None c fee range e = sure_open c fee range
sure_by (Some n) c fee range e =
    either (Sure (deal_of c) fee) (n == fee) (Ok answer.Nothing) (Err refusal.FeeOutside)
    (λ t. inr (e ∙ ap Some (eqb-true n fee t))) (λ t. tt)

pub sure : (c : Closing) (fee : ℕ) (range : Option (ℕ × ℕ)) → Sure (deal_of c) fee (answer_to c fee range)
sure c fee range = sure_by c.closed c fee range refl

-- ---- after an answer

-- it has heard the fee
pub heard_dealt : (a : FeeAnswer) (d : Deal) (fee : ℕ) → Sure d fee (Ok a) → Firm d → (dealt a fee d).heard ≡ Some fee
heard_dealt answer.Nothing d fee (inl k) h = k
heard_dealt answer.Nothing d fee (inr k) h = h.heard_it fee k
heard_dealt (answer.Close n) d fee s h = refl
heard_dealt (answer.EchoAndClose n) d fee s h = refl
heard_dealt (answer.Propose n) d fee s h = refl

pub firm_dealt : (a : FeeAnswer) (d : Deal) (fee : ℕ) (rg : Option (ℕ × ℕ)) → Fair d fee rg a → Sure d fee (Ok a)
    → Firm d
    → Firm (dealt a fee d)
firm_dealt answer.Nothing d fee rg f s h = h
firm_dealt (answer.Close n) d fee rg f s h = record {
  heard_it = λ m k. ap Some (sym f.0) ∙ k;
  answered = λ m k. ap is_some f.1;
  closes = λ m k l. ap Some f.0 ∙ l;
  decided = λ r m l. ap Some f.0 ∙ l;
}
firm_dealt (answer.EchoAndClose n) d fee rg f s h = record {
  heard_it = λ m k. ap Some (sym f.0) ∙ k;
  answered = λ m k. refl;
  closes = λ m k l. k;
  decided = λ r m l. ap Some f.0 ∙ l;
}
firm_dealt (answer.Propose n) d fee rg f s h = record {
  heard_it = λ m k. absurd (not_none m d.closed f.2 k);
  answered = λ m k. refl;
  closes = λ m k l. absurd (s (some_same n fee (k ∙ sym l)));
  decided = λ r m l. absurd (let no : true ≡ false = sym r ∙ f.0 in cc);
}

-- ---- where each has heard the other's last fee

-- both are closed, where the funder d has sent one
pub both_closed : (d e : Deal) → Firm d → Firm e → d.funder ≡ true → is_some d.bid ≡ true → e.heard ≡ d.bid
    → d.heard ≡ e.bid → ((n : ℕ) → d.closed ≡ Some n → (d.bid ≡ Some n) × (e.bid ≡ Some n))
    → (is_some d.closed ≡ true) × (is_some e.closed ≡ true)
both_closed d e fd fe is bid there back same =
    let first = some_of d.bid bid in
    let answer = some_of e.bid (fe.answered first.0 (there ∙ first.1)) in
    let closed : d.closed ≡ Some answer.0 = fd.decided is answer.0 (back ∙ answer.1) in
    let one = same answer.0 closed in
    (ap is_some closed, ap is_some (fe.closes answer.0 answer.1 (there ∙ one.0)))
