-- What every step keeps of the closing fees: of the funder's deal d, the fundee's e, and the fees in flight.
use Rattle.std.proofs.Common.{◌≡◌, ◌⊎◌, inl, inr, ℕ, ◌≤◌, List, [], ◌∷◌, ◌++◌, refl, sym, ap, ◌∙◌, subst, arith}
use Rattle.std.proofs.Common.{append-nil}
use Rattle.std.proofs.Common.{Bool, true, false, Option, Some, is_some, None, min, max}
use Rattle.ln_close.specs.declared.closing.Fees.{Fees}
use Rattle.ln_close.specs.declared.closing.FeeAnswer.{FeeAnswer}
use Rattle.ln_close.specs.declared.closing.FeeAnswer.TheVariants as answer

-- what an end has said and heard of the closing fee
pub record Deal : Type 0 where
  pub funder : Bool
  pub fees : Fees
  pub range : Option (ℕ × ℕ)  -- as it tells it
  pub bid : Option ℕ  -- the last fee that it sent
  pub heard : Option ℕ  -- the last one that it took
  pub closed : Option ℕ

pub record Offer : Type 0 where
  pub fee : ℕ
  pub range : Option (ℕ × ℕ)

-- ---- what is in flight

-- all of this fee, with this range
abbrev pub AllAre : Option (ℕ × ℕ) → ℕ → List Offer → Type 0
AllAre r n [] = Unit {0}
AllAre r n (o ∷ os) = (o.range ≡ r) × (o.fee ≡ n) × AllAre r n os

-- the first fee, and from somewhere on the last one alone
abbrev pub Offers : Option (ℕ × ℕ) → ℕ → Option ℕ → List Offer → Type 0
Offers r first bid [] = Unit {0}
Offers r first bid (o ∷ os) = (o.range ≡ r) × (((o.fee ≡ first) × (is_some bid ≡ true) × Offers r first bid os)
    ⊎ ((bid ≡ Some o.fee) × AllAre r o.fee os))

abbrev pub AllBid : Option ℕ → List Offer → Type 0
AllBid bid [] = Unit {0}
AllBid bid (o ∷ os) = (bid ≡ Some o.fee) × AllBid bid os

abbrev pub InRange : Option (ℕ × ℕ) → ℕ → Type 0
InRange None n = ⊥
InRange (Some r) n = (r.0 ≤ n) × (n ≤ r.1)

pub record Agreed (d e : Deal) (to_fundee to_funder : List Offer) : Type 0 where
  pub funder : d.funder ≡ true
  pub fundee : e.funder ≡ false
  pub bid : (n : ℕ) → d.bid ≡ Some n → (n ≡ d.fees.first) ⊎ (d.closed ≡ Some n)
  pub closed : (n : ℕ) → d.closed ≡ Some n → (d.bid ≡ Some n) × (e.bid ≡ Some n)
  pub their_closed : (n : ℕ) → e.closed ≡ Some n → (d.bid ≡ Some n) × (e.bid ≡ Some n)
  pub inside : (n : ℕ) → e.bid ≡ Some n → (n ≡ d.fees.first) ⊎ InRange d.range n
  pub heard : (n : ℕ) → e.bid ≡ Some n → (e.heard ≡ Some d.fees.first) ⊎ (e.closed ≡ Some n)
  pub offered : Offers d.range d.fees.first d.bid to_fundee
  pub behind : (n : ℕ) → e.closed ≡ Some n → AllAre d.range n to_fundee
  pub answered : AllBid e.bid to_funder

-- of x's deal and y's, whichever is the funder
abbrev pub Priced : Deal → Deal → List Offer → List Offer → Type 0
Priced d e to_y to_x = Agreed d e to_y to_x ⊎ Agreed e d to_x to_y

pub some_same : (a b : ℕ) → Some a ≡ Some b → a ≡ b
some_same a b e = cc (e)

pub not_none : (n : ℕ) (o : Option ℕ) → o ≡ None → o ≡ Some n → ⊥
not_none n o e f = let d : None ≡ Some n = sym e ∙ f in absurd (cc)

are-push : (r : Option (ℕ × ℕ)) (n : ℕ) (os : List Offer) → AllAre r n os
    → AllAre r n (os ++ record { fee = n; range = r } ∷ [])
are-push r n [] h = (refl, refl, tt)
are-push r n (o ∷ os) h = (h.0, h.1, are-push r n os h.2)

are-front : (r : Option (ℕ × ℕ)) (n : ℕ) (os ps : List Offer) → AllAre r n (os ++ ps) → AllAre r n os
are-front r n [] ps h = tt
are-front r n (o ∷ os) ps h = (h.0, h.1, are-front r n os ps h.2)

offers-front-by : (r : Option (ℕ × ℕ)) (first : ℕ) (bid : Option ℕ) (o : Offer) (os ps : List Offer)
    → (Offers r first bid (os ++ ps) → Offers r first bid os)
    → ((o.fee ≡ first) × (is_some bid ≡ true) × Offers r first bid (os ++ ps))
    ⊎ ((bid ≡ Some o.fee) × AllAre r o.fee (os ++ ps))
    → ((o.fee ≡ first) × (is_some bid ≡ true) × Offers r first bid os) ⊎ ((bid ≡ Some o.fee) × AllAre r o.fee os)
offers-front-by r first bid o os ps ih (inl k) = inl (k.0, k.1, ih k.2)
offers-front-by r first bid o os ps ih (inr k) = inr (k.0, are-front r o.fee os ps k.1)

offers-front : (r : Option (ℕ × ℕ)) (first : ℕ) (bid : Option ℕ) (os ps : List Offer) → Offers r first bid (os ++ ps)
    → Offers r first bid os
offers-front r first bid [] ps h = tt
offers-front r first bid (o ∷ os) ps h =
    (h.0, offers-front-by r first bid o os ps (offers-front r first bid os ps) h.1)

-- the last fee alone
are-offers : (r : Option (ℕ × ℕ)) (first n : ℕ) (bid : Option ℕ) (os : List Offer) → bid ≡ Some n → AllAre r n os
    → Offers r first bid os
are-offers r first n bid [] e h = tt
are-offers r first n bid (o ∷ os) e h =
    (h.0, inr (e ∙ ap Some (sym h.1), subst (λ m. AllAre r m os) (sym h.1) h.2))

-- the first fee alone
firsts : (r : Option (ℕ × ℕ)) (first : ℕ) (bid : Option ℕ) (os : List Offer) → is_some bid ≡ true
    → AllAre r first os → Offers r first bid os
firsts r first bid [] e h = tt
firsts r first bid (o ∷ os) e h = (h.0, inl (h.1, e, firsts r first bid os e h.2))

offers-push-by : (r : Option (ℕ × ℕ)) (first n : ℕ) (bid : Option ℕ) (o : Offer) (os : List Offer) → bid ≡ Some n
    → (Offers r first bid os → Offers r first bid (os ++ record { fee = n; range = r } ∷ []))
    → ((o.fee ≡ first) × (is_some bid ≡ true) × Offers r first bid os) ⊎ ((bid ≡ Some o.fee) × AllAre r o.fee os)
    → ((o.fee ≡ first) × (is_some bid ≡ true) × Offers r first bid (os ++ record { fee = n; range = r } ∷ []))
    ⊎ ((bid ≡ Some o.fee) × AllAre r o.fee (os ++ record { fee = n; range = r } ∷ []))
offers-push-by r first n bid o os e ih (inl k) = inl (k.0, k.1, ih k.2)
offers-push-by r first n bid o os e ih (inr k) =
    let same : o.fee ≡ n = some_same o.fee n (sym k.0 ∙ e) in
    inr (
      k.0,
      subst (λ m. AllAre r m (os ++ record { fee = n; range = r } ∷ [])) (sym same)
          (are-push r n os (subst (λ m. AllAre r m os) same k.1)),
    )

offers-push : (r : Option (ℕ × ℕ)) (first n : ℕ) (bid : Option ℕ) (os : List Offer) → bid ≡ Some n
    → Offers r first bid os → Offers r first bid (os ++ record { fee = n; range = r } ∷ [])
offers-push r first n bid [] e h = (refl, inr (e, tt))
offers-push r first n bid (o ∷ os) e h =
    (h.0, offers-push-by r first n bid o os e (offers-push r first n bid os e) h.1)

-- where the last fee is the first one, or none was sent, all are the first
offers-are-by : (r : Option (ℕ × ℕ)) (first : ℕ) (bid : Option ℕ) (o : Offer) (os : List Offer)
    → ((n : ℕ) → bid ≡ Some n → n ≡ first) → (Offers r first bid os → AllAre r first os)
    → ((o.fee ≡ first) × (is_some bid ≡ true) × Offers r first bid os) ⊎ ((bid ≡ Some o.fee) × AllAre r o.fee os)
    → (o.fee ≡ first) × AllAre r first os
offers-are-by r first bid o os e ih (inl k) = (k.0, ih k.2)
offers-are-by r first bid o os e ih (inr k) = let same = e o.fee k.0 in (same, subst (λ m. AllAre r m os) same k.1)

offers-are : (r : Option (ℕ × ℕ)) (first : ℕ) (bid : Option ℕ) (os : List Offer)
    → ((n : ℕ) → bid ≡ Some n → n ≡ first) → Offers r first bid os → AllAre r first os
offers-are r first bid [] e h = tt
offers-are r first bid (o ∷ os) e h =
    let k = offers-are-by r first bid o os e (offers-are r first bid os e) h.1 in (h.0, k.0, k.1)

bid-push : (n : ℕ) (r : Option (ℕ × ℕ)) (bid : Option ℕ) (os : List Offer) → bid ≡ Some n → AllBid bid os
    → AllBid bid (os ++ record { fee = n; range = r } ∷ [])
bid-push n r bid [] e h = (e, tt)
bid-push n r bid (o ∷ os) e h = (h.0, bid-push n r bid os e h.1)

bid-front : (bid : Option ℕ) (os ps : List Offer) → AllBid bid (os ++ ps) → AllBid bid os
bid-front bid [] ps h = tt
bid-front bid (o ∷ os) ps h = (h.0, bid-front bid os ps h.1)

-- nothing is in flight of an end that has sent none
unbid-all : (bid more : Option ℕ) (os : List Offer) → ((n : ℕ) → bid ≡ Some n → ⊥) → AllBid bid os → AllBid more os
unbid-all bid more [] e h = tt
unbid-all bid more (o ∷ os) e h = absurd (e o.fee h.0)

-- ---- what is lost

agreed_front : (d e : Deal) (os ps qs rs : List Offer) → Agreed d e (os ++ ps) (qs ++ rs) → Agreed d e os qs
agreed_front d e os ps qs rs a = record {
  funder = a.funder;
  fundee = a.fundee;
  bid = a.bid;
  closed = a.closed;
  their_closed = a.their_closed;
  inside = a.inside;
  heard = a.heard;
  offered = offers-front d.range d.fees.first d.bid os ps a.offered;
  behind = λ n h. are-front d.range n os ps (a.behind n h);
  answered = bid-front e.bid qs rs a.answered;
}

-- a front of what is in flight to y
pub priced_front : (d e : Deal) (p s q : List Offer) → Priced d e (p ++ s) q → Priced d e p q
priced_front d e p s q (inl a) =
    inl (agreed_front d e p s q [] (subst (λ r. Agreed d e (p ++ s) r) (sym (append-nil q)) a))
priced_front d e p s q (inr a) =
    inr (agreed_front e d q [] p s (subst (λ r. Agreed e d r (p ++ s)) (sym (append-nil q)) a))

pub swap : (d e : Deal) (p q : List Offer) → Priced d e p q → Priced e d q p
swap d e p q (inl a) = inr a
swap d e p q (inr a) = inl a

pub priced_none : (d e : Deal) (p q : List Offer) → Priced d e p q → Priced d e p []
priced_none d e p q h = swap e d [] p (priced_front e d [] q p (swap d e p q h))

-- ---- a fee that was sent is sent again

funder_again : (d e : Deal) (n : ℕ) (os qs : List Offer) → d.bid ≡ Some n → Agreed d e os qs
    → Agreed d e (os ++ record { fee = n; range = d.range } ∷ []) qs
funder_again d e n os qs h a = record {
  funder = a.funder;
  fundee = a.fundee;
  bid = a.bid;
  closed = a.closed;
  their_closed = a.their_closed;
  inside = a.inside;
  heard = a.heard;
  offered = offers-push d.range d.fees.first n d.bid os h a.offered;
  behind = λ m k. (let same : n ≡ m = some_same n m (sym h ∙ (a.their_closed m k).0) in
      subst (λ i. AllAre d.range m (os ++ record { fee = i; range = d.range } ∷ [])) (sym same)
      (are-push d.range m os (a.behind m k)));
  answered = a.answered;
}

fundee_again : (d e : Deal) (n : ℕ) (os qs : List Offer) → e.bid ≡ Some n → Agreed d e os qs
    → Agreed d e os (qs ++ record { fee = n; range = e.range } ∷ [])
fundee_again d e n os qs h a = record {
  funder = a.funder;
  fundee = a.fundee;
  bid = a.bid;
  closed = a.closed;
  their_closed = a.their_closed;
  inside = a.inside;
  heard = a.heard;
  offered = a.offered;
  behind = a.behind;
  answered = bid-push n e.range e.bid qs h a.answered;
}

pub again : (d e : Deal) (n : ℕ) (os qs : List Offer) → d.bid ≡ Some n → Priced d e os qs
    → Priced d e (os ++ record { fee = n; range = d.range } ∷ []) qs
again d e n os qs h (inl a) = inl (funder_again d e n os qs h a)
again d e n os qs h (inr a) = inr (fundee_again e d n qs os h a)

-- ---- the funder's first fee, before it is sent

pub first_bid : (d e : Deal) (os qs : List Offer) → d.funder ≡ true → d.bid ≡ None → Priced d e os qs
    → Priced (record d { bid = Some d.fees.first }) e os qs
first_bid d e os qs is none (inr a) = absurd (let no : true ≡ false = sym is ∙ a.fundee in cc)
first_bid d e os qs is none (inl a) = inl (record {
  funder = a.funder;
  fundee = a.fundee;
  bid = λ n h. inl (sym (some_same d.fees.first n h));
  closed = λ n h. absurd (not_none n d.bid none (a.closed n h).0);
  their_closed = λ n h. absurd (not_none n d.bid none (a.their_closed n h).0);
  inside = a.inside;
  heard = a.heard;
  offered = firsts d.range d.fees.first (Some d.fees.first) os refl
      (offers-are d.range d.fees.first d.bid os (λ n h. absurd (not_none n d.bid none h)) a.offered);
  behind = a.behind;
  answered = a.answered;
})

-- ---- what an answer comes to

-- both ranges share no fee
abbrev pub Apart : Fees → Option (ℕ × ℕ) → Type 0
Apart f None = Unit {0}
Apart f (Some r) = max f.least r.0 ≤ min f.greatest r.1 → ⊥

-- why a fee is refused
pub data Refused (d : Deal) (fee : ℕ) (rg : Option (ℕ × ℕ)) : Type 0 where
  Elsewhere : (n : ℕ) → d.closed ≡ Some n → (n ≡ fee → ⊥) → Refused d fee rg
  Outside : d.closed ≡ None → (d.bid ≡ Some fee → ⊥) → (d.heard ≡ Some fee → ⊥)
      → (d.fees.least ≤ fee → fee ≤ d.fees.greatest → ⊥)
      → (d.funder ≡ true) ⊎ (((n : ℕ) × (d.bid ≡ Some n)) ⊎ Apart d.fees rg) → Refused d fee rg

-- what an answer says of the rule that gave it
abbrev pub Fair : Deal → ℕ → Option (ℕ × ℕ) → FeeAnswer → Type 0
Fair d fee rg answer.Nothing = Unit {0}
Fair d fee rg (answer.Close n) = (n ≡ fee) × (d.bid ≡ Some fee) × (d.closed ≡ None)
Fair d fee rg (answer.EchoAndClose n) =
    (n ≡ fee) × (d.heard ≡ Some fee → ⊥) × (d.bid ≡ Some fee → ⊥) × (d.closed ≡ None)
Fair d fee rg (answer.Propose n) = (d.funder ≡ false) × (d.bid ≡ None) × (d.closed ≡ None) × InRange rg n

abbrev pub dealt : FeeAnswer → ℕ → Deal → Deal
dealt answer.Nothing fee d = d
dealt (answer.Close n) fee d = record d { heard = Some fee; closed = Some n }
dealt (answer.EchoAndClose n) fee d = record d { bid = Some n; heard = Some fee; closed = Some n }
dealt (answer.Propose n) fee d = record d { bid = Some n; heard = Some fee }

-- ---- the funder takes a fee

only_first : (d e : Deal) (os qs : List Offer) (n : ℕ) → d.closed ≡ None → Agreed d e os qs → d.bid ≡ Some n
    → n ≡ d.fees.first
only_first d e os qs n none a h = by (a.bid n h)
  where
    by : (n ≡ d.fees.first) ⊎ (d.closed ≡ Some n) → n ≡ d.fees.first
    by (inl k) = k
    by (inr k) = absurd (not_none n d.closed none k)

funder_same : (d e : Deal) (o : Offer) (os qs : List Offer) → Agreed d e os (o ∷ qs) → Agreed d e os qs
funder_same d e o os qs a = record {
  funder = a.funder;
  fundee = a.fundee;
  bid = a.bid;
  closed = a.closed;
  their_closed = a.their_closed;
  inside = a.inside;
  heard = a.heard;
  offered = a.offered;
  behind = a.behind;
  answered = a.answered.1;
}

funder_dealt : (x : FeeAnswer) (d e : Deal) (fee : ℕ) (rg : Option (ℕ × ℕ)) (os qs : List Offer) → Fair d fee rg x
    → Agreed d e os (record { fee = fee; range = rg } ∷ qs) → Agreed (dealt x fee d) e os qs
funder_dealt answer.Nothing d e fee rg os qs h a = funder_same d e (record { fee = fee; range = rg }) os qs a
funder_dealt (answer.Close m) d e fee rg os qs h a = record {
  funder = a.funder;
  fundee = a.fundee;
  bid = λ n k. inr (ap Some h.0 ∙ sym h.1 ∙ k);
  closed = λ n k. (h.1 ∙ ap Some (sym h.0) ∙ k, a.answered.0 ∙ ap Some (sym h.0) ∙ k);
  their_closed = a.their_closed;
  inside = a.inside;
  heard = a.heard;
  offered = a.offered;
  behind = a.behind;
  answered = a.answered.1;
}
funder_dealt (answer.EchoAndClose m) d e fee rg os qs h a =
    let first : (n : ℕ) → d.bid ≡ Some n → n ≡ d.fees.first = λ n k. only_first d e os
    (record { fee = fee; range = rg } ∷ qs) n h.3 a k in
    record {
      funder = a.funder;
      fundee = a.fundee;
      bid = λ n k. inr k;
      closed = λ n k. (k, a.answered.0 ∙ ap Some (sym h.0) ∙ k);
      their_closed = λ n k. (ap Some h.0 ∙ sym a.answered.0 ∙ (a.their_closed n k).1, (a.their_closed n k).1);
      inside = a.inside;
      heard = a.heard;
      offered = firsts d.range d.fees.first (Some m) os refl
          (offers-are d.range d.fees.first d.bid os first a.offered);
      behind = a.behind;
      answered = a.answered.1;
    }
funder_dealt (answer.Propose m) d e fee rg os qs h a = absurd (let k : true ≡ false = sym a.funder ∙ h.0 in cc)

-- ---- the fundee takes a fee

-- what stands after the first
offers-rest : (r : Option (ℕ × ℕ)) (first : ℕ) (bid : Option ℕ) (o : Offer) (os : List Offer)
    → ((o.fee ≡ first) × (is_some bid ≡ true) × Offers r first bid os) ⊎ ((bid ≡ Some o.fee) × AllAre r o.fee os)
    → Offers r first bid os
offers-rest r first bid o os (inl k) = k.2
offers-rest r first bid o os (inr k) = are-offers r first o.fee bid os k.0 k.1

-- one that isn't the fundee's own is the funder's first
fresh_first : (d e : Deal) (fee : ℕ) (rg : Option (ℕ × ℕ)) (os qs : List Offer) → (e.bid ≡ Some fee → ⊥)
    → Agreed d e (record { fee = fee; range = rg } ∷ os) qs → fee ≡ d.fees.first
fresh_first d e fee rg os qs none a = by a.offered.1
  where
    last : (fee ≡ d.fees.first) ⊎ (d.closed ≡ Some fee) → fee ≡ d.fees.first
    last (inl k) = k
    last (inr k) = absurd (none (a.closed fee k).1)

    by : ((fee ≡ d.fees.first) × (is_some d.bid ≡ true) × Offers d.range d.fees.first d.bid os)
        ⊎ ((d.bid ≡ Some fee) × AllAre d.range fee os) → fee ≡ d.fees.first
    by (inl k) = k.0
    by (inr k) = last (a.bid fee k.0)

-- a fundee that hasn't heard the first fee has sent none, where it isn't closed
unheard_none : (d e : Deal) (fee n : ℕ) (os qs : List Offer) → (e.heard ≡ Some fee → ⊥) → e.closed ≡ None
    → fee ≡ d.fees.first → Agreed d e os qs → e.bid ≡ Some n → ⊥
unheard_none d e fee n os qs unheard shut_not first a h = by (a.heard n h)
  where
    by : (e.heard ≡ Some d.fees.first) ⊎ (e.closed ≡ Some n) → ⊥
    by (inl k) = unheard (k ∙ ap Some (sym first))
    by (inr k) = not_none n e.closed shut_not k

-- why the fundee closes at a fee: it has sent it, or has sent none and this is the first
abbrev OwnOr : Deal → Deal → ℕ → Type 0
OwnOr d e fee = (e.bid ≡ Some fee) ⊎ (((n : ℕ) → e.bid ≡ Some n → ⊥) × (fee ≡ d.fees.first))

-- the funder's last fee, where the fundee closes at this one
last_is : (d e : Deal) (fee m : ℕ) (os qs : List Offer) → d.bid ≡ Some m → OwnOr d e fee → Agreed d e os qs
    → fee ≡ d.fees.first → d.bid ≡ Some fee
last_is d e fee m os qs h own a first = by (a.bid m h) own
  where
    by : (m ≡ d.fees.first) ⊎ (d.closed ≡ Some m) → OwnOr d e fee → d.bid ≡ Some fee
    by (inl k) o = h ∙ ap Some (k ∙ sym first)
    by (inr k) (inl o) = h ∙ sym (a.closed m k).1 ∙ o
    by (inr k) (inr o) = absurd (o.0 m (a.closed m k).1)

pub some_of : (o : Option ℕ) → is_some o ≡ true → (n : ℕ) × (o ≡ Some n)
some_of None e = absurd (cc)
some_of (Some n) e = (n, refl)

-- the same, whatever stands in front; and then nothing but this fee is after it
record Last (d : Deal) (fee : ℕ) (os : List Offer) : Type 0 where
  bid : d.bid ≡ Some fee
  behind : AllAre d.range fee os

last_in_front : (d e : Deal) (fee : ℕ) (rg : Option (ℕ × ℕ)) (os qs : List Offer) → OwnOr d e fee
    → Agreed d e (record { fee = fee; range = rg } ∷ os) qs → Last d fee os
last_in_front d e fee rg os qs own a = by a.offered.1
  where
    by : ((fee ≡ d.fees.first) × (is_some d.bid ≡ true) × Offers d.range d.fees.first d.bid os)
        ⊎ ((d.bid ≡ Some fee) × AllAre d.range fee os) → Last d fee os
    by (inl k) =
        let m = some_of d.bid k.1 in
        let last = last_is d e fee m.0 (record { fee = fee; range = rg } ∷ os) qs m.1 own a k.0 in
        record {
          bid = last;
          behind = subst (λ n. AllAre d.range n os) (sym k.0) (offers-are d.range d.fees.first d.bid os
              (λ n i. some_same n fee (sym i ∙ last) ∙ k.0) k.2);
        }
    by (inr k) = record { bid = k.0; behind = k.1 }

fundee_same : (d e : Deal) (o : Offer) (os qs : List Offer) → Agreed d e (o ∷ os) qs → Agreed d e os qs
fundee_same d e o os qs a = record {
  funder = a.funder;
  fundee = a.fundee;
  bid = a.bid;
  closed = a.closed;
  their_closed = a.their_closed;
  inside = a.inside;
  heard = a.heard;
  offered = offers-rest d.range d.fees.first d.bid o os a.offered.1;
  behind = λ n h. (a.behind n h).2;
  answered = a.answered;
}

fundee_dealt : (x : FeeAnswer) (d e : Deal) (fee : ℕ) (rg : Option (ℕ × ℕ)) (os qs : List Offer) → Fair e fee rg x
    → Agreed d e (record { fee = fee; range = rg } ∷ os) qs → Agreed d (dealt x fee e) os qs
fundee_dealt answer.Nothing d e fee rg os qs h a = fundee_same d e (record { fee = fee; range = rg }) os qs a
fundee_dealt (answer.Close n) d e fee rg os qs h a =
    let last = last_in_front d e fee rg os qs (inl h.1) a in
    let same : (k : ℕ) → Some n ≡ Some k → fee ≡ k = λ k i. sym h.0 ∙ some_same n k i in
    record {
      funder = a.funder;
      fundee = a.fundee;
      bid = a.bid;
      closed = a.closed;
      their_closed = λ k i. (last.bid ∙ ap Some (same k i), h.1 ∙ ap Some (same k i));
      inside = a.inside;
      heard = λ k i. inr (ap Some h.0 ∙ sym h.1 ∙ i);
      offered = offers-rest d.range d.fees.first d.bid (record { fee = fee; range = rg }) os a.offered.1;
      behind = λ k i. subst (λ j. AllAre d.range j os) (same k i) last.behind;
      answered = a.answered;
    }
fundee_dealt (answer.EchoAndClose n) d e fee rg os qs h a =
    let first : fee ≡ d.fees.first = fresh_first d e fee rg os qs h.2 a in
    let none : (k : ℕ) → e.bid ≡ Some k → ⊥ = λ k i. unheard_none d e fee k (record { fee = fee; range = rg } ∷ os) qs
    h.1 h.3 first a i in
    let last = last_in_front d e fee rg os qs (inr (none, first)) a in
    let same : (k : ℕ) → Some n ≡ Some k → fee ≡ k = λ k i. sym h.0 ∙ some_same n k i in
    record {
      funder = a.funder;
      fundee = a.fundee;
      bid = a.bid;
      closed = λ k i. absurd (none k (a.closed k i).1);
      their_closed = λ k i. (last.bid ∙ ap Some (same k i), i);
      inside = λ k i. inl (sym (same k i) ∙ first);
      heard = λ k i. inr i;
      offered = offers-rest d.range d.fees.first d.bid (record { fee = fee; range = rg }) os a.offered.1;
      behind = λ k i. subst (λ j. AllAre d.range j os) (same k i) last.behind;
      answered = unbid-all e.bid (Some n) qs none a.answered;
    }
fundee_dealt (answer.Propose n) d e fee rg os qs h a =
    let none : (k : ℕ) → e.bid ≡ Some k → ⊥ = λ k i. not_none k e.bid h.1 i in
    let first : fee ≡ d.fees.first = fresh_first d e fee rg os qs (none fee) a in
    record {
      funder = a.funder;
      fundee = a.fundee;
      bid = a.bid;
      closed = λ k i. absurd (none k (a.closed k i).1);
      their_closed = λ k i. absurd (not_none k e.closed h.2 i);
      inside = λ k i. inr (subst (λ j. InRange d.range j) (some_same n k i) (subst (λ g. InRange g n) a.offered.0 h.3));
      heard = λ k i. inl (ap Some first);
      offered = offers-rest d.range d.fees.first d.bid (record { fee = fee; range = rg }) os a.offered.1;
      behind = λ k i. absurd (not_none k e.closed h.2 i);
      answered = unbid-all e.bid (Some n) qs none a.answered;
    }

-- ---- whichever takes it, from the front of what is in flight to it

pub taken_dealt : (x : FeeAnswer) (d e : Deal) (fee : ℕ) (rg : Option (ℕ × ℕ)) (os qs : List Offer) → Fair d fee rg x
    → Priced d e os (record { fee = fee; range = rg } ∷ qs) → Priced (dealt x fee d) e os qs
taken_dealt x d e fee rg os qs h (inl a) = inl (funder_dealt x d e fee rg os qs h a)
taken_dealt x d e fee rg os qs h (inr a) = inr (fundee_dealt x e d fee rg qs os h a)

pub passed_over : (d e : Deal) (o : Offer) (os qs : List Offer) → Priced d e os (o ∷ qs) → Priced d e os qs
passed_over d e o os qs (inl a) = inl (funder_same d e o os qs a)
passed_over d e o os qs (inr a) = inr (fundee_same e d o qs os a)

-- ---- two ends that are closed have one fee

pub same_fee : (d e : Deal) (p q : List Offer) (m n : ℕ) → Priced d e p q → d.closed ≡ Some m → e.closed ≡ Some n
    → m ≡ n
same_fee d e p q m n (inl a) h k = some_same m n (sym (a.closed m h).1 ∙ (a.their_closed n k).1)
same_fee d e p q m n (inr a) h k = some_same m n (sym (a.their_closed m h).1 ∙ (a.closed n k).1)

-- ---- where the ranges overlap, no fee is refused

-- each range is told as it is, its first fee in it
pub record IsPlain (d : Deal) : Type 0 where
  pub range : d.range ≡ Some (d.fees.least, d.fees.greatest)
  pub least : d.fees.least ≤ d.fees.first
  pub greatest : d.fees.first ≤ d.fees.greatest

within_plain : (d : Deal) (n : ℕ) → IsPlain d → (n ≡ d.fees.first) ⊎ InRange d.range n
    → (d.fees.least ≤ n) × (n ≤ d.fees.greatest)
within_plain d n p (inl e) =
    let l = p.least in let g = p.greatest in (omega (arith, e, l), omega (arith, e, g))
within_plain d n p (inr i) = subst (λ g. InRange g n) p.range i

funder_refuses : (d e : Deal) (fee : ℕ) (rg : Option (ℕ × ℕ)) (os qs : List Offer) → IsPlain d → Refused d fee rg
    → Agreed d e os (record { fee = fee; range = rg } ∷ qs) → ⊥
funder_refuses d e fee rg os qs p (Elsewhere n h k) a = k (some_same n fee (sym (a.closed n h).1 ∙ a.answered.0))
funder_refuses d e fee rg os qs p (Outside h1 h2 h3 h4 h5) a =
    let i = within_plain d fee p (a.inside fee a.answered.0) in h4 i.0 i.1

fundee_refuses : (d e : Deal) (fee : ℕ) (rg : Option (ℕ × ℕ)) (os qs : List Offer) → IsPlain d
    → max e.fees.least d.fees.least ≤ min e.fees.greatest d.fees.greatest → Refused e fee rg
    → Agreed d e (record { fee = fee; range = rg } ∷ os) qs → ⊥
fundee_refuses d e fee rg os qs p over (Elsewhere n h k) a = k (sym (a.behind n h).1)
fundee_refuses d e fee rg os qs p over (Outside h1 h2 h3 h4 h5) a = by h5
  where
    first : fee ≡ d.fees.first
    first = fresh_first d e fee rg os qs h2 a

    by : (e.funder ≡ true) ⊎ (((n : ℕ) × (e.bid ≡ Some n)) ⊎ Apart e.fees rg) → ⊥
    by (inl k) = let c : true ≡ false = sym k ∙ a.fundee in absurd (cc)
    by (inr (inl k)) = unheard_none d e fee k.0 (record { fee = fee; range = rg } ∷ os) qs h3 h1 first a k.1
    by (inr (inr k)) = (subst (λ g. Apart e.fees g) (a.offered.0 ∙ p.range) k) over

pub refuses : (d e : Deal) (fee : ℕ) (rg : Option (ℕ × ℕ)) (os qs : List Offer) → IsPlain d → IsPlain e
    → max d.fees.least e.fees.least ≤ min d.fees.greatest e.fees.greatest → Refused d fee rg
    → Priced d e os (record { fee = fee; range = rg } ∷ qs) → ⊥
refuses d e fee rg os qs p q over h (inl a) = funder_refuses d e fee rg os qs p h a
refuses d e fee rg os qs p q over h (inr a) = fundee_refuses e d fee rg qs os q over h a
