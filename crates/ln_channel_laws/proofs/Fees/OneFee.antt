-- What the closing fees of both ends promise.
use Rattle.std.proofs.Common.{◌≡◌, inl, inr, ℕ, ◌<◌, ◌≤◌, ◌^◌, List, [], ◌∷◌, ◌++◌, length, drop, min, max, refl, sym}
use Rattle.std.proofs.Common.{ap, ◌∙◌, subst, arith, append-nil, Bool, true, false, cond, not, Some, None}
use Rattle.std.proofs.Common.{Result, Ok, Err, ◌+◌, length-append}
use Rattle.std.proofs.lemmas.Bool.{eq-eqb}
use Rattle.byteorder.specs.Endian.{big_bytes, big_number}
use Rattle.byteorder.specs.Numbers.{big_number-reads_back, length-bytes_high_first}
use Rattle.ln_msgs.specs.declared.messages.message.Message.{Message}
use Rattle.ln_msgs.specs.declared.messages.message.Message.TheVariants as message
use Rattle.ln_msgs.specs.declared.messages.closing.ClosingSigned.{ClosingSigned}
use Rattle.ln_refusals.specs.declared.refusal.Refusal.{Refusal}
use Rattle.ln_refusals.specs.declared.refusal.Refusal.TheVariants as refusal
use Rattle.ln_keys.specs.Signer.{Signer}
use Rattle.ln_close.specs.declared.closing.FeeAnswer.{FeeAnswer}
use Rattle.ln_close.specs.declared.closing.Closing.{Closing}
use Rattle.ln_close.specs.declared.closing.Fees.{Fees}
use Rattle.ln_close.specs.Closing.{AreOrdered, answer_to}
use Rattle.ln_channel.specs.declared.config.Config.{Config}
use Rattle.ln_channel.specs.declared.config.OpenSpec.{OpenSpec}
use Rattle.ln_channel.specs.declared.machine.ConnectionState.{ConnectionState}
use Rattle.ln_channel.specs.declared.machine.ConnectionState.TheVariants.{Down, AwaitingReestablish, Connected}
use Rattle.ln_channel.specs.declared.opening.Opened.{Opened}
use Rattle.ln_channel.specs.Meeting.{Opens}
use Rattle.ln_channel.specs.End.{End, has_begun}
use Rattle.ln_channel.specs.Taking.{answered, completed_row, range_of, range_in}
use Rattle.ln_channel_laws.specs.Ends.{Ends, Step, opened, turned, message_at, run}
use Rattle.ln_keys.specs.Partners.{ArePartners}
use Rattle.ln_channel_laws.specs.Promises.{AreSent, AreAgreeable, Overlap, TakesFront, AcceptsFront, AllTaken}
use Rattle.ln_channel_laws.specs.Promises.{OneFee, is_closing_signed}
use Rattle.ln_channel_laws.proofs.Fees.FeesInFlight.{Deal, Offer, Priced, Refused, IsPlain, same_fee, refuses}
use Rattle.ln_channel_laws.proofs.Fees.Deals.{deal_of, offer_in, offers_in, run_fees}
use Rattle.ln_channel_laws.proofs.Fees.FeeRules.{RuleSays, rule_says}
use Rattle.ln_channel_laws.proofs.Ends.JustOpened.{opened_fresh}
use Rattle.ln_channel_laws.proofs.Fees.FeesOverRuns.{At, turned_at, priced_at}
use Rattle.ln_channel_laws.proofs.Ends.Promised.{none_refused}

-- ---- one fee

pub one_fee : (a b : Signer) (s : OpenSpec) (c : Config) (funder fundee : Opened) (steps : List Step)
    → Opens a b s c funder fundee → OneFee (run a b steps (opened funder fundee))
one_fee a b s c funder fundee steps o f g ex ey =
    let p = run a b steps (opened funder fundee) in
    same_fee (deal_of p.x.closing) (deal_of p.y.closing) (offers_in p.to_y) (offers_in p.to_x) f g
    (priced_at a b funder fundee steps (opened_fresh a b s c funder fundee o)) ex ey

-- ---- each range is told as it is

drop_at : (xs ys : List ℕ) (n : ℕ) → length xs ≡ n → drop n (xs ++ ys) ≡ ys
drop_at xs ys n e = subst (λ m. drop m (xs ++ ys) ≡ ys) e (by xs)
  where
    by : (zs : List ℕ) → drop (length zs) (zs ++ ys) ≡ ys
    by [] = refl
    by (z ∷ zs) = by zs

range_back : (l g : ℕ) → l < 2 ^ 64 → g < 2 ^ 64 → range_of (Some (big_bytes 8 l ++ big_bytes 8 g)) ≡ Some (l, g)
range_back l g bl bg =
    let v = big_bytes 8 l ++ big_bytes 8 g in
    let ll = length-bytes_high_first 8 l in
    let lg = length-bytes_high_first 8 g in
    let long : length v ≡ 16 = length-append (big_bytes 8 l) (big_bytes 8 g) ∙ ap (λ n. n + length (big_bytes 8 g)) ll
    ∙ ap (λ n. 8 + n) lg in
    let least : big_number 8 v ≡ l = big_number-reads_back 8 l (big_bytes 8 g) bl in
    let rest : drop 8 v ≡ big_bytes 8 g = drop_at (big_bytes 8 l) (big_bytes 8 g) 8 ll in
    let greatest : big_number 8 (drop 8 v) ≡ g = ap (big_number 8) (rest ∙ sym (append-nil (big_bytes 8 g)))
    ∙ big_number-reads_back 8 g [] bg in
    ap (λ b. cond b (Some (big_number 8 v, big_number 8 (drop 8 v))) None) (eq-eqb (length v) 16 long)
    ∙ ap (λ n. Some (n, big_number 8 (drop 8 v))) least ∙ ap (λ n. Some (l, n)) greatest

is_plain : (c : Closing) → AreOrdered c.fees → AreSent c.fees → IsPlain (deal_of c)
is_plain c o s =
    let first = o.0 in
    let below = s.first in
    record {
      range = range_back c.fees.least c.fees.greatest (omega (arith, first, below)) s.greatest;
      least = o.0;
      greatest = o.1;
    }

-- ---- no fee is refused

-- what a fee that is refused comes to
refused_by : (k : Signer) (m : ClosingSigned) (n : End) (begun right : Bool) (r : Result FeeAnswer Refusal)
    → RuleSays (deal_of n.closing) m.fee_satoshis (range_in m) r
    → completed_row k (cond (not begun) (Err refusal.OutOfPlace)
    (cond right (answered k m n r) (Err refusal.SignatureWrong))) ≡ Err refusal.FeeOutside
    → Refused (deal_of n.closing) m.fee_satoshis (range_in m)
refused_by k m n true true (Ok a) s e = absurd (cc)
refused_by k m n true true (Err r) s e = s
refused_by k m n true false r s e = absurd (cc)
refused_by k m n false right r s e = absurd (cc)

never : (k : Signer) (l : ConnectionState) (m : Message) (n : End) (e : Deal) (os qs : List Offer)
    → IsPlain (deal_of n.closing)
    → IsPlain e → max n.closing.fees.least e.fees.least ≤ min n.closing.fees.greatest e.fees.greatest
    → Priced (deal_of n.closing) e os (offer_in m ++ qs) → is_closing_signed m ≡ true
    → message_at k l m n ≡ Err refusal.FeeOutside → ⊥
never k Down m n e os qs p q over h is r = absurd (cc)
never k AwaitingReestablish (message.ClosingSigned m) n e os qs p q over h is r = absurd (cc)
never k Connected (message.ClosingSigned m) n e os qs p q over h is r =
    refuses (deal_of n.closing) e m.fee_satoshis (range_in m) os qs p q over
    (refused_by k m n (has_begun n) (k.accepts_close m.fee_satoshis m.signature)
    (answer_to n.closing m.fee_satoshis (range_in m)) (rule_says n.closing m.fee_satoshis (range_in m)) r) h
never k AwaitingReestablish (message.Warning m) n e os qs p q over h is r = absurd (cc (is))
never k AwaitingReestablish (message.Init m) n e os qs p q over h is r = absurd (cc (is))
never k AwaitingReestablish (message.Error m) n e os qs p q over h is r = absurd (cc (is))
never k AwaitingReestablish (message.Ping m) n e os qs p q over h is r = absurd (cc (is))
never k AwaitingReestablish (message.Pong m) n e os qs p q over h is r = absurd (cc (is))
never k AwaitingReestablish (message.OpenChannel m) n e os qs p q over h is r = absurd (cc (is))
never k AwaitingReestablish (message.AcceptChannel m) n e os qs p q over h is r = absurd (cc (is))
never k AwaitingReestablish (message.FundingCreated m) n e os qs p q over h is r = absurd (cc (is))
never k AwaitingReestablish (message.FundingSigned m) n e os qs p q over h is r = absurd (cc (is))
never k AwaitingReestablish (message.ChannelReady m) n e os qs p q over h is r = absurd (cc (is))
never k AwaitingReestablish (message.Shutdown m) n e os qs p q over h is r = absurd (cc (is))
never k AwaitingReestablish (message.UpdateAddHtlc m) n e os qs p q over h is r = absurd (cc (is))
never k AwaitingReestablish (message.UpdateFulfillHtlc m) n e os qs p q over h is r = absurd (cc (is))
never k AwaitingReestablish (message.UpdateFailHtlc m) n e os qs p q over h is r = absurd (cc (is))
never k AwaitingReestablish (message.CommitmentSigned m) n e os qs p q over h is r = absurd (cc (is))
never k AwaitingReestablish (message.RevokeAndAck m) n e os qs p q over h is r = absurd (cc (is))
never k AwaitingReestablish (message.UpdateFee m) n e os qs p q over h is r = absurd (cc (is))
never k AwaitingReestablish (message.UpdateFailMalformedHtlc m) n e os qs p q over h is r = absurd (cc (is))
never k AwaitingReestablish (message.ChannelReestablish m) n e os qs p q over h is r = absurd (cc (is))
never k Connected (message.Warning m) n e os qs p q over h is r = absurd (cc (is))
never k Connected (message.Init m) n e os qs p q over h is r = absurd (cc (is))
never k Connected (message.Error m) n e os qs p q over h is r = absurd (cc (is))
never k Connected (message.Ping m) n e os qs p q over h is r = absurd (cc (is))
never k Connected (message.Pong m) n e os qs p q over h is r = absurd (cc (is))
never k Connected (message.OpenChannel m) n e os qs p q over h is r = absurd (cc (is))
never k Connected (message.AcceptChannel m) n e os qs p q over h is r = absurd (cc (is))
never k Connected (message.FundingCreated m) n e os qs p q over h is r = absurd (cc (is))
never k Connected (message.FundingSigned m) n e os qs p q over h is r = absurd (cc (is))
never k Connected (message.ChannelReady m) n e os qs p q over h is r = absurd (cc (is))
never k Connected (message.Shutdown m) n e os qs p q over h is r = absurd (cc (is))
never k Connected (message.UpdateAddHtlc m) n e os qs p q over h is r = absurd (cc (is))
never k Connected (message.UpdateFulfillHtlc m) n e os qs p q over h is r = absurd (cc (is))
never k Connected (message.UpdateFailHtlc m) n e os qs p q over h is r = absurd (cc (is))
never k Connected (message.CommitmentSigned m) n e os qs p q over h is r = absurd (cc (is))
never k Connected (message.RevokeAndAck m) n e os qs p q over h is r = absurd (cc (is))
never k Connected (message.UpdateFee m) n e os qs p q over h is r = absurd (cc (is))
never k Connected (message.UpdateFailMalformedHtlc m) n e os qs p q over h is r = absurd (cc (is))
never k Connected (message.ChannelReestablish m) n e os qs p q over h is r = absurd (cc (is))

front_taken : (k : Signer) (p : Ends) (ms : List Message) → p.to_x ≡ ms → IsPlain (deal_of p.x.closing)
    → IsPlain (deal_of p.y.closing) → Overlap p.x.closing.fees p.y.closing.fees → At p → TakesFront k p.x_line ms p.x
    → AcceptsFront k p.x_line ms p.x
front_taken k p [] is px py over h f = tt
front_taken k p (m ∷ ms) is px py over h (inl t) = t
front_taken k p (m ∷ ms) is px py over h (inr r) =
    absurd (never k p.x_line m p.x (deal_of p.y.closing) (offers_in p.to_y) (offers_in ms) px py over
    (subst (λ ns. Priced (deal_of p.x.closing) (deal_of p.y.closing) (offers_in p.to_y) (offers_in ns)) is h) r.0 r.1)

overlaps_back : (f g : Fees) → Overlap f g → Overlap g f
overlaps_back f g o = omega (arith, o)

pub all_taken : (a b : Signer) (s : OpenSpec) (c : Config) (funder fundee : Opened) (steps : List Step)
    → ArePartners a b
    → Opens a b s c funder fundee → AreAgreeable funder.closing.fees fundee.closing.fees
    → AllTaken a b (run a b steps (opened funder fundee))
all_taken a b s c funder fundee steps keys o g =
    let p = run a b steps (opened funder fundee) in
    let same = run_fees a b steps (opened funder fundee) in
    let f = none_refused a b s c funder fundee steps keys o g.funder_sent g.fundee_sent in
    let h = priced_at a b funder fundee steps (opened_fresh a b s c funder fundee o) in
    let px = is_plain p.x.closing (subst AreOrdered (sym same.x) g.funder) (subst AreSent (sym same.x) g.funder_sent) in
    let py = is_plain p.y.closing (subst AreOrdered (sym same.y) g.fundee) (subst AreSent (sym same.y) g.fundee_sent) in
    let over : Overlap p.x.closing.fees p.y.closing.fees =
    subst (λ q. Overlap q p.y.closing.fees) (sym same.x) (subst (λ q. Overlap funder.closing.fees q) (sym same.y)
    g.overlap) in (
      front_taken a p p.to_x refl px py over h f.0,
      front_taken b (turned p) p.to_y refl py px (overlaps_back p.x.closing.fees p.y.closing.fees over)
          (turned_at p h) f.1,
    )
