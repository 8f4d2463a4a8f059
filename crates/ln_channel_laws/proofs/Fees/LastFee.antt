-- At every step that takes the message that it delivers: each end that has met its peer, and whose peer hasn't lost the
-- connection, is heard by it at its last closing fee, once what is in flight is taken.
use Rattle.std.proofs.Common.{◌≡◌, ◌⊎◌, inl, inr, ℕ, List, [], ◌∷◌, ◌++◌, refl, sym, ap, ◌∙◌, subst, append-nil}
use Rattle.std.proofs.Common.{Bool, true, false, cond, not, ◌&&◌, Option, Some, None, is_some, is_none, Result, Ok, Err}
use Rattle.std.specs.Prelude.{option_map}
use Rattle.ln_msgs.specs.declared.messages.message.Message.{Message}
use Rattle.ln_msgs.specs.declared.messages.message.Message.TheVariants as message
use Rattle.ln_msgs.specs.declared.messages.closing.ClosingSigned.{ClosingSigned}
use Rattle.ln_msgs.specs.declared.messages.commitments.ChannelReestablish.{ChannelReestablish}
use Rattle.ln_refusals.specs.declared.refusal.Refusal.{Refusal}
use Rattle.ln_refusals.specs.declared.refusal.Refusal.TheVariants as refusal
use Rattle.ln_keys.specs.declared.role.Role.TheVariants.{Funder, Fundee}
use Rattle.ln_keys.specs.Signer.{Signer}
use Rattle.ln_dance.specs.Resume.{resume_fault}
use Rattle.ln_close.specs.declared.closing.FeeAnswer.{FeeAnswer}
use Rattle.ln_close.specs.declared.closing.FeeAnswer.TheVariants as answer
use Rattle.ln_close.specs.Closing.{is_funder, may_start, after_shut, answer_to}
use Rattle.ln_channel.specs.declared.command.Command.{Command}
use Rattle.ln_channel.specs.declared.command.Command.TheVariants as command
use Rattle.ln_channel.specs.declared.machine.ConnectionState.{ConnectionState}
use Rattle.ln_channel.specs.declared.machine.ConnectionState.TheVariants.{Down, AwaitingReestablish, Connected}
use Rattle.ln_channel.specs.declared.output.Output.TheVariants as output
use Rattle.ln_channel.specs.Opening.{unless}
use Rattle.ln_channel.specs.End.{End, Turn, sending, has_begun, completed, settled, answers_shutdown, owes_shutdown}
use Rattle.ln_channel.specs.End.{due_fee, due_sent, fee_sent, shutdown_sent, shutdown_message, end_dropped}
use Rattle.ln_channel.specs.End.{closing_message}
use Rattle.ln_channel.specs.State.{is_down}
use Rattle.ln_channel.specs.Step.{faulted, line_fault}
use Rattle.ln_channel.specs.Taking.{answering, answered, answered_end, range_in, message_row, completed_row}
use Rattle.ln_channel.specs.Commands.{command_row, shuts_down, shut_fault, unready_fault}
use Rattle.ln_channel.specs.Resume.{resumed, sent_again}
use Rattle.ln_channel_laws.specs.Ends.{Ends, turned, message_at, met_again, messages_in, arrive, becomes, answers}
use Rattle.ln_channel_laws.specs.Ends.{delivers, still_come, Act, Deliver, Give, Note, Lose, Cut, acts, connects, Step}
use Rattle.ln_channel_laws.specs.Ends.{By}
use Rattle.ln_channel_laws.specs.Ends.{Save, Connect, happens}
use Rattle.ln_channel_laws.specs.Promises.{is_closing_signed, IsTaken, AcceptsFront, AllTaken}
use Rattle.ln_channel_laws.proofs.Tests.{and_right}
use Rattle.ln_channel_laws.proofs.Flight.Sides.{closes_of}
use Rattle.ln_channel_laws.proofs.Fees.FeesInFlight.{Deal, Offer, Priced, AllAre, Offers, Fair, dealt, swap}
use Rattle.ln_channel_laws.proofs.Fees.Deals.{deal_of, offer_in, offers_in, IsAside, Aside, aside_message}
use Rattle.ln_channel_laws.proofs.Fees.Deals.{aside_command}
use Rattle.ln_channel_laws.proofs.Fees.Deals.{is_shutdown}
use Rattle.ln_channel_laws.proofs.Fees.FeeRules.{RuleSays, none_is, rule_says}
use Rattle.ln_channel_laws.proofs.Flight.Images.{messages_of}
use Rattle.ln_channel_laws.proofs.Fees.FeesOverRuns.{At, turned_at, offers-append, arrive_both, again_offers}
use Rattle.ln_channel_laws.proofs.Fees.OwnRules.{Firm, firm_first, Sure, sure, heard_dealt, firm_dealt}

-- the last fee that is heard, once these are taken
abbrev pub hears : Option ℕ → List Offer → Option ℕ
hears h [] = h
hears h (o ∷ os) = hears (Some o.fee) os

-- of the deal d of an end with the line lx, and the deal e of its peer with the line ly: os are on their way to the
-- peer, and qs to the end
pub record Hearing (lx ly : ConnectionState) (d e : Deal) (os qs : List Offer) : Type 0 where
  pub firm : Firm d
  pub their_firm : Firm e
  pub known : (n : ℕ) → e.heard ≡ Some n → is_some d.bid ≡ true
  pub their_known : (n : ℕ) → d.heard ≡ Some n → is_some e.bid ≡ true
  pub last : lx ≡ Connected → (ly ≡ Down → ⊥) → hears e.heard os ≡ d.bid
  pub their_last : ly ≡ Connected → (lx ≡ Down → ⊥) → hears d.heard qs ≡ e.bid

abbrev pub IsHeard : Ends → Type 0
IsHeard p = Hearing p.x_line p.y_line (deal_of p.x.closing) (deal_of p.y.closing) (offers_in p.to_y) (offers_in p.to_x)

-- ---- what is sent

hears-last : (h : Option ℕ) (os : List Offer) (o : Offer) → hears h (os ++ o ∷ []) ≡ Some o.fee
hears-last h [] o = refl
hears-last h (p ∷ os) o = hears-last (Some p.fee) os o

-- no closing fee is sent
quiet_last : (l : ConnectionState) (h bid : Option ℕ) (ms old : List Message) → offers_in ms ≡ []
    → ((l ≡ Down → ⊥) → hears h (offers_in old) ≡ bid) → (l ≡ Down → ⊥) → hears h (offers_in (arrive l ms old)) ≡ bid
quiet_last Down h bid ms old none k up = absurd (up refl)
quiet_last AwaitingReestablish h bid ms old none k up = ap (hears h) (offers-append old ms
    ∙ ap (λ p. offers_in old ++ p) none ∙ append-nil (offers_in old)) ∙ k up
quiet_last Connected h bid ms old none k up = ap (hears h) (offers-append old ms
    ∙ ap (λ p. offers_in old ++ p) none ∙ append-nil (offers_in old)) ∙ k up

-- the last fee is sent
sent_last : (l : ConnectionState) (h bid : Option ℕ) (o : Offer) (ms old : List Message) → offers_in ms ≡ o ∷ []
    → bid ≡ Some o.fee → (l ≡ Down → ⊥) → hears h (offers_in (arrive l ms old)) ≡ bid
sent_last Down h bid o ms old one is up = absurd (up refl)
sent_last AwaitingReestablish h bid o ms old one is up = ap (hears h) (offers-append old ms
    ∙ ap (λ p. offers_in old ++ p) one) ∙ hears-last h (offers_in old) o ∙ sym is
sent_last Connected h bid o ms old one is up = ap (hears h) (offers-append old ms
    ∙ ap (λ p. offers_in old ++ p) one) ∙ hears-last h (offers_in old) o ∙ sym is

quietly : (l : ConnectionState) (d e : Deal) (ms old : List Message) (q : List Offer) → offers_in ms ≡ []
    → Hearing Connected l d e (offers_in old) q → Hearing Connected l d e (offers_in (arrive l ms old)) q
quietly l d e ms old q none h = record {
  firm = h.firm;
  their_firm = h.their_firm;
  known = h.known;
  their_known = h.their_known;
  last = λ met. quiet_last l e.heard d.bid ms old none (h.last met);
  their_last = h.their_last;
}

-- ---- the end of a turn

shut_by : (l : ConnectionState) (o : Bool) (n : End) (e : Deal) (old : List Message) (q : List Offer)
    → Hearing Connected l (deal_of n.closing) e (offers_in old) q
    → Hearing Connected l (deal_of (cond o (record n { closing = after_shut n.closing }) n).closing) e
    (offers_in (arrive l (messages_in (cond o (output.Send (message.Shutdown (shutdown_message n)) ∷ []) [])) old)) q
shut_by l true n e old q h = quietly l (deal_of n.closing) e (message.Shutdown (shutdown_message n) ∷ []) old q refl h
shut_by l false n e old q h = quietly l (deal_of n.closing) e [] old q refl h

fee_by : (l : ConnectionState) (t s : Bool) (k : Signer) (n : End) (e : Deal) (old : List Message) (q : List Offer)
    → may_start n.closing ≡ s → Hearing Connected l (deal_of n.closing) e (offers_in old) q
    → Hearing Connected l (deal_of (cond t (record n {
      closing = cond s (record n.closing { own_fee = Some n.closing.fees.first })
          n.closing;
    }) n).closing) e (offers_in (arrive l (messages_in (fee_sent k n
    (cond t (cond s (Some n.closing.fees.first) None) None))) old)) q
fee_by l false s k n e old q is h = quietly l (deal_of n.closing) e [] old q refl h
fee_by l true false k n e old q is h = quietly l (deal_of n.closing) e [] old q refl h
fee_by l true true k n e old q is h =
    let c = n.closing in
    let p = and_right (is_funder c.role) (c.shut && (c.peer_shut && is_none c.own_fee)) is in
    let r = and_right c.shut (c.peer_shut && is_none c.own_fee) p in
    let none = none_is c.own_fee (and_right c.peer_shut (is_none c.own_fee) r) in
    let d = deal_of (record c { own_fee = Some c.fees.first }) in
    record {
      firm = firm_first (deal_of c) none h.firm;
      their_firm = h.their_firm;
      known = λ m g. refl;
      their_known = h.their_known;
      last = λ met. sent_last l e.heard (Some c.fees.first) (record { fee = c.fees.first; range = d.range })
          (message.ClosingSigned (closing_message k n c.fees.first) ∷ []) old refl refl;
      their_last = h.their_last;
    }

due_by : (l : ConnectionState) (k : Signer) (n : End) (e : Deal) (old : List Message) (q : List Offer)
    → Hearing Connected l (deal_of n.closing) e (offers_in old) q
    → Hearing Connected l (deal_of (settled n).closing) e (offers_in (arrive l (messages_in (due_sent k n)) old)) q
due_by l k n e old q h =
    let m = answers_shutdown n in
    let mid = arrive l (messages_in (shutdown_sent n)) old in
    subst (λ ms. Hearing Connected l (deal_of (settled n).closing) e (offers_in ms) q)
    (sym (arrive_both l (shutdown_sent n) (fee_sent k m (due_fee m)) old))
    (fee_by l (has_begun m) (may_start m.closing) k m e mid q refl (shut_by l (owes_shutdown n) n e old q h))

completed_by : (k : Signer) (t : Turn) (p : Ends) → IsHeard (becomes t p) → IsHeard (becomes (completed k t) p)
completed_by k t p h =
    let e = deal_of p.y.closing in
    let q = offers_in p.to_x in
    let mid = arrive p.y_line (messages_in t.handed.sent) p.to_y in
    subst (λ ms. Hearing Connected p.y_line (deal_of (settled t.end).closing) e (offers_in ms) q)
    (sym (arrive_both p.y_line t.handed.sent (due_sent k t.end) p.to_y)) (due_by p.y_line k t.end e mid q h)

-- ---- turns that leave the fees alone

-- where x has met its peer
abbrev IsHeardMet : Ends → Type 0
IsHeardMet p = Hearing Connected p.y_line (deal_of p.x.closing) (deal_of p.y.closing) (offers_in p.to_y)
    (offers_in p.to_x)

aside_by : (t : Turn) (p : Ends) → IsAside p.x t → IsHeardMet p → IsHeard (becomes t p)
aside_by t p a h =
    let e = deal_of p.y.closing in
    let q = offers_in p.to_x in
    subst (λ d. Hearing Connected p.y_line d e (offers_in (arrive p.y_line (messages_in t.handed.sent) p.to_y)) q)
    (sym a.deal)
    (quietly p.y_line (deal_of p.x.closing) e (messages_in t.handed.sent) p.to_y q a.none h)

aside_answers : (r : Result Turn Refusal) (p : Ends) → Aside p.x r → IsHeardMet p → IsHeard p → IsHeard (answers r p)
aside_answers (Ok t) p a h i = aside_by t p a h
aside_answers (Err r) p a h i = i

-- the row of a message that is taken
aside_taken : (k : Signer) (r : Result Turn Refusal) (p : Ends) → Aside p.x r → IsTaken (completed_row k r)
    → IsHeardMet p → IsHeard (answers (completed_row k r) p)
aside_taken k (Ok t) p a is h = completed_by k t p (aside_by t p a h)
aside_taken k (Err r) p a is h = absurd (let no : Err r ≡ Ok is.0 = is.1 in cc)

-- ---- a closing fee is taken

-- after the answer, before what it sends is on its way
record Answered (ly : ConnectionState) (d e : Deal) (os qs : List Offer) : Type 0 where
  firm : Firm d
  their_firm : Firm e
  known : (n : ℕ) → e.heard ≡ Some n → is_some d.bid ≡ true
  their_known : (n : ℕ) → d.heard ≡ Some n → is_some e.bid ≡ true
  their_last : ly ≡ Connected → (Connected ≡ Down → ⊥) → hears d.heard qs ≡ e.bid

sends_it : (l : ConnectionState) (d e : Deal) (o : Offer) (ms old : List Message) (q : List Offer)
    → offers_in ms ≡ o ∷ []
    → d.bid ≡ Some o.fee → Answered l d e (offers_in old) q → Hearing Connected l d e (offers_in (arrive l ms old)) q
sends_it l d e o ms old q one bid h = record {
  firm = h.firm;
  their_firm = h.their_firm;
  known = h.known;
  their_known = h.their_known;
  last = λ met. sent_last l e.heard d.bid o ms old one bid;
  their_last = h.their_last;
}

quiet_it : (l : ConnectionState) (d e : Deal) (old : List Message) (q : List Offer) → ((l ≡ Down → ⊥) → hears e.heard
    (offers_in old) ≡ d.bid) → Answered l d e (offers_in old) q
    → Hearing Connected l d e (offers_in (arrive l [] old)) q
quiet_it l d e old q last h = record {
  firm = h.firm;
  their_firm = h.their_firm;
  known = h.known;
  their_known = h.their_known;
  last = λ met. quiet_last l e.heard d.bid [] old refl last;
  their_last = h.their_last;
}

answered_by : (k : Signer) (a : FeeAnswer) (m : ClosingSigned) (p : Ends)
    → ((p.y_line ≡ Down → ⊥) → hears p.y.closing.peer_fee (offers_in p.to_y) ≡ p.x.closing.own_fee)
    → Answered p.y_line (dealt a m.fee_satoshis (deal_of p.x.closing)) (deal_of p.y.closing) (offers_in p.to_y)
    (offers_in p.to_x)
    → IsHeard (becomes (answering k a (answered_end m a p.x)) p)
answered_by k answer.Nothing m p last h =
    quiet_it p.y_line (deal_of p.x.closing) (deal_of p.y.closing) p.to_y (offers_in p.to_x) last h
answered_by k (answer.Close n) m p last h =
    quiet_it p.y_line (dealt (answer.Close n) m.fee_satoshis (deal_of p.x.closing)) (deal_of p.y.closing) p.to_y
    (offers_in p.to_x) last h
answered_by k (answer.EchoAndClose n) m p last h =
    let d = dealt (answer.EchoAndClose n) m.fee_satoshis (deal_of p.x.closing) in
    sends_it p.y_line d (deal_of p.y.closing) (record { fee = n; range = d.range })
    (message.ClosingSigned (closing_message k (answered_end m (answer.EchoAndClose n) p.x) n) ∷ []) p.to_y
    (offers_in p.to_x) refl refl h
answered_by k (answer.Propose n) m p last h =
    let d = dealt (answer.Propose n) m.fee_satoshis (deal_of p.x.closing) in
    sends_it p.y_line d (deal_of p.y.closing) (record { fee = n; range = d.range })
    (message.ClosingSigned (closing_message k (answered_end m (answer.Propose n) p.x) n) ∷ []) p.to_y
    (offers_in p.to_x) refl refl h

-- an end that has sent a fee has sent one after an answer too
grows : (a : FeeAnswer) (d : Deal) (fee : ℕ) → is_some d.bid ≡ true → is_some (dealt a fee d).bid ≡ true
grows answer.Nothing d fee h = h
grows (answer.Close n) d fee h = h
grows (answer.EchoAndClose n) d fee h = refl
grows (answer.Propose n) d fee h = refl

-- a fee that is in flight was sent
offered_bid : (d e : Deal) (os : List Offer) (o : Offer) (qs : List Offer) → Priced d e os (o ∷ qs)
    → is_some e.bid ≡ true
offered_bid d e os o qs (inl a) = ap is_some a.answered.0
offered_bid d e os o qs (inr a) = by a.offered.1
  where
    by : ((o.fee ≡ e.fees.first) × (is_some e.bid ≡ true) × Offers e.range e.fees.first e.bid qs)
        ⊎ ((e.bid ≡ Some o.fee) × AllAre e.range o.fee qs) → is_some e.bid ≡ true
    by (inl k) = k.1
    by (inr k) = ap is_some k.0

dealt_by : (a : FeeAnswer) (m : ClosingSigned) (ly : ConnectionState) (d e : Deal) (os qs : List Offer)
    → Fair d m.fee_satoshis (range_in m) a → Sure d m.fee_satoshis (Ok a)
    → Priced d e os (record { fee = m.fee_satoshis; range = range_in m } ∷ qs)
    → Hearing Connected ly d e os (record { fee = m.fee_satoshis; range = range_in m } ∷ qs)
    → Answered ly (dealt a m.fee_satoshis d) e os qs
dealt_by a m ly d e os qs f s p h =
    let fee = m.fee_satoshis in
    record {
      firm = firm_dealt a d fee (range_in m) f s h.firm;
      their_firm = h.their_firm;
      known = λ n k. grows a d fee (h.known n k);
      their_known = λ n k. offered_bid d e os (record { fee = fee; range = range_in m }) qs p;
      their_last = λ met up. ap (λ o. hears o qs) (heard_dealt a d fee s h.firm) ∙ h.their_last met up;
    }

-- p, after the message
fee_taken : (k : Signer) (m : ClosingSigned) (p : Ends) (begun right : Bool) (r : Result FeeAnswer Refusal)
    → RuleSays (deal_of p.x.closing) m.fee_satoshis (range_in m) r → Sure (deal_of p.x.closing) m.fee_satoshis r
    → IsTaken (completed_row k (cond (not begun) (Err refusal.OutOfPlace)
    (cond right (answered k m p.x r) (Err refusal.SignatureWrong))))
    → Priced (deal_of p.x.closing) (deal_of p.y.closing) (offers_in p.to_y)
    (record { fee = m.fee_satoshis; range = range_in m } ∷ offers_in p.to_x)
    → Hearing Connected p.y_line (deal_of p.x.closing) (deal_of p.y.closing) (offers_in p.to_y)
    (record { fee = m.fee_satoshis; range = range_in m } ∷ offers_in p.to_x)
    → IsHeard (answers (completed_row k (cond (not begun) (Err refusal.OutOfPlace)
    (cond right (answered k m p.x r) (Err refusal.SignatureWrong)))) p)
fee_taken k m p true true (Ok a) f s is c h =
    completed_by k (answering k a (answered_end m a p.x)) p (answered_by k a m p (h.last refl)
    (dealt_by a m p.y_line (deal_of p.x.closing) (deal_of p.y.closing) (offers_in p.to_y) (offers_in p.to_x) f s c h))
fee_taken k m p true true (Err e) f s is c h = absurd (let no : Err e ≡ Ok is.0 = is.1 in cc)
fee_taken k m p true false r f s is c h = absurd (let no : Err refusal.SignatureWrong ≡ Ok is.0 = is.1 in cc)
fee_taken k m p false right r f s is c h = absurd (let no : Err refusal.OutOfPlace ≡ Ok is.0 = is.1 in cc)

-- ---- what is sent again

-- nothing is in flight of an end that has sent no fee
unbid_none : (d e : Deal) (os qs : List Offer) → d.bid ≡ None → Priced d e os qs → os ≡ []
unbid_none d e [] qs none h = refl
unbid_none d e (o ∷ os) qs none h =
    absurd (let no : true ≡ false = sym (offered_bid e d qs o os (swap d e (o ∷ os) qs h)) ∙ ap is_some none in cc)

none_of : (h bid : Option ℕ) → ((n : ℕ) → h ≡ Some n → is_some bid ≡ true) → bid ≡ None → h ≡ None
none_of None bid k e = refl
none_of (Some n) bid k e = absurd (let no : true ≡ false = sym (k n refl) ∙ ap is_some e in cc)

again_last : (l : ConnectionState) (k : Signer) (n : End) (o : Option ℕ) (ms : List Message) (e : Deal)
    (old : List Message)
    (q : List Offer) → n.closing.own_fee ≡ o
    → offers_in ms ≡ offers_in (messages_of n.dance.channel (closes_of (option_map (closing_message k n) o)))
    → ((m : ℕ) → e.heard ≡ Some m → is_some n.closing.own_fee ≡ true)
    → Priced (deal_of n.closing) e (offers_in old) q → (l ≡ Down → ⊥)
    → hears e.heard (offers_in (arrive l ms old)) ≡ n.closing.own_fee
again_last l k n None ms e old q is so known h up =
    quiet_last l e.heard n.closing.own_fee ms old so
    (λ down. ap (hears e.heard) (unbid_none (deal_of n.closing) e (offers_in old) q is h)
    ∙ none_of e.heard n.closing.own_fee known is ∙ sym is) up
again_last l k n (Some fee) ms e old q is so known h up =
    sent_last l e.heard n.closing.own_fee (record { fee = fee; range = (deal_of n.closing).range }) ms old so is up

resumed_by : (k : Signer) (m : ChannelReestablish) (p : Ends) → At p
    → Hearing AwaitingReestablish p.y_line (deal_of p.x.closing) (deal_of p.y.closing) (offers_in p.to_y)
    (offers_in p.to_x)
    → IsHeard (becomes (resumed k m p.x) p)
resumed_by k m p c h = record {
  firm = h.firm;
  their_firm = h.their_firm;
  known = h.known;
  their_known = h.their_known;
  last = λ met. again_last p.y_line k p.x p.x.closing.own_fee (messages_in (sent_again k m p.x))
      (deal_of p.y.closing) p.to_y (offers_in p.to_x) refl (again_offers k m p.x) h.known c;
  their_last = λ met up. h.their_last met (λ e. absurd (cc));
}

resume_by : (f : Option Refusal) (k : Signer) (m : ChannelReestablish) (p : Ends)
    → IsTaken (unless f (completed k (resumed k m p.x))) → At p
    → Hearing AwaitingReestablish p.y_line (deal_of p.x.closing) (deal_of p.y.closing) (offers_in p.to_y)
    (offers_in p.to_x)
    → IsHeard (answers (unless f (completed k (resumed k m p.x))) p)
resume_by None k m p is c h = completed_by k (resumed k m p.x) p (resumed_by k m p c h)
resume_by (Some r) k m p is c h = absurd (let no : Err r ≡ Ok is.0 = is.1 in cc)

-- ---- a message is delivered

-- p, after the message m, where x has this line
abbrev Before : ConnectionState → Message → Ends → Type 0
Before l m p = Hearing l p.y_line (deal_of p.x.closing) (deal_of p.y.closing) (offers_in p.to_y)
    (offer_in m ++ offers_in p.to_x)

abbrev PricedBefore : Message → Ends → Type 0
PricedBefore m p =
    Priced (deal_of p.x.closing) (deal_of p.y.closing) (offers_in p.to_y) (offer_in m ++ offers_in p.to_x)

no_offer : (m : Message) → is_closing_signed m ≡ false → offer_in m ≡ []
no_offer (message.Warning m) h = refl
no_offer (message.Init m) h = refl
no_offer (message.Error m) h = refl
no_offer (message.Ping m) h = refl
no_offer (message.Pong m) h = refl
no_offer (message.OpenChannel m) h = refl
no_offer (message.AcceptChannel m) h = refl
no_offer (message.FundingCreated m) h = refl
no_offer (message.FundingSigned m) h = refl
no_offer (message.ChannelReady m) h = refl
no_offer (message.Shutdown m) h = refl
no_offer (message.ClosingSigned m) h = absurd (let no : true ≡ false = h in cc)
no_offer (message.UpdateAddHtlc m) h = refl
no_offer (message.UpdateFulfillHtlc m) h = refl
no_offer (message.UpdateFailHtlc m) h = refl
no_offer (message.UpdateFailMalformedHtlc m) h = refl
no_offer (message.UpdateFee m) h = refl
no_offer (message.CommitmentSigned m) h = refl
no_offer (message.RevokeAndAck m) h = refl
no_offer (message.ChannelReestablish m) h = refl

meets_by : (k : Signer) (m : Message) (p : Ends) → IsTaken (met_again k m p.x) → PricedBefore m p
    → Before AwaitingReestablish m p → IsHeard (answers (met_again k m p.x) p)
meets_by k (message.ChannelReestablish m) p is c h = resume_by (resume_fault k m p.x.dance) k m p is c h
meets_by k (message.Warning m) p is c h = absurd (let no : Err refusal.OutOfPlace ≡ Ok is.0 = is.1 in cc)
meets_by k (message.Init m) p is c h = absurd (let no : Err refusal.OutOfPlace ≡ Ok is.0 = is.1 in cc)
meets_by k (message.Error m) p is c h = absurd (let no : Err refusal.OutOfPlace ≡ Ok is.0 = is.1 in cc)
meets_by k (message.Ping m) p is c h = absurd (let no : Err refusal.OutOfPlace ≡ Ok is.0 = is.1 in cc)
meets_by k (message.Pong m) p is c h = absurd (let no : Err refusal.OutOfPlace ≡ Ok is.0 = is.1 in cc)
meets_by k (message.OpenChannel m) p is c h = absurd (let no : Err refusal.OutOfPlace ≡ Ok is.0 = is.1 in cc)
meets_by k (message.AcceptChannel m) p is c h = absurd (let no : Err refusal.OutOfPlace ≡ Ok is.0 = is.1 in cc)
meets_by k (message.FundingCreated m) p is c h = absurd (let no : Err refusal.OutOfPlace ≡ Ok is.0 = is.1 in cc)
meets_by k (message.FundingSigned m) p is c h = absurd (let no : Err refusal.OutOfPlace ≡ Ok is.0 = is.1 in cc)
meets_by k (message.ChannelReady m) p is c h = absurd (let no : Err refusal.OutOfPlace ≡ Ok is.0 = is.1 in cc)
meets_by k (message.Shutdown m) p is c h = absurd (let no : Err refusal.OutOfPlace ≡ Ok is.0 = is.1 in cc)
meets_by k (message.ClosingSigned m) p is c h = absurd (let no : Err refusal.OutOfPlace ≡ Ok is.0 = is.1 in cc)
meets_by k (message.UpdateAddHtlc m) p is c h = absurd (let no : Err refusal.OutOfPlace ≡ Ok is.0 = is.1 in cc)
meets_by k (message.UpdateFulfillHtlc m) p is c h = absurd (let no : Err refusal.OutOfPlace ≡ Ok is.0 = is.1 in cc)
meets_by k (message.UpdateFailHtlc m) p is c h = absurd (let no : Err refusal.OutOfPlace ≡ Ok is.0 = is.1 in cc)
meets_by k (message.UpdateFailMalformedHtlc m) p is c h =
    absurd (let no : Err refusal.OutOfPlace ≡ Ok is.0 = is.1 in cc)
meets_by k (message.UpdateFee m) p is c h = absurd (let no : Err refusal.OutOfPlace ≡ Ok is.0 = is.1 in cc)
meets_by k (message.CommitmentSigned m) p is c h = absurd (let no : Err refusal.OutOfPlace ≡ Ok is.0 = is.1 in cc)
meets_by k (message.RevokeAndAck m) p is c h = absurd (let no : Err refusal.OutOfPlace ≡ Ok is.0 = is.1 in cc)

row_by : (k : Signer) (m : Message) (c : Bool) (p : Ends) → is_closing_signed m ≡ c
    → IsTaken (completed_row k (message_row k m p.x)) → PricedBefore m p → Before Connected m p
    → IsHeard (answers (completed_row k (message_row k m p.x)) p)
row_by k m false p is t c h = aside_taken k (message_row k m p.x) p (aside_message k m p.x is) t
    (subst (λ os. Hearing Connected p.y_line (deal_of p.x.closing) (deal_of p.y.closing) (offers_in p.to_y)
    (os ++ offers_in p.to_x)) (no_offer m is) h)
row_by k (message.ClosingSigned m) true p is t c h = fee_taken k m p (has_begun p.x)
    (k.accepts_close m.fee_satoshis m.signature) (answer_to p.x.closing m.fee_satoshis (range_in m))
    (rule_says p.x.closing m.fee_satoshis (range_in m)) (sure p.x.closing m.fee_satoshis (range_in m)) t c h
row_by k (message.Warning m) true p is t c h = absurd (cc (is))
row_by k (message.Init m) true p is t c h = absurd (cc (is))
row_by k (message.Error m) true p is t c h = absurd (cc (is))
row_by k (message.Ping m) true p is t c h = absurd (cc (is))
row_by k (message.Pong m) true p is t c h = absurd (cc (is))
row_by k (message.OpenChannel m) true p is t c h = absurd (cc (is))
row_by k (message.AcceptChannel m) true p is t c h = absurd (cc (is))
row_by k (message.FundingCreated m) true p is t c h = absurd (cc (is))
row_by k (message.FundingSigned m) true p is t c h = absurd (cc (is))
row_by k (message.ChannelReady m) true p is t c h = absurd (cc (is))
row_by k (message.Shutdown m) true p is t c h = absurd (cc (is))
row_by k (message.UpdateAddHtlc m) true p is t c h = absurd (cc (is))
row_by k (message.UpdateFulfillHtlc m) true p is t c h = absurd (cc (is))
row_by k (message.UpdateFailHtlc m) true p is t c h = absurd (cc (is))
row_by k (message.UpdateFailMalformedHtlc m) true p is t c h = absurd (cc (is))
row_by k (message.UpdateFee m) true p is t c h = absurd (cc (is))
row_by k (message.CommitmentSigned m) true p is t c h = absurd (cc (is))
row_by k (message.RevokeAndAck m) true p is t c h = absurd (cc (is))
row_by k (message.ChannelReestablish m) true p is t c h = absurd (cc (is))

message_by : (k : Signer) (l : ConnectionState) (m : Message) (p : Ends) → IsTaken (message_at k l m p.x)
    → PricedBefore m p
    → Before l m p → IsHeard (answers (message_at k l m p.x) p)
message_by k Down m p is c h = absurd (let no : Err refusal.OutOfPlace ≡ Ok is.0 = is.1 in cc)
message_by k AwaitingReestablish m p is c h = meets_by k m p is c h
message_by k Connected m p is c h = row_by k m (is_closing_signed m) p refl is c h

delivers_by : (k : Signer) (ms : List Message) (p : Ends) → AcceptsFront k p.x_line ms p.x
    → Priced (deal_of p.x.closing) (deal_of p.y.closing) (offers_in p.to_y) (offers_in ms)
    → Hearing p.x_line p.y_line (deal_of p.x.closing) (deal_of p.y.closing) (offers_in p.to_y) (offers_in ms)
    → IsHeard p → IsHeard (delivers k ms p)
delivers_by k [] p is c h i = i
delivers_by k (m ∷ ms) p is c h i = message_by k p.x_line m (record p { to_x = ms }) is c h

-- ---- a command

unless_by : (f : Option Refusal) (t : Turn) (p : Ends) → IsHeard (becomes t p) → IsHeard p
    → IsHeard (answers (unless f t) p)
unless_by None t p h i = h
unless_by (Some r) t p h i = i

command_by : (k : Signer) (c : Command) (s : Bool) (p : Ends) → is_shutdown c ≡ s → IsHeardMet p → IsHeard p
    → IsHeard (answers (command_row k c p.x) p)
command_by k c false p is h i = aside_answers (command_row k c p.x) p (aside_command k c p.x is) h i
command_by k (command.Shutdown script) true p is h i =
    let n = shuts_down script p.x in
    let t = sending (message.Shutdown (shutdown_message n)) n in
    unless_by (shut_fault script p.x) (completed k t) p
    (completed_by k t p (aside_by t p (record { deal = refl; none = refl }) h)) i
command_by k (command.Confirm id) true p is h i = absurd (cc)
command_by k (command.Add amount hash expiry onion origin) true p is h i = absurd (cc)
command_by k (command.Fulfil id preimage) true p is h i = absurd (cc)
command_by k (command.Fail id reason) true p is h i = absurd (cc)
command_by k (command.Malformed id sha code) true p is h i = absurd (cc)
command_by k (command.Fee feerate) true p is h i = absurd (cc)
command_by k command.Sign true p is h i = absurd (cc)
command_by k (command.Decide event mark) true p is h i = absurd (cc)
command_by k (command.Forget id) true p is h i = absurd (cc)
command_by k (command.Resume event mark) true p is h i = absurd (cc)

given_by : (f : Option Refusal) (l : ConnectionState) (k : Signer) (c : Command) (p : Ends) → p.x_line ≡ l → IsHeard p
    → IsHeard (answers (faulted f (faulted (line_fault l) (command_row k c p.x))) p)
given_by (Some r) l k c p is h = h
given_by None Down k c p is h = h
given_by None AwaitingReestablish k c p is h = h
given_by None Connected k c p is h = command_by k c (is_shutdown c) p refl
    (subst (λ l. Hearing l p.y_line (deal_of p.x.closing) (deal_of p.y.closing) (offers_in p.to_y) (offers_in p.to_x))
    is h) h

-- ---- acts

loses_by : (down : Bool) (p : Ends) → IsHeard p
    → IsHeard (cond down p (record p { x_line = Down; x = end_dropped p.x; to_x = [] }))
loses_by true p h = h
loses_by false p h = record {
  firm = h.firm;
  their_firm = h.their_firm;
  known = h.known;
  their_known = h.their_known;
  last = λ e. absurd (cc);
  their_last = λ met up. absurd (up refl);
}

cuts_by : (down : Bool) (n : ℕ) (p : Ends) → is_down p.x_line ≡ down → IsHeard p
    → IsHeard (cond down (record p { to_y = still_come n p.y_line p.to_y }) p)
cuts_by false n p is h = h
cuts_by true n p is h = record {
  firm = h.firm;
  their_firm = h.their_firm;
  known = h.known;
  their_known = h.their_known;
  last = λ met. absurd (let no : true ≡ false = sym is ∙ ap is_down met in cc);
  their_last = h.their_last;
}

acts_by : (k : Signer) (act : Act) (p : Ends) → AcceptsFront k p.x_line p.to_x p.x → At p → IsHeard p
    → IsHeard (acts k act p)
acts_by k Deliver p is c h = delivers_by k p.to_x p is c h h
acts_by k (Give c) p is q h = given_by (unready_fault c p.x) p.x_line k c p refl h
acts_by k (Note d) p is c h = h
acts_by k Lose p is c h = loses_by (is_down p.x_line) p h
acts_by k (Cut n) p is c h = cuts_by (is_down p.x_line) n p refl h
acts_by k Save p is c h = h

turned_by : (p : Ends) → IsHeard p → IsHeard (turned p)
turned_by p h = record {
  firm = h.their_firm;
  their_firm = h.firm;
  known = h.their_known;
  their_known = h.known;
  last = h.their_last;
  their_last = h.last;
}

connects_by : (a b : Signer) (lx ly : ConnectionState) (p : Ends) → IsHeard p → IsHeard (connects a b lx ly p)
connects_by a b Down Down p h = record {
  firm = h.firm;
  their_firm = h.their_firm;
  known = h.known;
  their_known = h.their_known;
  last = λ e. absurd (cc);
  their_last = λ e. absurd (cc);
}
connects_by a b Down AwaitingReestablish p h = h
connects_by a b Down Connected p h = h
connects_by a b AwaitingReestablish l p h = h
connects_by a b Connected l p h = h

pub heard_step : (a b : Signer) (s : Step) (p : Ends) → AllTaken a b p → At p → IsHeard p → IsHeard (happens a b s p)
heard_step a b (By Funder act) p is c h = acts_by a act p is.0 c h
heard_step a b (By Fundee act) p is c h = turned_by (acts b act (turned p))
    (acts_by b act (turned p) is.1 (turned_at p c) (turned_by p h))
heard_step a b Connect p is c h = connects_by a b p.x_line p.y_line p h
