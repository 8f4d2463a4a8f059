-- The closing fees over every list of steps.
use Rattle.std.proofs.Common.{◌≡◌, ◌⊎◌, inl, inr, ℕ, List, [], ◌∷◌, ◌++◌, refl, sym, ap, ◌∙◌, subst, append_assoc}
use Rattle.std.proofs.Common.{append-nil, Bool, true, false, cond, not, ◌&&◌, ◌==◌, Option, Some, None, is_none, Result}
use Rattle.std.proofs.Common.{Ok, Err}
use Rattle.std.specs.Prelude.{option_map}
use Rattle.ln_msgs.specs.declared.messages.message.Message.{Message}
use Rattle.ln_msgs.specs.declared.messages.message.Message.TheVariants as message
use Rattle.ln_msgs.specs.declared.messages.closing.ClosingSigned.{ClosingSigned}
use Rattle.ln_msgs.specs.declared.messages.commitments.ChannelReestablish.{ChannelReestablish}
use Rattle.ln_refusals.specs.declared.refusal.Refusal.{Refusal}
use Rattle.ln_refusals.specs.declared.refusal.Refusal.TheVariants as refusal
use Rattle.ln_keys.specs.declared.role.Role.TheVariants.{Funder, Fundee}
use Rattle.ln_keys.specs.Signer.{Signer}
use Rattle.ln_dance.specs.Resume.{resume_fault}
use Rattle.ln_close.specs.declared.closing.FeeAnswer.{FeeAnswer}
use Rattle.ln_close.specs.declared.closing.FeeAnswer.TheVariants as answer
use Rattle.ln_close.specs.declared.closing.Closing.{Closing}
use Rattle.ln_close.specs.Closing.{is_funder, may_start, after_shut, answer_to}
use Rattle.ln_close.specs.Closing as closing
use Rattle.ln_channel.specs.declared.command.Command.{Command}
use Rattle.ln_channel.specs.declared.command.Command.TheVariants as command
use Rattle.ln_channel.specs.declared.machine.ConnectionState.{ConnectionState}
use Rattle.ln_channel.specs.declared.machine.ConnectionState.TheVariants.{Down, AwaitingReestablish, Connected}
use Rattle.ln_channel.specs.declared.opening.Opened.{Opened}
use Rattle.ln_channel.specs.declared.output.Output.{Output}
use Rattle.ln_channel.specs.declared.output.Output.TheVariants as output
use Rattle.ln_channel.specs.Opening.{unless}
use Rattle.ln_channel.specs.End.{End, Turn, sending, has_begun, completed, settled, answers_shutdown, owes_shutdown}
use Rattle.ln_channel.specs.End.{due_fee}
use Rattle.ln_channel.specs.End.{due_sent, fee_sent, shutdown_sent, shutdown_message, end_dropped, closing_message}
use Rattle.ln_channel.specs.State.{is_down}
use Rattle.ln_channel.specs.Step.{faulted, line_fault}
use Rattle.ln_channel.specs.Taking.{answering, answered, answered_end, range_in, message_row, completed_row}
use Rattle.ln_channel.specs.Commands.{command_row, shuts_down, shut_fault, unready_fault}
use Rattle.ln_channel.specs.Resume.{resumed, sent_again}
use Rattle.ln_channel_laws.specs.Ends.{Ends, turned, message_at, met_again, messages_in, arrive, becomes, answers}
use Rattle.ln_channel_laws.specs.Ends.{delivers, still_come, Act, Deliver, Give, Note, Lose, Cut, acts, connects, Step}
use Rattle.ln_channel_laws.specs.Ends.{By}
use Rattle.ln_channel_laws.specs.Ends.{Save, Connect, happens, run}
use Rattle.ln_channel_laws.specs.Ends.{opened}
use Rattle.ln_channel_laws.specs.Promises.{is_closing_signed}
use Rattle.ln_channel_laws.proofs.Tests.{and_left, and_right}
use Rattle.ln_channel_laws.proofs.Flight.Sides.{Notice, Update, Sign, Revoke, Ready, Shutdown, Close, Again, closes_of}
use Rattle.ln_channel_laws.proofs.Flight.Sides.{owed}
use Rattle.ln_channel_laws.proofs.Flight.Sides.{ready_again, shutdown_again}
use Rattle.ln_channel_laws.proofs.Closing.ClosingInFlight.{NoCloses, when_none, owed_none}
use Rattle.ln_channel_laws.proofs.Fees.FeesInFlight.{Deal, Offer, Agreed, Priced, dealt, swap, priced_none, again}
use Rattle.ln_channel_laws.proofs.Fees.FeesInFlight.{first_bid}
use Rattle.ln_channel_laws.proofs.Fees.FeesInFlight.{taken_dealt}
use Rattle.ln_channel_laws.proofs.Fees.FeesInFlight.{passed_over, not_none, priced_front}
use Rattle.ln_channel_laws.proofs.Ends.Cuts.{front}
use Rattle.ln_channel_laws.proofs.Fees.Deals.{deal_of, offer_in, offers_in, IsAside, Aside, aside_message}
use Rattle.ln_channel_laws.proofs.Fees.Deals.{aside_command}
use Rattle.ln_channel_laws.proofs.Fees.Deals.{is_shutdown, no_bid}
use Rattle.ln_channel_laws.proofs.Fees.FeeRules.{RuleSays, none_is, rule_says}
use Rattle.ln_channel_laws.proofs.Flight.Images.{messages_of, messages-append, side_of}
use Rattle.ln_channel_laws.proofs.Flight.SentAgain.{messages_in-append, resends_so}
use Rattle.ln_channel_laws.proofs.Ends.JustOpened.{AreFresh}

abbrev pub At : Ends → Type 0
At p = Priced (deal_of p.x.closing) (deal_of p.y.closing) (offers_in p.to_y) (offers_in p.to_x)

-- ---- what is in flight

pub offers-append : (ms ns : List Message) → offers_in (ms ++ ns) ≡ offers_in ms ++ offers_in ns
offers-append [] ns = refl
offers-append (m ∷ ms) ns = ap (λ os. offer_in m ++ os) (offers-append ms ns)
    ∙ sym (append_assoc (offer_in m) (offers_in ms) (offers_in ns))

-- all that was sent comes, or nothing
came_by : (l : ConnectionState) (ms old : List Message) → (offers_in (arrive l ms old) ≡ offers_in old)
    ⊎ (offers_in (arrive l ms old) ≡ offers_in old ++ offers_in ms)
came_by Down ms old = inl refl
came_by AwaitingReestablish ms old = inr (offers-append old ms)
came_by Connected ms old = inr (offers-append old ms)

came : (l : ConnectionState) (d e : Deal) (ms old : List Message) (q : List Offer) → Priced d e (offers_in old) q
    → Priced d e (offers_in old ++ offers_in ms) q → Priced d e (offers_in (arrive l ms old)) q
came l d e ms old q h k = by (came_by l ms old)
  where
    by : (offers_in (arrive l ms old) ≡ offers_in old) ⊎ (offers_in (arrive l ms old) ≡ offers_in old ++ offers_in ms)
        → Priced d e (offers_in (arrive l ms old)) q
    by (inl i) = subst (λ p. Priced d e p q) (sym i) h
    by (inr i) = subst (λ p. Priced d e p q) (sym i) k

-- no closing fee is sent
quietly : (l : ConnectionState) (d e : Deal) (ms old : List Message) (q : List Offer) → offers_in ms ≡ []
    → Priced d e (offers_in old) q → Priced d e (offers_in (arrive l ms old)) q
quietly l d e ms old q none h = came l d e ms old q h (subst (λ p. Priced d e p q)
    (sym (ap (λ p. offers_in old ++ p) none ∙ append-nil (offers_in old))) h)

-- the last fee is sent
sends_last : (l : ConnectionState) (d e : Deal) (n : ℕ) (ms old : List Message) (q : List Offer)
    → offers_in ms ≡ record { fee = n; range = d.range } ∷ [] → d.bid ≡ Some n → Priced d e (offers_in old) q
    → Priced d e (offers_in (arrive l ms old)) q
sends_last l d e n ms old q one bid h = came l d e ms old q h (subst (λ p. Priced d e (offers_in old ++ p) q) (sym one)
    (again d e n (offers_in old) q bid h))

drop_all : (d e : Deal) (os ps qs : List Offer) → Priced d e os (ps ++ qs) → Priced d e os qs
drop_all d e os [] qs h = h
drop_all d e os (p ∷ ps) qs h = drop_all d e os ps qs (passed_over d e p os (ps ++ qs) h)

arrive_twice : (l : ConnectionState) (ms ns os : List Message) → arrive l (ms ++ ns) os ≡ arrive l ns (arrive l ms os)
arrive_twice Down ms ns os = refl
arrive_twice AwaitingReestablish ms ns os = sym (append_assoc os ms ns)
arrive_twice Connected ms ns os = sym (append_assoc os ms ns)

pub arrive_both : (l : ConnectionState) (ps qs : List Output) (os : List Message)
    → arrive l (messages_in (ps ++ qs)) os ≡ arrive l (messages_in qs) (arrive l (messages_in ps) os)
arrive_both l ps qs os = ap (λ ms. arrive l ms os) (messages_in-append ps qs)
    ∙ arrive_twice l (messages_in ps) (messages_in qs) os

-- ---- the end of a turn

shut_by : (l : ConnectionState) (o : Bool) (n : End) (e : Deal) (old : List Message) (q : List Offer)
    → Priced (deal_of n.closing) e (offers_in old) q
    → Priced (deal_of (cond o (record n { closing = after_shut n.closing }) n).closing) e
    (offers_in (arrive l (messages_in (cond o (output.Send (message.Shutdown (shutdown_message n)) ∷ []) [])) old)) q
shut_by l true n e old q h = quietly l (deal_of n.closing) e (message.Shutdown (shutdown_message n) ∷ []) old q refl h
shut_by l false n e old q h = quietly l (deal_of n.closing) e [] old q refl h

fee_by : (l : ConnectionState) (t s : Bool) (k : Signer) (n : End) (e : Deal) (old : List Message) (q : List Offer)
    → may_start n.closing ≡ s → Priced (deal_of n.closing) e (offers_in old) q
    → Priced (deal_of (cond t (record n {
      closing = cond s (record n.closing { own_fee = Some n.closing.fees.first })
          n.closing;
    }) n).closing) e (offers_in (arrive l (messages_in (fee_sent k n
    (cond t (cond s (Some n.closing.fees.first) None) None))) old)) q
fee_by l false s k n e old q is h = quietly l (deal_of n.closing) e [] old q refl h
fee_by l true false k n e old q is h = quietly l (deal_of n.closing) e [] old q refl h
fee_by l true true k n e old q is h =
    let c = n.closing in
    let p = and_right (is_funder c.role) (c.shut && (c.peer_shut && is_none c.own_fee)) is in
    let r = and_right c.shut (c.peer_shut && is_none c.own_fee) p in
    let none = none_is c.own_fee (and_right c.peer_shut (is_none c.own_fee) r) in
    let d = deal_of (record c { own_fee = Some c.fees.first }) in
    sends_last l d e c.fees.first (message.ClosingSigned (closing_message k n c.fees.first) ∷ []) old q refl refl
    (first_bid (deal_of c) e (offers_in old) q
    (and_left (is_funder c.role) (c.shut && (c.peer_shut && is_none c.own_fee)) is) none h)

due_at : (l : ConnectionState) (k : Signer) (n : End) (e : Deal) (old : List Message) (q : List Offer)
    → Priced (deal_of n.closing) e (offers_in old) q
    → Priced (deal_of (settled n).closing) e (offers_in (arrive l (messages_in (due_sent k n)) old)) q
due_at l k n e old q h =
    let m = answers_shutdown n in
    let mid = arrive l (messages_in (shutdown_sent n)) old in
    subst (λ ms. Priced (deal_of (settled n).closing) e (offers_in ms) q)
    (sym (arrive_both l (shutdown_sent n) (fee_sent k m (due_fee m)) old))
    (fee_by l (has_begun m) (may_start m.closing) k m e mid q refl (shut_by l (owes_shutdown n) n e old q h))

completed_at : (k : Signer) (t : Turn) (p : Ends) → At (becomes t p) → At (becomes (completed k t) p)
completed_at k t p h =
    let e = deal_of p.y.closing in
    let q = offers_in p.to_x in
    let mid = arrive p.y_line (messages_in t.handed.sent) p.to_y in
    subst (λ ms. Priced (deal_of (settled t.end).closing) e (offers_in ms) q)
    (sym (arrive_both p.y_line t.handed.sent (due_sent k t.end) p.to_y)) (due_at p.y_line k t.end e mid q h)

-- ---- turns that leave the fees alone

aside_at : (t : Turn) (p : Ends) → IsAside p.x t → At p → At (becomes t p)
aside_at t p a h =
    let e = deal_of p.y.closing in
    let q = offers_in p.to_x in
    subst (λ d. Priced d e (offers_in (arrive p.y_line (messages_in t.handed.sent) p.to_y)) q) (sym a.deal)
    (quietly p.y_line (deal_of p.x.closing) e (messages_in t.handed.sent) p.to_y q a.none h)

aside_answers : (r : Result Turn Refusal) (p : Ends) → Aside p.x r → At p → At (answers r p)
aside_answers (Ok t) p a h = aside_at t p a h
aside_answers (Err r) p a h = h

aside_completed : (k : Signer) (r : Result Turn Refusal) (p : Ends) → Aside p.x r → At p
    → At (answers (completed_row k r) p)
aside_completed k (Ok t) p a h = completed_at k t p (aside_at t p a h)
aside_completed k (Err r) p a h = h

-- ---- a closing fee is taken

answered_by : (k : Signer) (a : FeeAnswer) (m : ClosingSigned) (p : Ends)
    → Priced (dealt a m.fee_satoshis (deal_of p.x.closing)) (deal_of p.y.closing) (offers_in p.to_y) (offers_in p.to_x)
    → At (becomes (answering k a (answered_end m a p.x)) p)
answered_by k answer.Nothing m p h =
    quietly p.y_line (deal_of p.x.closing) (deal_of p.y.closing) [] p.to_y (offers_in p.to_x) refl h
answered_by k (answer.Close n) m p h =
    quietly p.y_line (dealt (answer.Close n) m.fee_satoshis (deal_of p.x.closing)) (deal_of p.y.closing) [] p.to_y
    (offers_in p.to_x) refl h
answered_by k (answer.EchoAndClose n) m p h =
    sends_last p.y_line (dealt (answer.EchoAndClose n) m.fee_satoshis (deal_of p.x.closing)) (deal_of p.y.closing) n
    (message.ClosingSigned (closing_message k (answered_end m (answer.EchoAndClose n) p.x) n) ∷ []) p.to_y
    (offers_in p.to_x) refl refl h
answered_by k (answer.Propose n) m p h =
    sends_last p.y_line (dealt (answer.Propose n) m.fee_satoshis (deal_of p.x.closing)) (deal_of p.y.closing) n
    (message.ClosingSigned (closing_message k (answered_end m (answer.Propose n) p.x) n) ∷ []) p.to_y
    (offers_in p.to_x) refl refl h

-- p, after the message
fee_taken : (k : Signer) (m : ClosingSigned) (p : Ends) (begun right : Bool) (r : Result FeeAnswer Refusal)
    → RuleSays (deal_of p.x.closing) m.fee_satoshis (range_in m) r → Priced (deal_of p.x.closing) (deal_of p.y.closing)
    (offers_in p.to_y) (record { fee = m.fee_satoshis; range = range_in m } ∷ offers_in p.to_x)
    → At (answers (completed_row k (cond (not begun) (Err refusal.OutOfPlace)
    (cond right (answered k m p.x r) (Err refusal.SignatureWrong)))) p)
fee_taken k m p true true (Ok a) s h =
    completed_at k (answering k a (answered_end m a p.x)) p (answered_by k a m p
    (taken_dealt a (deal_of p.x.closing) (deal_of p.y.closing) m.fee_satoshis (range_in m) (offers_in p.to_y)
    (offers_in p.to_x) s h))
fee_taken k m p true true (Err e) s h = passed_over (deal_of p.x.closing) (deal_of p.y.closing)
    (record { fee = m.fee_satoshis; range = range_in m }) (offers_in p.to_y) (offers_in p.to_x) h
fee_taken k m p true false r s h = passed_over (deal_of p.x.closing) (deal_of p.y.closing)
    (record { fee = m.fee_satoshis; range = range_in m }) (offers_in p.to_y) (offers_in p.to_x) h
fee_taken k m p false right r s h = passed_over (deal_of p.x.closing) (deal_of p.y.closing)
    (record { fee = m.fee_satoshis; range = range_in m }) (offers_in p.to_y) (offers_in p.to_x) h

-- ---- what is sent again

notices_none : (c : List ℕ) (ns : List Notice) → NoCloses ns → offers_in (messages_of c ns) ≡ []
notices_none c [] h = refl
notices_none c (Update u ∷ ns) h = ap (λ os. os ++ offers_in (messages_of c ns)) (no_bid c u) ∙ notices_none c ns h
notices_none c (Sign m ∷ ns) h = notices_none c ns h
notices_none c (Revoke m ∷ ns) h = notices_none c ns h
notices_none c (Ready m ∷ ns) h = notices_none c ns h
notices_none c (Shutdown m ∷ ns) h = notices_none c ns h
notices_none c (Close m ∷ ns) h = absurd h
notices_none c (Again m ∷ ns) h = notices_none c ns h

skip : (c : List ℕ) (ms ns : List Notice) → NoCloses ms
    → offers_in (messages_of c (ms ++ ns)) ≡ offers_in (messages_of c ns)
skip c ms ns h = ap offers_in (messages-append c ms ns) ∙ offers-append (messages_of c ms) (messages_of c ns)
    ∙ ap (λ os. os ++ offers_in (messages_of c ns)) (notices_none c ms h)

pub again_offers : (k : Signer) (m : ChannelReestablish) (n : End) → offers_in (messages_in (sent_again k m n))
    ≡ offers_in (messages_of n.dance.channel (closes_of (option_map (closing_message k n) n.closing.own_fee)))
again_offers k m n =
    let c = n.dance.channel in
    let x = side_of k n in
    let f = n.closing.fees in
    let i = m.next_commitment_number in
    let closes = closes_of x.close_message in
    let tail = shutdown_again x ++ closes in
    let o = owed i m.next_revocation_number x in
    ap offers_in (resends_so k m n)
    ∙ skip c (ready_again i x) (o ++ tail)
    (when_none k f ((x.number == 0) && (i == 1) && x.ready) (Ready x.ready_message ∷ []) tt)
    ∙ skip c o tail (owed_none k f i m.next_revocation_number x)
    ∙ skip c (shutdown_again x) closes (when_none k f x.shut (Shutdown x.shut_message ∷ []) tt)

resumed_by : (l : ConnectionState) (k : Signer) (n : End) (o : Option ℕ) (ms : List Message) (e : Deal)
    (old : List Message)
    (q : List Offer) → n.closing.own_fee ≡ o
    → offers_in ms ≡ offers_in (messages_of n.dance.channel (closes_of (option_map (closing_message k n) o)))
    → Priced (deal_of n.closing) e (offers_in old) q → Priced (deal_of n.closing) e (offers_in (arrive l ms old)) q
resumed_by l k n None ms e old q is so h = quietly l (deal_of n.closing) e ms old q so h
resumed_by l k n (Some fee) ms e old q is so h = sends_last l (deal_of n.closing) e fee ms old q so is h

resumed_at : (k : Signer) (m : ChannelReestablish) (p : Ends) → At p → At (becomes (resumed k m p.x) p)
resumed_at k m p h = resumed_by p.y_line k p.x p.x.closing.own_fee (messages_in (sent_again k m p.x))
    (deal_of p.y.closing) p.to_y (offers_in p.to_x) refl (again_offers k m p.x) h

unless_at : (f : Option Refusal) (t : Turn) (p : Ends) → At (becomes t p) → At p → At (answers (unless f t) p)
unless_at None t p h k = h
unless_at (Some r) t p h k = k

meets_at : (k : Signer) (m : Message) (p : Ends) → At p → At (answers (met_again k m p.x) p)
meets_at k (message.ChannelReestablish m) p h =
    unless_at (resume_fault k m p.x.dance) (completed k (resumed k m p.x)) p
    (completed_at k (resumed k m p.x) p (resumed_at k m p h)) h
meets_at k (message.Warning m) p h = h
meets_at k (message.Init m) p h = h
meets_at k (message.Error m) p h = h
meets_at k (message.Ping m) p h = h
meets_at k (message.Pong m) p h = h
meets_at k (message.OpenChannel m) p h = h
meets_at k (message.AcceptChannel m) p h = h
meets_at k (message.FundingCreated m) p h = h
meets_at k (message.FundingSigned m) p h = h
meets_at k (message.ChannelReady m) p h = h
meets_at k (message.Shutdown m) p h = h
meets_at k (message.ClosingSigned m) p h = h
meets_at k (message.UpdateAddHtlc m) p h = h
meets_at k (message.UpdateFulfillHtlc m) p h = h
meets_at k (message.UpdateFailHtlc m) p h = h
meets_at k (message.CommitmentSigned m) p h = h
meets_at k (message.RevokeAndAck m) p h = h
meets_at k (message.UpdateFee m) p h = h
meets_at k (message.UpdateFailMalformedHtlc m) p h = h

-- ---- a message is delivered

-- p, after the message m
abbrev Before : Message → Ends → Type 0
Before m p = Priced (deal_of p.x.closing) (deal_of p.y.closing) (offers_in p.to_y) (offer_in m ++ offers_in p.to_x)

behind : (m : Message) (p : Ends) → Before m p → At p
behind m p h =
    drop_all (deal_of p.x.closing) (deal_of p.y.closing) (offers_in p.to_y) (offer_in m) (offers_in p.to_x) h

row_at : (k : Signer) (m : Message) (c : Bool) (p : Ends) → is_closing_signed m ≡ c → Before m p
    → At (answers (completed_row k (message_row k m p.x)) p)
row_at k m false p is h = aside_completed k (message_row k m p.x) p (aside_message k m p.x is) (behind m p h)
row_at k (message.ClosingSigned m) true p is h = fee_taken k m p (has_begun p.x)
    (k.accepts_close m.fee_satoshis m.signature) (answer_to p.x.closing m.fee_satoshis (range_in m))
    (rule_says p.x.closing m.fee_satoshis (range_in m)) h
row_at k (message.ChannelReestablish m) true p is h = absurd (cc)
row_at k (message.Warning m) true p is h = absurd (cc)
row_at k (message.Init m) true p is h = absurd (cc)
row_at k (message.Error m) true p is h = absurd (cc)
row_at k (message.Ping m) true p is h = absurd (cc)
row_at k (message.Pong m) true p is h = absurd (cc)
row_at k (message.OpenChannel m) true p is h = absurd (cc)
row_at k (message.AcceptChannel m) true p is h = absurd (cc)
row_at k (message.FundingCreated m) true p is h = absurd (cc)
row_at k (message.FundingSigned m) true p is h = absurd (cc)
row_at k (message.ChannelReady m) true p is h = absurd (cc)
row_at k (message.Shutdown m) true p is h = absurd (cc)
row_at k (message.UpdateAddHtlc m) true p is h = absurd (cc)
row_at k (message.UpdateFulfillHtlc m) true p is h = absurd (cc)
row_at k (message.UpdateFailHtlc m) true p is h = absurd (cc)
row_at k (message.CommitmentSigned m) true p is h = absurd (cc)
row_at k (message.RevokeAndAck m) true p is h = absurd (cc)
row_at k (message.UpdateFee m) true p is h = absurd (cc)
row_at k (message.UpdateFailMalformedHtlc m) true p is h = absurd (cc)

message_by : (k : Signer) (l : ConnectionState) (m : Message) (p : Ends) → Before m p
    → At (answers (message_at k l m p.x) p)
message_by k Down m p h = behind m p h
message_by k AwaitingReestablish m p h = meets_at k m p (behind m p h)
message_by k Connected m p h = row_at k m (is_closing_signed m) p refl h

delivers_at : (k : Signer) (ms : List Message) (p : Ends)
    → Priced (deal_of p.x.closing) (deal_of p.y.closing) (offers_in p.to_y) (offers_in ms) → At p → At (delivers k ms p)
delivers_at k [] p h i = i
delivers_at k (m ∷ ms) p h i = message_by k p.x_line m (record p { to_x = ms }) h

-- ---- a command

command_by : (k : Signer) (c : Command) (s : Bool) (p : Ends) → is_shutdown c ≡ s → At p
    → At (answers (command_row k c p.x) p)
command_by k c false p is h = aside_answers (command_row k c p.x) p (aside_command k c p.x is) h
command_by k (command.Shutdown script) true p is h =
    let n = shuts_down script p.x in
    let t = sending (message.Shutdown (shutdown_message n)) n in
    unless_at (shut_fault script p.x) (completed k t) p
    (completed_at k t p (aside_at t p (record { deal = refl; none = refl }) h)) h
command_by k (command.Confirm id) true p is h = absurd (cc)
command_by k (command.Add amount hash expiry onion origin) true p is h = absurd (cc)
command_by k (command.Fulfil id preimage) true p is h = absurd (cc)
command_by k (command.Fail id reason) true p is h = absurd (cc)
command_by k (command.Malformed id sha code) true p is h = absurd (cc)
command_by k (command.Fee feerate) true p is h = absurd (cc)
command_by k command.Sign true p is h = absurd (cc)
command_by k (command.Decide event mark) true p is h = absurd (cc)
command_by k (command.Forget id) true p is h = absurd (cc)
command_by k (command.Resume event mark) true p is h = absurd (cc)

faulted_at : (f : Option Refusal) (r : Result Turn Refusal) (p : Ends) → At (answers r p) → At p
    → At (answers (faulted f r) p)
faulted_at None r p h k = h
faulted_at (Some x) r p h k = k

-- ---- acts

loses_at : (down : Bool) (p : Ends) → At p
    → At (cond down p (record p { x_line = Down; x = end_dropped p.x; to_x = [] }))
loses_at true p h = h
loses_at false p h =
    priced_none (deal_of p.x.closing) (deal_of p.y.closing) (offers_in p.to_y) (offers_in p.to_x) h

-- a beginning of what is in flight
cuts_at : (down : Bool) (n : ℕ) (p : Ends) → At p
    → At (cond down (record p { to_y = still_come n p.y_line p.to_y }) p)
cuts_at false n p h = h
cuts_at true n p h =
    let left = still_come n p.y_line p.to_y in
    let lost = front n p.y_line p.to_y in
    priced_front (deal_of p.x.closing) (deal_of p.y.closing) (offers_in left) (offers_in lost.0) (offers_in p.to_x)
    (subst (λ os. Priced (deal_of p.x.closing) (deal_of p.y.closing) os (offers_in p.to_x))
    (ap offers_in (sym lost.1) ∙ offers-append left lost.0) h)

acts_at : (k : Signer) (act : Act) (p : Ends) → At p → At (acts k act p)
acts_at k Deliver p h = delivers_at k p.to_x p h h
acts_at k (Give c) p h =
    faulted_at (unready_fault c p.x) (faulted (line_fault p.x_line) (command_row k c p.x)) p
    (faulted_at (line_fault p.x_line) (command_row k c p.x) p (command_by k c (is_shutdown c) p refl h) h) h
acts_at k (Note c) p h = h
acts_at k Lose p h = loses_at (is_down p.x_line) p h
acts_at k (Cut n) p h = cuts_at (is_down p.x_line) n p h
acts_at k Save p h = h

pub turned_at : (p : Ends) → At p → At (turned p)
turned_at p h = swap (deal_of p.x.closing) (deal_of p.y.closing) (offers_in p.to_y) (offers_in p.to_x) h

connects_at : (a b : Signer) (lx ly : ConnectionState) (p : Ends) → At p → At (connects a b lx ly p)
connects_at a b Down Down p h =
    let d = deal_of p.x.closing in
    let e = deal_of p.y.closing in
    swap e d [] [] (priced_none e d [] (offers_in p.to_y) (swap d e (offers_in p.to_y) []
    (priced_none d e (offers_in p.to_y) (offers_in p.to_x) h)))
connects_at a b Down AwaitingReestablish p h = h
connects_at a b Down Connected p h = h
connects_at a b AwaitingReestablish l p h = h
connects_at a b Connected l p h = h

happens_at : (a b : Signer) (s : Step) (p : Ends) → At p → At (happens a b s p)
happens_at a b (By Funder act) p h = acts_at a act p h
happens_at a b (By Fundee act) p h = turned_at (acts b act (turned p)) (acts_at b act (turned p) (turned_at p h))
happens_at a b Connect p h = connects_at a b p.x_line p.y_line p h

run_at : (a b : Signer) (ss : List Step) (p : Ends) → At p → At (run a b ss p)
run_at a b [] p h = h
run_at a b (s ∷ ss) p h = run_at a b ss (happens a b s p) (happens_at a b s p h)

-- ---- as they begin

fresh : (c g : Closing) → c ≡ closing.opened Funder c.fees → g ≡ closing.opened Fundee g.fees
    → Agreed (deal_of c) (deal_of g) [] []
fresh c g ec eg =
    let unbid : c.own_fee ≡ None = ap (λ (q : Closing). q.own_fee) ec in
    let unclosed : c.closed ≡ None = ap (λ (q : Closing). q.closed) ec in
    let their_unbid : g.own_fee ≡ None = ap (λ (q : Closing). q.own_fee) eg in
    let their_unclosed : g.closed ≡ None = ap (λ (q : Closing). q.closed) eg in
    record {
      funder = ap (λ (q : Closing). is_funder q.role) ec;
      fundee = ap (λ (q : Closing). is_funder q.role) eg;
      bid = λ n h. absurd (not_none n c.own_fee unbid h);
      closed = λ n h. absurd (not_none n c.closed unclosed h);
      their_closed = λ n h. absurd (not_none n g.closed their_unclosed h);
      inside = λ n h. absurd (not_none n g.own_fee their_unbid h);
      heard = λ n h. absurd (not_none n g.own_fee their_unbid h);
      offered = tt;
      behind = λ n h. tt;
      answered = tt;
    }

pub priced_at : (a b : Signer) (funder fundee : Opened) (ss : List Step) → AreFresh funder fundee
    → At (run a b ss (opened funder fundee))
priced_at a b funder fundee ss f =
    run_at a b ss (opened funder fundee) (inl (fresh funder.closing fundee.closing f.funder_is f.fundee_is))
