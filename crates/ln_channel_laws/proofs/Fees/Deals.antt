-- What a message or a command makes of an end's closing fees, and of those in flight.
use Rattle.std.proofs.Common.{◌≡◌, ℕ, List, [], ◌∷◌, ◌++◌, refl, ap, ◌∙◌, Bool, true, false}
use Rattle.std.proofs.Common.{cond, not, ◌||◌, Option, Some, None, Result, Ok, Err}
use Rattle.ln_bytes.specs.Same.{are_same}
use Rattle.ln_msgs.specs.declared.messages.message.Message.{Message}
use Rattle.ln_msgs.specs.declared.messages.message.Message.TheVariants as message
use Rattle.ln_msgs.specs.declared.messages.closing.ClosingSigned.{ClosingSigned}
use Rattle.ln_msgs.specs.declared.messages.closing.Shutdown.{Shutdown as ShutdownMessage}
use Rattle.ln_refusals.specs.declared.refusal.Refusal.{Refusal}
use Rattle.ln_refusals.specs.declared.refusal.Refusal.TheVariants as refusal
use Rattle.ln_keys.specs.Signer.{Signer}
use Rattle.ln_log.specs.declared.update.Update.{Update as Change}
use Rattle.ln_log.specs.declared.update.Update.TheVariants as update
use Rattle.ln_log.specs.Updates.{next_id}
use Rattle.ln_dance.specs.Dance.{with_next_point}
use Rattle.ln_dance.specs.Messages.{update_message}
use Rattle.ln_close.specs.declared.closing.Closing.{Closing}
use Rattle.ln_channel.specs.declared.command.Command.{Command}
use Rattle.ln_channel.specs.declared.command.Command.TheVariants as command
use Rattle.ln_channel.specs.Opening.{unless}
use Rattle.ln_channel.specs.End.{End, Turn, quiet, is_closed, sending}
use Rattle.ln_channel.specs.Taking.{message_row, shutdown_at}
use Rattle.ln_channel.specs.Commands.{command_row, propose_row, propose_fault, proposes}
use Rattle.ln_channel.specs.declared.machine.ConnectionState.{ConnectionState}
use Rattle.ln_channel.specs.declared.machine.ConnectionState.TheVariants.{Down, AwaitingReestablish, Connected}
use Rattle.ln_channel.specs.State.{is_down}
use Rattle.ln_channel.specs.Step.{faulted, line_fault}
use Rattle.ln_dance.specs.Resume.{resume_fault}
use Rattle.ln_channel.specs.Resume.{resumed}
use Rattle.ln_close.specs.declared.closing.FeeAnswer.{FeeAnswer}
use Rattle.ln_close.specs.declared.closing.FeeAnswer.TheVariants as answer
use Rattle.ln_close.specs.Closing.{may_start, started, after_shut, after, answer_to}
use Rattle.ln_channel.specs.End.{has_begun, settled, answers_shutdown, owes_shutdown, completed, end_dropped}
use Rattle.ln_channel.specs.End.{shutdown_message}
use Rattle.ln_bytes.specs.Tlv.{value_of}
use Rattle.ln_close.specs.Closing.{is_funder}
use Rattle.ln_channel.specs.End.{fee_range}
use Rattle.ln_channel.specs.Taking.{answered, range_of, range_in, completed_row}
use Rattle.ln_channel_laws.proofs.Fees.FeesInFlight.{Deal, Offer}
use Rattle.ln_channel.specs.Commands.{shuts_down, shut_fault, unready_fault}
use Rattle.ln_keys.specs.declared.role.Role.TheVariants.{Funder, Fundee}
use Rattle.ln_channel_laws.specs.Ends.{messages_in, met_again, message_at, command_at, Ends, turned, answers, delivers}
use Rattle.ln_channel_laws.specs.Ends.{Act}
use Rattle.ln_channel_laws.specs.Ends.{Deliver, Save}
use Rattle.ln_channel_laws.specs.Ends.{Give, Note, Lose, Cut, still_come, acts, connects, Step, By, Connect, happens}
use Rattle.ln_channel_laws.specs.Ends.{run}
use Rattle.ln_channel_laws.specs.Promises.{is_closing_signed}

-- the range that an end tells
abbrev pub told_range : Closing → Option (ℕ × ℕ)
told_range c = range_of (value_of 1 (fee_range c ∷ []))

abbrev pub deal_of : Closing → Deal
deal_of c = record {
  funder = is_funder c.role;
  fees = c.fees;
  range = told_range c;
  bid = c.own_fee;
  heard = c.peer_fee;
  closed = c.closed;
}

-- the closing fees among messages
abbrev pub offer_in : Message → List Offer
offer_in (message.ClosingSigned m) = record { fee = m.fee_satoshis; range = range_in m } ∷ []
offer_in m = []

abbrev pub offers_in : List Message → List Offer
offers_in [] = []
offers_in (m ∷ ms) = offer_in m ++ offers_in ms

-- a turn that leaves them alone
pub record IsAside (e : End) (t : Turn) : Type 0 where
  pub deal : deal_of t.end.closing ≡ deal_of e.closing
  pub none : offers_in (messages_in t.handed.sent) ≡ []

abbrev pub Aside : End → Result Turn Refusal → Type 0
Aside e (Ok t) = IsAside e t
Aside e (Err r) = Unit {0}

aside_unless : (f : Option Refusal) (t : Turn) (e : End) → IsAside e t → Aside e (unless f t)
aside_unless None t e h = h
aside_unless (Some r) t e h = tt

aside_ready : (b : Bool) (e n : End) → n.closing ≡ e.closing → IsAside e (quiet (cond b e n))
aside_ready true e n h = record { deal = refl; none = refl }
aside_ready false e n h = record { deal = ap deal_of h; none = refl }

aside_shutdown : (o : Option (List ℕ)) (m : ShutdownMessage) (e : End) → Aside e (shutdown_at o m e)
aside_shutdown None m e = record { deal = refl; none = refl }
aside_shutdown (Some script) m e = by (are_same script m.script)
  where
    by : (b : Bool) → Aside e (cond b (Ok (quiet e)) (Err refusal.OutOfPlace))
    by true = record { deal = refl; none = refl }
    by false = tt

-- every message but a closing_signed
pub aside_message : (k : Signer) (m : Message) (e : End) → is_closing_signed m ≡ false → Aside e (message_row k m e)
aside_message k (message.Warning m) e h = tt
aside_message k (message.Init m) e h = tt
aside_message k (message.Error m) e h = tt
aside_message k (message.Ping m) e h = tt
aside_message k (message.Pong m) e h = tt
aside_message k (message.OpenChannel m) e h = tt
aside_message k (message.AcceptChannel m) e h = tt
aside_message k (message.FundingCreated m) e h = tt
aside_message k (message.FundingSigned m) e h = tt
aside_message k (message.ChannelReady m) e h =
    aside_ready (e.readiness.ready_received || is_closed e) e (record e {
      readiness = record {
        short_id = e.readiness.short_id;
        ready_sent = e.readiness.ready_sent;
        ready_received = true;
      };
      dance = with_next_point m.second_point e.dance;
    }) refl
aside_message k (message.Shutdown m) e h = aside_shutdown e.terms.peer_script m e
aside_message k (message.ClosingSigned m) e h = absurd (let no : true ≡ false = h in cc)
aside_message k (message.UpdateAddHtlc m) e h = aside_unless _ _ e (record { deal = refl; none = refl })
aside_message k (message.UpdateFulfillHtlc m) e h = aside_unless _ _ e (record { deal = refl; none = refl })
aside_message k (message.UpdateFailHtlc m) e h = aside_unless _ _ e (record { deal = refl; none = refl })
aside_message k (message.CommitmentSigned m) e h = aside_unless _ _ e (record { deal = refl; none = refl })
aside_message k (message.RevokeAndAck m) e h = aside_unless _ _ e (record { deal = refl; none = refl })
aside_message k (message.UpdateFee m) e h = aside_unless _ _ e (record { deal = refl; none = refl })
aside_message k (message.UpdateFailMalformedHtlc m) e h = aside_unless _ _ e (record { deal = refl; none = refl })
aside_message k (message.ChannelReestablish m) e h = tt

pub no_bid : (channel : List ℕ) (u : Change) → offer_in (update_message channel u) ≡ []
no_bid channel (update.Add d) = refl
no_bid channel (update.Fulfil d) = refl
no_bid channel (update.Fail d) = refl
no_bid channel (update.Malformed d) = refl
no_bid channel (update.Fee d) = refl

aside_proposed : (u : Change) (e : End) → Aside e (propose_row u e)
aside_proposed u e = aside_unless (propose_fault e u) (sending (update_message e.dance.channel u) (proposes u e)) e
    (record { deal = refl; none = ap (λ ms. ms ++ []) (no_bid e.dance.channel u) })

abbrev pub is_shutdown : Command → Bool
is_shutdown (command.Shutdown script) = true
is_shutdown c = false

-- every command but a shutdown
pub aside_command : (k : Signer) (c : Command) (e : End) → is_shutdown c ≡ false → Aside e (command_row k c e)
aside_command k (command.Confirm id) e h = aside_unless _ _ e (record { deal = refl; none = refl })
aside_command k (command.Add amount hash expiry onion origin) e h =
    aside_proposed (update.Add (record {
      id = next_id e.dance.log.own;
      amount = amount;
      hash = hash;
      expiry = expiry;
      onion = onion;
      origin = origin;
    })) e
aside_command k (command.Fulfil id preimage) e h =
    aside_proposed (update.Fulfil (record { id = id; preimage = preimage })) e
aside_command k (command.Fail id reason) e h = aside_proposed (update.Fail (record { id = id; reason = reason })) e
aside_command k (command.Malformed id sha code) e h =
    aside_proposed (update.Malformed (record { id = id; sha256_of_onion = sha; failure_code = code })) e
aside_command k (command.Fee feerate) e h = aside_proposed (update.Fee (record { feerate = feerate })) e
aside_command k command.Sign e h = aside_unless _ _ e (record { deal = refl; none = refl })
aside_command k (command.Shutdown script) e h = absurd (let no : true ≡ false = h in cc)
aside_command k (command.Decide event mark) e h = tt
aside_command k (command.Forget id) e h = tt
aside_command k (command.Resume event mark) e h = tt

-- ---- the fees of an end stay

abbrev pub KeepsFees : End → Result Turn Refusal → Type 0
KeepsFees e (Ok t) = t.end.closing.fees ≡ e.closing.fees
KeepsFees e (Err r) = Unit {0}

aside_fees : (e : End) (r : Result Turn Refusal) → Aside e r → KeepsFees e r
aside_fees e (Ok t) h = ap (λ (d : Deal). d.fees) h.deal
aside_fees e (Err r) h = tt

unless_fees : (f : Option Refusal) (t : Turn) (e : End) → t.end.closing.fees ≡ e.closing.fees → KeepsFees e (unless f t)
unless_fees None t e h = h
unless_fees (Some r) t e h = tt

when_fees : (b : Bool) (p q : End) → p.closing.fees ≡ q.closing.fees → (cond b p q).closing.fees ≡ q.closing.fees
when_fees true p q h = h
when_fees false p q h = refl

started_fees : (b : Bool) (p q : Closing) → p.fees ≡ q.fees → (cond b p q).fees ≡ q.fees
started_fees true p q h = h
started_fees false p q h = refl

settled_fees : (e : End) → (settled e).closing.fees ≡ e.closing.fees
settled_fees e =
    let n = answers_shutdown e in
    when_fees (has_begun n) (record n { closing = started n.closing }) n
    (started_fees (may_start n.closing) (record n.closing { own_fee = Some n.closing.fees.first }) n.closing refl)
    ∙ when_fees (owes_shutdown e) (record e { closing = after_shut e.closing }) e refl

completed_fees : (k : Signer) (r : Result Turn Refusal) (e : End) → KeepsFees e r → KeepsFees e (completed_row k r)
completed_fees k (Ok t) e h = settled_fees t.end ∙ h
completed_fees k (Err r) e h = tt

after_fees : (fee : ℕ) (a : FeeAnswer) (c : Closing) → (after fee a c).fees ≡ c.fees
after_fees fee answer.Nothing c = refl
after_fees fee (answer.Close n) c = refl
after_fees fee (answer.EchoAndClose n) c = refl
after_fees fee (answer.Propose n) c = refl

answered_fees : (k : Signer) (m : ClosingSigned) (e : End) (r : Result FeeAnswer Refusal)
    → KeepsFees e (answered k m e r)
answered_fees k m e (Ok a) = after_fees m.fee_satoshis a e.closing
answered_fees k m e (Err r) = tt

fee_fees : (k : Signer) (m : ClosingSigned) (e : End) (begun right : Bool) (r : Result FeeAnswer Refusal)
    → KeepsFees e (cond (not begun) (Err refusal.OutOfPlace)
    (cond right (answered k m e r) (Err refusal.SignatureWrong)))
fee_fees k m e true true r = answered_fees k m e r
fee_fees k m e true false r = tt
fee_fees k m e false right r = tt

row_fees : (k : Signer) (m : Message) (e : End) (c : Bool) → is_closing_signed m ≡ c → KeepsFees e (message_row k m e)
row_fees k m e false h = aside_fees e (message_row k m e) (aside_message k m e h)
row_fees k (message.ClosingSigned m) e true h = fee_fees k m e (has_begun e)
    (k.accepts_close m.fee_satoshis m.signature) (answer_to e.closing m.fee_satoshis (range_in m))
row_fees k (message.Warning m) e true h = tt
row_fees k (message.Init m) e true h = tt
row_fees k (message.Error m) e true h = tt
row_fees k (message.Ping m) e true h = tt
row_fees k (message.Pong m) e true h = tt
row_fees k (message.OpenChannel m) e true h = tt
row_fees k (message.AcceptChannel m) e true h = tt
row_fees k (message.FundingCreated m) e true h = tt
row_fees k (message.FundingSigned m) e true h = tt
row_fees k (message.ChannelReady m) e true h = absurd (cc)
row_fees k (message.Shutdown m) e true h = absurd (cc)
row_fees k (message.UpdateAddHtlc m) e true h = absurd (cc)
row_fees k (message.UpdateFulfillHtlc m) e true h = absurd (cc)
row_fees k (message.UpdateFailHtlc m) e true h = absurd (cc)
row_fees k (message.CommitmentSigned m) e true h = absurd (cc)
row_fees k (message.RevokeAndAck m) e true h = absurd (cc)
row_fees k (message.UpdateFee m) e true h = absurd (cc)
row_fees k (message.UpdateFailMalformedHtlc m) e true h = absurd (cc)
row_fees k (message.ChannelReestablish m) e true h = tt

meets_fees : (k : Signer) (m : Message) (e : End) → KeepsFees e (met_again k m e)
meets_fees k (message.ChannelReestablish m) e =
    unless_fees (resume_fault k m e.dance) (completed k (resumed k m e)) e (settled_fees e)
meets_fees k (message.Warning m) e = tt
meets_fees k (message.Init m) e = tt
meets_fees k (message.Error m) e = tt
meets_fees k (message.Ping m) e = tt
meets_fees k (message.Pong m) e = tt
meets_fees k (message.OpenChannel m) e = tt
meets_fees k (message.AcceptChannel m) e = tt
meets_fees k (message.FundingCreated m) e = tt
meets_fees k (message.FundingSigned m) e = tt
meets_fees k (message.ChannelReady m) e = tt
meets_fees k (message.Shutdown m) e = tt
meets_fees k (message.ClosingSigned m) e = tt
meets_fees k (message.UpdateAddHtlc m) e = tt
meets_fees k (message.UpdateFulfillHtlc m) e = tt
meets_fees k (message.UpdateFailHtlc m) e = tt
meets_fees k (message.CommitmentSigned m) e = tt
meets_fees k (message.RevokeAndAck m) e = tt
meets_fees k (message.UpdateFee m) e = tt
meets_fees k (message.UpdateFailMalformedHtlc m) e = tt

message_fees : (k : Signer) (l : ConnectionState) (m : Message) (e : End) → KeepsFees e (message_at k l m e)
message_fees k Down m e = tt
message_fees k AwaitingReestablish m e = meets_fees k m e
message_fees k Connected m e = completed_fees k (message_row k m e) e (row_fees k m e (is_closing_signed m) refl)

command_fees : (k : Signer) (c : Command) (e : End) (s : Bool) → is_shutdown c ≡ s → KeepsFees e (command_row k c e)
command_fees k c e false h = aside_fees e (command_row k c e) (aside_command k c e h)
command_fees k (command.Shutdown script) e true h =
    unless_fees (shut_fault script e)
    (completed k (sending (message.Shutdown (shutdown_message (shuts_down script e))) (shuts_down script e))) e
    (settled_fees (shuts_down script e))
command_fees k (command.Confirm id) e true h = absurd (cc)
command_fees k (command.Add amount hash expiry onion origin) e true h = absurd (cc)
command_fees k (command.Fulfil id preimage) e true h = absurd (cc)
command_fees k (command.Fail id reason) e true h = absurd (cc)
command_fees k (command.Malformed id sha code) e true h = absurd (cc)
command_fees k (command.Fee feerate) e true h = absurd (cc)
command_fees k command.Sign e true h = absurd (cc)
command_fees k (command.Decide event mark) e true h = tt
command_fees k (command.Forget id) e true h = tt
command_fees k (command.Resume event mark) e true h = tt

faulted_fees : (f : Option Refusal) (r : Result Turn Refusal) (e : End) → KeepsFees e r → KeepsFees e (faulted f r)
faulted_fees None r e h = h
faulted_fees (Some x) r e h = tt

-- both have the fees that these have
pub record SameFees (p q : Ends) : Type 0 where
  pub x : q.x.closing.fees ≡ p.x.closing.fees
  pub y : q.y.closing.fees ≡ p.y.closing.fees

answers_fees : (r : Result Turn Refusal) (p : Ends) → KeepsFees p.x r → SameFees p (answers r p)
answers_fees (Ok t) p h = record { x = h; y = refl }
answers_fees (Err e) p h = record { x = refl; y = refl }

delivers_fees : (k : Signer) (ms : List Message) (p : Ends) → SameFees p (delivers k ms p)
delivers_fees k [] p = record { x = refl; y = refl }
delivers_fees k (m ∷ ms) p =
    let h = answers_fees (message_at k p.x_line m p.x) (record p { to_x = ms }) (message_fees k p.x_line m p.x) in
    record { x = h.x; y = h.y }

loses_fees : (down : Bool) (p : Ends)
    → SameFees p (cond down p (record p { x_line = Down; x = end_dropped p.x; to_x = [] }))
loses_fees true p = record { x = refl; y = refl }
loses_fees false p = record { x = refl; y = refl }

cuts_fees : (down : Bool) (n : ℕ) (p : Ends)
    → SameFees p (cond down (record p { to_y = still_come n p.y_line p.to_y }) p)
cuts_fees true n p = record { x = refl; y = refl }
cuts_fees false n p = record { x = refl; y = refl }

acts_fees : (k : Signer) (act : Act) (p : Ends) → SameFees p (acts k act p)
acts_fees k Deliver p = delivers_fees k p.to_x p
acts_fees k (Give c) p = answers_fees (command_at k p.x_line c p.x) p
    (faulted_fees (unready_fault c p.x) (faulted (line_fault p.x_line) (command_row k c p.x)) p.x
    (faulted_fees (line_fault p.x_line) (command_row k c p.x) p.x (command_fees k c p.x (is_shutdown c) refl)))
acts_fees k (Note c) p = record { x = refl; y = refl }
acts_fees k Lose p = loses_fees (is_down p.x_line) p
acts_fees k (Cut n) p = cuts_fees (is_down p.x_line) n p
acts_fees k Save p = record { x = refl; y = refl }

connects_fees : (a b : Signer) (lx ly : ConnectionState) (p : Ends) → SameFees p (connects a b lx ly p)
connects_fees a b Down Down p = record { x = refl; y = refl }
connects_fees a b Down AwaitingReestablish p = record { x = refl; y = refl }
connects_fees a b Down Connected p = record { x = refl; y = refl }
connects_fees a b AwaitingReestablish l p = record { x = refl; y = refl }
connects_fees a b Connected l p = record { x = refl; y = refl }

happens_fees : (a b : Signer) (s : Step) (p : Ends) → SameFees p (happens a b s p)
happens_fees a b (By Funder act) p = acts_fees a act p
happens_fees a b (By Fundee act) p =
    let h = acts_fees b act (turned p) in
    record { x = h.y; y = h.x }
happens_fees a b Connect p = connects_fees a b p.x_line p.y_line p

pub run_fees : (a b : Signer) (ss : List Step) (p : Ends) → SameFees p (run a b ss p)
run_fees a b [] p = record { x = refl; y = refl }
run_fees a b (s ∷ ss) p =
    let h = happens_fees a b s p in
    let k = run_fees a b ss (happens a b s p) in
    record { x = k.x ∙ h.x; y = k.y ∙ h.y }
