-- Each call of an end is a shift of its updates and its ledger.
use Rattle.std.proofs.Common.{◌≡◌, ℕ, List, [], ◌∷◌, refl, sym, ap, ◌∙◌, Bool, true, false, cond, not, ◌||◌, Option}
use Rattle.std.proofs.Common.{Some}
use Rattle.std.proofs.Common.{None, Result, Ok, Err, length}
use Rattle.ln_bytes.specs.Same.{are_same}
use Rattle.ln_msgs.specs.declared.messages.message.Message.{Message}
use Rattle.ln_msgs.specs.declared.messages.message.Message.TheVariants as message
use Rattle.ln_msgs.specs.declared.messages.closing.ClosingSigned.{ClosingSigned}
use Rattle.ln_msgs.specs.declared.messages.closing.Shutdown.{Shutdown}
use Rattle.ln_msgs.specs.declared.messages.commitments.ChannelReestablish.{ChannelReestablish}
use Rattle.ln_refusals.specs.declared.refusal.Refusal.{Refusal}
use Rattle.ln_refusals.specs.declared.refusal.Refusal.TheVariants as refusal
use Rattle.ln_keys.specs.Signer.{Signer}
use Rattle.ln_log.specs.declared.update.Update.{Update}
use Rattle.ln_log.specs.declared.update.Update.TheVariants as update
use Rattle.ln_log.specs.Updates.{next_id}
use Rattle.ln_log.specs.Limits.{HasNextId}
use Rattle.ln_dance.specs.Messages.{add_of, fulfil_of, fail_of, malformed_of, fee_of, update_message}
use Rattle.ln_dance.specs.Dance.{learn_fault, with_next_point, signed_message}
use Rattle.ln_dance.specs.Resume.{resume_fault}
use Rattle.ln_close.specs.declared.closing.FeeAnswer.{FeeAnswer}
use Rattle.ln_close.specs.declared.closing.FeeAnswer.TheVariants as answer
use Rattle.ln_close.specs.Closing.{after_shut, started, answer_to}
use Rattle.ln_channel.specs.declared.command.Command.{Command}
use Rattle.ln_channel.specs.declared.command.Command.TheVariants as command
use Rattle.ln_channel.specs.declared.output.Output.TheVariants as output
use Rattle.ln_channel.specs.Opening.{unless}
use Rattle.ln_channel.specs.Ledger.{Ledger}
use Rattle.ln_channel.specs.End.{End, Turn, owes_shutdown, answers_shutdown, has_begun, settled, is_closed, quiet}
use Rattle.ln_channel.specs.End.{sending}
use Rattle.ln_channel.specs.End.{completed, shutdown_message}
use Rattle.ln_channel.specs.Taking.{message_row, completed_row, taken, shutdown_at, answered, answering}
use Rattle.ln_channel.specs.Taking.{answered_end, range_in, update_fault, takes, signature_fault, accepting}
use Rattle.ln_channel.specs.Taking.{accepts, learning, revokes}
use Rattle.ln_channel.specs.Resume.{resume_row, resumed}
use Rattle.ln_channel.specs.Commands.{command_row, propose_row, propose_fault, proposes, confirm_fault, confirmed}
use Rattle.ln_channel.specs.Commands.{ready_message, sign_command_fault, signs_next, shut_fault, shuts_down, ledgered}
use Rattle.ln_channel.specs.Commands.{note_row, with_ledger}
use Rattle.ln_payment_circuits.specs.Shift.{IsPlainUpdate, IsPlain}
use Rattle.ln_payment_circuits.specs.Shift.{Shift, Stays, Takes, Proposes, Signs, Accepts, Learns, Closes, Notes}

abbrev pub IfTurn : (End → Type 0) → Result Turn Refusal → Type 0
IfTurn P (Ok t) = P t.end
IfTurn P (Err r) = Unit {0}

-- an end of the same channel with the same updates and the same ledger
pub record Same (f g : End) : Type 0 where
  pub log : g.dance.log ≡ f.dance.log
  pub ledger : g.ledger ≡ f.ledger
  pub channel : g.dance.channel ≡ f.dance.channel

-- a shift of one channel, which is plain where this holds
abbrev pub PlainIf : Type 0 → End → End → Type 0
PlainIf P e f = (x : Shift e f) × (P → IsPlain x) × (f.dance.channel ≡ e.dance.channel)

abbrev pub Plain : End → End → Type 0
Plain e f = (x : Shift e f) × IsPlain x

pub if_turn : (P Q : End → Type 0) → ((f : End) → P f → Q f) → (row : Result Turn Refusal) → IfTurn P row → IfTurn Q row
if_turn P Q to (Ok t) h = to t.end h
if_turn P Q to (Err r) h = tt

shift_by : (P : Type 0) (e f g : End) → Same f g → (x : Shift e f) → (P → IsPlain x)
    → g.dance.channel ≡ e.dance.channel → PlainIf P e g
shift_by P e f g s (Stays l r) n h = (Stays (s.log ∙ l) (s.ledger ∙ r), n, h)
shift_by P e f g s (Takes u may l r) n h = (Takes u may (s.log ∙ l) (s.ledger ∙ r), n, h)
shift_by P e f g s (Proposes u may next l r) n h = (Proposes u may next (s.log ∙ l) (s.ledger ∙ r), n, h)
shift_by P e f g s (Signs l r) n h = (Signs (s.log ∙ l) (s.ledger ∙ r), n, h)
shift_by P e f g s (Accepts l r) n h = (Accepts (s.log ∙ l) (s.ledger ∙ r), n, h)
shift_by P e f g s (Learns l r) n h = (Learns (s.log ∙ l) (s.ledger ∙ r), n, h)
shift_by P e f g s (Closes l r) n h = (Closes (s.log ∙ l) (s.ledger ∙ r), n, h)
shift_by P e f g s (Notes c l r) n h = (Notes c (s.log ∙ l) (r ∙ ap Ok (sym s.ledger)), n, h)

shift_as : (P : Type 0) (e f g : End) → Same f g → PlainIf P e f → PlainIf P e g
shift_as P e f g s k = shift_by P e f g s k.0 k.1 (s.channel ∙ k.2)

same_if : (b : Bool) (f g : End) → Same f g → Same f (cond b g f)
same_if true f g s = s
same_if false f g s = record { log = refl; ledger = refl; channel = refl }

pub settled_same : (e : End) → Same e (settled e)
settled_same e =
    let n = answers_shutdown e in
    let a = same_if (owes_shutdown e) e (record e { closing = after_shut e.closing })
    (record { log = refl; ledger = refl; channel = refl }) in
    let b = same_if (has_begun n) n (record n { closing = started n.closing })
    (record { log = refl; ledger = refl; channel = refl }) in
    record { log = b.log ∙ a.log; ledger = b.ledger ∙ a.ledger; channel = b.channel ∙ a.channel }

unless_so : (P : End → Type 0) (o : Option Refusal) (t : Turn) → (o ≡ None → P t.end) → IfTurn P (unless o t)
unless_so P None t h = h refl
unless_so P (Some r) t h = tt

completed_so : (P : Type 0) (keys : Signer) (e : End) (row : Result Turn Refusal) → IfTurn (PlainIf P e) row
    → IfTurn (PlainIf P e) (completed_row keys row)
completed_so P keys e (Ok t) h = shift_as P e t.end (settled t.end) (settled_same t.end) h
completed_so P keys e (Err r) h = tt

-- ---- messages

abbrev pub Plainly : End → End → Type 0
Plainly e f = PlainIf (Unit {0}) e f

shutdown_by : (b : Bool) (e : End) → IfTurn (Plainly e) (cond b (Ok (quiet e)) (Err refusal.OutOfPlace))
shutdown_by true e = (Stays refl refl, λ p. p, refl)
shutdown_by false e = tt

shutdown_so : (o : Option (List ℕ)) (m : Shutdown) (e : End) → IfTurn (Plainly e) (shutdown_at o m e)
shutdown_so None m e = (Stays refl refl, λ p. p, refl)
shutdown_so (Some script) m e = shutdown_by (are_same script m.script) e

answering_so : (keys : Signer) (a : FeeAnswer) (e : End) (m : ClosingSigned)
    → Plainly e (answering keys a (answered_end m a e)).end
answering_so keys answer.Nothing e m = (Stays refl refl, λ p. p, refl)
answering_so keys (answer.Close fee) e m = (Closes refl refl, λ p. p, refl)
answering_so keys (answer.EchoAndClose fee) e m = (Closes refl refl, λ p. p, refl)
answering_so keys (answer.Propose fee) e m = (Stays refl refl, λ p. p, refl)

answered_so : (keys : Signer) (m : ClosingSigned) (e : End) (res : Result FeeAnswer Refusal)
    → IfTurn (Plainly e) (answered keys m e res)
answered_so keys m e (Ok a) = answering_so keys a e m
answered_so keys m e (Err r) = tt

fee_by : (keys : Signer) (begun right : Bool) (m : ClosingSigned) (e : End) (res : Result FeeAnswer Refusal)
    → IfTurn (Plainly e) (cond (not begun) (Err refusal.OutOfPlace)
    (cond right (answered keys m e res) (Err refusal.SignatureWrong)))
fee_by keys true true m e res = answered_so keys m e res
fee_by keys true false m e res = tt
fee_by keys false right m e res = tt

ready_by : (b : Bool) (e f : End) → Same e f → Plainly e (cond b e f)
ready_by true e f s = (Stays refl refl, λ p. p, refl)
ready_by false e f s = (Stays s.log s.ledger, λ p. p, s.channel)

row_so : (keys : Signer) (m : Message) (e : End) → IfTurn (Plainly e) (message_row keys m e)
row_so keys (message.Warning m) e = tt
row_so keys (message.Init m) e = tt
row_so keys (message.Error m) e = tt
row_so keys (message.Ping m) e = tt
row_so keys (message.Pong m) e = tt
row_so keys (message.OpenChannel m) e = tt
row_so keys (message.AcceptChannel m) e = tt
row_so keys (message.FundingCreated m) e = tt
row_so keys (message.FundingSigned m) e = tt
row_so keys (message.ChannelReady m) e =
    ready_by (e.readiness.ready_received || is_closed e) e (record e {
      readiness = record {
        short_id = e.readiness.short_id;
        ready_sent = e.readiness.ready_sent;
        ready_received = true;
      };
      dance = with_next_point m.second_point e.dance;
    }) (record { log = refl; ledger = refl; channel = refl })
row_so keys (message.Shutdown m) e = shutdown_so e.terms.peer_script m e
row_so keys (message.ClosingSigned m) e =
    fee_by keys (has_begun e) (keys.accepts_close m.fee_satoshis m.signature) m e
    (answer_to e.closing m.fee_satoshis (range_in m))
row_so keys (message.UpdateAddHtlc m) e =
    unless_so (Plainly e) (update_fault e (update.Add (add_of m))) (quiet (takes (update.Add (add_of m)) e))
    (λ o. (Takes (update.Add (add_of m)) o refl refl, λ p. p, refl))
row_so keys (message.UpdateFulfillHtlc m) e =
    unless_so (Plainly e) (update_fault e (update.Fulfil (fulfil_of m))) (quiet (takes (update.Fulfil (fulfil_of m)) e))
    (λ o. (Takes (update.Fulfil (fulfil_of m)) o refl refl, λ p. p, refl))
row_so keys (message.UpdateFailHtlc m) e =
    unless_so (Plainly e) (update_fault e (update.Fail (fail_of m))) (quiet (takes (update.Fail (fail_of m)) e))
    (λ o. (Takes (update.Fail (fail_of m)) o refl refl, λ p. p, refl))
row_so keys (message.UpdateFailMalformedHtlc m) e =
    unless_so (Plainly e) (update_fault e (update.Malformed (malformed_of m)))
    (quiet (takes (update.Malformed (malformed_of m)) e))
    (λ o. (Takes (update.Malformed (malformed_of m)) o refl refl, λ p. p, refl))
row_so keys (message.UpdateFee m) e =
    unless_so (Plainly e) (update_fault e (update.Fee (fee_of m))) (quiet (takes (update.Fee (fee_of m)) e))
    (λ o. (Takes (update.Fee (fee_of m)) o refl refl, λ p. p, refl))
row_so keys (message.CommitmentSigned m) e =
    unless_so (Plainly e) (signature_fault keys m e) (accepting keys e.dance.log.current.own e (accepts e))
    (λ o. (Accepts refl refl, λ p. p, refl))
row_so keys (message.RevokeAndAck m) e =
    unless_so (Plainly e) (learn_fault keys m e.dance) (learning e.dance.log.acknowledged.peer (revokes m e))
    (λ o. (Learns refl refl, λ p. p, refl))
row_so keys (message.ChannelReestablish m) e = tt

pub taken_so : (keys : Signer) (m : Message) (e : End) → IfTurn (Plainly e) (taken keys m e)
taken_so keys m e = completed_so (Unit {0}) keys e (message_row keys m e) (row_so keys m e)

pub resumed_so : (keys : Signer) (m : ChannelReestablish) (e : End) → IfTurn (Plainly e) (resume_row keys m e)
resumed_so keys m e =
    unless_so (Plainly e) (resume_fault keys m e.dance) (completed keys (resumed keys m e))
    (λ o. shift_as (Unit {0}) e e (settled e) (settled_same e) (Stays refl refl, λ p. p, refl))

pub taken_shifts : (keys : Signer) (m : Message) (e : End) → IfTurn (Shift e) (taken keys m e)
taken_shifts keys m e = if_turn (Plainly e) (Shift e) (λ f x. x.0) (taken keys m e) (taken_so keys m e)

pub taken_plain : (keys : Signer) (m : Message) (e : End) → IfTurn (Plain e) (taken keys m e)
taken_plain keys m e = if_turn (Plainly e) (Plain e) (λ f x. (x.0, x.1 tt)) (taken keys m e) (taken_so keys m e)

pub resumed_shifts : (keys : Signer) (m : ChannelReestablish) (e : End) → IfTurn (Shift e) (resume_row keys m e)
resumed_shifts keys m e = if_turn (Plainly e) (Shift e) (λ f x. x.0) (resume_row keys m e) (resumed_so keys m e)

pub resumed_plain : (keys : Signer) (m : ChannelReestablish) (e : End) → IfTurn (Plain e) (resume_row keys m e)
resumed_plain keys m e = if_turn (Plainly e) (Plain e) (λ f x. (x.0, x.1 tt)) (resume_row keys m e)
    (resumed_so keys m e)

-- ---- commands

-- its update is plain, if it has one
abbrev pub IsPlainCommand : Command → Type 0
IsPlainCommand (command.Confirm i) = Unit {0}
IsPlainCommand (command.Add amount hash expiry onion origin) = origin ≡ None
IsPlainCommand (command.Fulfil i preimage) = ⊥
IsPlainCommand (command.Fail i reason) = ⊥
IsPlainCommand (command.Malformed i sha code) = ⊥
IsPlainCommand (command.Fee feerate) = Unit {0}
IsPlainCommand command.Sign = Unit {0}
IsPlainCommand (command.Shutdown script) = Unit {0}
IsPlainCommand (command.Decide event mark) = Unit {0}
IsPlainCommand (command.Forget i) = Unit {0}
IsPlainCommand (command.Resume event mark) = Unit {0}

proposed_so : (P : Type 0) (u : Update) (e : End) → HasNextId e.dance.log.own u → (P → IsPlainUpdate u)
    → IfTurn (PlainIf P e) (propose_row u e)
proposed_so P u e next plain =
    unless_so (PlainIf P e) (propose_fault e u) (sending (update_message e.dance.channel u) (proposes u e))
    (λ o. (Proposes u o next refl refl, plain, refl))

pub command_so : (keys : Signer) (c : Command) (e : End) → IfTurn (PlainIf (IsPlainCommand c) e) (command_row keys c e)
command_so keys (command.Confirm i) e =
    unless_so (PlainIf (Unit {0}) e) (confirm_fault e)
    (sending (message.ChannelReady (ready_message keys e)) (confirmed i e)) (λ o. (Stays refl refl, λ p. p, refl))
command_so keys (command.Add amount hash expiry onion origin) e =
    proposed_so (origin ≡ None) (update.Add (record {
      id = next_id e.dance.log.own;
      amount = amount;
      hash = hash;
      expiry = expiry;
      onion = onion;
      origin = origin;
    })) e refl (λ p. p)
command_so keys (command.Fulfil i preimage) e =
    proposed_so ⊥ (update.Fulfil (record { id = i; preimage = preimage })) e tt (λ p. p)
command_so keys (command.Fail i reason) e =
    proposed_so ⊥ (update.Fail (record { id = i; reason = reason })) e tt (λ p. p)
command_so keys (command.Malformed i sha code) e =
    proposed_so ⊥ (update.Malformed (record { id = i; sha256_of_onion = sha; failure_code = code })) e tt (λ p. p)
command_so keys (command.Fee feerate) e =
    proposed_so (Unit {0}) (update.Fee (record { feerate = feerate })) e tt (λ p. p)
command_so keys command.Sign e =
    unless_so (PlainIf (Unit {0}) e) (sign_command_fault e) (record {
      end = signs_next e;
      handed = record {
        sent = output.Send (message.CommitmentSigned (signed_message keys e.dance)) ∷ [];
        told = output.Signed (length e.dance.log.own) ∷ [];
      };
    }) (λ o. (Signs refl refl, λ p. p, refl))
command_so keys (command.Shutdown script) e =
    unless_so (PlainIf (Unit {0}) e) (shut_fault script e)
    (completed keys (sending (message.Shutdown (shutdown_message (shuts_down script e))) (shuts_down script e)))
    (λ o. shift_as (Unit {0}) e (shuts_down script e) (settled (shuts_down script e))
    (settled_same (shuts_down script e)) (Stays refl refl, λ p. p, refl))
command_so keys (command.Decide event mark) e = tt
command_so keys (command.Forget i) e = tt
command_so keys (command.Resume event mark) e = tt

pub command_shifts : (keys : Signer) (c : Command) (e : End) → IfTurn (Shift e) (command_row keys c e)
command_shifts keys c e = if_turn (PlainIf (IsPlainCommand c) e) (Shift e) (λ f x. x.0) (command_row keys c e)
    (command_so keys c e)

pub command_plain : (keys : Signer) (c : Command) (e : End) → IsPlainCommand c → IfTurn (Plain e) (command_row keys c e)
command_plain keys c e plain = if_turn (PlainIf (IsPlainCommand c) e) (Plain e) (λ f x. (x.0, x.1 plain))
    (command_row keys c e) (command_so keys c e)

noted_by : (c : Command) (e : End) (row : Result Ledger Refusal) → ledgered c e ≡ row
    → IfTurn (PlainIf ⊥ e) (with_ledger row e)
noted_by c e (Ok l) is = (Notes c refl is, λ p. absurd p, refl)
noted_by c e (Err r) is = tt

pub note_so : (c : Command) (e : End) → IfTurn (PlainIf ⊥ e) (note_row c e)
note_so c e = noted_by c e (ledgered c e) refl

pub note_shifts : (c : Command) (e : End) → IfTurn (Shift e) (note_row c e)
note_shifts c e = if_turn (PlainIf ⊥ e) (Shift e) (λ f x. x.0) (note_row c e) (note_so c e)
