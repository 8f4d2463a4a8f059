-- A turn of an open channel, by what its host told and by the host's own keys.
use Rattle.std.proofs.Common.{◌≡◌, refl, sym, ap, ◌∙◌, ℕ, ◌+◌, ◌-◌, List, [], ◌∷◌, ◌++◌, map, Bool, true, false}
use Rattle.std.proofs.Common.{not, ◌&&◌, ◌||◌, ◌==◌, Option, Some, None, Result, Ok, Err, if◌then◌else◌, arith}
use Rattle.std.proofs.Common.{length, append_assoc}
use Rattle.std.proofs.lemmas.List.{map-append}
use Rattle.ln_refusals.specs.declared.lost_data.LostData.TheVariants.{Unproved, Own, Peer}
use Rattle.ln_refusals.specs.declared.refusal.Refusal.{Refusal}
use Rattle.ln_refusals.specs.declared.refusal.Refusal.TheVariants as refusal
use Rattle.ln_bytes.specs.Same.{are_same}
use Rattle.ln_keys.specs.Signer.{Signer}
use Rattle.ln_msgs.specs.declared.messages.message.Message.{Message}
use Rattle.ln_msgs.specs.declared.messages.message.Message.TheVariants as message
use Rattle.ln_msgs.specs.declared.messages.closing.ClosingSigned.{ClosingSigned}
use Rattle.ln_msgs.specs.declared.messages.closing.Shutdown.{Shutdown}
use Rattle.ln_msgs.specs.declared.messages.commitments.ChannelReestablish.{ChannelReestablish}
use Rattle.ln_msgs.specs.declared.messages.commitments.CommitmentSigned.{CommitmentSigned}
use Rattle.ln_msgs.specs.declared.messages.commitments.RevokeAndAck.{RevokeAndAck}
use Rattle.ln_close.specs.declared.closing.FeeAnswer.{FeeAnswer}
use Rattle.ln_close.specs.declared.closing.FeeAnswer.TheVariants as answer
use Rattle.ln_close.specs.Closing.{answer_to}
use Rattle.ln_log.specs.declared.update.Update.{Update}
use Rattle.ln_log.specs.declared.update.Update.TheVariants as update
use Rattle.ln_log.specs.Updates.{next_id}
use Rattle.ln_log.specs.Log.{unacknowledged}
use Rattle.ln_dance.specs.declared.dance.Later.{Later}
use Rattle.ln_dance.specs.declared.dance.Later.TheVariants.{Signature, Revocation}
use Rattle.ln_dance.specs.declared.resume.Resend.{Resend}
use Rattle.ln_dance.specs.declared.resume.Resend.TheVariants as resend
use Rattle.ln_dance.specs.Dance.{Dancer, is_right, is_last, owes, after_accept, revoked_message, signed_message}
use Rattle.ln_dance.specs.Messages.{update_message, add_of, fulfil_of, fail_of, malformed_of, fee_of}
use Rattle.ln_dance.specs.Resume.{can_be_served, tells_of_later, tells_of_earlier, resume_fault, lacks_signature}
use Rattle.ln_dance.specs.Resume.{lacks_revocation, updates_again, signature_again, revocation_again}
use Rattle.ln_dance.specs.Resume.{owed_by, owed, is_before_the_first}
use Rattle.ln_channel.specs.declared.output.Output.{Output}
use Rattle.ln_channel.specs.declared.output.Output.TheVariants as output
use Rattle.ln_channel.specs.Outputs.{events_of}
use Rattle.ln_channel.specs.Ledger.{next_event}
use Rattle.ln_channel.specs.Since.{own_since, peer_since}
use Rattle.ln_channel.specs.declared.command.Command.{Command}
use Rattle.ln_channel.specs.declared.command.Command.TheVariants as command
use Rattle.ln_channel.specs.Commands.{ready_message, confirm_fault, confirmed, propose_fault, proposes, propose_row}
use Rattle.ln_channel.specs.Commands.{sign_command_fault, signs_next, shut_fault, shuts_down, command_row}
use Rattle.ln_channel.specs.End.{End, Turn, has_begun, is_ready, quiet, completed, told_of, telling, shutdown_message}
use Rattle.ln_channel.specs.Taking.{taken, message_row, answered, range_in, accepting, accepts, learning, revokes}
use Rattle.ln_channel.specs.End.{sending}
use Rattle.ln_channel.specs.Taking.{completed_row, shutdown_at, update_row, update_fault, takes}
use Rattle.ln_channel.specs.Resume.{resume_row, resumed, ready_again, owed_again, shutdown_again, fee_again, all_sent}
use Rattle.ln_channel.specs.Resume.{sent_again, one_again}
use Rattle.ln_host.specs.Blank.{closing_terms}
use Rattle.ln_host.specs.Question.{asked_open, asked_back, if_so, signatures_asked, secret_asked}
use Rattle.ln_host.specs.declared.question.Question.TheVariants as question
use Rattle.ln_host_laws.specs.Right.{IsRight}
use Rattle.ln_host_laws.proofs.Filling.{told, host, filled_by, fill, filled_turn, filled_turns, unless_filled}
use Rattle.ln_host_laws.proofs.Filling.{numbered_filled, fee_filled, shutdown_filled, completed_filled, completed_rows}

-- ---- a signature

abbrev signature_by : Bool → Bool → Bool → Option Refusal
signature_by ready last right =
    if ready then (if last then Some refusal.OutOfPlace else (if right then None else Some refusal.SignatureWrong))
    else Some refusal.OutOfPlace

signature_so : (k : Signer) (y : Bool) (z : List ℕ) (m : CommitmentSigned) (e : End) (ready last : Bool)
    → IsRight k (told k y z) (if_so (ready && not last) (signatures_asked e)) (message.CommitmentSigned m)
    → signature_by ready last y ≡ signature_by ready last (is_right k m e.dance)
signature_so k y z m e true false a = ap (λ b. signature_by true false b) a
signature_so k y z m e true true a = refl
signature_so k y z m e false last a = refl

-- the revocation of the commitment before
revoked_filled : (k : Signer) (y : Bool) (z : List ℕ) (d : Dancer)
    → filled_by k (after_accept d) (message.RevokeAndAck (revoked_message (host k y z) d))
    ≡ message.RevokeAndAck (revoked_message k d)
revoked_filled k y z d =
    let before : d.numbers.commitment + 1 - 1 ≡ d.numbers.commitment = omega arith in
    let after : d.numbers.commitment + 1 + 1 ≡ d.numbers.commitment + 2 = omega arith in
    ap (λ (n : ℕ). of n (d.numbers.commitment + 1 + 1)) before ∙ ap (λ (n : ℕ). of d.numbers.commitment n) after
  where
    of : ℕ → ℕ → Message
    of n p = message.RevokeAndAck (record {
      channel_id = d.channel;
      secret = k.secret_of n;
      next_point = k.point_of p;
      records = [];
    })

told_filled : (k : Signer) (d : Dancer) (own : Bool) (us : List Update) (e : End)
    → map (fill k d) (told_of own us e) ≡ told_of own us e
told_filled k d own us e =
    ap (λ os. output.Committed e.dance.log.current.own e.dance.log.acknowledged.peer ∷ os)
    (numbered_filled k d (next_event e.ledger) (events_of own us))

accepting_filled : (k : Signer) (y : Bool) (z : List ℕ) (before : ℕ) (e : End)
    → filled_turn k (accepting (host k y z) before e (accepts e)) ≡ accepting k before e (accepts e)
accepting_filled k y z before e =
    let us = own_since before (accepts e).dance.log in
    ap (λ (m : Message). turn m (map (fill k (accepts e).dance) (told_of true us (accepts e))))
    (revoked_filled k y z e.dance)
    ∙ ap (λ os. turn (message.RevokeAndAck (revoked_message k e.dance)) os)
    (told_filled k (accepts e).dance true us (accepts e))
  where
    turn : Message → List Output → Turn
    turn m os = record {
      end = telling true before (own_since before (accepts e).dance.log) (accepts e);
      handed = record { sent = output.Send m ∷ []; told = os };
    }

-- ---- a revocation

abbrev secret_by : Bool → Bool → Option Refusal
secret_by owing right =
    if owing then (if right then None else Some refusal.SecretWrong) else Some refusal.NothingToRevoke

secret_so : (k : Signer) (y : Bool) (z : List ℕ) (m : RevokeAndAck) (d : Dancer) (owing : Bool)
    → IsRight k (told k y z) (if_so owing (secret_asked d)) (message.RevokeAndAck m)
    → secret_by owing y ≡ secret_by owing (k.fits d.numbers.revoked m.secret d.peer.point)
secret_so k y z m d true a = ap (λ b. secret_by true b) a
secret_so k y z m d false a = refl

learning_filled : (k : Signer) (before : ℕ) (e : End) → filled_turn k (learning before e) ≡ learning before e
learning_filled k before e =
    ap (λ os. turn os) (told_filled k e.dance false (peer_since before e.dance.log) e)
  where
    turn : List Output → Turn
    turn os = record { end = (learning before e).end; handed = record { sent = []; told = os } }

-- ---- a closing fee

abbrev fee_by : Signer → Bool → Bool → Result FeeAnswer Refusal → ClosingSigned → End → Result Turn Refusal
fee_by k begun y r m e =
    if not begun then Err refusal.OutOfPlace else (if y then answered k m e r else Err refusal.SignatureWrong)

answer_filled : (k : Signer) (y : Bool) (z : List ℕ) (right : Bool) (r : Result FeeAnswer Refusal) (m : ClosingSigned)
    (e : End) → filled_turns k (fee_by (host k y z) true right r m e) ≡ fee_by k true right r m e
answer_filled k y z true (Ok answer.Nothing) m e = refl
answer_filled k y z true (Ok (answer.Close fee)) m e = refl
answer_filled k y z true (Ok (answer.EchoAndClose fee)) m e = refl
answer_filled k y z true (Ok (answer.Propose fee)) m e = refl
answer_filled k y z true (Err x) m e = refl
answer_filled k y z false r m e = refl

fee_so : (k : Signer) (y : Bool) (z : List ℕ) (begun : Bool) (r : Result FeeAnswer Refusal) (m : ClosingSigned)
    (e : End)
    → IsRight k (told k y z) (if_so begun (question.Close (closing_terms m.fee_satoshis e))) (message.ClosingSigned m)
    → filled_turns k (fee_by (host k y z) begun y r m e)
    ≡ fee_by k begun (k.accepts_close m.fee_satoshis m.signature) r m e
fee_so k y z true r m e a =
    ap (λ b. filled_turns k (fee_by (host k y z) true b r m e)) a
    ∙ answer_filled k y z (k.accepts_close m.fee_satoshis m.signature) r m e
fee_so k y z false r m e a = refl

-- ---- the rest

update_filled : (k : Signer) (u : Update) (e : End) → filled_turns k (update_row u e) ≡ update_row u e
update_filled k u e =
    unless_filled k (update_fault e u) (update_fault e u) (quiet (takes u e)) (quiet (takes u e)) refl refl

shut_filled : (k : Signer) (o : Option (List ℕ)) (m : Shutdown) (e : End)
    → filled_turns k (shutdown_at o m e) ≡ shutdown_at o m e
shut_filled k None m e = refl
shut_filled k (Some script) m e = by (are_same script m.script)
  where
    by : (b : Bool) → filled_turns k (if b then Ok (quiet e) else Err refusal.OutOfPlace)
        ≡ (if b then Ok (quiet e) else Err refusal.OutOfPlace)
    by true = refl
    by false = refl

row_filled : (k : Signer) (y : Bool) (z : List ℕ) (m : Message) (e : End) → IsRight k (told k y z) (asked_open m e) m
    → filled_turns k (message_row (host k y z) m e) ≡ message_row k m e
row_filled k y z (message.CommitmentSigned m) e a =
    let before = e.dance.log.current.own in
    let last = is_last e.dance.numbers.commitment in
    unless_filled k (signature_by (is_ready e) last y) (signature_by (is_ready e) last (is_right k m e.dance))
    (accepting (host k y z) before e (accepts e)) (accepting k before e (accepts e))
    (signature_so k y z m e (is_ready e) last a) (accepting_filled k y z before e)
row_filled k y z (message.RevokeAndAck m) e a =
    let before = e.dance.log.acknowledged.peer in
    unless_filled k (secret_by (owes e.dance) y)
    (secret_by (owes e.dance) (k.fits e.dance.numbers.revoked m.secret e.dance.peer.point))
    (learning before (revokes m e)) (learning before (revokes m e))
    (secret_so k y z m e.dance (owes e.dance) a) (learning_filled k before (revokes m e))
row_filled k y z (message.ClosingSigned m) e a =
    fee_so k y z (has_begun e) (answer_to e.closing m.fee_satoshis (range_in m)) m e a
row_filled k y z (message.Shutdown m) e a = shut_filled k e.terms.peer_script m e
row_filled k y z (message.UpdateAddHtlc m) e a = update_filled k (update.Add (add_of m)) e
row_filled k y z (message.UpdateFulfillHtlc m) e a = update_filled k (update.Fulfil (fulfil_of m)) e
row_filled k y z (message.UpdateFailHtlc m) e a = update_filled k (update.Fail (fail_of m)) e
row_filled k y z (message.UpdateFailMalformedHtlc m) e a = update_filled k (update.Malformed (malformed_of m)) e
row_filled k y z (message.UpdateFee m) e a = update_filled k (update.Fee (fee_of m)) e
row_filled k y z m e a = refl

-- a message that is taken
pub taken_filled : (k : Signer) (y : Bool) (z : List ℕ) (m : Message) (e : End)
    → IsRight k (told k y z) (asked_open m e) m → filled_turns k (taken (host k y z) m e) ≡ taken k m e
taken_filled k y z m e a =
    completed_rows k y z (message_row (host k y z) m e) ∙ ap (completed_row k) (row_filled k y z m e a)

-- ---- a connection that comes back

abbrev back_by : Bool → Bool → Bool → Bool → Bool → Option Refusal
back_by served later earlier first same =
    if served then (if first || same then None else Some refusal.SecretWrong)
    else Some (refusal.ReestablishNumber (
    if (later || earlier) && (first || same) then (if later then Own else Peer) else Unproved))

back_so : (k : Signer) (y : Bool) (z : List ℕ) (m : ChannelReestablish) (served later earlier first : Bool)
    → IsRight k (told k y z) (if_so ((served || (later || earlier)) && not first)
    (question.OwnSecret (m.next_revocation_number - 1))) (message.ChannelReestablish m)
    → back_by served later earlier first (are_same m.last_secret z)
    ≡ back_by served later earlier first (are_same m.last_secret (k.secret_of (m.next_revocation_number - 1)))
back_so k y z m true later earlier true a = refl
back_so k y z m true later earlier false a =
    ap (λ s. back_by true later earlier false (are_same m.last_secret s)) a
back_so k y z m false later earlier true a = refl
back_so k y z m false true earlier false a =
    ap (λ s. back_by false true earlier false (are_same m.last_secret s)) a
back_so k y z m false false true false a =
    ap (λ s. back_by false false true false (are_same m.last_secret s)) a
back_so k y z m false false false false a = refl

-- updates hold no answers of keys
update_sent : (k : Signer) (d : Dancer) (channel : List ℕ) (u : Update)
    → fill k d (output.Send (update_message channel u)) ≡ output.Send (update_message channel u)
update_sent k d channel (update.Add u) = refl
update_sent k d channel u = refl

updates_sent : (k : Signer) (d : Dancer) (channel : List ℕ) (us : List Update)
    → map (fill k d) (all_sent (map (update_message channel) us)) ≡ all_sent (map (update_message channel) us)
updates_sent k d channel [] = refl
updates_sent k d channel (u ∷ us) =
    ap (λ o. o ∷ map (fill k d) (all_sent (map (update_message channel) us))) (update_sent k d channel u)
    ∙ ap (λ os. output.Send (update_message channel u) ∷ os) (updates_sent k d channel us)

-- what is filled in two parts
pub in_parts : (f : Output → Output) (xs xs' ys ys' : List Output) → map f xs ≡ xs' → map f ys ≡ ys'
    → map f (xs ++ ys) ≡ xs' ++ ys'
in_parts f xs xs' ys ys' p q =
    map-append f xs ys ∙ ap (λ (os : List Output). os ++ map f ys) p ∙ ap (λ (os : List Output). xs' ++ os) q

owed_append : (r s : List Resend) → owed_again (r ++ s) ≡ owed_again r ++ owed_again s
owed_append [] s = refl
owed_append (x ∷ r) s =
    ap (λ os. one_again x ++ os) (owed_append r s) ∙ sym (append_assoc (one_again x) (owed_again r) (owed_again s))

owed_parts : (f : Output → Output) (r r' s s' : List Resend) → map f (owed_again r) ≡ owed_again r'
    → map f (owed_again s) ≡ owed_again s' → map f (owed_again (r ++ s)) ≡ owed_again (r' ++ s')
owed_parts f r r' s s' p q =
    ap (map f) (owed_append r s) ∙ in_parts f (owed_again r) (owed_again r') (owed_again s) (owed_again s') p q
    ∙ sym (owed_append r' s')

-- the last signature, after what it covers newly
abbrev signature_if : Bool → Signer → Dancer → List Resend
signature_if b k d = if b then updates_again d ++ resend.Signature (signature_again k d) ∷ [] else []

signature_filled : (k : Signer) (y : Bool) (z : List ℕ) (d : Dancer) (b : Bool)
    → map (fill k d) (owed_again (signature_if b (host k y z) d)) ≡ owed_again (signature_if b k d)
signature_filled k y z d true =
    let us = all_sent (map (update_message d.channel) (unacknowledged d.log)) in
    in_parts (fill k d) us us (output.Send (message.CommitmentSigned (signature_again (host k y z) d)) ∷ [])
    (output.Send (message.CommitmentSigned (signature_again k d)) ∷ [])
    (updates_sent k d d.channel (unacknowledged d.log)) refl
signature_filled k y z d false = refl

abbrev revocation_if : Bool → Signer → Dancer → List Resend
revocation_if b k d = if b then resend.Revocation (revocation_again k d) ∷ [] else []

revocation_filled : (k : Signer) (y : Bool) (z : List ℕ) (d : Dancer) (b : Bool)
    → map (fill k d) (owed_again (revocation_if b (host k y z) d)) ≡ owed_again (revocation_if b k d)
revocation_filled k y z d true = refl
revocation_filled k y z d false = refl

owed_filled : (k : Signer) (y : Bool) (z : List ℕ) (m : ChannelReestablish) (d : Dancer) (later : Later)
    → map (fill k d) (owed_again (owed_by later (host k y z) m d)) ≡ owed_again (owed_by later k m d)
owed_filled k y z m d Signature =
    let s = lacks_signature m d in let r = lacks_revocation m d in
    owed_parts (fill k d) (revocation_if r (host k y z) d) (revocation_if r k d) (signature_if s (host k y z) d)
    (signature_if s k d) (revocation_filled k y z d r) (signature_filled k y z d s)
owed_filled k y z m d Revocation =
    let s = lacks_signature m d in let r = lacks_revocation m d in
    owed_parts (fill k d) (signature_if s (host k y z) d) (signature_if s k d) (revocation_if r (host k y z) d)
    (revocation_if r k d) (signature_filled k y z d s) (revocation_filled k y z d r)

ready_filled : (k : Signer) (y : Bool) (z : List ℕ) (e : End) (b : Bool)
    → map (fill k e.dance) (if b then output.Send (message.ChannelReady (ready_message (host k y z) e)) ∷ [] else [])
    ≡ (if b then output.Send (message.ChannelReady (ready_message k e)) ∷ [] else [])
ready_filled k y z e true = refl
ready_filled k y z e false = refl

sent_filled : (k : Signer) (y : Bool) (z : List ℕ) (m : ChannelReestablish) (e : End)
    → map (fill k e.dance) (sent_again (host k y z) m e) ≡ sent_again k m e
sent_filled k y z m e =
    let h = host k y z in
    in_parts (fill k e.dance)
    ((ready_again h m e ++ owed_again (owed h m e.dance)) ++ shutdown_again e)
    ((ready_again k m e ++ owed_again (owed k m e.dance)) ++ shutdown_again e)
    (fee_again h e) (fee_again k e)
    (in_parts (fill k e.dance)
    (ready_again h m e ++ owed_again (owed h m e.dance)) (ready_again k m e ++ owed_again (owed k m e.dance))
    (shutdown_again e) (shutdown_again e)
    (in_parts (fill k e.dance) (ready_again h m e) (ready_again k m e)
    (owed_again (owed h m e.dance)) (owed_again (owed k m e.dance))
    (ready_filled k y z e (is_before_the_first m e.dance && e.readiness.ready_sent))
    (owed_filled k y z m e.dance e.dance.later))
    (shutdown_filled k e.dance e.closing.shut (shutdown_message e)))
    (fee_filled k y z e.dance e e.closing.own_fee)

resumed_filled : (k : Signer) (y : Bool) (z : List ℕ) (m : ChannelReestablish) (e : End)
    → filled_turn k (resumed (host k y z) m e) ≡ resumed k m e
resumed_filled k y z m e = ap (λ os. turn os) (sent_filled k y z m e)
  where
    turn : List Output → Turn
    turn os = record { end = e; handed = record { sent = os; told = [] } }

pub resume_filled : (k : Signer) (y : Bool) (z : List ℕ) (m : ChannelReestablish) (e : End)
    → IsRight k (told k y z) (asked_back m e.dance) (message.ChannelReestablish m)
    → filled_turns k (resume_row (host k y z) m e) ≡ resume_row k m e
resume_filled k y z m e a =
    unless_filled k (resume_fault (host k y z) m e.dance) (resume_fault k m e.dance)
    (completed (host k y z) (resumed (host k y z) m e)) (completed k (resumed k m e))
    (back_so k y z m (can_be_served m e.dance) (tells_of_later m e.dance) (tells_of_earlier m e.dance)
    (m.next_revocation_number == 0) a)
    (completed_filled k y z (resumed (host k y z) m e) ∙ ap (completed k) (resumed_filled k y z m e))

-- ---- a command

propose_filled : (k : Signer) (u : Update) (e : End) → filled_turns k (propose_row u e) ≡ propose_row u e
propose_filled k u e =
    let now = proposes u e in
    let turn = sending (update_message e.dance.channel u) now in
    unless_filled k (propose_fault e u) (propose_fault e u) turn turn refl
    (ap (λ (o : Output). with o) (update_sent k now.dance e.dance.channel u))
  where
    with : Output → Turn
    with o = record { end = proposes u e; handed = record { sent = o ∷ []; told = [] } }

pub command_filled : (k : Signer) (y : Bool) (z : List ℕ) (c : Command) (e : End)
    → filled_turns k (command_row (host k y z) c e) ≡ command_row k c e
command_filled k y z (command.Confirm id) e =
    unless_filled k (confirm_fault e) (confirm_fault e)
    (sending (message.ChannelReady (ready_message (host k y z) e)) (confirmed id e))
    (sending (message.ChannelReady (ready_message k e)) (confirmed id e)) refl refl
command_filled k y z (command.Add amount hash expiry onion origin) e =
    propose_filled k (update.Add (record {
      id = next_id e.dance.log.own;
      amount = amount;
      hash = hash;
      expiry = expiry;
      onion = onion;
      origin = origin;
    })) e
command_filled k y z (command.Fulfil id preimage) e =
    propose_filled k (update.Fulfil (record { id = id; preimage = preimage })) e
command_filled k y z (command.Fail id reason) e =
    propose_filled k (update.Fail (record { id = id; reason = reason })) e
command_filled k y z (command.Malformed id sha code) e =
    propose_filled k (update.Malformed (record { id = id; sha256_of_onion = sha; failure_code = code })) e
command_filled k y z (command.Fee feerate) e = propose_filled k (update.Fee (record { feerate = feerate })) e
command_filled k y z command.Sign e =
    unless_filled k (sign_command_fault e) (sign_command_fault e) (signing (host k y z)) (signing k) refl refl
  where
    signing : Signer → Turn
    signing s = record {
      end = signs_next e;
      handed = record {
        sent = output.Send (message.CommitmentSigned (signed_message s e.dance)) ∷ [];
        told = output.Signed (length e.dance.log.own) ∷ [];
      };
    }
command_filled k y z (command.Shutdown script) e =
    let now = shuts_down script e in
    let turn = sending (message.Shutdown (shutdown_message now)) now in
    unless_filled k (shut_fault script e) (shut_fault script e) (completed (host k y z) turn) (completed k turn) refl
    (completed_filled k y z turn)
command_filled k y z c e = refl
