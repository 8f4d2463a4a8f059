-- What each message of the peer makes of an end (BOLT 2).
use Rattle.std.specs.Prelude.{ℕ, List, [], ◌∷◌, length, drop, Bool, true, false, not, ◌||◌, ◌==◌, Option, Some}
use Rattle.std.specs.Prelude.{None, Result, Ok, Err, if◌then◌else◌}
use Rattle.ln_bytes.specs.Endian.{big_number}
use Rattle.ln_bytes.specs.Same.{are_same}
use Rattle.ln_bytes.specs.Tlv.{value_of}
use Rattle.ln_msgs.specs.declared.messages.message.Message.{Message}
use Rattle.ln_msgs.specs.declared.messages.message.Message.TheVariants as message
use Rattle.ln_msgs.specs.declared.messages.closing.ClosingSigned.{ClosingSigned}
use Rattle.ln_msgs.specs.declared.messages.closing.Shutdown.{Shutdown}
use Rattle.ln_msgs.specs.declared.messages.commitments.CommitmentSigned.{CommitmentSigned}
use Rattle.ln_msgs.specs.declared.messages.commitments.RevokeAndAck.{RevokeAndAck}
use Rattle.ln_msgs.specs.declared.messages.opening.ChannelReady.{ChannelReady}
use Rattle.ln_refusals.specs.declared.refusal.Refusal.{Refusal}
use Rattle.ln_refusals.specs.declared.refusal.Refusal.TheVariants as refusal
use Rattle.ln_keys.specs.Signer.{Signer}
use Rattle.ln_log.specs.declared.update.Update.{Update}
use Rattle.ln_log.specs.declared.update.Update.TheVariants as update
use Rattle.ln_log.specs.Limits.{first_fault, is_at_update_limit}
use Rattle.ln_log.specs.Log.{after_receive, taken_fault}
use Rattle.ln_dance.specs.Dance.{accept_fault, after_accept, revoked_message, learn_fault, after_learn, with_log}
use Rattle.ln_dance.specs.Dance.{with_next_point}
use Rattle.ln_dance.specs.Messages.{add_of, fulfil_of, fail_of, malformed_of, fee_of}
use Rattle.ln_close.specs.declared.closing.FeeAnswer.{FeeAnswer}
use Rattle.ln_close.specs.declared.closing.FeeAnswer.TheVariants as answer
use Rattle.ln_close.specs.Closing.{after_peer_shut, answer_to, after}
use Rattle.ln_hooks.specs.declared.event.ChannelEvent.TheVariants as event
use Rattle.ln_log.specs.declared.mark.EventRef.TheVariants as ref
use Rattle.ln_channel.specs.declared.output.Output.{Output}
use Rattle.ln_channel.specs.declared.output.Output.TheVariants as output
use Rattle.ln_channel.specs.Ledger.{Ledger, next_event, entered}
use Rattle.ln_channel.specs.Outputs.{Handed, nothing}
use Rattle.ln_channel.specs.Opening.{unless}
use Rattle.ln_channel.specs.Since.{own_since, peer_since}
use Rattle.ln_channel.specs.End.{End, with_dance, is_ready, is_closed, has_begun, Turn, quiet, completed, told_of}
use Rattle.ln_channel.specs.End.{telling}
use Rattle.ln_channel.specs.End.{settling, fee_sent}

-- ---- channel_ready (BOLT 2, "The channel_ready Message")

-- the first one tells the point of commitment 1; a second one, or one after the close, does nothing
abbrev pub takes_ready : ChannelReady → End → End
takes_ready m e =
    if e.readiness.ready_received || is_closed e then e
    else record e {
      readiness = record {
        short_id = e.readiness.short_id;
        ready_sent = e.readiness.ready_sent;
        ready_received = true;
      };
      dance = with_next_point m.second_point e.dance;
    }

-- ---- updates (BOLT 2, "Normal Operation")

-- an add after the peer's shutdown, or a fee once closing has begun
abbrev pub late_fault : End → Update → Option Refusal
late_fault e (update.Add a) = if e.closing.peer_shut then Some refusal.AddAfterShutdown else None
late_fault e (update.Fulfil f) = None
late_fault e (update.Fail f) = None
late_fault e (update.Malformed m) = None
late_fault e (update.Fee f) = if has_begun e then Some refusal.OutOfPlace else None

-- what the log doesn't know of
abbrev pub early_fault : End → Update → Option Refusal
early_fault e u = if not (is_ready e) || is_at_update_limit e.dance.log.received
    then Some refusal.OutOfPlace else late_fault e u

abbrev pub update_fault : End → Update → Option Refusal
update_fault e u = first_fault (early_fault e u) (taken_fault e.dance.log u)

abbrev pub takes : Update → End → End
takes u e = with_dance (with_log (after_receive u e.dance.log) e.dance) e

abbrev pub update_row : Update → End → Result Turn Refusal
update_row u e = unless (update_fault e u) (quiet (takes u e))

-- ---- a signature (BOLT 2, "Committing Updates So Far: commitment_signed")

abbrev pub signature_fault : Signer → CommitmentSigned → End → Option Refusal
signature_fault keys m e = if is_ready e then accept_fault keys m e.dance else Some refusal.OutOfPlace

abbrev pub accepts : End → End
accepts e = with_dance (after_accept e.dance) e

-- it is answered by the revocation, and the own updates that are newly held are told
abbrev pub accepting : Signer → ℕ → End → End → Turn
accepting keys before e now = record {
  end = telling true before (own_since before now.dance.log) now;
  handed = record {
    sent = output.Send (message.RevokeAndAck (revoked_message keys e.dance)) ∷ [];
    told = told_of true (own_since before now.dance.log) now;
  };
}

abbrev pub signature_row : Signer → CommitmentSigned → End → Result Turn Refusal
signature_row keys m e = unless (signature_fault keys m e) (accepting keys e.dance.log.current.own e (accepts e))

-- ---- a revocation (BOLT 2, "Completing the Transition to the Updated State: revoke_and_ack")

abbrev pub revokes : RevokeAndAck → End → End
revokes m e = with_dance (after_learn m e.dance) e

-- the peer's updates that are newly held are told, and what became of forwarded HTLCs by them is kept
abbrev pub learning : ℕ → End → Turn
learning before now = record {
  end = settling (peer_since before now.dance.log) (telling false before (peer_since before now.dance.log) now);
  handed = record { sent = []; told = told_of false (peer_since before now.dance.log) now };
}

abbrev pub revocation_row : Signer → RevokeAndAck → End → Result Turn Refusal
revocation_row keys m e = unless (learn_fault keys m e.dance) (learning e.dance.log.acknowledged.peer (revokes m e))

-- ---- shutdown (BOLT 2, "Closing Initiation: shutdown")

abbrev pub shuts_by_peer : Shutdown → End → End
shuts_by_peer m e = record e {
  terms = record e.terms { peer_script = Some m.script };
  closing = after_peer_shut e.closing;
}

-- a repeated one does nothing, and may not name another script
abbrev pub shutdown_at : Option (List ℕ) → Shutdown → End → Result Turn Refusal
shutdown_at None m e = Ok (quiet (shuts_by_peer m e))
shutdown_at (Some script) m e = if are_same script m.script then Ok (quiet e) else Err refusal.OutOfPlace

abbrev pub shutdown_row : Shutdown → End → Result Turn Refusal
shutdown_row m e = shutdown_at e.terms.peer_script m e

-- ---- a closing fee (BOLT 2, "Closing Negotiation: closing_signed")

-- least and greatest, each in eight bytes
abbrev pub range_of : Option (List ℕ) → Option (ℕ × ℕ)
range_of None = None
range_of (Some v) = if length v == 16 then Some (big_number 8 v, big_number 8 (drop 8 v)) else None

abbrev pub range_in : ClosingSigned → Option (ℕ × ℕ)
range_in m = range_of (value_of 1 m.records)

-- the close is the last event
abbrev pub closed_at : End → ℕ → List Output
closed_at e fee = output.Event (next_event e.ledger) (event.Closed fee) ∷ output.Closed fee ∷ []

abbrev pub answer_handed : Signer → End → FeeAnswer → Handed
answer_handed keys e answer.Nothing = nothing
answer_handed keys e (answer.Close fee) = record { sent = []; told = closed_at e fee }
answer_handed keys e (answer.EchoAndClose fee) = record { sent = fee_sent keys e (Some fee); told = closed_at e fee }
answer_handed keys e (answer.Propose fee) = record { sent = fee_sent keys e (Some fee); told = [] }

abbrev pub answer_ledger : FeeAnswer → Ledger → Ledger
answer_ledger answer.Nothing l = l
answer_ledger (answer.Close fee) l = entered (ref.Close ∷ []) l
answer_ledger (answer.EchoAndClose fee) l = entered (ref.Close ∷ []) l
answer_ledger (answer.Propose fee) l = l

-- the end with the fee, which has been answered so
abbrev pub answering : Signer → FeeAnswer → End → Turn
answering keys a e = record { end = record e { ledger = answer_ledger a e.ledger }; handed = answer_handed keys e a }

abbrev pub answered_end : ClosingSigned → FeeAnswer → End → End
answered_end m a e = record e { closing = after m.fee_satoshis a e.closing }

abbrev pub answered : Signer → ClosingSigned → End → Result FeeAnswer Refusal → Result Turn Refusal
answered keys m e (Ok a) = Ok (answering keys a (answered_end m a e))
answered keys m e (Err r) = Err r

abbrev pub fee_row : Signer → ClosingSigned → End → Result Turn Refusal
fee_row keys m e =
    if not (has_begun e) then Err refusal.OutOfPlace
    else (if keys.accepts_close m.fee_satoshis m.signature
    then answered keys m e (answer_to e.closing m.fee_satoshis (range_in m))
    else Err refusal.SignatureWrong)

-- a message with a signature over a commitment: a view is made before it is looked at
abbrev pub is_viewed : Message → Bool
is_viewed (message.FundingCreated m) = true
is_viewed (message.FundingSigned m) = true
is_viewed (message.CommitmentSigned m) = true
is_viewed m = false

-- ---- by message: those that aren't of a channel, and those that open one, are out of place

-- the update that a message tells
abbrev pub told_row : Option Update → End → Result Turn Refusal
told_row (Some u) e = update_row u e
told_row None e = Err refusal.OutOfPlace

abbrev pub message_row : Signer → Message → End → Result Turn Refusal
message_row keys (message.ChannelReady m) e = Ok (quiet (takes_ready m e))
message_row keys (message.UpdateAddHtlc m) e = update_row (update.Add (add_of m)) e
message_row keys (message.UpdateFulfillHtlc m) e = update_row (update.Fulfil (fulfil_of m)) e
message_row keys (message.UpdateFailHtlc m) e = update_row (update.Fail (fail_of m)) e
message_row keys (message.UpdateFailMalformedHtlc m) e = update_row (update.Malformed (malformed_of m)) e
message_row keys (message.UpdateFee m) e = update_row (update.Fee (fee_of m)) e
message_row keys (message.CommitmentSigned m) e = signature_row keys m e
message_row keys (message.RevokeAndAck m) e = revocation_row keys m e
message_row keys (message.Shutdown m) e = shutdown_row m e
message_row keys (message.ClosingSigned m) e = fee_row keys m e
message_row keys m e = Err refusal.OutOfPlace

abbrev pub completed_row : Signer → Result Turn Refusal → Result Turn Refusal
completed_row keys (Ok t) = Ok (completed keys t)
completed_row keys (Err r) = Err r

abbrev pub taken : Signer → Message → End → Result Turn Refusal
taken keys m e = completed_row keys (message_row keys m e)
