-- What each command makes of an end (BOLT 2).
use Rattle.std.specs.Prelude.{ℕ, List, [], ◌∷◌, length, true, not, ◌||◌, nat_lt, Option, Some, None}
use Rattle.std.specs.Prelude.{Result, Ok, Err, if◌then◌else◌}
use Rattle.ln_bytes.specs.declared.short_id.ShortId.{ShortId}
use Rattle.ln_msgs.specs.declared.messages.message.Message.TheVariants as message
use Rattle.ln_msgs.specs.declared.messages.opening.ChannelReady.{ChannelReady}
use Rattle.ln_refusals.specs.declared.refusal.Refusal.{Refusal}
use Rattle.ln_refusals.specs.declared.refusal.Refusal.TheVariants as refusal
use Rattle.ln_refusals.specs.declared.peer_rule.PeerRule.TheVariants as rule
use Rattle.ln_keys.specs.Signer.{Signer}
use Rattle.ln_log.specs.declared.update.Update.{Update}
use Rattle.ln_log.specs.declared.update.Update.TheVariants as update
use Rattle.ln_log.specs.Updates.{next_id}
use Rattle.ln_log.specs.Limits.{first_fault, is_at_update_limit}
use Rattle.ln_log.specs.Log.{after_propose, proposal_fault}
use Rattle.ln_dance.specs.Dance.{sign_fault, after_sign, signed_message, with_log}
use Rattle.ln_dance.specs.Messages.{update_message}
use Rattle.ln_close.specs.Closing.{after_shut}
use Rattle.ln_channel.specs.declared.command.Command.{Command}
use Rattle.ln_channel.specs.declared.command.Command.TheVariants as command
use Rattle.ln_channel.specs.declared.output.Output.TheVariants as output
use Rattle.ln_channel.specs.Config.{longest_script}
use Rattle.ln_channel.specs.Opening.{unless}
use Rattle.ln_channel.specs.Ledger.{Ledger, first_htlc, decide_row, resume_held_row, forgotten}
use Rattle.ln_channel.specs.End.{End, with_dance, is_ready, is_closed, all_acknowledged, Turn, quiet, sending}
use Rattle.ln_channel.specs.End.{completed}
use Rattle.ln_channel.specs.End.{shutdown_message}

-- ---- Confirm: the funding is deep enough (BOLT 2, "The channel_ready Message")

abbrev pub confirm_fault : End → Option Refusal
confirm_fault e = if e.readiness.ready_sent || is_closed e then Some refusal.NotReady else None

abbrev pub ready_message : Signer → End → ChannelReady
ready_message keys e = record { channel_id = e.dance.channel; second_point = keys.point_of 1; records = [] }

abbrev pub confirmed : ShortId → End → End
confirmed id e = record e {
  readiness = record {
    short_id = Some id;
    ready_sent = true;
    ready_received = e.readiness.ready_received;
  };
}

abbrev pub confirm_row : Signer → ShortId → End → Result Turn Refusal
confirm_row keys id e = unless (confirm_fault e)
    (sending (message.ChannelReady (ready_message keys e)) (confirmed id e))

-- ---- an update (BOLT 2, "Normal Operation")

-- neither side has shut down, where an update adds something or changes the fee
abbrev pub shut_by_either : End → Option Refusal
shut_by_either e = if e.closing.shut || e.closing.peer_shut then Some refusal.Shut else None

abbrev pub closed_fault : End → Update → Option Refusal
closed_fault e (update.Add a) = shut_by_either e
closed_fault e (update.Fulfil f) = None
closed_fault e (update.Fail f) = None
closed_fault e (update.Malformed m) = None
closed_fault e (update.Fee f) = shut_by_either e

-- what the log doesn't know of
abbrev pub own_fault : End → Update → Option Refusal
own_fault e u =
    if not (is_ready e) then Some refusal.NotReady
    else (if is_at_update_limit e.dance.log.own then Some refusal.NumbersSpent
    else closed_fault e u)

abbrev pub propose_fault : End → Update → Option Refusal
propose_fault e u = first_fault (own_fault e u) (proposal_fault e.dance.log u)

abbrev pub proposes : Update → End → End
proposes u e = with_dance (with_log (after_propose u e.dance.log) e.dance) e

abbrev pub propose_row : Update → End → Result Turn Refusal
propose_row u e = unless (propose_fault e u) (sending (update_message e.dance.channel u) (proposes u e))

-- ---- Sign (BOLT 2, "Committing Updates So Far: commitment_signed")

abbrev pub sign_command_fault : End → Option Refusal
sign_command_fault e = if is_ready e then sign_fault e.dance else Some refusal.NotReady

abbrev pub signs_next : End → End
signs_next e = with_dance (after_sign e.dance) e

abbrev pub sign_row : Signer → End → Result Turn Refusal
sign_row keys e = unless (sign_command_fault e) (record {
  end = signs_next e;
  handed = record {
    sent = output.Send (message.CommitmentSigned (signed_message keys e.dance)) ∷ [];
    told = output.Signed (length e.dance.log.own) ∷ [];
  };
})

-- ---- Shutdown (BOLT 2, "Closing Initiation: shutdown")

-- the message has 36 bytes beside its script, and a message has 65,535 at most (7)
abbrev pub script_fault : List ℕ → Option Refusal
script_fault script = if nat_lt longest_script (length script) then Some (refusal.PeerLimit rule.TooLong) else None

abbrev pub shut_fault : List ℕ → End → Option Refusal
shut_fault script e =
    if e.closing.shut then Some refusal.Shut
    else (if all_acknowledged e.dance.log then script_fault script else Some refusal.UpdatesPending)

abbrev pub shuts_down : List ℕ → End → End
shuts_down script e = record e { terms = record e.terms { script = script }; closing = after_shut e.closing }

-- closing may begin with it
abbrev pub shut_row : Signer → List ℕ → End → Result Turn Refusal
shut_row keys script e =
    unless (shut_fault script e)
    (completed keys (sending (message.Shutdown (shutdown_message (shuts_down script e))) (shuts_down script e)))

-- ---- Decide, Resume and Forget

abbrev pub ledgered : Command → End → Result Ledger Refusal
ledgered (command.Decide event m) e = decide_row event m (first_htlc e.dance.log e.ledger.undecided) e.ledger
ledgered (command.Forget id) e = Ok (forgotten id e.ledger)
ledgered (command.Resume event m) e = resume_held_row event m e.ledger
ledgered c e = Err refusal.NotReady

abbrev pub with_ledger : Result Ledger Refusal → End → Result Turn Refusal
with_ledger (Ok l) e = Ok (quiet (record e { ledger = l }))
with_ledger (Err r) e = Err r

-- what is about decisions changes the ledger, and sends nothing
abbrev pub note_row : Command → End → Result Turn Refusal
note_row c e = with_ledger (ledgered c e) e

-- ---- by command

abbrev pub command_row : Signer → Command → End → Result Turn Refusal
command_row keys (command.Confirm id) e = confirm_row keys id e
command_row keys (command.Add amount hash expiry onion origin) e =
    propose_row (update.Add (record {
      id = next_id e.dance.log.own;
      amount = amount;
      hash = hash;
      expiry = expiry;
      onion = onion;
      origin = origin;
    })) e
command_row keys (command.Fulfil id preimage) e =
    propose_row (update.Fulfil (record { id = id; preimage = preimage })) e
command_row keys (command.Fail id reason) e = propose_row (update.Fail (record { id = id; reason = reason })) e
command_row keys (command.Malformed id sha code) e =
    propose_row (update.Malformed (record { id = id; sha256_of_onion = sha; failure_code = code })) e
command_row keys (command.Fee feerate) e = propose_row (update.Fee (record { feerate = feerate })) e
command_row keys command.Sign e = sign_row keys e
command_row keys (command.Shutdown script) e = shut_row keys script e
command_row keys (command.Decide event mark) e = Err refusal.NotReady
command_row keys (command.Forget id) e = Err refusal.NotReady
command_row keys (command.Resume event mark) e = Err refusal.NotReady

-- what isn't ready for it, which is told before that the peer isn't there
abbrev pub unready_fault : Command → End → Option Refusal
unready_fault (command.Confirm id) e = confirm_fault e
unready_fault (command.Shutdown script) e = None
unready_fault c e = if is_ready e then None else Some refusal.NotReady
