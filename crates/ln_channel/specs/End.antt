-- What one end of a channel keeps once both sides have agreed to it, and what it owes the peer (BOLT 2).
use Rattle.std.specs.Prelude.{◌≡◌, ◌⊎◌, ℕ, List, [], ◌∷◌, ◌++◌, length, Bool, false, not, ◌&&◌, ◌==◌, Option}
use Rattle.std.specs.Prelude.{Some, None, is_some, Result, Ok, Err, if◌then◌else◌}
use Rattle.ln_bytes.specs.Answers.{fault_of}
use Rattle.ln_bytes.specs.Endian.{big_bytes}
use Rattle.ln_bytes.specs.declared.record.Record.{Record}
use Rattle.ln_msgs.specs.declared.messages.message.Message.{Message}
use Rattle.ln_msgs.specs.declared.messages.message.Message.TheVariants as message
use Rattle.ln_msgs.specs.declared.messages.closing.ClosingSigned.{ClosingSigned}
use Rattle.ln_msgs.specs.declared.messages.closing.Shutdown.{Shutdown}
use Rattle.ln_refusals.specs.declared.refusal.Refusal.{Refusal}
use Rattle.ln_keys.specs.Signer.{Signer}
use Rattle.ln_log.specs.declared.update.Update.{Update}
use Rattle.ln_log.specs.Log.{Log, covered, live_in, after_drop}
use Rattle.ln_dance.specs.Dance.{Dancer, with_log}
use Rattle.ln_close.specs.declared.closing.Closing.{Closing}
use Rattle.ln_close.specs.Closing.{AreOrdered, first_fee, started, after_shut}
use Rattle.ln_channel.specs.declared.opening.Terms.{Terms}
use Rattle.ln_channel.specs.declared.opening.Opened.{Opened}
use Rattle.ln_channel.specs.declared.channel.Readiness.{Readiness}
use Rattle.ln_channel.specs.declared.output.Output.{Output}
use Rattle.ln_channel.specs.declared.output.Output.TheVariants as output
use Rattle.ln_channel.specs.Ledger.{Ledger, no_events, next_event, refs_of, entered, resulted}
use Rattle.ln_channel.specs.Opening.{LacksBy, opening_of}
use Rattle.ln_channel.specs.Outputs.{Handed, nothing, sends, events_of, numbered}

pub record End : Type 0 where
  pub dance : Dancer
  pub closing : Closing
  pub terms : Terms
  pub readiness : Readiness
  pub ledger : Ledger

-- what is kept stands for this end: today it has all of it whole
abbrev pub StandsFor : End → End → Type 0
StandsFor kept e = kept ≡ e

-- after the opening
abbrev pub no_readiness : Readiness
no_readiness = record { short_id = None; ready_sent = false; ready_received = false }

abbrev pub opened_end : Dancer → Closing → Terms → End
opened_end d c t = record { dance = d; closing = c; terms = t; readiness = no_readiness; ledger = no_events }

abbrev pub end_of : Opened → End
end_of o = opened_end o.dance o.closing o.terms

-- one role, the opening that the terms say, fees in order, and a script of the peer's where it has shut down
pub record IsSound (e : End) : Type 0 where
  pub one_role : e.dance.log.role ≡ e.closing.role
  pub opening : e.dance.log.opening ≡ opening_of e.terms
  pub fees : AreOrdered e.closing.fees
  pub scripts : is_some e.terms.peer_script ≡ e.closing.peer_shut

abbrev pub with_dance : Dancer → End → End
with_dance d e = record e { dance = d }

-- what a lost connection leaves (BOLT 2, "Message Retransmission")
abbrev pub end_dropped : End → End
end_dropped e = with_dance (with_log (after_drop e.dance.log) e.dance) e

-- ---- where it stands

-- it has sent channel_ready, and taken the peer's
abbrev pub is_ready : End → Bool
is_ready e = e.readiness.ready_sent && e.readiness.ready_received

abbrev pub is_closed : End → Bool
is_closed e = is_some e.closing.closed

abbrev pub all_acknowledged : Log → Bool
all_acknowledged l = l.acknowledged.own == length l.own

-- every update stands acknowledged in both commitments, and no HTLC is live
abbrev pub is_settled : Log → Bool
is_settled l =
    all_acknowledged l && (l.current.own == length l.own) && (l.current.peer == length l.received)
    && (l.acknowledged.peer == length l.received) && (live_in (covered l l.current) == 0)

-- BOLT 2, "Closing Negotiation: closing_signed": closing has begun
abbrev pub has_begun : End → Bool
has_begun e = e.closing.shut && (e.closing.peer_shut && is_settled e.dance.log)

-- ---- what a message or a command makes of an end

pub record Turn : Type 0 where
  pub end : End
  pub handed : Handed

-- nothing is handed out
abbrev pub quiet : End → Turn
quiet e = record { end = e; handed = nothing }

-- one message is sent
abbrev pub sending : Message → End → Turn
sending m e = record { end = e; handed = sends (m ∷ []) nothing }

-- what is kept stands for what a turn leaves, and this is handed out
abbrev pub IsTurn : Result Turn Refusal → Handed → End → Type 0
IsTurn (Ok t) h new = StandsFor new t.end × (h ≡ t.handed)
IsTurn (Err r) h new = ⊥

-- what is kept answers what a row says of an end that it stands for, but for want of memory: where it refuses, it is as
-- it was
abbrev pub MakesBy : Bool → Result Turn Refusal → Result Handed Refusal → End → End → Type 0
MakesBy views row (Ok h) old new = IsTurn row h new
MakesBy views row (Err e) old new = LacksBy views e (fault_of row) ⊎ ((row ≡ Err e) × (new ≡ old))

-- where no view is made for it
abbrev pub Makes : Result Turn Refusal → Result Handed Refusal → End → End → Type 0
Makes row answer old new = MakesBy false row answer old new

-- ---- what it comes to hold as irrevocably committed (BOLT 2, "Normal Operation")

-- how many updates of either side are held
abbrev pub committed : End → Output
committed e = output.Committed e.dance.log.current.own e.dance.log.acknowledged.peer

-- each that is an event is told with its number, and stands in the ledger
abbrev pub told_of : Bool → List Update → End → List Output
told_of own us e = committed e ∷ numbered (next_event e.ledger) (events_of own us)

abbrev pub telling : Bool → ℕ → List Update → End → End
telling own before us e = record e { ledger = entered (refs_of own before us) e.ledger }

-- what became of the own HTLCs that these updates of the peer's remove is kept
abbrev pub settling : List Update → End → End
settling us e = record e { ledger = resulted e.dance.log.own us e.ledger }

-- ---- shutdown (BOLT 2, "Closing Initiation: shutdown")

abbrev pub shutdown_message : End → Shutdown
shutdown_message e = record { channel_id = e.dance.channel; script = e.terms.script; records = [] }

-- the peer's shutdown is to be answered, and may be
abbrev pub owes_shutdown : End → Bool
owes_shutdown e = e.closing.peer_shut && not e.closing.shut && all_acknowledged e.dance.log

abbrev pub shutdown_sent : End → List Output
shutdown_sent e = if owes_shutdown e then output.Send (message.Shutdown (shutdown_message e)) ∷ [] else []

abbrev pub answers_shutdown : End → End
answers_shutdown e = if owes_shutdown e then record e { closing = after_shut e.closing } else e

-- ---- a closing fee (BOLT 2, "Closing Negotiation: closing_signed")

-- fee_range: least and greatest
abbrev pub fee_range : Closing → Record
fee_range c = record { typ = 1; value = big_bytes 8 c.fees.least ++ big_bytes 8 c.fees.greatest }

abbrev pub closing_message : Signer → End → ℕ → ClosingSigned
closing_message keys e fee = record {
  channel_id = e.dance.channel;
  fee_satoshis = fee;
  signature = keys.close_signature fee;
  records = fee_range e.closing ∷ [];
}

abbrev pub fee_sent : Signer → End → Option ℕ → List Output
fee_sent keys e None = []
fee_sent keys e (Some fee) = output.Send (message.ClosingSigned (closing_message keys e fee)) ∷ []

-- the funder's first fee, once closing has begun
abbrev pub due_fee : End → Option ℕ
due_fee e = if has_begun e then first_fee e.closing else None

abbrev pub begins : End → End
begins e = if has_begun e then record e { closing = started e.closing } else e

-- ---- the end of each turn: the shutdown that is owed and may be sent now, then the funder's first fee

abbrev pub due_sent : Signer → End → List Output
due_sent keys e = shutdown_sent e ++ fee_sent keys (answers_shutdown e) (due_fee (answers_shutdown e))

abbrev pub settled : End → End
settled e = begins (answers_shutdown e)

abbrev pub completed : Signer → Turn → Turn
completed keys t = record {
  end = settled t.end;
  handed = record { sent = t.handed.sent ++ due_sent keys t.end; told = t.handed.told };
}
