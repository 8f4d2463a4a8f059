-- What a call makes of the updates and the ledger of an end: a message that it takes, or a command.
use Rattle.std.specs.Prelude.{◌≡◌, [], ◌∷◌, true, false, None, Ok}
use Rattle.ln_log.specs.declared.mark.EventRef.TheVariants as ref
use Rattle.ln_log.specs.declared.update.Update.{Update}
use Rattle.ln_log.specs.declared.update.Update.TheVariants as update
use Rattle.ln_log.specs.Limits.{HasNextId}
use Rattle.ln_log.specs.Log.{after_propose, after_receive, after_sign, after_accept, after_learn}
use Rattle.ln_channel.specs.declared.command.Command.{Command}
use Rattle.ln_channel.specs.Taking.{update_fault}
use Rattle.ln_channel.specs.Commands.{propose_fault, ledgered}
use Rattle.ln_channel.specs.Ledger.{refs_of, entered, resulted}
use Rattle.ln_channel.specs.Since.{own_since, peer_since}
use Rattle.ln_channel.specs.End.{End}

pub data Shift (e f : End) : Type 0 where
  Stays : (log : f.dance.log ≡ e.dance.log) (ledger : f.ledger ≡ e.ledger) → Shift e f
  -- an update of the peer's
  Takes : (u : Update) (may : update_fault e u ≡ None) (log : f.dance.log ≡ after_receive u e.dance.log)
      (ledger : f.ledger ≡ e.ledger) → Shift e f
  -- an own one
  Proposes : (u : Update) (may : propose_fault e u ≡ None) (next : HasNextId e.dance.log.own u)
      (log : f.dance.log ≡ after_propose u e.dance.log) (ledger : f.ledger ≡ e.ledger) → Shift e f
  -- commitment_signed that is sent, and one of the peer's, by which own updates come to be held
  Signs : (log : f.dance.log ≡ after_sign e.dance.log) (ledger : f.ledger ≡ e.ledger) → Shift e f
  Accepts : (log : f.dance.log ≡ after_accept e.dance.log)
      (ledger : f.ledger ≡ entered (refs_of true e.dance.log.current.own
      (own_since e.dance.log.current.own (after_accept e.dance.log))) e.ledger) → Shift e f
  -- revoke_and_ack of the peer's, by which its updates do
  Learns : (log : f.dance.log ≡ after_learn e.dance.log)
      (ledger : f.ledger ≡ resulted e.dance.log.own
      (peer_since e.dance.log.acknowledged.peer (after_learn e.dance.log))
      (entered (refs_of false e.dance.log.acknowledged.peer
      (peer_since e.dance.log.acknowledged.peer (after_learn e.dance.log))) e.ledger)) → Shift e f
  -- the last closing_signed
  Closes : (log : f.dance.log ≡ e.dance.log) (ledger : f.ledger ≡ entered (ref.Close ∷ []) e.ledger) → Shift e f
  -- Decide, Resume and Forget
  Notes : (c : Command) (log : f.dance.log ≡ e.dance.log) (ledger : ledgered c e ≡ Ok f.ledger) → Shift e f

-- ---- in which no book has a part

-- neither a removal nor an add that forwards an HTLC
abbrev pub IsPlainUpdate : Update → Type 0
IsPlainUpdate (update.Add a) = a.origin ≡ None
IsPlainUpdate (update.Fulfil f) = ⊥
IsPlainUpdate (update.Fail f) = ⊥
IsPlainUpdate (update.Malformed m) = ⊥
IsPlainUpdate (update.Fee f) = Unit {0}

-- nor a decision, nor that a result is forgotten
abbrev pub IsPlain : {e f : End} → Shift e f → Type 0
IsPlain (Stays l g) = Unit {0}
IsPlain (Takes u may l g) = Unit {0}
IsPlain (Proposes u may next l g) = IsPlainUpdate u
IsPlain (Signs l g) = Unit {0}
IsPlain (Accepts l g) = Unit {0}
IsPlain (Learns l g) = Unit {0}
IsPlain (Closes l g) = Unit {0}
IsPlain (Notes c l g) = ⊥
