-- What a book asks of a channel, once its connection was lost or it was loaded.
use Rattle.std.specs.Prelude.{ℕ, List, [], ◌∷◌, ◌++◌, length, Bool, false, not, ◌&&◌, ◌||◌, nat_lt, Option, Some}
use Rattle.std.specs.Prelude.{None, if◌then◌else◌}
use Rattle.std.specs.List.{find, list_any}
use Rattle.ln_log.specs.declared.log.Side.TheVariants as side
use Rattle.ln_log.specs.declared.mark.Mark.{Mark}
use Rattle.ln_log.specs.declared.update.Update.{Update}
use Rattle.ln_log.specs.Mark.{is_held}
use Rattle.ln_log.specs.Updates.{next_id, add_with, outcome, is_live, is_some}
use Rattle.ln_log.specs.Log.{Log, between}
use Rattle.ln_log.specs.Window.{first_balances, first_live_htlcs}
use Rattle.ln_channel.specs.Ledger.{is_held_at}
use Rattle.ln_channel.specs.End.{End}
use Rattle.ln_book_tables.specs.declared.htlc.Htlc.{Htlc}
use Rattle.ln_book_tables.specs.declared.entry.Queued.{Queued}
use Rattle.ln_book_tables.specs.declared.entry.Out.{Out}
use Rattle.ln_book_tables.specs.declared.entry.Out.TheVariants as out
use Rattle.ln_book_tables.specs.declared.entry.PendingCommand.{PendingCommand}
use Rattle.ln_book_tables.specs.declared.entry.PendingCommand.TheVariants as pending_command
use Rattle.ln_book_tables.specs.declared.entry.KeptState.{KeptState}
use Rattle.ln_book_tables.specs.Replay.{Table, same, is_queued, is_resumed, pending_command_at}

-- of the channel's HTLCs in the book those of which a removal was kept
abbrev pub kept_ids : (ℕ → Bool) → List ℕ → List Htlc → List ℕ
kept_ids removes c [] = []
kept_ids removes c (h ∷ hs) = if same c h.key.channel && removes h.key.id then h.key.id ∷ kept_ids removes c hs
    else kept_ids removes c hs

-- whether the decision that is out was kept
abbrev pub is_decision_kept : (ℕ → Mark → Bool) → Option Queued → Bool
is_decision_kept decides None = false
is_decision_kept decides (Some q) = decides q.event q.mark

abbrev pub is_out_kept : (ℕ → Mark → Bool) → List ℕ → Out → List Queued → Bool
is_out_kept decides c (out.Deciding n) qs = is_decision_kept decides (find (is_queued c n) qs)
is_out_kept decides c (out.Adding k) qs = false
is_out_kept decides c (out.Removing k) qs = false
is_out_kept decides c (out.Forgetting k) qs = false
is_out_kept decides c (out.Resuming n) qs = is_decision_kept decides (find (is_resumed c n) qs)

abbrev pub is_pending_command_kept : (ℕ → Mark → Bool) → List ℕ → PendingCommand → List Queued → Bool
is_pending_command_kept decides c pending_command.Idle qs = false
is_pending_command_kept decides c (pending_command.InFlight o) qs = is_out_kept decides c o qs
is_pending_command_kept decides c (pending_command.Unknown o) qs = is_out_kept decides c o qs

-- all that it is asked
abbrev pub kept_state_of : ℕ → (ℕ → Bool) → (ℕ → Mark → Bool) → List ℕ → Table → KeptState
kept_state_of next removes decides c t = record {
  next = next;
  removes = kept_ids removes c t.htlcs;
  decides = is_pending_command_kept decides c (pending_command_at c t) t.queue;
}

-- ---- what the end of a channel answers, by the updates that it has: those that offered the HTLCs that are live in its
-- base, and those after it

-- the own updates after the base
abbrev pub own_window : Log → List Update
own_window l = between l.first.own (length l.own) l.own

abbrev pub own_updates : Log → List Update
own_updates l = first_live_htlcs side.Own l ++ own_window l

-- each HTLC that it has offered has an id below this
abbrev pub next_own_id : End → ℕ
next_own_id e = next_id e.dance.log.own

-- the peer's HTLC of this id was offered in the base, and isn't live there any more
abbrev pub is_gone : ℕ → Log → Bool
is_gone id l = nat_lt id (first_balances l).next_peer && not (is_some (add_with id (first_live_htlcs side.Peer l)))

-- an own update removes the peer's HTLC of this id
abbrev pub has_own_removal : ℕ → Log → Bool
has_own_removal id l = not (is_live (outcome id (own_window l))) || is_gone id l

-- a decision is held by the number of this event
abbrev pub holds_at : ℕ → End → Bool
holds_at n e = list_any (is_held_at n) e.ledger.decisions

-- events are decided in turn: those below the count are, and an HTLC is held exactly where it is decided so
abbrev pub has_decided : ℕ → Mark → End → Bool
has_decided n m e = nat_lt n e.ledger.decided && (if is_held m then holds_at n e else not (holds_at n e))
