-- Which payments a channel's end takes, and how a node's book is told of that (BOLT 7, "HTLC Fees").
use Rattle.std.specs.Prelude.{ℕ, Bool, not, ◌&&◌, Option, Some, None, is_none, option_map, List}
use Rattle.ln_keys.specs.declared.role.Role.{Role}
use Rattle.ln_keys.specs.declared.role.Role.TheVariants.{Funder, Fundee}
use Rattle.ln_forward.specs.declared.checks.Policy.{Policy}
use Rattle.ln_forward.specs.Payload.{id_bytes}
use Rattle.ln_channel.specs.declared.opening.Terms.{Terms}
use Rattle.ln_channel.specs.End.{End, is_ready}
use Rattle.ln_channel.specs.State.{State, is_down}
use Rattle.ln_book_tables.specs.declared.entry.Entry.{Entry}
use Rattle.ln_book_tables.specs.declared.entry.Entry.TheVariants as entry
use Rattle.ln_book_tables.specs.declared.entry.KeptState.{KeptState}
use Rattle.ln_history.specs.History.{History, with_entry}
use Rattle.ln_book_tables.specs.Replay.{Table, table_of}
use Rattle.ln_book.specs.Kept.{kept_state_of, next_own_id, has_own_removal, has_decided}
use Rattle.ln_book.specs.declared.switch.uses.Use.{Use}

-- it is ready and connected, has neither failed nor halted, nor closed, and neither side has shut down
abbrev pub takes_payments : {K : Type 0} → State K → End → Bool
takes_payments l e =
    not l.halted && (is_none l.failure && (not (is_down l.connection) && (is_ready e
    && (not e.closing.shut && (not e.closing.peer_shut && is_none e.closing.closed)))))

-- the least that the other end takes, in msat: what it told as the channel was opened
abbrev pub minimum_of_peer : Role → Terms → ℕ
minimum_of_peer Funder t = t.accept_channel.htlc_minimum_msat
minimum_of_peer Fundee t = t.open_channel.htlc_minimum_msat

-- what a book is told of an end
abbrev pub use_of : {K : Type 0} → State K → End → Use
use_of l e = record {
  channel = e.dance.channel;
  short_id = option_map id_bytes e.readiness.short_id;
  minimum = minimum_of_peer e.closing.role e.terms;
  takes = takes_payments l e;
}

-- its short id is known once it has confirmed the channel
abbrev pub with_route : Policy → Use → Option (List ℕ) → History Table Entry → History Table Entry
with_route p u None b = b
with_route p u (Some id) b = with_entry (entry.Route id (record {
  channel = u.channel;
  policy = p;
  minimum = u.minimum;
})) b

abbrev pub with_use : Policy → Use → History Table Entry → History Table Entry
with_use p u b = with_entry (entry.Use u.channel u.takes) (with_route p u u.short_id b)

-- what this channel's end has kept, as a book is told
abbrev pub kept_of : List ℕ → End → History Table Entry → KeptState
kept_of c e b =
    kept_state_of (next_own_id e) (λ id. has_own_removal id e.dance.log) (λ n mark. has_decided n mark e) c (table_of b)

-- the book is told so, as its connection was lost or it was loaded
abbrev pub with_dropped : List ℕ → End → History Table Entry → History Table Entry
with_dropped c e b = with_entry (entry.Dropped c (kept_of c e b)) b
