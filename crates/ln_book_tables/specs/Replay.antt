-- The book of a node's forwarded payments: what was entered, one after the other, and what that leaves.
use Rattle.std.specs.Prelude.{ℕ, List, [], ◌∷◌, ◌++◌, map, filter, fold, Bool, true, false, not, ◌&&◌, ◌||◌}
use Rattle.std.specs.Prelude.{◌==◌, nat_eq, nat_lt, nat_le, Option, Some, None, Result, Ok, Err}
use Rattle.std.specs.Prelude.{if◌then◌else◌}
use Rattle.std.specs.List.{list_any, find}
use Rattle.std.specs.Map.{lookup}
use Rattle.std.specs.Cmp.Lexicographic.{pointwise}
use Rattle.indexmap.specs.IndexMap.{insert_entry}
use Rattle.ln_keys.specs.Hash.{payment_hash}
use Rattle.ln_log.specs.declared.mark.Mark.{Mark}
use Rattle.ln_log.specs.Mark.{is_held, is_held_by}
use Rattle.ln_hooks.specs.declared.event.How.{How}
use Rattle.ln_book_tables.specs.declared.htlc.Key.{Key}
use Rattle.ln_book_tables.specs.declared.htlc.Offer.{Offer}
use Rattle.ln_book_tables.specs.declared.htlc.OutgoingLeg.{OutgoingLeg}
use Rattle.ln_book_tables.specs.declared.htlc.OutgoingLeg.TheVariants as outgoing
use Rattle.ln_book_tables.specs.declared.htlc.IncomingLeg.{IncomingLeg}
use Rattle.ln_book_tables.specs.declared.htlc.IncomingLeg.TheVariants as incoming
use Rattle.ln_book_tables.specs.declared.htlc.Htlc.{Htlc}
use Rattle.ln_book_tables.specs.declared.entry.OutgoingChannel.{OutgoingChannel}
use Rattle.ln_book_tables.specs.declared.entry.Invoice.{Invoice}
use Rattle.ln_book_tables.specs.declared.entry.Queued.{Queued}
use Rattle.ln_book_tables.specs.declared.entry.Decided.{Decided}
use Rattle.ln_book_tables.specs.declared.entry.Resumed.{Resumed}
use Rattle.ln_book_tables.specs.declared.entry.Out.{Out}
use Rattle.ln_book_tables.specs.declared.entry.Out.TheVariants as out
use Rattle.ln_book_tables.specs.declared.entry.PendingCommand.{PendingCommand}
use Rattle.ln_book_tables.specs.declared.entry.PendingCommand.TheVariants as pending_command
use Rattle.ln_book_tables.specs.declared.entry.KeptState.{KeptState}
use Rattle.ln_book_tables.specs.declared.entry.Entry.{Entry}
use Rattle.ln_book_tables.specs.declared.entry.Entry.TheVariants as entry
use Rattle.ln_history.specs.History.{History}

-- What a book says. A channel is its id, in 32 bytes; a short channel id is its eight bytes.
pub record Table : Type 0 where
  pub routes : List (List ℕ × OutgoingChannel)
  pub used : List (List ℕ × Bool)
  pub height : ℕ
  pub expected : List (List ℕ × Invoice)  -- by payment hash
  pub queue : List Queued  -- decisions that channels are yet to take
  pub htlcs : List Htlc  -- in order of deciding
  pub pending_commands : List (List ℕ × PendingCommand)

abbrev pub no_table : Table
no_table = record { routes = []; used = []; height = 0; expected = []; queue = []; htlcs = []; pending_commands = [] }

-- ---- which

abbrev pub same : List ℕ → List ℕ → Bool
same a b = pointwise nat_eq a b

abbrev pub same_key : Key → Key → Bool
same_key a b = (a.id == b.id) && same a.channel b.channel

-- the outgoing HTLC
abbrev pub goes_by : Key → OutgoingLeg → Bool
goes_by k outgoing.Absent = false
goes_by k outgoing.Refused = false
goes_by k (outgoing.Offered j) = same_key k j
goes_by k (outgoing.Resolved j how) = same_key k j

abbrev pub is_htlc : Key → Htlc → Bool
is_htlc k h = same_key k h.key

-- the HTLC that an event told of
abbrev pub is_told : List ℕ → ℕ → Htlc → Bool
is_told c n h = (n == h.event) && same c h.key.channel

abbrev pub is_offered : Key → Htlc → Bool
is_offered k h = goes_by k h.outgoing

abbrev pub is_queued : List ℕ → ℕ → Queued → Bool
is_queued c n q = (n == q.event) && (same c q.channel && not q.resumes)

-- it resumes what is held by the number of this event
abbrev pub is_resumed : List ℕ → ℕ → Queued → Bool
is_resumed c n q = (n == q.event) && (same c q.channel && q.resumes)

-- the first one that passes is changed
abbrev pub changed_first : {A : Type 0} → (A → Bool) → (A → A) → List A → List A
changed_first p f [] = []
changed_first p f (x ∷ xs) = if p x then f x ∷ xs else x ∷ changed_first p f xs

-- without the first one that passes
abbrev pub without_first : {A : Type 0} → (A → Bool) → List A → List A
without_first p [] = []
without_first p (x ∷ xs) = if p x then xs else x ∷ without_first p xs

abbrev pub left_out : {A : Type 0} → (A → Bool) → List A → List A
left_out p xs = filter (λ x. not (p x)) xs

-- ---- settings: the later one takes the earlier one's place

abbrev pub with_route : List ℕ → OutgoingChannel → Table → Table
with_route id l t = record t { routes = insert_entry same t.routes id l }

abbrev pub with_use : List ℕ → Bool → Table → Table
with_use c u t = record t { used = insert_entry same t.used c u }

abbrev pub with_height : ℕ → Table → Table
with_height h t = record t { height = h }

abbrev pub with_invoice : Invoice → Table → Table
with_invoice i t = record t { expected = insert_entry same t.expected (payment_hash i.preimage) i }

abbrev pub used_of : Option Bool → Bool
used_of None = false
used_of (Some u) = u

-- a channel of which nothing was said takes no payments
abbrev pub is_usable : List ℕ → Table → Bool
is_usable c t = used_of (lookup (same c) t.used)

-- ---- a decision

abbrev pub is_decided : Key → Htlc → Bool
is_decided k h = is_htlc k h && h.decided

abbrev pub htlc_of : Decided → Offer → Htlc
htlc_of d o = record {
  key = record { channel = d.channel; id = o.id };
  event = d.event;
  offer = o;
  mark = d.mark;
  decided = false;
  outgoing = outgoing.Absent;
  incoming = incoming.Open;
}

-- one that the channel has decided stays as it is; else it joins after the others
abbrev pub joined : Htlc → List Htlc → List Htlc
joined h hs = if list_any (is_decided h.key) hs then hs else left_out (is_htlc h.key) hs ++ h ∷ []

abbrev pub with_offer : Decided → Option Offer → List Htlc → List Htlc
with_offer d None hs = hs
with_offer d (Some o) hs = joined (htlc_of d o) hs

abbrev pub queued_of : Decided → Queued
queued_of d = record { channel = d.channel; event = d.event; mark = d.mark; resumes = false }

-- an earlier one of the same event goes
abbrev pub with_queued : Decided → List Queued → List Queued
with_queued d qs = left_out (is_queued d.channel d.event) qs ++ queued_of d ∷ []

abbrev pub with_decided : Decided → Table → Table
with_decided d t = record t { queue = with_queued d t.queue; htlcs = with_offer d d.offer t.htlcs }

-- ---- what is held is decided

-- the HTLC is held by the number of this event of the channel, which has taken that
abbrev pub is_held_in : List ℕ → ℕ → Htlc → Bool
is_held_in c n h = h.decided && (is_held_by n h.mark && same c h.key.channel)

-- unless it is being resumed
abbrev pub held_by : List ℕ → ℕ → Table → Option Htlc
held_by c n t = if list_any (is_resumed c n) t.queue then None else find (is_held_in c n) t.htlcs

abbrev pub resumed_of : Resumed → Queued
resumed_of r = record { channel = r.channel; event = r.event; mark = r.mark; resumes = true }

abbrev pub with_resumed : Resumed → Table → Table
with_resumed r t = record t { queue = t.queue ++ resumed_of r ∷ [] }

-- ---- a command that was handed out, and its answer

abbrev pub pending_command_of : Option PendingCommand → PendingCommand
pending_command_of None = pending_command.Idle
pending_command_of (Some d) = d

abbrev pub pending_command_at : List ℕ → Table → PendingCommand
pending_command_at c t = pending_command_of (lookup (same c) t.pending_commands)

abbrev pub with_pending_command : List ℕ → PendingCommand → Table → Table
with_pending_command c d t = record t { pending_commands = insert_entry same t.pending_commands c d }

abbrev pub with_htlcs : List Htlc → Table → Table
with_htlcs hs t = record t { htlcs = hs }

abbrev pub unqueued : List ℕ → ℕ → Table → Table
unqueued c n t = record t { queue = left_out (is_queued c n) t.queue }

abbrev pub decide : Htlc → Htlc
decide h = record h { decided = true }

abbrev pub put_outgoing : OutgoingLeg → Htlc → Htlc
put_outgoing w h = record h { outgoing = w }

abbrev pub put_incoming : IncomingLeg → Htlc → Htlc
put_incoming b h = record h { incoming = b }

abbrev pub with_outgoing : Key → OutgoingLeg → List Htlc → List Htlc
with_outgoing k w hs = changed_first (is_htlc k) (put_outgoing w) hs

abbrev pub with_incoming : Key → IncomingLeg → List Htlc → List Htlc
with_incoming k b hs = changed_first (is_htlc k) (put_incoming b) hs

-- nothing of it is left in another channel
abbrev pub has_no_outgoing : OutgoingLeg → Bool
has_no_outgoing outgoing.Absent = true
has_no_outgoing outgoing.Refused = true
has_no_outgoing (outgoing.Offered k) = false
has_no_outgoing (outgoing.Resolved k how) = false

abbrev pub is_settled : IncomingLeg → Bool
is_settled incoming.Open = false
is_settled incoming.RemovalSent = false
is_settled incoming.RemovalRefused = false
is_settled incoming.Settled = true

-- nothing is left to be done about it: it isn't held, as it may be resumed
abbrev pub is_over : Htlc → Bool
is_over h = is_settled h.incoming && (has_no_outgoing h.outgoing && not (is_held h.mark))

abbrev pub put_mark : Mark → Htlc → Htlc
put_mark m h = record h { mark = m }

-- what is held by this number gets the mark, and those about which nothing is left to be done go
abbrev pub with_mark : List ℕ → ℕ → Mark → List Htlc → List Htlc
with_mark c n m hs = left_out is_over (changed_first (is_held_in c n) (put_mark m) hs)

-- what is held is resumed by the decision that is queued
abbrev pub resumed_by : List ℕ → ℕ → Option Queued → List Htlc → List Htlc
resumed_by c n None hs = hs
resumed_by c n (Some q) hs = with_mark c n q.mark hs

-- one that the channel hasn't decided
abbrev pub is_undecided : List ℕ → ℕ → Htlc → Bool
is_undecided c n h = is_told c n h && not h.decided

-- the channel has taken a command: it has offered an HTLC of this id where it is told to offer one
abbrev pub taken_by : List ℕ → ℕ → Out → List Queued → List Htlc → List Htlc
taken_by c i (out.Deciding n) qs hs = changed_first (is_told c n) decide hs
taken_by c i (out.Adding k) qs hs = with_outgoing k (outgoing.Offered (record { channel = c; id = i })) hs
taken_by c i (out.Removing k) qs hs = with_incoming k incoming.RemovalSent hs
taken_by c i (out.Forgetting k) qs hs = left_out (is_htlc k) hs
taken_by c i (out.Resuming n) qs hs = resumed_by c n (find (is_resumed c n) qs) hs

-- it has refused it by this number: an add that is refused below 47 is failed
abbrev pub refused_by : List ℕ → ℕ → Out → List Htlc → List Htlc
refused_by c r (out.Deciding n) hs = left_out (is_undecided c n) hs
refused_by c r (out.Adding k) hs = if nat_lt r 47 then with_outgoing k outgoing.Refused hs else left_out (is_htlc k) hs
refused_by c r (out.Removing k) hs = with_incoming k incoming.RemovalRefused hs
refused_by c r (out.Forgetting k) hs = left_out (is_htlc k) hs
refused_by c r (out.Resuming n) hs = hs

-- a decision that was taken or refused leaves the queue
abbrev pub queue_behind : List ℕ → Out → List Queued → List Queued
queue_behind c (out.Deciding n) qs = left_out (is_queued c n) qs
queue_behind c (out.Adding k) qs = qs
queue_behind c (out.Removing k) qs = qs
queue_behind c (out.Forgetting k) qs = qs
queue_behind c (out.Resuming n) qs = without_first (is_resumed c n) qs

abbrev pub done : List ℕ → ℕ → Out → Table → Table
done c i o t = record t { queue = queue_behind c o t.queue; htlcs = taken_by c i o t.queue t.htlcs }

abbrev pub refused : List ℕ → ℕ → Out → Table → Table
refused c r o t = record t { queue = queue_behind c o t.queue; htlcs = refused_by c r o t.htlcs }

-- 60 and 61: whether it was taken isn't known
abbrev pub is_unsure : ℕ → Bool
is_unsure r = (r == 60) || (r == 61)

-- 47 and 62: the channel takes it another time
abbrev pub is_later : ℕ → Bool
is_later r = (r == 47) || (r == 62)

abbrev pub answered_out : List ℕ → Result ℕ ℕ → Out → Table → Table
answered_out c (Ok i) o t = done c i o (with_pending_command c pending_command.Idle t)
answered_out c (Err r) o t =
    if is_unsure r then with_pending_command c (pending_command.Unknown o) t
    else (if is_later r then with_pending_command c pending_command.Idle t else refused c r o
    (with_pending_command c pending_command.Idle t))

-- where nothing is out, nothing is answered
abbrev pub answered_at : List ℕ → Result ℕ ℕ → PendingCommand → Table → Table
answered_at c a pending_command.Idle t = t
answered_at c a (pending_command.InFlight o) t = answered_out c a o t
answered_at c a (pending_command.Unknown o) t = t

abbrev pub with_answer : List ℕ → Result ℕ ℕ → Table → Table
with_answer c a t = answered_at c a (pending_command_at c t) t

-- ---- what is irrevocably committed

abbrev pub with_resolved : Key → How → Table → Table
with_resolved k how t = with_htlcs (changed_first (is_offered k) (put_outgoing (outgoing.Resolved k how)) t.htlcs) t

abbrev pub has_nothing_offered : OutgoingLeg → Bool
has_nothing_offered outgoing.Absent = true
has_nothing_offered outgoing.Refused = false
has_nothing_offered (outgoing.Offered k) = false
has_nothing_offered (outgoing.Resolved k h) = false

abbrev pub is_open : IncomingLeg → Bool
is_open incoming.Open = true
is_open incoming.RemovalSent = false
is_open incoming.RemovalRefused = false
is_open incoming.Settled = false

abbrev pub is_finished : Key → Htlc → Bool
is_finished k h = is_htlc k h && is_over h

abbrev pub with_removed : Key → Table → Table
with_removed k t = with_htlcs (left_out (is_finished k) (with_incoming k incoming.Settled t.htlcs)) t

-- ---- a lost connection, or a load

-- a channel that has kept its HTLCs below this id has lost the outgoing HTLC
abbrev pub is_outgoing_lost : List ℕ → ℕ → OutgoingLeg → Bool
is_outgoing_lost c next outgoing.Absent = false
is_outgoing_lost c next outgoing.Refused = false
is_outgoing_lost c next (outgoing.Offered k) = same c k.channel && nat_le next k.id
is_outgoing_lost c next (outgoing.Resolved k how) = false

abbrev pub is_among : ℕ → List ℕ → Bool
is_among id ids = list_any (λ i. id == i) ids

-- and so a removal that it hasn't kept
abbrev pub incoming_kept : Bool → IncomingLeg → IncomingLeg
incoming_kept kept incoming.Open = incoming.Open
incoming_kept kept incoming.RemovalSent = if kept then incoming.RemovalSent else incoming.Open
incoming_kept kept incoming.RemovalRefused = incoming.RemovalRefused
incoming_kept kept incoming.Settled = incoming.Settled

abbrev pub htlc_kept : List ℕ → KeptState → Htlc → Htlc
htlc_kept c told h = record h {
  outgoing = if is_outgoing_lost c told.next h.outgoing then outgoing.Absent else h.outgoing;
  incoming = incoming_kept (not (same c h.key.channel) || is_among h.key.id told.removes) h.incoming;
}

-- what was out: a decision that was kept was taken, and whether a removal was kept is told as of any other
abbrev pub kept_out : List ℕ → Bool → Out → Table → Table
kept_out c decides (out.Deciding n) t = if decides then done c 0 (out.Deciding n) t else t
kept_out c decides (out.Adding k) t = t
kept_out c decides (out.Removing k) t = with_htlcs (with_incoming k incoming.RemovalSent t.htlcs) t
kept_out c decides (out.Forgetting k) t = t
kept_out c decides (out.Resuming n) t = if decides then done c 0 (out.Resuming n) t else t

abbrev pub kept_at : List ℕ → Bool → PendingCommand → Table → Table
kept_at c decides pending_command.Idle t = t
kept_at c decides (pending_command.InFlight o) t = kept_out c decides o (with_pending_command c pending_command.Idle t)
kept_at c decides (pending_command.Unknown o) t = kept_out c decides o (with_pending_command c pending_command.Idle t)

abbrev pub put_back_all : List ℕ → KeptState → Table → Table
put_back_all c told t = with_htlcs (map (htlc_kept c told) t.htlcs) t

abbrev pub with_dropped : List ℕ → KeptState → Table → Table
with_dropped c told t = put_back_all c told (kept_at c told.decides (pending_command_at c t) t)

-- ---- the replay

abbrev pub after : Table → Entry → Table
after t (entry.Route id l) = with_route id l t
after t (entry.Use c u) = with_use c u t
after t (entry.Height h) = with_height h t
after t (entry.Expect i) = with_invoice i t
after t (entry.Decided d) = with_decided d t
after t (entry.Resumed r) = with_resumed r t
after t (entry.Taken c o) = with_pending_command c (pending_command.InFlight o) t
after t (entry.Answered c a) = with_answer c a t
after t (entry.Resolved k how) = with_resolved k how t
after t (entry.Removed k) = with_removed k t
after t (entry.Dropped c told) = with_dropped c told t

-- what these entries make of a table, one after the other
abbrev pub replay : Table → List Entry → Table
replay start es = fold after start es

-- what a history says
abbrev pub table_of : History Table Entry → Table
table_of h = replay h.start h.entries
