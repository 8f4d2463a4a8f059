-- What each HTLC of a book has to be commanded, and the first command that can be taken.
use Rattle.std.specs.Prelude.{ℕ, List, [], ◌∷◌, ◌++◌, Bool, false, not, ◌&&◌, Option, Some, None}
use Rattle.std.specs.Prelude.{Result, Ok, Err, if◌then◌else◌, Box}
use Rattle.std.specs.List.{find}
use Rattle.sha2.specs.Sha256.{sha256}
use Rattle.ln_bytes.specs.Endian.{big_bytes}
use Rattle.ln_keys.specs.Services.{Services}
use Rattle.ln_keys.specs.declared.onion.Opened.{Opened}
use Rattle.ln_keys.specs.declared.onion.OpenFault.{OpenFault}
use Rattle.ln_log.specs.declared.mark.Mark.{Mark}
use Rattle.ln_log.specs.declared.mark.Mark.TheVariants as mark
use Rattle.ln_hooks.specs.declared.event.How.{How}
use Rattle.ln_hooks.specs.declared.event.How.TheVariants as how
use Rattle.ln_forward.specs.declared.failure.Failure.{Failure}
use Rattle.ln_forward.specs.declared.failure.Failure.TheVariants as failure
use Rattle.ln_forward.specs.Failure.{failure_bytes}
use Rattle.ln_channel.specs.declared.command.Command.{Command}
use Rattle.ln_channel.specs.declared.command.Command.TheVariants as command
use Rattle.ln_book_tables.specs.declared.htlc.OutgoingLeg.{OutgoingLeg}
use Rattle.ln_book_tables.specs.declared.htlc.OutgoingLeg.TheVariants as outgoing
use Rattle.ln_book_tables.specs.declared.htlc.Htlc.{Htlc}
use Rattle.ln_book_tables.specs.declared.htlc.Offer.{Offer}
use Rattle.ln_book_tables.specs.declared.entry.Queued.{Queued}
use Rattle.ln_book_tables.specs.declared.entry.Out.{Out}
use Rattle.ln_book_tables.specs.declared.entry.Out.TheVariants as out
use Rattle.ln_book_tables.specs.declared.entry.PendingCommand.{PendingCommand}
use Rattle.ln_book_tables.specs.declared.entry.PendingCommand.TheVariants as pending_command
use Rattle.ln_book_tables.specs.declared.entry.Entry.{Entry}
use Rattle.ln_book_tables.specs.declared.entry.Entry.TheVariants as entry
use Rattle.ln_history.specs.History.{History, with_entry}
use Rattle.ln_book_tables.specs.Replay.{Table, same, pending_command_at, is_open, is_settled, has_nothing_offered}
use Rattle.ln_book_tables.specs.Due.{has_removal}

-- a failure of the node's own, as it goes back to who offered the HTLC (BOLT 4, "Returning Errors")
abbrev pub own_failure : Services → Offer → Failure → List ℕ
own_failure s o f = s.wrapped o.onion o.hash (failure_bytes f)

-- ---- what an HTLC is due

-- what has become of it in this channel is known
abbrev pub is_resolved_in : List ℕ → OutgoingLeg → Bool
is_resolved_in c outgoing.Absent = false
is_resolved_in c outgoing.Refused = false
is_resolved_in c (outgoing.Offered k) = false
is_resolved_in c (outgoing.Resolved k h) = same c k.channel

abbrev pub forwards_in : List ℕ → Mark → Bool
forwards_in c mark.None = false
forwards_in c (mark.Forward d amount expiry) = same c d
forwards_in c (mark.Fail reason) = false
forwards_in c (mark.Malformed code) = false
forwards_in c (mark.Fulfil preimage) = false
forwards_in c (mark.Held event) = false

-- what it is due in this channel, once it is decided: what became of the outgoing HTLC is forgotten when the incoming
-- one is settled, and not before
abbrev pub due : List ℕ → Htlc → Option Out
due c h =
    if not h.decided then None
    else (if is_settled h.incoming then (if is_resolved_in c h.outgoing then Some (out.Forgetting h.key) else None)
    else (if has_nothing_offered h.outgoing && forwards_in c h.mark then Some (out.Adding h.key)
    else (if has_removal h.mark h.outgoing && (is_open h.incoming && same c h.key.channel) then Some
    (out.Removing h.key)
    else None)))

-- ---- its command

abbrev pub next_of : Result Opened OpenFault → Option (List ℕ)
next_of (Ok o) = o.next
next_of (Err f) = None

-- the onion goes on as its next one: where there is none, no HTLC is offered
abbrev pub add_with : Htlc → Mark → Option (List ℕ) → Option Command
add_with h m None = None
add_with h mark.None (Some onion) = None
add_with h (mark.Forward d amount expiry) (Some onion) =
    Some (command.Add amount h.offer.hash expiry onion (Some (h.key.channel, h.key.id)))
add_with h (mark.Fail reason) (Some onion) = None
add_with h (mark.Malformed code) (Some onion) = None
add_with h (mark.Fulfil preimage) (Some onion) = None
add_with h (mark.Held event) (Some onion) = None

abbrev pub add_of : Services → Htlc → Option Command
add_of s h = add_with h h.mark (next_of (s.opened h.offer.onion h.offer.hash))

-- a failure that says why its onion couldn't be read is passed on with the hash of that onion
abbrev pub malformed_bytes : List ℕ → ℕ → List ℕ
malformed_bytes sha code = big_bytes 2 code ++ sha

-- what has become of the outgoing HTLC is passed back
abbrev pub removal_resolved : Services → Htlc → How → Command
removal_resolved s h (how.Fulfilled preimage) = command.Fulfil h.key.id preimage
removal_resolved s h (how.Failed reason) = command.Fail h.key.id (s.wrapped_again h.offer.onion h.offer.hash reason)
removal_resolved s h (how.Malformed sha code) =
    command.Fail h.key.id (s.wrapped h.offer.onion h.offer.hash (malformed_bytes sha code))

-- one that its channel has refused fails by temporary_channel_failure, 0x1007
abbrev pub removal_by_outgoing : Services → Htlc → OutgoingLeg → Option Command
removal_by_outgoing s h outgoing.Absent = None
removal_by_outgoing s h outgoing.Refused =
    Some (command.Fail h.key.id (own_failure s h.offer failure.TemporaryChannelFailure))
removal_by_outgoing s h (outgoing.Offered k) = None
removal_by_outgoing s h (outgoing.Resolved k w) = Some (removal_resolved s h w)

abbrev pub removal_by : Services → Htlc → Mark → Option Command
removal_by s h mark.None = None
removal_by s h (mark.Forward d amount expiry) = removal_by_outgoing s h h.outgoing
removal_by s h (mark.Fail reason) = Some (command.Fail h.key.id reason)
removal_by s h (mark.Malformed code) = Some (command.Malformed h.key.id (sha256 h.offer.onion) code)
removal_by s h (mark.Fulfil preimage) = Some (command.Fulfil h.key.id preimage)
removal_by s h (mark.Held event) = None

abbrev pub forget_by : OutgoingLeg → Option Command
forget_by outgoing.Absent = None
forget_by outgoing.Refused = None
forget_by (outgoing.Offered k) = None
forget_by (outgoing.Resolved k h) = Some (command.Forget k.id)

abbrev pub command_of : Services → Htlc → Out → Option Command
command_of s h (out.Deciding n) = None
command_of s h (out.Adding k) = add_of s h
command_of s h (out.Removing k) = removal_by s h h.mark
command_of s h (out.Forgetting k) = forget_by h.outgoing
command_of s h (out.Resuming n) = None

abbrev pub with_out : Out → Option Command → Option (Out × Command)
with_out o None = None
with_out o (Some x) = Some (o, x)

abbrev pub command_by : Services → Htlc → Option Out → Option (Out × Command)
command_by s h None = None
command_by s h (Some o) = with_out o (command_of s h o)

abbrev pub or_next : Option (Out × Command) → Option (Out × Command) → Option (Out × Command)
or_next None y = y
or_next (Some x) y = Some x

-- what is due, with its command as such
abbrev pub unboxed : {A : Type 0} → Out × Box Command A → Out × Command
unboxed x = (x.0, x.1.value)

-- ---- the first command that can be taken

-- that of the first HTLC, in order of deciding, that has one
abbrev pub first_due : Services → List ℕ → List Htlc → Option (Out × Command)
first_due s c [] = None
first_due s c (h ∷ hs) = or_next (command_by s h (due c h)) (first_due s c hs)

abbrev pub is_queued_in : List ℕ → Queued → Bool
is_queued_in c q = same c q.channel

-- a decision that is to be taken
abbrev pub queued_command : Queued → Out × Command
queued_command q =
    if q.resumes then (out.Resuming q.event, command.Resume q.event q.mark)
    else (out.Deciding q.event, command.Decide q.event q.mark)

-- a decision goes before all others
abbrev pub first_of : Services → List ℕ → Option Queued → List Htlc → Option (Out × Command)
first_of s c (Some q) hs = Some (queued_command q)
first_of s c None hs = first_due s c hs

-- none while one is out
abbrev pub first_at : Services → List ℕ → PendingCommand → Table → Option (Out × Command)
first_at s c pending_command.Idle t = first_of s c (find (is_queued_in c) t.queue) t.htlcs
first_at s c (pending_command.InFlight o) t = None
first_at s c (pending_command.Unknown o) t = None

abbrev pub first_command : Services → List ℕ → Table → Option (Out × Command)
first_command s c t = first_at s c (pending_command_at c t) t

-- ---- what is entered

-- what was taken
abbrev pub with_taken : List ℕ → Option (Out × Command) → History Table Entry → History Table Entry
with_taken c None h = h
with_taken c (Some x) h = with_entry (entry.Taken c (x.0)) h

-- the answer of a command that is out; nothing where none is
abbrev pub with_answered : List ℕ → Result ℕ ℕ → PendingCommand → History Table Entry → History Table Entry
with_answered c a pending_command.Idle h = h
with_answered c a (pending_command.InFlight o) h = with_entry (entry.Answered c a) h
with_answered c a (pending_command.Unknown o) h = h
