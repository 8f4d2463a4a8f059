-- Worked rows: what a book says of one payment that is forwarded from channel a to channel b, entry by entry, and what
-- each channel is commanded then.
use Rattle.std.proofs.Common.{◌≡◌, ℕ, List, [], ◌∷◌, Bool, true, false, Some, None, Ok, Err, refl}
use Rattle.ln_log.specs.declared.mark.Decision.{Decision}
use Rattle.ln_log.specs.declared.mark.Mark.TheVariants as mark
use Rattle.ln_log.specs.declared.mark.Settlement.{Settlement}
use Rattle.ln_log.specs.declared.update.Add.{Add}
use Rattle.ln_log.specs.declared.update.Update.{Update}
use Rattle.ln_log.specs.declared.update.Update.TheVariants as update
use Rattle.ln_log.specs.Log.{Log, none}
use Rattle.ln_hooks.specs.declared.event.How.TheVariants as how
use Rattle.ln_hooks.specs.declared.verdict.FailureCode.TheVariants as code
use Rattle.ln_hooks.specs.declared.verdict.Verdict.TheVariants as verdict
use Rattle.ln_channel.specs.declared.command.Command.TheVariants as command
use Rattle.ln_forward.specs.declared.failure.Failure.TheVariants as failure
use Rattle.ln_forward.specs.Failure.{failure_bytes}
use Rattle.ln_book_tables.specs.declared.htlc.Key.{Key}
use Rattle.ln_book_tables.specs.declared.htlc.Offer.{Offer}
use Rattle.ln_book_tables.specs.declared.htlc.OutgoingLeg.{OutgoingLeg}
use Rattle.ln_book_tables.specs.declared.htlc.OutgoingLeg.TheVariants as outgoing
use Rattle.ln_book_tables.specs.declared.htlc.IncomingLeg.{IncomingLeg}
use Rattle.ln_book_tables.specs.declared.htlc.IncomingLeg.TheVariants as incoming
use Rattle.ln_book_tables.specs.declared.htlc.Htlc.{Htlc}
use Rattle.ln_book_tables.specs.declared.entry.Queued.{Queued}
use Rattle.ln_book_tables.specs.declared.entry.Decided.{Decided}
use Rattle.ln_book_tables.specs.declared.entry.Resumed.{Resumed}
use Rattle.ln_book_tables.specs.declared.entry.Out.TheVariants as out
use Rattle.ln_book_tables.specs.declared.entry.PendingCommand.{PendingCommand}
use Rattle.ln_book_tables.specs.declared.entry.PendingCommand.TheVariants as pending_command
use Rattle.ln_book_tables.specs.declared.entry.Entry.TheVariants as entry
use Rattle.ln_book.specs.declared.recovery.leg.Leg.{Leg}
use Rattle.ln_book_tables.specs.Replay.{Table, no_table, queued_of, resumed_of, after}
use Rattle.ln_book_tables.specs.Held.{all_held}
use Rattle.ln_book.specs.Kept.{own_updates, has_own_removal}
use Rattle.ln_book.specs.Rebuild.{ChannelSnapshot, no_event, legs_offered, legs_resolved, decided_in}
use Rattle.ln_book.specs.Rebuild.{htlc_left, rebuilt}
use Rattle.ln_book.specs.Rebuild.{rebuilt_htlcs}
use Rattle.ln_keys.specs.Services.{Services}
use Rattle.ln_book.specs.Commands.{first_command}
use Rattle.ln_book.specs.Marks.{resumption}

abbrev a : List ℕ
a = 10 ∷ []

abbrev b : List ℕ
b = 11 ∷ []

-- what came in, and what goes out for it
abbrev came : Key
came = record { channel = a; id = 5 }

abbrev went : Key
went = record { channel = b; id = 8 }

abbrev offer : Offer
offer = record { id = 5; amount = 1000; hash = 7 ∷ []; expiry = 400; onion = 1 ∷ [] }

abbrev decided : Decided
decided = record { channel = a; event = 3; offer = Some offer; mark = mark.Forward b 900 350 }

-- every onion has a next one, and a failure goes back as it is
abbrev service : Services
service = record {
  opened = λ onion hash. Ok (record { payload = []; next = Some (2 ∷ []) });
  wrapped = λ onion hash failure. failure;
  wrapped_again = λ onion hash reason. reason;
}

abbrev htlc : Bool → OutgoingLeg → IncomingLeg → Htlc
htlc d w k = record {
  key = came;
  event = 3;
  offer = offer;
  mark = mark.Forward b 900 350;
  decided = d;
  outgoing = w;
  incoming = k;
}

abbrev table : List Queued → List Htlc → PendingCommand → PendingCommand → Table
table qs hs x y = record {
  routes = [];
  used = [];
  height = 0;
  expected = [];
  queue = qs;
  htlcs = hs;
  pending_commands = (a, x) ∷ (b, y) ∷ [];
}

abbrev idle : List Queued → List Htlc → Table
idle qs hs = table qs hs pending_command.Idle pending_command.Idle

-- ---- one that is fulfilled

-- nothing is commanded of it but its decision, until channel a has taken that
decided_first : first_command service a (idle (queued_of decided ∷ []) (htlc false outgoing.Absent incoming.Open ∷ []))
    ≡ Some (out.Deciding 3, command.Decide 3 (mark.Forward b 900 350))
decided_first = refl

not_yet_offered : first_command service b (idle (queued_of decided ∷ [])
    (htlc false outgoing.Absent incoming.Open ∷ []))
    ≡ None
not_yet_offered = refl

is_queued : after (idle [] []) (entry.Decided decided)
    ≡ idle (queued_of decided ∷ []) (htlc false outgoing.Absent incoming.Open ∷ [])
is_queued = refl

decision_is_out : after (idle (queued_of decided ∷ []) (htlc false outgoing.Absent incoming.Open ∷ []))
    (entry.Taken a (out.Deciding 3))
    ≡ table (queued_of decided ∷ []) (htlc false outgoing.Absent incoming.Open ∷ []) (pending_command.InFlight
    (out.Deciding 3)) pending_command.Idle
decision_is_out = refl

is_decided : after (table (queued_of decided ∷ []) (htlc false outgoing.Absent incoming.Open ∷ [])
    (pending_command.InFlight (out.Deciding 3)) pending_command.Idle) (entry.Answered a (Ok 3))
    ≡ idle [] (htlc true outgoing.Absent incoming.Open ∷ [])
is_decided = refl

-- it is offered in channel b
offered_then : first_command service b (idle [] (htlc true outgoing.Absent incoming.Open ∷ []))
    ≡ Some (out.Adding came, command.Add 900 (7 ∷ []) 350 (2 ∷ []) (Some (a, 5)))
offered_then = refl

is_offered : after (table [] (htlc true outgoing.Absent incoming.Open ∷ []) pending_command.Idle
    (pending_command.InFlight (out.Adding came)))
    (entry.Answered b (Ok 8)) ≡ idle [] (htlc true (outgoing.Offered went) incoming.Open ∷ [])
is_offered = refl

none_waits : first_command service a (idle [] (htlc true (outgoing.Offered went) incoming.Open ∷ [])) ≡ None
none_waits = refl

is_fulfilled : after (idle [] (htlc true (outgoing.Offered went) incoming.Open ∷ [])) (entry.Resolved went
    (how.Fulfilled (9 ∷ [])))
    ≡ idle [] (htlc true (outgoing.Resolved went (how.Fulfilled (9 ∷ []))) incoming.Open ∷ [])
is_fulfilled = refl

-- that is passed back
passed_back : first_command service a (idle [] (htlc true (outgoing.Resolved went (how.Fulfilled
    (9 ∷ []))) incoming.Open ∷ []))
    ≡ Some (out.Removing came, command.Fulfil 5 (9 ∷ []))
passed_back = refl

is_sent : after (table [] (htlc true (outgoing.Resolved went (how.Fulfilled (9 ∷ []))) incoming.Open ∷ [])
    (pending_command.InFlight (out.Removing came)) pending_command.Idle) (entry.Answered a (Ok 5))
    ≡ idle [] (htlc true (outgoing.Resolved went (how.Fulfilled (9 ∷ []))) incoming.RemovalSent ∷ [])
is_sent = refl

-- what became of it isn't forgotten before the removal is irrevocably committed
not_forgotten_yet : first_command service b
    (idle [] (htlc true (outgoing.Resolved went (how.Fulfilled (9 ∷ []))) incoming.RemovalSent ∷ []))
    ≡ None
not_forgotten_yet = refl

is_settled : after (idle [] (htlc true (outgoing.Resolved went (how.Fulfilled (9 ∷ []))) incoming.RemovalSent ∷ []))
    (entry.Removed came)
    ≡ idle [] (htlc true (outgoing.Resolved went (how.Fulfilled (9 ∷ []))) incoming.Settled ∷ [])
is_settled = refl

forgotten_then : first_command service b
    (idle [] (htlc true (outgoing.Resolved went (how.Fulfilled (9 ∷ []))) incoming.Settled ∷ []))
    ≡ Some (out.Forgetting came, command.Forget 8)
forgotten_then = refl

is_gone : after (table [] (htlc true (outgoing.Resolved went (how.Fulfilled
    (9 ∷ []))) incoming.Settled ∷ []) pending_command.Idle
    (pending_command.InFlight (out.Forgetting came))) (entry.Answered b (Ok 8)) ≡ idle [] []
is_gone = refl

-- ---- one that channel b refuses: by 43 it is failed, by 47 it stays, and by 60 nothing can be taken

is_refused : after (table [] (htlc true outgoing.Absent incoming.Open ∷ []) pending_command.Idle
    (pending_command.InFlight (out.Adding came)))
    (entry.Answered b (Err 43)) ≡ idle [] (htlc true outgoing.Refused incoming.Open ∷ [])
is_refused = refl

fails_then : first_command service a (idle [] (htlc true outgoing.Refused incoming.Open ∷ []))
    ≡ Some (out.Removing came, command.Fail 5 (failure_bytes failure.TemporaryChannelFailure))
fails_then = refl

goes_when_settled : after (idle [] (htlc true outgoing.Refused incoming.RemovalSent ∷ []))
    (entry.Removed came) ≡ idle [] []
goes_when_settled = refl

stays : after (table [] (htlc true outgoing.Absent incoming.Open ∷ []) pending_command.Idle (pending_command.InFlight
    (out.Adding came)))
    (entry.Answered b (Err 47)) ≡ idle [] (htlc true outgoing.Absent incoming.Open ∷ [])
stays = refl

is_unsure : after (table [] (htlc true outgoing.Absent incoming.Open ∷ []) pending_command.Idle
    (pending_command.InFlight (out.Adding came)))
    (entry.Answered b (Err 60))
    ≡ table [] (htlc true outgoing.Absent incoming.Open ∷ []) pending_command.Idle (pending_command.Unknown
    (out.Adding came))
is_unsure = refl

nothing_then : first_command service b
    (table [] (htlc true outgoing.Absent incoming.Open ∷ []) pending_command.Idle (pending_command.Unknown
    (out.Adding came))) ≡ None
nothing_then = refl

-- ---- a lost connection of channel b, which has kept its HTLCs below 8, and not this one

is_put_back : after (idle [] (htlc true (outgoing.Offered went) incoming.Open ∷ []))
    (entry.Dropped b (record { next = 8; removes = []; decides = false }))
    ≡ idle [] (htlc true outgoing.Absent incoming.Open ∷ [])
is_put_back = refl

is_kept : after (idle [] (htlc true (outgoing.Offered went) incoming.Open ∷ []))
    (entry.Dropped b (record { next = 9; removes = []; decides = false }))
    ≡ idle [] (htlc true (outgoing.Offered went) incoming.Open ∷ [])
is_kept = refl

-- of two it has kept one, and only the other one is put back
abbrev other : OutgoingLeg → Htlc
other w = record {
  key = record { channel = a; id = 4 };
  event = 2;
  offer = offer;
  mark = mark.Forward b 900 350;
  decided = true;
  outgoing = w;
  incoming = incoming.Open;
}

one_is_put_back : after (idle [] (other (outgoing.Offered (record { channel = b; id = 7 }))
    ∷ htlc true (outgoing.Offered went) incoming.Open ∷ []))
    (entry.Dropped b (record { next = 8; removes = []; decides = false }))
    ≡ idle [] (other (outgoing.Offered (record { channel = b; id = 7 })) ∷ htlc true outgoing.Absent incoming.Open ∷ [])
one_is_put_back = refl

-- a removal that channel a hasn't kept is sent again, and one that it has kept isn't
removal_is_put_back : after (idle [] (htlc true outgoing.Refused incoming.RemovalSent ∷ []))
    (entry.Dropped a (record { next = 0; removes = []; decides = false }))
    ≡ idle [] (htlc true outgoing.Refused incoming.Open ∷ [])
removal_is_put_back = refl

removal_is_kept : after (table [] (htlc true outgoing.Refused incoming.Open ∷ []) (pending_command.Unknown
    (out.Removing came)) pending_command.Idle)
    (entry.Dropped a (record { next = 0; removes = 5 ∷ []; decides = false }))
    ≡ idle [] (htlc true outgoing.Refused incoming.RemovalSent ∷ [])
removal_is_kept = refl

-- ---- one that is decided again stays as it is

decided_again : after (idle [] (htlc true (outgoing.Offered went) incoming.Open ∷ [])) (entry.Decided decided)
    ≡ idle (queued_of decided ∷ []) (htlc true (outgoing.Offered went) incoming.Open ∷ [])
decided_again = refl

-- ---- one that a hook holds, and that is resumed

abbrev as_held : Bool → IncomingLeg → Htlc
as_held d k = record {
  key = came;
  event = 3;
  offer = offer;
  mark = mark.Held 3;
  decided = d;
  outgoing = outgoing.Absent;
  incoming = k;
}

abbrev holding : Decided
holding = record { channel = a; event = 3; offer = Some offer; mark = mark.Held 3 }

held_first : first_command service a (idle (queued_of holding ∷ []) (as_held false incoming.Open ∷ []))
    ≡ Some (out.Deciding 3, command.Decide 3 (mark.Held 3))
held_first = refl

-- then nothing is commanded of it
waits_held : first_command service a (idle [] (as_held true incoming.Open ∷ [])) ≡ None
waits_held = refl

held_is_not_offered : first_command service b (idle [] (as_held true incoming.Open ∷ [])) ≡ None
held_is_not_offered = refl

is_listed : all_held (idle [] (as_held true incoming.Open ∷ []))
    ≡ record { channel = a; number = 3; id = 5; amount = 1000; hash = 7 ∷ []; expiry = 400 } ∷ []
is_listed = refl

is_not_listed_yet : all_held (idle (queued_of holding ∷ []) (as_held false incoming.Open ∷ [])) ≡ []
is_not_listed_yet = refl

-- it is resumed once
abbrev resumed : Resumed
resumed = record { channel = a; event = 3; mark = mark.Forward b 900 350 }

abbrev resuming : IncomingLeg → PendingCommand → Table
resuming k x = table (resumed_of resumed ∷ []) (as_held true k ∷ []) x pending_command.Idle

is_being_resumed : after (idle [] (as_held true incoming.Open ∷ [])) (entry.Resumed resumed)
    ≡ resuming incoming.Open pending_command.Idle
is_being_resumed = refl

resumed_next : first_command service a (resuming incoming.Open pending_command.Idle)
    ≡ Some (out.Resuming 3, command.Resume 3 (mark.Forward b 900 350))
resumed_next = refl

no_second_time : resumption service (resuming incoming.Open pending_command.Idle) a 3 verdict.Continue ≡ None
no_second_time = refl

is_listed_no_more : all_held (resuming incoming.Open pending_command.Idle) ≡ []
is_listed_no_more = refl

held_no_more : after (resuming incoming.Open (pending_command.InFlight (out.Resuming 3))) (entry.Answered a (Ok 3))
    ≡ idle [] (htlc true outgoing.Absent incoming.Open ∷ [])
held_no_more = refl

resume_refused : after (resuming incoming.Open (pending_command.InFlight (out.Resuming 3))) (entry.Answered a (Err 40))
    ≡ idle [] (as_held true incoming.Open ∷ [])
resume_refused = refl

-- by the record after a lost connection
resume_lost : after (resuming incoming.Open (pending_command.Unknown (out.Resuming 3)))
    (entry.Dropped a (record { next = 0; removes = []; decides = false })) ≡ resuming incoming.Open pending_command.Idle
resume_lost = refl

resume_kept : after (resuming incoming.Open (pending_command.Unknown (out.Resuming 3)))
    (entry.Dropped a (record { next = 0; removes = []; decides = true }))
    ≡ idle [] (htlc true outgoing.Absent incoming.Open ∷ [])
resume_kept = refl

-- one that was removed by hand meanwhile stays until it is resumed
stays_held : after (idle [] (as_held true incoming.RemovalSent ∷ [])) (entry.Removed came)
    ≡ idle [] (as_held true incoming.Settled ∷ [])
stays_held = refl

goes_when_resumed : after (resuming incoming.Settled (pending_command.InFlight (out.Resuming 3))) (entry.Answered a
    (Ok 3)) ≡ idle [] []
goes_when_resumed = refl

-- nothing is to be resumed by another number, in another channel, or by holding it again
no_other_number : resumption service (idle [] (as_held true incoming.Open ∷ [])) a 4 verdict.Continue ≡ None
no_other_number = refl

no_other_channel : resumption service (idle [] (as_held true incoming.Open ∷ [])) b 3 verdict.Continue ≡ None
no_other_channel = refl

no_hold_again : resumption service (idle [] (as_held true incoming.Open ∷ [])) a 3 verdict.Hold ≡ None
no_hold_again = refl

fails_by_a_code : resumption service (idle [] (as_held true incoming.Open ∷ [])) a 3
    (verdict.Fail code.TemporaryChannelFailure)
    ≡ Some (mark.Fail (failure_bytes failure.TemporaryChannelFailure))
fails_by_a_code = refl

-- ---- a restart: what channel a has decided, and what channel b has of the HTLC that went out

abbrev from_a : List Htlc → ChannelSnapshot
from_a hs = record { offered = []; results = []; decided = hs }

abbrev from_b : List Leg → List Leg → ChannelSnapshot
from_b adds results = record { offered = adds; results = results; decided = [] }

abbrev leg : OutgoingLeg → Leg
leg w = record { origin = came; outgoing = w }

-- it goes where the add does; and where there is none it is offered
goes_with_its_add : rebuilt_htlcs (from_a (htlc true outgoing.Absent incoming.Open ∷ [])
    ∷ from_b (leg (outgoing.Offered went) ∷ []) [] ∷ []) ≡ htlc true (outgoing.Offered went) incoming.Open ∷ []
goes_with_its_add = refl

is_offered_still : rebuilt_htlcs (from_a (htlc true outgoing.Absent incoming.Open ∷ []) ∷ from_b [] [] ∷ [])
    ≡ htlc true outgoing.Absent incoming.Open ∷ []
is_offered_still = refl

-- a result goes before its add
goes_with_its_result : rebuilt_htlcs (from_b (leg (outgoing.Offered went) ∷ []) (leg (outgoing.Resolved went
    (how.Failed [])) ∷ [])
    ∷ from_a (htlc true outgoing.Absent incoming.RemovalSent ∷ []) ∷ [])
    ≡ htlc true (outgoing.Resolved went (how.Failed [])) incoming.RemovalSent ∷ []
goes_with_its_result = refl

-- what is failed already isn't offered again
is_refused_still : rebuilt_htlcs (from_a (htlc true outgoing.Absent incoming.RemovalSent ∷ []) ∷ from_b [] [] ∷ [])
    ≡ htlc true outgoing.Refused incoming.RemovalSent ∷ []
is_refused_still = refl

-- what is removed for good is left out, but not before its result is forgotten
is_left_out : rebuilt_htlcs (from_a (htlc true outgoing.Absent incoming.Settled ∷ []) ∷ from_b [] [] ∷ []) ≡ []
is_left_out = refl

is_yet_to_forget : rebuilt_htlcs (from_a (htlc true outgoing.Absent incoming.Settled ∷ [])
    ∷ from_b [] (leg (outgoing.Resolved went (how.Failed [])) ∷ []) ∷ [])
    ≡ htlc true (outgoing.Resolved went (how.Failed [])) incoming.Settled ∷ []
is_yet_to_forget = refl

-- so is a result whose decision is gone, and it is forgotten next
is_there_to_forget : rebuilt_htlcs (from_a [] ∷ from_b [] (leg (outgoing.Resolved went (how.Failed [])) ∷ []) ∷ [])
    ≡ htlc_left (leg (outgoing.Resolved went (how.Failed []))) ∷ []
is_there_to_forget = refl

is_forgotten_next : first_command service b (idle [] (htlc_left (leg (outgoing.Resolved went (how.Failed []))) ∷ []))
    ≡ Some (out.Forgetting came, command.Forget 8)
is_forgotten_next = refl

-- nothing is queued, and nothing is out
begins_empty : rebuilt (table (queued_of decided ∷ []) (htlc false outgoing.Absent incoming.Open ∷ [])
    (pending_command.InFlight (out.Deciding 3)) pending_command.Idle) [] ≡ no_table
begins_empty = refl

-- what is read of channel a: the HTLC as it came, and how far its removal is
abbrev taken : Add
taken = record { id = 5; amount = 1000; hash = 7 ∷ []; expiry = 400; onion = 1 ∷ []; origin = None }

abbrev lists : List Update → ℕ → Log → Log
lists own held l = record l {
  own = own;
  received = update.Add taken ∷ [];
  first = none;
  current = record { own = held; peer = 1 };
}

abbrev made : List Decision
made = record { id = 5; mark = mark.Forward b 900 350 } ∷ []

abbrev removal : List Update
removal = update.Fail (record { id = 5; reason = [] }) ∷ []

abbrev read : IncomingLeg → Htlc
read k = record {
  key = came;
  event = no_event;
  offer = offer;
  mark = mark.Forward b 900 350;
  decided = true;
  outgoing = outgoing.Absent;
  incoming = k;
}

reads_none : (l : Log) → decided_in a (lists [] 0 l) made ≡ read incoming.Open ∷ []
reads_none l = refl

reads_an_unheld_one : (l : Log) → decided_in a (lists removal 0 l) made ≡ read incoming.RemovalSent ∷ []
reads_an_unheld_one l = refl

reads_a_held_one : (l : Log) → decided_in a (lists removal 1 l) made ≡ read incoming.Settled ∷ []
reads_a_held_one l = refl

-- the same where the HTLC is live in the base; one whose removal is there is read no more, but the removal was kept
abbrev behind : ℕ → Log → Log
behind own l = record l { first = record { own = own; peer = 1 } }

reads_a_live_one : (l : Log) → decided_in a (behind 0 (lists [] 0 l)) made ≡ read incoming.Open ∷ []
reads_a_live_one l = refl

reads_an_unheld_one_behind : (l : Log)
    → decided_in a (behind 0 (lists removal 0 l)) made ≡ read incoming.RemovalSent ∷ []
reads_an_unheld_one_behind l = refl

reads_a_held_one_behind : (l : Log) → decided_in a (behind 0 (lists removal 1 l)) made ≡ read incoming.Settled ∷ []
reads_a_held_one_behind l = refl

reads_no_gone_one : (l : Log) → decided_in a (behind 1 (lists removal 1 l)) made ≡ []
reads_no_gone_one l = refl

keeps_its_removal : (l : Log) → has_own_removal 0 (behind 1 (record l {
  own = update.Fail (record { id = 0; reason = [] }) ∷ [];
  received = update.Add (record taken { id = 0 }) ∷ [];
})) ≡ true
keeps_its_removal l = refl

-- what is read of channel b: the adds that forward others, and their results
abbrev gone_out : Add
gone_out = record { id = 8; amount = 900; hash = 7 ∷ []; expiry = 350; onion = 2 ∷ []; origin = Some (a, 5) }

reads_what_forwards : legs_offered b (update.Add taken ∷ update.Add gone_out ∷ []) ≡ leg (outgoing.Offered went) ∷ []
reads_what_forwards = refl

-- also of one that is live in the base
reads_a_live_one_that_forwards : (l : Log) → legs_offered b (own_updates (record l {
  own = update.Add gone_out ∷ [];
  received = [];
  first = record { own = 1; peer = 0 };
})) ≡ leg (outgoing.Offered went) ∷ []
reads_a_live_one_that_forwards l = refl

abbrev result : Settlement
result = record { id = 8; origin = (a, 5); removal = update.Fail (record { id = 8; reason = 9 ∷ [] }) }

reads_results : legs_resolved b (result ∷ []) ≡ leg (outgoing.Resolved went (how.Failed (9 ∷ []))) ∷ []
reads_results = refl
