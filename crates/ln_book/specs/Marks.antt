-- What is done about an event: of a peer's HTLC by the verdict of the hooks and, where they say nothing against it, by
-- its onion (BOLT 4, "Accepting and Forwarding a Payment").
use Rattle.std.specs.Prelude.{ℕ, List, Bool, true, false, Option, Some, None, is_none, Result, Ok, Err}
use Rattle.std.specs.Prelude.{if◌then◌else◌}
use Rattle.std.specs.Map.{lookup}
use Rattle.ln_bytes.specs.declared.fault.Fault.{Fault}
use Rattle.ln_keys.specs.declared.onion.Opened.{Opened}
use Rattle.ln_keys.specs.declared.onion.OpenFault.{OpenFault}
use Rattle.ln_keys.specs.declared.onion.OpenFault.TheVariants as open_fault
use Rattle.ln_log.specs.declared.mark.Mark.{Mark}
use Rattle.ln_log.specs.declared.mark.Mark.TheVariants as mark
use Rattle.ln_hooks.specs.declared.event.ChannelEvent.{ChannelEvent}
use Rattle.ln_hooks.specs.declared.event.ChannelEvent.TheVariants as event
use Rattle.ln_hooks.specs.declared.verdict.FailureCode.{FailureCode}
use Rattle.ln_hooks.specs.declared.verdict.FailureCode.TheVariants as code
use Rattle.ln_hooks.specs.declared.verdict.Verdict.{Verdict}
use Rattle.ln_hooks.specs.declared.verdict.Verdict.TheVariants as verdict
use Rattle.ln_forward.specs.declared.failure.Failure.{Failure}
use Rattle.ln_forward.specs.declared.failure.Failure.TheVariants as failure
use Rattle.ln_forward.specs.declared.payload.Payload.{Payload}
use Rattle.ln_forward.specs.declared.checks.Incoming.{Incoming}
use Rattle.ln_forward.specs.declared.checks.Route.{Route}
use Rattle.ln_forward.specs.declared.checks.Policy.{Policy}
use Rattle.ln_forward.specs.declared.checks.Expected.{Expected}
use Rattle.ln_forward.specs.Checks.{forward_by, missing, final_fault}
use Rattle.ln_forward.specs.Payload.{Hop, payload_at}
use Rattle.ln_book_tables.specs.declared.htlc.Offer.{Offer}
use Rattle.ln_book_tables.specs.declared.entry.OutgoingChannel.{OutgoingChannel}
use Rattle.ln_book_tables.specs.declared.entry.Invoice.{Invoice}
use Rattle.ln_book_tables.specs.declared.entry.Decided.{Decided}
use Rattle.ln_book_tables.specs.declared.htlc.Htlc.{Htlc}
use Rattle.ln_book_tables.specs.Replay.{Table, same, is_usable, held_by}
use Rattle.ln_keys.specs.Services.{Services}
use Rattle.ln_book.specs.Commands.{own_failure}

-- what a peer offers, where an event tells of that
abbrev pub offer_of : ChannelEvent → Option Offer
offer_of (event.Added own id amount hash expiry onion) = if own then None
    else Some (record { id = id; amount = amount; hash = hash; expiry = expiry; onion = onion })
offer_of (event.Settled own id h) = None
offer_of (event.Closed fee) = None

abbrev pub incoming_of : Offer → Incoming
incoming_of o = record { amount = o.amount; expiry = o.expiry }

-- ---- a failure

-- the failure by which a hook fails a payment: of the outgoing HTLC it knows nothing, so the incoming amount and expiry
-- stand in its place
abbrev pub failure_by : FailureCode → Offer → ℕ → Failure
failure_by code.TemporaryChannelFailure o height = failure.TemporaryChannelFailure
failure_by code.UnknownNextPeer o height = failure.UnknownNextPeer
failure_by code.AmountBelowMinimum o height = failure.AmountBelowMinimum o.amount
failure_by code.FeeInsufficient o height = failure.FeeInsufficient o.amount
failure_by code.IncorrectCltvExpiry o height = failure.IncorrectCltvExpiry o.expiry
failure_by code.ExpiryTooSoon o height = failure.ExpiryTooSoon
failure_by code.IncorrectOrUnknownPaymentDetails o height = failure.IncorrectOrUnknownPaymentDetails o.amount height
failure_by code.FinalIncorrectCltvExpiry o height = failure.FinalIncorrectCltvExpiry o.expiry
failure_by code.FinalIncorrectHtlcAmount o height = failure.FinalIncorrectHtlcAmount o.amount
failure_by code.ExpiryTooFar o height = failure.ExpiryTooFar
failure_by code.InvalidOnionPayload o height = failure.InvalidOnionPayload 0

abbrev pub failed : Services → Offer → Failure → Mark
failed s o f = mark.Fail (own_failure s o f)

-- an unreadable onion is told by a code with the bits BADONION and PERM: 0xc004, 0xc005 and 0xc006
abbrev pub unopened : Services → Offer → OpenFault → Mark
unopened s o open_fault.Version = mark.Malformed 49156
unopened s o open_fault.Hmac = mark.Malformed 49157
unopened s o open_fault.Key = mark.Malformed 49158
unopened s o open_fault.Payload = failed s o (failure.InvalidOnionPayload 0)
unopened s o open_fault.Memory = failed s o (failure.InvalidOnionPayload 0)

-- ---- forwarding

abbrev pub outgoing_by : Table → Option (List ℕ) → Option OutgoingChannel
outgoing_by t None = None
outgoing_by t (Some id) = lookup (same id) t.routes

abbrev pub route_by : Table → Option OutgoingChannel → Option Route
route_by t None = None
route_by t (Some l) = Some (record { usable = is_usable l.channel t; minimum = l.minimum })

abbrev pub no_policy : Policy
no_policy = record { base = 0; proportional = 0; delta = 0 }

abbrev pub policy_by : Option OutgoingChannel → Policy
policy_by None = no_policy
policy_by (Some l) = l.policy

-- the first failure of a hop that isn't the final one, by the records that its payload has
abbrev pub forward_fault_at : Offer → Hop → Table → Option OutgoingChannel → Option ℕ → Option ℕ → Option Failure
forward_fault_at o hop t l None expiry = missing 2
forward_fault_at o hop t l (Some amount) None = missing 4
forward_fault_at o hop t l (Some amount) (Some expiry) = if is_none hop.next then missing 6
    else forward_by (incoming_of o) (policy_by l) t.height amount expiry (route_by t l)

abbrev pub or_zero : Option ℕ → ℕ
or_zero None = 0
or_zero (Some n) = n

abbrev pub forward_mark : Services → Offer → Hop → Option OutgoingChannel → Option Failure → Mark
forward_mark s o hop l (Some f) = failed s o f
forward_mark s o hop None None = mark.None
forward_mark s o hop (Some l) None = mark.Forward l.channel (or_zero hop.amount) (or_zero hop.expiry)

abbrev pub forwarded : Services → Offer → Hop → Table → Option OutgoingChannel → Mark
forwarded s o hop t l = forward_mark s o hop l (forward_fault_at o hop t l hop.amount hop.expiry)

-- ---- taking

abbrev pub expected_by : Option Invoice → Option Expected
expected_by None = None
expected_by (Some i) = Some i.expected

-- a final hop isn't asked for a next channel
abbrev pub final_payload : Hop → Payload
final_payload hop = record { amount = hop.amount; expiry = hop.expiry; next = None; payment = hop.payment }

abbrev pub final_mark : Services → Offer → Option Invoice → Option Failure → Mark
final_mark s o i (Some f) = failed s o f
final_mark s o None None = mark.None
final_mark s o (Some i) None = mark.Fulfil i.preimage

abbrev pub taken : Services → Offer → Hop → ℕ → Option Invoice → Mark
taken s o hop height i =
    final_mark s o i (final_fault (incoming_of o) (final_payload hop) (expected_by i) height)

-- ---- the mark

-- where the onion has no next one this hop is the final one
abbrev pub read_hop : Services → Offer → Table → Bool → Hop → Mark
read_hop s o t true hop = taken s o hop t.height (lookup (same o.hash) t.expected)
read_hop s o t false hop = forwarded s o hop t (outgoing_by t hop.next)

abbrev pub read : Services → Offer → Table → Bool → Result Hop Fault → Mark
read s o t is_final (Err f) = failed s o (failure.InvalidOnionPayload 0)
read s o t is_final (Ok hop) = read_hop s o t is_final hop

abbrev pub opened_mark : Services → Offer → Table → Result Opened OpenFault → Mark
opened_mark s o t (Err f) = unopened s o f
opened_mark s o t (Ok p) = read s o t (is_none p.next) (payload_at p.payload)

-- a hook's failure goes before all else; what is held waits by the number of its event
abbrev pub mark_by : Services → Table → ℕ → Offer → Verdict → Mark
mark_by s t n o verdict.Continue = opened_mark s o t (s.opened o.onion o.hash)
mark_by s t n o (verdict.Fail c) = failed s o (failure_by c o t.height)
mark_by s t n o verdict.Hold = mark.Held n

-- nothing is done about any other event
abbrev pub mark_of : Services → Table → ℕ → Option Offer → Verdict → Mark
mark_of s t n None v = mark.None
mark_of s t n (Some o) v = mark_by s t n o v

abbrev pub decision : Services → Table → List ℕ → ℕ → Option Offer → Verdict → Decided
decision s t c n o v = record { channel = c; event = n; offer = o; mark = mark_of s t n o v }

-- ---- what is held

abbrev pub is_hold : Verdict → Bool
is_hold verdict.Hold = true
is_hold v = false

-- what is done about an HTLC that is held by this number: nothing where there is none, it is being resumed, or it is to
-- be held again
abbrev pub resumed_mark : Services → Table → ℕ → Option Htlc → Verdict → Option Mark
resumed_mark s t n None v = None
resumed_mark s t n (Some h) v = if is_hold v then None else Some (mark_by s t n h.offer v)

abbrev pub resumption : Services → Table → List ℕ → ℕ → Verdict → Option Mark
resumption s t c n v = resumed_mark s t n (held_by c n t) v
