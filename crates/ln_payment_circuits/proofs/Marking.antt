-- What is decided of an HTLC that a peer offers is something: its mark is never that nothing is done.
use Rattle.std.proofs.Common.{◌≡◌, ℕ, refl, Bool, true, false, cond, nat_lt, is_none}
use Rattle.std.proofs.Common.{Option, Some, None, Result, Ok, Err}
use Rattle.ln_bytes.specs.declared.fault.Fault.{Fault}
use Rattle.ln_keys.specs.declared.onion.Opened.{Opened}
use Rattle.ln_keys.specs.declared.onion.OpenFault.{OpenFault}
use Rattle.ln_keys.specs.declared.onion.OpenFault.TheVariants as open_fault
use Rattle.ln_log.specs.declared.mark.Mark.{Mark as LogMark}
use Rattle.ln_log.specs.declared.mark.Mark.TheVariants as mark
use Rattle.ln_hooks.specs.declared.verdict.Verdict.{Verdict}
use Rattle.ln_hooks.specs.declared.verdict.Verdict.TheVariants as verdict
use Rattle.ln_forward.specs.declared.failure.Failure.{Failure}
use Rattle.ln_forward.specs.declared.failure.Failure.TheVariants as failure
use Rattle.ln_forward.specs.declared.checks.Incoming.{Incoming}
use Rattle.ln_forward.specs.declared.payload.Payload.{Payload}
use Rattle.ln_forward.specs.Checks.{missing, take_at, pays, final_fault}
use Rattle.ln_forward.specs.Payload.{Hop, payload_at}
use Rattle.ln_book_tables.specs.declared.htlc.Offer.{Offer}
use Rattle.ln_book_tables.specs.declared.entry.OutgoingChannel.{OutgoingChannel}
use Rattle.ln_book_tables.specs.declared.entry.Invoice.{Invoice}
use Rattle.ln_book_tables.specs.Replay.{Table}
use Rattle.ln_keys.specs.Services.{Services}
use Rattle.ln_book.specs.Marks.{incoming_of, unopened, forward_fault_at, forward_mark, outgoing_by, expected_by}
use Rattle.ln_book.specs.Marks.{final_payload, final_mark, read, opened_mark, mark_by}

abbrev Does : LogMark → Type 0
Does m = m ≡ mark.None → ⊥

unopened_does : (s : Services) (o : Offer) (f : OpenFault) → Does (unopened s o f)
unopened_does s o open_fault.Version e = absurd (cc)
unopened_does s o open_fault.Hmac e = absurd (cc)
unopened_does s o open_fault.Key e = absurd (cc)
unopened_does s o open_fault.Payload e = absurd (cc)
unopened_does s o open_fault.Memory e = absurd (cc)

-- one that isn't expected is failed
unexpected : (i : Incoming) (l : Payload) (height : ℕ) (a b : Option ℕ) → take_at i l None height a b ≡ None → ⊥
unexpected i l height None b e = absurd (cc)
unexpected i l height (Some amount) None e = absurd (cc)
unexpected i l height (Some amount) (Some expiry) e = first (nat_lt i.amount amount) (nat_lt i.expiry expiry) e
  where
    first : (x y : Bool) → cond x (Some (failure.FinalIncorrectHtlcAmount i.amount))
        (cond y (Some (failure.FinalIncorrectCltvExpiry i.expiry))
        (cond (pays i amount l.payment None height) None (Some
        (failure.IncorrectOrUnknownPaymentDetails i.amount height))))
        ≡ None → ⊥
    first true y f = absurd (cc)
    first false true f = absurd (cc)
    first false false f = absurd (cc)

final_does : (s : Services) (o : Offer) (i : Incoming) (l : Payload) (height : ℕ) (v : Option Invoice)
    → Does (final_mark s o v (final_fault i l (expected_by v) height))
final_does s o i l height (Some v) = cases (final_fault i l (expected_by (Some v)) height)
  where
    cases : (f : Option Failure) → Does (final_mark s o (Some v) f)
    cases None e = absurd (cc)
    cases (Some f) e = absurd (cc)
final_does s o i l height None = cases (final_fault i l None height) refl
  where
    cases : (f : Option Failure) → final_fault i l None height ≡ f → Does (final_mark s o None f)
    cases None is e = absurd (unexpected i l height l.amount l.expiry is)
    cases (Some f) is e = absurd (cc)

-- one without a way is failed
nowhere : (o : Offer) (hop : Hop) (t : Table) (a b : Option ℕ) → forward_fault_at o hop t None a b ≡ None → ⊥
nowhere o hop t None b e = absurd (cc)
nowhere o hop t (Some amount) None e = absurd (cc)
nowhere o hop t (Some amount) (Some expiry) e = cases (is_none hop.next) e
  where
    cases : (x : Bool) → cond x (missing 6) (Some failure.UnknownNextPeer) ≡ None → ⊥
    cases true f = absurd (cc)
    cases false f = absurd (cc)

forward_does : (s : Services) (o : Offer) (hop : Hop) (t : Table) (l : Option OutgoingChannel)
    → Does (forward_mark s o hop l (forward_fault_at o hop t l hop.amount hop.expiry))
forward_does s o hop t (Some l) = cases (forward_fault_at o hop t (Some l) hop.amount hop.expiry)
  where
    cases : (f : Option Failure) → Does (forward_mark s o hop (Some l) f)
    cases None e = absurd (cc)
    cases (Some f) e = absurd (cc)
forward_does s o hop t None = cases (forward_fault_at o hop t None hop.amount hop.expiry) refl
  where
    cases : (f : Option Failure) → forward_fault_at o hop t None hop.amount hop.expiry ≡ f
        → Does (forward_mark s o hop None f)
    cases None is e = absurd (nowhere o hop t hop.amount hop.expiry is)
    cases (Some f) is e = absurd (cc)

read_does : (s : Services) (o : Offer) (t : Table) (b : Bool) (h : Result Hop Fault) → Does (read s o t b h)
read_does s o t b (Err f) e = absurd (cc)
read_does s o t true (Ok hop) e = final_does s o (incoming_of o) (final_payload hop) t.height _ e
read_does s o t false (Ok hop) e = forward_does s o hop t (outgoing_by t hop.next) e

opened_does : (s : Services) (o : Offer) (t : Table) (r : Result Opened OpenFault) → Does (opened_mark s o t r)
opened_does s o t (Err f) = unopened_does s o f
opened_does s o t (Ok p) = read_does s o t (is_none p.next) (payload_at p.payload)

pub mark_does : (s : Services) (t : Table) (n : ℕ) (o : Offer) (v : Verdict) → mark_by s t n o v ≡ mark.None → ⊥
mark_does s t n o verdict.Continue e = opened_does s o t (s.opened o.onion o.hash) e
mark_does s t n o (verdict.Fail c) e = absurd (cc)
mark_does s t n o verdict.Hold e = absurd (cc)
