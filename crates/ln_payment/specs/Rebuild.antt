-- What becomes of a payment as its node restarts: unsigned updates are lost, links that had halted are there again, and
-- the book is read off the records anew.
use Rattle.std.specs.Prelude.{ℕ, List, [], ◌∷◌, Bool, true, false, not, ◌&&◌, filter, if◌then◌else◌}
use Rattle.std.specs.Prelude.{Option, Some, None}
use Rattle.ln_payment.specs.Parts.{Fulfils, Mark, Forward, Hold, Answer, Decision, Undecided, Decided, Past}
use Rattle.ln_payment.specs.Parts.{Proposed, Signed, Held, Removal, NoRemoval, By}
use Rattle.ln_payment.specs.Parts.{Course, Uncovered, Covered, Ended, Out}
use Rattle.ln_payment.specs.Parts.{OutgoingLeg, Absent, Refused, Offered, Resolved, IncomingLeg, Open, RemovalSent}
use Rattle.ln_payment.specs.Parts.{RemovalRefused, Settled, Note}
use Rattle.ln_payment.specs.Parts.{Payment}

-- ---- what is lost

abbrev pub is_uncovered : Course → Bool
is_uncovered Uncovered = true
is_uncovered Covered = false
is_uncovered (Ended k r) = false

-- the adds that stay where these channels lose what isn't signed
abbrev pub kept_outs : (ℕ → Bool) → List Out → List Out
kept_outs lose os = filter (λ o. not (is_uncovered o.course && lose o.channel)) os

abbrev pub kept_removal : Removal → Removal
kept_removal NoRemoval = NoRemoval
kept_removal (By k Proposed) = NoRemoval
kept_removal (By k Signed) = By k Signed
kept_removal (By k Held) = By k Held

-- ---- what the book reads

-- where the HTLC goes out, by live adds and by results; whether the records still have an add that has ended and whose
-- result was forgotten is `still`
abbrev pub outgoing_by : Bool → Out → OutgoingLeg → Course → OutgoingLeg
outgoing_by still o rest Uncovered = rest
outgoing_by still o rest Covered = Offered o.channel o.id
outgoing_by still o rest (Ended k true) = Resolved o.channel o.id k
outgoing_by still o rest (Ended k false) = if still then Offered o.channel o.id else rest

abbrev pub outgoing_of : Bool → List Out → OutgoingLeg
outgoing_of still [] = Absent
outgoing_of still (o ∷ os) = outgoing_by still o (outgoing_of still os) o.course

abbrev pub incoming_leg_of : Removal → IncomingLeg
incoming_leg_of NoRemoval = Open
incoming_leg_of (By k Proposed) = RemovalSent
incoming_leg_of (By k Signed) = RemovalSent
incoming_leg_of (By k Held) = Settled

-- of what has a removal: one to be forwarded that goes nowhere was refused, and one that is held is not offered either
abbrev pub outgoing_read : Mark → OutgoingLeg → OutgoingLeg
outgoing_read Forward Absent = Refused
outgoing_read Hold Absent = Refused
outgoing_read m w = w

-- of what is settled nothing is left to be done, unless it is held, or went out and may have a result to be forgotten
abbrev pub settled_note : Mark → OutgoingLeg → Option Note
settled_note Hold w = Some (record { mark = Hold; outgoing = w; incoming = Settled })
settled_note m Absent = None
settled_note m Refused = None
settled_note m w = Some (record { mark = m; outgoing = w; incoming = Settled })

abbrev pub note_by : Mark → OutgoingLeg → IncomingLeg → Option Note
note_by m w Settled = settled_note m (outgoing_read m w)
note_by m w Open = Some (record { mark = m; outgoing = w; incoming = Open })
note_by m w RemovalSent = Some (record { mark = m; outgoing = outgoing_read m w; incoming = RemovalSent })
note_by m w RemovalRefused = Some (record { mark = m; outgoing = w; incoming = RemovalRefused })

-- where the decision has left the record, a result alone is left to be forgotten
abbrev pub note_of_result : OutgoingLeg → Option Note
note_of_result Absent = None
note_of_result Refused = None
note_of_result (Offered c i) = None
note_of_result (Resolved c i k) = Some (record { mark = Answer Fulfils; outgoing = Resolved c i k; incoming = Settled })

abbrev pub note_read : Decision → OutgoingLeg → Removal → Option Note
note_read Undecided w r = None
note_read (Decided m) w r = note_by m w (incoming_leg_of r)
note_read Past w r = note_of_result w

-- ---- the restart

abbrev pub everywhere : ℕ → Bool
everywhere c = true

abbrev pub nowhere : ℕ → Bool
nowhere c = false

abbrev pub restarted : Bool → Payment → Payment
restarted still p = record p {
  removal = kept_removal p.removal;
  outs = kept_outs everywhere p.outs;
  note = note_read p.decision (outgoing_of still (kept_outs everywhere p.outs)) (kept_removal p.removal);
  halted = nowhere;
}
