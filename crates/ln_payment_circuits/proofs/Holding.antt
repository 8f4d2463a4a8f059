-- A payment that the book holds is held by its link: what every move keeps.
use Rattle.std.specs.Prelude.{◌≡◌, List, [], ◌∷◌, Option, Some, None}
use Rattle.std.proofs.Common.{ap, subst, ◌∙◌}
use Rattle.ln_payment.specs.Parts.{Mark, Forward, Hold, Answer, Decision, Undecided, Decided, Past, Removal}
use Rattle.ln_payment.specs.Parts.{OutgoingLeg, Absent, Refused, Offered, Resolved, IncomingLeg, Open, RemovalSent}
use Rattle.ln_payment.specs.Parts.{RemovalRefused, Settled, Note, Out, Payment}
use Rattle.ln_payment.specs.Parts.{IsHeld}
use Rattle.ln_payment.specs.Rebuild.{settled_note, note_by, note_of_result, note_read, outgoing_of, incoming_leg_of}
use Rattle.ln_payment.specs.Rebuild.{kept_outs}
use Rattle.ln_payment.specs.Rebuild.{kept_removal, everywhere, outgoing_read}
use Rattle.ln_payment.specs.Moves.{Move, MayMove, AreMade, after, moved, with_outgoing, with_incoming, with_mark}
use Rattle.ln_payment.specs.Moves.{settled, IsDecided}
use Rattle.ln_payment.specs.Moves as move
use Rattle.ln_payment.proofs.Invariant.{IsKept, ForNote, Waits, IsEarly}
use Rattle.ln_payment.proofs.Law.{kept}

abbrev pub IsHoldOf : Decision → Note → Type 0
IsHoldOf d f = f.mark ≡ Hold → d ≡ Decided Hold

abbrev pub HoldIsDecided : Payment → Type 0
HoldIsDecided p = ForNote (IsHoldOf p.decision) p.note

outgoing_waits : (d : Decision) (w : OutgoingLeg) (o : Option Note) → ForNote (IsHoldOf d) o
    → ForNote (IsHoldOf d) (with_outgoing w o)
outgoing_waits d w None h = tt
outgoing_waits d w (Some f) h = h

back_waits : (d : Decision) (b : IncomingLeg) (o : Option Note) → ForNote (IsHoldOf d) o
    → ForNote (IsHoldOf d) (with_incoming b o)
back_waits d b None h = tt
back_waits d b (Some f) h = h

mark_waits : (m : Mark) (o : Option Note) → ForNote (IsHoldOf (Decided m)) (with_mark m o)
mark_waits m None = tt
mark_waits m (Some f) = λ e. ap Decided e

settled_waits : (d : Decision) (m : Mark) (w : OutgoingLeg) → (m ≡ Hold → d ≡ Decided Hold)
    → ForNote (IsHoldOf d) (settled_note m w)
settled_waits d Hold w h = h
settled_waits d Forward Absent h = tt
settled_waits d Forward Refused h = tt
settled_waits d Forward (Offered c i) h = h
settled_waits d Forward (Resolved c i k) h = h
settled_waits d (Answer j) Absent h = tt
settled_waits d (Answer j) Refused h = tt
settled_waits d (Answer j) (Offered c i) h = h
settled_waits d (Answer j) (Resolved c i k) h = h

all_settled : (d : Decision) (o : Option Note) → ForNote (IsHoldOf d) o → ForNote (IsHoldOf d) (settled o)
all_settled d None h = tt
all_settled d (Some f) h = settled_waits d f.mark f.outgoing h

pub held_waits : (d : Decision) (r : Removal) → d ≡ Decided Hold → Waits d r → IsHeld r → ⊥
held_waits Undecided r e w a = absurd (cc)
held_waits Past r e w a = absurd (cc)
held_waits (Decided Forward) r e w a = absurd (cc)
held_waits (Decided (Answer j)) r e w a = absurd (cc)
held_waits (Decided Hold) r e w a = subst IsHeld w a

-- what is held has no removal, so its decision stays
none_cleared : (p : Payment) → IsKept p → IsHeld p.removal → (o : Option Note) → ForNote (IsHoldOf p.decision) o
    → ForNote (IsHoldOf Past) o
none_cleared p k held None h = tt
none_cleared p k held (Some f) h = λ e. absurd (held_waits p.decision p.removal (h e) k.waits held)

by_waits : (m : Mark) (w : OutgoingLeg) (b : IncomingLeg) → ForNote (IsHoldOf (Decided m)) (note_by m w b)
by_waits m w Open = λ e. ap Decided e
by_waits m w RemovalSent = λ e. ap Decided e
by_waits m w RemovalRefused = λ e. ap Decided e
by_waits m w Settled = settled_waits (Decided m) m (outgoing_read m w) (λ e. ap Decided e)

result_waits : (d : Decision) (w : OutgoingLeg) → ForNote (IsHoldOf d) (note_of_result w)
result_waits d Absent = tt
result_waits d Refused = tt
result_waits d (Offered c i) = tt
result_waits d (Resolved c i k) = λ e. absurd (cc)

read_waits : (d : Decision) (w : OutgoingLeg) (r : Removal) → ForNote (IsHoldOf d) (note_read d w r)
read_waits Undecided w r = tt
read_waits (Decided m) w r = by_waits m w (incoming_leg_of r)
read_waits Past w r = result_waits Past w

-- of what isn't decided the book has no note
none_waits : (d : Decision) (o : Option Note) → o ≡ None → ForNote (IsHoldOf d) o
none_waits d None e = tt
none_waits d (Some f) e = absurd (cc)

undecided_none : (d : Decision) (r : Removal) (os : List Out) (o : Option Note) → d ≡ Undecided → IsEarly d r os o
    → o ≡ None
undecided_none Undecided r os o e f = f.2
undecided_none (Decided n) r os o e f = absurd (cc)
undecided_none Past r os o e f = absurd (cc)

decided_waits : (m : Mark) (d : Decision) → IsDecided m d → m ≡ Hold → d ≡ Decided Hold
decided_waits m Undecided a e = absurd a
decided_waits m (Decided n) a e = ap Decided (a ∙ e)
decided_waits m Past a e = absurd a

pub holds : (v : Move) (p : Payment) → MayMove v p → IsKept p → HoldIsDecided p → HoldIsDecided (moved v p)
holds (move.Decide m) p a k h = λ e. ap Decided e
holds (move.Take m) p a k h =
    none_waits (Decided m) p.note (undecided_none p.decision p.removal p.outs p.note a k.early)
holds (move.Hear m) p a k h = λ e. decided_waits m p.decision a.0 e
holds (move.Resume m) p a k h = mark_waits m p.note
holds move.Clear p a k h = none_cleared p k a p.note h
holds (move.Offer c i) p a k h = outgoing_waits p.decision (Offered c i) p.note h
holds move.Refuse p a k h = outgoing_waits p.decision Refused p.note h
holds move.Leave p a k h = tt
holds (move.SignOuts c) p a k h = h
holds (move.End c i j) p a k h = h
holds (move.Tell c i j) p a k h = outgoing_waits p.decision (Resolved c i j) p.note h
holds (move.Forget c i) p a k h = h
holds (move.Remove j) p a k h = back_waits p.decision RemovalSent p.note h
holds (move.GiveUp j) p a k h = back_waits p.decision RemovalRefused p.note h
holds move.SignRemoval p a k h = h
holds move.HoldRemoval p a k h = h
holds move.Settle p a k h = all_settled p.decision p.note h
holds move.Close p a k h = tt
holds (move.Drop c) p a k h = h
holds (move.PutBack c i) p a k h = outgoing_waits p.decision Absent p.note h
holds move.DropRemoval p a k h = h
holds move.Reopen p a k h = back_waits p.decision Open p.note h
holds (move.Halt c) p a k h = h
holds (move.Reload c) p a k h = h
holds (move.Restart still) p a k h =
    read_waits p.decision (outgoing_of still (kept_outs everywhere p.outs)) (kept_removal p.removal)

pub holds_after : (vs : List Move) (p : Payment) → AreMade vs p → IsKept p → HoldIsDecided p
    → HoldIsDecided (after vs p)
holds_after [] p a k h = h
holds_after (v ∷ vs) p a k h = holds_after vs (moved v p) a.1 (kept v p a.0 k) (holds v p a.0 k h)
