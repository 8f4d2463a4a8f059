-- How a payment moves: what the node's links and its book do about its HTLC, when each may be, and what it makes of it.
use Rattle.std.specs.Prelude.{◌≡◌, ℕ, List, [], ◌∷◌, Bool, true, false, not, ◌==◌, ◌&&◌, ◌||◌, map, if◌then◌else◌}
use Rattle.std.specs.Prelude.{Option, Some, None}
use Rattle.ln_payment.specs.Parts.{Kind, Fails, Mark, Forward, Hold, Answer, Decision, Undecided, Decided, Past}
use Rattle.ln_payment.specs.Parts.{Proposed, Signed, Held, Removal, NoRemoval, By}
use Rattle.ln_payment.specs.Parts.{Course, Uncovered, Covered, Ended, Out}
use Rattle.ln_payment.specs.Parts.{OutgoingLeg, Absent, Refused, Offered, Resolved, IncomingLeg, Open, RemovalSent}
use Rattle.ln_payment.specs.Parts.{RemovalRefused, Settled, Note}
use Rattle.ln_payment.specs.Parts.{Payment, Each, Among, IsAt, HasEnded, IsHeld}
use Rattle.ln_payment.specs.Rebuild.{kept_outs, kept_removal, settled_note, restarted}

pub data Move : Type 0 where
  -- of the decision
  Decide : (m : Mark) → Move
  Take : (m : Mark) → Move  -- the channel decides, and the book hears of that later
  Hear : (m : Mark) → Move
  Resume : (m : Mark) → Move  -- what is held is decided
  Clear : Move  -- the decision leaves the record
  -- of the HTLC that goes out
  Offer : (c i : ℕ) → Move
  Refuse : Move  -- it can't be offered: the one that came in is failed
  Leave : Move  -- it can't, and the book lets go of the payment
  SignOuts : (c : ℕ) → Move
  End : (c i : ℕ) (k : Kind) → Move  -- the peer's removal of it is held
  Tell : (c i : ℕ) (k : Kind) → Move  -- the book hears of that
  Forget : (c i : ℕ) → Move  -- its result leaves the record
  -- of the removal of the one that came in
  Remove : (k : Kind) → Move
  GiveUp : (k : Kind) → Move  -- it is refused
  SignRemoval : Move
  HoldRemoval : Move
  Settle : Move  -- the book hears of that
  Close : Move  -- the book lets go of what is settled
  -- what a lost connection takes away
  Drop : (c : ℕ) → Move  -- unsigned adds of this channel, but none that the book has offered
  PutBack : (c i : ℕ) → Move  -- unsigned adds of this channel, and the book hears that the one it offered is gone
  DropRemoval : Move  -- an unsigned removal
  Reopen : Move  -- the book hears of that
  -- what wants memory, a load and a restart
  Halt : (c : ℕ) → Move  -- this link loses its connection and answers nothing more; the book doesn't hear of that
  Reload : (c : ℕ) → Move  -- it comes back from its record beside the book, which has heard what it lost
  Restart : (still : Bool) → Move  -- of the node; whether the records still have an add that ended and was forgotten

-- ---- what the book asks for

-- the HTLC goes out
abbrev pub AsksToOffer : Mark → OutgoingLeg → IncomingLeg → Type 0
AsksToOffer Forward Absent Open = Unit {0}
AsksToOffer Forward Absent RemovalSent = Unit {0}
AsksToOffer Forward Absent RemovalRefused = Unit {0}
AsksToOffer m w b = ⊥

abbrev pub Offers : Option Note → Type 0
Offers None = ⊥
Offers (Some n) = AsksToOffer n.mark n.outgoing n.incoming

-- the one that came in is removed so
abbrev pub IsAnswer : Kind → Mark → OutgoingLeg → Type 0
IsAnswer k (Answer j) w = j ≡ k
IsAnswer k Forward Refused = Fails ≡ k
IsAnswer k Forward (Resolved c i j) = j ≡ k
IsAnswer k m w = ⊥

abbrev pub AsksToRemove : Kind → Mark → OutgoingLeg → IncomingLeg → Type 0
AsksToRemove k m w Open = IsAnswer k m w
AsksToRemove k m w RemovalSent = ⊥
AsksToRemove k m w RemovalRefused = ⊥
AsksToRemove k m w Settled = ⊥

abbrev pub Removes : Kind → Option Note → Type 0
Removes k None = ⊥
Removes k (Some n) = AsksToRemove k n.mark n.outgoing n.incoming

-- ---- when a move may be made

abbrev pub IsDecided : Mark → Decision → Type 0
IsDecided m Undecided = ⊥
IsDecided m (Decided n) = n ≡ m
IsDecided m Past = ⊥

abbrev pub IsSettled : Option Note → Type 0
IsSettled None = ⊥
IsSettled (Some n) = n.incoming ≡ Settled

-- the book has the HTLC there
abbrev pub OutgoingIsAt : ℕ → ℕ → OutgoingLeg → Type 0
OutgoingIsAt c i Absent = ⊥
OutgoingIsAt c i Refused = ⊥
OutgoingIsAt c i (Offered d j) = (d ≡ c) × (j ≡ i)
OutgoingIsAt c i (Resolved d j k) = (d ≡ c) × (j ≡ i)

abbrev pub NoteIsAt : ℕ → ℕ → Option Note → Type 0
NoteIsAt c i None = ⊥
NoteIsAt c i (Some n) = OutgoingIsAt c i n.outgoing

-- a link that hasn't halted hands out what became of the add that it has there
abbrev pub IsTold : ℕ → ℕ → Kind → Payment → Type 0
IsTold c i k p = NoteIsAt c i p.note × (p.halted c ≡ false) × Each (λ o. IsAt c i o → HasEnded k o) p.outs

abbrev pub is_of : ℕ → ℕ → Bool
is_of c d = d == c

-- what the book has offered in this channel is among these
abbrev pub OutgoingStays : ℕ → OutgoingLeg → List Out → Type 0
OutgoingStays c Absent os = Unit {0}
OutgoingStays c Refused os = Unit {0}
OutgoingStays c (Offered d j) os = d ≡ c → Among (IsAt d j) os
OutgoingStays c (Resolved d j k) os = Unit {0}

abbrev pub Stays : ℕ → Option Note → List Out → Type 0
Stays c None os = Unit {0}
Stays c (Some n) os = OutgoingStays c n.outgoing os

-- the book is at this add, which is not among these
abbrev pub IsLost : ℕ → ℕ → Option Note → List Out → Type 0
IsLost c i n os = NoteIsAt c i n × Each (λ o. IsAt c i o → ⊥) os

abbrev pub MayMove : Move → Payment → Type 0
MayMove (Decide m) p = p.decision ≡ Undecided
MayMove (Take m) p = p.decision ≡ Undecided
MayMove (Hear m) p = IsDecided m p.decision × (p.note ≡ None) × (p.removal ≡ NoRemoval)
MayMove (Resume m) p = IsDecided Hold p.decision
MayMove Clear p = IsHeld p.removal
MayMove (Offer c i) p = Offers p.note
MayMove Refuse p = Offers p.note
MayMove Leave p = Offers p.note
MayMove (SignOuts c) p = Unit {0}
MayMove (End c i k) p = Unit {0}
MayMove (Tell c i k) p = IsTold c i k p
MayMove (Forget c i) p = IsSettled p.note
MayMove (Remove k) p = Removes k p.note × (p.removal ≡ NoRemoval)
MayMove (GiveUp k) p = Removes k p.note
MayMove SignRemoval p = Unit {0}
MayMove HoldRemoval p = Unit {0}
MayMove Settle p = IsHeld p.removal
MayMove Close p = IsSettled p.note
MayMove (Drop c) p = Stays c p.note (kept_outs (is_of c) p.outs)
MayMove (PutBack c i) p = IsLost c i p.note (kept_outs (is_of c) p.outs)
MayMove DropRemoval p = Unit {0}
MayMove Reopen p = p.removal ≡ NoRemoval
MayMove (Halt c) p = Unit {0}
MayMove (Reload c) p = Stays c p.note p.outs
MayMove (Restart still) p = Unit {0}

-- ---- what a move makes of a payment

-- of the outgoing adds
abbrev pub with_course : Course → Out → Out
with_course s o = record o { course = s }

abbrev pub after_sign : Course → Course
after_sign Uncovered = Covered
after_sign Covered = Covered
after_sign (Ended k r) = Ended k r

abbrev pub after_end : Kind → Course → Course
after_end k Uncovered = Uncovered
after_end k Covered = Ended k true
after_end k (Ended j r) = Ended j r

abbrev pub after_forget : Course → Course
after_forget Uncovered = Uncovered
after_forget Covered = Covered
after_forget (Ended k r) = Ended k false

abbrev pub is_at : ℕ → ℕ → Out → Bool
is_at c i o = (o.channel == c) && (o.id == i)

-- the adds that the test picks have gone on so
abbrev pub going_on : (Out → Bool) → (Course → Course) → List Out → List Out
going_on picks f os = map (λ o. with_course (if picks o then f o.course else o.course) o) os

-- of the removal
abbrev pub removal_signed : Removal → Removal
removal_signed NoRemoval = NoRemoval
removal_signed (By k Proposed) = By k Signed
removal_signed (By k Signed) = By k Signed
removal_signed (By k Held) = By k Held

abbrev pub removal_held : Removal → Removal
removal_held NoRemoval = NoRemoval
removal_held (By k s) = By k Held

-- of what the book has noted
abbrev pub begun_note : Mark → Note
begun_note m = record { mark = m; outgoing = Absent; incoming = Open }

abbrev pub with_mark : Mark → Option Note → Option Note
with_mark m None = None
with_mark m (Some n) = Some (record n { mark = m })

abbrev pub with_outgoing : OutgoingLeg → Option Note → Option Note
with_outgoing w None = None
with_outgoing w (Some n) = Some (record n { outgoing = w })

abbrev pub with_incoming : IncomingLeg → Option Note → Option Note
with_incoming b None = None
with_incoming b (Some n) = Some (record n { incoming = b })

abbrev pub settled : Option Note → Option Note
settled None = None
settled (Some n) = settled_note n.mark n.outgoing

abbrev pub moved : Move → Payment → Payment
moved (Decide m) p = record p { decision = Decided m; note = Some (begun_note m) }
moved (Take m) p = record p { decision = Decided m }
moved (Hear m) p = record p { note = Some (begun_note m) }
moved (Resume m) p = record p { decision = Decided m; note = with_mark m p.note }
moved Clear p = record p { decision = Past }
moved (Offer c i) p = record p {
  outs = record { channel = c; id = i; course = Uncovered } ∷ p.outs;
  note = with_outgoing (Offered c i) p.note;
}
moved Refuse p = record p { note = with_outgoing Refused p.note }
moved Leave p = record p { note = None }
moved (SignOuts c) p = record p { outs = going_on (λ o. o.channel == c) after_sign p.outs }
moved (End c i k) p = record p { outs = going_on (is_at c i) (after_end k) p.outs }
moved (Tell c i k) p = record p { note = with_outgoing (Resolved c i k) p.note }
moved (Forget c i) p = record p { outs = going_on (is_at c i) after_forget p.outs }
moved (Remove k) p = record p { removal = By k Proposed; note = with_incoming RemovalSent p.note }
moved (GiveUp k) p = record p { note = with_incoming RemovalRefused p.note }
moved SignRemoval p = record p { removal = removal_signed p.removal }
moved HoldRemoval p = record p { removal = removal_held p.removal }
moved Settle p = record p { note = settled p.note }
moved Close p = record p { note = None }
moved (Drop c) p = record p { outs = kept_outs (is_of c) p.outs }
moved (PutBack c i) p = record p { outs = kept_outs (is_of c) p.outs; note = with_outgoing Absent p.note }
moved DropRemoval p = record p { removal = kept_removal p.removal }
moved Reopen p = record p { note = with_incoming Open p.note }
moved (Halt c) p = record p { outs = kept_outs (is_of c) p.outs; halted = λ d. (d == c) || p.halted d }
moved (Reload c) p = record p { halted = λ d. not (d == c) && p.halted d }
moved (Restart still) p = restarted still p

-- ---- moves, one after the other

abbrev pub AreMade : List Move → Payment → Type 0
AreMade [] p = Unit {0}
AreMade (m ∷ ms) p = MayMove m p × AreMade ms (moved m p)

abbrev pub after : List Move → Payment → Payment
after [] p = p
after (m ∷ ms) p = after ms (moved m p)
