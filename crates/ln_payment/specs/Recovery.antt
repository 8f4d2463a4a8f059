-- What a book that is read off the records, as its node restarts, has to do with the one that was lost.
use Rattle.std.specs.Prelude.{◌≡◌, ℕ, List, [], ◌∷◌, Bool, Some, None, if◌then◌else◌}
use Rattle.ln_payment.specs.Parts.{Mark, Forward, Hold, Answer, Removal, NoRemoval, By}
use Rattle.ln_payment.specs.Parts.{Course, Uncovered, Covered, Ended, Out}
use Rattle.ln_payment.specs.Parts.{OutgoingLeg, Absent, Refused, Offered, Resolved, Settled, Note, Payment, IsHeld}
use Rattle.ln_payment.specs.Rebuild.{incoming_leg_of, everywhere, kept_outs, kept_removal, restarted}
use Rattle.ln_payment.specs.Moves.{is_at}

-- ---- what is left of a note, where all that no signature covers is lost, and all that is held was heard

abbrev pub outgoing_by_course : ℕ → ℕ → Course → OutgoingLeg
outgoing_by_course c i Uncovered = Offered c i
outgoing_by_course c i Covered = Offered c i
outgoing_by_course c i (Ended k r) = Resolved c i k

-- an offer that isn't among these adds is lost
abbrev pub offer_left : ℕ → ℕ → List Out → OutgoingLeg
offer_left c i [] = Absent
offer_left c i (o ∷ os) = if is_at c i o then outgoing_by_course c i o.course else offer_left c i os

-- that an offer was refused no record says, unless the removal that came of it is there
abbrev pub refusal_left : Removal → Mark → OutgoingLeg
refusal_left NoRemoval m = Absent
refusal_left (By k s) Forward = Refused
refusal_left (By k s) Hold = Absent
refusal_left (By k s) (Answer j) = Absent

abbrev pub outgoing_left : OutgoingLeg → Mark → Removal → List Out → OutgoingLeg
outgoing_left Absent m r os = Absent
outgoing_left Refused m r os = refusal_left r m
outgoing_left (Offered c i) m r os = offer_left c i os
outgoing_left (Resolved c i k) m r os = Resolved c i k

-- the decision stays, and where it goes; it has the removal that is there
abbrev pub note_left : Note → Removal → List Out → Note
note_left e r os = record {
  mark = e.mark;
  outgoing = outgoing_left e.outgoing e.mark r os;
  incoming =
      incoming_leg_of r;
}

-- ---- the book that is read

pub record IsReadBack (still : Bool) (p : Payment) : Type 0 where
  -- until the removal is held, it is the one that was lost, but for what no signature covered
  pub is_what_was_there : (e : Note) → p.note ≡ Some e → (IsHeld p.removal → ⊥)
      → (restarted still p).note ≡ Some (note_left e (kept_removal p.removal) (kept_outs everywhere p.outs))
  -- of what it had let go of nothing went out
  pub lets_nothing_go : p.note ≡ None → (IsHeld p.removal → ⊥) → p.outs ≡ []
  -- and from then on it asks for no removal and no offer
  pub is_settled_once_held : IsHeld p.removal → (e : Note) → (restarted still p).note ≡ Some e → e.incoming ≡ Settled
