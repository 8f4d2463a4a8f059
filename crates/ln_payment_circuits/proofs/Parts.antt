-- What one end of a channel has of a payment: the course of an own add, and the own removal of an HTLC that came in.
use Rattle.std.proofs.Common.{◌≡◌, ℕ, ◌==◌, List, take, Bool, true, false, Option, Some, None, refl}
use Rattle.std.specs.List.{list_any}
use Rattle.ln_log.specs.declared.mark.Settlement.{Settlement}
use Rattle.ln_log.specs.declared.outcome.Outcome.{Outcome}
use Rattle.ln_log.specs.declared.outcome.Outcome.TheVariants.{Live, Fulfilled, Failed}
use Rattle.ln_log.specs.declared.update.Add.{Add}
use Rattle.ln_log.specs.Updates.{add_with, outcome, is_some}
use Rattle.ln_log.specs.Log.{Log}
use Rattle.ln_payment.specs.Parts.{Fulfils, Fails, Stage, Proposed, Signed, Held, Removal, NoRemoval, By}
use Rattle.ln_payment.specs.Parts.{Course, Uncovered, Covered, Ended}
use Rattle.ln_payment_circuits.specs.Snapshot.{is_gone}
use Rattle.ln_payment_circuits.specs.Circuit.{Forwards}

-- ---- an own add

-- an own add of this id forwards what has this origin
abbrev pub HasAdd : List ℕ × ℕ → ℕ → Log → Type 0
HasAdd o i l = Forwards o (add_with i l.own)

pub some_of : (o : List ℕ × ℕ) (a : Option Add) → Forwards o a → is_some a ≡ true
some_of o None h = absurd h
some_of o (Some a) h = refl

abbrev pub ended_by : Outcome → Bool → Course
ended_by Live r = Covered
ended_by Fulfilled r = Ended Fulfils r
ended_by Failed r = Ended Fails r

abbrev pub course_by : Bool → Course → Course
course_by true c = c
course_by false c = Uncovered

abbrev pub has_result : ℕ → List Settlement → Bool
has_result i ss = list_any (λ s. s.id == i) ss

-- by signatures, by the removals of the peer's that are held, and by the results that are kept
abbrev pub course_of : ℕ → Log → List Settlement → Course
course_of i l ss = course_by (is_some (add_with i (take l.signed.own l.own)))
    (ended_by (outcome i (take l.acknowledged.peer l.received)) (has_result i ss))

-- ---- the own removal of the peer's HTLC of this id

abbrev pub stage_by : Bool → Bool → Stage
stage_by true signed = Held
stage_by false true = Signed
stage_by false false = Proposed

abbrev pub removal_by : Outcome → Stage → Removal
removal_by Live s = NoRemoval
removal_by Fulfilled s = By Fulfils s
removal_by Failed s = By Fails s

abbrev pub removal_of : ℕ → Log → Removal
removal_of id l = removal_by (outcome id l.own)
    (stage_by (is_gone id (take l.current.own l.own)) (is_gone id (take l.signed.own l.own)))
