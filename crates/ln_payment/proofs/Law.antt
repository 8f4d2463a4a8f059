-- The law over every list of moves.
use Rattle.std.proofs.Common.{◌≡◌, inr, ℕ, List, [], ◌∷◌, Bool, true, false, refl, Option, Some}
use Rattle.std.proofs.Common.{None, arith}
use Rattle.std.specs.Prelude.{not, cond, length, ◌≤◌, ◌==◌, ◌&&◌, if◌then◌else◌}
use Rattle.ln_payment.specs.Parts.{Answer, By, Decided, Decision, Each, Forward, RemovalRefused, HasEnded, Hold, IsAt}
use Rattle.ln_payment.specs.Parts.{IsHeld, Kind, Mark, NoRemoval, Note, Absent, Offered, Open, Out, Resolved, Past}
use Rattle.ln_payment.specs.Parts.{Payment, Proposed, Refused, Removal, RemovalSent, Undecided, begun}
use Rattle.ln_payment.specs.Rebuild.{is_uncovered, kept_outs}
use Rattle.ln_payment.specs.Moves as machine
use Rattle.ln_payment.specs.Moves.{AreMade, IsDecided, MayMove, Move, after, moved}
use Rattle.ln_payment.specs.Promises.{Follows, Promises, covered}
use Rattle.ln_payment.proofs.Invariant.{AtMostOne, IsKept, Kept}
use Rattle.ln_payment.proofs.Lists as lists
use Rattle.ln_payment.proofs.Moves as moves
use Rattle.ln_payment.proofs.Rebuild.{kept_restart}

-- ---- each move, by whether the book has a note

offer : (c i : ℕ) (d : Decision) (r : Removal) (os : List Out) (e : Option Note) (h : ℕ → Bool) → machine.Offers e
    → Kept d r os e h → Kept d r (moves.out_at c i ∷ os) (machine.with_outgoing (Offered c i) e) h
offer c i d r os None h a k = absurd a
offer c i d r os (Some f) h a k = moves.kept_offer c i d r os f.mark f.outgoing f.incoming h a k

refuse : (d : Decision) (r : Removal) (os : List Out) (e : Option Note) (h : ℕ → Bool) → machine.Offers e
    → Kept d r os e h
    → Kept d r os (machine.with_outgoing Refused e) h
refuse d r os None h a k = absurd a
refuse d r os (Some f) h a k = moves.kept_refuse d r os f.mark f.outgoing f.incoming h a k

leave : (d : Decision) (r : Removal) (os : List Out) (e : Option Note) (h : ℕ → Bool) → machine.Offers e
    → Kept d r os e h
    → Kept d r os None h
leave d r os None h a k = absurd a
leave d r os (Some f) h a k = moves.kept_leave d r os f.mark f.outgoing f.incoming h a k

remove : (n : Kind) (d : Decision) (r : Removal) (os : List Out) (e : Option Note) (h : ℕ → Bool) → machine.Removes n e
    → r ≡ NoRemoval → Kept d r os e h → Kept d (By n Proposed) os (machine.with_incoming RemovalSent e) h
remove n d r os None h a z k = absurd a
remove n d r os (Some f) h a z k = moves.kept_remove n d r os f.mark f.outgoing f.incoming h a z k

give_up : (n : Kind) (d : Decision) (r : Removal) (os : List Out) (e : Option Note) (h : ℕ → Bool) → machine.Removes n e
    → Kept d r os e h → Kept d r os (machine.with_incoming RemovalRefused e) h
give_up n d r os None h a k = absurd a
give_up n d r os (Some f) h a k = moves.kept_give_up n d r os f.mark f.outgoing f.incoming h a k

settle : (d : Decision) (r : Removal) (os : List Out) (e : Option Note) (h : ℕ → Bool) → IsHeld r → Kept d r os e h
    → Kept d r os (machine.settled e) h
settle d r os None h a k = k
settle d r os (Some f) h a k = moves.kept_settle d r os f.mark f.outgoing f.incoming h a k

tell : (c i : ℕ) (n : Kind) (d : Decision) (r : Removal) (os : List Out) (e : Option Note) (h : ℕ → Bool)
    → machine.NoteIsAt c i e → h c ≡ false → Each (λ o. IsAt c i o → HasEnded n o) os → Kept d r os e h
    → Kept d r os (machine.with_outgoing (Resolved c i n) e) h
tell c i n d r os None h a z t k = absurd a
tell c i n d r os (Some f) h a z t k = moves.kept_tell c i n d r os f.mark f.outgoing f.incoming h a z t k

forget : (c i : ℕ) (d : Decision) (r : Removal) (os : List Out) (e : Option Note) (h : ℕ → Bool) → machine.IsSettled e
    → Kept d r os e h
    → Kept d r (lists.recourse (λ o. if machine.is_at c i o then machine.after_forget o.course else o.course) os) e h
forget c i d r os None h a k = absurd a
forget c i d r os (Some f) h a k = moves.kept_forget c i d r os f h a k

close : (d : Decision) (r : Removal) (os : List Out) (e : Option Note) (h : ℕ → Bool) → machine.IsSettled e
    → Kept d r os e h
    → Kept d r os None h
close d r os None h a k = absurd a
close d r os (Some f) h a k = moves.kept_close d r os f h a k

drop : (c : ℕ) (d : Decision) (r : Removal) (os : List Out) (e : Option Note) (h : ℕ → Bool)
    → machine.Stays c e (kept_outs (machine.is_of c) os) → Kept d r os e h
    → Kept d r (kept_outs (machine.is_of c) os) e h
drop c d r os None h a k = moves.kept_drop_none c d r os h k
drop c d r os (Some f) h a k = moves.kept_drop c d r os f h a k

put_incoming : (c i : ℕ) (d : Decision) (r : Removal) (os : List Out) (e : Option Note) (h : ℕ → Bool)
    → machine.NoteIsAt c i e
    → Each (λ o. IsAt c i o → ⊥) (kept_outs (machine.is_of c) os) → Kept d r os e h
    → Kept d r (kept_outs (machine.is_of c) os) (machine.with_outgoing Absent e) h
put_incoming c i d r os None h a n k = absurd a
put_incoming c i d r os (Some f) h a n k = moves.kept_put_back c i d r os f.mark f.outgoing f.incoming h a n k

reopen : (d : Decision) (r : Removal) (os : List Out) (e : Option Note) (h : ℕ → Bool) → r ≡ NoRemoval
    → Kept d r os e h
    → Kept d r os (machine.with_incoming Open e) h
reopen d r os None h a k = k
reopen d r os (Some f) h a k = moves.kept_reopen d r os f h a k

decide : (m : Mark) (d : Decision) (r : Removal) (os : List Out) (e : Option Note) (h : ℕ → Bool) → d ≡ Undecided
    → Kept d r os e h → Kept (Decided m) r os (Some (machine.begun_note m)) h
decide m Undecided r os e h a k = moves.kept_decide m r os e h k
decide m (Decided n) r os e h a k = absurd (cc a)
decide m Past r os e h a k = absurd (cc a)

take : (m : Mark) (d : Decision) (r : Removal) (os : List Out) (e : Option Note) (h : ℕ → Bool) → d ≡ Undecided
    → Kept d r os e h → Kept (Decided m) r os e h
take m Undecided r os e h a k = moves.kept_take m r os e h k
take m (Decided n) r os e h a k = absurd (cc a)
take m Past r os e h a k = absurd (cc a)

hear : (m : Mark) (d : Decision) (r : Removal) (os : List Out) (e : Option Note) (h : ℕ → Bool) → IsDecided m d
    → e ≡ None → r ≡ NoRemoval → Kept d r os e h → Kept d r os (Some (machine.begun_note m)) h
hear m Undecided r os e h a b z k = absurd a
hear m (Decided n) r os e h a b z k = moves.kept_hear m n r os e h a b z k
hear m Past r os e h a b z k = absurd a

resume : (m : Mark) (d : Decision) (r : Removal) (os : List Out) (e : Option Note) (h : ℕ → Bool) → IsDecided Hold d
    → Kept d r os e h → Kept (Decided m) r os (machine.with_mark m e) h
resume m Undecided r os e h a k = absurd a
resume m (Decided Forward) r os e h a k = absurd (cc a)
resume m (Decided Hold) r os e h a k = moves.kept_resume m r os e h k
resume m (Decided (Answer n)) r os e h a k = absurd (cc a)
resume m Past r os e h a k = absurd a

reload : (c : ℕ) (d : Decision) (r : Removal) (os : List Out) (e : Option Note) (h : ℕ → Bool)
    → machine.Stays c e os → Kept d r os e h → Kept d r os e (λ b. not (b == c) && h b)
reload c d r os None h a k = moves.kept_reload_none c d r os h k
reload c d r os (Some f) h a k = moves.kept_reload c d r os f h a k

-- ---- the law

pub kept : (v : Move) (p : Payment) → MayMove v p → IsKept p → IsKept (moved v p)
kept (machine.Decide m) p a k = decide m p.decision p.removal p.outs p.note p.halted a k
kept (machine.Take m) p a k = take m p.decision p.removal p.outs p.note p.halted a k
kept (machine.Hear m) p a k = hear m p.decision p.removal p.outs p.note p.halted (a.0) (a.1) (a.2) k
kept (machine.Resume m) p a k = resume m p.decision p.removal p.outs p.note p.halted a k
kept (machine.Offer c i) p a k = offer c i p.decision p.removal p.outs p.note p.halted a k
kept machine.Refuse p a k = refuse p.decision p.removal p.outs p.note p.halted a k
kept machine.Leave p a k = leave p.decision p.removal p.outs p.note p.halted a k
kept (machine.Remove n) p a k = remove n p.decision p.removal p.outs p.note p.halted (a.0) (a.1) k
kept (machine.GiveUp n) p a k = give_up n p.decision p.removal p.outs p.note p.halted a k
kept (machine.SignOuts c) p a k = moves.kept_sign_outs c p.decision p.removal p.outs p.note p.halted k
kept machine.SignRemoval p a k = moves.kept_sign_removal p.decision p.removal p.outs p.note p.halted k
kept machine.HoldRemoval p a k = moves.kept_hold p.decision p.removal p.outs p.note p.halted k
kept machine.Settle p a k = settle p.decision p.removal p.outs p.note p.halted a k
kept (machine.End c i n) p a k = moves.kept_end c i n p.decision p.removal p.outs p.note p.halted k
kept (machine.Tell c i n) p a k = tell c i n p.decision p.removal p.outs p.note p.halted (a.0) (a.1) (a.2) k
kept (machine.Forget c i) p a k = forget c i p.decision p.removal p.outs p.note p.halted a k
kept machine.Close p a k = close p.decision p.removal p.outs p.note p.halted a k
kept machine.Clear p a k = moves.kept_clear p.decision p.removal p.outs p.note p.halted a k
kept (machine.Drop c) p a k = drop c p.decision p.removal p.outs p.note p.halted a k
kept (machine.PutBack c i) p a k = put_incoming c i p.decision p.removal p.outs p.note p.halted (a.0) (a.1) k
kept machine.DropRemoval p a k = moves.kept_drop_removal p.decision p.removal p.outs p.note p.halted k
kept machine.Reopen p a k = reopen p.decision p.removal p.outs p.note p.halted a k
kept (machine.Halt c) p a k = moves.kept_halt c p.decision p.removal p.outs p.note p.halted k
kept (machine.Reload c) p a k = reload c p.decision p.removal p.outs p.note p.halted a k
kept (machine.Restart t) p a k = kept_restart t p.decision p.removal p.outs p.note p.halted k

pub kept_begun : IsKept begun
kept_begun = record {
  one = tt;
  early = (refl, refl, refl);
  forwards = inr tt;
  waits = tt;
  follows = tt;
  results = inr tt;
  knows = inr refl;
  offered = tt;
  over = tt;
  not_again = tt;
  settled = tt;
  marks = inr tt;
}

pub kept_after : (vs : List Move) (p : Payment) → AreMade vs p → IsKept p → IsKept (after vs p)
kept_after [] p a k = k
kept_after (v ∷ vs) p a k = kept_after vs (moved v p) (a.1) (kept v p (a.0) k)

one_covered : (b : Bool) (o : Out) → AtMostOne (cond (not b) (o ∷ []) [])
one_covered true o = tt
one_covered false o = tt

one_of : (os : List Out) → AtMostOne os → AtMostOne (covered os)
one_of [] a = tt
one_of (o ∷ []) a = one_covered (is_uncovered o.course) o
one_of (o ∷ o2 ∷ os) a = absurd a

each_covered : (P : Out → Type 0) (b : Bool) (o : Out) (os : List Out) → P o → Each P os
    → Each P (cond (not (b)) (o ∷ os) os)
each_covered P true o os p e = e
each_covered P false o os p e = (p, e)

each_of : (P : Out → Type 0) (os : List Out) → Each P os → Each P (covered os)
each_of P [] e = tt
each_of P (o ∷ os) e = each_covered P (is_uncovered o.course) o (covered os) (e.0) (each_of P os (e.1))

follows_of : (r : Removal) (os : List Out) → Follows r os → Follows r (covered os)
follows_of NoRemoval os a = tt
follows_of (By k s) os a = each_of (HasEnded k) os a

at_most_one : (os : List Out) → AtMostOne os → length os ≤ 1
at_most_one [] a = omega arith
at_most_one (o ∷ []) a = omega arith
at_most_one (o ∷ o2 ∷ os) a = absurd a

pub promised : (p : Payment) → IsKept p → Promises p
promised p k = record {
  at_most_one_is_covered = at_most_one (covered p.outs) (one_of p.outs (k.one));
  removal_is_theirs = follows_of p.removal p.outs (k.follows);
}

pub one_payment : (vs : List Move) → AreMade vs begun → Promises (after vs begun)
one_payment vs a = promised (after vs begun) (kept_after vs begun a kept_begun)
