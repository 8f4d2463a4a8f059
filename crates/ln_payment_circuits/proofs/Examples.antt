-- Worked examples: an own add that forwards a peer's HTLC, and an own removal, step by step.
use Rattle.std.proofs.Common.{◌≡◌, ℕ, List, [], ◌∷◌, refl, false, Option, Some, None}
use Rattle.ln_log.specs.declared.update.Update.{Update}
use Rattle.ln_log.specs.declared.update.Update.TheVariants as update
use Rattle.ln_log.specs.declared.mark.Mark.TheVariants as mark
use Rattle.ln_log.specs.Log.{Log}
use Rattle.ln_log.specs.Log as log
use Rattle.ln_payment.specs.Parts.{Fulfils, Forward, Proposed, Signed, Held, NoRemoval, By, Uncovered, Covered, Ended}
use Rattle.ln_payment.specs.Parts.{Undecided, Decided}
use Rattle.ln_payment_circuits.proofs.Parts.{course_of, removal_of, HasAdd}
use Rattle.ln_payment_circuits.proofs.Links.{decision_of}

abbrev add_of : ℕ → Option (List ℕ × ℕ) → Update
add_of i o = update.Add (record { id = i; amount = 1000; hash = []; expiry = 500; onion = []; origin = o })

abbrev fulfil_of : ℕ → Update
fulfil_of i = update.Fulfil (record { id = i; preimage = [] })

abbrev forwarded : Update
forwarded = add_of 0 (Some (7 ∷ [], 3))

-- a log of these, whatever else it has
module _ (l : Log) where
  abbrev start : Log
  start = record l {
    own = [];
    received = [];
    first = record { own = 0; peer = 0 };
    signed = record { own = 0; peer = 0 };
    current = record { own = 0; peer = 0 };
    acknowledged = record { own = 0; peer = 0 };
  }

  abbrev offered : Log
  offered = log.after_propose forwarded start

  abbrev sent : Log
  sent = log.after_sign offered

  -- the peer's fulfilment is signed by the peer, and by this side, and the peer has revoked
  abbrev paid : Log
  paid = log.after_learn (log.after_sign (log.after_accept (log.after_receive (fulfil_of 0) (log.after_learn sent))))

  has_it : HasAdd (7 ∷ [], 3) 0 offered
  has_it = refl

  unsigned : course_of 0 offered [] ≡ Uncovered
  unsigned = refl

  signed : course_of 0 sent [] ≡ Covered
  signed = refl

  ended : course_of 0 paid [] ≡ Ended Fulfils false
  ended = refl

  lost : course_of 0 (log.after_drop offered) [] ≡ Uncovered
  lost = refl

  -- the other end: it fulfils the peer's HTLC 0
  abbrev taken : Log
  taken = log.after_sign (log.after_accept (log.after_receive (add_of 0 None) start))

  abbrev removing : Log
  removing = log.after_propose (fulfil_of 0) (log.after_learn taken)

  none_yet : removal_of 0 taken ≡ NoRemoval
  none_yet = refl

  proposed : removal_of 0 removing ≡ By Fulfils Proposed
  proposed = refl

  removal_signed : removal_of 0 (log.after_sign removing) ≡ By Fulfils Signed
  removal_signed = refl

  removal_held : removal_of 0 (log.after_accept (log.after_learn (log.after_sign removing))) ≡ By Fulfils Held
  removal_held = refl

  removal_lost : removal_of 0 (log.after_drop removing) ≡ NoRemoval
  removal_lost = refl

  decided : decision_of 3 (record {
    log = start;
    results = [];
    decisions = record
        { id = 3; mark = mark.Forward [] 1 2 } ∷ [];
  })
      ≡ Decided Forward
  decided = refl

  undecided : decision_of 3 (record { log = start; results = []; decisions = [] }) ≡ Undecided
  undecided = refl
