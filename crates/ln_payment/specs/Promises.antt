-- What is promised of a payment, whatever moves were made.
use Rattle.std.specs.Prelude.{◌≤◌, List, length, not, filter}
use Rattle.ln_payment.specs.Parts.{Removal, NoRemoval, By, Out, Payment, Each, HasEnded}
use Rattle.ln_payment.specs.Rebuild.{is_uncovered}

-- the HTLCs that a signature covers: the peer may have them for good
abbrev pub covered : List Out → List Out
covered os = filter (λ o. not (is_uncovered o.course)) os

-- each of them has been removed as the HTLC that came in is, irrevocably committed
abbrev pub Follows : Removal → List Out → Type 0
Follows NoRemoval os = Unit {0}
Follows (By k s) os = Each (HasEnded k) os

pub record Promises (p : Payment) : Type 0 where
  pub at_most_one_is_covered : length (covered p.outs) ≤ 1
  pub removal_is_theirs : Follows p.removal (covered p.outs)
