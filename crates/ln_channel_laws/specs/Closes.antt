-- Where nothing is in flight and nothing is left to settle, two ends that have shut down have closed (BOLT 2, "Closing
-- Negotiation: closing_signed").
use Rattle.std.specs.Prelude.{◌≡◌, true}
use Rattle.ln_channel.specs.End.{End, is_closed, is_settled}
use Rattle.ln_channel_laws.specs.Ends.{Ends}
use Rattle.ln_channel_laws.specs.Promises.{IsQuiet}

-- it has sent its shutdown, no HTLC is live, and every update stands acknowledged in both commitments
pub record IsDone (e : End) : Type 0 where
  pub shut : e.closing.shut ≡ true
  pub settled : is_settled e.dance.log ≡ true

abbrev pub CloseOnceDone : End → End → Type 0
CloseOnceDone x y = IsDone x → IsDone y → (is_closed x ≡ true) × (is_closed y ≡ true)

abbrev pub BothClose : Ends → Type 0
BothClose p = IsQuiet p → CloseOnceDone p.x p.y
