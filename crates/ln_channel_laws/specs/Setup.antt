-- What a channel was set up with, and that both ends keep it.
use Rattle.std.specs.Prelude.{◌≡◌}
use Rattle.ln_log.specs.declared.opening.Opening.{Opening}
use Rattle.ln_close.specs.declared.closing.Fees.{Fees}
use Rattle.ln_channel.specs.declared.opening.Opened.{Opened}
use Rattle.ln_channel.specs.End.{End}

-- the opening, and the closing fees that the funder and the fundee take
pub record Setup : Type 0 where
  pub opening : Opening
  pub funder : Fees
  pub fundee : Fees

abbrev pub setup_of : Opened → Opened → Setup
setup_of funder fundee = record {
  opening = funder.dance.log.opening;
  funder = funder.closing.fees;
  fundee = fundee.closing.fees;
}

-- both ends have the opening, and each its own closing fees
pub record AreSetUp (s : Setup) (funder fundee : End) : Type 0 where
  pub funders_opening : funder.dance.log.opening ≡ s.opening
  pub fundees_opening : fundee.dance.log.opening ≡ s.opening
  pub funders_fees : funder.closing.fees ≡ s.funder
  pub fundees_fees : fundee.closing.fees ≡ s.fundee
