use Rattle.std.proofs.Common.{subst}
use Rattle.ln_channel.specs.End.{IsSound}
use Rattle.ln_link.proofs.record.items_of.Goals as goal

pub returns-clause-has_record_if_readable : goal.returns-clause-has_record_if_readable
returns-clause-has_record_if_readable c = λ e s readable. record {
  sound = subst IsSound s c.dance.ensures.fits_together;
  open_channel = c.in_ok-agreement.ensures.open_can_be_read e s;
  accept_channel = c.in_ok-agreement.ensures.accept_can_be_read e s;
  output = c.in_ok-agreement.ensures.output_fits_16_bits e s;
  log = c.in_ok-updates.ensures.can_be_restored e s;
  items = readable;
}
