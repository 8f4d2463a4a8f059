-- Of which ends records tell a book the same.
use Rattle.std.specs.Prelude.{◌≡◌}
use Rattle.ln_log.specs.RecordForm.{record_form_of}
use Rattle.ln_channel.specs.End.{End}

-- ends of one channel with one ledger, of whose updates a record tells the same
pub record AreToldAlike (e x : End) : Type 0 where
  pub channel : e.dance.channel ≡ x.dance.channel
  pub ledger : e.ledger ≡ x.ledger
  pub updates : record_form_of e.dance.log.first e.dance.log ≡ record_form_of x.dance.log.first x.dance.log
