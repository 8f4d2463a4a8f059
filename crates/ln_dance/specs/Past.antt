-- A side that comes back from its record knows of the updates that aren't had one by one any more what the record
-- tells; what it was before had them. Which updates these were proofs alone read.
use Rattle.std.specs.Prelude.{◌≡◌}
use Rattle.ln_log.specs.Log.{Log, after_drop}
use Rattle.ln_log.specs.RecordForm.{record_form_of}

-- a log that was loaded of what a record tells of another one: of both, as a lost connection leaves the other, a record
-- tells the same
pub record IsReadOf (l other : Log) : Type 0 where
  pub first : l.first ≡ other.first
  pub same_record : record_form_of l.first l ≡ record_form_of l.first (after_drop other)
