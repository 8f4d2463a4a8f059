use Rattle.ln_log.specs.RecordForm.{kept_of}
use Rattle.ln_log.proofs.Retold.{told_again, stands_written}
use Rattle.ln_log.proofs.base_laws.what_is_told_of_a_log_restores_it.Goals as goal

pub returns-clause-stands_for_them : goal.returns-clause-stands_for_them
returns-clause-stands_for_them c = told_again

pub returns-clause-is_like_them : goal.returns-clause-is_like_them
returns-clause-is_like_them c = λ l t h s. (kept_of t, (s, (stands_written t h).0))
