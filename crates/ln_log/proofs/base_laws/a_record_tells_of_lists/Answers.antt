use Rattle.ln_log.specs.RecordForm.{written}
use Rattle.std.proofs.Common.{sym}
use Rattle.ln_log.proofs.Retold.{stands_written, told_restorable, tells_written, in_order}
use Rattle.ln_log.proofs.base_laws.a_record_tells_of_lists.Goals as goal

pub returns-clause-exactly : goal.returns-clause-exactly
returns-clause-exactly c = λ t. ((λ h. (written t, stands_written t h)), (λ h. told_restorable t h.0 h.1.0 h.1.1))

pub returns-clause-written_down : goal.returns-clause-written_down
returns-clause-written_down c = λ t h. (stands_written t h).0

pub returns-clause-in_order : goal.returns-clause-in_order
returns-clause-in_order c = in_order

pub returns-clause-tells_them : goal.returns-clause-tells_them
returns-clause-tells_them c = λ t h. sym (tells_written t h).1
