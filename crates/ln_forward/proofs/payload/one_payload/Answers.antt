use Rattle.ln_forward.proofs.Again.{same_payload, no_fault}
use Rattle.ln_forward.proofs.payload.one_payload.Goals as goal

pub returns-clause-one_payload : goal.returns-clause-one_payload
returns-clause-one_payload c = same_payload

pub returns-clause-refuses_no_spelling : goal.returns-clause-refuses_no_spelling
returns-clause-refuses_no_spelling c = no_fault
