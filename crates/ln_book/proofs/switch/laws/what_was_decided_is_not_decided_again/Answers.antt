use Rattle.ln_book.proofs.Owing.{decided-then}
use Rattle.ln_book.proofs.switch.laws.what_was_decided_is_not_decided_again.Goals as goal

pub returns : goal.returns
returns c = decided-then
