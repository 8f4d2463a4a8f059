use Rattle.ln_book.proofs.Owing.{offered-then}
use Rattle.ln_book.proofs.switch.laws.what_was_offered_is_not_offered_again.Goals as goal

pub returns : goal.returns
returns c = offered-then
