use Rattle.ln_book.proofs.Owing.{removed-then}
use Rattle.ln_book.proofs.switch.laws.what_was_removed_is_not_removed_again.Goals as goal

pub returns : goal.returns
returns c = removed-then
