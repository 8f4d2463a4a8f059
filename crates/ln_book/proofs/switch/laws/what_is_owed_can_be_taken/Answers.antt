use Rattle.ln_book.proofs.Owing.{can-be-taken}
use Rattle.ln_book.proofs.switch.laws.what_is_owed_can_be_taken.Goals as goal

pub returns : goal.returns
returns c = can-be-taken
