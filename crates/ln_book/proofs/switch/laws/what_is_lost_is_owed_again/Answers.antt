use Rattle.ln_book.proofs.Owing.{owed-again}
use Rattle.ln_book.proofs.switch.laws.what_is_lost_is_owed_again.Goals as goal

pub returns : goal.returns
returns c = owed-again
