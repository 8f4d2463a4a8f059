use Rattle.ln_payment.proofs.Recovery.{the_book}
use Rattle.ln_payment.proofs.laws.the_book_is_read_back.Goals as goal

pub returns : goal.returns
returns c = the_book
