use Rattle.ln_book.proofs.Owing.{again}
use Rattle.ln_book.proofs.switch.laws.what_is_refused_for_now_is_handed_out_again.Goals as goal

pub returns : goal.returns
returns c = again
