use Rattle.ln_book.proofs.Owing.{fails-incoming-then}
use Rattle.ln_book.proofs.switch.laws.a_refused_offer_fails_back.Goals as goal

pub returns : goal.returns
returns c = fails-incoming-then
