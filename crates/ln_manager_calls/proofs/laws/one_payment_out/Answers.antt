use Rattle.ln_manager_calls.proofs.Lives.{made_of_none, pays_once}
use Rattle.ln_manager_calls.proofs.laws.one_payment_out.Goals as goal

pub returns-clause-over_lives : goal.returns-clause-over_lives
returns-clause-over_lives g c = λ moments id_of h are. pays_once g.K.ChannelKeys.signer moments are id_of h

pub returns-clause-of_these : goal.returns-clause-of_these
returns-clause-of_these g c = λ none.
    let signer = g.K.ChannelKeys.signer in
    let r = made_of_none signer c.args.channels.now c.calls_made.ensures none in
    (r.0, r.1, r.2, λ id_of h. pays_once signer r.0 r.1 id_of h)
