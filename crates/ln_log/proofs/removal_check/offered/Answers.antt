use Rattle.std.proofs.Common.{[]}
use Rattle.ln_log.proofs.removal_check.offered.Goals as goal

pub returns-clause-offers : goal.returns-clause-offers
returns-clause-offers c =
    c.in_ok-offer_all-2.ensures.offers c.args.live_htlcs.now
    (c.in_ok-offer_all.ensures.offers [] c.none-offered_htlcs.ensures)
