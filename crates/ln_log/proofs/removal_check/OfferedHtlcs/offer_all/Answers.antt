use Rattle.std.proofs.Common.{◌++◌, take}
use Rattle.ln_log.specs.Outcomes.{fate}
use Rattle.ln_log.proofs.Fated.{tells_next}
use Rattle.ln_log.proofs.removal_check.OfferedHtlcs.offer_all.Goals as goal

pub loop-update-preserved : goal.loop-update-preserved
loop-update-preserved c = λ adds h.
    tells_next (fate c.offer.new.self) adds c.args.updates.now c.loop-update.update-index _ c.update-item.is
    c.loop-update-test.true
    (c.in_ok-offer.ensures.offers (adds ++ take c.loop-update.update-index c.args.updates.now)
    (c.loop-update.invariant adds h))
