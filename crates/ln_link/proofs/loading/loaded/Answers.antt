use Rattle.ln_link.proofs.Restarted.{loads_told}
use Rattle.ln_link.proofs.loading.loaded.Goals as goal

pub returns-clause-loads_each_record : goal.returns-clause-loads_each_record
returns-clause-loads_each_record g c = λ i readable written. loads_told _ _ _ _ c.come_back.ensures
    (c.in_ok-failure.ensures.tells_each_record i readable written)
