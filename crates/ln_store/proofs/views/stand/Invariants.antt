use Rattle.std.proofs.Common.{◌≡◌, drop}
use Rattle.ln_store.specs.Removals.{is_there}
use Rattle.ln_store.specs.Views.{stand}
use Rattle.ln_store.proofs.views.stand.Given as goal

-- those before are of HTLCs that are there
abbrev pub invariant-loop-update : goal.invariant-loop-update
invariant-loop-update l = stand (is_there l.side l.base.live l.adds) (drop l.update-index l.updates)
    ≡ stand (is_there l.side l.base.live l.adds) l.updates
