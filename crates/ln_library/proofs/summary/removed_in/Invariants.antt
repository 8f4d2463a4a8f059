use Rattle.std.proofs.Common.{◌≡◌, take}
use Rattle.ln_library.specs.Looks.{removed_ids}
use Rattle.ln_library.proofs.summary.removed_in.Given as goal

abbrev pub invariant-loop-update : goal.invariant-loop-update
invariant-loop-update l = l.ids.items ≡ removed_ids (take l.update-index l.updates)
