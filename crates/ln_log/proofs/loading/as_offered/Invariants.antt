use Rattle.std.proofs.Common.{◌≡◌, ◌++◌, drop}
use Rattle.ln_log.specs.RecordForm.{as_offered}
use Rattle.ln_log.proofs.loading.as_offered.Given as goal

-- what is there and what is still to come
abbrev pub invariant-loop-add : goal.invariant-loop-add
invariant-loop-add l = l.updates.items ++ as_offered (drop l.add-index l.adds) ≡ as_offered l.adds
