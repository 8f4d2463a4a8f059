use Rattle.std.proofs.Common.{◌≡◌, take}
use Rattle.ln_link.proofs.record.copy_results.Given as goal

-- as far as the loop has come, the copies are the results
abbrev pub invariant-loop-settlement : goal.invariant-loop-settlement
invariant-loop-settlement l = l.copies.items ≡ take l.settlement-index l.results
