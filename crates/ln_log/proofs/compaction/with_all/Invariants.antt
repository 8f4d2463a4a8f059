use Rattle.std.proofs.Common.{◌≡◌, ◌++◌, drop}
use Rattle.ln_log.proofs.compaction.with_all.Given as goal

-- what is there and what is still to come
abbrev pub invariant-loop-update : goal.invariant-loop-update
invariant-loop-update l = record {
  start : l.grown.told.start ≡ l.fn.past.told.start;
  entries : l.grown.told.entries ++ drop l.update-index l.updates ≡ l.fn.past.told.entries ++ l.updates;
}
