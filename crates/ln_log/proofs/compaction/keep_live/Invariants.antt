use Rattle.std.proofs.Common.{◌≡◌, ◌++◌, drop}
use Rattle.ln_log.specs.Window.{live_htlcs}
use Rattle.ln_log.proofs.compaction.keep_live.Given as goal

-- what is there and what is still to come
abbrev pub invariant-loop-update : goal.invariant-loop-update
invariant-loop-update l = l.list.items ++ live_htlcs (drop l.update-index l.updates) l.outcomes
    ≡ l.fn.list.items ++ live_htlcs l.updates l.outcomes
