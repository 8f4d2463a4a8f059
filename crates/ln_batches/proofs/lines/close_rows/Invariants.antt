use Rattle.std.specs.Prelude.{◌≡◌, drop}
use Rattle.ln_batches.specs.Queues.{rows_closed}
use Rattle.ln_batches.proofs.lines.close_rows.Given as goal

-- the rows of the channels that are left complete those that were done
abbrev pub invariant-loop-channel : goal.invariant-loop-channel
invariant-loop-channel g l =
    rows_closed (drop l.channel-index l.channels) l.rows.items ≡ rows_closed l.channels l.fn.rows.items
