use Rattle.std.specs.Prelude.{◌≡◌, drop}
use Rattle.ln_batches.specs.Queues.{rows_saved}
use Rattle.ln_batches.proofs.lines.save_rows.Given as goal

-- the rows of the channels that are left complete those that were done
abbrev pub invariant-loop-channel : goal.invariant-loop-channel
invariant-loop-channel g l =
    rows_saved (drop l.channel-index l.channels) l.rows.items ≡ rows_saved l.channels l.fn.rows.items
