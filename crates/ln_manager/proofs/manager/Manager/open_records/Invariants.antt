use Rattle.std.specs.Prelude.{◌≡◌, ◌++◌, drop}
use Rattle.ln_manager.specs.Batches.{records_of}
use Rattle.ln_manager.proofs.manager.Manager.open_records.Given as goal

-- what is left completes what was found
abbrev pub invariant-loop-channel : goal.invariant-loop-channel
invariant-loop-channel g l =
    l.records.items ++ records_of l.fn.self.channels.parts (drop l.channel-index l.channel-items)
    ≡ records_of l.fn.self.channels.parts l.fn.self.lines.open_channels
