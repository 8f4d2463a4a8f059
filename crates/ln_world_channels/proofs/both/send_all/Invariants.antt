use Rattle.std.proofs.Common.{◌≡◌, ◌++◌, length}
use Rattle.std.specs.Vec.Iter.{into_iter_items, into_iter_len}
use Rattle.ln_channel_laws.specs.Ends.{messages_in}
use Rattle.ln_world_channels.proofs.both.send_all.Given as goal

-- what is left joins after
abbrev pub invariant-loop-output : goal.invariant-loop-output
invariant-loop-output l =
    (l.inbox.items ++ messages_in (into_iter_items l.output-iterator)
    ≡ l.fn.inbox.items ++ messages_in (into_iter_items l.initial.output-iterator))
    × (into_iter_len l.output-iterator ≡ length (into_iter_items l.output-iterator))
