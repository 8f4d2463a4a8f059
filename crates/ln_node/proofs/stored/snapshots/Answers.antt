use Rattle.std.proofs.Common.{ap, ◌∙◌, ◌++◌}
use Rattle.ln_channel.specs.Record.{saved_end}
use Rattle.ln_book.specs.Snapshots.{snapshot_by}
use Rattle.ln_node.proofs.Readings.{one-more}
use Rattle.ln_node.proofs.stored.snapshots.Goals as goal

pub loop-one-preserved : goal.loop-one-preserved
loop-one-preserved g c =
    one-more _ _ _ _ c.one-item.result c.loop-one-test.true c.one-item.is c.loop-one.invariant
    (c.in_ok-read_end.ensures.reads
    ∙ ap (λ o. c.loop-one.snapshots.items ++ snapshot_by o) (c.saved.ensures.as_kept
    ∙ ap (λ l. saved_end l.stage) c.channel_machine.ensures ∙ ap (λ v. saved_end v.link.stage) c.deref.ensures))
