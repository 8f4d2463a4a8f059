use Rattle.std.proofs.Common.{sym}
use Rattle.ln_world_channels.proofs.Moving.{on_ok}
use Rattle.ln_world.proofs.Running.{stepped_by}
use Rattle.ln_world.proofs.world.World.step.Goals as goal

pub returns-clause-stepped : goal.returns-clause-stepped
returns-clause-stepped g c =
    on_ok c.report_follow_up.result (λ so. stepped_by g.K.ChannelKeys g.H.Serve.calls c.args.step c.in_ok-plain.plain
    _ _ _ _ _ _ c.in_ok-plain.follow_up c.prepare.new.nodes.items c.in_ok-told.told.items c.as_slice.result.now
    c.as_slice-2.result.now
    _ _ (sym c.in_ok-plain.ensures.plain) c.in_ok-plain.ensures.follow_up c.in_ok-plain.ensures.prepared
    c.in_ok-told.ensures.moved c.in_ok-conclude.ensures.concluded c.as_slice.ensures.value so
    c.as_slice-2.ensures.value) c.report_follow_up.ensures.told
