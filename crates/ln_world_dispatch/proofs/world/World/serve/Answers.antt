use Rattle.ln_world_dispatch.proofs.Stepping.{dispatched_so}
use Rattle.ln_world_dispatch.proofs.world.World.serve.Goals as goal

pub returns-clause-stepped : goal.returns-clause-stepped
returns-clause-stepped g c =
    dispatched_so g.K.ChannelKeys g.H.Serve.calls c.args.end c.args.number c.args.place c.args.event
    c.call-verdict.result c.args.self.now.state c.write.new.self _ _ c.args.self.now.hooks.offered.items _
    c.args.lines.now.items _ c.requires.place c.requires.next c.call-verdict.ensures.calls_each_hook
    c.call-verdict.ensures.offered c.in_ok-write.ensures.written c.in_ok-push.ensures.items
