use Rattle.std.proofs.Common.{refl}
use Rattle.ln_world_dispatch.proofs.Stepping.{quiet_so}
use Rattle.ln_world_dispatch.proofs.world.World.pass.Goals as goal

pub returns-clause-stepped : goal.returns-clause-stepped
returns-clause-stepped g c =
    quiet_so g.K.ChannelKeys g.H.Serve.calls c.args.step c.args.self.now.state c.step.new.self
    _ _ c.args.self.now.hooks.offered.items _ c.args.lines.now.items c.step.new.lines.items
    c.requires c.in_ok-step.ensures.world c.in_ok-step.ensures.told refl refl
