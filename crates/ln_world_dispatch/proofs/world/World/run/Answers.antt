use Rattle.std.proofs.Common.{rules}
use Rattle.ln_world_dispatch.proofs.Unhooked.{leads_so, told_so, if_ok_so, on_ok_so}
use Rattle.ln_world_dispatch.proofs.world.World.run.Goals as goal

pub returns-clause-state : goal.returns-clause-state
returns-clause-state g c =
    if_ok_so c.run_with.result _ _
    (λ w ran. leads_so g.K.ChannelKeys g.H.Serve.calls c.args.steps.items w.state _ _ _ _ c.new.result.items
    (search rules) ran) c.run_with.ensures.has_run

pub returns-clause-told : goal.returns-clause-told
returns-clause-told g c =
    on_ok_so c.run_with.result _ _
    (λ w ran. told_so g.K.ChannelKeys g.H.Serve.calls c.args.steps.items w.state _ _ _ _ c.new.result.items
    (search rules) ran) c.run_with.ensures.has_run
