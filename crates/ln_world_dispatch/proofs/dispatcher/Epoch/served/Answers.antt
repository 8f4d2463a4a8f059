use Rattle.std.proofs.Common.{ap, arith, ◌∙◌}
use Rattle.ln_world_dispatch.specs.World.{served_in}
use Rattle.ln_world_dispatch.specs.Kept.{KeptEpoch}
use Rattle.ln_world_dispatch.proofs.Keeping.{served_so}
use Rattle.ln_world_dispatch.proofs.dispatcher.Epoch.served.Goals as goal

pub returns-in-Some : goal.returns-in-Some
returns-in-Some c = λ le.
    served_so c.self.inside.before.told.start c.self.inside.before.told.entries c.self.inside.kept.items
    c.self.inside.slots.items c.args.number c.self.inside.first c.in-Some.served.now c.self.invariant (omega arith)
    c.in-Some.ensures.item.3.0 c.in-Some.ensures.lookup
    ∙ ap (λ (k : KeptEpoch). served_in c.args.number k.epoch) c.self.view_is
