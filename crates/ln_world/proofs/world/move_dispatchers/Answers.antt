use Rattle.std.proofs.Common.{refl, ap, ◌∙◌, ◌++◌, ◌∷◌, []}
use Rattle.ln_world_channels.specs.declared.line.Line.TheVariants as line
use Rattle.ln_world.proofs.Running.{move_told}
use Rattle.ln_world.proofs.world.move_dispatchers.Goals as goal

pub returns-in_ok-push-in-None-clause-moved : goal.returns-in_ok-push-in-None-clause-moved
returns-in_ok-push-in-None-clause-moved g c =
    rw c.in-None.is (
      refl,
      refl,
      refl,
      c.in_ok-push-in-None.ensures.items ∙ ap (λ l. l ++ line.Idle ∷ []) c.new-told.ensures.items,
    )

pub returns-in_ok-step-in-Some-clause-moved : goal.returns-in_ok-step-in-Some-clause-moved
returns-in_ok-step-in-Some-clause-moved g c =
    rw c.in-Some.is (move_told g.K.ChannelKeys g.H.Serve.calls c.in-Some.step _ _ _ _ _ _ _ _ c.new-told.ensures.items
    c.in_ok-step-in-Some.ensures.stepped)
