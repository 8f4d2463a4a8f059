use Rattle.std.proofs.Common.{inl, refl, ◌∙◌}
use Rattle.ln_node_loops.proofs.Sending.{delivered}
use Rattle.ln_node_loops.proofs.turn.send.Goals as goal

pub returns-in-Ok : goal.returns-in-Ok
returns-in-Ok g c = delivered _ _ _ _ _ (c.as_slice.ensures.value ∙ c.in-Ok.ensures.frames) c.deliver.ensures

pub returns-in-Err : goal.returns-in-Err
returns-in-Err g c = inl (c.in-Err.ensures.lost, refl)
