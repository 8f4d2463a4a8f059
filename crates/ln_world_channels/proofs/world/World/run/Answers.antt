use Rattle.std.proofs.Common.{subst, sym, inl}
use Rattle.std.proofs.lemmas.Result.{err_from_is_err_and}
use Rattle.ln_world_channels.specs.Failing.{SomeMayFail}
use Rattle.ln_world_channels.proofs.world.World.run.Goals as goal

-- the first of those that were left
pub returns-in_err-step-clause-fails : goal.returns-in_err-step-clause-fails
returns-in_err-step-clause-fails g c =
    let e = c.in_err-step.field-0.0 in
    let so = c.loop-step.invariant.2 e
    (subst (λ ss. SomeMayFail g.K.ChannelKeys ss e c.loop-step.self) (sym c.in-Some.ensures.steps.0)
    (inl c.in_err-step.ensures.fails)) in
    let p = err_from_is_err_and c.from_residual.result c.from_residual.ensures.1 in
    rw (p.1, p.2) (subst (λ steps. SomeMayFail g.K.ChannelKeys steps e c.args.self.now)
    c.into_iter-step-iterator.ensures.into_iter_gives.0 so)
