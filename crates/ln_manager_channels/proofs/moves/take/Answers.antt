use Rattle.std.proofs.Common.{refl}
use Rattle.ln_manager_channels.specs.Moves.{Takes}
use Rattle.ln_manager_channels.proofs.moves.take.Goals as goal

pub returns : goal.returns
unfolding Takes
returns g c = (
  c.handle.ensures.answers (record c.args.link.now { keys = c.args.keys })
      (c.set_keys.ensures.state c.args.link.now refl),
  λ channel is. c.handle.ensures.same_channel channel (c.set_keys.ensures.same_channel channel is),
)
