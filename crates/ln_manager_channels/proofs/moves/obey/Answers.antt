use Rattle.std.proofs.Common.{refl}
use Rattle.ln_manager_channels.specs.Moves.{Obeys}
use Rattle.ln_manager_channels.proofs.moves.obey.Goals as goal

pub returns : goal.returns
unfolding Obeys
returns g c = (c.command.ensures.answers c.args.link.now refl, c.command.ensures.same_channel)
