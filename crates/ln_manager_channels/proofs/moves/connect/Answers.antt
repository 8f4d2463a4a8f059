use Rattle.std.proofs.Common.{refl}
use Rattle.ln_manager_channels.specs.Moves.{Connects}
use Rattle.ln_manager_channels.proofs.moves.connect.Goals as goal

pub returns : goal.returns
unfolding Connects
returns g c = (c.connect.ensures.answers c.args.link.now refl, c.connect.ensures.same_channel)
