use Rattle.std.proofs.Common.{◌∙◌, refl}
use Rattle.ln_world_channels.proofs.Stored.{given_up}
use Rattle.ln_world_channels.proofs.saved_link.give_up.Goals as goal

pub returns : goal.returns
returns g c =
    given_up (g.K.ChannelKeys.signer c.args.keys) c.args.keys c.nameless_config.result c.put.new.place c.halt.new.self
    c.put-2.new.place (c.put.ensures ∙ c.fundee.ensures) (c.halt.ensures.state c.put.new.place refl)
    (c.put-2.ensures ∙ c.new.ensures)
