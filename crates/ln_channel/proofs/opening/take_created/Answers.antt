use Rattle.std.proofs.Common.{◌∙◌, sym}
use Rattle.ln_channel.proofs.Taken.{created_so}
use Rattle.ln_channel.proofs.opening.take_created.Goals as goal

pub returns-clause-gives_its_row : goal.returns-clause-gives_its_row
returns-clause-gives_its_row g c =
    created_so (g.K.ChannelKeys.signer c.args.keys.now) c.args.agreed _ _ c.args.created.now _ _ c.sign_end.result
    (sym c.is_meant.ensures ∙ c.if-not-is_meant.false) c.agreed.view_is c.channel_id-channel.ensures
    c.opened_by-end.ensures c.sign_end.ensures.gives_its_row
