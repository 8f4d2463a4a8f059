use Rattle.std.proofs.Common.{◌++◌, sym, ap, ◌∙◌}
use Rattle.ln_world_channels.specs.WorldChannel.{WorldChannel, place_of}
use Rattle.ln_world_channels.proofs.Moving.{on_ok, in_channel, as_funder, as_fundee, acts_told}
use Rattle.ln_world_channels.proofs.channel.WorldChannel.act_by.Goals as goal

pub returns-in-Funder-clause-moved : goal.returns-in-Funder-clause-moved
returns-in-Funder-clause-moved g c =
    let signer = g.K.ChannelKeys.signer in
    let here = in_channel signer c.args.side c.args.self.now c.end-end.result c.end-end.ensures
    ∙ ap (λ (d : WorldChannel _). d.number) (sym c.self.view_is) in
    rw c.in-Funder.is (rw (← c.self.view_is)
    (on_ok c.act.result (as_funder signer _ _ _ _ _ _ _ _ here) c.act.ensures.both))

pub returns-in-Funder-clause-told : goal.returns-in-Funder-clause-told
returns-in-Funder-clause-told g c =
    on_ok c.act.result (λ e. e ∙ ap (λ ls. c.args.lines.now.items ++ ls)
    (acts_told g.K.ChannelKeys.signer c.args.side c.args.what c.args.self.now _ _
    (ap (λ (d : WorldChannel _). d.both.x) c.self.view_is
    ∙ ap (λ side. place_of side c.args.self.now.both) (sym c.in-Funder.is)) c.end-end.ensures)) c.act.ensures.told

pub returns-in-Fundee-clause-moved : goal.returns-in-Fundee-clause-moved
returns-in-Fundee-clause-moved g c =
    let signer = g.K.ChannelKeys.signer in
    let here = in_channel signer c.args.side c.args.self.now c.end-end.result c.end-end.ensures
    ∙ ap (λ (d : WorldChannel _). d.number) (sym c.self.view_is) in
    rw c.in-Fundee.is (rw (← c.self.view_is)
    (on_ok c.act-in-Fundee.result (as_fundee signer _ _ _ _ _ _ _ _ here) c.act-in-Fundee.ensures.both))

pub returns-in-Fundee-clause-told : goal.returns-in-Fundee-clause-told
returns-in-Fundee-clause-told g c =
    on_ok c.act-in-Fundee.result (λ e. e ∙ ap (λ ls. c.args.lines.now.items ++ ls)
    (acts_told g.K.ChannelKeys.signer c.args.side c.args.what c.args.self.now _ _
    (ap (λ (d : WorldChannel _). d.both.y) c.self.view_is
    ∙ ap (λ side. place_of side c.args.self.now.both) (sym c.in-Fundee.is)) c.end-end.ensures))
    c.act-in-Fundee.ensures.told
