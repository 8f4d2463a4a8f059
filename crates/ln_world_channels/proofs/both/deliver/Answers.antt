use Rattle.std.proofs.Common.{◌++◌, sym, ap, ◌∙◌}
use Rattle.ln_channel.specs.State.{refused}
use Rattle.ln_channel.specs.Step.{handled}
use Rattle.ln_world_channels.specs.Settings.{channel_id_of}
use Rattle.ln_world_channels.specs.Both.{SimEnd, said_by, delivers, delivered_lines}
use Rattle.ln_world_channels.proofs.Answered.{same_lines, answered_so}
use Rattle.ln_world_channels.proofs.Moving.{on_ok}
use Rattle.ln_world_channels.proofs.both.deliver.Goals as goal

pub returns-in_ok-answer-in-Some-clause-both : goal.returns-in_ok-answer-in-Some-clause-both
returns-in_ok-answer-in-Some-clause-both g c =
    let signer = g.K.ChannelKeys.signer in
    let id = channel_id_of c.args.end.channel in
    let x : SimEnd _ = record {
      keys = c.x.inside.keys;
      link = c.x.inside.link;
      inbox = c.x.inside.inbox.items;
    } in
    on_ok c.pass_on.result (λ e.
    answered_so refused id (handled (signer x.link.keys) x.link c.in-Some.message)
    (said_by c.in_ok-answer-in-Some.answer c.link.result.now)
    (record { x = record x { inbox = c.pop_front.new.self.items }; y = c.args.y.now }) c.handle.new.self
    c.pass_on.new.other c.in_ok-answer-in-Some.ensures.link
    (c.in_ok-answer-in-Some.ensures.said ∙ ap (said_by c.in_ok-answer-in-Some.answer) (sym c.link.ensures)) e
    ∙ ap (λ ms. delivers signer id ms (record { x = x; y = c.args.y.now })) (sym c.in-Some.ensures.items)
    ∙ ap (λ (z : SimEnd _). delivers signer id z.inbox (record { x = z; y = c.args.y.now })) c.x.view_is)
    c.pass_on.ensures.sent

pub returns-in_ok-answer-in-Some-clause-told : goal.returns-in_ok-answer-in-Some-clause-told
returns-in_ok-answer-in-Some-clause-told g c =
    let signer = g.K.ChannelKeys.signer in
    let id = channel_id_of c.args.end.channel in
    let l = c.x.inside.link in
    on_ok c.pass_on.result (λ e. e ∙ ap (λ ls. c.args.lines.now.items ++ ls)
    (same_lines c.args.end id (handled (signer l.keys) l c.in-Some.message)
    (said_by c.in_ok-answer-in-Some.answer c.link.result.now)
    (c.in_ok-answer-in-Some.ensures.said ∙ ap (said_by c.in_ok-answer-in-Some.answer) (sym c.link.ensures))
    ∙ ap (λ ms. delivered_lines signer c.args.end id ms l) (sym c.in-Some.ensures.items)
    ∙ ap (λ (z : SimEnd _). delivered_lines signer c.args.end id z.inbox z.link) c.x.view_is)) c.pass_on.ensures.told
