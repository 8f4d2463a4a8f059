use Rattle.std.proofs.Common.{◌++◌, sym, ap, ◌∙◌}
use Rattle.ln_channel.specs.Step.{commanded}
use Rattle.ln_world_channels.specs.Settings.{channel_id_of}
use Rattle.ln_world_channels.specs.Both.{SimEnd, unchanged, said_by, answers, answer_lines}
use Rattle.ln_world_channels.proofs.Answered.{same_lines, answered_so}
use Rattle.ln_world_channels.proofs.Moving.{on_ok}
use Rattle.ln_world_channels.proofs.both.give.Goals as goal

pub returns-clause-both : goal.returns-clause-both
returns-clause-both g c =
    let signer = g.K.ChannelKeys.signer in
    let id = channel_id_of c.args.end.channel in
    let x : SimEnd _ = record {
      keys = c.x.inside.keys;
      link = c.x.inside.link;
      inbox = c.x.inside.inbox.items;
    } in
    on_ok c.pass_on.result (λ e.
    answered_so unchanged id (commanded (signer x.link.keys) x.link c.args.command)
    (said_by c.in_ok-answer.answer c.link.result.now) (record { x = x; y = c.args.y.now }) c.command.new.self
    c.pass_on.new.other c.in_ok-answer.ensures.link
    (c.in_ok-answer.ensures.said ∙ ap (said_by c.in_ok-answer.answer) (sym c.link.ensures)) e
    ∙ ap (λ (z : SimEnd _). answers unchanged id (commanded (signer z.link.keys) z.link c.args.command)
    (record { x = z; y = c.args.y.now })) c.x.view_is) c.pass_on.ensures.sent

pub returns-clause-told : goal.returns-clause-told
returns-clause-told g c =
    let signer = g.K.ChannelKeys.signer in
    let id = channel_id_of c.args.end.channel in
    let l = c.x.inside.link in
    on_ok c.pass_on.result (λ e. e ∙ ap (λ ls. c.args.lines.now.items ++ ls)
    (same_lines c.args.end id (commanded (signer l.keys) l c.args.command)
    (said_by c.in_ok-answer.answer c.link.result.now)
    (c.in_ok-answer.ensures.said ∙ ap (said_by c.in_ok-answer.answer) (sym c.link.ensures))
    ∙ ap (λ (z : SimEnd _). answer_lines c.args.end id (commanded (signer z.link.keys) z.link c.args.command))
    c.x.view_is)) c.pass_on.ensures.told
