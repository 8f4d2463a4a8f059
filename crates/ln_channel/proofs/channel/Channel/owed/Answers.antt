use Rattle.std.proofs.Common.{ap, ◌∙◌}
use Rattle.ln_dance.specs.Resume.{resume_fault}
use Rattle.ln_channel.specs.End.{End}
use Rattle.ln_channel.proofs.Accepting.{within}
use Rattle.ln_channel.proofs.channel.Channel.owed.Goals as goal

pub returns-clause-refuses_exactly : goal.returns-clause-refuses_exactly
returns-clause-refuses_exactly g c = λ e s.
    within (resume_fault (g.K.ChannelKeys.signer c.args.keys.now) c.args.message.now e.dance) c.resume.result
    (c.resume.ensures.refuses_exactly e.dance (ap (λ (x : End). x.dance) (c.self.view_is ∙ s)))
