use Rattle.std.proofs.Common.{sym, ap}
use Rattle.ln_manager_channels.proofs.Obeyed.{resumes_so}
use Rattle.ln_manager_channels.proofs.parts.ChannelParts.resume.Goals as goal

pub returns-in-Ok-clause-resumes : goal.returns-in-Ok-clause-resumes
returns-in-Ok-clause-resumes g c = resumes_so g.K.ChannelKeys.signer (g.O.Onion.services c.args.onion.now)
    c.args.channel
    (record {
      links = c.args.self.now.links.items;
      records = c.args.self.now.records.items;
      book = c.args.self.now.book;
    })
    _ _ c.in-Some.id c.args.event c.args.verdict c.in-Ok.mark c.obey_due-given.result
    (record {
      links = c.args.self.now.links.items;
      records = c.args.self.now.records.items;
      book = c.resume.new.self;
    })
    (sym c.in-Some.ensures) c.in-Ok.ensures.answers_the_mark
    (ap (λ b. record {
      links = c.args.self.now.links.items;
      records = c.args.self.now.records.items;
      book = b;
    }) c.in-Ok.ensures.enters_what_is_resumed)
    c.obey_due-given.ensures.concludes
