use Rattle.ln_channel.proofs.Taken.{known_so}
use Rattle.ln_channel.proofs.channel.Channel.take_told.Goals as goal

pub returns-in-Some-clause-makes : goal.returns-in-Some-clause-makes
returns-in-Some-clause-makes c = λ e s.
    known_so _ _ e c.args.self.now c.take_update.new.self c.take_update.result c.in-Some.is
    (c.take_update.ensures.makes e s)
