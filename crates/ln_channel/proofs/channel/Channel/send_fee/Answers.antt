use Rattle.ln_channel.proofs.channel.Channel.send_fee.Goals as goal

pub returns-clause-sent : goal.returns-clause-sent
returns-clause-sent g c = λ e s. rw (← c.in_ok-message.ensures.message e s) c.send.ensures.sent
