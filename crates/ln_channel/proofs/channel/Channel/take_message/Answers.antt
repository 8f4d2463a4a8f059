use Rattle.ln_channel.proofs.Taken.{taken_so, told_so}
use Rattle.ln_channel.proofs.channel.Channel.take_message.Goals as goal

pub returns-in-UpdateAddHtlc-clause-makes : goal.returns-in-UpdateAddHtlc-clause-makes
returns-in-UpdateAddHtlc-clause-makes g c = λ e s.
    let call = c.take_told in
    told_so (g.K.ChannelKeys.signer c.args.keys.now) _ _ e c.args.self.now call.new.self call.result
    c.update_of.ensures c.in-UpdateAddHtlc.is (call.ensures.makes e s)

pub returns-in-CommitmentSigned-clause-makes : goal.returns-in-CommitmentSigned-clause-makes
returns-in-CommitmentSigned-clause-makes g c = λ e s.
    let call = c.take_signature in
    let now = c.args.self.now in
    let known = call.ensures.makes e s in
    let keys = g.K.ChannelKeys.signer c.args.keys.now in
    taken_so keys _ _ e now call.new.self call.result c.in-CommitmentSigned.is known

pub returns-in-RevokeAndAck-clause-makes : goal.returns-in-RevokeAndAck-clause-makes
returns-in-RevokeAndAck-clause-makes g c = λ e s.
    let call = c.take_revocation in
    let now = c.args.self.now in
    let known = call.ensures.makes e s in
    let keys = g.K.ChannelKeys.signer c.args.keys.now in
    taken_so keys _ _ e now call.new.self call.result c.in-RevokeAndAck.is known

pub returns-in-Shutdown-clause-makes : goal.returns-in-Shutdown-clause-makes
returns-in-Shutdown-clause-makes g c = λ e s.
    let call = c.take_shutdown in
    let now = c.args.self.now in
    let known = call.ensures.makes e s in
    let keys = g.K.ChannelKeys.signer c.args.keys.now in
    taken_so keys _ _ e now call.new.self call.result c.in-Shutdown.is known

pub returns-in-ClosingSigned-clause-makes : goal.returns-in-ClosingSigned-clause-makes
returns-in-ClosingSigned-clause-makes g c = λ e s.
    let call = c.take_fee in
    let now = c.args.self.now in
    let known = call.ensures.makes e s in
    let keys = g.K.ChannelKeys.signer c.args.keys.now in
    taken_so keys _ _ e now call.new.self call.result c.in-ClosingSigned.is known
