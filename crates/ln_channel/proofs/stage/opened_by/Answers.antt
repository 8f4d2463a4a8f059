use Rattle.std.proofs.Common.{false}
use Rattle.ln_msgs.specs.Messages.Apart.{open_in, accept_in}
use Rattle.ln_channel.specs.Step.{open_at, accept_at}
use Rattle.ln_channel.proofs.Taken.{opened_so, asked_so}
use Rattle.ln_channel.proofs.stage.opened_by.Goals as goal

pub returns-in-OpenChannel : goal.returns-in-OpenChannel
returns-in-OpenChannel g c = λ s stands.
    let keys = g.K.ChannelKeys.signer c.args.keys.now in
    let call = c.opened_by_open in
    opened_so keys c.args.connection _ _ s call.new.stage call.result c.in-OpenChannel.is
    (asked_so (open_at keys c.args.connection) open_in false c.args.connection _ _ _ s call.new.stage call.result
    c.into_open.ensures c.in-OpenChannel.is (call.ensures s stands))

pub returns-in-AcceptChannel : goal.returns-in-AcceptChannel
returns-in-AcceptChannel g c = λ s stands.
    let keys = g.K.ChannelKeys.signer c.args.keys.now in
    let call = c.opened_by_accept in
    opened_so keys c.args.connection _ _ s call.new.stage call.result c.in-AcceptChannel.is
    (asked_so (accept_at keys c.args.connection) accept_in false c.args.connection _ _ _ s call.new.stage call.result
    c.into_accept.ensures c.in-AcceptChannel.is (call.ensures s stands))

pub returns-in-FundingCreated : goal.returns-in-FundingCreated
returns-in-FundingCreated g c = λ s stands.
    opened_so (g.K.ChannelKeys.signer c.args.keys.now) c.args.connection _ _ s c.opened_by_created.new.stage
    c.opened_by_created.result c.in-FundingCreated.is (c.opened_by_created.ensures s stands)

pub returns-in-FundingSigned : goal.returns-in-FundingSigned
returns-in-FundingSigned g c = λ s stands.
    opened_so (g.K.ChannelKeys.signer c.args.keys.now) c.args.connection _ _ s c.opened_by_signed.new.stage
    c.opened_by_signed.result c.in-FundingSigned.is (c.opened_by_signed.ensures s stands)
