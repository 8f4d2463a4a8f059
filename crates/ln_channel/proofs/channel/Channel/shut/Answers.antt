use Rattle.std.proofs.Common.{refl, rules}
use Rattle.ln_channel.proofs.channel.Channel.shut.Goals as goal

pub returns-clause-makes : goal.returns-clause-makes
returns-clause-makes g c =
    let m = c.in_ok-message.ensures.message _ refl in
    let s = c.in_ok-end_turn.ensures.sent _ refl in
    let t = c.in_ok-end_turn.ensures.state _ refl in
    search rules
