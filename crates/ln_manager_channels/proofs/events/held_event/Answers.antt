use Rattle.std.proofs.Common.{◌≡◌, IfOk, true, false, subst}
use Rattle.ln_log.specs.declared.log.Side.TheVariants as side
use Rattle.ln_channel.specs.Pending.{event_in}
use Rattle.ln_manager_channels.specs.Events.{held_update}
use Rattle.ln_manager_channels.proofs.events.held_event.Goals as goal

pub returns-in-Own-clause-event : goal.returns-in-Own-clause-event
returns-in-Own-clause-event c =
    let same : c.log.result.now ≡ c.args.end.now.dance.log =
    c.log.ensures c.args.end.now.dance c.dance.ensures.dance in
    rw c.in-Own.is (subst (λ l. IfOk c.held_at.result
    (λ e. e ≡ event_in true (held_update side.Own c.in-Own.number l))) same c.held_at.ensures.event)

pub returns-in-Peer-clause-event : goal.returns-in-Peer-clause-event
returns-in-Peer-clause-event c =
    let same : c.log-in-Peer.result.now ≡ c.args.end.now.dance.log =
    c.log-in-Peer.ensures c.args.end.now.dance c.dance-in-Peer.ensures.dance in
    rw c.in-Peer.is (subst (λ l. IfOk c.held_at-in-Peer.result
    (λ e. e ≡ event_in false (held_update side.Peer c.in-Peer.number l))) same c.held_at-in-Peer.ensures.event)
