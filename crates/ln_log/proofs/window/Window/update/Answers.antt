use Rattle.ln_log.proofs.Handed.{update_own, update_peer, update_amount}
use Rattle.ln_log.proofs.window.Window.update.Goals as goal

pub returns-in-Own-clause-update : goal.returns-in-Own-clause-update
returns-in-Own-clause-update c = λ l s. update_own _ _ _ l c.args.number _ _ c.self.view_is c.in-Own.is s
    c.as_slice.ensures.value c.nth_behind.ensures

pub returns-in-Own-clause-amount : goal.returns-in-Own-clause-amount
returns-in-Own-clause-amount c = update_amount _ _ _ _ _ _ _ _ c.self.view_is c.self.invariant.own_amounts
    c.as_slice.ensures.value c.nth_behind.ensures

pub returns-in-Peer-clause-update : goal.returns-in-Peer-clause-update
returns-in-Peer-clause-update c = λ l s. update_peer _ _ _ l c.args.number _ _ c.self.view_is c.in-Peer.is s
    c.as_slice-in-Peer.ensures.value c.nth_behind-in-Peer.ensures

pub returns-in-Peer-clause-amount : goal.returns-in-Peer-clause-amount
returns-in-Peer-clause-amount c = update_amount _ _ _ _ _ _ _ _ c.self.view_is c.self.invariant.peer_amounts
    c.as_slice-in-Peer.ensures.value c.nth_behind-in-Peer.ensures
