use Rattle.ln_log.proofs.Handed.{front_own, front_peer, part_amounts}
use Rattle.ln_log.proofs.window.Window.front.Goals as goal

pub returns-in-Own-clause-updates : goal.returns-in-Own-clause-updates
returns-in-Own-clause-updates c = λ l s. front_own _ _ _ l c.args.end _ _ c.self.view_is c.in-Own.is s
    c.requires.behind_the_base
    c.as_slice.ensures.value c.part.ensures.gives_the_part

pub returns-in-Peer-clause-updates : goal.returns-in-Peer-clause-updates
returns-in-Peer-clause-updates c = λ l s. front_peer _ _ _ l c.args.end _ _ c.self.view_is c.in-Peer.is s
    c.requires.behind_the_base
    c.as_slice-in-Peer.ensures.value c.part-in-Peer.ensures.gives_the_part

pub returns-in-Own-clause-amounts : goal.returns-in-Own-clause-amounts
returns-in-Own-clause-amounts c = part_amounts _ _ _ _ _ _ _ c.self.view_is c.self.invariant.own_amounts
    c.as_slice.ensures.value c.part.ensures.gives_the_part

pub returns-in-Peer-clause-amounts : goal.returns-in-Peer-clause-amounts
returns-in-Peer-clause-amounts c = part_amounts _ _ _ _ _ _ _ c.self.view_is c.self.invariant.peer_amounts
    c.as_slice-in-Peer.ensures.value c.part-in-Peer.ensures.gives_the_part
