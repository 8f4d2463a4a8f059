use Rattle.ln_log.proofs.Handed.{between_own, between_peer, between_fresh, part_amounts}
use Rattle.ln_log.proofs.window.Window.between.Goals as goal

pub returns-in-Own-clause-updates : goal.returns-in-Own-clause-updates
returns-in-Own-clause-updates c = λ l s. between_own _ _ _ l c.args.from c.args.to _ _ c.self.view_is c.in-Own.is s
    c.requires.not_before_the_first c.requires.ordered c.as_slice.ensures.value c.part.ensures.gives_the_part

pub returns-in-Own-clause-amounts : goal.returns-in-Own-clause-amounts
returns-in-Own-clause-amounts c = part_amounts _ _ _ _ _ _ _ c.self.view_is c.self.invariant.own_amounts
    c.as_slice.ensures.value c.part.ensures.gives_the_part

pub returns-in-Peer-clause-updates : goal.returns-in-Peer-clause-updates
returns-in-Peer-clause-updates c = λ l s. between_peer _ _ _ l c.args.from c.args.to _ _ c.self.view_is c.in-Peer.is s
    c.requires.not_before_the_first c.requires.ordered c.as_slice-in-Peer.ensures.value
    c.part-in-Peer.ensures.gives_the_part

pub returns-in-Peer-clause-amounts : goal.returns-in-Peer-clause-amounts
returns-in-Peer-clause-amounts c = part_amounts _ _ _ _ _ _ _ c.self.view_is c.self.invariant.peer_amounts
    c.as_slice-in-Peer.ensures.value c.part-in-Peer.ensures.gives_the_part

pub returns-in-Own-clause-not_removed_before : goal.returns-in-Own-clause-not_removed_before
returns-in-Own-clause-not_removed_before c = λ l s.
    between_fresh c.args.side _ l c.args.from c.args.to _ s c.requires.not_before_the_first
    (returns-in-Own-clause-updates c l s)

pub returns-in-Peer-clause-not_removed_before : goal.returns-in-Peer-clause-not_removed_before
returns-in-Peer-clause-not_removed_before c = λ l s.
    between_fresh c.args.side _ l c.args.from c.args.to _ s c.requires.not_before_the_first
    (returns-in-Peer-clause-updates c l s)
