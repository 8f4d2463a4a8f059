use Rattle.std.proofs.Common.{ap, sym, ◌∙◌}
use Rattle.ln_log.specs.Kept.{live_base}
use Rattle.ln_log.proofs.Handed.{own_live_htlcs, peer_live_htlcs}
use Rattle.ln_log.proofs.window.Window.live.Goals as goal

pub returns-in-Own : goal.returns-in-Own
returns-in-Own c = λ l s.
    own_live_htlcs _ _ l _ _ c.self.view_is s c.as_slice.ensures.value c.part.ensures.gives_the_part
    ∙ ap (λ x. live_base x c.args.self.now l) (sym c.in-Own.is)

pub returns-in-Peer : goal.returns-in-Peer
returns-in-Peer c = λ l s.
    peer_live_htlcs _ _ l _ _ c.self.view_is s c.as_slice-in-Peer.ensures.value c.part-in-Peer.ensures.gives_the_part
    ∙ ap (λ x. live_base x c.args.self.now l) (sym c.in-Peer.is)
