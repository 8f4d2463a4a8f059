use Rattle.std.proofs.Common.{◌≡◌, sym, subst, ap, ◌∙◌}
use Rattle.ln_log.specs.Updates.{add_with}
use Rattle.ln_log.specs.Limits.{removable}
use Rattle.ln_log.specs.Kept.{Kept, IsWindowOf, peer_base}
use Rattle.ln_log.proofs.Handed.{own_found}
use Rattle.ln_log.proofs.window.Window.own_htlc.Goals as goal

pub returns : goal.returns
returns c = λ l s.
    c.find_add.ensures ∙ ap (add_with c.args.id) c.as_slice.ensures.value
    ∙ own_found _ l c.args.id (subst (λ (k : Kept). IsWindowOf k l) (sym c.self.view_is) s)
    ∙ ap (λ (k : Kept). removable c.args.id (peer_base k l) l.own) c.self.view_is
