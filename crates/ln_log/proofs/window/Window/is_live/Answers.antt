use Rattle.std.proofs.Common.{◌&&◌, sym, ap, ◌∙◌, subst}
use Rattle.ln_log.specs.Updates.{is_some, add_with, is_live, outcome}
use Rattle.ln_log.specs.Kept.{Kept, IsWindowOf}
use Rattle.ln_log.proofs.Handed.{live_is}
use Rattle.ln_log.proofs.window.Window.is_live.Goals as goal

pub returns : goal.returns
returns c = λ l s lt.
    c.find_live.ensures
    ∙ ap (λ x. is_live (outcome c.args.id c.as_slice-2.result.now) && is_some (add_with c.args.id x))
    c.as_slice.ensures.value
    ∙ ap (λ x. is_live (outcome c.args.id x) && is_some (add_with c.args.id c.self.inside.received.items))
    c.as_slice-2.ensures.value
    ∙ sym (live_is _ l c.args.id (subst (λ (k : Kept). IsWindowOf k l) (sym c.self.view_is) s) lt)
