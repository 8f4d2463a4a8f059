use Rattle.std.proofs.Common.{refl, sym, ◌∙◌}
use Rattle.ln_log.specs.Log as log
use Rattle.ln_node_loops.proofs.Unsigned.{unsigned_by}
use Rattle.ln_node_loops.proofs.signing.sign_refusal.Goals as goal

pub returns-in-Some : goal.returns-in-Some
returns-in-Some c =
    let d = c.args.dance.now in
    unsigned_by _ (log.sign_fault d.log) _ c.in-Some.refusal _ (sym (c.owes.ensures.owes d refl) ∙ c.if-owes.false)
    (sym (c.sign_refusal.ensures d.log (c.log.ensures d refl)) ∙ c.in-Some.is)
