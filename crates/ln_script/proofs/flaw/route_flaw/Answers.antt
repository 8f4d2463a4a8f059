use Rattle.std.proofs.Common.{sym, ◌∙◌}
use Rattle.ln_script.proofs.Flaws.{last_words}
use Rattle.ln_script.proofs.flaw.route_flaw.Goals as goal

pub returns-in_default-rest : goal.returns-in_default-rest
returns-in_default-rest c =
    c.flaw_among.ensures ∙ last_words c.hops.rest.now c.in_default.len_below c.in_default-rest.len_at_least
    ∙ sym c.hops.invariant
