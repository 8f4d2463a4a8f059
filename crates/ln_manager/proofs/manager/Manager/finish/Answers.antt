use Rattle.std.proofs.Common.{sym, subst}
use Rattle.ln_manager.specs.Leads.{Leads}
use Rattle.ln_manager.specs.Managed.{Managed}
use Rattle.ln_manager.proofs.Leading.{then}
use Rattle.ln_manager.proofs.manager.Manager.finish.Goals as goal
use Rattle.ln_manager.proofs.manager.Manager.finish.Goals.{in-Ok, in-Err}

pub returns-clause-leads_on : goal.returns-clause-leads_on
returns-clause-leads_on g c =
    let from = λ (m : Managed _ _). Leads g.K.ChannelKeys.signer c.args.self.now.channels m.channels in
    let handed : Leads g.K.ChannelKeys.signer c.args.self.now.channels c.match-answer.self.channels =
    elim c.match-answer.branch [
      | in-Ok w ↦ subst from (sym w.self-is) w.after-done.ensures.leads_on
      | in-Err w ↦ subst from (sym w.self-is) w.refused.ensures.leads_on
    ] in
    then g.K.ChannelKeys.signer _ _ _ handed c.go_on.ensures.leads_on
