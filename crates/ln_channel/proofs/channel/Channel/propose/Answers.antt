use Rattle.std.proofs.Common.{subst, sym, ◌∙◌, Option}
use Rattle.ln_refusals.specs.declared.refusal.Refusal.{Refusal}
use Rattle.ln_log.specs.Limits.{first_fault}
use Rattle.ln_log.specs.Log.{proposal_fault}
use Rattle.ln_channel.specs.Opening.{AnswersFault}
use Rattle.ln_channel.proofs.channel.Channel.propose.Goals as goal

pub returns-in-None-clause-refuses_exactly : goal.returns-in-None-clause-refuses_exactly
returns-in-None-clause-refuses_exactly c = λ e s.
    subst (λ (o : Option Refusal). AnswersFault (first_fault o (proposal_fault e.dance.log c.args.update))
    c.propose_next.result) (sym c.in-None.is ∙ c.own_refusal.ensures e s) (c.propose_next.ensures.refuses_exactly e s)
