use Rattle.std.proofs.Common.{refl, subst}
use Rattle.std.specs.Prelude.{is_ok}
use Rattle.ln_manager_channels.specs.Calls as call
use Rattle.ln_manager.specs.Leads.{LeadsBy}
use Rattle.ln_manager.specs.Managed.{Managed}
use Rattle.ln_manager.proofs.Changed.{resume_one}
use Rattle.ln_manager.proofs.Leading.{by_call, not_done, then}
use Rattle.ln_manager.proofs.manager.Manager.resume.Goals as goal

pub invariant_of-self-2 : goal.invariant_of-self-2
invariant_of-self-2 g c =
    c.batch-batched.ensures.leaves_none_out c.self.inside.channels.parts.records
    (resume_one g.K.ChannelKeys.signer c.args.channel (g.O.Onion.services c.self.inside.onion) c.args.event
    c.args.verdict c.self.inside.channels.parts c.resume-decided.new.self.parts
    c.resume-decided.ensures.enters_this_call) c.self.invariant

pub returns-in_err-mark-clause-resumes : goal.returns-in_err-mark-clause-resumes
returns-in_err-mark-clause-resumes g c = λ works.
    subst (λ (m : Managed _ _). LeadsBy g.K.ChannelKeys.signer
    (call.Resume (g.O.Onion.services m.onion) c.args.channel c.args.event c.args.verdict)
    (is_ok c.from_residual.result) m.channels
    c.batch-batched.new.channels) c.self.view_is
    (by_call g.K.ChannelKeys.signer
    (call.Resume (g.O.Onion.services c.self.inside.onion) c.args.channel c.args.event c.args.verdict)
    (is_ok c.from_residual.result) _ c.self.inside.channels c.resume-decided.new.self c.batch-batched.new.channels refl
    c.resume-decided.ensures.beginning_stays c.resume-decided.ensures.enters_this_call
    (λ done. absurd (not_done c.from_residual.result c.from_residual.ensures.0 done))
    c.batch-batched.ensures.leads_on)

pub returns-clause-resumes : goal.returns-clause-resumes
returns-clause-resumes g c = λ works.
    subst (λ (m : Managed _ _). LeadsBy g.K.ChannelKeys.signer
    (call.Resume (g.O.Onion.services m.onion) c.args.channel c.args.event c.args.verdict) (is_ok c.decided_by.result)
    m.channels
    c.decided_by.new.self.channels) c.self.view_is
    (by_call g.K.ChannelKeys.signer
    (call.Resume (g.O.Onion.services c.self.inside.onion) c.args.channel c.args.event c.args.verdict)
    (is_ok c.decided_by.result) _ c.self.inside.channels c.resume-decided.new.self c.decided_by.new.self.channels refl
    c.resume-decided.ensures.beginning_stays c.resume-decided.ensures.enters_this_call
    (λ done. (_, c.in_ok-mark.ensures.resumes))
    (then g.K.ChannelKeys.signer _ _ _ c.batch-batched.ensures.leads_on c.decided_by.ensures.leads_on))
