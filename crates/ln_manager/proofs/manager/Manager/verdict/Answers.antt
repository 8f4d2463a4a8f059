use Rattle.std.proofs.Common.{◌∙◌, refl, subst}
use Rattle.std.specs.Prelude.{is_ok}
use Rattle.ln_manager_channels.specs.Calls as call
use Rattle.ln_manager.specs.Leads.{Leads, LeadsBy}
use Rattle.ln_manager.specs.Managed.{Managed}
use Rattle.ln_manager.proofs.Changed.{decide_one}
use Rattle.ln_manager.proofs.Leading.{by_call, not_done, seen, then}
use Rattle.ln_manager.proofs.manager.Manager.verdict.Goals as goal

pub invariant_of-self-2 : goal.invariant_of-self-2
invariant_of-self-2 g c =
    c.batch-batched.ensures.leaves_none_out c.self.inside.channels.parts.records
    (decide_one g.K.ChannelKeys.signer c.args.channel (g.O.Onion.services c.self.inside.onion) c.args.verdict
    c.self.inside.channels.parts c.decide-decided.new.self.parts c.decide-decided.ensures.enters_this_call)
    c.self.invariant

pub returns-in_err-mark-clause-decides : goal.returns-in_err-mark-clause-decides
returns-in_err-mark-clause-decides g c = λ works.
    subst (λ (m : Managed _ _). LeadsBy g.K.ChannelKeys.signer
    (call.Decide (g.O.Onion.services m.onion) c.args.channel c.args.verdict)
    (is_ok c.from_residual-in_err-mark.result) m.channels
    c.batch-batched.new.channels) c.self.view_is
    (by_call g.K.ChannelKeys.signer (call.Decide (g.O.Onion.services c.self.inside.onion) c.args.channel c.args.verdict)
    (is_ok c.from_residual-in_err-mark.result) _ c.self.inside.channels c.decide-decided.new.self
    c.batch-batched.new.channels refl
    c.decide-decided.ensures.beginning_stays c.decide-decided.ensures.enters_this_call
    (λ done. absurd (not_done c.from_residual-in_err-mark.result c.from_residual-in_err-mark.ensures.0 done))
    c.batch-batched.ensures.leads_on)

pub returns-clause-decides : goal.returns-clause-decides
returns-clause-decides g c = λ works.
    subst (λ (m : Managed _ _). LeadsBy g.K.ChannelKeys.signer
    (call.Decide (g.O.Onion.services m.onion) c.args.channel c.args.verdict) (is_ok c.decided_by.result) m.channels
    c.decided_by.new.self.channels) c.self.view_is
    (by_call g.K.ChannelKeys.signer (call.Decide (g.O.Onion.services c.self.inside.onion) c.args.channel c.args.verdict)
    (is_ok c.decided_by.result) _ c.self.inside.channels c.decide-decided.new.self c.decided_by.new.self.channels refl
    c.decide-decided.ensures.beginning_stays c.decide-decided.ensures.enters_this_call
    (λ done. (_, c.in_ok-mark.ensures.decides))
    (then g.K.ChannelKeys.signer _ _ _ c.batch-batched.ensures.leads_on
    (subst (λ p. Leads g.K.ChannelKeys.signer p c.decided_by.new.self.channels)
    (seen _ _ c.self-2.view_is ∙ c.set_out.ensures.channels_stay) c.decided_by.ensures.leads_on)))
