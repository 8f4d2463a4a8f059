use Rattle.std.proofs.Common.{◌∙◌, ap}
use Rattle.ln_log.specs.Log.{Log}
use Rattle.ln_log.specs.RecordForm.{record_form_of}
use Rattle.ln_link.proofs.Written.{base_so}
use Rattle.ln_link.proofs.record.base_of.Goals as goal

pub returns-clause-base : goal.returns-clause-base
returns-clause-base c = λ l s.
    base_so c.args.role (record_form_of l.first l) c.balances-balances.result c.live.result.now c.live-2.result.now
    c.first-own.result c.first-peer.result c.by_roles.result c.by_roles-2.result c.by_roles-3.result c.in_ok-live.live
    (c.balances-balances.ensures l s) (c.live.ensures l s) (c.live-2.ensures l s)
    (c.first-own.ensures.is_the_first ∙ ap (λ (x : Log). x.first.own) s)
    (c.first-peer.ensures.is_the_first ∙ ap (λ (x : Log). x.first.peer) s)
    c.by_roles.ensures c.by_roles-2.ensures c.by_roles-3.ensures c.in_ok-live.ensures.live_htlcs
