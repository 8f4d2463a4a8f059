use Rattle.ln_log.specs.RecordForm.{record_form, IsRestorable}
use Rattle.ln_log.proofs.Readable.{mapped}
use Rattle.ln_log.proofs.Restored.{restorable_by}
use Rattle.ln_log.proofs.log.UpdateLog.can_be_loaded.Goals as goal

pub returns-clause-tells_it : goal.returns-clause-tells_it
returns-clause-tells_it c = mapped c.views_are_lawful.result (λ b h. (
  (λ e. restorable_by (record_form c.args.opening.now c.args.role c.args.base.now c.args.own.now c.args.received.now
      c.args.coverage.now) (c.are_in_place.ensures.0 c.if-not-are_in_place.false) (h.0 e)),
  (λ (r : IsRestorable _). h.1 (r.signed, r.acknowledged, r.current)),
)) c.views_are_lawful.ensures.tells_it
