use Rattle.std.proofs.Common.{◌∙◌, ap, subst}
use Rattle.ln_log.specs.RecordForm.{record_form_of}
use Rattle.ln_close.specs.declared.closing.Closing.{Closing}
use Rattle.ln_channel.specs.End.{End, IsSound}
use Rattle.ln_link.specs.Record.{base_of, window_of}
use Rattle.ln_link.proofs.Written.{updates_so}
use Rattle.ln_link.proofs.record.updates_of.Goals as goal

pub returns-clause-updates : goal.returns-clause-updates
returns-clause-updates c = λ e s.
    let log = c.log_of-log.ensures.log e s in
    let closing = c.closing-role.ensures ∙ ap (λ (x : End). x.closing) s in
    let l = e.dance.log in
    updates_so (record {
      base = c.in_ok-base_of.field-0;
      window = c.window_of.result;
      pairs = c.pairs_of.result;
    }) e c.in_ok-own.own.items c.in_ok-received.received.items (subst IsSound s c.log_of-log.ensures.fits_together)
    (c.pairs_of.ensures.can_be_restored l log)
    (c.in_ok-base_of.ensures.base l log
    ∙ ap (λ (x : Closing). base_of (record (record_form_of l.first l) { role = x.role })) closing)
    (c.window_of.ensures
    ∙ ap (λ (x : Closing). window_of x.role c.in_ok-own.own.items c.in_ok-received.received.items) closing)
    (c.in_ok-own.ensures.updates l log) (c.in_ok-received.ensures.updates l log) (c.pairs_of.ensures.pairs l log)

pub returns-clause-can_be_restored : goal.returns-clause-can_be_restored
returns-clause-can_be_restored c = λ e s. c.pairs_of.ensures.can_be_restored e.dance.log (c.log_of-log.ensures.log e s)
