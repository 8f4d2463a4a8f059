use Rattle.std.proofs.Common.{sym, ◌∙◌}
use Rattle.std.proofs.lemmas.Result.{err_from_is_err_and}
use Rattle.ln_msgs.specs.Messages.Table.{form_of}
use Rattle.ln_msgs.specs.Messages.Message.{payload_at}
use Rattle.ln_msgs.proofs.Serving.{asks_nothing, asks_in_vain}
use Rattle.ln_msgs.proofs.pings.answer.other_asks.Goals as goal

pub returns-in_err-check_payload-clause-reads_what_is_owed : goal.returns-in_err-check_payload-clause-reads_what_is_owed
returns-in_err-check_payload-clause-reads_what_is_owed c =
    let p = err_from_is_err_and c.from_residual.result c.from_residual.ensures.1 in
    rw (p.1, p.2) (sym (asks_in_vain (payload_at (form_of c.args.typ) c.args.typ c.args.payload.now)
    c.in_err-check_payload.field-0.0 (sym c.check_payload.ensures ∙ c.in_err-check_payload.was)))

pub returns-clause-reads_what_is_owed : goal.returns-clause-reads_what_is_owed
returns-clause-reads_what_is_owed c = sym (asks_nothing (form_of c.args.typ) c.args.typ c.args.payload.now c.requires
    (sym c.check_payload.ensures ∙ c.in_ok-check_payload.was))
