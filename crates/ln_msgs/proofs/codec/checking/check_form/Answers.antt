use Rattle.std.proofs.Common.{ℕ, List, Result, map, ap, sym, ◌∙◌}
use Rattle.std.proofs.lemmas.Result.{err_from_is_err_and}
use Rattle.ln_bytes.specs.Reading.{◌>>=◌}
use Rattle.ln_bytes.specs.declared.fault.Fault.{Fault}
use Rattle.ln_bytes.proofs.Reading.{said_itself}
use Rattle.ln_msgs.specs.declared.messages.form.Form.{Form}
use Rattle.ln_msgs.specs.Codec.Checking.{behind_fields, checked_records_at}
use Rattle.ln_msgs.specs.Messages.Forms.{kind_of}
use Rattle.ln_msgs.proofs.Checking.{form_checked}
use Rattle.ln_msgs.proofs.codec.checking.check_form.Goals as goal

-- what is left to check of a row after what was passed of its fields
abbrev records_behind : Form → Result (List ℕ) Fault → Result (Unit {0}) Fault
records_behind form r = r >>= checked_records_at form.known_even.now form.lengths.now

abbrev fields_behind : Form → Result (List ℕ) Fault → Result (List ℕ) Fault
fields_behind form r = r >>= behind_fields (map kind_of form.others.now)

pub returns-in_err-rest : goal.returns-in_err-rest
returns-in_err-rest c = λ row typ is.
    let p = err_from_is_err_and c.from_residual.result c.from_residual.ensures.1 in
    let form = c.args.form.now in
    rw (p.1, p.2) (sym (form_checked row form typ c.args.payload.now is
    ∙ ap (λ r. records_behind form (fields_behind form r)) (said_itself c.in_err-rest.ensures)))

pub returns-in_err-rest-2 : goal.returns-in_err-rest-2
returns-in_err-rest-2 c = λ row typ is.
    let p = err_from_is_err_and c.from_residual-in_err-rest-2.result c.from_residual-in_err-rest-2.ensures.1 in
    let form = c.args.form.now in
    rw (p.1, p.2) (sym (form_checked row form typ c.args.payload.now is
    ∙ ap (λ r. records_behind form (fields_behind form r)) c.in_ok-rest.ensures
    ∙ ap (records_behind form) (said_itself c.in_err-rest-2.ensures)))

pub returns : goal.returns
returns c = λ row typ is.
    let form = c.args.form.now in
    c.check_records.ensures ∙ sym (form_checked row form typ c.args.payload.now is
    ∙ ap (λ r. records_behind form (fields_behind form r)) c.in_ok-rest.ensures
    ∙ ap (records_behind form) c.in_ok-rest-2.ensures)
