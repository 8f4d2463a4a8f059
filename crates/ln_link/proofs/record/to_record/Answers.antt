use Rattle.std.proofs.Common.{refl, sym, ◌∙◌, ap, inr}
use Rattle.ln_store.specs.Readable.{is_readable}
use Rattle.ln_link.specs.Record.{NoRecord}
use Rattle.ln_link.proofs.record.to_record.Goals as goal

-- they are the end's
pub returns-in-Ok-true-clause-record : goal.returns-in-Ok-true-clause-record
returns-in-Ok-true-clause-record c = λ e s. c.new.ensures ∙ c.in_ok-items.ensures.items e s

-- the items are readable
pub returns-in-Ok-true-clause-has_record : goal.returns-in-Ok-true-clause-has_record
returns-in-Ok-true-clause-has_record c = λ e s.
    c.in_ok-items.ensures.has_record_if_readable e s
    (ap is_readable (sym (c.in_ok-items.ensures.items e s))
    ∙ sym c.in-Ok-true.ensures.tells_it ∙ c.in-Ok-true.field-0-test)

-- the items aren't readable
pub returns-in-Ok-false-clause-fails : goal.returns-in-Ok-false-clause-fails
unfolding NoRecord
returns-in-Ok-false-clause-fails c = λ e s.
    inr (
      refl,
      inr (
        c.in_ok-items.ensures.log_can_be_restored e s,
        ap is_readable (sym (c.in_ok-items.ensures.items e s))
            ∙ sym c.in-Ok-false.ensures.tells_it ∙ c.in-Ok-false.field-0-test,
      ),
    )
