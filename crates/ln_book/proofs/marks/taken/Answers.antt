use Rattle.std.proofs.Common.{◌≡◌, ◌∙◌, sym, subst, Option, Some, None, Err, IfOk}
use Rattle.ln_forward.specs.declared.failure.Failure.{Failure}
use Rattle.ln_forward.specs.Checks.{answer_of}
use Rattle.ln_book_tables.specs.declared.entry.Invoice.{Invoice}
use Rattle.ln_book_tables.specs.declared.htlc.Offer.{Offer}
use Rattle.ln_keys.specs.Services.{Services}
use Rattle.ln_book.specs.Marks.{failed, final_mark}
use Rattle.ln_book.proofs.marks.taken.Goals as goal

-- where there is a failure it is failed so
failed_so : (s : Services) (o : Offer) (i : Option Invoice) (x : Option Failure) (f : Failure) → answer_of x ≡ Err f
    → failed s o f ≡ final_mark s o i x
failed_so s o i None f e = absurd cc
failed_so s o i (Some g) f e = cc

pub returns-in-Err-clause-mark : goal.returns-in-Err-clause-mark
returns-in-Err-clause-mark g c =
    subst (λ x. IfOk c.failed.result (λ m. m ≡ x))
    (failed_so (g.O.Onion.services c.args.onion.now) c.args.offer.now _ _ _
    (sym c.check_taken.ensures ∙ c.in-Err.is))
    c.failed.ensures.mark
