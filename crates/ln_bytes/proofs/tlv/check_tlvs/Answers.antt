use Rattle.std.proofs.Common.{◌≡◌, ◌≢◌, ◌==◌, [], length, ap, sym, subst, ◌∙◌, arith}
use Rattle.std.proofs.lemmas.Bool.{eqb-true}
use Rattle.std.proofs.lemmas.List.{nil_from_length}
use Rattle.std.proofs.lemmas.Result.{err_from_is_err_and}
use Rattle.ln_bytes.proofs.Reading.{said_itself}
use Rattle.ln_bytes.proofs.Streams.{gets_shorter}
use Rattle.ln_bytes.proofs.Checks.{IsCheckedSoFar, begins_checked, goes_on_checked, faults_checked, ends_checked}
use Rattle.ln_bytes.proofs.tlv.check_tlvs.Goals as goal

pub loop-rest-init : goal.loop-rest-init
loop-rest-init c = begins_checked c.args.known_even.now c.args.lengths.now c.args.bytes.now
    (λ i. omega (arith, c.type_inv.bytes i))

pub returns-in_err-typ : goal.returns-in_err-typ
returns-in_err-typ c =
    let p = err_from_is_err_and c.from_residual.result c.from_residual.ensures.1 in
    let some : c.loop-rest.rest.now ≢ [] = λ e.
    let none = c.loop-rest-test.ensures ∙ ap (λ l. length l == 0) e in
    absurd cc in
    rw (p.1, p.2) (sym (faults_checked c.args.known_even.now c.args.lengths.now c.args.bytes.now c.loop-rest.fits
    c.loop-rest.before c.loop-rest.rest.now c.in_err-typ.field-0.0 c.loop-rest.invariant some
    (said_itself c.in_err-typ.ensures)))

pub loop-rest-smaller : goal.loop-rest-smaller
loop-rest-smaller c =
    gets_shorter c.args.known_even.now c.loop-rest.before c.loop-rest.rest.now
    (record { typ = c.in_ok-typ.typ; value = c.in_ok-typ.value.now }) c.in_ok-typ.after.now
    c.loop-rest.invariant.so_far.rest_fits c.in_ok-typ.ensures

pub loop-rest-preserved : goal.loop-rest-preserved
loop-rest-preserved c =
    goes_on_checked c.args.known_even.now c.args.lengths.now c.args.bytes.now c.loop-rest.fits c.has_length-fits.result
    c.loop-rest.before c.loop-rest.rest.now (record { typ = c.in_ok-typ.typ; value = c.in_ok-typ.value.now })
    c.in_ok-typ.after.now c.loop-rest.invariant c.in_ok-typ.ensures c.has_length-fits.ensures

pub returns : goal.returns
returns c =
    let none : c.loop-rest.rest.now ≡ [] = nil_from_length _ (eqb-true _ _ (sym c.loop-rest-test.ensures)) in
    sym (ends_checked c.args.known_even.now c.args.lengths.now c.args.bytes.now c.loop-rest.fits c.loop-rest.before
    (subst (IsCheckedSoFar c.args.known_even.now c.args.lengths.now c.args.bytes.now c.loop-rest.fits
    c.loop-rest.before) none c.loop-rest.invariant))
