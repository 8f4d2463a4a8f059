use Rattle.std.proofs.Common.{◌≡◌, true, subst, sym}
use Rattle.ln_bytes.specs.ShortId.{IsPlain}
use Rattle.ln_script.proofs.Words.{not_plain, number_is}
use Rattle.ln_script.proofs.word.decimal_of.Goals as goal

pub returns-then-not-begins_plainly : goal.returns-then-not-begins_plainly
returns-then-not-begins_plainly c =
    let other : IsPlain c.args.word.now → ⊥ = λ plain.
    let yes : c.begins_plainly.result ≡ true = c.begins_plainly.ensures.1
    (subst IsPlain (sym c.as_bytes.ensures.value) plain) in
    let no = c.if-not-begins_plainly.true in
    absurd cc in
    sym (not_plain c.args.word.now other)

pub returns : goal.returns
returns c =
    let plain : IsPlain c.args.word.now = subst IsPlain c.as_bytes.ensures.value
    (c.begins_plainly.ensures.0 c.if-not-begins_plainly.false) in
    number_is c.args.word.now c.parse.result c.ok.result c.ok.ensures.value c.parse.ensures.value.0 plain
