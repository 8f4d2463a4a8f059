use Rattle.std.proofs.Common.{◌≡◌, true, subst, sym, ◌∙◌}
use Rattle.ln_bytes.specs.ShortId.{IsPlain}
use Rattle.ln_bytes.proofs.ShortIds.{plain_from_decimal, number_is}
use Rattle.ln_bytes.proofs.short_id.number.Goals as goal

pub returns-then-not-begins_plainly : goal.returns-then-not-begins_plainly
returns-then-not-begins_plainly c = λ n below e.
    let plain : IsPlain c.as_bytes.result.now = subst IsPlain (sym (c.as_bytes.ensures.value ∙ e))
    (plain_from_decimal n below) in
    let yes : c.begins_plainly.result ≡ true = c.begins_plainly.ensures.1 plain in
    let no = c.if-not-begins_plainly.true in
    cc

pub returns : goal.returns
returns c =
    let plain : IsPlain c.args.text.now = subst IsPlain c.as_bytes.ensures.value
    (c.begins_plainly.ensures.0 c.if-not-begins_plainly.false) in
    number_is c.args.text.now c.parse.result c.ok.result c.ok.ensures.value c.parse.ensures.value.0 plain
