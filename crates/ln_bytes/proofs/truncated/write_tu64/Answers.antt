use Rattle.std.proofs.Common.{List, ℕ, ◌++◌, length, drop, sym, ◌∙◌, ap}
use Rattle.byteorder.specs.Numbers.{length-bytes_high_first}
use Rattle.ln_bytes.proofs.Zeros.{as_bytes}
use Rattle.ln_bytes.proofs.truncated.write_tu64.Goals as goal

pub returns-then-len-gt0-clause-counts_its_bytes : goal.returns-then-len-gt0-clause-counts_its_bytes
returns-then-len-gt0-clause-counts_its_bytes c =
    let k = c.byte_len-len.result in
    sym (ap length (as_bytes k c.args.number c.byte_len-len.ensures.is_eight_at_most
    c.byte_len-len.ensures.holds_the_number c.byte_len-len.ensures.leaves_no_zero_in_front)
    ∙ length-bytes_high_first k c.args.number)

pub returns-then-len-gt0-clause-writes_the_spelling : goal.returns-then-len-gt0-clause-writes_the_spelling
returns-then-len-gt0-clause-writes_the_spelling c =
    let k = c.byte_len-len.result in
    c.write_uint.ensures ∙ ap (λ (x : List ℕ). x ++ drop k c.args.out.now)
    (sym (as_bytes k c.args.number c.byte_len-len.ensures.is_eight_at_most c.byte_len-len.ensures.holds_the_number
    c.byte_len-len.ensures.leaves_no_zero_in_front))
