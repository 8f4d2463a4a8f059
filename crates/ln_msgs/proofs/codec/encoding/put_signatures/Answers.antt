use Rattle.std.proofs.Common.{[], ◌++◌, ap, sym, ◌∙◌, append_assoc, arith, get_or, take}
use Rattle.std.specs.List.{concat}
use Rattle.ln_msgs.proofs.Sums.{concat_more, length-concat, all-by_index}
use Rattle.ln_msgs.proofs.codec.encoding.put_signatures.Goals as goal

pub overflow_cast-count : goal.overflow_cast-count
overflow_cast-count c = omega (arith, length-concat 64 c.args.list.now c.told-list, c.count.ensures, c.requires)

pub loop-signature-preserved : goal.loop-signature-preserved
loop-signature-preserved c =
    let i = c.loop-signature.signature-index in
    let xs = c.args.list.now in
    let next = get_or xs i [] in
    c.in_ok-extend_from_slice-2.ensures.items ∙ ap (λ l. l ++ next) c.loop-signature.invariant
    ∙ append_assoc c.extend_from_slice.new.self.items (concat (take i xs)) next
    ∙ ap (λ l. c.extend_from_slice.new.self.items ++ l) (sym (concat_more xs i [] c.loop-signature-test.true))

pub returns-clause-has_signatures_of_64_bytes : goal.returns-clause-has_signatures_of_64_bytes
returns-clause-has_signatures_of_64_bytes c = (
  omega (arith, length-concat 64 c.args.list.now c.told-list, c.requires),
  all-by_index 64 c.args.list.now c.told-list,
)
