use Rattle.std.proofs.Common.{◌∷◌, ◌++◌, sym, ◌∙◌, arith}
use Rattle.std.specs.Fmt.{decimal}
use Rattle.ln_bytes.proofs.ShortIds.{one_front, one_text, IsOf}
use Rattle.ln_bytes.proofs.short_id.ShortId.parse.Goals as goal
use Rattle.ln_bytes.proofs.short_id.ShortId.parse.Goals.{then-block-via-then-block, then-block-via-else-block+then-tx}
use Rattle.ln_bytes.proofs.short_id.ShortId.parse.Goals.{then-block-via-else-block+else-tx+then-output}

pub returns-in_err-tx-clause-reads_each_text : goal.returns-in_err-tx-clause-reads_each_text
returns-in_err-tx-clause-reads_each_text c = λ b t o bb bt bo e.
    let f = one_front c.in_ok-block.block b c.in_ok-block.rest.now (decimal t ++ (120 ∷ decimal o))
    c.in_ok-block.ensures.0 (omega arith) (sym c.in_ok-block.ensures.1 ∙ e) in
    absurd (c.in_err-tx.ensures t (decimal o) (omega arith) f.1)

pub returns-in_err-output-clause-reads_each_text : goal.returns-in_err-output-clause-reads_each_text
returns-in_err-output-clause-reads_each_text c = λ b t o bb bt bo e.
    let f = one_front c.in_ok-block.block b c.in_ok-block.rest.now (decimal t ++ (120 ∷ decimal o))
    c.in_ok-block.ensures.0 (omega arith) (sym c.in_ok-block.ensures.1 ∙ e) in
    let g = one_front c.in_ok-tx.tx t c.in_ok-tx.rest.now (decimal o) c.in_ok-tx.ensures.0 (omega arith)
    (sym c.in_ok-tx.ensures.1 ∙ f.1) in
    absurd (c.in_err-output.ensures o (omega arith) g.1)

pub returns-then-block-clause-reads_each_text : goal.returns-then-block-clause-reads_each_text
returns-then-block-clause-reads_each_text c = λ b t o bb bt bo e.
    let is : IsOf c.in_ok-block.block c.in_ok-tx.tx c.in_ok-output.output b t o =
    one_text c.in_ok-block.block c.in_ok-tx.tx c.in_ok-output.output b t o c.in_ok-block.rest.now c.in_ok-tx.rest.now
    c.in_ok-block.ensures.0 c.in_ok-tx.ensures.0 c.in_ok-output.ensures.0 bb bt bo (sym c.in_ok-block.ensures.1
    ∙ e) c.in_ok-tx.ensures.1 c.in_ok-output.ensures.1 in
    elim c.then-block.branch [
      | then-block-via-then-block w ↦ omega arith
      | then-block-via-else-block+then-tx w ↦ omega arith
      | then-block-via-else-block+else-tx+then-output w ↦ omega arith
    ]

pub returns-clause-reads_each_text : goal.returns-clause-reads_each_text
returns-clause-reads_each_text c = λ b t o bb bt bo e.
    let is : IsOf c.in_ok-block.block c.in_ok-tx.tx c.in_ok-output.output b t o =
    one_text c.in_ok-block.block c.in_ok-tx.tx c.in_ok-output.output b t o c.in_ok-block.rest.now c.in_ok-tx.rest.now
    c.in_ok-block.ensures.0 c.in_ok-tx.ensures.0 c.in_ok-output.ensures.0 bb bt bo (sym c.in_ok-block.ensures.1
    ∙ e) c.in_ok-tx.ensures.1 c.in_ok-output.ensures.1 in
    (is.block_is, is.tx_is, is.output_is)
