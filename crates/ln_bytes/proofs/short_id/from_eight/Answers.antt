use Rattle.std.proofs.Common.{arith}
use Rattle.ln_bytes.proofs.ShortIds.{bytes_are_id, three_below, tail_fits}
use Rattle.ln_bytes.proofs.short_id.from_eight.Goals as goal

pub invariant_of-result-clause-block_fits : goal.invariant_of-result-clause-block_fits
invariant_of-result-clause-block_fits c =
    three_below c.args.bytes.now c.read_u24.result (λ i. omega (arith, c.type_inv.bytes i)) c.read_u24.ensures

pub invariant_of-result-clause-tx_fits : goal.invariant_of-result-clause-tx_fits
invariant_of-result-clause-tx_fits c =
    three_below _ c.read_u24-2.result (tail_fits 3 c.args.bytes.now (λ i. omega (arith, c.type_inv.bytes i)))
    c.read_u24-2.ensures

pub returns : goal.returns
returns c =
    bytes_are_id c.args.bytes.now c.read_u24.result c.read_u24-2.result c.read_u16.result
    (λ i. omega (arith, c.type_inv.bytes i)) c.requires c.read_u24.ensures c.read_u24-2.ensures c.read_u16.ensures
