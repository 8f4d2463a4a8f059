use Rattle.std.proofs.Common.{sym, ap, ◌∙◌, arith}
use Rattle.ln_link.specs.Loading.{short_id_of}
use Rattle.ln_link.proofs.Again.{id_again}
use Rattle.ln_link.proofs.loading.short_id_of.Goals as goal

pub returns : goal.returns
returns c =
    let id = c.id.result in
    sym (id_again id.block id.tx id.output id.block_fits id.tx_fits (omega (arith, c.id.type_inv.1)))
    ∙ ap short_id_of c.id.ensures
