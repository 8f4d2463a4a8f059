use Rattle.std.proofs.Common.{rules}
use Rattle.std.proofs.lemmas.Fn.{filter_same}
use Rattle.ln_channel.specs.Base.{is_open}
use Rattle.ln_channel.proofs.ledger.leave_out_removed.Goals as goal

pub returns : goal.returns
returns c = λ us h. filter_same _ (is_open us) _ (λ x b f' k. search rules) _ _ c.retain.ensures.filtered
