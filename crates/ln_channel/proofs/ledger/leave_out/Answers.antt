use Rattle.std.proofs.Common.{rules}
use Rattle.std.proofs.lemmas.Fn.{filter_same}
use Rattle.ln_channel.specs.Ledger.{is_not_of}
use Rattle.ln_channel.proofs.ledger.leave_out.Goals as goal

pub returns : goal.returns
returns c = filter_same _ (is_not_of c.args.id) _ (λ x b f' k. search rules) _ _ c.retain.ensures.filtered
