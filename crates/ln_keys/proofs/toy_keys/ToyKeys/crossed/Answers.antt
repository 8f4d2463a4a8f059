use Rattle.ln_keys.proofs.ToyPartners.{are_partners}
use Rattle.ln_keys.proofs.toy_keys.ToyKeys.crossed.Goals as goal

pub returns : goal.returns
returns c = are_partners c.args.a c.args.b c.requires
