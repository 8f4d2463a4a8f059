use Rattle.ln_link_laws.proofs.Led.{no_damage}
use Rattle.ln_link_laws.proofs.laws.no_save_is_damaged.Goals as goal

pub returns : goal.returns
returns d c = no_damage
