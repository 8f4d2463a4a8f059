use Rattle.ln_script.proofs.Partners.{partners_are}
use Rattle.ln_script.proofs.keys.partners_of.Goals as goal

pub returns : goal.returns
returns c = partners_are c.keys_of-funder.result c.keys_of-fundee.result _ c.args.channel c.keys_of-funder.ensures
    c.keys_of-fundee.ensures
