-- The two sides of a channel.
use Rattle.ln_keys.specs.declared.role.Role.{Role}
use Rattle.ln_keys.specs.declared.role.Role.TheVariants.{Funder, Fundee}

abbrev pub other_role : Role → Role
other_role Funder = Fundee
other_role Fundee = Funder
