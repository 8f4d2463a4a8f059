-- Configs and specs are read as they are written, and nothing else is.
use Rattle.std.proofs.Common.{refl}
use Rattle.ln_store.proofs.Formats.{IsLawful, number_is_lawful, fixed_is_lawful, sized_is_lawful, list_is_lawful}
use Rattle.ln_store.proofs.Formats.{made_is_lawful}
use Rattle.ln_store.proofs.Laws.{fees_are_lawful}
use Rattle.ln_wire.specs.Setup as it
use Rattle.ln_wire.proofs.Wholes.{also, IsReadAlone, alone}

limits_are_lawful : IsLawful it.limits
unfolding it.limits
limits_are_lawful = made_is_lawful _ _ _ (also (number_is_lawful 8) (also (number_is_lawful 2)
    (also (number_is_lawful 8) (number_is_lawful 8)))) (λ y. refl) (λ x. refl)

points_are_lawful : IsLawful it.points
unfolding it.points
points_are_lawful = made_is_lawful _ _ _ (also (fixed_is_lawful 33) (also (fixed_is_lawful 33)
    (also (fixed_is_lawful 33) (also (fixed_is_lawful 33) (fixed_is_lawful 33))))) (λ y. refl) (λ x. refl)

config_is_lawful : IsLawful it.config
unfolding it.config
config_is_lawful = made_is_lawful _ _ _ (also limits_are_lawful (also (fixed_is_lawful 32) (also (number_is_lawful 8)
    (also (number_is_lawful 2) (also (number_is_lawful 4) (also points_are_lawful (also fees_are_lawful
    (sized_is_lawful 2)))))))) (λ y. refl) (λ x. refl)

terms_are_lawful : IsLawful it.terms
unfolding it.terms
terms_are_lawful = made_is_lawful _ _ _ (also (number_is_lawful 8) (also (number_is_lawful 8)
    (also (number_is_lawful 4) (also (number_is_lawful 1) (also (fixed_is_lawful 32) (also (fixed_is_lawful 32)
    (number_is_lawful 2))))))) (λ y. refl) (λ x. refl)

tlv_is_lawful : IsLawful it.tlv
unfolding it.tlv
tlv_is_lawful = made_is_lawful _ _ _ (also (number_is_lawful 8) (sized_is_lawful 2)) (λ y. refl) (λ x. refl)

spec_is_lawful : IsLawful it.spec
unfolding it.spec
spec_is_lawful = made_is_lawful _ _ _ (also config_is_lawful (also terms_are_lawful (list_is_lawful _ tlv_is_lawful)))
    (λ y. refl) (λ x. refl)

pub config_is_read_alone : IsReadAlone it.config
config_is_read_alone = alone it.config config_is_lawful

pub spec_is_read_alone : IsReadAlone it.spec
spec_is_read_alone = alone it.spec spec_is_lawful
