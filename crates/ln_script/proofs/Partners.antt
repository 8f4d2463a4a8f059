-- Keys that are partners are told apart by themselves alone.
use Rattle.std.proofs.Common.{◌≡◌, ℕ, ap, subst, ◌∙◌}
use Rattle.std.proofs.Math.Logic.{∥∥₁_prop}
use Rattle.ln_keys.specs.declared.toy_keys.ToyKeys.{ToyKeys}
use Rattle.ln_keys.specs.Partners.{ArePartners}
use Rattle.ln_keys.specs.Toy.{toy_signer}
use Rattle.ln_world_channels.specs.declared.step.Partners.{Partners}
use Rattle.ln_script.specs.Keys.{toy, keys_of, partners_of}

abbrev Are : ToyKeys → ToyKeys → Type 0
Are f g = ∥ ArePartners (toy_signer f) (toy_signer g) ∥₁

abbrev as_partners : (f g : ToyKeys) → Are f g → Partners ToyKeys toy
as_partners f g p = record { funder = f; fundee = g; partners = p }

from_funder : (f h g : ToyKeys) (p : Are f g) → f ≡ h → (q : Are h g) → as_partners f g p ≡ as_partners h g q
from_funder f h g p e = subst (λ (x : ToyKeys). (q : Are x g) → as_partners f g p ≡ as_partners x g q) e
    (λ q. ap (λ (r : Are f g). as_partners f g r) (∥∥₁_prop p q))

from_fundee : (f g h : ToyKeys) (p : Are f g) → g ≡ h → (q : Are f h) → as_partners f g p ≡ as_partners f h q
from_fundee f g h p e = subst (λ (x : ToyKeys). (q : Are f x) → as_partners f g p ≡ as_partners f x q) e
    (λ q. ap (λ (r : Are f g). as_partners f g r) (∥∥₁_prop p q))

pub partners_are : (f g : ToyKeys) (p : Are f g) (channel : ℕ) → f ≡ keys_of channel 0 1 → g ≡ keys_of channel 1 0
    → as_partners f g p ≡ partners_of channel
unfolding partners_of
partners_are f g p channel e h =
    from_fundee f g (keys_of channel 1 0) p h (subst (λ (x : ToyKeys). Are f x) h p)
    ∙ from_funder f (keys_of channel 0 1) (keys_of channel 1 0) (subst (λ (x : ToyKeys). Are f x) h p) e _
