-- What a peer's init may ask for, and what it has to offer (BOLT 1, "The init Message").
use Rattle.std.specs.Prelude.{◌≡◌, ◌⊎◌, ℕ, ◌/◌, ◌%◌, ◌-◌, ◌+◌, List, slice_index, reverse, Bool, true, false, ◌==◌}
use Rattle.std.specs.Prelude.{◌||◌}
use Rattle.std.specs.Int.{bit_at}
use Rattle.std.specs.List.{list_all}
use Rattle.ln_msgs.specs.declared.messages.setup.Init.{Init}
use Rattle.ln_msgs.specs.Messages.Features.{IsAllKnown, HasUnknown}
use Rattle.ln_node_loops.specs.declared.features.PeerFeatures.{PeerFeatures}

-- bit k of a map is set: the map's last byte has bits 0 to 7, the lowest of which is bit 0
abbrev pub has_bit : List ℕ → ℕ → Bool
has_bit features k = bit_at (slice_index (reverse features) (k / 8)) (k % 8) == 1

abbrev pub sets : Init → ℕ → Bool
sets init k = has_bit init.global_features k || has_bit init.features k

-- a feature has two bits: an even one, and the odd one after it
abbrev pub even_bit : ℕ → ℕ
even_bit k = k - k % 2

abbrev pub offers : Init → ℕ → Bool
offers init k = sets init (even_bit k) || sets init (even_bit k + 1)

abbrev pub offers_all : Init → List ℕ → Bool
offers_all init wanted = list_all (offers init) wanted

-- it asks for no even feature but the known ones, and offers those that are wanted
abbrev pub Fits : PeerFeatures → Init → Type 0
Fits p init = IsAllKnown init p.known.items × (offers_all init p.wanted.items ≡ true)

abbrev pub Misfits : PeerFeatures → Init → Type 0
Misfits p init = HasUnknown init p.known.items ⊎ (offers_all init p.wanted.items ≡ false)
