use Rattle.std.proofs.Common.{◌++◌, ℕ, List, take}
use Rattle.std.specs.List.{flat_map}
use Rattle.sha2.specs.Hashers.{Holds256}
use Rattle.ln_keys.specs.Toy.{htlc_bytes}
use Rattle.ln_keys.proofs.toy_keys.feed_htlcs.Given as goal

abbrev pub invariant-loop-htlc : goal.invariant-loop-htlc
invariant-loop-htlc l = (m : List ℕ) → Holds256 l.initial.hasher m
    → Holds256 l.hasher (m ++ flat_map htlc_bytes (take l.htlc-index l.htlcs))
