use Rattle.std.proofs.Common.{◌≡◌, ◌≤◌, length, take}
use Rattle.ln_keys.specs.ToyOnion.{filled, payload_bytes}
use Rattle.ln_keys.proofs.toy_onion.ToyOnion.make.Given as goal

abbrev pub invariant-loop-payload : goal.invariant-loop-payload
invariant-loop-payload l =
    (l.at ≡ length (payload_bytes (take l.payload-index l.payloads))) × (l.at ≤ 1300)
    × (l.room ≡ filled (payload_bytes (take l.payload-index l.payloads)))
