use Rattle.std.proofs.Common.{◌≡◌, false}
use Rattle.ln_bytes.specs.Same.{are_same}
use Rattle.ln_library.specs.Greetings.{any_below, chain_at}
use Rattle.ln_library.proofs.connection.is_among.Given as goal

abbrev pub invariant-loop-place : goal.invariant-loop-place
invariant-loop-place l = any_below (λ n. are_same l.chain (chain_at n l.chains)) l.place ≡ false
