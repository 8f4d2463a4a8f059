use Rattle.std.proofs.Common.{◌≡◌, false}
use Rattle.ln_library.specs.Greetings.{any_below, is_among, chain_at}
use Rattle.ln_library.proofs.connection.are_shared.Given as goal

abbrev pub invariant-loop-place : goal.invariant-loop-place
invariant-loop-place l = any_below (λ n. is_among (chain_at n l.networks) l.chains) l.place ≡ false
