use Rattle.std.proofs.Common.{◌≡◌, replicate}
use Rattle.ln_keys.proofs.toy_keys.repeated.Given as goal

abbrev pub invariant-loop : goal.invariant-loop
invariant-loop l = l.list.items ≡ replicate l.counter l.sig
