use Rattle.std.proofs.Common.{◌≡◌, length}
use Rattle.ln_script.specs.Flaw.{route_flaw}
use Rattle.ln_script.specs.Step.{texts}
use Rattle.ln_script.proofs.flaw.route_flaw.Given as goal

-- no hop before these words has a flaw
abbrev pub invariant-hops : goal.invariant-hops
invariant-hops l = route_flaw (texts l.fn.words) ≡ route_flaw (texts l.rest)

abbrev pub decreases-hops : goal.decreases-hops
decreases-hops l = length l.rest
