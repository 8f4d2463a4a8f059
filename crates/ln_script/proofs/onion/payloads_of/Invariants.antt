use Rattle.std.proofs.Common.{◌≡◌, length}
use Rattle.ln_script.specs.Onion.{payloads_at, in_front}
use Rattle.ln_script.specs.Step.{texts}
use Rattle.ln_script.proofs.onion.payloads_of.Given as goal

-- what was read so far stands in front of what the words that are left ask for
abbrev pub invariant-loop-rest : goal.invariant-loop-rest
invariant-loop-rest l = payloads_at l.fn.payment l.fn.amount l.fn.expiry (texts l.fn.hops)
    ≡ in_front l.payloads.items (payloads_at l.fn.payment l.amount l.expiry (texts l.rest))

abbrev pub decreases-loop-rest : goal.decreases-loop-rest
decreases-loop-rest l = length l.rest
