use Rattle.std.proofs.Common.{◌≡◌, ◌+◌, drop, option_map}
use Rattle.ln_node.specs.Held.{place_of}
use Rattle.ln_node.proofs.held.place_of.Given as goal

abbrev pub invariant-loop-place : goal.invariant-loop-place
invariant-loop-place l =
    place_of l.fn.ids l.fn.id ≡ option_map (λ n. n + l.place) (place_of (drop l.place l.fn.ids) l.fn.id)
