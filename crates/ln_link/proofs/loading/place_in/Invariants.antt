use Rattle.std.proofs.Common.{◌≡◌, ◌≤◌, ◌+◌, drop}
use Rattle.ln_link.specs.Loading.{place_in}
use Rattle.ln_link.proofs.loading.place_in.Given as goal

-- those so far and those among the rest
abbrev pub invariant-loop-add : goal.invariant-loop-add
invariant-loop-add l = record {
  place : l.place + place_in l.id (drop l.add-index l.adds) ≡ place_in l.id l.adds;
  within : l.place ≤ l.add-index;
}
