use Rattle.std.proofs.Common.{◌≡◌, length}
use Rattle.ln_script.proofs.Places.{HavePlaces, HaveCounted}
use Rattle.ln_script.proofs.reading.place_hooks.Given as goal

-- those before this one have their places
abbrev pub invariant-loop-i : goal.invariant-loop-i
invariant-loop-i l = record {
  placed : HavePlaces l.fn.first l.fn.steps.items l.steps.items l.i l.place;
  counted : HaveCounted l.fn.first l.fn.steps.items l.steps.items l.i l.place;
  len : length l.steps.items ≡ length l.fn.steps.items;
}
