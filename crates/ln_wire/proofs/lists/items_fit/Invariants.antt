use Rattle.std.proofs.Common.{◌≡◌, drop}
use Rattle.std.specs.List.{list_all}
use Rattle.ln_wire.proofs.lists.items_fit.Given as goal

-- whether all fit is whether those fit that are left
abbrev pub invariant-loop-item : goal.invariant-loop-item
invariant-loop-item g l =
    list_all g.T.Wire.format.fits (drop l.item-index l.items) ≡ list_all g.T.Wire.format.fits l.items
