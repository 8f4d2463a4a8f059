-- A handle after its object has become another one.
use Rattle.std.specs.Prelude.{Some}
use Rattle.lnlink_c.specs.Object.{Object}
use Rattle.lnlink_c.specs.declared.held.Held.{Held}

abbrev pub holding : Held → Object → Held
holding h w = record { at = h.at; value = Some w }
