use Rattle.std.proofs.Common.{refl, ◌∙◌, arith}
use Rattle.ln_keys.proofs.Joined.{second_half}
use Rattle.ln_keys.proofs.toy_keys.twice.Goals as goal

pub returns : goal.returns
returns c = second_half 32 c.copy_from_slice.new.self _ c.copy_from_slice-2.new.self c.copy_from_slice.ensures.len refl
    (omega (arith, c.told-digest)) ∙ rw (
      c.copy_from_slice.ensures.after,
      c.copy_from_slice-2.ensures.after,
      c.as_slice.ensures,
      c.as_slice-2.ensures,
    ) refl
