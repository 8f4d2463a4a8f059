-- Links that are the same but for their keys.
use Rattle.std.specs.Prelude.{◌≡◌}
use Rattle.ln_channel.specs.State.{State}

-- of whatever keys
pub record IsAlike {A B : Type 0} (l : State A) (l' : State B) : Type 0 where
  pub connection : l.connection ≡ l'.connection
  pub halted : l.halted ≡ l'.halted
  pub failure : l.failure ≡ l'.failure
  pub stage : l.stage ≡ l'.stage
