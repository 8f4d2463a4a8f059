-- What contracts see of a manager, and how records come to its batches.
use Rattle.std.specs.Prelude.{◌≡◌, ◌⊎◌, ℕ, List, Bool, Result, Ok, Err, slice_set}
use Rattle.ln_refusals.specs.declared.refusal.Refusal.{Refusal}
use Rattle.ln_batches.specs.Queues.{Queues}
use Rattle.ln_manager_channels.specs.declared.given.Given.{Given}
use Rattle.ln_manager_channels.specs.declared.given.Given.TheVariants as given
use Rattle.ln_manager_channels.specs.declared.newest.Newest.{Newest}
use Rattle.ln_manager_channels.specs.Calls.{Running}
use Rattle.ln_manager.specs.declared.posted.Posted.{Posted}

pub record Managed (K O : Type 0) : Type 0 where
  pub channels : Running K
  pub onion : O  -- opens its onions
  pub lines : Queues Posted
  pub is_out : List Bool  -- whether the first undecided event of each channel is with the host

-- the record of one channel has changed at most
abbrev pub ChangesOneAt : ℕ → List Newest → List Newest → Type 0
ChangesOneAt c ns ns' = (ns' ≡ ns) ⊎ ((n : Newest) × (ns' ≡ slice_set ns c n))

abbrev pub if_batched : {A : Type 0} → Result (Unit {0}) Refusal → Result A Refusal → Result A Refusal
if_batched (Ok u) answer = answer
if_batched (Err r) answer = Err r

-- what became of a command: its link has halted where no batch takes its record
abbrev pub given_if : Result (Unit {0}) Refusal → Given → Given
given_if (Ok u) g = g
given_if (Err r) g = given.Halted
