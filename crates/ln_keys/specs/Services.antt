-- What a node's service answers that opens the onions of its HTLCs and wraps their failures (BOLT 4), each a function
-- of its arguments.
use Rattle.std.specs.Prelude.{ℕ, List, Result}
use Rattle.ln_keys.specs.declared.onion.Opened.{Opened}
use Rattle.ln_keys.specs.declared.onion.OpenFault.{OpenFault}

pub record Services : Type 0 where
  pub opened : List ℕ → List ℕ → Result Opened OpenFault  -- what an onion has, under a payment hash
  -- what a failure is wrapped into for the payer of the HTLC with this onion and payment hash: one of the node's own,
  -- and one that came back
  pub wrapped : List ℕ → List ℕ → List ℕ → List ℕ
  pub wrapped_again : List ℕ → List ℕ → List ℕ → List ℕ
