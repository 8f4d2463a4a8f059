-- What a host has told of onions, and the mark of its own failures.
use Rattle.std.specs.Prelude.{ℕ, List, [], ◌++◌, Bool, true, false, Option, Some}
use Rattle.std.specs.Prelude.{None, Result, Ok, Err, length, take, drop}
use Rattle.std.specs.Prelude.{◌==◌, nat_lt, if◌then◌else◌}
use Rattle.std.specs.Map.{lookup}
use Rattle.ln_bytes.specs.Same.{are_same}
use Rattle.ln_keys.specs.declared.onion.Opened.{Opened}
use Rattle.ln_keys.specs.declared.onion.OpenFault.{OpenFault}
use Rattle.ln_keys.specs.declared.onion.OpenFault.TheVariants.{Payload}
use Rattle.sha2.specs.Sha256.{sha256}

-- ---- onions

-- the name of an onion under a payment hash
unfoldable pub name_of : List ℕ → List ℕ → List ℕ
name_of hash onion = sha256 (hash ++ onion)

-- what was found in onions, by their names
abbrev pub Found : Type 0
Found = List (List ℕ × Result Opened OpenFault)

abbrev pub found_at : List ℕ → Found → Option (Result Opened OpenFault)
found_at name found = lookup (are_same name) found

-- an onion that goes on has 1,366 bytes (BOLT 4, "Packet Structure")
abbrev pub whole : Opened → Option (List ℕ) → Result Opened OpenFault
whole o None = Ok o
whole o (Some next) = if length next == 1366 then Ok o else Err Payload

-- what an onion of which nothing was told has can't be read
abbrev pub opened_of : Option (Result Opened OpenFault) → Result Opened OpenFault
opened_of None = Err Payload
opened_of (Some (Err fault)) = Err fault
opened_of (Some (Ok o)) = whole o o.next

abbrev pub opened_by : Found → List ℕ → List ℕ → Result Opened OpenFault
opened_by found onion hash = opened_of (found_at (name_of hash onion) found)

-- ---- failures

-- a failure of the node's own, until its host wraps it (BOLT 4, "Returning Errors")
abbrev pub marked : List ℕ → List ℕ → List ℕ
marked mark failure = mark ++ failure

abbrev pub rest_if : Bool → List ℕ → Option (List ℕ)
rest_if true bytes = Some (drop 32 bytes)
rest_if false bytes = None

-- the failure message of one that bears the mark; another came back
abbrev pub own_failure : List ℕ → List ℕ → Option (List ℕ)
own_failure mark reason =
    if nat_lt (length reason) 32 then None else rest_if (are_same (take 32 reason) mark) reason

-- ---- both

pub record Told : Type 0 where
  pub own_mark : List ℕ  -- 32 bytes
  pub found : Found
