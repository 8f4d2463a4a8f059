-- What a call answers, where another error may stand in the place of what is said of it: above all want of memory.
-- `stands` tells which may: `stands e fault`, that e may be answered where this is the fault, or where there is none.
use Rattle.std.specs.Prelude.{◌≡◌, ◌⊎◌, Option, Some, None, Result, Ok, Err}

-- the fault that is said, where one is
abbrev pub fault_of : {A E : Type 0} → Result A E → Option E
fault_of (Ok x) = None
fault_of (Err e) = Some e

-- the answer, seen by view, is what is said, or an error that may stand in its place
abbrev pub Gives : {X Y E : Type 0} → (E → Option E → Type 0) → (X → Y) → Result Y E → Result X E → Type 0
Gives stands view said (Ok x) = said ≡ Ok (view x)
Gives stands view said (Err e) = stands e (fault_of said) ⊎ (said ≡ Err e)

-- the same, and what is left after a refusal
abbrev pub Leaves : {X Y E : Type 0} → (E → Option E → Type 0) → (X → Y) → (E → Type 0) → Result Y E → Result X E
    → Type 0
Leaves stands view left said (Ok x) = said ≡ Ok (view x)
Leaves stands view left said (Err e) = stands e (fault_of said) ⊎ ((said ≡ Err e) × left e)

-- the same, where the fault alone is said: it is refused by the fault that there is, and Ok where there is none
abbrev pub Refuses : {X E : Type 0} → (E → Option E → Type 0) → Option E → Result X E → Type 0
Refuses stands fault (Ok x) = fault ≡ None
Refuses stands fault (Err e) = stands e fault ⊎ (fault ≡ Some e)
