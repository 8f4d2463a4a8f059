-- Each step of two ends is moves of the machine, each of which may be seen_by.
use Rattle.std.proofs.Common.{◌≡◌, ℕ, List, [], ◌∷◌, ◌++◌, ap, subst}
use Rattle.std.proofs.Common.{Option, Some}
use Rattle.ln_keys.specs.declared.role.Role.{Role}
use Rattle.ln_keys.specs.declared.role.Role.TheVariants.{Funder, Fundee}
use Rattle.ln_log.specs.declared.opening.Opening.{Opening}
use Rattle.ln_log.specs.declared.update.Update.{Update as Change}
use Rattle.ln_log.specs.Machine as machine
use Rattle.ln_log.specs.Machine.{Party, Machine, Move, Propose, Sign, Accept, Learn, Drop, Shut, Close, IsRun, MaySign}
use Rattle.ln_log.specs.Machine.{MayPropose, MayShut, MayClose}

-- ---- the machine, told from one side

abbrev pub seen_by : Role → Opening → Party → Party → Machine
seen_by Funder o x y = record { opening = o; funder = x; fundee = y }
seen_by Fundee o x y = record { opening = o; funder = y; fundee = x }

pub run-append : (ms ns : List Move) (old mid new : Option Machine) → IsRun ms old mid → IsRun ns mid new
    → IsRun (ms ++ ns) old new
run-append [] ns old mid new e k = subst (λ m. IsRun ns m new) e k
run-append (move ∷ ms) ns old mid new e k = (e.0, run-append ms ns (machine.after move old) mid new e.1 k)

module _ (o : Opening) (x y n : Party) where
  pub proposes : (r : Role) (u : Change) → MayPropose o r u x → n ≡ machine.after_propose u x
      → IsRun (Propose r u ∷ []) (Some (seen_by r o x y)) (Some (seen_by r o n y))
  proposes Funder u may e = (may, ap (λ q. Some (seen_by Funder o q y)) e)
  proposes Fundee u may e = (may, ap (λ q. Some (seen_by Fundee o q y)) e)

  pub signs : (r : Role) → MaySign x → n ≡ machine.after_sign x
      → IsRun (Sign r ∷ []) (Some (seen_by r o x y)) (Some (seen_by r o n y))
  signs Funder may e = (may, ap (λ q. Some (seen_by Funder o q y)) e)
  signs Fundee may e = (may, ap (λ q. Some (seen_by Fundee o q y)) e)

  pub accepts : (r : Role) → n ≡ machine.after_accept y x
      → IsRun (Accept r ∷ []) (Some (seen_by r o x y)) (Some (seen_by r o n y))
  accepts Funder e = (tt, ap (λ q. Some (seen_by Funder o q y)) e)
  accepts Fundee e = (tt, ap (λ q. Some (seen_by Fundee o q y)) e)

  pub learns : (r : Role) → n ≡ machine.after_learn y x
      → IsRun (Learn r ∷ []) (Some (seen_by r o x y)) (Some (seen_by r o n y))
  learns Funder e = (tt, ap (λ q. Some (seen_by Funder o q y)) e)
  learns Fundee e = (tt, ap (λ q. Some (seen_by Fundee o q y)) e)

  pub drops : (r : Role) → n ≡ machine.after_drop x
      → IsRun (Drop r ∷ []) (Some (seen_by r o x y)) (Some (seen_by r o n y))
  drops Funder e = (tt, ap (λ q. Some (seen_by Funder o q y)) e)
  drops Fundee e = (tt, ap (λ q. Some (seen_by Fundee o q y)) e)

  pub shuts : (r : Role) → MayShut x → n ≡ machine.after_shut x
      → IsRun (Shut r ∷ []) (Some (seen_by r o x y)) (Some (seen_by r o n y))
  shuts Funder may e = (may, ap (λ q. Some (seen_by Funder o q y)) e)
  shuts Fundee may e = (may, ap (λ q. Some (seen_by Fundee o q y)) e)

  pub closes : (r : Role) (fee : ℕ) → MayClose x y → n ≡ machine.after_close fee x
      → IsRun (Close r fee ∷ []) (Some (seen_by r o x y)) (Some (seen_by r o n y))
  closes Funder fee may e = (may, ap (λ q. Some (seen_by Funder o q y)) e)
  closes Fundee fee may e = (may, ap (λ q. Some (seen_by Fundee o q y)) e)

  pub rests : (r : Role) → n ≡ x → IsRun [] (Some (seen_by r o x y)) (Some (seen_by r o n y))
  rests r e = ap (λ q. Some (seen_by r o q y)) e
