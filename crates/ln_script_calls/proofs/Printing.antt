-- What a command prints, by equal bytes of its reader and its writer.
use Rattle.std.proofs.Common.{◌≡◌, ℕ, List, [], Option, Some, Result, Ok, Err, OnOk, OnErr, subst}
use Rattle.ln_script.specs.declared.program.choice.Choice.{Choice}
use Rattle.ln_script.specs.Done.{Does, DoesPartly}
use Rattle.ln_script_calls.specs.Passing.{IsPrinted}

moved : (P : List ℕ → List ℕ → List ℕ → Type 0) (i o n input empty report : List ℕ) → i ≡ input → o ≡ empty
    → n ≡ report → P i o n → P input empty report
moved P i o n input empty report ei eo en p =
    subst (λ (l : List ℕ). P l empty report) ei
    (subst (λ (l : List ℕ). P i l report) eo
    (subst (λ (l : List ℕ). P i o l) en p))

pub is_printed : {A E : Type 0} (r : Result A E) (choice : Choice) (input report i o n : List ℕ)
    (after : Option (List ℕ)) → i ≡ input → o ≡ [] → n ≡ report
    → OnOk r (Does (Some i) after (Some o) (Some n) choice) → OnOk r (IsPrinted choice input report)
is_printed (Err e) choice input report i o n after ei eo en d = tt
is_printed (Ok x) choice input report i o n after ei eo en d =
    (after, moved (λ (a b c : List ℕ). Does (Some a) after (Some b) (Some c) choice) i o n input [] report ei eo en d)

pub is_begun : {A E : Type 0} (r : Result A E) (choice : Choice) (input report i o n : List ℕ)
    (after : Option (List ℕ)) → i ≡ input → o ≡ [] → n ≡ report
    → OnErr r (DoesPartly (Some i) after (Some o) (Some n) choice)
    → OnErr r ((x : Option (List ℕ)) × DoesPartly (Some input) x (Some []) (Some report) choice)
is_begun (Ok x) choice input report i o n after ei eo en d = tt
is_begun (Err e) choice input report i o n after ei eo en d = (
  after,
  moved (λ (a b c : List ℕ). DoesPartly (Some a) after (Some b) (Some c) choice) i o n input [] report ei eo
      en d,
)
