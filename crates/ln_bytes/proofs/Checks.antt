-- What a checker knows so far of a stream that it reads past.
use Rattle.std.proofs.Common.{◌≡◌, ◌≢◌, ℕ, Bool, true, false, ◌&&◌, List, [], ◌∷◌, ◌++◌, Option, None, Some, Ok, Err}
use Rattle.std.proofs.Common.{Result, refl, sym, ap, ◌∙◌}
use Rattle.std.specs.List.{list_all}
use Rattle.std.proofs.lemmas.List.Folds.{list_all-append}
use Rattle.ln_bytes.specs.declared.fault.Fault.{Fault}
use Rattle.ln_bytes.specs.declared.record.Record.{Record}
use Rattle.ln_bytes.specs.Reading.{◌>>=◌}
use Rattle.ln_bytes.specs.Tlv.{has_length, have_lengths, record_at, lengths_at}
use Rattle.ln_bytes.proofs.Reading.{IsBytes}
use Rattle.ln_bytes.proofs.Streams.{IsSoFar, begins, goes_on, ends, faults, stream_again, stream_faulty}

regroup : (p q h k : Bool) → ((p && (q && true)) && (h && k)) ≡ ((p && h) && (q && k))
regroup true true true true = refl
regroup true true true false = refl
regroup true true false k = refl
regroup true false true k = refl
regroup true false false k = refl
regroup false q h k = refl

have_lengths-push : (lengths : List (ℕ × ℕ)) (good : List Record) (r : Record)
    → have_lengths lengths (good ++ r ∷ []) ≡ (have_lengths lengths good
    && list_all (λ asked. has_length asked r) lengths)
have_lengths-push [] good r = refl
have_lengths-push (a ∷ more) good r =
    ap (λ b. b && have_lengths more (good ++ r ∷ [])) (list_all-append (has_length a) good (r ∷ []))
    ∙ ap (λ b. (list_all (has_length a) good && (has_length a r && true)) && b) (have_lengths-push more good r)
    ∙ regroup (list_all (has_length a) good) (has_length a r) (have_lengths more good)
    (list_all (λ asked. has_length asked r) more)

-- after some records, which have the lengths asked for or not
pub record IsCheckedSoFar (known : List ℕ) (lengths : List (ℕ × ℕ)) (bytes : List ℕ) (fits : Bool) (before : Option ℕ)
    (rest : List ℕ) : Type 0 where
  pub good : List Record
  pub so_far : IsSoFar known bytes good before rest
  pub fits_is : fits ≡ have_lengths lengths good

pub begins_checked : (known : List ℕ) (lengths : List (ℕ × ℕ)) (bytes : List ℕ) → IsBytes bytes
    → IsCheckedSoFar known lengths bytes true None bytes
begins_checked known lengths bytes fits = record {
  good = [];
  so_far = begins known bytes fits;
  fits_is = none lengths;
}
  where
    none : (lengths : List (ℕ × ℕ)) → true ≡ have_lengths lengths []
    none [] = refl
    none (a ∷ more) = none more

pub goes_on_checked : (known : List ℕ) (lengths : List (ℕ × ℕ)) (bytes : List ℕ) (fits one : Bool) (before : Option ℕ)
    (rest : List ℕ) (r : Record) (after : List ℕ) → IsCheckedSoFar known lengths bytes fits before rest
    → record_at known before rest ≡ Ok (r, after) → one ≡ list_all (λ asked. has_length asked r) lengths
    → IsCheckedSoFar known lengths bytes (fits && one) (Some r.typ) after
goes_on_checked known lengths bytes fits one before rest r after so e is = record {
  good = so.good ++ r ∷ [];
  so_far = goes_on known bytes so.good before rest r after so.so_far e;
  fits_is = ap (λ b. b && one) so.fits_is ∙ ap (λ b. have_lengths lengths so.good && b) is
      ∙ sym (have_lengths-push lengths so.good r);
}

pub faults_checked : (known : List ℕ) (lengths : List (ℕ × ℕ)) (bytes : List ℕ) (fits : Bool) (before : Option ℕ)
    (rest : List ℕ) (f : Fault) → IsCheckedSoFar known lengths bytes fits before rest → rest ≢ []
    → record_at known before rest ≡ Err f → lengths_at known lengths bytes ≡ Err f
faults_checked known lengths bytes fits before rest f so some e =
    ap (λ (r : Result (List Record) Fault). r >>= λ rs. Ok (have_lengths lengths rs))
    (stream_faulty known bytes f (faults known bytes so.good before rest f so.so_far some e))

pub ends_checked : (known : List ℕ) (lengths : List (ℕ × ℕ)) (bytes : List ℕ) (fits : Bool) (before : Option ℕ)
    → IsCheckedSoFar known lengths bytes fits before [] → lengths_at known lengths bytes ≡ Ok fits
ends_checked known lengths bytes fits before so =
    ap (λ (r : Result (List Record) Fault). r >>= λ rs. Ok (have_lengths lengths rs))
    (stream_again known so.good bytes (ends known bytes so.good before so.so_far))
    ∙ ap (λ (b : Bool). Ok b) (sym so.fits_is)
