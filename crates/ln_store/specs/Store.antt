-- What a store of records keeps and promises.
use Rattle.std.specs.Prelude.{◌≡◌, ◌⊎◌, ℕ, List, Bool, true, Result, Ok, Err}
use Rattle.std.specs.Ordering.{nat_cmp}
use Rattle.std.specs.Cmp.Lexicographic.{slice_cmp}
use Rattle.std.specs.FinMap.{FinMap, code}
use Rattle.std.specs.Coded.{Coded, coded_list, coded_ℕ}
use Rattle.ln_msgs.specs.Pings.Counted.{HasRisen}
use Rattle.ln_refusals.specs.declared.refusal.Refusal.{Refusal}
use Rattle.ln_refusals.specs.declared.refusal.Refusal.TheVariants as refusal

-- the record of each id that has one; ids are in the order of their first bytes that differ
abbrev pub Records : Type 0
Records = FinMap (slice_cmp nat_cmp) (List ℕ)

-- as a list of pairs of lists of numbers
abbrev pub records_code : Coded Records
records_code = code (coded_list coded_ℕ) (coded_list coded_ℕ)

-- a store as a call finds it or leaves it: its records, how many of its calls have failed, and whether it is fresh:
-- saved to since it was last told that its records are kept elsewhere; it always is where nobody tells it
pub record StoreView : Type 0 where
  pub records : Records
  pub failed : ℕ
  pub is_fresh : Bool

-- a store that never fails, and that nobody tells
abbrev pub in_memory : Records → StoreView
in_memory records = record { records = records; failed = 0; is_fresh = true }

-- what a save that fails leaves: the records before it, or, where the store itself failed, perhaps those after it; and
-- nothing between the two
abbrev pub IsOneOf : Refusal → Records → Records → Records → Type 0
IsOneOf e before behind records = (records ≡ before) ⊎ ((e ≡ refusal.Store) × (records ≡ behind))

-- A call fails for want of memory or because the store failed. Its count of failures rises where the store failed,
-- and stays else.
abbrev pub CountsFailures : {A : Type 0} → Result A Refusal → ℕ → ℕ → Type 0
CountsFailures (Ok x) before behind = behind ≡ before
CountsFailures (Err e) before behind = ((e ≡ refusal.Memory) × (behind ≡ before))
    ⊎ ((e ≡ refusal.Store) × HasRisen before behind)

-- a call that leaves other records leaves the store fresh
abbrev pub FreshIfChanged : StoreView → StoreView → Type 0
FreshIfChanged before behind =
    (behind.is_fresh ≡ true) ⊎ ((behind.records ≡ before.records) × (behind.is_fresh ≡ before.is_fresh))
