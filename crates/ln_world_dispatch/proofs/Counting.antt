-- A hook has one slot at most, so that how often it was called in all is how often it was called there.
use Rattle.std.proofs.Common.{◌≡◌, ℕ, ◌+◌, ◌≤◌, ◌==◌, List, [], ◌∷◌, length, refl, sym, ap, ◌∙◌}
use Rattle.std.proofs.Common.{arith, Bool, true, false, cond, ◌⊎◌, inl, inr}
use Rattle.std.proofs.lemmas.Bool.{eq-eqb}
use Rattle.ln_hooks.specs.declared.verdict.Verdict.{Verdict}
use Rattle.ln_hooks.specs.declared.verdict.Verdict.TheVariants.{Continue}
use Rattle.ln_world_dispatch.specs.declared.hook_slot.HookSlot.{HookSlot}
use Rattle.ln_world_dispatch.specs.Dispatcher.{Epoch, Dispatcher, called}
use Rattle.ln_world_dispatch.specs.Slots.{Answers, sum_slots, sum_epochs, one_at, calls_at, slots_of, calls_of}

-- ---- where it has no slot it wasn't called

none_here : (b : Bool) (n m k : ℕ) → cond b 1 0 + m ≡ 0 → (m ≡ 0 → k ≡ 0) → cond b n 0 + k ≡ 0
none_here true n m k h f = absurd (omega (arith, h))
none_here false n m k h f = let z = f (omega (arith, h)) in omega (arith, z)

pub none_slots : (i : ℕ) (l : Epoch) (ss : List HookSlot) → sum_slots (one_at i l) ss ≡ 0
    → sum_slots (calls_at i l) ss ≡ 0
none_slots i l [] h = refl
none_slots i l (s ∷ ss) h =
    none_here (s.hook == i) (length (called l s)) (sum_slots (one_at i l) ss) (sum_slots (calls_at i l) ss) h
    (none_slots i l ss)

pub none_epochs : (i : ℕ) (ls : List Epoch) → sum_epochs (one_at i) ls ≡ 0 → sum_epochs (calls_at i) ls ≡ 0
none_epochs i [] h = refl
none_epochs i (l ∷ ls) h =
    let a = none_slots i l l.slots (omega (arith, h)) in
    let b = none_epochs i ls (omega (arith, h)) in
    omega (arith, a, b)

pub none_at : (i : ℕ) (ds : List Dispatcher) → slots_of i ds ≡ 0 → calls_of i ds ≡ 0
none_at i [] h = refl
none_at i (d ∷ ds) h =
    let a = none_slots i d.epoch d.epoch.slots (omega (arith, h)) in
    let b = none_epochs i d.past (omega (arith, h)) in
    let c = none_at i ds (omega (arith, h)) in
    omega (arith, a, b, c)

-- ---- what the hooks of an epoch have answered

abbrev pub answer_in : ℕ → List HookSlot → List Verdict → Verdict
answer_in i [] rs = Continue
answer_in i (s ∷ ss) [] = Continue
answer_in i (s ∷ ss) (a ∷ rs) = cond (s.hook == i) a (answer_in i ss rs)

-- these slots' hooks have answered so
abbrev pub Heard : Answers → Epoch → List HookSlot → List Verdict → Type 0
Heard answers l [] [] = Unit {0}
Heard answers l (s ∷ ss) (a ∷ rs) = (answers s.hook (length (called l s)) ≡ a) × Heard answers l ss rs
Heard answers l [] (a ∷ rs) = ⊥
Heard answers l (s ∷ ss) [] = ⊥

-- as many slots as answers
abbrev pub AsMany : List HookSlot → List Verdict → Type 0
AsMany [] [] = Unit {0}
AsMany (s ∷ ss) (a ∷ rs) = AsMany ss rs
AsMany [] (a ∷ rs) = ⊥
AsMany (s ∷ ss) [] = ⊥

-- what is told of hook i is told by these slots, where it has one among them
abbrev pub TellsOf : ℕ → Epoch → List HookSlot → List Verdict → Verdict → ℕ → Type 0
TellsOf i l ss rs answer count =
    (sum_slots (one_at i l) ss ≡ 0) ⊎ ((answer ≡ answer_in i ss rs) × (count ≡ sum_slots (calls_at i l) ss))

same_hook : (n : ℕ) → (n == n) ≡ true
same_hook n = eq-eqb n n refl

head_told : (l : Epoch) (s : HookSlot) (ss : List HookSlot) (a : Verdict) (rs : List Verdict)
    (answer : Verdict) (count : ℕ)
    → sum_slots (one_at s.hook l) (s ∷ ss) ≤ 1 → TellsOf s.hook l (s ∷ ss) (a ∷ rs) answer count
    → (answer ≡ a) × (count ≡ length (called l s))
head_told l s ss a rs answer count once (inl none) =
    let here : sum_slots (one_at s.hook l) (s ∷ ss) ≡ 1 + sum_slots (one_at s.hook l) ss =
    ap (λ b. cond b 1 0 + sum_slots (one_at s.hook l) ss) (same_hook s.hook) in
    absurd (omega (arith, here, none))
head_told l s ss a rs answer count once (inr told) =
    let here : sum_slots (one_at s.hook l) (s ∷ ss) ≡ 1 + sum_slots (one_at s.hook l) ss =
    ap (λ b. cond b 1 0 + sum_slots (one_at s.hook l) ss) (same_hook s.hook) in
    let rest : sum_slots (calls_at s.hook l) ss ≡ 0 = none_slots s.hook l ss (omega (arith, here, once)) in
    let calls : sum_slots (calls_at s.hook l) (s ∷ ss) ≡ length (called l s) + sum_slots (calls_at s.hook l) ss =
    ap (λ b. cond b (length (called l s)) 0 + sum_slots (calls_at s.hook l) ss) (same_hook s.hook) in
    let all = told.1 in (
      told.0 ∙ ap (λ b. cond b a (answer_in s.hook ss rs)) (same_hook s.hook),
      omega (arith, rest, calls, all),
    )

tail_by : (b : Bool) (i : ℕ) (l : Epoch) (n : ℕ) (ss : List HookSlot) (a : Verdict) (rs : List Verdict)
    (answer : Verdict)
    (count : ℕ) → cond b 1 0 + sum_slots (one_at i l) ss ≤ 1
    → (answer ≡ cond b a (answer_in i ss rs)) × (count ≡ cond b n 0 + sum_slots (calls_at i l) ss)
    → TellsOf i l ss rs answer count
tail_by true i l n ss a rs answer count once told = inl (omega (arith, once))
tail_by false i l n ss a rs answer count once told =
    let c = told.1 in inr (told.0, omega (arith, c))

no_more : (b : Bool) (m : ℕ) → cond b 1 0 + m ≡ 0 → m ≡ 0
no_more true m h = absurd (omega (arith, h))
no_more false m h = omega (arith, h)

tail_told : (i : ℕ) (l : Epoch) (s : HookSlot) (ss : List HookSlot) (a : Verdict) (rs : List Verdict) (answer : Verdict)
    (count : ℕ) → sum_slots (one_at i l) (s ∷ ss) ≤ 1 → TellsOf i l (s ∷ ss) (a ∷ rs) answer count
    → TellsOf i l ss rs answer count
tail_told i l s ss a rs answer count once (inl none) =
    inl (no_more (s.hook == i) (sum_slots (one_at i l) ss) none)
tail_told i l s ss a rs answer count once (inr told) =
    tail_by (s.hook == i) i l (length (called l s)) ss a rs answer count once told

less : (b : Bool) (m : ℕ) → cond b 1 0 + m ≤ 1 → m ≤ 1
less true m h = omega (arith, h)
less false m h = omega (arith, h)

-- answers that begin anew after the calls so far, by what is told of each hook
pub all_heard : (l : Epoch) (answers : Answers) (last : ℕ → Verdict) (count : ℕ → ℕ)
    → ((i : ℕ) → answers i (count i) ≡ last i) → (ss : List HookSlot) (rs : List Verdict) → AsMany ss rs
    → ((i : ℕ) → sum_slots (one_at i l) ss ≤ 1) → ((i : ℕ) → TellsOf i l ss rs (last i) (count i))
    → Heard answers l ss rs
all_heard l answers last count at [] [] many once told = tt
all_heard l answers last count at (s ∷ ss) (a ∷ rs) many once told =
    let h = head_told l s ss a rs (last s.hook) (count s.hook) (once s.hook) (told s.hook) in (
      ap (answers s.hook) (sym h.1) ∙ at s.hook ∙ h.0,
      all_heard l answers last count at ss rs many (λ i. less (s.hook == i) (sum_slots (one_at i l) ss) (once i))
          (λ i. tail_told i l s ss a rs (last i) (count i) (once i) (told i)),
    )
all_heard l answers last count at [] (a ∷ rs) many once told = elim many [ ]
all_heard l answers last count at (s ∷ ss) [] many once told = elim many [ ]
