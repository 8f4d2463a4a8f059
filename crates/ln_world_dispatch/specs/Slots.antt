-- The hooks that were handed in, each in the table of the epoch that it has a slot in: calls h event answer h' says
-- that the hook h may be called on the event, answer so, and be h' from then on.
use Rattle.std.specs.Prelude.{◌≡◌, ◌≤◌, ◌<◌, ◌+◌, ℕ, zero, suc, List, [], ◌∷◌, ◌++◌, length, map, Option, Some, None}
use Rattle.std.specs.Prelude.{Bool, false, ◌==◌, if◌then◌else◌}
use Rattle.std.specs.List.{list_any}
use Rattle.ln_hooks.specs.declared.event.ChannelEvent.{ChannelEvent}
use Rattle.ln_hooks.specs.declared.verdict.Verdict.{Verdict}
use Rattle.ln_hooks.specs.Chain.{IsChain, shown_to}
use Rattle.ln_hooks.specs.Table.{Says}
use Rattle.ln_hooks.specs.Verdict.{verdict}
use Rattle.ln_world_dispatch.specs.declared.hook_slot.HookSlot.{HookSlot}
use Rattle.ln_world_dispatch.specs.Dispatcher.{Epoch, Dispatcher, next, called}
use Rattle.ln_world_dispatch.specs.World.{item}

-- what each hook answers: that at the place i of the list answers i 0, answers i 1, ..
abbrev pub Answers : Type 0
Answers = ℕ → ℕ → Verdict

-- its first answers, so many
abbrev pub replies : Answers → ℕ → ℕ → List Verdict
replies answers hook zero = []
replies answers hook (suc n) = replies answers hook n ++ answers hook n ∷ []

-- what it answers to the next event of an epoch that it has a slot in
abbrev pub next_answer : Answers → Epoch → HookSlot → Verdict
next_answer answers l s = answers s.hook (length (called l s))

-- what an epoch's hooks say of the next event: the first Fail in order of registration, else Continue
abbrev pub says : Answers → Epoch → Verdict
says answers l = verdict (map (next_answer answers l) l.slots)

-- what the dispatcher's hooks say of its next event
abbrev pub says_at : Answers → Option Dispatcher → Verdict
says_at answers None = verdict []
says_at answers (Some d) = says answers d.epoch

-- ---- how often

-- over all slots of all epochs
abbrev pub sum_slots : (HookSlot → ℕ) → List HookSlot → ℕ
sum_slots f [] = 0
sum_slots f (s ∷ ss) = f s + sum_slots f ss

abbrev pub sum_epochs : (Epoch → HookSlot → ℕ) → List Epoch → ℕ
sum_epochs f [] = 0
sum_epochs f (l ∷ ls) = sum_slots (f l) l.slots + sum_epochs f ls

abbrev pub total : (Epoch → HookSlot → ℕ) → List Dispatcher → ℕ
total f [] = 0
total f (d ∷ ds) = (sum_slots (f d.epoch) d.epoch.slots + sum_epochs f d.past) + total f ds

abbrev pub one_at : ℕ → Epoch → HookSlot → ℕ
one_at hook l s = if s.hook == hook then 1 else 0

abbrev pub calls_at : ℕ → Epoch → HookSlot → ℕ
calls_at hook l s = if s.hook == hook then length (called l s) else 0

-- how many slots the hook at this place has, or had
abbrev pub slots_of : ℕ → List Dispatcher → ℕ
slots_of hook ds = total (one_at hook) ds

-- how often it was called
abbrev pub calls_of : ℕ → List Dispatcher → ℕ
calls_of hook ds = total (calls_at hook) ds

-- b tells what a tells of all calls of these dispatchers' hooks
abbrev pub Agree : Answers → Answers → List Dispatcher → Type 0
Agree a b ds = (i j : ℕ) → j < calls_of i ds → b i j ≡ a i j

-- the slots are no more than the hooks that were registered, each once
abbrev pub Once : List ℕ → List Dispatcher → Type 0
Once used ds = (i : ℕ) → slots_of i ds ≤ (if list_any (λ h. h == i) used then 1 else 0)

-- ---- the hooks

module _ {H : Type 0} (calls : H → ChannelEvent → Verdict → H → Type 0) where
  -- the hook with this slot came along a chain over all that it was called on, from the hook that was handed in, to the
  -- one that is there now
  pub record HasSlot (handed : List H) (answers : Answers) (l : Epoch) (s : HookSlot) (h : H) : Type 0 where
    pub after_start : l.start ≤ s.place
    pub before_next : s.place ≤ next l
    pub handed_in : H
    pub place : item s.hook handed ≡ Some handed_in
    pub chain : IsChain (shown_to calls) handed_in (called l s) (replies answers s.hook (length (called l s))) h

  -- a table has one hook for each slot, in order of registration
  abbrev pub HaveSlots : List H → Answers → Epoch → List HookSlot → List H → Type 0
  HaveSlots handed answers l [] [] = Unit {0}
  HaveSlots handed answers l (s ∷ ss) (h ∷ hs) = HasSlot handed answers l s h × HaveSlots handed answers l ss hs
  HaveSlots handed answers l [] (h ∷ hs) = ⊥
  HaveSlots handed answers l (s ∷ ss) [] = ⊥

  -- there is one table for each epoch that was set aside
  abbrev pub EpochsHaveSlots : List H → Answers → List Epoch → List (List H) → Type 0
  EpochsHaveSlots handed answers [] [] = Unit {0}
  EpochsHaveSlots handed answers (l ∷ ls) (t ∷ ts) =
      HaveSlots handed answers l l.slots t × EpochsHaveSlots handed answers ls ts
  EpochsHaveSlots handed answers [] (t ∷ ts) = ⊥
  EpochsHaveSlots handed answers (l ∷ ls) [] = ⊥

  -- the table of a dispatcher's epoch, and those of its epochs that were set aside
  abbrev pub Tables : Type 0
  Tables = List H × List (List H)

  -- each dispatcher has its tables
  abbrev pub AllHaveSlots : List H → Answers → List Dispatcher → List Tables → Type 0
  AllHaveSlots handed answers [] [] = Unit {0}
  AllHaveSlots handed answers (d ∷ ds) (t ∷ ts) =
      (HaveSlots handed answers d.epoch d.epoch.slots t.0 × EpochsHaveSlots handed answers d.past t.1)
      × AllHaveSlots handed answers ds ts
  AllHaveSlots handed answers [] (t ∷ ts) = ⊥
  AllHaveSlots handed answers (d ∷ ds) [] = ⊥

  -- the hooks at this place are called on the event, and say so; the others stay
  abbrev pub CallsAt : ℕ → List Tables → ChannelEvent → Verdict → List Tables → Type 0
  CallsAt i [] event v ts = ⊥
  CallsAt i (t ∷ ts) event v [] = ⊥
  CallsAt zero (t ∷ ts) event v (t' ∷ ts') =
      Says (λ (h : H). h) (shown_to calls) t.0 event v t'.0 × (t'.1 ≡ t.1) × (ts' ≡ ts)
  CallsAt (suc i) (t ∷ ts) event v (t' ∷ ts') = (t' ≡ t) × CallsAt i ts event v ts'

  -- the hook gets the last slot at this place; the others stay
  abbrev pub SlotsAt : ℕ → List Tables → H → List Tables → Type 0
  SlotsAt i [] h ts = ⊥
  SlotsAt i (t ∷ ts) h [] = ⊥
  SlotsAt zero (t ∷ ts) h (t' ∷ ts') = (t'.0 ≡ t.0 ++ h ∷ []) × (t'.1 ≡ t.1) × (ts' ≡ ts)
  SlotsAt (suc i) (t ∷ ts) h (t' ∷ ts') = (t' ≡ t) × SlotsAt i ts h ts'

  -- those of two dispatchers join, without hooks
  abbrev pub Joins : List Tables → List Tables → Type 0
  Joins ts ts' = ts' ≡ ts ++ ([], []) ∷ ([], []) ∷ []

  -- the table of an epoch that ends joins those that were set aside
  abbrev pub aside_where : Bool → Tables → Tables
  aside_where ends t = if ends then ([], t.1 ++ t.0 ∷ []) else t

  -- the tables of those dispatchers that begin anew are set aside
  abbrev pub set_aside : (Dispatcher → Bool) → List Dispatcher → List Tables → List Tables
  set_aside anew [] ts = ts
  set_aside anew (d ∷ ds) [] = []
  set_aside anew (d ∷ ds) (t ∷ ts) = aside_where (anew d) t ∷ set_aside anew ds ts

  abbrev pub IsAside : Bool → Tables → Tables → Type 0
  IsAside ends t t' = t' ≡ aside_where ends t

  abbrev pub AreAside : (Dispatcher → Bool) → List Dispatcher → List Tables → List Tables → Type 0
  AreAside anew ds ts ts' = ts' ≡ set_aside anew ds ts

  -- of those that were handed in, what is left has each that was not registered, at its place, and no others
  pub record IsLeft (handed : List H) (used : List ℕ) (left : List (Option H)) : Type 0 where
    pub own : (i : ℕ) (h : H) → item i left ≡ Some (Some h) → item i handed ≡ Some h
    pub there : (i : ℕ) → i < length handed → list_any (λ h. h == i) used ≡ false
        → (h : H) × (item i left ≡ Some (Some h))

  -- each hook stands at the end of its chain by these answers, in its one table, or was not registered
  pub record Stand (handed : List H) (a : Answers) (used : List ℕ) (ds : List Dispatcher) (ts : List Tables)
      (left : List (Option H)) : Type 0 where
    pub once : Once used ds
    pub slotted : AllHaveSlots handed a ds ts
    pub offered : IsLeft handed used left

  -- so after a step in which the hooks say v, by answers that go on from the earlier ones: whatever tells as much, by
  -- that the hooks say v in it
  pub record Moved (handed : List H) (a : Answers) (ds : List Dispatcher) (said : Answers → Verdict) (v : Verdict)
      (used' : List ℕ) (ds' : List Dispatcher) (ts' : List Tables) (left' : List (Option H)) : Type 0 where
    pub more : Answers
    pub stand : Stand handed more used' ds' ts' left'
    pub told : (b : Answers) → Agree more b ds' → Agree a b ds × (said b ≡ v)
