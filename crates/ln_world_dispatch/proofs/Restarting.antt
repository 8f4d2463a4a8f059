-- Dispatchers that begin anew, and those of a channel that is opened.
use Rattle.std.proofs.Common.{◌≡◌, ℕ, suc, ◌+◌, List, [], ◌∷◌, ◌++◌, length, refl, ap, arith}
use Rattle.std.proofs.Common.{Bool, true, false, cond, map}
use Rattle.ln_keys.specs.declared.role.Role.{Role}
use Rattle.ln_hooks.specs.declared.event.ChannelEvent.{ChannelEvent}
use Rattle.ln_hooks.specs.declared.verdict.Verdict.{Verdict}
use Rattle.ln_world_channels.specs.declared.step.End.{End}
use Rattle.ln_world_dispatch.specs.declared.hook_slot.HookSlot.{HookSlot}
use Rattle.ln_world_dispatch.specs.Dispatcher.{Epoch, Dispatcher, fresh, restarted}
use Rattle.ln_world_dispatch.specs.Slots.{Answers, sum_slots, sum_epochs, total, HaveSlots, EpochsHaveSlots}
use Rattle.ln_world_dispatch.specs.Slots.{Tables, AllHaveSlots, set_aside}

-- ---- what is counted stays

epochs_push : (f : Epoch → HookSlot → ℕ) (ls : List Epoch) (l : Epoch)
    → sum_epochs f (ls ++ l ∷ []) ≡ sum_epochs f ls + sum_slots (f l) l.slots
epochs_push f [] l = omega arith
epochs_push f (x ∷ ls) l = let rest = epochs_push f ls l in omega (arith, rest)

anew_by : (b : Bool) (n : ℕ) (f : Epoch → HookSlot → ℕ) (d : Dispatcher) (ds es : List Dispatcher)
    → total f es ≡ total f ds
    → total f (cond b (restarted n d) d ∷ es) ≡ total f (d ∷ ds)
anew_by true n f d ds es same = let p = epochs_push f d.past d.epoch in omega (arith, p, same)
anew_by false n f d ds es same = omega (arith, same)

pub anew_total : (anew : Dispatcher → Bool) (n : Dispatcher → ℕ) (f : Epoch → HookSlot → ℕ) (ds : List Dispatcher)
    → total f (map (λ d. cond (anew d) (restarted (n d) d) d) ds) ≡ total f ds
anew_total anew n f [] = refl
anew_total anew n f (d ∷ ds) =
    anew_by (anew d) (n d) f d ds (map (λ x. cond (anew x) (restarted (n x) x) x) ds) (anew_total anew n f ds)

pub joined_total : (f : Epoch → HookSlot → ℕ) (ds : List Dispatcher) (x y : End) (r q : Role)
    → total f (ds ++ fresh x r ∷ fresh y q ∷ []) ≡ total f ds
joined_total f [] x y r q = omega arith
joined_total f (d ∷ ds) x y r q = let rest = joined_total f ds x y r q in omega (arith, rest)

-- ---- the hooks stay as they are

module _ {H : Type 0} (calls : H → ChannelEvent → Verdict → H → Type 0) (handed : List H) (a : Answers) where
  epochs_more : (ls : List Epoch) (ts : List (List H)) (l : Epoch) (t : List H) → EpochsHaveSlots calls handed a ls ts
      → HaveSlots calls handed a l l.slots t → EpochsHaveSlots calls handed a (ls ++ l ∷ []) (ts ++ t ∷ [])
  epochs_more [] [] l t k n = (n, tt)
  epochs_more (x ∷ ls) (y ∷ ts) l t k n = (k.0, epochs_more ls ts l t k.1 n)
  epochs_more [] (y ∷ ts) l t k n = elim k [ ]
  epochs_more (x ∷ ls) [] l t k n = elim k [ ]

  aside_by : (b : Bool) (n : ℕ) (d : Dispatcher) (t : Tables calls) (ds : List Dispatcher) (ts : List (Tables calls))
      → HaveSlots calls handed a d.epoch d.epoch.slots t.0 × EpochsHaveSlots calls handed a d.past t.1
      → AllHaveSlots calls handed a ds ts
      → AllHaveSlots calls handed a (cond b (restarted n d) d ∷ ds) (cond b ([], t.1 ++ t.0 ∷ []) t ∷ ts)
  aside_by true n d t ds ts k rest = ((tt, epochs_more d.past t.1 d.epoch t.0 k.1 k.0), rest)
  aside_by false n d t ds ts k rest = (k, rest)

  pub anew_slotted : (anew : Dispatcher → Bool) (n : Dispatcher → ℕ) (ds : List Dispatcher) (ts : List (Tables calls))
      → AllHaveSlots calls handed a ds ts
      → AllHaveSlots calls handed a (map (λ d. cond (anew d) (restarted (n d) d) d) ds) (set_aside calls anew ds ts)
  anew_slotted anew n [] [] k = tt
  anew_slotted anew n (d ∷ ds) (t ∷ ts) k =
      aside_by (anew d) (n d) d t (map (λ x. cond (anew x) (restarted (n x) x) x) ds) (set_aside calls anew ds ts) k.0
      (anew_slotted anew n ds ts k.1)
  anew_slotted anew n [] (t ∷ ts) k = elim k [ ]
  anew_slotted anew n (d ∷ ds) [] k = elim k [ ]

  pub joined_slotted : (ds : List Dispatcher) (ts : List (Tables calls)) (x y : End) (r q : Role)
      → AllHaveSlots calls handed a ds ts
      → AllHaveSlots calls handed a (ds ++ fresh x r ∷ fresh y q ∷ []) (ts ++ ([], []) ∷ ([], []) ∷ [])
  joined_slotted [] [] x y r q k = ((tt, tt), ((tt, tt), tt))
  joined_slotted (d ∷ ds) (t ∷ ts) x y r q k = (k.0, joined_slotted ds ts x y r q k.1)
  joined_slotted [] (t ∷ ts) x y r q k = elim k [ ]
  joined_slotted (d ∷ ds) [] x y r q k = elim k [ ]

  pub as_many_tables : (ds : List Dispatcher) (ts : List (Tables calls)) → AllHaveSlots calls handed a ds ts
      → length ts ≡ length ds
  as_many_tables [] [] k = refl
  as_many_tables (d ∷ ds) (t ∷ ts) k = ap suc (as_many_tables ds ts k.1)
  as_many_tables [] (t ∷ ts) k = elim k [ ]
  as_many_tables (d ∷ ds) [] k = elim k [ ]
