-- A hook gets a slot with a dispatcher.
use Rattle.std.proofs.Common.{◌≡◌, ℕ, suc, ◌+◌, ◌==◌, List, [], ◌∷◌, ◌++◌, length}
use Rattle.std.proofs.Common.{refl, sym, ap, ◌∙◌}
use Rattle.std.proofs.Common.{subst, arith, Bool, true, false, cond, position, Some}
use Rattle.std.proofs.Math.ListN.{drop_of_length-le}
use Rattle.ln_hooks.specs.declared.event.ChannelEvent.{ChannelEvent}
use Rattle.ln_hooks.specs.Chain.{shown_to}
use Rattle.ln_hooks.specs.declared.verdict.Verdict.{Verdict}
use Rattle.ln_hooks.specs.Chain.{IsChain}
use Rattle.ln_world_channels.specs.declared.step.End.{End}
use Rattle.ln_world_channels.proofs.Places.{at_first}
use Rattle.ln_world_dispatch.specs.declared.hook_slot.HookSlot.{HookSlot}
use Rattle.ln_world_dispatch.specs.Dispatcher.{Epoch, Dispatcher, next, called, with_slot, registered, is_at}
use Rattle.ln_world_dispatch.specs.Dispatcher.{at_dispatcher}
use Rattle.ln_world_dispatch.specs.Slots.{Answers, replies, sum_slots, one_at, calls_at, slots_of, calls_of}
use Rattle.ln_world_dispatch.specs.Slots.{HasSlot, HaveSlots, EpochsHaveSlots, Tables, AllHaveSlots, SlotsAt}
use Rattle.ln_world_dispatch.specs.World.{item}
use Rattle.ln_world_dispatch.proofs.Serving.{here_at, past_at}

-- the slot that a hook gets
abbrev new_slot : ℕ → Epoch → HookSlot
new_slot hook l = record { hook = hook; place = next l }

none_yet : (hook : ℕ) (l : Epoch) → called (with_slot hook l) (new_slot hook l) ≡ []
none_yet hook l = drop_of_length-le l.served (omega arith)

pub sum_push : (f : HookSlot → ℕ) (ss : List HookSlot) (s : HookSlot)
    → sum_slots f (ss ++ s ∷ []) ≡ sum_slots f ss + f s
sum_push f [] s = omega arith
sum_push f (x ∷ ss) s = let rest = sum_push f ss s in omega (arith, rest)

no_calls : (hook i : ℕ) (l : Epoch) → calls_at i (with_slot hook l) (new_slot hook l) ≡ 0
no_calls hook i l = by (hook == i)
  where
    by : (b : Bool) → cond b (length (called (with_slot hook l) (new_slot hook l))) 0 ≡ 0
    by true = ap length (none_yet hook l)
    by false = refl

module _ {H : Type 0} (calls : H → ChannelEvent → Verdict → H → Type 0) (handed : List H) (a : Answers) where
  same_slots : (hook : ℕ) (l : Epoch) (ss : List HookSlot) (hs : List H) → HaveSlots calls handed a l ss hs
      → HaveSlots calls handed a (with_slot hook l) ss hs
  same_slots hook l [] [] k = tt
  same_slots hook l (s ∷ ss) (h ∷ hs) k = (
    record {
      after_start = k.0.after_start;
      before_next = k.0.before_next;
      handed_in = k.0.handed_in;
      place = k.0.place;
      chain = k.0.chain;
    },
    same_slots hook l ss hs k.1,
  )
  same_slots hook l [] (h ∷ hs) k = elim k [ ]
  same_slots hook l (s ∷ ss) [] k = elim k [ ]

  one_more : (l : Epoch) (s : HookSlot) (h : H) (ss : List HookSlot) (hs : List H) → HaveSlots calls handed a l ss hs
      → HasSlot calls handed a l s h → HaveSlots calls handed a l (ss ++ s ∷ []) (hs ++ h ∷ [])
  one_more l s h [] [] k n = (n, tt)
  one_more l s h (x ∷ ss) (y ∷ hs) k n = (k.0, one_more l s h ss hs k.1 n)
  one_more l s h [] (y ∷ hs) k n = elim k [ ]
  one_more l s h (x ∷ ss) [] k n = elim k [ ]

  first_so : (hook : ℕ) (l : Epoch) (h : H) → item hook handed ≡ Some h
      → HasSlot calls handed a (with_slot hook l) (new_slot hook l) h
  first_so hook l h is = record {
    after_start = omega arith;
    before_next = omega arith;
    handed_in = h;
    place = is;
    chain = subst (λ es. IsChain (shown_to calls) h es (replies a hook (length es)) h) (sym (none_yet hook l)) refl;
  }

  -- a hook that was handed in at this place gets a slot with the end's dispatcher
  pub record SlotsGiven (e : End) (hook : ℕ) (ds : List Dispatcher) (ts' : List (Tables calls)) : Type 0 where
    pub slotted : AllHaveSlots calls handed a (at_dispatcher e (registered hook) ds) ts'
    pub slots : (i : ℕ) → slots_of i (at_dispatcher e (registered hook) ds) ≡ slots_of i ds + cond (hook == i) 1 0
    pub as_often : (i : ℕ) → calls_of i (at_dispatcher e (registered hook) ds) ≡ calls_of i ds

  module _ (e : End) (hook : ℕ) (h : H) (is : item hook handed ≡ Some h) where
    abbrev SlotsThere : List Dispatcher → ℕ → Type 0
    SlotsThere ds i =
        (ts ts' : List (Tables calls)) → SlotsAt calls i ts h ts' → AllHaveSlots calls handed a ds ts
        → SlotsGiven e hook ds ts'

    slots_here : (d : Dispatcher) (ds : List Dispatcher) → is_at e d ≡ true → SlotsThere (d ∷ ds) 0
    slots_here d ds found (t ∷ ts) (t' ∷ ts') c k =
        let l = d.epoch in
        let moved : at_dispatcher e (registered hook) (d ∷ ds) ≡ registered hook d ∷ ds =
        here_at (is_at e d) (registered hook d ∷ ds) (d ∷ at_dispatcher e (registered hook) ds) found in
        let new = one_more (with_slot hook l) (new_slot hook l) h l.slots t.0 (same_slots hook l l.slots t.0 k.0.0)
        (first_so hook l h is) in
        record {
          slotted = subst (λ x. AllHaveSlots calls handed a x (t' ∷ ts')) (sym moved) (
            (
              subst (λ hs. HaveSlots calls handed a (with_slot hook l) (l.slots ++ new_slot hook l ∷ []) hs)
                  (sym c.0) new,
              subst (EpochsHaveSlots calls handed a d.past) (sym c.1) k.0.1,
            ),
            subst (AllHaveSlots calls handed a ds) (sym c.2) k.1,
          );
          slots = λ i. ap (slots_of i) moved
              ∙ (let p = sum_push (one_at i (with_slot hook l)) l.slots (new_slot hook l) in omega (arith, p));
          as_often = λ i. ap (calls_of i) moved
              ∙ (let p = sum_push (calls_at i (with_slot hook l)) l.slots (new_slot hook l) in
              let z = no_calls hook i l in omega (arith, p, z));
        }
    slots_here d ds found [] ts' c k = elim c [ ]
    slots_here d ds found (t ∷ ts) [] c k = elim c [ ]

    slots_later : (d : Dispatcher) (ds : List Dispatcher) (i : ℕ) → is_at e d ≡ false → SlotsThere ds i
        → SlotsThere (d ∷ ds) (suc i)
    slots_later d ds i found rest (t ∷ ts) (t' ∷ ts') c k =
        let f = rest ts ts' c.1 k.1 in
        let moved : at_dispatcher e (registered hook) (d ∷ ds) ≡ d ∷ at_dispatcher e (registered hook) ds =
        past_at (is_at e d) (registered hook d ∷ ds) (d ∷ at_dispatcher e (registered hook) ds) found in
        record {
          slotted = subst (λ x. AllHaveSlots calls handed a x (t' ∷ ts')) (sym moved)
              (subst (λ u. AllHaveSlots calls handed a (d ∷ at_dispatcher e (registered hook) ds) (u ∷ ts')) (sym c.0)
              (k.0, f.slotted));
          slots = λ j. ap (slots_of j) moved ∙ (let s = f.slots j in omega (arith, s));
          as_often = λ j. ap (calls_of j) moved ∙ (let s = f.as_often j in omega (arith, s));
        }
    slots_later d ds i found rest [] ts' c k = elim c [ ]
    slots_later d ds i found rest (t ∷ ts) [] c k = elim c [ ]

    pub slots_one : (ds : List Dispatcher) (ts ts' : List (Tables calls)) (i : ℕ) (x : Dispatcher)
        → Some i ≡ position (is_at e) ds → SlotsAt calls i ts h ts' → AllHaveSlots calls handed a ds ts
        → SlotsGiven e hook ds ts'
    slots_one ds ts ts' i x at c k =
        at_first (is_at e) SlotsThere slots_here slots_later ds i x at ts ts' c k
