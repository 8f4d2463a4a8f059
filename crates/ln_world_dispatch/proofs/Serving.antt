-- A dispatcher that serves one event more: each hook of its epoch is called on it, and its chain is one call longer.
use Rattle.std.proofs.Common.{◌≡◌, ℕ, zero, suc, ◌+◌, ◌≤◌, List, [], ◌∷◌, refl, sym, ap, ◌∙◌}
use Rattle.std.proofs.Common.{subst, arith, Bool, true, false, cond, nat_lt, position, Some}
use Rattle.std.proofs.Common.{inl, inr}
use Rattle.std.proofs.lemmas.Bool.{lt-ltb, ltb-true}
use Rattle.ln_hooks.specs.declared.event.ChannelEvent.{ChannelEvent}
use Rattle.ln_hooks.specs.declared.verdict.Verdict.{Verdict}
use Rattle.ln_hooks.specs.Verdict.{verdict}
use Rattle.ln_hooks.specs.Chain.{shown_to}
use Rattle.ln_hooks.specs.Table.{AreCalledOn}
use Rattle.ln_world_channels.specs.declared.step.End.{End}
use Rattle.ln_world_channels.proofs.Places.{at_first}
use Rattle.ln_world_dispatch.specs.Dispatcher.{Dispatcher, with_one, serving, is_at, dispatcher_at, at_dispatcher}
use Rattle.ln_world_dispatch.specs.Slots.{Answers, says_at, sum_slots, sum_epochs, one_at, calls_at, slots_of}
use Rattle.ln_world_dispatch.specs.Slots.{calls_of, HaveSlots, EpochsHaveSlots, Tables, AllHaveSlots, CallsAt}
use Rattle.ln_world_dispatch.specs.Slots.{Agree}
use Rattle.ln_world_dispatch.proofs.Counting.{TellsOf, answer_in, all_heard, none_epochs, none_at}
use Rattle.ln_world_dispatch.proofs.Chaining.{all_on, further, as_many, calls_more, heard_too}

-- ---- lists of dispatchers

pub here_at : {A : Type 0} (b : Bool) (x y : A) → b ≡ true → cond b x y ≡ x
here_at true x y h = refl
here_at false x y h = absurd (cc)

pub past_at : {A : Type 0} (b : Bool) (x y : A) → b ≡ false → cond b x y ≡ y
past_at true x y h = absurd (cc)
past_at false x y h = refl

below_itself : (n : ℕ) → nat_lt n n ≡ false
below_itself n = by (nat_lt n n) refl
  where
    by : (b : Bool) → nat_lt n n ≡ b → b ≡ false
    by false e = refl
    by true e = absurd (let lt = ltb-true n n e in omega (arith, lt))

module _ {H : Type 0} (calls : H → ChannelEvent → Verdict → H → Type 0) (handed : List H) (e : End)
    (event : ChannelEvent) (v : Verdict) where
  -- the end's dispatcher among these, whose hooks were called
  record Found (ds : List Dispatcher) (ts ts' : List (Tables calls)) : Type 0 where
    dispatcher : Dispatcher
    there : dispatcher_at e ds ≡ Some dispatcher
    before : List H
    after : List H
    answers : List Verdict
    called : AreCalledOn (λ (h : H). h) (shown_to calls) before event answers after
    joins : v ≡ verdict answers
    slotted : (a : Answers) → AllHaveSlots calls handed a ds ts
        → HaveSlots calls handed a dispatcher.epoch dispatcher.epoch.slots before
    again : (a : Answers) → AllHaveSlots calls handed a ds ts
        → HaveSlots calls handed a (with_one event v dispatcher.epoch) dispatcher.epoch.slots after
        → AllHaveSlots calls handed a (at_dispatcher e (serving event v) ds) ts'
    other_slots : ℕ → ℕ
    other_calls : ℕ → ℕ
    slots : (i : ℕ) → slots_of i ds ≡ sum_slots (one_at i dispatcher.epoch) dispatcher.epoch.slots + other_slots i
    calls_before : (i : ℕ) → calls_of i ds
        ≡ sum_slots (calls_at i dispatcher.epoch) dispatcher.epoch.slots + other_calls i
    none : (i : ℕ) → other_slots i ≡ 0 → other_calls i ≡ 0
    slots_after : (i : ℕ) → slots_of i (at_dispatcher e (serving event v) ds) ≡ slots_of i ds
    calls_after : (i : ℕ) → calls_of i (at_dispatcher e (serving event v) ds)
        ≡ sum_slots (calls_at i (with_one event v dispatcher.epoch)) dispatcher.epoch.slots + other_calls i

  abbrev FoundAt : List Dispatcher → ℕ → Type 0
  FoundAt ds i = (ts ts' : List (Tables calls)) → CallsAt calls i ts event v ts' → Found ds ts ts'

  found_here : (d : Dispatcher) (ds : List Dispatcher) → is_at e d ≡ true → FoundAt (d ∷ ds) 0
  found_here d ds h (t ∷ ts) (t' ∷ ts') c =
      let moved : at_dispatcher e (serving event v) (d ∷ ds) ≡ serving event v d ∷ ds =
      here_at (is_at e d) (serving event v d ∷ ds) (d ∷ at_dispatcher e (serving event v) ds) h in
      record {
        dispatcher = d;
        there = here_at (is_at e d) (Some d) (dispatcher_at e ds) h;
        before = t.0;
        after = t'.0;
        answers = c.0.answers;
        called = c.0.called;
        joins = c.0.joins;
        slotted = λ a k. k.0.0;
        again = λ a k new. subst (λ l. AllHaveSlots calls handed a l (t' ∷ ts')) (sym moved) (
          (new, subst (EpochsHaveSlots calls handed a d.past) (sym c.1) k.0.1),
          subst (AllHaveSlots calls handed a ds) (sym c.2) k.1,
        );
        other_slots = λ i. sum_epochs (one_at i) d.past + slots_of i ds;
        other_calls = λ i. sum_epochs (calls_at i) d.past + calls_of i ds;
        slots = λ i. omega arith;
        calls_before = λ i. omega arith;
        none = λ i z.
            let a = none_epochs i d.past (omega (arith, z)) in
            let b = none_at i ds (omega (arith, z)) in
            omega (arith, a, b);
        slots_after = λ i. ap (slots_of i) moved;
        calls_after = λ i. ap (calls_of i) moved ∙ (omega arith);
      }
  found_here d ds h [] ts' c = elim c [ ]
  found_here d ds h (t ∷ ts) [] c = elim c [ ]

  found_later : (d : Dispatcher) (ds : List Dispatcher) (i : ℕ) → is_at e d ≡ false → FoundAt ds i
      → FoundAt (d ∷ ds) (suc i)
  found_later d ds i h rest (t ∷ ts) (t' ∷ ts') c =
      let f = rest ts ts' c.1 in
      let moved : at_dispatcher e (serving event v) (d ∷ ds) ≡ d ∷ at_dispatcher e (serving event v) ds =
      past_at (is_at e d) (serving event v d ∷ ds) (d ∷ at_dispatcher e (serving event v) ds) h in
      record {
        dispatcher = f.dispatcher;
        there = past_at (is_at e d) (Some d) (dispatcher_at e ds) h ∙ f.there;
        before = f.before;
        after = f.after;
        answers = f.answers;
        called = f.called;
        joins = f.joins;
        slotted = λ a k. f.slotted a k.1;
        again = λ a k new. subst (λ l. AllHaveSlots calls handed a l (t' ∷ ts')) (sym moved)
            (subst (λ u. AllHaveSlots calls handed a (d ∷ at_dispatcher e (serving event v) ds) (u ∷ ts')) (sym c.0)
            (k.0, f.again a k.1 new));
        other_slots = λ i. (sum_slots (one_at i d.epoch) d.epoch.slots + sum_epochs
            (one_at i) d.past) + f.other_slots i;
        other_calls = λ i. (sum_slots (calls_at i d.epoch) d.epoch.slots + sum_epochs (calls_at i) d.past)
            + f.other_calls i;
        slots = λ i. let s = f.slots i in omega (arith, s);
        calls_before = λ i. let s = f.calls_before i in omega (arith, s);
        none = λ i z.
            let own : slots_of i (d ∷ []) ≡ 0 = omega (arith, z) in
            let a = none_at i (d ∷ []) own in
            let b = f.none i (omega (arith, z)) in
            omega (arith, a, b);
        slots_after = λ i. ap (slots_of i) moved ∙ (let s = f.slots_after i in omega (arith, s));
        calls_after = λ i. ap (calls_of i) moved ∙ (let s = f.calls_after i in omega (arith, s));
      }
  found_later d ds i h rest [] ts' c = elim c [ ]
  found_later d ds i h rest (t ∷ ts) [] c = elim c [ ]

  -- ---- answers that go on by what the hooks have said now

  abbrev goes_on : (ds : List Dispatcher) (ts ts' : List (Tables calls)) (a : Answers) → Found ds ts ts'
      → ℕ → ℕ → Verdict
  goes_on ds ts ts' a f i j =
      cond (nat_lt j (calls_of i ds)) (a i j) (answer_in i f.dispatcher.epoch.slots f.answers)

  as_before : (ds : List Dispatcher) (ts ts' : List (Tables calls)) (a : Answers) (f : Found ds ts ts')
      → Agree a (goes_on ds ts ts' a f) ds
  as_before ds ts ts' a f i j lt =
      here_at (nat_lt j (calls_of i ds)) (a i j) (answer_in i f.dispatcher.epoch.slots f.answers)
      (lt-ltb j (calls_of i ds) lt)

  then_said : (ds : List Dispatcher) (ts ts' : List (Tables calls)) (a : Answers) (f : Found ds ts ts') (i : ℕ)
      → goes_on ds ts ts' a f i (calls_of i ds) ≡ answer_in i f.dispatcher.epoch.slots f.answers
  then_said ds ts ts' a f i =
      past_at (nat_lt (calls_of i ds) (calls_of i ds)) (a i (calls_of i ds))
      (answer_in i f.dispatcher.epoch.slots f.answers) (below_itself (calls_of i ds))

  tells : (ds : List Dispatcher) (ts ts' : List (Tables calls)) (f : Found ds ts ts') (i : ℕ) → slots_of i ds ≤ 1
      → (n : ℕ) → sum_slots (one_at i f.dispatcher.epoch) f.dispatcher.epoch.slots ≡ n
      → TellsOf i f.dispatcher.epoch f.dispatcher.epoch.slots f.answers
      (answer_in i f.dispatcher.epoch.slots f.answers) (calls_of i ds)
  tells ds ts ts' f i once zero is = inl is
  tells ds ts ts' f i once (suc n) is =
      let s = f.slots i in
      let b = f.calls_before i in
      let z = f.none i (omega (arith, s, once, is)) in
      inr (refl, omega (arith, b, z))

  pub record Served (a : Answers) (ds : List Dispatcher) (ts' : List (Tables calls)) : Type 0 where
    pub more : Answers
    pub slotted : AllHaveSlots calls handed more (at_dispatcher e (serving event v) ds) ts'
    pub told : (b : Answers) → Agree more b (at_dispatcher e (serving event v) ds)
        → Agree a b ds × (says_at b (dispatcher_at e ds) ≡ v)

  pub serves_one : (a : Answers) (ds : List Dispatcher) (ts ts' : List (Tables calls)) (i : ℕ) (x : Dispatcher)
      → Some i ≡ position (is_at e) ds → CallsAt calls i ts event v ts' → ((k : ℕ) → slots_of k ds ≤ 1)
      → AllHaveSlots calls handed a ds ts → Served a ds ts'
  serves_one a ds ts ts' i x is c once k =
      let f = at_first (is_at e) FoundAt found_here found_later ds i x is ts ts' c in
      let more = goes_on ds ts ts' a f in
      let l = f.dispatcher.epoch in
      let on = all_on calls handed a more (λ h. calls_of h ds) (as_before ds ts ts' a f) ds ts (λ h. omega arith) k in
      let slots = f.slotted more on in
      let many = as_many calls handed more event l l.slots f.before f.answers f.after slots f.called in
      let heard = all_heard l more (λ h. answer_in h l.slots f.answers) (λ h. calls_of h ds)
      (then_said ds ts ts' a f) l.slots f.answers many
      (λ h. let s = f.slots h in let o = once h in omega (arith, s, o))
      (λ h. tells ds ts ts' f h (once h) (sum_slots (one_at h l) l.slots) refl) in
      let grown : (h : ℕ) → calls_of h (at_dispatcher e (serving event v) ds)
      ≡ calls_of h ds + sum_slots (one_at h l) l.slots =
      λ h.
      let after = f.calls_after h in
      let before = f.calls_before h in
      let by = calls_more calls handed more event v l l.slots f.before slots h in
      omega (arith, after, before, by) in
      record {
        more = more;
        slotted = f.again more on (further calls handed more event v l l.slots f.before f.answers f.after heard slots
            f.called);
        told = λ b agree. (
          λ h j lt. agree h j (let g = grown h in omega (arith, g, lt)) ∙ as_before ds ts ts' a f h j lt,
          ap (says_at b) f.there
              ∙ ap verdict (heard_too calls handed more b (λ h. calls_of h (at_dispatcher e
              (serving event v) ds)) agree event
              v l l.slots f.before f.answers (λ h. let after = f.calls_after h in omega (arith, after)) slots heard)
              ∙ sym f.joins,
        );
      }
