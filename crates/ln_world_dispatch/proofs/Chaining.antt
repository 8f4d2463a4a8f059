-- A hook that is called once more has a chain that is one call longer; and answers that tell as much lead it as well.
use Rattle.std.proofs.Common.{◌≡◌, ℕ, zero, suc, ◌+◌, ◌-◌, ◌≤◌, ◌<◌, ◌==◌, List, [], ◌∷◌, ◌++◌, length, refl, sym, ap}
use Rattle.std.proofs.Common.{◌∙◌, subst, arith, Bool, true, false, cond, map}
use Rattle.std.proofs.lemmas.List.{drop-append-le, length-append}
use Rattle.std.proofs.lemmas.Bool.{eq-eqb}
use Rattle.ln_hooks.specs.declared.event.ChannelEvent.{ChannelEvent}
use Rattle.ln_hooks.specs.declared.verdict.Verdict.{Verdict}
use Rattle.ln_hooks.specs.Chain.{IsCalledOn, IsChain, shown_to}
use Rattle.ln_hooks.specs.Table.{AreCalledOn}
use Rattle.ln_world_dispatch.specs.declared.hook_slot.HookSlot.{HookSlot}
use Rattle.ln_world_dispatch.specs.Dispatcher.{Epoch, Dispatcher, next, called, with_one}
use Rattle.ln_world_dispatch.specs.Slots.{Answers, replies, next_answer, sum_slots, sum_epochs, one_at, calls_at}
use Rattle.ln_world_dispatch.specs.Slots.{calls_of, HasSlot, HaveSlots, EpochsHaveSlots, Tables, AllHaveSlots}
use Rattle.ln_world_dispatch.proofs.Counting.{Heard, AsMany}

pub called_push : (e : ChannelEvent) (v : Verdict) (l : Epoch) (s : HookSlot) → l.start ≤ s.place → s.place ≤ next l
    → called (with_one e v l) s ≡ called l s ++ e ∷ []
called_push e v l s from to = drop-append-le (s.place - l.start) l.served (e ∷ []) (omega (arith, from, to))

pub one_longer : (e : ChannelEvent) (v : Verdict) (l : Epoch) (s : HookSlot) → l.start ≤ s.place → s.place ≤ next l
    → length (called (with_one e v l) s) ≡ suc (length (called l s))
one_longer e v l s from to =
    let more = length-append (called l s) (e ∷ []) in
    let same = ap length (called_push e v l s from to) in
    omega (arith, more, same)

pub replies_same : (a b : Answers) (i n : ℕ) → ((j : ℕ) → j < n → b i j ≡ a i j) → replies b i n ≡ replies a i n
replies_same a b i zero h = refl
replies_same a b i (suc n) h =
    ap (λ r. r ++ b i n ∷ []) (replies_same a b i n (λ j lt. h j (omega (arith, lt))))
    ∙ ap (λ v. replies a i n ++ v ∷ []) (h n (omega arith))

-- b tells what a tells of the first calls of each hook, so many
abbrev pub TellsAs : Answers → Answers → (ℕ → ℕ) → Type 0
TellsAs a b n = (i j : ℕ) → j < n i → b i j ≡ a i j

pub head_within : (i : ℕ) (l : Epoch) (s : HookSlot) (ss : List HookSlot) → i ≡ s.hook
    → length (called l s) ≤ sum_slots (calls_at i l) (s ∷ ss)
head_within i l s ss is =
    let here : sum_slots (calls_at i l) (s ∷ ss) ≡ length (called l s) + sum_slots (calls_at i l) ss =
    ap (λ b. cond b (length (called l s)) 0 + sum_slots (calls_at i l) ss) (eq-eqb s.hook i (sym is)) in
    omega (arith, here)

module _ {H : Type 0} (calls : H → ChannelEvent → Verdict → H → Type 0) where
  chain_more : (f : H) (events : List ChannelEvent) (answers : List Verdict) (f' f'' : H) (e : ChannelEvent)
      (a : Verdict) → IsChain (shown_to calls) f events answers f' → IsCalledOn (shown_to calls) f' e a f''
      → IsChain (shown_to calls) f (events ++ e ∷ []) (answers ++ a ∷ []) f''
  chain_more f [] [] f' f'' e a c now =
      (f'', subst (λ g. IsCalledOn (shown_to calls) g e a f'') (sym c) now, refl)
  chain_more f (x ∷ xs) (b ∷ bs) f' f'' e a c now = (c.0, c.1, chain_more c.0 xs bs f' f'' e a c.2 now)
  chain_more f [] (b ∷ bs) f' f'' e a c now = elim c [ ]
  chain_more f (x ∷ xs) [] f' f'' e a c now = elim c [ ]

  module _ (handed : List H) where
    -- ---- other answers that tell as much

    one_on : (a b : Answers) (l : Epoch) (s : HookSlot) (h : H)
        → ((j : ℕ) → j < length (called l s) → b s.hook j ≡ a s.hook j)
        → HasSlot calls handed a l s h → HasSlot calls handed b l s h
    one_on a b l s h same k = record {
      after_start = k.after_start;
      before_next = k.before_next;
      handed_in = k.handed_in;
      place = k.place;
      chain = subst (λ r. IsChain (shown_to calls) k.handed_in (called l s) r h)
          (sym (replies_same a b s.hook (length (called l s)) same)) k.chain;
    }

    pub slots_on : (a b : Answers) (n : ℕ → ℕ) → TellsAs a b n → (l : Epoch) (ss : List HookSlot) (hs : List H)
        → ((i : ℕ) → sum_slots (calls_at i l) ss ≤ n i) → HaveSlots calls handed a l ss hs
        → HaveSlots calls handed b l ss hs
    slots_on a b n same l [] [] within k = tt
    slots_on a b n same l (s ∷ ss) (h ∷ hs) within k = (
      one_on a b l s h (λ j lt. same s.hook j (
          let head = head_within s.hook l s ss refl in
          let w = within s.hook in
          omega (arith, lt, head, w)
          )) k.0,
      slots_on a b n same l ss hs (λ i. let w = within i in omega (arith, w)) k.1,
    )
    slots_on a b n same l [] (h ∷ hs) within k = elim k [ ]
    slots_on a b n same l (s ∷ ss) [] within k = elim k [ ]

    pub epochs_on : (a b : Answers) (n : ℕ → ℕ) → TellsAs a b n → (ls : List Epoch) (ts : List (List H))
        → ((i : ℕ) → sum_epochs (calls_at i) ls ≤ n i) → EpochsHaveSlots calls handed a ls ts
        → EpochsHaveSlots calls handed b ls ts
    epochs_on a b n same [] [] within k = tt
    epochs_on a b n same (l ∷ ls) (t ∷ ts) within k = (
      slots_on a b n same l l.slots t (λ i. let w = within i in omega (arith, w)) k.0,
      epochs_on a b n same ls ts (λ i. let w = within i in omega (arith, w)) k.1,
    )
    epochs_on a b n same [] (t ∷ ts) within k = elim k [ ]
    epochs_on a b n same (l ∷ ls) [] within k = elim k [ ]

    pub all_on : (a b : Answers) (n : ℕ → ℕ) → TellsAs a b n → (ds : List Dispatcher) (ts : List (Tables calls))
        → ((i : ℕ) → calls_of i ds ≤ n i) → AllHaveSlots calls handed a ds ts → AllHaveSlots calls handed b ds ts
    all_on a b n same [] [] within k = tt
    all_on a b n same (d ∷ ds) (t ∷ ts) within k = (
      (
        slots_on a b n same d.epoch d.epoch.slots t.0 (λ i. let w = within i in omega (arith, w)) k.0.0,
        epochs_on a b n same d.past t.1 (λ i. let w = within i in omega (arith, w)) k.0.1,
      ),
      all_on a b n same ds ts (λ i. let w = within i in omega (arith, w)) k.1,
    )
    all_on a b n same [] (t ∷ ts) within k = elim k [ ]
    all_on a b n same (d ∷ ds) [] within k = elim k [ ]

    -- ---- one call more

    one_further : (a : Answers) (e : ChannelEvent) (v : Verdict) (l : Epoch) (s : HookSlot) (h h' : H) (x : Verdict)
        → a s.hook (length (called l s)) ≡ x → HasSlot calls handed a l s h
        → IsCalledOn (shown_to calls) h e x h' → HasSlot calls handed a (with_one e v l) s h'
    one_further a e v l s h h' x heard k now =
        let es = called l s in
        let n = length es in
        let grown : length (l.served ++ e ∷ []) ≡ length l.served + 1 = length-append l.served (e ∷ []) in
        let from = k.after_start in
        let to = k.before_next in
        let base = chain_more k.handed_in es (replies a s.hook n) h h' e x k.chain now in
        let told = subst (λ y. IsChain (shown_to calls) k.handed_in (es ++ e ∷ []) (replies a s.hook n ++ y ∷ []) h')
        (sym heard) base in
        let count : suc n ≡ length (es ++ e ∷ []) = let more = length-append es (e ∷ []) in omega (arith, more) in
        let long = subst (λ m. IsChain (shown_to calls) k.handed_in (es ++ e ∷ []) (replies a s.hook m) h') count
        told in
        record {
          after_start = from;
          before_next = omega (arith, to, grown);
          handed_in = k.handed_in;
          place = k.place;
          chain = subst (λ l'. IsChain (shown_to calls) k.handed_in l' (replies a s.hook (length l')) h')
              (sym (called_push e v l s from to)) long;
        }

    pub further : (a : Answers) (e : ChannelEvent) (v : Verdict) (l : Epoch) (ss : List HookSlot) (hs : List H)
        (rs : List Verdict) (hs' : List H) → Heard a l ss rs → HaveSlots calls handed a l ss hs
        → AreCalledOn (λ (h : H). h) (shown_to calls) hs e rs hs' → HaveSlots calls handed a (with_one e v l) ss hs'
    further a e v l [] [] [] [] heard k now = tt
    further a e v l (s ∷ ss) (h ∷ hs) (r ∷ rs) (h' ∷ hs') heard k now =
        (one_further a e v l s h h' r heard.0 k.0 now.0, further a e v l ss hs rs hs' heard.1 k.1 now.1)
    further a e v l [] [] [] (h' ∷ hs') heard k now = elim now [ ]
    further a e v l [] [] (r ∷ rs) hs' heard k now = elim heard [ ]
    further a e v l [] (h ∷ hs) rs hs' heard k now = elim k [ ]
    further a e v l (s ∷ ss) [] rs hs' heard k now = elim k [ ]
    further a e v l (s ∷ ss) (h ∷ hs) [] hs' heard k now = elim heard [ ]
    further a e v l (s ∷ ss) (h ∷ hs) (r ∷ rs) [] heard k now = elim now [ ]

    pub as_many : (a : Answers) (e : ChannelEvent) (l : Epoch) (ss : List HookSlot) (hs : List H) (rs : List Verdict)
        (hs' : List H) → HaveSlots calls handed a l ss hs
        → AreCalledOn (λ (h : H). h) (shown_to calls) hs e rs hs' → AsMany ss rs
    as_many a e l [] [] [] [] k now = tt
    as_many a e l (s ∷ ss) (h ∷ hs) (r ∷ rs) (h' ∷ hs') k now = as_many a e l ss hs rs hs' k.1 now.1
    as_many a e l [] [] [] (h' ∷ hs') k now = elim now [ ]
    as_many a e l [] [] (r ∷ rs) hs' k now = elim now [ ]
    as_many a e l [] (h ∷ hs) rs hs' k now = elim k [ ]
    as_many a e l (s ∷ ss) [] rs hs' k now = elim k [ ]
    as_many a e l (s ∷ ss) (h ∷ hs) [] hs' k now = elim now [ ]
    as_many a e l (s ∷ ss) (h ∷ hs) (r ∷ rs) [] k now = elim now [ ]

    -- ---- how often each was called by then

    grown_by : (b : Bool) (n m : ℕ) → m ≡ suc n → cond b m 0 ≡ cond b n 0 + cond b 1 0
    grown_by true n m is = omega (arith, is)
    grown_by false n m is = refl

    pub calls_more : (a : Answers) (e : ChannelEvent) (v : Verdict) (l : Epoch) (ss : List HookSlot) (hs : List H)
        → HaveSlots calls handed a l ss hs → (i : ℕ)
        → sum_slots (calls_at i (with_one e v l)) ss ≡ sum_slots (calls_at i l) ss + sum_slots (one_at i l) ss
    calls_more a e v l [] hs k i = refl
    calls_more a e v l (s ∷ ss) (h ∷ hs) k i =
        let head = grown_by (s.hook == i) (length (called l s)) (length (called (with_one e v l) s))
        (one_longer e v l s k.0.after_start k.0.before_next) in
        let rest = calls_more a e v l ss hs k.1 i in
        omega (arith, head, rest)
    calls_more a e v l (s ∷ ss) [] k i = elim k [ ]

    -- what is told of the calls so far and of one more is what these hooks have answered
    pub heard_too : (a b : Answers) (n : ℕ → ℕ) → TellsAs a b n → (e : ChannelEvent) (v : Verdict) (l : Epoch)
        (ss : List HookSlot) (hs : List H) (rs : List Verdict)
        → ((i : ℕ) → sum_slots (calls_at i (with_one e v l)) ss ≤ n i) → HaveSlots calls handed a l ss hs
        → Heard a l ss rs → map (next_answer b l) ss ≡ rs
    heard_too a b n same e v l [] hs [] within k heard = refl
    heard_too a b n same e v l (s ∷ ss) (h ∷ hs) (r ∷ rs) within k heard =
        let head = head_within s.hook (with_one e v l) s ss refl in
        let w = within s.hook in
        let longer = one_longer e v l s k.0.after_start k.0.before_next in
        let first = same s.hook (length (called l s)) (omega (arith, head, w, longer)) ∙ heard.0 in
        ap (λ x. x ∷ map (next_answer b l) ss) first
        ∙ ap (λ xs. r ∷ xs)
        (heard_too a b n same e v l ss hs rs (λ i. let w = within i in omega (arith, w)) k.1 heard.1)
    heard_too a b n same e v l [] hs (r ∷ rs) within k heard = elim heard [ ]
    heard_too a b n same e v l (s ∷ ss) [] rs within k heard = elim k [ ]
    heard_too a b n same e v l (s ∷ ss) (h ∷ hs) [] within k heard = elim heard [ ]
