-- A call changes the record of one channel at most, and once that stands in the open batch, none is left out.
use Rattle.std.proofs.Common.{◌≡◌, ◌⊎◌, ◌∙◌, refl, sym, ap, subst, inl, inr, ℕ, zero, suc, List, [], ◌∷◌, ◌++◌}
use Rattle.std.proofs.Common.{Bool, true, false, not, ◌&&◌, ◌||◌, Option, Some, None, slice_get, slice_set, length}
use Rattle.std.specs.Prelude.{option_map, nat_le, if◌then◌else◌}
use Rattle.ln_msgs.specs.declared.messages.message.Message.{Message}
use Rattle.ln_keys.specs.Signer.{Signer}
use Rattle.ln_keys.specs.Services.{Services}
use Rattle.ln_log.specs.declared.mark.Mark.{Mark}
use Rattle.ln_hooks.specs.declared.event.ChannelEvent.{ChannelEvent}
use Rattle.ln_hooks.specs.declared.verdict.Verdict.{Verdict}
use Rattle.ln_channel.specs.declared.command.Command.{Command}
use Rattle.ln_channel.specs.State.{State}
use Rattle.ln_manager_channels.specs.declared.given.Given.{Given}
use Rattle.ln_manager_channels.specs.declared.newest.Newest.{Newest}
use Rattle.ln_manager_channels.specs.declared.saved.Saved.{Saved}
use Rattle.ln_manager_channels.specs.Calls as call
use Rattle.ln_manager_channels.specs.Calls.{Adds, Parts, Makes, known, obeyed}
use Rattle.ln_manager_channels.specs.Commands.{is_decision, is_users}
use Rattle.ln_manager_channels.specs.Events.{next_event}
use Rattle.ln_manager_channels.specs.Links.{number_in, working_end, working_id}
use Rattle.ln_manager_channels.specs.Loading.{Seats, SeatsAll}
use Rattle.ln_manager_channels.specs.Moves.{Answer, Known, TakesAt, TakesOver, TakesMessage, ObeysBy, ObeysOver}
use Rattle.ln_manager_channels.specs.Moves.{ObeysUser, batched, is_others, knowing, known_before, none_fresh}
use Rattle.ln_manager_channels.specs.Moves.{no_record, opened_in, with_place}
use Rattle.ln_manager_channels.specs.Obeying.{Obeyed, Gives, Stops, ObeysCommand, ObeysFirst, ObeysBook}
use Rattle.ln_manager_channels.specs.Obeying.{ConcludesIf, ConcludesFirst, ConcludesDue, Decides, Resumes, first_of}
use Rattle.ln_manager_channels.specs.Places.{AnswersBesideBy, changed_at, changed_by}
use Rattle.ln_manager.specs.Managed.{ChangesOneAt}

-- ---- what stands in a batch

right : (a b : Bool) → (a && b) ≡ true → b ≡ true
right true b h = h
right false b h = absurd (cc)

cons_by : {X : Type 0} (c : ℕ) (f : X → X) (o : Option X) (x : X) (xs : List X)
    → changed_by (suc c) f o (x ∷ xs) ≡ x ∷ changed_by c f o xs
cons_by c f None x xs = refl
cons_by c f (Some y) x xs = refl

with_head : (n : Newest) (ns ms : List Newest) → none_fresh (n ∷ ns) ≡ true → none_fresh ms ≡ true
    → none_fresh (n ∷ ms) ≡ true
with_head n ns ms h k = by n.is_fresh h
  where
    by : (b : Bool) → (not b && none_fresh ns) ≡ true → (not b && none_fresh ms) ≡ true
    by true h = absurd (cc)
    by false h = k

batched_set : (ns : List Newest) (c : ℕ) (n : Newest) → none_fresh ns ≡ true
    → none_fresh (changed_at c batched (slice_set ns c n)) ≡ true
batched_set [] c n h = refl
batched_set (m ∷ ns) zero n h = right (not m.is_fresh) (none_fresh ns) h
batched_set (m ∷ ns) (suc c) n h =
    ap none_fresh (cons_by c batched (slice_get (slice_set ns c n) c) m (slice_set ns c n))
    ∙ with_head m ns (changed_at c batched (slice_set ns c n)) h
    (batched_set ns c n (right (not m.is_fresh) (none_fresh ns) h))

batched_same : (ns : List Newest) (c : ℕ) → none_fresh ns ≡ true → none_fresh (changed_at c batched ns) ≡ true
batched_same [] c h = refl
batched_same (m ∷ ns) zero h = right (not m.is_fresh) (none_fresh ns) h
batched_same (m ∷ ns) (suc c) h =
    ap none_fresh (cons_by c batched (slice_get ns c) m ns)
    ∙ with_head m ns (changed_at c batched ns) h (batched_same ns c (right (not m.is_fresh) (none_fresh ns) h))

pub none_left_out : (spent : Bool) (c : ℕ) (ns ms : List Newest) → ChangesOneAt c ns ms
    → (spent || none_fresh ns) ≡ true → (spent || none_fresh (changed_at c batched ms)) ≡ true
none_left_out true c ns ms one h = refl
none_left_out false c ns ms (inl same) h =
    subst (λ x. none_fresh (changed_at c batched x) ≡ true) (sym same) (batched_same ns c h)
none_left_out false c ns ms (inr (n, is)) h =
    subst (λ x. none_fresh (changed_at c batched x) ≡ true) (sym is) (batched_set ns c n h)

-- a place more
placed : (ns : List Newest) → none_fresh ns ≡ true → none_fresh (ns ++ no_record ∷ []) ≡ true
placed [] h = refl
placed (n ∷ ns) h = with_head n ns (ns ++ no_record ∷ []) h (placed ns (right (not n.is_fresh) (none_fresh ns) h))

none_placed : (c : ℕ) (ns : List Newest) → none_fresh ns ≡ true → none_fresh (with_place c ns) ≡ true
none_placed c ns h = by (nat_le (length ns) c)
  where
    by : (b : Bool) → none_fresh (if b then ns ++ no_record ∷ [] else ns) ≡ true
    by true = placed ns h
    by false = h

with_one_more : (spent : Bool) (c : ℕ) (ns ms : List Newest) → (ms ≡ ns) ⊎ (ms ≡ with_place c ns)
    → (spent || none_fresh ns) ≡ true → (spent || none_fresh ms) ≡ true
with_one_more true c ns ms is h = refl
with_one_more false c ns ms (inl is) h = ap none_fresh is ∙ h
with_one_more false c ns ms (inr is) h = ap none_fresh is ∙ none_placed c ns h

pub none_added : {K : Type 0} (spent : Bool) (l : State K) (p q : Parts K) → Adds l p q
    → (spent || none_fresh p.records) ≡ true → (spent || none_fresh q.records) ≡ true
none_added spent l p q (inl (links, place), stays) h =
    with_one_more spent (length p.links) p.records q.records (inr place) h
none_added spent l p q (inr (links, at_most), stays) h =
    with_one_more spent (length p.links) p.records q.records at_most h

-- what comes back from records
pub none_loaded : {K : Type 0} (xs : List (Saved K)) (p q : Seats K) → SeatsAll xs p q
    → none_fresh p.records ≡ true → none_fresh q.records ≡ true
none_loaded [] p q is h = ap (λ (s : Seats _). none_fresh s.records) is ∙ h
none_loaded (x ∷ xs) p q (m, one, more) h =
    none_loaded xs m q more
    (ap (λ (s : Seats _). none_fresh s.records) one.3 ∙ none_placed (length p.links) p.records h)

-- ---- what a call changes

set_twice : (ns : List Newest) (c : ℕ) (n m : Newest) → slice_set (slice_set ns c n) c m ≡ slice_set ns c m
set_twice [] c n m = refl
set_twice (x ∷ ns) zero n m = refl
set_twice (x ∷ ns) (suc c) n m = ap (λ xs. x ∷ xs) (set_twice ns c n m)

both : (c : ℕ) (ns ms xs : List Newest) → ChangesOneAt c ns ms → ChangesOneAt c ms xs → ChangesOneAt c ns xs
both c ns ms xs (inl one) other = subst (λ x. ChangesOneAt c x xs) one other
both c ns ms xs (inr one) (inl same) = inr (one.0, same ∙ one.1)
both c ns ms xs (inr one) (inr other) =
    inr (other.0, other.1 ∙ ap (λ x. slice_set x c other.0) one.1 ∙ set_twice ns c one.0 other.0)

changed_one : (c : ℕ) (f : Newest → Newest) (ns : List Newest) → ChangesOneAt c ns (changed_at c f ns)
changed_one c f ns = by (slice_get ns c)
  where
    by : (o : Option Newest) → ChangesOneAt c ns (changed_by c f o ns)
    by None = inl refl
    by (Some n) = inr (f n, refl)

known_one : (c : ℕ) (number : List ℕ → Option ℕ) (id : Option (List ℕ)) (ns : List Newest)
    → ChangesOneAt c ns (known_before c number id ns)
known_one c number None ns = inl refl
known_one c number (Some id) ns = by (is_others c (number id))
  where
    by : (b : Bool) → ChangesOneAt c ns (if b then changed_at c (knowing id) ns else ns)
    by true = changed_one c (knowing id) ns
    by false = inl refl

module _ {K : Type 0} (signer : K → Signer) (c : ℕ) where
  takes_one : (keys : K) (m : Message) (answer : Answer) (ls ls' : List (State K)) (ns ns' : List Newest)
      → TakesOver signer c keys m answer ls ls' ns ns' → ChangesOneAt c ns ns'
  unfolding TakesOver
  takes_one keys m answer ls ls' ns ns' takes = by (slice_get ns c) takes
    where
      by : (o : Option Newest)
          → AnswersBesideBy c (λ n n' l l' a. TakesAt signer c keys m a l l' n n') o answer ns ns' ls ls'
          → ChangesOneAt c ns ns'
      by None h = inl h.1
      by (Some n) h = inr (h.0, h.1)

  pub message_one : (keys : K) (m : Message) (p q : Parts K) → Makes signer (call.Message c keys m) p q
      → ChangesOneAt c p.records q.records
  message_one keys m p q made = by made.0.1
    where
      by : TakesMessage signer c keys m made.0.0 (known p) (known q) → ChangesOneAt c p.records q.records
      by (inl same) = inl (ap (λ (x : Known K). x.records) same.1)
      by (inr takes) =
          both c p.records _ q.records
          (known_one c (number_in p.numbers p.links) (opened_in (slice_get p.links c) m) p.records)
          (takes_one keys m made.0.0 p.links q.links _ q.records takes.1)

  obeys_one : (x : Command) (answer : Answer) (ls ls' : List (State K)) (ns ns' : List Newest)
      → ObeysOver signer c x answer ls ls' ns ns' → ChangesOneAt c ns ns'
  unfolding ObeysOver
  obeys_one x answer ls ls' ns ns' obeys = by (slice_get ns c) obeys
    where
      by : (o : Option Newest) → ObeysBy signer c x o answer ls ls' ns ns' → ChangesOneAt c ns ns'
      by None h = inl h.2
      by (Some n) h = inr (h.0, h.1)

  pub command_one : (x : Command) (p q : Parts K) → Makes signer (call.Command c x) p q
      → ChangesOneAt c p.records q.records
  command_one x p q made = by (is_users x) made.0.1
    where
      by : (b : Bool) → ObeysUser signer b c x made.0.0 p.links q.links p.records q.records
          → ChangesOneAt c p.records q.records
      by true h = obeys_one x made.0.0 p.links q.links p.records q.records h
      by false h = inl h.2

  gives_one : (id : List ℕ) (x : Command) (g : Given) (p q : Obeyed K) → Gives signer c id x g p q
      → ChangesOneAt c p.records q.records
  unfolding Gives
  gives_one id x g p q gives = obeys_one x gives.0 p.links q.links p.records q.records gives.1

  stops_one : (g : Given) (p q : Obeyed K) → Stops c g p q → ChangesOneAt c p.records q.records
  stops_one g p q stops = inl (ap (λ (x : Obeyed K). x.records) stops.1)

  first_one : (id : List ℕ) (o : Option Command) (g : Given) (p q : Obeyed K) → ObeysFirst signer c id o g p q
      → ChangesOneAt c p.records q.records
  first_one id None g p q h = inl (ap (λ (x : Obeyed K). x.records) h.1)
  first_one id (Some x) g p q h = by (is_decision x) h
    where
      by : (b : Bool) → ObeysCommand signer c id x b g p q → ChangesOneAt c p.records q.records
      by true h = stops_one g p q h
      by false h = gives_one id x g p q h

  book_one : (s : Services) (o : Option (List ℕ)) (g : Given) (p q : Obeyed K) → ObeysBook signer s c o g p q
      → ChangesOneAt c p.records q.records
  book_one s None g p q h = inl (ap (λ (x : Obeyed K). x.records) h.1)
  book_one s (Some id) g p q h = first_one id (option_map (λ x. x.1) (first_of s id p.book)) g _ q h

  pub obey_book_one : (s : Services) (p q : Parts K) → Makes signer (call.ObeyBook s c) p q
      → ChangesOneAt c p.records q.records
  obey_book_one s p q (inl done, numbers) =
      book_one s (working_id (slice_get p.links c)) done.0 (obeyed p) (obeyed q) done.1
  obey_book_one s p q (inr same, numbers) = inl same.2

  concludes_one : (id : List ℕ) (x : Command) (b : Bool) (g : Given) (p q : Obeyed K)
      → ConcludesIf signer c id x b g p q → ChangesOneAt c p.records q.records
  concludes_one id x true g p q (inl gives) = gives_one id x g p q gives
  concludes_one id x true g p q (inr (r, gives, stops)) =
      both c p.records r.records q.records (gives_one id x _ p r gives) (stops_one g r q stops)
  concludes_one id x false g p q h = stops_one g p q h

  concludes_first : (id : List ℕ) (is_due : Command → Bool) (o : Option Command) (g : Given) (p q : Obeyed K)
      → ConcludesFirst signer c id is_due o g p q → ChangesOneAt c p.records q.records
  concludes_first id is_due None g p q h = stops_one g p q h
  concludes_first id is_due (Some x) g p q h = concludes_one id x (is_due x) g p q h

  due_one : (s : Services) (id : List ℕ) (is_due : Command → Bool) (g : Given) (p q : Obeyed K)
      → ConcludesDue signer s c id is_due g p q → ChangesOneAt c p.records q.records
  unfolding ConcludesDue
  due_one s id is_due g p q (inl stops) = stops_one g p q stops
  due_one s id is_due g p q (inr h) =
      concludes_first id is_due (option_map (λ x. x.1) (first_of s id p.book)) g _ q h

  decides_one : (s : Services) (o : Option (List ℕ × ℕ × ChannelEvent)) (v : Verdict) (r : Mark × Given)
      (p q : Obeyed K) → Decides signer s c o v r p q → ChangesOneAt c p.records q.records
  decides_one s None v r p q h = absurd h
  decides_one s (Some (id, n, told)) v r p q h = due_one s id _ r.1 _ q h.1

  pub decide_one : (s : Services) (v : Verdict) (p q : Parts K) → Makes signer (call.Decide s c v) p q
      → ChangesOneAt c p.records q.records
  decide_one s v p q (inl done, numbers) =
      decides_one s (next_event (working_end (slice_get p.links c))) v done.0 (obeyed p) (obeyed q) done.1
  decide_one s v p q (inr same, numbers) = inl same.2

  resumes_one : (s : Services) (o : Option (List ℕ)) (n : ℕ) (v : Verdict) (r : Mark × Given) (p q : Obeyed K)
      → Resumes signer s c o n v r p q → ChangesOneAt c p.records q.records
  resumes_one s None n v r p q h = absurd h
  resumes_one s (Some id) n v r p q h = due_one s id _ r.1 _ q h.1

  pub resume_one : (s : Services) (n : ℕ) (v : Verdict) (p q : Parts K) → Makes signer (call.Resume s c n v) p q
      → ChangesOneAt c p.records q.records
  resume_one s n v p q (inl done, numbers) =
      resumes_one s (working_id (slice_get p.links c)) n v done.0 (obeyed p) (obeyed q) done.1
  resume_one s n v p q (inr same, numbers) = inl same.2
