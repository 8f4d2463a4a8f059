-- Where no hook was handed in none has a slot, and nothing is said against an event.
use Rattle.std.proofs.Common.{◌≡◌, ℕ, List, [], ◌∷◌, ◌++◌, length, refl, sym, ap, ◌∙◌, subst, map, cond}
use Rattle.std.proofs.Common.{Bool, true, false, not, nat_lt, ◌&&◌, ◌==◌, is_some, Option, Some, None}
use Rattle.std.proofs.Common.{arith, Result, Ok, Err, IfOk, OnOk}
use Rattle.std.specs.List.{list_any}
use Rattle.std.proofs.lemmas.Bool.{ltb-true}
use Rattle.ln_keys.specs.declared.keys.ChannelKeys.{Ghosts}
use Rattle.ln_hooks.specs.declared.event.ChannelEvent.{ChannelEvent}
use Rattle.ln_hooks.specs.declared.verdict.Verdict.{Verdict}
use Rattle.ln_hooks.specs.declared.verdict.Verdict.TheVariants.{Continue}
use Rattle.ln_hooks.specs.Verdict.{verdict}
use Rattle.ln_world_channels.specs.declared.line.Line.{Line}
use Rattle.ln_world_channels.specs.declared.step.End.{End}
use Rattle.ln_world_channels.specs.declared.step.Node.{Node}
use Rattle.ln_world_channels.specs.WorldChannel.{is_node}
use Rattle.ln_world_channels.specs.Promises.{Each}
use Rattle.ln_world_channels.specs.World.{World as Channels, may_open}
use Rattle.ln_world_dispatch.specs.declared.step.Step.{Step}
use Rattle.ln_world_dispatch.specs.declared.step.Step.TheVariants as step
use Rattle.ln_world_dispatch.specs.Dispatcher.{Dispatcher, restarted, serving, registered, is_at, dispatcher_at}
use Rattle.ln_world_dispatch.specs.Dispatcher.{at_dispatcher}
use Rattle.ln_world_dispatch.specs.World.{World, empty, next_event, decided_for, new_dispatchers, served_at}
use Rattle.ln_world_dispatch.specs.World.{all_restart, may_register}
use Rattle.ln_world_dispatch.specs.World.{may_act}
use Rattle.ln_world_dispatch.specs.World.{plain, moved_by, happens, run, run_lines, unhooked}
use Rattle.ln_world_dispatch.specs.Slots.{Answers, Tables, says_at, next_answer}
use Rattle.ln_world_dispatch.specs.Hooked.{verdict_in, says_of, answered, HasRun}

-- no hook has a slot
abbrev pub IsBare : Dispatcher → Type 0
IsBare d = d.epoch.slots ≡ []

bare_at : (a : Answers) (e : End) (ds : List Dispatcher) → Each IsBare ds → says_at a (dispatcher_at e ds) ≡ Continue
bare_at a e [] h = refl
bare_at a e (d ∷ ds) h = by (is_at e d) (bare_at a e ds h.1)
  where
    by : (b : Bool) → says_at a (dispatcher_at e ds) ≡ Continue
        → says_at a (cond b (Some d) (dispatcher_at e ds)) ≡ Continue
    by true rest = ap (λ ss. verdict (map (next_answer a d.epoch) ss)) h.0
    by false rest = rest

either : (b : Bool) (xs ys : List Dispatcher) → Each IsBare xs → Each IsBare ys → Each IsBare (cond b xs ys)
either true xs ys h g = h
either false xs ys h g = g

bare_more : (xs ys : List Dispatcher) → Each IsBare xs → Each IsBare ys → Each IsBare (xs ++ ys)
bare_more [] ys h g = g
bare_more (x ∷ xs) ys h g = (h.0, bare_more xs ys h.1 g)

bare_again : {K : Type 0} (n : Node) (new : Channels K) (ds : List Dispatcher) → Each IsBare ds
    → Each IsBare (all_restart n new ds)
bare_again n new [] h = tt
bare_again n new (d ∷ ds) h = (one (is_node d.end.node n), bare_again n new ds h.1)
  where
    one : (b : Bool) → IsBare (cond b (restarted (decided_for d new) d) d)
    one true = refl
    one false = h.0

bare_served : (e : End) (event : ChannelEvent) (v : Verdict) (ds : List Dispatcher) → Each IsBare ds
    → Each IsBare (at_dispatcher e (serving event v) ds)
bare_served e event v [] h = tt
bare_served e event v (d ∷ ds) h = by (is_at e d) (bare_served e event v ds h.1)
  where
    by : (b : Bool) → Each IsBare (at_dispatcher e (serving event v) ds)
        → Each IsBare (cond b (serving event v d ∷ ds) (d ∷ at_dispatcher e (serving event v) ds))
    by true rest = (h.0, h.1)
    by false rest = (h.0, rest)

bare_served_at : (e : End) (v : Verdict) (o : Option (ℕ × ChannelEvent)) (ds : List Dispatcher) → Each IsBare ds
    → Each IsBare (served_at e v o ds)
bare_served_at e v None ds h = h
bare_served_at e v (Some p) ds h = bare_served e p.1 v ds h

none_below : (n : ℕ) → nat_lt n 0 ≡ false
none_below n = by (nat_lt n 0) refl
  where
    by : (b : Bool) → nat_lt n 0 ≡ b → nat_lt n 0 ≡ false
    by true h = absurd (let below = ltb-true n 0 h in omega (arith, below))
    by false h = h

module _ {K : Type 0} (k : Ghosts K) where
  none_said : (a : Answers) (s : Step K k) (w : World K) → Each IsBare w.dispatchers → verdict_in a s w ≡ Continue
  none_said a (step.Fees n fees) w h = refl
  none_said a (step.Limits n limits) w h = refl
  none_said a (step.Open o) w h = refl
  none_said a (step.Do e what) w h = refl
  none_said a (step.Down e) w h = refl
  none_said a (step.NoMemory e what) w h = refl
  none_said a (step.SaveFails e what left) w h = refl
  none_said a (step.Restart n) w h = refl
  none_said a (step.Reload e) w h = refl
  none_said a (step.StopBefore e what) w h = refl
  none_said a (step.StopAfter e what) w h = refl
  none_said a (step.Up n) w h = refl
  none_said a (step.Register e hook) w h = refl
  none_said a (step.Dispatch e) w h = by (next_event e w)
    where
      by : (o : Option (ℕ × ChannelEvent)) → says_of a o (dispatcher_at e w.dispatchers) ≡ Continue
      by None = refl
      by (Some p) = bare_at a e w.dispatchers h

  none_free : (e : End) (hook : ℕ) (w : World K) → w.hooks ≡ 0 → may_register e hook w ≡ false
  none_free e hook w z =
      ap (λ b. (b && not (list_any (λ h. h == hook) w.used)) && is_some (dispatcher_at e w.dispatchers))
      (ap (λ n. nat_lt hook n) z ∙ none_below hook)

  bare_so : (s : Step K k) (w : World K) → w.hooks ≡ 0 → Each IsBare w.dispatchers
      → Each IsBare (happens k Continue s w).dispatchers
  bare_so (step.Fees n fees) w z h = h
  bare_so (step.Limits n limits) w z h = h
  bare_so (step.Open o) w z h =
      either (may_open o w.channels) (w.dispatchers ++ new_dispatchers o.channel o.funder o.fundee) w.dispatchers
      (bare_more w.dispatchers (new_dispatchers o.channel o.funder o.fundee) h (refl, (refl, tt))) h
  bare_so (step.Do e what) w z h = h
  bare_so (step.Down e) w z h = h
  bare_so (step.NoMemory e what) w z h = h
  bare_so (step.SaveFails e what left) w z h = h
  bare_so (step.Reload e) w z h = h
  bare_so (step.Restart n) w z h = bare_again n (moved_by k (plain k (step.Restart n) w) w.channels) w.dispatchers h
  bare_so (step.StopBefore e what) w z h =
      let new = moved_by k (plain k (step.StopBefore e what) w) w.channels in
      either (may_act e what w) (all_restart e.node new w.dispatchers) w.dispatchers
      (bare_again e.node new w.dispatchers h) h
  bare_so (step.StopAfter e what) w z h =
      let new = moved_by k (plain k (step.StopAfter e what) w) w.channels in
      either (may_act e what w) (all_restart e.node new w.dispatchers) w.dispatchers
      (bare_again e.node new w.dispatchers h) h
  bare_so (step.Up n) w z h = h
  bare_so (step.Dispatch e) w z h = bare_served_at e Continue (next_event e w) w.dispatchers h
  bare_so (step.Register e hook) w z h =
      subst (λ b. Each IsBare (cond b (at_dispatcher e (registered hook) w.dispatchers) w.dispatchers)) (sym
      (none_free e hook w z)) h

  pub none_answer : (a : Answers) (ss : List (Step K k)) (w : World K) → w.hooks ≡ 0 → Each IsBare w.dispatchers
      → answered k a ss w ≡ unhooked ss
  none_answer a [] w z h = refl
  none_answer a (s ∷ ss) w z h =
      ap (λ v. (s, v) ∷ answered k a ss (happens k v s w)) (none_said a s w h)
      ∙ ap (λ l. (s, Continue) ∷ l) (none_answer a ss (happens k Continue s w) z (bare_so s w z h))

  module _ {H : Type 0} (calls : H → ChannelEvent → Verdict → H → Type 0) (ss : List (Step K k)) (w : World K)
      (ts : List (Tables calls)) (left : List (Option H)) (lines lines' : List Line) (handed : List H) where
    pub leads_so : handed ≡ [] → HasRun k calls handed ss w ts left lines lines' → w ≡ run k (unhooked ss) (empty 0)
    leads_so none ran =
        subst (λ n. w ≡ run k (answered k ran.answers ss (empty n)) (empty n)) (ap length none) ran.world
        ∙ ap (λ l. run k l (empty 0)) (none_answer ran.answers ss (empty 0) refl tt)

    pub told_so : handed ≡ [] → HasRun k calls handed ss w ts left lines lines'
        → lines' ≡ lines ++ run_lines k (unhooked ss) (empty 0)
    told_so none ran =
        subst (λ n. lines' ≡ lines ++ run_lines k (answered k ran.answers ss (empty n)) (empty n)) (ap length none)
        ran.told ∙ ap (λ l. lines ++ run_lines k l (empty 0)) (none_answer ran.answers ss (empty 0) refl tt)

-- what follows where the result is Ok
pub if_ok_so : {T E : Type 0} (r : Result T E) (P Q : T → Type 0) → ((x : T) → P x → Q x) → IfOk r P → IfOk r Q
if_ok_so (Ok x) P Q f h = f x h
if_ok_so (Err e) P Q f h = tt

pub on_ok_so : {T E : Type 0} (r : Result T E) (P : T → Type 0) (Q : Type 0) → ((x : T) → P x → Q) → IfOk r P
    → OnOk r Q
on_ok_so (Ok x) P Q f h = f x h
on_ok_so (Err e) P Q f h = tt
