-- What each kind of step makes of nodes and of their hooks.
use Rattle.std.proofs.Common.{◌≡◌, ℕ, zero, suc, List, [], ◌∷◌, ◌++◌, length, get_or, set, refl, sym, ap, ◌∙◌}
use Rattle.std.proofs.Common.{subst, arith, Bool, true, false, cond, not, nat_lt, ◌==◌, ◌&&◌, is_some, position}
use Rattle.std.proofs.Common.{Option, Some, None}
use Rattle.std.specs.List.{list_any}
use Rattle.std.proofs.lemmas.Bool.{ltb-true}
use Rattle.ln_keys.specs.declared.keys.ChannelKeys.{Ghosts}
use Rattle.ln_keys.specs.declared.role.Role.TheVariants.{Funder, Fundee}
use Rattle.ln_hooks.specs.declared.event.ChannelEvent.{ChannelEvent}
use Rattle.ln_hooks.specs.declared.verdict.Verdict.{Verdict}
use Rattle.ln_hooks.specs.declared.verdict.Verdict.TheVariants.{Continue}
use Rattle.ln_world_channels.specs.declared.line.Line.{Line}
use Rattle.ln_world_channels.specs.declared.line.Line.TheVariants as line
use Rattle.ln_world_channels.specs.declared.step.Act.{Act}
use Rattle.ln_world_channels.specs.declared.step.End.{End}
use Rattle.ln_world_channels.specs.declared.step.Node.{Node}
use Rattle.ln_world_channels.specs.declared.step.Open.{Open}
use Rattle.ln_world_channels.specs.WorldChannel.{is_node, end_at}
use Rattle.ln_world_channels.specs.World.{World as Channels, may_open}
use Rattle.ln_world_dispatch.specs.declared.step.Step.{Step}
use Rattle.ln_world_dispatch.specs.declared.step.Step.TheVariants as step
use Rattle.ln_world_dispatch.specs.Dispatcher.{Dispatcher, fresh, restarted, serving, registered, is_at, dispatcher_at}
use Rattle.ln_world_dispatch.specs.Dispatcher.{at_dispatcher}
use Rattle.ln_world_dispatch.specs.World.{World, next_event, decided_for, is_unused, may_register, may_act}
use Rattle.ln_world_dispatch.specs.World.{new_dispatchers, served_at}
use Rattle.ln_world_dispatch.specs.World.{all_restart, happens, item}
use Rattle.ln_world_dispatch.specs.World.{numbered_for, step_lines, dispatch_lines, register_lines}
use Rattle.ln_world_dispatch.specs.Slots.{Answers, Tables, CallsAt, SlotsAt, Joins, AreAside, aside_where, set_aside}
use Rattle.ln_world_dispatch.specs.Slots.{Stand}
use Rattle.ln_world_dispatch.specs.Slots.{Moved}
use Rattle.ln_world_dispatch.specs.Hooked.{verdict_in, says_of, leaves_dispatchers, Steps}
use Rattle.ln_world_dispatch.proofs.Found.{dispatcher_none}
use Rattle.ln_world_dispatch.proofs.Standing.{stays, serves, slots, begin_anew, join}

-- ---- what is left of those that were handed in

item_of : {H : Type 0} (left : List (Option H)) (i : ℕ) (h : H) → Some h ≡ get_or left i None
    → item i left ≡ Some (Some h)
item_of [] i h is = absurd (cc)
item_of (x ∷ xs) zero h is = ap Some (sym is)
item_of (x ∷ xs) (suc i) h is = item_of xs i h is

not_there : {H : Type 0} (left : List (Option H)) (i : ℕ) (h : H) → item i left ≡ Some (Some h)
    → None ≡ get_or left i None → ⊥
not_there [] i h is none = absurd (cc)
not_there (x ∷ xs) zero h is none = absurd (cc)
not_there (x ∷ xs) (suc i) h is none = not_there xs i h is none

free : (a b c : Bool) → (a && not b) && c ≡ true → (a ≡ true) × (b ≡ false)
free true false c h = (refl, refl)
free true true c h = absurd (cc)
free false b c h = absurd (cc)

-- ---- an end without a dispatcher

and_false : (b : Bool) → b && false ≡ false
and_false true = refl
and_false false = refl

pub no_event : {K : Type 0} (e : End) (w : World K) → position (is_at e) w.dispatchers ≡ None → next_event e w ≡ None
no_event e w is = ap (λ d. numbered_for d w.channels) (dispatcher_none e w.dispatchers is)

pub no_slot : {K : Type 0} (e : End) (hook : ℕ) (w : World K) → position (is_at e) w.dispatchers ≡ None
    → may_register e hook w ≡ false
no_slot e hook w is =
    ap (λ d. is_unused hook w && is_some d) (dispatcher_none e w.dispatchers is) ∙ and_false (is_unused hook w)

-- ---- dispatchers that begin anew are those that did

aside_by : {H : Type 0} (calls : H → ChannelEvent → Verdict → H → Type 0) (n : Node) (b : Bool) (m : ℕ) (d : Dispatcher)
    (t : Tables calls)
    → aside_where calls (is_node (cond b (restarted m d) d).end.node n) t ≡ aside_where calls (is_node d.end.node n) t
aside_by calls n true m d t = refl
aside_by calls n false m d t = refl

same_aside : {K H : Type 0} (calls : H → ChannelEvent → Verdict → H → Type 0) (n : Node) (new : Channels K)
    (ds : List Dispatcher) (ts : List (Tables calls))
    → set_aside calls (λ d. is_node d.end.node n) (all_restart n new ds) ts
    ≡ set_aside calls (λ d. is_node d.end.node n) ds ts
same_aside calls n new [] ts = refl
same_aside calls n new (d ∷ ds) [] = refl
same_aside calls n new (d ∷ ds) (t ∷ ts) =
    ap (λ u. u ∷ set_aside calls (λ d. is_node d.end.node n) (all_restart n new ds) ts)
    (aside_by calls n (is_node d.end.node n) (decided_for d new) d t)
    ∙ ap (λ us. aside_where calls (is_node d.end.node n) t ∷ us) (same_aside calls n new ds ts)

module _ {K : Type 0} (k : Ghosts K) {H : Type 0} (calls : H → ChannelEvent → Verdict → H → Type 0) where
  -- the hooks say v in it, and stand so after it, whatever was handed in
  abbrev Moves : Step K k → Verdict → World K → List (Tables calls) → List (Option H) → List Dispatcher → List ℕ
      → List (Tables calls) → List (Option H) → Type 0
  Moves s v w ts left ds' used' ts' left' =
      (handed : List H) (a : Answers) → length handed ≡ w.hooks → Stand calls handed a w.used w.dispatchers ts left
      → Moved calls handed a w.dispatchers (λ b. verdict_in b s w) v used' ds' ts' left'

  steps_by : (s : Step K k) (v : Verdict) (w w' : World K) (ts ts' : List (Tables calls)) (left left' : List (Option H))
      (lines lines' : List Line) → w' ≡ happens k v s w → lines' ≡ lines ++ step_lines k v s w
      → Moves s v w ts left (happens k v s w).dispatchers (happens k v s w).used ts' left'
      → Steps k calls s w ts left w' ts' left' lines lines'
  steps_by s v w w' ts ts' left left' lines lines' is told moves =
      λ handed a count stand. record {
        said = v;
        moved = subst (λ (x : World K). Moved calls handed a w.dispatchers
            (λ b. verdict_in b s w) v x.used x.dispatchers ts' left')
            (sym is) (moves handed a count stand);
        world = is;
        told = told;
      }

  abbrev hooks_stay : (s : Step K k) (v : Verdict) (w : World K) (ts ts' : List (Tables calls))
      (left left' : List (Option H)) (ds' : List Dispatcher) (used' : List ℕ) → ts' ≡ ts → left' ≡ left
      → Moves s v w ts left ds' used' ts left → Moves s v w ts left ds' used' ts' left'
  hooks_stay s v w ts ts' left left' ds' used' same still moves =
      λ handed a count stand. subst (λ us. Moved calls handed a w.dispatchers
      (λ b. verdict_in b s w) v used' ds' us left')
      (sym same) (subst (λ us. Moved calls handed a w.dispatchers (λ b. verdict_in b s w) v used' ds' ts us) (sym still)
      (moves handed a count stand))

  -- ---- a step that is no dispatcher's

  quiet : (s : Step K k) (w : World K) (ts : List (Tables calls)) (left : List (Option H)) → leaves_dispatchers s ≡ true
      → Moves s Continue w ts left (happens k Continue s w).dispatchers (happens k Continue s w).used ts left
  quiet (step.Fees n fees) w ts left q = λ handed a count stand. stays calls handed a w.used w.dispatchers ts left stand
  quiet (step.Limits n limits) w ts left q = λ handed a count stand. stays calls handed a w.used
      w.dispatchers ts left stand
  quiet (step.Do e what) w ts left q = λ handed a count stand. stays calls handed a w.used w.dispatchers ts left stand
  quiet (step.Down e) w ts left q = λ handed a count stand. stays calls handed a w.used w.dispatchers ts left stand
  quiet (step.NoMemory e what) w ts left q =
      λ handed a count stand. stays calls handed a w.used w.dispatchers ts left stand
  quiet (step.SaveFails e what stored) w ts left q =
      λ handed a count stand. stays calls handed a w.used w.dispatchers ts left stand
  quiet (step.Reload e) w ts left q =
      λ handed a count stand. stays calls handed a w.used w.dispatchers ts left stand
  quiet (step.Up n) w ts left q = λ handed a count stand. stays calls handed a w.used w.dispatchers ts left stand
  quiet (step.Open o) w ts left q = absurd (cc)
  quiet (step.Restart n) w ts left q = absurd (cc)
  quiet (step.StopBefore e what) w ts left q = absurd (cc)
  quiet (step.StopAfter e what) w ts left q = absurd (cc)
  quiet (step.Dispatch e) w ts left q = absurd (cc)
  quiet (step.Register e hook) w ts left q = absurd (cc)

  pub quiet_so : (s : Step K k) (w w' : World K) (ts ts' : List (Tables calls)) (left left' : List (Option H))
      (lines lines' : List Line) → leaves_dispatchers s ≡ true → w' ≡ happens k Continue s w
      → lines' ≡ lines ++ step_lines k Continue s w → ts' ≡ ts → left' ≡ left
      → Steps k calls s w ts left w' ts' left' lines lines'
  quiet_so s w w' ts ts' left left' lines lines' q is told same still =
      steps_by s Continue w w' ts ts' left left' lines lines' is told
      (hooks_stay s Continue w ts ts' left left' (happens k Continue s w).dispatchers
      (happens k Continue s w).used same still
      (quiet s w ts left q))

  -- ---- a dispatch

  pub dispatched_so : (e : End) (n i : ℕ) (event : ChannelEvent) (v : Verdict) (w w' : World K)
      (ts ts' : List (Tables calls)) (left left' : List (Option H)) (lines lines' : List Line)
      → Some i ≡ position (is_at e) w.dispatchers → Some (n, event) ≡ next_event e w → CallsAt calls i ts event v ts'
      → left' ≡ left
      → w' ≡ record {
        channels = w.channels;
        dispatchers = at_dispatcher e (serving event v) w.dispatchers;
        used = w.used;
        hooks = w.hooks;
      } → lines' ≡ lines ++ line.Dispatched e n v ∷ []
      → Steps k calls (step.Dispatch e) w ts left w' ts' left' lines lines'
  dispatched_so e n i event v w w' ts ts' left left' lines lines' at is_next called still is told =
      steps_by (step.Dispatch e) v w w' ts ts' left left' lines lines'
      (is ∙ ap (λ p. record {
        channels = w.channels;
        dispatchers = served_at e v p w.dispatchers;
        used = w.used;
        hooks = w.hooks;
      }) is_next)
      (told ∙ ap (λ p. lines ++ dispatch_lines e v p) is_next)
      (λ handed a count stand. subst (λ p. Moved calls handed a w.dispatchers (λ b. says_of b p
      (dispatcher_at e w.dispatchers)) v w.used
      (served_at e v p w.dispatchers) ts' left') is_next
      (subst (λ l. Moved calls handed a w.dispatchers (λ b. says_of b (Some (n, event))
      (dispatcher_at e w.dispatchers)) v w.used
      (at_dispatcher e (serving event v) w.dispatchers) ts' l) (sym still)
      (serves calls handed a w.used w.dispatchers ts left stand e event v i (fresh e Funder) ts' at called)))

  pub undispatched_so : (e : End) (w w' : World K) (ts ts' : List (Tables calls)) (left left' : List (Option H))
      (lines lines' : List Line) → next_event e w ≡ None → w' ≡ w → lines' ≡ lines ++ line.Idle ∷ [] → ts' ≡ ts
      → left' ≡ left → Steps k calls (step.Dispatch e) w ts left w' ts' left' lines lines'
  undispatched_so e w w' ts ts' left left' lines lines' none is told same still =
      steps_by (step.Dispatch e) Continue w w' ts ts' left left' lines lines'
      (is ∙ ap (λ p. record {
        channels = w.channels;
        dispatchers = served_at e Continue p w.dispatchers;
        used = w.used;
        hooks = w.hooks;
      }) (sym none))
      (told ∙ ap (λ p. lines ++ dispatch_lines e Continue p) (sym none))
      (hooks_stay (step.Dispatch e) Continue w ts ts' left left' (served_at e Continue
      (next_event e w) w.dispatchers) w.used
      same still (λ handed a count stand. subst (λ p. Moved calls handed a w.dispatchers
      (λ b. says_of b p (dispatcher_at e w.dispatchers)) Continue w.used
      (served_at e Continue p w.dispatchers) ts left) (sym none)
      (stays calls handed a w.used w.dispatchers ts left stand)))

  -- ---- a registration

  abbrev registered_by : Bool → End → ℕ → World K → World K
  registered_by b e hook w = record {
    channels = w.channels;
    dispatchers = cond b (at_dispatcher e (registered hook) w.dispatchers) w.dispatchers;
    used = cond b (w.used ++ hook ∷ []) w.used;
    hooks = w.hooks;
  }

  pub registered_so : (e : End) (hook i : ℕ) (h : H) (w w' : World K) (ts ts' : List (Tables calls))
      (left left' : List (Option H)) (lines lines' : List Line) → may_register e hook w ≡ true
      → Some h ≡ get_or left hook None → Some i ≡ position (is_at e) w.dispatchers → SlotsAt calls i ts h ts'
      → left' ≡ set left hook None → w' ≡ happens k Continue (step.Register e hook) w
      → lines' ≡ lines ++ step_lines k Continue (step.Register e hook) w
      → Steps k calls (step.Register e hook) w ts left w' ts' left' lines lines'
  registered_so e hook i h w w' ts ts' left left' lines lines' may there at slotted still is told =
      let unused = free (nat_lt hook w.hooks) (list_any (λ u. u == hook) w.used) (is_some
      (dispatcher_at e w.dispatchers)) may in
      steps_by (step.Register e hook) Continue w w' ts ts' left left' lines lines' is told
      (λ handed a count stand. subst (λ b. Moved calls handed a w.dispatchers (λ b. Continue) Continue
      (registered_by b e hook w).used (registered_by b e hook w).dispatchers ts' left') (sym may)
      (subst (λ l. Moved calls handed a w.dispatchers (λ b. Continue) Continue (w.used ++ hook ∷ [])
      (at_dispatcher e (registered hook) w.dispatchers) ts' l) (sym still)
      (slots calls handed a w.used w.dispatchers ts left stand e hook h i (fresh e Funder) ts' unused.1
      (item_of left hook h there) at slotted)))

  pub unregistered_so : (e : End) (hook : ℕ) (w w' : World K) (ts ts' : List (Tables calls))
      (left left' : List (Option H)) (lines lines' : List Line) → may_register e hook w ≡ false → w' ≡ w
      → lines' ≡ lines ++ line.Idle ∷ [] → ts' ≡ ts → left' ≡ left
      → Steps k calls (step.Register e hook) w ts left w' ts' left' lines lines'
  unregistered_so e hook w w' ts ts' left left' lines lines' not_so is told same still =
      steps_by (step.Register e hook) Continue w w' ts ts' left left' lines lines'
      (is ∙ ap (λ b. registered_by b e hook w) (sym not_so))
      (told ∙ ap (λ b. lines ++ register_lines b) (sym not_so))
      (hooks_stay (step.Register e hook) Continue w ts ts' left left'
      (happens k Continue (step.Register e hook) w).dispatchers (happens k Continue
      (step.Register e hook) w).used same still
      (λ handed a count stand. subst (λ b. Moved calls handed a w.dispatchers (λ b. Continue) Continue
      (registered_by b e hook w).used (registered_by b e hook w).dispatchers ts left) (sym not_so)
      (stays calls handed a w.used w.dispatchers ts left stand)))

  -- a hook that may be registered is there
  pub never_missed : (e : End) (hook : ℕ) (w w' : World K) (ts ts' : List (Tables calls)) (left left' : List (Option H))
      (lines lines' : List Line) → may_register e hook w ≡ true → None ≡ get_or left hook None
      → Steps k calls (step.Register e hook) w ts left w' ts' left' lines lines'
  never_missed e hook w w' ts ts' left left' lines lines' may none =
      let unused = free (nat_lt hook w.hooks) (list_any (λ u. u == hook) w.used) (is_some
      (dispatcher_at e w.dispatchers)) may in
      λ handed a count stand.
      let below = ltb-true hook w.hooks unused.0 in
      let there = stand.offered.there hook (omega (arith, below, count)) unused.1 in
      absurd (not_there left hook there.0 there.1 none)

  -- ---- a channel is opened

  abbrev opened_by : Bool → Open K k → World K → List Dispatcher
  opened_by b o w = cond b (w.dispatchers ++ new_dispatchers o.channel o.funder o.fundee) w.dispatchers

  pub opened_so : (o : Open K k) (w w' : World K) (ts ts' : List (Tables calls)) (left left' : List (Option H))
      (lines lines' : List Line) → may_open o w.channels ≡ true → w' ≡ happens k Continue (step.Open o) w
      → lines' ≡ lines ++ step_lines k Continue (step.Open o) w → Joins calls ts ts' → left' ≡ left
      → Steps k calls (step.Open o) w ts left w' ts' left' lines lines'
  opened_so o w w' ts ts' left left' lines lines' may is told joined still =
      steps_by (step.Open o) Continue w w' ts ts' left left' lines lines' is told
      (λ handed a count stand. subst (λ b. Moved calls handed a w.dispatchers (λ b. Continue) Continue w.used
      (opened_by b o w) ts' left') (sym may)
      (subst (λ us. Moved calls handed a w.dispatchers (λ b. Continue) Continue w.used (opened_by true o w) us left')
      (sym joined)
      (subst (λ l. Moved calls handed a w.dispatchers (λ b. Continue) Continue w.used (opened_by true o w)
      (ts ++ ([], []) ∷ ([], []) ∷ []) l) (sym still)
      (join calls handed a w.used w.dispatchers ts left stand (end_at o.channel o.funder) (end_at o.channel o.fundee)
      Funder Fundee))))

  pub unopened_so : (o : Open K k) (w w' : World K) (ts ts' : List (Tables calls)) (left left' : List (Option H))
      (lines lines' : List Line) → may_open o w.channels ≡ false → w' ≡ happens k Continue (step.Open o) w
      → lines' ≡ lines ++ step_lines k Continue (step.Open o) w → ts' ≡ ts → left' ≡ left
      → Steps k calls (step.Open o) w ts left w' ts' left' lines lines'
  unopened_so o w w' ts ts' left left' lines lines' not_so is told same still =
      steps_by (step.Open o) Continue w w' ts ts' left left' lines lines' is told
      (hooks_stay (step.Open o) Continue w ts ts' left left' (happens k Continue
      (step.Open o) w).dispatchers w.used same
      still (λ handed a count stand. subst (λ b. Moved calls handed a w.dispatchers (λ b. Continue) Continue w.used
      (opened_by b o w) ts left) (sym not_so) (stays calls handed a w.used w.dispatchers ts left stand)))

  -- ---- a node's dispatchers begin anew

  anew : (n : Node) (w : World K) (new : Channels K) (ts ts' : List (Tables calls)) (left left' : List (Option H))
      → AreAside calls (λ d. is_node d.end.node n) w.dispatchers ts ts' → left' ≡ left → (handed : List H) (a : Answers)
      → Stand calls handed a w.used w.dispatchers ts left
      → Moved calls handed a w.dispatchers (λ b. Continue) Continue w.used (all_restart n new w.dispatchers) ts' left'
  anew n w new ts ts' left left' aside still handed a stand =
      subst (λ us. Moved calls handed a w.dispatchers (λ b. Continue) Continue w.used
      (all_restart n new w.dispatchers) us left')
      (sym aside)
      (subst (λ l. Moved calls handed a w.dispatchers (λ b. Continue) Continue w.used (all_restart n new w.dispatchers)
      (set_aside calls (λ d. is_node d.end.node n) w.dispatchers ts) l) (sym still)
      (begin_anew calls handed a w.used w.dispatchers ts left stand (λ d. is_node d.end.node n)
      (λ d. decided_for d new)))

  pub restarted_so : (n : Node) (w w' : World K) (ts ts' : List (Tables calls)) (left left' : List (Option H))
      (lines lines' : List Line) → w' ≡ happens k Continue (step.Restart n) w
      → lines' ≡ lines ++ step_lines k Continue (step.Restart n) w
      → AreAside calls (λ d. is_node d.end.node n) w.dispatchers ts ts' → left' ≡ left
      → Steps k calls (step.Restart n) w ts left w' ts' left' lines lines'
  restarted_so n w w' ts ts' left left' lines lines' is told aside still =
      steps_by (step.Restart n) Continue w w' ts ts' left left' lines lines' is told
      (λ handed a count stand. anew n w (happens k Continue (step.Restart n) w).channels ts ts' left left' aside still
      handed a stand)

  -- a stop, where the end could act; the tables are set aside after it
  abbrev stopped_by : Bool → Node → World K → Channels K → List Dispatcher
  stopped_by b n w new = cond b (all_restart n new w.dispatchers) w.dispatchers

  stopped : (b : Bool) (n : Node) (w : World K) (new : Channels K) (ts ts' : List (Tables calls))
      (left left' : List (Option H)) (ds' : List Dispatcher) → b ≡ true → ds' ≡ stopped_by b n w new
      → AreAside calls (λ d. is_node d.end.node n) ds' ts ts' → left' ≡ left → (handed : List H) (a : Answers)
      → Stand calls handed a w.used w.dispatchers ts left
      → Moved calls handed a w.dispatchers (λ b. Continue) Continue w.used (stopped_by b n w new) ts' left'
  stopped true n w new ts ts' left left' ds' may is aside still handed a stand =
      anew n w new ts ts' left left'
      (aside ∙ ap (λ ds. set_aside calls (λ d. is_node d.end.node n) ds ts) is
      ∙ same_aside calls n new w.dispatchers ts)
      still handed a stand
  stopped false n w new ts ts' left left' ds' may is aside still handed a stand = absurd (cc)

  pub stopped_before : (e : End) (what : Act) (w w' : World K) (ts ts' : List (Tables calls))
      (left left' : List (Option H)) (lines lines' : List Line) → may_act e what w ≡ true
      → w' ≡ happens k Continue (step.StopBefore e what) w
      → lines' ≡ lines ++ step_lines k Continue (step.StopBefore e what) w
      → AreAside calls (λ d. is_node d.end.node e.node) w'.dispatchers ts ts' → left' ≡ left
      → Steps k calls (step.StopBefore e what) w ts left w' ts' left' lines lines'
  stopped_before e what w w' ts ts' left left' lines lines' may is told aside still =
      steps_by (step.StopBefore e what) Continue w w' ts ts' left left' lines lines' is told
      (λ handed a count stand. stopped (may_act e what w) e.node w
      (happens k Continue (step.StopBefore e what) w).channels ts ts' left left' w'.dispatchers may
      (ap (λ (x : World K). x.dispatchers) is) aside still handed a stand)

  pub stopped_after : (e : End) (what : Act) (w w' : World K) (ts ts' : List (Tables calls))
      (left left' : List (Option H)) (lines lines' : List Line) → may_act e what w ≡ true
      → w' ≡ happens k Continue (step.StopAfter e what) w
      → lines' ≡ lines ++ step_lines k Continue (step.StopAfter e what) w
      → AreAside calls (λ d. is_node d.end.node e.node) w'.dispatchers ts ts' → left' ≡ left
      → Steps k calls (step.StopAfter e what) w ts left w' ts' left' lines lines'
  stopped_after e what w w' ts ts' left left' lines lines' may is told aside still =
      steps_by (step.StopAfter e what) Continue w w' ts ts' left left' lines lines' is told
      (λ handed a count stand. stopped (may_act e what w) e.node w
      (happens k Continue (step.StopAfter e what) w).channels ts ts' left left' w'.dispatchers may
      (ap (λ (x : World K). x.dispatchers) is) aside still handed a stand)

  -- not where it couldn't
  unstopped : (b : Bool) (n : Node) (w : World K) (new : Channels K) (ts : List (Tables calls))
      (left : List (Option H)) → b ≡ false → (handed : List H) (a : Answers)
      → Stand calls handed a w.used w.dispatchers ts left
      → Moved calls handed a w.dispatchers (λ b. Continue) Continue w.used (stopped_by b n w new) ts left
  unstopped true n w new ts left not_so handed a stand = absurd (cc)
  unstopped false n w new ts left not_so handed a stand = stays calls handed a w.used w.dispatchers ts left stand

  pub unstopped_before : (e : End) (what : Act) (w w' : World K) (ts ts' : List (Tables calls))
      (left left' : List (Option H)) (lines lines' : List Line) → may_act e what w ≡ false
      → w' ≡ happens k Continue (step.StopBefore e what) w
      → lines' ≡ lines ++ step_lines k Continue (step.StopBefore e what) w → ts' ≡ ts → left' ≡ left
      → Steps k calls (step.StopBefore e what) w ts left w' ts' left' lines lines'
  unstopped_before e what w w' ts ts' left left' lines lines' not_so is told same still =
      steps_by (step.StopBefore e what) Continue w w' ts ts' left left' lines lines' is told
      (hooks_stay (step.StopBefore e what) Continue w ts ts' left left'
      (happens k Continue (step.StopBefore e what) w).dispatchers w.used same still
      (λ handed a count stand. unstopped (may_act e what w) e.node w
      (happens k Continue (step.StopBefore e what) w).channels ts left not_so handed a stand))

  pub unstopped_after : (e : End) (what : Act) (w w' : World K) (ts ts' : List (Tables calls))
      (left left' : List (Option H)) (lines lines' : List Line) → may_act e what w ≡ false
      → w' ≡ happens k Continue (step.StopAfter e what) w
      → lines' ≡ lines ++ step_lines k Continue (step.StopAfter e what) w → ts' ≡ ts → left' ≡ left
      → Steps k calls (step.StopAfter e what) w ts left w' ts' left' lines lines'
  unstopped_after e what w w' ts ts' left left' lines lines' not_so is told same still =
      steps_by (step.StopAfter e what) Continue w w' ts ts' left left' lines lines' is told
      (hooks_stay (step.StopAfter e what) Continue w ts ts' left left'
      (happens k Continue (step.StopAfter e what) w).dispatchers w.used same still
      (λ handed a count stand. unstopped (may_act e what w) e.node w
      (happens k Continue (step.StopAfter e what) w).channels ts left not_so handed a stand))
