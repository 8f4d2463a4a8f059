-- Every list of steps keeps what is promised of the calls of hooks.
use Rattle.std.proofs.Common.{◌≡◌, ℕ, zero, suc, ◌+◌, ◌-◌, ◌≤◌, List, [], ◌∷◌, ◌++◌, length, drop, refl, sym, ap, ◌∙◌}
use Rattle.std.proofs.Common.{subst, arith, Bool, true, false, cond, Option, Some, None, option_map, max, append_assoc}
use Rattle.std.proofs.Common.{append-nil}
use Rattle.std.specs.List.{cons_option}
use Rattle.std.proofs.Math.Seq.{drop-append_seam, drop-nil}
use Rattle.std.proofs.lemmas.List.{drop-append-le, length-append}
use Rattle.ln_keys.specs.declared.keys.ChannelKeys.{Ghosts}
use Rattle.ln_keys.specs.declared.role.Role.{Role}
use Rattle.ln_keys.specs.declared.role.Role.TheVariants.{Funder, Fundee}
use Rattle.ln_hooks.specs.declared.event.ChannelEvent.{ChannelEvent}
use Rattle.ln_hooks.specs.declared.verdict.Verdict.{Verdict}
use Rattle.ln_world_channels.specs.declared.step.End.{End}
use Rattle.ln_world_channels.specs.declared.step.Node.{Node}
use Rattle.ln_world_channels.specs.declared.step.Step.{Step as ChannelStep}
use Rattle.ln_world_channels.specs.WorldChannel.{is_node, end_at}
use Rattle.ln_world_channels.specs.Promises.{Each}
use Rattle.ln_world_channels.specs.Machine.{AreInStep}
use Rattle.ln_world_channels.specs.World.{World as Channels, channel, may_open}
use Rattle.ln_world_channels.specs.World as channels
use Rattle.ln_world_channels.proofs.Told.{in_step_so, moves_last}
use Rattle.ln_world_dispatch.specs.declared.step.Step.{Step}
use Rattle.ln_world_dispatch.specs.declared.step.Step.TheVariants as step
use Rattle.ln_world_dispatch.specs.declared.hook_slot.HookSlot.{HookSlot}
use Rattle.ln_world_dispatch.specs.Dispatcher.{Epoch, Dispatcher, Begins, next, fresh, with_one, with_slot, serving}
use Rattle.ln_world_dispatch.specs.Dispatcher.{registered}
use Rattle.ln_world_dispatch.specs.Dispatcher.{restarted, is_at, dispatcher_at, at_dispatcher, SlotFollows}
use Rattle.ln_world_dispatch.specs.Dispatcher.{EpochFollows, DispatcherFollows}
use Rattle.ln_world_dispatch.specs.World.{World, empty, plain, plains, moved_by, item, event_for, numbered_for}
use Rattle.ln_world_dispatch.specs.World.{next_event}
use Rattle.ln_world_dispatch.specs.World.{decided_for, new_dispatchers, all_restart, may_act, may_register, served_at}
use Rattle.ln_world_dispatch.specs.World.{dispatchers_by, happens, run}
use Rattle.ln_world_dispatch.specs.Promises.{Follows, CallsFollow, SlotStands, EpochStands, DispatcherStands}
use Rattle.ln_world_dispatch.specs.Promises.{DispatchersStand}
use Rattle.ln_world_dispatch.proofs.Pairs.{Between, Aligned, with_opened, channels_move, step_aligned, none_aligned}
use Rattle.ln_world_dispatch.proofs.Pairs.{all_aligned, decided_between}
use Rattle.ln_world_dispatch.proofs.Keeping.{each-to}
use Rattle.ln_world_dispatch.proofs.Events.{item_below, item_at, event_read, events_behind, events_more, run_append}

-- ---- lists

longer : {A : Type 0} (p q r : List A) → Begins p q → Begins q r → Begins p r
longer p q r b c = (b.0 ++ c.0, sym (append_assoc p b.0 c.0) ∙ ap (λ l. l ++ c.0) b.1 ∙ c.1)

drop_twice : {A : Type 0} (m n : ℕ) (xs : List A) → drop n (drop m xs) ≡ drop (m + n) xs
drop_twice zero n xs = ap (λ k. drop k xs) (let e : n ≡ 0 + n = omega arith in e)
drop_twice (suc m) n [] = drop-nil n ∙ sym (drop-nil (suc m + n))
drop_twice (suc m) n (x ∷ xs) =
    drop_twice m n xs ∙ ap (λ k. drop k (x ∷ xs)) (let e : suc (m + n) ≡ suc m + n = omega arith in e)

pub each-push : {A : Type 0} (P : A → Type 0) (xs : List A) (x : A) → Each P xs → P x → Each P (xs ++ x ∷ [])
each-push P [] x h p = (p, tt)
each-push P (y ∷ ys) x h p = (h.0, each-push P ys x h.1 p)

each-append : {A : Type 0} (P : A → Type 0) (xs ys : List A) → Each P xs → Each P ys → Each P (xs ++ ys)
each-append P [] ys h k = k
each-append P (x ∷ xs) ys h k = (h.0, each-append P xs ys h.1 k)

-- ---- what is kept of a dispatcher whose end has these events

record Stands (events : List ChannelEvent) (d : Dispatcher) : Type 0 where
  reached : next d.epoch ≤ d.reach
  told : d.reach ≤ length events
  epoch : EpochStands events d.reach d.epoch
  past : Each (EpochStands events d.reach) d.past

serves_more : (events more : List ChannelEvent) (reach : ℕ) → reach ≤ length events → Begins events more → (l : Epoch)
    → EpochStands events reach l → EpochStands more reach l
serves_more events more reach below b l h = record {
  dispatched_below = h.dispatched_below;
  follows = longer l.served (drop l.start events) (drop l.start more) h.follows (
    b.0,
    sym (drop-append-le l.start events b.0 (let s = h.dispatched_below in omega (arith, s, below)))
        ∙ ap (drop l.start) b.1,
  );
  as_many = h.as_many;
  slots = h.slots;
}

serves_on : (events : List ChannelEvent) (reach more : ℕ) → reach ≤ more → (l : Epoch) → EpochStands events reach l
    → EpochStands events more l
serves_on events reach more le l h = record {
  dispatched_below = let s = h.dispatched_below in omega (arith, s, le);
  follows = h.follows;
  as_many = h.as_many;
  slots = h.slots;
}

grown : (events more : List ChannelEvent) (d : Dispatcher) → Begins events more → Stands events d → Stands more d
grown events more d b h =
    let long : length (events ++ b.0) ≡ length more = ap length b.1 in
    let parts = length-append events b.0 in
    let told = h.told in
    record {
      reached = h.reached;
      told = omega (arith, told, long, parts);
      epoch = serves_more events more d.reach h.told b d.epoch h.epoch;
      past = each-to (EpochStands events d.reach) (EpochStands more d.reach) (serves_more events more d.reach h.told b)
          d.past h.past;
    }

-- ---- moves of a dispatcher

fresh_so : (events : List ChannelEvent) (e : End) (side : Role) → Stands events (fresh e side)
fresh_so events e side = record {
  reached = omega arith;
  told = omega arith;
  epoch = record { dispatched_below = omega arith; follows = (events, refl); as_many = refl; slots = tt };
  past = tt;
}

one_more : (events : List ChannelEvent) (start : ℕ) (served : List ChannelEvent) (e : ChannelEvent)
    → Begins served (drop start events) → item (start + length served) events ≡ Some e
    → Begins (served ++ e ∷ []) (drop start events)
one_more events start served e b is =
    let n = start + length served in
    let rest : b.0 ≡ e ∷ drop (suc n) events =
    sym (drop-append_seam served b.0) ∙ ap (drop (length served)) b.1 ∙ drop_twice start (length served) events
    ∙ item_at n events e is in (
      drop (suc n) events,
      append_assoc served (e ∷ []) (drop (suc n) events) ∙ ap (λ r. served ++ r) (sym rest) ∙ b.1,
    )

served_so : (events : List ChannelEvent) (d : Dispatcher) (e : ChannelEvent) (v : Verdict)
    → item (next d.epoch) events ≡ Some e → Stands events d → Stands events (serving e v d)
served_so events d e v is h =
    let l = d.epoch in
    let more = max d.reach (next l + 1) in
    let long : length (l.served ++ e ∷ []) ≡ length l.served + 1 = length-append l.served (e ∷ []) in
    let below = item_below (next l) events e is in
    let told = h.told in
    let start = h.epoch.dispatched_below in
    record {
      reached = omega (arith, long);
      told = omega (arith, told, below);
      epoch = record {
        dispatched_below = omega (arith, start);
        follows = one_more events l.start l.served e h.epoch.follows is;
        as_many = length-append l.said (v ∷ []) ∙ ap (λ n. n + 1) h.epoch.as_many ∙ sym long;
        slots = each-to (SlotStands l) (SlotStands (with_one e v l)) (λ s k. record {
          after_start = k.after_start;
          before_next = let b = k.before_next in omega (arith, b, long);
        }) l.slots h.epoch.slots;
      };
      past = each-to (EpochStands events d.reach) (EpochStands events more)
          (serves_on events d.reach more (omega arith)) d.past h.past;
    }

registered_so : (events : List ChannelEvent) (hook : ℕ) (d : Dispatcher) → Stands events d
    → Stands events (registered hook d)
registered_so events hook d h = record {
  reached = h.reached;
  told = h.told;
  epoch = record {
    dispatched_below = h.epoch.dispatched_below;
    follows = h.epoch.follows;
    as_many = h.epoch.as_many;
    slots = each-push (SlotStands (with_slot hook d.epoch)) d.epoch.slots (record { hook = hook; place = next d.epoch })
        (each-to (SlotStands d.epoch) (SlotStands (with_slot hook d.epoch))
        (λ s k. record { after_start = k.after_start; before_next = k.before_next }) d.epoch.slots h.epoch.slots)
        (record { after_start = omega arith; before_next = omega arith });
  };
  past = h.past;
}

restarted_so : (events : List ChannelEvent) (decided : ℕ) (d : Dispatcher) → decided ≤ next d.epoch → Stands events d
    → Stands events (restarted decided d)
restarted_so events decided d le h =
    let reached = h.reached in
    record {
      reached = omega (arith, reached, le);
      told = h.told;
      epoch = record {
        dispatched_below = omega (arith, reached, le);
        follows = (drop decided events, refl);
        as_many = refl;
        slots = tt;
      };
      past = each-push (EpochStands events d.reach) d.past d.epoch h.past h.epoch;
    }

-- ---- what it implies

slot_so : (events : List ChannelEvent) (l : Epoch) → Begins l.served (drop l.start events) → (s : HookSlot)
    → SlotStands l s
    → SlotFollows events l s
slot_so events l b s k =
    let from = s.place - l.start in
    let start = k.after_start in
    let before = k.before_next in
    let short : from ≤ length l.served = omega (arith, start, before) in
    let back : l.start + from ≡ s.place = omega (arith, start) in
    record {
      after_start = k.after_start;
      begins = (
        b.0,
        sym (drop-append-le from l.served b.0 short) ∙ ap (drop from) b.1 ∙ drop_twice l.start from events
            ∙ ap (λ n. drop n events) back,
      );
    }

epoch_so : (events : List ChannelEvent) (reach : ℕ) (l : Epoch) → EpochStands events reach l
    → EpochFollows events reach l
epoch_so events reach l h = record {
  dispatched_below = h.dispatched_below;
  slots = each-to (SlotStands l) (SlotFollows events l) (slot_so events l h.follows) l.slots h.slots;
}

dispatcher_so : (events : List ChannelEvent) (d : Dispatcher) → Stands events d → DispatcherFollows events d
dispatcher_so events d h = record {
  reach_told = h.told;
  epoch = epoch_so events d.reach d.epoch h.epoch;
  past = each-to (EpochStands events d.reach) (EpochFollows events d.reach) (epoch_so events d.reach) d.past h.past;
}

-- ---- the dispatchers of a world

module _ {K : Type 0} (k : Ghosts K) where
  -- where these steps of channels were taken
  abbrev AtDispatcher : List (ChannelStep K k) → Dispatcher → Type 0
  AtDispatcher done d = Stands (events_behind k d.end.channel d.side done) d

  abbrev AllStand : List (ChannelStep K k) → List Dispatcher → Type 0
  AllStand done ds = Each (AtDispatcher done) ds

  all_grown : (done more : List (ChannelStep K k)) (ds : List Dispatcher) → AllStand done ds
      → AllStand (done ++ more) ds
  all_grown done more ds h =
      each-to (AtDispatcher done) (AtDispatcher (done
      ++ more)) (λ d s. grown (events_behind k d.end.channel d.side done)
      (events_behind k d.end.channel d.side (done ++ more)) d (events_more k d.end.channel d.side done more) s) ds h

  at_by : (b : Bool) (done : List (ChannelStep K k)) (e : End) (f : Dispatcher
      → Dispatcher) (d : Dispatcher) (ds : List Dispatcher)
      → ((x : Dispatcher) → cond b (Some d) (dispatcher_at e ds) ≡ Some x → AtDispatcher done x
      → AtDispatcher done (f x))
      → AllStand done (d ∷ ds)
      → (((x : Dispatcher) → dispatcher_at e ds ≡ Some x → AtDispatcher done x → AtDispatcher done (f x))
      → AllStand done (at_dispatcher e f ds))
      → AllStand done (cond b (f d ∷ ds) (d ∷ at_dispatcher e f ds))
  at_by true done e f d ds h k rest = (h d refl k.0, k.1)
  at_by false done e f d ds h k rest = (k.0, rest h)

  -- the dispatcher of an end moves
  at_so : (done : List (ChannelStep K k)) (e : End) (f : Dispatcher → Dispatcher) (ds : List Dispatcher)
      → ((d : Dispatcher) → dispatcher_at e ds ≡ Some d → AtDispatcher done d → AtDispatcher done (f d))
      → AllStand done ds
      → AllStand done (at_dispatcher e f ds)
  at_so done e f [] h k = tt
  at_so done e f (d ∷ ds) h k =
      at_by (is_at e d) done e f d ds h k (λ g. at_so done e f ds g k.1)

  numbered_event : (o : Option ChannelEvent) (n : ℕ) (p : ℕ × ChannelEvent)
      → option_map (λ event. (n, event)) o ≡ Some p → o ≡ Some p.1
  numbered_event None n p is = absurd (cc)
  numbered_event (Some e) n p is =
      let same : ◌≡◌ {A = ℕ × ChannelEvent} (n, e) p = cc in ap (λ (q : ℕ × ChannelEvent). Some q.1) same

  dispatched_by : (done : List (ChannelStep K k)) (e : End) (v : Verdict) (w : Channels K)
      → w ≡ channels.run k done channels.empty → (ds : List Dispatcher)
      → (o : Option (ℕ × ChannelEvent)) → numbered_for (dispatcher_at e ds) w ≡ o → AllStand done ds
      → AllStand done (served_at e v o ds)
  dispatched_by done e v w is ds None next_is h = h
  dispatched_by done e v w is ds (Some p) next_is h =
      at_so done e (serving p.1 v) ds (λ d found s.
      served_so (events_behind k d.end.channel d.side done) d p.1 v
      (event_read (next d.epoch) d.side (channel d.end.channel w.channels)
      (events_behind k d.end.channel d.side done) p.1
      (subst (λ (x : Channels K). AreInStep d.side (events_behind k d.end.channel d.side done)
      (channel d.end.channel x.channels)) (sym is) (in_step_so k done d.end.channel d.side))
      (numbered_event (event_for d w) (next d.epoch) p (ap (λ o. numbered_for o w) (sym found) ∙ next_is))) s) h

  restart_one : (done : List (ChannelStep K k)) (w : Channels K) (b : Bool) (d : Dispatcher)
      → decided_for d w ≤ next d.epoch → AtDispatcher done d
      → AtDispatcher done (cond b (restarted (decided_for d w) d) d)
  restart_one done w true d le h =
      restarted_so (events_behind k d.end.channel d.side done) (decided_for d w) d le h
  restart_one done w false d le h = h

  restarts_each : (done : List (ChannelStep K k)) (n : Node) (w : Channels K) (ds : List Dispatcher)
      → Each (λ d. Between d (decided_for d w)) ds → AllStand done ds → AllStand done (all_restart n w ds)
  restarts_each done n w [] b h = tt
  restarts_each done n w (d ∷ ds) b h =
      (restart_one done w (is_node d.end.node n) d b.0.1 h.0, restarts_each done n w ds b.1 h.1)

  restarts_so : (done : List (ChannelStep K k)) (n : Node) (w : Channels K) (ds : List Dispatcher)
      → Aligned w.channels ds → AllStand done ds → AllStand done (all_restart n w ds)
  restarts_so done n w ds a h = restarts_each done n w ds (decided_between w ds a) h

  restarts_by : (b : Bool) (done : List (ChannelStep K k)) (n : Node) (w : Channels K) (ds : List Dispatcher)
      → Aligned w.channels ds → AllStand done ds → AllStand done (cond b (all_restart n w ds) ds)
  restarts_by true done n w ds a h = restarts_so done n w ds a h
  restarts_by false done n w ds a h = h

  opens_by : (b : Bool) (done : List (ChannelStep K k)) (c : ℕ) (x y : Node) (ds : List Dispatcher) → AllStand done ds
      → AllStand done (cond b (ds ++ new_dispatchers c x y) ds)
  opens_by true done c x y ds h =
      each-append (AtDispatcher done) ds (new_dispatchers c x y) h (
        fresh_so (events_behind k c Funder done) (end_at c x) Funder,
        (fresh_so (events_behind k c Fundee done) (end_at c y) Fundee, tt),
      )
  opens_by false done c x y ds h = h

  registers_by : (b : Bool) (done : List (ChannelStep K k)) (e : End) (hook : ℕ) (ds : List Dispatcher)
      → AllStand done ds
      → AllStand done (cond b (at_dispatcher e (registered hook) ds) ds)
  registers_by true done e hook ds h =
      at_so done e (registered hook) ds
      (λ d found s. registered_so (events_behind k d.end.channel d.side done) hook d s) h
  registers_by false done e hook ds h = h

  -- the dispatchers after a step, by the events before it
  step_so : (done : List (ChannelStep K k)) (v : Verdict) (s : Step K k) (w : World K) (new : Channels K)
      → w.channels ≡ channels.run k done channels.empty
      → Aligned new.channels (with_opened k s w) → AllStand done w.dispatchers
      → AllStand done (dispatchers_by k v s w new)
  step_so done v (step.Fees n fees) w new is none h = h
  step_so done v (step.Limits n limits) w new is none h = h
  step_so done v (step.Open o) w new is none h =
      opens_by (may_open o w.channels) done o.channel o.funder o.fundee w.dispatchers h
  step_so done v (step.Do e a) w new is none h = h
  step_so done v (step.Down e) w new is none h = h
  step_so done v (step.NoMemory e a) w new is none h = h
  step_so done v (step.SaveFails e a left) w new is none h = h
  step_so done v (step.Reload e) w new is none h = h
  step_so done v (step.Restart n) w new is none h = restarts_so done n new w.dispatchers none h
  step_so done v (step.StopBefore e a) w new is none h =
      restarts_by (may_act e a w) done e.node new w.dispatchers none h
  step_so done v (step.StopAfter e a) w new is none h =
      restarts_by (may_act e a w) done e.node new w.dispatchers none h
  step_so done v (step.Up n) w new is none h = h
  step_so done v (step.Dispatch e) w new is none h =
      dispatched_by done e v w.channels is w.dispatchers (next_event e w) refl h
  step_so done v (step.Register e hook) w new is none h =
      registers_by (may_register e hook w) done e hook w.dispatchers h

  -- ---- over a list of steps

  abbrev one : Option (ChannelStep K k) → List (ChannelStep K k)
  one o = cons_option o []

  moved_so : (o : Option (ChannelStep K k)) (done : List (ChannelStep K k)) (w : Channels K)
      → w ≡ channels.run k done channels.empty
      → moved_by k o w ≡ channels.run k (done ++ one o) channels.empty
  moved_so None done w is = is ∙ ap (λ ss. channels.run k ss channels.empty) (sym (append-nil done))
  moved_so (Some s) done w is =
      ap (channels.happens k s) is ∙ sym (run_append k done (s ∷ []) channels.empty)

  stood : (ss : List (Step K k × Verdict)) (done : List (ChannelStep K k)) (w : World K)
      → w.channels ≡ channels.run k done channels.empty
      → Aligned w.channels.channels w.dispatchers → AllStand done w.dispatchers
      → AllStand (done ++ plains k ss w) (run k ss w).dispatchers
  stood [] done w is a h = subst (λ ss. AllStand ss w.dispatchers) (sym (append-nil done)) h
  stood (s ∷ ss) done w is a h =
      let o = plain k s.0 w in
      let new = moved_by k o w.channels in
      let next_w = happens k s.1 s.0 w in
      let rest = plains k ss next_w in
      let now = moved_so o done w.channels is in
      let dispatchers = step_so done s.1 s.0 w new is (channels_move k s.0 w a) h in
      let later = stood ss (done ++ one o) next_w now (step_aligned k s.1 s.0 w a)
      (all_grown done (one o) (dispatchers_by k s.1 s.0 w new) dispatchers) in
      subst (λ ts. AllStand ts (run k (s ∷ ss) w).dispatchers) (same o rest) later
    where
      same : (o : Option (ChannelStep K k)) (rest : List (ChannelStep K k))
          → (done ++ one o) ++ rest ≡ done ++ cons_option o rest
      same None rest = ap (λ ts. ts ++ rest) (append-nil done)
      same (Some t) rest = append_assoc done (t ∷ []) rest

  all_stand : (ss : List (Step K k × Verdict)) (n : ℕ)
      → AllStand (plains k ss (empty n)) (run k ss (empty n)).dispatchers
  all_stand ss n = stood ss [] (empty n) refl (none_aligned k) tt

  pub calls_follow : (ss : List (Step K k × Verdict)) (n : ℕ) → CallsFollow k n ss
  calls_follow ss n =
      let done = plains k ss (empty n) in
      each-to (AtDispatcher done) (λ d. Follows (events_behind k d.end.channel d.side done) d)
      (λ d h. (moves_last k done d.end.channel d.side, dispatcher_so (events_behind k d.end.channel d.side done) d h))
      (run k ss (empty n)).dispatchers (all_stand ss n)

  -- ---- what is decided

  with_decided : (done : List (ChannelStep K k)) (w : Channels K) (ds : List Dispatcher)
      → Each (λ d. Between d (decided_for d w)) ds → AllStand done ds
      → Each (λ d. DispatcherStands (events_behind k d.end.channel d.side done) (decided_for d w) d) ds
  with_decided done w [] b h = tt
  with_decided done w (d ∷ ds) b h = (
    record {
      since_start = b.0.0;
      dispatched = b.0.1;
      reached = h.0.reached;
      told = h.0.told;
      epoch = h.0.epoch;
      past = h.0.past;
    },
    with_decided done w ds b.1 h.1,
  )

  pub dispatchers_stand : (ss : List (Step K k × Verdict)) (n : ℕ) → DispatchersStand k n ss
  dispatchers_stand ss n =
      let w = run k ss (empty n) in
      with_decided (plains k ss (empty n)) w.channels w.dispatchers
      (decided_between w.channels w.dispatchers (all_aligned k n ss)) (all_stand ss n)
