-- What is kept of a node in a world, each step keeps, where the node's ends are asked by its book alone.
use Rattle.std.proofs.Common.{◌≡◌, ℕ, List, [], ◌∷◌, ◌++◌, refl, sym, subst, append-nil, append_assoc, ap}
use Rattle.std.proofs.Common.{Bool, true, false, cond, Option, Some, None}
use Rattle.std.specs.Prelude.{option_map, is_some}
use Rattle.ln_keys.specs.declared.keys.ChannelKeys.{Ghosts}
use Rattle.ln_hooks.specs.declared.verdict.Verdict.{Verdict}
use Rattle.ln_world_channels.specs.declared.step.Act.{Act as ChannelAct}
use Rattle.ln_world_channels.specs.declared.step.Node.{Node}
use Rattle.ln_world_channels.specs.declared.step.End.{End}
use Rattle.ln_world_channels.specs.Both.{Disconnects, Restarts}
use Rattle.ln_world_channels.specs.WorldChannel.{is_node}
use Rattle.ln_world_dispatch.specs.declared.step.Step.TheVariants as dispatcher_step
use Rattle.ln_world_dispatch.specs.Dispatcher.{Dispatcher}
use Rattle.ln_world_dispatch.specs.World.{World as Dispatchers, all_restart, may_act, waiting}
use Rattle.ln_world_dispatch.specs.World as dispatchers
use Rattle.ln_world_channels.specs.World.{World as Channels}
use Rattle.ln_world.specs.declared.step.Act.{Act}
use Rattle.ln_world.specs.declared.step.Act.TheVariants as act
use Rattle.ln_world.specs.declared.step.Step.{Step}
use Rattle.ln_world.specs.declared.step.Step.TheVariants as step
use Rattle.ln_world.specs.declared.node.NodeBook.{NodeBook}
use Rattle.ln_world.specs.Node.{node_at}
use Rattle.ln_world.specs.Follow.{followed, begun_anew}
use Rattle.ln_book_tables.specs.Replay.{table_of}
use Rattle.ln_payment_circuits.specs.Snapshot.{IsIn}
use Rattle.ln_world.specs.World.{World, empty, happens, run, moved_by, stops_behind, call_of, command_of, unbegun}
use Rattle.ln_world.specs.World.{resumed_at, asked}
use Rattle.ln_world.specs.World.{handed_out, first_in, end_at, link_at, resumes}
use Rattle.ln_world.specs.Commands.{OfBook, IsOfBook, AreOfBook}
use Rattle.ln_world.proofs.Scene.{link_in, other_node, other_all}
use Rattle.ln_world.proofs.Books.{letters, itself, alike, other_book}
use Rattle.ln_world.proofs.Wells.{IsWell, book_in, nothing_yet}
use Rattle.ln_world.proofs.Falling.{fallen_else, other_falls, other_restarts}
use Rattle.ln_world.proofs.Others.{do_apart, memory_apart, stop_apart, stopped_apart, acts_else, halts_else}
use Rattle.ln_world.proofs.Others.{stops_else}
use Rattle.ln_world.proofs.Others.{stopped_so, other_acts, other_halts, other_stops, other_stopped}
use Rattle.ln_world.proofs.Orderly.{DispatchersLater, Any, orderly, stays_later, others_begin, view_of, later_same}
use Rattle.ln_world.proofs.Orderly.{later_as, dispatchers_stay}
use Rattle.ln_world.proofs.Keeping.{Holds, down_holds, memory_holds, policy_holds, expect_holds, height_holds}
use Rattle.ln_world.proofs.Keeping.{fees_holds}
use Rattle.ln_world.proofs.Keeping.{limits_holds, dispatch_holds, register_holds, up_holds}
use Rattle.ln_world.proofs.Sending.{deliver_holds, send_holds}
use Rattle.ln_world.proofs.Reloading.{reload_holds, reload_links, reload_nodes, other_reloads}
use Rattle.ln_world.proofs.Giving.{take_holds}
use Rattle.ln_world.proofs.Dispatched.{Ran}
use Rattle.ln_world.proofs.Deciding.{decide_holds, decide_may, undecided_may}
use Rattle.ln_world.proofs.Resuming.{resume_holds, resuming_may}
use Rattle.ln_world.proofs.Stopping.{May, restart_holds, stopped_holds, behind_by, deliver_may, command_may}
use Rattle.ln_world.proofs.Stopping.{take_may, resume_may}
use Rattle.ln_world.proofs.Stopping.{untaken}
use Rattle.ln_world.proofs.Opening.{open_holds}
use Rattle.ln_world.proofs.Moving.{falls_side, restarts_side}

module _ {K : Type 0} (k : Ghosts K) where
  -- ---- a step of another node's end

  module _ (n : Node) (w : World K) (h : Holds k n w) where
    others_hold : (u : World K) → IsWell k n u
        → ((d : ℕ) → link_in n d u.dispatchers.channels.channels ≡ link_in n d w.dispatchers.channels.channels)
        → node_at n u.nodes ≡ node_at n w.nodes
        → DispatchersLater n w.dispatchers.dispatchers u.dispatchers.dispatchers → Holds k n u
    others_hold u well links nodes dispatchers = record {
      well = well;
      order = orderly n w u
          (λ d. stays_later (link_in n d w.dispatchers.channels.channels)
          (link_in n d u.dispatchers.channels.channels) (links d))
          (λ q m. subst (λ (z : NodeBook). IsIn q (table_of z.book).queue) nodes m)
          (later_as Any (view_of n w).htlcs (view_of n w).htlcs (view_of n u).htlcs
          (ap (λ (z : NodeBook). (table_of z.book).htlcs) nodes) (later_same Any (view_of n w).htlcs)) dispatchers
          h.order;
    }

    anew_later : (m : Node) → is_node m n ≡ false → (b : Bool) (c : Channels K) (ds : List Dispatcher)
        → DispatchersLater n ds (cond b (all_restart m c ds) ds)
    anew_later m isnt true c ds = others_begin m n isnt c ds
    anew_later m isnt false c ds = dispatchers_stay n ds

    module _ (e : End) (isnt : is_node e.node n ≡ false) (v : Verdict) where
      do_dispatchers : (o : Option ChannelAct) → DispatchersLater n w.dispatchers.dispatchers
          (moved_by k v (option_map (λ x. dispatcher_step.Do e x) o) w.dispatchers).dispatchers
      do_dispatchers None = dispatchers_stay n w.dispatchers.dispatchers
      do_dispatchers (Some a) = dispatchers_stay n w.dispatchers.dispatchers

      memory_dispatchers : (o : Option ChannelAct) → DispatchersLater n w.dispatchers.dispatchers
          (moved_by k v (option_map (λ x. dispatcher_step.NoMemory e x) o) w.dispatchers).dispatchers
      memory_dispatchers None = dispatchers_stay n w.dispatchers.dispatchers
      memory_dispatchers (Some a) = dispatchers_stay n w.dispatchers.dispatchers

      stop_dispatchers : (o : Option ChannelAct) → DispatchersLater n w.dispatchers.dispatchers
          (moved_by k v (option_map (λ x. dispatcher_step.StopBefore e x) o) w.dispatchers).dispatchers
      stop_dispatchers None = dispatchers_stay n w.dispatchers.dispatchers
      stop_dispatchers (Some a) = anew_later e.node isnt (may_act e a w.dispatchers)
          (dispatchers.moved_by k (dispatchers.plain k
          (dispatcher_step.StopBefore e a) w.dispatchers) w.dispatchers.channels) w.dispatchers.dispatchers

      behind_dispatchers : (o : Option ChannelAct) (r : Option ℕ) → DispatchersLater n w.dispatchers.dispatchers
          (moved_by k v (stops_behind e o r) w.dispatchers).dispatchers
      behind_dispatchers None None = dispatchers_stay n w.dispatchers.dispatchers
      behind_dispatchers None (Some j) = anew_later e.node isnt (may_act e (resumes j) w.dispatchers)
          (dispatchers.moved_by k (dispatchers.plain k (dispatcher_step.StopBefore e
          (resumes j)) w.dispatchers) w.dispatchers.channels) w.dispatchers.dispatchers
      behind_dispatchers (Some a) r = anew_later e.node isnt (may_act e a w.dispatchers)
          (dispatchers.moved_by k (dispatchers.plain k
          (dispatcher_step.StopAfter e a) w.dispatchers) w.dispatchers.channels) w.dispatchers.dispatchers

      others_do : (a : Act) → Holds k n (happens k v (step.Do e a) w)
      others_do a = others_hold (happens k v (step.Do e a) w) (other_acts k e n isnt v w a h.well)
          (do_apart k e n isnt v w.dispatchers (call_of e a w)).links (acts_else k e n isnt v w a) (do_dispatchers
          (call_of e a w))

      others_memory : (a : Act) → Holds k n (happens k v (step.NoMemory e a) w)
      others_memory a = others_hold (happens k v (step.NoMemory e a) w) (other_halts k e n isnt v w a h.well)
          (memory_apart k e n isnt v w.dispatchers (unbegun e a w)).links (halts_else k e n isnt v w a)
          (memory_dispatchers (unbegun e a w))

      others_stop : (a : Act) → Holds k n (happens k v (step.StopBefore e a) w)
      others_stop a = others_hold (happens k v (step.StopBefore e a) w) (other_stops k e n isnt v w a h.well)
          (stop_apart k e n isnt v w.dispatchers (unbegun e a w)).links (stops_else k e n isnt v w a)
          (stop_dispatchers (unbegun e a w))

      others_behind : (a : Act) → Holds k n (happens k v (step.StopAfter e a) w)
      others_behind a = others_hold (happens k v (step.StopAfter e a) w) (other_stopped k e n isnt v w a h.well)
          (stopped_apart k e n isnt v w.dispatchers (call_of e a w) (resumed_at e a w.dispatchers)).links
          (stopped_so k e n isnt v w a)
          (behind_dispatchers (call_of e a w) (resumed_at e a w.dispatchers))

      others_fall : Holds k n (happens k v (step.Down e) w)
      others_fall = others_hold (happens k v (step.Down e) w) (other_falls k n e isnt v w h.well)
          (λ d. other_node k.signer e.node Disconnects falls_side n e.channel w.dispatchers.channels.channels isnt d)
          (fallen_else k n e isnt (happens k v (step.Down e) w).dispatchers
          (link_at e (happens k v (step.Down e) w).dispatchers.channels.channels) w.nodes)
          (dispatchers_stay n w.dispatchers.dispatchers)

    others_reload : (e : End) → is_node e.node n ≡ false → (v : Verdict) → Holds k n (happens k v (step.Reload e) w)
    others_reload e isnt v = others_hold (happens k v (step.Reload e) w) (other_reloads k e v w n isnt h.well)
        (reload_links k e v w n isnt) (reload_nodes k e v w n isnt) (dispatchers_stay n w.dispatchers.dispatchers)

    others_restart : (m : Node) → is_node m n ≡ false → (v : Verdict) → Holds k n (happens k v (step.Restart m) w)
    others_restart m isnt v =
        let u = happens k v (step.Restart m) w in
        others_hold u (other_restarts k n m isnt v w h.well)
        (λ d. other_all k.signer m Restarts restarts_side n w.dispatchers.channels.channels isnt d)
        (other_book (λ x. followed u.dispatchers.channels.channels
        (begun_anew u.dispatchers.channels.channels x)) (λ x. refl) m n isnt w.nodes)
        (others_begin m n isnt u.dispatchers.channels w.dispatchers.dispatchers)

  -- ---- of the node's own

  module _ (e : End) (v : Verdict) (w : World K) (h : Holds k e.node w) (r : Ran k w) where
    pub own_do : (a : Act) → OfBook e.node e a → Holds k e.node (happens k v (step.Do e a) w)
    own_do act.Deliver o = deliver_holds k e v w h r
    own_do (act.Send c) o = send_holds k e v w h r c (o (itself e.node))
    own_do act.Take o = take_holds k e v w h r
    own_do act.Decide o = decide_holds k e v w h r
    own_do (act.Resume i x) o = resume_holds k e v w h r i x

    acts_may : (a : Act) (x : ChannelAct) → call_of e a w ≡ Some x → May k e v w h x
    acts_may act.Deliver x is = deliver_may k e v w h x is
    acts_may (act.Send c) x is = command_may k e v w h c x is
    acts_may act.Take x is = take_may k e v w h x is
    acts_may act.Decide x is = decide_may k e v w h r (waiting e w.dispatchers) refl x is
    acts_may (act.Resume i y) x is = resuming_may k e v w h r i y x is

    resumes_may : (a : Act) (j : ℕ) → resumed_at e a w.dispatchers ≡ Some j → May k e v w h (resumes j)
    resumes_may act.Deliver j is = absurd (cc)
    resumes_may (act.Send c) j is = absurd (cc)
    resumes_may act.Take j is = absurd (cc)
    resumes_may act.Decide j is = absurd (cc)
    resumes_may (act.Resume i y) j is = resume_may k e v w h i y j is

    own_behind : (a : Act) → OfBook e.node e a → Holds k e.node (happens k v (step.StopAfter e a) w)
    own_behind a o = behind_by k e v w h (command_of e a w) (call_of e a w) (resumed_at e a w.dispatchers)
        (handed_out e (asked e a w) w.nodes) (acts_may a) (resumes_may a) (own_do a o)

    unbegun_resumes : (i : ℕ) (o : Option ℕ) → ((j : ℕ) → o ≡ Some j → May k e v w h (resumes j)) → (x : ChannelAct)
        → option_map resumes o ≡ Some x → May k e v w h x
    unbegun_resumes i None may x is = absurd (cc)
    unbegun_resumes i (Some j) may x is = let same : resumes j ≡ x = cc in subst (May k e v w h) same (may j refl)

    own_stops : (a : Act) → Holds k e.node (happens k v (step.StopBefore e a) w)
    own_stops act.Deliver = stopped_holds k e v w h (call_of e act.Deliver w) (deliver_may k e v w h) w.nodes
        (λ none. alike (book_in e.node w))
    own_stops (act.Send c) = stopped_holds k e v w h (call_of e (act.Send c) w) (command_may k e v w h c) w.nodes
        (λ none. alike (book_in e.node w))
    own_stops act.Take = stopped_holds k e v w h (call_of e act.Take w) (take_may k e v w h)
        (handed_out e (asked e act.Take w) w.nodes)
        (untaken k e v w h (is_some (end_at e w.dispatchers)) (first_in e (book_in e.node w)) refl)
    own_stops act.Decide = stopped_holds k e v w h (unbegun e act.Decide w)
        (undecided_may k e v w h r (waiting e w.dispatchers) refl) w.nodes (λ none. alike (book_in e.node w))
    own_stops (act.Resume i y) = stopped_holds k e v w h (unbegun e (act.Resume i y) w)
        (unbegun_resumes i (resumed_at e (act.Resume i y) w.dispatchers) (resume_may k e v w h i y)) w.nodes
        (λ none. alike (book_in e.node w))

  -- ---- whichever step it is

  module _ (n : Node) (v : Verdict) (w : World K) (h : Holds k n w) (r : Ran k w) where
    by_node : (m : Node) (u : World K) → (is_node m n ≡ false → Holds k n u) → (Holds k m w → Holds k m u) → Holds k n u
    by_node m u other own = cases (is_node m n) refl
      where
        cases : (b : Bool) → is_node m n ≡ b → Holds k n u
        cases false is = other is
        cases true is = subst (λ z. Holds k z u) (letters m n is)
            (own (subst (λ z. Holds k z w) (sym (letters m n is)) h))

    of_book : (e : End) (a : Act) → OfBook n e a → is_node e.node n ≡ true → OfBook e.node e a
    of_book e act.Deliver o is = tt
    of_book e (act.Send c) o is = λ own. o is
    of_book e act.Take o is = tt
    of_book e act.Decide o is = tt
    of_book e (act.Resume i y) o is = tt

    by_end : (e : End) (a : Act) → OfBook n e a → (u : World K) → (is_node e.node n ≡ false → Holds k n u)
        → (Holds k e.node w → OfBook e.node e a → Holds k e.node u) → Holds k n u
    by_end e a o u other own = cases (is_node e.node n) refl
      where
        cases : (b : Bool) → is_node e.node n ≡ b → Holds k n u
        cases false is = other is
        cases true is = subst (λ z. Holds k z u) (letters e.node n is)
            (own (subst (λ z. Holds k z w) (sym (letters e.node n is)) h) (of_book e a o is))

    pub step_holds : (s : Step K k) → IsOfBook k n s → Holds k n (happens k v s w)
    step_holds (step.Fees m fees) o = fees_holds k n v w m fees h
    step_holds (step.Limits m limits) o = limits_holds k n v w m limits h
    step_holds (step.Policy m policy) o = policy_holds k n v w m policy h
    step_holds (step.Height m height) o = height_holds k n v w m height h
    step_holds (step.Expect m invoice) o = expect_holds k n v w m invoice h
    step_holds (step.Open x) o = open_holds k n v w h x o
    step_holds (step.Do e a) o = by_end e a o (happens k v (step.Do e a) w) (λ isnt. others_do n w h e isnt v a)
        (λ g of. own_do e v w g r a of)
    step_holds (step.Down e) o = by_node e.node (happens k v (step.Down e) w) (λ isnt. others_fall n w h e isnt v)
        (down_holds k e v w)
    step_holds (step.NoMemory e a) o = by_node e.node (happens k v (step.NoMemory e a) w)
        (λ isnt. others_memory n w h e isnt v a) (memory_holds k e v w a)
    step_holds (step.Restart m) o = by_node m (happens k v (step.Restart m) w) (λ isnt. others_restart n w h m isnt v)
        (restart_holds k m v w)
    step_holds (step.Reload e) o = by_node e.node (happens k v (step.Reload e) w)
        (λ isnt. others_reload n w h e isnt v) (reload_holds k e v w)
    step_holds (step.StopBefore e a) o = by_node e.node (happens k v (step.StopBefore e a) w)
        (λ isnt. others_stop n w h e isnt v a) (λ g. own_stops e v w g r a)
    step_holds (step.StopAfter e a) o =
        by_end e a o (happens k v (step.StopAfter e a) w) (λ isnt. others_behind n w h e isnt v a)
        (λ g of. own_behind e v w g r a of)
    step_holds (step.Up number) o = up_holds k n v w number h
    step_holds (step.Dispatch e) o = dispatch_holds k n v w e h
    step_holds (step.Register e hook) o = register_holds k n v w e hook h

  -- ---- over a list of steps

  run_more : (ss : List (Step K k × Verdict)) (s : Step K k × Verdict) (w : World K)
      → run k (ss ++ s ∷ []) w ≡ happens k s.1 s.0 (run k ss w)
  run_more [] s w = refl
  run_more (t ∷ ss) s w = run_more ss s (happens k t.1 t.0 w)

  begun : (n : Node) (hooks : ℕ) → Holds k n (empty hooks)
  begun n hooks = record {
    well = nothing_yet k n hooks;
    order =
        record {
          queued = λ c q m at free. absurd m;
          dated = λ c x m at. absurd m;
          keyed = λ x m. absurd m;
          named = λ c. tt;
        };
  }

  all_hold : (n : Node) (hooks : ℕ) (before ss : List (Step K k × Verdict)) → AreOfBook k n ss
      → Holds k n (run k before (empty hooks)) → Holds k n (run k (before ++ ss) (empty hooks))
  all_hold n hooks before [] o h = subst (λ zs. Holds k n (run k zs (empty hooks))) (sym (append-nil before)) h
  all_hold n hooks before (s ∷ ss) o h =
      let w = run k before (empty hooks) in
      subst (λ zs. Holds k n (run k zs (empty hooks))) (append_assoc before (s ∷ []) ss)
      (all_hold n hooks (before ++ s ∷ []) ss o.1
      (subst (Holds k n) (sym (run_more before s (empty hooks)))
      (step_holds n s.1 w h (record { steps = before; hooks = hooks; is = refl }) s.0 o.0)))

  pub run_holds : (n : Node) (hooks : ℕ) (ss : List (Step K k × Verdict)) → AreOfBook k n ss
      → Holds k n (run k ss (empty hooks))
  run_holds n hooks ss o = all_hold n hooks [] ss o (begun n hooks)
