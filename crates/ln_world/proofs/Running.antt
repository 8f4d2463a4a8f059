-- The steps of a world, one after the other, with hooks that are called.
use Rattle.std.proofs.Common.{◌≡◌, List, [], ◌∷◌, ◌++◌, length, refl, sym, ap, ◌∙◌, subst}
use Rattle.std.proofs.Common.{Option, Some, None, map, inl, inr}
use Rattle.ln_refusals.specs.declared.refusal.Refusal.{Refusal}
use Rattle.ln_keys.specs.declared.keys.ChannelKeys.{Ghosts}
use Rattle.ln_hooks.specs.declared.event.ChannelEvent.{ChannelEvent}
use Rattle.ln_hooks.specs.declared.verdict.Verdict.{Verdict}
use Rattle.ln_hooks.specs.declared.verdict.Verdict.TheVariants.{Continue}
use Rattle.ln_world_channels.specs.declared.line.Line.{Line}
use Rattle.ln_world_channels.specs.declared.line.Line.TheVariants as line
use Rattle.ln_world_dispatch.specs.declared.step.Step.{Step as DispatchStep}
use Rattle.ln_world_dispatch.specs.World.{World as Dispatchers}
use Rattle.ln_world_dispatch.specs.World as dispatchers
use Rattle.ln_world_dispatch.specs.Slots.{Answers, Tables, Stand, Agree}
use Rattle.ln_world_dispatch.specs.Hooked as dispatchers_hooked
use Rattle.ln_world.specs.declared.step.Step.{Step}
use Rattle.ln_world.specs.declared.follow_up.FollowUp.{FollowUp}
use Rattle.ln_world.specs.declared.node.NodeBook.{NodeBook}
use Rattle.ln_world_dispatch.proofs.Dispatchers.{calls_follow}
use Rattle.ln_world_dispatch.proofs.Going as going
use Rattle.ln_world.specs.World.{World, empty, plain, plains, moved_by, lines_by, prepared, follow_up_of, concluded}
use Rattle.ln_world.specs.World.{tells}
use Rattle.ln_world.specs.World.{happens, run, step_lines, run_lines, MayFail, SomeMayFail}
use Rattle.ln_world.specs.Hooked.{verdict_by, verdict_in, answered, Moves, Steps, HasRun, RunMayFail}

pub same_world : {K : Type 0} (w : World K) (d : Dispatchers K) (xs : List NodeBook) → w.dispatchers ≡ d → w.nodes ≡ xs
    → w ≡ record { dispatchers = d; nodes = xs }
same_world w d xs h i =
    ap (λ x. record { dispatchers = x; nodes = w.nodes }) h ∙ ap (λ x. record { dispatchers = d; nodes = x }) i

module _ {K : Type 0} (k : Ghosts K) {H : Type 0} (calls : H → ChannelEvent → Verdict → H → Type 0) where
  pub move_told : (m : DispatchStep K k) (d d' : Dispatchers K) (ts ts' : List (Tables calls))
      (left left' : List (Option H))
      (told told' : List Line) → told ≡ [] → dispatchers_hooked.Steps k calls m d ts left d' ts' left' told told'
      → Moves k calls (Some m) d ts left d' ts' left' told'
  move_told m d d' ts ts' left left' told told' is steps =
      subst (λ l. dispatchers_hooked.Steps k calls m d ts left d' ts' left' l told') is steps

  -- a step that dispatchers take
  pub taken : (s : Step K k) (m : DispatchStep K k) (w w' : World K) (ts ts' : List (Tables calls))
      (left left' : List (Option H)) (told lines lines' : List Line) → plain k s w ≡ Some m
      → dispatchers_hooked.Steps k calls m w.dispatchers ts left w'.dispatchers ts' left' [] told
      → w'.nodes ≡ concluded (follow_up_of s w) told w'.dispatchers (prepared s w)
      → lines' ≡ lines ++ tells (follow_up_of s w) told
      → Steps k calls s w ts left w' ts' left' lines lines'
  taken s m w w' ts ts' left left' told lines lines' is steps nodes tells_so handed a count stand =
      let st = steps handed a count stand in
      let by : moved_by k st.said (plain k s w) w.dispatchers ≡ w'.dispatchers =
      ap (λ o. moved_by k st.said o w.dispatchers) is ∙ sym st.world in
      let lines_so : lines_by k st.said (plain k s w) w.dispatchers ≡ told =
      ap (λ o. lines_by k st.said o w.dispatchers) is ∙ sym st.told in
      record {
        said = st.said;
        moved = record {
          more = st.moved.more;
          stand = st.moved.stand;
          told = λ b agree.
              let old = st.moved.told b agree in
              (old.0, ap (λ (o : Option (DispatchStep K k)). verdict_by b o w.dispatchers) is ∙ old.1);
        };
        world = same_world w' (moved_by k st.said (plain k s w) w.dispatchers)
            (concluded (follow_up_of s w) (lines_by k st.said (plain k s w) w.dispatchers)
            (moved_by k st.said (plain k s w) w.dispatchers) (prepared s w)) (sym by)
            (nodes ∙ sym (ap (λ d. concluded (follow_up_of s w) told d (prepared s w)) by)
            ∙ sym (ap (λ l. concluded (follow_up_of s w) l (moved_by k st.said (plain k s w) w.dispatchers)
            (prepared s w))
            lines_so));
        told = tells_so ∙ ap (λ l. lines ++ tells (follow_up_of s w) l) (sym lines_so);
      }

  -- a step that is no matter of dispatchers, or can't be taken
  pub passed_over : (s : Step K k) (w w' : World K) (ts : List (Tables calls)) (left : List (Option H))
      (lines lines' : List Line) → plain k s w ≡ None → w'.dispatchers ≡ w.dispatchers
      → w'.nodes ≡ concluded (follow_up_of s w) (line.Idle ∷ []) w'.dispatchers (prepared s w)
      → lines' ≡ lines ++ tells (follow_up_of s w) (line.Idle ∷ [])
      → Steps k calls s w ts left w' ts left lines lines'
  passed_over s w w' ts left lines lines' is same nodes tells_so handed a count stand =
      let by : moved_by k Continue (plain k s w) w.dispatchers ≡ w'.dispatchers =
      ap (λ o. moved_by k Continue o w.dispatchers) is ∙ sym same in
      let lines_so : lines_by k Continue (plain k s w) w.dispatchers ≡ line.Idle ∷ [] =
      ap (λ o. lines_by k Continue o w.dispatchers) is in
      record {
        said = Continue;
        moved = record {
          more = a;
          stand = subst (λ (d : Dispatchers K). Stand calls handed a d.used d.dispatchers ts left) (sym same) stand;
          told = λ b agree. (
            subst (λ (d : Dispatchers K). Agree a b d.dispatchers) same agree,
            ap (λ (o : Option (DispatchStep K k)). verdict_by b o w.dispatchers) is,
          );
        };
        world = same_world w' (moved_by k Continue (plain k s w) w.dispatchers)
            (concluded (follow_up_of s w) (lines_by k Continue (plain k s w) w.dispatchers)
            (moved_by k Continue (plain k s w) w.dispatchers) (prepared s w)) (sym by)
            (nodes ∙ sym (ap (λ d. concluded (follow_up_of s w) (line.Idle ∷ []) d (prepared s w)) by)
            ∙ sym (ap (λ l. concluded (follow_up_of s w) l (moved_by k Continue (plain k s w) w.dispatchers)
            (prepared s w))
            lines_so));
        told = tells_so ∙ ap (λ l. lines ++ tells (follow_up_of s w) l) (sym lines_so);
      }

  -- either
  pub stepped : (s : Step K k) (o : Option (DispatchStep K k)) (w w' : World K) (ts ts' : List (Tables calls))
      (left left' : List (Option H)) (told lines lines' : List Line) → plain k s w ≡ o
      → Moves k calls o w.dispatchers ts left w'.dispatchers ts' left' told
      → w'.nodes ≡ concluded (follow_up_of s w) told w'.dispatchers (prepared s w)
      → lines' ≡ lines ++ tells (follow_up_of s w) told
      → Steps k calls s w ts left w' ts' left' lines lines'
  stepped s (Some m) w w' ts ts' left left' told lines lines' is moves nodes tells_so =
      taken s m w w' ts ts' left left' told lines lines' is moves nodes tells_so
  stepped s None w w' ts ts' left left' told lines lines' is moves nodes tells_so =
      let idle : Steps k calls s w ts left w' ts left lines lines' =
      passed_over s w w' ts left lines lines' is moves.0
      (nodes ∙ ap (λ l. concluded (follow_up_of s w) l w'.dispatchers (prepared s w)) moves.3)
      (tells_so ∙ ap (λ l. lines ++ tells (follow_up_of s w) l) moves.3) in
      subst (λ us. Steps k calls s w ts left w' us left' lines lines') (sym moves.1)
      (subst (λ l. Steps k calls s w ts left w' ts l lines lines') (sym moves.2) idle)

  -- either, where the parts of the code tell of it
  pub stepped_by : (s : Step K k) (o : Option (DispatchStep K k)) (w w' : World K) (ts ts' : List (Tables calls))
      (left left' : List (Option H)) (what : FollowUp) (xs : List NodeBook)
      (told reported tells_of lines lines' : List Line)
      → plain k s w ≡ o → what ≡ follow_up_of s w → xs ≡ prepared s w
      → Moves k calls o w.dispatchers ts left w'.dispatchers ts' left' told
      → w'.nodes ≡ concluded what reported w'.dispatchers xs → reported ≡ told
      → lines' ≡ lines ++ tells what tells_of → tells_of ≡ told
      → Steps k calls s w ts left w' ts' left' lines lines'
  stepped_by s o w w' ts ts' left left' what xs told reported tells_of lines lines' is follow_up first moves nodes
      hears so says =
      stepped s o w w' ts ts' left left' told lines lines' is moves
      (nodes ∙ ap (λ l. concluded what l w'.dispatchers xs) hears
      ∙ ap (λ e. concluded e told w'.dispatchers xs) follow_up
      ∙ ap (λ ys. concluded (follow_up_of s w) told w'.dispatchers ys) first)
      (so ∙ ap (λ l. lines ++ tells what l) says ∙ ap (λ e. lines ++ tells e told) follow_up)

  -- ---- one after the other

  abbrev held : World K → Dispatchers K
  held w = w.dispatchers

  abbrev says : Answers → Step K k → World K → Verdict
  says a s w = verdict_in k a s w

  same_hooks : (v : Verdict) (o : Option (DispatchStep K k)) (d : Dispatchers K) → (moved_by k v o d).hooks ≡ d.hooks
  same_hooks v None d = refl
  same_hooks v (Some s) d = refl

  led_so : (b : Answers) (ss : List (Step K k)) (w : World K)
      → going.led held (happens k) (step_lines k) says b ss w ≡ run k (answered k b ss w) w
  led_so b [] w = refl
  led_so b (s ∷ ss) w = led_so b ss (happens k (verdict_in k b s w) s w)

  said_so : (b : Answers) (ss : List (Step K k)) (w : World K)
      → going.said_in held (happens k) (step_lines k) says b ss w ≡ run_lines k (answered k b ss w) w
  said_so b [] w = refl
  said_so b (s ∷ ss) w =
      ap (λ l. step_lines k (verdict_in k b s w) s w ++ l) (said_so b ss (happens k (verdict_in k b s w) s w))

  fails_so : (b : Answers) (ss : List (Step K k)) (r : Refusal) (w : World K)
      → going.SomeFails held (happens k) (step_lines k) says (MayFail k) b ss r w
      → SomeMayFail k (answered k b ss w) r w
  fails_so b [] r w h = h
  fails_so b (s ∷ ss) r w (inl h) = inl h
  fails_so b (s ∷ ss) r w (inr h) = inr (fails_so b ss r (happens k (verdict_in k b s w) s w) h)

  module _ (handed : List H) where
    abbrev start : World K
    start = empty (length handed)

    -- so far
    abbrev pub Ran : List (Step K k) → World K → List (Tables calls) → List (Option H) → List Line → List Line → Type 0
    Ran ss w ts left lines lines' =
        going.Ran held (happens k) (step_lines k) says calls handed start ss w ts left lines lines'

    pub ran_one : (ss : List (Step K k)) (s : Step K k) (w w' : World K) (ts ts' : List (Tables calls))
        (left left' : List (Option H)) (lines lines' lines'' : List Line) → Ran ss w ts left lines lines'
        → Steps k calls s w ts left w' ts' left' lines' lines'' → Ran (ss ++ s ∷ []) w' ts' left' lines lines''
    ran_one ss s w w' ts ts' left left' lines lines' lines'' ran steps =
        going.ran_one held (happens k) (step_lines k) says calls handed
        (λ v x y. same_hooks v (plain k x y) y.dispatchers) start ss s w w' ts ts' left left' lines lines' lines'' ran
        (λ a count stand. let m = steps handed a count stand in record {
          said = m.said;
          moved = m.moved;
          world = m.world;
          told = m.told;
        })

    pub ran_none : (w : World K) (ts : List (Tables calls)) (left : List (Option H)) (lines : List Line) → w ≡ start
        → ts ≡ [] → left ≡ map Some handed → Ran [] w ts left lines lines
    ran_none w ts left lines is none all =
        going.ran_none_so held (happens k) (step_lines k) says calls handed start w ts left lines refl is none all

    -- all
    pub has_run : (ss : List (Step K k)) (w : World K) (ts : List (Tables calls)) (left : List (Option H))
        (lines lines' : List Line) → Ran ss w ts left lines lines' → HasRun k calls handed ss w ts left lines lines'
    has_run ss w ts left lines lines' ran =
        let to =
        going.ran_to held (happens k) (step_lines k) says calls handed start ss w ts left lines lines' ran in
        record {
          answers = ran.answers;
          world = to.0 ∙ led_so ran.answers ss start;
          told = to.1 ∙ ap (λ l. lines ++ l) (said_so ran.answers ss start);
          stand = ran.stand;
          follow = calls_follow k (plains k (answered k ran.answers ss start) start) (length handed);
        }

    pub has_run_all : (done ss : List (Step K k)) → done ≡ ss → (w : World K) (ts : List (Tables calls))
        (left : List (Option H)) (lines lines' : List Line) → Ran done w ts left lines lines'
        → HasRun k calls handed ss w ts left lines lines'
    has_run_all done ss is w ts left lines lines' ran =
        has_run ss w ts left lines lines' (subst (λ l. Ran l w ts left lines lines') is ran)

    -- where one of them fails
    pub may_fail_all : (done rest all : List (Step K k)) (s : Step K k) → done ++ s ∷ rest ≡ all → (r : Refusal)
        (w : World K) (ts : List (Tables calls)) (left : List (Option H)) (lines lines' : List Line)
        → Ran done w ts left lines lines' → MayFail k s r w → RunMayFail k (length handed) all r
    may_fail_all done rest all s is r w ts left lines lines' ran may =
        let some =
        going.may_fail held (happens k) (step_lines k) says calls handed (MayFail k) start done rest s r w ts left
        lines lines' ran may in
        subst (λ l. RunMayFail k (length handed) l r) is
        (inr (ran.answers, fails_so ran.answers (done ++ s ∷ rest) r start some))

    -- each dispatcher has its tables
    pub ran_many : (ss : List (Step K k)) (w : World K) (ts : List (Tables calls)) (left : List (Option H))
        (lines lines' : List Line) → Ran ss w ts left lines lines' → length ts ≡ length w.dispatchers.dispatchers
    ran_many ss w ts left lines lines' ran =
        going.ran_many held (happens k) (step_lines k) says calls handed start ss w ts left lines lines' ran
