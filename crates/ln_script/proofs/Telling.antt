-- Steps that are told one after the other: what is ahead of each, and what the lines of a script come to.
use Rattle.std.proofs.Common.{◌≡◌, ◌⊎◌, ℕ, ◌+◌, ◌≤◌, ◌<◌, List, [], ◌∷◌, ◌++◌, Option, Some, None, Ok, Err}
use Rattle.std.proofs.Common.{length, map, get_or, drop, refl, sym, ap, subst, ◌∙◌, arith, append_assoc, append-nil}
use Rattle.std.proofs.Common.{inl, inr}
use Rattle.std.specs.List.{count_by}
use Rattle.ln_msgs.specs.Pings.Counted.{HasRisen}
use Rattle.ln_refusals.specs.declared.refusal.Refusal.{Refusal}
use Rattle.ln_refusals.specs.declared.refusal.Refusal.TheVariants as refusal
use Rattle.ln_keys.specs.declared.toy_keys.ToyKeys.{ToyKeys}
use Rattle.ln_hooks.specs.declared.event.ChannelEvent.{ChannelEvent}
use Rattle.ln_hooks.specs.declared.verdict.Verdict.{Verdict}
use Rattle.ln_world_dispatch.specs.declared.step.Step.{Step as DispatchStep}
use Rattle.ln_world_dispatch.specs.Slots.{Tables}
use Rattle.ln_world_dispatch.specs.World.{World as Dispatchers}
use Rattle.ln_world_dispatch.specs.World as dispatchers
use Rattle.ln_world_dispatch.proofs.Restarting.{as_many_tables}
use Rattle.ln_world.specs.declared.node.NodeBook.{NodeBook}
use Rattle.ln_world.specs.World.{World, moved_by, plain}
use Rattle.ln_script.specs.Keys.{toy}
use Rattle.ln_script.specs.Step.{ToyStep, is_hook, numbered}
use Rattle.ln_script.specs.Script.{lines, line_at, behind, steps_from, with_places, script_at}
use Rattle.ln_script.specs.Report.{StepPartlyTold, StepFails, StepsFail, StepsTold, ReportsPartly}
use Rattle.ln_script.specs.Report.{ReportsScript, ReportsScriptPartly, ends_text}
use Rattle.ln_msgs.specs.Pings.Written.{IsPartlyWritten}
use Rattle.std.specs.Io.KnownBytes.{Appends}
use Rattle.ln_script.specs.Wide.{AreAsWide}
use Rattle.ln_script.specs.Telling.{Moment, AllStand, OneTold, EachTold, StopsBy}
use Rattle.ln_script.proofs.Places.{count-append, numbered_all}
use Rattle.ln_script.proofs.Recorded.{NeverDamaged, not_damaged, by_memory_or_io}
use Rattle.ln_script.proofs.Registered.{few_hooks}
use Rattle.ln_script.proofs.Reports.{IsTold, empty_so, rose_later, told_none, told_one, told_all, stops_here, stops_at}
use Rattle.ln_script.proofs.Reports.{caused}
use Rattle.ln_script.proofs.Reports.{reports, reports_partly, script_reports, script_partly}
use Rattle.ln_script.proofs.Script.{first_lines, after_line, at_bad, at_end, left_to_read}

same_hooks : (v : Verdict) (o : Option (DispatchStep ToyKeys toy)) (d : Dispatchers ToyKeys)
    → (moved_by toy v o d).hooks ≡ d.hooks
same_hooks v None d = refl
same_hooks v (Some s) d = refl

module _ {H : Type 0} (calls : H → ChannelEvent → Verdict → H → Type 0) where
  pub as_many_stand : (m : Moment calls) → AllStand calls m → length m.tables ≡ length m.world.dispatchers.dispatchers
  as_many_stand m a = as_many_tables calls a.handed a.answers m.world.dispatchers.dispatchers m.tables a.stand.slotted

  stands_on : (s : ToyStep) (m n : Moment calls) → AllStand calls m → OneTold calls s m n → AllStand calls n
  stands_on s m n a t =
      let st = t.steps a.handed a.answers a.count a.stand in
      record {
        handed = a.handed;
        answers = st.moved.more;
        count = a.count ∙ sym (ap (λ (x : World ToyKeys). x.dispatchers.hooks) st.world
            ∙ same_hooks st.said (plain toy s m.world) m.world.dispatchers);
        stand = st.moved.stand;
      }

  -- ---- what the steps that are left do stands after what was done

  pub record Ahead (failures : ℕ) (rest all : List ToyStep) (now start : Moment calls) : Type 0 where
    pub stand : AllStand calls now
    pub told : (n : Moment calls) → EachTold calls rest now n → EachTold calls all start n
    pub stops : (r : Refusal) (later : ℕ) (new : Option (List ℕ))
        → StopsBy calls (HasRisen failures later) r rest now new
        → StopsBy calls (HasRisen failures later) r all start new

  pub ahead_first : (failures : ℕ) (all : List ToyStep) (start : Moment calls) → AllStand calls start
      → Ahead failures all all start start
  ahead_first failures all start a = record { stand = a; told = λ n h. h; stops = λ r later new h. h }

  pub ahead_one : (failures : ℕ) (rest more all : List ToyStep) (s : ToyStep) (now next start : Moment calls)
      → rest ≡ s ∷ more → Ahead failures rest all now start → OneTold calls s now next
      → Ahead failures more all next start
  ahead_one failures rest more all s now next start is a t = record {
    stand = stands_on s now next a.stand t;
    told = λ n h. a.told n (subst (λ (l : List ToyStep). EachTold calls l now n) (sym is) (next, t, h));
    stops = λ r later new h. a.stops r later new
        (subst (λ (l : List ToyStep). StopsBy calls (HasRisen failures later) r l now new) (sym is) (inr (next, t, h)));
  }

  pub ahead_end : (failures : ℕ) (rest all ss : List ToyStep) (now start : Moment calls) → rest ≡ [] → all ≡ ss
      → Ahead failures rest all now start → EachTold calls ss start now
  ahead_end failures rest all ss now start none same a =
      subst (λ (l : List ToyStep). EachTold calls l start now) same
      (a.told now (subst (λ (l : List ToyStep). EachTold calls l now now) (sym none) refl))

  cause_later : (first x y : ℕ) (s : ToyStep) (r : Refusal) (w : World ToyKeys) → first ≤ x
      → (StepFails s r w ⊎ ((r ≡ refusal.Io) × HasRisen x y))
      → StepFails s r w ⊎ ((r ≡ refusal.Io) × HasRisen first y)
  cause_later first x y s r w more (inl f) = inl f
  cause_later first x y s r w more (inr p) = inr (p.0, rose_later first x y more p.1)

  pub ahead_stops : (first x y : ℕ) (rest more all ss : List ToyStep) (s : ToyStep) (now start : Moment calls)
      (r : Refusal) (new : Option (List ℕ)) → rest ≡ s ∷ more → all ≡ ss → Ahead first rest all now start → first ≤ x
      → StepPartlyTold calls s now.world now.tables now.left now.written new
      → (StepFails s r now.world ⊎ ((r ≡ refusal.Io) × HasRisen x y))
      → StopsBy calls (HasRisen first y) r ss start new
  ahead_stops first x y rest more all ss s now start r new is same a rose part cause =
      subst (λ (l : List ToyStep). StopsBy calls (HasRisen first y) r l start new) same
      (a.stops r y new (subst (λ (l : List ToyStep). StopsBy calls (HasRisen first y) r l now new) (sym is)
      (inl (part, cause_later first x y s r now.world rose cause))))

-- ---- from nothing on

module _ {H : Type 0} (calls : H → ChannelEvent → Verdict → H → Type 0) (handed : List H) where
  abbrev pub ToldTo : List ToyStep → Option (List ℕ) → Moment calls → Type 0
  ToldTo done a m = IsTold calls handed done m.world m.tables m.left a m.written

  pub all_stand : (done : List ToyStep) (m : Moment calls) (a : Option (List ℕ)) → ToldTo done a m → AllStand calls m
  all_stand done m a t = record {
    handed = handed;
    answers = t.ran.answers;
    count = t.ran.count;
    stand = t.ran.stand;
  }

  -- nothing is set, and no channel is open
  pub begun : {T : Type 0} (tables_of : T
      → Tables calls) (d : Dispatchers ToyKeys) (nodes : List NodeBook) (kept : List T)
      (left : List (Option H)) (a : Option (List ℕ)) → d ≡ dispatchers.empty (length handed) → nodes ≡ [] → kept ≡ []
      → left ≡ map Some handed → ToldTo [] a (record {
        world = record { dispatchers = d; nodes = nodes };
        tables = map tables_of kept;
        left = left;
        written = a;
      })
  begun tables_of d nodes kept left a dispatchers_are none no_tables all =
      let w : World ToyKeys = record { dispatchers = d; nodes = nodes } in
      told_none calls handed w (map tables_of kept) left a (empty_so (length handed) w dispatchers_are none)
      (ap (map tables_of) no_tables) all

  pub told_each : (done ss : List ToyStep) (m n : Moment calls) (a : Option (List ℕ)) → ToldTo done a m
      → EachTold calls ss m n → ToldTo (done ++ ss) a n
  told_each done [] m n a t same =
      subst (λ (x : Moment calls). ToldTo (done ++ []) a x) (sym same)
      (subst (λ (l : List ToyStep). ToldTo l a m) (sym (append-nil done)) t)
  told_each done (s ∷ ss) m n a t h =
      subst (λ (l : List ToyStep). ToldTo l a n) (append_assoc done (s ∷ []) ss)
      (told_each (done ++ s ∷ []) ss h.0 n a
      (told_one calls handed done s m.world h.0.world m.tables h.0.tables m.left h.0.left a m.written h.0.written t h.1)
      h.2)

  -- all that is said where they stop
  abbrev pub Stopped : List ToyStep → Option (List ℕ) → Option (List ℕ) → Refusal → ℕ → ℕ → Type 0
  Stopped all a new r x z = ReportsPartly calls handed all a new
      × (StepsFail (length handed) all r ⊎ ((r ≡ refusal.Io) × HasRisen x z))

  pub each_stops : (done ss rest all : List ToyStep) (m : Moment calls) (a new : Option (List ℕ)) (r : Refusal)
      (x y z : ℕ) → done ++ (ss ++ rest) ≡ all → x ≤ y → ToldTo done a m → StopsBy calls (HasRisen y z) r ss m new
      → Stopped all a new r x z
  each_stops done [] rest all m a new r x y z is more t h = absurd h
  each_stops done (s ∷ ss) rest all m a new r x y z is more t (inl h) = (
    stops_at calls handed done (ss ++ rest) all s m.world m.tables m.left a m.written new is t h.0,
    caused calls handed done (ss ++ rest) all s r m.world m.tables m.left a m.written x y z is t more h.1,
  )
  each_stops done (s ∷ ss) rest all m a new r x y z is more t (inr h) =
      each_stops (done ++ s ∷ []) ss rest all h.0 a new r x y z (append_assoc done (s ∷ []) (ss ++ rest) ∙ is) more
      (told_one calls handed done s m.world h.0.world m.tables h.0.tables m.left h.0.left a m.written h.0.written t h.1)
      h.2

  pub all_stop : (ss : List ToyStep) (m : Moment calls) (a new : Option (List ℕ)) (r : Refusal) (x z : ℕ)
      → ToldTo [] a m → StopsBy calls (HasRisen x z) r ss m new → Stopped ss a new r x z
  all_stop ss m a new r x z t h = each_stops [] ss [] ss m a new r x x z (append-nil ss) (omega arith) t h

  -- ---- the lines of a script

  -- those before this one were read, and what their steps were told as was written
  pub record LinesTold (ls : List (List ℕ)) (i place : ℕ) (a : Option (List ℕ)) (now : Moment calls) : Type 0 where
    pub done : List ToyStep
    pub read : steps_from 1 ls ≡ behind done (steps_from (i + 1) (drop i ls))
    pub told : ToldTo (numbered 0 done) a now
    pub place_is : place ≡ count_by is_hook done
    pub few : place ≤ i

  pub no_lines : (ls : List (List ℕ)) (a : Option (List ℕ)) (now : Moment calls) → ToldTo [] a now
      → LinesTold ls 0 0 a now
  no_lines ls a now t = record {
    done = [];
    read = first_lines [] ls ls refl refl;
    told = t;
    place_is = refl;
    few = omega arith;
  }

  -- their places go on from those before
  places_on : (ls : List (List ℕ)) (i place : ℕ) (a : Option (List ℕ)) (now : Moment calls) (us ps : List ToyStep)
      (k : LinesTold ls i place a now) → ps ≡ numbered place us
      → numbered 0 k.done ++ ps ≡ numbered 0 (k.done ++ us)
  places_on ls i place a now us ps k is =
      ap (λ (l : List ToyStep). numbered 0 k.done ++ l) (is ∙ ap (λ n. numbered n us) k.place_is)
      ∙ sym (numbered_all k.done us)

  pub line_told : (ls : List (List ℕ)) (i place next : ℕ) (a : Option (List ℕ)) (now then : Moment calls) (l : List ℕ)
      (us ps : List ToyStep) → LinesTold ls i place a now → i < length ls → l ≡ get_or ls i [] → line_at l ≡ Some us
      → ps ≡ numbered place us → next ≡ place + count_by is_hook us → EachTold calls ps now then
      → LinesTold ls (i + 1) next a then
  line_told ls i place next a now then l us ps k within is good placed next_is each = record {
    done = k.done ++ us;
    read = after_line (steps_from 1 ls) k.done (k.done ++ us) ls i l (Some us) k.read within is good refl;
    told = subst (λ (x : List ToyStep). ToldTo x a then) (places_on ls i place a now us ps k placed)
        (told_each (numbered 0 k.done) ps now then a k.told each);
    place_is = omega (arith, next_is, k.place_is, count-append k.done us);
    few = omega (arith, next_is, k.few, few_hooks l us good);
  }

  -- one of them stops at a step
  pub line_stops : (ls : List (List ℕ)) (i place : ℕ) (a : Option (List ℕ)) (now : Moment calls) (l : List ℕ)
      (us ps : List ToyStep) (new : Option (List ℕ)) (r : Refusal) (x y z : ℕ) → LinesTold ls i place a now
      → i < length ls → l ≡ get_or ls i [] → line_at l ≡ Some us → ps ≡ numbered place us → x ≤ y
      → StopsBy calls (HasRisen y z) r ps now new → (steps : List ToyStep) → steps_from 1 ls ≡ Ok steps
      → Stopped (numbered 0 steps) a new r x z
  line_stops ls i place a now l us ps new r x y z k within is good placed more stops steps ok =
      let left =
      left_to_read (steps_from 1 ls) (k.done ++ us) ls (i + 1)
      (after_line (steps_from 1 ls) k.done (k.done ++ us) ls i l (Some us) k.read within is good refl) steps ok in
      let rest = numbered (count_by is_hook (k.done ++ us)) left.0 in
      each_stops (numbered 0 k.done) ps rest (numbered 0 steps) now a new r x y z
      (sym (append_assoc (numbered 0 k.done) ps rest)
      ∙ ap (λ (l : List ToyStep). l ++ rest) (places_on ls i place a now us ps k placed)
      ∙ sym (numbered_all (k.done ++ us) left.0) ∙ ap (λ (l : List ToyStep). numbered 0 l) (sym left.1))
      more k.told stops

  -- it can't be read
  pub lines_stop : (ls : List (List ℕ)) (i place : ℕ) (a : Option (List ℕ)) (now : Moment calls)
      → LinesTold ls i place a now → (steps : List ToyStep) → steps_from 1 ls ≡ Ok steps
      → ReportsPartly calls handed (numbered 0 steps) a now.written
  lines_stop ls i place a now k steps ok =
      let left = left_to_read (steps_from 1 ls) k.done ls i k.read steps ok in
      stops_here calls handed (numbered 0 k.done) (numbered (count_by is_hook k.done) left.0) (numbered 0 steps)
      now.world now.tables now.left a now.written
      (sym (numbered_all k.done left.0) ∙ ap (λ (l : List ToyStep). numbered 0 l) (sym left.1)) k.told

  pub none_is_bad : (ls : List (List ℕ)) (i place : ℕ) (a : Option (List ℕ)) (now : Moment calls) (l : List ℕ)
      → LinesTold ls i place a now → i < length ls → l ≡ get_or ls i [] → line_at l ≡ None → (steps : List ToyStep)
      → steps_from 1 ls ≡ Ok steps → ⊥
  none_is_bad ls i place a now l k within is bad steps ok =
      let e = at_bad (steps_from 1 ls) k.done ls i l None k.read within is bad refl in absurd (cc)

  pub line_refused : (ls : List (List ℕ)) (i place : ℕ) (a : Option (List ℕ)) (now : Moment calls) (l : List ℕ)
      (e : Refusal) (X : Type 0) → LinesTold ls i place a now → i < length ls → l ≡ get_or ls i []
      → ((e ≡ refusal.Memory) ⊎ ((e ≡ refusal.BadScript (i + 1)) × (line_at l ≡ None))) → (steps : List ToyStep)
      → steps_from 1 ls ≡ Ok steps → StepsFail (length handed) (numbered 0 steps) e ⊎ X
  line_refused ls i place a now l e X k within is (inl memory) steps ok = inl (inl memory)
  line_refused ls i place a now l e X k within is (inr p) steps ok =
      absurd (none_is_bad ls i place a now l k within is p.1 steps ok)

  -- none is left
  pub lines_end : (ls : List (List ℕ)) (i place : ℕ) (a : Option (List ℕ)) (now : Moment calls)
      → LinesTold ls i place a now → length ls ≤ i → (steps : List ToyStep) → steps_from 1 ls ≡ Ok steps
      → StepsTold calls handed (numbered 0 steps) now.world now.tables now.left a now.written
  lines_end ls i place a now k all steps ok =
      let same : k.done ≡ steps = let whole = at_end (steps_from 1 ls) k.done ls i k.read all in cc in
      told_all calls handed (numbered 0 k.done) (numbered 0 steps) now.world now.tables now.left a now.written
      (ap (λ (l : List ToyStep). numbered 0 l) same) k.told

-- ---- the script

-- the first bad line
pub refused_at : (ls : List (List ℕ)) (done : List ToyStep) (i : ℕ) (l : List ℕ) (e : Refusal)
    → steps_from 1 ls ≡ behind done (steps_from (i + 1) (drop i ls)) → i < length ls → l ≡ get_or ls i []
    → ((e ≡ refusal.Memory) ⊎ ((e ≡ refusal.BadScript (i + 1)) × (line_at l ≡ None)))
    → (e ≡ refusal.Memory) ⊎ ((line : ℕ) × (e ≡ refusal.BadScript line) × (steps_from 1 ls ≡ Err line))
refused_at ls done i l e reads within is (inl memory) = inl memory
refused_at ls done i l e reads within is (inr p) =
    inr (i + 1, p.0, at_bad (steps_from 1 ls) done ls i l None reads within is p.1 refl)

pub script_read : (text : List ℕ) (ls : List (List ℕ)) (steps : List ToyStep) → ls ≡ lines text
    → steps_from 1 ls ≡ Ok steps → script_at text ≡ Ok (numbered 0 steps)
script_read text ls steps is ok =
    ap (λ (l : List (List ℕ)). with_places (steps_from 1 l)) (sym is) ∙ ap with_places ok

pub script_bad : (text : List ℕ) (ls : List (List ℕ)) (n : ℕ) → ls ≡ lines text → steps_from 1 ls ≡ Err n
    → script_at text ≡ Err n
script_bad text ls n is bad =
    ap (λ (l : List (List ℕ)). with_places (steps_from 1 l)) (sym is) ∙ ap with_places bad

pub script_refused : (text : List ℕ) (ls : List (List ℕ)) (e : Refusal) (Same X : Type 0) → ls ≡ lines text → Same
    → ((e ≡ refusal.Memory) ⊎ ((line : ℕ) × (e ≡ refusal.BadScript line) × (steps_from 1 ls ≡ Err line)))
    → (e ≡ refusal.Memory) ⊎ ((line : ℕ) × (e ≡ refusal.BadScript line) × (script_at text ≡ Err line) × Same) ⊎ X
script_refused text ls e Same X is same (inl memory) = inl memory
script_refused text ls e Same X is same (inr p) = inr (inl (p.0, p.1, script_bad text ls p.0 is p.2, same))

-- no step of a script fails by 70
pub run_refused : NeverDamaged → (n : ℕ) (text : List ℕ) (ls : List (List ℕ)) (steps : List ToyStep) (e : Refusal)
    (X Y : Type 0) → ((t : List ℕ) (ss : List ToyStep) → script_at t ≡ Ok ss → AreAsWide ss) → ls ≡ lines text
    → steps_from 1 ls ≡ Ok steps → (StepsFail n (numbered 0 steps) e ⊎ ((e ≡ refusal.Io) × X))
    → (e ≡ refusal.Memory) ⊎ Y ⊎ ((e ≡ refusal.Io) × X)
run_refused law n text ls steps e X Y wide is ok cause =
    let read : script_at text ≡ Ok (numbered 0 steps) = script_read text ls steps is ok in
    so (by_memory_or_io n (numbered 0 steps) e X cause
    (not_damaged law n (numbered 0 steps) (wide text (numbered 0 steps) read) e X
    cause))
  where
    so : (e ≡ refusal.Memory) ⊎ ((e ≡ refusal.Io) × X) → (e ≡ refusal.Memory) ⊎ Y ⊎ ((e ≡ refusal.Io) × X)
    so (inl memory) = inl memory
    so (inr io) = inr (inr io)

module _ {H : Type 0} (calls : H → ChannelEvent → Verdict → H → Type 0) (handed : List H) where
  pub script_told : (text : List ℕ) (ls : List (List ℕ)) (steps : List ToyStep) (w : World ToyKeys)
      (ts : List (Tables calls)) (left : List (Option H)) (a b c : Option (List ℕ)) → ls ≡ lines text
      → steps_from 1 ls ≡ Ok steps → StepsTold calls handed (numbered 0 steps) w ts left a b
      → Appends b c (ends_text w.dispatchers.channels) → ReportsScript calls handed (script_at text) a c
  script_told text ls steps w ts left a b c is ok told more =
      script_reports calls handed (script_at text) (numbered 0 steps) a c (script_read text ls steps is ok)
      (reports calls handed (numbered 0 steps) w ts left a b c told more)

  pub script_ends : (text : List ℕ) (ls : List (List ℕ)) (steps : List ToyStep) (w : World ToyKeys)
      (ts : List (Tables calls)) (left : List (Option H)) (a b c : Option (List ℕ)) → ls ≡ lines text
      → steps_from 1 ls ≡ Ok steps → StepsTold calls handed (numbered 0 steps) w ts left a b
      → IsPartlyWritten b c (ends_text w.dispatchers.channels) → ReportsScriptPartly calls handed (script_at text) a c
  script_ends text ls steps w ts left a b c is ok told part =
      script_partly calls handed (script_at text) (numbered 0 steps) a c (script_read text ls steps is ok)
      (reports_partly calls handed (numbered 0 steps) w ts left a b c told part)

  pub script_stops : (text : List ℕ) (ls : List (List ℕ)) (steps : List ToyStep) (a b : Option (List ℕ))
      → ls ≡ lines text → steps_from 1 ls ≡ Ok steps → ReportsPartly calls handed (numbered 0 steps) a b
      → ReportsScriptPartly calls handed (script_at text) a b
  script_stops text ls steps a b is ok part =
      script_partly calls handed (script_at text) (numbered 0 steps) a b (script_read text ls steps is ok) part
