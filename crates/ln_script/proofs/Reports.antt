-- A report bit by bit: what was written of the steps that are done.
use Rattle.std.proofs.Common.{◌≡◌, ℕ, ◌≤◌, List, [], ◌∷◌, ◌++◌, Option, Some, length, map, refl, sym, ap, subst}
use Rattle.std.proofs.Common.{◌∙◌}
use Rattle.std.proofs.Common.{arith, append_assoc, append-nil, inl, inr, ◌⊎◌, Result, Ok, Err, OnOk, OnErr}
use Rattle.std.specs.Io.KnownBytes.{Appends}
use Rattle.std.proofs.KnownBytes.{Appends-trans, Appends-nil}
use Rattle.std.proofs.lemmas.Grind.{flat_map-append}
use Rattle.ln_keys.specs.declared.toy_keys.ToyKeys.{ToyKeys}
use Rattle.ln_msgs.specs.Pings.Counted.{HasRisen}
use Rattle.ln_msgs.specs.Pings.Written.{IsPartlyWritten}
use Rattle.ln_refusals.specs.declared.refusal.Refusal.{Refusal}
use Rattle.ln_refusals.specs.declared.refusal.Refusal.TheVariants as refusal
use Rattle.ln_hooks.specs.declared.event.ChannelEvent.{ChannelEvent}
use Rattle.ln_hooks.specs.declared.verdict.Verdict.{Verdict}
use Rattle.ln_world_channels.specs.declared.line.Line.{Line}
use Rattle.ln_world_dispatch.specs.Slots.{Answers, Tables, Stand}
use Rattle.ln_world_dispatch.specs.World.{World as Dispatchers}
use Rattle.ln_world_dispatch.specs.World as dispatchers
use Rattle.ln_world.specs.declared.node.NodeBook.{NodeBook}
use Rattle.ln_world.specs.World.{World, empty, happens, step_lines, run_lines}
use Rattle.ln_world.specs.Hooked.{answered, verdict_in, Steps, HasRun, RunMayFail}
use Rattle.ln_world.proofs.Running.{Ran, ran_one, ran_none, ran_many, has_run_all, may_fail_all}
use Rattle.ln_script.specs.Keys.{toy}
use Rattle.ln_script.specs.Step.{ToyStep}
use Rattle.ln_script.specs.Report.{shown_line, lines_text, ends_text, report_text, said_by, left_by, StepTold}
use Rattle.ln_script.specs.Report.{StepPartly, StepPartlyTold, StepsTold, Reports, ReportsPartly, StepFails, StepsFail}
use Rattle.ln_script.specs.Report.{ReportsScript, ReportsScriptPartly}

-- all of the first, and a beginning of what follows
pub partly_behind : (a b c : Option (List ℕ)) (x y : List ℕ) → Appends a b x → IsPartlyWritten b c y
    → IsPartlyWritten a c (x ++ y)
partly_behind a b c x y all p = record {
  sent = x ++ p.sent;
  left = p.left;
  bytes_are = ap (λ (l : List ℕ). x ++ l) p.bytes_are ∙ sym (append_assoc x p.sent p.left);
  written = Appends-trans a b c x p.sent all p.written;
}

-- a beginning of the first is one of both
partly_before : (a b : Option (List ℕ)) (x y : List ℕ) → IsPartlyWritten a b x → IsPartlyWritten a b (x ++ y)
partly_before a b x y p = record {
  sent = p.sent;
  left = p.left ++ y;
  bytes_are = ap (λ (l : List ℕ). l ++ y) p.bytes_are ∙ append_assoc p.sent p.left y;
  written = p.written;
}

-- all of it is a beginning of it
whole : (a b : Option (List ℕ)) (x : List ℕ) → Appends a b x → IsPartlyWritten a b x
whole a b x all = record { sent = x; left = []; bytes_are = sym (append-nil x); written = all }

pub nothing : (a : Option (List ℕ)) (x : List ℕ) → IsPartlyWritten a a x
nothing a x = record { sent = []; left = x; bytes_are = refl; written = Appends-nil a }

pub rose_later : (a b c : ℕ) → a ≤ b → HasRisen b c → HasRisen a c
rose_later a b c more rose = omega (arith, more, rose)

-- what is told of the first steps begins what is told of all
abbrev from : Answers → List ToyStep → World ToyKeys → List Line
from a ss w = run_lines toy (answered toy a ss w) w

further : (a : Answers) (done rest : List ToyStep) (w : World ToyKeys)
    → (more : List Line) × (from a (done ++ rest) w ≡ from a done w ++ more)
further a [] rest w = (from a rest w, refl)
further a (s ∷ ss) rest w =
    let v = verdict_in toy a s w in
    let so = further a ss rest (happens toy v s w) in (
      so.0,
      ap (λ (l : List Line). step_lines toy v s w ++ l) so.1
          ∙ sym (append_assoc (step_lines toy v s w) (from a ss (happens toy v s w)) so.0),
    )

begins : (n : ℕ) (a : Answers) (done rest : List ToyStep) (lines : List Line) → lines ≡ from a done (empty n)
    → (more : List ℕ) × (lines_text lines ++ more ≡ report_text n (said_by a n (done ++ rest)))
begins n a done rest lines is =
    let so = further a done rest (empty n) in
    let ends = ends_text (left_by a n (done ++ rest)).dispatchers.channels in (
      lines_text so.0 ++ ends,
      sym (append_assoc (lines_text lines) (lines_text so.0) ends)
          ∙ ap (λ (l : List ℕ). l ++ ends) (sym (flat_map-append shown_line lines so.0)
          ∙ ap (λ (l : List Line). lines_text (l ++ so.0)) is ∙ ap lines_text (sym so.1)),
    )

-- what follows where a result is Ok, and what holds by itself
pub on_ok_so : {T E : Type 0} (r : Result T E) (P Q : Type 0) → (P → Q) → OnOk r P → OnOk r Q
on_ok_so (Ok x) P Q f h = f h
on_ok_so (Err e) P Q f h = tt

pub on_err_so : {T E : Type 0} (r : Result T E) (Q : Type 0) → Q → OnErr r Q
on_err_so (Ok x) Q h = tt
on_err_so (Err e) Q h = h

pub empty_so : (n : ℕ) (w : World ToyKeys) → w.dispatchers ≡ dispatchers.empty n → w.nodes ≡ [] → w ≡ empty n
empty_so n w d none =
    ap (λ (x : Dispatchers ToyKeys). let it : World ToyKeys = record { dispatchers = x; nodes = w.nodes } in it) d
    ∙ ap (λ (x : List NodeBook). let it : World ToyKeys = record {
      dispatchers = dispatchers.empty n;
      nodes =
          x;
    } in it) none

-- ---- a step

module _ {H : Type 0} (calls : H → ChannelEvent → Verdict → H → Type 0) where
  pub all_told : (s : ToyStep) (w : World ToyKeys) (ts : List (Tables calls)) (left : List (Option H))
      (w' : World ToyKeys) (ts' : List (Tables calls)) (left' : List (Option H)) (lines shown : List Line)
      (a b : Option (List ℕ))
      → Steps toy calls s w ts left w' ts' left' [] lines → shown ≡ lines → Appends a b (lines_text shown)
      → StepTold calls s w ts left w' ts' left' a b
  all_told s w ts left w' ts' left' lines shown a b steps is more = record {
    lines = lines;
    steps = steps;
    written = subst (λ (l : List Line). Appends a b (lines_text l)) is more;
  }

  pub part_told : (s : ToyStep) (w : World ToyKeys) (ts : List (Tables calls)) (left : List (Option H))
      (w' : World ToyKeys) (ts' : List (Tables calls)) (left' : List (Option H)) (lines shown : List Line)
      (a b : Option (List ℕ)) → Steps toy calls s w ts left w' ts' left' [] lines → shown ≡ lines
      → IsPartlyWritten a b (lines_text shown) → StepPartly calls s w ts left a b
  part_told s w ts left w' ts' left' lines shown a b steps is more = record {
    after = w';
    tables = ts';
    kept = left';
    lines = lines;
    steps = steps;
    written = subst (λ (l : List Line). IsPartlyWritten a b (lines_text l)) is more;
  }

-- ---- one step after the other

module _ {H : Type 0} (calls : H → ChannelEvent → Verdict → H → Type 0) (handed : List H) where
  -- the steps that are done have led here, and what was told of them was written
  pub record IsTold (done : List ToyStep) (w : World ToyKeys) (ts : List (Tables calls)) (left : List (Option H))
      (old new : Option (List ℕ)) : Type 0 where
    pub lines : List Line
    pub ran : Ran toy calls handed done w ts left [] lines
    pub written : Appends old new (lines_text lines)

  -- none so far
  pub told_none : (w : World ToyKeys) (ts : List (Tables calls)) (left : List (Option H)) (a : Option (List ℕ))
      → w ≡ empty (length handed) → ts ≡ [] → left ≡ map Some handed → IsTold [] w ts left a a
  told_none w ts left a is none all = record {
    lines = [];
    ran = ran_none toy calls handed w ts left [] is none all;
    written = Appends-nil a;
  }

  -- what is told of a step stands after what was told before
  behind : (s : ToyStep) (w w' : World ToyKeys) (ts ts' : List (Tables calls)) (left left' : List (Option H))
      (told lines : List Line) → Steps toy calls s w ts left w' ts' left' [] lines
      → Steps toy calls s w ts left w' ts' left' told (told ++ lines)
  behind s w w' ts ts' left left' told lines steps h a count stand =
      let st = steps h a count stand in
      record {
        said = st.said;
        moved = st.moved;
        world = st.world;
        told = ap (λ (l : List Line). told ++ l) st.told;
      }

  pub told_one : (done : List ToyStep) (s : ToyStep) (w w' : World ToyKeys) (ts ts' : List (Tables calls))
      (left left' : List (Option H)) (a b c : Option (List ℕ)) → IsTold done w ts left a b
      → StepTold calls s w ts left w' ts' left' b c → IsTold (done ++ s ∷ []) w' ts' left' a c
  told_one done s w w' ts ts' left left' a b c t st = record {
    lines = t.lines ++ st.lines;
    ran = ran_one toy calls handed done s w w' ts ts' left left' [] t.lines (t.lines ++ st.lines) t.ran
        (behind s w w' ts ts' left left' t.lines st.lines st.steps);
    written = subst (Appends a c) (sym (flat_map-append shown_line t.lines st.lines))
        (Appends-trans a b c (lines_text t.lines) (lines_text st.lines) t.written st.written);
  }

  pub told_many : (done : List ToyStep) (w : World ToyKeys) (ts : List (Tables calls)) (left : List (Option H))
      (a b : Option (List ℕ)) → IsTold done w ts left a b → length ts ≡ length w.dispatchers.dispatchers
  told_many done w ts left a b t = ran_many toy calls handed done w ts left [] t.lines t.ran

  pub told_all : (done ss : List ToyStep) (w : World ToyKeys) (ts : List (Tables calls)) (left : List (Option H))
      (a b : Option (List ℕ)) → done ≡ ss → IsTold done w ts left a b → StepsTold calls handed ss w ts left a b
  told_all done ss w ts left a b is t = record {
    lines = t.lines;
    has_run = has_run_all toy calls handed done ss is w ts left [] t.lines t.ran;
    written = t.written;
  }

  -- ---- where it stops

  stops : (done rest all : List ToyStep) (w : World ToyKeys) (ts : List (Tables calls)) (left : List (Option H))
      (lines : List Line) (a c : Option (List ℕ)) → done ++ rest ≡ all → HasRun toy calls handed done w ts left [] lines
      → IsPartlyWritten a c (lines_text lines) → ReportsPartly calls handed all a c
  stops done rest all w ts left lines a c is h p =
      let so = begins (length handed) h.answers done rest lines h.told in
      record {
        answers = h.answers;
        done = done;
        rest = rest;
        all_are = sym is;
        tables = ts;
        left = left;
        stand = subst (λ (x : World ToyKeys). Stand calls handed h.answers x.dispatchers.used x.dispatchers.dispatchers
            ts left) h.world
            h.stand;
        written = subst (IsPartlyWritten a c)
            (so.1 ∙ ap (λ (ss : List ToyStep). report_text (length handed) (said_by h.answers (length handed) ss)) is)
            (partly_before a c (lines_text lines) so.0 p);
      }

  -- after the steps that are done
  pub stops_here : (done rest all : List ToyStep) (w : World ToyKeys) (ts : List (Tables calls))
      (left : List (Option H)) (a b : Option (List ℕ)) → done ++ rest ≡ all → IsTold done w ts left a b
      → ReportsPartly calls handed all a b
  stops_here done rest all w ts left a b is t =
      stops done rest all w ts left t.lines a b is
      (has_run_all toy calls handed done done refl w ts left [] t.lines t.ran)
      (whole a b (lines_text t.lines) t.written)

  -- at a step, of which nothing was told or a beginning
  pub stops_at : (done rest all : List ToyStep) (s : ToyStep) (w : World ToyKeys) (ts : List (Tables calls))
      (left : List (Option H)) (a b c : Option (List ℕ)) → done ++ s ∷ rest ≡ all → IsTold done w ts left a b
      → StepPartlyTold calls s w ts left b c → ReportsPartly calls handed all a c
  stops_at done rest all s w ts left a b c is t (inl same) =
      subst (λ (x : Option (List ℕ)). ReportsPartly calls handed all a x) (sym same)
      (stops_here done (s ∷ rest) all w ts left a b is t)
  stops_at done rest all s w ts left a b c is t (inr p) =
      let ran = ran_one toy calls handed done s w p.after ts p.tables left p.kept [] t.lines (t.lines ++ p.lines) t.ran
      (behind s w p.after ts p.tables left p.kept t.lines p.lines p.steps) in
      let now = done ++ s ∷ [] in
      stops now rest all p.after p.tables p.kept (t.lines ++ p.lines) a c (append_assoc done (s ∷ []) rest ∙ is)
      (has_run_all toy calls handed now now refl p.after p.tables p.kept [] (t.lines ++ p.lines) ran)
      (subst (IsPartlyWritten a c) (sym (flat_map-append shown_line t.lines p.lines))
      (partly_behind a b c (lines_text t.lines) (lines_text p.lines) t.written p.written))

  pub fails_at : (done rest all : List ToyStep) (s : ToyStep) (r : Refusal) (w : World ToyKeys)
      (ts : List (Tables calls)) (left : List (Option H)) (a b : Option (List ℕ)) → done ++ s ∷ rest ≡ all
      → IsTold done w ts left a b → StepFails s r w → StepsFail (length handed) all r
  fails_at done rest all s r w ts left a b is t (inl memory) = inl memory
  fails_at done rest all s r w ts left a b is t (inr p) =
      by (may_fail_all toy calls handed done rest all s is refusal.Damaged w ts left [] t.lines t.ran p.1)
    where
      by : RunMayFail toy (length handed) all refusal.Damaged → StepsFail (length handed) all r
      by (inl e) = absurd cc
      by (inr q) = inr (p.0, q)

  -- ---- the report

  text_is : (ss : List ToyStep) (w : World ToyKeys) (ts : List (Tables calls)) (left : List (Option H))
      (lines : List Line) (h : HasRun toy calls handed ss w ts left [] lines)
      → lines_text lines ++ ends_text w.dispatchers.channels
      ≡ report_text (length handed) (said_by h.answers (length handed) ss)
  text_is ss w ts left lines h =
      ap (λ (l : List Line). lines_text l ++ ends_text w.dispatchers.channels) h.told
      ∙ ap (λ (x : World ToyKeys). lines_text (from h.answers ss (empty (length handed)))
      ++ ends_text x.dispatchers.channels)
      h.world

  pub reports : (ss : List ToyStep) (w : World ToyKeys) (ts : List (Tables calls)) (left : List (Option H))
      (a b c : Option (List ℕ)) → StepsTold calls handed ss w ts left a b
      → Appends b c (ends_text w.dispatchers.channels) → Reports calls handed ss a c
  reports ss w ts left a b c t more =
      let h = t.has_run in
      record {
        answers = h.answers;
        tables = ts;
        left = left;
        stand = subst (λ (x : World ToyKeys). Stand calls handed h.answers x.dispatchers.used x.dispatchers.dispatchers
            ts left) h.world
            h.stand;
        written = subst (Appends a c) (text_is ss w ts left t.lines h)
            (Appends-trans a b c (lines_text t.lines) (ends_text w.dispatchers.channels) t.written more);
      }

  pub reports_partly : (ss : List ToyStep) (w : World ToyKeys) (ts : List (Tables calls)) (left : List (Option H))
      (a b c : Option (List ℕ)) → StepsTold calls handed ss w ts left a b
      → IsPartlyWritten b c (ends_text w.dispatchers.channels) → ReportsPartly calls handed ss a c
  reports_partly ss w ts left a b c t p =
      let h = t.has_run in
      record {
        answers = h.answers;
        done = ss;
        rest = [];
        all_are = sym (append-nil ss);
        tables = ts;
        left = left;
        stand = subst (λ (x : World ToyKeys). Stand calls handed h.answers x.dispatchers.used x.dispatchers.dispatchers
            ts left) h.world
            h.stand;
        written = subst (IsPartlyWritten a c) (text_is ss w ts left t.lines h)
            (partly_behind a b c (lines_text t.lines) (ends_text w.dispatchers.channels) t.written p);
      }

  pub nothing_done : (ss : List ToyStep) (a : Option (List ℕ)) → ReportsPartly calls handed ss a a
  nothing_done ss a =
      let start : World ToyKeys = empty (length handed) in
      stops [] ss ss start [] (map Some handed) [] a a refl
      (has_run_all toy calls handed [] [] refl start [] (map Some handed) [] []
      (ran_none toy calls handed start [] (map Some handed) [] refl refl refl))
      (nothing a (lines_text []))

  pub caused : (done rest all : List ToyStep) (s : ToyStep) (r : Refusal) (w : World ToyKeys)
      (ts : List (Tables calls)) (left : List (Option H)) (a b : Option (List ℕ)) (x y z : ℕ) → done ++ s ∷ rest ≡ all
      → IsTold done w ts left a b → x ≤ y → (StepFails s r w ⊎ ((r ≡ refusal.Io) × HasRisen y z))
      → StepsFail (length handed) all r ⊎ ((r ≡ refusal.Io) × HasRisen x z)
  caused done rest all s r w ts left a b x y z is t more (inl f) =
      inl (fails_at done rest all s r w ts left a b is t f)
  caused done rest all s r w ts left a b x y z is t more (inr p) = inr (p.0, rose_later x y z more p.1)

  -- nothing was written
  pub nothing_told : (r : Result (List ToyStep) ℕ) (a : Option (List ℕ)) → ReportsScriptPartly calls handed r a a
  nothing_told (Ok ss) a = nothing_done ss a
  nothing_told (Err n) a = refl

  pub script_partly : (r : Result (List ToyStep) ℕ) (ss : List ToyStep) (a b : Option (List ℕ)) → r ≡ Ok ss
      → ReportsPartly calls handed ss a b → ReportsScriptPartly calls handed r a b
  script_partly r ss a b is h =
      subst (λ (x : Result (List ToyStep) ℕ). ReportsScriptPartly calls handed x a b) (sym is) h

  pub script_reports : (r : Result (List ToyStep) ℕ) (ss : List ToyStep) (a b : Option (List ℕ)) → r ≡ Ok ss
      → Reports calls handed ss a b → ReportsScript calls handed r a b
  script_reports r ss a b is h =
      subst (λ (x : Result (List ToyStep) ℕ). ReportsScript calls handed x a b) (sym is) h
