-- What nodes and their hooks have come to, step by step.
use Rattle.std.proofs.Common.{◌≡◌, ℕ, List, [], ◌∷◌, ◌++◌, length, refl, sym, ap, ◌∙◌, subst, arith}
use Rattle.std.proofs.Common.{append_assoc, append-nil, Option, Some, suc, map, inl, inr}
use Rattle.ln_refusals.specs.declared.refusal.Refusal.{Refusal}
use Rattle.ln_keys.specs.declared.keys.ChannelKeys.{Ghosts}
use Rattle.ln_hooks.specs.declared.event.ChannelEvent.{ChannelEvent}
use Rattle.ln_hooks.specs.declared.verdict.Verdict.{Verdict}
use Rattle.ln_world_channels.specs.declared.line.Line.{Line}
use Rattle.ln_world_dispatch.specs.declared.step.Step.{Step}
use Rattle.ln_world_dispatch.specs.World.{World, empty, happens, run, step_lines, run_lines, MayFail, SomeMayFail}
use Rattle.ln_world_dispatch.specs.Slots.{Answers, Tables}
use Rattle.ln_world_dispatch.specs.Hooked.{verdict_in, answered, Steps, HasRun, RunMayFail}
use Rattle.ln_world_dispatch.proofs.Going as going
use Rattle.ln_world_dispatch.proofs.Dispatchers.{calls_follow}

module _ {K : Type 0} (k : Ghosts K) where
  abbrev itself : World K → World K
  itself w = w

  abbrev says : Answers → Step K k → World K → Verdict
  says a s w = verdict_in a s w

  abbrev led : Answers → List (Step K k) → World K → World K
  led b ss w = going.led itself (happens k) (step_lines k) says b ss w

  abbrev said_in : Answers → List (Step K k) → World K → List Line
  said_in b ss w = going.said_in itself (happens k) (step_lines k) says b ss w

  led_so : (b : Answers) (ss : List (Step K k)) (w : World K) → led b ss w ≡ run k (answered k b ss w) w
  led_so b [] w = refl
  led_so b (s ∷ ss) w = led_so b ss (happens k (verdict_in b s w) s w)

  said_so : (b : Answers) (ss : List (Step K k)) (w : World K) → said_in b ss w ≡ run_lines k (answered k b ss w) w
  said_so b [] w = refl
  said_so b (s ∷ ss) w =
      ap (λ l. step_lines k (verdict_in b s w) s w ++ l) (said_so b ss (happens k (verdict_in b s w) s w))

  fails_so : (b : Answers) (ss : List (Step K k)) (r : Refusal) (w : World K)
      → going.SomeFails itself (happens k) (step_lines k) says (MayFail k) b ss r w
      → SomeMayFail k (answered k b ss w) r w
  fails_so b [] r w h = h
  fails_so b (s ∷ ss) r w (inl h) = inl h
  fails_so b (s ∷ ss) r w (inr h) = inr (fails_so b ss r (happens k (verdict_in b s w) s w) h)

  module _ {H : Type 0} (calls : H → ChannelEvent → Verdict → H → Type 0) (handed : List H) where
    abbrev start : World K
    start = empty (length handed)

    -- so far
    abbrev pub Ran : List (Step K k) → World K → List (Tables calls) → List (Option H) → List Line → List Line
        → Type 0
    Ran ss w ts left lines lines' =
        going.Ran itself (happens k) (step_lines k) says calls handed start ss w ts left lines lines'

    pub ran_one : (ss : List (Step K k)) (s : Step K k) (w w' : World K) (ts ts' : List (Tables calls))
        (left left' : List (Option H)) (lines lines' lines'' : List Line) → Ran ss w ts left lines lines'
        → Steps k calls s w ts left w' ts' left' lines' lines'' → Ran (ss ++ s ∷ []) w' ts' left' lines lines''
    ran_one ss s w w' ts ts' left left' lines lines' lines'' ran steps =
        going.ran_one itself (happens k) (step_lines k) says calls handed (λ v x y. refl) start ss s w w' ts ts' left
        left' lines lines' lines'' ran
        (λ a count stand. let m = steps handed a count stand in record {
          said = m.said;
          moved = m.moved;
          world = m.world;
          told = m.told;
        })

    pub ran_none_so : (w : World K) (ts : List (Tables calls)) (left : List (Option H)) (lines : List Line)
        → w ≡ start → ts ≡ [] → left ≡ map Some handed → Ran [] w ts left lines lines
    ran_none_so w ts left lines is none all =
        going.ran_none_so itself (happens k) (step_lines k) says calls handed start w ts left lines refl is none all

    -- all
    pub has_run : (ss : List (Step K k)) (w : World K) (ts : List (Tables calls)) (left : List (Option H))
        (lines lines' : List Line) → Ran ss w ts left lines lines' → HasRun k calls handed ss w ts left lines lines'
    has_run ss w ts left lines lines' ran =
        let to =
        going.ran_to itself (happens k) (step_lines k) says calls handed start ss w ts left lines lines' ran in
        record {
          answers = ran.answers;
          world = to.0 ∙ led_so ran.answers ss start;
          told = to.1 ∙ ap (λ l. lines ++ l) (said_so ran.answers ss start);
          stand = ran.stand;
          follow = calls_follow k (answered k ran.answers ss start) (length handed);
        }

    pub has_run_all : (done ss : List (Step K k)) → done ≡ ss → (w : World K) (ts : List (Tables calls))
        (left : List (Option H)) (lines lines' : List Line) → Ran done w ts left lines lines'
        → HasRun k calls handed ss w ts left lines lines'
    has_run_all done ss is w ts left lines lines' ran =
        has_run ss w ts left lines lines' (subst (λ l. Ran l w ts left lines lines') is ran)

    -- where one of them fails
    pub may_fail_all : (done rest all : List (Step K k)) (s : Step K k) → done ++ s ∷ rest ≡ all → (r : Refusal)
        (w : World K) (ts : List (Tables calls)) (left : List (Option H)) (lines lines' : List Line)
        → Ran done w ts left lines lines' → MayFail k s r w → RunMayFail k (length handed) all r
    may_fail_all done rest all s is r w ts left lines lines' ran may =
        let some =
        going.may_fail itself (happens k) (step_lines k) says calls handed (MayFail k) start done rest s r w ts left
        lines lines' ran may in
        subst (λ l. RunMayFail k (length handed) l r) is
        (inr (ran.answers, fails_so ran.answers (done ++ s ∷ rest) r start some))

    -- each dispatcher has its tables
    pub ran_many : (ss : List (Step K k)) (w : World K) (ts : List (Tables calls)) (left : List (Option H))
        (lines lines' : List Line) → Ran ss w ts left lines lines' → length ts ≡ length w.dispatchers
    ran_many ss w ts left lines lines' ran =
        going.ran_many itself (happens k) (step_lines k) says calls handed start ss w ts left lines lines' ran

-- one more of those that are left is done
pub one_done : {A : Type 0} (done : List A) (s : A) (rest its all : List A) → done ++ its ≡ all → its ≡ s ∷ rest
    → (done ++ s ∷ []) ++ rest ≡ all
one_done done s rest its all split is =
    append_assoc done (s ∷ []) rest ∙ sym (ap (λ l. done ++ l) is) ∙ split

-- none is left
pub all_done : {A : Type 0} (done its all : List A) → done ++ its ≡ all → its ≡ [] → done ≡ all
all_done done its all split none = sym (append-nil done) ∙ sym (ap (λ l. done ++ l) none) ∙ split

pub as_many : {A B : Type 0} (f : A → B) (xs : List A) (n : ℕ) → length (map f xs) ≡ n → length xs ≡ n
as_many f [] n h = h
as_many f (x ∷ xs) n h = ap suc (as_many f xs (length (map f xs)) refl) ∙ h

pub none_left : {A : Type 0} (xs : List A) → length xs ≡ 0 → xs ≡ []
none_left [] h = refl
none_left (x ∷ xs) h = absurd (omega (arith, h))
