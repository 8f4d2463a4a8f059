-- Steps of worlds that hold nodes whose hooks are called: step by step each hook stands at the end of its chain, and
-- what happened so far is told by its answers so far. For nodes alone, and for crates above whose worlds hold them.
use Rattle.std.proofs.Common.{◌≡◌, ◌⊎◌, ℕ, zero, suc, ◌<◌, List, [], ◌∷◌, ◌++◌, length, map, refl, sym, ap, ◌∙◌, subst}
use Rattle.std.proofs.Common.{arith, append_assoc, append-nil, Option, Some, inl, inr}
use Rattle.ln_refusals.specs.declared.refusal.Refusal.{Refusal}
use Rattle.ln_hooks.specs.declared.event.ChannelEvent.{ChannelEvent}
use Rattle.ln_hooks.specs.declared.verdict.Verdict.{Verdict}
use Rattle.ln_hooks.specs.declared.verdict.Verdict.TheVariants.{Continue}
use Rattle.ln_world_channels.specs.declared.line.Line.{Line}
use Rattle.ln_world_dispatch.specs.World.{World, empty, item}
use Rattle.ln_world_dispatch.specs.Slots.{Answers, Tables, Stand, Moved, IsLeft, Agree}
use Rattle.ln_world_dispatch.proofs.Restarting.{as_many_tables}

-- of those that were handed in none was registered
pub left_handed : {H : Type 0} (calls : H → ChannelEvent → Verdict → H → Type 0) (hs : List H)
    → IsLeft calls hs [] (map Some hs)
left_handed calls hs = record {
  own = λ i h is. own_of hs i h is;
  there = λ i lt free. there_of hs i lt;
}
  where
    own_of : {H : Type 0} (hs : List H) (i : ℕ) (h : H) → item i (map Some hs) ≡ Some (Some h) → item i hs ≡ Some h
    own_of [] i h is = absurd (cc)
    own_of (x ∷ xs) zero h is = cc
    own_of (x ∷ xs) (suc i) h is = own_of xs i h is

    there_of : {H : Type 0} (hs : List H) (i : ℕ) → i < length hs → (h : H) × (item i (map Some hs) ≡ Some (Some h))
    there_of [] i lt = absurd (omega (arith, lt))
    there_of (x ∷ xs) zero lt = (x, refl)
    there_of (x ∷ xs) (suc i) lt = there_of xs i (omega (arith, lt))

-- which nodes a world holds, what a step makes of it and what is told of that, where the hooks say so of an event that
-- is dispatched in it, and what they say by their answers
module _ {K W S : Type 0} (nodes : W → World K) (happens : Verdict → S → W → W)
    (lines_in : Verdict → S → W → List Line) (says : Answers → S → W → Verdict) where
  -- ---- where steps lead by these answers, what is told of them, and whether one of them may fail

  abbrev pub led : Answers → List S → W → W
  led b [] w = w
  led b (s ∷ ss) w = led b ss (happens (says b s w) s w)

  abbrev pub said_in : Answers → List S → W → List Line
  said_in b [] w = []
  said_in b (s ∷ ss) w = lines_in (says b s w) s w ++ said_in b ss (happens (says b s w) s w)

  abbrev pub SomeFails : (S → Refusal → W → Type 0) → Answers → List S → Refusal → W → Type 0
  SomeFails fails b [] r w = ⊥
  SomeFails fails b (s ∷ ss) r w = fails s r w ⊎ SomeFails fails b ss r (happens (says b s w) s w)

  led_more : (b : Answers) (ss ts : List S) (w : W) → led b (ss ++ ts) w ≡ led b ts (led b ss w)
  led_more b [] ts w = refl
  led_more b (s ∷ ss) ts w = led_more b ss ts (happens (says b s w) s w)

  said_more : (b : Answers) (ss ts : List S) (w : W)
      → said_in b (ss ++ ts) w ≡ said_in b ss w ++ said_in b ts (led b ss w)
  said_more b [] ts w = refl
  said_more b (s ∷ ss) ts w =
      let v = says b s w in
      ap (λ l. lines_in v s w ++ l) (said_more b ss ts (happens v s w))
      ∙ sym (append_assoc (lines_in v s w) (said_in b ss (happens v s w)) (said_in b ts (led b ss (happens v s w))))

  some_fails : (fails : S → Refusal → W → Type 0) (b : Answers) (ss rest : List S) (s : S) (r : Refusal) (w : W)
      → fails s r (led b ss w) → SomeFails fails b (ss ++ s ∷ rest) r w
  some_fails fails b [] rest s r w may = inl may
  some_fails fails b (x ∷ ss) rest s r w may = inr (some_fails fails b ss rest s r (happens (says b x w) x w) may)

  module _ {H : Type 0} (calls : H → ChannelEvent → Verdict → H → Type 0) (handed : List H) where
    -- what a step makes of a world and its hooks, where each hook stood at the end of its chain
    pub record Goes (a : Answers) (s : S) (w w' : W) (ts' : List (Tables calls)) (left' : List (Option H))
        (lines lines' : List Line) : Type 0 where
      pub said : Verdict
      pub moved : Moved calls handed a (nodes w).dispatchers (λ b. says b s w) said (nodes w').used
          (nodes w').dispatchers ts' left'
      pub world : w' ≡ happens said s w
      pub told : lines' ≡ lines ++ lines_in said s w

    abbrev pub GoesOn : S → W → List (Tables calls) → List (Option H) → W → List (Tables calls) → List (Option H)
        → List Line → List Line → Type 0
    GoesOn s w ts left w' ts' left' lines lines' =
        (a : Answers) → length handed ≡ (nodes w).hooks
        → Stand calls handed a (nodes w).used (nodes w).dispatchers ts left → Goes a s w w' ts' left' lines lines'

    -- so far, from this world on
    pub record Ran (start : W) (ss : List S) (w : W) (ts : List (Tables calls)) (left : List (Option H))
        (lines lines' : List Line) : Type 0 where
      pub answers : Answers
      pub stand : Stand calls handed answers (nodes w).used (nodes w).dispatchers ts left
      pub count : length handed ≡ (nodes w).hooks
      pub so : (b : Answers) → Agree answers b (nodes w).dispatchers
          → (led b ss start ≡ w) × (lines ++ said_in b ss start ≡ lines')

    -- no step changes how many hooks were handed in
    pub ran_one : ((v : Verdict) (s : S) (w : W) → (nodes (happens v s w)).hooks ≡ (nodes w).hooks) → (start : W)
        (ss : List S) (s : S) (w w' : W) (ts ts' : List (Tables calls)) (left left' : List (Option H))
        (lines lines' lines'' : List Line) → Ran start ss w ts left lines lines'
        → GoesOn s w ts left w' ts' left' lines' lines'' → Ran start (ss ++ s ∷ []) w' ts' left' lines lines''
    ran_one same start ss s w w' ts ts' left left' lines lines' lines'' ran steps =
        let m = steps ran.answers ran.count ran.stand in
        record {
          answers = m.moved.more;
          stand = m.moved.stand;
          count = ran.count ∙ sym (ap (λ (x : W). (nodes x).hooks) m.world ∙ same m.said s w);
          so = λ b agree.
              let old = m.moved.told b agree in
              let before = ran.so b old.0 in
              let here : happens (says b s w) s w ≡ w' = ap (λ v. happens v s w) old.1 ∙ sym m.world in
              let last : said_in b (s ∷ []) w ≡ lines_in m.said s w =
              append-nil (lines_in (says b s w) s w) ∙ ap (λ v. lines_in v s w) old.1 in (
                led_more b ss (s ∷ []) start ∙ ap (λ x. led b (s ∷ []) x) before.0 ∙ here,
                ap (λ l. lines ++ l) (said_more b ss (s ∷ []) start)
                    ∙ ap (λ x. lines ++ (said_in b ss start ++ said_in b (s ∷ []) x)) before.0
                    ∙ ap (λ l. lines ++ (said_in b ss start ++ l)) last
                    ∙ sym (append_assoc lines (said_in b ss start) (lines_in m.said s w))
                    ∙ ap (λ l. l ++ lines_in m.said s w) before.1 ∙ sym m.told,
              );
        }

    -- none yet
    pub ran_none : (start : W) (lines : List Line) → nodes start ≡ empty (length handed)
        → Ran start [] start [] (map Some handed) lines lines
    ran_none start lines is = record {
      answers = λ i j. Continue;
      stand = subst (λ (x : World K). Stand calls handed (λ i j. Continue) x.used x.dispatchers []
          (map Some handed)) (sym is)
          (record { once = λ i. omega arith; slotted = tt; offered = left_handed calls handed });
      count = sym (ap (λ (x : World K). x.hooks) is);
      so = λ b agree. (refl, append-nil lines);
    }

    pub ran_none_so : (start w : W) (ts : List (Tables calls)) (left : List (Option H)) (lines : List Line)
        → nodes start ≡ empty (length handed) → w ≡ start → ts ≡ [] → left ≡ map Some handed
        → Ran start [] w ts left lines lines
    ran_none_so start w ts left lines at is none all =
        subst (λ x. Ran start [] x ts left lines lines) (sym is)
        (subst (λ us. Ran start [] start us left lines lines) (sym none)
        (subst (λ l. Ran start [] start [] l lines lines) (sym all) (ran_none start lines at)))

    -- where they led, and what was told
    pub ran_to : (start : W) (ss : List S) (w : W) (ts : List (Tables calls)) (left : List (Option H))
        (lines lines' : List Line) (ran : Ran start ss w ts left lines lines')
        → (w ≡ led ran.answers ss start) × (lines' ≡ lines ++ said_in ran.answers ss start)
    ran_to start ss w ts left lines lines' ran =
        let so = ran.so ran.answers (λ i j lt. refl) in (sym so.0, sym so.1)

    -- where the next one fails
    pub may_fail : (fails : S → Refusal → W → Type 0) (start : W) (ss rest : List S) (s : S) (r : Refusal) (w : W)
        (ts : List (Tables calls)) (left : List (Option H)) (lines lines' : List Line)
        (ran : Ran start ss w ts left lines lines') → fails s r w
        → SomeFails fails ran.answers (ss ++ s ∷ rest) r start
    may_fail fails start ss rest s r w ts left lines lines' ran may =
        let so = ran.so ran.answers (λ i j lt. refl) in
        some_fails fails ran.answers ss rest s r start (subst (λ x. fails s r x) (sym so.0) may)

    -- each dispatcher has its tables
    pub ran_many : (start : W) (ss : List S) (w : W) (ts : List (Tables calls)) (left : List (Option H))
        (lines lines' : List Line) → Ran start ss w ts left lines lines' → length ts ≡ length (nodes w).dispatchers
    ran_many start ss w ts left lines lines' ran =
        as_many_tables calls handed ran.answers (nodes w).dispatchers ts ran.stand.slotted
