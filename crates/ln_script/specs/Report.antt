-- The text of a report: what was told of each step, and then how the ends of each channel stand.
use Rattle.std.specs.Prelude.{◌≡◌, ◌⊎◌, ℕ, List, [], ◌++◌, length, map, codes, Option, Result, Ok, Err}
use Rattle.std.specs.List.{flat_map}
use Rattle.std.specs.Io.KnownBytes.{Appends}
use Rattle.ln_refusals.specs.declared.refusal.Refusal.{Refusal}
use Rattle.ln_refusals.specs.declared.refusal.Refusal.TheVariants as refusal
use Rattle.ln_msgs.specs.Pings.Written.{IsPartlyWritten}
use Rattle.ln_keys.specs.declared.toy_keys.ToyKeys.{ToyKeys}
use Rattle.ln_hooks.specs.declared.event.ChannelEvent.{ChannelEvent}
use Rattle.ln_hooks.specs.declared.verdict.Verdict.{Verdict}
use Rattle.ln_hooks.specs.declared.verdict.Verdict.TheVariants.{Continue}
use Rattle.ln_world_channels.specs.declared.line.EndLine.{EndLine}
use Rattle.ln_world_channels.specs.declared.line.Line.{Line}
use Rattle.ln_world_channels.specs.World.{World as Channels, end_lines}
use Rattle.ln_world_dispatch.specs.Slots.{Answers, Tables, Stand}
use Rattle.ln_world.specs.World.{World, empty, run, run_lines, MayFail, SomeMayFail}
use Rattle.ln_world.specs.Hooked.{answered, Steps, HasRun}
use Rattle.ln_script.specs.Keys.{toy}
use Rattle.ln_script.specs.Step.{ToyStep}
use Rattle.ln_script.specs.Script.{script_at}
use Rattle.ln_script.specs.LineText.{line_text, end_line_text}

-- a line, and a line feed
abbrev pub shown_line : Line → List ℕ
shown_line l = line_text l ++ codes "\n"

abbrev pub shown_end : EndLine → List ℕ
shown_end l = end_line_text l ++ codes "\n"

abbrev pub lines_text : List Line → List ℕ
lines_text ls = flat_map shown_line ls

-- how the ends stand
abbrev pub ends_text : Channels ToyKeys → List ℕ
ends_text w = flat_map shown_end (end_lines w)

-- steps, each with what the hooks say in it
abbrev pub Said : Type 0
Said = List (ToyStep × Verdict)

-- what is told of steps, from this world on, and how the ends stand after them
abbrev pub report_from : Said → World ToyKeys → List ℕ
report_from ss w = lines_text (run_lines toy ss w) ++ ends_text (run toy ss w).dispatchers.channels

-- from nothing on, so many hooks being handed in
abbrev pub report_text : ℕ → Said → List ℕ
report_text hooks ss = report_from ss (empty hooks)

-- where nothing is said against an event
abbrev pub unhooked : List ToyStep → Said
unhooked ss = map (λ s. (s, Continue)) ss

-- steps by these answers of so many hooks
abbrev pub said_by : Answers → ℕ → List ToyStep → Said
said_by a hooks ss = answered toy a ss (empty hooks)

abbrev pub left_by : Answers → ℕ → List ToyStep → World ToyKeys
left_by a hooks ss = run toy (said_by a hooks ss) (empty hooks)

-- ---- what a step was told as, where each hook is called on what its dispatcher serves

module _ {H : Type 0} (calls : H → ChannelEvent → Verdict → H → Type 0) where
  -- what the world was told to do, and all that was written of it
  pub record StepTold (s : ToyStep) (w : World ToyKeys) (ts : List (Tables calls)) (left : List (Option H))
      (w' : World ToyKeys) (ts' : List (Tables calls)) (left' : List (Option H)) (old new : Option (List ℕ)) : Type 0
    where
      pub lines : List Line
      pub steps : Steps toy calls s w ts left w' ts' left' [] lines
      pub written : Appends old new (lines_text lines)

  -- a beginning, where it was taken
  pub record StepPartly (s : ToyStep) (w : World ToyKeys) (ts : List (Tables calls)) (left : List (Option H))
      (old new : Option (List ℕ)) : Type 0 where
    pub after : World ToyKeys
    pub tables : List (Tables calls)
    pub kept : List (Option H)
    pub lines : List Line
    pub steps : Steps toy calls s w ts left after tables kept [] lines
    pub written : IsPartlyWritten old new (lines_text lines)

  -- or nothing
  abbrev pub StepPartlyTold : ToyStep → World ToyKeys → List (Tables calls) → List (Option H) → Option (List ℕ)
      → Option (List ℕ) → Type 0
  StepPartlyTold s w ts left old new = (new ≡ old) ⊎ StepPartly s w ts left old new

  -- ---- what steps were told as, from nothing on

  -- the world after them, and all that was written of them
  pub record StepsTold (handed : List H) (ss : List ToyStep) (w : World ToyKeys) (ts : List (Tables calls))
      (left : List (Option H)) (old new : Option (List ℕ)) : Type 0 where
    pub lines : List Line
    pub has_run : HasRun toy calls handed ss w ts left [] lines
    pub written : Appends old new (lines_text lines)

  -- the report by some answers of the hooks that were handed in, each of which stands at the end of its chain
  pub record Reports (handed : List H) (ss : List ToyStep) (old new : Option (List ℕ)) : Type 0 where
    pub answers : Answers
    pub tables : List (Tables calls)
    pub left : List (Option H)
    pub stand : Stand calls handed answers (left_by answers (length handed) ss).dispatchers.used
        (left_by answers (length handed) ss).dispatchers.dispatchers tables left
    pub written : Appends old new (report_text (length handed) (said_by answers (length handed) ss))

  -- a beginning of it, where each hook stands so after the first of the steps
  pub record ReportsPartly (handed : List H) (ss : List ToyStep) (old new : Option (List ℕ)) : Type 0 where
    pub answers : Answers
    pub done : List ToyStep
    pub rest : List ToyStep
    pub all_are : ss ≡ done ++ rest
    pub tables : List (Tables calls)
    pub left : List (Option H)
    pub stand : Stand calls handed answers (left_by answers (length handed) done).dispatchers.used
        (left_by answers (length handed) done).dispatchers.dispatchers tables left
    pub written : IsPartlyWritten old new (report_text (length handed) (said_by answers (length handed) ss))

  -- ---- of a script

  -- the report of its steps, where it is read
  abbrev pub ReportsScript : List H → Result (List ToyStep) ℕ → Option (List ℕ) → Option (List ℕ) → Type 0
  ReportsScript handed (Ok ss) old new = Reports handed ss old new
  ReportsScript handed (Err n) old new = ⊥

  -- a beginning of it, or nothing where a line is bad
  abbrev pub ReportsScriptPartly : List H → Result (List ToyStep) ℕ → Option (List ℕ) → Option (List ℕ) → Type 0
  ReportsScriptPartly handed (Ok ss) old new = ReportsPartly handed ss old new
  ReportsScriptPartly handed (Err n) old new = new ≡ old

-- ---- by what telling steps may fail

-- for want of memory (60), and where an end acts by one that has no record then (70)
abbrev pub StepFails : ToyStep → Refusal → World ToyKeys → Type 0
StepFails s r w = (r ≡ refusal.Memory) ⊎ ((r ≡ refusal.Damaged) × MayFail toy s refusal.Damaged w)

-- by some answers of so many hooks an end that acts in one of the steps has no record then
abbrev pub SomeLacks : ℕ → List ToyStep → Type 0
SomeLacks hooks ss = (a : Answers) × SomeMayFail toy (said_by a hooks ss) refusal.Damaged (empty hooks)

abbrev pub StepsFail : ℕ → List ToyStep → Refusal → Type 0
StepsFail hooks ss r = (r ≡ refusal.Memory) ⊎ ((r ≡ refusal.Damaged) × SomeLacks hooks ss)

-- ---- the world that a script leaves

-- it holds of the world that the steps of each script that is read make of the empty one, by whatever so many hooks
-- answer
abbrev pub AfterEachScript : (World ToyKeys → Type 0) → Type 0
AfterEachScript P = (text : List ℕ) (steps : List ToyStep) (a : Answers) (hooks : ℕ) → script_at text ≡ Ok steps
    → P (left_by a hooks steps)
