-- Steps that are told one after the other, from a world on: what they were told as, and where that stops.
use Rattle.std.specs.Prelude.{◌≡◌, ◌⊎◌, ℕ, List, [], ◌∷◌, length, Option}
use Rattle.ln_refusals.specs.declared.refusal.Refusal.{Refusal}
use Rattle.ln_refusals.specs.declared.refusal.Refusal.TheVariants as refusal
use Rattle.ln_keys.specs.declared.toy_keys.ToyKeys.{ToyKeys}
use Rattle.ln_hooks.specs.declared.event.ChannelEvent.{ChannelEvent}
use Rattle.ln_hooks.specs.declared.verdict.Verdict.{Verdict}
use Rattle.ln_world_dispatch.specs.Slots.{Answers, Tables, Stand}
use Rattle.ln_world.specs.World.{World}
use Rattle.ln_script.specs.Step.{ToyStep}
use Rattle.ln_script.specs.Report.{StepTold, StepPartlyTold, StepFails}

module _ {H : Type 0} (calls : H → ChannelEvent → Verdict → H → Type 0) where
  -- a world and its hooks, and what was written by then
  pub record Moment : Type 0 where
    pub world : World ToyKeys
    pub tables : List (Tables calls)
    pub left : List (Option H)
    pub written : Option (List ℕ)

  -- each hook stands at the end of its chain, by some answers of those that were handed in
  pub record AllStand (m : Moment) : Type 0 where
    pub handed : List H
    pub answers : Answers
    pub count : length handed ≡ m.world.dispatchers.hooks
    pub stand : Stand calls handed answers m.world.dispatchers.used m.world.dispatchers.dispatchers m.tables m.left

  abbrev pub OneTold : ToyStep → Moment → Moment → Type 0
  OneTold s m n = StepTold calls s m.world m.tables m.left n.world n.tables n.left m.written n.written

  -- each was told, and this is where they led
  abbrev pub EachTold : List ToyStep → Moment → Moment → Type 0
  EachTold [] m n = n ≡ m
  EachTold (s ∷ ss) m n = (next : Moment) × OneTold s m next × EachTold ss next n

  -- one of them was not told, or a beginning of it, by this refusal; each before it was
  abbrev pub StopsBy : Type 0 → Refusal → List ToyStep → Moment → Option (List ℕ) → Type 0
  StopsBy failed r [] m new = ⊥
  StopsBy failed r (s ∷ ss) m new =
      (StepPartlyTold calls s m.world m.tables m.left m.written new
      × (StepFails s r m.world ⊎ ((r ≡ refusal.Io) × failed)))
      ⊎ ((next : Moment) × OneTold s m next × StopsBy failed r ss next new)
