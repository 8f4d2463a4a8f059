-- A run of a world is a run of dispatchers, by the steps of dispatchers that its steps are. So each law of these is one
-- of worlds.
use Rattle.std.proofs.Common.{◌≡◌, ◌⊎◌, ℕ, List, [], ◌∷◌, refl, sym, ◌∙◌, ap, subst, inl, inr, Option, Some, None}
use Rattle.std.specs.List.{cons_option}
use Rattle.ln_refusals.specs.declared.refusal.Refusal.TheVariants as refusal
use Rattle.ln_keys.specs.declared.keys.ChannelKeys.{Ghosts}
use Rattle.ln_hooks.specs.declared.verdict.Verdict.{Verdict}
use Rattle.ln_world_channels.specs.Both.{Both}
use Rattle.ln_world_channels.specs.declared.step.Step.{Step as ChannelStep}
use Rattle.ln_world_channels.specs.Promises as channel_promise
use Rattle.ln_world_channels.specs.World as channels
use Rattle.ln_world_dispatch.specs.declared.step.Step.{Step as DispatchStep}
use Rattle.ln_world_dispatch.specs.World.{World as Dispatchers}
use Rattle.ln_world_dispatch.specs.World as dispatchers
use Rattle.ln_world_dispatch.specs.Promises as promise
use Rattle.ln_world_dispatch.proofs.Plains as dispatchers_plain
use Rattle.ln_world.specs.declared.step.Step.{Step}
use Rattle.ln_world.specs.World.{World, empty, plain, plains, with_verdict, moved_by, happens, run, MayFailBy}
use Rattle.ln_world.specs.World.{SomeMayFail}
use Rattle.ln_world.specs.Promises.{AreSteps, OfEach, channel_steps}

module _ {K : Type 0} (k : Ghosts K) where
  one_more : (v : Verdict) (o : Option (DispatchStep K k)) (ss : List (DispatchStep K k × Verdict)) (d : Dispatchers K)
      → dispatchers.run k (cons_option (with_verdict v o) ss) d ≡ dispatchers.run k ss (moved_by k v o d)
  one_more v None ss d = refl
  one_more v (Some s) ss d = refl

  pub ran_so : (ss : List (Step K k × Verdict)) (w : World K)
      → (run k ss w).dispatchers ≡ dispatchers.run k (plains k ss w) w.dispatchers
  ran_so [] w = refl
  ran_so (s ∷ ss) w =
      let next = happens k s.1 s.0 w in
      ran_so ss next ∙ sym (one_more s.1 (plain k s.0 w) (plains k ss next) w.dispatchers)

  -- from the empty world
  pub ran : (n : ℕ) (ss : List (Step K k × Verdict))
      → (run k ss (empty n)).dispatchers ≡ dispatchers.run k (plains k ss (empty n)) (dispatchers.empty n)
  ran n ss = ran_so ss (empty n)

  pub ran_channels : (n : ℕ) (ss : List (Step K k × Verdict))
      → (run k ss (empty n)).dispatchers.channels ≡ channels.run k (channel_steps k n ss) channels.empty
  ran_channels n ss =
      ap (λ (d : Dispatchers K). d.channels) (ran n ss) ∙ dispatchers_plain.ran k n (plains k ss (empty n))

  -- what holds of each channel after a run of channels holds after the run of the world
  pub of_each : (P : Both K → Type 0)
      → ((ss : List (ChannelStep K k)) → channel_promise.OfEach P (channels.run k ss channels.empty))
      → (ss : List (Step K k × Verdict)) (n : ℕ) → OfEach P (run k ss (empty n))
  of_each P law ss n =
      subst (λ (d : Dispatchers K). promise.OfEach P d) (sym (ran n ss))
      (dispatchers_plain.of_each k P law (plains k ss (empty n)) n)

  -- ---- by what a step may fail

  fails_by : (v : Verdict) (o : Option (DispatchStep K k)) (ss : List (DispatchStep K k × Verdict)) (d : Dispatchers K)
      → MayFailBy k o refusal.Damaged d ⊎ dispatchers.SomeMayFail k ss refusal.Damaged (moved_by k v o d)
      → dispatchers.SomeMayFail k (cons_option (with_verdict v o) ss) refusal.Damaged d
  fails_by v None ss d (inl h) = absurd (cc)
  fails_by v None ss d (inr h) = h
  fails_by v (Some s) ss d (inl (inl h)) = absurd (cc)
  fails_by v (Some s) ss d (inl (inr h)) = inl h
  fails_by v (Some s) ss d (inr h) = inr h

  some_fails : (ss : List (Step K k × Verdict)) (w : World K) → SomeMayFail k ss refusal.Damaged w
      → dispatchers.SomeMayFail k (plains k ss w) refusal.Damaged w.dispatchers
  some_fails [] w h = h
  some_fails (s ∷ ss) w (inl h) =
      fails_by s.1 (plain k s.0 w) (plains k ss (happens k s.1 s.0 w)) w.dispatchers (inl h)
  some_fails (s ∷ ss) w (inr h) =
      fails_by s.1 (plain k s.0 w) (plains k ss (happens k s.1 s.0 w)) w.dispatchers
      (inr (some_fails ss (happens k s.1 s.0 w) h))

  pub none_damaged : (ss : List (Step K k × Verdict)) (n : ℕ) → AreSteps k n ss
      → SomeMayFail k ss refusal.Damaged (empty n) → ⊥
  none_damaged ss n a h = dispatchers_plain.none_damaged k (plains k ss (empty n)) n a (some_fails ss (empty n) h)
