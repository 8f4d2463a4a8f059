-- A run of nodes is a run of channels, by the steps of channels that its steps are. So each law of channels is one of
-- nodes.
use Rattle.std.proofs.Common.{◌≡◌, ◌⊎◌, ℕ, List, [], ◌∷◌, refl, sym, ◌∙◌, subst, inl, inr, Option, Some, None}
use Rattle.std.specs.List.{cons_option}
use Rattle.ln_refusals.specs.declared.refusal.Refusal.TheVariants as refusal
use Rattle.ln_keys.specs.declared.keys.ChannelKeys.{Ghosts}
use Rattle.ln_hooks.specs.declared.verdict.Verdict.{Verdict}
use Rattle.ln_world_channels.specs.declared.step.Step.{Step as ChannelStep}
use Rattle.ln_world_channels.specs.Both.{Both}
use Rattle.ln_world_channels.specs.Promises as promise
use Rattle.ln_world_channels.specs.World.{World as Channels}
use Rattle.ln_world_channels.specs.World as channels
use Rattle.ln_world_channels.specs.Failing as failing
use Rattle.ln_world_channels.proofs.Recorded.{never_damaged}
use Rattle.ln_world_dispatch.specs.declared.step.Step.{Step}
use Rattle.ln_world_dispatch.specs.World.{World, empty, plain, plains, moved_by, happens, run, MayFailBy, SomeMayFail}
use Rattle.ln_world_dispatch.specs.Promises.{AreSteps, OfEach}

module _ {K : Type 0} (k : Ghosts K) where
  one_more : (o : Option (ChannelStep K k)) (ss : List (ChannelStep K k)) (w : Channels K)
      → channels.run k (cons_option o ss) w ≡ channels.run k ss (moved_by k o w)
  one_more None ss w = refl
  one_more (Some s) ss w = refl

  pub ran_so : (ss : List (Step K k × Verdict)) (w : World K)
      → (run k ss w).channels ≡ channels.run k (plains k ss w) w.channels
  ran_so [] w = refl
  ran_so (s ∷ ss) w =
      let next_w = happens k s.1 s.0 w in
      ran_so ss next_w ∙ sym (one_more (plain k s.0 w) (plains k ss next_w) w.channels)

  -- from the empty world
  pub ran : (n : ℕ) (ss : List (Step K k × Verdict))
      → (run k ss (empty n)).channels ≡ channels.run k (plains k ss (empty n)) channels.empty
  ran n ss = ran_so ss (empty n)

  -- what holds of each channel after a run of channels holds after the run of nodes
  pub of_each : (P : Both K → Type 0)
      → ((ss : List (ChannelStep K k)) → promise.OfEach P (channels.run k ss channels.empty))
      → (ss : List (Step K k × Verdict)) (n : ℕ) → OfEach P (run k ss (empty n))
  of_each P law ss n = subst (λ (w : Channels K). promise.OfEach P w) (sym (ran n ss)) (law (plains k ss (empty n)))

  -- ---- by what a step may fail

  fails_by : (o : Option (ChannelStep K k)) (ss : List (ChannelStep K k)) (w : Channels K)
      → MayFailBy k o refusal.Damaged w ⊎ failing.SomeMayFail k ss refusal.Damaged (moved_by k o w)
      → failing.SomeMayFail k (cons_option o ss) refusal.Damaged w
  fails_by None ss w (inl h) = absurd (cc)
  fails_by None ss w (inr h) = h
  fails_by (Some s) ss w h = h

  some_fails : (ss : List (Step K k × Verdict)) (w : World K) → SomeMayFail k ss refusal.Damaged w
      → failing.SomeMayFail k (plains k ss w) refusal.Damaged w.channels
  some_fails [] w h = h
  some_fails (s ∷ ss) w (inl h) =
      fails_by (plain k s.0 w) (plains k ss (happens k s.1 s.0 w)) w.channels (inl h)
  some_fails (s ∷ ss) w (inr h) =
      fails_by (plain k s.0 w) (plains k ss (happens k s.1 s.0 w)) w.channels
      (inr (some_fails ss (happens k s.1 s.0 w) h))

  pub none_damaged : (ss : List (Step K k × Verdict)) (n : ℕ) → AreSteps k n ss
      → SomeMayFail k ss refusal.Damaged (empty n) → ⊥
  none_damaged ss n a h = never_damaged k (plains k ss (empty n)) a (some_fails ss (empty n) h)
