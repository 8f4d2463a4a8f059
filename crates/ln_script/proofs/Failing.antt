-- By what a step of a script may fail: by want of memory, or by 70 where the world says so.
use Rattle.std.proofs.Common.{◌≡◌, Option, Some, None, refl, inl, inr, ◌⊎◌}
use Rattle.ln_refusals.specs.declared.refusal.Refusal.{Refusal}
use Rattle.ln_refusals.specs.declared.refusal.Refusal.TheVariants as refusal
use Rattle.ln_keys.specs.declared.toy_keys.ToyKeys.{ToyKeys}
use Rattle.ln_world_channels.specs.declared.step.Step.{Step as ChannelStep}
use Rattle.ln_world_channels.specs.declared.step.Step.TheVariants as step
use Rattle.ln_world_channels.specs.Failing.{ByRecord, MayFail as ChannelMayFail}
use Rattle.ln_world_channels.specs.World.{World as Channels}
use Rattle.ln_world_dispatch.specs.declared.step.Step.{Step as DispatchStep}
use Rattle.ln_world_dispatch.specs.World.{World as Dispatchers, MayFailBy as DispatcherMayFailBy}
use Rattle.ln_world_dispatch.specs.World as dispatchers
use Rattle.ln_world.specs.World.{World, plain, MayFailBy, MayFail}
use Rattle.ln_script.specs.Keys.{toy}
use Rattle.ln_script.specs.Report.{StepFails}
use Rattle.ln_script.specs.Step.{ToyStep}

-- for want of memory, or by 70 where this is so
abbrev IsBy : Refusal → Type 0 → Type 0
IsBy r damaged = (r ≡ refusal.Memory) ⊎ ((r ≡ refusal.Damaged) × damaged)

by_record : {L : Type 0} (r : Refusal) → ByRecord r L → IsBy r (ByRecord refusal.Damaged L)
by_record r (inl e) = inl e
by_record r (inr h) = inr (h.0, inr (refl, h.1))

channels_fail : (s : ChannelStep ToyKeys toy) (r : Refusal) (w : Channels ToyKeys) → ChannelMayFail toy s r w
    → IsBy r (ChannelMayFail toy s refusal.Damaged w)
channels_fail (step.Fees n fees) r w h = inl h
channels_fail (step.Limits n limits) r w h = inl h
channels_fail (step.Open o) r w h = by_record r h
channels_fail (step.Do e a) r w h = by_record r h
channels_fail (step.Down e) r w h = inl h
channels_fail (step.NoMemory e a) r w h = inl h
channels_fail (step.SaveFails e a left) r w h = by_record r h
channels_fail (step.Restart n) r w h = inl h
channels_fail (step.Reload e) r w h = inl h
channels_fail (step.StopBefore e a) r w h = inl h
channels_fail (step.StopAfter e a) r w h = by_record r h
channels_fail (step.Up n) r w h = inl h

dispatchers_fail : (o : Option (ChannelStep ToyKeys toy)) (r : Refusal) (w : Channels ToyKeys)
    → DispatcherMayFailBy toy o r w
    → IsBy r (DispatcherMayFailBy toy o refusal.Damaged w)
dispatchers_fail None r w h = inl h
dispatchers_fail (Some s) r w h = channels_fail s r w h

world_fails : (o : Option (DispatchStep ToyKeys toy)) (r : Refusal) (d : Dispatchers ToyKeys) → MayFailBy toy o r d
    → IsBy r (MayFailBy toy o refusal.Damaged d)
world_fails None r d h = inl h
world_fails (Some s) r d (inl h) = inl h
world_fails (Some s) r d (inr h) = either (dispatchers_fail (dispatchers.plain toy s d) r d.channels h)
  where
    either : IsBy r (DispatcherMayFailBy toy (dispatchers.plain toy s d) refusal.Damaged d.channels)
        → IsBy r (MayFailBy toy (Some s) refusal.Damaged d)
    either (inl e) = inl e
    either (inr p) = inr (p.0, inr p.1)

pub fails_so : (s : ToyStep) (r : Refusal) (w : World ToyKeys) → MayFail toy s r w → StepFails s r w
fails_so s r w h = world_fails (plain toy s w) r w.dispatchers h
