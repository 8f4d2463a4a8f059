-- No step of channels undoes a decision: each end has decided as many events after it as before, or more.
use Rattle.std.proofs.Common.{◌≡◌, ℕ, ◌≤◌, ◌==◌, List, [], ◌∷◌, ◌++◌, map, refl, sym, subst, arith}
use Rattle.std.proofs.Common.{Bool, true, false, cond, Option, Some, inr}
use Rattle.ln_keys.specs.declared.keys.ChannelKeys.{Ghosts}
use Rattle.ln_keys.specs.declared.role.Role.{Role}
use Rattle.ln_keys.specs.declared.role.Role.TheVariants.{Funder, Fundee}
use Rattle.ln_keys.specs.Signer.{Signer}
use Rattle.ln_channel.specs.declared.command.Command.TheVariants as command
use Rattle.ln_channel.specs.declared.machine.Stage.{Stage}
use Rattle.ln_channel.specs.declared.machine.Stage.TheVariants as stage
use Rattle.ln_channel.specs.Record.{saved_end}
use Rattle.ln_world_channels.specs.declared.step.Act.{Act}
use Rattle.ln_world_channels.specs.declared.step.Act.TheVariants as act
use Rattle.ln_world_channels.specs.declared.step.End.{End}
use Rattle.ln_world_channels.specs.declared.step.Step.{Step as ChannelStep}
use Rattle.ln_world_channels.specs.declared.step.Step.TheVariants as channel_step
use Rattle.ln_world_channels.specs.Settings.{channel_id_of}
use Rattle.ln_world_channels.specs.Both.{Both, Move, By, Disconnects, Halts, Restarts, Stops, HaltsAfter, Meet}
use Rattle.ln_world_channels.specs.Both as both
use Rattle.ln_world_channels.specs.WorldChannel.{WorldChannel, moved, act_moves, disconnect_moves, halt_moves}
use Rattle.ln_world_channels.specs.WorldChannel.{restart_moves, failed_save_moves}
use Rattle.ln_world_channels.specs.WorldChannel.{stop_moves, up_moves, opened_by}
use Rattle.ln_world_channels.specs.Promises.{Each}
use Rattle.ln_world_channels.specs.World.{World as Channels, channel, moved_if, may_open, may_be_done, settings_of}
use Rattle.ln_world_channels.specs.World.{joined, at, everywhere, may_reload}
use Rattle.ln_world_channels.specs.World as channels
use Rattle.ln_world_dispatch.specs.World.{saved_in, decided_of}
use Rattle.ln_world_dispatch.specs.Kept.{KeptDispatcher, decided_at, Keeps, AllKeep}
use Rattle.ln_world_dispatch.proofs.Deciding.{AtStage, KeptBy, AtBoth, KeptByMove, all_so, at_saved}
use Rattle.ln_world_dispatch.proofs.Keeping.{each-to}

-- ---- an end

abbrev AtLeast : Stage → ℕ → Type 0
AtLeast s n = decided_of (saved_end s) ≤ n

stands : (s : Stage) → AtStage (AtLeast s) s
stands (stage.AwaitsOpen c) = omega arith
stands (stage.AwaitsAccept s) = omega arith
stands (stage.AwaitsCreated a) = omega arith
stands (stage.AwaitsSigned e) = (omega arith, inr (λ n. omega arith))
stands (stage.Funded e) = omega arith
stands stage.Gone = omega arith

act_so : (m : ℕ) (a : Act) → KeptBy (λ n. m ≤ n) a
act_so m act.Deliver = tt
act_so m (act.Send (command.Confirm i)) = tt
act_so m (act.Send (command.Add amount hash expiry onion origin)) = tt
act_so m (act.Send (command.Fulfil i preimage)) = tt
act_so m (act.Send (command.Fail i reason)) = tt
act_so m (act.Send (command.Malformed i sha code)) = tt
act_so m (act.Send (command.Fee feerate)) = tt
act_so m (act.Send command.Sign) = tt
act_so m (act.Send (command.Shutdown script)) = tt
act_so m (act.Send (command.Decide n mark)) = λ h. omega (arith, h)
act_so m (act.Send (command.Forget i)) = tt
act_so m (act.Send (command.Resume event mark)) = tt

move_so : (m n : ℕ) (x : Move) → KeptByMove (λ i. m ≤ i) (λ i. n ≤ i) x
move_so m n (By Funder a) = act_so m a
move_so m n (By Fundee a) = act_so n a
move_so m n (Disconnects side) = tt
move_so m n (Halts side) = tt
move_so m n (Restarts side) = tt
move_so m n (Stops Funder a) = act_so m a
move_so m n (Stops Fundee a) = act_so n a
move_so m n (HaltsAfter Funder a) = act_so m a
move_so m n (HaltsAfter Fundee a) = act_so n a
move_so m n Meet = tt

moves_so : (m n : ℕ) (xs : List Move) → Each (KeptByMove (λ i. m ≤ i) (λ i. n ≤ i)) xs
moves_so m n [] = tt
moves_so m n (x ∷ xs) = (move_so m n x, moves_so m n xs)

-- ---- a channel

module _ {K : Type 0} where
  -- of a channel's end of this side
  abbrev GoesOn : Role → WorldChannel K → WorldChannel K → Type 0
  GoesOn side c d = decided_of (saved_in side (Some c)) ≤ decided_of (saved_in side (Some d))

  both_so : (signer : K → Signer) (id : List ℕ) (ms : List Move) (p : Both K)
      → AtBoth (AtLeast p.x.link.stage) (AtLeast p.y.link.stage) (both.run signer id ms p)
  both_so signer id ms p =
      all_so (AtLeast p.x.link.stage) (AtLeast p.y.link.stage) signer id ms p
      (moves_so (decided_of (saved_end p.x.link.stage)) (decided_of (saved_end p.y.link.stage)) ms)
      (stands p.x.link.stage, stands p.y.link.stage)

  moved_so : (signer : K → Signer) (f : WorldChannel K → List Move) (side : Role) (c : WorldChannel K)
      → GoesOn side c (moved signer f c)
  moved_so signer f Funder c =
      at_saved (AtLeast c.both.x.link.stage) (moved signer f c).both.x.link.stage
      (both_so signer (channel_id_of c.number) (f c) c.both).0
  moved_so signer f Fundee c =
      at_saved (AtLeast c.both.y.link.stage) (moved signer f c).both.y.link.stage
      (both_so signer (channel_id_of c.number) (f c) c.both).1

  if_so : (b : Bool) (signer : K → Signer) (f : WorldChannel K → List Move) (side : Role) (c : WorldChannel K)
      → GoesOn side c (cond b (moved signer f c) c)
  if_so true signer f side c = moved_so signer f side c
  if_so false signer f side c = omega arith

  if_number : (b : Bool) (signer : K → Signer) (f : WorldChannel K → List Move) (c : WorldChannel K)
      → (cond b (moved signer f c) c).number ≡ c.number
  if_number true signer f c = refl
  if_number false signer f c = refl

  -- ---- channels by their numbers

  abbrev AllGoOn : Role → ℕ → List (WorldChannel K) → List (WorldChannel K) → Type 0
  AllGoOn side n cs ds = decided_of (saved_in side (channel n cs)) ≤ decided_of (saved_in side (channel n ds))

  found_so : (b : Bool) (side : Role) (c d : WorldChannel K) (o p : Option (WorldChannel K)) → GoesOn side c d
      → decided_of (saved_in side o) ≤ decided_of (saved_in side p)
      → decided_of (saved_in side (cond b (Some c) o)) ≤ decided_of (saved_in side (cond b (Some d) p))
  found_so true side c d o p h g = h
  found_so false side c d o p h g = g

  each_so : (m : WorldChannel K → WorldChannel K) → ((c : WorldChannel K) → (m c).number ≡ c.number) → (side : Role)
      → ((c : WorldChannel K) → GoesOn side c (m c)) → (n : ℕ) (cs : List (WorldChannel K))
      → AllGoOn side n cs (map m cs)
  each_so m same side h n [] = omega arith
  each_so m same side h n (c ∷ cs) =
      subst (λ i. decided_of (saved_in side (channel n (c ∷ cs)))
      ≤ decided_of (saved_in side (cond (i == n) (Some (m c)) (channel n (map m cs))))) (sym (same c))
      (found_so (c.number == n) side c (m c) (channel n cs) (channel n (map m cs)) (h c) (each_so m same side h n cs))

  more_so : (side : Role) (n : ℕ) (d : WorldChannel K) (cs : List (WorldChannel K)) → AllGoOn side n cs (cs ++ d ∷ [])
  more_so side n d [] = omega arith
  more_so side n d (c ∷ cs) =
      found_so (c.number == n) side c c (channel n cs) (channel n (cs ++ d ∷ [])) (omega arith) (more_so side n d cs)

  -- ---- all channels

  at_so : (signer : K → Signer) (i : ℕ) (f : WorldChannel K → List Move) (w : Channels K) (e : End) (side : Role)
      → decided_at w e side ≤ decided_at (at signer i f w) e side
  at_so signer i f w e side =
      each_so (moved_if signer i f) (λ c. if_number (c.number == i) signer f c) side
      (λ c. if_so (c.number == i) signer f side c) e.channel w.channels

  everywhere_so : (signer : K → Signer) (f : WorldChannel K → List Move) (w : Channels K) (e : End) (side : Role)
      → decided_at w e side ≤ decided_at (everywhere signer f w) e side
  everywhere_so signer f w e side =
      each_so (moved signer f) (λ c. refl) side (moved_so signer f side) e.channel w.channels

  either_so : (b : Bool) (new w : Channels K) (e : End) (side : Role) → decided_at w e side ≤ decided_at new e side
      → decided_at w e side ≤ decided_at (cond b new w) e side
  either_so true new w e side h = h
  either_so false new w e side h = omega arith

module _ {K : Type 0} (k : Ghosts K) where
  pub never_undone : (s : ChannelStep K k) (w : Channels K) (e : End) (side : Role)
      → decided_at w e side ≤ decided_at (channels.happens k s w) e side
  never_undone (channel_step.Fees n fees) w e side = omega arith
  never_undone (channel_step.Limits n limits) w e side = omega arith
  never_undone (channel_step.Open o) w e side =
      let c = opened_by k o (settings_of o.funder w.settings) (settings_of o.fundee w.settings) in
      either_so (may_open o w) (joined c w) w e side (more_so side e.channel c w.channels)
  never_undone (channel_step.Do x a) w e side = at_so k.signer x.channel (act_moves x.node a) w e side
  never_undone (channel_step.Down x) w e side = at_so k.signer x.channel (disconnect_moves x.node) w e side
  never_undone (channel_step.NoMemory x a) w e side =
      either_so (may_be_done x a w.channels) (at k.signer x.channel (halt_moves x.node) w) w e side
      (at_so k.signer x.channel (halt_moves x.node) w e side)
  never_undone (channel_step.SaveFails x a left) w e side =
      either_so (may_be_done x a w.channels) (at k.signer x.channel (failed_save_moves left x.node a) w) w e side
      (at_so k.signer x.channel (failed_save_moves left x.node a) w e side)
  never_undone (channel_step.Reload x) w e side =
      either_so (may_reload x w.channels) (at k.signer x.channel (restart_moves x.node) w) w e side
      (at_so k.signer x.channel (restart_moves x.node) w e side)
  never_undone (channel_step.Restart n) w e side = everywhere_so k.signer (restart_moves n) w e side
  never_undone (channel_step.StopBefore x a) w e side =
      either_so (may_be_done x a w.channels) (everywhere k.signer (restart_moves x.node) w) w e side
      (everywhere_so k.signer (restart_moves x.node) w e side)
  never_undone (channel_step.StopAfter x a) w e side =
      either_so (may_be_done x a w.channels) (everywhere k.signer (stop_moves x a) w) w e side
      (everywhere_so k.signer (stop_moves x a) w e side)
  never_undone (channel_step.Up n) w e side = at_so k.signer n up_moves w e side

  -- so what dispatchers keep is enough after it too
  pub keep_on : (s : ChannelStep K k) (w : Channels K) (ds : List KeptDispatcher) → AllKeep (decided_at w) ds
      → AllKeep (decided_at (channels.happens k s w)) ds
  keep_on s w ds h =
      each-to (Keeps (decided_at w)) (Keeps (decided_at (channels.happens k s w))) (λ d g.
      let more = never_undone s w d.dispatcher.end d.dispatcher.side in omega (arith, g, more)) ds h
