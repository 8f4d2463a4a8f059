-- Each channel of a world is set up with what was set for its nodes when it was opened.
use Rattle.std.proofs.Common.{◌≡◌, ℕ, List, [], ◌∷◌, ◌++◌, refl, sym, ap, ◌∙◌, subst, append-nil, append_assoc}
use Rattle.std.proofs.Common.{Bool, true, false, cond, ◌&&◌, ◌==◌, not, is_none, Option, Some, None, option_map}
use Rattle.std.proofs.Common.{eqb-true}
use Rattle.ln_keys.specs.declared.keys.ChannelKeys.{Ghosts}
use Rattle.ln_log.specs.declared.opening.Opening.{Opening}
use Rattle.ln_close.specs.declared.closing.Fees.{Fees}
use Rattle.ln_store.proofs.Formats.{both_true}
use Rattle.ln_channel_laws.specs.Setup.{Setup}
use Rattle.ln_world_channels.specs.declared.settings.Settings.{Settings}
use Rattle.ln_world_channels.specs.declared.step.Open.{Open}
use Rattle.ln_world_channels.specs.declared.step.Step.{Step}
use Rattle.ln_world_channels.specs.declared.step.Step.TheVariants as step
use Rattle.ln_world_channels.specs.Settings.{channel_id_of, may_bring, CanBring}
use Rattle.ln_world_channels.specs.Both.{Both, Move}
use Rattle.ln_world_channels.specs.Both.{run as run_both}
use Rattle.ln_world_channels.specs.WorldChannel.{WorldChannel, is_node, moved, opened_by, act_moves, disconnect_moves}
use Rattle.ln_world_channels.specs.WorldChannel.{restart_moves, up_moves, halt_moves, stop_moves, failed_save_moves}
use Rattle.ln_world_channels.specs.World.{World, settings_of, channel, moved_if, moved_at, all_moved, may_open, joined}
use Rattle.ln_world_channels.specs.World.{happens}
use Rattle.ln_world_channels.specs.World.{at, everywhere, may_be_done, may_reload, empty, run}
use Rattle.ln_world_channels.specs.Setup.{setup_by, setup_in, all_setups, OpensAsSet}
use Rattle.ln_world_channels.proofs.Opened.{fees_so, opening_so}
use Rattle.ln_world_channels.proofs.Kept.{IsRun, ArePossible, went, setup_at, as_set_up}
use Rattle.ln_world_channels.proofs.Promised.{opened_run, brings_so}
use Rattle.ln_world_channels.proofs.Told.{MayMake, or_else, moved_or_not, found_moved, found_in_all, found_joined}
use Rattle.ln_world_channels.proofs.Told.{none_so}
use Rattle.ln_world_channels.proofs.Told.{acts_possible, falls_possible, halts_possible, restarts_possible}
use Rattle.ln_world_channels.proofs.Told.{stops_possible, failed_saves_possible}
use Rattle.ln_world_channels.proofs.Told.{ups_possible}

-- ---- a channel, with what it was set up with

module _ {K : Type 0} (k : Ghosts K) where
  record IsSetUp (id : List ℕ) (p : Both K) (ds : List Setup) : Type 0 where
    run : IsRun k.signer id p
    set : ds ≡ setup_at k.signer id p run ∷ []

  ran_set : (id : List ℕ) (ms : List Move) (p : Both K) (ds : List Setup) → ArePossible k.signer id ms p
      → IsSetUp id p ds → IsSetUp id (run_both k.signer id ms p) ds
  ran_set id [] p ds may h = h
  ran_set id (m ∷ ms) p ds may h =
      let w = went k.signer id m p may.0 h.run in
      ran_set id ms _ ds may.1
      (record { run = w.run; set = h.set ∙ ap (λ s. s ∷ []) (sym w.setup) })

  abbrev IsSet : WorldChannel K → List Setup → Type 0
  IsSet c ds = IsSetUp (channel_id_of c.number) c.both ds

  -- nothing was set up where there is no channel
  abbrev Stands : Option (WorldChannel K) → List Setup → Type 0
  Stands None ds = ds ≡ []
  Stands (Some c) ds = IsSet c ds

  one_stands : (b : Bool) (f : WorldChannel K → List Move) (c : WorldChannel K) (ds : List Setup) → MayMake k f
      → IsSet c ds → IsSet (moved_or_not k b f c) ds
  one_stands true f c ds may h = ran_set (channel_id_of c.number) (f c) c.both ds (may c) h
  one_stands false f c ds may h = h

  moved_stands : (m : ℕ) (f : WorldChannel K → List Move) (o : Option (WorldChannel K)) (ds : List Setup) → MayMake k f
      → Stands o ds → Stands (option_map (moved_if k.signer m f) o) ds
  moved_stands m f None ds may h = h
  moved_stands m f (Some c) ds may h = one_stands (c.number == m) f c ds may h

  all_stands : (f : WorldChannel K → List Move) (o : Option (WorldChannel K)) (ds : List Setup) → MayMake k f
      → Stands o ds → Stands (option_map (moved k.signer f) o) ds
  all_stands f None ds may h = h
  all_stands f (Some c) ds may h = one_stands true f c ds may h

  -- a step that opens none
  behind_none : (o : Option (WorldChannel K)) (ds : List Setup) → Stands o ds → Stands o (ds ++ [])
  behind_none o ds h = subst (Stands o) (sym (append-nil ds)) h

  goes : (m : ℕ) (f : WorldChannel K → List Move) (n : ℕ) (cs : List (WorldChannel K)) (ds : List Setup) → MayMake k f
      → Stands (channel n cs) ds → Stands (channel n (moved_at k.signer m f cs)) (ds ++ [])
  goes m f n cs ds may h =
      subst (λ o. Stands o (ds ++ [])) (sym (found_moved k n m f cs))
      (behind_none (option_map (moved_if k.signer m f) (channel n cs)) ds (moved_stands m f (channel n cs) ds may h))

  all_go : (f : WorldChannel K → List Move) (n : ℕ) (cs : List (WorldChannel K)) (ds : List Setup) → MayMake k f
      → Stands (channel n cs) ds → Stands (channel n (all_moved k.signer f cs)) (ds ++ [])
  all_go f n cs ds may h =
      subst (λ o. Stands o (ds ++ [])) (sym (found_in_all k n f cs))
      (behind_none (option_map (moved k.signer f) (channel n cs)) ds (all_stands f (channel n cs) ds may h))

  stops : (b : Bool) (f : WorldChannel K → List Move) (n : ℕ) (w : World K) (ds : List Setup) → MayMake k f
      → Stands (channel n w.channels) ds → Stands (channel n (cond b (everywhere k.signer f w) w).channels) (ds ++ [])
  stops true f n w ds may h = all_go f n w.channels ds may h
  stops false f n w ds may h = behind_none (channel n w.channels) ds h

  halts : (b : Bool) (m : ℕ) (f : WorldChannel K → List Move) (n : ℕ) (w : World K) (ds : List Setup) → MayMake k f
      → Stands (channel n w.channels) ds → Stands (channel n (cond b (at k.signer m f w) w).channels) (ds ++ [])
  halts true m f n w ds may h = goes m f n w.channels ds may h
  halts false m f n w ds may h = behind_none (channel n w.channels) ds h

  -- ---- an opening

  abbrev setup_with : Opening → Fees → Fees → Setup
  setup_with o f g = record { opening = o; funder = f; fundee = g }

  same_setup : (o p : Opening) (f g x y : Fees) → o ≡ p → f ≡ g → x ≡ y → setup_with o f x ≡ setup_with p g y
  same_setup o p f g x y eo ef ex =
      ap (λ z. setup_with z f x) eo ∙ ap (λ z. setup_with p z x) ef ∙ ap (λ z. setup_with p g z) ex

  opened_set : (o : Open K k) (s t : Settings) → CanBring o.satoshis o.push s t
      → IsSet (opened_by k o s t) (setup_by o.satoshis o.push s t ∷ [])
  opened_set o s t brings =
      let r = opened_run k o s t brings in
      let id = channel_id_of o.channel in
      let fees = fees_so k.signer id r.funders r.fundees r.spec r.config r.funder r.fundee r.opens in
      let opening = opening_so k.signer id r.funders r.fundees r.spec r.config r.funder r.fundee r.opens in
      let made = setup_by o.satoshis o.push s t in
      record {
        run = r;
        set = ap (λ z. z ∷ []) (sym (same_setup r.funder.dance.log.opening made.opening r.funder.closing.fees
            made.funder r.fundee.closing.fees made.fundee opening fees.0 fees.1));
      }

  joined_stands : (d : Option (WorldChannel K)) (new : WorldChannel K) (b : Bool) (ds : List Setup) (s : Setup)
      → (b ≡ true → d ≡ None) → IsSet new (s ∷ []) → Stands d ds
      → Stands (or_else d (cond b (Some new) None)) (ds ++ cond b (s ∷ []) [])
  joined_stands None new true ds s only fresh h = subst (λ ls. IsSet new (ls ++ s ∷ [])) (sym h) fresh
  joined_stands None new false ds s only fresh h = append-nil ds ∙ h
  joined_stands (Some c) new true ds s only fresh h = absurd (let no : Some c ≡ None = only refl in cc)
  joined_stands (Some c) new false ds s only fresh h = behind_none (Some c) ds h

  abbrev new_setup : Open K k → World K → Setup
  new_setup o w =
      setup_by o.satoshis o.push (settings_of o.funder w.settings) (settings_of o.fundee w.settings)

  abbrev new_channel : Open K k → World K → WorldChannel K
  new_channel o w = opened_by k o (settings_of o.funder w.settings) (settings_of o.fundee w.settings)

  opened_stands : (b : Bool) (n : ℕ) (o : Open K k) (w : World K) (ds : List Setup) → may_open o w ≡ b
      → Stands (channel n w.channels) ds
      → Stands (channel n (cond b (joined (new_channel o w) w) w).channels)
      (ds ++ cond (b && o.channel == n) (new_setup o w ∷ []) [])
  opened_stands false n o w ds e h = behind_none (channel n w.channels) ds h
  opened_stands true n o w ds e h =
      let s = settings_of o.funder w.settings in
      let r = settings_of o.fundee w.settings in
      let p = both_true (not (is_node o.funder o.fundee))
      (is_none (channel o.channel w.channels) && may_bring o.satoshis o.push s r) e in
      let q = both_true (is_none (channel o.channel w.channels)) (may_bring o.satoshis o.push s r) p.1 in
      let fresh = opened_set o s r (brings_so o.satoshis o.push s r q.1) in
      let none : channel o.channel w.channels ≡ None = none_so k (channel o.channel w.channels) q.0 in
      let only : (o.channel == n) ≡ true → channel n w.channels ≡ None =
      λ is. subst (λ m. channel m w.channels ≡ None) (eqb-true o.channel n is) none in
      subst (λ d. Stands d (ds ++ cond (o.channel == n) (new_setup o w ∷ []) []))
      (sym (found_joined k n (new_channel o w) w.channels))
      (joined_stands (channel n w.channels) (new_channel o w) (o.channel == n) ds (new_setup o w) only fresh h)

  -- ---- in a step, and in a list of steps

  step_stands : (n : ℕ) (s : Step K k) (w : World K) (ds : List Setup)
      → Stands (channel n w.channels) ds → Stands (channel n (happens k s w).channels) (ds ++ setup_in k n s w)
  step_stands n (step.Fees m fees) w ds h = behind_none (channel n w.channels) ds h
  step_stands n (step.Limits m limits) w ds h = behind_none (channel n w.channels) ds h
  step_stands n (step.Open o) w ds h = opened_stands (may_open o w) n o w ds refl h
  step_stands n (step.Do e a) w ds h =
      goes e.channel (act_moves e.node a) n w.channels ds (acts_possible k e.node a) h
  step_stands n (step.Down e) w ds h =
      goes e.channel (disconnect_moves e.node) n w.channels ds (falls_possible k e.node) h
  step_stands n (step.NoMemory e a) w ds h =
      halts (may_be_done e a w.channels) e.channel (halt_moves e.node) n w ds (halts_possible k e.node) h
  step_stands n (step.SaveFails e a left) w ds h =
      halts (may_be_done e a w.channels) e.channel (failed_save_moves left e.node a) n w ds
      (failed_saves_possible k left e.node a) h
  step_stands n (step.Reload e) w ds h =
      halts (may_reload e w.channels) e.channel (restart_moves e.node) n w ds (restarts_possible k e.node) h
  step_stands n (step.Restart m) w ds h =
      all_go (restart_moves m) n w.channels ds (restarts_possible k m) h
  step_stands n (step.StopBefore e a) w ds h =
      stops (may_be_done e a w.channels) (restart_moves e.node) n w ds (restarts_possible k e.node) h
  step_stands n (step.StopAfter e a) w ds h =
      stops (may_be_done e a w.channels) (stop_moves e a) n w ds (stops_possible k e a) h
  step_stands n (step.Up m) w ds h = goes m up_moves n w.channels ds (ups_possible k) h

  ran_stands : (n : ℕ) (ss : List (Step K k)) (w : World K) (ds : List Setup)
      → Stands (channel n w.channels) ds → Stands (channel n (run k ss w).channels) (ds ++ all_setups k n ss w)
  ran_stands n [] w ds h = behind_none (channel n w.channels) ds h
  ran_stands n (s ∷ ss) w ds h =
      let w' = happens k s w in
      subst (Stands (channel n (run k ss w').channels)) (append_assoc ds (setup_in k n s w) (all_setups k n ss w'))
      (ran_stands n ss w' (ds ++ setup_in k n s w) (step_stands n s w ds h))

  none_there : OpensAsSet {K = K} [] None
  none_there = refl

  opens_so : (o : Option (WorldChannel K)) (ds : List Setup) → Stands o ds → OpensAsSet ds o
  opens_so None ds h = subst (λ ls. OpensAsSet {K = K} ls None) (sym h) none_there
  opens_so (Some c) ds h =
      subst (λ ls. OpensAsSet {K = K} ls (Some c)) (sym h.set)
      (as_set_up k.signer (channel_id_of c.number) c.both h.run)

  pub open_as_set : (ss : List (Step K k)) (n : ℕ)
      → OpensAsSet (all_setups k n ss empty) (channel n (run k ss empty).channels)
  open_as_set ss n =
      opens_so (channel n (run k ss empty).channels) (all_setups k n ss empty)
      (ran_stands n ss empty [] refl)
