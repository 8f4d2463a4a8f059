-- What comes of each channel of a world since it was opened: what its ends send, the machine's moves that they make,
-- and what they tell.
use Rattle.std.proofs.Common.{◌≡◌, ℕ, List, [], ◌∷◌, ◌++◌, refl, sym, ap, ◌∙◌, subst}
use Rattle.std.proofs.Common.{Bool, true, false, cond, ◌&&◌, ◌==◌, not, is_none, Option, Some, None, option_map}
use Rattle.std.proofs.Common.{eqb-true}
use Rattle.ln_keys.specs.declared.keys.ChannelKeys.{Ghosts}
use Rattle.ln_keys.specs.declared.role.Role.{Role}
use Rattle.ln_keys.specs.declared.role.Role.TheVariants.{Funder, Fundee}
use Rattle.ln_log.specs.declared.opening.Opening.{Opening}
use Rattle.ln_log.specs.Machine as machine
use Rattle.ln_log.specs.Events.{events}
use Rattle.ln_channel.specs.Outputs.{numbered}
use Rattle.ln_store.proofs.Formats.{both_true}
use Rattle.ln_channel_laws.specs.Moves.{after_all}
use Rattle.ln_channel_laws.specs.Promises.{AddsBefore}
use Rattle.ln_channel_laws.specs.Told.{as_told, events_in, unnumbered, ClosesLast}
use Rattle.ln_channel_laws.proofs.Offered.{closes_last, handed_last, run_after}
use Rattle.ln_world_channels.specs.declared.step.Act.{Act}
use Rattle.ln_world_channels.specs.declared.step.Node.{Node}
use Rattle.ln_world_channels.specs.declared.step.Open.{Open}
use Rattle.ln_world_channels.specs.declared.step.RecordLeft.{RecordLeft}
use Rattle.ln_world_channels.specs.declared.step.RecordLeft.TheVariants as record_left
use Rattle.ln_world_channels.specs.declared.step.Step.{Step}
use Rattle.ln_world_channels.specs.declared.step.Step.TheVariants as step
use Rattle.ln_world_channels.specs.Settings.{channel_id_of, opening_by, may_bring}
use Rattle.ln_world_channels.specs.declared.step.End.{End}
use Rattle.ln_world_channels.specs.Both.{Both, Move, By, Disconnects, Halts, Restarts, Stops, HaltsAfter, Meet}
use Rattle.ln_world_channels.specs.WorldChannel.{WorldChannel, is_node, by, side_of, moved, may_meet, opened_by}
use Rattle.ln_world_channels.specs.WorldChannel.{act_moves}
use Rattle.ln_world_channels.specs.WorldChannel.{disconnect_moves, halt_moves, restart_moves, stop_moves, up_moves}
use Rattle.ln_world_channels.specs.WorldChannel.{failed_save_moves}
use Rattle.ln_world_channels.specs.World.{World, settings_of, channel, moved_if, moved_at, all_moved, may_open, joined}
use Rattle.ln_world_channels.specs.World.{happens}
use Rattle.ln_world_channels.specs.World.{at, everywhere, may_be_done, may_reload, empty, run}
use Rattle.ln_world_channels.specs.Course.{step_moves, in_channel, over}
use Rattle.ln_world_channels.specs.Sending.{sends, sent_in, NoneAddsLate}
use Rattle.ln_world_channels.specs.Machine.{machine_of, moves_of, moves_in, history, tells, told_in, all_told}
use Rattle.ln_world_channels.specs.Machine.{AreInStep}
use Rattle.ln_world_channels.proofs.Kept.{Tale, untold, then, then-untold, then_assoc, tale_along, ArePossible}
use Rattle.ln_world_channels.proofs.Kept as channels
use Rattle.ln_world_channels.proofs.Promised.{brings_so, IsToldOf, opening_tale, opened_told}

-- ---- a channel, where it is found

abbrev pub or_else : {A : Type 0} → Option A → Option A → Option A
or_else None o = o
or_else (Some x) o = Some x

module _ {K : Type 0} (k : Ghosts K) where
  abbrev pub moved_or_not : Bool → (WorldChannel K → List Move) → WorldChannel K → WorldChannel K
  moved_or_not b f c = cond b (moved k.signer f c) c

  same_number : (b : Bool) (f : WorldChannel K → List Move) (c : WorldChannel K)
      → (moved_or_not b f c).number ≡ c.number
  same_number true f c = refl
  same_number false f c = refl

  found_by : (b : Bool) (f : WorldChannel K → WorldChannel K) (c : WorldChannel K) (o o' : Option (WorldChannel K))
      → o' ≡ option_map f o → cond b (Some (f c)) o' ≡ option_map f (cond b (Some c) o)
  found_by true f c o o' e = refl
  found_by false f c o o' e = e

  pub found_moved : (n m : ℕ) (f : WorldChannel K → List Move) (cs : List (WorldChannel K))
      → channel n (moved_at k.signer m f cs) ≡ option_map (moved_if k.signer m f) (channel n cs)
  found_moved n m f [] = refl
  found_moved n m f (c ∷ cs) =
      ap (λ i. cond (i == n) (Some (moved_if k.signer m f c)) (channel n (moved_at k.signer m f cs)))
      (same_number (c.number == m) f c)
      ∙ found_by (c.number == n) (moved_if k.signer m f) c (channel n cs) (channel n (moved_at k.signer m f cs))
      (found_moved n m f cs)

  pub found_in_all : (n : ℕ) (f : WorldChannel K → List Move) (cs : List (WorldChannel K))
      → channel n (all_moved k.signer f cs) ≡ option_map (moved k.signer f) (channel n cs)
  found_in_all n f [] = refl
  found_in_all n f (c ∷ cs) =
      found_by (c.number == n) (moved k.signer f) c (channel n cs) (channel n (all_moved k.signer f cs))
      (found_in_all n f cs)

  found_behind : (b : Bool) (d : WorldChannel K) (o extra o' : Option (WorldChannel K)) → o' ≡ or_else o extra
      → cond b (Some d) o' ≡ or_else (cond b (Some d) o) extra
  found_behind true d o extra o' e = refl
  found_behind false d o extra o' e = e

  pub found_joined : (n : ℕ) (c : WorldChannel K) (cs : List (WorldChannel K))
      → channel n (cs ++ c ∷ []) ≡ or_else (channel n cs) (cond (c.number == n) (Some c) None)
  found_joined n c [] = refl
  found_joined n c (d ∷ cs) =
      found_behind (d.number == n) d (channel n cs) (cond (c.number == n) (Some c) None) (channel n (cs ++ c ∷ []))
      (found_joined n c cs)

  -- ---- in a step

  -- what has come of the channel with this number, where there is one
  abbrev Recounts : Option (WorldChannel K) → Tale → Type 0
  Recounts None t = t ≡ untold
  Recounts (Some c) t = IsToldOf k c t

  -- what comes of a step, beside its opening
  abbrev tale_for : Step K k → World K → List machine.Move → Option (WorldChannel K) → Tale
  tale_for s w ms o = record {
    sent_x = in_channel k (sends k.signer Funder) s w o;
    sent_y = in_channel k (sends k.signer Fundee) s w o;
    moves = ms ++ in_channel k (λ id. moves_of k.signer) s w o;
    told_x = in_channel k (λ id. tells k.signer Funder) s w o;
    told_y = in_channel k (λ id. tells k.signer Fundee) s w o;
  }

  abbrev pub MayMake : (WorldChannel K → List Move) → Type 0
  MayMake f = (c : WorldChannel K) → ArePossible k.signer (channel_id_of c.number) (f c) c.both

  by_possible : (id : List ℕ) (p : Both K) (o : Option Role) (f : Role → Move)
      → ((side : Role) → ArePossible k.signer id (f side ∷ []) p) → ArePossible k.signer id (by o f) p
  by_possible id p None f h = tt
  by_possible id p (Some side) f h = h side

  pub acts_possible : (n : Node) (a : Act) → MayMake (act_moves n a)
  acts_possible n a c =
      by_possible (channel_id_of c.number) c.both (side_of n c) (λ side. By side a) (λ side. (refl, tt))

  pub falls_possible : (n : Node) → MayMake (disconnect_moves n)
  falls_possible n c = by_possible (channel_id_of c.number) c.both (side_of n c) Disconnects (λ side. (refl, tt))

  pub halts_possible : (n : Node) → MayMake (halt_moves n)
  halts_possible n c = by_possible (channel_id_of c.number) c.both (side_of n c) Halts (λ side. (refl, tt))

  pub failed_saves_possible : (left : RecordLeft) (n : Node) (a : Act) → MayMake (failed_save_moves left n a)
  failed_saves_possible record_left.Old n a c = halts_possible n c
  failed_saves_possible record_left.New n a c =
      by_possible (channel_id_of c.number) c.both (side_of n c) (λ side. HaltsAfter side a) (λ side. (refl, tt))

  pub restarts_possible : (n : Node) → MayMake (restart_moves n)
  restarts_possible n c = by_possible (channel_id_of c.number) c.both (side_of n c) Restarts (λ side. (refl, tt))

  either_possible : (id : List ℕ) (p : Both K) (b : Bool) (ms ns : List Move) → ArePossible k.signer id ms p
      → ArePossible k.signer id ns p → ArePossible k.signer id (cond b ms ns) p
  either_possible id p true ms ns h g = h
  either_possible id p false ms ns h g = g

  pub stops_possible : (e : End) (a : Act) → MayMake (stop_moves e a)
  stops_possible e a c =
      let id = channel_id_of c.number in
      let o = side_of e.node c in
      either_possible id c.both (c.number == e.channel) (by o (λ side. Stops side a)) (by o Restarts)
      (by_possible id c.both o (λ side. Stops side a) (λ side. (refl, tt)))
      (by_possible id c.both o Restarts (λ side. (refl, tt)))

  up_by : (id : List ℕ) (p : Both K) (b : Bool) → may_meet p ≡ b
      → ArePossible k.signer id (cond b (Meet ∷ []) []) p
  up_by id p true e = (e, tt)
  up_by id p false e = tt

  pub ups_possible : MayMake up_moves
  ups_possible c = up_by (channel_id_of c.number) c.both (may_meet c.both) refl

  one_told : (b : Bool) (f : WorldChannel K → List Move) (c : WorldChannel K) (t : Tale) → MayMake f → IsToldOf k c t
      → IsToldOf k (moved_or_not b f c)
      (then t (tale_along k.signer (channel_id_of c.number) (cond b (f c) []) c.both))
  one_told true f c t may h = channels.all_told k.signer (channel_id_of c.number) (f c) c.both t (may c) h
  one_told false f c t may h = channels.all_told k.signer (channel_id_of c.number) [] c.both t tt h

  moved_told : (s : Step K k) (w : World K) (m : ℕ) (f : WorldChannel K → List Move) (o : Option (WorldChannel K))
      (t : Tale)
      → MayMake f → ((c : WorldChannel K) → step_moves k s w c ≡ cond (c.number == m) (f c) []) → Recounts o t
      → Recounts (option_map (moved_if k.signer m f) o) (then t (tale_for s w [] o))
  moved_told s w m f None t may is h = then-untold t ∙ h
  moved_told s w m f (Some c) t may is h =
      subst (λ ms. IsToldOf k (moved_or_not (c.number == m) f c)
      (then t (tale_along k.signer (channel_id_of c.number) ms c.both))) (sym (is c))
      (one_told (c.number == m) f c t may h)

  quiet_tale : (s : Step K k) (w : World K) (o : Option (WorldChannel K))
      → ((c : WorldChannel K) → step_moves k s w c ≡ []) → tale_for s w [] o ≡ untold
  quiet_tale s w None is = refl
  quiet_tale s w (Some c) is =
      ap (λ ms. tale_along k.signer (channel_id_of c.number) ms c.both) (is c)

  still_told : (s : Step K k) (w : World K) (o : Option (WorldChannel K)) (t : Tale)
      → ((c : WorldChannel K) → step_moves k s w c ≡ []) → Recounts o t → Recounts o (then t (tale_for s w [] o))
  still_told s w o t is h = subst (Recounts o) (sym (ap (then t) (quiet_tale s w o is) ∙ then-untold t)) h

  joined_told : (s : Step K k) (w : World K) (d : Option (WorldChannel K)) (new : WorldChannel K) (b : Bool) (t : Tale)
      (q : Opening) → ((c : WorldChannel K) → step_moves k s w c ≡ []) → (b ≡ true → d ≡ None)
      → IsToldOf k new (opening_tale k q) → Recounts d t
      → Recounts (or_else d (cond b (Some new) None)) (then t (tale_for s w (cond b (machine.Open q ∷ []) []) d))
  joined_told s w None new true t q is only fresh h =
      subst (IsToldOf k new) (sym (ap (λ u. then u (opening_tale k q)) h)) fresh
  joined_told s w None new false t q is only fresh h = then-untold t ∙ h
  joined_told s w (Some c) new true t q is only fresh h = absurd (let no : Some c ≡ None = only refl in cc)
  joined_told s w (Some c) new false t q is only fresh h = still_told s w (Some c) t is h

  pub none_so : (o : Option (WorldChannel K)) → is_none o ≡ true → o ≡ None
  none_so None e = refl
  none_so (Some c) e = absurd (cc)

  abbrev new_channel : Open K k → World K → WorldChannel K
  new_channel o w = opened_by k o (settings_of o.funder w.settings) (settings_of o.fundee w.settings)

  abbrev new_opening : Open K k → World K → Opening
  new_opening o w =
      opening_by o.satoshis o.push (settings_of o.funder w.settings) (settings_of o.fundee w.settings)

  opened_so : (b : Bool) (n : ℕ) (o : Open K k) (w : World K) (t : Tale) → may_open o w ≡ b
      → Recounts (channel n w.channels) t
      → Recounts (channel n (cond b (joined (new_channel o w) w) w).channels)
      (then t (tale_for (step.Open o) w (cond (b && o.channel == n) (machine.Open (new_opening o w) ∷ []) [])
      (channel n w.channels)))
  opened_so false n o w t e h = still_told (step.Open o) w (channel n w.channels) t (λ c. refl) h
  opened_so true n o w t e h =
      let s = settings_of o.funder w.settings in
      let r = settings_of o.fundee w.settings in
      let p = both_true (not (is_node o.funder o.fundee))
      (is_none (channel o.channel w.channels) && may_bring o.satoshis o.push s r) e in
      let q = both_true (is_none (channel o.channel w.channels)) (may_bring o.satoshis o.push s r) p.1 in
      let fresh = opened_told k o s r (brings_so o.satoshis o.push s r q.1) in
      let none : channel o.channel w.channels ≡ None = none_so (channel o.channel w.channels) q.0 in
      let only : (o.channel == n) ≡ true → channel n w.channels ≡ None =
      λ is. subst (λ m. channel m w.channels ≡ None) (eqb-true o.channel n is) none in
      subst (λ d. Recounts d (then t (tale_for (step.Open o) w
      (cond (o.channel == n) (machine.Open (new_opening o w) ∷ []) []) (channel n w.channels))))
      (sym (found_joined n (new_channel o w) w.channels))
      (joined_told (step.Open o) w (channel n w.channels) (new_channel o w) (o.channel == n) t (new_opening o w)
      (λ c. refl) only fresh h)

  abbrev tale_in : ℕ → Step K k → World K → Tale
  tale_in n s w = record {
    sent_x = sent_in k n Funder s w;
    sent_y = sent_in k n Fundee s w;
    moves = moves_in k n s w;
    told_x = told_in k n Funder s w;
    told_y = told_in k n Fundee s w;
  }

  goes_so : (s : Step K k) (w : World K) (m : ℕ) (f : WorldChannel K → List Move) (n : ℕ) (cs : List (WorldChannel K))
      (t : Tale) → MayMake f → ((c : WorldChannel K) → step_moves k s w c ≡ cond (c.number == m) (f c) [])
      → Recounts (channel n cs) t
      → Recounts (channel n (moved_at k.signer m f cs)) (then t (tale_for s w [] (channel n cs)))
  goes_so s w m f n cs t may is h =
      subst (λ o. Recounts o (then t (tale_for s w [] (channel n cs)))) (sym (found_moved n m f cs))
      (moved_told s w m f (channel n cs) t may is h)

  all_told_of : (s : Step K k) (w : World K) (f : WorldChannel K → List Move) (o : Option (WorldChannel K)) (t : Tale)
      → MayMake f → ((c : WorldChannel K) → step_moves k s w c ≡ f c) → Recounts o t
      → Recounts (option_map (moved k.signer f) o) (then t (tale_for s w [] o))
  all_told_of s w f None t may is h = then-untold t ∙ h
  all_told_of s w f (Some c) t may is h =
      subst (λ ms. IsToldOf k (moved k.signer f c) (then t (tale_along k.signer (channel_id_of c.number) ms c.both)))
      (sym (is c)) (one_told true f c t may h)

  all_go_so : (s : Step K k) (w : World K) (f : WorldChannel K → List Move) (n : ℕ) (cs : List (WorldChannel K))
      (t : Tale) → MayMake f → ((c : WorldChannel K) → step_moves k s w c ≡ f c) → Recounts (channel n cs) t
      → Recounts (channel n (all_moved k.signer f cs)) (then t (tale_for s w [] (channel n cs)))
  all_go_so s w f n cs t may is h =
      subst (λ o. Recounts o (then t (tale_for s w [] (channel n cs)))) (sym (found_in_all n f cs))
      (all_told_of s w f (channel n cs) t may is h)

  -- an end that halts, where it can act, or that comes back, where it has halted
  halts_so : (b : Bool) (s : Step K k) (w : World K) (m : ℕ) (f : WorldChannel K → List Move) (n : ℕ) (t : Tale)
      → MayMake f → ((c : WorldChannel K) → step_moves k s w c ≡ cond b (cond (c.number == m) (f c) []) [])
      → Recounts (channel n w.channels) t
      → Recounts (channel n (cond b (at k.signer m f w) w).channels) (then t (tale_for s w [] (channel n w.channels)))
  halts_so true s w m f n t may is h = goes_so s w m f n w.channels t may is h
  halts_so false s w m f n t may is h = still_told s w (channel n w.channels) t is h

  -- a node that stops, where its end can act
  stops_so : (b : Bool) (s : Step K k) (w : World K) (f : WorldChannel K → List Move) (n : ℕ) (t : Tale) → MayMake f
      → ((c : WorldChannel K) → step_moves k s w c ≡ cond b (f c) []) → Recounts (channel n w.channels) t
      → Recounts (channel n (cond b (everywhere k.signer f w) w).channels)
      (then t (tale_for s w [] (channel n w.channels)))
  stops_so true s w f n t may is h = all_go_so s w f n w.channels t may is h
  stops_so false s w f n t may is h = still_told s w (channel n w.channels) t is h

  step_told : (n : ℕ) (s : Step K k) (w : World K) (t : Tale)
      → Recounts (channel n w.channels) t → Recounts (channel n (happens k s w).channels) (then t (tale_in n s w))
  step_told n (step.Fees m fees) w t h =
      still_told (step.Fees m fees) w (channel n w.channels) t (λ c. refl) h
  step_told n (step.Limits m limits) w t h =
      still_told (step.Limits m limits) w (channel n w.channels) t (λ c. refl) h
  step_told n (step.Open o) w t h = opened_so (may_open o w) n o w t refl h
  step_told n (step.Do e a) w t h =
      goes_so (step.Do e a) w e.channel (act_moves e.node a) n w.channels t (acts_possible e.node a) (λ c. refl) h
  step_told n (step.Down e) w t h =
      goes_so (step.Down e) w e.channel (disconnect_moves e.node) n w.channels t (falls_possible e.node) (λ c. refl) h
  step_told n (step.NoMemory e a) w t h =
      halts_so (may_be_done e a w.channels) (step.NoMemory e a) w e.channel (halt_moves e.node) n t
      (halts_possible e.node) (λ c. refl) h
  step_told n (step.SaveFails e a left) w t h =
      halts_so (may_be_done e a w.channels) (step.SaveFails e a left) w e.channel (failed_save_moves left e.node a) n t
      (failed_saves_possible left e.node a) (λ c. refl) h
  step_told n (step.Reload e) w t h =
      halts_so (may_reload e w.channels) (step.Reload e) w e.channel (restart_moves e.node) n t
      (restarts_possible e.node) (λ c. refl) h
  step_told n (step.Restart m) w t h =
      all_go_so (step.Restart m) w (restart_moves m) n w.channels t (restarts_possible m) (λ c. refl) h
  step_told n (step.StopBefore e a) w t h =
      stops_so (may_be_done e a w.channels) (step.StopBefore e a) w (restart_moves e.node) n t
      (restarts_possible e.node) (λ c. refl) h
  step_told n (step.StopAfter e a) w t h =
      stops_so (may_be_done e a w.channels) (step.StopAfter e a) w (stop_moves e a) n t (stops_possible e a)
      (λ c. refl) h
  step_told n (step.Up m) w t h =
      goes_so (step.Up m) w m up_moves n w.channels t ups_possible (λ c. refl) h

  -- ---- in a list of steps

  abbrev tale_over : ℕ → List (Step K k) → World K → Tale
  tale_over n ss w = record {
    sent_x = over k (sent_in k n Funder) ss w;
    sent_y = over k (sent_in k n Fundee) ss w;
    moves = over k (moves_in k n) ss w;
    told_x = over k (told_in k n Funder) ss w;
    told_y = over k (told_in k n Fundee) ss w;
  }

  ran_told : (n : ℕ) (ss : List (Step K k)) (w : World K) (t : Tale)
      → Recounts (channel n w.channels) t → Recounts (channel n (run k ss w).channels) (then t (tale_over n ss w))
  ran_told n [] w t h = subst (Recounts (channel n w.channels)) (sym (then-untold t)) h
  ran_told n (s ∷ ss) w t h =
      let w' = happens k s w in
      subst (Recounts (channel n (run k ss w').channels)) (then_assoc t (tale_in n s w) (tale_over n ss w'))
      (ran_told n ss w' (then t (tale_in n s w)) (step_told n s w t h))

  told_of : (n : ℕ) (ss : List (Step K k))
      → Recounts (channel n (run k ss empty).channels) (tale_over n ss empty)
  told_of n ss = ran_told n ss empty untold refl

  -- ---- what is promised of it

  adds_so : (o : Option (WorldChannel K)) (t : Tale) → Recounts o t
      → AddsBefore false t.sent_x × AddsBefore false t.sent_y
  adds_so None t h = subst (λ (u : Tale). AddsBefore false u.sent_x × AddsBefore false u.sent_y) (sym h) (tt, tt)
  adds_so (Some c) t h = channels.none_adds_late k.signer (channel_id_of c.number) c.both t h

  pub none_adds_late : (ss : List (Step K k)) (n : ℕ) → NoneAddsLate k n ss empty
  none_adds_late ss n = adds_so (channel n (run k ss empty).channels) (tale_over n ss empty) (told_of n ss)

  runs_so : (o : Option (WorldChannel K)) (t : Tale) → Recounts o t → machine.IsRun t.moves None (machine_of o)
  runs_so None t h = subst (λ (u : Tale). machine.IsRun u.moves None None) (sym h) refl
  runs_so (Some c) t h = channels.runs_so k.signer (channel_id_of c.number) c.both t h

  pub may_be_made : (ss : List (Step K k)) (n : ℕ)
      → machine.IsRun (history k n ss empty) None (machine_of (channel n (run k ss empty).channels))
  may_be_made ss n = runs_so (channel n (run k ss empty).channels) (tale_over n ss empty) (told_of n ss)

  pub lead_there : (ss : List (Step K k)) (n : ℕ)
      → after_all (history k n ss empty) None ≡ machine_of (channel n (run k ss empty).channels)
  lead_there ss n = run_after (history k n ss empty) None (machine_of (channel n (run k ss empty).channels))
      (may_be_made ss n)

  funder_so : (o : Option (WorldChannel K)) (t : Tale) → Recounts o t
      → events_in t.told_x ≡ numbered 0 (as_told (events Funder t.moves None))
  funder_so None t h = subst (λ (u : Tale). events_in u.told_x ≡ numbered 0 (as_told (events Funder u.moves None)))
      (sym h) refl
  funder_so (Some c) t h = channels.funder_told k.signer (channel_id_of c.number) c.both t h

  fundee_so : (o : Option (WorldChannel K)) (t : Tale) → Recounts o t
      → events_in t.told_y ≡ numbered 0 (as_told (events Fundee t.moves None))
  fundee_so None t h = subst (λ (u : Tale). events_in u.told_y ≡ numbered 0 (as_told (events Fundee u.moves None)))
      (sym h) refl
  fundee_so (Some c) t h = channels.fundee_told k.signer (channel_id_of c.number) c.both t h

  pub events_so : (ss : List (Step K k)) (n : ℕ) (side : Role)
      → events_in (all_told k n side ss empty) ≡ numbered 0 (as_told (events side (history k n ss empty) None))
  events_so ss n Funder = funder_so (channel n (run k ss empty).channels) (tale_over n ss empty) (told_of n ss)
  events_so ss n Fundee = fundee_so (channel n (run k ss empty).channels) (tale_over n ss empty) (told_of n ss)

  step_so : (side : Role) (o : Option (WorldChannel K)) (t : Tale) → Recounts o t
      → AreInStep side (as_told (events side t.moves None)) o
  step_so side None t h = ap (λ (u : Tale). as_told (events side u.moves None)) h
  step_so side (Some c) t h = channels.in_step k.signer side (channel_id_of c.number) c.both t h

  pub in_step_so : (ss : List (Step K k)) (n : ℕ) (side : Role)
      → AreInStep side (as_told (events side (history k n ss empty) None)) (channel n (run k ss empty).channels)
  in_step_so ss n side =
      step_so side (channel n (run k ss empty).channels) (tale_over n ss empty) (told_of n ss)

  pub moves_last : (ss : List (Step K k)) (n : ℕ) (side : Role)
      → ClosesLast (as_told (events side (history k n ss empty) None))
  moves_last ss n side = closes_last side (history k n ss empty)
      (machine_of (channel n (run k ss empty).channels)) (may_be_made ss n)

  pub told_last : (ss : List (Step K k)) (n : ℕ) (side : Role)
      → ClosesLast (unnumbered (all_told k n side ss empty))
  told_last ss n side =
      handed_last (all_told k n side ss empty) (as_told (events side (history k n ss empty) None))
      (events_so ss n side) (moves_last ss n side)
