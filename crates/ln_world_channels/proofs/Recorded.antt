-- Each end of every channel has a record, so that no act fails by one that is missing (BOLT 2, "Message
-- Retransmission").
use Rattle.std.proofs.Common.{◌≡◌, ℕ, List, [], ◌∷◌, refl, subst, inl, inr}
use Rattle.std.proofs.Common.{Bool, true, false, cond, ◌&&◌, ◌==◌, not, is_none, Option, Some, None}
use Rattle.ln_refusals.specs.declared.refusal.Refusal.TheVariants as refusal
use Rattle.ln_keys.specs.declared.keys.ChannelKeys.{Ghosts}
use Rattle.ln_keys.specs.declared.role.Role.{Role}
use Rattle.ln_keys.specs.declared.role.Role.TheVariants.{Funder, Fundee}
use Rattle.ln_keys.specs.Signer.{Signer}
use Rattle.ln_channel.specs.declared.machine.ConnectionState.{ConnectionState}
use Rattle.ln_channel.specs.declared.opening.Opened.{Opened}
use Rattle.ln_channel.specs.declared.config.Config.{Config}
use Rattle.ln_channel.specs.declared.config.OpenSpec.{OpenSpec}
use Rattle.ln_channel.specs.Meeting.{Opens}
use Rattle.ln_channel.specs.End.{End}
use Rattle.ln_channel.specs.State.{State}
use Rattle.ln_store.proofs.Formats.{both_true}
use Rattle.ln_channel_laws.proofs.Offered.{IsCounted, IsWide, IsOf, are_counted, are_wide}
use Rattle.ln_world_channels.specs.declared.step.Act.{Act}
use Rattle.ln_world_channels.specs.declared.step.Act.TheVariants as act
use Rattle.ln_world_channels.specs.declared.step.Node.{Node}
use Rattle.ln_world_channels.specs.declared.step.Open.{Open}
use Rattle.ln_world_channels.specs.declared.step.RecordLeft.{RecordLeft}
use Rattle.ln_world_channels.specs.declared.step.RecordLeft.TheVariants as record_left
use Rattle.ln_world_channels.specs.declared.step.Step.{Step}
use Rattle.ln_world_channels.specs.declared.step.Step.TheVariants as step
use Rattle.ln_world_channels.specs.declared.settings.Settings.{Settings}
use Rattle.ln_world_channels.specs.Settings.{channel_id_of, may_bring, CanBring}
use Rattle.ln_world_channels.specs.Both.{Both, Move, By, Disconnects, Halts, Restarts, Stops, HaltsAfter, Meet, moves}
use Rattle.ln_world_channels.specs.Both.{unheard}
use Rattle.ln_world_channels.specs.Both.{run as run_both}
use Rattle.ln_world_channels.specs.WorldChannel.{WorldChannel, is_node, by, side_of, moved, may_meet, opened_by}
use Rattle.ln_world_channels.specs.WorldChannel.{act_moves}
use Rattle.ln_world_channels.specs.WorldChannel.{disconnect_moves, halt_moves, restart_moves, stop_moves, up_moves}
use Rattle.ln_world_channels.specs.WorldChannel.{failed_save_moves}
use Rattle.ln_world_channels.specs.WorldChannel.{acted_unheard, side_unheard, place_of, opening_moves}
use Rattle.ln_world_channels.specs.World.{World, settings_of, channel, may_open, joined, happens, may_be_done}
use Rattle.ln_world_channels.specs.World.{may_reload, empty, run}
use Rattle.ln_world_channels.specs.Failing.{LinkLacks, SideLacks, ActLacks, ActLacksIn, MovesLack, OpenLacks, MayFail}
use Rattle.ln_world_channels.specs.Failing.{SomeMayFail}
use Rattle.ln_world_channels.specs.Promises.{Each, OfEach}
use Rattle.ln_world_channels.specs.Records.{IsAct, IsStep, AreSteps, HaveRecords}
use Rattle.ln_world_channels.proofs.Mirror.{link_at}
use Rattle.ln_world_channels.proofs.Opening.{IsOpening}
use Rattle.ln_world_channels.proofs.Forms.{has_record}
use Rattle.ln_world_channels.proofs.Openings.{are_openings, short_scripts}
use Rattle.ln_world_channels.proofs.Kept.{IsRun, IsWideRun, ends_of, IsMove, ArePossible, went}
use Rattle.ln_world_channels.proofs.Promised.{brings_so, opened_run, keys_so}
use Rattle.ln_world_channels.proofs.Promised.{moved_so, all_so, joined_so, either_so, there_so}
use Rattle.ln_world_channels.proofs.Told.{MayMake, acts_possible, falls_possible, halts_possible, restarts_possible}
use Rattle.ln_world_channels.proofs.Told.{failed_saves_possible, stops_possible, ups_possible}
use Rattle.ln_world_channels.proofs.Stopping.{lacks_acted}
use Rattle.ln_world_channels.proofs.Opened.{at_first, asked, accepted, created, signed, both_open, they_meet}
use Rattle.ln_world_channels.proofs.Opened.{takes_open}
use Rattle.ln_world_channels.proofs.Opened.{takes_accept, takes_created, takes_signed, opens_so}

-- ---- a channel whose commands are as wide as they are in code

module _ {K : Type 0} (signer : K → Signer) where
  pub record IsFit (id : List ℕ) (p : Both K) : Type 0 where
    pub run : IsRun signer id p
    pub wide : IsWideRun signer id p run

  moves_so : (id : List ℕ) (ms : List Move) (p : Both K) → ArePossible signer id ms p → Each IsMove ms → IsFit id p
      → IsFit id (run_both signer id ms p)
  moves_so id [] p may is h = h
  moves_so id (m ∷ ms) p may is h =
      let w = went signer id m p may.0 h.run in
      moves_so id ms (moves signer id m p) may.1 is.1 (record { run = w.run; wide = w.wide is.0 h.wide })

-- ---- the moves that a step is

bring_by : (o : Option Role) (f : Role → Move) → ((side : Role) → IsMove (f side)) → Each IsMove (by o f)
bring_by None f h = tt
bring_by (Some side) f h = (h side, tt)

stops_bring : (b : Bool) (o : Option Role) (a : Act) → IsAct a
    → Each IsMove (cond b (by o (λ side. Stops side a)) (by o Restarts))
stops_bring true o a h = bring_by o (λ side. Stops side a) (λ side. h)
stops_bring false o a h = bring_by o Restarts (λ side. tt)

failed_saves_bring : {K : Type 0} (left : RecordLeft) (n : Node) (a : Act) (c : WorldChannel K) → IsAct a
    → Each IsMove (failed_save_moves left n a c)
failed_saves_bring record_left.Old n a c h = bring_by (side_of n c) Halts (λ side. tt)
failed_saves_bring record_left.New n a c h = bring_by (side_of n c) (λ side. HaltsAfter side a) (λ side. h)

ups_bring : (b : Bool) → Each IsMove (cond b (Meet ∷ []) [])
ups_bring true = (tt, tt)
ups_bring false = tt

module _ {K : Type 0} (k : Ghosts K) where
  abbrev pub IsFitChannel : WorldChannel K → Type 0
  IsFitChannel c = IsFit k.signer (channel_id_of c.number) c.both

  kept_by : (f : WorldChannel K → List Move) → MayMake k f → ((c : WorldChannel K) → Each IsMove (f c))
      → (c : WorldChannel K) → IsFitChannel c → IsFitChannel (moved k.signer f c)
  kept_by f may is c h = moves_so k.signer (channel_id_of c.number) (f c) c.both (may c) (is c) h

  -- ---- a channel that is opened

  opened_so : (o : Open K k) (s t : Settings) → CanBring o.satoshis o.push s t → IsFitChannel (opened_by k o s t)
  opened_so o s t brings =
      let a = k.signer o.keys.funder in
      let b = k.signer o.keys.fundee in
      let keys = keys_so k o in
      let r = opened_run k o s t brings in
      let both = are_openings a b o.channel o.satoshis o.push o.funder o.fundee s t brings keys r.funder r.fundee
      r.opens in
      let scripts = short_scripts a b o.channel o.satoshis o.push o.funder o.fundee s t brings keys r.funder r.fundee
      r.opens in
      record {
        run = r;
        wide = record {
          funders_end = both.0;
          fundees_end = both.1;
          funders_script = scripts.0;
          fundees_script = scripts.1;
          commands = (tt, (tt, tt));
        };
      }

  -- ---- a world

  abbrev pub AreFit : World K → Type 0
  AreFit w = Each IsFitChannel w.channels

  opens_by : (b : Bool) (o : Open K k) (w : World K) → may_open o w ≡ b → AreFit w
      → AreFit (cond b (joined (opened_by k o (settings_of o.funder w.settings) (settings_of o.fundee w.settings)) w) w)
  opens_by false o w e h = h
  opens_by true o w e h =
      let s = settings_of o.funder w.settings in
      let t = settings_of o.fundee w.settings in
      let p = both_true (not (is_node o.funder o.fundee))
      (is_none (channel o.channel w.channels) && may_bring o.satoshis o.push s t) e in
      let q = both_true (is_none (channel o.channel w.channels)) (may_bring o.satoshis o.push s t) p.1 in
      joined_so k IsFitChannel w.channels (opened_by k o s t) h
      (opened_so o s t (brings_so o.satoshis o.push s t q.1))

  pub stays_fit : (s : Step K k) (w : World K) → IsStep k s → AreFit w → AreFit (happens k s w)
  stays_fit (step.Fees n fees) w is h = h
  stays_fit (step.Limits n limits) w is h = h
  stays_fit (step.Open o) w is h = opens_by (may_open o w) o w refl h
  stays_fit (step.Do e a) w is h =
      moved_so k IsFitChannel e.channel (act_moves e.node a) (kept_by (act_moves e.node a) (acts_possible k e.node a)
      (λ c. bring_by (side_of e.node c) (λ side. By side a) (λ side. is))) w.channels h
  stays_fit (step.Down e) w is h =
      moved_so k IsFitChannel e.channel (disconnect_moves e.node)
      (kept_by (disconnect_moves e.node) (falls_possible k e.node)
      (λ c. bring_by (side_of e.node c) Disconnects (λ side. tt))) w.channels h
  stays_fit (step.NoMemory e a) w is h =
      there_so k IsFitChannel (may_be_done e a w.channels) e.channel (halt_moves e.node) (kept_by (halt_moves e.node)
      (halts_possible k e.node) (λ c. bring_by (side_of e.node c) Halts (λ side. tt))) w h
  stays_fit (step.SaveFails e a left) w is h =
      there_so k IsFitChannel (may_be_done e a w.channels) e.channel (failed_save_moves left e.node a)
      (kept_by (failed_save_moves left e.node a) (failed_saves_possible k left e.node a)
      (λ c. failed_saves_bring left e.node a c is)) w h
  stays_fit (step.Reload e) w is h =
      there_so k IsFitChannel (may_reload e w.channels) e.channel (restart_moves e.node) (kept_by (restart_moves e.node)
      (restarts_possible k e.node) (λ c. bring_by (side_of e.node c) Restarts (λ side. tt))) w h
  stays_fit (step.Restart n) w is h =
      all_so k IsFitChannel (restart_moves n) (kept_by (restart_moves n) (restarts_possible k n)
      (λ c. bring_by (side_of n c) Restarts (λ side. tt))) w.channels h
  stays_fit (step.StopBefore e a) w is h =
      either_so k IsFitChannel (may_be_done e a w.channels) (restart_moves e.node) (kept_by (restart_moves e.node)
      (restarts_possible k e.node) (λ c. bring_by (side_of e.node c) Restarts (λ side. tt))) w h
  stays_fit (step.StopAfter e a) w is h =
      either_so k IsFitChannel (may_be_done e a w.channels) (stop_moves e a) (kept_by (stop_moves e a)
      (stops_possible k e a) (λ c. stops_bring (c.number == e.channel) (side_of e.node c) a is)) w h
  stays_fit (step.Up n) w is h =
      moved_so k IsFitChannel n up_moves (kept_by up_moves (ups_possible k) (λ c. ups_bring (may_meet c.both)))
      w.channels h

  all_fit : (ss : List (Step K k)) (w : World K) → AreSteps k ss → AreFit w → AreFit (run k ss w)
  all_fit [] w is h = h
  all_fit (s ∷ ss) w is h = all_fit ss (happens k s w) is.1 (stays_fit s w is.0 h)

-- ---- each end has one

none_lacking : {K : Type 0} (b : Bool) (key : K) (l : State K) (line : ConnectionState) (o : Opened) (e : End)
    → l ≡ link_at b key line e → IsOpening o → IsOf o e → IsCounted e → IsWide e → LinkLacks l → ⊥
none_lacking b key l line o e is opening of counted wide lacks =
    has_record o e opening of counted wide (subst LinkLacks is lacks)

have_records : {K : Type 0} (signer : K → Signer) (id : List ℕ) (p : Both K) → IsFit signer id p → HaveRecords p
have_records signer id p h =
    let r = h.run in
    let a = signer r.funders in
    let b = signer r.fundees in
    let q = ends_of signer id p r in
    let counted = are_counted a b r.spec r.config r.funder r.fundee r.steps r.keys r.opens
    r.funders_fees r.fundees_fees in
    let wide = are_wide a b r.spec r.config r.funder r.fundee r.steps r.keys r.opens h.wide.funders_script
    h.wide.fundees_script h.wide.commands in (
      none_lacking r.mirrors.x_halted r.funders p.x.link q.x_line r.funder q.x r.mirrors.x_link h.wide.funders_end
          wide.0.1 counted.0 wide.0.0,
      none_lacking r.mirrors.y_halted r.fundees p.y.link q.y_line r.fundee q.y r.mirrors.y_link h.wide.fundees_end
          wide.1.1 counted.1 wide.1.0,
    )

module _ {K : Type 0} (k : Ghosts K) where
  each_has : (cs : List (WorldChannel K)) → Each (IsFitChannel k) cs
      → Each (λ (c : WorldChannel K). HaveRecords c.both) cs
  each_has [] h = tt
  each_has (c ∷ cs) h = (have_records k.signer (channel_id_of c.number) c.both h.0, each_has cs h.1)

  pub all_have : (ss : List (Step K k)) → AreSteps k ss → OfEach HaveRecords (run k ss empty)
  all_have ss is = each_has (run k ss empty).channels (all_fit k ss empty is tt)

  -- nor does an act leave an end without one
  behind_act : (o : Option Role) (a : Act) (id : List ℕ) (p : Both K) → IsAct a → IsFit k.signer id p
      → HaveRecords (side_unheard k.signer a o p)
  behind_act None a id p is h = have_records k.signer id p h
  behind_act (Some Funder) a id p is h =
      let acted = have_records k.signer id (moves k.signer id (By Funder a) p)
      (moves_so k.signer id (By Funder a ∷ []) p (refl, tt) (is, tt) h) in
      (λ lacks. acted.0 (lacks_acted k.signer Funder id a p lacks), (have_records k.signer id p h).1)
  behind_act (Some Fundee) a id p is h =
      let acted = have_records k.signer id (moves k.signer id (By Fundee a) p)
      (moves_so k.signer id (By Fundee a ∷ []) p (refl, tt) (is, tt) h) in
      ((have_records k.signer id p h).0, λ lacks. acted.1 (lacks_acted k.signer Fundee id a p lacks))

  side_has : (o : Option Role) (p : Both K) → HaveRecords p → SideLacks o p → ⊥
  side_has None p h lacks = lacks
  side_has (Some Funder) p h lacks = h.0 lacks
  side_has (Some Fundee) p h lacks = h.1 lacks

  one_behind : (n : Node) (a : Act) (c : WorldChannel K) → IsAct a → IsFitChannel k c → ActLacks k.signer n a c → ⊥
  one_behind n a c is h lacks =
      side_has (side_of n c) (acted_unheard k.signer n a c).both
      (behind_act (side_of n c) a (channel_id_of c.number) c.both is h) lacks

  found_behind : (n : Node) (a : Act) (b : Bool) (c : WorldChannel K) (o : Option (WorldChannel K)) → IsAct a
      → IsFitChannel k c → (ActLacksIn k.signer n a o → ⊥) → ActLacksIn k.signer n a (cond b (Some c) o) → ⊥
  found_behind n a true c o is h rest lacks = one_behind n a c is h lacks
  found_behind n a false c o is h rest lacks = rest lacks

  none_behind : (m : ℕ) (n : Node) (a : Act) (cs : List (WorldChannel K)) → IsAct a → Each (IsFitChannel k) cs
      → ActLacksIn k.signer n a (channel m cs) → ⊥
  none_behind m n a [] is h lacks = lacks
  none_behind m n a (c ∷ cs) is h lacks =
      found_behind n a (c.number == m) c (channel m cs) is h.0 (none_behind m n a cs is h.1) lacks

  -- ---- nor does an opening

  opening_has : (id : List ℕ) (kx ky : K) (s : OpenSpec) (c : Config) (funder fundee : Opened)
      (o : Opens (k.signer kx) (k.signer ky) s c funder fundee)
      → HaveRecords (both_open k.signer id kx ky s c funder fundee o)
      → MovesLack k.signer id opening_moves (at_first k.signer id kx ky s c funder fundee o) → ⊥
  opening_has id kx ky s c funder fundee o h (inl lacks) = lacks
  opening_has id kx ky s c funder fundee o h (inr lacks) =
      let signer = k.signer in
      let deliver : List Move = By Funder act.Deliver ∷ [] in
      let third : List Move = By Fundee act.Deliver ∷ deliver in
      let second : List Move = By Funder act.Deliver ∷ third in
      let p = asked signer id kx ky s c funder fundee o in
      let q = accepted signer id kx ky s c funder fundee o in
      let r = created signer id kx ky s c funder fundee o in
      let t = signed signer id kx ky s c funder fundee o in
      let at : (side : Role) (p q : Both K) → moves signer id (By side act.Deliver) p ≡ q
      → LinkLacks (unheard signer act.Deliver (place_of side p)).link → LinkLacks (place_of side q).link =
      λ side p q e x. subst (λ w. LinkLacks (place_of side w).link) e (lacks_acted signer side id act.Deliver p x) in
      elim (subst (MovesLack signer id (By Fundee act.Deliver ∷ second))
      (they_meet signer id kx ky s c funder fundee o) lacks) [
        | inl x ↦ at Fundee p q (takes_open signer id kx ky s c funder fundee o) x
        | inr rest ↦ elim (subst (MovesLack signer id second)
            (takes_open signer id kx ky s c funder fundee o) rest) [
              | inl x ↦ at Funder q r (takes_accept signer id kx ky s c funder fundee o) x
              | inr rest ↦ elim (subst (MovesLack signer id third)
                  (takes_accept signer id kx ky s c funder fundee o) rest) [
                    | inl x ↦ h.1 (at Fundee r t (takes_created signer id kx ky s c funder fundee o) x)
                    | inr rest ↦ elim (subst (MovesLack signer id deliver)
                        (takes_created signer id kx ky s c funder fundee o) rest) [
                          | inl x ↦ h.0 (at Funder t (both_open signer id kx ky s c funder fundee o)
                              (takes_signed signer id kx ky s c funder fundee o) x)
                          | inr x ↦ x
                        ]
                  ]
            ]
      ]

  open_has : (o : Open K k) (w : World K) → OpenLacks k o w → ⊥
  open_has o w lacks =
      let s = settings_of o.funder w.settings in
      let t = settings_of o.fundee w.settings in
      let p = both_true (not (is_node o.funder o.fundee))
      (is_none (channel o.channel w.channels) && may_bring o.satoshis o.push s t) lacks.0 in
      let q = both_true (is_none (channel o.channel w.channels)) (may_bring o.satoshis o.push s t) p.1 in
      let brings = brings_so o.satoshis o.push s t q.1 in
      let r = opened_run k o s t brings in
      let id = channel_id_of o.channel in
      let fit = opened_so k o s t brings in
      opening_has id o.keys.funder o.keys.fundee r.spec r.config r.funder r.fundee r.opens
      (subst HaveRecords (opens_so k.signer id o.keys.funder o.keys.fundee r.spec r.config r.funder r.fundee r.opens)
      (have_records k.signer id (opened_by k o s t).both fit)) lacks.1

  never_in : (s : Step K k) (w : World K) → IsStep k s → AreFit k w → MayFail k s refusal.Damaged w → ⊥
  never_in (step.Fees n fees) w is h fails = absurd (cc)
  never_in (step.Limits n limits) w is h fails = absurd (cc)
  never_in (step.Open o) w is h (inl e) = absurd (cc)
  never_in (step.Open o) w is h (inr lacks) = open_has o w lacks.1
  never_in (step.Do e a) w is h (inl r) = absurd (cc)
  never_in (step.Do e a) w is h (inr lacks) =
      none_behind e.channel e.node a w.channels is h lacks.1
  never_in (step.Down e) w is h fails = absurd (cc)
  never_in (step.Restart n) w is h fails = absurd (cc)
  never_in (step.Reload e) w is h fails = absurd (cc)
  never_in (step.NoMemory e a) w is h fails = absurd (cc)
  never_in (step.SaveFails e a left) w is h (inl r) = absurd (cc)
  never_in (step.SaveFails e a record_left.Old) w is h (inr lacks) = lacks.1
  never_in (step.SaveFails e a record_left.New) w is h (inr lacks) =
      none_behind e.channel e.node a w.channels is h lacks.1
  never_in (step.StopBefore e a) w is h fails = absurd (cc)
  never_in (step.StopAfter e a) w is h (inl r) = absurd (cc)
  never_in (step.StopAfter e a) w is h (inr lacks) =
      none_behind e.channel e.node a w.channels is h lacks.1
  never_in (step.Up n) w is h fails = absurd (cc)

  -- in no step that follows a world whose channels are so
  pub never_after : (ss : List (Step K k)) (w : World K) → AreSteps k ss → AreFit k w
      → SomeMayFail k ss refusal.Damaged w → ⊥
  never_after [] w is h fails = fails
  never_after (s ∷ ss) w is h (inl fails) = never_in s w is.0 h fails
  never_after (s ∷ ss) w is h (inr fails) = never_after ss (happens k s w) is.1 (stays_fit k s w is.0 h) fails

  pub never_damaged : (ss : List (Step K k)) → AreSteps k ss → SomeMayFail k ss refusal.Damaged empty → ⊥
  never_damaged ss is fails = never_after ss empty is tt fails
