-- Every channel of a world is one that was opened, and what has happened to it.
use Rattle.std.proofs.Common.{◌≡◌, ℕ, ◌^◌, List, [], ◌∷◌, ◌++◌, refl, sym, ap, subst}
use Rattle.std.proofs.Common.{Bool, true, false, cond, ◌&&◌, ◌==◌, not, nat_le, nat_lt, is_none}
use Rattle.std.proofs.lemmas.Bool.{leb-true, ltb-true}
use Rattle.ln_keys.specs.declared.keys.ChannelKeys.{Ghosts}
use Rattle.std.proofs.Math.Logic.{∥∥₁_elim}
use Rattle.std.proofs.Math.Bool.{Bool-set}
use Rattle.std.proofs.Math.Nat.{ℕ_set}
use Rattle.ln_keys.specs.Signer.{Signer}
use Rattle.ln_keys.specs.Partners.{ArePartners}
use Rattle.ln_msgs.specs.Messages.Channel.{id_of_channel}
use Rattle.ln_log.specs.declared.opening.Opening.{Opening}
use Rattle.ln_log.specs.Machine as machine
use Rattle.ln_log.specs.Opening.{is_fit}
use Rattle.ln_log.proofs.Fits.{fit_is}
use Rattle.ln_close.specs.Closing.{AreOrdered}
use Rattle.ln_channel.specs.Meeting.{CanOpen}
use Rattle.ln_channel.proofs.Meeting.{none_refused}
use Rattle.ln_store.proofs.Formats.{both_true}
use Rattle.ln_channel_laws.specs.Promises.{AreSent}
use Rattle.ln_world_channels.specs.declared.step.Open.{Open}
use Rattle.ln_world_channels.specs.declared.step.Step.{Step}
use Rattle.ln_world_channels.specs.declared.step.Step.TheVariants as step
use Rattle.ln_world_channels.specs.declared.settings.Settings.{Settings}
use Rattle.ln_world_channels.specs.Settings.{config_of, spec_of, txid_of, channel_id_of, opening_by, are_ordered}
use Rattle.ln_world_channels.specs.Settings.{may_bring, may_ask, can_be_told, CanBring, CanBeTold}
use Rattle.ln_world_channels.specs.Both.{Both, Move}
use Rattle.ln_world_channels.specs.WorldChannel.{WorldChannel, is_node, moved, opened_by, act_moves, disconnect_moves}
use Rattle.ln_world_channels.specs.WorldChannel.{restart_moves, up_moves, halt_moves, stop_moves, failed_save_moves}
use Rattle.ln_world_channels.specs.World.{World, settings_of, channel, moved_at, all_moved, may_open, happens}
use Rattle.ln_world_channels.specs.World.{at, everywhere, may_be_done, may_reload, empty, run}
use Rattle.ln_world_channels.specs.Promises.{Headline, NoneRefused, AllTaken, OneFee, Agrees, Each}
use Rattle.ln_world_channels.specs.Promises.{OfEach}
use Rattle.ln_world_channels.specs.Promises.{AnswersShutdown, ReadinessAgrees, BothClose, DoExactly}
use Rattle.ln_world_channels.proofs.Fitting.{funders, fundees}
use Rattle.ln_world_channels.proofs.Opened.{first_saves, mirrored, fees_so, opening_so}
use Rattle.ln_world_channels.proofs.Kept.{IsRun, IsOpen, act_kept, fall_kept, halt_kept, restart_kept, stop_kept}
use Rattle.ln_world_channels.proofs.Kept.{up_kept, failed_save_kept}
use Rattle.ln_world_channels.proofs.Kept.{Tale, IsTold}
use Rattle.ln_world_channels.proofs.Kept as channels
use Rattle.ln_world_channels.proofs.Doing as doing
use Rattle.ln_world_channels.specs.Signing.{SignCovered}
use Rattle.ln_world_channels.proofs.Signing.{links_sign}

-- ---- what nodes bring

ordered_so : (s : Settings) → are_ordered s ≡ true → AreOrdered s.fees
ordered_so s e =
    let p = both_true (nat_le s.fees.least s.fees.first) (nat_le s.fees.first s.fees.greatest) e in
    (leb-true s.fees.least s.fees.first p.0, leb-true s.fees.first s.fees.greatest p.1)

told_so : (s : Settings) → can_be_told s ≡ true → CanBeTold s
told_so s e =
    let most = 2 ^ 64 in
    let two = nat_lt s.fees.first most && nat_lt s.fees.greatest most in
    let three = two && nat_lt s.limits.minimum most in
    let four = three && nat_lt s.limits.in_flight most in
    let p = both_true four (nat_lt s.limits.reserve most) e in
    let q = both_true three (nat_lt s.limits.in_flight most) p.0 in
    let r = both_true two (nat_lt s.limits.minimum most) q.0 in
    let t = both_true (nat_lt s.fees.first most) (nat_lt s.fees.greatest most) r.0 in
    record {
      first = ltb-true s.fees.first most t.0;
      greatest = ltb-true s.fees.greatest most t.1;
      minimum = ltb-true s.limits.minimum most r.1;
      in_flight = ltb-true s.limits.in_flight most q.1;
      reserve = ltb-true s.limits.reserve most p.1;
    }

pub brings_so : (satoshis push : ℕ) (s t : Settings) → may_bring satoshis push s t ≡ true → CanBring satoshis push s t
brings_so satoshis push s t e =
    let o = opening_by satoshis push s t in
    let p = both_true (is_fit o) (may_ask s && may_ask t) e in
    let q = both_true (may_ask s) (may_ask t) p.1 in
    let a = both_true (are_ordered s) (can_be_told s) q.0 in
    let b = both_true (are_ordered t) (can_be_told t) q.1 in
    record {
      opening = fit_is o p.0;
      funder_fees = ordered_so s a.0;
      fundee_fees = ordered_so t b.0;
      funder_told = told_so s a.1;
      fundee_told = told_so t b.1;
    }

pub sent_so : (s : Settings) → CanBeTold s → AreSent s.fees
sent_so s h = record { first = h.first; greatest = h.greatest }

-- ---- a channel that is opened

pub id_so : (n : ℕ) → channel_id_of n ≡ id_of_channel (txid_of n) 0
unfolding channel_id_of
id_so n = refl

-- Open has that its keys are partners, but not which proof of it
partners_so : (a b : Signer) → ∥ ArePartners a b ∥₁ → ArePartners a b
partners_so a b t = record {
  there = record {
    commitments = λ n point v le len. ∥∥₁_elim t (Bool-set _ _) (λ p. p.there.commitments n point v le len);
    htlcs = λ n point v. ∥∥₁_elim t (ℕ_set _ _) (λ p. p.there.htlcs n point v);
    closings = λ fee lt. ∥∥₁_elim t (Bool-set _ _) (λ p. p.there.closings fee lt);
    secrets = λ n le. ∥∥₁_elim t (Bool-set _ _) (λ p. p.there.secrets n le);
    own_secrets = λ n le. ∥∥₁_elim t (Bool-set _ _) (λ p. p.there.own_secrets n le);
    sized_points = λ n le. ∥∥₁_elim t (ℕ_set _ _) (λ p. p.there.sized_points n le);
    sized_secrets = λ n le. ∥∥₁_elim t (ℕ_set _ _) (λ p. p.there.sized_secrets n le);
  };
  back = record {
    commitments = λ n point v le len. ∥∥₁_elim t (Bool-set _ _) (λ p. p.back.commitments n point v le len);
    htlcs = λ n point v. ∥∥₁_elim t (ℕ_set _ _) (λ p. p.back.htlcs n point v);
    closings = λ fee lt. ∥∥₁_elim t (Bool-set _ _) (λ p. p.back.closings fee lt);
    secrets = λ n le. ∥∥₁_elim t (Bool-set _ _) (λ p. p.back.secrets n le);
    own_secrets = λ n le. ∥∥₁_elim t (Bool-set _ _) (λ p. p.back.own_secrets n le);
    sized_points = λ n le. ∥∥₁_elim t (ℕ_set _ _) (λ p. p.back.sized_points n le);
    sized_secrets = λ n le. ∥∥₁_elim t (ℕ_set _ _) (λ p. p.back.sized_secrets n le);
  };
}

module _ {K : Type 0} (k : Ghosts K) where
  abbrev pub IsToldOf : WorldChannel K → Tale → Type 0
  IsToldOf c t = IsTold k.signer (channel_id_of c.number) c.both t

  -- what comes of an opening
  abbrev pub opening_tale : Opening → Tale
  opening_tale o = record { sent_x = []; sent_y = []; moves = machine.Open o ∷ []; told_x = []; told_y = [] }

  pub keys_so : (o : Open K k) → ArePartners (k.signer o.keys.funder) (k.signer o.keys.fundee)
  keys_so o = partners_so (k.signer o.keys.funder) (k.signer o.keys.fundee) o.keys.partners

  -- a channel that was opened, with no step since
  abbrev pub opened_run : (o : Open K k) (s t : Settings) → CanBring o.satoshis o.push s t
      → IsOpen k.signer (opened_by k o s t)
  opened_run o s t brings =
      let keys = keys_so o in
      let a = k.signer o.keys.funder in
      let b = k.signer o.keys.fundee in
      let spec = spec_of o.channel (config_of o.funder s) o.satoshis o.push in
      let config = config_of o.fundee t in
      let can : CanOpen a b spec config = record {
        partners = keys;
        chain = refl;
        spec = funders o.channel o.satoshis o.push o.funder s t brings;
        config = fundees o.satoshis o.push o.fundee s t brings;
      } in
      let ends = none_refused a b spec config can in
      let funder = ends.0 in
      let fundee = ends.1 in
      let opens = ends.2 in
      let id = channel_id_of o.channel in
      let fees = fees_so k.signer id o.keys.funder o.keys.fundee spec config funder fundee opens in
      record {
        funders = o.keys.funder;
        fundees = o.keys.fundee;
        spec = spec;
        config = config;
        funder = funder;
        fundee = fundee;
        steps = first_saves;
        keys = keys;
        opens = opens;
        funders_fees = subst AreSent (sym fees.0) (sent_so s brings.funder_told);
        fundees_fees = subst AreSent (sym fees.1) (sent_so t brings.fundee_told);
        funders_order = subst AreOrdered (sym fees.0) brings.funder_fees;
        fundees_order = subst AreOrdered (sym fees.1) brings.fundee_fees;
        mirrors = mirrored k.signer id o.keys.funder o.keys.fundee spec config funder fundee opens (id_so o.channel);
      }

  -- and with nothing said since
  pub opened_told : (o : Open K k) (s t : Settings) → CanBring o.satoshis o.push s t
      → IsToldOf (opened_by k o s t) (opening_tale (opening_by o.satoshis o.push s t))
  opened_told o s t brings =
      let r = opened_run o s t brings in
      record {
        run = r;
        x = refl;
        y = refl;
        moves = ap (λ q. machine.Open q ∷ [])
            (opening_so k.signer (channel_id_of o.channel) r.funders r.fundees r.spec r.config r.funder r.fundee
            r.opens);
        told_x = refl;
        told_y = refl;
      }

  -- ---- a world

  abbrev pub AreOpen : World K → Type 0
  AreOpen w = Each (IsOpen k.signer) w.channels

  module _ (P : WorldChannel K → Type 0) where
    one_moved : (b : Bool) (f : WorldChannel K → List Move) → ((c : WorldChannel K) → P c → P (moved k.signer f c))
        → (c : WorldChannel K) → P c → P (cond b (moved k.signer f c) c)
    one_moved true f keep c h = keep c h
    one_moved false f keep c h = h

    pub moved_so : (n : ℕ) (f : WorldChannel K → List Move) → ((c : WorldChannel K) → P c → P (moved k.signer f c))
        → (cs : List (WorldChannel K)) → Each P cs → Each P (moved_at k.signer n f cs)
    moved_so n f keep [] h = tt
    moved_so n f keep (c ∷ cs) h = (one_moved (c.number == n) f keep c h.0, moved_so n f keep cs h.1)

    pub all_so : (f : WorldChannel K → List Move) → ((c : WorldChannel K) → P c → P (moved k.signer f c))
        → (cs : List (WorldChannel K)) → Each P cs → Each P (all_moved k.signer f cs)
    all_so f keep [] h = tt
    all_so f keep (c ∷ cs) h = (keep c h.0, all_so f keep cs h.1)

    pub joined_so : (cs : List (WorldChannel K)) (c : WorldChannel K) → Each P cs → P c → Each P (cs ++ c ∷ [])
    joined_so [] c h o = (o, tt)
    joined_so (d ∷ cs) c h o = (h.0, joined_so cs c h.1 o)

    -- every channel moves so, or none does
    pub either_so : (b : Bool) (f : WorldChannel K → List Move) → ((c : WorldChannel K) → P c → P (moved k.signer f c))
        → (w : World K) → Each P w.channels → Each P (cond b (everywhere k.signer f w) w).channels
    either_so true f keep w h = all_so f keep w.channels h
    either_so false f keep w h = h

    -- the channels with this number move so, or none does
    pub there_so : (b : Bool) (n : ℕ) (f : WorldChannel K → List Move)
        → ((c : WorldChannel K) → P c → P (moved k.signer f c))
        → (w : World K) → Each P w.channels → Each P (cond b (at k.signer n f w) w).channels
    there_so true n f keep w h = moved_so n f keep w.channels h
    there_so false n f keep w h = h

  opens_by : (b : Bool) (o : Open K k) (w : World K) → may_open o w ≡ b → AreOpen w
      → AreOpen (cond b (record {
        settings = w.settings;
        channels = w.channels
            ++ opened_by k o (settings_of o.funder w.settings) (settings_of o.fundee w.settings) ∷ [];
      }) w)
  opens_by false o w e h = h
  opens_by true o w e h =
      let s = settings_of o.funder w.settings in
      let t = settings_of o.fundee w.settings in
      let p = both_true (not (is_node o.funder o.fundee))
      (is_none (channel o.channel w.channels) && may_bring o.satoshis o.push s t) e in
      let q = both_true (is_none (channel o.channel w.channels)) (may_bring o.satoshis o.push s t) p.1 in
      joined_so (IsOpen k.signer) w.channels (opened_by k o s t) h
      (opened_run o s t (brings_so o.satoshis o.push s t q.1))

  pub happened : (s : Step K k) (w : World K) → AreOpen w → AreOpen (happens k s w)
  happened (step.Fees n fees) w h = h
  happened (step.Limits n limits) w h = h
  happened (step.Open o) w h = opens_by (may_open o w) o w refl h
  happened (step.Do e a) w h =
      moved_so (IsOpen k.signer) e.channel (act_moves e.node a) (act_kept k.signer e.node a) w.channels h
  happened (step.Down e) w h =
      moved_so (IsOpen k.signer) e.channel (disconnect_moves e.node) (fall_kept k.signer e.node) w.channels h
  happened (step.NoMemory e a) w h =
      there_so (IsOpen k.signer) (may_be_done e a w.channels) e.channel (halt_moves e.node)
      (halt_kept k.signer e.node) w h
  happened (step.SaveFails e a left) w h =
      there_so (IsOpen k.signer) (may_be_done e a w.channels) e.channel (failed_save_moves left e.node a)
      (failed_save_kept k.signer left e.node a) w h
  happened (step.Reload e) w h =
      there_so (IsOpen k.signer) (may_reload e w.channels) e.channel (restart_moves e.node)
      (restart_kept k.signer e.node) w h
  happened (step.Restart n) w h = all_so (IsOpen k.signer) (restart_moves n) (restart_kept k.signer n) w.channels h
  happened (step.StopBefore e a) w h =
      either_so (IsOpen k.signer) (may_be_done e a w.channels) (restart_moves e.node) (restart_kept k.signer e.node) w h
  happened (step.StopAfter e a) w h =
      either_so (IsOpen k.signer) (may_be_done e a w.channels) (stop_moves e a) (stop_kept k.signer e a) w h
  happened (step.Up n) w h = moved_so (IsOpen k.signer) n up_moves (up_kept k.signer) w.channels h

  ran : (ss : List (Step K k)) (w : World K) → AreOpen w → AreOpen (run k ss w)
  ran [] w h = h
  ran (s ∷ ss) w h = ran ss (happens k s w) (happened s w h)

  kept : (ss : List (Step K k)) → AreOpen (run k ss empty)
  kept ss = ran ss empty tt

  -- ---- what is promised of each channel

  of_each : (P : Both K → Type 0) → ((id : List ℕ) (p : Both K) → IsRun k.signer id p → P p)
      → (cs : List (WorldChannel K)) → Each (IsOpen k.signer) cs → Each (λ (c : WorldChannel K). P c.both) cs
  of_each P f [] h = tt
  of_each P f (c ∷ cs) h = (f (channel_id_of c.number) c.both h.0, of_each P f cs h.1)

  pub headline : (ss : List (Step K k)) → OfEach Headline (run k ss empty)
  headline ss = of_each Headline (channels.headline k.signer) (run k ss empty).channels (kept ss)

  pub none_is_refused : (ss : List (Step K k)) → OfEach (NoneRefused k.signer) (run k ss empty)
  none_is_refused ss = of_each (NoneRefused k.signer) (channels.none_refused k.signer) (run k ss empty).channels
      (kept ss)

  pub agrees : (ss : List (Step K k)) → OfEach Agrees (run k ss empty)
  agrees ss = of_each Agrees (channels.agrees k.signer) (run k ss empty).channels (kept ss)

  pub both_close : (ss : List (Step K k)) → OfEach BothClose (run k ss empty)
  both_close ss = of_each BothClose (channels.both_close k.signer) (run k ss empty).channels (kept ss)

  pub readiness_agrees : (ss : List (Step K k)) → OfEach ReadinessAgrees (run k ss empty)
  readiness_agrees ss = of_each ReadinessAgrees (channels.readiness_agrees k.signer) (run k ss empty).channels (kept ss)

  pub all_taken : (ss : List (Step K k)) → OfEach (AllTaken k.signer) (run k ss empty)
  all_taken ss = of_each (AllTaken k.signer) (channels.all_accepted k.signer) (run k ss empty).channels
      (kept ss)

  pub one_fee : (ss : List (Step K k)) → OfEach OneFee (run k ss empty)
  one_fee ss = of_each OneFee (channels.closes_at_one_fee k.signer) (run k ss empty).channels (kept ss)

  pub answered : (ss : List (Step K k)) → OfEach AnswersShutdown (run k ss empty)
  answered ss = of_each AnswersShutdown (channels.answers_shutdown k.signer) (run k ss empty).channels
      (kept ss)

  pub do_exactly : (ss : List (Step K k)) → OfEach (DoExactly k.signer) (run k ss empty)
  do_exactly ss = of_each (DoExactly k.signer) (doing.do_exactly k.signer) (run k ss empty).channels
      (kept ss)

  pub sign_covered : (ss : List (Step K k)) → OfEach (SignCovered k.signer) (run k ss empty)
  sign_covered ss = of_each (SignCovered k.signer) (links_sign k.signer) (run k ss empty).channels
      (kept ss)
