-- A channel is opened: its ends have nothing yet that a payment is read off.
use Rattle.std.proofs.Common.{◌≡◌, ◌⊎◌, inl, inr, ℕ, zero, suc, ◌≤◌, ◌<◌, List, [], ◌∷◌, ◌++◌, take, refl, sym, ap, ◌∙◌}
use Rattle.std.proofs.Common.{subst, arith}
use Rattle.std.proofs.Common.{Bool, true, false, cond, not, ◌==◌, ◌&&◌, is_none, Option, Some, None}
use Rattle.std.specs.Prelude.{option_map}
use Rattle.std.specs.List.{find}
use Rattle.ln_keys.specs.declared.keys.ChannelKeys.{Ghosts}
use Rattle.ln_keys.specs.declared.role.Role.{Role}
use Rattle.ln_keys.specs.declared.role.Role.TheVariants.{Funder, Fundee}
use Rattle.ln_hooks.specs.declared.verdict.Verdict.{Verdict}
use Rattle.ln_log.specs.declared.update.Update.{Update}
use Rattle.ln_log.specs.Updates.{add_with, outcome}
use Rattle.ln_channel.specs.End.{End as ChannelEnd}
use Rattle.ln_channel.specs.Record.{saved_end}
use Rattle.ln_channel.specs.State.{State, is_down}
use Rattle.ln_world_channels.specs.declared.settings.Settings.{Settings}
use Rattle.ln_world_channels.specs.declared.step.Node.{Node}
use Rattle.ln_world_channels.specs.declared.step.Open.{Open}
use Rattle.ln_world_channels.specs.declared.step.Step.TheVariants as channel_step
use Rattle.ln_world_channels.specs.Settings.{channel_id_of, may_bring}
use Rattle.ln_world_channels.specs.WorldChannel.{WorldChannel, is_node, side_of, place_of, opened_by}
use Rattle.ln_world_channels.specs.World.{channel, may_open, settings_of, joined}
use Rattle.ln_world_channels.proofs.Kept.{IsOpen}
use Rattle.ln_world_channels.proofs.Promised.{brings_so, opened_run, happened}
use Rattle.ln_world_dispatch.specs.World.{new_dispatchers, decided_of}
use Rattle.ln_world.specs.declared.step.Step.TheVariants as step
use Rattle.ln_world.specs.World.{World, happens, link_by, link_there, saved_of}
use Rattle.ln_payment.specs.Parts.{Out, Undecided, NoRemoval}
use Rattle.ln_payment_circuits.specs.Snapshot.{is_gone, Incoming, IsIn, origin}
use Rattle.ln_payment_circuits.specs.Circuit.{Forwards}
use Rattle.ln_payment_circuits.proofs.Parts.{removal_by, stage_by}
use Rattle.ln_payment_circuits.proofs.Links.{Side, Links, HasAddAt, AreOuts, course_at, decision_at, decision_by}
use Rattle.ln_payment_circuits.proofs.Links.{removal_at}
use Rattle.ln_payment_circuits.proofs.Shifts.{side_of as read_side}
use Rattle.ln_payment_circuits.proofs.Scenes.{HavePayments, by_moves}
use Rattle.ln_payment_circuits.proofs.Resumed.{HoldAlike}
use Rattle.ln_payment_circuits.proofs.Agrees.{agrees_fewer, was_same}
use Rattle.ln_payment_circuits.proofs.Past.{IsPast, past_on, offers_same}
use Rattle.ln_book_tables.specs.declared.htlc.Htlc.{Htlc}
use Rattle.ln_world.specs.Circuit.{has_halted}
use Rattle.ln_world.proofs.Ends.{is_link, x_is, y_is}
use Rattle.ln_world.proofs.Tidies.{funder_fresh, fundee_fresh}
use Rattle.ln_world.proofs.Scene.{link_in, links_of, scene_of}
use Rattle.ln_world.proofs.Anew.{AreSmall}
use Rattle.ln_world.proofs.Orderly.{Names, OneLater, SideNames, DispatchersLater, Any, orderly, stays_later, later_same}
use Rattle.ln_world.proofs.Orderly.{some_join, view_of, dispatchers_stay}
use Rattle.ln_world.proofs.Keeping.{Holds}

-- ---- a link with nothing

pub record IsFresh {K : Type 0} (s : State K) : Type 0 where
  pub end : ChannelEnd
  pub saved : saved_of (Some s) ≡ Some end
  pub awake : s.halted ≡ false
  pub own : end.dance.log.own ≡ []
  pub results : end.ledger.results ≡ []
  pub decisions : end.ledger.decisions ≡ []

-- as it was, or new
abbrev pub Joins : {K : Type 0} → Option (State K) → Option (State K) → Type 0
Joins o p = (p ≡ o) ⊎ ((o ≡ None) × ((s : State _) × (p ≡ Some s) × IsFresh s))

awake_by : (b down : Bool) → (b ≡ true → down ≡ true) → down ≡ false → b ≡ false
awake_by false down h e = refl
awake_by true down h e = absurd (let no : true ≡ false = sym (h refl) ∙ e in cc)

module _ {K : Type 0} (k : Ghosts K) (o : Open K k) (s t : Settings) (may : may_bring o.satoshis o.push s t ≡ true)
  where
    abbrev opened_now : IsOpen k.signer (opened_by k o s t)
    opened_now = opened_run k o s t (brings_so o.satoshis o.push s t may)

    fresh_side : (side : Role) → IsFresh (place_of side (opened_by k o s t).both).link
    unfolding is_link x_is y_is
    fresh_side Funder =
        let r = opened_now in
        let l = is_link k.signer (channel_id_of o.channel) (opened_by k o s t).both r Funder in
        record {
          end = l.end;
          saved = ap (λ (z : State K). saved_end z.stage) l.link;
          awake = ap (λ (z : State K). z.halted) l.link ∙ awake_by l.halted (is_down l.connection) l.down refl;
          own = funder_fresh (k.signer r.funders) (k.signer r.fundees) r.spec r.config r.funder r.fundee r.keys r.opens;
          results = refl;
          decisions = refl;
        }
    fresh_side Fundee =
        let r = opened_now in
        let l = is_link k.signer (channel_id_of o.channel) (opened_by k o s t).both r Fundee in
        record {
          end = l.end;
          saved = ap (λ (z : State K). saved_end z.stage) l.link;
          awake = ap (λ (z : State K). z.halted) l.link ∙ awake_by l.halted (is_down l.connection) l.down refl;
          own = fundee_fresh (k.signer r.funders) (k.signer r.fundees) r.spec r.config r.funder r.fundee r.keys r.opens;
          results = refl;
          decisions = refl;
        }

    fresh_by : (n : Node) (q : Option Role) → Joins None (link_by (opened_by k o s t) q)
    fresh_by n None = inl refl
    fresh_by n (Some side) = inr (refl, ((place_of side (opened_by k o s t).both).link, refl, fresh_side side))

module _ {K : Type 0} (n : Node) (c : WorldChannel K) (fresh : Joins None (link_by c (side_of n c))) where
  joined_link : (cs : List (WorldChannel K)) (d : ℕ) → Joins (link_in n d cs) (link_in n d (cs ++ c ∷ []))
  joined_link [] d = cases (c.number == d)
    where
      cases : (b : Bool) → Joins None (link_there n (cond b (Some c) None))
      cases true = fresh
      cases false = inl refl
  joined_link (x ∷ cs) d = cases (x.number == d) (joined_link cs d)
    where
      cases : (b : Bool) → Joins (link_in n d cs) (link_in n d (cs ++ c ∷ []))
          → Joins (link_there n (cond b (Some x) (channel d cs)))
          (link_there n (cond b (Some x) (channel d (cs ++ c ∷ []))))
      cases true r = inl refl
      cases false r = r

-- ---- what a payment is read off

no_front : (k : ℕ) (us : List Update) → us ≡ [] → take k us ≡ []
no_front zero us e = refl
no_front (suc k) [] e = refl
no_front (suc k) (u ∷ us) e = absurd (cc)

module _ {K : Type 0} (n : Node) (cs ds : List (WorldChannel K))
    (joins : (d : ℕ) → Joins (link_in n d cs) (link_in n d ds)) where
  abbrev S : Links
  S = links_of n cs

  abbrev T : Links
  T = links_of n ds

  -- a part that a fresh side has like none
  same_part : {A : Type 0} (f : Option Side → A) → ((x : ChannelEnd) → x.dance.log.own ≡ [] → x.ledger.decisions ≡ []
      → f (Some (read_side x)) ≡ f None) → (d : ℕ) → f (T.sides d) ≡ f (S.sides d)
  same_part f none d = elim (joins d) [
    | inl same ↦ ap (λ z. f (option_map read_side (saved_of z))) same
    | inr r ↦ ap (λ z. f (option_map read_side (saved_of z))) r.1.1
        ∙ ap (λ z. f (option_map read_side z)) r.1.2.saved ∙ none r.1.2.end r.1.2.own r.1.2.decisions
        ∙ sym (ap (λ z. f (option_map read_side (saved_of z))) r.0)
  ]

  halted_same : (d : ℕ) → T.halted d ≡ S.halted d
  halted_same d = elim (joins d) [
    | inl same ↦ ap has_halted same
    | inr r ↦ ap has_halted r.1.1 ∙ r.1.2.awake ∙ sym (ap has_halted r.0)
  ]

  -- it has no add
  was_there : (o : List ℕ × ℕ) (d i : ℕ) → HasAddAt o i (T.sides d) → T.sides d ≡ S.sides d
  was_there o d i a = elim (joins d) [
    | inl same ↦ ap (λ z. option_map read_side (saved_of z)) same
    | inr r ↦ absurd (subst (λ us. Forwards o (add_with i us)) r.1.2.own
        (subst (HasAddAt o i) (ap (λ z. option_map read_side (saved_of z)) r.1.1
        ∙ ap (option_map read_side) r.1.2.saved) a))
  ]

  still_there : (o : List ℕ × ℕ) (d i : ℕ) → HasAddAt o i (S.sides d) → T.sides d ≡ S.sides d
  still_there o d i a = elim (joins d) [
    | inl same ↦ ap (λ z. option_map read_side (saved_of z)) same
    | inr r ↦ absurd (subst (HasAddAt o i) (ap (λ z. option_map read_side (saved_of z)) r.0) a)
  ]

  outs_so : (h : Incoming) (qs : List Out) → AreOuts (origin channel_id_of) h S qs
      → AreOuts (origin channel_id_of) h T qs
  outs_so h [] o =
      λ c i a. o c i (subst (HasAddAt (origin channel_id_of h) i) (was_there (origin channel_id_of h) c i a) a)
  outs_so h (q ∷ []) o =
      let same = still_there (origin channel_id_of h) q.channel q.id o.0 in (
        subst (HasAddAt (origin channel_id_of h) q.id) (sym same) o.0,
        o.1 ∙ ap (course_at q.id) (sym same),
        λ c i a. o.2 c i (subst (HasAddAt (origin channel_id_of h) i) (was_there (origin channel_id_of h) c i a) a),
      )
  outs_so h (q ∷ r ∷ qs) o = absurd o

  none_decided : (id : ℕ) (x : ChannelEnd) → x.dance.log.own ≡ [] → x.ledger.decisions ≡ []
      → decision_at id (Some (read_side x)) ≡ Undecided
  none_decided id x own ds =
      ap (λ z. decision_by (find (λ d. d.id == id) z) (is_gone id (take x.dance.log.first.own x.dance.log.own))) ds
      ∙ ap (λ us. decision_by None (is_gone id us)) (no_front x.dance.log.first.own x.dance.log.own own)

  none_removed : (id : ℕ) (x : ChannelEnd) → x.dance.log.own ≡ [] → removal_at id (Some (read_side x)) ≡ NoRemoval
  none_removed id x own = ap (λ us. removal_by (outcome id us)
      (stage_by (is_gone id (take x.dance.log.current.own x.dance.log.own))
      (is_gone id (take x.dance.log.signed.own x.dance.log.own)))) own

  pub joined_paid : (xs : List Htlc) → HavePayments channel_id_of (record { links = S; book = xs })
      → HavePayments channel_id_of (record { links = T; book = xs })
  joined_paid xs k h =
      by_moves channel_id_of h (record { links = T; book = xs }) (k h).0 ((k h).1.kept, (k h).1.holds) [] tt
      (record {
        decision = (k h).1.of_links.decision
            ∙ sym (same_part (decision_at h.id) (λ x own ds. none_decided h.id x own ds) h.channel);
        removal =
            (k h).1.of_links.removal ∙ sym (same_part (removal_at h.id)
            (λ x own ds. none_removed h.id x own) h.channel);
        outs = outs_so h (k h).0.outs (k h).1.of_links.outs;
        halted = λ d. (k h).1.of_links.halted d ∙ sym (halted_same d);
      })
      (k h).1.note

  pub joined_agrees : (xs : List Htlc) → HoldAlike channel_id_of (record { links = S; book = xs })
      → HoldAlike channel_id_of (record { links = T; book = xs })
  joined_agrees xs =
      agrees_fewer channel_id_of (record { links = S; book = xs }) (record { links = T; book = xs }) (record {
        links = λ c Y is d m. elim (joins c) [
          | inl same ↦ (Y, sym (ap (λ z. option_map read_side (saved_of z)) same) ∙ is, m)
          | inr r ↦ absurd (
              let some : Some Y ≡ Some (read_side r.1.2.end) =
              sym is ∙ ap (λ z. option_map read_side (saved_of z)) r.1.1
              ∙ ap (option_map read_side) r.1.2.saved in
              let same : Y ≡ read_side r.1.2.end = cc in
              subst (IsIn d) r.1.2.decisions (subst (λ (z : Side). IsIn d z.decisions) same m))
        ];
        book = λ x m. (x, m, was_same x);
      })

  pub joined_past : (xs : List Htlc) → IsPast channel_id_of (record { links = S; book = xs })
      → IsPast channel_id_of (record { links = T; book = xs })
  joined_past xs = past_on channel_id_of (record { links = S; book = xs }) (record { links = T; book = xs })
      (λ c halted. elim (joins c) [
        | inl same ↦ (ap has_halted (sym same) ∙ halted, ap (λ z. option_map read_side (saved_of z)) same)
        | inr r ↦ absurd (let no : true ≡ false = sym halted ∙ ap has_halted r.1.1 ∙ r.1.2.awake in cc)
      ])
      (λ q c i y halted. offers_same channel_id_of xs xs refl q c i y)

  pub joined_later : (d : ℕ) → OneLater (link_in n d cs) (link_in n d ds)
  joined_later d = elim (joins d) [
    | inl same ↦ stays_later (link_in n d cs) (link_in n d ds) same
    | inr r ↦ record {
      decided = subst (λ z. decided_of (saved_of z) ≤ decided_of (saved_of (link_in n d ds))) (sym r.0) (omega arith);
      names = λ a. subst (λ z. SideNames (option_map read_side (saved_of z))) (sym r.1.1)
          (subst (λ z. SideNames (option_map read_side z)) (sym r.1.2.saved)
          (λ i. subst (λ us. Names (add_with i us)) (sym r.1.2.own) tt));
    }
  ]

-- ---- the step

module _ {K : Type 0} (k : Ghosts K) (n : Node) (v : Verdict) (w : World K) (h : Holds k n w) (o : Open K k)
    (few : o.channel < 256)
  where
    abbrev cs : List (WorldChannel K)
    cs = w.dispatchers.channels.channels

    abbrev c : WorldChannel K
    c = opened_by k o (settings_of o.funder w.dispatchers.channels.settings)
        (settings_of o.fundee w.dispatchers.channels.settings)

    brings : may_open o w.dispatchers.channels ≡ true
        → may_bring o.satoshis o.push (settings_of o.funder w.dispatchers.channels.settings)
        (settings_of o.fundee w.dispatchers.channels.settings) ≡ true
    brings e = last (not (is_node o.funder o.fundee)) (is_none (channel o.channel cs)) _ e
      where
        last : (x y z : Bool) → (x && (y && z)) ≡ true → z ≡ true
        last true true z f = f
        last true false z f = absurd (cc)
        last false y z f = absurd (cc)

    small_joined : (xs : List (WorldChannel K)) → AreSmall xs → AreSmall (xs ++ c ∷ [])
    small_joined [] a = (few, tt)
    small_joined (x ∷ xs) a = (a.0, small_joined xs a.1)

    abbrev u : World K
    u = happens k v (step.Open o) w

    joins_by : (b : Bool) → may_open o w.dispatchers.channels ≡ b → (d : ℕ)
        → Joins (link_in n d cs) (link_in n d (cond b
        (joined c w.dispatchers.channels) w.dispatchers.channels).channels)
    joins_by true is d = joined_link n c (fresh_by k o (settings_of o.funder w.dispatchers.channels.settings)
        (settings_of o.fundee w.dispatchers.channels.settings) (brings is) n (side_of n c)) cs d
    joins_by false is d = inl refl

    joins_so : (d : ℕ) → Joins (link_in n d cs) (link_in n d u.dispatchers.channels.channels)
    joins_so d = joins_by (may_open o w.dispatchers.channels) refl d

    small_by : (b : Bool) → AreSmall (cond b (joined c w.dispatchers.channels) w.dispatchers.channels).channels
    small_by true = small_joined cs h.well.small
    small_by false = h.well.small

    dispatchers_by : (b : Bool) → DispatchersLater n w.dispatchers.dispatchers
        (cond b (w.dispatchers.dispatchers ++ new_dispatchers o.channel o.funder o.fundee) w.dispatchers.dispatchers)
    dispatchers_by true = some_join n w.dispatchers.dispatchers (new_dispatchers o.channel o.funder o.fundee)
    dispatchers_by false = dispatchers_stay n w.dispatchers.dispatchers

    pub open_holds : Holds k n u
    open_holds = record {
      well = record {
        open_ = happened k (channel_step.Open o) w.dispatchers.channels h.well.open_;
        small = small_by (may_open o w.dispatchers.channels);
        calm = h.well.calm;
        paid = joined_paid n cs u.dispatchers.channels.channels joins_so (scene_of n w).book h.well.paid;
        agrees = joined_agrees n cs u.dispatchers.channels.channels joins_so (scene_of n w).book h.well.agrees;
        past = joined_past n cs u.dispatchers.channels.channels joins_so (scene_of n w).book h.well.past;
      };
      order = orderly n w u (joined_later n cs u.dispatchers.channels.channels joins_so) (λ q m. m)
          (later_same Any (view_of n w).htlcs) (dispatchers_by (may_open o w.dispatchers.channels)) h.order;
    }
