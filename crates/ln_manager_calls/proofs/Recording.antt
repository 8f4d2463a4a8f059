-- What a call of a link leaves in its records, and what they tell of its seat then.
use Rattle.std.proofs.Common.{◌≡◌, ◌⊎◌, inl, inr, ℕ, zero, suc, List, [], ◌∷◌, ◌++◌, length, slice_get, slice_set, refl}
use Rattle.std.proofs.Common.{sym, ap, ◌∙◌, subst, nat_le, arith, Bool, true, false, cond, not, ◌||◌, ◌==◌, is_none}
use Rattle.std.proofs.Common.{is_some}
use Rattle.std.proofs.Common.{Option, Some, None, Result, Ok, Err}
use Rattle.std.specs.Prelude.{option_map}
use Rattle.std.specs.FinMap as map
use Rattle.std.specs.FinMap.{get-empty, get-insert}
use Rattle.std.proofs.lemmas.Bool.{eqb-true, eq-eqb}
use Rattle.std.proofs.lemmas.Cmp.{eq_by_cmp_equiv, nat_list_cmp_total}
use Rattle.std.specs.Cmp.Lexicographic.{slice_cmp}
use Rattle.std.specs.Ordering.{nat_cmp, is_eq}
use Rattle.std.proofs.lemmas.Map.Text.{is_eq-slice_cmp}
use Rattle.std.proofs.lemmas.Slice.Eq.{bytes_eq-Decides}
use Rattle.ln_msgs.specs.Pings.Counted.{HasRisen}
use Rattle.ln_msgs.specs.declared.messages.message.Message.{Message}
use Rattle.ln_refusals.specs.declared.refusal.Refusal.{Refusal}
use Rattle.ln_refusals.specs.declared.refusal.Refusal.TheVariants as refusal
use Rattle.ln_keys.specs.Signer.{Signer}
use Rattle.ln_log.specs.Log.{Log}
use Rattle.ln_log.specs.RecordForm.{record_form_of, IsRestorable}
use Rattle.ln_log.specs.declared.log.Side.{Side}
use Rattle.ln_channel.specs.declared.command.Command as commands
use Rattle.ln_channel.specs.declared.machine.Stage.{Stage}
use Rattle.ln_channel.specs.declared.machine.Stage.TheVariants as stage
use Rattle.ln_channel.specs.declared.output.Output.{Output}
use Rattle.ln_channel.specs.End.{End, end_dropped}
use Rattle.ln_channel.specs.Failing.{fails}
use Rattle.ln_channel.specs.Naming.{opens}
use Rattle.ln_channel.specs.Record.{saved_end}
use Rattle.ln_channel.specs.State.{State, KeepsChannel, kept_channel, refused, unless_failed, fails_by, failed}
use Rattle.ln_channel.specs.Step.{Done, commanded, handled, makes_view, opened}
use Rattle.ln_store.specs.declared.record.Items.{Items}
use Rattle.ln_store.specs.Readable.{is_readable}
use Rattle.ln_store.specs.Record.{record_bytes, unsealed}
use Rattle.ln_store.specs.Store.{Records, IsOneOf, StoreView, in_memory}
use Rattle.ln_link.specs.Calls as link
use Rattle.ln_link.specs.Calls.{Has}
use Rattle.ln_link.specs.Loading.{HasRecord}
use Rattle.ln_link.specs.Record.{items_of}
use Rattle.ln_link.specs.Saving.{AnswersCommand, AnswersMessage, AnswersOver, FailsBy, HandsOut, HaltsBehind}
use Rattle.ln_link.specs.Saving.{HaltsAnswered, HaltsEarly, HaltsRefused, IsUnsaved, SavesIf, handled_beside, is_known}
use Rattle.ln_link.specs.Saving.{reached}
use Rattle.ln_link.specs.Saving.{fails_now, has_same_record, is_update, sends_update, sent_alone, settled, stored_end}
use Rattle.ln_link.specs.Saving.{taken_alone}
use Rattle.ln_link.proofs.Calls.{call_still, command_recorded, message_recorded, refused_by}
use Rattle.ln_link.proofs.Recorded.{recorded, lost_twice}
use Rattle.ln_link.proofs.Refusing.{has_halted}
use Rattle.ln_manager_laws.specs.Calls.{Seat, working, seated}
use Rattle.ln_manager_laws.proofs.Seats.{IsSound}
use Rattle.ln_manager_channels.specs.declared.newest.Newest.{Newest}
use Rattle.ln_manager_channels.specs.Moves.{no_record, store_of, with_place}
use Rattle.ln_manager_channels.specs.Places.{changed_at, changed_by}
use Rattle.ln_manager_calls.specs.Standing.{AreOf, FailsAs, HasId, IsFailing, IsRecorded, Kept, Loaded, kept_at, newest}
use Rattle.ln_manager_calls.specs.Standing.{newest_in}
use Rattle.ln_manager_calls.specs.Standing.{told_by}
use Rattle.ln_manager_calls.proofs.Places.{got_set, set_other}
use Rattle.ln_manager_calls.proofs.Seating.{halted_seat, saved_kept}

-- ---- what stands at a place

abbrev pub kept_of : Loaded → Option Newest → Kept
kept_of old o = record { since = option_map (λ (n : Newest). n.kept) o; loaded = old }

module _ (old : Loaded) (f : Newest → Newest) (same : (n : Newest) → (f n).kept ≡ n.kept) where
  pub changed_same : (c : ℕ) (ns : List Newest) (k : ℕ) → kept_at old (changed_at c f ns) k ≡ kept_at old ns k
  changed_same c ns k = by_record (slice_get ns c) refl
    where
      by_place : (n : Newest) → slice_get ns c ≡ Some n → (b : Bool) → (k == c) ≡ b
          → kept_at old (slice_set ns c (f n)) k ≡ kept_at old ns k
      by_place n at true is =
          let e = eqb-true k c is in
          ap (kept_at old (slice_set ns c (f n))) e ∙ ap (kept_of old) (got_set ns c n (f n) at)
          ∙ ap (λ rs. record { since = Some rs; loaded = old }) (same n)
          ∙ sym (ap (kept_of old) at) ∙ sym (ap (kept_at old ns) e)
      by_place n at false isnt = ap (kept_of old) (set_other ns c k (f n)
          (λ e. absurd (let no : true ≡ false = sym (eq-eqb k c e) ∙ isnt in cc)))

      by_record : (o : Option Newest) → slice_get ns c ≡ o
          → kept_at old (changed_by c f o ns) k ≡ kept_at old ns k
      by_record None at = refl
      by_record (Some n) at = by_place n at (k == c) refl

-- a place more has no record
abbrev pub IsGrown : Kept → Kept → Type 0
IsGrown k k' = (k' ≡ k) ⊎ ((k.since ≡ None) × (k' ≡ record { since = Some map.empty; loaded = k.loaded }))

grown_at : (old : Loaded) (ns : List Newest) (k : ℕ)
    → IsGrown (kept_at old ns k) (kept_at old (ns ++ no_record ∷ []) k)
grown_at old [] zero = inr (refl, refl)
grown_at old [] (suc k) = inl refl
grown_at old (n ∷ ns) zero = inl refl
grown_at old (n ∷ ns) (suc k) = grown_at old ns k

pub placed_at : (old : Loaded) (c : ℕ) (ns : List Newest) (k : ℕ)
    → IsGrown (kept_at old ns k) (kept_at old (with_place c ns) k)
placed_at old c ns k = by_room (nat_le (length ns) c)
  where
    by_room : (b : Bool) → IsGrown (kept_at old ns k) (kept_at old (cond b (ns ++ no_record ∷ []) ns) k)
    by_room true = grown_at old ns k
    by_room false = inl refl

-- ---- one record in a map

got_own : (rs : Records) (id bytes : List ℕ) → map.get (map.insert rs id bytes) id ≡ Some bytes
got_own rs id bytes =
    get-insert nat_list_cmp_total rs id bytes id
    ∙ ap (λ (b : Bool). cond b (Some bytes) (map.get rs id)) ((eq_by_cmp_equiv nat_list_cmp_total).refl id)

got_else : (rs : Records) (id bytes i : List ℕ) → (i ≡ id → ⊥) → map.get (map.insert rs id bytes) i ≡ map.get rs i
got_else rs id bytes i isnt = get-insert nat_list_cmp_total rs id bytes i ∙ cases (is_eq (slice_cmp nat_cmp i id)) refl
  where
    cases : (b : Bool) → is_eq (slice_cmp nat_cmp i id) ≡ b → cond b (Some bytes) (map.get rs i) ≡ map.get rs i
    cases true is = absurd (isnt ((bytes_eq-Decides i id).0 (sym (is_eq-slice_cmp i id) ∙ is)))
    cases false is = refl

-- there is none in an empty one
pub none_got : (id : List ℕ) → map.get {K = List ℕ} {X = List ℕ} {R = slice_cmp nat_cmp} map.empty id ≡ None
none_got id = get-empty (slice_cmp nat_cmp) id

-- what is found is what was put, or was there
got_either : (rs : Records) (id bytes i found : List ℕ) → map.get (map.insert rs id bytes) i ≡ Some found
    → ((i ≡ id) × (found ≡ bytes)) ⊎ (map.get rs i ≡ Some found)
got_either rs id bytes i found got =
    cases (is_eq (slice_cmp nat_cmp i id)) refl (sym (get-insert nat_list_cmp_total rs id bytes i) ∙ got)
  where
    cases : (b : Bool) → is_eq (slice_cmp nat_cmp i id) ≡ b → cond b (Some bytes) (map.get rs i) ≡ Some found
        → ((i ≡ id) × (found ≡ bytes)) ⊎ (map.get rs i ≡ Some found)
    cases true is at =
        let some : Some bytes ≡ Some found = at in
        let same : found ≡ bytes = cc in
        inl ((bytes_eq-Decides i id).0 (sym (is_eq-slice_cmp i id) ∙ is), same)
    cases false is at = inr at

-- a record has bytes
pub told_record : (i : Items) (before : Option (List ℕ)) → told_by (Some (record_bytes i)) before
    ≡ Some (record_bytes i)
unfolding unsealed
told_record i before = refl

-- ---- what records tell

module _ (F G : Option Refusal → Type 0) (o : Option End) (k : Kept) where
  pub weakened : ((f : Option Refusal) → F f → G f) → AreOf F o k → AreOf G o k
  weakened so h = record {
    has = λ e is. let r = h.has e is in (r.0, so r.0 r.1, r.2, r.3);
    alone = h.alone;
  }

pub grown_of : (F : Option Refusal → Type 0) (o : Option End) (k k' : Kept) → AreOf F o k → IsGrown k k' → AreOf F o k'
grown_of F o k k' h (inl same) = subst (AreOf F o) (sym same) h
grown_of F o k k' h (inr is) = subst (AreOf F o) (sym is.1) (record {
  has = λ e at.
      let r = h.has e at in (
        r.0,
        r.1,
        r.2,
        ap (λ b. told_by b (k.loaded e.dance.channel)) (none_got e.dance.channel)
            ∙ ap (λ s. newest_in s e.dance.channel (k.loaded e.dance.channel)) (sym is.0) ∙ r.3,
      );
  alone = λ rs now id bytes got.
      let some : Some map.empty ≡ Some rs = now in
      let same : rs ≡ map.empty = cc in
      absurd (let no : None ≡ Some bytes = sym (none_got id) ∙ ap (λ z. map.get z id) (sym same) ∙ got in cc);
})

-- a lost connection leaves the same record
pub dropped_has : (f : Option Refusal) (e : End) → HasRecord f e → HasRecord f (end_dropped e)
dropped_has f e h = record {
  sound = record {
    one_role = h.sound.one_role;
    opening = h.sound.opening;
    fees = h.sound.fees;
    scripts = h.sound.scripts;
  };
  open_channel = h.open_channel;
  accept_channel = h.accept_channel;
  output = h.output;
  log = subst (λ (l : Log). IsRestorable (record_form_of e.dance.log.first l)) (sym (lost_twice e.dance.log)) h.log;
  items = ap is_readable (recorded f e) ∙ h.items;
}

pub dropped_of : (F : Option Refusal → Type 0) (o : Option End) (k : Kept) → AreOf F o k
    → AreOf F (option_map end_dropped o) k
dropped_of F None k h = h
dropped_of F (Some d) k h = record {
  has = λ e is.
      let same : end_dropped d ≡ e = cc in
      let r = h.has d refl in
      subst (λ z. (f : Option Refusal) × F f × HasRecord f z
      × (newest k z.dance.channel ≡ Some (record_bytes (items_of f z)))) same
      (r.0, r.1, dropped_has r.0 d r.2, r.3 ∙ ap (λ i. Some (record_bytes i)) (sym (recorded r.0 d)));
  alone = λ rs now id bytes got. elim (h.alone rs now id bytes got) [
    | inl none ↦ inl none
    | inr own ↦
        let some : Some d ≡ Some own.0 = own.1 in
        let same : own.0 ≡ d = cc in
        inr (end_dropped d, refl, ap (λ (z : End). z.dance.channel) (sym same) ∙ own.2)
  ];
}

-- the id of another channel is known, too
module _ (id : List ℕ) (F : Option Refusal → Type 0) (o : Option End) (rs : Records) (old : Loaded) where
  pub knowing_of : ((e : End) → o ≡ Some e → e.dance.channel ≡ id → ⊥)
      → AreOf F o (record { since = Some rs; loaded = old })
      → AreOf F o (record { since = Some (map.insert rs id []); loaded = old })
  knowing_of apart h = record {
    has = λ e is.
        let r = h.has e is in (
          r.0,
          r.1,
          r.2,
          ap (λ b. told_by b (old e.dance.channel)) (got_else rs id [] e.dance.channel (apart e is))
              ∙ r.3,
        );
    alone = λ ts now i bytes got.
        let some : Some (map.insert rs id []) ≡ Some ts = now in
        let same : ts ≡ map.insert rs id [] = cc in
        elim (got_either rs id [] i bytes (ap (λ z. map.get z i) (sym same) ∙ got)) [
          | inl put ↦ inl put.1
          | inr was ↦ h.alone rs refl i bytes was
        ];
  }

-- ---- an end, and a store

kept_saved : (s : Stage) (c : List ℕ) → kept_channel s ≡ Some c → saved_end s ≡ None → ⊥
kept_saved (stage.Funded e) c is none = absurd (cc)
kept_saved (stage.AwaitsOpen x) c is none = absurd (cc)
kept_saved (stage.AwaitsAccept x) c is none = absurd (cc)
kept_saved (stage.AwaitsCreated x) c is none = absurd (cc)
kept_saved (stage.AwaitsSigned x) c is none = absurd (cc)
kept_saved stage.Gone c is none = absurd (cc)

-- the end of a link that keeps its channel has the same id
same_id : (s t : Stage) (d e : End) → KeepsChannel s t → saved_end s ≡ Some d → saved_end t ≡ Some e
    → e.dance.channel ≡ d.dance.channel
same_id s t d e keeps was is =
    let some : Some e.dance.channel ≡ Some d.dance.channel =
    sym (saved_kept t e is) ∙ keeps d.dance.channel (saved_kept s d was) in cc

-- an end with this id is there still
still_there : (s t : Stage) (id : List ℕ) → KeepsChannel s t → HasId (saved_end s) id → HasId (saved_end t) id
still_there s t id keeps own = by_end (saved_end t) refl
  where
    by_end : (o : Option End) → saved_end t ≡ o → HasId (saved_end t) id
    by_end None none =
        absurd (kept_saved t own.0.dance.channel (keeps own.0.dance.channel (saved_kept s own.0 own.1)) none)
    by_end (Some e) is = (e, is, same_id s t own.0 e keeps own.1 is ∙ own.2)

steady : HasRisen 0 0 → ⊥
steady h = omega (arith, h)

-- ---- a link

module _ {K : Type 0} where
  -- the newest is its end's, with its failure
  abbrev pub IsOwn : State K → Kept → Type 0
  IsOwn l k = AreOf (λ f. f ≡ l.failure) (saved_end l.stage) k

  -- ---- what a call leaves

  -- what has the record of a link has that of the other one
  abbrev pub Stays : State K → State K → Type 0
  Stays l l' = (vs : Records) → (saved_end l.stage ≡ None → vs ≡ map.empty) → Has l.failure (saved_end l.stage) vs
      → Has l'.failure (saved_end l'.stage) vs

  -- the record of the link as it is then, or what was there, which is its record still where it works
  pub data Left (l l' : State K) (rs rs' : Records) : Type 0 where
    Put : l'.halted ≡ false → (e : End) → saved_end l'.stage ≡ Some e → HasRecord l'.failure e
        → rs' ≡ map.insert rs e.dance.channel (record_bytes (items_of l'.failure e)) → Left l l' rs rs'
    Same : l'.halted ≡ false → rs' ≡ rs → Stays l l' → Left l l' rs rs'
    Halts : l'.halted ≡ true → rs' ≡ rs → Left l l' rs rs'

  module _ (l l' : State K) (rs rs' : Records) (old : Loaded) (keeps : KeepsChannel l.stage l'.stage) where
    abbrev was : Kept
    was = record { since = Some rs; loaded = old }

    abbrev now : Kept
    now = record { since = Some rs'; loaded = old }

    -- it is put
    put_own : (e : End) → saved_end l'.stage ≡ Some e → HasRecord l'.failure e
        → rs' ≡ map.insert rs e.dance.channel (record_bytes (items_of l'.failure e)) → IsOwn l was → IsOwn l' now
    put_own e end has is h = record {
      has = λ d at.
          let some : Some e ≡ Some d = sym end ∙ at in
          let same : e ≡ d = cc in
          subst (λ z. (f : Option Refusal) × (f ≡ l'.failure) × HasRecord f z
          × (newest now z.dance.channel ≡ Some (record_bytes (items_of f z)))) same (
            l'.failure,
            refl,
            has,
            ap (λ ts. told_by (map.get ts e.dance.channel) (old e.dance.channel)) is
                ∙ ap (λ b. told_by b (old e.dance.channel)) (got_own rs e.dance.channel _)
                ∙ told_record (items_of l'.failure e) (old e.dance.channel),
          );
      alone = λ ts at id bytes got.
          let some : Some rs' ≡ Some ts = at in
          let same : ts ≡ rs' = cc in
          elim (got_either rs e.dance.channel _ id bytes (ap (λ z. map.get z id) (sym is) ∙ ap (λ z. map.get z id)
          (sym same) ∙ got)) [
            | inl put ↦ inr (e, end, sym put.0)
            | inr there ↦ elim (h.alone rs refl id bytes there) [
              | inl none ↦ inl none
              | inr own ↦ inr (still_there l.stage l'.stage id keeps own)
            ]
          ];
    }

    -- what was there is its record still
    still_own : rs' ≡ rs → Stays l l' → IsOwn l was → IsOwn l' now
    still_own is stays h = record {
      has = λ e at. by_end (saved_end l.stage) refl e at;
      alone = λ ts at id bytes got.
          let some : Some rs' ≡ Some ts = at in
          let same : ts ≡ rs = cc' ts some in
          elim (h.alone rs refl id bytes (ap (λ z. map.get z id) (sym same) ∙ got)) [
            | inl none ↦ inl none
            | inr own ↦ inr (still_there l.stage l'.stage id keeps own)
          ];
    }
      where
        cc' : (ts : Records) → Some rs' ≡ Some ts → ts ≡ rs
        cc' ts at = let same : rs' ≡ ts = cc in sym same ∙ is

        HasNow : End → Type 0
        HasNow e = (f : Option Refusal) × (f ≡ l'.failure) × HasRecord f e
            × (newest now e.dance.channel ≡ Some (record_bytes (items_of f e)))

        by_end : (o : Option End) → saved_end l.stage ≡ o → (e : End) → saved_end l'.stage ≡ Some e
            → (f : Option Refusal) × (f ≡ l'.failure) × HasRecord f e
            × (newest now e.dance.channel ≡ Some (record_bytes (items_of f e)))
        by_end None none e at =
            let there : Has l'.failure (Some e) map.empty = subst (λ o. Has l'.failure o map.empty) at
            (stays map.empty (λ at. refl) (subst (λ o. Has l.failure o map.empty) (sym none) tt)) in
            absurd (let no : None ≡ Some (record_bytes (items_of l'.failure e)) =
            sym (none_got e.dance.channel) ∙ there.0 in cc)
        by_end (Some d) was_end e at =
            let r = h.has d was_end in
            let bytes = record_bytes (items_of l.failure d) in
            let vs = map.insert map.empty d.dance.channel bytes in
            let has : HasRecord l.failure d = subst (λ f. HasRecord f d) r.1 r.2 in
            let found : newest was d.dance.channel ≡ Some bytes =
            r.3 ∙ ap (λ f. Some (record_bytes (items_of f d))) r.1 in
            let there : Has l'.failure (Some e) vs = subst (λ o. Has l'.failure o vs) at
            (stays vs (λ no. absurd (let none : None ≡ Some d = sym no ∙ was_end in cc))
            (subst (λ o. Has l.failure o vs) (sym was_end)
            (got_own map.empty d.dance.channel bytes, has))) in
            let id = same_id l.stage l'.stage d e keeps was_end at in
            let same : Some bytes ≡ Some (record_bytes (items_of l'.failure e)) =
            sym (got_own map.empty d.dance.channel bytes) ∙ ap (map.get vs) (sym id) ∙ there.0 in (
              l'.failure,
              refl,
              there.1,
              ap (λ ts. told_by (map.get ts e.dance.channel) (old e.dance.channel)) is
                  ∙ ap (newest was) id ∙ found ∙ same,
            )

    pub left_own : Left l l' rs rs' → l'.halted ≡ false → IsOwn l was → IsOwn l' now
    left_own (Put works e end has is) up h = put_own e end has is h
    left_own (Same works is stays) up h = still_own is stays h
    left_own (Halts halted is) up h = absurd (let no : true ≡ false = sym halted ∙ up in cc)

    pub left_halted : Left l l' rs rs' → l'.halted ≡ true → rs' ≡ rs
    left_halted (Put works e end has is) halted = absurd (let no : true ≡ false = sym halted ∙ works in cc)
    left_halted (Same works is stays) halted = is
    left_halted (Halts is_halted is) halted = is

  -- ---- of a link that works

  refused_works : (e : Refusal) (l : State K) → (refused e l).halted ≡ l.halted
  refused_works e l = by_halted l.halted
    where
      by_fault : (b : Bool) → (cond b (failed e l) l).halted ≡ l.halted
      by_fault true = refl
      by_fault false = refl

      by_failure : (o : Option Refusal) → (unless_failed o l (fails_by e l)).halted ≡ l.halted
      by_failure None = by_fault (fails e)
      by_failure (Some f) = refl

      by_halted : (b : Bool) → (cond b l (unless_failed l.failure l (fails_by e l))).halted ≡ l.halted
      by_halted true = refl
      by_halted false = by_failure l.failure

  -- a link with an end opens no channel
  opened_none : (l : State K) (m : Message) (e : End) → saved_end l.stage ≡ Some e → opened l m ≡ None
  opened_none l m e is = by_stage l.stage is (l.halted || not (is_none l.failure))
    where
      by_stage : (s : Stage) → saved_end s ≡ Some e → (b : Bool) → cond b None (opens s m) ≡ None
      by_stage s is true = refl
      by_stage (stage.Funded f) is false = refl
      by_stage (stage.AwaitsOpen x) is false = absurd (cc)
      by_stage (stage.AwaitsAccept x) is false = absurd (cc)
      by_stage (stage.AwaitsCreated x) is false = absurd (cc)
      by_stage (stage.AwaitsSigned x) is false = absurd (cc)
      by_stage stage.Gone is false = absurd (cc)

  -- what was done over these records is done over others, where a link without an end finds none
  same_said : (keys : Signer) (l : State K) (m : Message) (rs vs : Records) (d : Done)
      → handled_beside rs keys l m ≡ Ok d → (saved_end l.stage ≡ None → vs ≡ map.empty)
      → handled_beside vs keys l m ≡ Ok d
  same_said keys l m rs vs d said none = by_known (is_known (opened l m) rs) refl
    where
      unknown : (o : Option End) → saved_end l.stage ≡ o → is_known (opened l m) vs ≡ false
      unknown None is = ap (is_known (opened l m)) (none is) ∙ by_id (opened l m)
        where
          by_id : (o : Option (List ℕ)) → is_known o map.empty ≡ false
          by_id None = refl
          by_id (Some id) = ap is_some (none_got id)
      unknown (Some e) is = ap (λ o. is_known o vs) (opened_none l m e is)

      by_known : (b : Bool) → is_known (opened l m) rs ≡ b → handled_beside vs keys l m ≡ Ok d
      by_known true is = absurd (let no : Err refusal.OutOfPlace ≡ Ok d =
          sym (ap (λ b. cond b (Err refusal.OutOfPlace) (handled keys l m)) is) ∙ said in cc)
      by_known false is =
          ap (λ b. cond b (Err refusal.OutOfPlace) (handled keys l m)) (unknown (saved_end l.stage) refl)
          ∙ sym (ap (λ b. cond b (Err refusal.OutOfPlace) (handled keys l m)) is) ∙ said

  module _ (l l' : State K) (n n' : Newest) (works : l.halted ≡ false) where
    stores : store_of n' ≡ store_of n → n'.kept ≡ n.kept
    stores is = ap (λ (x : StoreView). x.records) is

    unsaved_same : (e : Refusal) (f : Option Refusal) (o : Option End) → IsUnsaved e f o (store_of n) (store_of n')
        → n'.kept ≡ n.kept
    unsaved_same e f o u = by u.cause u.one_of_both
      where
        by : FailsBy e f o 0 0 → IsOneOf e n.kept (stored_end f o n.kept) n'.kept → n'.kept ≡ n.kept
        by c (inl same) = same
        by (inl m) (inr n) = absurd (let no : refusal.Memory ≡ refusal.Store = sym m.0 ∙ n.0 in cc)
        by (inr (inl m)) (inr n) = absurd (let no : refusal.Damaged ≡ refusal.Store = sym m.0 ∙ n.0 in cc)
        by (inr (inr m)) (inr n) = absurd (steady m.2)

    -- saved where it has to be, or its record is what it was
    saved_left : l'.halted ≡ false → (b : Bool) → SavesIf b l'.failure (saved_end l'.stage) (store_of n) (store_of n')
        → (b ≡ false → Stays l l') → Left l l' n.kept n'.kept
    saved_left up false saves stays = Same up (stores saves) (stays refl)
    saved_left up true saves stays = by_end (saved_end l'.stage) refl saves
      where
        by_end : (o : Option End) → saved_end l'.stage ≡ o → SavesIf true l'.failure o (store_of n) (store_of n')
            → Left l l' n.kept n'.kept
        by_end None is saves =
            Same up (stores saves.1) (λ vs none has. subst (λ o. Has l'.failure o vs) (sym is) tt)
        by_end (Some e) is saves = Put up e is saves.0 (ap (λ (x : StoreView). x.records) saves.1)

    -- it becomes this link
    becomes : (k : State K) → l' ≡ k → Left l k n.kept n'.kept → Left l l' n.kept n'.kept
    becomes k is left = subst (λ z. Left l z n.kept n'.kept) (sym is) left

    answered_left : (x : Option Side) (e : Refusal) (k : State K) → HaltsAnswered x e k l' (store_of n) (store_of n')
        → Left l l' n.kept n'.kept
    answered_left x e k (inl h) = Halts (ap (λ (z : State K). z.halted) h.1) (stores h.2)
    answered_left x e k (inr h) = Halts (ap (λ (z : State K). z.halted) h.1.0) (unsaved_same e _ _ h.1.1)

    module _ {V : Type 0} (outs : V → List Output) where
      behind_left : (brings : List Output → Option Side) (e : Refusal) (said : Result Done Refusal)
          → HaltsBehind brings e said l l' (store_of n) (store_of n') → Left l l' n.kept n'.kept
      behind_left brings e (Ok d) h = answered_left (brings d.outputs) e (reached d l) h
      behind_left brings e (Err r) h = absurd h

      refusing_left : (e : Refusal) (said : Result Done Refusal) → HaltsRefused e said l l' (store_of n) (store_of n')
          → Left l l' n.kept n'.kept
      refusing_left e (Ok d) h = absurd h
      refusing_left e (Err r) h = Halts (ap (λ (z : State K). z.halted) h.1.0) (unsaved_same e _ _ h.1.1)

      early_left : (e : Refusal) (views : Bool) (said : Result Done Refusal)
          → HaltsEarly views e said l l' (store_of n) (store_of n') → Left l l' n.kept n'.kept
      early_left e views said h = Halts (has_halted l l' h.1) (stores h.2)

  -- ---- a command

  module _ {V : Type 0} (outs : V → List Output) (l : State K) (n : Newest) (works : l.halted ≡ false) where
    handed_left : (brings : List Output → Option Side) (said : Result Done Refusal) (v : V) (l' : State K)
        (n' : Newest) → HandsOut brings outs said l v l' (store_of n) (store_of n')
        → ((d : Done) → said ≡ Ok d → has_same_record (brings d.outputs) d.stage ≡ true → Stays l (settled d l))
        → Left l l' n.kept n'.kept
    handed_left brings (Ok d) v l' n' h stays =
        becomes l l' n n' works (settled d l) h.1
        (by_same (has_same_record (brings d.outputs) d.stage) refl h.2)
      where
        by_same : (b : Bool) → has_same_record (brings d.outputs) d.stage ≡ b
            → SavesIf (not b) l.failure (saved_end (settled d l).stage) (store_of n) (store_of n')
            → Left l (settled d l) n.kept n'.kept
        by_same true is saves = saved_left l (settled d l) n n' works works false saves (λ no. stays d refl is)
        by_same false is saves = saved_left l (settled d l) n n' works works true saves (λ no. absurd (cc))
    handed_left brings (Err r) v l' n' h stays = absurd h

    same_link : (l' : State K) (n' : Newest) → l' ≡ l → store_of n' ≡ store_of n → Left l l' n.kept n'.kept
    same_link l' n' is same = becomes l l' n n' works l is
        (Same works (stores l l n n' works same) (λ vs none has. has))

    command_left : (keys : Signer) (c : commands.Command) (answer : Result V Refusal) (l' : State K) (n' : Newest)
        → AnswersCommand outs (commanded keys l c) l c answer l' (store_of n) (store_of n') → Left l l' n.kept n'.kept
    command_left keys c (Ok v) l' n' h =
        handed_left (λ os. sent_alone (sends_update c)) (commanded keys l c) v l' n' h
        (λ d said same vs none has. command_recorded keys l c (in_memory vs) d said same has)
    command_left keys c (Err e) l' n' (inl h) = early_left l l' n n' works outs e false (commanded keys l c) h
    command_left keys c (Err e) l' n' (inr (inl h)) =
        behind_left l l' n n' works outs (λ os. sent_alone (sends_update c)) e (commanded keys l c) h
    command_left keys c (Err e) l' n' (inr (inr h)) = same_link l' n' h.1 h.2

    -- ---- a message

    refused_left : (e : Refusal) (l' : State K) (n' : Newest) → l' ≡ refused e l
        → (b : Bool) → fails_now e l ≡ b
        → SavesIf b (refused e l).failure (saved_end (refused e l).stage) (store_of n) (store_of n')
        → Left l l' n.kept n'.kept
    refused_left e l' n' is b now saves =
        becomes l l' n n' works (refused e l) is
        (saved_left l (refused e l) n n' works (refused_works e l ∙ works) b saves
        (λ no vs none has. refused_by e l (in_memory vs) (in_memory vs) false (now ∙ no) refl has))

    message_left : (keys : Signer) (m : Message) (answer : Result V Refusal) (l' : State K) (n' : Newest)
        → AnswersMessage outs (handled_beside n.kept keys l m) l m answer l' (store_of n) (store_of n')
        → Left l l' n.kept n'.kept
    message_left keys m (Ok v) l' n' h =
        handed_left (taken_alone (is_update m)) (handled_beside n.kept keys l m) v l' n' h
        (λ d said same vs none has.
        message_recorded keys l m (in_memory vs) d (same_said keys l m n.kept vs d said none) same has)
    message_left keys m (Err e) l' n' (inl h) =
        early_left l l' n n' works outs e (makes_view l m) (handled_beside n.kept keys l m) h
    message_left keys m (Err e) l' n' (inr (inl h)) =
        behind_left l l' n n' works outs (taken_alone (is_update m)) e (handled_beside n.kept keys l m) h
    message_left keys m (Err e) l' n' (inr (inr (inl h))) =
        refusing_left l l' n n' works outs e (handled_beside n.kept keys l m) h
    message_left keys m (Err e) l' n' (inr (inr (inr h))) =
        refused_left e l' n' h.1 (fails_now e l) refl h.2

    over_left : (keys : Signer) (m : Message) (answer : Result V Refusal) (l' : State K) (n' : Newest)
        → AnswersOver outs keys l m answer l' (store_of n) (store_of n') → Left l l' n.kept n'.kept
    over_left keys m (Ok v) l' n' h = message_left keys m (Ok v) l' n' h
    over_left keys m (Err e) l' n' (inl h) = Halts (ap (λ (z : State K). z.halted) h.halts) h.records
    over_left keys m (Err e) l' n' (inr h) = message_left keys m (Err e) l' n' h

  -- ---- of any link

  module _ {V : Type 0} (outs : V → List Output) (l l' : State K) (n n' : Newest) (keys : Signer)
      (answer : Result V Refusal) where
    -- with outputs as a list
    handed_as : (brings : List Output → Option Side) (said : Result Done Refusal) (v : V)
        → HandsOut brings outs said l v l' (store_of n) (store_of n')
        → HandsOut brings (λ os. os) said l (outs v) l' (store_of n) (store_of n')
    handed_as brings (Ok d) v h = h
    handed_as brings (Err r) v h = h

    still_left : (k : link.Call) → link.Leads keys k l (store_of n) l' (store_of n') → l.halted ≡ true
        → Left l l' n.kept n'.kept
    still_left k leads halted =
        let still = call_still keys k l l' (store_of n) (store_of n') leads halted in
        Halts still.0 (ap (λ (x : StoreView). x.records) still.1)

    pub command_leaves : (c : commands.Command)
        → AnswersCommand outs (commanded keys l c) l c answer l' (store_of n) (store_of n')
        → Left l l' n.kept n'.kept
    command_leaves c h = by_halted l.halted refl
      where
        as_leads : (a : Result V Refusal)
            → AnswersCommand outs (commanded keys l c) l c a l' (store_of n) (store_of n')
            → link.Leads keys (link.Command c) l (store_of n) l' (store_of n')
        as_leads (Ok v) k = (Ok (outs v), handed_as (λ os. sent_alone (sends_update c)) (commanded keys l c) v k)
        as_leads (Err e) k = (Err e, k)

        by_halted : (b : Bool) → l.halted ≡ b → Left l l' n.kept n'.kept
        by_halted true halted = still_left (link.Command c) (as_leads answer h) halted
        by_halted false works = command_left outs l n works keys c answer l' n' h

    pub message_leaves : (m : Message) → AnswersOver outs keys l m answer l' (store_of n) (store_of n')
        → Left l l' n.kept n'.kept
    message_leaves m h = by_halted l.halted refl
      where
        as_leads : (a : Result V Refusal) → AnswersOver outs keys l m a l' (store_of n) (store_of n')
            → link.Leads keys (link.Handle m) l (store_of n) l' (store_of n')
        as_leads (Ok v) k =
            (Ok (outs v), handed_as (taken_alone (is_update m)) (handled_beside n.kept keys l m) v k)
        as_leads (Err e) k = (Err e, k)

        by_halted : (b : Bool) → l.halted ≡ b → Left l l' n.kept n'.kept
        by_halted true halted = still_left (link.Handle m) (as_leads answer h) halted
        by_halted false works = over_left outs l n works keys m answer l' n' h

  -- ---- what they tell of its seat then

  -- at the place of a link that becomes another one, of a seat with this end
  pub record Tells (ρ ρ' : ℕ → Kept) (c : ℕ) (l l' : State K) (o : Option End) : Type 0 where
    pub beside : (k : ℕ) → (k ≡ c → ⊥) → ρ' k ≡ ρ k
    pub halted : l'.halted ≡ true → AreOf IsFailing o (ρ c) → AreOf IsFailing o (ρ' c)
    pub works : l'.halted ≡ false → IsOwn l (ρ c) → IsOwn l' (ρ' c)

  -- a call keeps its end, or loses what a lost connection does
  abbrev pub KeepsEnd : State K → State K → Type 0
  KeepsEnd l l' = ((saved_end l'.stage ≡ saved_end l.stage)
      ⊎ (saved_end l'.stage ≡ option_map end_dropped (saved_end l.stage))) × (l'.failure ≡ l.failure)

  module _ (ρ ρ' : ℕ → Kept) (c : ℕ) (l l' : State K) where
    pub quiet_tells : ((k : ℕ) → ρ' k ≡ ρ k) → KeepsEnd l l' → (o : Option End) → Tells ρ ρ' c l l' o
    quiet_tells same keeps o = record {
      beside = λ k apart. same k;
      halted = λ halted h. subst (AreOf IsFailing o) (sym (same c)) h;
      works = λ works h. subst (IsOwn l') (sym (same c)) (now (ρ c) h);
    }
      where
        ended : (k : Kept) → (saved_end l'.stage ≡ saved_end l.stage)
            ⊎ (saved_end l'.stage ≡ option_map end_dropped (saved_end l.stage))
            → AreOf (λ f. f ≡ l.failure) (saved_end l.stage) k
            → AreOf (λ f. f ≡ l.failure) (saved_end l'.stage) k
        ended k (inl is) h = subst (λ e. AreOf (λ f. f ≡ l.failure) e k) (sym is) h
        ended k (inr is) h = subst (λ e. AreOf (λ f. f ≡ l.failure) e k) (sym is)
            (dropped_of (λ f. f ≡ l.failure) (saved_end l.stage) k h)

        now : (k : Kept) → IsOwn l k → IsOwn l' k
        now k h = weakened (λ f. f ≡ l.failure) (λ f. f ≡ l'.failure) (saved_end l'.stage) k
            (λ f is. is ∙ sym keeps.1) (ended k keeps.0 h)

    pub halt_tells : ((k : ℕ) → ρ' k ≡ ρ k) → l'.halted ≡ true → (o : Option End) → Tells ρ ρ' c l l' o
    halt_tells same halted o = record {
      beside = λ k apart. same k;
      halted = λ is h. subst (AreOf IsFailing o) (sym (same c)) h;
      works = λ works. absurd (let no : true ≡ false = sym halted ∙ works in cc);
    }

  -- a call over the records of its place
  module _ (old : Loaded) (ns ns' : List Newest) (c : ℕ) (l l' : State K) (n n' : Newest)
      (at : slice_get ns c ≡ Some n) (now : ns' ≡ slice_set ns c n') where
    found_now : kept_at old ns' c ≡ record { since = Some n'.kept; loaded = old }
    found_now = ap (λ xs. kept_at old xs c) now ∙ ap (kept_of old) (got_set ns c n n' at)

    found_then : kept_at old ns c ≡ record { since = Some n.kept; loaded = old }
    found_then = ap (kept_of old) at

    pub call_tells : KeepsChannel l.stage l'.stage → Left l l' n.kept n'.kept → (o : Option End)
        → Tells (kept_at old ns) (kept_at old ns') c l l' o
    call_tells keeps left o = record {
      beside = λ k apart. ap (λ xs. kept_at old xs k) now ∙ ap (kept_of old) (set_other ns c k n' apart);
      halted = λ halted h. subst (AreOf IsFailing o) (found_then
          ∙ ap (λ rs. record { since = Some rs; loaded = old })
          (sym (left_halted l l' n.kept n'.kept old keeps left halted)) ∙ sym found_now) h;
      works = λ works h. subst (IsOwn l') (sym found_now)
          (left_own l l' n.kept n'.kept old keeps left works (subst (IsOwn l) found_then h));
    }

  -- ---- of a seat

  any_of : (x : Seat K) (end : Option End) (k : Kept) → AreOf (FailsAs (Some x)) end k → AreOf IsFailing end k
  any_of x end k h = weakened (FailsAs (Some x)) IsFailing end k (λ f is. is.0) h

  module _ (ρ ρ' : ℕ → Kept) (c : ℕ) (x : Seat K) (l : State K) (told : Tells ρ ρ' c x.link l x.end)
      (old : IsRecorded (Some x) (ρ c)) where
    pub seated_recorded : IsSound x → l.halted ≡ x.link.halted → (l.halted ≡ false → IsFailing l.failure)
        → IsRecorded (Some (seated x l)) (ρ' c)
    seated_recorded sound same fails_so = by_halted x.link.halted refl
      where
        by_halted : (b : Bool) → x.link.halted ≡ b
            → IsRecorded (Some (cond b (record x { link = l }) (working l))) (ρ' c)
        by_halted true is = weakened IsFailing (FailsAs (Some (record x { link = l }))) x.end (ρ' c)
            (λ f k. (k, λ works. absurd (let no : true ≡ false = sym (same ∙ is) ∙ works in cc)))
            (told.halted (same ∙ is) (any_of x x.end (ρ c) old))
        by_halted false works = weakened (λ f. f ≡ l.failure) (FailsAs (Some (working l))) (saved_end l.stage) (ρ' c)
            (λ f k. (λ r is. fails_so (same ∙ works) r (sym k ∙ is), λ now. k))
            (told.works (same ∙ works) (subst (λ o. AreOf (λ f. f ≡ x.link.failure) o (ρ c)) (sound.works works).0
            (weakened (FailsAs (Some x)) (λ f. f ≡ x.link.failure) x.end (ρ c) (λ f k. k.1 works) old)))

    pub halted_recorded : l.halted ≡ true → IsRecorded (Some (halted_seat x l)) (ρ' c)
    halted_recorded halted = weakened IsFailing (FailsAs (Some (halted_seat x l))) (option_map end_dropped x.end)
        (ρ' c) (λ f k. (k, λ works. absurd (let no : true ≡ false = works in cc)))
        (dropped_of IsFailing x.end (ρ' c) (told.halted halted (any_of x x.end (ρ c) old)))
