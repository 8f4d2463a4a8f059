-- What a call of a link leaves in its store, and by what a call that halts the link has failed.
use Rattle.std.proofs.Common.{◌≡◌, ◌⊎◌, ◌∙◌, refl, sym, ap, subst, inl, inr, ℕ, List, [], ◌∷◌, Bool, true, false}
use Rattle.std.proofs.Common.{not, ◌||◌}
use Rattle.std.proofs.Common.{Option, Some, None, is_none, Result, Ok, Err, if◌then◌else◌, arith, is_some}
use Rattle.std.specs.Prelude.{IfOk, IfErr}
use Rattle.std.specs.FinMap as map
use Rattle.std.specs.Cmp.Lexicographic.{slice_cmp}
use Rattle.std.specs.Ordering.{nat_cmp}
use Rattle.ln_msgs.specs.Pings.Counted.{HasRisen}
use Rattle.ln_msgs.specs.declared.messages.message.Message.{Message}
use Rattle.ln_refusals.specs.declared.refusal.Refusal.{Refusal}
use Rattle.ln_refusals.specs.declared.refusal.Refusal.TheVariants as refusal
use Rattle.ln_keys.specs.Signer.{Signer}
use Rattle.ln_log.specs.declared.log.Side.{Side}
use Rattle.ln_channel.specs.declared.command.Command.{Command}
use Rattle.ln_channel.specs.declared.config.Config.{Config}
use Rattle.ln_channel.specs.declared.output.Output.{Output}
use Rattle.ln_channel.specs.declared.machine.ConnectionState.{ConnectionState}
use Rattle.ln_channel.specs.declared.machine.ConnectionState.TheVariants.{Down, Connected}
use Rattle.ln_channel.specs.declared.machine.Stage.{Stage}
use Rattle.ln_channel.specs.declared.machine.Stage.TheVariants as stage
use Rattle.ln_channel.specs.End.{End}
use Rattle.ln_channel.specs.Failing.{fails}
use Rattle.ln_channel.specs.Naming.{opens}
use Rattle.ln_channel.specs.Record.{saved_end, came_back}
use Rattle.ln_channel.specs.State.{State, KeepsChannel, kept_channel, begun, is_down, cut, drops, halts, failed}
use Rattle.ln_channel.specs.State.{refused}
use Rattle.ln_channel.specs.Step.{Done, Reaches, Answered, handled, opened, commanded, connected}
use Rattle.ln_store.specs.Readable.{is_readable}
use Rattle.ln_store.specs.Record.{record_bytes}
use Rattle.ln_store.specs.Store.{Records, StoreView, in_memory}
use Rattle.ln_store.specs.declared.record.Items.{Items}
use Rattle.ln_link.specs.Record.{items_of}
use Rattle.ln_link.specs.Loading.{Loads, HasRecord, IsLoadedOf, ComesBackOf, CameBack, IsCameBack, end_of}
use Rattle.ln_link.specs.Calls as call
use Rattle.ln_link.specs.Calls.{Call, Handle, Connect, DropConnection, Leads, Has, HasLink}
use Rattle.ln_link.specs.Saving.{FailsBy, SavesIf, SavesFailure, HandsOut, HaltsBehind}
use Rattle.ln_link.specs.Saving.{HaltsRefused, AnswersMessage, AnswersCommand, AnswersOver, CannotBeStored, CannotTell}
use Rattle.ln_link.specs.Saving.{stored_end, settled, fails_now, is_known, handled_beside, has_same_record}
use Rattle.ln_link.specs.Saving.{is_update, sends_update, taken_alone, sent_alone}
use Rattle.ln_link.proofs.Calls.{has_record}
use Rattle.ln_link.proofs.Refusing.{has_halted}
use Rattle.ln_link.proofs.Restarted.{comes_back, for_memory_alone}
use Rattle.ln_world_channels.specs.Both.{left, unchanged, back}
use Rattle.ln_world_channels.specs.Failing.{LacksRecord, LinkLacks, ByRecord}
use Rattle.ln_world_channels.specs.Stored.{HasNothing, IsKept, end_record, link_record}

-- ---- nothing before both have signed the opening

not_kept : (s : Stage) → saved_end s ≡ None → kept_channel s ≡ None
not_kept (stage.Funded e) h = absurd (cc)
not_kept (stage.AwaitsOpen c) h = refl
not_kept (stage.AwaitsAccept c) h = refl
not_kept (stage.AwaitsCreated c) h = refl
not_kept (stage.AwaitsSigned c) h = refl
not_kept stage.Gone h = refl

was_empty : (s s' : Stage) (rs : Records) → KeepsChannel s s' → saved_end s' ≡ None → HasNothing (saved_end s) rs
    → rs ≡ map.empty
was_empty (stage.Funded e) s' rs keeps none h =
    absurd (let a = keeps e.dance.channel refl in let b = not_kept s' none in
    let no : None ≡ Some e.dance.channel = sym b ∙ a in cc)
was_empty (stage.AwaitsOpen c) s' rs keeps none h = h
was_empty (stage.AwaitsAccept c) s' rs keeps none h = h
was_empty (stage.AwaitsCreated c) s' rs keeps none h = h
was_empty (stage.AwaitsSigned c) s' rs keeps none h = h
was_empty stage.Gone s' rs keeps none h = h

-- after a save, and where nothing was saved
stays_empty : (f : Option Refusal) (s s' : Stage) (rs rs' : Records) → KeepsChannel s s'
    → (rs' ≡ rs) ⊎ (rs' ≡ stored_end f (saved_end s') rs) → HasNothing (saved_end s) rs → HasNothing (saved_end s') rs'
stays_empty f s s' rs rs' keeps is h = by (saved_end s') refl is
  where
    by : (o : Option End) → saved_end s' ≡ o → (rs' ≡ rs) ⊎ (rs' ≡ stored_end f o rs) → HasNothing o rs'
    by None e (inl same) = same ∙ was_empty s s' rs keeps e h
    by None e (inr same) = same ∙ was_empty s s' rs keeps e h
    by (Some x) e same = tt

cut_empty : (s : Stage) (rs : Records) → HasNothing (saved_end s) rs → HasNothing (saved_end (cut s)) rs
cut_empty (stage.Funded e) rs h = tt
cut_empty (stage.AwaitsOpen c) rs h = h
cut_empty (stage.AwaitsAccept c) rs h = h
cut_empty (stage.AwaitsCreated c) rs h = h
cut_empty (stage.AwaitsSigned c) rs h = h
cut_empty stage.Gone rs h = h

-- ---- a store without another channel

known_nowhere : (o : Option (List ℕ)) (rs : Records) → rs ≡ map.empty → is_known o rs ≡ false
known_nowhere None rs h = refl
known_nowhere (Some c) rs h =
    ap (λ (x : Records). is_some (map.get x c)) h ∙ ap is_some (map.get-empty (slice_cmp nat_cmp) c)

opens_unknown : (s : Stage) (m : Message) (rs : Records) → HasNothing (saved_end s) rs
    → is_known (opens s m) rs ≡ false
opens_unknown (stage.Funded e) m rs h = refl
opens_unknown (stage.AwaitsOpen c) m rs h = known_nowhere (opens (stage.AwaitsOpen c) m) rs h
opens_unknown (stage.AwaitsAccept c) m rs h = known_nowhere (opens (stage.AwaitsAccept c) m) rs h
opens_unknown (stage.AwaitsCreated c) m rs h = known_nowhere (opens (stage.AwaitsCreated c) m) rs h
opens_unknown (stage.AwaitsSigned c) m rs h = known_nowhere (opens (stage.AwaitsSigned c) m) rs h
opens_unknown stage.Gone m rs h = known_nowhere (opens stage.Gone m) rs h

opened_unknown : (b : Bool) (s : Stage) (m : Message) (rs : Records) → HasNothing (saved_end s) rs
    → is_known (if b then None else opens s m) rs ≡ false
opened_unknown true s m rs h = refl
opened_unknown false s m rs h = opens_unknown s m rs h

-- ---- why a save failed

never_risen : (m n : ℕ) → m ≡ 0 → n ≡ 0 → HasRisen m n → ⊥
never_risen m n a b h =
    let no : HasRisen 0 0 = subst (λ k. HasRisen 0 k) b (subst (λ k. HasRisen k n) a h) in
    absurd (omega (arith, no))

lacks_so : (f : Option Refusal) (o : Option End) → CannotBeStored f o → LacksRecord f o
lacks_so f None h = h
lacks_so f (Some e) h = h

by_save : (e : Refusal) (f : Option Refusal) (o : Option End) (m n : ℕ) → m ≡ 0 → n ≡ 0 → FailsBy e f o m n
    → ByRecord e (LacksRecord f o)
by_save e f o m n a b (inl h) = inl h.0
by_save e f o m n a b (inr (inl h)) = inr (h.0, lacks_so f o h.1)
by_save e f o m n a b (inr (inr h)) = absurd (never_risen m n a b h.2)

cut_channel : (s : Stage) → KeepsChannel s (cut s)
cut_channel (stage.Funded e) channel h = h
cut_channel (stage.AwaitsOpen c) channel h = absurd (cc)
cut_channel (stage.AwaitsAccept c) channel h = absurd (cc)
cut_channel (stage.AwaitsCreated c) channel h = absurd (cc)
cut_channel (stage.AwaitsSigned c) channel h = absurd (cc)
cut_channel stage.Gone channel h = absurd (cc)

behind_failure : (b : Bool) (f : Option Refusal) (o : Option End) (s t : StoreView) → SavesIf b f o s t
    → (t.records ≡ s.records) ⊎ (t.records ≡ stored_end f o s.records)
behind_failure true f o s t h = inr (ap (λ (x : StoreView). x.records) h.1)
behind_failure false f o s t h = inl (ap (λ (x : StoreView). x.records) h)

cannot_tell : (e : Refusal) (o : Option (List ℕ)) (m n : ℕ) → m ≡ 0 → n ≡ 0 → CannotTell e o m n
    → e ≡ refusal.Memory
cannot_tell e None m n a b h = absurd h
cannot_tell e (Some c) m n a b (inl h) = h.0
cannot_tell e (Some c) m n a b (inr h) = absurd (never_risen m n a b h.1)

same_bytes : (a b : List ℕ) → ◌≡◌ {A = Option (List ℕ)} (Some a) (Some b) → a ≡ b
same_bytes a b e = cc

module _ {K : Type 0} (keys : Signer) where
  -- ---- the record, by the law over a link's calls

  has_behind : (c : Call) (l n : State K) (s t : StoreView) → n.halted ≡ false → KeepsChannel l.stage n.stage
      → Leads keys c l s n t → IsKept l s.records → HasLink n t
  has_behind c l n s t up keeps leads k =
      has_record keys (c ∷ []) l n s t k.has_the_record (n, t, leads, keeps, (refl, refl)) up

  -- ---- a lost connection

  -- of a link that has a connection
  cut_has : (k : K) (f : Option Refusal) (st : Stage) (rs : Records) → Has f (saved_end st) rs
      → Has f (saved_end (cut st)) rs
  cut_has k f st rs h =
      let l : State K = record { keys = k; connection = Connected; halted = false; failure = f; stage = st } in
      let s : StoreView = in_memory rs in
      has_record keys (DropConnection ∷ []) l (drops l) s s h (drops l, s, (refl, refl), cut_channel st, (refl, refl))
      refl

  pub drops_kept : (l : State K) (rs : Records) → IsKept l rs → IsKept (drops l) rs
  drops_kept l rs h = by (is_down l.connection) l h
    where
      by : (b : Bool) (l : State K) → IsKept l rs
          → IsKept (if b then l else record l { connection = Down; stage = cut l.stage }) rs
      by true l h = h
      by false l h = record {
        has_the_record = cut_has l.keys l.failure l.stage rs h.has_the_record;
        has_nothing_before = cut_empty l.stage rs h.has_nothing_before;
      }

  pub halts_kept : (l : State K) (rs : Records) → IsKept l rs → IsKept (halts l) rs
  halts_kept l rs h =
      let g = drops_kept l rs h in
      record { has_the_record = g.has_the_record; has_nothing_before = g.has_nothing_before }

  -- ---- a link that is given up

  pub given_up : (k : K) (c : Config) (m n : State K) (rs : Records) → m ≡ begun k (stage.AwaitsOpen c)
      → n ≡ halts m → rs ≡ map.empty → IsKept n rs
  given_up k c m n rs is halted empty =
      let l : State K = begun k (stage.AwaitsOpen c) in
      subst (λ (x : State K). IsKept x rs) (sym (halted ∙ ap halts is))
      (halts_kept l rs (record { has_the_record = tt; has_nothing_before = empty }))

  -- ---- what is handed out

  as_list : {V : Type 0} (brings : List Output → Option Side) (outs : V → List Output) (said : Result Done Refusal)
      (l n : State K) (v : V) (s t : StoreView) → HandsOut brings outs said l v n s t
      → HandsOut brings (λ x. x) said l (outs v) n s t
  as_list brings outs (Ok d) l n v s t h = h
  as_list brings outs (Err r) l n v s t h = h

  -- it is saved, or nothing is
  empty_behind : {V : Type 0} (brings : List Output → Option Side) (outs : V → List Output) (said : Result Done Refusal)
      (l n : State K) (v : V) (s t : StoreView) → HandsOut brings outs said l v n s t
      → (t.records ≡ s.records) ⊎ (t.records ≡ stored_end l.failure (saved_end n.stage) s.records)
  empty_behind brings outs (Ok d) l n v s t h =
      subst (λ (x : State K). (t.records ≡ s.records)
      ⊎ (t.records ≡ stored_end l.failure (saved_end x.stage) s.records)) (sym h.1)
      (behind_failure (not (has_same_record (brings d.outputs) d.stage)) l.failure (saved_end (settled d l).stage) s t
      h.2)
  empty_behind brings outs (Err r) l n v s t h = absurd h

  works_so : {V : Type 0} (brings : List Output → Option Side) (outs : V → List Output) (said : Result Done Refusal)
      (l n : State K) (v : V) (s t : StoreView) → l.halted ≡ false → HandsOut brings outs said l v n s t
      → n.halted ≡ false
  works_so brings outs (Ok d) l n v s t up h = ap (λ (x : State K). x.halted) h.1 ∙ up
  works_so brings outs (Err r) l n v s t up h = absurd h

  -- ---- a message over a store without another channel

  beside_so : (l : State K) (m : Message) (rs : Records) → IsKept l rs
      → handled_beside rs keys l m ≡ handled keys l m
  beside_so l m rs k =
      ap (λ (b : Bool). if b then Err refusal.OutOfPlace else handled keys l m)
      (opened_unknown (l.halted || not (is_none l.failure)) l.stage m rs k.has_nothing_before)

  -- it is taken
  pub record IsTaken {V : Type 0} (brings : List Output → Option Side) (outs : V → List Output)
      (said : Result Done Refusal) (l n : State K) (v : V) (s t : StoreView) : Type 0 where
    pub handed : HandsOut brings outs said l v n s t
    pub kept : IsKept n t.records

  pub message_taken : {V : Type 0} (outs : V → List Output) (l n : State K) (m : Message) (v : V) (s t : StoreView)
      → l.halted ≡ false → KeepsChannel l.stage n.stage → AnswersOver outs keys l m (Ok v) n s t
      → IsKept l s.records → IsTaken (taken_alone (is_update m)) outs (handled keys l m) l n v s t
  message_taken outs l n m v s t up keeps h k =
      let said = handled_beside s.records keys l m in
      let brings : List Output → Option Side = taken_alone (is_update m) in
      let g : HandsOut brings outs (handled keys l m) l v n s t =
      subst (λ r. HandsOut brings outs r l v n s t) (beside_so l m s.records k) h in
      record {
        handed = g;
        kept = record {
          has_the_record = has_behind (Handle m) l n s t (works_so brings outs said l n v s t up h) keeps
              (Ok (outs v), as_list brings outs said l n v s t h) k;
          has_nothing_before = stays_empty l.failure l.stage n.stage s.records t.records keeps
              (empty_behind brings outs said l n v s t h) k.has_nothing_before;
        };
      }

  pub command_taken : {V : Type 0} (outs : V → List Output) (l n : State K) (c : Command) (v : V) (s t : StoreView)
      → l.halted ≡ false → KeepsChannel l.stage n.stage → AnswersCommand outs (commanded keys l c) l c (Ok v) n s t
      → IsKept l s.records → IsTaken (λ os. sent_alone (sends_update c)) outs (commanded keys l c) l n v s t
  command_taken outs l n c v s t up keeps h k =
      let said = commanded keys l c in
      let brings : List Output → Option Side = λ os. sent_alone (sends_update c) in
      record {
        handed = h;
        kept = record {
          has_the_record = has_behind (call.Command c) l n s t (works_so brings outs said l n v s t up h) keeps
              (Ok (outs v), as_list brings outs said l n v s t h) k;
          has_nothing_before = stays_empty l.failure l.stage n.stage s.records t.records keeps
              (empty_behind brings outs said l n v s t h) k.has_nothing_before;
        };
      }

  -- it is refused
  pub record IsRefused (after : Refusal → State K → State K) (said : Result Done Refusal) (l n : State K) (e : Refusal)
      (t : StoreView) : Type 0 where
    pub said_so : said ≡ Err e
    pub left_so : n ≡ after e l
    pub kept : IsKept n t.records

  still_works : {A : Type 0} (n : State K) → n.halted ≡ true → n.halted ≡ false → A
  still_works n h up = absurd (let no : true ≡ false = sym h ∙ up in cc)

  refused_empty : (e : Refusal) (l n : State K) (s t : StoreView) → KeepsChannel l.stage n.stage → n ≡ refused e l
      → SavesFailure e l s t → IsKept l s.records → HasNothing (saved_end n.stage) t.records
  refused_empty e l n s t keeps is saves k =
      let r : State K = refused e l in
      subst (λ (x : State K). HasNothing (saved_end x.stage) t.records) (sym is)
      (stays_empty r.failure l.stage r.stage s.records t.records
      (subst (λ (x : State K). KeepsChannel l.stage x.stage) is keeps)
      (behind_failure (fails_now e l) r.failure (saved_end r.stage) s t saves) k.has_nothing_before)

  behind : (brings : List Output → Option Side) (e : Refusal) (said : Result Done Refusal) (l n : State K)
      (s t : StoreView) → HaltsBehind brings e said l n s t → n.halted ≡ true
  behind brings e (Ok d) l n s t (inl h) = ap (λ (x : State K). x.halted) h.1
  behind brings e (Ok d) l n s t (inr h) = ap (λ (x : State K). x.halted) h.1.0
  behind brings e (Err r) l n s t h = absurd h

  refusing : (e : Refusal) (said : Result Done Refusal) (l n : State K) (s t : StoreView) → HaltsRefused e said l n s t
      → n.halted ≡ true
  refusing e (Ok d) l n s t h = absurd h
  refusing e (Err r) l n s t h = ap (λ (x : State K). x.halted) h.1.0

  -- what is said where the link still works
  pub record IsSaidOf (after : Refusal → State K → State K) (said : Result Done Refusal) (l n : State K) (e : Refusal)
      (t : StoreView) : Type 0 where
    pub said_so : said ≡ Err e
    pub left_so : n ≡ after e l
    pub empty : HasNothing (saved_end n.stage) t.records

  refused_message : {V : Type 0} (outs : V → List Output) (said : Result Done Refusal) (l n : State K) (m : Message)
      (e : Refusal) (s t : StoreView) → n.halted ≡ false → KeepsChannel l.stage n.stage
      → AnswersMessage outs said l m (Err e) n s t → IsKept l s.records → IsSaidOf refused said l n e t
  refused_message outs said l n m e s t up keeps (inl h) k = still_works n (has_halted l n h.1) up
  refused_message outs said l n m e s t up keeps (inr (inl h)) k =
      still_works n (behind (taken_alone (is_update m)) e said l n s t h) up
  refused_message outs said l n m e s t up keeps (inr (inr (inl h))) k =
      still_works n (refusing e said l n s t h) up
  refused_message outs said l n m e s t up keeps (inr (inr (inr h))) k =
      record { said_so = h.0; left_so = h.1; empty = refused_empty e l n s t keeps h.1 h.2 k }

  pub message_refused : {V : Type 0} (outs : V → List Output) (l n : State K) (m : Message)
      (e : Refusal) (s t : StoreView) → n.halted ≡ false → KeepsChannel l.stage n.stage
      → AnswersOver outs keys l m (Err e) n s t → IsKept l s.records → IsRefused refused (handled keys l m) l n e t
  message_refused outs l n m e s t up keeps (inl h) k =
      still_works n (ap (λ (x : State K). x.halted) h.halts) up
  message_refused outs l n m e s t up keeps (inr h) k =
      let g = refused_message outs (handled keys l m) l n m e s t up keeps
      (subst (λ r. AnswersMessage outs r l m (Err e) n s t) (beside_so l m s.records k) h) k in
      record {
        said_so = g.said_so;
        left_so = g.left_so;
        kept = record {
          has_the_record = has_behind (Handle m) l n s t up keeps (Err e, inr h) k;
          has_nothing_before = g.empty;
        };
      }

  pub command_refused : {V : Type 0} (outs : V → List Output) (said : Result Done Refusal) (l n : State K) (c : Command)
      (e : Refusal) (s t : StoreView) → n.halted ≡ false → AnswersCommand outs said l c (Err e) n s t
      → IsKept l s.records → IsRefused unchanged said l n e t
  command_refused outs said l n c e s t up (inl h) k = still_works n (has_halted l n h.1) up
  command_refused outs said l n c e s t up (inr (inl h)) k =
      still_works n (behind (λ os. sent_alone (sends_update c)) e said l n s t h) up
  command_refused outs said l n c e s t up (inr (inr h)) k = record {
    said_so = h.0;
    left_so = h.1;
    kept = subst (λ (x : State K). IsKept x t.records) (sym h.1)
        (subst (IsKept l) (sym (ap (λ (x : StoreView). x.records) h.2)) k);
  }

  -- ---- a call that halts the link

  refused_halts : (e : Refusal) (l : State K) → (refused e l).halted ≡ l.halted
  refused_halts e l = parts l.keys l.connection l.halted l.failure l.stage
    where
      failing : (keys : K) (line : ConnectionState) (s : Stage) (b : Bool)
          → let l : State K = record { keys = keys; connection = line; halted = false; failure = None; stage = s } in
          (if b then failed e l else l).halted ≡ false
      failing keys line s true = refl
      failing keys line s false = refl

      parts : (keys : K) (line : ConnectionState) (h : Bool) (f : Option Refusal) (s : Stage)
          → let l : State K = record { keys = keys; connection = line; halted = h; failure = f; stage = s } in
          (refused e l).halted ≡ h
      parts keys line true f s = refl
      parts keys line false (Some r) s = refl
      parts keys line false None s = failing keys line s (fails e)

  behind_lacks : (brings : List Output → Option Side) (after : Refusal → State K → State K) (e : Refusal)
      (said : Result Done Refusal) (l n : State K) (s t : StoreView) → s.failed ≡ 0 → t.failed ≡ 0
      → HaltsBehind brings e said l n s t → ByRecord e (LinkLacks (left after said l))
  behind_lacks brings after e (Ok d) l n s t a b (inl h) = inl h.0
  behind_lacks brings after e (Ok d) l n s t a b (inr h) =
      by_save e l.failure (saved_end (settled d l).stage) s.failed t.failed a b h.1.1.cause
  behind_lacks brings after e (Err r) l n s t a b h = absurd h

  refusing_lacks : (e : Refusal) (said : Result Done Refusal) (l n : State K) (s t : StoreView) → s.failed ≡ 0
      → t.failed ≡ 0 → HaltsRefused e said l n s t → ByRecord e (LinkLacks (left refused said l))
  refusing_lacks e (Ok d) l n s t a b h = absurd h
  refusing_lacks e (Err r) l n s t a b h =
      by_save e (refused r l).failure (saved_end (refused r l).stage) s.failed t.failed a b h.1.1.cause

  message_lacks : {V : Type 0} (outs : V → List Output) (said : Result Done Refusal) (l n : State K) (m : Message)
      (e : Refusal) (s t : StoreView) → l.halted ≡ false → n.halted ≡ true → s.failed ≡ 0 → t.failed ≡ 0
      → AnswersMessage outs said l m (Err e) n s t → ByRecord e (LinkLacks (left refused said l))
  message_lacks outs said l n m e s t up down a b (inl h) = inl h.0.0
  message_lacks outs said l n m e s t up down a b (inr (inl h)) =
      behind_lacks (taken_alone (is_update m)) refused e said l n s t a b h
  message_lacks outs said l n m e s t up down a b (inr (inr (inl h))) = refusing_lacks e said l n s t a b h
  message_lacks outs said l n m e s t up down a b (inr (inr (inr h))) =
      still_works n down (ap (λ (x : State K). x.halted) h.1 ∙ refused_halts e l ∙ up)

  pub message_halted : {V : Type 0} (outs : V → List Output) (l n : State K) (m : Message)
      (e : Refusal) (s t : StoreView) → l.halted ≡ false → n.halted ≡ true → s.failed ≡ 0 → t.failed ≡ 0
      → AnswersOver outs keys l m (Err e) n s t → IsKept l s.records
      → ByRecord e (LinkLacks (left refused (handled keys l m) l))
  message_halted outs l n m e s t up down a b (inl h) k =
      inl (cannot_tell e (opened l m) s.failed t.failed a b h.cause)
  message_halted outs l n m e s t up down a b (inr h) k =
      message_lacks outs (handled keys l m) l n m e s t up down a b
      (subst (λ r. AnswersMessage outs r l m (Err e) n s t) (beside_so l m s.records k) h)

  pub command_halted : {V : Type 0} (outs : V → List Output) (said : Result Done Refusal) (l n : State K) (c : Command)
      (e : Refusal) (s t : StoreView) → l.halted ≡ false → n.halted ≡ true → s.failed ≡ 0 → t.failed ≡ 0
      → AnswersCommand outs said l c (Err e) n s t → ByRecord e (LinkLacks (left unchanged said l))
  command_halted outs said l n c e s t up down a b (inl h) = inl h.0.0
  command_halted outs said l n c e s t up down a b (inr (inl h)) =
      behind_lacks (λ os. sent_alone (sends_update c)) unchanged e said l n s t a b h
  command_halted outs said l n c e s t up down a b (inr (inr h)) =
      still_works n down (ap (λ (x : State K). x.halted) h.1 ∙ up)

  -- ---- a connection that comes

  pub connect_kept : {V : Type 0} (outs : V → List Output) (l n : State K) (v : V) (rs : Records) → l.halted ≡ false
      → KeepsChannel l.stage n.stage → Answered outs (connected keys l) l (Ok v) n → IsKept l rs → IsKept n rs
  connect_kept outs l n v rs up keeps h k = by (connected keys l) refl h
    where
      by : (said : Result Done Refusal) → connected keys l ≡ said → Reaches outs said l v n → IsKept n rs
      by (Ok d) is r =
          let s : StoreView = in_memory rs in record {
            has_the_record = has_behind Connect l n s s (ap (λ (x : State K). x.halted) r.1 ∙ up) keeps
                (Ok (outs v), subst (λ x. Reaches (λ y. y) x l (outs v) n) (sym is) (r.0, r.1), refl) k;
            has_nothing_before = stays_empty l.failure l.stage n.stage rs rs keeps (inl refl) k.has_nothing_before;
          }
      by (Err r) is h = absurd h

  pub connect_refused : {V : Type 0} (outs : V → List Output) (said : Result Done Refusal) (l n : State K)
      (e : Refusal) → n.halted ≡ false → Answered outs said l (Err e) n → (said ≡ Err e) × (n ≡ l)
  connect_refused outs said l n e up (inl h) = still_works n (has_halted l n h.1) up
  connect_refused outs said l n e up (inr h) = h

  pub connect_halted : {V : Type 0} (outs : V → List Output) (said : Result Done Refusal) (l n : State K)
      (e : Refusal) → l.halted ≡ false → n.halted ≡ true → Answered outs said l (Err e) n → e ≡ refusal.Memory
  connect_halted outs said l n e up down (inl h) = h.0.0
  connect_halted outs said l n e up down (inr h) = still_works n down (ap (λ (x : State K). x.halted) h.1 ∙ up)

  -- ---- a restart

  -- of a link, from the bytes that its store has
  pub record ComesBack (k : K) (l : State K) (answer : Result (State K) Refusal) : Type 0 where
    pub loaded : IfOk answer (λ n. ComesBackOf n l × (n.keys ≡ k))
    pub memory : IfErr answer (λ e. e ≡ refusal.Memory)

  loaded_of : (k : K) (f : Option Refusal) (e : End) (answer : Result (State K) Refusal) → HasRecord f e
      → IfOk answer (λ n. n ≡ came_back k f (end_of (items_of f e)))
      → IfOk answer (λ n. IsLoadedOf n f (Some e) × (n.keys ≡ k))
  loaded_of k f e (Ok n) has is =
      let keys : n.keys ≡ k = ap (λ (x : State K). x.keys) is in
      ((has, is ∙ ap (λ x. came_back x f (end_of (items_of f e))) (sym keys)), keys)
  loaded_of k f e (Err r) has is = tt

  pub comes_back_from : (k : K) (l : State K) (rs : Records) (bytes : List ℕ) (answer : Result (State K) Refusal)
      → Some bytes ≡ link_record l → IsKept l rs
      → ((i : Items) → is_readable i ≡ true → bytes ≡ record_bytes i → Loads k (Ok i) answer)
      → ComesBack k l answer
  comes_back_from k l rs bytes answer is kept loads =
      let both = by (saved_end l.stage) is kept.has_the_record in record { loaded = both.0; memory = both.1 }
    where
      by : (o : Option End) → Some bytes ≡ end_record l.failure o → Has l.failure o rs
          → IfOk answer (λ n. IsLoadedOf n l.failure o × (n.keys ≡ k)) × IfErr answer (λ e. e ≡ refusal.Memory)
      by None e has = absurd (cc)
      by (Some e) is has =
          let load = loads (items_of l.failure e) has.1.items
          (same_bytes bytes (record_bytes (items_of l.failure e)) is) in (
            loaded_of k l.failure e answer has.1 (comes_back k l.failure e answer has.1 load),
            for_memory_alone k l.failure e answer has.1 load,
          )

  -- it takes over what the link before had, which the same store keeps
  pub came_so : (k : K) (l m : State K) (rs : Records) → IsCameBack k l m → IsKept l rs
      → (m ≡ back k l (saved_end l.stage)) × IsKept m rs
  came_so k l m rs came kept = by (saved_end l.stage) kept.has_the_record came
    where
      by : (o : Option End) → Has l.failure o rs → CameBack k l.failure o m → (m ≡ back k l o) × IsKept m rs
      by None has came = absurd came
      by (Some e) has came = (
        came,
        subst (λ (x : State K). IsKept x rs) (sym came) (record {
          has_the_record = cut_has k l.failure (stage.Funded e) rs has;
          has_nothing_before = tt;
        }),
      )

  pub nowhere_back : (k : K) (l : State K) → None ≡ link_record l → drops l ≡ back k l (saved_end l.stage)
  nowhere_back k l is = by (saved_end l.stage) is
    where
      by : (o : Option End) → None ≡ end_record l.failure o → drops l ≡ back k l o
      by None e = refl
      by (Some x) e = absurd (cc)
