-- What a link keeps over its calls and restarts, and what these answer.
use Rattle.std.proofs.Common.{◌≡◌, ◌⊎◌, inl, inr, ℕ, List, [], ◌∷◌, refl, sym, ap, subst, Bool, true, false, cond, not}
use Rattle.std.proofs.Common.{◌&&◌, is_none, Option, Some, None, Result, Ok, Err, if◌then◌else◌}
use Rattle.ln_msgs.specs.declared.messages.message.Message.{Message}
use Rattle.ln_refusals.specs.declared.refusal.Refusal.{Refusal}
use Rattle.ln_refusals.specs.declared.refusal.Refusal.TheVariants as refusal
use Rattle.ln_keys.specs.Signer.{Signer}
use Rattle.ln_log.specs.declared.log.Side.{Side}
use Rattle.ln_channel.specs.declared.command.Command as command
use Rattle.ln_channel.specs.declared.output.Output.{Output}
use Rattle.ln_channel.specs.declared.machine.ConnectionState.TheVariants.{Down}
use Rattle.ln_channel.specs.declared.machine.Stage.{Stage}
use Rattle.ln_channel.specs.declared.machine.Stage.TheVariants as stage
use Rattle.ln_channel.specs.Failing.{fails}
use Rattle.ln_channel.specs.Record.{saved_end}
use Rattle.ln_channel.specs.State.{State, refused, fails_by, unless_failed, cut, drops}
use Rattle.ln_channel.specs.Step.{Done, Answered, faulted, at_hand, handled, opened, asked, commanded, connects}
use Rattle.ln_channel.specs.Step.{connected, Reaches}
use Rattle.ln_channel.specs.State.{is_down}
use Rattle.ln_store.specs.Store.{StoreView}
use Rattle.ln_link.specs.Saving.{CannotBeStored, FailsBy, IsUnsaved, HandsOut, HaltsBehind, HaltsRefused}
use Rattle.ln_link.specs.Saving.{fails_now, reached, settled, is_known, handled_beside, CannotTell, AnswersMessage}
use Rattle.ln_link.specs.Saving.{AnswersCommand, AnswersOver, is_update, sends_update, taken_alone, sent_alone}
use Rattle.ln_link.specs.Loading.{IsLoadedOf, CameBack}
use Rattle.ln_link.specs.Calls.{Call, Handle, Command, Connect, DropConnection, Halt, Leads, Lead, left_by, made_by}
use Rattle.ln_link.proofs.Refusing.{has_halted}
use Rattle.ln_channel_laws.specs.Widths.{IsCommand}
use Rattle.ln_channel_laws.proofs.Offered.{All}
use Rattle.ln_link_laws.specs.Handed.{IsMessage, AreKeys}
use Rattle.ln_link_laws.specs.Course.{IsCall, AreCalls, Gives, BeginsAt, Begins, IsTold, ComesBack, Returns, Epochs}
use Rattle.ln_link_laws.specs.Course.{IsLink, IsSendable, AreSendable}
use Rattle.ln_link_laws.proofs.Failures.{IsFailure, fits_of}
use Rattle.ln_link_laws.proofs.Forms.{has_record}
use Rattle.ln_link_laws.proofs.Other.{IsOther, damaged}
use Rattle.ln_link_laws.proofs.Course.{StageLasts, DoneLasts, Good, handled_lasts, commanded_lasts, connected_lasts}
use Rattle.ln_link_laws.proofs.Course.{refused_lasts, drops_lasts, dropped_lasts, settled_lasts}
use Rattle.ln_link_laws.proofs.Loaded.{loaded_lasts}

-- ---- a link that has halted refuses

abbrev OtherErr : Result Done Refusal → Type 0
OtherErr (Ok d) = ⊥
OtherErr (Err r) = IsOther r

module _ {K : Type 0} (k : Signer) (l : State K) (h : l.halted ≡ true) where
  halted_handled : (m : Message) → OtherErr (handled k l m)
  halted_handled m = subst (λ b. OtherErr (if b then Err refusal.Halted else faulted l.failure
      (at_hand k l.connection m l.stage))) (sym h) refl

  halted_commanded : (c : command.Command) → OtherErr (commanded k l c)
  halted_commanded c = subst (λ b. OtherErr (if b then Err refusal.Halted else asked k l c)) (sym h) refl

  halted_connected : OtherErr (connected k l)
  halted_connected = subst (λ b. OtherErr (if b then Err refusal.Halted
      else (if is_down l.connection then connects k l.stage else Err refusal.NotReady))) (sym h) refl

  halted_refused : (r : Refusal) → (refused r l).halted ≡ true
  halted_refused r =
      subst (λ (b : Bool). (if b then l else unless_failed l.failure l (fails_by r l)).halted ≡ true) (sym h) h

  halted_drops : (drops l).halted ≡ true
  halted_drops = by (is_down l.connection)
    where
      by : (b : Bool) → (if b then l else record l { connection = Down; stage = cut l.stage }).halted ≡ true
      by true = h
      by false = h

  never_fails_now : (r : Refusal) → fails_now r l ≡ true → ⊥
  never_fails_now r e =
      let no : false ≡ true = subst (λ b. (not b && (is_none l.failure && fails r)) ≡ true) h e in absurd (cc)

-- ---- what is said of a call

module _ (k : Signer) (keys : AreKeys k) where
  abbrev pub Stands : {K : Type 0} → State K → Type 0
  Stands l = (l.halted ≡ true) ⊎ Good k keys l

  abbrev SaidOf : {K : Type 0} → State K → Result Done Refusal → Type 0
  SaidOf l said = ((l.halted ≡ true) × OtherErr said) ⊎ (Good k keys l × DoneLasts k keys said)

  handled_said : {K : Type 0} (l : State K) (m : Message) → IsMessage m → Stands l → SaidOf l (handled k l m)
  handled_said l m is (inl h) = inl (h, halted_handled k l h m)
  handled_said l m is (inr g) = inr (g, handled_lasts k keys l m is g)

  commanded_said : {K : Type 0} (l : State K) (c : command.Command) → IsCommand c → Stands l
      → SaidOf l (commanded k l c)
  commanded_said l c is (inl h) = inl (h, halted_commanded k l h c)
  commanded_said l c is (inr g) = inr (g, commanded_lasts k keys l c is g)

  connected_said : {K : Type 0} (l : State K) → Stands l → SaidOf l (connected k l)
  connected_said l (inl h) = inl (h, halted_connected k l h)
  connected_said l (inr g) = inr (g, connected_lasts k keys l g)

  known_said : {K : Type 0} (l : State K) (b : Bool) (said : Result Done Refusal) → SaidOf l said
      → SaidOf l (cond b (Err refusal.OutOfPlace) said)
  known_said l true said (inl h) = inl (h.0, refl)
  known_said l true said (inr h) = inr (h.0, refl)
  known_said l false said h = h

  -- ---- what a call leaves

  reaches : {K : Type 0} (said : Result Done Refusal) (l n : State K) (os : List Output) → SaidOf l said
      → Reaches (λ x. x) said l os n → Good k keys n × All IsSendable os
  reaches (Ok d) l n os (inl h) x = absurd (h.1)
  reaches (Ok d) l n os (inr h) x = (
    subst (λ (y : State _). Good k keys y) (sym x.1) (record { failure = h.0.failure; stage = h.1.0 }),
    subst (All IsSendable) (sym x.0) h.1.1,
  )
  reaches (Err r) l n os h x = absurd x

  handed : {K : Type 0} (brings : List Output → Option Side) (said : Result Done Refusal) (l n : State K)
      (os : List Output) (s t : StoreView) → SaidOf l said → HandsOut brings (λ x. x) said l os n s t
      → Good k keys n × All IsSendable os
  handed brings (Ok d) l n os s t (inl h) x = absurd (h.1)
  handed brings (Ok d) l n os s t (inr h) x = (
    subst (λ (y : State _). Good k keys y) (sym x.1)
        (settled_lasts k keys (reached d l) (record { failure = h.0.failure; stage = h.1.0 })),
    subst (All IsSendable) (sym x.0) h.1.1,
  )
  handed brings (Err r) l n os s t h x = absurd x

  halts_behind : {K : Type 0} (brings : List Output → Option Side) (e : Refusal) (said : Result Done Refusal)
      (l n : State K) (s t : StoreView) → HaltsBehind brings e said l n s t → n.halted ≡ true
  halts_behind brings e (Ok d) l n s t (inl h) = ap (λ (x : State _). x.halted) h.1
  halts_behind brings e (Ok d) l n s t (inr h) = ap (λ (x : State _). x.halted) h.1.0
  halts_behind brings e (Err r) l n s t h = absurd h

  halts_refused : {K : Type 0} (e : Refusal) (said : Result Done Refusal) (l n : State K) (s t : StoreView)
      → HaltsRefused e said l n s t → n.halted ≡ true
  halts_refused e (Ok d) l n s t h = absurd h
  halts_refused e (Err r) l n s t h = ap (λ (x : State _). x.halted) h.1.0

  refused_stands : {K : Type 0} (l : State K) (said : Result Done Refusal) (r : Refusal) → SaidOf l said
      → Stands (refused r l)
  refused_stands l said r (inl h) = inl (halted_refused k l h.0 r)
  refused_stands l said r (inr h) = inr (refused_lasts k keys l r h.0)

  as_it_was : {K : Type 0} (l : State K) (said : Result Done Refusal) → SaidOf l said → Stands l
  as_it_was l said (inl h) = inl h.0
  as_it_was l said (inr h) = inr h.0

  moved : {K : Type 0} (n m : State K) → n ≡ m → Stands m → Stands n
  moved n m e = subst (λ (x : State _). Stands x) (sym e)

  message_stands : {K : Type 0} (said : Result Done Refusal) (l n : State K) (m : Message)
      (answer : Result (List Output) Refusal) (s t : StoreView) → SaidOf l said
      → AnswersMessage (λ x. x) said l m answer n s t → Stands n
  message_stands said l n m (Ok os) s t h x = inr (handed (taken_alone (is_update m)) said l n os s t h x).0
  message_stands said l n m (Err e) s t h (inl x) = inl (has_halted l n x.1)
  message_stands said l n m (Err e) s t h (inr (inl x)) =
      inl (halts_behind (taken_alone (is_update m)) e said l n s t x)
  message_stands said l n m (Err e) s t h (inr (inr (inl x))) = inl (halts_refused e said l n s t x)
  message_stands said l n m (Err e) s t h (inr (inr (inr x))) = moved n (refused e l) x.1 (refused_stands l said e h)

  over_said : {K : Type 0} (l : State K) (m : Message) (s : StoreView) → IsMessage m → Stands l
      → SaidOf l (handled_beside s.records k l m)
  over_said l m s is h = known_said l (is_known (opened l m) s.records) (handled k l m) (handled_said l m is h)

  over_stands : {K : Type 0} (l n : State K) (m : Message) (answer : Result (List Output) Refusal) (s t : StoreView)
      → IsMessage m → Stands l → AnswersOver (λ x. x) k l m answer n s t → Stands n
  over_stands l n m (Ok os) s t is h x =
      message_stands (handled_beside s.records k l m) l n m (Ok os) s t (over_said l m s is h) x
  over_stands l n m (Err e) s t is h (inl x) = inl (ap (λ (y : State _). y.halted) x.halts)
  over_stands l n m (Err e) s t is h (inr x) =
      message_stands (handled_beside s.records k l m) l n m (Err e) s t (over_said l m s is h) x

  command_stands : {K : Type 0} (said : Result Done Refusal) (l n : State K) (c : command.Command)
      (answer : Result (List Output) Refusal) (s t : StoreView) → SaidOf l said
      → AnswersCommand (λ x. x) said l c answer n s t → Stands n
  command_stands said l n c (Ok os) s t h x =
      inr (handed (λ y. sent_alone (sends_update c)) said l n os s t h x).0
  command_stands said l n c (Err e) s t h (inl x) = inl (has_halted l n x.1)
  command_stands said l n c (Err e) s t h (inr (inl x)) =
      inl (halts_behind (λ y. sent_alone (sends_update c)) e said l n s t x)
  command_stands said l n c (Err e) s t h (inr (inr x)) = moved n l x.1 (as_it_was l said h)

  -- a connection
  connect_stands : {K : Type 0} (said : Result Done Refusal) (l n : State K) (answer : Result (List Output) Refusal)
      → SaidOf l said → Answered (λ x. x) said l answer n → Stands n
  connect_stands said l n (Ok os) h x = inr (reaches said l n os h x).0
  connect_stands said l n (Err e) h (inl x) = inl (has_halted l n x.1)
  connect_stands said l n (Err e) h (inr x) = moved n l x.1 (as_it_was l said h)

  drops_stands : {K : Type 0} (l : State K) → Stands l → Stands (drops l)
  drops_stands l (inl h) = inl (halted_drops k l h)
  drops_stands l (inr g) = inr (drops_lasts k keys l g)

  -- ---- calls, one after the other

  leads_stand : {K : Type 0} (c : Call) (l n : State K) (s t : StoreView) → IsCall c → Stands l → Leads k c l s n t
      → Stands n
  leads_stand (Handle m) l n s t is h x = over_stands l n m x.0 s t is h x.1
  leads_stand (Command c) l n s t is h x =
      command_stands (commanded k l c) l n c x.0 s t (commanded_said l c is h) x.1
  leads_stand Connect l n s t is h x = connect_stands (connected k l) l n x.0 (connected_said l h) x.1
  leads_stand DropConnection l n s t is h x = moved n (drops l) x.0 (drops_stands l h)
  leads_stand Halt l n s t is h x = inl (ap (λ (y : State _). y.halted) x.0)

  lead_stands : {K : Type 0} (cs : List Call) (l n : State K) (s t : StoreView) → AreCalls cs → Stands l
      → Lead k cs l s n t → Stands n
  lead_stands [] l n s t are h x = moved n l x.0 h
  lead_stands (c ∷ cs) l n s t are h x =
      lead_stands cs x.0 n x.1 t are.1 (leads_stand c l x.0 s x.1 are.0 h x.2) x.4

  -- ---- restarts

  left_good : {K : Type 0} (said : Result Done Refusal) (refusing : Refusal → State K) (l : State K)
      → DoneLasts k keys said → ((r : Refusal) → Good k keys (refusing r)) → Good k keys l
      → Good k keys (left_by said refusing l)
  left_good (Ok d) refusing l said f h =
      settled_lasts k keys (reached d l) (record { failure = h.failure; stage = said.0 })
  left_good (Err r) refusing l said f h = f r

  beside_lasts : (b : Bool) (said : Result Done Refusal) → DoneLasts k keys said
      → DoneLasts k keys (cond b (Err refusal.OutOfPlace) said)
  beside_lasts true said h = refl
  beside_lasts false said h = h

  made_good : {K : Type 0} (c : Call) (l : State K) (s : StoreView) → IsCall c → Good k keys l
      → Good k keys (made_by k c l s)
  made_good (Handle m) l s is h =
      left_good (handled_beside s.records k l m) (λ r. refused r l) l
      (beside_lasts (is_known (opened l m) s.records) (handled k l m) (handled_lasts k keys l m is h))
      (λ r. refused_lasts k keys l r h) h
  made_good (Command c) l s is h =
      left_good (commanded k l c) (λ r. l) l (commanded_lasts k keys l c is h) (λ r. h) h
  made_good Connect l s is h = h
  made_good DropConnection l s is h = h
  made_good Halt l s is h = h

  told_good : {K : Type 0} (l told : State K) → Good k keys l → IsTold k l told → Good k keys told
  told_good l told h (inl e) = subst (λ (x : State _). Good k keys x) (sym e) h
  told_good l told h (inr x) = subst (λ (y : State _). Good k keys y) (sym x.3) (made_good x.0 l x.1 x.2 h)

  -- as its record is loaded
  loaded_good : {K : Type 0} (f : Option Refusal) (s : Stage) (back : State K) → IsFailure f → StageLasts k s
      → IsLoadedOf back f (saved_end s) → Good k keys back
  loaded_good f (stage.Funded e) back fits h is =
      subst (λ (x : State _). Good k keys x) (sym is.1)
      (record { failure = fits; stage = loaded_lasts f e is.0 h })
  loaded_good f (stage.AwaitsOpen c) back fits h is = absurd is
  loaded_good f (stage.AwaitsAccept c) back fits h is = absurd is
  loaded_good f (stage.AwaitsCreated c) back fits h is = absurd is
  loaded_good f (stage.AwaitsSigned c) back fits h is = absurd is
  loaded_good f stage.Gone back fits h is = absurd is

  -- as a lost connection leaves what the link before had
  dropped_good : {K : Type 0} (f : Option Refusal) (s : Stage) (back : State K) → IsFailure f → StageLasts k s
      → CameBack back.keys f (saved_end s) back → Good k keys back
  dropped_good f (stage.Funded e) back fits h is =
      subst (λ (x : State _). Good k keys x) (sym is) (record { failure = fits; stage = dropped_lasts e h })
  dropped_good f (stage.AwaitsOpen c) back fits h is = absurd is
  dropped_good f (stage.AwaitsAccept c) back fits h is = absurd is
  dropped_good f (stage.AwaitsCreated c) back fits h is = absurd is
  dropped_good f (stage.AwaitsSigned c) back fits h is = absurd is
  dropped_good f stage.Gone back fits h is = absurd is

  comes_good : {K : Type 0} (told back : State K) → Good k keys told → ComesBack told back → Good k keys back
  comes_good told back g (inl is) = loaded_good told.failure told.stage back g.failure g.stage is
  comes_good told back g (inr is) = dropped_good told.failure told.stage back g.failure g.stage is

  not_halted : {K : Type 0} (l : State K) → l.halted ≡ false → Stands l → Good k keys l
  not_halted l stands (inl h) = absurd (let both : true ≡ false = subst (λ b. b ≡ false) h stands in cc)
  not_halted l stands (inr g) = g

  returns_stand : {K : Type 0} (l back : State K) → Stands l → Returns k l back → Stands back
  returns_stand l back h r =
      inr (comes_good r.told back (told_good l r.told (not_halted l r.stands h) r.is_told) r.returns)

  epochs_stand : {K : Type 0} (epochs : List (List Call)) (l n : State K) → Stands l
      → Epochs k epochs l n → Stands n
  epochs_stand [] l n h x = moved n l x h
  epochs_stand (cs ∷ epochs) l n h x =
      epochs_stand epochs x.1 n (returns_stand x.0 x.1 (lead_stands cs l x.0 x.2 x.3 x.4 h x.5) x.6) x.7

  begins_stage : (s : Stage) → BeginsAt k s → StageLasts k s
  begins_stage (stage.AwaitsAccept s) h = h
  begins_stage (stage.AwaitsOpen c) h = h
  begins_stage (stage.AwaitsCreated c) h = absurd h
  begins_stage (stage.AwaitsSigned c) h = absurd h
  begins_stage (stage.Funded c) h = absurd h
  begins_stage stage.Gone h = absurd h

  begins_stand : {K : Type 0} (l : State K) → Begins k l → Stands l
  begins_stand l h = inr (record {
    failure = subst IsFailure (sym (ap (λ (x : State _). x.failure) h.0)) tt;
    stage = begins_stage l.stage h.1;
  })

  link_stands : {K : Type 0} (l : State K) → IsLink k l → Stands l
  link_stands l h =
      lead_stands h.calls h.back l h.store h.behind h.are_calls
      (epochs_stand h.epochs h.first h.back (begins_stand h.first h.begins) h.comes) h.leads

  -- ---- no save is damaged

  no_record : (f : Option Refusal) (s : Stage) → IsFailure f → StageLasts k s → CannotBeStored f (saved_end s) → ⊥
  no_record f (stage.Funded e) fits h lacks = has_record f h.origin e (fits_of f fits) h.is h.fits h.more lacks
  no_record f (stage.AwaitsOpen c) fits h lacks = lacks
  no_record f (stage.AwaitsAccept c) fits h lacks = lacks
  no_record f (stage.AwaitsCreated c) fits h lacks = lacks
  no_record f (stage.AwaitsSigned c) fits h lacks = lacks
  no_record f stage.Gone fits h lacks = lacks

  no_memory : refusal.Damaged ≡ refusal.Memory → ⊥
  no_memory e = absurd (cc)

  no_store : refusal.Damaged ≡ refusal.Store → ⊥
  no_store e = absurd (cc)

  never_unsaved : {K : Type 0} (l : State K) (s t : StoreView) → Good k keys l
      → IsUnsaved refusal.Damaged l.failure (saved_end l.stage) s t → ⊥
  never_unsaved l s t h x = by (x.cause)
    where
      by : FailsBy refusal.Damaged l.failure (saved_end l.stage) s.failed t.failed → ⊥
      by (inl y) = no_memory y.0
      by (inr (inl y)) = no_record l.failure l.stage h.failure h.stage y.1
      by (inr (inr y)) = no_store y.0

  never_behind : {K : Type 0} (brings : List Output → Option Side) (said : Result Done Refusal) (l n : State K)
      (s t : StoreView) → SaidOf l said → HaltsBehind brings refusal.Damaged said l n s t → ⊥
  never_behind brings (Ok d) l n s t (inl h) x = h.1
  never_behind brings (Ok d) l n s t (inr h) (inl x) = no_memory x.0
  never_behind brings (Ok d) l n s t (inr h) (inr x) =
      never_unsaved (settled d l) s t
      (settled_lasts k keys (reached d l) (record { failure = h.0.failure; stage = h.1.0 })) x.1.1
  never_behind brings (Err r) l n s t h x = x

  never_refused : {K : Type 0} (said : Result Done Refusal) (l n : State K) (s t : StoreView) → SaidOf l said
      → HaltsRefused refusal.Damaged said l n s t → ⊥
  never_refused (Ok d) l n s t h x = x
  never_refused (Err r) l n s t (inl h) x = never_fails_now k l h.0 r x.0
  never_refused (Err r) l n s t (inr h) x = never_unsaved (refused r l) s t (refused_lasts k keys l r h.0) x.1.1

  never_said : {K : Type 0} (said : Result Done Refusal) (l : State K) → SaidOf l said → said ≡ Err refusal.Damaged → ⊥
  never_said said l (inl h) e = damaged refusal.Damaged (subst OtherErr e h.1) refl
  never_said said l (inr h) e = damaged refusal.Damaged (subst (DoneLasts k keys) e h.1) refl

  never_message : {K : Type 0} (said : Result Done Refusal) (l n : State K) (m : Message) (s t : StoreView)
      → SaidOf l said → AnswersMessage (λ x. x) said l m (Err refusal.Damaged) n s t → ⊥
  never_message said l n m s t h (inl x) = no_memory x.0.0
  never_message said l n m s t h (inr (inl x)) = never_behind (taken_alone (is_update m)) said l n s t h x
  never_message said l n m s t h (inr (inr (inl x))) = never_refused said l n s t h x
  never_message said l n m s t h (inr (inr (inr x))) = never_said said l h x.0

  always_told : (o : Option (List ℕ)) (m n : ℕ) → CannotTell refusal.Damaged o m n → ⊥
  always_told None m n x = x
  always_told (Some channel) m n (inl x) = no_memory x.0
  always_told (Some channel) m n (inr x) = no_store x.0

  never_gives : {K : Type 0} (c : Call) (l n : State K) (s t : StoreView) → Stands l → IsCall c
      → Gives k c (Err refusal.Damaged) l s n t → ⊥
  never_gives (Handle m) l n s t h is (inl x) = always_told (opened l m) s.failed t.failed x.cause
  never_gives (Handle m) l n s t h is (inr x) =
      never_message (handled_beside s.records k l m) l n m s t (over_said l m s is h) x
  never_gives (Command c) l n s t h is (inl x) = no_memory x.0.0
  never_gives (Command c) l n s t h is (inr (inl x)) =
      never_behind (λ y. sent_alone (sends_update c)) (commanded k l c) l n s t (commanded_said l c is h) x
  never_gives (Command c) l n s t h is (inr (inr x)) =
      never_said (commanded k l c) l (commanded_said l c is h) x.0
  never_gives Connect l n s t h is x = by (x.0)
    where
      by : Answered (λ y. y) (connected k l) l (Err refusal.Damaged) n → ⊥
      by (inl y) = no_memory y.0.0
      by (inr y) = never_said (connected k l) l (connected_said l h) y.0
  never_gives DropConnection l n s t h is x = absurd (let no = x.0 in cc)
  never_gives Halt l n s t h is x = absurd (let no = x.0 in cc)

  -- ---- what is handed out can be written

  all_sendable : (os : List Output) → All IsSendable os → AreSendable os
  all_sendable [] h = tt
  all_sendable (o ∷ os) h = (h.0, all_sendable os h.1)

  nothing_sent : (os : List Output) → ◌≡◌ {A = Result (List Output) Refusal} (Ok os) (Ok []) → AreSendable os
  nothing_sent [] e = tt
  nothing_sent (o ∷ os) e = absurd (cc)

  gives_sendable : {K : Type 0} (c : Call) (os : List Output) (l n : State K) (s t : StoreView) → Stands l → IsCall c
      → Gives k c (Ok os) l s n t → AreSendable os
  gives_sendable (Handle m) os l n s t h is x =
      all_sendable os
      (handed (taken_alone (is_update m)) (handled_beside s.records k l m) l n os s t (over_said l m s is h) x).1
  gives_sendable (Command c) os l n s t h is x =
      all_sendable os
      (handed (λ y. sent_alone (sends_update c)) (commanded k l c) l n os s t (commanded_said l c is h) x).1
  gives_sendable Connect os l n s t h is x =
      all_sendable os (reaches (connected k l) l n os (connected_said l h) x.0).1
  gives_sendable DropConnection os l n s t h is x = nothing_sent os x.0
  gives_sendable Halt os l n s t h is x = nothing_sent os x.0

-- ---- the laws

pub no_damage : {K : Type 0} (k : Signer) (c : Call) (l n : State K) (s t : StoreView) → AreKeys k
    → IsLink k l → IsCall c
    → Gives k c (Err refusal.Damaged) l s n t → ⊥
no_damage k c l n s t keys is call x = never_gives k keys c l n s t (link_stands k keys l is) call x

pub sendable : {K : Type 0} (k : Signer) (c : Call) (os : List Output) (l n : State K) (s t : StoreView) → AreKeys k
    → IsLink k l → IsCall c → Gives k c (Ok os) l s n t → AreSendable os
sendable k c os l n s t keys is call x = gives_sendable k keys c os l n s t (link_stands k keys l is) call x
