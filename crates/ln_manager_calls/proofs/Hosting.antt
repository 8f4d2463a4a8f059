-- What a user, a host and a connection make of one channel.
use Rattle.std.proofs.Common.{◌≡◌, inl, inr, ℕ, List, [], slice_get, slice_set, refl, sym, ap, ◌∙◌, subst, Bool, true}
use Rattle.std.proofs.Common.{false, cond, Option, Some, None, Result, Ok, Err}
use Rattle.ln_refusals.specs.declared.refusal.Refusal.{Refusal}
use Rattle.ln_refusals.specs.declared.refusal.Refusal.TheVariants as refusal
use Rattle.ln_keys.specs.Signer.{Signer}
use Rattle.ln_channel.specs.declared.machine.Stage.{Stage}
use Rattle.ln_channel.specs.declared.machine.Stage.TheVariants as stage
use Rattle.ln_channel.specs.Asking.{with_named}
use Rattle.ln_channel.specs.End.{End}
use Rattle.ln_channel.specs.Record.{saved_end}
use Rattle.ln_channel.specs.declared.command.Command.{Command}
use Rattle.ln_channel.specs.declared.command.Command.TheVariants as command
use Rattle.ln_channel.specs.State.{State, halts, is_down}
use Rattle.ln_channel.specs.Step.{Done, commanded, connected}
use Rattle.ln_channel.specs.Step as step
use Rattle.ln_book_tables.specs.Replay.{table_of}
use Rattle.ln_manager_laws.specs.Calls as made
use Rattle.ln_manager_laws.specs.Calls.{connected_by}
use Rattle.ln_manager_laws.specs.Steps as laws
use Rattle.ln_manager_channels.specs.declared.newest.Newest.{Newest}
use Rattle.ln_manager_channels.specs.Commands as mine
use Rattle.ln_manager_channels.specs.Moves.{Answer, Connects, Obeys, ObeysBy, ObeysOver, ObeysUser, store_of}
use Rattle.ln_manager_channels.specs.Moves.{with_funding}
use Rattle.ln_manager_channels.specs.Places.{AnswersAt, AnswersBy, AnswersBesideBy, changed_at, changed_by}
use Rattle.ln_manager_channels.specs.Calls.{Parts, LinksAlone, LinksAndRecords}
use Rattle.ln_manager_calls.specs.Standing.{IsRecorded, Loaded, kept_at}
use Rattle.ln_manager_calls.proofs.Answering.{command_left, connection_left}
use Rattle.ln_manager_calls.proofs.Kept.{View, view, HasNumber, Leads, SameRecords}
use Rattle.ln_manager_calls.proofs.Places.{set_same}
use Rattle.ln_manager_calls.proofs.Recording.{KeepsEnd, Tells, call_tells, command_leaves, halt_tells, quiet_tells}
use Rattle.ln_manager_calls.proofs.Seating.{drops_keeps, named_keeps}
use Rattle.ln_manager_calls.proofs.Steps.{host_lead, still_halts}

-- ---- what a user may command is the same here as in the laws

users_alike : (c : Command) → mine.is_users c ≡ laws.is_users c
users_alike (command.Confirm id) = refl
users_alike (command.Add amount hash expiry onion None) = refl
users_alike (command.Add amount hash expiry onion (Some origin)) = refl
users_alike (command.Fulfil id preimage) = refl
users_alike (command.Fail id reason) = refl
users_alike (command.Malformed id sha code) = refl
users_alike (command.Fee feerate) = refl
users_alike command.Sign = refl
users_alike (command.Shutdown script) = refl
users_alike (command.Decide event mark) = refl
users_alike (command.Forget id) = refl
users_alike (command.Resume event mark) = refl

-- ---- what keeps an end

-- its funding is named
named_end : (txid : List ℕ) (output : ℕ) (s : Stage) → saved_end (with_named txid output s) ≡ saved_end s
named_end txid output (stage.Funded e) = refl
named_end txid output (stage.AwaitsOpen x) = refl
named_end txid output (stage.AwaitsAccept x) = refl
named_end txid output (stage.AwaitsCreated x) = refl
named_end txid output (stage.AwaitsSigned x) = refl
named_end txid output stage.Gone = refl

-- a connection keeps its end
abbrev end_by : Result Done Refusal → Option End
end_by (Ok d) = saved_end d.stage
end_by (Err r) = None

connects_end : (keys : Signer) (s : Stage) (d : Done) → step.connects keys s ≡ Ok d → saved_end d.stage ≡ saved_end s
connects_end keys (stage.Funded e) d is = sym (ap end_by is)
connects_end keys (stage.AwaitsOpen x) d is = sym (ap end_by is)
connects_end keys (stage.AwaitsAccept x) d is = sym (ap end_by is)
connects_end keys (stage.AwaitsCreated x) d is = sym (ap end_by is)
connects_end keys (stage.AwaitsSigned x) d is = sym (ap end_by is)
connects_end keys stage.Gone d is = sym (ap end_by is)

connected_end : (keys : Signer) (halted down : Bool) (s : Stage) (d : Done)
    → (cond halted (Err refusal.Halted) (cond down (step.connects keys s) (Err refusal.NotReady))) ≡ Ok d
    → saved_end d.stage ≡ saved_end s
connected_end keys true down s d is = absurd (cc)
connected_end keys false true s d is = connects_end keys s d is
connected_end keys false false s d is = absurd (cc)

module _ {K : Type 0} where
  -- records that are the same are so at each place
  pub same_records : (old : Loaded) (p q : Parts K) → q.records ≡ p.records → SameRecords (view old p) (view old q)
  same_records old p q is k = ap (λ ns. kept_at old ns k) is

  connection_keeps : (row : Result Done Refusal) (l : State K)
      → ((d : Done) → row ≡ Ok d → saved_end d.stage ≡ saved_end l.stage) → KeepsEnd l (connected_by row l)
  connection_keeps (Ok d) l same = (inl (same d refl), refl)
  connection_keeps (Err r) l same = (inl refl, refl)

  -- one is put back as it was
  pub put_back : (old : Loaded) (p q : Parts K) (c : ℕ) (n n' : Newest) → slice_get p.records c ≡ Some n
      → q.records ≡ slice_set p.records c n' → n' ≡ n → SameRecords (view old p) (view old q)
  put_back old p q c n n' found kept same =
      same_records old p q (kept ∙ ap (slice_set p.records c) same ∙ set_same p.records c n found)

module _ {K : Type 0} (signer : K → Signer) where
  pub same_lead : (v w : View K) → w.links ≡ v.links → SameRecords v w → w.numbers ≡ v.numbers → w.table ≡ v.table
      → Leads signer v w
  same_lead v w links records numbers table m h = (
    [],
    tt,
    record {
      links = h.links ∙ sym links;
      book = h.book ∙ sym table;
      sound = h.sound;
      faithful = h.faithful;
      numbered = λ k x at. subst (λ ns. HasNumber ns k x) (sym numbers) (h.numbered k x at);
      recorded = λ k. subst (IsRecorded (slice_get m.seats k)) (sym (records k)) (h.recorded k);
      out = h.out;
    },
  )

  module _ (old : Loaded) (p q : Parts K) (alone : LinksAlone p q) where
    table : table_of q.book ≡ table_of p.book
    table = ap table_of alone.1

    same : SameRecords (view old p) (view old q)
    same = same_records old p q alone.2

    none_lead : q.links ≡ p.links → Leads signer (view old p) (view old q)
    none_lead is = same_lead (view old p) (view old q) is same alone.0 table

    -- a changed place
    pub changed_lead : (c : ℕ) (f : State K → State K) → q.links ≡ changed_at c f p.links
        → ((l : State K) → slice_get p.links c ≡ Some l → q.links ≡ slice_set p.links c (f l)
        → Leads signer (view old p) (view old q)) → Leads signer (view old p) (view old q)
    changed_lead c f is there = cases (slice_get p.links c) refl
      where
        cases : (o : Option (State K)) → slice_get p.links c ≡ o → Leads signer (view old p) (view old q)
        cases None at = none_lead (is ∙ ap (λ o. changed_by c f o p.links) at)
        cases (Some l) at = there l at (is ∙ ap (λ o. changed_by c f o p.links) at)

    pub names : (c : ℕ) (txid : List ℕ) (output : ℕ) → q.links ≡ changed_at c (with_funding txid output) p.links
        → Leads signer (view old p) (view old q)
    names c txid output is = changed_lead c (with_funding txid output) is (λ l at now.
        host_lead signer (view old p) (view old q) c l (with_funding txid output l) at now alone.0
        (made.NameFunding txid output) tt (λ xs. tt) refl (λ halted. named_keeps txid output l.stage)
        (quiet_tells (kept_at old p.records) (kept_at old q.records) c l (with_funding txid output l) same
        (inl (named_end txid output l.stage), refl)) table)

    pub halted : (c : ℕ) → q.links ≡ changed_at c halts p.links → Leads signer (view old p) (view old q)
    halted c is = changed_lead c halts is (λ l at now.
        still_halts signer (view old p) (view old q) c l (halts l) at now alone.0 refl (drops_keeps l)
        (halt_tells (kept_at old p.records) (kept_at old q.records) c l (halts l) same refl) table)

    -- ---- a connection

    connection : (c : ℕ) (l l' : State K) (answer : Answer) → slice_get p.links c ≡ Some l
        → q.links ≡ slice_set p.links c l' → Connects signer l l' answer → Leads signer (view old p) (view old q)
    unfolding Connects
    connection c l l' answer at now h =
        elim (connection_left (λ v. v.items) l l' (connected (signer l.keys) l) answer h.0) [
          | inl is ↦ host_lead signer (view old p) (view old q) c l l' at now alone.0 made.Connect tt (λ xs. tt) is
              (λ halted. h.1) (quiet_tells (kept_at old p.records) (kept_at old q.records) c l l' same
              (subst (KeepsEnd l) (sym is)
              (connection_keeps (connected (signer l.keys) l) l
              (connected_end (signer l.keys) l.halted (is_down l.connection) l.stage)))) table
          | inr halted ↦ still_halts signer (view old p) (view old q) c l l' at now alone.0 halted h.1
              (halt_tells (kept_at old p.records) (kept_at old q.records) c l l' same halted) table
        ]

    pub connects : (c : ℕ) (answer : Answer) → AnswersAt c (Connects signer) answer p.links q.links
        → Leads signer (view old p) (view old q)
    unfolding AnswersAt
    connects c answer h = cases (slice_get p.links c) refl h
      where
        cases : (o : Option (State K)) → slice_get p.links c ≡ o
            → AnswersBy c (Connects signer) o answer p.links q.links → Leads signer (view old p) (view old q)
        cases None at k = none_lead k.1
        cases (Some l) at k = connection c l k.0 answer at k.1 k.2

  -- ---- a user's command

  module _ (old : Loaded) (p q : Parts K) (beside : LinksAndRecords p q) where
    told : table_of q.book ≡ table_of p.book
    told = ap table_of beside.1

    commands_user : (c : ℕ) (x : Command) (l l' : State K) (n n' : Newest) (answer : Answer)
        → slice_get p.links c ≡ Some l → slice_get p.records c ≡ Some n → q.links ≡ slice_set p.links c l'
        → q.records ≡ slice_set p.records c n' → laws.is_users x ≡ true
        → Obeys signer x l l' n n' answer → Leads signer (view old p) (view old q)
    unfolding Obeys
    commands_user c x l l' n n' answer at found now kept user h =
        elim (command_left (λ v. v.items) l l' x (commanded (signer l.keys) l x) answer (store_of n) (store_of n')
        h.0) [
          | inl k ↦ host_lead signer (view old p) (view old q) c l l' at now beside.0 (made.Command x) tt (λ xs. user)
              k.is
              (λ halted. h.1) tells told
          | inr halted ↦ still_halts signer (view old p) (view old q) c l l' at now beside.0 halted h.1 tells told
        ]
      where
        tells : (o : Option End) → Tells (kept_at old p.records) (kept_at old q.records) c l l' o
        tells = call_tells old p.records q.records c l l' n n' found kept h.1
            (command_leaves (λ v. v.items) l l' n n' (signer l.keys) answer x h.0)

    obeys_user : (c : ℕ) (x : Command) (answer : Answer) → laws.is_users x ≡ true
        → ObeysOver signer c x answer p.links q.links p.records q.records → Leads signer (view old p) (view old q)
    unfolding ObeysOver
    obeys_user c x answer user h = by_record (slice_get p.records c) refl h
      where
        by_link : (n n' : Newest) → slice_get p.records c ≡ Some n → q.records ≡ slice_set p.records c n'
            → (o : Option (State K)) → slice_get p.links c ≡ o
            → AnswersBesideBy c (Obeys signer x) o answer p.links q.links n n' → Leads signer (view old p) (view old q)
        by_link n n' found kept None at k = same_lead (view old p) (view old q) k.1 (put_back old p q c n n' found kept
            k.2)
            beside.0 told
        by_link n n' found kept (Some l) at k = commands_user c x l k.0 n n' answer at found k.1 kept user k.2

        by_record : (o : Option Newest) → slice_get p.records c ≡ o
            → ObeysBy signer c x o answer p.links q.links p.records q.records → Leads signer (view old p) (view old q)
        by_record None none k = halted old p q (beside.0, beside.1, k.2) c k.1
        by_record (Some n) found k = by_link n k.0 found k.1 (slice_get p.links c) refl k.2

    pub commands : (c : ℕ) (x : Command) (answer : Answer)
        → ObeysUser signer (mine.is_users x) c x answer p.links q.links p.records q.records
        → Leads signer (view old p) (view old q)
    commands c x answer h = by_user (mine.is_users x) (sym (users_alike x)) h
      where
        by_user : (b : Bool) → laws.is_users x ≡ b
            → ObeysUser signer b c x answer p.links q.links p.records q.records → Leads signer (view old p) (view old q)
        by_user true user k = obeys_user c x answer user k
        by_user false never k = same_lead (view old p) (view old q) k.1 (same_records old p q k.2) beside.0 told
