-- What a call makes of a link's end: nothing, an end that was just opened, or a shift and a base that moves on; and of
-- the id that the link has agreed on.
use Rattle.std.proofs.Common.{◌≡◌, ℕ, List, [], refl, sym, ap, ◌∙◌, subst, Bool, true, false, cond, Option, Some, None}
use Rattle.std.proofs.Common.{Result, Ok, Err, not, ◌||◌}
use Rattle.std.specs.Prelude.{option_map, is_none}
use Rattle.ln_msgs.specs.declared.messages.message.Message.{Message}
use Rattle.ln_msgs.specs.declared.messages.message.Message.TheVariants as message
use Rattle.ln_refusals.specs.declared.refusal.Refusal.{Refusal}
use Rattle.ln_refusals.specs.declared.refusal.Refusal.TheVariants as refusal
use Rattle.ln_keys.specs.Signer.{Signer}
use Rattle.ln_log.specs.Log as log
use Rattle.ln_log.specs.Log.{Log}
use Rattle.ln_channel.specs.declared.command.Command.{Command}
use Rattle.ln_channel.specs.declared.machine.ConnectionState.{ConnectionState}
use Rattle.ln_channel.specs.declared.machine.ConnectionState.TheVariants as connection
use Rattle.ln_channel.specs.declared.machine.Stage.{Stage}
use Rattle.ln_channel.specs.declared.machine.Stage.TheVariants as stage
use Rattle.ln_channel.specs.declared.opening.Opened.{Opened}
use Rattle.ln_msgs.specs.Messages.Channel.{id_of_channel}
use Rattle.ln_channel.specs.Asking.{with_named}
use Rattle.ln_channel.specs.Naming.{channel_of, opens}
use Rattle.ln_channel.specs.Base.{based, based_stage}
use Rattle.ln_channel.specs.Commands.{command_row, note_row, unready_fault}
use Rattle.ln_channel.specs.End.{End, Turn, end_of, end_dropped}
use Rattle.ln_channel.specs.Failing.{fails}
use Rattle.ln_channel.specs.Opening.{unless, first_fault, accept_fault, funder_end, created_message, created_fault}
use Rattle.ln_channel.specs.Opening.{fundee_end, funding_message, open_fault, agreement, accept_message}
use Rattle.ln_channel.specs.Record.{saved_end}
use Rattle.ln_channel.specs.Resume.{resume_row}
use Rattle.ln_channel.specs.State.{State, refused, unless_failed, fails_by, failed, lost, cut, is_down}
use Rattle.ln_channel.specs.State.{is_connected}
use Rattle.ln_channel.specs.Step.{Done, turned, faulted, at_hand, stage_row, awaiting_at, opening_at, replied}
use Rattle.ln_channel.specs.Step.{is_passed_over, message_fault, line_fault, is_of_records, obeyed, noted}
use Rattle.ln_channel.specs.Step.{asked, handled, commanded, connected, connects, opened}
use Rattle.ln_channel.specs.Taking.{taken}
use Rattle.ln_store.specs.Store.{Records}
use Rattle.ln_link.specs.Calls.{left_by}
use Rattle.ln_link.specs.Saving.{handled_beside, is_known}
use Rattle.ln_payment_circuits.specs.Snapshot.{IsFit, IsFitLog}
use Rattle.ln_payment_circuits.specs.Happens.{IsNew}
use Rattle.ln_payment_circuits.specs.Shift.{Shift, Stays as Same, IsPlain}
use Rattle.ln_payment_circuits.proofs.Calls.{IfTurn, PlainIf, Plainly, if_turn, IsPlainCommand, taken_so, resumed_so}
use Rattle.ln_payment_circuits.proofs.Calls.{command_so, note_so}
use Rattle.ln_payment_circuits.proofs.Fitting.{fit_begun}
use Rattle.ln_manager_laws.specs.Calls.{connected_by}

-- ---- what becomes of an end

-- plain where this holds
pub data Becomes (P : Type 0) (o p : Option End) : Type 0 where
  Stays : p ≡ o → Becomes P o p
  Opens : (e : End) → IsNew e → IsFit e → o ≡ None → p ≡ Some (based e) → Becomes P o p
  Turns : (e f : End) (x : Shift e f) → (P → IsPlain x) → f.dance.channel ≡ e.dance.channel → o ≡ Some e
      → p ≡ Some (based f) → Becomes P o p

-- an end that both sides have agreed on, and that isn't saved yet
pub record IsAgreed (e : End) : Type 0 where
  pub new : IsNew e
  pub fit : IsFit e

abbrev pub IsReady : Stage → Type 0
IsReady (stage.AwaitsOpen c) = Unit {0}
IsReady (stage.AwaitsAccept s) = Unit {0}
IsReady (stage.AwaitsCreated a) = Unit {0}
IsReady (stage.AwaitsSigned e) = IsAgreed e
IsReady (stage.Funded e) = Unit {0}
IsReady stage.Gone = Unit {0}

-- the id that both sides have agreed on, of which it may be new that it is one of these
pub data IdGoes (O : List ℕ → Type 0) (s t : Stage) : Type 0 where
  Keeps : channel_of t ≡ channel_of s → IdGoes O s t
  Loses : channel_of t ≡ None → IdGoes O s t
  Agrees : (id : List ℕ) → O id → channel_of t ≡ Some id → IdGoes O s t

-- a stage that a call leaves, where it was this one
pub record IsLeft (P : Type 0) (O : List ℕ → Type 0) (s t : Stage) : Type 0 where
  pub becomes : Becomes P (saved_end s) (saved_end (based_stage t))
  pub ready : IsReady (based_stage t)
  pub id : IdGoes O s (based_stage t)

abbrev pub IfDone : (Stage → Type 0) → Result Done Refusal → Type 0
IfDone Q (Ok d) = Q d.stage
IfDone Q (Err r) = Unit {0}

-- ---- an opening

agreed_end_is : (o : Opened) → o.dance.log ≡ log.opened o.dance.log.opening o.dance.log.role → IsAgreed (end_of o)
agreed_end_is o is = record {
  new = record {
    own = ap (λ (l : Log). l.own) is;
    received = ap (λ (l : Log). l.received) is;
    ledger = refl;
  };
  fit = subst (λ (l : Log). IsFitLog l []) (sym is) (fit_begun o.dance.log.opening o.dance.log.role);
}

module _ (P : Type 0) (O : List ℕ → Type 0) where
  unless_so : {A M : Type 0} (Q : Stage → Type 0) (l : ConnectionState) (to : A → Stage) (by : M → Message)
      (o : Option Refusal) (x : A × M) → Q (to x.0) → IfDone Q (replied l to by (unless o x))
  unless_so Q l to by None x h = h
  unless_so Q l to by (Some r) x h = tt

  signed_so : (l : ConnectionState) (e : End) (o : Option Refusal) → IsAgreed e
      → IfDone (IsLeft P O (stage.AwaitsSigned e))
      (unless o (record { connection = l; stage = stage.Funded e; outputs = [] }))
  signed_so l e None h = record { becomes = Opens e h.new h.fit refl refl; ready = tt; id = Keeps refl }
  signed_so l e (Some r) h = tt

  -- ids that a message opens may be new
  abbrev MayAgree : Message → Stage → Type 0
  MayAgree m s = (id : List ℕ) → opens s m ≡ Some id → O id

  opening_so : (keys : Signer) (l : ConnectionState) (m : Message) (s : Stage) → IsReady s → MayAgree m s
      → IfDone (IsLeft P O s) (opening_at keys l m s)
  opening_so keys l (message.OpenChannel m) (stage.AwaitsOpen c) h may =
      unless_so (IsLeft P O (stage.AwaitsOpen c)) l stage.AwaitsCreated message.AcceptChannel (open_fault c m)
      (agreement keys c m, accept_message keys c m) (record { becomes = Stays refl; ready = tt; id = Keeps refl })
  opening_so keys l (message.AcceptChannel m) (stage.AwaitsAccept s) h may =
      unless_so (IsLeft P O (stage.AwaitsAccept s)) l (λ o. stage.AwaitsSigned (end_of o)) message.FundingCreated
      (accept_fault s m) (funder_end keys s m, created_message keys s m)
      (record {
        becomes = Stays refl;
        ready = agreed_end_is (funder_end keys s m) refl;
        id = Agrees (id_of_channel s.txid s.output) (may (id_of_channel s.txid s.output) refl) refl;
      })
  opening_so keys l (message.FundingCreated m) (stage.AwaitsCreated a) h may =
      let k = agreed_end_is (fundee_end a m) refl in
      unless_so (IsLeft P O (stage.AwaitsCreated a)) l (λ o. stage.Funded (end_of o)) message.FundingSigned
      (created_fault keys a m) (fundee_end a m, funding_message keys a m)
      (record {
        becomes = Opens (end_of (fundee_end a m)) k.new k.fit refl refl;
        ready = tt;
        id = Agrees (id_of_channel m.funding_txid m.output_index)
            (may (id_of_channel m.funding_txid m.output_index) refl) refl;
      })
  opening_so keys l (message.FundingSigned m) (stage.AwaitsSigned e) h may =
      signed_so l e (first_fault keys e.dance m.signature) h
  opening_so keys l m s h may = tt

  -- ---- an open channel

  turned_so : (l : ConnectionState) (e : End) (row : Result Turn Refusal) → IfTurn (PlainIf P e) row
      → IfDone (IsLeft P O (stage.Funded e)) (turned l row)
  turned_so l e (Ok t) h = record {
    becomes = Turns e t.end h.0 h.1 h.2 refl refl;
    ready = tt;
    id = Keeps (ap Some h.2);
  }
  turned_so l e (Err r) h = tt

  plainly : (l : ConnectionState) (e : End) (row : Result Turn Refusal) → IfTurn (Plainly e) row
      → IfDone (IsLeft P O (stage.Funded e)) (turned l row)
  plainly l e row h =
      turned_so l e row (if_turn (Plainly e) (PlainIf P e) (λ f x. (x.0, λ p. x.1 tt, x.2)) row h)

  awaiting_so : (keys : Signer) (m : Message) (e : End) → IfDone (IsLeft P O (stage.Funded e)) (awaiting_at keys m e)
  awaiting_so keys (message.ChannelReestablish m) e =
      plainly connection.Connected e (resume_row keys m e) (resumed_so keys m e)
  awaiting_so keys m e = tt

  saved_so : (keys : Signer) (l : ConnectionState) (m : Message) (e : End) (b : Bool)
      → IfDone (IsLeft P O (stage.Funded e)) (cond b (turned l (taken keys m e)) (awaiting_at keys m e))
  saved_so keys l m e true = plainly l e (taken keys m e) (taken_so keys m e)
  saved_so keys l m e false = awaiting_so keys m e

  row_so : (keys : Signer) (l : ConnectionState) (m : Message) (s : Stage) → IsReady s → MayAgree m s
      → IfDone (IsLeft P O s) (stage_row keys l m s)
  row_so keys l m (stage.Funded e) h may = saved_so keys l m e (is_connected l)
  row_so keys l m (stage.AwaitsOpen c) h may = opening_so keys l m (stage.AwaitsOpen c) h may
  row_so keys l m (stage.AwaitsAccept s) h may = opening_so keys l m (stage.AwaitsAccept s) h may
  row_so keys l m (stage.AwaitsCreated a) h may = opening_so keys l m (stage.AwaitsCreated a) h may
  row_so keys l m (stage.AwaitsSigned e) h may = opening_so keys l m (stage.AwaitsSigned e) h may
  row_so keys l m stage.Gone h may = opening_so keys l m stage.Gone h may

  faulted_so : (Q : Stage → Type 0) (o : Option Refusal) (row : Result Done Refusal) → IfDone Q row
      → IfDone Q (faulted o row)
  faulted_so Q None row h = h
  faulted_so Q (Some r) row h = tt

  -- a message that is passed over
  passed : (s : Stage) → IsReady s → IsLeft P O s s
  passed (stage.Funded e) h = record {
    becomes = Turns e e (Same refl refl) (λ p. tt) refl refl refl;
    ready = tt;
    id = Keeps refl;
  }
  passed (stage.AwaitsOpen c) h = record { becomes = Stays refl; ready = tt; id = Keeps refl }
  passed (stage.AwaitsAccept s) h = record { becomes = Stays refl; ready = tt; id = Keeps refl }
  passed (stage.AwaitsCreated a) h = record { becomes = Stays refl; ready = tt; id = Keeps refl }
  passed (stage.AwaitsSigned e) h = record { becomes = Stays refl; ready = h; id = Keeps refl }
  passed stage.Gone h = record { becomes = Stays refl; ready = tt; id = Keeps refl }

  hand_so : (keys : Signer) (l : ConnectionState) (m : Message) (s : Stage) (b : Bool) → IsReady s → MayAgree m s
      → IfDone (IsLeft P O s) (cond b (Ok (record { connection = l; stage = s; outputs = [] }))
      (faulted (message_fault l s m) (stage_row keys l m s)))
  hand_so keys l m s true h may = passed s h
  hand_so keys l m s false h may =
      faulted_so (IsLeft P O s) (message_fault l s m) (stage_row keys l m s) (row_so keys l m s h may)

  halted_so : (Q : Stage → Type 0) (b : Bool) (row : Result Done Refusal) → IfDone Q row
      → IfDone Q (cond b (Err refusal.Halted) row)
  halted_so Q true row h = tt
  halted_so Q false row h = h

  -- where the channel hasn't failed before, and the link works
  abbrev MayOpen : Option (List ℕ) → Type 0
  MayOpen o = (id : List ℕ) → o ≡ Some id → O id

  handled_so : {K : Type 0} (keys : Signer) (l : State K) (m : Message) → IsReady l.stage → MayOpen (opened l m)
      → IfDone (IsLeft P O l.stage) (handled keys l m)
  handled_so keys l m h = by_halted l.halted l.failure
    where
      by_failure : (o : Option Refusal) → MayOpen (cond (false || not (is_none o)) None (opens l.stage m))
          → IfDone (IsLeft P O l.stage) (faulted o (at_hand keys l.connection m l.stage))
      by_failure None may = hand_so keys l.connection m l.stage (is_passed_over l.stage m) h may
      by_failure (Some r) may = tt

      by_halted : (b : Bool) (o : Option Refusal) → MayOpen (cond (b || not (is_none o)) None (opens l.stage m))
          → IfDone (IsLeft P O l.stage) (cond b (Err refusal.Halted) (faulted o (at_hand keys l.connection m l.stage)))
      by_halted true o may = tt
      by_halted false o may = by_failure o may

  beside_so : {K : Type 0} (b : Bool) (keys : Signer) (l : State K) (m : Message) → IsReady l.stage
      → (b ≡ false → MayOpen (opened l m))
      → IfDone (IsLeft P O l.stage) (cond b (Err refusal.OutOfPlace) (handled keys l m))
  beside_so true keys l m h may = tt
  beside_so false keys l m h may = handled_so keys l m h (may refl)

  -- ---- links

  -- the end of a link that works
  pub record Goes {K : Type 0} (l l' : State K) : Type 0 where
    pub becomes : Becomes P (saved_end l.stage) (saved_end l'.stage)
    pub ready : IsReady l'.stage
    pub id : IdGoes O l.stage l'.stage

  pub stays_there : {K : Type 0} (l l' : State K) → IsReady l.stage → l'.stage ≡ l.stage → Goes l l'
  stays_there l l' h is = record {
    becomes = Stays (ap saved_end is);
    ready = subst IsReady (sym is) h;
    id = Keeps (ap channel_of is);
  }

  pub record IsLost (s t : Stage) : Type 0 where
    pub end : saved_end t ≡ saved_end s
    pub ready : IsReady s → IsReady t
    pub id : IdGoes O s t

  lost_so : (s : Stage) → IsLost s (lost s)
  lost_so (stage.Funded e) = record { end = refl; ready = λ h. h; id = Keeps refl }
  lost_so (stage.AwaitsOpen c) = record { end = refl; ready = λ h. tt; id = Loses refl }
  lost_so (stage.AwaitsAccept s) = record { end = refl; ready = λ h. tt; id = Loses refl }
  lost_so (stage.AwaitsCreated a) = record { end = refl; ready = λ h. tt; id = Loses refl }
  lost_so (stage.AwaitsSigned e) = record { end = refl; ready = λ h. tt; id = Loses refl }
  lost_so stage.Gone = record { end = refl; ready = λ h. tt; id = Loses refl }

  refused_so : {K : Type 0} (r : Refusal) (l : State K) → IsReady l.stage → Goes l (refused r l)
  refused_so r l h = by_halted l.halted
    where
      by_fault : (b : Bool) → Goes l (cond b (failed r l) l)
      by_fault true =
          let k = lost_so l.stage in record { becomes = Stays k.end; ready = k.ready h; id = k.id }
      by_fault false = stays_there l l h refl

      by_failure : (o : Option Refusal) → Goes l (unless_failed o l (fails_by r l))
      by_failure None = by_fault (fails r)
      by_failure (Some f) = stays_there l l h refl

      by_halted : (b : Bool) → Goes l (cond b l (unless_failed l.failure l (fails_by r l)))
      by_halted true = stays_there l l h refl
      by_halted false = by_failure l.failure

  left_so : {K : Type 0} (row : Result Done Refusal) (refusing : Refusal → State K) (l : State K)
      → IfDone (IsLeft P O l.stage) row → ((r : Refusal) → Goes l (refusing r)) → Goes l (left_by row refusing l)
  left_so (Ok d) refusing l h none = record { becomes = h.becomes; ready = h.ready; id = h.id }
  left_so (Err r) refusing l h none = none r

  pub message_goes : {K : Type 0} (keys : Signer) (known : Records) (m : Message) (l : State K) → IsReady l.stage
      → (is_known (opened l m) known ≡ false → MayOpen (opened l m))
      → Goes l (left_by (handled_beside known keys l m) (λ r. refused r l) l)
  message_goes keys known m l h may =
      left_so (handled_beside known keys l m) (λ r. refused r l) l
      (beside_so (is_known (opened l m) known) keys l m h may) (λ r. refused_so r l h)

  -- ---- commands

  obeyed_so : (keys : Signer) (l : ConnectionState) (c : Command) (s : Stage) → (P → IsPlainCommand c)
      → IfDone (IsLeft P O s) (obeyed keys l c s)
  obeyed_so keys l c (stage.Funded e) plain =
      faulted_so (IsLeft P O (stage.Funded e)) (unready_fault c e) (faulted (line_fault l)
      (turned l (command_row keys c e)))
      (faulted_so (IsLeft P O (stage.Funded e)) (line_fault l) (turned l (command_row keys c e))
      (turned_so l e (command_row keys c e)
      (if_turn (PlainIf (IsPlainCommand c) e) (PlainIf P e) (λ f x. (x.0, λ p. x.1 (plain p), x.2))
      (command_row keys c e)
      (command_so keys c e))))
  obeyed_so keys l c (stage.AwaitsOpen s) plain = tt
  obeyed_so keys l c (stage.AwaitsAccept s) plain = tt
  obeyed_so keys l c (stage.AwaitsCreated a) plain = tt
  obeyed_so keys l c (stage.AwaitsSigned e) plain = tt
  obeyed_so keys l c stage.Gone plain = tt

  noted_so : (l : ConnectionState) (c : Command) (s : Stage) → (P → ⊥) → IfDone (IsLeft P O s) (noted l c s)
  noted_so l c (stage.Funded e) never =
      turned_so l e (note_row c e)
      (if_turn (PlainIf ⊥ e) (PlainIf P e) (λ f x. (x.0, λ p. absurd (never p), x.2)) (note_row c e) (note_so c e))
  noted_so l c (stage.AwaitsOpen s) never = tt
  noted_so l c (stage.AwaitsAccept s) never = tt
  noted_so l c (stage.AwaitsCreated a) never = tt
  noted_so l c (stage.AwaitsSigned e) never = tt
  noted_so l c stage.Gone never = tt

  pub command_goes : {K : Type 0} (keys : Signer) (c : Command) (l : State K) → IsReady l.stage
      → (P → (is_of_records c ≡ false) × IsPlainCommand c) → Goes l (left_by (commanded keys l c) (λ r. l) l)
  command_goes keys c l h plain =
      left_so (commanded keys l c) (λ r. l) l
      (halted_so (IsLeft P O l.stage) l.halted (asked keys l c) (by_kind (is_of_records c) refl))
      (λ r. stays_there l l h refl)
    where
      by_kind : (b : Bool) → is_of_records c ≡ b
          → IfDone (IsLeft P O l.stage) (cond b (noted l.connection c l.stage)
          (faulted l.failure (obeyed keys l.connection c l.stage)))
      by_kind true is = noted_so l.connection c l.stage (λ p.
          let no : false ≡ true = sym (plain p).0 ∙ is in absurd (cc))
      by_kind false is = faulted_so (IsLeft P O l.stage) l.failure (obeyed keys l.connection c l.stage)
          (obeyed_so keys l.connection c l.stage (λ p. (plain p).1))

  -- ---- connections

  connects_so : (keys : Signer) (s : Stage) → IsReady s → IfDone (λ t. t ≡ s) (connects keys s)
  connects_so keys (stage.AwaitsOpen c) h = refl
  connects_so keys (stage.AwaitsAccept s) h = refl
  connects_so keys (stage.Funded e) h = refl
  connects_so keys (stage.AwaitsCreated a) h = tt
  connects_so keys (stage.AwaitsSigned e) h = tt
  connects_so keys stage.Gone h = tt

  connected_so : {K : Type 0} (row : Result Done Refusal) (l : State K) → IsReady l.stage
      → IfDone (λ t. t ≡ l.stage) row → Goes l (connected_by row l)
  connected_so (Ok d) l h is = record {
    becomes = Stays (ap saved_end is);
    ready = subst IsReady (sym is) h;
    id = Keeps (ap channel_of is);
  }
  connected_so (Err r) l h is = stays_there l l h refl

  pub connection_goes : {K : Type 0} (keys : Signer) (l : State K) → IsReady l.stage
      → Goes l (connected_by (connected keys l) l)
  connection_goes keys l h =
      connected_so (connected keys l) l h
      (halted_so (λ t. t ≡ l.stage) l.halted (cond (is_down l.connection) (connects keys l.stage)
      (Err refusal.NotReady)) (by_line (is_down l.connection)))
    where
      by_line : (b : Bool) → IfDone (λ t. t ≡ l.stage) (cond b (connects keys l.stage) (Err refusal.NotReady))
      by_line true = connects_so keys l.stage h
      by_line false = tt

  named_so : (txid : List ℕ) (output : ℕ) (s : Stage) → IsLost s (with_named txid output s)
  named_so txid output (stage.AwaitsAccept s) = record { end = refl; ready = λ h. tt; id = Keeps refl }
  named_so txid output (stage.AwaitsOpen c) = record { end = refl; ready = λ h. h; id = Keeps refl }
  named_so txid output (stage.AwaitsCreated a) = record { end = refl; ready = λ h. h; id = Keeps refl }
  named_so txid output (stage.AwaitsSigned e) = record { end = refl; ready = λ h. h; id = Keeps refl }
  named_so txid output (stage.Funded e) = record { end = refl; ready = λ h. h; id = Keeps refl }
  named_so txid output stage.Gone = record { end = refl; ready = λ h. h; id = Keeps refl }

  pub naming_goes : {K : Type 0} (txid : List ℕ) (output : ℕ) (l : State K) → IsReady l.stage
      → Goes l (record l { stage = with_named txid output l.stage })
  naming_goes txid output l h =
      let k = named_so txid output l.stage in record { becomes = Stays k.end; ready = k.ready h; id = k.id }

-- ---- a connection that is lost

pub record IsCut (s : Stage) : Type 0 where
  pub end : saved_end (cut s) ≡ option_map end_dropped (saved_end s)
  pub ready : IsReady (cut s)
  pub id : IdGoes (λ id. ⊥) s (cut s)

pub cut_so : (s : Stage) → IsCut s
cut_so (stage.Funded e) = record { end = refl; ready = tt; id = Keeps refl }
cut_so (stage.AwaitsOpen c) = record { end = refl; ready = tt; id = Loses refl }
cut_so (stage.AwaitsAccept s) = record { end = refl; ready = tt; id = Loses refl }
cut_so (stage.AwaitsCreated a) = record { end = refl; ready = tt; id = Loses refl }
cut_so (stage.AwaitsSigned e) = record { end = refl; ready = tt; id = Loses refl }
cut_so stage.Gone = record { end = refl; ready = tt; id = Loses refl }
