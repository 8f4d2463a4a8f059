-- A call that brings an update that no signature covers leaves the record of its link as it was.
use Rattle.std.proofs.Common.{◌≡◌, ◌∙◌, ◌≤◌, ◌<◌, ◌+◌, refl, sym, ap, subst, arith, ℕ, List, [], ◌∷◌, ◌++◌, length}
use Rattle.std.proofs.Common.{take, filter, Bool, true, false, ◌&&◌, ◌==◌, Option, Some, None, Result, Ok, Err}
use Rattle.std.proofs.Common.{if◌then◌else◌}
use Rattle.std.specs.Prelude.{nat_lt}
use Rattle.std.proofs.lemmas.Bool.{and_parts, eqb-true, ltb-true}
use Rattle.std.proofs.lemmas.List.{take-append-le, length-append}
use Rattle.ln_msgs.specs.declared.messages.message.Message.{Message}
use Rattle.ln_msgs.specs.declared.messages.message.Message.TheVariants as message
use Rattle.ln_refusals.specs.declared.refusal.Refusal.{Refusal}
use Rattle.ln_refusals.specs.declared.refusal.Refusal.TheVariants as refusal
use Rattle.ln_keys.specs.Signer.{Signer}
use Rattle.ln_log.specs.declared.log.Counts.{Counts}
use Rattle.ln_log.specs.declared.log.Side.TheVariants as side
use Rattle.ln_log.specs.declared.mark.Decision.{Decision}
use Rattle.ln_log.specs.declared.update.Update.{Update}
use Rattle.ln_log.specs.declared.update.Update.TheVariants as update
use Rattle.ln_log.specs.Log.{Log, after_drop, after_propose, after_receive, between, same_counts}
use Rattle.ln_log.specs.RecordForm.{record_form_of, IsRestorable}
use Rattle.ln_log.specs.Updates.{next_id}
use Rattle.ln_dance.specs.Dance.{with_log}
use Rattle.ln_dance.specs.Messages.{update_message, add_of, fulfil_of, fail_of, malformed_of, fee_of}
use Rattle.ln_close.specs.declared.closing.Closing.{Closing}
use Rattle.ln_close.specs.Closing.{may_start, after_shut}
use Rattle.ln_channel.specs.declared.command.Command.{Command}
use Rattle.ln_channel.specs.declared.command.Command.TheVariants as command
use Rattle.ln_channel.specs.declared.machine.ConnectionState.{ConnectionState}
use Rattle.ln_channel.specs.declared.machine.Stage.{Stage}
use Rattle.ln_channel.specs.declared.machine.Stage.TheVariants as stage
use Rattle.ln_channel.specs.declared.output.Output.{Output}
use Rattle.ln_channel.specs.declared.output.Output.TheVariants as output
use Rattle.ln_channel.specs.Opening.{unless, opening_of}
use Rattle.ln_channel.specs.Outputs.{all_of}
use Rattle.ln_channel.specs.End.{End, Turn, quiet, with_dance, has_begun, owes_shutdown, answers_shutdown, due_fee}
use Rattle.ln_channel.specs.End.{fee_sent, shutdown_message, due_sent, begins, completed, sending}
use Rattle.ln_channel.specs.End as end
use Rattle.ln_channel.specs.Taking.{takes, update_fault, update_row, message_row, completed_row}
use Rattle.ln_channel.specs.Commands.{proposes, propose_fault, propose_row, command_row, unready_fault}
use Rattle.ln_channel.specs.Base.{based, based_stage, next_base, is_open, without_removed}
use Rattle.ln_channel.specs.Record.{saved_end}
use Rattle.ln_channel.specs.State.{State, is_connected}
use Rattle.ln_channel.specs.Step.{Done, faulted, turned, is_passed_over, message_fault, opening_at, awaiting_at}
use Rattle.ln_channel.specs.Step.{stage_row, at_hand, handled, opened, line_fault, obeyed, commanded, is_of_records}
use Rattle.ln_channel.specs.Step.{noted}
use Rattle.ln_channel.proofs.Based.{between_none}
use Rattle.ln_store.specs.Readable.{is_readable}
use Rattle.ln_store.specs.Record.{record_bytes}
use Rattle.ln_store.specs.Store.{Records, StoreView}
use Rattle.ln_link.specs.Record.{header_of, agreement_of, commitments_of, updates_of, progress_of, items_of}
use Rattle.ln_link.specs.Loading.{HasRecord}
use Rattle.ln_link.specs.Saving.{is_update, sends_update, taken_alone, sent_alone, is_forgotten, is_based}
use Rattle.ln_link.specs.Saving.{has_same_record, is_known, handled_beside, settled}
use Rattle.ln_link.specs.Calls.{Has, HasLink}

-- ---- a base that stands where it stood

abbrev counts : ℕ → ℕ → Counts
counts own peer = record { own = own; peer = peer }

same_so : (a b : Counts) → same_counts a b ≡ true → a ≡ b
same_so a b h =
    let p = and_parts (a.own == b.own) (a.peer == b.peer) h in
    ap (λ n. counts n a.peer) (eqb-true a.own b.own p.0) ∙ ap (λ n. counts b.own n) (eqb-true a.peer b.peer p.1)

-- no update removes an HTLC, so each decision stays
none_left_out : (ds : List Decision) → filter (is_open []) ds ≡ ds
none_left_out [] = refl
none_left_out (d ∷ ds) = ap (λ x. d ∷ x) (none_left_out ds)

based_still : (e : End) → next_base e ≡ e.dance.log.first → based e ≡ e
based_still e h =
    let first : Counts = e.dance.log.first in
    let nothing : between first.own first.own e.dance.log.own ≡ [] =
    between_none first.own first.own e.dance.log.own (omega arith) in
    ap (λ (c : Counts). record e {
      dance = with_log (record e.dance.log { first = c }) e.dance;
      ledger = without_removed (between first.own c.own e.dance.log.own) e.ledger;
    }) h
    ∙ ap (λ us. record e { ledger = without_removed us e.ledger }) nothing
    ∙ ap (λ ds. record e { ledger = record e.ledger { decisions = ds } }) (none_left_out e.ledger.decisions)

stage_has : (f : Option Refusal) (s : Stage) (rs : Records) → is_based s ≡ true → Has f (saved_end s) rs
    → Has f (saved_end (based_stage s)) rs
stage_has f (stage.Funded e) rs h has =
    subst (λ (x : End). Has f (Some x) rs) (sym (based_still e (same_so (next_base e) e.dance.log.first h))) has
stage_has f (stage.AwaitsOpen c) rs h has = tt
stage_has f (stage.AwaitsAccept c) rs h has = tt
stage_has f (stage.AwaitsCreated c) rs h has = tt
stage_has f (stage.AwaitsSigned c) rs h has = tt
stage_has f stage.Gone rs h has = tt

-- ---- of lists of which a lost connection leaves the same

same_items : (f : Option Refusal) (e : End) (l : Log) → after_drop l ≡ after_drop e.dance.log
    → items_of f (with_dance (with_log l e.dance) e) ≡ items_of f e
unfolding items_of header_of agreement_of progress_of
same_items f e l same =
    ap (λ (x : Log). record {
      header = header_of f e;
      agreement = agreement_of e;
      commitments = commitments_of e.dance;
      updates = updates_of (opening_of e.terms) e.closing.role x;
      progress = progress_of e;
    }) same

same_record : (f : Option Refusal) (e : End) (l : Log) → after_drop l ≡ after_drop e.dance.log → HasRecord f e
    → HasRecord f (with_dance (with_log l e.dance) e)
same_record f e l same h = record {
  sound = record {
    one_role = ap (λ (x : Log). x.role) same ∙ h.sound.one_role;
    opening = ap (λ (x : Log). x.opening) same ∙ h.sound.opening;
    fees = h.sound.fees;
    scripts = h.sound.scripts;
  };
  open_channel = h.open_channel;
  accept_channel = h.accept_channel;
  output = h.output;
  log = subst (λ (x : Log). IsRestorable (record_form_of x.first x)) (sym same) h.log;
  items = ap is_readable (same_items f e l same) ∙ h.items;
}

same_has : (f : Option Refusal) (e : End) (l : Log) (rs : Records) → after_drop l ≡ after_drop e.dance.log
    → Has f (Some e) rs → Has f (Some (with_dance (with_log l e.dance) e)) rs
same_has f e l rs same h = (
  h.0 ∙ ap (λ i. Some (record_bytes i)) (sym (same_items f e l same)),
  same_record f e l same h.1,
)

-- ---- an update that no signature covers

not_before : (n : ℕ) (us : List Update) (u : Update) → nat_lt n (length (us ++ u ∷ [])) ≡ true → n ≤ length us
not_before n us u h =
    let below : n < length (us ++ u ∷ []) = ltb-true n (length (us ++ u ∷ [])) h in
    let long : length (us ++ u ∷ []) ≡ length us + 1 = length-append us (u ∷ []) in
    omega (arith, below, long)

sent_forgotten : (u : Update) (l : Log) → nat_lt l.signed.own (length (l.own ++ u ∷ [])) ≡ true
    → after_drop (after_propose u l) ≡ after_drop l
sent_forgotten u l h =
    ap (λ us. record l { own = us; received = take l.current.peer l.received })
    (take-append-le l.signed.own l.own (u ∷ []) (not_before l.signed.own l.own u h))

taken_forgotten : (u : Update) (l : Log) → nat_lt l.current.peer (length (l.received ++ u ∷ [])) ≡ true
    → after_drop (after_receive u l) ≡ after_drop l
taken_forgotten u l h =
    ap (λ us. record l { own = take l.signed.own l.own; received = us })
    (take-append-le l.current.peer l.received (u ∷ []) (not_before l.current.peer l.received u h))

proposed_has : (f : Option Refusal) (u : Update) (e n : End) (rs : Records) → n ≡ proposes u e
    → is_forgotten (Some side.Own) (Some n) ≡ true → Has f (Some e) rs → Has f (Some n) rs
proposed_has f u e n rs is h has =
    subst (λ (x : End). Has f (Some x) rs) (sym is)
    (same_has f e (after_propose u e.dance.log) rs (sent_forgotten u e.dance.log
    (subst (λ (x : End). is_forgotten (Some side.Own) (Some x) ≡ true) is h)) has)

received_has : (f : Option Refusal) (u : Update) (e n : End) (rs : Records) → n ≡ takes u e
    → is_forgotten (Some side.Peer) (Some n) ≡ true → Has f (Some e) rs → Has f (Some n) rs
received_has f u e n rs is h has =
    subst (λ (x : End). Has f (Some x) rs) (sym is)
    (same_has f e (after_receive u e.dance.log) rs (taken_forgotten u e.dance.log
    (subst (λ (x : End). is_forgotten (Some side.Peer) (Some x) ≡ true) is h)) has)

-- ---- what was said of a call that was answered

past_if : {A : Type 0} (b : Bool) (r : Refusal) (row : Result A Refusal) (d : A)
    → (if b then Err r else row) ≡ Ok d → row ≡ Ok d
past_if true r row d h = absurd (cc)
past_if false r row d h = h

past_fault : {A : Type 0} (o : Option Refusal) (row : Result A Refusal) (d : A) → faulted o row ≡ Ok d → row ≡ Ok d
past_fault None row d h = h
past_fault (Some r) row d h = absurd (cc)

-- a turn that was taken
record IsTurned (row : Result Turn Refusal) (d : Done) : Type 0 where
  turn : Turn
  says : row ≡ Ok turn
  stands : d.stage ≡ stage.Funded turn.end
  hands : d.outputs ≡ all_of turn.handed

turned_so : (l : ConnectionState) (row : Result Turn Refusal) (d : Done) → turned l row ≡ Ok d → IsTurned row d
turned_so l (Ok t) d h =
    let is : ◌≡◌ {A = Done} (record { connection = l; stage = stage.Funded t.end; outputs = all_of t.handed }) d =
    cc in
    record {
      turn = t;
      says = refl;
      stands = sym (ap (λ (x : Done). x.stage) is);
      hands = sym (ap (λ (x : Done). x.outputs) is);
    }
turned_so l (Err r) d h = absurd (cc)

unless_so : (o : Option Refusal) (t n : Turn) → unless o t ≡ Ok n → t ≡ n
unless_so None t n h = cc
unless_so (Some r) t n h = absurd (cc)

-- ---- a command that sends an update

record SendsUpdate (keys : Signer) (c : Command) (e : End) : Type 0 where
  sent : Update
  row : command_row keys c e ≡ propose_row sent e

sends_so : (keys : Signer) (c : Command) (e : End) → sends_update c ≡ true → SendsUpdate keys c e
sends_so keys (command.Confirm id) e h = absurd (cc)
sends_so keys (command.Add amount hash expiry onion origin) e h = record {
  sent = update.Add (record {
    id = next_id e.dance.log.own;
    amount = amount;
    hash = hash;
    expiry = expiry;
    onion = onion;
    origin = origin;
  });
  row = refl;
}
sends_so keys (command.Fulfil id preimage) e h =
    record { sent = update.Fulfil (record { id = id; preimage = preimage }); row = refl }
sends_so keys (command.Fail id reason) e h =
    record { sent = update.Fail (record { id = id; reason = reason }); row = refl }
sends_so keys (command.Malformed id sha code) e h =
    record { sent = update.Malformed (record { id = id; sha256_of_onion = sha; failure_code = code }); row = refl }
sends_so keys (command.Fee feerate) e h = record { sent = update.Fee (record { feerate = feerate }); row = refl }
sends_so keys command.Sign e h = absurd (cc)
sends_so keys (command.Shutdown script) e h = absurd (cc)
sends_so keys (command.Decide event mark) e h = absurd (cc)
sends_so keys (command.Forget id) e h = absurd (cc)
sends_so keys (command.Resume event mark) e h = absurd (cc)

-- it isn't about what a record keeps
not_noted : (c : Command) → sends_update c ≡ true → is_of_records c ≡ false
not_noted (command.Confirm id) h = absurd (cc)
not_noted (command.Add amount hash expiry onion origin) h = refl
not_noted (command.Fulfil id preimage) h = refl
not_noted (command.Fail id reason) h = refl
not_noted (command.Malformed id sha code) h = refl
not_noted (command.Fee feerate) h = refl
not_noted command.Sign h = absurd (cc)
not_noted (command.Shutdown script) h = absurd (cc)
not_noted (command.Decide event mark) h = absurd (cc)
not_noted (command.Forget id) h = absurd (cc)
not_noted (command.Resume event mark) h = absurd (cc)

obeyed_has : (f : Option Refusal) (keys : Signer) (l : ConnectionState) (c : Command) (st : Stage) (d : Done)
    (rs : Records) → sends_update c ≡ true → obeyed keys l c st ≡ Ok d
    → is_forgotten (Some side.Own) (saved_end d.stage) ≡ true → Has f (saved_end st) rs → Has f (saved_end d.stage) rs
obeyed_has f keys l c (stage.Funded e) d rs sends said h has =
    let t = turned_so l (command_row keys c e) d (past_fault (line_fault l) (turned l (command_row keys c e)) d
    (past_fault (unready_fault c e) (faulted (line_fault l) (turned l (command_row keys c e))) d said)) in
    let s = sends_so keys c e sends in
    let goes : Turn = sending (update_message e.dance.channel s.sent) (proposes s.sent e) in
    let done : goes ≡ t.turn = unless_so (propose_fault e s.sent) goes t.turn (sym s.row ∙ t.says) in
    let new : t.turn.end ≡ proposes s.sent e = sym (ap (λ (x : Turn). x.end) done) in
    subst (λ (x : Stage). Has f (saved_end x) rs) (sym t.stands)
    (proposed_has f s.sent e t.turn.end rs new
    (subst (λ (x : Stage). is_forgotten (Some side.Own) (saved_end x) ≡ true) t.stands h) has)
obeyed_has f keys l c (stage.AwaitsOpen x) d rs sends said h has = absurd (cc)
obeyed_has f keys l c (stage.AwaitsAccept x) d rs sends said h has = absurd (cc)
obeyed_has f keys l c (stage.AwaitsCreated x) d rs sends said h has = absurd (cc)
obeyed_has f keys l c (stage.AwaitsSigned x) d rs sends said h has = absurd (cc)
obeyed_has f keys l c stage.Gone d rs sends said h has = absurd (cc)

pub commanded_has : {K : Type 0} (keys : Signer) (l : State K) (c : Command) (d : Done) (s : StoreView)
    → commanded keys l c ≡ Ok d → has_same_record (sent_alone (sends_update c)) d.stage ≡ true → HasLink l s
    → HasLink (settled d l) s
commanded_has keys l c d s said h has = by (sends_update c) refl h
  where
    row : Bool → Result Done Refusal
    row b = if b then noted l.connection c l.stage else faulted l.failure (obeyed keys l.connection c l.stage)

    by : (b : Bool) → sends_update c ≡ b → has_same_record (sent_alone b) d.stage ≡ true → HasLink (settled d l) s
    by true sends same =
        let both = and_parts (is_forgotten (Some side.Own) (saved_end d.stage)) (is_based d.stage) same in
        let asked : row (is_of_records c) ≡ Ok d = past_if l.halted refusal.Halted (row (is_of_records c)) d said in
        let obeys : obeyed keys l.connection c l.stage ≡ Ok d =
        past_fault l.failure (obeyed keys l.connection c l.stage) d
        (subst (λ b. row b ≡ Ok d) (not_noted c sends) asked) in
        stage_has l.failure d.stage s.records both.1
        (obeyed_has l.failure keys l.connection c l.stage d s.records sends obeys both.0 has)
    by false sends same = absurd (cc)

-- ---- a message with an update

record BringsUpdate (m : Message) : Type 0 where
  brought : Update
  isnt_passed_over : (s : Stage) → is_passed_over s m ≡ false
  row : (keys : Signer) (e : End) → message_row keys m e ≡ update_row brought e
  opening : (keys : Signer) (l : ConnectionState) (s : Stage) → opening_at keys l m s ≡ Err refusal.OutOfPlace
  awaiting : (keys : Signer) (e : End) → awaiting_at keys m e ≡ Err refusal.OutOfPlace

brings_so : (m : Message) → is_update m ≡ true → BringsUpdate m
brings_so (message.UpdateAddHtlc m) h = record {
  brought = update.Add (add_of m);
  isnt_passed_over = λ s. refl;
  row = λ keys e. refl;
  opening = λ keys l s. refl;
  awaiting = λ keys e. refl;
}
brings_so (message.UpdateFulfillHtlc m) h = record {
  brought = update.Fulfil (fulfil_of m);
  isnt_passed_over = λ s. refl;
  row = λ keys e. refl;
  opening = λ keys l s. refl;
  awaiting = λ keys e. refl;
}
brings_so (message.UpdateFailHtlc m) h = record {
  brought = update.Fail (fail_of m);
  isnt_passed_over = λ s. refl;
  row = λ keys e. refl;
  opening = λ keys l s. refl;
  awaiting = λ keys e. refl;
}
brings_so (message.UpdateFailMalformedHtlc m) h = record {
  brought = update.Malformed (malformed_of m);
  isnt_passed_over = λ s. refl;
  row = λ keys e. refl;
  opening = λ keys l s. refl;
  awaiting = λ keys e. refl;
}
brings_so (message.UpdateFee m) h = record {
  brought = update.Fee (fee_of m);
  isnt_passed_over = λ s. refl;
  row = λ keys e. refl;
  opening = λ keys l s. refl;
  awaiting = λ keys e. refl;
}
brings_so (message.Warning m) h = absurd (cc)
brings_so (message.Init m) h = absurd (cc)
brings_so (message.Error m) h = absurd (cc)
brings_so (message.Ping m) h = absurd (cc)
brings_so (message.Pong m) h = absurd (cc)
brings_so (message.OpenChannel m) h = absurd (cc)
brings_so (message.AcceptChannel m) h = absurd (cc)
brings_so (message.FundingCreated m) h = absurd (cc)
brings_so (message.FundingSigned m) h = absurd (cc)
brings_so (message.ChannelReady m) h = absurd (cc)
brings_so (message.Shutdown m) h = absurd (cc)
brings_so (message.ClosingSigned m) h = absurd (cc)
brings_so (message.CommitmentSigned m) h = absurd (cc)
brings_so (message.RevokeAndAck m) h = absurd (cc)
brings_so (message.ChannelReestablish m) h = absurd (cc)

-- where nothing is handed out at the end of a turn, nothing has changed by it
none_first : (b : Bool) (x : Output) (rest : List Output) → (if b then x ∷ [] else []) ++ rest ≡ [] → b ≡ false
none_first true x rest h = absurd (cc)
none_first false x rest h = refl

none_behind : (b : Bool) (x : Output) (rest : List Output) → (if b then x ∷ [] else []) ++ rest ≡ [] → rest ≡ []
none_behind true x rest h = absurd (cc)
none_behind false x rest h = h

begins_nothing : (keys : Signer) (e : End) → fee_sent keys e (due_fee e) ≡ [] → begins e ≡ e
begins_nothing keys e h = by (has_begun e) (may_start e.closing) h
  where
    started : Bool → Closing
    started s = if s then record e.closing { own_fee = Some e.closing.fees.first } else e.closing

    by : (b s : Bool)
        → fee_sent keys e (if b then (if s then Some e.closing.fees.first else None) else None) ≡ []
        → (if b then record e { closing = started s } else e) ≡ e
    by false s h = refl
    by true false h = refl
    by true true h = absurd (cc)

settles_nothing : (keys : Signer) (e : End) → due_sent keys e ≡ [] → end.settled e ≡ e
settles_nothing keys e h =
    let first : Output = output.Send (message.Shutdown (shutdown_message e)) in
    let rest = fee_sent keys (answers_shutdown e) (due_fee (answers_shutdown e)) in
    let owes : owes_shutdown e ≡ false = none_first (owes_shutdown e) first rest h in
    let still : answers_shutdown e ≡ e =
    ap (λ (b : Bool). if b then record e { closing = after_shut e.closing } else e) owes in
    begins_nothing keys (answers_shutdown e) (none_behind (owes_shutdown e) first rest h) ∙ still

nothing_so : (os : List Output) → length (os ++ []) ≡ 0 → os ≡ []
nothing_so [] h = refl
nothing_so (o ∷ os) h = absurd (omega (arith, h))

update_so : (keys : Signer) (o : Option Refusal) (t n : Turn) → completed_row keys (unless o t) ≡ Ok n
    → completed keys t ≡ n
update_so keys None t n h = cc
update_so keys (Some r) t n h = absurd (cc)

stage_row_has : (f : Option Refusal) (keys : Signer) (l : ConnectionState) (m : Message) (st : Stage) (d : Done)
    (rs : Records) → BringsUpdate m → stage_row keys l m st ≡ Ok d → length d.outputs ≡ 0
    → is_forgotten (Some side.Peer) (saved_end d.stage) ≡ true → Has f (saved_end st) rs → Has f (saved_end d.stage) rs
stage_row_has f keys l m (stage.Funded e) d rs b said none h has = by (is_connected l) said
  where
    by : (c : Bool) → (if c then turned l (completed_row keys (message_row keys m e)) else awaiting_at keys m e) ≡ Ok d
        → Has f (saved_end d.stage) rs
    by true row =
        let u = b.brought in
        let t = turned_so l (completed_row keys (message_row keys m e)) d row in
        let done : completed keys (quiet (takes u e)) ≡ t.turn =
        update_so keys (update_fault e u) (quiet (takes u e)) t.turn
        (sym (ap (completed_row keys) (b.row keys e)) ∙ t.says) in
        let sent : d.outputs ≡ due_sent keys (takes u e) ++ [] =
        t.hands ∙ sym (ap (λ (x : Turn). all_of x.handed) done) in
        let nothing : due_sent keys (takes u e) ≡ [] =
        nothing_so (due_sent keys (takes u e)) (sym (ap length sent) ∙ none) in
        let new : t.turn.end ≡ takes u e =
        sym (ap (λ (x : Turn). x.end) done) ∙ settles_nothing keys (takes u e) nothing in
        subst (λ (x : Stage). Has f (saved_end x) rs) (sym t.stands)
        (received_has f u e t.turn.end rs new
        (subst (λ (x : Stage). is_forgotten (Some side.Peer) (saved_end x) ≡ true) t.stands h) has)
    by false row = absurd (let no : Err refusal.OutOfPlace ≡ Ok d = sym (b.awaiting keys e) ∙ row in cc)
stage_row_has f keys l m (stage.AwaitsOpen x) d rs b said none h has =
    absurd (let no : Err refusal.OutOfPlace ≡ Ok d = sym (b.opening keys l (stage.AwaitsOpen x)) ∙ said in cc)
stage_row_has f keys l m (stage.AwaitsAccept x) d rs b said none h has =
    absurd (let no : Err refusal.OutOfPlace ≡ Ok d = sym (b.opening keys l (stage.AwaitsAccept x)) ∙ said in cc)
stage_row_has f keys l m (stage.AwaitsCreated x) d rs b said none h has =
    absurd (let no : Err refusal.OutOfPlace ≡ Ok d = sym (b.opening keys l (stage.AwaitsCreated x)) ∙ said in cc)
stage_row_has f keys l m (stage.AwaitsSigned x) d rs b said none h has =
    absurd (let no : Err refusal.OutOfPlace ≡ Ok d = sym (b.opening keys l (stage.AwaitsSigned x)) ∙ said in cc)
stage_row_has f keys l m stage.Gone d rs b said none h has =
    absurd (let no : Err refusal.OutOfPlace ≡ Ok d = sym (b.opening keys l stage.Gone) ∙ said in cc)

at_hand_has : (f : Option Refusal) (keys : Signer) (l : ConnectionState) (m : Message) (st : Stage) (d : Done)
    (rs : Records) → BringsUpdate m → at_hand keys l m st ≡ Ok d → length d.outputs ≡ 0
    → is_forgotten (Some side.Peer) (saved_end d.stage) ≡ true → Has f (saved_end st) rs → Has f (saved_end d.stage) rs
at_hand_has f keys l m st d rs b said none h has =
    let passes : Bool → Result Done Refusal =
    λ x. if x then Ok (record { connection = l; stage = st; outputs = [] })
    else faulted (message_fault l st m) (stage_row keys l m st) in
    stage_row_has f keys l m st d rs b
    (past_fault (message_fault l st m) (stage_row keys l m st) d
    (subst (λ x. passes x ≡ Ok d) (b.isnt_passed_over st) said)) none h has

pub handled_has : {K : Type 0} (keys : Signer) (l : State K) (m : Message) (d : Done) (s : StoreView)
    → handled_beside s.records keys l m ≡ Ok d
    → has_same_record (taken_alone (is_update m) d.outputs) d.stage ≡ true → HasLink l s → HasLink (settled d l) s
handled_has keys l m d s said h has = by (is_update m) (length d.outputs == 0) refl refl h
  where
    by : (b n : Bool) → is_update m ≡ b → (length d.outputs == 0) ≡ n
        → has_same_record (if b && n then Some side.Peer else None) d.stage ≡ true → HasLink (settled d l) s
    by true true brings none same =
        let both = and_parts (is_forgotten (Some side.Peer) (saved_end d.stage)) (is_based d.stage) same in
        let known = past_if (is_known (opened l m) s.records) refusal.OutOfPlace (handled keys l m) d said in
        let hand = past_fault l.failure (at_hand keys l.connection m l.stage) d
        (past_if l.halted refusal.Halted (faulted l.failure (at_hand keys l.connection m l.stage)) d known)
        in
        stage_has l.failure d.stage s.records both.1
        (at_hand_has l.failure keys l.connection m l.stage d s.records (brings_so m brings) hand
        (eqb-true (length d.outputs) 0 none) both.0 has)
    by true false brings none same = absurd (cc)
    by false n brings none same = absurd (cc)
