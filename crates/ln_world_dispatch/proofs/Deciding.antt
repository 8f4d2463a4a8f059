-- What holds of how many events each end of a channel has decided is kept by every move that it is kept by where a
-- decision is taken: that is of the next event, and no other move decides any.
use Rattle.std.proofs.Common.{◌≡◌, ℕ, ◌+◌, List, [], ◌∷◌, ◌++◌, refl, sym, subst, eqb-true}
use Rattle.std.proofs.Common.{Bool, true, false, cond, not, ◌==◌, ◌&&◌, ◌||◌, nat_lt, length}
use Rattle.std.proofs.Common.{Option, Some, None, Result, Ok, Err, ◌⊎◌, inl, inr}
use Rattle.ln_bytes.specs.Same.{are_same}
use Rattle.ln_msgs.specs.declared.messages.message.Message.{Message}
use Rattle.ln_msgs.specs.declared.messages.message.Message.TheVariants as message
use Rattle.ln_msgs.specs.declared.messages.closing.ClosingSigned.{ClosingSigned}
use Rattle.ln_msgs.specs.declared.messages.commitments.ChannelReestablish.{ChannelReestablish}
use Rattle.ln_msgs.specs.declared.messages.closing.Shutdown.{Shutdown}
use Rattle.ln_msgs.specs.declared.messages.opening.OpenChannel.{OpenChannel}
use Rattle.ln_msgs.specs.declared.messages.opening.AcceptChannel.{AcceptChannel}
use Rattle.ln_msgs.specs.declared.messages.opening.FundingCreated.{FundingCreated}
use Rattle.ln_msgs.specs.declared.messages.opening.FundingSigned.{FundingSigned}
use Rattle.ln_refusals.specs.declared.refusal.Refusal.{Refusal}
use Rattle.ln_refusals.specs.declared.refusal.Refusal.TheVariants as refusal
use Rattle.ln_keys.specs.declared.role.Role.TheVariants.{Funder, Fundee}
use Rattle.ln_keys.specs.Signer.{Signer}
use Rattle.ln_log.specs.declared.update.Update.{Update}
use Rattle.ln_close.specs.declared.closing.FeeAnswer.{FeeAnswer}
use Rattle.ln_close.specs.declared.closing.FeeAnswer.TheVariants as answer
use Rattle.ln_close.specs.Closing.{after_shut, started}
use Rattle.ln_channel.specs.declared.command.Command.{Command}
use Rattle.ln_channel.specs.declared.command.Command.TheVariants as command
use Rattle.ln_channel.specs.declared.machine.ConnectionState.{ConnectionState}
use Rattle.ln_channel.specs.declared.machine.ConnectionState.TheVariants as line
use Rattle.ln_channel.specs.declared.machine.Stage.{Stage}
use Rattle.ln_channel.specs.declared.machine.Stage.TheVariants as stage
use Rattle.ln_channel.specs.Failing.{fails}
use Rattle.ln_channel.specs.Opening.{unless, open_taken, accept_taken, created_taken, first_fault}
use Rattle.ln_log.specs.declared.mark.Mark.{Mark}
use Rattle.ln_log.specs.declared.mark.Mark.TheVariants as mark
use Rattle.ln_log.specs.declared.update.Update.TheVariants as update
use Rattle.ln_log.specs.Updates.{next_id}
use Rattle.ln_dance.specs.Dance.{learn_fault, with_next_point}
use Rattle.ln_dance.specs.Messages.{add_of, fulfil_of, fail_of, malformed_of, fee_of, update_message}
use Rattle.ln_dance.specs.Dance.{signed_message}
use Rattle.ln_dance.specs.Resume.{resume_fault}
use Rattle.ln_close.specs.Closing.{answer_to}
use Rattle.ln_channel.specs.End.{End, Turn, owes_shutdown, answers_shutdown, has_begun, settled, is_closed, end_of}
use Rattle.ln_channel.specs.End.{quiet, sending, completed, shutdown_message}
use Rattle.ln_channel.specs.Base.{based_stage}
use Rattle.ln_channel.specs.Ledger.{Ledger, most_decided, first_htlc, marked, decided_first, is_in_turn, is_of_event}
use Rattle.ln_channel.specs.Ledger.{decide_row, resume_held_row, may_resume, with_mark}
use Rattle.ln_channel.specs.Record.{saved_end}
use Rattle.ln_channel.specs.declared.output.Output.TheVariants as output
use Rattle.ln_channel.specs.Taking.{message_row, completed_row, taken, shutdown_at, answered, answering, answered_end}
use Rattle.ln_channel.specs.Taking.{range_in, update_fault, takes, signature_fault, accepting, accepts, learning}
use Rattle.ln_channel.specs.Taking.{revokes}
use Rattle.ln_channel.specs.Resume.{resume_row, resumed}
use Rattle.ln_channel.specs.Commands.{command_row, propose_row, propose_fault, proposes, confirm_fault, confirmed}
use Rattle.ln_channel.specs.Commands.{ready_message, sign_command_fault, signs_next, shut_fault, shuts_down}
use Rattle.ln_channel.specs.Commands.{unready_fault, with_ledger}
use Rattle.ln_channel.specs.State.{State, is_connected, is_down, failed, fails_by, unless_failed, refused}
use Rattle.ln_channel.specs.State.{cut, lost}
use Rattle.ln_channel.specs.State.{drops}
use Rattle.ln_channel.specs.Step.{Done, handled, commanded, replied, open_at, accept_at, created_at}
use Rattle.ln_channel.specs.Step.{signed_at, opening_at, turned, awaiting_at, stage_row, faulted, is_passed_over}
use Rattle.ln_channel.specs.Step.{message_fault, obeyed, noted, connects, asked, line_fault}
use Rattle.ln_world_channels.specs.declared.step.Act.{Act}
use Rattle.ln_world_channels.specs.declared.step.Act.TheVariants as act
use Rattle.ln_world_channels.specs.Both.{SimEnd, Both, Move, By, Disconnects, Halts, Restarts, Stops, HaltsAfter, Meet}
use Rattle.ln_world_channels.specs.Both.{moves, left}
use Rattle.ln_world_channels.specs.Both.{unchanged}
use Rattle.ln_world_channels.specs.Both.{back}
use Rattle.ln_world_channels.specs.Both.{acts, delivers, restarted, swapped}
use Rattle.ln_world_channels.specs.Both as both
use Rattle.ln_world_channels.specs.Promises.{Each}
use Rattle.ln_world_dispatch.specs.World.{decided_of}

-- ---- what is said of an end: that P holds of how many events it has decided

abbrev pub Counts : (ℕ → Type 0) → End → Type 0
Counts P e = P e.ledger.decided

-- none, where it isn't signed by both; and none were before that, or P holds of any number
abbrev pub AtStage : (ℕ → Type 0) → Stage → Type 0
AtStage P (stage.AwaitsOpen c) = P 0
AtStage P (stage.AwaitsAccept s) = P 0
AtStage P (stage.AwaitsCreated a) = P 0
AtStage P (stage.AwaitsSigned e) = P 0 × ((e.ledger.decided ≡ 0) ⊎ ((n : ℕ) → P n))
AtStage P (stage.Funded e) = Counts P e
AtStage P stage.Gone = P 0

pub at_saved : (P : ℕ → Type 0) (s : Stage) → AtStage P s → P (decided_of (saved_end s))
at_saved P (stage.AwaitsOpen c) h = h
at_saved P (stage.AwaitsAccept s) h = h
at_saved P (stage.AwaitsCreated a) h = h
at_saved P (stage.AwaitsSigned e) h = h.0
at_saved P (stage.Funded e) h = h
at_saved P stage.Gone h = h

abbrev InTurn : (ℕ → Type 0) → Result Turn Refusal → Type 0
InTurn P (Ok t) = Counts P t.end
InTurn P (Err r) = Unit {0}

abbrev InDone : (ℕ → Type 0) → Result Done Refusal → Type 0
InDone P (Ok d) = AtStage P d.stage
InDone P (Err r) = Unit {0}

abbrev InLedger : (ℕ → Type 0) → Result Ledger Refusal → Type 0
InLedger P (Ok l) = P l.decided
InLedger P (Err r) = Unit {0}

-- a decision is kept to: P holds after the event where it holds before it
abbrev pub KeptByCommand : (ℕ → Type 0) → Command → Type 0
KeptByCommand P (command.Decide event mark) = P event → P (event + 1)
KeptByCommand P c = Unit {0}

abbrev pub KeptBy : (ℕ → Type 0) → Act → Type 0
KeptBy P act.Deliver = Unit {0}
KeptBy P (act.Send c) = KeptByCommand P c

front : (a b : Bool) → a && b ≡ true → a ≡ true
front true b h = refl
front false b h = h

module _ (P : ℕ → Type 0) where
  -- ---- rows

  either : (b : Bool) (e f : End) → Counts P e → Counts P f → Counts P (cond b e f)
  either true e f h k = h
  either false e f h k = k

  settled_so : (e : End) → Counts P e → Counts P (settled e)
  settled_so e h =
      let n = answers_shutdown e in
      let k : Counts P n = either (owes_shutdown e) (record e { closing = after_shut e.closing }) e h h in
      either (has_begun n) (record n { closing = started n.closing }) n k k

  unless_so : (o : Option Refusal) (t : Turn) → Counts P t.end → InTurn P (unless o t)
  unless_so None t h = h
  unless_so (Some r) t h = tt

  completed_so : (keys : Signer) (row : Result Turn Refusal) → InTurn P row → InTurn P (completed_row keys row)
  completed_so keys (Ok t) h = settled_so t.end h
  completed_so keys (Err r) h = tt

  shutdown_by : (b : Bool) (e : End) → Counts P e → InTurn P (cond b (Ok (quiet e)) (Err refusal.OutOfPlace))
  shutdown_by true e h = h
  shutdown_by false e h = tt

  shutdown_so : (o : Option (List ℕ)) (m : Shutdown) (e : End) → Counts P e → InTurn P (shutdown_at o m e)
  shutdown_so None m e h = h
  shutdown_so (Some script) m e h = shutdown_by (are_same script m.script) e h

  answering_so : (keys : Signer) (a : FeeAnswer) (e : End) → Counts P e → Counts P (answering keys a e).end
  answering_so keys answer.Nothing e h = h
  answering_so keys (answer.Close fee) e h = h
  answering_so keys (answer.EchoAndClose fee) e h = h
  answering_so keys (answer.Propose fee) e h = h

  answered_so : (keys : Signer) (m : ClosingSigned) (e : End) (res : Result FeeAnswer Refusal)
      → Counts P e
      → InTurn P (answered keys m e res)
  answered_so keys m e (Ok a) h = answering_so keys a (answered_end m a e) h
  answered_so keys m e (Err r) h = tt

  fee_by : (keys : Signer) (begun right : Bool) (m : ClosingSigned) (e : End) (res : Result FeeAnswer Refusal)
      → Counts P e
      → InTurn P (cond (not begun) (Err refusal.OutOfPlace)
      (cond right (answered keys m e res) (Err refusal.SignatureWrong)))
  fee_by keys true true m e res h = answered_so keys m e res h
  fee_by keys true false m e res h = tt
  fee_by keys false right m e res h = tt

  row_so : (keys : Signer) (m : Message) (e : End) → Counts P e → InTurn P (message_row keys m e)
  row_so keys (message.Warning m) e h = tt
  row_so keys (message.Init m) e h = tt
  row_so keys (message.Error m) e h = tt
  row_so keys (message.Ping m) e h = tt
  row_so keys (message.Pong m) e h = tt
  row_so keys (message.OpenChannel m) e h = tt
  row_so keys (message.AcceptChannel m) e h = tt
  row_so keys (message.FundingCreated m) e h = tt
  row_so keys (message.FundingSigned m) e h = tt
  row_so keys (message.ChannelReady m) e h =
      either (e.readiness.ready_received || is_closed e) e (record e {
        readiness = record {
          short_id = e.readiness.short_id;
          ready_sent = e.readiness.ready_sent;
          ready_received = true;
        };
        dance = with_next_point m.second_point e.dance;
      }) h h
  row_so keys (message.Shutdown m) e h = shutdown_so e.terms.peer_script m e h
  row_so keys (message.ClosingSigned m) e h =
      fee_by keys (has_begun e) (keys.accepts_close m.fee_satoshis m.signature) m e
      (answer_to e.closing m.fee_satoshis (range_in m)) h
  row_so keys (message.UpdateAddHtlc m) e h =
      unless_so (update_fault e (update.Add (add_of m))) (quiet (takes (update.Add (add_of m)) e)) h
  row_so keys (message.UpdateFulfillHtlc m) e h =
      unless_so (update_fault e (update.Fulfil (fulfil_of m))) (quiet (takes (update.Fulfil (fulfil_of m)) e)) h
  row_so keys (message.UpdateFailHtlc m) e h =
      unless_so (update_fault e (update.Fail (fail_of m))) (quiet (takes (update.Fail (fail_of m)) e)) h
  row_so keys (message.UpdateFailMalformedHtlc m) e h =
      unless_so (update_fault e (update.Malformed (malformed_of m)))
      (quiet (takes (update.Malformed (malformed_of m)) e)) h
  row_so keys (message.UpdateFee m) e h =
      unless_so (update_fault e (update.Fee (fee_of m))) (quiet (takes (update.Fee (fee_of m)) e)) h
  row_so keys (message.CommitmentSigned m) e h =
      unless_so (signature_fault keys m e) (accepting keys e.dance.log.current.own e (accepts e)) h
  row_so keys (message.RevokeAndAck m) e h =
      unless_so (learn_fault keys m e.dance) (learning e.dance.log.acknowledged.peer (revokes m e)) h
  row_so keys (message.ChannelReestablish m) e h = tt

  taken_so : (keys : Signer) (m : Message) (e : End) → Counts P e → InTurn P (taken keys m e)
  taken_so keys m e h = completed_so keys (message_row keys m e) (row_so keys m e h)

  turned_so : (l : ConnectionState) (row : Result Turn Refusal) → InTurn P row → InDone P (turned l row)
  turned_so l (Ok t) h = h
  turned_so l (Err r) h = tt

  resumed_so : (keys : Signer) (m : ChannelReestablish) (e : End) → Counts P e → InTurn P (resume_row keys m e)
  resumed_so keys m e h =
      unless_so (resume_fault keys m e.dance) (completed keys (resumed keys m e)) (settled_so e h)

  awaiting_so : (keys : Signer) (m : Message) (e : End) → Counts P e → InDone P (awaiting_at keys m e)
  awaiting_so keys (message.Warning m) e h = tt
  awaiting_so keys (message.Init m) e h = tt
  awaiting_so keys (message.Error m) e h = tt
  awaiting_so keys (message.Ping m) e h = tt
  awaiting_so keys (message.Pong m) e h = tt
  awaiting_so keys (message.OpenChannel m) e h = tt
  awaiting_so keys (message.AcceptChannel m) e h = tt
  awaiting_so keys (message.FundingCreated m) e h = tt
  awaiting_so keys (message.FundingSigned m) e h = tt
  awaiting_so keys (message.ChannelReady m) e h = tt
  awaiting_so keys (message.Shutdown m) e h = tt
  awaiting_so keys (message.ClosingSigned m) e h = tt
  awaiting_so keys (message.UpdateAddHtlc m) e h = tt
  awaiting_so keys (message.UpdateFulfillHtlc m) e h = tt
  awaiting_so keys (message.UpdateFailHtlc m) e h = tt
  awaiting_so keys (message.UpdateFailMalformedHtlc m) e h = tt
  awaiting_so keys (message.UpdateFee m) e h = tt
  awaiting_so keys (message.CommitmentSigned m) e h = tt
  awaiting_so keys (message.RevokeAndAck m) e h = tt
  awaiting_so keys (message.ChannelReestablish m) e h = turned_so line.Connected (resume_row keys m e)
      (resumed_so keys m e h)

  replied_so : {A M : Type 0} (l : ConnectionState) (to : A → Stage) (by : M → Message) (row : Result (A × M) Refusal)
      → ((x : A) → AtStage P (to x)) → InDone P (replied l to by row)
  replied_so l to by (Ok r) h = h r.0
  replied_so l to by (Err r) h = tt

  open_so : (keys : Signer) (l : ConnectionState) (m : OpenChannel) (s : Stage) → AtStage P s
      → InDone P (open_at keys l m s)
  open_so keys l m (stage.AwaitsOpen c) h =
      replied_so l stage.AwaitsCreated message.AcceptChannel (open_taken keys c m) (λ x. h)
  open_so keys l m (stage.AwaitsAccept s) h = tt
  open_so keys l m (stage.AwaitsCreated a) h = tt
  open_so keys l m (stage.AwaitsSigned e) h = tt
  open_so keys l m (stage.Funded e) h = tt
  open_so keys l m stage.Gone h = tt

  accept_so : (keys : Signer) (l : ConnectionState) (m : AcceptChannel) (s : Stage) → AtStage P s
      → InDone P (accept_at keys l m s)
  accept_so keys l m (stage.AwaitsOpen c) h = tt
  accept_so keys l m (stage.AwaitsAccept s) h =
      replied_so l (λ o. stage.AwaitsSigned (end_of o)) message.FundingCreated (accept_taken keys s m)
      (λ x. (h, inl refl))
  accept_so keys l m (stage.AwaitsCreated a) h = tt
  accept_so keys l m (stage.AwaitsSigned e) h = tt
  accept_so keys l m (stage.Funded e) h = tt
  accept_so keys l m stage.Gone h = tt

  created_so : (keys : Signer) (l : ConnectionState) (m : FundingCreated) (s : Stage) → AtStage P s
      → InDone P (created_at keys l m s)
  created_so keys l m (stage.AwaitsOpen c) h = tt
  created_so keys l m (stage.AwaitsAccept s) h = tt
  created_so keys l m (stage.AwaitsCreated a) h =
      replied_so l (λ o. stage.Funded (end_of o)) message.FundingSigned (created_taken keys a m) (λ x. h)
  created_so keys l m (stage.AwaitsSigned e) h = tt
  created_so keys l m (stage.Funded e) h = tt
  created_so keys l m stage.Gone h = tt

  done_so : (o : Option Refusal) (d : Done) → AtStage P d.stage → InDone P (unless o d)
  done_so None d h = h
  done_so (Some r) d h = tt

  signed_with : (n : ℕ) → P 0 → (n ≡ 0) ⊎ ((m : ℕ) → P m) → P n
  signed_with n h (inl none) = subst P (sym none) h
  signed_with n h (inr all) = all n

  signed_so : (keys : Signer) (l : ConnectionState) (m : FundingSigned) (s : Stage) → AtStage P s
      → InDone P (signed_at keys l m s)
  signed_so keys l m (stage.AwaitsOpen c) h = tt
  signed_so keys l m (stage.AwaitsAccept s) h = tt
  signed_so keys l m (stage.AwaitsCreated a) h = tt
  signed_so keys l m (stage.AwaitsSigned e) h =
      done_so (first_fault keys e.dance m.signature) (record { connection = l; stage = stage.Funded e; outputs = [] })
      (signed_with e.ledger.decided h.0 h.1)
  signed_so keys l m (stage.Funded e) h = tt
  signed_so keys l m stage.Gone h = tt

  opening_so : (keys : Signer) (l : ConnectionState) (m : Message) (s : Stage) → AtStage P s
      → InDone P (opening_at keys l m s)
  opening_so keys l (message.Warning m) s h = tt
  opening_so keys l (message.Init m) s h = tt
  opening_so keys l (message.Error m) s h = tt
  opening_so keys l (message.Ping m) s h = tt
  opening_so keys l (message.Pong m) s h = tt
  opening_so keys l (message.OpenChannel m) s h = open_so keys l m s h
  opening_so keys l (message.AcceptChannel m) s h = accept_so keys l m s h
  opening_so keys l (message.FundingCreated m) s h = created_so keys l m s h
  opening_so keys l (message.FundingSigned m) s h = signed_so keys l m s h
  opening_so keys l (message.ChannelReady m) s h = tt
  opening_so keys l (message.Shutdown m) s h = tt
  opening_so keys l (message.ClosingSigned m) s h = tt
  opening_so keys l (message.UpdateAddHtlc m) s h = tt
  opening_so keys l (message.UpdateFulfillHtlc m) s h = tt
  opening_so keys l (message.UpdateFailHtlc m) s h = tt
  opening_so keys l (message.UpdateFailMalformedHtlc m) s h = tt
  opening_so keys l (message.UpdateFee m) s h = tt
  opening_so keys l (message.CommitmentSigned m) s h = tt
  opening_so keys l (message.RevokeAndAck m) s h = tt
  opening_so keys l (message.ChannelReestablish m) s h = tt

  saved_by : (b : Bool) (keys : Signer) (l : ConnectionState) (m : Message) (e : End) → Counts P e
      → InDone P (cond b (turned l (taken keys m e)) (awaiting_at keys m e))
  saved_by true keys l m e h = turned_so l (taken keys m e) (taken_so keys m e h)
  saved_by false keys l m e h = awaiting_so keys m e h

  stage_so : (keys : Signer) (l : ConnectionState) (m : Message) (s : Stage) → AtStage P s
      → InDone P (stage_row keys l m s)
  stage_so keys l m (stage.AwaitsOpen c) h = opening_so keys l m (stage.AwaitsOpen c) h
  stage_so keys l m (stage.AwaitsAccept s) h = opening_so keys l m (stage.AwaitsAccept s) h
  stage_so keys l m (stage.AwaitsCreated a) h = opening_so keys l m (stage.AwaitsCreated a) h
  stage_so keys l m (stage.AwaitsSigned e) h = opening_so keys l m (stage.AwaitsSigned e) h
  stage_so keys l m (stage.Funded e) h = saved_by (is_connected l) keys l m e h
  stage_so keys l m stage.Gone h = opening_so keys l m stage.Gone h

  faulted_so : (o : Option Refusal) (row : Result Done Refusal) → InDone P row → InDone P (faulted o row)
  faulted_so None row h = h
  faulted_so (Some r) row h = tt

  done_by : (b : Bool) (row other : Result Done Refusal) → InDone P row → InDone P other → InDone P (cond b row other)
  done_by true row other h k = h
  done_by false row other h k = k

  proposed_so : (u : Update) (e : End) → Counts P e → InTurn P (propose_row u e)
  proposed_so u e h =
      unless_so (propose_fault e u) (sending (update_message e.dance.channel u) (proposes u e)) h

  command_so : (keys : Signer) (c : Command) (e : End) → Counts P e → InTurn P (command_row keys c e)
  command_so keys (command.Confirm i) e h =
      unless_so (confirm_fault e) (sending (message.ChannelReady (ready_message keys e)) (confirmed i e)) h
  command_so keys (command.Add amount hash expiry onion origin) e h =
      proposed_so (update.Add (record {
        id = next_id e.dance.log.own;
        amount = amount;
        hash = hash;
        expiry = expiry;
        onion = onion;
        origin = origin;
      })) e h
  command_so keys (command.Fulfil i preimage) e h =
      proposed_so (update.Fulfil (record { id = i; preimage = preimage })) e h
  command_so keys (command.Fail i reason) e h =
      proposed_so (update.Fail (record { id = i; reason = reason })) e h
  command_so keys (command.Malformed i sha code) e h =
      proposed_so (update.Malformed (record { id = i; sha256_of_onion = sha; failure_code = code })) e h
  command_so keys (command.Fee feerate) e h =
      proposed_so (update.Fee (record { feerate = feerate })) e h
  command_so keys command.Sign e h =
      unless_so (sign_command_fault e) (record {
        end = signs_next e;
        handed = record {
          sent = output.Send (message.CommitmentSigned (signed_message keys e.dance)) ∷ [];
          told = output.Signed (length e.dance.log.own) ∷ [];
        };
      }) h
  command_so keys (command.Shutdown script) e h =
      unless_so (shut_fault script e)
      (completed keys (sending (message.Shutdown (shutdown_message (shuts_down script e))) (shuts_down script e)))
      (settled_so (shuts_down script e) h)
  command_so keys (command.Decide event mark) e h = tt
  command_so keys (command.Forget i) e h = tt
  command_so keys (command.Resume event mark) e h = tt

  obeyed_so : (keys : Signer) (l : ConnectionState) (c : Command) (s : Stage) → AtStage P s
      → InDone P (obeyed keys l c s)
  obeyed_so keys l c (stage.Funded e) h =
      faulted_so (unready_fault c e) (faulted (line_fault l) (turned l (command_row keys c e)))
      (faulted_so (line_fault l) (turned l (command_row keys c e))
      (turned_so l (command_row keys c e) (command_so keys c e h)))
  obeyed_so keys l d (stage.AwaitsOpen c) h = tt
  obeyed_so keys l d (stage.AwaitsAccept s) h = tt
  obeyed_so keys l d (stage.AwaitsCreated a) h = tt
  obeyed_so keys l d (stage.AwaitsSigned e) h = tt
  obeyed_so keys l d stage.Gone h = tt

  -- a mark decides nothing by itself
  marked_so : (R : ℕ → Type 0) (m : Mark) (htlc : Option ℕ) (l : Ledger) → R l.decided → InLedger R (marked m htlc l)
  marked_so R mark.None htlc l h = h
  marked_so R (mark.Forward channel amount expiry) None l h = tt
  marked_so R (mark.Forward channel amount expiry) (Some id) l h = h
  marked_so R (mark.Fail reason) None l h = tt
  marked_so R (mark.Fail reason) (Some id) l h = h
  marked_so R (mark.Malformed code) None l h = tt
  marked_so R (mark.Malformed code) (Some id) l h = h
  marked_so R (mark.Fulfil preimage) None l h = tt
  marked_so R (mark.Fulfil preimage) (Some id) l h = h
  marked_so R (mark.Held event) None l h = tt
  marked_so R (mark.Held event) (Some id) l h = h

  -- the first undecided event is decided, and no other
  first_so : (res : Result Ledger Refusal) → InLedger (λ n. P (n + 1)) res → InLedger P (decided_first res)
  first_so (Ok l) h = h
  first_so (Err r) h = tt

  decided_by : (b own : Bool) (event : ℕ) (m : Mark) (htlc : Option ℕ) (l : Ledger) → is_in_turn event l ≡ b
      → (P event → P (event + 1)) → P l.decided
      → InLedger P (cond (b && own) (decided_first (marked m htlc l)) (Err refusal.NotReady))
  decided_by false own event m htlc l is more h = tt
  decided_by true false event m htlc l is more h = tt
  decided_by true true event m htlc l is more h =
      let same : event ≡ l.decided =
      eqb-true event l.decided
      (front (event == l.decided) (nat_lt event most_decided && nat_lt 0 (length l.undecided)) is) in
      first_so (marked m htlc l)
      (marked_so (λ n. P (n + 1)) m htlc l (subst (λ n. P n → P (n + 1)) same more h))

  noted_by : (l : ConnectionState) (res : Result Ledger Refusal) (e : End) → InLedger P res
      → InDone P (turned l (with_ledger res e))
  noted_by l (Ok x) e h = h
  noted_by l (Err r) e h = tt

  decided_so : (l : ConnectionState) (event : ℕ) (m : Mark) (s : Stage) → (P event → P (event + 1)) → AtStage P s
      → InDone P (noted l (command.Decide event m) s)
  decided_so l event m (stage.AwaitsOpen c) more h = tt
  decided_so l event m (stage.AwaitsAccept s) more h = tt
  decided_so l event m (stage.AwaitsCreated a) more h = tt
  decided_so l event m (stage.AwaitsSigned e) more h = tt
  decided_so l event m (stage.Funded e) more h =
      let htlc = first_htlc e.dance.log e.ledger.undecided in
      noted_by l (decide_row event m htlc e.ledger) e
      (decided_by (is_in_turn event e.ledger) (is_of_event event m) event m htlc e.ledger refl more h)
  decided_so l event m stage.Gone more h = tt

  forgotten_so : (l : ConnectionState) (i : ℕ) (s : Stage) → AtStage P s → InDone P (noted l (command.Forget i) s)
  forgotten_so l i (stage.AwaitsOpen c) h = tt
  forgotten_so l i (stage.AwaitsAccept s) h = tt
  forgotten_so l i (stage.AwaitsCreated a) h = tt
  forgotten_so l i (stage.AwaitsSigned e) h = tt
  forgotten_so l i (stage.Funded e) h = h
  forgotten_so l i stage.Gone h = tt

  -- what is held was decided before
  held_by : (b : Bool) (event : ℕ) (m : Mark) (l : Ledger) → P l.decided
      → InLedger P (cond b (Ok (record l { decisions = with_mark event m l.decisions })) (Err refusal.NotReady))
  held_by true event m l h = h
  held_by false event m l h = tt

  held_so : (l : ConnectionState) (event : ℕ) (m : Mark) (s : Stage) → AtStage P s
      → InDone P (noted l (command.Resume event m) s)
  held_so l event m (stage.AwaitsOpen c) h = tt
  held_so l event m (stage.AwaitsAccept s) h = tt
  held_so l event m (stage.AwaitsCreated a) h = tt
  held_so l event m (stage.AwaitsSigned e) h = tt
  held_so l event m (stage.Funded e) h =
      noted_by l (resume_held_row event m e.ledger) e (held_by (may_resume event m e.ledger) event m e.ledger h)
  held_so l event m stage.Gone h = tt

  connects_so : (keys : Signer) (s : Stage) → AtStage P s → InDone P (connects keys s)
  connects_so keys (stage.AwaitsOpen c) h = h
  connects_so keys (stage.AwaitsAccept s) h = h
  connects_so keys (stage.AwaitsCreated a) h = tt
  connects_so keys (stage.AwaitsSigned e) h = tt
  connects_so keys (stage.Funded e) h = h
  connects_so keys stage.Gone h = tt

  lost_so : (s : Stage) → AtStage P s → AtStage P (lost s)
  lost_so (stage.AwaitsOpen c) h = h
  lost_so (stage.AwaitsAccept s) h = h
  lost_so (stage.AwaitsCreated a) h = h
  lost_so (stage.AwaitsSigned e) h = h.0
  lost_so (stage.Funded e) h = h
  lost_so stage.Gone h = h

  cut_so : (s : Stage) → AtStage P s → AtStage P (cut s)
  cut_so (stage.AwaitsOpen c) h = h
  cut_so (stage.AwaitsAccept s) h = h
  cut_so (stage.AwaitsCreated a) h = h
  cut_so (stage.AwaitsSigned e) h = h.0
  cut_so (stage.Funded e) h = h
  cut_so stage.Gone h = h

  based_so : (s : Stage) → AtStage P s → AtStage P (based_stage s)
  based_so (stage.AwaitsOpen c) h = h
  based_so (stage.AwaitsAccept s) h = h
  based_so (stage.AwaitsCreated a) h = h
  based_so (stage.AwaitsSigned e) h = h
  based_so (stage.Funded e) h = h
  based_so stage.Gone h = h

  module _ {K : Type 0} where
    handled_so : (keys : Signer) (l : State K) (m : Message) → AtStage P l.stage → InDone P (handled keys l m)
    handled_so keys l m h =
        let row = faulted (message_fault l.connection l.stage m) (stage_row keys l.connection m l.stage) in
        let here : Done = record { connection = l.connection; stage = l.stage; outputs = [] } in
        let all = cond (is_passed_over l.stage m) (Ok here) row in
        done_by l.halted (Err refusal.Halted) (faulted l.failure all) tt
        (faulted_so l.failure all (done_by (is_passed_over l.stage m) (Ok here) row h
        (faulted_so (message_fault l.connection l.stage m) (stage_row keys l.connection m l.stage)
        (stage_so keys l.connection m l.stage h))))

    asked_so : (keys : Signer) (l : State K) (c : Command) → KeptByCommand P c → AtStage P l.stage
        → InDone P (asked keys l c)
    asked_so keys l (command.Confirm i) p h =
        faulted_so l.failure (obeyed keys l.connection (command.Confirm i) l.stage)
        (obeyed_so keys l.connection (command.Confirm i) l.stage h)
    asked_so keys l (command.Add amount hash expiry onion origin) p h =
        faulted_so l.failure (obeyed keys l.connection (command.Add amount hash expiry onion origin) l.stage)
        (obeyed_so keys l.connection (command.Add amount hash expiry onion origin) l.stage h)
    asked_so keys l (command.Fulfil i preimage) p h =
        faulted_so l.failure (obeyed keys l.connection (command.Fulfil i preimage) l.stage)
        (obeyed_so keys l.connection (command.Fulfil i preimage) l.stage h)
    asked_so keys l (command.Fail i reason) p h =
        faulted_so l.failure (obeyed keys l.connection (command.Fail i reason) l.stage)
        (obeyed_so keys l.connection (command.Fail i reason) l.stage h)
    asked_so keys l (command.Malformed i sha code) p h =
        faulted_so l.failure (obeyed keys l.connection (command.Malformed i sha code) l.stage)
        (obeyed_so keys l.connection (command.Malformed i sha code) l.stage h)
    asked_so keys l (command.Fee feerate) p h =
        faulted_so l.failure (obeyed keys l.connection (command.Fee feerate) l.stage)
        (obeyed_so keys l.connection (command.Fee feerate) l.stage h)
    asked_so keys l command.Sign p h =
        faulted_so l.failure (obeyed keys l.connection command.Sign l.stage)
        (obeyed_so keys l.connection command.Sign l.stage h)
    asked_so keys l (command.Shutdown script) p h =
        faulted_so l.failure (obeyed keys l.connection (command.Shutdown script) l.stage)
        (obeyed_so keys l.connection (command.Shutdown script) l.stage h)
    asked_so keys l (command.Decide event mark) p h = decided_so l.connection event mark l.stage p h
    asked_so keys l (command.Forget i) p h = forgotten_so l.connection i l.stage h
    asked_so keys l (command.Resume event mark) p h = held_so l.connection event mark l.stage h

    commanded_so : (keys : Signer) (l : State K) (c : Command) → KeptByCommand P c → AtStage P l.stage
        → InDone P (commanded keys l c)
    commanded_so keys l c p h = done_by l.halted (Err refusal.Halted) (asked keys l c) tt (asked_so keys l c p h)

    first_message_so : (signer : K → Signer) (l : State K) → AtStage P l.stage → InDone P (both.first_message signer l)
    first_message_so signer l h =
        let keys = signer l.keys in
        done_by l.halted (Err refusal.Halted) (cond (is_down l.connection) (connects keys l.stage)
        (Err refusal.NotReady)) tt
        (done_by (is_down l.connection) (connects keys l.stage) (Err refusal.NotReady) (connects_so keys l.stage h) tt)

    -- ---- a link

    link_by : (b : Bool) (l m : State K) → AtStage P l.stage → AtStage P m.stage → AtStage P (cond b l m).stage
    link_by true l m h k = h
    link_by false l m h k = k

    unless_failed_so : (o : Option Refusal) (l m : State K) → AtStage P l.stage → AtStage P m.stage
        → AtStage P (unless_failed o l m).stage
    unless_failed_so None l m h k = k
    unless_failed_so (Some r) l m h k = h

    refused_so : (r : Refusal) (l : State K) → AtStage P l.stage → AtStage P (refused r l).stage
    refused_so r l h =
        link_by l.halted l (unless_failed l.failure l (fails_by r l)) h
        (unless_failed_so l.failure l (fails_by r l) h
        (link_by (fails r) (failed r l) l (lost_so l.stage h) h))

    left_so : (after : Refusal → State K → State K) (row : Result Done Refusal) (l : State K)
        → ((r : Refusal) → AtStage P (after r l).stage) → InDone P row → AtStage P (left after row l).stage
    left_so after (Ok d) l f h = based_so d.stage h
    left_so after (Err r) l f h = f r

    greeted_so : (row : Result Done Refusal) (l : State K) → InDone P row → AtStage P l.stage
        → AtStage P (both.greeted row l).stage
    greeted_so (Ok d) l h k = h
    greeted_so (Err r) l h k = k

    drops_so : (l : State K) → AtStage P l.stage → AtStage P (drops l).stage
    drops_so l h = link_by (is_down l.connection) l (record l { connection = line.Down; stage = cut l.stage }) h
        (cut_so l.stage h)

    back_so : (keys : K) (l : State K) (s : Stage) → AtStage P l.stage → AtStage P s
        → AtStage P (back keys l (saved_end s)).stage
    back_so keys l (stage.AwaitsOpen c) k h = drops_so l k
    back_so keys l (stage.AwaitsAccept s) k h = drops_so l k
    back_so keys l (stage.AwaitsCreated a) k h = drops_so l k
    back_so keys l (stage.AwaitsSigned e) k h = drops_so l k
    back_so keys l (stage.Funded e) k h = h
    back_so keys l stage.Gone k h = drops_so l k

-- ---- both ends of a channel: P holds of how many events x has decided, and Q of how many y has

abbrev pub KeptByMove : (P Q : ℕ → Type 0) → Move → Type 0
KeptByMove P Q (By Funder a) = KeptBy P a
KeptByMove P Q (By Fundee a) = KeptBy Q a
KeptByMove P Q (Disconnects side) = Unit {0}
KeptByMove P Q (Halts side) = Unit {0}
KeptByMove P Q (Restarts side) = Unit {0}
KeptByMove P Q (Stops Funder a) = KeptBy P a
KeptByMove P Q (Stops Fundee a) = KeptBy Q a
KeptByMove P Q (HaltsAfter Funder a) = KeptBy P a
KeptByMove P Q (HaltsAfter Fundee a) = KeptBy Q a
KeptByMove P Q Meet = Unit {0}

module _ {K : Type 0} where
  abbrev pub AtBoth : (P Q : ℕ → Type 0) → Both K → Type 0
  AtBoth P Q p = AtStage P p.x.link.stage × AtStage Q p.y.link.stage

  -- what is sent to an end changes nothing of its link
  reaches_so : (P : ℕ → Type 0) (b : Bool) (p q : SimEnd K) → AtStage P p.link.stage → AtStage P q.link.stage
      → AtStage P (cond b p q).link.stage
  reaches_so P true p q h k = h
  reaches_so P false p q h k = k

  answers_so : (P Q : ℕ → Type 0) (after : Refusal → State K → State K) (id : List ℕ) (row : Result Done Refusal)
      (p : Both K) → ((r : Refusal) → AtStage P (after r p.x.link).stage) → InDone P row → AtBoth P Q p
      → AtBoth P Q (both.answers after id row p)
  answers_so P Q after id row p f d h = (
    left_so P after row p.x.link f d,
    reaches_so Q (is_down p.y.link.connection) p.y (record p.y { inbox = p.y.inbox ++ both.sent_by id row }) h.1 h.1,
  )

  delivers_so : (P Q : ℕ → Type 0) (signer : K → Signer) (id : List ℕ) (ms : List Message) (p : Both K)
      → AtBoth P Q p → AtBoth P Q (delivers signer id ms p)
  delivers_so P Q signer id [] p h = h
  delivers_so P Q signer id (m ∷ ms) p h =
      answers_so P Q refused id (handled (signer p.x.link.keys) p.x.link m)
      (record { x = record p.x { inbox = ms }; y = p.y }) (λ r. refused_so P r p.x.link h.0)
      (handled_so P (signer p.x.link.keys) p.x.link m h.0) h

  acts_so : (P Q : ℕ → Type 0) (signer : K → Signer) (id : List ℕ) (a : Act) (p : Both K) → KeptBy P a
      → AtBoth P Q p → AtBoth P Q (acts signer id a p)
  acts_so P Q signer id act.Deliver p i h = delivers_so P Q signer id p.x.inbox p h
  acts_so P Q signer id (act.Send c) p i h =
      answers_so P Q unchanged id (commanded (signer p.x.link.keys) p.x.link c) p (λ r. h.0)
      (commanded_so P (signer p.x.link.keys) p.x.link c i h.0) h

  restarted_so : (P : ℕ → Type 0) (p : SimEnd K) → AtStage P p.link.stage → AtStage P (restarted p).link.stage
  restarted_so P p h = back_so P p.keys p.link p.link.stage h h

  comes_up_so : (P : ℕ → Type 0) (signer : K → Signer) (p : SimEnd K) → AtStage P p.link.stage
      → AtStage P (both.comes_up signer p).link.stage
  comes_up_so P signer p h =
      greeted_so P (both.first_message signer p.link) p.link (first_message_so P signer p.link h) h

  met_so : (P : ℕ → Type 0) (signer : K → Signer) (p : SimEnd K) (ms : List Message) → AtStage P p.link.stage
      → AtStage P (both.reaches ms (both.comes_up signer p)).link.stage
  met_so P signer p ms h =
      let q = both.comes_up signer p in
      let k = comes_up_so P signer p h in
      reaches_so P (is_down q.link.connection) q (record q { inbox = q.inbox ++ ms }) k k

  -- ---- moves

  turned_round : (P Q : ℕ → Type 0) (p : Both K) → AtBoth P Q p → AtBoth Q P (swapped p)
  turned_round P Q p h = (h.1, h.0)

  moves_so : (P Q : ℕ → Type 0) (signer : K → Signer) (id : List ℕ) (m : Move) (p : Both K) → KeptByMove P Q m
      → AtBoth P Q p → AtBoth P Q (moves signer id m p)
  unfolding moves
  moves_so P Q signer id (By Funder a) p i h = acts_so P Q signer id a p i h
  moves_so P Q signer id (By Fundee a) p i h =
      turned_round Q P (acts signer id a (swapped p))
      (acts_so Q P signer id a (swapped p) i (turned_round P Q p h))
  moves_so P Q signer id (Disconnects Funder) p i h = (drops_so P p.x.link h.0, h.1)
  moves_so P Q signer id (Disconnects Fundee) p i h = (h.0, drops_so Q p.y.link h.1)
  moves_so P Q signer id (Halts Funder) p i h = (drops_so P p.x.link h.0, h.1)
  moves_so P Q signer id (Halts Fundee) p i h = (h.0, drops_so Q p.y.link h.1)
  moves_so P Q signer id (Restarts Funder) p i h = (restarted_so P p.x h.0, h.1)
  moves_so P Q signer id (Restarts Fundee) p i h = (h.0, restarted_so Q p.y h.1)
  moves_so P Q signer id (Stops Funder a) p i h =
      (restarted_so P (acts signer id a p).x (acts_so P Q signer id a p i h).0, h.1)
  moves_so P Q signer id (Stops Fundee a) p i h = (
    h.0,
    restarted_so Q (acts signer id a (swapped p)).x
        (acts_so Q P signer id a (swapped p) i (turned_round P Q p h)).0,
  )
  moves_so P Q signer id (HaltsAfter Funder a) p i h =
      (drops_so P (acts signer id a p).x.link (acts_so P Q signer id a p i h).0, h.1)
  moves_so P Q signer id (HaltsAfter Fundee a) p i h = (
    h.0,
    drops_so Q (acts signer id a (swapped p)).x.link
        (acts_so Q P signer id a (swapped p) i (turned_round P Q p h)).0,
  )
  moves_so P Q signer id Meet p i h = (
    met_so P signer p.x (both.greets (both.first_message signer p.y.link)) h.0,
    met_so Q signer p.y (both.greets (both.first_message signer p.x.link)) h.1,
  )

  pub all_so : (P Q : ℕ → Type 0) (signer : K → Signer) (id : List ℕ) (ms : List Move) (p : Both K)
      → Each (KeptByMove P Q) ms → AtBoth P Q p → AtBoth P Q (both.run signer id ms p)
  all_so P Q signer id [] p i h = h
  all_so P Q signer id (m ∷ ms) p i h =
      all_so P Q signer id ms (moves signer id m p) i.1 (moves_so P Q signer id m p i.0 h)
