-- What an end sends names its channel, and nothing is sent by what else it hands out.
use Rattle.ln_bytes.specs.Same.{are_same}
use Rattle.ln_dance.specs.Resume.{signature_again}
use Rattle.std.proofs.Common.{◌||◌}
use Rattle.std.proofs.Common.{sym}
use Rattle.ln_channel.specs.Commands.{propose_row}
use Rattle.ln_dance.specs.Resume.{updates_again}
use Rattle.ln_dance.specs.Resume.{revocation_again}
use Rattle.std.proofs.Common.{◌≡◌, ℕ, ◌+◌, List, [], ◌∷◌, ◌++◌, map, refl, ap, subst, Bool, true, false, cond, not}
use Rattle.std.proofs.Common.{◌&&◌, Option, Some, None, Result, Ok, Err}
use Rattle.ln_msgs.specs.declared.messages.message.Message.{Message}
use Rattle.ln_msgs.specs.declared.messages.message.Message.TheVariants as message
use Rattle.ln_msgs.specs.declared.messages.closing.ClosingSigned.{ClosingSigned}
use Rattle.ln_msgs.specs.declared.messages.closing.Shutdown.{Shutdown}
use Rattle.ln_msgs.specs.declared.messages.commitments.ChannelReestablish.{ChannelReestablish}
use Rattle.ln_refusals.specs.declared.refusal.Refusal.{Refusal}
use Rattle.ln_refusals.specs.declared.refusal.Refusal.TheVariants as refusal
use Rattle.ln_keys.specs.Signer.{Signer}
use Rattle.ln_log.specs.declared.update.Update.{Update}
use Rattle.ln_log.specs.Updates.{next_id}
use Rattle.ln_log.specs.Log.{unacknowledged}
use Rattle.ln_dance.specs.Dance.{learn_fault}
use Rattle.ln_log.specs.declared.update.Update.TheVariants as update
use Rattle.ln_dance.specs.declared.dance.Later.{Later}
use Rattle.ln_dance.specs.declared.dance.Later.TheVariants.{Signature, Revocation}
use Rattle.ln_dance.specs.declared.resume.Resend.{Resend}
use Rattle.ln_dance.specs.declared.resume.Resend.TheVariants as resend
use Rattle.ln_dance.specs.Dance.{Dancer}
use Rattle.ln_dance.specs.Messages.{update_message, add_of, fulfil_of, fail_of, malformed_of, fee_of}
use Rattle.ln_dance.specs.Resume.{lacks_signature, lacks_revocation, signature_owed, revocation_owed, owed_by}
use Rattle.ln_dance.specs.Resume.{resume_fault, is_before_the_first}
use Rattle.ln_close.specs.declared.closing.FeeAnswer.{FeeAnswer}
use Rattle.ln_close.specs.declared.closing.FeeAnswer.TheVariants as answer
use Rattle.ln_close.specs.Closing.{answer_to}
use Rattle.ln_hooks.specs.declared.event.ChannelEvent.{ChannelEvent}
use Rattle.ln_channel.specs.declared.command.Command.{Command}
use Rattle.ln_channel.specs.declared.command.Command.TheVariants as command
use Rattle.ln_channel.specs.declared.machine.ConnectionState.{ConnectionState}
use Rattle.ln_channel.specs.declared.machine.ConnectionState.TheVariants.{Down, AwaitingReestablish, Connected}
use Rattle.ln_channel.specs.declared.output.Output.{Output}
use Rattle.ln_channel.specs.declared.output.Output.TheVariants as output
use Rattle.ln_channel.specs.Naming.{named}
use Rattle.ln_channel.specs.Opening.{unless}
use Rattle.ln_channel.specs.Outputs.{numbered, events_of}
use Rattle.ln_channel.specs.Ledger.{next_event}
use Rattle.ln_channel.specs.Since.{own_since, peer_since}
use Rattle.ln_channel.specs.End.{End, Turn, completed, quiet, sending, owes_shutdown, answers_shutdown, due_fee}
use Rattle.ln_channel.specs.End.{fee_sent}
use Rattle.ln_channel.specs.End.{has_begun, is_closed, shutdown_message, shutdown_sent, due_sent}
use Rattle.ln_channel.specs.Taking.{message_row, takes_ready, takes, update_row, update_fault, signature_fault}
use Rattle.ln_channel.specs.Taking.{accepting, accepts, learning, revokes, shutdown_at}
use Rattle.ln_channel.specs.Taking.{shuts_by_peer, answering, answered, answered_end, range_in}
use Rattle.ln_channel.specs.Taking.{completed_row}
use Rattle.ln_channel.specs.Commands.{command_row, confirm_fault, ready_message, propose_fault, proposes}
use Rattle.ln_channel.specs.Commands.{sign_command_fault, shut_fault, shuts_down, unready_fault}
use Rattle.ln_channel.specs.Resume.{resume_row, resumed, ready_again, all_sent, owed_again, shutdown_again}
use Rattle.ln_channel.specs.Resume.{fee_again}
use Rattle.ln_channel.specs.Step.{faulted, line_fault}
use Rattle.ln_channel_laws.specs.Ends.{message_at, command_at, messages_in}
use Rattle.ln_channel_laws.proofs.Offered.{messages_in-append, again-append}

-- each message names this channel
abbrev pub Names : List ℕ → List Message → Type 0
Names id [] = Unit {0}
Names id (m ∷ ms) = (named m ≡ Some id) × Names id ms

pub record IsFine (id : List ℕ) (t : Turn) : Type 0 where
  pub channel : t.end.dance.channel ≡ id
  pub sent : Names id (messages_in t.handed.sent)
  pub told : messages_in t.handed.told ≡ []

abbrev pub IsFineRow : List ℕ → Result Turn Refusal → Type 0
IsFineRow id (Ok t) = IsFine id t
IsFineRow id (Err r) = Unit {0}

-- ---- lists

none_numbered : (n : ℕ) (es : List ChannelEvent) → messages_in (numbered n es) ≡ []
none_numbered n [] = refl
none_numbered n (e ∷ es) = none_numbered (n + 1) es

pub names-append : (id : List ℕ) (ms ns : List Message) → Names id ms → Names id ns → Names id (ms ++ ns)
names-append id [] ns h k = k
names-append id (m ∷ ms) ns h k = (h.0, names-append id ms ns h.1 k)

module _ (keys : Signer) (id : List ℕ) where
  both_sent : (os ps : List Output) → Names id (messages_in os) → Names id (messages_in ps)
      → Names id (messages_in (os ++ ps))
  both_sent os ps h k = subst (λ ms. Names id ms) (sym (messages_in-append os ps))
      (names-append id (messages_in os) (messages_in ps) h k)

  fine_unless : (f : Option Refusal) (t : Turn) → IsFine id t → IsFineRow id (unless f t)
  fine_unless None t h = h
  fine_unless (Some r) t h = tt

  same_channel : (b : Bool) (e f : End) → e.dance.channel ≡ id → f.dance.channel ≡ id
      → (cond b e f).dance.channel ≡ id
  same_channel true e f h k = h
  same_channel false e f h k = k

  -- ---- what is due at the end of a turn

  fee_named : (e : End) → e.dance.channel ≡ id → (fee : Option ℕ) → Names id (messages_in (fee_sent keys e fee))
  fee_named e h None = tt
  fee_named e h (Some fee) = (ap Some h, tt)

  shutdown_named : (b : Bool) (e : End) → e.dance.channel ≡ id → Names id
      (messages_in (cond b (output.Send (message.Shutdown (shutdown_message e)) ∷ []) []))
  shutdown_named true e h = (ap Some h, tt)
  shutdown_named false e h = tt

  fine_completed : (t : Turn) → IsFine id t → IsFine id (completed keys t)
  fine_completed t h =
      let e = t.end in
      let answers : (answers_shutdown e).dance.channel ≡ id =
      same_channel (owes_shutdown e) (record e { closing = record e.closing { shut = true } }) e h.channel h.channel in
      record {
        channel = same_channel (has_begun (answers_shutdown e)) _ (answers_shutdown e) answers answers;
        sent = both_sent t.handed.sent (due_sent keys e) h.sent
            (both_sent (shutdown_sent e) (fee_sent keys (answers_shutdown e) (due_fee (answers_shutdown e)))
            (shutdown_named (owes_shutdown e) e h.channel)
            (fee_named (answers_shutdown e) answers (due_fee (answers_shutdown e))));
        told = h.told;
      }

  fine_completed_row : (r : Result Turn Refusal) → IsFineRow id r → IsFineRow id (completed_row keys r)
  fine_completed_row (Ok t) h = fine_completed t h
  fine_completed_row (Err r) h = tt

  -- ---- messages

  quietly : (e : End) → e.dance.channel ≡ id → IsFine id (quiet e)
  quietly e h = record { channel = h; sent = tt; told = refl }

  fine_update : (u : Update) (e : End) → e.dance.channel ≡ id → IsFineRow id (update_row u e)
  fine_update u e h = fine_unless (update_fault e u) (quiet (takes u e)) (quietly (takes u e) h)

  repeated : (b : Bool) (e : End) → e.dance.channel ≡ id
      → IsFineRow id (cond b (Ok (quiet e)) (Err refusal.OutOfPlace))
  repeated true e h = quietly e h
  repeated false e h = tt

  fine_shutdown : (o : Option (List ℕ)) (m : Shutdown) (e : End) → e.dance.channel ≡ id
      → IsFineRow id (shutdown_at o m e)
  fine_shutdown None m e h = quietly (shuts_by_peer m e) h
  fine_shutdown (Some script) m e h = repeated (are_same script m.script) e h

  fine_answer : (a : FeeAnswer) (e : End) → e.dance.channel ≡ id → IsFine id (answering keys a e)
  fine_answer answer.Nothing e h = record { channel = h; sent = tt; told = refl }
  fine_answer (answer.Close fee) e h = record { channel = h; sent = tt; told = refl }
  fine_answer (answer.EchoAndClose fee) e h = record { channel = h; sent = (ap Some h, tt); told = refl }
  fine_answer (answer.Propose fee) e h = record { channel = h; sent = (ap Some h, tt); told = refl }

  fine_answered : (m : ClosingSigned) (e : End) → e.dance.channel ≡ id → (r : Result FeeAnswer Refusal)
      → IsFineRow id (answered keys m e r)
  fine_answered m e h (Ok a) = fine_answer a (answered_end m a e) h
  fine_answered m e h (Err r) = tt

  fine_fee : (m : ClosingSigned) (e : End) → e.dance.channel ≡ id → (late right : Bool)
      → IsFineRow id (cond late (Err refusal.OutOfPlace)
      (cond right (answered keys m e (answer_to e.closing m.fee_satoshis (range_in m))) (Err refusal.SignatureWrong)))
  fine_fee m e h true right = tt
  fine_fee m e h false true = fine_answered m e h (answer_to e.closing m.fee_satoshis (range_in m))
  fine_fee m e h false false = tt

  fine_message : (m : Message) (e : End) → e.dance.channel ≡ id → IsFineRow id (message_row keys m e)
  fine_message (message.Warning m) e h = tt
  fine_message (message.Init m) e h = tt
  fine_message (message.Error m) e h = tt
  fine_message (message.Ping m) e h = tt
  fine_message (message.Pong m) e h = tt
  fine_message (message.OpenChannel m) e h = tt
  fine_message (message.AcceptChannel m) e h = tt
  fine_message (message.FundingCreated m) e h = tt
  fine_message (message.FundingSigned m) e h = tt
  fine_message (message.ChannelReady m) e h =
      quietly (takes_ready m e) (same_channel (e.readiness.ready_received || is_closed e) e _ h h)
  fine_message (message.Shutdown m) e h = fine_shutdown e.terms.peer_script m e h
  fine_message (message.ClosingSigned m) e h =
      fine_fee m e h (not (has_begun e)) (keys.accepts_close m.fee_satoshis m.signature)
  fine_message (message.UpdateAddHtlc m) e h = fine_update (update.Add (add_of m)) e h
  fine_message (message.UpdateFulfillHtlc m) e h = fine_update (update.Fulfil (fulfil_of m)) e h
  fine_message (message.UpdateFailHtlc m) e h = fine_update (update.Fail (fail_of m)) e h
  fine_message (message.UpdateFailMalformedHtlc m) e h = fine_update (update.Malformed (malformed_of m)) e h
  fine_message (message.UpdateFee m) e h = fine_update (update.Fee (fee_of m)) e h
  fine_message (message.CommitmentSigned m) e h =
      let n = accepts e in
      fine_unless (signature_fault keys m e) (accepting keys e.dance.log.current.own e n) (record {
        channel = h;
        sent = (ap Some h, tt);
        told = none_numbered (next_event n.ledger)
            (events_of true (own_since e.dance.log.current.own n.dance.log));
      })
  fine_message (message.RevokeAndAck m) e h =
      let n = revokes m e in
      fine_unless (learn_fault keys m e.dance) (learning e.dance.log.acknowledged.peer n) (record {
        channel = h;
        sent = tt;
        told = none_numbered (next_event n.ledger)
            (events_of false (peer_since e.dance.log.acknowledged.peer n.dance.log));
      })
  fine_message (message.ChannelReestablish m) e h = tt

  -- ---- what is sent again

  all_named : (e : List ℕ) → e ≡ id → (us : List Update) → Names id (messages_in (all_sent (map (update_message e) us)))
  all_named e h [] = tt
  all_named e h (update.Add a ∷ us) = (ap Some h, all_named e h us)
  all_named e h (update.Fulfil f ∷ us) = (ap Some h, all_named e h us)
  all_named e h (update.Fail f ∷ us) = (ap Some h, all_named e h us)
  all_named e h (update.Malformed m ∷ us) = (ap Some h, all_named e h us)
  all_named e h (update.Fee f ∷ us) = (ap Some h, all_named e h us)

  abbrev IsNamed : List Resend → Type 0
  IsNamed rs = Names id (messages_in (owed_again rs))

  both_owed : (rs ss : List Resend) → IsNamed rs → IsNamed ss → IsNamed (rs ++ ss)
  both_owed rs ss h k = subst (λ os. Names id (messages_in os)) (sym (again-append rs ss))
      (both_sent (owed_again rs) (owed_again ss) h k)

  signature_named : (b : Bool) (m : ChannelReestablish) (d : Dancer) → d.channel ≡ id
      → IsNamed (cond b (updates_again d ++ resend.Signature (signature_again keys d) ∷ []) [])
  signature_named true m d h =
      both_sent (all_sent (map (update_message d.channel) (unacknowledged d.log)))
      (output.Send (message.CommitmentSigned (signature_again keys d)) ∷ [])
      (all_named d.channel h (unacknowledged d.log)) (ap Some h, tt)
  signature_named false m d h = tt

  revocation_named : (b : Bool) (m : ChannelReestablish) (d : Dancer) → d.channel ≡ id
      → IsNamed (cond b (resend.Revocation (revocation_again keys d) ∷ []) [])
  revocation_named true m d h = (ap Some h, tt)
  revocation_named false m d h = tt

  owed_named : (l : Later) (m : ChannelReestablish) (d : Dancer) → d.channel ≡ id → IsNamed (owed_by l keys m d)
  owed_named Signature m d h = both_owed (revocation_owed keys m d) (signature_owed keys m d)
      (revocation_named (lacks_revocation m d) m d h) (signature_named (lacks_signature m d) m d h)
  owed_named Revocation m d h = both_owed (signature_owed keys m d) (revocation_owed keys m d)
      (signature_named (lacks_signature m d) m d h) (revocation_named (lacks_revocation m d) m d h)

  ready_named : (b : Bool) (e : End) → e.dance.channel ≡ id
      → Names id (messages_in (cond b (output.Send (message.ChannelReady (ready_message keys e)) ∷ []) []))
  ready_named true e h = (ap Some h, tt)
  ready_named false e h = tt

  fine_resume : (m : ChannelReestablish) (e : End) → e.dance.channel ≡ id → IsFineRow id (resume_row keys m e)
  fine_resume m e h =
      let again = owed_again (owed_by e.dance.later keys m e.dance) in
      fine_unless (resume_fault keys m e.dance) (completed keys (resumed keys m e)) (fine_completed (resumed keys m e)
      (record {
        channel = h;
        sent = both_sent ((ready_again keys m e ++ again) ++ shutdown_again e) (fee_again keys e)
            (both_sent (ready_again keys m e ++ again) (shutdown_again e)
            (both_sent (ready_again keys m e) again
            (ready_named (is_before_the_first m e.dance && e.readiness.ready_sent) e h)
            (owed_named e.dance.later m e.dance h))
            (shutdown_named e.closing.shut e h))
            (fee_named e h e.closing.own_fee);
        told = refl;
      }))

  pub fine_at : (l : ConnectionState) (m : Message) (e : End) → e.dance.channel ≡ id
      → IsFineRow id (message_at keys l m e)
  fine_at Down m e h = tt
  fine_at Connected m e h = fine_completed_row (message_row keys m e) (fine_message m e h)
  fine_at AwaitingReestablish (message.ChannelReestablish m) e h = fine_resume m e h
  fine_at AwaitingReestablish (message.Warning m) e h = tt
  fine_at AwaitingReestablish (message.Init m) e h = tt
  fine_at AwaitingReestablish (message.Error m) e h = tt
  fine_at AwaitingReestablish (message.Ping m) e h = tt
  fine_at AwaitingReestablish (message.Pong m) e h = tt
  fine_at AwaitingReestablish (message.OpenChannel m) e h = tt
  fine_at AwaitingReestablish (message.AcceptChannel m) e h = tt
  fine_at AwaitingReestablish (message.FundingCreated m) e h = tt
  fine_at AwaitingReestablish (message.FundingSigned m) e h = tt
  fine_at AwaitingReestablish (message.ChannelReady m) e h = tt
  fine_at AwaitingReestablish (message.Shutdown m) e h = tt
  fine_at AwaitingReestablish (message.ClosingSigned m) e h = tt
  fine_at AwaitingReestablish (message.UpdateAddHtlc m) e h = tt
  fine_at AwaitingReestablish (message.UpdateFulfillHtlc m) e h = tt
  fine_at AwaitingReestablish (message.UpdateFailHtlc m) e h = tt
  fine_at AwaitingReestablish (message.UpdateFailMalformedHtlc m) e h = tt
  fine_at AwaitingReestablish (message.UpdateFee m) e h = tt
  fine_at AwaitingReestablish (message.CommitmentSigned m) e h = tt
  fine_at AwaitingReestablish (message.RevokeAndAck m) e h = tt

  -- ---- commands

  fine_proposed : (u : Update) (e : End) → e.dance.channel ≡ id → IsFineRow id (propose_row u e)
  fine_proposed u e h = fine_unless (propose_fault e u) (sending (update_message e.dance.channel u) (proposes u e))
      (record { channel = h; sent = all_named e.dance.channel h (u ∷ []); told = refl })

  fine_row : (c : Command) (e : End) → e.dance.channel ≡ id → IsFineRow id (command_row keys c e)
  fine_row (command.Confirm i) e h = fine_unless (confirm_fault e) _
      (record { channel = h; sent = (ap Some h, tt); told = refl })
  fine_row (command.Add amount hash expiry onion origin) e h = fine_proposed (update.Add (record {
    id = next_id e.dance.log.own;
    amount = amount;
    hash = hash;
    expiry = expiry;
    onion = onion;
    origin = origin;
  })) e h
  fine_row (command.Fulfil i preimage) e h = fine_proposed (update.Fulfil (record { id = i; preimage = preimage })) e h
  fine_row (command.Fail i reason) e h = fine_proposed (update.Fail (record { id = i; reason = reason })) e h
  fine_row (command.Malformed i sha code) e h =
      fine_proposed (update.Malformed (record { id = i; sha256_of_onion = sha; failure_code = code })) e h
  fine_row (command.Fee feerate) e h = fine_proposed (update.Fee (record { feerate = feerate })) e h
  fine_row command.Sign e h = fine_unless (sign_command_fault e) _
      (record { channel = h; sent = (ap Some h, tt); told = refl })
  fine_row (command.Shutdown script) e h =
      let n = shuts_down script e in
      fine_unless (shut_fault script e) (completed keys (sending (message.Shutdown (shutdown_message n)) n))
      (fine_completed (sending (message.Shutdown (shutdown_message n)) n)
      (record { channel = h; sent = (ap Some h, tt); told = refl }))
  fine_row (command.Decide event mark) e h = tt
  fine_row (command.Forget i) e h = tt
  fine_row (command.Resume event mark) e h = tt

  fine_faulted : (f g : Option Refusal) (r : Result Turn Refusal) → IsFineRow id r
      → IsFineRow id (faulted f (faulted g r))
  fine_faulted None None r h = h
  fine_faulted None (Some g) r h = tt
  fine_faulted (Some f) g r h = tt

  pub fine_command : (l : ConnectionState) (c : Command) (e : End) → e.dance.channel ≡ id
      → IsFineRow id (command_at keys l c e)
  fine_command l c e h = fine_faulted (unready_fault c e) (line_fault l) (command_row keys c e) (fine_row c e h)
