-- What an end's rows make of what goes into its record: it stays as wide as in code, where the messages that it takes
-- and the commands that it is given are.
use Rattle.std.proofs.Common.{◌≡◌, ℕ, ◌-◌, ◌<◌, ◌≤◌, ◌^◌, List, [], ◌∷◌, ◌++◌, length, take, drop, refl}
use Rattle.std.proofs.Common.{arith, length-append, Bool, true, false, cond, not, ◌||◌, ◌&&◌, ◌==◌, nat_lt}
use Rattle.std.specs.List.{cons_option}
use Rattle.std.proofs.Common.{Option, Some, None, option_map, if◌then◌else◌, Result, Ok, Err}
use Rattle.std.proofs.lemmas.Bool.{ltb-false}
use Rattle.std.proofs.lemmas.List.Sums.{count_by-le-length}
use Rattle.ln_bytes.specs.Same.{are_same}
use Rattle.ln_msgs.specs.declared.messages.message.Message.{Message}
use Rattle.ln_msgs.specs.declared.messages.message.Message.TheVariants as message
use Rattle.ln_msgs.specs.declared.messages.closing.ClosingSigned.{ClosingSigned}
use Rattle.ln_msgs.specs.declared.messages.closing.Shutdown.{Shutdown as ShutdownMessage}
use Rattle.ln_msgs.specs.declared.messages.commitments.ChannelReestablish.{ChannelReestablish}
use Rattle.ln_msgs.specs.declared.messages.commitments.RevokeAndAck.{RevokeAndAck}
use Rattle.ln_msgs.specs.declared.messages.opening.ChannelReady.{ChannelReady}
use Rattle.ln_refusals.specs.declared.refusal.Refusal.{Refusal}
use Rattle.ln_refusals.specs.declared.refusal.Refusal.TheVariants as refusal
use Rattle.ln_refusals.specs.declared.peer_rule.PeerRule.TheVariants as rule
use Rattle.ln_keys.specs.Signer.{Signer}
use Rattle.ln_log.specs.declared.update.Add.{Add}
use Rattle.ln_log.specs.declared.mark.Settlement.{Settlement}
use Rattle.ln_log.specs.declared.update.Fail.{Fail}
use Rattle.ln_log.specs.declared.update.Update.{Update as Change}
use Rattle.ln_log.specs.declared.update.Update.TheVariants as update
use Rattle.ln_log.specs.Limits.{first_fault, most_updates, is_at_update_limit, update_fault as rule_fault}
use Rattle.ln_log.specs.Log.{Log, between, unacknowledged, taken_fault, peer_limit, removal_fault, length_fault}
use Rattle.ln_log.specs.Log.{proposal_fault}
use Rattle.ln_log.specs.Updates.{is_add, is_some, next_id, removed, add_with}
use Rattle.ln_log.proofs.Grows.{may_propose, may_take}
use Rattle.ln_dance.specs.declared.dance.Later.{Later}
use Rattle.ln_dance.specs.declared.dance.Later.TheVariants.{Signature, Revocation}
use Rattle.ln_dance.specs.declared.resume.Resend.{Resend}
use Rattle.ln_dance.specs.declared.resume.Resend.TheVariants as resend
use Rattle.ln_dance.specs.Dance.{signed_message, learn_fault, with_next_point}
use Rattle.ln_dance.specs.Messages.{update_message, add_of, fulfil_of, fail_of, malformed_of, fee_of}
use Rattle.ln_dance.specs.Resume.{resume_fault, lacks_signature, lacks_revocation, updates_again, signature_again}
use Rattle.ln_dance.specs.Resume.{revocation_again, signature_owed, revocation_owed, owed_by, owed, is_before_the_first}
use Rattle.ln_close.specs.declared.closing.FeeAnswer.{FeeAnswer}
use Rattle.ln_close.specs.declared.closing.FeeAnswer.TheVariants as answer
use Rattle.ln_close.specs.declared.closing.Closing.{Closing}
use Rattle.ln_close.specs.Closing.{may_start, started, after_shut, answer_to}
use Rattle.ln_channel.specs.declared.command.Command.{Command}
use Rattle.ln_channel.specs.declared.command.Command.TheVariants as command
use Rattle.ln_channel.specs.declared.output.Output.TheVariants as output
use Rattle.ln_channel.specs.Opening.{unless}
use Rattle.ln_channel.specs.Ledger.{origin_of, settlement_from, settlement_by, settlements}
use Rattle.ln_channel.specs.End.{End, Turn, quiet, sending, completed, settled, answers_shutdown, owes_shutdown}
use Rattle.ln_channel.specs.End.{due_sent}
use Rattle.ln_channel.specs.End.{due_fee, fee_sent, shutdown_message, shutdown_sent, has_begun, is_closed}
use Rattle.ln_channel.specs.End.{all_acknowledged}
use Rattle.ln_channel.specs.Taking.{takes, update_fault, update_row, early_fault, signature_fault, accepting, accepts}
use Rattle.ln_channel.specs.Taking.{learning, revokes, shutdown_at, answered}
use Rattle.ln_channel.specs.Taking.{range_in, message_row, completed_row}
use Rattle.ln_channel.specs.Commands.{ready_message, confirmed, confirm_fault, own_fault, propose_fault, proposes}
use Rattle.ln_channel.specs.Commands.{propose_row, sign_command_fault, signs_next, script_fault, shut_fault, shuts_down}
use Rattle.ln_channel.specs.Commands.{command_row}
use Rattle.ln_channel.specs.Resume.{ready_again, one_again, owed_again, shutdown_again, fee_again, sent_again, resumed}
use Rattle.ln_channel.specs.Resume.{resume_row}
use Rattle.ln_channel_laws.specs.Widths.{IsOrigin, IsAdd, IsUpdate, IsCommand}
use Rattle.ln_channel_laws.specs.Ends.{met_again}
use Rattle.ln_channel_laws.proofs.Tests.{first_none, no_fault, otherwise, where_true}
use Rattle.ln_channel_laws.proofs.Records.RecordFits.{Where, longest_script, IsSettlement}
use Rattle.ln_channel_laws.proofs.All.{All, all-append, all-take, all-drop, all-when}
use Rattle.ln_channel_laws.proofs.Records.RecordContents.{CarriesWide, SendsWide, update_wide}
use Rattle.ln_channel_laws.proofs.Records.RecordContents.{updates_wide, Origin, Fits}

-- ---- what became of forwarded HTLCs

origin_by : (b : Bool) (a : Add) (rest : Option Add) → IsAdd a → IsOrigin (origin_of rest)
    → IsOrigin (origin_of (cond b (Some a) rest))
origin_by true a rest h k = h.origin
origin_by false a rest h k = k

origin_wide : (id : ℕ) (own : List Change) → All IsUpdate own → IsOrigin (origin_of (add_with id own))
origin_wide id [] h = tt
origin_wide id (update.Add a ∷ us) h = origin_by (a.id == id) a (add_with id us) h.0 (origin_wide id us h.1)
origin_wide id (update.Fulfil f ∷ us) h = origin_wide id us h.1
origin_wide id (update.Fail f ∷ us) h = origin_wide id us h.1
origin_wide id (update.Malformed m ∷ us) h = origin_wide id us h.1
origin_wide id (update.Fee f ∷ us) h = origin_wide id us h.1

settlement_wide : (id : ℕ) (u : Change) (from : Option (List ℕ × ℕ)) → id < 2 ^ 64 → IsUpdate u
    → is_some (removed u) ≡ true → IsOrigin from → Where IsSettlement (settlement_from id u from)
settlement_wide id u None small wide removes h = tt
settlement_wide id u (Some from) small wide removes h =
    record { id = small; origin = h; update = wide; removal = removes }

settled_by : (own : List Change) (u : Change) → All IsUpdate own → IsUpdate u
    → Where IsSettlement (settlement_by own u)
settled_by own (update.Add a) h wide = tt
settled_by own (update.Fulfil f) h wide =
    settlement_wide f.id (update.Fulfil f) _ wide.id wide refl (origin_wide f.id own h)
settled_by own (update.Fail f) h wide =
    settlement_wide f.id (update.Fail f) _ wide.id wide refl (origin_wide f.id own h)
settled_by own (update.Malformed m) h wide =
    settlement_wide m.id (update.Malformed m) _ wide.id wide refl (origin_wide m.id own h)
settled_by own (update.Fee f) h wide = tt

one_more : (s : Option Settlement) (ss : List Settlement) → Where IsSettlement s → All IsSettlement ss
    → All IsSettlement (cons_option s ss)
one_more None ss h k = k
one_more (Some s) ss h k = (h, k)

settlements_wide : (own us : List Change) → All IsUpdate own → All IsUpdate us → All IsSettlement (settlements own us)
settlements_wide own [] h wide = tt
settlements_wide own (u ∷ us) h wide =
    one_more (settlement_by own u) (settlements own us) (settled_by own u h wide.0)
    (settlements_wide own us h wide.1)

resulted_wide : (e : End) (m : RevokeAndAck) → All IsUpdate e.dance.log.own → All IsUpdate e.dance.log.received
    → All IsSettlement e.ledger.results
    → All IsSettlement (learning e.dance.log.acknowledged.peer (revokes m e)).end.ledger.results
resulted_wide e m own received results =
    let l = e.dance.log in
    let c = l.acknowledged.peer in
    let us = between c l.signed.peer l.received in
    all-append IsSettlement e.ledger.results (settlements l.own us) results
    (settlements_wide l.own us own
    (all-take IsUpdate (l.signed.peer - c) (drop c l.received) (all-drop IsUpdate c l.received received)))

-- the id that is due
pub next_small : (us : List Change) → length us < most_updates → next_id us < 2 ^ 64
next_small us few = omega (arith, few, count_by-le-length is_add us)

module _ (k : Signer) (o : Origin) where
  abbrev pub TurnFits : Turn → Type 0
  TurnFits t = Fits o t.end × All SendsWide t.handed.sent

  abbrev pub AnswerFits : Result Turn Refusal → Type 0
  AnswerFits (Ok t) = TurnFits t
  AnswerFits (Err r) = Unit {0}

  unless_fits : (f : Option Refusal) (t : Turn) → (f ≡ None → TurnFits t) → AnswerFits (unless f t)
  unless_fits None t h = h refl
  unless_fits (Some r) t h = tt

  when_fits : (b : Bool) (p q : End) → Fits o p → Fits o q → Fits o (cond b p q)
  when_fits true p q h g = h
  when_fits false p q h g = g

  -- ---- the end of a turn

  closing_fits : (b : Bool) (c d : Closing) (e : End) → Fits o (record e { closing = c })
      → Fits o (record e { closing = d }) → Fits o (record e { closing = cond b c d })
  closing_fits true c d e h g = h
  closing_fits false c d e h g = g

  answers_fits : (e : End) → Fits o e → Fits o (answers_shutdown e)
  answers_fits e h = when_fits (owes_shutdown e) (record e { closing = after_shut e.closing }) e h h

  begins_fits : (e : End) → Fits o e → Fits o (record e { closing = started e.closing })
  begins_fits e h = closing_fits (may_start e.closing) (record e.closing { own_fee = Some e.closing.fees.first })
      e.closing e h h

  settled_fits : (e : End) → Fits o e → Fits o (settled e)
  settled_fits e h =
      let n = answers_shutdown e in
      let g = answers_fits e h in
      when_fits (has_begun n) (record n { closing = started n.closing }) n (begins_fits n g) g

  fee_wide : (e : End) (fee : Option ℕ) → All SendsWide (fee_sent k e fee)
  fee_wide e None = tt
  fee_wide e (Some fee) = (tt, tt)

  due_wide : (e : End) → Fits o e → All SendsWide (due_sent k e)
  due_wide e h =
      let n = answers_shutdown e in
      let shutdown = output.Send (message.Shutdown (shutdown_message e)) in
      all-append SendsWide (shutdown_sent e) (fee_sent k n (due_fee n))
      (all-when SendsWide (owes_shutdown e) (shutdown ∷ []) [] (h.script, tt) tt) (fee_wide n (due_fee n))

  completed_fits : (t : Turn) → TurnFits t → TurnFits (completed k t)
  completed_fits t h = (
    settled_fits t.end h.0,
    all-append SendsWide t.handed.sent (due_sent k t.end) h.1 (due_wide t.end h.0),
  )

  pub completes : (r : Result Turn Refusal) → AnswerFits r → AnswerFits (completed_row k r)
  completes (Ok t) h = completed_fits t h
  completes (Err r) h = tt

  -- ---- a message is taken

  takes_fits : (u : Change) (e : End) → IsUpdate u → Fits o e → AnswerFits (update_row u e)
  takes_fits u e wide h = unless_fits (update_fault e u) (quiet (takes u e)) (λ none. (
    record {
      origin = h.origin;
      own = h.own;
      own_room = h.own_room;
      received = all-append IsUpdate e.dance.log.received (u ∷ []) h.received (wide, tt);
      received_room =
          let few = (may_take e.dance.log u (first_none (early_fault e u) (taken_fault e.dance.log u) none).1).few in
          omega (arith, few, length-append e.dance.log.received (u ∷ []));
      script = h.script;
      peer_script = h.peer_script;
      decisions = h.decisions;
      results = h.results;
    },
    tt,
  ))

  ready_fits : (m : ChannelReady) (e : End) → Fits o e → AnswerFits (message_row k (message.ChannelReady m) e)
  ready_fits m e h = (
    when_fits (e.readiness.ready_received || is_closed e) e (record e {
      readiness = record {
        short_id = e.readiness.short_id;
        ready_sent = e.readiness.ready_sent;
        ready_received = true;
      };
      dance = with_next_point m.second_point e.dance;
    }) h h,
    tt,
  )

  shutdown_fits : (known : Option (List ℕ)) (m : ShutdownMessage) (e : End) → length m.script ≤ longest_script
      → Fits o e → AnswerFits (shutdown_at known m e)
  shutdown_fits None m e short h = (
    record {
      origin = h.origin;
      own = h.own;
      own_room = h.own_room;
      received = h.received;
      received_room = h.received_room;
      script = h.script;
      peer_script = short;
      decisions = h.decisions;
      results = h.results;
    },
    tt,
  )
  shutdown_fits (Some script) m e short h = by (are_same script m.script)
    where
      by : (b : Bool) → AnswerFits (cond b (Ok (quiet e)) (Err refusal.OutOfPlace))
      by true = (h, tt)
      by false = tt

  answered_fits : (m : ClosingSigned) (e : End) (r : Result FeeAnswer Refusal) → Fits o e
      → AnswerFits (answered k m e r)
  answered_fits m e (Ok answer.Nothing) h = (h, tt)
  answered_fits m e (Ok (answer.Close fee)) h = (h, tt)
  answered_fits m e (Ok (answer.EchoAndClose fee)) h = (h, (tt, tt))
  answered_fits m e (Ok (answer.Propose fee)) h = (h, (tt, tt))
  answered_fits m e (Err r) h = tt

  fee_fits : (m : ClosingSigned) (e : End) (begun right : Bool) (r : Result FeeAnswer Refusal) → Fits o e
      → AnswerFits (cond (not begun) (Err refusal.OutOfPlace)
      (cond right (answered k m e r) (Err refusal.SignatureWrong)))
  fee_fits m e true true r h = answered_fits m e r h
  fee_fits m e true false r h = tt
  fee_fits m e false right r h = tt

  pub row_fits : (m : Message) (e : End) → CarriesWide m → Fits o e → AnswerFits (message_row k m e)
  row_fits (message.ChannelReady m) e wide h = ready_fits m e h
  row_fits (message.UpdateAddHtlc m) e wide h = takes_fits (update.Add (add_of m)) e wide h
  row_fits (message.UpdateFulfillHtlc m) e wide h = takes_fits (update.Fulfil (fulfil_of m)) e wide h
  row_fits (message.UpdateFailHtlc m) e wide h = takes_fits (update.Fail (fail_of m)) e wide h
  row_fits (message.UpdateFailMalformedHtlc m) e wide h = takes_fits (update.Malformed (malformed_of m)) e wide h
  row_fits (message.UpdateFee m) e wide h = takes_fits (update.Fee (fee_of m)) e wide h
  row_fits (message.CommitmentSigned m) e wide h =
      unless_fits (signature_fault k m e) (accepting k e.dance.log.current.own e (accepts e)) (λ none. (h, (tt, tt)))
  row_fits (message.RevokeAndAck m) e wide h =
      unless_fits (learn_fault k m e.dance) (learning e.dance.log.acknowledged.peer (revokes m e)) (λ none. (
        record {
          origin = h.origin;
          own = h.own;
          own_room = h.own_room;
          received = h.received;
          received_room = h.received_room;
          script = h.script;
          peer_script = h.peer_script;
          decisions = h.decisions;
          results = resulted_wide e m h.own h.received h.results;
        },
        tt,
      ))
  row_fits (message.Shutdown m) e wide h = shutdown_fits e.terms.peer_script m e wide h
  row_fits (message.ClosingSigned m) e wide h =
      fee_fits m e (has_begun e) (k.accepts_close m.fee_satoshis m.signature)
      (answer_to e.closing m.fee_satoshis (range_in m)) h
  row_fits (message.Warning m) e wide h = tt
  row_fits (message.Init m) e wide h = tt
  row_fits (message.Error m) e wide h = tt
  row_fits (message.Ping m) e wide h = tt
  row_fits (message.Pong m) e wide h = tt
  row_fits (message.OpenChannel m) e wide h = tt
  row_fits (message.AcceptChannel m) e wide h = tt
  row_fits (message.FundingCreated m) e wide h = tt
  row_fits (message.FundingSigned m) e wide h = tt
  row_fits (message.ChannelReestablish m) e wide h = tt

  -- ---- what is sent again

  abbrev ResendsWide : Resend → Type 0
  ResendsWide r = All SendsWide (one_again r)

  owed_wide : (rs : List Resend) → All ResendsWide rs → All SendsWide (owed_again rs)
  owed_wide [] h = tt
  owed_wide (r ∷ rs) h = all-append SendsWide (one_again r) (owed_again rs) h.0 (owed_wide rs h.1)

  signature_wide : (m : ChannelReestablish) (e : End) → Fits o e → All ResendsWide (signature_owed k m e.dance)
  signature_wide m e h =
      let l = e.dance.log in
      all-when ResendsWide (lacks_signature m e.dance)
      (updates_again e.dance ++ resend.Signature (signature_again k e.dance) ∷ []) [] (
        updates_wide e.dance.channel (unacknowledged l)
            (all-drop IsUpdate l.acknowledged.own (take l.signed.own l.own)
            (all-take IsUpdate l.signed.own l.own h.own)),
        ((tt, tt), tt),
      ) tt

  revocation_wide : (m : ChannelReestablish) (e : End) → All ResendsWide (revocation_owed k m e.dance)
  revocation_wide m e = all-when ResendsWide (lacks_revocation m e.dance)
      (resend.Revocation (revocation_again k e.dance) ∷ []) [] ((tt, tt), tt) tt

  owed_by_wide : (later : Later) (m : ChannelReestablish) (e : End) → Fits o e
      → All ResendsWide (owed_by later k m e.dance)
  owed_by_wide Signature m e h =
      all-append ResendsWide (revocation_owed k m e.dance) (signature_owed k m e.dance)
      (revocation_wide m e) (signature_wide m e h)
  owed_by_wide Revocation m e h =
      all-append ResendsWide (signature_owed k m e.dance) (revocation_owed k m e.dance)
      (signature_wide m e h) (revocation_wide m e)

  again_wide : (m : ChannelReestablish) (e : End) → Fits o e → All SendsWide (sent_again k m e)
  again_wide m e h =
      let ready = ready_again k m e in
      let lacking = owed_again (owed k m e.dance) in
      let shutdown = shutdown_again e in
      all-append SendsWide ((ready ++ lacking) ++ shutdown) (fee_again k e)
      (all-append SendsWide (ready ++ lacking) shutdown
      (all-append SendsWide ready lacking
      (all-when SendsWide (is_before_the_first m e.dance && e.readiness.ready_sent)
      (output.Send (message.ChannelReady (ready_message k e)) ∷ []) [] (tt, tt) tt)
      (owed_wide (owed k m e.dance) (owed_by_wide e.dance.later m e h)))
      (all-when SendsWide e.closing.shut (output.Send (message.Shutdown (shutdown_message e)) ∷ []) []
      (h.script, tt) tt))
      (fee_wide e e.closing.own_fee)

  resumed_fits : (m : ChannelReestablish) (e : End) → Fits o e → AnswerFits (resume_row k m e)
  resumed_fits m e h = unless_fits (resume_fault k m e.dance) (completed k (resumed k m e))
      (λ none. completed_fits (resumed k m e) (h, again_wide m e h))

  -- ---- a command

  -- a reason that its message has room for
  short_reason : (l : Log) (f : Fail) → proposal_fault l (update.Fail f) ≡ None → length f.reason < 2 ^ 16
  short_reason l f none =
      let u = update.Fail f in
      let numbers = if is_at_update_limit l.own then Some refusal.NumbersSpent else None in
      let removal = removal_fault l (removed u) in
      let limits = option_map peer_limit (rule_fault l.opening l.role l.own (take l.current.peer l.received)
      (take l.acknowledged.peer l.received) u) in
      let at_removal = (first_none numbers (first_fault removal (first_fault limits (length_fault u))) none).1 in
      let at_limits = (first_none removal (first_fault limits (length_fault u)) at_removal).1 in
      let at_length = (first_none limits (length_fault u) at_limits).1 in
      let most = ltb-false 65491 (length f.reason)
      (no_fault (nat_lt 65491 (length f.reason)) (refusal.PeerLimit rule.TooLong) at_length) in
      omega (arith, most)

  proposes_fits : (u : Change) (e : End) → (proposal_fault e.dance.log u ≡ None → IsUpdate u) → Fits o e
      → AnswerFits (propose_row u e)
  proposes_fits u e wide h =
      unless_fits (propose_fault e u) (sending (update_message e.dance.channel u) (proposes u e)) (λ none.
      let may = (first_none (own_fault e u) (proposal_fault e.dance.log u) none).1 in
      let few = (may_propose e.dance.log u may).few in (
        record {
          origin = h.origin;
          own = all-append IsUpdate e.dance.log.own (u ∷ []) h.own (wide may, tt);
          own_room = omega (arith, few, length-append e.dance.log.own (u ∷ []));
          received = h.received;
          received_room = h.received_room;
          script = h.script;
          peer_script = h.peer_script;
          decisions = h.decisions;
          results = h.results;
        },
        (update_wide e.dance.channel u (wide may), tt),
      ))

  short : (script : List ℕ) → script_fault script ≡ None → length script ≤ longest_script
  short script none = ltb-false longest_script (length script)
      (no_fault (nat_lt longest_script (length script)) (refusal.PeerLimit rule.TooLong) none)

  shuts_fits : (script : List ℕ) (e : End) → Fits o e → AnswerFits (command_row k (command.Shutdown script) e)
  shuts_fits script e h =
      let n = shuts_down script e in
      let t = sending (message.Shutdown (shutdown_message n)) n in
      unless_fits (shut_fault script e) (completed k t) (λ none.
      let unshut = otherwise e.closing.shut refusal.Shut _ none in
      let may = where_true (all_acknowledged e.dance.log) (script_fault script) refusal.UpdatesPending unshut.1 in
      let le = short script may.1 in
      completed_fits t (
        record {
          origin = h.origin;
          own = h.own;
          own_room = h.own_room;
          received = h.received;
          received_room = h.received_room;
          script = le;
          peer_script = h.peer_script;
          decisions = h.decisions;
          results = h.results;
        },
        (le, tt),
      ))

  pub command_fits : (c : Command) (e : End) → IsCommand c → Fits o e → AnswerFits (command_row k c e)
  command_fits (command.Confirm id) e wide h =
      unless_fits (confirm_fault e) (sending (message.ChannelReady (ready_message k e)) (confirmed id e))
      (λ none. (h, (tt, tt)))
  command_fits (command.Add amount hash expiry onion origin) e wide h =
      let add : Add = record {
        id = next_id e.dance.log.own;
        amount = amount;
        hash = hash;
        expiry = expiry;
        onion = onion;
        origin = origin;
      } in
      proposes_fits (update.Add add) e (λ may. record {
        id = next_small e.dance.log.own (may_propose e.dance.log (update.Add add) may).few;
        amount = wide.amount_fits;
        hash = wide.hash_fits;
        expiry = wide.expiry_fits;
        onion = wide.onion_fits;
        origin = wide.origin_fits;
      }) h
  command_fits (command.Fulfil id preimage) e wide h =
      proposes_fits (update.Fulfil (record { id = id; preimage = preimage })) e (λ may. wide) h
  command_fits (command.Fail id reason) e wide h =
      let fail : Fail = record { id = id; reason = reason } in
      proposes_fits (update.Fail fail) e (λ may. record { id = wide; reason = short_reason e.dance.log fail may }) h
  command_fits (command.Malformed id sha code) e wide h =
      proposes_fits (update.Malformed (record { id = id; sha256_of_onion = sha; failure_code = code })) e
      (λ may. wide) h
  command_fits (command.Fee feerate) e wide h =
      proposes_fits (update.Fee (record { feerate = feerate })) e (λ may. wide) h
  command_fits command.Sign e wide h = unless_fits (sign_command_fault e) (record {
    end = signs_next e;
    handed = record {
      sent = output.Send (message.CommitmentSigned (signed_message k e.dance)) ∷ [];
      told = output.Signed (length e.dance.log.own) ∷ [];
    };
  }) (λ none. (h, (tt, tt)))
  command_fits (command.Shutdown script) e wide h = shuts_fits script e h
  command_fits (command.Decide event mark) e wide h = tt
  command_fits (command.Forget id) e wide h = tt
  command_fits (command.Resume event mark) e wide h = tt

  -- ---- by the connection

  pub meets_fits : (m : Message) (e : End) → Fits o e → AnswerFits (met_again k m e)
  meets_fits (message.ChannelReestablish m) e h = resumed_fits m e h
  meets_fits (message.Warning m) e h = tt
  meets_fits (message.Init m) e h = tt
  meets_fits (message.Error m) e h = tt
  meets_fits (message.Ping m) e h = tt
  meets_fits (message.Pong m) e h = tt
  meets_fits (message.OpenChannel m) e h = tt
  meets_fits (message.AcceptChannel m) e h = tt
  meets_fits (message.FundingCreated m) e h = tt
  meets_fits (message.FundingSigned m) e h = tt
  meets_fits (message.ChannelReady m) e h = tt
  meets_fits (message.Shutdown m) e h = tt
  meets_fits (message.ClosingSigned m) e h = tt
  meets_fits (message.UpdateAddHtlc m) e h = tt
  meets_fits (message.UpdateFulfillHtlc m) e h = tt
  meets_fits (message.UpdateFailHtlc m) e h = tt
  meets_fits (message.CommitmentSigned m) e h = tt
  meets_fits (message.RevokeAndAck m) e h = tt
  meets_fits (message.UpdateFee m) e h = tt
  meets_fits (message.UpdateFailMalformedHtlc m) e h = tt
