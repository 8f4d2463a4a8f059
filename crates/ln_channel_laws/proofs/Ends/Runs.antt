-- Over every list of steps.
use Rattle.std.proofs.Common.{Result, Err, inr}
use Rattle.std.proofs.Common.{◌≡◌, ℕ, List, [], ◌∷◌, ◌++◌, length, refl, sym, ap, ◌∙◌, subst, append_assoc, append-nil}
use Rattle.std.proofs.Common.{Bool, true, false, cond, Option, Some, None, Ok}
use Rattle.std.proofs.lemmas.Bool.{eq-eqb}
use Rattle.ln_msgs.specs.declared.messages.message.Message.{Message}
use Rattle.ln_msgs.specs.declared.messages.message.Message.TheVariants as message
use Rattle.ln_refusals.specs.declared.refusal.Refusal.{Refusal}
use Rattle.ln_refusals.specs.declared.refusal.Refusal.TheVariants as refusal
use Rattle.ln_keys.specs.declared.role.Role.TheVariants.{Funder, Fundee}
use Rattle.ln_keys.specs.Signer.{Signer}
use Rattle.ln_log.specs.declared.update.Update.{Update as Change}
use Rattle.ln_log.specs.declared.update.Update.TheVariants as update
use Rattle.ln_log.specs.Updates.{as_sent, next_id}
use Rattle.ln_log.specs.Limits.{id_fault}
use Rattle.ln_dance.specs.Dance.{signed_message}
use Rattle.ln_dance.specs.Messages.{update_message}
use Rattle.ln_close.specs.Closing.{may_start}
use Rattle.ln_channel.specs.declared.command.Command.{Command}
use Rattle.ln_channel.specs.declared.command.Command.TheVariants as command
use Rattle.ln_channel.specs.declared.output.Output.TheVariants as output
use Rattle.ln_channel.specs.Opening.{unless}
use Rattle.ln_channel.specs.End.{End, Turn, has_begun, sending, completed, settled, answers_shutdown}
use Rattle.ln_channel.specs.End.{owes_shutdown, due_fee, fee_sent, due_sent, end_dropped, shutdown_sent}
use Rattle.ln_channel.specs.End.{shutdown_message}
use Rattle.ln_channel.specs.Taking.{completed_row}
use Rattle.ln_channel.specs.Commands.{ready_message, confirmed, confirm_fault, propose_fault, proposes}
use Rattle.ln_channel.specs.Commands.{sign_command_fault}
use Rattle.ln_channel.specs.Commands.{signs_next, shut_fault, shuts_down, command_row, unready_fault}
use Rattle.ln_msgs.specs.declared.messages.commitments.ChannelReestablish.{ChannelReestablish}
use Rattle.ln_dance.specs.Resume.{reestablish_message}
use Rattle.ln_channel.specs.declared.machine.ConnectionState.{ConnectionState}
use Rattle.ln_channel.specs.declared.machine.ConnectionState.TheVariants.{Down, AwaitingReestablish, Connected}
use Rattle.ln_channel.specs.State.{is_down}
use Rattle.ln_channel.specs.Step.{faulted, line_fault}
use Rattle.ln_channel.specs.Resume.{resumed}
use Rattle.ln_channel_laws.specs.Ends.{Ends, turned, message_at, messages_in, arrive, becomes, answers, delivers, Act}
use Rattle.ln_channel_laws.specs.Ends.{Deliver}
use Rattle.ln_channel_laws.specs.Ends.{notes, still_come, Give, Note, Lose, Cut, acts, connects, Step, By, Connect}
use Rattle.ln_channel_laws.specs.Ends.{happens}
use Rattle.ln_channel_laws.specs.Ends.{Save, run}
use Rattle.ln_keys.specs.Partners.{ArePartners}
use Rattle.std.proofs.Common.{not}
use Rattle.std.specs.Prelude.{option_map}
use Rattle.ln_msgs.specs.declared.messages.closing.ClosingSigned.{ClosingSigned}
use Rattle.ln_close.specs.declared.closing.FeeAnswer.{FeeAnswer}
use Rattle.ln_close.specs.declared.closing.FeeAnswer.TheVariants as answer
use Rattle.ln_close.specs.Closing.{answer_to}
use Rattle.ln_channel.specs.End.{closing_message}
use Rattle.ln_channel.specs.Taking.{answering, answered, answered_end, range_in}
use Rattle.ln_channel_laws.proofs.Closing.NothingMoves.{HasBegun}
use Rattle.ln_channel_laws.proofs.Readiness.ReadinessOverActs.{closing_sent}
use Rattle.ln_channel_laws.proofs.Fees.FairAnswers.{AnswersWithin, IsFair, fair}
use Rattle.ln_channel_laws.proofs.Flight.Images.{side_of}
use Rattle.ln_channel_laws.proofs.Ends.Acts.{Said, said_more, dealt_so, passed_close}
use Rattle.ln_channel_laws.proofs.Ends.Turns.{is_close, begun_so, begins_by}
use Rattle.ln_channel_laws.proofs.Flight.Sides.{Close, closes_of, has_bid}
use Rattle.ln_channel_laws.proofs.Flight.Sides.{Notice, Update, Sign, Ready, Shutdown, Again, posts}
use Rattle.ln_channel_laws.proofs.Flight.Images.{message_of, messages_of, messages-append}
use Rattle.ln_channel_laws.proofs.Ends.Acts.{sent_as, Hold, flip, numbered, rebased, confirms, proposed_so, signed_so}
use Rattle.ln_channel_laws.proofs.Ends.Acts.{shuts}
use Rattle.ln_channel_laws.proofs.Flight.SentAgain.{messages_in-append}
use Rattle.ln_channel_laws.proofs.Ends.Breaks.{again_row, lacked, again_sends, took_again, lost_so, joined_so}
use Rattle.ln_channel_laws.proofs.Ends.Cuts.{messages_left, cut_so}
use Rattle.ln_channel_laws.proofs.Ends.Turns.{turn_of, sent_by, sends_so, row, took, shutdown_notice, owes_by, by_front}

-- ---- two ends

-- what is in flight is what these notices say
pub record Sound (a b : Signer) (p : Ends) : Type 0 where
  pub channel : List ℕ
  pub to_x : List Notice
  pub to_y : List Notice
  pub in_x : p.to_x ≡ messages_of channel to_x
  pub in_y : p.to_y ≡ messages_of channel to_y
  pub hold : Hold a b channel p.x_line p.y_line p.x p.y to_x to_y p.said_x p.said_y

pub flipped : (a b : Signer) (p : Ends) → Sound a b p → Sound b a (turned p)
flipped a b p h = record {
  channel = h.channel;
  to_x = h.to_y;
  to_y = h.to_x;
  in_x = h.in_y;
  in_y = h.in_x;
  hold = flip a b h.channel p.x_line p.y_line p.x p.y h.to_x h.to_y p.said_x p.said_y h.hold;
}

pub flipped_keys : (a b : Signer) → ArePartners a b → ArePartners b a
flipped_keys a b k = record { there = k.back; back = k.there }

posts_twice : (l : ConnectionState) (ms ns os : List Notice) → posts l (ms ++ ns) os ≡ posts l ns (posts l ms os)
posts_twice Down ms ns os = refl
posts_twice AwaitingReestablish ms ns os = sym (append_assoc os ms ns)
posts_twice Connected ms ns os = sym (append_assoc os ms ns)

arrive_so : (l : ConnectionState) (channel : List ℕ) (sent ms : List Message) (new old : List Notice)
    → sent ≡ messages_of channel new → ms ≡ messages_of channel old
    → arrive l sent ms ≡ messages_of channel (posts l new old)
arrive_so Down channel sent ms new old e f = f
arrive_so AwaitingReestablish channel sent ms new old e f = ap (λ os. os ++ sent) f
    ∙ ap (λ os. messages_of channel old ++ os) e
    ∙ sym (messages-append channel old new)
arrive_so Connected channel sent ms new old e f = ap (λ os. os ++ sent) f ∙ ap (λ os. messages_of channel old ++ os) e
    ∙ sym (messages-append channel old new)

module _ (a b : Signer) (keys : ArePartners a b) where
  -- x has made this turn
  become : (t : Turn) (p : Ends) (channel : List ℕ) (rest old new : List Notice) → p.to_x ≡ messages_of channel rest
      → p.to_y ≡ messages_of channel old → messages_in t.handed.sent ≡ messages_of channel new
      → Hold a b channel Connected p.y_line t.end p.y rest (posts p.y_line new old) (p.said_x
      ++ messages_in t.handed.sent)
      p.said_y → Sound a b (becomes t p)
  become t p channel rest old new ix iy is h = record {
    channel = channel;
    to_x = rest;
    to_y = posts p.y_line new old;
    in_x = ix;
    in_y = arrive_so p.y_line channel (messages_in t.handed.sent) p.to_y new old is iy;
    hold = h;
  }

  -- and what is due at its end
  finish : (t : Turn) (p : Ends) (channel : List ℕ) (rest old new : List Notice) → p.to_x ≡ messages_of channel rest
      → p.to_y ≡ messages_of channel old → messages_in t.handed.sent ≡ messages_of channel new
      → Hold a b channel Connected p.y_line t.end p.y rest (posts p.y_line new old) (p.said_x
      ++ messages_in t.handed.sent)
      p.said_y → Sound a b (becomes (completed a t) p)
  finish t p channel rest old new ix iy is h =
      let e = t.end in
      let l = p.y_line in
      let o = owes_shutdown e in
      let n = answers_shutdown e in
      let m = shutdown_message e in
      let fee = due_fee n in
      let sent = messages_in t.handed.sent in
      let said = p.said_x ++ sent in
      let shutdown = messages_in (shutdown_sent e) in
      let sd = shutdown_notice a b keys channel l e p.y said p.said_y o in
      let owed : Hold a b channel Connected l n p.y rest (posts l sd (posts l new old)) (said ++ shutdown) p.said_y =
      owes_by a b keys channel l e p.y said p.said_y o refl rest (posts l new old) h in
      let fe = closes_of (option_map (closing_message a n) fee) in
      let begun : Hold a b channel Connected l (settled e) p.y rest (posts l fe (posts l sd (posts l new old)))
      ((said ++ shutdown) ++ messages_in (fee_sent a n fee)) p.said_y =
      begins_by a b keys channel l n p.y (said ++ shutdown) p.said_y (has_begun n) (may_start n.closing) refl refl rest
      (posts l sd (posts l new old)) owed in
      let fees = messages_in (fee_sent a n fee) in
      let all_is : messages_in (t.handed.sent ++ due_sent a e) ≡ sent ++ (shutdown ++ fees) =
      messages_in-append t.handed.sent (due_sent a e) ∙ ap (λ ms. sent ++ ms)
      (messages_in-append (shutdown_sent e) (fee_sent a n fee)) in
      let said_is : (said ++ shutdown) ++ fees ≡ p.said_x ++ messages_in (t.handed.sent ++ due_sent a e) =
      append_assoc said shutdown fees ∙ append_assoc p.said_x sent (shutdown ++ fees)
      ∙ ap (λ ms. p.said_x ++ ms) (sym all_is) in
      let all_so : messages_in (t.handed.sent ++ due_sent a e) ≡ messages_of channel (new ++ (sd ++ fe)) =
      all_is ∙ ap (λ ms. ms ++ (shutdown ++ fees)) is
      ∙ ap (λ ms. messages_of channel new ++ (ms ++ fees)) (extra_so o e channel l p.y said p.said_y)
      ∙ ap (λ ms. messages_of channel new ++ (messages_of channel sd ++ ms)) (fee_so n channel fee)
      ∙ ap (λ ms. messages_of channel new ++ ms) (sym (messages-append channel sd fe))
      ∙ sym (messages-append channel new (sd ++ fe)) in
      record {
        channel = channel;
        to_x = rest;
        to_y = posts l fe (posts l sd (posts l new old));
        in_x = ix;
        in_y = arrive_so l channel (messages_in (t.handed.sent ++ due_sent a e)) p.to_y (new ++ (sd ++ fe)) old all_so
            iy ∙ ap (messages_of channel) (posts_twice l new (sd ++ fe) old ∙ posts_twice l sd fe (posts l new old));
        hold = subst (λ ms. Hold a b channel Connected l (settled e) p.y rest (posts l fe (posts l sd
            (posts l new old))) ms
            p.said_y) said_is begun;
      }
    where
      extra_so : (o : Bool) (e : End) (channel : List ℕ) (l : ConnectionState) (y : End) (sx sy : List Message)
          → messages_in (cond o (output.Send (message.Shutdown (shutdown_message e)) ∷ []) [])
          ≡ messages_of channel (shutdown_notice a b keys channel l e y sx sy o)
      extra_so true e channel l y sx sy = refl
      extra_so false e channel l y sx sy = refl

      fee_so : (e : End) (channel : List ℕ) (f : Option ℕ)
          → messages_in (fee_sent a e f) ≡ messages_of channel (closes_of (option_map (closing_message a e) f))
      fee_so e channel None = refl
      fee_so e channel (Some f) = refl

  -- ---- a message is taken

  taking : (p : Ends) (m : Message) (t : Turn) (channel : List ℕ) (ns to_y new : List Notice)
      → message_at a p.x_line m p.x ≡ Ok (completed a t) → p.to_y ≡ messages_of channel to_y
      → messages_in t.handed.sent ≡ messages_of channel new
      → Hold a b channel Connected p.y_line t.end p.y ns (posts p.y_line new to_y)
      (p.said_x ++ messages_in t.handed.sent) p.said_y
      → Sound a b (answers (message_at a p.x_line m p.x) (record p { to_x = messages_of channel ns }))
  taking p m t channel ns to_y new is iy sent h =
      let q : Ends = record p { to_x = messages_of channel ns } in
      subst (λ r. Sound a b (answers r q)) (sym is) (finish t q channel ns to_y new refl iy sent h)

  -- by the connection of x: what is in front is taken so
  pub met_row : (p : Ends) → p.x_line ≡ Connected → (channel : List ℕ) (n : Notice) (ns to_y : List Notice)
      → is_close n ≡ false → Hold a b channel Connected p.y_line p.x p.y (n ∷ ns) to_y p.said_x p.said_y
      → message_at a p.x_line (message_of channel n) p.x ≡ Ok (completed a (turn_of a n p.x))
  met_row p is channel n ns to_y other h = ap (λ l. message_at a l (message_of channel n) p.x) is
      ∙ ap (completed_row a) (row a b keys channel p.y_line p.x p.y p.said_x p.said_y n ns to_y other h)

  pub meeting_row : (p : Ends) → p.x_line ≡ AwaitingReestablish
      → (channel : List ℕ) (m : ChannelReestablish) (ns to_y : List Notice)
      → Hold a b channel AwaitingReestablish p.y_line p.x p.y (Again m ∷ ns) to_y p.said_x p.said_y
      → message_at a p.x_line (message.ChannelReestablish m) p.x ≡ Ok (completed a (resumed a m p.x))
  meeting_row p is channel m ns to_y h = ap (λ l. message_at a l (message.ChannelReestablish m) p.x) is
      ∙ again_row a b channel p.y_line p.x p.y to_y p.said_x p.said_y m ns h

  met_taken : (p : Ends) → p.x_line ≡ Connected → (channel : List ℕ) (n : Notice) (ns to_y : List Notice)
      → is_close n ≡ false
      → p.to_y ≡ messages_of channel to_y → Hold a b channel Connected p.y_line p.x p.y (n ∷ ns) to_y p.said_x p.said_y
      → Sound a b (delivers a (messages_of channel (n ∷ ns)) p)
  met_taken p is channel n ns to_y other iy h =
      taking p (message_of channel n) (turn_of a n p.x) channel ns to_y (sent_by a n p.x)
      (met_row p is channel n ns to_y other h) iy (sends_so a channel n p.x)
      (took a b keys channel p.y_line p.x p.y p.said_x p.said_y n ns to_y other h)

  -- a closing fee, by the answer to it
  fee_answered : (ans : FeeAnswer) (p : Ends) (channel : List ℕ) (m : ClosingSigned) (ns to_y : List Notice)
      → AnswersWithin p.x.closing.fees ans → HasBegun (side_of a p.x) → has_bid (side_of b p.y) ≡ true
      → p.to_y ≡ messages_of channel to_y
      → Hold a b channel Connected p.y_line p.x p.y ns to_y p.said_x p.said_y
      → Sound a b (becomes (completed a (answering a ans (answered_end m ans p.x)))
      (record p { to_x = messages_of channel ns }))
  fee_answered answer.Nothing p channel m ns to_y may begun bid iy h =
      let n = answered_end m answer.Nothing p.x in
      let t = answering a answer.Nothing n in
      finish t (record p { to_x = messages_of channel ns }) channel ns to_y [] refl iy refl
      (dealt_so a b keys channel p.y_line p.x p.y p.said_x p.said_y t.end (side_of a p.x).close_message
      (side_of a p.x).closed None [] ns to_y refl refl refl h.x_signs tt
      (record {
        point = h.x_knows.point;
        next_point = h.x_knows.next_point;
        below = h.x_knows.below;
        script = h.x_knows.script;
        secret = h.x_knows.secret;
      })
      (record {
        point = h.y_knows.point;
        next_point = h.y_knows.next_point;
        below = h.y_knows.below;
        script = h.y_knows.script;
        secret = h.y_knows.secret;
      })
      refl begun (λ e. e) (λ e. e) (λ e. absurd (cc)) h.ended_back.answered
      (subst (Said p.x.closing.shut) (sym (append-nil p.said_x)) h.x_said) h)
  fee_answered (answer.Close fee) p channel m ns to_y may begun bid iy h =
      let n = answered_end m (answer.Close fee) p.x in
      let t = answering a (answer.Close fee) n in
      finish t (record p { to_x = messages_of channel ns }) channel ns to_y [] refl iy refl
      (dealt_so a b keys channel p.y_line p.x p.y p.said_x p.said_y t.end (side_of a p.x).close_message true
      None [] ns to_y refl refl refl h.x_signs tt
      (record {
        point = h.x_knows.point;
        next_point = h.x_knows.next_point;
        below = h.x_knows.below;
        script = h.x_knows.script;
        secret = h.x_knows.secret;
      })
      (record {
        point = h.y_knows.point;
        next_point = h.y_knows.next_point;
        below = h.y_knows.below;
        script = h.y_knows.script;
        secret = h.y_knows.secret;
      })
      refl begun (λ e. refl) (λ e. e) (λ e. absurd (cc)) (λ e. bid)
      (subst (Said p.x.closing.shut) (sym (append-nil p.said_x)) h.x_said) h)
  fee_answered (answer.EchoAndClose fee) p channel m ns to_y may begun bid iy h =
      let n = answered_end m (answer.EchoAndClose fee) p.x in
      let t = answering a (answer.EchoAndClose fee) n in
      let w = closing_message a n fee in
      finish t (record p { to_x = messages_of channel ns }) channel ns to_y (Close w ∷ []) refl iy refl
      (dealt_so a b keys channel p.y_line p.x p.y p.said_x p.said_y t.end (Some w) true (Some w)
      (message.ClosingSigned w ∷ []) ns to_y refl refl refl (refl, inr may) (refl, inr may)
      (record {
        point = h.x_knows.point;
        next_point = h.x_knows.next_point;
        below = h.x_knows.below;
        script = h.x_knows.script;
        secret = h.x_knows.secret;
      })
      (record {
        point = h.y_knows.point;
        next_point = h.y_knows.next_point;
        below = h.y_knows.below;
        script = h.y_knows.script;
        secret = h.y_knows.secret;
      })
      refl begun (λ e. refl) (λ e. refl) (λ e. refl) (λ e. bid)
      (said_more p.x.closing.shut p.x.closing.shut p.said_x (message.ClosingSigned w) (λ e. absurd (cc)) (λ e. e)
      (λ e. absurd (cc)) h.x_said) h)
  fee_answered (answer.Propose fee) p channel m ns to_y may begun bid iy h =
      let n = answered_end m (answer.Propose fee) p.x in
      let t = answering a (answer.Propose fee) n in
      let w = closing_message a n fee in
      finish t (record p { to_x = messages_of channel ns }) channel ns to_y (Close w ∷ []) refl iy refl
      (dealt_so a b keys channel p.y_line p.x p.y p.said_x p.said_y t.end (Some w) (side_of a p.x).closed (Some w)
      (message.ClosingSigned w ∷ []) ns to_y refl refl refl (refl, inr may) (refl, inr may)
      (record {
        point = h.x_knows.point;
        next_point = h.x_knows.next_point;
        below = h.x_knows.below;
        script = h.x_knows.script;
        secret = h.x_knows.secret;
      })
      (record {
        point = h.y_knows.point;
        next_point = h.y_knows.next_point;
        below = h.y_knows.below;
        script = h.y_knows.script;
        secret = h.y_knows.secret;
      })
      refl begun (λ e. e) (λ e. refl) (λ e. refl) h.ended_back.answered
      (said_more p.x.closing.shut p.x.closing.shut p.said_x (message.ClosingSigned w) (λ e. absurd (cc)) (λ e. e)
      (λ e. absurd (cc)) h.x_said) h)

  passed_on : (p : Ends) → p.x_line ≡ Connected → (channel : List ℕ) (ns to_y : List Notice)
      → p.to_y ≡ messages_of channel to_y → Hold a b channel Connected p.y_line p.x p.y ns to_y p.said_x p.said_y
      → Sound a b (record p { to_x = messages_of channel ns })
  passed_on p is channel ns to_y iy h = record {
    channel = channel;
    to_x = ns;
    to_y = to_y;
    in_x = refl;
    in_y = iy;
    hold = subst (λ l. Hold a b channel l p.y_line p.x p.y ns to_y p.said_x p.said_y) (sym is) h;
  }

  fee_by : (begun right : Bool) (r : Result FeeAnswer Refusal) (p : Ends) → p.x_line ≡ Connected
      → (channel : List ℕ) (m : ClosingSigned) (ns to_y : List Notice) → has_begun p.x ≡ begun
      → IsFair p.x.closing.fees r → has_bid (side_of b p.y) ≡ true → p.to_y ≡ messages_of channel to_y
      → Hold a b channel Connected p.y_line p.x p.y ns to_y p.said_x p.said_y
      → Sound a b (answers (completed_row a (cond (not begun) (Err refusal.OutOfPlace)
      (cond right (answered a m p.x r) (Err refusal.SignatureWrong)))) (record p { to_x = messages_of channel ns }))
  fee_by true true (Ok ans) p is channel m ns to_y began may bid iy h =
      fee_answered ans p channel m ns to_y may (begun_so a p.x began) bid iy h
  fee_by true true (Err e) p is channel m ns to_y began may bid iy h = passed_on p is channel ns to_y iy h
  fee_by true false r p is channel m ns to_y began may bid iy h = passed_on p is channel ns to_y iy h
  fee_by false right r p is channel m ns to_y began may bid iy h = passed_on p is channel ns to_y iy h

  fee_taken : (p : Ends) → p.x_line ≡ Connected → (channel : List ℕ) (m : ClosingSigned) (ns to_y : List Notice)
      → p.to_y ≡ messages_of channel to_y
      → Hold a b channel Connected p.y_line p.x p.y (Close m ∷ ns) to_y p.said_x p.said_y
      → Sound a b (delivers a (messages_of channel (Close m ∷ ns)) p)
  fee_taken p is channel m ns to_y iy h =
      let q : Ends = record p { to_x = messages_of channel ns } in
      subst (λ l. Sound a b (answers (message_at a l (message.ClosingSigned m) p.x) q)) (sym is)
      (fee_by (has_begun p.x) (a.accepts_close m.fee_satoshis m.signature)
      (answer_to p.x.closing m.fee_satoshis (range_in m)) p is channel m ns to_y refl
      (fair p.x.closing m.fee_satoshis (range_in m))
      (closing_sent p.y_line m (side_of a p.x) (side_of b p.y) ns h.told.back.flight) iy
      (passed_close a b keys channel p.y_line p.x p.y p.said_x p.said_y m ns to_y h))

  delivered : (p : Ends) → Sound a b p → Sound a b (acts a Deliver p)
  delivered p h =
      let is = h.in_x in
      subst (λ ms. Sound a b (delivers a ms p)) (sym is)
      (by_front a b h.channel p.y_line p.x p.y h.to_y p.said_x p.said_y
      (λ l ns. p.x_line ≡ l → Sound a b (delivers a (messages_of h.channel ns) p)) (λ l is. h)
      (λ m ns k is. taking p (message.ChannelReestablish m) (resumed a m p.x) h.channel ns h.to_y
      (lacked a b h.channel p.y_line p.x p.y h.to_y p.said_x p.said_y m) (meeting_row p is h.channel m ns h.to_y k)
      h.in_y (again_sends a b h.channel p.y_line p.x p.y h.to_y p.said_x p.said_y m ns k)
      (took_again a b h.channel p.y_line p.x p.y h.to_y p.said_x p.said_y m ns k))
      (λ n ns other k is. met_taken p is h.channel n ns h.to_y other h.in_y k)
      (λ m ns k is. fee_taken p is h.channel m ns h.to_y h.in_y k) p.x_line h.to_x h.hold refl)

  -- ---- a command

  given_by : (f : Option Refusal) (t : Turn) (p : Ends) → (f ≡ None → Sound a b (becomes t p)) → Sound a b p
      → Sound a b (answers (unless f t) p)
  given_by None t p k h = k refl
  given_by (Some r) t p k h = h

  -- an end that has met the other
  hold_met : (p : Ends) (h : Sound a b p) → p.x_line ≡ Connected
      → Hold a b h.channel Connected p.y_line p.x p.y h.to_x h.to_y p.said_x p.said_y
  hold_met p h met = subst (λ l. Hold a b h.channel l p.y_line p.x p.y h.to_x h.to_y p.said_x p.said_y) met h.hold

  propose : (u : Change) (p : Ends) → p.x_line ≡ Connected → id_fault p.x.dance.log.own u ≡ None → Sound a b p
      → Sound a b (answers (unless (propose_fault p.x u)
      (sending (update_message p.x.dance.channel u) (proposes u p.x))) p)
  propose u p met id h =
      let channel = h.channel in
      let k = hold_met p h met in
      let t = sending (update_message p.x.dance.channel u) (proposes u p.x) in
      given_by (propose_fault p.x u) t p
      (λ none. become t p channel h.to_x h.to_y (Update (as_sent u) ∷ []) h.in_x h.in_y
      (ap (λ c. update_message c u ∷ []) h.hold.x_channel ∙ ap (λ m. m ∷ []) (sym (sent_as channel u)))
      (subst (λ c. Hold a b channel Connected p.y_line (proposes u p.x) p.y h.to_x
      (posts p.y_line (Update (as_sent u) ∷ []) h.to_y) (p.said_x ++ update_message c u ∷ [])
      p.said_y) (sym h.hold.x_channel)
      (proposed_so a b keys channel p.y_line p.x p.y p.said_x p.said_y u h.to_x h.to_y id none k))) h

  given : (c : Command) (p : Ends) → p.x_line ≡ Connected → Sound a b p → Sound a b (answers (command_row a c p.x) p)
  given (command.Confirm id) p met h =
      let t = sending (message.ChannelReady (ready_message a p.x)) (confirmed id p.x) in
      given_by (confirm_fault p.x) t p
      (λ none. become t p h.channel h.to_x h.to_y (Ready (ready_message a p.x) ∷ []) h.in_x h.in_y refl
      (confirms a b keys h.channel p.y_line p.x p.y p.said_x p.said_y id h.to_x h.to_y (hold_met p h met))) h
  given (command.Add amount hash expiry onion origin) p met h =
      let n = next_id p.x.dance.log.own in
      propose (update.Add (record {
        id = n;
        amount = amount;
        hash = hash;
        expiry = expiry;
        onion = onion;
        origin = origin;
      })) p met (ap (λ q. cond q None (Some refusal.BadId)) (eq-eqb n n refl)) h
  given (command.Fulfil id preimage) p met h =
      propose (update.Fulfil (record { id = id; preimage = preimage })) p met refl h
  given (command.Fail id reason) p met h =
      propose (update.Fail (record { id = id; reason = reason })) p met refl h
  given (command.Malformed id sha code) p met h =
      propose (update.Malformed (record { id = id; sha256_of_onion = sha; failure_code = code })) p met refl h
  given (command.Fee feerate) p met h = propose (update.Fee (record { feerate = feerate })) p met refl h
  given command.Sign p met h =
      let t : Turn = record {
        end = signs_next p.x;
        handed = record {
          sent = output.Send (message.CommitmentSigned (signed_message a p.x.dance)) ∷ [];
          told = output.Signed (length p.x.dance.log.own) ∷ [];
        };
      } in
      given_by (sign_command_fault p.x) t p
      (λ none. become t p h.channel h.to_x h.to_y (Sign (signed_message a p.x.dance) ∷ []) h.in_x h.in_y refl
      (signed_so a b keys h.channel p.y_line p.x p.y p.said_x p.said_y h.to_x h.to_y none (hold_met p h met))) h
  given (command.Shutdown script) p met h =
      let n = shuts_down script p.x in
      let t = sending (message.Shutdown (shutdown_message n)) n in
      given_by (shut_fault script p.x) (completed a t) p
      (λ none. finish t p h.channel h.to_x h.to_y (Shutdown (shutdown_message n) ∷ []) h.in_x h.in_y refl
      (shuts a b keys h.channel p.y_line p.x p.y p.said_x p.said_y script h.to_x h.to_y none (hold_met p h met))) h
  given (command.Decide event mark) p met h = h
  given (command.Forget id) p met h = h
  given (command.Resume event mark) p met h = h

  commanded_by : (f : Option Refusal) (l : ConnectionState) (c : Command) (p : Ends) → p.x_line ≡ l → Sound a b p
      → Sound a b (answers (faulted f (faulted (line_fault l) (command_row a c p.x))) p)
  commanded_by (Some r) l c p is h = h
  commanded_by None Down c p is h = h
  commanded_by None AwaitingReestablish c p is h = h
  commanded_by None Connected c p is h = given c p is h

  -- ---- a connection that is lost

  lost_by : (down : Bool) (p : Ends) → Sound a b p
      → Sound a b (cond down p (record p { x_line = Down; x = end_dropped p.x; to_x = [] }))
  lost_by true p h = h
  lost_by false p h = record {
    channel = h.channel;
    to_x = [];
    to_y = h.to_y;
    in_x = refl;
    in_y = h.in_y;
    hold = lost_so a b h.channel p.x_line p.y_line p.x p.y h.to_x h.to_y p.said_x p.said_y h.hold;
  }

  cut_by : (down : Bool) (n : ℕ) (p : Ends) → is_down p.x_line ≡ down → Sound a b p
      → Sound a b (cond down (record p { to_y = still_come n p.y_line p.to_y }) p)
  cut_by false n p is h = h
  cut_by true n p is h = record {
    channel = h.channel;
    to_x = h.to_x;
    to_y = still_come n p.y_line h.to_y;
    in_x = h.in_x;
    in_y = ap (still_come n p.y_line) h.in_y ∙ messages_left h.channel n p.y_line h.to_y;
    hold = cut_so a b h.channel n p.x_line p.y_line p.x p.y h.to_x h.to_y p.said_x p.said_y is h.hold;
  }

  pub acted : (act : Act) (p : Ends) → Sound a b p
      → Sound a b (acts a act p)
  acted Deliver p h = delivered p h
  acted (Give c) p h = commanded_by (unready_fault c p.x) p.x_line c p refl h
  acted (Note c) p h = record {
    channel = h.channel;
    to_x = h.to_x;
    to_y = h.to_y;
    in_x = h.in_x;
    in_y = h.in_y;
    hold = numbered a b h.channel p.x_line p.y_line p.x p.y h.to_x h.to_y p.said_x p.said_y (notes c p).x.ledger h.hold;
  }
  acted Lose p h = lost_by (is_down p.x_line) p h
  acted (Cut n) p h = cut_by (is_down p.x_line) n p refl h
  acted Save p h = record {
    channel = h.channel;
    to_x = h.to_x;
    to_y = h.to_y;
    in_x = h.in_x;
    in_y = h.in_y;
    hold = rebased a b h.channel p.x_line p.y_line p.x p.y h.to_x h.to_y p.said_x p.said_y h.hold;
  }

-- ---- steps

connected_by : (a b : Signer) (lx ly : ConnectionState) (p : Ends) (h : Sound a b p)
    → Hold a b h.channel lx ly p.x p.y h.to_x h.to_y p.said_x p.said_y → Sound a b (connects a b lx ly p)
connected_by a b Down Down p h k = record {
  channel = h.channel;
  to_x = Again (reestablish_message b p.y.dance) ∷ [];
  to_y = Again (reestablish_message a p.x.dance) ∷ [];
  in_x = refl;
  in_y = refl;
  hold = joined_so a b h.channel p.x p.y h.to_x h.to_y p.said_x p.said_y k;
}
connected_by a b Down AwaitingReestablish p h k = h
connected_by a b Down Connected p h k = h
connected_by a b AwaitingReestablish l p h k = h
connected_by a b Connected l p h k = h

happened : (a b : Signer) → ArePartners a b → (s : Step) (p : Ends) → Sound a b p → Sound a b (happens a b s p)
happened a b keys (By Funder act) p h = acted a b keys act p h
happened a b keys (By Fundee act) p h = flipped b a (acts b act (turned p))
    (acted b a (flipped_keys a b keys) act (turned p) (flipped a b p h))
happened a b keys Connect p h = connected_by a b p.x_line p.y_line p h h.hold

pub ran : (a b : Signer) → ArePartners a b → (ss : List Step) (p : Ends) → Sound a b p → Sound a b (run a b ss p)
ran a b keys [] p h = h
ran a b keys (s ∷ ss) p h = ran a b keys ss (happens a b s p) (happened a b keys s p h)
