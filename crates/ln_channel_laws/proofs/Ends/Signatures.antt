-- Each commitment_signed is over what its signer has covered.
use Rattle.std.proofs.Common.{◌≡◌, ℕ, ◌+◌, ◌≤◌, List, [], ◌∷◌, ◌++◌, length, take, map, refl, sym, ap, ◌∙◌, subst}
use Rattle.std.proofs.Common.{arith, Bool, true, false, cond, not, ◌&&◌, ◌==◌, Option, Some, None, Result, Ok, Err}
use Rattle.std.proofs.lemmas.Bool.{eqb-true}
use Rattle.ln_msgs.specs.declared.messages.message.Message.{Message}
use Rattle.ln_msgs.specs.declared.messages.message.Message.TheVariants as message
use Rattle.ln_msgs.specs.declared.messages.closing.ClosingSigned.{ClosingSigned}
use Rattle.ln_msgs.specs.declared.messages.closing.Shutdown.{Shutdown as ShutdownMessage}
use Rattle.ln_msgs.specs.declared.messages.commitments.ChannelReestablish.{ChannelReestablish}
use Rattle.ln_msgs.specs.declared.messages.commitments.CommitmentSigned.{CommitmentSigned}
use Rattle.ln_refusals.specs.declared.refusal.Refusal.{Refusal}
use Rattle.ln_refusals.specs.declared.refusal.Refusal.TheVariants as refusal
use Rattle.ln_keys.specs.declared.role.Role.{Role}
use Rattle.ln_keys.specs.declared.role.Role.TheVariants.{Funder, Fundee}
use Rattle.ln_keys.specs.Signer.{Signer}
use Rattle.ln_log.specs.declared.log.Pair.TheVariants as pair
use Rattle.ln_log.specs.declared.opening.Opening.{Opening}
use Rattle.ln_log.specs.declared.update.Update.{Update as Change}
use Rattle.ln_log.specs.declared.update.Update.TheVariants as update
use Rattle.ln_log.specs.Log.{Counts, covered, sent_pair, view_for, unacknowledged}
use Rattle.ln_log.specs.Machine.{Covered}
use Rattle.ln_log.specs.Machine as machine
use Rattle.ln_log.specs.Updates.{all_sent, next_id}
use Rattle.ln_log.proofs.Sent.{view_sent, turned_views}
use Rattle.ln_hooks.specs.declared.event.ChannelEvent.{ChannelEvent}
use Rattle.ln_dance.specs.declared.dance.Later.{Later}
use Rattle.ln_dance.specs.declared.dance.Later.TheVariants.{Signature, Revocation}
use Rattle.ln_dance.specs.declared.resume.Resend.{Resend}
use Rattle.ln_dance.specs.declared.resume.Resend.TheVariants as resend
use Rattle.ln_dance.specs.Dance.{Dancer, view_at, owes, sign_fault, signed_message}
use Rattle.ln_dance.specs.Messages.{update_message}
use Rattle.ln_dance.specs.Resume.{lacks_signature, lacks_revocation, is_before_the_first, owed, owed_by}
use Rattle.ln_dance.specs.Resume.{revocation_again, signature_again, updates_again}
use Rattle.ln_close.specs.declared.closing.FeeAnswer.{FeeAnswer}
use Rattle.ln_close.specs.declared.closing.FeeAnswer.TheVariants as answer
use Rattle.ln_close.specs.Closing.{answer_to}
use Rattle.ln_channel.specs.declared.command.Command.{Command}
use Rattle.ln_channel.specs.declared.command.Command.TheVariants as command
use Rattle.ln_channel.specs.declared.config.Config.{Config}
use Rattle.ln_channel.specs.declared.config.OpenSpec.{OpenSpec}
use Rattle.ln_channel.specs.declared.opening.Opened.{Opened}
use Rattle.ln_channel.specs.declared.output.Output.{Output}
use Rattle.ln_channel.specs.declared.output.Output.TheVariants as output
use Rattle.ln_channel.specs.declared.machine.ConnectionState.{ConnectionState}
use Rattle.ln_channel.specs.declared.machine.ConnectionState.TheVariants.{Down, AwaitingReestablish, Connected}
use Rattle.ln_channel.specs.Commands.{ready_message, confirm_fault, confirmed, propose_fault, proposes}
use Rattle.ln_channel.specs.Commands.{sign_command_fault, signs_next, shut_fault, shuts_down, command_row}
use Rattle.ln_channel.specs.Commands.{unready_fault}
use Rattle.ln_channel.specs.End.{End, Turn, answers_shutdown, completed, due_fee, due_sent, fee_sent, has_begun}
use Rattle.ln_channel.specs.End.{is_ready, owes_shutdown, quiet, sending, settled, shutdown_message, shutdown_sent}
use Rattle.ln_channel.specs.End.{told_of}
use Rattle.ln_channel.specs.Ledger.{next_event}
use Rattle.ln_channel.specs.Meeting.{Opens}
use Rattle.ln_channel.specs.Opening.{unless}
use Rattle.ln_channel.specs.Outputs.{all_of, events_of, numbered}
use Rattle.ln_channel.specs.Resume.{fee_again, owed_again, ready_again, resumed, sent_again, shutdown_again}
use Rattle.ln_channel.specs.Resume as link
use Rattle.ln_channel.specs.Since.{own_since, peer_since}
use Rattle.ln_channel.specs.Step.{faulted, line_fault}
use Rattle.ln_channel.specs.Taking.{accepting, accepts, answered, answered_end, answering, completed_row, learning}
use Rattle.ln_channel.specs.Taking.{message_row, range_in, revokes, shutdown_at, signature_fault, taken}
use Rattle.ln_channel_laws.specs.Ends.{Ends, turned, message_at, messages_in, answers, Act, Deliver, Give, Note, Lose}
use Rattle.ln_channel_laws.specs.Ends.{Cut}
use Rattle.ln_channel_laws.specs.Ends.{Save, acts, delivers, opened, Step, By, Connect, run}
use Rattle.ln_keys.specs.Partners.{ArePartners}
use Rattle.ln_channel_laws.specs.Promises.{party}
use Rattle.ln_channel_laws.specs.Signing.{IfSigned, EachSigned, balances_to, SignsCovered, to_accept, AgreesOn}
use Rattle.ln_channel_laws.specs.Signing.{AgreesInFront}
use Rattle.ln_channel_laws.specs.Signing.{Signs, BothSign, SignsIn}
use Rattle.ln_channel_laws.specs.Told.{told_by, told_on, told_in}
use Rattle.ln_channel_laws.proofs.Tests.{parts, negated, otherwise, where_true}
use Rattle.ln_channel_laws.proofs.Flight.Images.{message_of, messages_of, side_of, take-sent}
use Rattle.ln_channel_laws.proofs.Machine.TurnMoves.{settled_dance}
use Rattle.ln_channel_laws.proofs.Ends.Promised.{at_end}
use Rattle.ln_channel_laws.proofs.Ends.Runs.{Sound, flipped, flipped_keys, meeting_row}
use Rattle.ln_channel_laws.proofs.Flight.Sides.{Notice, Update, Sign, Revoke, Ready, Shutdown, Close, Again, Side}
use Rattle.ln_channel_laws.proofs.Ends.Acts.{Hold, flip, front_reads}
use Rattle.ln_channel_laws.proofs.Ends.Turns.{fronts}
use Rattle.ln_channel_laws.proofs.Flight.Walk.{Anywhere, Carries, Flows, Idle, InFlight, IsDue, LacksNothing, Phase}
use Rattle.ln_channel_laws.proofs.Flight.Walk.{Sent}
use Rattle.ln_channel_laws.proofs.Flight.Walk.{Answered}
use Rattle.ln_channel_laws.proofs.Flight.Walk.{Reads, Sender, holds, sender}

-- ---- what a signature is over

balances_sent : (o : Opening) (r : Role) (c : Covered) → view_for o r (sent_pair c) ≡ view_for o r c
balances_sent o Funder c = view_sent o c.own c.peer
balances_sent o Fundee c = view_sent o c.peer c.own

module _ (a b : Signer) where
  -- the last signature of x, which y hasn't accepted
  signs_so : (x y : End) → x.dance.peer.next_point ≡ b.point_of (x.dance.numbers.revoked + 1)
      → x.dance.numbers.signed ≡ y.dance.numbers.commitment + 1
      → x.dance.numbers.signed ≡ x.dance.numbers.revoked + 1 → SignsCovered a b x y (signature_again a x.dance)
  signs_so x y point next one =
      let d = x.dance in
      let n = y.dance.numbers.commitment + 1 in
      let at : d.peer.next_point ≡ b.point_of n = point ∙ ap b.point_of (sym one ∙ next) in
      let balances : view_at pair.Signed d ≡ balances_to x (party x).signed =
      sym (balances_sent d.log.opening d.log.role (covered d.log d.log.signed)) in
      record {
        signature = ap (λ i. a.signature i d.peer.next_point (view_at pair.Signed d)) next
            ∙ ap (λ p. a.signature n p (view_at pair.Signed d)) at
            ∙ ap (λ v. a.signature n (b.point_of n) v) balances;
        htlc_signatures = ap (λ i. a.htlc_signatures i d.peer.next_point (view_at pair.Signed d)) next
            ∙ ap (λ p. a.htlc_signatures n p (view_at pair.Signed d)) at
            ∙ ap (λ v. a.htlc_signatures n (b.point_of n) v) balances;
      }

  -- by the dance alone
  same_signs : (x z y : End) (m : CommitmentSigned) → z.dance ≡ x.dance → SignsCovered a b x y m
      → SignsCovered a b z y m
  same_signs x z y m e h =
      let n = y.dance.numbers.commitment + 1 in
      let balances : balances_to x (party x).signed ≡ balances_to z (party z).signed =
      ap (λ (d : Dancer). view_for d.log.opening d.log.role (sent_pair (covered d.log d.log.signed))) (sym e) in
      record {
        signature = h.signature ∙ ap (λ v. a.signature n (b.point_of n) v) balances;
        htlc_signatures = h.htlc_signatures ∙ ap (λ v. a.htlc_signatures n (b.point_of n) v) balances;
      }

-- ---- what is handed out

no_update : (channel : List ℕ) (P : CommitmentSigned → Type 0) (u : Change) → IfSigned P (update_message channel u)
no_update channel P (update.Add u) = tt
no_update channel P (update.Fulfil u) = tt
no_update channel P (update.Fail u) = tt
no_update channel P (update.Malformed u) = tt
no_update channel P (update.Fee u) = tt

module _ (P : CommitmentSigned → Type 0) where
  abbrev Handed : List Output → Type 0
  Handed os = EachSigned P (messages_in os)

  handed_both : (os ps : List Output) → Handed os → Handed ps → Handed (os ++ ps)
  handed_both [] ps h k = k
  handed_both (output.Send m ∷ os) ps h k = (h.0, handed_both os ps h.1 k)
  handed_both (output.Signed n ∷ os) ps h k = handed_both os ps h k
  handed_both (output.Committed own peer ∷ os) ps h k = handed_both os ps h k
  handed_both (output.Event n e ∷ os) ps h k = handed_both os ps h k
  handed_both (output.Closed fee ∷ os) ps h k = handed_both os ps h k

  numbered_none : (n : ℕ) (es : List ChannelEvent) → Handed (numbered n es)
  numbered_none n [] = tt
  numbered_none n (e ∷ es) = numbered_none (n + 1) es

  told_none : (own : Bool) (us : List Change) (e : End) → Handed (told_of own us e)
  told_none own us e = numbered_none (next_event e.ledger) (events_of own us)

  shutdown_none : (b : Bool) (m : ShutdownMessage) → Handed (cond b (output.Send (message.Shutdown m) ∷ []) [])
  shutdown_none true m = (tt, tt)
  shutdown_none false m = tt

  fee_none : (k : Signer) (e : End) (o : Option ℕ) → Handed (fee_sent k e o)
  fee_none k e None = tt
  fee_none k e (Some fee) = (tt, tt)

  due_none : (k : Signer) (e : End) → Handed (due_sent k e)
  due_none k e =
      let n = answers_shutdown e in
      handed_both (shutdown_sent e) (fee_sent k n (due_fee n)) (shutdown_none (owes_shutdown e) (shutdown_message e))
      (fee_none k n (due_fee n))

  completed_none : (k : Signer) (t : Turn) → Handed t.handed.sent → Handed t.handed.told
      → Handed (all_of (completed k t).handed)
  completed_none k t h g =
      handed_both (t.handed.sent ++ due_sent k t.end) t.handed.told
      (handed_both t.handed.sent (due_sent k t.end) h (due_none k t.end)) g

  -- ---- by what a row answers to a message

  abbrev Answers : Result Turn Refusal → Type 0
  Answers (Ok t) = Handed t.handed.sent × Handed t.handed.told
  Answers (Err r) = Unit {0}

  unless_none : (f : Option Refusal) (t : Turn) → Handed t.handed.sent → Handed t.handed.told → Answers (unless f t)
  unless_none None t h g = (h, g)
  unless_none (Some r) t h g = tt

  shut_by : (c : Bool) (e : End) → Answers (cond c (Ok (quiet e)) (Err refusal.OutOfPlace))
  shut_by true e = (tt, tt)
  shut_by false e = tt

  shut_none : (o : Option (List ℕ)) (m : ShutdownMessage) (e : End) → Answers (shutdown_at o m e)
  shut_none None m e = (tt, tt)
  shut_none (Some script) m e = shut_by _ e

  answer_none : (k : Signer) (ans : FeeAnswer) (e : End) → Answers (Ok (answering k ans e))
  answer_none k answer.Nothing e = (tt, tt)
  answer_none k (answer.Close fee) e = (tt, tt)
  answer_none k (answer.EchoAndClose fee) e = ((tt, tt), tt)
  answer_none k (answer.Propose fee) e = ((tt, tt), tt)

  fee_by : (begun right : Bool) (k : Signer) (m : ClosingSigned) (e : End) (r : Result FeeAnswer Refusal)
      → Answers (cond (not begun) (Err refusal.OutOfPlace)
      (cond right (answered k m e r) (Err refusal.SignatureWrong)))
  fee_by false right k m e r = tt
  fee_by true false k m e r = tt
  fee_by true true k m e (Ok ans) = answer_none k ans (answered_end m ans e)
  fee_by true true k m e (Err r) = tt

  -- a message is answered by no signature
  row_none : (k : Signer) (m : Message) (e : End) → Answers (message_row k m e)
  row_none k (message.ChannelReady m) e = (tt, tt)
  row_none k (message.UpdateAddHtlc m) e = unless_none _ _ tt tt
  row_none k (message.UpdateFulfillHtlc m) e = unless_none _ _ tt tt
  row_none k (message.UpdateFailHtlc m) e = unless_none _ _ tt tt
  row_none k (message.UpdateFailMalformedHtlc m) e = unless_none _ _ tt tt
  row_none k (message.UpdateFee m) e = unless_none _ _ tt tt
  row_none k (message.CommitmentSigned m) e =
      let n = accepts e in
      let c = e.dance.log.current.own in
      unless_none (signature_fault k m e) (accepting k c e n) (tt, tt) (told_none true (own_since c n.dance.log) n)
  row_none k (message.RevokeAndAck m) e =
      let n = revokes m e in
      let c = e.dance.log.acknowledged.peer in
      unless_none _ (learning c n) tt (told_none false (peer_since c n.dance.log) n)
  row_none k (message.Shutdown m) e = shut_none e.terms.peer_script m e
  row_none k (message.ClosingSigned m) e =
      fee_by (has_begun e) (k.accepts_close m.fee_satoshis m.signature) k m e
      (answer_to e.closing m.fee_satoshis (range_in m))
  row_none k (message.Warning m) e = tt
  row_none k (message.Init m) e = tt
  row_none k (message.Error m) e = tt
  row_none k (message.Ping m) e = tt
  row_none k (message.Pong m) e = tt
  row_none k (message.OpenChannel m) e = tt
  row_none k (message.AcceptChannel m) e = tt
  row_none k (message.FundingCreated m) e = tt
  row_none k (message.FundingSigned m) e = tt
  row_none k (message.ChannelReestablish m) e = tt

  finished : (k : Signer) (r : Result Turn Refusal) → Answers r → Handed (told_by (completed_row k r))
  finished k (Ok t) h = completed_none k t h.0 h.1
  finished k (Err r) h = tt

  taken_none : (k : Signer) (m : Message) (e : End) → Handed (told_by (taken k m e))
  taken_none k m e = finished k (message_row k m e) (row_none k m e)

  -- ---- what is sent again

  ready_none : (k : Signer) (c : Bool) (e : End)
      → Handed (cond c (output.Send (message.ChannelReady (ready_message k e)) ∷ []) [])
  ready_none k true e = (tt, tt)
  ready_none k false e = tt

  updates_none : (channel : List ℕ) (us : List Change) → Handed (link.all_sent (map (update_message channel) us))
  updates_none channel [] = tt
  updates_none channel (u ∷ us) = (no_update channel P u, updates_none channel us)

  module _ (k : Signer) (d : Dancer) where
    abbrev signing : Bool → List Resend
    signing s = cond s (updates_again d ++ resend.Signature (signature_again k d) ∷ []) []

    abbrev revoking : Bool → List Resend
    revoking r = cond r (resend.Revocation (revocation_again k d) ∷ []) []

    abbrev in_turn : Later → Bool → Bool → List Resend
    in_turn Signature s r = revoking r ++ signing s
    in_turn Revocation s r = signing s ++ revoking r

    signed_then : (os : List Output) → P (signature_again k d) → Handed os
        → Handed (link.all_sent (map (update_message d.channel) (unacknowledged d.log))
        ++ (output.Send (message.CommitmentSigned (signature_again k d)) ∷ os))
    signed_then os p h =
        handed_both (link.all_sent (map (update_message d.channel) (unacknowledged d.log)))
        (output.Send (message.CommitmentSigned (signature_again k d)) ∷ os)
        (updates_none d.channel (unacknowledged d.log)) (p, h)

    owed_so : (l : Later) (s r : Bool) → (s ≡ true → P (signature_again k d)) → Handed (owed_again (in_turn l s r))
    owed_so Signature true true f = (tt, signed_then [] (f refl) tt)
    owed_so Signature true false f = signed_then [] (f refl) tt
    owed_so Signature false true f = (tt, tt)
    owed_so Signature false false f = tt
    owed_so Revocation true true f = signed_then _ (f refl) (tt, tt)
    owed_so Revocation true false f = signed_then [] (f refl) tt
    owed_so Revocation false true f = (tt, tt)
    owed_so Revocation false false f = tt

    lacked_so : (m : ChannelReestablish) (l : Later) → l ≡ d.later
        → (lacks_signature m d ≡ true → P (signature_again k d)) → Handed (owed_again (owed k m d))
    lacked_so m Signature is f = subst (λ w. Handed (owed_again (owed_by w k m d))) is
        (owed_so Signature (lacks_signature m d) (lacks_revocation m d) f)
    lacked_so m Revocation is f = subst (λ w. Handed (owed_again (owed_by w k m d))) is
        (owed_so Revocation (lacks_signature m d) (lacks_revocation m d) f)

  again_so : (k : Signer) (m : ChannelReestablish) (e : End)
      → (lacks_signature m e.dance ≡ true → P (signature_again k e.dance)) → Handed (sent_again k m e)
  again_so k m e f =
      let ready = ready_again k m e in
      let owing = owed_again (owed k m e.dance) in
      let shut = shutdown_again e in
      handed_both ((ready ++ owing) ++ shut) (fee_again k e)
      (handed_both (ready ++ owing) shut
      (handed_both ready owing (ready_none k (is_before_the_first m e.dance && e.readiness.ready_sent) e)
      (lacked_so k e.dance m e.dance.later refl f))
      (shutdown_none e.closing.shut (shutdown_message e))) (fee_none k e e.closing.own_fee)

-- ---- how far y is

-- where every signature of x is revoked, y's commitment is the one that x signed last
none_out : (s a c : ℕ) (acked signed current : Counts) → s ≡ a → Phase s a c acked signed current → c ≡ s
none_out s a c acked signed current e (Idle e1 e2 e3 e4 e5 e6) = e2
none_out s a c acked signed current e (Sent e1 e2 e3 e4) = absurd (omega (arith, e, e1))
none_out s a c acked signed current e (Answered e1 e2 e3 e4) = absurd (omega (arith, e, e1))

-- a signature that lies before the commitment n, which y has or is to have, is the last one
one_out : (s a c n : ℕ) (acked signed current : Counts) → c ≤ n → n + 1 ≡ s → Phase s a c acked signed current
    → (s ≡ c + 1) × (s ≡ a + 1)
one_out s a c n acked signed current le e (Idle e1 e2 e3 e4 e5 e6) = absurd (omega (arith, le, e, e2))
one_out s a c n acked signed current le e (Sent e1 e2 e3 e4) = (omega (arith, e1, e2), e1)
one_out s a c n acked signed current le e (Answered e1 e2 e3 e4) = absurd (omega (arith, le, e, e2))

module _ (a b : Signer) where
  -- x has signed once at least, so y has told it the point
  has_point : (lx ly : ConnectionState) (channel : List ℕ) (x y : End) (to_x to_y : List Notice)
      (said_x said_y : List Message)
      → Hold a b channel lx ly x y to_x to_y said_x said_y → (n : ℕ) → x.dance.numbers.signed ≡ n + 1
      → x.readiness.ready_received ≡ true
  has_point lx ly channel x y to_x to_y said_x said_y h n is =
      (h.told.there.used_signature (omega (arith, is))).taken

  -- the last signature of x, where it lies before a commitment that y has or is to have
  last_so : (lx ly : ConnectionState) (channel : List ℕ) (x y : End) (to_x to_y : List Notice)
      (said_x said_y : List Message)
      → Hold a b channel lx ly x y to_x to_y said_x said_y → (n : ℕ) → y.dance.numbers.commitment ≤ n
      → n + 1 ≡ x.dance.numbers.signed → SignsCovered a b x y (signature_again a x.dance)
  last_so lx ly channel x y to_x to_y said_x said_y h n le next =
      let p = one_out x.dance.numbers.signed x.dance.numbers.revoked y.dance.numbers.commitment n
      x.dance.log.acknowledged x.dance.log.signed y.dance.log.current le next h.kept.there.phase in
      signs_so a b x y (h.x_knows.next_point (has_point lx ly channel x y to_x to_y said_x said_y h n (sym next))) p.0
      p.1

-- ---- a step of x

module _ (a b : Signer) where
  abbrev SignsBehind : Result Turn Refusal → Ends → Type 0
  SignsBehind r p = EachSigned (SignsCovered a b (answers r p).x (answers r p).y) (messages_in (told_by r))

  -- a connection that has come back
  resumed_by : (p : Ends) (channel : List ℕ) (m : ChannelReestablish) (ns to_y : List Notice)
      → Hold a b channel AwaitingReestablish p.y_line p.x p.y (Again m ∷ ns) to_y p.said_x p.said_y
      → EachSigned (SignsCovered a b (settled p.x) p.y)
      (messages_in (all_of (completed a (resumed a m p.x)).handed))
  resumed_by p channel m ns to_y h =
      let d = p.x.dance in
      let told : m ≡ (side_of b p.y).reestablish = h.kept.back.flight.0 in
      let number : m.next_commitment_number ≡ p.y.dance.numbers.commitment + 1 =
      ap (λ (r : ChannelReestablish). r.next_commitment_number) told in
      completed_none (SignsCovered a b (settled p.x) p.y) a (resumed a m p.x)
      (again_so (SignsCovered a b (settled p.x) p.y) a m p.x
      (λ lacks. let q = parts (m.next_commitment_number == d.numbers.signed)
      (d.numbers.signed == d.numbers.revoked + 1) lacks in
      let next : p.y.dance.numbers.commitment + 1 ≡ d.numbers.signed =
      sym number ∙ eqb-true m.next_commitment_number d.numbers.signed q.0 in
      same_signs a b p.x (settled p.x) p.y (signature_again a d)
      (settled_dance Funder d.log.opening (party p.y) p.x)
      (last_so a b AwaitingReestablish p.y_line channel p.x p.y (Again m ∷ ns) to_y p.said_x p.said_y h
      p.y.dance.numbers.commitment (omega arith) next))) tt

  -- a message is taken
  abbrev SignsTaking : List Message → Ends → Type 0
  SignsTaking ms p =
      EachSigned (SignsCovered a b (delivers a ms p).x (delivers a ms p).y)
      (messages_in (told_on a p.x_line ms p.x))

  module _ (keys : ArePartners a b) where
    met : (p : Ends) → p.x_line ≡ Connected → (m : Message) (ms : List Message) → SignsTaking (m ∷ ms) p
    met p is m ms =
        let P : CommitmentSigned → Type 0 = SignsCovered a b (delivers a (m ∷ ms) p).x (delivers a (m ∷ ms) p).y in
        subst (λ l. EachSigned P (messages_in (told_by (message_at a l m p.x)))) (sym is) (taken_none P a m p.x)

    delivered_by : (l : ConnectionState) (p : Ends) → p.x_line ≡ l → (channel : List ℕ) (ns to_y : List Notice)
        → Hold a b channel l p.y_line p.x p.y ns to_y p.said_x p.said_y → SignsTaking (messages_of channel ns) p
    delivered_by l p is channel [] to_y h = tt
    delivered_by Down p is channel (n ∷ ns) to_y h = absurd (let no : n ∷ ns ≡ [] = h.kept.back.flight in cc)
    delivered_by AwaitingReestablish p is channel (Update u ∷ ns) to_y h = absurd (h.kept.back.flight)
    delivered_by AwaitingReestablish p is channel (Sign m ∷ ns) to_y h = absurd (h.kept.back.flight)
    delivered_by AwaitingReestablish p is channel (Revoke m ∷ ns) to_y h = absurd (h.kept.back.flight)
    delivered_by AwaitingReestablish p is channel (Ready m ∷ ns) to_y h = absurd (h.kept.back.flight)
    delivered_by AwaitingReestablish p is channel (Shutdown m ∷ ns) to_y h = absurd (h.kept.back.flight)
    delivered_by AwaitingReestablish p is channel (Close m ∷ ns) to_y h = absurd (h.kept.back.flight)
    delivered_by AwaitingReestablish p is channel (Again m ∷ ns) to_y h =
        let q : Ends = record p { to_x = messages_of channel ns } in
        subst (λ r. SignsBehind r q) (sym (meeting_row a b keys p is channel m ns to_y h))
        (resumed_by p channel m ns to_y h)
    delivered_by Connected p is channel (n ∷ ns) to_y h = met p is (message_of channel n) (messages_of channel ns)

    -- a command is given
    given_by : (f : Option Refusal) (t : Turn) (p : Ends)
        → (f ≡ None → EachSigned (SignsCovered a b t.end p.y) (messages_in (all_of t.handed)))
        → SignsBehind (unless f t) p
    given_by None t p k = k refl
    given_by (Some r) t p k = tt

    -- a signature is made: none is unrevoked then
    made : (p : Ends) (h : Sound a b p) → p.x_line ≡ Connected → sign_command_fault p.x ≡ None
        → SignsCovered a b (signs_next p.x) p.y (signed_message a p.x.dance)
    made p h is none =
        let d = p.x.dance in
        let fit = where_true (is_ready p.x) (sign_fault d) refusal.NotReady none in
        let ready = parts p.x.readiness.ready_sent p.x.readiness.ready_received fit.0 in
        let free = otherwise (owes d) refusal.SignatureOutstanding _ fit.1 in
        let equal : d.numbers.signed ≡ d.numbers.revoked =
        eqb-true d.numbers.signed d.numbers.revoked (negated (d.numbers.signed == d.numbers.revoked) free.0) in
        let last = none_out d.numbers.signed d.numbers.revoked p.y.dance.numbers.commitment d.log.acknowledged
        d.log.signed p.y.dance.log.current equal h.hold.kept.there.phase in
        signs_so a b (signs_next p.x) p.y (h.hold.x_knows.next_point ready.1) (ap (λ i. i + 1) (sym last))
        (ap (λ i. i + 1) equal)

    propose : (u : Change) (p : Ends)
        → SignsBehind (unless (propose_fault p.x u) (sending (update_message p.x.dance.channel u) (proposes u p.x))) p
    propose u p =
        given_by (propose_fault p.x u) (sending (update_message p.x.dance.channel u) (proposes u p.x)) p
        (λ none. (no_update p.x.dance.channel (SignsCovered a b (proposes u p.x) p.y) u, tt))

    given : (c : Command) (p : Ends) → p.x_line ≡ Connected → Sound a b p → SignsBehind (command_row a c p.x) p
    given (command.Confirm id) p is h =
        let t = sending (message.ChannelReady (ready_message a p.x)) (confirmed id p.x) in
        given_by (confirm_fault p.x) t p (λ none. (tt, tt))
    given (command.Add amount hash expiry onion origin) p is h =
        propose (update.Add (record {
          id = next_id p.x.dance.log.own;
          amount = amount;
          hash = hash;
          expiry = expiry;
          onion = onion;
          origin = origin;
        })) p
    given (command.Fulfil id preimage) p is h =
        propose (update.Fulfil (record { id = id; preimage = preimage })) p
    given (command.Fail id reason) p is h = propose (update.Fail (record { id = id; reason = reason })) p
    given (command.Malformed id sha code) p is h =
        propose (update.Malformed (record { id = id; sha256_of_onion = sha; failure_code = code })) p
    given (command.Fee feerate) p is h = propose (update.Fee (record { feerate = feerate })) p
    given command.Sign p is h =
        let t : Turn = record {
          end = signs_next p.x;
          handed = record {
            sent = output.Send (message.CommitmentSigned (signed_message a p.x.dance)) ∷ [];
            told = output.Signed (length p.x.dance.log.own) ∷ [];
          };
        } in
        given_by (sign_command_fault p.x) t p (λ none. (made p h is none, tt))
    given (command.Shutdown script) p is h =
        let n = shuts_down script p.x in
        let t = sending (message.Shutdown (shutdown_message n)) n in
        given_by (shut_fault script p.x) (completed a t) p
        (λ none. completed_none (SignsCovered a b (completed a t).end p.y) a t (tt, tt) tt)
    given (command.Decide event mark) p is h = tt
    given (command.Forget id) p is h = tt
    given (command.Resume event mark) p is h = tt

    commanded_by : (f : Option Refusal) (l : ConnectionState) (c : Command) (p : Ends) → p.x_line ≡ l → Sound a b p
        → SignsBehind (faulted f (faulted (line_fault l) (command_row a c p.x))) p
    commanded_by (Some r) l c p is h = tt
    commanded_by None Down c p is h = tt
    commanded_by None AwaitingReestablish c p is h = tt
    commanded_by None Connected c p is h = given c p is h

    acts_so : (act : Act) (p : Ends) → Sound a b p
        → EachSigned (SignsCovered a b (acts a act p).x (acts a act p).y) (messages_in (told_in a act p))
    acts_so Deliver p h =
        subst (λ ms. SignsTaking ms p) (sym h.in_x)
        (delivered_by p.x_line p refl h.channel h.to_x h.to_y h.hold)
    acts_so (Give c) p h = commanded_by (unready_fault c p.x) p.x_line c p refl h
    acts_so (Note c) p h = tt
    acts_so Lose p h = tt
    acts_so (Cut n) p h = tt
    acts_so Save p h = tt

happens_so : (a b : Signer) → ArePartners a b → (side : Role) (s : Step) (p : Ends) → Sound a b p → SignsIn a b side s p
happens_so a b keys Funder (By Funder act) p h = acts_so a b keys act p h
happens_so a b keys Funder (By Fundee act) p h = tt
happens_so a b keys Fundee (By Funder act) p h = tt
happens_so a b keys Fundee (By Fundee act) p h =
    acts_so b a (flipped_keys a b keys) act (turned p) (flipped a b p h)
happens_so a b keys Funder Connect p h = tt
happens_so a b keys Fundee Connect p h = tt

pub signs_in_step : (a b : Signer) (s : OpenSpec) (c : Config) (funder fundee : Opened) (steps : List Step)
    (step : Step) (side : Role) → ArePartners a b → Opens a b s c funder fundee
    → SignsIn a b side step (run a b steps (opened funder fundee))
signs_in_step a b s c funder fundee steps step side keys o =
    happens_so a b keys side step (run a b steps (opened funder fundee))
    (at_end a b s c funder fundee steps keys o)

-- ---- what is in flight

module _ (channel : List ℕ) (P : CommitmentSigned → Type 0) where
  -- who stands there and has commitment c, or a later one
  read : (w : Sender) (own held : List Change) (all : ℕ) (Q : List Change → ℕ → ℕ → ℕ
      → Type 0) (got : List Change) (a c r first : ℕ) (ms : List Notice) → first ≤ c
      → ((n : ℕ) → first ≤ n → n + 1 ≡ w.signatures → P w.signature) → Reads w own held all Q got a c r ms
      → EachSigned P (messages_of channel ms)
  read w own held all Q got a c r first [] le f h = tt
  read w own held all Q got a c r first (Update u ∷ ms) le f h =
      (no_update channel P u, read w own held all Q (got ++ u ∷ []) a c r first ms le f h.1)
  read w own held all Q got a c r first (Sign k ∷ ms) le f h = (
    subst P (sym h.0.named) (f c le h.0.next),
    read w own held all Q got a (c + 1) r first ms (omega (arith, le)) f h.1,
  )
  read w own held all Q got a c r first (Revoke k ∷ ms) le f h =
      (tt, read w own held all Q got all c (r + 1) first ms le f h.1)
  read w own held all Q got a c r first (Ready z ∷ ms) le f h =
      (tt, read w own held all Q got a c r first ms le f h)
  read w own held all Q got a c r first (Shutdown z ∷ ms) le f h =
      (tt, read w own held all Q got a c r first ms le f h)
  read w own held all Q got a c r first (Close z ∷ ms) le f h =
      (tt, read w own held all Q got a c r first ms le f h)
  read w own held all Q got a c r first (Again n ∷ ms) le f h = absurd h

  module _ (x y : Side) (f : (n : ℕ) → y.number ≤ n → n + 1 ≡ x.signatures → P x.signature) where
    carried : (l : ConnectionState) (ms : List Notice) → Carries l x y ms → EachSigned P (messages_of channel ms)
    carried Down ms h = read (sender x) y.own (holds y) y.signed.own Anywhere y.got y.acked.own y.number y.revocations
        y.number ms (omega arith) f h
    carried AwaitingReestablish ms h = subst (λ ns. EachSigned P (messages_of channel ns)) (sym h.0) tt
    carried Connected ms h = read (sender x) y.own (holds y) y.signed.own
        (LacksNothing x.own x.current.peer x.signatures x.number) y.got y.acked.own y.number y.revocations y.number ms
        (omega arith) f h

    flown : (lx ly : ConnectionState) (ms : List Notice) → InFlight lx ly x y ms → EachSigned P (messages_of channel ms)
    flown lx Down ms h = subst (λ ns. EachSigned P (messages_of channel ns)) (sym h) tt
    flown lx AwaitingReestablish [] h = absurd h
    flown lx AwaitingReestablish (Update u ∷ ms) h = absurd h
    flown lx AwaitingReestablish (Sign k ∷ ms) h = absurd h
    flown lx AwaitingReestablish (Revoke k ∷ ms) h = absurd h
    flown lx AwaitingReestablish (Ready z ∷ ms) h = absurd h
    flown lx AwaitingReestablish (Shutdown z ∷ ms) h = absurd h
    flown lx AwaitingReestablish (Close z ∷ ms) h = absurd h
    flown lx AwaitingReestablish (Again m ∷ ms) h = (tt, carried lx ms h.1)
    flown lx Connected ms h = carried lx ms h

module _ (a b : Signer) (channel : List ℕ) (x y : End) where
  -- the same updates, where the last signature is due
  agree_so : (lx ly : ConnectionState) (k : CommitmentSigned) (ms ns : List Notice)
      → Flows lx ly (side_of a x) (side_of b y) ms → Flows ly lx (side_of b y) (side_of a x) ns
      → IsDue (sender (side_of a x)) (all_sent y.dance.log.received) y.dance.log.acknowledged.own
      y.dance.numbers.commitment k → AgreesOn x y
  agree_so lx ly k ms ns f g d =
      let l = x.dance.log in
      let m = y.dance.log in
      let own : (to_accept y).own ≡ (machine.turned (party x).signed).own =
      sym (take-sent m.acknowledged.own m.own)
      ∙ sym (fronts l.signed.peer m.acknowledged.own l.current.peer (all_sent l.received) (all_sent m.own) g.agree
      (sym d.knows) f.within.peer_signed) ∙ take-sent l.signed.peer l.received in
      let peer : (to_accept y).peer ≡ (machine.turned (party x).signed).peer =
      d.covers ∙ take-sent l.signed.own l.own in
      let updates : to_accept y ≡ machine.turned (party x).signed =
      ap (λ us. record { own = us; peer = all_sent m.received }) own
      ∙ ap (λ us. record { own = all_sent (take l.signed.peer l.received); peer = us }) peer in
      record {
        updates = updates;
        balances =
            turned_views m.opening m.role (to_accept y) (party x).signed (ap sent_pair updates)
            ∙ ap (λ r. view_for m.opening r (party x).signed) f.roles
            ∙ ap (λ o. view_for o l.role (party x).signed) f.same;
      }

  in_front_by : (lx : ConnectionState) (ms ns : List Notice) → Carries lx (side_of a x) (side_of b y) ms
      → Flows lx Connected (side_of a x) (side_of b y) ms → Flows Connected lx (side_of b y) (side_of a x) ns
      → AgreesInFront x y (messages_of channel ms)
  in_front_by lx [] ns h f g = tt
  in_front_by lx (Update u ∷ ms) ns h f g = no_update channel (λ s. AgreesOn x y) u
  in_front_by lx (Sign k ∷ ms) ns h f g =
      agree_so lx Connected k (Sign k ∷ ms) ns f g (front_reads lx (side_of b y) (side_of a x) (Sign k) ms h).0
  in_front_by lx (Revoke k ∷ ms) ns h f g = tt
  in_front_by lx (Ready z ∷ ms) ns h f g = tt
  in_front_by lx (Shutdown z ∷ ms) ns h f g = tt
  in_front_by lx (Close z ∷ ms) ns h f g = tt
  in_front_by lx (Again m ∷ ms) ns h f g = tt

  in_front_so : (lx ly : ConnectionState) (ms ns : List Notice) → Flows lx ly (side_of a x) (side_of b y) ms
      → Flows ly lx (side_of b y) (side_of a x) ns → AgreesInFront x y (messages_of channel ms)
  in_front_so lx Down ms ns f g = subst (λ os. AgreesInFront x y (messages_of channel os)) (sym f.flight) tt
  in_front_so lx AwaitingReestablish [] ns f g = tt
  in_front_so lx AwaitingReestablish (Update u ∷ ms) ns f g = absurd f.flight
  in_front_so lx AwaitingReestablish (Sign k ∷ ms) ns f g = absurd f.flight
  in_front_so lx AwaitingReestablish (Revoke k ∷ ms) ns f g = absurd f.flight
  in_front_so lx AwaitingReestablish (Ready z ∷ ms) ns f g = absurd f.flight
  in_front_so lx AwaitingReestablish (Shutdown z ∷ ms) ns f g = absurd f.flight
  in_front_so lx AwaitingReestablish (Close z ∷ ms) ns f g = absurd f.flight
  in_front_so lx AwaitingReestablish (Again m ∷ ms) ns f g = tt
  in_front_so lx Connected ms ns f g = in_front_by lx ms ns f.flight f g

  signs : (lx ly : ConnectionState) (to_x to_y : List Notice) (said_x said_y : List Message)
      → Hold a b channel lx ly x y to_x to_y said_x said_y → Signs a b x y (messages_of channel to_y)
  signs lx ly to_x to_y said_x said_y h = record {
    covered = flown channel (SignsCovered a b x y) (side_of a x) (side_of b y)
        (λ n le next. last_so a b lx ly channel x y to_x to_y said_x said_y h n le next) lx ly to_y
        h.kept.there.flight;
    in_front = in_front_so lx ly to_y to_x h.kept.there h.kept.back;
  }

both_sign_at : (a b : Signer) (p : Ends) → Sound a b p → BothSign a b p
both_sign_at a b p h = (
  subst (Signs a b p.x p.y) (sym h.in_y)
      (signs a b h.channel p.x p.y p.x_line p.y_line h.to_x h.to_y p.said_x p.said_y h.hold),
  subst (Signs b a p.y p.x) (sym h.in_x)
      (signs b a h.channel p.y p.x p.y_line p.x_line h.to_y h.to_x p.said_y p.said_x
      (flip a b h.channel p.x_line p.y_line p.x p.y h.to_x h.to_y p.said_x p.said_y h.hold)),
)

pub both_sign : (a b : Signer) (s : OpenSpec) (c : Config) (funder fundee : Opened) (steps : List Step)
    → ArePartners a b
    → Opens a b s c funder fundee → BothSign a b (run a b steps (opened funder fundee))
both_sign a b s c funder fundee steps keys o =
    both_sign_at a b (run a b steps (opened funder fundee)) (at_end a b s c funder fundee steps keys o)
