-- What every turn of an end keeps, and that what it sends can be written.
use Rattle.std.proofs.Common.{◌≡◌, ℕ, ◌+◌, ◌-◌, ◌<◌, ◌≤◌, List, [], ◌∷◌, ◌++◌, length, take, map}
use Rattle.std.proofs.Common.{refl}
use Rattle.std.proofs.Common.{sym, ap, ◌∙◌, subst, arith, length-append, Bool, true, false, cond, not, ◌==◌, ◌||◌, ◌&&◌}
use Rattle.std.proofs.Common.{nat_lt, nat_le, min, max, is_none, Option, Some, None, option_map, if◌then◌else◌, Result}
use Rattle.std.proofs.Common.{Ok}
use Rattle.std.proofs.Common.{Err}
use Rattle.std.proofs.lemmas.Bool.{ltb-false, eqb-true}
use Rattle.ln_bytes.specs.Endian.{big_bytes}
use Rattle.ln_bytes.specs.Same.{are_same}
use Rattle.ln_msgs.specs.declared.messages.message.Message.{Message}
use Rattle.ln_msgs.specs.declared.messages.message.Message.TheVariants as message
use Rattle.ln_msgs.specs.declared.messages.closing.ClosingSigned.{ClosingSigned}
use Rattle.ln_msgs.specs.declared.messages.closing.Shutdown.{Shutdown as ShutdownMessage}
use Rattle.ln_msgs.specs.declared.messages.commitments.ChannelReestablish.{ChannelReestablish}
use Rattle.ln_msgs.specs.declared.messages.commitments.CommitmentSigned.{CommitmentSigned}
use Rattle.ln_msgs.specs.declared.messages.commitments.RevokeAndAck.{RevokeAndAck}
use Rattle.ln_msgs.specs.declared.messages.opening.ChannelReady.{ChannelReady}
use Rattle.ln_refusals.specs.declared.refusal.Refusal.{Refusal}
use Rattle.ln_refusals.specs.declared.refusal.Refusal.TheVariants as refusal
use Rattle.ln_refusals.specs.declared.peer_rule.PeerRule.TheVariants as rule
use Rattle.ln_keys.specs.declared.role.Role.{Role}
use Rattle.ln_keys.specs.declared.role.Role.TheVariants.{Funder, Fundee}
use Rattle.ln_keys.specs.Role.{other_role}
use Rattle.ln_keys.specs.Signer.{Signer}
use Rattle.ln_log.specs.declared.opening.Opening.{Opening}
use Rattle.ln_log.specs.declared.update.Update.{Update as Change}
use Rattle.ln_log.specs.declared.update.Update.TheVariants as update
use Rattle.ln_log.specs.Opening.{IsFit, limits_of}
use Rattle.ln_log.specs.Limits.{first_fault, most_updates, is_at_update_limit, update_fault as rule_fault}
use Rattle.ln_log.specs.Updates.{removed, next_id}
use Rattle.std.proofs.Math.Nat.{min-le_left, min-le_right}
use Rattle.ln_log.specs.Log as log
use Rattle.ln_log.specs.Log.{Log, IsWithin, unacknowledged, taken_fault, peer_limit, removal_fault, length_fault}
use Rattle.ln_log.specs.Log.{proposal_fault}
use Rattle.ln_log.proofs.Grows.{may_propose, may_take}
use Rattle.ln_dance.specs.declared.dance.Later.{Later}
use Rattle.ln_dance.specs.declared.dance.Later.TheVariants.{Signature, Revocation}
use Rattle.ln_dance.specs.declared.resume.Resend.{Resend}
use Rattle.ln_dance.specs.declared.resume.Resend.TheVariants as resend
use Rattle.ln_dance.specs.Dance.{Dancer, owes, is_last, signed_message, revoked_message, learn_fault}
use Rattle.ln_dance.specs.Dance.{with_next_point}
use Rattle.ln_dance.specs.Messages.{update_message, add_of, fulfil_of, fail_of, malformed_of, fee_of}
use Rattle.ln_dance.specs.Resume.{resume_fault, lacks_signature, lacks_revocation, updates_again, signature_again}
use Rattle.ln_dance.specs.Resume.{revocation_again, signature_owed, revocation_owed, owed_by, owed, is_before_the_first}
use Rattle.ln_close.specs.declared.closing.FeeAnswer.{FeeAnswer}
use Rattle.ln_close.specs.declared.closing.FeeAnswer.TheVariants as answer
use Rattle.ln_close.specs.declared.closing.Closing.{Closing}
use Rattle.ln_close.specs.declared.closing.Fees.{Fees}
use Rattle.ln_close.specs.Closing.{may_start, started, after_shut, answer_to, is_fee, is_funder, nearest, within_both}
use Rattle.ln_close.specs.Closing.{behind_close, counter}
use Rattle.ln_channel.specs.declared.command.Command.{Command}
use Rattle.ln_channel.specs.declared.command.Command.TheVariants as command
use Rattle.ln_channel.specs.declared.output.Output.TheVariants as output
use Rattle.ln_channel.specs.Opening.{unless}
use Rattle.ln_channel.specs.End.{End, Turn, quiet, sending, completed, settled, answers_shutdown, owes_shutdown}
use Rattle.ln_channel.specs.End.{due_sent, due_fee, fee_sent, shutdown_message, shutdown_sent, has_begun, is_closed}
use Rattle.ln_channel.specs.End.{all_acknowledged, is_ready, closing_message, told_of}
use Rattle.ln_hooks.specs.declared.event.ChannelEvent.{ChannelEvent}
use Rattle.ln_channel.specs.Outputs.{numbered, events_of}
use Rattle.ln_channel.specs.Ledger.{next_event}
use Rattle.ln_channel.specs.Since.{own_since, peer_since}
use Rattle.ln_channel.specs.Taking.{takes, takes_ready, update_fault, update_row, early_fault, signature_fault}
use Rattle.ln_channel.specs.Taking.{accepting, accepts, learning, revokes, shutdown_at, answered}
use Rattle.ln_channel.specs.Taking.{answering, answered_end, range_in, message_row, completed_row}
use Rattle.ln_channel.specs.Commands.{ready_message, confirmed, confirm_fault, own_fault, propose_fault, proposes}
use Rattle.ln_channel.specs.Commands.{propose_row, sign_command_fault, signs_next, script_fault, shut_fault, shuts_down}
use Rattle.ln_channel.specs.Commands.{command_row}
use Rattle.ln_channel.specs.Config.{longest_script}
use Rattle.ln_channel.specs.Resume.{ready_again, one_again, owed_again, shutdown_again, fee_again, sent_again, resumed}
use Rattle.ln_channel.specs.Resume.{resume_row}
use Rattle.ln_channel_laws.specs.Widths.{IsUpdate, IsCommand}
use Rattle.ln_channel_laws.proofs.Offered.{AnswerFits, All, all-append, all-take, all-drop, all-when, Where, no_fault}
use Rattle.ln_channel_laws.proofs.Offered.{Sign}
use Rattle.ln_channel_laws.proofs.Offered.{Revoke, Ready, first_none, otherwise, where_true, negated, IsFee, Steady}
use Rattle.ln_channel_laws.proofs.Offered.{settled_steady, turn_steady, fee_steady, Origin, Fits, next_small}
use Rattle.ln_link_laws.specs.Handed.{IsMessage, AreKeys}
use Rattle.ln_link_laws.specs.Course.{IsSendable}
use Rattle.ln_link_laws.proofs.Few.{Few, proposed, received, signing, signed, accepted, learned, signed_few}
use Rattle.ln_link_laws.proofs.Kept.{AreFees, IsOrigin, Ordered, HasMore, HasBase, below_last, differ, with_more}
use Rattle.ln_link_laws.proofs.Kept.{base_proposed, base_received, base_covered}
use Rattle.ln_link_laws.proofs.Kept.{with_fees, with_point, with_signature, with_commitment, with_revocation}
use Rattle.ln_link_laws.proofs.Other.{IsOther, OtherFault, OtherAnswer, update_other, propose_other, sign_other}
use Rattle.ln_link_laws.proofs.Other.{signature_other, revocation_other, resume_other, confirm_other, shut_other}
use Rattle.ln_link_laws.proofs.Other.{fee_other}
use Rattle.ln_link_laws.proofs.Sent.{IsShort, update_said, ready_said, shutdown_said, signature_said, revocation_said}
use Rattle.ln_link_laws.proofs.Sent.{closing_said, range_short}
use Rattle.ln_link_laws.proofs.Heard.{ready_heard, revocation_heard, fee_heard}

-- ---- what an end has of its opening

pub record HasTerms (e : End) : Type 0 where
  pub channel : length e.dance.channel ≡ 32
  pub fees : AreFees e.closing.fees
  pub script : length e.terms.script ≤ 65499
  pub fit : IsFit e.dance.log.opening

pub terms_of : (o : Origin) (e : End) → IsOrigin o → Fits o e → HasTerms e
terms_of o e is h = record {
  channel = ap (λ (x : Origin). length x.channel) h.origin ∙ is.channel;
  fees = subst (λ (x : Origin). AreFees x.fees) (sym h.origin) is.fees;
  script = h.script;
  fit = subst (λ (x : Origin). IsFit x.opening) (sym h.origin) is.fit;
}

accepts_few : (o : Opening) (r : Role) → IsFit o → (limits_of o r).accepted ≤ 483
accepts_few o Funder h = h.fundee_accepts
accepts_few o Fundee h = h.funder_accepts

within_of : (e : End) → Ordered e → IsWithin e.dance.log
within_of e h = record {
  own_current = h.own_current;
  own_acknowledged = h.own_acknowledged;
  own_signed = h.own_signed;
  peer_acknowledged = h.peer_acknowledged;
  peer_signed = h.peer_signed;
  peer_current = h.peer_current;
}

unnegated : (b : Bool) → not b ≡ true → b ≡ false
unnegated true e = absurd (cc)
unnegated false e = refl

counted : (xs : List (List ℕ)) (n : ℕ) → length xs ≡ n → n ≤ 966 → length xs ≤ 966
counted xs n e le = omega (arith, e, le)

-- ---- the answer to a closing fee is a fee

abbrev IsBelow : FeeAnswer → Type 0
IsBelow answer.Nothing = Unit {0}
IsBelow (answer.Close fee) = IsFee fee
IsBelow (answer.EchoAndClose fee) = IsFee fee
IsBelow (answer.Propose fee) = IsFee fee

abbrev IfBelow : Result FeeAnswer Refusal → Type 0
IfBelow (Ok a) = IsBelow a
IfBelow (Err r) = Unit {0}

one_of : (b : Bool) (p q : Result FeeAnswer Refusal) → IfBelow p → IfBelow q → IfBelow (cond b p q)
one_of true p q h g = h
one_of false p q h g = g

both_below : (f : Fees) (fee : ℕ) (range : Option (ℕ × ℕ)) → IsFee f.greatest → IfBelow (within_both f fee range)
both_below f fee None most = tt
both_below f fee (Some r) most =
    let least = max f.least r.0 in
    let greatest = min f.greatest r.1 in
    one_of (nat_le least greatest) (Ok (answer.Propose (nearest least greatest fee))) (Err refusal.FeeOutside)
    (omega (arith, most, min-le_right (max fee least) greatest, min-le_left f.greatest r.1)) tt

behind_below : (closed : Option ℕ) (fee : ℕ) (rest : Result FeeAnswer Refusal) → IfBelow rest
    → IfBelow (behind_close closed fee rest)
behind_below None fee rest h = h
behind_below (Some agreed) fee rest h = one_of (agreed == fee) (Ok answer.Nothing) (Err refusal.FeeOutside) tt tt

answers_below : (c : Closing) (fee : ℕ) (range : Option (ℕ × ℕ)) → IsFee fee → AreFees c.fees
    → IfBelow (answer_to c fee range)
answers_below c fee range lt fees =
    let own = is_fee c.own_fee fee in
    let peer = is_fee c.peer_fee fee in
    let taken = nat_le c.fees.least fee && nat_le fee c.fees.greatest in
    let first_answer = cond (is_none c.own_fee) (within_both c.fees fee range) (Err refusal.FeeOutside) in
    let counters = counter c fee range in
    let takes = cond taken (Ok (answer.EchoAndClose fee)) counters in
    let knows = cond peer (Ok answer.Nothing) takes in
    behind_below c.closed fee (cond own (Ok (answer.Close fee)) knows)
    (one_of own (Ok (answer.Close fee)) knows lt
    (one_of peer (Ok answer.Nothing) takes tt
    (one_of taken (Ok (answer.EchoAndClose fee)) counters lt
    (one_of (is_funder c.role) (Err refusal.FeeOutside) first_answer tt
    (one_of (is_none c.own_fee) (within_both c.fees fee range) (Err refusal.FeeOutside)
    (both_below c.fees fee range fees.greatest) tt)))))

module _ (k : Signer) (keys : AreKeys k) where
  abbrev pub TurnKeeps : Turn → Type 0
  TurnKeeps t = HasMore t.end × All IsSendable t.handed.sent × All IsSendable t.handed.told

  abbrev pub AnswerKeeps : Result Turn Refusal → Type 0
  AnswerKeeps (Ok t) = TurnKeeps t
  AnswerKeeps (Err r) = IsOther r

  unless_keeps : (f : Option Refusal) (t : Turn) → OtherFault f → (f ≡ None → TurnKeeps t) → AnswerKeeps (unless f t)
  unless_keeps None t other h = h refl
  unless_keeps (Some r) t other h = other

  either : (b : Bool) (p q : End) → HasMore p → HasMore q → HasMore (cond b p q)
  either true p q h g = h
  either false p q h g = g

  -- ---- the end of a turn

  starts : (c : Closing) (b : Bool) → Where IsFee c.own_fee → IsFee c.fees.first
      → Where IsFee (cond b (record c { own_fee = Some c.fees.first }) c).own_fee
  starts c true h first = first
  starts c false h first = h

  closes : (c : Closing) (b : Bool) → Where IsFee c.closed
      → Where IsFee (cond b (record c { own_fee = Some c.fees.first }) c).closed
  closes c true h = h
  closes c false h = h

  settled_ordered : (e : End) → HasTerms e → HasMore e → Ordered (settled e)
  settled_ordered e t h =
      begun (has_begun n) n (owed (owes_shutdown e)) (same (owes_shutdown e))
    where
      n : End
      n = answers_shutdown e

      owed : (b : Bool) → Ordered (cond b (record e { closing = after_shut e.closing }) e)
      owed true = h.ordered
      owed false = h.ordered

      same : (b : Bool) → IsFee (cond b (record e { closing = after_shut e.closing }) e).closing.fees.first
      same true = t.fees.first
      same false = t.fees.first

      begun : (b : Bool) (m : End) → Ordered m → IsFee m.closing.fees.first
          → Ordered (cond b (record m { closing = started m.closing }) m)
      begun true m o first =
          with_fees _ _ _ _ _ _ _ _ _ o (started m.closing).own_fee (started m.closing).closed
          (starts m.closing (may_start m.closing) o.own_fee first) (closes m.closing (may_start m.closing) o.closed)
      begun false m o first = o

  settled_log : (e : End) → (settled e).dance ≡ e.dance
  settled_log e = begun (has_begun (answers_shutdown e)) (answers_shutdown e) ∙ owed (owes_shutdown e)
    where
      owed : (b : Bool) → (cond b (record e { closing = after_shut e.closing }) e).dance ≡ e.dance
      owed true = refl
      owed false = refl

      begun : (b : Bool) (m : End) → (cond b (record m { closing = started m.closing }) m).dance ≡ m.dance
      begun true m = refl
      begun false m = refl

  settled_keeps : (e : End) → HasTerms e → HasMore e → HasMore (settled e)
  settled_keeps e t h = record {
    steady = settled_steady e h.steady;
    ordered = settled_ordered e t h;
    short = subst (λ (d : Dancer). All IsShort d.log.own) (sym (settled_log e)) h.short;
    few = subst (λ (d : Dancer). Few d.log) (sym (settled_log e)) h.few;
    base = subst (λ (d : Dancer). HasBase d.log) (sym (settled_log e)) h.base;
  }

  -- ---- what is sent

  fee_said : (e : End) (fee : Option ℕ) → length e.dance.channel ≡ 32 → Where IsFee fee
      → All IsSendable (fee_sent k e fee)
  fee_said e None id h = tt
  fee_said e (Some fee) id h = (
    closing_said (closing_message k e fee) (big_bytes 8 e.closing.fees.least ++ big_bytes 8 e.closing.fees.greatest) id
        h (keys.closings fee h) (range_short e.closing.fees.least e.closing.fees.greatest) refl,
    tt,
  )

  due_below : (e : End) → IsFee e.closing.fees.first → Where IsFee (due_fee e)
  due_below e first = by (has_begun e) (may_start e.closing)
    where
      by : (b c : Bool) → Where IsFee (cond b (cond c (Some e.closing.fees.first) None) None)
      by true true = first
      by true false = tt
      by false c = tt

  due_said : (e : End) → HasTerms e → All IsSendable (due_sent k e)
  due_said e t =
      let m = shutdown_message e in
      all-append IsSendable (shutdown_sent e) (fee_sent k (answers_shutdown e) (due_fee (answers_shutdown e)))
      (all-when IsSendable (owes_shutdown e) (output.Send (message.Shutdown m) ∷ []) []
      (shutdown_said m t.channel t.script refl, tt) tt)
      (fee_said (answers_shutdown e) (due_fee (answers_shutdown e)) (id (owes_shutdown e))
      (due_below (answers_shutdown e) (first (owes_shutdown e))))
    where
      id : (b : Bool) → length (cond b (record e { closing = after_shut e.closing }) e).dance.channel ≡ 32
      id true = t.channel
      id false = t.channel

      first : (b : Bool) → IsFee (cond b (record e { closing = after_shut e.closing }) e).closing.fees.first
      first true = t.fees.first
      first false = t.fees.first

  pub completed_keeps : (t : Turn) → HasTerms t.end → TurnKeeps t → TurnKeeps (completed k t)
  completed_keeps t terms h = (
    settled_keeps t.end terms h.0,
    all-append IsSendable t.handed.sent (due_sent k t.end) h.1 (due_said t.end terms),
    h.2,
  )

  pub completes_keeps : (o : Origin) (r : Result Turn Refusal) → IsOrigin o → AnswerFits k o r → AnswerKeeps r
      → AnswerKeeps (completed_row k r)
  completes_keeps o (Ok t) is fits h = completed_keeps t (terms_of o t.end is fits.0) h
  completes_keeps o (Err r) is fits h = h

  -- events are no messages
  numbered_said : (n : ℕ) (es : List ChannelEvent) → All IsSendable (numbered n es)
  numbered_said n [] = tt
  numbered_said n (e ∷ es) = (tt, numbered_said (n + 1) es)

  told_said : (own : Bool) (us : List Change) (e : End) → All IsSendable (told_of own us e)
  told_said own us e = (tt, numbered_said (next_event e.ledger) (events_of own us))

  -- ---- updates

  takes_keeps : (u : Change) (e : End) → HasTerms e → HasMore e → AnswerKeeps (update_row u e)
  takes_keeps u e t h =
      unless_keeps (update_fault e u) (quiet (takes u e)) (update_other e u) (λ none.
      let l = e.dance.log in
      let may = may_take l u (first_none (early_fault e u) (taken_fault l u) none).1 in
      let covered = h.ordered.peer_signed in
      let current = h.ordered.peer_current in (
        record {
          steady = h.steady;
          ordered = with_more _ _ _ _ _ _ _ _ _ h.ordered (length l.own) (length (l.received ++ u ∷ [])) (omega arith)
              (omega (arith, length-append l.received (u ∷ [])));
          short = h.short;
          few = received l.own l.received l.signed l.acknowledged l.current h.few l.opening (other_role l.role)
              (take l.current.own l.own) u (accepts_few l.opening (other_role l.role) t.fit) may.none
              (omega (arith, covered, current)) current;
          base = base_received l h.base u (base_covered e h).peer_length;
        },
        tt,
        tt,
      ))

  -- the length that its message has room for
  short_by : (u : Change) → length_fault u ≡ None → IsShort u
  short_by (update.Add a) none = tt
  short_by (update.Fulfil f) none = tt
  short_by (update.Fail f) none =
      let over = nat_lt 65491 (length f.reason) in
      ltb-false 65491 (length f.reason) (no_fault over (refusal.PeerLimit rule.TooLong) none)
  short_by (update.Malformed m) none = tt
  short_by (update.Fee f) none = tt

  short_so : (l : Log) (u : Change) → proposal_fault l u ≡ None → IsShort u
  short_so l u none =
      let numbers = if is_at_update_limit l.own then Some refusal.NumbersSpent else None in
      let removal = removal_fault l (removed u) in
      let limits = option_map peer_limit (rule_fault l.opening l.role l.own (take l.current.peer l.received)
      (take l.acknowledged.peer l.received) u) in
      let at_removal = (first_none numbers (first_fault removal (first_fault limits (length_fault u))) none).1 in
      let at_limits = (first_none removal (first_fault limits (length_fault u)) at_removal).1 in
      short_by u (first_none limits (length_fault u) at_limits).1

  proposes_keeps : (u : Change) (e : End) → (IsShort u → length e.dance.log.own < most_updates → IsUpdate u)
      → HasTerms e → HasMore e → AnswerKeeps (propose_row u e)
  proposes_keeps u e wide t h =
      unless_keeps (propose_fault e u) (sending (update_message e.dance.channel u) (proposes u e)) (propose_other e u)
      (λ none.
      let l = e.dance.log in
      let may = (first_none (own_fault e u) (proposal_fault l u) none).1 in
      let grow = may_propose l u may in
      let acked = h.ordered.own_acknowledged in
      let covered = h.ordered.own_signed in
      let small = short_so l u may in (
        record {
          steady = h.steady;
          ordered = with_more _ _ _ _ _ _ _ _ _ h.ordered (length (l.own ++ u ∷ [])) (length l.received)
              (omega (arith, length-append l.own (u ∷ []))) (omega arith);
          short = all-append IsShort l.own (u ∷ []) h.short (small, tt);
          few = proposed l.own l.received l.signed l.acknowledged l.current h.few l.opening l.role
              (take l.acknowledged.peer l.received) u (accepts_few l.opening l.role t.fit) grow.none covered
              (omega (arith, acked, covered));
          base = base_proposed l h.base u (base_covered e h).own_length;
        },
        (update_said e.dance.channel u t.channel (wide small grow.few) small, tt),
        tt,
      ))

  -- ---- signatures and revocations

  signature_keeps : (m : CommitmentSigned) (e : End) → HasTerms e → HasMore e
      → AnswerKeeps (message_row k (message.CommitmentSigned m) e)
  signature_keeps m e t h =
      unless_keeps (signature_fault k m e) (accepting k e.dance.log.current.own e (accepts e)) (signature_other k m e)
      (λ none.
      let l = e.dance.log in
      let n = e.dance.numbers in
      let ready = where_true (is_ready e) _ refusal.OutOfPlace none in
      let last = otherwise (is_last n.commitment) refusal.OutOfPlace _ ready.1 in
      let next = below_last n.commitment h.ordered.commitment last.0 in (
        record {
          steady = turn_steady k e (within_of e h.ordered) h.steady (Sign m) refl;
          ordered = with_commitment _ _ _ _ _ _ _ _ _ h.ordered next;
          short = h.short;
          few = accepted l.own l.received l.signed l.acknowledged l.current h.few
              (record { own = l.acknowledged.own; peer = length l.received }) h.ordered.peer_current;
          base = h.base;
        },
        (
          revocation_said (revoked_message k e.dance) t.channel (keys.secrets n.commitment (omega (arith, next)))
              (keys.points (n.commitment + 2) (omega (arith, next))) refl,
          tt,
        ),
        told_said true (own_since l.current.own (accepts e).dance.log) (accepts e),
      ))

  revocation_keeps : (m : RevokeAndAck) (e : End) → IsMessage (message.RevokeAndAck m) → HasMore e
      → AnswerKeeps (message_row k (message.RevokeAndAck m) e)
  revocation_keeps m e is h =
      unless_keeps (learn_fault k m e.dance) (learning e.dance.log.acknowledged.peer (revokes m e))
      (revocation_other k m e.dance) (λ none.
      let l = e.dance.log in
      let n = e.dance.numbers in
      let heard = revocation_heard m is in
      let owed = where_true (owes e.dance) _ refusal.NothingToRevoke none in (
        record {
          steady = turn_steady k e (within_of e h.ordered) h.steady (Revoke m) refl;
          ordered = with_revocation _ _ _ _ _ _ _ _ _ h.ordered
              (differ n.signed n.revoked (unnegated (n.signed == n.revoked) owed.0)) m.secret m.next_point heard.0
              heard.1;
          short = h.short;
          few = learned l.own l.received l.signed l.acknowledged l.current h.few l.signed h.ordered.own_acknowledged;
          base = h.base;
        },
        tt,
        told_said false (peer_since l.acknowledged.peer (revokes m e).dance.log) (revokes m e),
      ))

  -- a signature has as many for HTLCs as are live, on either side at most 483
  sign_keeps : (e : End) → HasTerms e → HasMore e → AnswerKeeps (command_row k command.Sign e)
  sign_keeps e t h =
      unless_keeps (sign_command_fault e) (record {
        end = signs_next e;
        handed = record {
          sent = output.Send (message.CommitmentSigned (signed_message k e.dance)) ∷ [];
          told = output.Signed (length e.dance.log.own) ∷ [];
        };
      }) (sign_other e) (λ none.
      let d = e.dance in
      let l = d.log in
      let n = d.numbers in
      let ready = where_true (is_ready e) _ refusal.NotReady none in
      let free = otherwise (owes d) refusal.SignatureOutstanding _ ready.1 in
      let same = eqb-true n.signed n.revoked (negated (n.signed == n.revoked) free.0) in
      let spent = if is_last n.signed then Some refusal.NumbersSpent else None in
      let last = (first_none (log.sign_fault l) spent free.1).1 in
      let next = below_last n.signed h.ordered.signed (no_fault (is_last n.signed) refusal.NumbersSpent last) in
      let acked = h.ordered.own_acknowledged in
      let covered = h.ordered.own_signed in
      let whole : l.acknowledged.own ≤ length l.own = omega (arith, acked, covered) in
      let both = signing l.own l.received l.signed l.acknowledged l.current h.few whole in
      let few = signed_few l.opening l.role (record {
        own = take (length l.own) l.own;
        peer = take l.current.peer l.received;
      }) both.0 both.1 in
      let point = h.ordered.next_point in (
        record {
          steady = h.steady;
          ordered = with_signature _ _ _ _ _ _ _ _ _ h.ordered next same;
          short = h.short;
          few = signed l.own l.received l.signed l.acknowledged l.current h.few whole;
          base = h.base;
        },
        (
          signature_said (signed_message k d) t.channel
              (keys.signatures (n.signed + 1) d.peer.next_point _ (omega (arith, next)) point)
              (counted _ _ (keys.htlcs (n.signed + 1) d.peer.next_point _) few)
              (keys.of_htlcs (n.signed + 1) d.peer.next_point _ (omega (arith, next)) point) refl,
          tt,
        ),
        (tt, tt),
      ))

  -- ---- channel_ready, shutdown

  ready_keeps : (m : ChannelReady) (e : End) → IsMessage (message.ChannelReady m) → HasMore e
      → AnswerKeeps (message_row k (message.ChannelReady m) e)
  ready_keeps m e is h =
      let s : Steady (takes_ready m e) = turn_steady k e (within_of e h.ordered) h.steady (Ready m) refl in (
        record {
          steady = s;
          ordered = ordered (e.readiness.ready_received || is_closed e);
          short = short (e.readiness.ready_received || is_closed e);
          few = few (e.readiness.ready_received || is_closed e);
          base = base (e.readiness.ready_received || is_closed e);
        },
        tt,
        tt,
      )
    where
      now : End
      now = record e {
        readiness = record {
          short_id = e.readiness.short_id;
          ready_sent = e.readiness.ready_sent;
          ready_received = true;
        };
        dance = with_next_point m.second_point e.dance;
      }

      ordered : (b : Bool) → Ordered (cond b e now)
      ordered true = h.ordered
      ordered false = with_point _ _ _ _ _ _ _ _ _ h.ordered m.second_point (ready_heard m is)

      short : (b : Bool) → All IsShort (cond b e now).dance.log.own
      short true = h.short
      short false = h.short

      few : (b : Bool) → Few (cond b e now).dance.log
      few true = h.few
      few false = h.few

      base : (b : Bool) → HasBase (cond b e now).dance.log
      base true = h.base
      base false = h.base

  shutdown_keeps : (known : Option (List ℕ)) (m : ShutdownMessage) (e : End) → HasMore e
      → AnswerKeeps (shutdown_at known m e)
  shutdown_keeps None m e h =
      (record { steady = h.steady; ordered = h.ordered; short = h.short; few = h.few; base = h.base }, tt, tt)
  shutdown_keeps (Some script) m e h = by (are_same script m.script)
    where
      by : (b : Bool) → AnswerKeeps (cond b (Ok (quiet e)) (Err refusal.OutOfPlace))
      by true = (h, tt, tt)
      by false = refl

  -- ---- closing fees

  fee_keeps : (m : ClosingSigned) (e : End) (a : FeeAnswer) → HasTerms e → HasMore e
      → answer_to e.closing m.fee_satoshis (range_in m) ≡ Ok a → IsFee m.fee_satoshis → IsBelow a
      → TurnKeeps (answering k a (answered_end m a e))
  fee_keeps m e answer.Nothing t h is fee below = (
    record {
      steady = fee_steady k e (within_of e h.ordered) h.steady m answer.Nothing is fee;
      ordered = h.ordered;
      short = h.short;
      few = h.few;
      base = h.base;
    },
    tt,
    tt,
  )
  fee_keeps m e (answer.Close agreed) t h is fee below = (
    record {
      steady = fee_steady k e (within_of e h.ordered) h.steady m (answer.Close agreed) is fee;
      ordered = with_fees _ _ _ _ _ _ _ _ _ h.ordered e.closing.own_fee (Some agreed) h.ordered.own_fee below;
      short = h.short;
      few = h.few;
      base = h.base;
    },
    tt,
    (tt, (tt, tt)),
  )
  fee_keeps m e (answer.EchoAndClose agreed) t h is fee below = (
    record {
      steady = fee_steady k e (within_of e h.ordered) h.steady m (answer.EchoAndClose agreed) is fee;
      ordered = with_fees _ _ _ _ _ _ _ _ _ h.ordered (Some agreed) (Some agreed) below below;
      short = h.short;
      few = h.few;
      base = h.base;
    },
    fee_said (answered_end m (answer.EchoAndClose agreed) e) (Some agreed) t.channel below,
    (tt, (tt, tt)),
  )
  fee_keeps m e (answer.Propose proposed) t h is fee below = (
    record {
      steady = fee_steady k e (within_of e h.ordered) h.steady m (answer.Propose proposed) is fee;
      ordered = with_fees _ _ _ _ _ _ _ _ _ h.ordered (Some proposed) e.closing.closed below h.ordered.closed;
      short = h.short;
      few = h.few;
      base = h.base;
    },
    fee_said (answered_end m (answer.Propose proposed) e) (Some proposed) t.channel below,
    tt,
  )

  answered_keeps : (m : ClosingSigned) (e : End) (r : Result FeeAnswer Refusal) → HasTerms e → HasMore e
      → answer_to e.closing m.fee_satoshis (range_in m) ≡ r → IsFee m.fee_satoshis → IfBelow r → OtherAnswer r
      → AnswerKeeps (answered k m e r)
  answered_keeps m e (Ok a) t h is fee below other = fee_keeps m e a t h is fee below
  answered_keeps m e (Err r) t h is fee below other = other

  closing_keeps : (m : ClosingSigned) (e : End) (begun right : Bool) → IsMessage (message.ClosingSigned m) → HasTerms e
      → HasMore e
      → AnswerKeeps (cond (not begun) (Err refusal.OutOfPlace)
      (cond right (answered k m e (answer_to e.closing m.fee_satoshis (range_in m))) (Err refusal.SignatureWrong)))
  closing_keeps m e true true is t h =
      let fee = fee_heard m is in
      answered_keeps m e (answer_to e.closing m.fee_satoshis (range_in m)) t h refl fee
      (answers_below e.closing m.fee_satoshis (range_in m) fee t.fees)
      (fee_other e.closing m.fee_satoshis (range_in m))
  closing_keeps m e true false is t h = refl
  closing_keeps m e false right is t h = refl

  -- ---- by message

  pub row_keeps : (m : Message) (e : End) → IsMessage m → HasTerms e → HasMore e → AnswerKeeps (message_row k m e)
  row_keeps (message.ChannelReady m) e is t h = ready_keeps m e is h
  row_keeps (message.UpdateAddHtlc m) e is t h = takes_keeps (update.Add (add_of m)) e t h
  row_keeps (message.UpdateFulfillHtlc m) e is t h = takes_keeps (update.Fulfil (fulfil_of m)) e t h
  row_keeps (message.UpdateFailHtlc m) e is t h = takes_keeps (update.Fail (fail_of m)) e t h
  row_keeps (message.UpdateFailMalformedHtlc m) e is t h = takes_keeps (update.Malformed (malformed_of m)) e t h
  row_keeps (message.UpdateFee m) e is t h = takes_keeps (update.Fee (fee_of m)) e t h
  row_keeps (message.CommitmentSigned m) e is t h = signature_keeps m e t h
  row_keeps (message.RevokeAndAck m) e is t h = revocation_keeps m e is h
  row_keeps (message.Shutdown m) e is t h = shutdown_keeps e.terms.peer_script m e h
  row_keeps (message.ClosingSigned m) e is t h =
      closing_keeps m e (has_begun e) (k.accepts_close m.fee_satoshis m.signature) is t h
  row_keeps (message.Warning m) e is t h = refl
  row_keeps (message.Init m) e is t h = refl
  row_keeps (message.Error m) e is t h = refl
  row_keeps (message.Ping m) e is t h = refl
  row_keeps (message.Pong m) e is t h = refl
  row_keeps (message.OpenChannel m) e is t h = refl
  row_keeps (message.AcceptChannel m) e is t h = refl
  row_keeps (message.FundingCreated m) e is t h = refl
  row_keeps (message.FundingSigned m) e is t h = refl
  row_keeps (message.ChannelReestablish m) e is t h = refl

  -- ---- what is sent again

  abbrev ResendsSaid : Resend → Type 0
  ResendsSaid r = All IsSendable (one_again r)

  owed_said : (rs : List Resend) → All ResendsSaid rs → All IsSendable (owed_again rs)
  owed_said [] h = tt
  owed_said (r ∷ rs) h = all-append IsSendable (one_again r) (owed_again rs) h.0 (owed_said rs h.1)

  updates_said : (channel : List ℕ) (us : List Change) → length channel ≡ 32 → All IsUpdate us → All IsShort us
      → All IsSendable (map output.Send (map (update_message channel) us))
  updates_said channel [] id h s = tt
  updates_said channel (u ∷ us) id h s = (update_said channel u id h.0 s.0, updates_said channel us id h.1 s.1)

  of_unacknowledged : (P : Change → Type 0) (l : Log) → All P l.own → All P (unacknowledged l)
  of_unacknowledged P l h = all-drop P l.acknowledged.own (take l.signed.own l.own) (all-take P l.signed.own l.own h)

  signature_again_said : (m : ChannelReestablish) (e : End) → All IsUpdate e.dance.log.own → HasTerms e → HasMore e
      → All ResendsSaid (signature_owed k m e.dance)
  signature_again_said m e wide t h =
      let d = e.dance in
      let l = d.log in
      let n = d.numbers in
      let last = h.ordered.signed in
      let point = h.ordered.next_point in
      let few = signed_few l.opening l.role (record {
        own = take l.signed.own l.own;
        peer = take l.signed.peer l.received;
      }) h.few.signed_own h.few.signed_peer in
      all-when ResendsSaid (lacks_signature m d) (updates_again d ++ resend.Signature (signature_again k d) ∷ []) [] (
        updates_said d.channel (unacknowledged l) t.channel (of_unacknowledged IsUpdate l wide)
            (of_unacknowledged IsShort l h.short),
        (
          (
            signature_said (signature_again k d) t.channel
                (keys.signatures n.signed d.peer.next_point _ (omega (arith, last)) point)
                (counted _ _ (keys.htlcs n.signed d.peer.next_point _) few)
                (keys.of_htlcs n.signed d.peer.next_point _ (omega (arith, last)) point) refl,
            tt,
          ),
          tt,
        ),
      ) tt

  revocation_again_said : (m : ChannelReestablish) (e : End) → HasTerms e → HasMore e
      → All ResendsSaid (revocation_owed k m e.dance)
  revocation_again_said m e t h =
      let d = e.dance in
      let n = d.numbers in
      let last = h.ordered.commitment in
      all-when ResendsSaid (lacks_revocation m d) (resend.Revocation (revocation_again k d) ∷ []) [] (
        (
          revocation_said (revocation_again k d) t.channel (keys.secrets (n.commitment - 1) (omega (arith, last)))
              (keys.points (n.commitment + 1) (omega (arith, last))) refl,
          tt,
        ),
        tt,
      ) tt

  owed_by_said : (later : Later) (m : ChannelReestablish) (e : End) → All IsUpdate e.dance.log.own → HasTerms e
      → HasMore e → All ResendsSaid (owed_by later k m e.dance)
  owed_by_said Signature m e wide t h =
      all-append ResendsSaid (revocation_owed k m e.dance) (signature_owed k m e.dance) (revocation_again_said m e t h)
      (signature_again_said m e wide t h)
  owed_by_said Revocation m e wide t h =
      all-append ResendsSaid (signature_owed k m e.dance) (revocation_owed k m e.dance)
      (signature_again_said m e wide t h) (revocation_again_said m e t h)

  again_said : (m : ChannelReestablish) (e : End) → All IsUpdate e.dance.log.own → HasTerms e → HasMore e
      → All IsSendable (sent_again k m e)
  again_said m e wide t h =
      let ready = ready_again k m e in
      let lacking = owed_again (owed k m e.dance) in
      let shutdown = shutdown_again e in
      all-append IsSendable ((ready ++ lacking) ++ shutdown) (fee_again k e)
      (all-append IsSendable (ready ++ lacking) shutdown
      (all-append IsSendable ready lacking
      (all-when IsSendable (is_before_the_first m e.dance && e.readiness.ready_sent)
      (output.Send (message.ChannelReady (ready_message k e)) ∷ []) []
      (ready_said (ready_message k e) t.channel (keys.points 1 (omega arith)) refl, tt) tt)
      (owed_said (owed k m e.dance) (owed_by_said e.dance.later m e wide t h)))
      (all-when IsSendable e.closing.shut (output.Send (message.Shutdown (shutdown_message e)) ∷ []) []
      (shutdown_said (shutdown_message e) t.channel t.script refl, tt) tt))
      (fee_said e e.closing.own_fee t.channel h.ordered.own_fee)

  pub resume_keeps : (m : ChannelReestablish) (e : End) → All IsUpdate e.dance.log.own → HasTerms e → HasMore e
      → AnswerKeeps (resume_row k m e)
  resume_keeps m e wide t h =
      unless_keeps (resume_fault k m e.dance) (completed k (resumed k m e)) (resume_other k m e.dance)
      (λ none. completed_keeps (resumed k m e) t (h, again_said m e wide t h, tt))

  -- ---- by command

  shuts_keeps : (script : List ℕ) (e : End) → HasTerms e → HasMore e
      → AnswerKeeps (command_row k (command.Shutdown script) e)
  shuts_keeps script e t h =
      let n = shuts_down script e in
      let turn = sending (message.Shutdown (shutdown_message n)) n in
      unless_keeps (shut_fault script e) (completed k turn) (shut_other script e) (λ none.
      let unshut = otherwise e.closing.shut refusal.Shut _ none in
      let may = where_true (all_acknowledged e.dance.log) (script_fault script) refusal.UpdatesPending unshut.1 in
      let short = ltb-false longest_script (length script)
      (no_fault (nat_lt longest_script (length script)) (refusal.PeerLimit rule.TooLong) may.1) in
      completed_keeps turn (record { channel = t.channel; fees = t.fees; script = short; fit = t.fit }) (
        record { steady = h.steady; ordered = h.ordered; short = h.short; few = h.few; base = h.base },
        (shutdown_said (shutdown_message n) t.channel short refl, tt),
        tt,
      ))

  pub command_keeps : (c : Command) (e : End) → IsCommand c → HasTerms e → HasMore e → AnswerKeeps (command_row k c e)
  command_keeps (command.Confirm id) e wide t h =
      unless_keeps (confirm_fault e) (sending (message.ChannelReady (ready_message k e)) (confirmed id e))
      (confirm_other e) (λ none. (
        record { steady = h.steady; ordered = h.ordered; short = h.short; few = h.few; base = h.base },
        (ready_said (ready_message k e) t.channel (keys.points 1 (omega arith)) refl, tt),
        tt,
      ))
  command_keeps (command.Add amount hash expiry onion origin) e wide t h =
      proposes_keeps (update.Add (record {
        id = next_id e.dance.log.own;
        amount = amount;
        hash = hash;
        expiry = expiry;
        onion = onion;
        origin = origin;
      })) e (λ small few. record {
        id = next_small e.dance.log.own few;
        amount = wide.amount_fits;
        hash = wide.hash_fits;
        expiry = wide.expiry_fits;
        onion = wide.onion_fits;
        origin = wide.origin_fits;
      }) t h
  command_keeps (command.Fulfil id preimage) e wide t h =
      proposes_keeps (update.Fulfil (record { id = id; preimage = preimage })) e (λ small few. wide) t h
  command_keeps (command.Fail id reason) e wide t h =
      proposes_keeps (update.Fail (record { id = id; reason = reason })) e
      (λ small few. record { id = wide; reason = omega (arith, small) }) t h
  command_keeps (command.Malformed id sha code) e wide t h =
      proposes_keeps (update.Malformed (record { id = id; sha256_of_onion = sha; failure_code = code })) e
      (λ small few. wide) t h
  command_keeps (command.Fee feerate) e wide t h =
      proposes_keeps (update.Fee (record { feerate = feerate })) e (λ small few. wide) t h
  command_keeps command.Sign e wide t h = sign_keeps e t h
  command_keeps (command.Shutdown script) e wide t h = shuts_keeps script e t h
  command_keeps (command.Decide event mark) e wide t h = refl
  command_keeps (command.Forget id) e wide t h = refl
  command_keeps (command.Resume event mark) e wide t h = refl
