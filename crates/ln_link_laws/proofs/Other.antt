-- No rule refuses by 70: what a link answers so comes of a save alone.
use Rattle.std.proofs.Common.{◌≡◌, ℕ, ◌+◌, ◌*◌, List, [], length, take, refl, Bool, true, false, cond, not, ◌==◌, ◌||◌}
use Rattle.std.proofs.Common.{◌&&◌}
use Rattle.std.proofs.Common.{nat_lt, nat_le, is_none, Option, Some, None, option_map, Result, Ok, Err, min, max, subst}
use Rattle.ln_bytes.specs.Same.{are_same}
use Rattle.ln_bytes.specs.Tlv.{value_of}
use Rattle.ln_msgs.specs.declared.messages.message.Message.{Message}
use Rattle.ln_msgs.specs.declared.messages.message.Message.TheVariants as message
use Rattle.ln_msgs.specs.declared.messages.commitments.ChannelReestablish.{ChannelReestablish}
use Rattle.ln_msgs.specs.declared.messages.commitments.CommitmentSigned.{CommitmentSigned}
use Rattle.ln_msgs.specs.declared.messages.commitments.RevokeAndAck.{RevokeAndAck}
use Rattle.ln_msgs.specs.declared.messages.opening.AcceptChannel.{AcceptChannel}
use Rattle.ln_msgs.specs.declared.messages.opening.FundingCreated.{FundingCreated}
use Rattle.ln_msgs.specs.declared.messages.opening.OpenChannel.{OpenChannel}
use Rattle.ln_refusals.specs.declared.refusal.Refusal.{Refusal}
use Rattle.ln_refusals.specs.declared.refusal.Refusal.TheVariants as refusal
use Rattle.ln_refusals.specs.declared.peer_rule.PeerRule.TheVariants as rule
use Rattle.ln_refusals.specs.Refusal.{refusal_number}
use Rattle.ln_keys.specs.declared.role.Role.{Role}
use Rattle.ln_keys.specs.declared.role.Role.TheVariants.{Funder, Fundee}
use Rattle.ln_keys.specs.Role.{other_role}
use Rattle.ln_keys.specs.Signer.{Signer}
use Rattle.ln_log.specs.declared.opening.Limits.{Limits}
use Rattle.ln_log.specs.declared.standing.Standing.{Standing}
use Rattle.ln_log.specs.declared.update.Add.{Add}
use Rattle.ln_log.specs.declared.update.Removal.{Removal}
use Rattle.ln_log.specs.declared.update.Update.{Update}
use Rattle.ln_log.specs.declared.update.Update.TheVariants as update
use Rattle.ln_log.specs.Opening.{is_fit, limits_of, first_balance}
use Rattle.ln_keys.specs.Hash.{payment_hash}
use Rattle.ln_log.specs.declared.log.Pair.TheVariants as pair
use Rattle.ln_log.specs.declared.log.Side.TheVariants as side
use Rattle.ln_log.specs.Updates.{removed, next_id, add_with, outcome, is_live}
use Rattle.ln_log.specs.Limits.{first_fault, fault_at, fulfil_fault, fail_fault, malformed_fault, removable, id_fault}
use Rattle.ln_log.specs.Limits.{update_fault as rule_fault, is_at_update_limit, fee_fault, standing_of}
use Rattle.ln_log.specs.Log as log
use Rattle.ln_log.specs.Log.{Log, peer_limit, removal_fault, length_fault, proposal_fault, taken_fault, same_counts}
use Rattle.ln_dance.specs.Dance.{Dancer, view_at, owes, is_last, is_right, sign_fault, accept_fault, learn_fault}
use Rattle.ln_dance.specs.Resume.{can_be_served, knows_secret, lost_data, resume_fault}
use Rattle.ln_close.specs.declared.closing.FeeAnswer.{FeeAnswer}
use Rattle.ln_close.specs.declared.closing.FeeAnswer.TheVariants as answer
use Rattle.ln_close.specs.declared.closing.Closing.{Closing}
use Rattle.ln_close.specs.declared.closing.Fees.{Fees}
use Rattle.ln_close.specs.Closing.{is_fee, is_funder, nearest, within_both, counter, behind_close, answer_to}
use Rattle.ln_channel.specs.declared.command.Command.{Command}
use Rattle.ln_channel.specs.declared.command.Command.TheVariants as command
use Rattle.ln_channel.specs.declared.config.Config.{Config}
use Rattle.ln_channel.specs.declared.config.OpenSpec.{OpenSpec}
use Rattle.ln_channel.specs.declared.machine.ConnectionState.{ConnectionState}
use Rattle.ln_channel.specs.declared.machine.Stage.{Stage}
use Rattle.ln_channel.specs.Config.{offered}
use Rattle.ln_channel.specs.Naming.{named, is_other}
use Rattle.ln_channel.specs.Opening.{Agreement, asked_with, asked_by_accept, open_fault, accept_fault as agreed_fault}
use Rattle.ln_channel.specs.Opening.{created_fault, first_fault as wrong_signature, fundee_end, repeats}
use Rattle.ln_channel.specs.End.{End, is_ready, is_closed, all_acknowledged, has_begun}
use Rattle.ln_channel.specs.Taking.{late_fault, early_fault, update_fault, signature_fault}
use Rattle.ln_channel.specs.Commands.{confirm_fault, closed_fault, own_fault, propose_fault}
use Rattle.ln_channel.specs.Commands.{sign_command_fault, script_fault, shut_fault, unready_fault}
use Rattle.ln_channel.specs.Config.{longest_script}
use Rattle.ln_channel.specs.State.{is_down, is_connected}
use Rattle.ln_channel.specs.Step.{error_fault, stray_fault, message_fault, line_fault}

abbrev pub IsOther : Refusal → Type 0
IsOther r = (refusal_number r == 70) ≡ false

abbrev pub OtherFault : Option Refusal → Type 0
OtherFault None = Unit {0}
OtherFault (Some r) = IsOther r

pub damaged : (r : Refusal) → IsOther r → r ≡ refusal.Damaged → ⊥
damaged r h e = let same : true ≡ false = subst IsOther e h in absurd (cc)

if_so : (b : Bool) (r : Refusal) (o : Option Refusal) → IsOther r → OtherFault o → OtherFault (cond b (Some r) o)
if_so true r o h k = h
if_so false r o h k = k

one : (b : Bool) (r : Refusal) → IsOther r → OtherFault (cond b (Some r) None)
one true r h = h
one false r h = tt

one_not : (b : Bool) (r : Refusal) → IsOther r → OtherFault (cond b None (Some r))
one_not true r h = tt
one_not false r h = h

if_not : (b : Bool) (r : Refusal) (o : Option Refusal) → IsOther r → OtherFault o → OtherFault (cond b o (Some r))
if_not true r o h k = k
if_not false r o h k = h

first : (f g : Option Refusal) → OtherFault f → OtherFault g → OtherFault (first_fault f g)
first None g h k = k
first (Some r) g h k = h

-- ---- updates

fulfil_other : (preimage : List ℕ) (a : Option Add) → OtherFault (fulfil_fault preimage a)
fulfil_other preimage None = refl
fulfil_other preimage (Some a) = one_not (are_same (payment_hash preimage) a.hash) refusal.PreimageWrong refl

fail_other : (a : Option Add) → OtherFault (fail_fault a)
fail_other None = refl
fail_other (Some a) = tt

malformed_other : (code : ℕ) (a : Option Add) → OtherFault (malformed_fault code a)
malformed_other code None = refl
malformed_other code (Some a) = one_not (nat_le 32768 code) refusal.OutOfPlace refl

payer_other : (r : Role) → OtherFault (fee_fault r)
payer_other Funder = tt
payer_other Fundee = refl

limits_other : (b c d e f : Bool) → OtherFault (cond b (Some refusal.AmountBelowMinimum)
    (cond c (Some refusal.ExpiryRange) (cond d (Some refusal.TooManyHtlcs) (cond e (Some refusal.InFlightOver)
    (cond f (Some refusal.CannotAfford) None)))))
limits_other true c d e f = refl
limits_other false true d e f = refl
limits_other false false true e f = refl
limits_other false false false true f = refl
limits_other false false false false true = refl
limits_other false false false false false = tt

rule_other : (l : Limits) (s : Standing) (r : Role) (own held : List Update) (u : Update)
    → OtherFault (fault_at l s r own held u)
rule_other l s r own held (update.Add a) =
    limits_other ((a.amount == 0) || nat_lt a.amount l.minimum) (nat_lt 499999999 a.expiry)
    (nat_lt l.accepted (s.live + 1)) (nat_lt l.in_flight (s.in_flight + a.amount))
    (nat_lt s.balance (a.amount + 1000 * l.reserve))
rule_other l s r own held (update.Fulfil f) = fulfil_other f.preimage (removable f.id own held)
rule_other l s r own held (update.Fail f) = fail_other (removable f.id own held)
rule_other l s r own held (update.Malformed m) = malformed_other m.failure_code (removable m.id own held)
rule_other l s r own held (update.Fee f) = payer_other r

id_other : (own : List Update) (u : Update) → OtherFault (id_fault own u)
id_other own (update.Add a) = one_not (a.id == next_id own) refusal.BadId refl
id_other own (update.Fulfil f) = tt
id_other own (update.Fail f) = tt
id_other own (update.Malformed m) = tt
id_other own (update.Fee f) = tt

taken_other : (l : Log) (u : Update) → OtherFault (taken_fault l u)
taken_other l u =
    let rule = rule_fault l.opening (other_role l.role) l.received (take l.acknowledged.own l.own)
    (take l.current.own l.own) u in
    let full = is_at_update_limit l.received in
    first (cond full (Some refusal.OutOfPlace) None) (first_fault (id_fault l.received u) rule)
    (one full refusal.OutOfPlace refl)
    (first (id_fault l.received u) rule (id_other l.received u)
    (rule_other (limits_of l.opening (other_role l.role))
    (standing_of (first_balance l.opening (other_role l.role)) l.received (take l.acknowledged.own l.own))
    (other_role l.role) l.received (take l.current.own l.own) u))

late_other : (e : End) (u : Update) → OtherFault (late_fault e u)
late_other e (update.Add a) = one e.closing.peer_shut refusal.AddAfterShutdown refl
late_other e (update.Fulfil f) = tt
late_other e (update.Fail f) = tt
late_other e (update.Malformed m) = tt
late_other e (update.Fee f) = one (has_begun e) refusal.OutOfPlace refl

pub update_other : (e : End) (u : Update) → OtherFault (update_fault e u)
update_other e u =
    first (early_fault e u) (taken_fault e.dance.log u)
    (if_so (not (is_ready e) || is_at_update_limit e.dance.log.received) refusal.OutOfPlace (late_fault e u) refl
    (late_other e u))
    (taken_other e.dance.log u)

mapped_other : (o : Option Refusal) → OtherFault (option_map peer_limit o)
mapped_other None = tt
mapped_other (Some r) = refl

removing_other : (b c d : Bool) → OtherFault (cond b (Some (refusal.PeerLimit rule.NoSuchHtlc))
    (cond c (Some refusal.AlreadyRemoved) (cond d (Some refusal.NotCommitted) None)))
removing_other true c d = refl
removing_other false true d = refl
removing_other false false true = refl
removing_other false false false = tt

removal_other : (l : Log) (r : Option Removal) → OtherFault (removal_fault l r)
removal_other l None = tt
removal_other l (Some r) =
    removing_other (is_none (add_with r.id l.received)) (not (is_live (outcome r.id l.own)))
    (is_none (add_with r.id (take l.acknowledged.peer l.received)))

length_other : (u : Update) → OtherFault (length_fault u)
length_other (update.Add a) = tt
length_other (update.Fulfil f) = tt
length_other (update.Fail f) = one (nat_lt 65491 (length f.reason)) (refusal.PeerLimit rule.TooLong) refl
length_other (update.Malformed m) = tt
length_other (update.Fee f) = tt

proposal_other : (l : Log) (u : Update) → OtherFault (proposal_fault l u)
proposal_other l u =
    let full = is_at_update_limit l.own in
    let removal = removal_fault l (removed u) in
    let rule = rule_fault l.opening l.role l.own (take l.current.peer l.received)
    (take l.acknowledged.peer l.received) u in
    let limits = option_map peer_limit rule in
    first (cond full (Some refusal.NumbersSpent) None) (first_fault removal (first_fault limits (length_fault u)))
    (one full refusal.NumbersSpent refl)
    (first removal (first_fault limits (length_fault u)) (removal_other l (removed u))
    (first limits (length_fault u) (mapped_other rule) (length_other u)))

closed_other : (e : End) (u : Update) → OtherFault (closed_fault e u)
closed_other e (update.Add a) = one (e.closing.shut || e.closing.peer_shut) refusal.Shut refl
closed_other e (update.Fulfil f) = tt
closed_other e (update.Fail f) = tt
closed_other e (update.Malformed m) = tt
closed_other e (update.Fee f) = one (e.closing.shut || e.closing.peer_shut) refusal.Shut refl

pub propose_other : (e : End) (u : Update) → OtherFault (propose_fault e u)
propose_other e u =
    first (own_fault e u) (proposal_fault e.dance.log u)
    (if_so (not (is_ready e)) refusal.NotReady
    (cond (is_at_update_limit e.dance.log.own) (Some refusal.NumbersSpent) (closed_fault e u)) refl
    (if_so (is_at_update_limit e.dance.log.own) refusal.NumbersSpent (closed_fault e u) refl (closed_other e u)))
    (proposal_other e.dance.log u)

-- ---- signatures and revocations

signs_other : (b c : Bool) → OtherFault (cond b (cond c (Some refusal.NothingToSign) None)
    (Some refusal.SignatureOutstanding))
signs_other true true = refl
signs_other true false = tt
signs_other false c = refl

signing_other : (l : Log) → OtherFault (log.sign_fault l)
signing_other l = signs_other (same_counts l.acknowledged l.signed) (same_counts l.signed (log.after_sign l).signed)

pub sign_other : (e : End) → OtherFault (sign_command_fault e)
sign_other e =
    let last = is_last e.dance.numbers.signed in
    let spent = cond last (Some refusal.NumbersSpent) None in
    let rest = first_fault (log.sign_fault e.dance.log) spent in
    if_not (is_ready e) refusal.NotReady (sign_fault e.dance) refl
    (if_so (owes e.dance) refusal.SignatureOutstanding rest refl
    (first (log.sign_fault e.dance.log) spent (signing_other e.dance.log) (one last refusal.NumbersSpent refl)))

pub signature_other : (k : Signer) (m : CommitmentSigned) (e : End) → OtherFault (signature_fault k m e)
signature_other k m e =
    if_not (is_ready e) refusal.OutOfPlace (accept_fault k m e.dance) refl
    (if_so (is_last e.dance.numbers.commitment) refusal.OutOfPlace
    (cond (is_right k m e.dance) None (Some refusal.SignatureWrong)) refl
    (one_not (is_right k m e.dance) refusal.SignatureWrong refl))

pub revocation_other : (k : Signer) (m : RevokeAndAck) (d : Dancer) → OtherFault (learn_fault k m d)
revocation_other k m d =
    if_not (owes d) refusal.NothingToRevoke
    (cond (k.fits d.numbers.revoked m.secret d.peer.point) None (Some refusal.SecretWrong)) refl
    (one_not (k.fits d.numbers.revoked m.secret d.peer.point) refusal.SecretWrong refl)

pub resume_other : (k : Signer) (m : ChannelReestablish) (d : Dancer) → OtherFault (resume_fault k m d)
resume_other k m d =
    if_not (can_be_served m d) (refusal.ReestablishNumber (lost_data k m d))
    (cond (knows_secret k m) None (Some refusal.SecretWrong)) refl
    (one_not (knows_secret k m) refusal.SecretWrong refl)

-- ---- commands

pub confirm_other : (e : End) → OtherFault (confirm_fault e)
confirm_other e = one (e.readiness.ready_sent || is_closed e) refusal.NotReady refl

pub shut_other : (script : List ℕ) (e : End) → OtherFault (shut_fault script e)
shut_other script e =
    if_so e.closing.shut refusal.Shut
    (cond (all_acknowledged e.dance.log) (script_fault script) (Some refusal.UpdatesPending)) refl
    (if_not (all_acknowledged e.dance.log) refusal.UpdatesPending (script_fault script) refl
    (one (nat_lt longest_script (length script)) (refusal.PeerLimit rule.TooLong) refl))

unready_by : (e : End) → OtherFault (cond (is_ready e) None (Some refusal.NotReady))
unready_by e = one_not (is_ready e) refusal.NotReady refl

pub unready_other : (c : Command) (e : End) → OtherFault (unready_fault c e)
unready_other (command.Confirm id) e = confirm_other e
unready_other (command.Shutdown script) e = tt
unready_other (command.Add amount hash expiry onion origin) e = unready_by e
unready_other (command.Fulfil id preimage) e = unready_by e
unready_other (command.Fail id reason) e = unready_by e
unready_other (command.Malformed id sha code) e = unready_by e
unready_other (command.Fee feerate) e = unready_by e
unready_other command.Sign e = unready_by e
unready_other (command.Decide event mark) e = unready_by e
unready_other (command.Forget id) e = unready_by e
unready_other (command.Resume event mark) e = unready_by e

pub line_other : (l : ConnectionState) → OtherFault (line_fault l)
line_other l = one_not (is_connected l) refusal.Disconnected refl

-- ---- closing fees

abbrev pub OtherAnswer : {A : Type 0} → Result A Refusal → Type 0
OtherAnswer (Ok x) = Unit {0}
OtherAnswer (Err r) = IsOther r

either : {A : Type 0} (b : Bool) (p q : Result A Refusal) → OtherAnswer p → OtherAnswer q
    → OtherAnswer (cond b p q)
either true p q h k = h
either false p q h k = k

both_other : (f : Fees) (fee : ℕ) (range : Option (ℕ × ℕ)) → OtherAnswer (within_both f fee range)
both_other f fee None = refl
both_other f fee (Some r) =
    let least = max f.least r.0 in
    let greatest = min f.greatest r.1 in
    either (nat_le least greatest) (Ok (answer.Propose (nearest least greatest fee))) (Err refusal.FeeOutside) tt refl

behind_other : (closed : Option ℕ) (fee : ℕ) (rest : Result FeeAnswer Refusal) → OtherAnswer rest
    → OtherAnswer (behind_close closed fee rest)
behind_other None fee rest h = h
behind_other (Some agreed) fee rest h = either (agreed == fee) (Ok answer.Nothing) (Err refusal.FeeOutside) tt refl

pub fee_other : (c : Closing) (fee : ℕ) (range : Option (ℕ × ℕ)) → OtherAnswer (answer_to c fee range)
fee_other c fee range =
    let own = is_fee c.own_fee fee in
    let peer = is_fee c.peer_fee fee in
    let taken = nat_le c.fees.least fee && nat_le fee c.fees.greatest in
    let first_answer = cond (is_none c.own_fee) (within_both c.fees fee range) (Err refusal.FeeOutside) in
    let counters = counter c fee range in
    let takes = cond taken (Ok (answer.EchoAndClose fee)) counters in
    let knows = cond peer (Ok answer.Nothing) takes in
    behind_other c.closed fee (cond own (Ok (answer.Close fee)) knows)
    (either own (Ok (answer.Close fee)) knows tt
    (either peer (Ok answer.Nothing) takes tt
    (either taken (Ok (answer.EchoAndClose fee)) counters tt
    (either (is_funder c.role) (Err refusal.FeeOutside) first_answer refl
    (either (is_none c.own_fee) (within_both c.fees fee range) (Err refusal.FeeOutside) (both_other c.fees fee range)
    refl)))))

-- ---- the opening

pub open_other : (c : Config) (m : OpenChannel) → OtherFault (open_fault c m)
open_other c m =
    one_not (are_same m.chain_hash c.chain_hash && is_fit (asked_with m c.limits)) refusal.OutOfPlace refl

pub agreed_other : (s : OpenSpec) (m : AcceptChannel) → OtherFault (agreed_fault s m)
agreed_other s m =
    one_not (are_same m.temporary_id s.temporary_id
    && (is_fit (offered s (asked_by_accept m)) && repeats (value_of 1 s.records) (value_of 1 m.records)))
    refusal.OutOfPlace refl

pub wrong_other : (k : Signer) (d : Dancer) (signature : List ℕ) → OtherFault (wrong_signature k d signature)
wrong_other k d signature =
    one_not (k.accepts 0 (k.point_of 0) (view_at (pair.Current side.Own) d) signature []) refusal.SignatureWrong refl

pub created_other : (k : Signer) (a : Agreement) (m : FundingCreated) → OtherFault (created_fault k a m)
created_other k a m =
    if_not (are_same m.temporary_id a.terms.open_channel.temporary_id) refusal.OutOfPlace
    (wrong_signature k (fundee_end a m).dance m.signature) refl (wrong_other k (fundee_end a m).dance m.signature)

-- ---- what is looked at before the channel

error_other : (m : Message) → OtherFault (error_fault m)
error_other (message.Error m) = refl
error_other (message.Warning m) = tt
error_other (message.Init m) = tt
error_other (message.Ping m) = tt
error_other (message.Pong m) = tt
error_other (message.OpenChannel m) = tt
error_other (message.AcceptChannel m) = tt
error_other (message.FundingCreated m) = tt
error_other (message.FundingSigned m) = tt
error_other (message.ChannelReady m) = tt
error_other (message.Shutdown m) = tt
error_other (message.ClosingSigned m) = tt
error_other (message.UpdateAddHtlc m) = tt
error_other (message.UpdateFulfillHtlc m) = tt
error_other (message.UpdateFailHtlc m) = tt
error_other (message.CommitmentSigned m) = tt
error_other (message.RevokeAndAck m) = tt
error_other (message.UpdateFee m) = tt
error_other (message.UpdateFailMalformedHtlc m) = tt
error_other (message.ChannelReestablish m) = tt

pub message_other : (l : ConnectionState) (s : Stage) (m : Message) → OtherFault (message_fault l s m)
message_other l s m =
    first (error_fault m) (stray_fault l s m) (error_other m)
    (if_so (is_other (named m) s) refusal.UnknownChannel (cond (is_down l) (Some refusal.OutOfPlace) None) refl
    (one (is_down l) refusal.OutOfPlace refl))
