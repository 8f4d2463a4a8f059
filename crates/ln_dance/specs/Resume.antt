-- What a side tells as a connection comes back, and what it sends again by what the peer tells (BOLT 2, "Message
-- Retransmission").
use Rattle.std.specs.Prelude.{ℕ, ◌+◌, ◌-◌, List, [], ◌∷◌, ◌++◌, map, replicate, Bool, ◌&&◌, ◌||◌, ◌==◌}
use Rattle.std.specs.Prelude.{nat_lt, nat_le, Option, Some, None, if◌then◌else◌}
use Rattle.ln_bytes.specs.Same.{are_same}
use Rattle.ln_msgs.specs.declared.messages.commitments.ChannelReestablish.{ChannelReestablish}
use Rattle.ln_msgs.specs.declared.messages.commitments.CommitmentSigned.{CommitmentSigned}
use Rattle.ln_msgs.specs.declared.messages.commitments.RevokeAndAck.{RevokeAndAck}
use Rattle.ln_refusals.specs.declared.lost_data.LostData.{LostData}
use Rattle.ln_refusals.specs.declared.lost_data.LostData.TheVariants.{Unproved, Own, Peer}
use Rattle.ln_refusals.specs.declared.refusal.Refusal.{Refusal}
use Rattle.ln_refusals.specs.declared.refusal.Refusal.TheVariants as refusal
use Rattle.ln_keys.specs.Signer.{Signer}
use Rattle.ln_log.specs.declared.log.Pair.TheVariants as pair
use Rattle.ln_log.specs.Log.{unacknowledged}
use Rattle.ln_dance.specs.declared.dance.Later.{Later}
use Rattle.ln_dance.specs.declared.dance.Later.TheVariants.{Signature, Revocation}
use Rattle.ln_dance.specs.declared.resume.Resend.{Resend}
use Rattle.ln_dance.specs.declared.resume.Resend.TheVariants as resend
use Rattle.ln_dance.specs.Dance.{Dancer, view_at, last_number}
use Rattle.ln_dance.specs.Messages.{update_message}

-- ---- what a side tells

-- the last secret that the peer told, or zeros
abbrev pub secret_or_zeros : Option (List ℕ) → List ℕ
secret_or_zeros None = replicate 32 0
secret_or_zeros (Some secret) = secret

-- the number of the next commitment that is to be signed, and how many revocations were taken
abbrev pub reestablish_message : Signer → Dancer → ChannelReestablish
reestablish_message keys d = record {
  channel_id = d.channel;
  next_commitment_number = d.numbers.commitment + 1;
  next_revocation_number = d.numbers.revoked;
  last_secret = secret_or_zeros d.peer.secret;
  current_point = keys.point_of d.numbers.commitment;
  records = [];
}

-- ---- what the peer may tell

-- it waits for the last signature, which is unrevoked
abbrev pub lacks_signature : ChannelReestablish → Dancer → Bool
lacks_signature m d = (m.next_commitment_number == d.numbers.signed) && (d.numbers.signed == d.numbers.revoked + 1)

-- it waits for the last revocation
abbrev pub lacks_revocation : ChannelReestablish → Dancer → Bool
lacks_revocation m d = m.next_revocation_number + 1 == d.numbers.commitment

-- it has all signatures or lacks the last one, and so of revocations
abbrev pub can_be_served : ChannelReestablish → Dancer → Bool
can_be_served m d =
    ((m.next_commitment_number == d.numbers.signed + 1) || lacks_signature m d)
    && ((m.next_revocation_number == d.numbers.commitment) || lacks_revocation m d)

-- who took a revocation has the secret of the last one
abbrev pub knows_secret : Signer → ChannelReestablish → Bool
knows_secret keys m =
    (m.next_revocation_number == 0) || are_same m.last_secret (keys.secret_of (m.next_revocation_number - 1))

-- ---- whose data is lost, where the peer can't be served

-- it tells the secret of a commitment that this side hasn't revoked
abbrev pub tells_of_later : ChannelReestablish → Dancer → Bool
tells_of_later m d =
    nat_lt d.numbers.commitment m.next_revocation_number && nat_le m.next_revocation_number (last_number + 1)

-- none of its numbers is ahead of what this side has sent
abbrev pub tells_of_earlier : ChannelReestablish → Dancer → Bool
tells_of_earlier m d =
    nat_le m.next_commitment_number (d.numbers.signed + 1) && nat_le m.next_revocation_number d.numbers.commitment

-- the secret that it tells decides
abbrev pub is_judged_by_secret : ChannelReestablish → Dancer → Bool
is_judged_by_secret m d = can_be_served m d || (tells_of_later m d || tells_of_earlier m d)

-- whose data its numbers and its secret prove to be lost
abbrev pub lost_data : Signer → ChannelReestablish → Dancer → LostData
lost_data keys m d =
    if (tells_of_later m d || tells_of_earlier m d) && knows_secret keys m
    then (if tells_of_later m d then Own else Peer)
    else Unproved

abbrev pub resume_fault : Signer → ChannelReestablish → Dancer → Option Refusal
resume_fault keys m d =
    if can_be_served m d then (if knows_secret keys m then None else Some refusal.SecretWrong)
    else Some (refusal.ReestablishNumber (lost_data keys m d))

-- ---- what is sent again

-- the updates that the last signature covers newly
abbrev pub updates_again : Dancer → List Resend
updates_again d = resend.Updates (map (update_message d.channel) (unacknowledged d.log)) ∷ []

-- the last signature: of the same number, at the same point, over what was covered first
abbrev pub signature_again : Signer → Dancer → CommitmentSigned
signature_again keys d = record {
  channel_id = d.channel;
  signature = keys.signature d.numbers.signed d.peer.next_point (view_at pair.Signed d);
  htlc_signatures = keys.htlc_signatures d.numbers.signed d.peer.next_point (view_at pair.Signed d);
  records = [];
}

-- the last revocation: of the commitment before the own current one
abbrev pub revocation_again : Signer → Dancer → RevokeAndAck
revocation_again keys d = record {
  channel_id = d.channel;
  secret = keys.secret_of (d.numbers.commitment - 1);
  next_point = keys.point_of (d.numbers.commitment + 1);
  records = [];
}

abbrev pub signature_owed : Signer → ChannelReestablish → Dancer → List Resend
signature_owed keys m d =
    if lacks_signature m d then updates_again d ++ resend.Signature (signature_again keys d) ∷ [] else []

abbrev pub revocation_owed : Signer → ChannelReestablish → Dancer → List Resend
revocation_owed keys m d = if lacks_revocation m d then resend.Revocation (revocation_again keys d) ∷ [] else []

-- both in the order in which they were sent first
abbrev pub owed_by : Later → Signer → ChannelReestablish → Dancer → List Resend
owed_by Signature keys m d = revocation_owed keys m d ++ signature_owed keys m d
owed_by Revocation keys m d = signature_owed keys m d ++ revocation_owed keys m d

abbrev pub owed : Signer → ChannelReestablish → Dancer → List Resend
owed keys m d = owed_by d.later keys m d

-- no side has a commitment but the opening: channel_ready is sent again
abbrev pub is_before_the_first : ChannelReestablish → Dancer → Bool
is_before_the_first m d = (d.numbers.commitment == 0) && (m.next_commitment_number == 1)
