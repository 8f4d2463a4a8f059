-- What is blank in a message that goes out, and how it is filled. All of it is told by the end as the call leaves it
-- that made the message (BOLT 2).
use Rattle.std.specs.Prelude.{ℕ, ◌+◌, ◌-◌, ◌/◌, List, [], ◌∷◌, length, nat_lt, Option, Some, None, if◌then◌else◌}
use Rattle.ln_keys.specs.declared.role.Role.{Role}
use Rattle.ln_keys.specs.declared.role.Role.TheVariants.{Funder, Fundee}
use Rattle.ln_keys.specs.declared.view.View.{View}
use Rattle.ln_keys.specs.Signer.{Signer}
use Rattle.ln_msgs.specs.declared.messages.message.Message.{Message}
use Rattle.ln_msgs.specs.declared.messages.message.Message.TheVariants as message
use Rattle.ln_log.specs.declared.log.Pair.TheVariants as pair
use Rattle.ln_log.specs.declared.log.Side.TheVariants as side
use Rattle.ln_dance.specs.Dance.{Dancer, view_at}
use Rattle.ln_channel.specs.declared.machine.Stage.{Stage}
use Rattle.ln_channel.specs.End.{End}
use Rattle.ln_channel.specs.Asking.{agreed_end}
use Rattle.ln_store.specs.Format.{◌>>=◌, bytes_at, items_at, fixed}
use Rattle.ln_host.specs.declared.blank.ClosingTerms.{ClosingTerms}
use Rattle.ln_host.specs.declared.blank.Blank.{Blank}
use Rattle.ln_host.specs.declared.blank.Blank.TheVariants as blank
use Rattle.ln_host.specs.declared.filling.Filling.{Filling}
use Rattle.ln_host.specs.declared.filling.Filling.TheVariants as filling

-- ---- what a closing transaction pays (BOLT 3, "Closing Transaction")

abbrev pub balance_of : Role → View → ℕ
balance_of Funder v = v.funder
balance_of Fundee v = v.fundee

abbrev pub peers_balance : Role → View → ℕ
peers_balance Funder v = v.fundee
peers_balance Fundee v = v.funder

-- no script, where the peer hasn't shut down
abbrev pub script_or_none : Option (List ℕ) → List ℕ
script_or_none None = []
script_or_none (Some script) = script

-- by the own commitment, which has no HTLCs then
abbrev pub closing_terms : ℕ → End → ClosingTerms
closing_terms fee e = record {
  role = e.closing.role;
  fee_satoshis = fee;
  own_msat = balance_of e.closing.role (view_at (pair.Current side.Own) e.dance);
  peer_msat = peers_balance e.closing.role (view_at (pair.Current side.Own) e.dance);
  own_script = e.terms.script;
  peer_script = script_or_none e.terms.peer_script;
}

-- ---- what is blank

-- the own signature over the peer's commitment 0
abbrev pub first_blank : End → Blank
first_blank e = blank.Signatures e.closing.role 0 e.dance.peer.point (view_at (pair.Current side.Peer) e.dance)

-- the last own signature
abbrev pub signature_blank : End → Blank
signature_blank e =
    blank.Signatures e.closing.role e.dance.numbers.signed e.dance.peer.next_point (view_at pair.Signed e.dance)

-- the last own revocation, of the commitment before the current one
abbrev pub revocation_blank : Dancer → Blank
revocation_blank d = blank.Revocation (d.numbers.commitment - 1) (d.numbers.commitment + 1)

-- the messages that carry keys' answers
abbrev pub blank_in : End → Message → Option Blank
blank_in e (message.FundingCreated m) = Some (first_blank e)
blank_in e (message.FundingSigned m) = Some (first_blank e)
blank_in e (message.ChannelReady m) = Some (blank.Point 1)
blank_in e (message.CommitmentSigned m) = Some (signature_blank e)
blank_in e (message.RevokeAndAck m) = Some (revocation_blank e.dance)
blank_in e (message.ChannelReestablish m) = Some (blank.Point e.dance.numbers.commitment)
blank_in e (message.ClosingSigned m) = Some (blank.Close (closing_terms m.fee_satoshis e))
blank_in e m = None

abbrev pub blank_by : Option End → Message → Option Blank
blank_by None m = None
blank_by (Some e) m = blank_in e m

-- before the funding is named nothing is blank
abbrev pub blank_of : Stage → Message → Option Blank
blank_of s m = blank_by (agreed_end s) m

-- ---- how it is filled

-- nothing follows it
abbrev pub whole : {A : Type 0} → A → List ℕ → Option A
whole x [] = Some x
whole x (b ∷ bs) = None

-- a signature over the commitment, and as many over its HTLCs as there are bytes; at most one for each of them
abbrev pub htlcs_at : List ℕ → List ℕ → Option Filling
htlcs_at signature bytes = do
  htlcs ← items_at (fixed 64) (length bytes / 64) bytes
  whole (filling.Signatures signature htlcs.0) htlcs.1

abbrev pub signatures_at : ℕ → List ℕ → Option Filling
signatures_at most bytes = do
  signature ← bytes_at 64 bytes
  if nat_lt most (length signature.1 / 64) then None else htlcs_at signature.0 signature.1

abbrev pub revocation_at : List ℕ → Option Filling
revocation_at bytes = do
  secret ← bytes_at 32 bytes
  point ← bytes_at 33 secret.1
  whole (filling.Revocation secret.0 point.0) point.1

abbrev pub point_at : List ℕ → Option Filling
point_at bytes = do
  point ← bytes_at 33 bytes
  whole (filling.Point point.0) point.1

abbrev pub close_at : List ℕ → Option Filling
close_at bytes = do
  signature ← bytes_at 64 bytes
  whole (filling.Close signature.0) signature.1

-- what a host gives for a blank, by its bytes; none where their number is another
abbrev pub filling_at : Blank → List ℕ → Option Filling
filling_at (blank.Signatures r n p v) bytes = signatures_at (length v.htlcs) bytes
filling_at (blank.Revocation secret point) bytes = revocation_at bytes
filling_at (blank.Point n) bytes = point_at bytes
filling_at (blank.Close t) bytes = close_at bytes

-- what these keys give
abbrev pub filling_by : Signer → Blank → Filling
filling_by k (blank.Signatures r n p v) = filling.Signatures (k.signature n p v) (k.htlc_signatures n p v)
filling_by k (blank.Revocation secret point) = filling.Revocation (k.secret_of secret) (k.point_of point)
filling_by k (blank.Point n) = filling.Point (k.point_of n)
filling_by k (blank.Close t) = filling.Close (k.close_signature t.fee_satoshis)

abbrev pub with_signatures : List ℕ → List (List ℕ) → Message → Message
with_signatures s hs (message.FundingCreated m) = message.FundingCreated (record m { signature = s })
with_signatures s hs (message.FundingSigned m) = message.FundingSigned (record m { signature = s })
with_signatures s hs (message.CommitmentSigned m) =
    message.CommitmentSigned (record m { signature = s; htlc_signatures = hs })
with_signatures s hs m = m

abbrev pub with_revocation : List ℕ → List ℕ → Message → Message
with_revocation secret point (message.RevokeAndAck m) =
    message.RevokeAndAck (record m { secret = secret; next_point = point })
with_revocation secret point m = m

abbrev pub with_point : List ℕ → Message → Message
with_point p (message.ChannelReady m) = message.ChannelReady (record m { second_point = p })
with_point p (message.ChannelReestablish m) = message.ChannelReestablish (record m { current_point = p })
with_point p m = m

abbrev pub with_close : List ℕ → Message → Message
with_close s (message.ClosingSigned m) = message.ClosingSigned (record m { signature = s })
with_close s m = m

-- a message with a filling in it; nothing else changes
abbrev pub filled : Filling → Message → Message
filled (filling.Signatures s hs) m = with_signatures s hs m
filled (filling.Revocation secret point) m = with_revocation secret point m
filled (filling.Point p) m = with_point p m
filled (filling.Close s) m = with_close s m

-- a message that goes out, with the answers of these keys in it
abbrev pub answered_by : Signer → Option Blank → Message → Message
answered_by k None m = m
answered_by k (Some b) m = filled (filling_by k b) m
