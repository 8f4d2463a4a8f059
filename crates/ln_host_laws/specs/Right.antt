-- When what a host told before a message is right: by its own keys, for what the message has to be judged by (BOLT 2).
use Rattle.std.specs.Prelude.{◌≡◌, ℕ, List, [], replicate, Bool, false, Option, Some, None, ⊤}
use Rattle.ln_keys.specs.Signer.{Signer}
use Rattle.ln_msgs.specs.declared.messages.message.Message.{Message}
use Rattle.ln_msgs.specs.declared.messages.message.Message.TheVariants as message
use Rattle.ln_host.specs.declared.keys.HostKeys.{HostKeys}
use Rattle.ln_host.specs.declared.question.Question.{Question}
use Rattle.ln_host.specs.declared.question.Question.TheVariants as question

-- ---- what is judged stands in the message

-- the peer's signature over a commitment, or over a closing transaction
abbrev pub signature_in : Message → List ℕ
signature_in (message.FundingCreated m) = m.signature
signature_in (message.FundingSigned m) = m.signature
signature_in (message.CommitmentSigned m) = m.signature
signature_in (message.ClosingSigned m) = m.signature
signature_in m = []

-- its signatures over the commitment's HTLCs; the first commitment has none
abbrev pub htlc_signatures_in : Message → List (List ℕ)
htlc_signatures_in (message.CommitmentSigned m) = m.htlc_signatures
htlc_signatures_in m = []

-- its per commitment secret
abbrev pub secret_in : Message → List ℕ
secret_in (message.RevokeAndAck m) = m.secret
secret_in m = []

-- ---- what the host told is what these keys answer; whether a channel is new they aren't asked

abbrev pub IsRightFor : Signer → HostKeys → Question → Message → Type 0
IsRightFor k h (question.New channel) m = ⊤
IsRightFor k h (question.First channel view) m =
    h.is_right ≡ k.accepts 0 (k.point_of 0) view (signature_in m) (htlc_signatures_in m)
IsRightFor k h (question.Signatures role number view) m =
    h.is_right ≡ k.accepts number (k.point_of number) view (signature_in m) (htlc_signatures_in m)
IsRightFor k h (question.Secret number point) m = h.is_right ≡ k.fits number (secret_in m) point
IsRightFor k h (question.Close t) m = h.is_right ≡ k.accepts_close t.fee_satoshis (signature_in m)
IsRightFor k h (question.OwnSecret number) m = h.secret ≡ k.secret_of number

-- where nothing was asked, whatever was told is
abbrev pub IsRight : Signer → HostKeys → Option Question → Message → Type 0
IsRight k h None m = ⊤
IsRight k h (Some q) m = IsRightFor k h q m

-- ---- what a host tells that asks its own keys

abbrev pub judgement_of : Signer → Option Question → Message → Bool
judgement_of k (Some (question.First channel view)) m =
    k.accepts 0 (k.point_of 0) view (signature_in m) (htlc_signatures_in m)
judgement_of k (Some (question.Signatures role number view)) m =
    k.accepts number (k.point_of number) view (signature_in m) (htlc_signatures_in m)
judgement_of k (Some (question.Secret number point)) m = k.fits number (secret_in m) point
judgement_of k (Some (question.Close t)) m = k.accepts_close t.fee_satoshis (signature_in m)
judgement_of k q m = false

abbrev pub secret_told : Signer → Option Question → List ℕ
secret_told k (Some (question.OwnSecret number)) = k.secret_of number
secret_told k q = replicate 32 0

abbrev pub told_for : Signer → Option Question → Message → HostKeys
told_for k q m = record {
  first_point = k.point_of 0;
  is_right = judgement_of k q m;
  secret = secret_told k q;
}
