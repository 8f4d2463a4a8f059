-- What a message has that the chain may need, and no record has: the peer's signatures over the own commitment, and its
-- secrets (BOLT 5).
use Rattle.std.specs.Prelude.{ℕ, List, [], ◌∷◌, Option, Some}
use Rattle.ln_host.specs.declared.record.PeerSecret.{PeerSecret}
use Rattle.ln_msgs.specs.declared.messages.message.Message.{Message}
use Rattle.ln_msgs.specs.declared.messages.message.Message.TheVariants as message
use Rattle.ln_host.specs.declared.question.Question.{Question}
use Rattle.ln_host.specs.declared.question.Question.TheVariants as question
use Rattle.ln_host.specs.declared.seen.Seen.{Seen}
use Rattle.ln_host.specs.declared.seen.Seen.TheVariants as seen

abbrev pub held_with : ℕ → List ℕ → List (List ℕ) → Seen
held_with n s hs = seen.Signatures (record { number = n; signature = s; htlc_signatures = hs })

abbrev pub signature_in : ℕ → Message → Seen
signature_in n (message.FundingCreated m) = held_with n m.signature []
signature_in n (message.FundingSigned m) = held_with n m.signature []
signature_in n (message.CommitmentSigned m) = held_with n m.signature m.htlc_signatures
signature_in n m = seen.Nothing

abbrev pub secret_in : ℕ → Message → Seen
secret_in n (message.RevokeAndAck m) = seen.Secret (record { number = n; secret = m.secret })
secret_in n m = seen.Nothing

-- what the question was about
abbrev pub seen_in : Option Question → Message → Seen
seen_in (Some (question.First channel v)) m = signature_in 0 m
seen_in (Some (question.Signatures r n v)) m = signature_in n m
seen_in (Some (question.Secret n p)) m = secret_in n m
seen_in q m = seen.Nothing

-- the secret that it is, if it is one
abbrev pub secret_of : Seen → List PeerSecret
secret_of seen.Nothing = []
secret_of (seen.Signatures s) = []
secret_of (seen.Secret s) = s ∷ []
