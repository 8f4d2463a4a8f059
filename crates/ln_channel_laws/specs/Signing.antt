-- What each commitment_signed is over: the commitment that is next for the peer, at the peer's own point for it, with
-- all that its signer has covered of either side (BOLT 2, "Committing Updates So Far: commitment_signed").
use Rattle.std.specs.Prelude.{◌≡◌, ℕ, ◌+◌, List, [], ◌∷◌}
use Rattle.ln_msgs.specs.declared.messages.message.Message.{Message}
use Rattle.ln_msgs.specs.declared.messages.message.Message.TheVariants as message
use Rattle.ln_msgs.specs.declared.messages.commitments.CommitmentSigned.{CommitmentSigned}
use Rattle.ln_keys.specs.declared.role.Role.{Role}
use Rattle.ln_keys.specs.declared.role.Role.TheVariants.{Funder, Fundee}
use Rattle.ln_keys.specs.declared.view.View.{View}
use Rattle.ln_keys.specs.Signer.{Signer}
use Rattle.ln_log.specs.Updates.{all_sent}
use Rattle.ln_log.specs.Machine.{Covered}
use Rattle.ln_log.specs.Machine as machine
use Rattle.ln_log.specs.Log.{view_for}
use Rattle.ln_channel.specs.End.{End}
use Rattle.ln_channel_laws.specs.Ends.{Ends, Step, happens, messages_in}
use Rattle.ln_channel_laws.specs.Promises.{party}
use Rattle.ln_channel_laws.specs.Told.{told}

-- ---- a signature, by these keys

-- over the commitment of this number that the end with the keys of owner has, at the point that these give for the
-- number, worth so: the signature, and those of its HTLCs
pub record IsOver (signer owner : Signer) (number : ℕ) (v : View) (m : CommitmentSigned) : Type 0 where
  pub signature : m.signature ≡ signer.signature number (owner.point_of number) v
  pub htlc_signatures : m.htlc_signatures ≡ signer.htlc_signatures number (owner.point_of number) v

-- of messages, each commitment_signed
abbrev pub IfSigned : (CommitmentSigned → Type 0) → Message → Type 0
IfSigned P (message.CommitmentSigned m) = P m
IfSigned P m = Unit {0}

abbrev pub EachSigned : (CommitmentSigned → Type 0) → List Message → Type 0
EachSigned P [] = Unit {0}
EachSigned P (m ∷ ms) = IfSigned P m × EachSigned P ms

-- ---- of two ends: x signs, and the commitment is y's

-- what updates are worth in the channel of an end, which tells which of them are its own
abbrev pub balances_to : End → Covered → View
balances_to e c = view_for e.dance.log.opening e.dance.log.role c

-- over the commitment that is next for y, with all that x's last signature covers
abbrev pub SignsCovered : Signer → Signer → End → End → CommitmentSigned → Type 0
SignsCovered signer owner x y m =
    IsOver signer owner (y.dance.numbers.commitment + 1) (balances_to x (party x).signed) m

-- what the next signature that y takes has to cover: all that it has taken of x's updates, and of its own those that x
-- has acknowledged
abbrev pub to_accept : End → Covered
to_accept y = record { own = (party y).acknowledged.own; peer = all_sent y.dance.log.received }

-- y has the same updates to accept that x has signed, and to both they are worth the same
pub record AgreesOn (x y : End) : Type 0 where
  pub updates : to_accept y ≡ machine.turned (party x).signed
  pub balances : balances_to y (to_accept y) ≡ balances_to x (party x).signed

abbrev pub AgreesInFront : End → End → List Message → Type 0
AgreesInFront x y [] = Unit {0}
AgreesInFront x y (m ∷ ms) = IfSigned (λ s. AgreesOn x y) m

-- ---- what is in flight

-- from x to y; where a commitment_signed is in front, y has by then what it covers
pub record Signs (signer owner : Signer) (x y : End) (to_y : List Message) : Type 0 where
  pub covered : EachSigned (SignsCovered signer owner x y) to_y
  pub in_front : AgreesInFront x y to_y

abbrev pub BothSign : Signer → Signer → Ends → Type 0
BothSign a b p = Signs a b p.x p.y p.to_y × Signs b a p.y p.x p.to_x

-- ---- what is handed out in a step, by what the ends are after it

abbrev pub SignsAs : Signer → Signer → Role → Ends → CommitmentSigned → Type 0
SignsAs a b Funder p m = SignsCovered a b p.x p.y m
SignsAs a b Fundee p m = SignsCovered b a p.y p.x m

abbrev pub SignsIn : Signer → Signer → Role → Step → Ends → Type 0
SignsIn a b side s p = EachSigned (SignsAs a b side (happens a b s p)) (messages_in (told a b side s p))
