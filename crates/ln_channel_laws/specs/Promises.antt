-- What every list of steps of two ends promises.
use Rattle.std.specs.Prelude.{◌≡◌, ◌⊎◌, ℕ, ◌<◌, ◌≤◌, ◌^◌, List, [], ◌∷◌, Bool, true, false, ◌||◌, Some}
use Rattle.std.specs.Prelude.{None, Result, Ok, Err, min, max}
use Rattle.ln_msgs.specs.declared.messages.message.Message.{Message}
use Rattle.ln_msgs.specs.declared.messages.message.Message.TheVariants as message
use Rattle.ln_refusals.specs.declared.refusal.Refusal.{Refusal}
use Rattle.ln_refusals.specs.declared.refusal.Refusal.TheVariants as refusal
use Rattle.ln_keys.specs.Signer.{Signer}
use Rattle.ln_log.specs.Machine.{Party, Follows, held}
use Rattle.ln_log.specs.Log.{party_of}
use Rattle.ln_keys.specs.declared.view.View.{View}
use Rattle.ln_log.specs.declared.log.Pair.TheVariants as pair
use Rattle.ln_log.specs.declared.log.Side.TheVariants as side
use Rattle.ln_dance.specs.Dance.{sign_fault, view_at}
use Rattle.ln_close.specs.declared.closing.Fees.{Fees}
use Rattle.ln_close.specs.Closing.{AreOrdered}
use Rattle.ln_channel.specs.End.{End}
use Rattle.ln_channel.specs.declared.machine.ConnectionState.{ConnectionState}
use Rattle.ln_channel.specs.declared.machine.ConnectionState.TheVariants.{Connected}
use Rattle.ln_channel_laws.specs.Ends.{Ends, message_at}

-- ---- what is promised

-- the machine's party that an end stands for
abbrev pub party : End → Party
party e = party_of e.closing.shut e.closing.closed e.dance.log

-- what each end holds as irrevocably committed begins what the other has covered by a signature
abbrev pub FollowEachOther : End → End → Type 0
FollowEachOther x y = Follows (party x) (party y) × Follows (party y) (party x)

abbrev pub Headline : Ends → Type 0
Headline p = FollowEachOther p.x p.y

abbrev pub is_closing_signed : Message → Bool
is_closing_signed (message.ClosingSigned m) = true
is_closing_signed m = false

-- fees are told in eight bytes
pub record AreSent (f : Fees) : Type 0 where
  pub first : f.first < 2 ^ 64
  pub greatest : f.greatest < 2 ^ 64

abbrev pub IsTaken : {A : Type 0} → Result A Refusal → Type 0
IsTaken {A} r = (t : A) × (r ≡ Ok t)

-- a message is taken, or it is a closing_signed whose fee can't be agreed to
abbrev pub IsTakenButForItsFee : {A : Type 0} → Message → Result A Refusal → Type 0
IsTakenButForItsFee m r = IsTaken r ⊎ ((is_closing_signed m ≡ true) × (r ≡ Err refusal.FeeOutside))

-- so is the message in front
abbrev pub TakesFront : Signer → ConnectionState → List Message → End → Type 0
TakesFront keys l [] e = Unit {0}
TakesFront keys l (m ∷ ms) e = IsTakenButForItsFee m (message_at keys l m e)

abbrev pub NoneRefused : Signer → Signer → Ends → Type 0
NoneRefused a b p = TakesFront a p.x_line p.to_x p.x × TakesFront b p.y_line p.to_y p.y

-- ---- where each side takes a fee that the other takes too

abbrev pub Overlap : Fees → Fees → Type 0
Overlap f g = max f.least g.least ≤ min f.greatest g.greatest

pub record AreAgreeable (f g : Fees) : Type 0 where
  pub funder : AreOrdered f
  pub fundee : AreOrdered g
  pub funder_sent : AreSent f
  pub fundee_sent : AreSent g
  pub overlap : Overlap f g

-- the message in front is taken
abbrev pub AcceptsFront : Signer → ConnectionState → List Message → End → Type 0
AcceptsFront keys l [] e = Unit {0}
AcceptsFront keys l (m ∷ ms) e = IsTaken (message_at keys l m e)

abbrev pub AllTaken : Signer → Signer → Ends → Type 0
AllTaken a b p = AcceptsFront a p.x_line p.to_x p.x × AcceptsFront b p.y_line p.to_y p.y

-- two ends that have closed have closed at one fee
abbrev pub CloseAtOneFee : End → End → Type 0
CloseAtOneFee x y = (f g : ℕ) → x.closing.closed ≡ Some f → y.closing.closed ≡ Some g → f ≡ g

abbrev pub OneFee : Ends → Type 0
OneFee p = CloseAtOneFee p.x p.y

-- ---- at rest

-- both ends have met, nothing is in flight, and neither has anything to sign
pub record IsAtRest (p : Ends) : Type 0 where
  pub x_met : p.x_line ≡ Connected
  pub y_met : p.y_line ≡ Connected
  pub to_x : p.to_x ≡ []
  pub to_y : p.to_y ≡ []
  pub x : sign_fault p.x.dance ≡ Some refusal.NothingToSign
  pub y : sign_fault p.y.dance ≡ Some refusal.NothingToSign

-- it holds every update of either side
pub record HoldsAll (x y : Party) : Type 0 where
  pub own : (held x).own ≡ x.own
  pub peer : (held x).peer ≡ y.own

-- what the own commitment of an end is worth
abbrev pub balances : End → View
balances e = view_at (pair.Current side.Own) e.dance

-- both hold everything, and each one's commitment is worth what the other's is
abbrev pub HoldTheSame : End → End → Type 0
HoldTheSame x y = HoldsAll (party x) (party y) × HoldsAll (party y) (party x) × (balances x ≡ balances y)

abbrev pub Agrees : Ends → Type 0
Agrees p = IsAtRest p → HoldTheSame p.x p.y

-- ---- where nothing is in flight

pub record IsQuiet (p : Ends) : Type 0 where
  pub x_met : p.x_line ≡ Connected
  pub y_met : p.y_line ≡ Connected
  pub to_x : p.to_x ≡ []
  pub to_y : p.to_y ≡ []

-- y has taken x's shutdown where x has sent one, and its channel_ready, which an end that has closed passes over
pub record HasTakenReadiness (x y : End) : Type 0 where
  pub shutdown : y.closing.peer_shut ≡ x.closing.shut
  pub ready : y.closing.closed ≡ None → y.readiness.ready_received ≡ x.readiness.ready_sent

abbrev pub SameReadiness : End → End → Type 0
SameReadiness x y = HasTakenReadiness x y × HasTakenReadiness y x

abbrev pub ReadinessAgrees : Ends → Type 0
ReadinessAgrees p = IsQuiet p → SameReadiness p.x p.y

-- ---- no add after the own shutdown (BOLT 2, "Closing Initiation: shutdown")

abbrev pub is_add : Message → Bool
is_add (message.UpdateAddHtlc m) = true
is_add m = false

abbrev pub is_shutdown : Message → Bool
is_shutdown (message.Shutdown m) = true
is_shutdown m = false

-- of messages in the order in which they were sent, an add stands after no shutdown; shut: one was sent before them
abbrev pub AddsBefore : Bool → List Message → Type 0
AddsBefore shut [] = Unit {0}
AddsBefore shut (m ∷ ms) = (is_add m ≡ true → shut ≡ false) × AddsBefore (shut || is_shutdown m) ms

abbrev pub NoneAddsLate : Ends → Type 0
NoneAddsLate p = AddsBefore false p.said_x × AddsBefore false p.said_y
