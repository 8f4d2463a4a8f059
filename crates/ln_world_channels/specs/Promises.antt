-- What the two links of each channel of a world promise, whatever has happened to them.
use Rattle.std.specs.Prelude.{◌≡◌, ◌↔◌, List, [], ◌∷◌, false, Some, None}
use Rattle.ln_msgs.specs.declared.messages.message.Message.{Message}
use Rattle.ln_refusals.specs.declared.refusal.Refusal.TheVariants as refusal
use Rattle.ln_keys.specs.declared.role.Role.{Role}
use Rattle.ln_keys.specs.declared.role.Role.TheVariants.{Funder, Fundee}
use Rattle.ln_keys.specs.Signer.{Signer}
use Rattle.ln_log.specs.Machine.{Machine}
use Rattle.ln_dance.specs.Dance.{sign_fault}
use Rattle.ln_channel.specs.declared.command.Command.{Command}
use Rattle.ln_channel.specs.declared.machine.ConnectionState.{ConnectionState}
use Rattle.ln_channel.specs.declared.machine.ConnectionState.TheVariants.{Connected}
use Rattle.ln_channel.specs.declared.machine.Stage.{Stage}
use Rattle.ln_channel.specs.declared.machine.Stage.TheVariants as stage
use Rattle.ln_channel.specs.End.{End}
use Rattle.ln_channel.specs.State.{State}
use Rattle.ln_channel.specs.Step.{handled, commanded, is_of_records}
use Rattle.ln_channel_laws.specs.Promises.{FollowEachOther, IsTaken, IsTakenButForItsFee, Overlap, CloseAtOneFee}
use Rattle.ln_channel_laws.specs.Promises.{HoldTheSame, SameReadiness}
use Rattle.ln_channel_laws.specs.Answers.{HasAnswered}
use Rattle.ln_channel_laws.specs.Closes.{CloseOnceDone}
use Rattle.ln_channel_laws.specs.Moves.{machine_by}
use Rattle.ln_channel_laws.specs.Doing.{MayDo}
use Rattle.ln_world_channels.specs.World.{World}
use Rattle.ln_world_channels.specs.Both.{Both}

-- a link has its channel open, and of its end this holds
abbrev pub AtEnd : (End → Type 0) → Stage → Type 0
AtEnd f (stage.Funded e) = f e
AtEnd f s = ⊥

-- both links have their channel open, and of its two ends this holds
abbrev pub AtEnds : (End → End → Type 0) → Stage → Stage → Type 0
AtEnds f (stage.Funded x) s = AtEnd (f x) s
AtEnds f r s = ⊥

-- ---- what each end holds as irrevocably committed begins what the other has covered by a signature

abbrev pub Headline : {K : Type 0} → Both K → Type 0
Headline p = AtEnds FollowEachOther p.x.link.stage p.y.link.stage

-- ---- no message is refused but a closing_signed, whose fee may be (36)

abbrev pub TakesFront : {K : Type 0} → (K → Signer) → State K → List Message → Type 0
TakesFront signer l [] = Unit {0}
TakesFront signer l (m ∷ ms) = IsTakenButForItsFee m (handled (signer l.keys) l m)

-- nor has either link failed
pub record NoneRefused {K : Type 0} (signer : K → Signer) (p : Both K) : Type 0 where
  pub x : TakesFront signer p.x.link p.x.inbox
  pub y : TakesFront signer p.y.link p.y.inbox
  pub x_stands : p.x.link.failure ≡ None
  pub y_stands : p.y.link.failure ≡ None

-- ---- where the closing fees of both ends overlap none is refused at all

abbrev pub FeesOverlap : End → End → Type 0
FeesOverlap x y = Overlap x.closing.fees y.closing.fees

abbrev pub AcceptsFront : {K : Type 0} → (K → Signer) → State K → List Message → Type 0
AcceptsFront signer l [] = Unit {0}
AcceptsFront signer l (m ∷ ms) = IsTaken (handled (signer l.keys) l m)

abbrev pub AllTaken : {K : Type 0} → (K → Signer) → Both K → Type 0
AllTaken signer p = AtEnds FeesOverlap p.x.link.stage p.y.link.stage
    → AcceptsFront signer p.x.link p.x.inbox × AcceptsFront signer p.y.link p.y.inbox

-- ---- ends that have both closed have closed at one fee

abbrev pub OneFee : {K : Type 0} → Both K → Type 0
OneFee p = AtEnds CloseAtOneFee p.x.link.stage p.y.link.stage

-- ---- an end that has met its peer and has taken its shutdown has sent its own, once its updates are acknowledged

abbrev pub HaveAnswered : ConnectionState → ConnectionState → End → End → Type 0
HaveAnswered m n x y = HasAnswered m x × HasAnswered n y

abbrev pub AnswersShutdown : {K : Type 0} → Both K → Type 0
AnswersShutdown p = AtEnds (HaveAnswered p.x.link.connection p.y.link.connection) p.x.link.stage p.y.link.stage

-- ---- at rest both hold every update of either side, and their commitments are worth the same

-- both ends have met, and nothing is in flight
pub record IsQuiet {K : Type 0} (p : Both K) : Type 0 where
  pub x_met : p.x.link.connection ≡ Connected
  pub y_met : p.y.link.connection ≡ Connected
  pub to_x : p.x.inbox ≡ []
  pub to_y : p.y.inbox ≡ []

abbrev pub HasSignedAll : End → Type 0
HasSignedAll e = sign_fault e.dance ≡ Some refusal.NothingToSign

abbrev pub AgreeOnceSigned : End → End → Type 0
AgreeOnceSigned x y = HasSignedAll x → HasSignedAll y → HoldTheSame x y

abbrev pub Agrees : {K : Type 0} → Both K → Type 0
Agrees p = IsQuiet p → AtEnds AgreeOnceSigned p.x.link.stage p.y.link.stage

-- ---- where nothing is in flight, either end has taken the other's shutdown and channel_ready where they were sent

abbrev pub ReadinessAgrees : {K : Type 0} → Both K → Type 0
ReadinessAgrees p = IsQuiet p → AtEnds SameReadiness p.x.link.stage p.y.link.stage

-- ---- where the closing fees of both ends overlap, nothing is in flight, both have shut down and nothing is left to
-- settle, both have closed

abbrev pub BothClose : {K : Type 0} → Both K → Type 0
BothClose p = AtEnds FeesOverlap p.x.link.stage p.y.link.stage → IsQuiet p
    → AtEnds CloseOnceDone p.x.link.stage p.y.link.stage

-- ---- a command that isn't about decisions is done exactly where the link works, its end's marks let it, and the
-- machine that the two ends stand for may make the move

-- the end of this side, in a channel that this is the machine of
pub record MayObey {K : Type 0} (side : Role) (c : Command) (l : State K) (e : End) (m : Machine) : Type 0 where
  pub works : l.halted ≡ false
  pub stands : l.failure ≡ None
  pub may : MayDo side l.connection c e m

abbrev pub Obeys : {K : Type 0} → (K → Signer) → Role → Command → State K → End → Machine → Type 0
Obeys signer side c l e m = IsTaken (commanded (signer l.keys) l c) ↔ MayObey side c l e m

abbrev pub BothObey : {K : Type 0} → (K → Signer) → Command → Both K → End → End → Type 0
BothObey signer c p x y =
    Obeys signer Funder c p.x.link x (machine_by x y) × Obeys signer Fundee c p.y.link y (machine_by x y)

abbrev pub DoExactly : {K : Type 0} → (K → Signer) → Both K → Type 0
DoExactly signer p =
    (c : Command) → is_of_records c ≡ false → AtEnds (BothObey signer c p) p.x.link.stage p.y.link.stage

-- ---- each channel of a world

abbrev pub Each : {A : Type 0} → (A → Type 0) → List A → Type 0
Each P [] = Unit {0}
Each P (x ∷ xs) = P x × Each P xs

abbrev pub OfEach : {K : Type 0} → (Both K → Type 0) → World K → Type 0
OfEach P w = Each (λ c. P c.both) w.channels
