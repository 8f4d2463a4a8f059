-- What every step keeps, for one direction at a time: x signs, and y receives.
use Rattle.ln_log.specs.declared.opening.Opening.{Opening}
use Rattle.ln_keys.specs.declared.role.Role.{Role}
use Rattle.ln_keys.specs.Role.{other_role}
use Rattle.ln_log.specs.Limits.{update_fault, id_fault, is_at_update_limit}
use Rattle.std.specs.Prelude.{◌≡◌, ℕ, ◌+◌, ◌≤◌, List, [], ◌∷◌, ◌++◌, length, take, Bool, true, false, None}
use Rattle.ln_log.specs.declared.update.Update.{Update as Change}
use Rattle.ln_log.specs.Log.{Counts}
use Rattle.ln_log.specs.Updates.{as_sent}
use Rattle.ln_msgs.specs.declared.messages.commitments.CommitmentSigned.{CommitmentSigned}
use Rattle.ln_msgs.specs.declared.messages.commitments.RevokeAndAck.{RevokeAndAck}
use Rattle.ln_channel.specs.declared.machine.ConnectionState.{ConnectionState}
use Rattle.ln_channel.specs.declared.machine.ConnectionState.TheVariants.{Down, AwaitingReestablish, Connected}
use Rattle.ln_channel_laws.proofs.Flight.Sides.{Both, Notice, Update, Sign, Revoke, Ready, Shutdown, Close, Again}
use Rattle.ln_channel_laws.proofs.Flight.Sides.{Side}

-- an update of the side r is taken after own, where seen of the other side's stand with it, and the side
-- holds held of them
pub record FitsBehind (o : Opening) (r : Role) (own seen held : List Change) (u : Change) : Type 0 where
  pub room : is_at_update_limit own ≡ false
  pub next : id_fault own u ≡ None
  pub within : update_fault o r own seen held u ≡ None
  pub sent : as_sent u ≡ u

abbrev pub AllFit : Opening → Role → List Change → List Change → List Change → List Change → Type 0
AllFit o r before seen held [] = Unit {0}
AllFit o r before seen held (u ∷ us) = FitsBehind o r before seen held u × AllFit o r (before ++ u ∷ []) seen held us

-- ---- the records of both

-- how far x's last signature is; current is y's commitment
pub data Phase (s a c : ℕ) (acked signed current : Counts) : Type 0 where
  Idle : s ≡ a → c ≡ s → acked.own ≡ signed.own → acked.peer ≡ signed.peer → current.peer ≡ signed.own
      → current.own ≡ signed.peer → Phase s a c acked signed current
  Sent : s ≡ a + 1 → c ≡ a → current.peer ≡ acked.own → current.own ≡ acked.peer → Phase s a c acked signed current
  Answered : s ≡ a + 1 → c ≡ s → current.peer ≡ signed.own → current.own ≡ signed.peer
      → Phase s a c acked signed current

-- where y hasn't accepted it: if x has revoked since, y hasn't taken that revocation either, and the
-- signature covers what y knew before; else it covers what x's commitment covers now
abbrev pub InOrder : Bool → ℕ → ℕ → ℕ → ℕ → ℕ → Type 0
InOrder true number revocations seen known current = (revocations + 1 ≡ number) × (seen ≡ known)
InOrder false number revocations seen known current = seen ≡ current

-- ---- what is in flight

-- what of x the messages in flight have to meet
pub record Sender : Type 0 where
  pub opening : Opening
  pub role : Role
  pub covered : List Change  -- the own updates that its last signature covers
  pub seen : ℕ  -- how many of the peer's
  pub signatures : ℕ
  pub number : ℕ
  pub late : Bool
  pub signature : CommitmentSigned
  pub revocation : RevokeAndAck

abbrev pub sender : Side → Sender
sender x = record {
  opening = x.opening;
  role = x.role;
  covered = take x.signed.own x.own;
  seen = x.signed.peer;
  signatures = x.signatures;
  number = x.number;
  late = x.late;
  signature = x.signature;
  revocation = x.revocation;
}

-- the signature is due for who took got, knows a of its own to be acknowledged and has commitment c
pub record IsDue (w : Sender) (got : List Change) (a c : ℕ) (m : CommitmentSigned) : Type 0 where
  pub named : m ≡ w.signature
  pub next : c + 1 ≡ w.signatures
  pub covers : got ≡ w.covered
  pub knows : a ≡ w.seen

-- a revocation that was sent later than the signature is after it
abbrev pub IsBehind : Bool → ℕ → ℕ → Type 0
IsBehind true c signatures = c ≡ signatures
IsBehind false c signatures = Unit {0}

-- the revocation is due for who took r of them and has commitment c
pub record IsNext (w : Sender) (c r : ℕ) (m : RevokeAndAck) : Type 0 where
  pub named : m ≡ w.revocation
  pub next : r + 1 ≡ w.number
  pub order : IsBehind w.late c w.signatures

-- who stands there reads the messages, each as it is due, and stands at Q then; own is its own list, held what
-- of it stands in its own commitment, all how many of it its last signature covers
abbrev pub Reads : Sender → List Change → List Change → ℕ → (List Change → ℕ → ℕ → ℕ → Type 0) → List Change → ℕ → ℕ
    → ℕ → List Notice → Type 0
Reads w own held all Q got a c r [] = Q got a c r
Reads w own held all Q got a c r (Update u ∷ ms) = FitsBehind w.opening w.role got (take a own) held u
    × Reads w own held all Q (got ++ u ∷ []) a c r ms
Reads w own held all Q got a c r (Sign k ∷ ms) = IsDue w got a c k × Reads w own held all Q got a (c + 1) r ms
Reads w own held all Q got a c r (Revoke k ∷ ms) = IsNext w c r k × Reads w own held all Q got all c (r + 1) ms
Reads w own held all Q got a c r (Ready z ∷ ms) = Reads w own held all Q got a c r ms
Reads w own held all Q got a c r (Shutdown z ∷ ms) = Reads w own held all Q got a c r ms
Reads w own held all Q got a c r (Close z ∷ ms) = Reads w own held all Q got a c r ms
Reads w own held all Q got a c r (Again n ∷ ms) = ⊥

-- then it lacks nothing of the sender, which has these updates, has seen so many of its own, and has sent the
-- signature and has the commitment of these numbers
pub record LacksNothing (updates : List Change) (seen signatures number : ℕ) (got : List Change)
    (a c r : ℕ) : Type 0 where
  pub has_all : got ≡ updates
  pub knows : a ≡ seen
  pub accepted : c ≡ signatures
  pub revoked : r ≡ number

-- then nothing is asked
abbrev pub Anywhere : List Change → ℕ → ℕ → ℕ → Type 0
Anywhere got a c r = Unit {0}

abbrev pub holds : Side → List Change
holds y = take y.current.own y.own

-- after the reestablish: all that y lacks, where x has met it; nothing, where x hasn't; a beginning, where x
-- is down again
abbrev pub Carries : ConnectionState → Side → Side → List Notice → Type 0
Carries Down x y ms = Reads (sender x) y.own (holds y) y.signed.own Anywhere y.got y.acked.own y.number y.revocations ms
Carries AwaitingReestablish x y ms = (ms ≡ []) × (length y.got ≤ y.current.peer)
Carries Connected x y ms = Reads (sender x) y.own (holds y) y.signed.own
    (LacksNothing x.own x.current.peer x.signatures x.number) y.got y.acked.own y.number y.revocations ms

abbrev pub BeginsAgain : ConnectionState → Side → Side → List Notice → Type 0
BeginsAgain l x y [] = ⊥
BeginsAgain l x y (Update u ∷ ms) = ⊥
BeginsAgain l x y (Sign k ∷ ms) = ⊥
BeginsAgain l x y (Revoke k ∷ ms) = ⊥
BeginsAgain l x y (Ready z ∷ ms) = ⊥
BeginsAgain l x y (Shutdown z ∷ ms) = ⊥
BeginsAgain l x y (Close z ∷ ms) = ⊥
BeginsAgain l x y (Again m ∷ ms) = (m ≡ x.reestablish) × Carries l x y ms

-- from x to y; in front, until y has taken it, x's reestablish
abbrev pub InFlight : ConnectionState → ConnectionState → Side → Side → List Notice → Type 0
InFlight l Down x y ms = ms ≡ []
InFlight l AwaitingReestablish x y ms = BeginsAgain l x y ms
InFlight l Connected x y ms = Carries l x y ms

-- ---- the whole

pub record IsWithin (x : Side) : Type 0 where
  pub own_current : x.current.own ≤ x.acked.own
  pub own_acked : x.acked.own ≤ x.signed.own
  pub own_signed : x.signed.own ≤ length x.own
  pub peer_acked : x.acked.peer ≤ x.signed.peer
  pub peer_signed : x.signed.peer ≤ x.current.peer
  pub peer_current : x.current.peer ≤ length x.got

-- an end that hasn't met the peer has only what its record keeps
abbrev pub IsCut : ConnectionState → Side → Type 0
IsCut Down x = (length x.own ≤ x.signed.own) × (length x.got ≤ x.current.peer)
IsCut AwaitingReestablish x = (length x.own ≤ x.signed.own) × (length x.got ≤ x.current.peer)
IsCut Connected x = Unit {0}

pub record Flows (lx ly : ConnectionState) (x y : Side) (ms : List Notice) : Type 0 where
  pub same : y.opening ≡ x.opening
  pub roles : other_role y.role ≡ x.role
  pub within : IsWithin x
  pub cut : IsCut lx x
  pub fit : AllFit x.opening x.role [] (take x.current.peer x.got) (take x.acked.peer x.got) x.own
  pub fit_signed : AllFit x.opening x.role [] (take x.signed.peer x.got) (take x.acked.peer x.got)
      (take x.signed.own x.own)
  pub phase : Phase x.signatures x.revocations y.number x.acked x.signed y.current
  pub agree : take y.current.peer y.got ≡ take y.current.peer x.own
  pub order : y.number + 1 ≡ x.signatures → InOrder x.late x.number y.revocations x.signed.peer
      y.acked.own x.current.peer
  pub flight : InFlight lx ly x y ms

-- each way round
pub record BothFlow (b : Both) : Type 0 where
  pub there : Flows b.x_link b.y_link b.x b.y b.to_y
  pub back : Flows b.y_link b.x_link b.y b.x b.to_x
