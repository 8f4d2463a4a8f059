-- What every step keeps of channel_ready and shutdown, for one direction at a time. It is a walk of its own: it
-- asks nothing of updates but whether a shutdown forbids them.
use Rattle.std.specs.Prelude.{◌≡◌, ◌≤◌, List, [], ◌∷◌, length, drop, Bool, true, false}
use Rattle.ln_log.specs.declared.update.Update.{Update as Change}
use Rattle.ln_msgs.specs.declared.messages.opening.ChannelReady.{ChannelReady}
use Rattle.ln_msgs.specs.declared.messages.closing.Shutdown.{Shutdown as ShutdownMessage}
use Rattle.ln_channel.specs.declared.machine.ConnectionState.{ConnectionState}
use Rattle.ln_channel.specs.declared.machine.ConnectionState.TheVariants.{Down, AwaitingReestablish, Connected}
use Rattle.ln_channel_laws.proofs.Flight.Sides.{Both, has_bid, opens, Notice, Update, Sign, Revoke, Ready, Shutdown}
use Rattle.ln_channel_laws.proofs.Flight.Sides.{Close}
use Rattle.ln_channel_laws.proofs.Flight.Sides.{Again}
use Rattle.ln_channel_laws.proofs.Flight.Sides.{Side}

-- what opens something doesn't stand after a shutdown
abbrev pub IsAllowed : Bool → Bool → Type 0
IsAllowed true shut = shut ≡ false
IsAllowed false shut = Unit {0}

abbrev pub NoneOpens : List Change → Type 0
NoneOpens [] = Unit {0}
NoneOpens (u ∷ us) = (opens u ≡ false) × NoneOpens us

-- what x has sent, and whether y has sent channel_ready
pub record ReadinessOf : Type 0 where
  pub ready : Bool
  pub shut : Bool
  pub peer_ready : Bool
  pub ready_message : ChannelReady
  pub shut_message : ShutdownMessage
  pub bid : Bool  -- it has sent a closing_signed

-- who has taken channel_ready (r) and shutdown (s) or not reads the messages, and stands at Q then
abbrev pub ReadsReadiness : ReadinessOf → (Bool → Bool → Type 0) → Bool → Bool → List Notice → Type 0
ReadsReadiness t Q r s [] = Q r s
ReadsReadiness t Q r s (Update u ∷ ms) = (r ≡ true) × (t.peer_ready ≡ true) × IsAllowed (opens u) s
    × ReadsReadiness t Q r s ms
ReadsReadiness t Q r s (Sign k ∷ ms) = (r ≡ true) × (t.peer_ready ≡ true) × ReadsReadiness t Q r s ms
ReadsReadiness t Q r s (Revoke k ∷ ms) = ReadsReadiness t Q r s ms
ReadsReadiness t Q r s (Ready z ∷ ms) = (t.ready ≡ true) × (z ≡ t.ready_message) × ReadsReadiness t Q true s ms
ReadsReadiness t Q r s (Shutdown z ∷ ms) = (t.shut ≡ true) × (z ≡ t.shut_message) × ReadsReadiness t Q r true ms
ReadsReadiness t Q r s (Close z ∷ ms) = (t.bid ≡ true) × ReadsReadiness t Q r s ms
ReadsReadiness t Q r s (Again n ∷ ms) = ⊥

-- a closed end takes no channel_ready any more
abbrev pub AllReadiness : Bool → Bool → Bool → Bool → Bool → Type 0
AllReadiness ready shut closed r s = (closed ≡ false → r ≡ ready) × (s ≡ shut)

abbrev pub AnyReadiness : Bool → Bool → Type 0
AnyReadiness r s = Unit {0}

abbrev pub readiness_of : Side → Side → ReadinessOf
readiness_of x y = record {
  ready = x.ready;
  shut = x.shut;
  peer_ready = y.ready;
  ready_message = x.ready_message;
  shut_message = x.shut_message;
  bid = has_bid x;
}

abbrev pub CarriesReadiness : ConnectionState → Side → Side → List Notice → Type 0
CarriesReadiness Down x y ms = ReadsReadiness (readiness_of x y) AnyReadiness y.peer_ready y.peer_shut ms
CarriesReadiness AwaitingReestablish x y ms = ms ≡ []
CarriesReadiness Connected x y ms = ReadsReadiness (readiness_of x y) (AllReadiness x.ready x.shut y.closed)
    y.peer_ready y.peer_shut ms

abbrev pub ReadinessAgain : ConnectionState → Side → Side → List Notice → Type 0
ReadinessAgain l x y [] = ⊥
ReadinessAgain l x y (Update u ∷ ms) = ⊥
ReadinessAgain l x y (Sign k ∷ ms) = ⊥
ReadinessAgain l x y (Revoke k ∷ ms) = ⊥
ReadinessAgain l x y (Ready z ∷ ms) = ⊥
ReadinessAgain l x y (Shutdown z ∷ ms) = ⊥
ReadinessAgain l x y (Close z ∷ ms) = ⊥
ReadinessAgain l x y (Again n ∷ ms) = CarriesReadiness l x y ms

abbrev pub ReadinessFlight : ConnectionState → ConnectionState → Side → Side → List Notice → Type 0
ReadinessFlight l Down x y ms = ms ≡ []
ReadinessFlight l AwaitingReestablish x y ms = ReadinessAgain l x y ms
ReadinessFlight l Connected x y ms = CarriesReadiness l x y ms

pub record IsReady (x : Side) : Type 0 where
  pub sent : x.ready ≡ true
  pub taken : x.peer_ready ≡ true

pub record ReadinessFlow (lx ly : ConnectionState) (x y : Side) (ms : List Notice) : Type 0 where
  pub ready_sent : y.peer_ready ≡ true → x.ready ≡ true
  pub shut_sent : y.peer_shut ≡ true → x.shut ≡ true
  pub used : 1 ≤ length x.own → IsReady x
  pub used_signature : 1 ≤ x.signatures → IsReady x
  pub used_number : 1 ≤ x.number → IsReady x
  pub shut : x.shut ≡ true → NoneOpens (drop x.acked.own x.own)
  pub flight : ReadinessFlight lx ly x y ms

pub record BothReadiness (b : Both) : Type 0 where
  pub there : ReadinessFlow b.x_link b.y_link b.x b.y b.to_y
  pub back : ReadinessFlow b.y_link b.x_link b.y b.x b.to_x
