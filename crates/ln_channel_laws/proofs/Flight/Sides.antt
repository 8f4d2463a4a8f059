-- Both ends of a channel whose connection breaks, and what is in flight between them. What an end does is
-- told from that end, as x, with y at the other.
use Rattle.ln_log.specs.declared.update.Update.{Update as Change}
use Rattle.ln_log.specs.declared.update.Update.TheVariants as update
use Rattle.ln_log.specs.declared.opening.Opening.{Opening}
use Rattle.ln_keys.specs.declared.role.Role.{Role}
use Rattle.ln_log.specs.Log.{Counts}
use Rattle.ln_channel.specs.declared.machine.ConnectionState.{ConnectionState}
use Rattle.ln_channel.specs.declared.machine.ConnectionState.TheVariants.{Down, AwaitingReestablish, Connected}
use Rattle.ln_msgs.specs.declared.messages.commitments.CommitmentSigned.{CommitmentSigned}
use Rattle.ln_msgs.specs.declared.messages.commitments.RevokeAndAck.{RevokeAndAck}
use Rattle.ln_msgs.specs.declared.messages.commitments.ChannelReestablish.{ChannelReestablish}
use Rattle.ln_msgs.specs.declared.messages.opening.ChannelReady.{ChannelReady}
use Rattle.ln_msgs.specs.declared.messages.closing.ClosingSigned.{ClosingSigned}
use Rattle.ln_msgs.specs.declared.messages.closing.Shutdown.{Shutdown as ShutdownMessage}
use Rattle.std.specs.Prelude.{ℕ, ◌+◌, List, [], ◌∷◌, ◌++◌, length, take, drop, Bool, true, false, ◌==◌, if◌then◌else◌}
use Rattle.std.specs.Prelude.{Option, Some, None, is_some}
use Rattle.std.specs.Prelude.{◌&&◌}

-- no add and no fee follows a shutdown
abbrev pub opens : Change → Bool
opens (update.Add a) = true
opens (update.Fulfil f) = false
opens (update.Fail f) = false
opens (update.Malformed m) = false
opens (update.Fee f) = true

pub data Notice : Type 0 where
  Update : (u : Change) → Notice
  Sign : (m : CommitmentSigned) → Notice
  Revoke : (m : RevokeAndAck) → Notice
  Ready : (m : ChannelReady) → Notice
  Shutdown : (m : ShutdownMessage) → Notice
  Close : (m : ClosingSigned) → Notice
  Again : (m : ChannelReestablish) → Notice

-- what a record keeps, and the updates that no signature covers
pub record Side : Type 0 where
  pub opening : Opening
  pub role : Role
  pub own : List Change
  pub got : List Change
  pub signed : Counts
  pub acked : Counts
  pub current : Counts
  pub number : ℕ  -- of its own commitment
  pub signatures : ℕ  -- the number of the last signature that it sent
  pub revocations : ℕ  -- how many it has taken
  pub ready : Bool  -- it has sent channel_ready
  pub peer_ready : Bool  -- it has taken the peer's
  pub shut : Bool  -- it has sent shutdown
  pub peer_shut : Bool  -- it has taken the peer's
  pub closed : Bool  -- it has closed
  pub late : Bool  -- of its last signature and its last revocation, the revocation was sent later
  pub signature : CommitmentSigned  -- its last signature, as it would send it again
  pub revocation : RevokeAndAck  -- its last revocation, likewise
  pub ready_message : ChannelReady  -- its channel_ready
  pub shut_message : ShutdownMessage  -- its shutdown
  pub close_message : Option ClosingSigned  -- its last closing_signed, where it has sent one
  pub reestablish : ChannelReestablish  -- what it would tell as a connection comes back

pub record Both : Type 0 where
  pub x_link : ConnectionState
  pub y_link : ConnectionState
  pub x : Side
  pub y : Side
  pub to_x : List Notice
  pub to_y : List Notice

-- what is sent joins the end of what is in flight to an end that is up
abbrev pub posts : ConnectionState → List Notice → List Notice → List Notice
posts Down sent ms = ms
posts AwaitingReestablish sent ms = ms ++ sent
posts Connected sent ms = ms ++ sent

abbrev pub proposed : Change → Side → Side
proposed u x = record x { own = x.own ++ u ∷ [] }

abbrev pub signed_all : CommitmentSigned → Side → Side
signed_all m x = record x {
  signed = record { own = length x.own; peer = x.current.peer };
  signatures = x.signatures + 1;
  late = false;
  signature = m;
}

abbrev pub received : Change → Side → Side
received u x = record x { got = x.got ++ u ∷ [] }

abbrev pub accepted_all : RevokeAndAck → ChannelReestablish → Side → Side
accepted_all m again x = record x {
  current = record { own = x.acked.own; peer = length x.got };
  number = x.number + 1;
  late = true;
  revocation = m;
  reestablish = again;
}

-- with what it would now send again as its last signature
abbrev pub acknowledged_all : CommitmentSigned → ChannelReestablish → Side → Side
acknowledged_all m again x = record x {
  acked = x.signed;
  revocations = x.revocations + 1;
  signature = m;
  reestablish = again;
}

abbrev pub dropped : Side → Side
dropped x = record x { own = take x.signed.own x.own; got = take x.current.peer x.got }

-- ---- what a reestablish is answered by

abbrev pub updates_of : List Change → List Notice
updates_of [] = []
updates_of (u ∷ us) = Update u ∷ updates_of us

-- the updates that the last signature covered newly, then that signature
abbrev pub again_signed : Side → List Notice
again_signed x = updates_of (drop x.acked.own (take x.signed.own x.own)) ++ Sign x.signature ∷ []

abbrev pub signature_owed : ℕ → Side → List Notice
signature_owed n x = if (n == x.signatures) && (x.signatures == x.revocations + 1) then again_signed x else []

abbrev pub revocation_owed : ℕ → Side → List Notice
revocation_owed r x = if r + 1 == x.number then Revoke x.revocation ∷ [] else []

-- in the order in which they were sent first
abbrev pub owed : ℕ → ℕ → Side → List Notice
owed n r x = if x.late then signature_owed n x ++ revocation_owed r x else revocation_owed r x ++ signature_owed n x

-- channel_ready, where both sides are at commitment 0
abbrev pub ready_again : ℕ → Side → List Notice
ready_again n x = if (x.number == 0) && (n == 1) && x.ready then Ready x.ready_message ∷ [] else []

abbrev pub shutdown_again : Side → List Notice
shutdown_again x = if x.shut then Shutdown x.shut_message ∷ [] else []

abbrev pub closes_of : Option ClosingSigned → List Notice
closes_of None = []
closes_of (Some m) = Close m ∷ []

abbrev pub all_owed : ℕ → ℕ → Side → List Notice
all_owed n r x = ready_again n x ++ (owed n r x ++ (shutdown_again x ++ closes_of x.close_message))

-- ---- steps of x

abbrev pub proposes : Change → Both → Both
proposes u b = record b { x = proposed u b.x; to_y = posts b.y_link (Update u ∷ []) b.to_y }

abbrev pub signs : CommitmentSigned → Both → Both
signs m b = record b { x = signed_all m b.x; to_y = posts b.y_link (Sign m ∷ []) b.to_y }

abbrev pub confirms : Both → Both
confirms b = record b { x = record b.x { ready = true }; to_y = posts b.y_link (Ready b.x.ready_message ∷ []) b.to_y }

abbrev pub shuts : ShutdownMessage → Both → Both
shuts m b = record b {
  x = record b.x { shut = true; shut_message = m };
  to_y = posts b.y_link (Shutdown m ∷ []) b.to_y;
}

-- with this closing_signed as its last, and closed or not
abbrev pub dealt : Option ClosingSigned → Bool → Side → Side
dealt m closed x = record x { close_message = m; closed = closed }

abbrev pub has_bid : Side → Bool
has_bid x = is_some x.close_message

abbrev pub goes_down : Both → Both
goes_down b = record b { x_link = Down; x = dropped b.x; to_x = [] }

abbrev pub comes_up : Both → Both
comes_up b = record b {
  x_link = AwaitingReestablish;
  y_link = AwaitingReestablish;
  to_x = Again b.y.reestablish ∷ [];
  to_y = Again b.x.reestablish ∷ [];
}
