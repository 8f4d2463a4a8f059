-- A channel as an abstract machine (BOLT 2, "Normal Operation"): whole lists of updates, with no
-- messages, no numbers and no connection. Its updates are as they are sent: where an add came from is
-- no part of them.
use Rattle.std.specs.Prelude.{◌≡◌, ◌≢◌, ℕ, List, [], ◌∷◌, ◌++◌, Bool, true, false, Option, Some, None}
use Rattle.ln_keys.specs.declared.role.Role.{Role}
use Rattle.ln_keys.specs.declared.role.Role.TheVariants.{Funder, Fundee}
use Rattle.ln_log.specs.declared.opening.Opening.{Opening}
use Rattle.ln_log.specs.declared.update.Update.{Update}
use Rattle.ln_log.specs.declared.update.Update.TheVariants as update
use Rattle.ln_keys.specs.Role.{other_role}
use Rattle.ln_log.specs.Opening.{IsFit}
use Rattle.ln_log.specs.View.{live_adds}
use Rattle.ln_log.specs.Limits.{update_fault, HasNextId}
use Rattle.ln_log.specs.Lists.{Begins}

-- the updates of both sides that a commitment covers, told by one side
pub record Covered : Type 0 where
  pub own : List Update
  pub peer : List Update

-- the same, told by the other side
abbrev pub turned : Covered → Covered
turned c = record { own = c.peer; peer = c.own }

abbrev pub nothing : Covered
nothing = record { own = []; peer = [] }

-- one side of a channel
pub record Party : Type 0 where
  pub own : List Update  -- the updates that it has proposed
  pub signed : Covered  -- what its last signature covers, in the peer's commitment
  pub current : Covered  -- what its own commitment covers
  pub acknowledged : Covered  -- what the peer's commitment covers, up to which the peer has revoked
  pub shut : Bool  -- it has sent shutdown (BOLT 2, "Closing Initiation")
  pub closed : Option ℕ  -- it has closed at this fee (BOLT 2, "Closing Negotiation")

abbrev pub fresh : Party
fresh = record { own = []; signed = nothing; current = nothing; acknowledged = nothing; shut = false; closed = None }

pub record Machine : Type 0 where
  pub opening : Opening
  pub funder : Party
  pub fundee : Party

abbrev pub party : Role → Machine → Party
party Funder m = m.funder
party Fundee m = m.fundee

abbrev pub with_party : Role → Party → Machine → Machine
with_party Funder p m = record { opening = m.opening; funder = p; fundee = m.fundee }
with_party Fundee p m = record { opening = m.opening; funder = m.funder; fundee = p }

-- ---- its steps

-- BOLT 2, "Adding an HTLC" and the sections after it: a side proposes an update
abbrev pub after_propose : Update → Party → Party
after_propose u p = record p { own = p.own ++ u ∷ [] }

-- what a signature made now covers: all own updates, and those of the peer that stand in the signer's
-- own commitment
abbrev pub to_sign : Party → Covered
to_sign p = record { own = p.own; peer = p.current.peer }

-- BOLT 2, "Committing Updates So Far": a side signs
abbrev pub after_sign : Party → Party
after_sign p = record p { signed = to_sign p }

-- the peer of a side that signed takes the signature, and revokes its commitment before
abbrev pub after_accept : Party → Party → Party
after_accept signer p = record p { current = turned signer.signed }

-- BOLT 2, "Completing the Transition to the Updated State": a side takes the peer's revocation
abbrev pub after_learn : Party → Party → Party
after_learn revoker p = record p { acknowledged = turned revoker.current }

-- BOLT 2, "Message Retransmission": a lost connection costs a side its updates that no signature covers
abbrev pub after_drop : Party → Party
after_drop p = record p { own = p.signed.own }

-- BOLT 2, "Closing Initiation: shutdown": a side sends shutdown
abbrev pub after_shut : Party → Party
after_shut p = record p { shut = true }

-- BOLT 2, "Closing Negotiation: closing_signed": a side closes at a fee
abbrev pub after_close : ℕ → Party → Party
after_close fee p = record p { closed = Some fee }

pub data Move : Type 0 where
  Open : (o : Opening) → Move
  Propose : (x : Role) (u : Update) → Move
  Sign : (x : Role) → Move
  Accept : (x : Role) → Move
  Learn : (x : Role) → Move
  Drop : (x : Role) → Move
  Shut : (x : Role) → Move
  Close : (x : Role) (fee : ℕ) → Move

abbrev pub moved : Move → Machine → Machine
moved (Open o) m = m
moved (Propose x u) m = with_party x (after_propose u (party x m)) m
moved (Sign x) m = with_party x (after_sign (party x m)) m
moved (Accept x) m = with_party x (after_accept (party (other_role x) m) (party x m)) m
moved (Learn x) m = with_party x (after_learn (party (other_role x) m) (party x m)) m
moved (Drop x) m = with_party x (after_drop (party x m)) m
moved (Shut x) m = with_party x (after_shut (party x m)) m
moved (Close x fee) m = with_party x (after_close fee (party x m)) m

-- there is no channel before one is opened
abbrev pub after : Move → Option Machine → Option Machine
after (Open o) None = Some (record { opening = o; funder = fresh; fundee = fresh })
after (Propose x u) None = None
after (Sign x) None = None
after (Accept x) None = None
after (Learn x) None = None
after (Drop x) None = None
after (Shut x) None = None
after (Close x fee) None = None
after move (Some m) = Some (moved move m)

-- ---- when it may step

-- no add and no fee follows a shutdown; what was added may still be removed
abbrev pub MayFollow : Bool → Update → Type 0
MayFollow shut (update.Add a) = shut ≡ false
MayFollow shut (update.Fulfil f) = Unit {0}
MayFollow shut (update.Fail f) = Unit {0}
MayFollow shut (update.Malformed m) = Unit {0}
MayFollow shut (update.Fee f) = shut ≡ false

-- an add has the next id, and meets the limits on the view of what a signature would cover; a removal
-- names an HTLC that its side holds as irrevocably committed and hasn't removed; a fee is the funder's
pub record MayPropose (o : Opening) (x : Role) (u : Update) (p : Party) : Type 0 where
  pub open_still : MayFollow p.shut u
  pub next : HasNextId p.own u
  pub within : update_fault o x p.own p.current.peer p.acknowledged.peer u ≡ None

-- no signature is unrevoked, and something new would be covered
pub record MaySign (p : Party) : Type 0 where
  pub revoked : p.acknowledged ≡ p.signed
  pub new : p.signed ≢ to_sign p

-- every own update is acknowledged
abbrev pub MayShut : Party → Type 0
MayShut p = p.own ≡ p.acknowledged.own

-- each of its commitments covers all own updates, and all of the other side's
pub record CoversAll (p : Party) (peer : List Update) : Type 0 where
  pub signed : p.signed ≡ record { own = p.own; peer = peer }
  pub current : p.current ≡ record { own = p.own; peer = peer }
  pub acknowledged : p.acknowledged ≡ record { own = p.own; peer = peer }

-- both sides have shut down, every commitment covers every update, and no HTLC is live; a side closes once
pub record MayClose (x y : Party) : Type 0 where
  pub shut : x.shut ≡ true
  pub peer_shut : y.shut ≡ true
  pub own_covered : CoversAll x y.own
  pub peer_covered : CoversAll y x.own
  pub none_live : live_adds x.own y.own ≡ []
  pub none_live_of_the_peer : live_adds y.own x.own ≡ []
  pub open_still : x.closed ≡ None

abbrev pub MayMove : Move → Option Machine → Type 0
MayMove (Open o) None = IsFit o
MayMove (Open o) (Some m) = ⊥
MayMove (Propose x u) None = ⊥
MayMove (Propose x u) (Some m) = MayPropose m.opening x u (party x m)
MayMove (Sign x) None = ⊥
MayMove (Sign x) (Some m) = MaySign (party x m)
MayMove (Accept x) None = ⊥
MayMove (Accept x) (Some m) = Unit {0}
MayMove (Learn x) None = ⊥
MayMove (Learn x) (Some m) = Unit {0}
MayMove (Drop x) None = ⊥
MayMove (Drop x) (Some m) = Unit {0}
MayMove (Shut x) None = ⊥
MayMove (Shut x) (Some m) = MayShut (party x m)
MayMove (Close x fee) None = ⊥
MayMove (Close x fee) (Some m) = MayClose (party x m) (party (other_role x) m)

-- these moves, each of which may be made, lead from one state to the other
abbrev pub IsRun : List Move → Option Machine → Option Machine → Type 0
IsRun [] old new = new ≡ old
IsRun (move ∷ moves) old new = MayMove move old × IsRun moves (after move old) new

-- ---- what it promises

-- a side holds as irrevocably committed its own updates that stand in its own commitment, and the peer's
-- that stand in the peer's commitment which was acknowledged to it
abbrev pub held : Party → Covered
held p = record { own = p.current.own; peer = p.acknowledged.peer }

-- what y holds begins what x has covered by a signature, and what y holds of x's updates begins x's list
pub record Follows (x y : Party) : Type 0 where
  pub of_x : Begins (held y).peer x.signed.own
  pub of_y : Begins (held y).own x.signed.peer
  pub in_order : Begins (held y).peer x.own
