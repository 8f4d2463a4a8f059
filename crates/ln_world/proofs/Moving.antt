-- What a move of a channel makes of a link: of the one that it is of, and of the other.
use Rattle.std.proofs.Common.{◌≡◌, ℕ, List, [], ◌∷◌, refl, sym, ap, subst, Bool, true, false, cond}
use Rattle.std.proofs.Common.{Option, Some, None, Result, Err}
use Rattle.ln_msgs.specs.declared.messages.message.Message.{Message}
use Rattle.ln_refusals.specs.declared.refusal.Refusal.TheVariants as refusal
use Rattle.ln_channel.specs.Step.{connects}
use Rattle.ln_keys.specs.Signer.{Signer}
use Rattle.ln_keys.specs.declared.role.Role.{Role}
use Rattle.ln_keys.specs.declared.role.Role.TheVariants.{Funder, Fundee}
use Rattle.ln_refusals.specs.declared.refusal.Refusal.{Refusal}
use Rattle.ln_channel.specs.declared.command.Command.{Command}
use Rattle.ln_channel.specs.declared.machine.ConnectionState.TheVariants.{Down}
use Rattle.ln_channel.specs.declared.machine.Stage.TheVariants as stage
use Rattle.ln_channel.specs.End.{End, end_dropped}
use Rattle.ln_channel.specs.Record.{saved_end}
use Rattle.ln_channel.specs.State.{State, is_down, drops, refused}
use Rattle.ln_channel.specs.State as state
use Rattle.ln_channel.specs.Step.{Done, handled, commanded}
use Rattle.ln_world_channels.specs.declared.step.Act.{Act}
use Rattle.ln_world_channels.specs.declared.step.Act.TheVariants as act
use Rattle.ln_world_channels.specs.Both.{SimEnd, Both, delivers, left, unchanged, acts, back}
use Rattle.ln_world_channels.specs.Both.{first_message, greeted, comes_up, moves, Move, By, Disconnects}
use Rattle.ln_world_channels.specs.Both.{Halts, Restarts}
use Rattle.ln_world_channels.specs.Both.{Stops, HaltsAfter, Meet}
use Rattle.ln_world_channels.specs.WorldChannel.{place_of}
use Rattle.ln_world_channels.proofs.Mirror.{link_at, reached_link}
use Rattle.ln_world.proofs.Answering.{LinkIs, Steps, handled_shifts, commanded_shifts, message_left}
use Rattle.ln_world.proofs.Answering.{command_left}
use Rattle.ln_world.proofs.Ends.{IsLink}

abbrev pub other : Role → Role
other Funder = Fundee
other Fundee = Funder

module _ {K : Type 0} (id : List ℕ) (s : State K) (h : IsLink id s) where
  -- ---- it loses its connection, halts, or comes back

  drops_by : (b : Bool) → is_down h.connection ≡ b → LinkIs (cond b (link_at h.halted h.keys h.connection h.end)
      (record {
        keys = h.keys;
        connection = Down;
        halted = h.halted;
        failure = None;
        stage = stage.Funded (end_dropped h.end);
      }))
      (end_dropped h.end) h.halted
  drops_by true is = record { stage = ap stage.Funded (sym (h.dropped is)); halted = refl }
  drops_by false is = record { stage = refl; halted = refl }

  pub drops_is : LinkIs (drops s) (end_dropped h.end) h.halted
  drops_is = subst (λ z. LinkIs (drops z) (end_dropped h.end) h.halted) (sym h.link) (drops_by
      (is_down h.connection) refl)

  pub halts_is : LinkIs (state.halts s) (end_dropped h.end) true
  halts_is = record { stage = drops_is.stage; halted = refl }

  pub back_is : (keys : K) → LinkIs (back keys s (saved_end s.stage)) (end_dropped h.end) false
  back_is keys = subst (λ z. LinkIs (back keys z (saved_end z.stage)) (end_dropped h.end) false) (sym h.link)
      (record { stage = refl; halted = refl })

  greeted_by : (keys : Signer) (b : Bool) → h.halted ≡ b → (d : Bool) → is_down h.connection ≡ d
      → LinkIs (greeted (first_message (λ k. keys) (link_at b h.keys h.connection h.end))
      (link_at b h.keys h.connection h.end)) h.end b
  greeted_by keys true is d e = record { stage = refl; halted = refl }
  greeted_by keys false is true e = subst (λ t. LinkIs (greeted (cond t
      (connects keys (stage.Funded h.end)) (Err refusal.NotReady))
      (link_at false h.keys h.connection h.end)) h.end false) (sym e) (record { stage = refl; halted = refl })
  greeted_by keys false is false e = subst (λ t. LinkIs (greeted (cond t
      (connects keys (stage.Funded h.end)) (Err refusal.NotReady))
      (link_at false h.keys h.connection h.end)) h.end false) (sym e) (record { stage = refl; halted = refl })

  -- a new connection
  pub greeted_is : (signer : K → Signer) → LinkIs (greeted (first_message signer s) s) h.end h.halted
  greeted_is signer = subst (λ z. LinkIs (greeted (first_message signer z) z) h.end h.halted) (sym h.link)
      (greeted_by (signer h.keys) h.halted refl (is_down h.connection) refl)

abbrev pub IsSide : Role → Role → Type 0
IsSide Funder Funder = Unit {0}
IsSide Fundee Fundee = Unit {0}
IsSide Funder Fundee = ⊥
IsSide Fundee Funder = ⊥

abbrev pub IsOfSide : Move → Role → Type 0
IsOfSide (By r a) s = IsSide r s
IsOfSide (Disconnects r) s = IsSide r s
IsOfSide (Halts r) s = IsSide r s
IsOfSide (Restarts r) s = IsSide r s
IsOfSide (Stops r a) s = IsSide r s
IsOfSide (HaltsAfter r a) s = IsSide r s
IsOfSide Meet s = ⊥

pub acts_side : (a : Act) (s : Role) → IsOfSide (By s a) s
acts_side a Funder = tt
acts_side a Fundee = tt

pub stops_side : (a : Act) (s : Role) → IsOfSide (Stops s a) s
stops_side a Funder = tt
stops_side a Fundee = tt

pub halts_after_side : (a : Act) (s : Role) → IsOfSide (HaltsAfter s a) s
halts_after_side a Funder = tt
halts_after_side a Fundee = tt

pub falls_side : (s : Role) → IsOfSide (Disconnects s) s
falls_side Funder = tt
falls_side Fundee = tt

pub halts_side : (s : Role) → IsOfSide (Halts s) s
halts_side Funder = tt
halts_side Fundee = tt

pub restarts_side : (s : Role) → IsOfSide (Restarts s) s
restarts_side Funder = tt
restarts_side Fundee = tt

-- ---- an act

abbrev pub row_front : {K : Type 0} → (K → Signer) → List Message → State K → Option (Result Done Refusal)
row_front signer [] l = None
row_front signer (m ∷ ms) l = Some (handled (signer l.keys) l m)

-- what it answers; nothing where no message is in flight
abbrev pub row_of : {K : Type 0} → (K → Signer) → Act → SimEnd K → Option (Result Done Refusal)
row_of signer (act.Send c) p = Some (commanded (signer p.link.keys) p.link c)
row_of signer act.Deliver p = row_front signer p.inbox p.link

-- and what that leaves of the link
abbrev pub Acted : {K : Type 0} → Option (Result Done Refusal) → State K → End → Bool → State K → Type 0
Acted None s e h new = new ≡ s
Acted (Some row) s e h new = Steps row e h new

module _ {K : Type 0} (signer : K → Signer) (id : List ℕ) where
  message_so : (m : Message) (s : State K) (h : IsLink id s)
      → Steps (handled (signer s.keys) s m) h.end h.halted (left refused (handled (signer s.keys) s m) s)
  message_so m s h =
      subst (λ z. Steps (handled (signer z.keys) z m) h.end h.halted (left refused (handled (signer z.keys) z m) z))
      (sym h.link) (message_left h.halted h.keys h.connection h.end
      (handled (signer h.keys) (link_at h.halted h.keys h.connection h.end) m)
      (handled_shifts (signer h.keys) h.halted h.keys h.connection h.end m))

  command_so : (c : Command) (s : State K) (h : IsLink id s)
      → Steps (commanded (signer s.keys) s c) h.end h.halted (left unchanged (commanded (signer s.keys) s c) s)
  command_so c s h = subst (λ z. Steps (commanded (signer z.keys) z c) h.end h.halted
      (left unchanged (commanded (signer z.keys) z c) z)) (sym h.link)
      (command_left h.halted h.keys h.connection h.end (commanded (signer h.keys)
      (link_at h.halted h.keys h.connection h.end) c)
      (commanded_shifts (signer h.keys) h.halted h.keys h.connection h.end c))

  x_acts : (a : Act) (p : Both K) (h : IsLink id p.x.link)
      → Acted (row_of signer a p.x) p.x.link h.end h.halted (acts signer id a p).x.link
  x_acts (act.Send c) p h = command_so c p.x.link h
  x_acts act.Deliver p h = cases p.x.inbox
    where
      cases : (ms : List Message)
          → Acted (row_front signer ms p.x.link) p.x.link h.end h.halted (delivers signer id ms p).x.link
      cases [] = refl
      cases (m ∷ ms) = message_so m p.x.link h

  y_stays : (a : Act) (p : Both K) → (acts signer id a p).y.link ≡ p.y.link
  y_stays (act.Send c) p = reached_link id _ p.y
  y_stays act.Deliver p = cases p.x.inbox
    where
      cases : (ms : List Message) → (delivers signer id ms p).y.link ≡ p.y.link
      cases [] = refl
      cases (m ∷ ms) = reached_link id _ p.y

  -- ---- moves of a side

  pub own_acts : (side : Role) (a : Act) (p : Both K) (h : IsLink id (place_of side p).link)
      → Acted (row_of signer a (place_of side p)) (place_of side p).link h.end h.halted
      (place_of side (moves signer id (By side a) p)).link
  unfolding moves
  own_acts Funder a p h = x_acts a p h
  own_acts Fundee a p h = x_acts a (record { x = p.y; y = p.x }) h

  pub own_falls : (side : Role) (p : Both K)
      → (place_of side (moves signer id (Disconnects side) p)).link ≡ drops (place_of side p).link
  unfolding moves
  own_falls Funder p = refl
  own_falls Fundee p = refl

  pub own_halts : (side : Role) (p : Both K)
      → (place_of side (moves signer id (Halts side) p)).link ≡ state.halts (place_of side p).link
  unfolding moves
  own_halts Funder p = refl
  own_halts Fundee p = refl

  pub own_halts_after : (side : Role) (a : Act) (p : Both K)
      → (place_of side (moves signer id (HaltsAfter side a) p)).link
      ≡ state.halts (place_of side (moves signer id (By side a) p)).link
  unfolding moves
  own_halts_after Funder a p = refl
  own_halts_after Fundee a p = refl

  pub own_restarts : (side : Role) (p : Both K) → (place_of side (moves signer id (Restarts side) p)).link
      ≡ back (place_of side p).keys (place_of side p).link (saved_end (place_of side p).link.stage)
  unfolding moves
  own_restarts Funder p = refl
  own_restarts Fundee p = refl

  -- the other one
  pub other_stays : (m : Role → Move) → ((s : Role) → IsOfSide (m s) s) → (side : Role) (p : Both K)
      → (place_of (other side) (moves signer id (m side) p)).link ≡ (place_of (other side) p).link
  unfolding moves
  other_stays m of side p = cases (m side) side (of side)
    where
      cases : (n : Move) (s : Role) → IsOfSide n s
          → (place_of (other s) (moves signer id n p)).link ≡ (place_of (other s) p).link
      cases (By Funder a) Funder h = y_stays a p
      cases (By Fundee a) Fundee h = y_stays a (record { x = p.y; y = p.x })
      cases (By Funder a) Fundee h = absurd h
      cases (By Fundee a) Funder h = absurd h
      cases (Disconnects Funder) Funder h = refl
      cases (Disconnects Fundee) Fundee h = refl
      cases (Disconnects Funder) Fundee h = absurd h
      cases (Disconnects Fundee) Funder h = absurd h
      cases (Halts Funder) Funder h = refl
      cases (Halts Fundee) Fundee h = refl
      cases (Halts Funder) Fundee h = absurd h
      cases (Halts Fundee) Funder h = absurd h
      cases (Restarts Funder) Funder h = refl
      cases (Restarts Fundee) Fundee h = refl
      cases (Restarts Funder) Fundee h = absurd h
      cases (Restarts Fundee) Funder h = absurd h
      cases (Stops Funder a) Funder h = refl
      cases (Stops Fundee a) Fundee h = refl
      cases (Stops Funder a) Fundee h = absurd h
      cases (Stops Fundee a) Funder h = absurd h
      cases (HaltsAfter Funder a) Funder h = refl
      cases (HaltsAfter Fundee a) Fundee h = refl
      cases (HaltsAfter Funder a) Fundee h = absurd h
      cases (HaltsAfter Fundee a) Funder h = absurd h
      cases Meet s h = absurd h

  pub met_x : (p : Both K) → (moves signer id Meet p).x.link ≡ greeted (first_message signer p.x.link) p.x.link
  unfolding moves
  met_x p = reached_link id _ (comes_up signer p.x)

  pub met_y : (p : Both K) → (moves signer id Meet p).y.link ≡ greeted (first_message signer p.y.link) p.y.link
  unfolding moves
  met_y p = reached_link id _ (comes_up signer p.y)
