-- What a signature covers stays covered, whatever happens.
use Rattle.std.proofs.Common.{◌≡◌, ℕ, List, [], ◌∷◌, ◌++◌, map, take, drop, refl, sym, ap, ◌∙◌}
use Rattle.std.proofs.Common.{subst, arith, Bool, true, false, cond, ◌==◌, Option, Some, None, Result, Ok, Err}
use Rattle.std.specs.Prelude.{option_map}
use Rattle.std.proofs.lemmas.List.{take-take, take-append-le, take-append-drop}
use Rattle.std.proofs.Math.Seq.{take-length}
use Rattle.ln_refusals.specs.declared.refusal.Refusal.{Refusal}
use Rattle.ln_keys.specs.Signer.{Signer}
use Rattle.ln_keys.specs.declared.keys.ChannelKeys.{Ghosts}
use Rattle.ln_keys.specs.declared.role.Role.{Role}
use Rattle.ln_keys.specs.declared.role.Role.TheVariants.{Funder, Fundee}
use Rattle.ln_hooks.specs.declared.verdict.Verdict.{Verdict}
use Rattle.ln_log.specs.declared.update.Add.{Add}
use Rattle.ln_log.specs.Updates.{add_with, is_some}
use Rattle.ln_log.specs.Log.{Log, IsWithin}
use Rattle.ln_log.specs.Log as log
use Rattle.ln_log.proofs.Removing.{add_with-more}
use Rattle.ln_channel.specs.End.{End as ChannelEnd, end_dropped}
use Rattle.ln_channel.specs.Record.{saved_end}
use Rattle.ln_channel.specs.State.{State, is_down, cut}
use Rattle.ln_channel.specs.State as state
use Rattle.ln_channel.specs.declared.machine.ConnectionState.TheVariants.{Down}
use Rattle.ln_channel.specs.declared.machine.Stage.{Stage}
use Rattle.ln_channel.specs.declared.machine.Stage.TheVariants as stage
use Rattle.ln_channel.specs.Step.{Done}
use Rattle.ln_world_channels.specs.declared.step.Act.{Act}
use Rattle.ln_world_channels.specs.declared.step.Node.{Node}
use Rattle.ln_world_channels.specs.declared.step.RecordLeft.{RecordLeft}
use Rattle.ln_world_channels.specs.declared.step.RecordLeft.TheVariants as record_left
use Rattle.ln_world_channels.specs.declared.step.Step.{Step as ChannelStep}
use Rattle.ln_world_channels.specs.declared.step.Step.TheVariants as channel_step
use Rattle.ln_world_channels.specs.Settings.{channel_id_of}
use Rattle.ln_world_channels.specs.Both.{Both, Move, By, Disconnects, Halts, Restarts, Stops, HaltsAfter, Meet, moves}
use Rattle.ln_world_channels.specs.Both.{back, run as run_both}
use Rattle.ln_world_channels.specs.WorldChannel.{WorldChannel, place_of, side_of, by, moved, act_moves}
use Rattle.ln_world_channels.specs.WorldChannel.{disconnect_moves}
use Rattle.ln_world_channels.specs.WorldChannel.{halt_moves, failed_save_moves, restart_moves}
use Rattle.ln_world_channels.specs.WorldChannel.{stop_moves, up_moves, may_meet}
use Rattle.ln_world_channels.specs.World.{World as Channels, channel, moved_if, may_be_done, may_reload, may_open}
use Rattle.ln_world_channels.specs.World as channels
use Rattle.ln_world_channels.specs.Promises.{Each}
use Rattle.ln_world_channels.proofs.Kept.{IsRun, IsOpen}
use Rattle.ln_world_channels.proofs.Promised.{happened}
use Rattle.ln_world_dispatch.specs.World as dispatchers
use Rattle.ln_world_dispatch.proofs.Plains as dispatchers_plain
use Rattle.ln_world.specs.declared.step.Step.{Step}
use Rattle.ln_world.specs.World.{World, empty, run, happens, plains, link_by, link_there, saved_of}
use Rattle.ln_world.proofs.Plains.{ran_so}
use Rattle.ln_payment_circuits.specs.Shift.{Shift, Stays, Takes, Proposes, Signs, Accepts, Learns, Closes, Notes}
use Rattle.ln_payment_circuits.specs.Snapshot.{Incoming, origin}
use Rattle.ln_payment_circuits.specs.Circuit.{Forwards, IsCoveredAt}
use Rattle.ln_world.specs.Circuit.{IsCovered}
use Rattle.ln_world.proofs.Answering.{LinkIs, RowSteps}
use Rattle.ln_world.proofs.Ends.{is_link}
use Rattle.ln_world.proofs.Moving.{IsOfSide, row_of, Acted, own_acts, own_falls, own_halts, own_restarts}
use Rattle.ln_world.proofs.Moving.{own_halts_after, other_stays, halts_after_side}
use Rattle.ln_world.proofs.Moving.{drops_is, halts_is, back_is, greeted_is, met_x, met_y}
use Rattle.ln_world.proofs.Scene.{link_in, linked, lookup_map, each_found, same_number}
use Rattle.ln_world.proofs.Moving.{acts_side, stops_side, falls_side, halts_side, restarts_side}

-- ---- of an end

-- each add that a signature of x covers, one of y does
abbrev pub Covers : ChannelEnd → ChannelEnd → Type 0
Covers x y = (i : ℕ) (a : Add) → add_with i (take x.dance.log.signed.own x.dance.log.own) ≡ Some a
    → add_with i (take y.dance.log.signed.own y.dance.log.own) ≡ Some a

covers_as : (x y : ChannelEnd)
    → take y.dance.log.signed.own y.dance.log.own ≡ take x.dance.log.signed.own x.dance.log.own
    → Covers x y
covers_as x y e i a is = ap (add_with i) e ∙ is

by_log : (x f : ChannelEnd) (l : Log) → f.dance.log ≡ l
    → take l.signed.own l.own ≡ take x.dance.log.signed.own x.dance.log.own
    → Covers x f
by_log x f l e same = covers_as x f (ap (λ (m : Log). take m.signed.own m.own) e ∙ same)

shift_covers : (x f : ChannelEnd) → IsWithin x.dance.log → Shift x f → Covers x f
shift_covers x f w (Stays l g) = by_log x f x.dance.log l refl
shift_covers x f w (Takes u may l g) = by_log x f (log.after_receive u x.dance.log) l refl
shift_covers x f w (Proposes u may next l g) = by_log x f (log.after_propose u x.dance.log) l
    (take-append-le x.dance.log.signed.own x.dance.log.own (u ∷ []) w.own_signed)
shift_covers x f w (Signs l g) = λ i a is.
    let m = x.dance.log in
    let more : add_with i m.own ≡ Some a = ap (add_with i) (sym (take-append-drop m.signed.own m.own))
    ∙ add_with-more i (take m.signed.own m.own) (drop m.signed.own m.own) (ap is_some is) ∙ is in
    ap (λ (z : Log). add_with i (take z.signed.own z.own)) l ∙ ap (add_with i) (take-length m.own) ∙ more
shift_covers x f w (Accepts l g) = by_log x f (log.after_accept x.dance.log) l refl
shift_covers x f w (Learns l g) = by_log x f (log.after_learn x.dance.log) l refl
shift_covers x f w (Closes l g) = by_log x f x.dance.log l refl
shift_covers x f w (Notes c l g) = by_log x f x.dance.log l refl

dropped_covers : (x : ChannelEnd) → Covers x (end_dropped x)
dropped_covers x =
    covers_as x (end_dropped x) (take-take x.dance.log.signed.own x.dance.log.signed.own x.dance.log.own (omega arith))

row_covers : (x y : ChannelEnd) (r : Result Done Refusal) → IsWithin x.dance.log → RowSteps x y r → Covers x y
row_covers x y (Err q) w same i a is =
    ap (λ (z : ChannelEnd). add_with i (take z.dance.log.signed.own z.dance.log.own)) same ∙ is
row_covers x y (Ok d) w t i a is =
    ap (λ (z : ChannelEnd). add_with i (take z.dance.log.signed.own z.dance.log.own)) t.3
    ∙ shift_covers x t.0 w t.2 i a is

-- ---- of a link

abbrev pub LinkCovers : {K : Type 0} → Option (State K) → Option (State K) → Type 0
LinkCovers o p = (x : ChannelEnd) → saved_of o ≡ Some x → (y : ChannelEnd) × (saved_of p ≡ Some y) × Covers x y

module _ {K : Type 0} where
  same_covers : (o p : Option (State K)) → p ≡ o → LinkCovers o p
  same_covers o p e x is = (x, ap saved_of e ∙ is, λ i a c. c)

  then_covers : (o p q : Option (State K)) → LinkCovers o p → LinkCovers p q → LinkCovers o q
  then_covers o p q f g x is =
      let a = f x is in
      let b = g a.0 a.1 in
      (b.0, b.1, λ i z c. b.2 i z (a.2 i z c))

  by_ends : (s t : State K) (x y : ChannelEnd) (h : Bool) → saved_of (Some s) ≡ Some x → LinkIs t y h → Covers x y
      → LinkCovers (Some s) (Some t)
  by_ends s t x y h saved l c z is =
      let same : Some x ≡ Some z = sym saved ∙ is in
      let is_it : x ≡ z = cc in
      (y, linked t y h l, subst (λ g. Covers g y) is_it c)

  restart_link : (keys : K) (s : State K) (x : ChannelEnd) → saved_of (Some s) ≡ Some x
      → LinkCovers (Some s) (Some (back keys s (saved_end s.stage)))
  restart_link keys s x saved z is =
      subst (λ o. (y : ChannelEnd) × (saved_of (Some (back keys s o)) ≡ Some y) × Covers z y) (sym is)
      (end_dropped z, refl, dropped_covers z)

  halt_link : (s : State K) → LinkCovers (Some s) (Some (state.halts s))
  halt_link s z is = by_line (is_down s.connection)
    where
      by_stage : (g : Stage) → saved_end g ≡ Some z
          → (y : ChannelEnd) × (saved_end (cut g) ≡ Some y) × Covers z y
      by_stage (stage.Funded e) f = let same : e ≡ z = cc in
          (end_dropped z, ap (λ (q : ChannelEnd). Some (end_dropped q)) same, dropped_covers z)
      by_stage (stage.AwaitsOpen c) f = absurd (cc)
      by_stage (stage.AwaitsAccept c) f = absurd (cc)
      by_stage (stage.AwaitsCreated c) f = absurd (cc)
      by_stage (stage.AwaitsSigned e) f = absurd (cc)
      by_stage stage.Gone f = absurd (cc)

      by_line : (b : Bool) → (y : ChannelEnd)
          × (saved_end (cond b s (record s { connection = Down; stage = cut s.stage })).stage ≡ Some y) × Covers z y
      by_line true = (z, is, λ i a c. c)
      by_line false = by_stage s.stage is

-- ---- of a move of a channel

module _ {K : Type 0} (signer : K → Signer) (id : List ℕ) (p : Both K) (r : IsRun signer id p) where
  own_saved : (side : Role) → saved_of (Some (place_of side p).link) ≡ Some (is_link signer id p r side).end
  own_saved side = ap (λ (z : State K). saved_end z.stage) (is_link signer id p r side).link

  -- of the side that it is of
  abbrev own_covers : (m : Role → Move) (side : Role) → Type 0
  own_covers m side = LinkCovers (Some (place_of side p).link) (Some (place_of side (moves signer id (m side) p)).link)

  acts_cover : (a : Act) (side : Role) → own_covers (λ s. By s a) side
  acts_cover a side =
      let l = is_link signer id p r side in
      by_row (row_of signer a (place_of side p)) (own_acts signer id side a p l)
    where
      by_row : (o : Option (Result Done Refusal)) → Acted o (place_of side p).link (is_link signer id p r side).end
          (is_link signer id p r side).halted (place_of side (moves signer id (By side a) p)).link
          → own_covers (λ s. By s a) side
      by_row None same =
          same_covers (Some (place_of side p).link) (Some (place_of side (moves signer id (By side a) p)).link)
          (ap Some same)
      by_row (Some row) st = by_ends (place_of side p).link (place_of side (moves signer id (By side a) p)).link
          (is_link signer id p r side).end st.end (is_link signer id p r side).halted (own_saved side) st.link
          (row_covers (is_link signer id p r side).end st.end row (is_link signer id p r side).is.fit.sound.within
          st.steps)

  drops_cover : (m : Role → Move) (side : Role) (h : Bool)
      → LinkIs (place_of side (moves signer id (m side) p)).link (end_dropped (is_link signer id p r side).end) h
      → own_covers m side
  drops_cover m side h l = by_ends (place_of side p).link (place_of side (moves signer id (m side) p)).link
      (is_link signer id p r side).end (end_dropped (is_link signer id p r side).end) h (own_saved side) l
      (dropped_covers (is_link signer id p r side).end)

  falls_cover : (side : Role) → own_covers Disconnects side
  falls_cover side = let l = is_link signer id p r side in drops_cover Disconnects side l.halted
      (subst (λ z. LinkIs z (end_dropped l.end) l.halted) (sym (own_falls signer id side p))
      (drops_is id (place_of side p).link l))

  halts_cover : (side : Role) → own_covers Halts side
  halts_cover side = let l = is_link signer id p r side in drops_cover Halts side true
      (subst (λ z. LinkIs z (end_dropped l.end) true) (sym (own_halts signer id side p))
      (halts_is id (place_of side p).link l))

  restarts_cover : (side : Role) → own_covers Restarts side
  restarts_cover side = let l = is_link signer id p r side in drops_cover Restarts side false
      (subst (λ z. LinkIs z (end_dropped l.end) false) (sym (own_restarts signer id side p))
      (back_is id (place_of side p).link l (place_of side p).keys))

  stops_link : (side : Role) (a : Act) → (place_of side (moves signer id (Stops side a) p)).link
      ≡ back (place_of side (moves signer id (By side a) p)).keys (place_of side (moves signer id (By side a) p)).link
      (saved_end (place_of side (moves signer id (By side a) p)).link.stage)
  unfolding moves
  stops_link Funder a = refl
  stops_link Fundee a = refl

  stops_cover : (a : Act) (side : Role) → own_covers (λ s. Stops s a) side
  stops_cover a side x is =
      let q = place_of side (moves signer id (By side a) p) in
      let f = acts_cover a side x is in
      let g = restart_link q.keys q.link f.0 f.1 f.0 f.1 in
      (g.0, ap (λ z. saved_of (Some z)) (stops_link side a) ∙ g.1, λ i z c. g.2 i z (f.2 i z c))

  halts_after_cover : (a : Act) (side : Role) → own_covers (λ s. HaltsAfter s a) side
  halts_after_cover a side =
      let q = place_of side (moves signer id (By side a) p) in
      then_covers (Some (place_of side p).link) (Some q.link)
      (Some (place_of side (moves signer id (HaltsAfter side a) p)).link) (acts_cover a side)
      (subst (λ z. LinkCovers (Some q.link) (Some z)) (sym (own_halts_after signer id side a p)) (halt_link q.link))

  meets_cover : (side : Role)
      → LinkCovers (Some (place_of side p).link) (Some (place_of side (moves signer id Meet p)).link)
  meets_cover Funder = let l = is_link signer id p r Funder in
      by_ends p.x.link (moves signer id Meet p).x.link l.end l.end l.halted (own_saved Funder)
      (subst (λ z. LinkIs z l.end l.halted) (sym (met_x signer id p)) (greeted_is id p.x.link l signer)) (λ i a c. c)
  meets_cover Fundee = let l = is_link signer id p r Fundee in
      by_ends p.y.link (moves signer id Meet p).y.link l.end l.end l.halted (own_saved Fundee)
      (subst (λ z. LinkIs z l.end l.halted) (sym (met_y signer id p)) (greeted_is id p.y.link l signer)) (λ i a c. c)

  -- whichever side it is of
  each_side : (m : Role → Move) → ((s : Role) → IsOfSide (m s) s) → ((s : Role) → own_covers m s) → (mover side : Role)
      → LinkCovers (Some (place_of side p).link) (Some (place_of side (moves signer id (m mover) p)).link)
  each_side m of own Funder Funder = own Funder
  each_side m of own Fundee Fundee = own Fundee
  each_side m of own Funder Fundee = same_covers (Some p.y.link) (Some (moves signer id (m Funder) p).y.link)
      (ap Some (other_stays signer id m of Funder p))
  each_side m of own Fundee Funder = same_covers (Some p.x.link) (Some (moves signer id (m Fundee) p).x.link)
      (ap Some (other_stays signer id m of Fundee p))

  pub move_covers : (m : Move) (side : Role)
      → LinkCovers (Some (place_of side p).link) (Some (place_of side (moves signer id m p)).link)
  move_covers (By s a) side = each_side (λ z. By z a) (acts_side a) (acts_cover a) s side
  move_covers (Disconnects s) side = each_side Disconnects falls_side falls_cover s side
  move_covers (Halts s) side = each_side Halts halts_side halts_cover s side
  move_covers (Restarts s) side = each_side Restarts restarts_side restarts_cover s side
  move_covers (Stops s a) side = each_side (λ z. Stops z a) (stops_side a) (stops_cover a) s side
  move_covers (HaltsAfter s a) side =
      each_side (λ z. HaltsAfter z a) (halts_after_side a) (halts_after_cover a) s side
  move_covers Meet side = meets_cover side

-- ---- of a step of channels

abbrev IsShort : List Move → Type 0
IsShort [] = Unit {0}
IsShort (m ∷ []) = Unit {0}
IsShort (m ∷ l ∷ ms) = ⊥

by_short : (o : Option Role) (f : Role → Move) → IsShort (by o f)
by_short None f = tt
by_short (Some side) f = tt

either_short : (b : Bool) (ms ns : List Move) → IsShort ms → IsShort ns → IsShort (cond b ms ns)
either_short true ms ns h k = h
either_short false ms ns h k = k

failed_save_short : {K : Type 0} (left : RecordLeft) (n : Node) (a : Act) (c : WorldChannel K)
    → IsShort (failed_save_moves left n a c)
failed_save_short record_left.Old n a c = by_short (side_of n c) Halts
failed_save_short record_left.New n a c = by_short (side_of n c) (λ side. HaltsAfter side a)

module _ {K : Type 0} (k : Ghosts K) (n : Node) (d : ℕ) where
  one_covers : (f : WorldChannel K → List Move) → ((c : WorldChannel K) → IsShort (f c)) → (c : WorldChannel K)
      → IsOpen k.signer c → LinkCovers (link_there n (Some c)) (link_there n (Some (moved k.signer f c)))
  one_covers f short c open_ = sides (side_of n c)
    where
      moves_by : (ms : List Move) → IsShort ms → (side : Role)
          → LinkCovers (Some (place_of side c.both).link)
          (Some (place_of side (run_both k.signer (channel_id_of c.number) ms c.both)).link)
      moves_by [] s side = λ x is. (x, is, λ i a q. q)
      moves_by (m ∷ []) s side = move_covers k.signer (channel_id_of c.number) c.both open_ m side
      moves_by (m ∷ l ∷ ms) s side = absurd s

      sides : (q : Option Role) → LinkCovers (link_by c q) (link_by (moved k.signer f c) q)
      sides None = λ x is. absurd (cc)
      sides (Some side) = moves_by (f c) (short c) side

  found_covers : (g : WorldChannel K → WorldChannel K) → ((c : WorldChannel K) → (g c).number ≡ c.number)
      → ((c : WorldChannel K) → IsOpen k.signer c → LinkCovers (link_there n (Some c)) (link_there n (Some (g c))))
      → (cs : List (WorldChannel K)) → Each (IsOpen k.signer) cs → LinkCovers (link_in n d cs) (link_in n d (map g cs))
  found_covers g same each cs open_ =
      subst (λ o. LinkCovers (link_in n d cs) (link_there n o)) (sym (lookup_map g same d cs))
      (by_found (channel d cs) refl)
    where
      by_found : (o : Option (WorldChannel K)) → channel d cs ≡ o
          → LinkCovers (link_there n o) (link_there n (option_map g o))
      by_found None is = λ x e. absurd (cc)
      by_found (Some c) is = each c (each_found (IsOpen k.signer) d cs c open_ is)

  all_cover : (f : WorldChannel K → List Move) → ((c : WorldChannel K) → IsShort (f c)) → (cs : List (WorldChannel K))
      → Each (IsOpen k.signer) cs → LinkCovers (link_in n d cs) (link_in n d (map (moved k.signer f) cs))
  all_cover f short cs open_ = found_covers (moved k.signer f) (λ c. refl) (one_covers f short) cs open_

  at_covers : (at : ℕ) (f : WorldChannel K → List Move) → ((c : WorldChannel K) → IsShort (f c))
      → (cs : List (WorldChannel K))
      → Each (IsOpen k.signer) cs → LinkCovers (link_in n d cs) (link_in n d (map (moved_if k.signer at f) cs))
  at_covers at f short cs open_ = found_covers (moved_if k.signer at f) (same_number k.signer n at f)
      (λ c o. by_number c o (c.number == at)) cs open_
    where
      by_number : (c : WorldChannel K) → IsOpen k.signer c → (b : Bool)
          → LinkCovers (link_there n (Some c)) (link_there n (Some (cond b (moved k.signer f c) c)))
      by_number c o true = one_covers f short c o
      by_number c o false = λ x is. (x, is, λ i a q. q)

  either_covers : (b : Bool) (v w : Channels K) → LinkCovers (link_in n d w.channels) (link_in n d v.channels)
      → LinkCovers (link_in n d w.channels) (link_in n d (cond b v w).channels)
  either_covers true v w h = h
  either_covers false v w h = λ x is. (x, is, λ i a q. q)

  joined_covers : (c : WorldChannel K) (cs : List (WorldChannel K))
      → LinkCovers (link_in n d cs) (link_in n d (cs ++ c ∷ []))
  joined_covers c [] = λ x is. absurd (cc)
  joined_covers c (z ∷ cs) = by_number (z.number == d) (joined_covers c cs)
    where
      by_number : (b : Bool) → LinkCovers (link_in n d cs) (link_in n d (cs ++ c ∷ []))
          → LinkCovers (link_there n (cond b (Some z) (channel d cs)))
          (link_there n (cond b (Some z) (channel d (cs ++ c ∷ []))))
      by_number true h = λ x is. (x, is, λ i a q. q)
      by_number false h = h

  step_covers : (s : ChannelStep K k) (w : Channels K) → Each (IsOpen k.signer) w.channels
      → LinkCovers (link_in n d w.channels) (link_in n d (channels.happens k s w).channels)
  step_covers (channel_step.Fees m fees) w o = λ x is. (x, is, λ i a q. q)
  step_covers (channel_step.Limits m limits) w o = λ x is. (x, is, λ i a q. q)
  step_covers (channel_step.Open z) w o =
      either_covers (may_open z w) (channels.joined _ w) w (joined_covers _ w.channels)
  step_covers (channel_step.Do e a) w o = at_covers e.channel (act_moves e.node a)
      (λ c. by_short (side_of e.node c) (λ side. By side a)) w.channels o
  step_covers (channel_step.Down e) w o = at_covers e.channel (disconnect_moves e.node)
      (λ c. by_short (side_of e.node c) Disconnects) w.channels o
  step_covers (channel_step.NoMemory e a) w o = either_covers (may_be_done e a w.channels)
      (channels.at k.signer e.channel (halt_moves e.node) w) w
      (at_covers e.channel (halt_moves e.node) (λ c. by_short (side_of e.node c) Halts) w.channels o)
  step_covers (channel_step.SaveFails e a left) w o = either_covers (may_be_done e a w.channels)
      (channels.at k.signer e.channel (failed_save_moves left e.node a) w) w
      (at_covers e.channel (failed_save_moves left e.node a) (failed_save_short left e.node a) w.channels o)
  step_covers (channel_step.Reload e) w o = either_covers (may_reload e w.channels)
      (channels.at k.signer e.channel (restart_moves e.node) w) w
      (at_covers e.channel (restart_moves e.node) (λ c. by_short (side_of e.node c) Restarts) w.channels o)
  step_covers (channel_step.Restart m) w o =
      all_cover (restart_moves m) (λ c. by_short (side_of m c) Restarts) w.channels o
  step_covers (channel_step.StopBefore e a) w o = either_covers (may_be_done e a w.channels)
      (channels.everywhere k.signer (restart_moves e.node) w) w
      (all_cover (restart_moves e.node) (λ c. by_short (side_of e.node c) Restarts) w.channels o)
  step_covers (channel_step.StopAfter e a) w o = either_covers (may_be_done e a w.channels)
      (channels.everywhere k.signer (stop_moves e a) w) w
      (all_cover (stop_moves e a) (λ c. either_short (c.number == e.channel)
      (by (side_of e.node c) (λ side. Stops side a))
      (restart_moves e.node c) (by_short (side_of e.node c) (λ side. Stops side a))
      (by_short (side_of e.node c) Restarts))
      w.channels o)
  step_covers (channel_step.Up m) w o =
      at_covers m up_moves (λ c. either_short (may_meet c.both) (Meet ∷ []) [] tt tt) w.channels o

  run_covers : (ss : List (ChannelStep K k)) (w : Channels K) → Each (IsOpen k.signer) w.channels
      → LinkCovers (link_in n d w.channels) (link_in n d (channels.run k ss w).channels)
  run_covers [] w o = λ x is. (x, is, λ i a q. q)
  run_covers (s ∷ ss) w o = then_covers (link_in n d w.channels) (link_in n d (channels.happens k s w).channels)
      (link_in n d (channels.run k ss (channels.happens k s w)).channels) (step_covers s w o)
      (run_covers ss (channels.happens k s w) (happened k s w o))

-- ---- of worlds

module _ {K : Type 0} (k : Ghosts K) where
  run_append : (ss ts : List (Step K k × Verdict)) (w : World K) → run k (ss ++ ts) w ≡ run k ts (run k ss w)
  run_append [] ts w = refl
  run_append (s ∷ ss) ts w = run_append ss ts (happens k s.1 s.0 w)

  ran_channels : (ss : List (Step K k × Verdict)) (w : World K) → (run k ss w).dispatchers.channels
      ≡ channels.run k (dispatchers.plains k (plains k ss w) w.dispatchers) w.dispatchers.channels
  ran_channels ss w = ap (λ (z : dispatchers.World K). z.channels) (ran_so k ss w)
      ∙ dispatchers_plain.ran_so k (plains k ss w) w.dispatchers

  all_open : (ss : List (ChannelStep K k)) (w : Channels K) → Each (IsOpen k.signer) w.channels
      → Each (IsOpen k.signer) (channels.run k ss w).channels
  all_open [] w o = o
  all_open (s ∷ ss) w o = all_open ss (channels.happens k s w) (happened k s w o)

  world_open : (ss : List (Step K k × Verdict)) (w : World K) → Each (IsOpen k.signer) w.dispatchers.channels.channels
      → Each (IsOpen k.signer) (run k ss w).dispatchers.channels.channels
  world_open ss w o = subst (λ (z : Channels K). Each (IsOpen k.signer) z.channels) (sym (ran_channels ss w))
      (all_open (dispatchers.plains k (plains k ss w) w.dispatchers) w.dispatchers.channels o)

  world_covers : (n : Node) (d : ℕ) (ss : List (Step K k × Verdict)) (w : World K)
      → Each (IsOpen k.signer) w.dispatchers.channels.channels
      → LinkCovers (link_in n d w.dispatchers.channels.channels) (link_in n d
      (run k ss w).dispatchers.channels.channels)
  world_covers n d ss w o =
      subst (λ (z : Channels K). LinkCovers (link_in n d w.dispatchers.channels.channels) (link_in n d z.channels))
      (sym (ran_channels ss w))
      (run_covers k n d (dispatchers.plains k (plains k ss w) w.dispatchers) w.dispatchers.channels o)

  covered_by : (h : List ℕ × ℕ) (i : ℕ) (o p : Option ChannelEnd)
      → ((x : ChannelEnd) → o ≡ Some x → (y : ChannelEnd) × (p ≡ Some y) × Covers x y)
      → IsCoveredAt h i o → IsCoveredAt h i p
  covered_by h i None p f c = absurd c
  covered_by h i (Some x) p f c =
      let r = f x refl in
      subst (IsCoveredAt h i) (sym r.1) (by_add (add_with i (take x.dance.log.signed.own x.dance.log.own)) refl c r.0
      r.2)
    where
      by_add : (a : Option Add) → add_with i (take x.dance.log.signed.own x.dance.log.own) ≡ a → Forwards h a
          → (y : ChannelEnd) → Covers x y → Forwards h (add_with i (take y.dance.log.signed.own y.dance.log.own))
      by_add None is g y cov = absurd g
      by_add (Some a) is g y cov = subst (Forwards h) (sym (cov i a is)) g

  pub stays_covered : (steps more : List (Step K k × Verdict)) (hooks c i : ℕ) (node : Node) (h : Incoming)
      → IsCovered node h c i (run k steps (empty hooks)) → IsCovered node h c i (run k (steps ++ more) (empty hooks))
  stays_covered steps more hooks c i node h is =
      let w = run k steps (empty hooks) in
      subst (IsCovered node h c i) (sym (run_append steps more (empty hooks)))
      (covered_by (origin channel_id_of h) i (saved_of (link_in node c w.dispatchers.channels.channels))
      (saved_of (link_in node c (run k more w).dispatchers.channels.channels))
      (world_covers node c more w (world_open steps (empty hooks) tt)) is)
