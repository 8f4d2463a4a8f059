-- In every channel of a world the base of either end is the longest that its decided events allow.
use Rattle.std.proofs.Common.{◌≡◌, ℕ, List, [], ◌∷◌, ◌++◌, refl, sym, ◌∙◌, subst, Bool, true, false, cond, ◌&&◌}
use Rattle.std.proofs.Common.{Option, Some, None, Result, Ok, Err, not, is_none, ◌==◌}
use Rattle.ln_msgs.specs.declared.messages.message.Message.{Message}
use Rattle.ln_refusals.specs.declared.refusal.Refusal.{Refusal}
use Rattle.ln_refusals.specs.declared.refusal.Refusal.TheVariants as refusal
use Rattle.ln_keys.specs.declared.keys.ChannelKeys.{Ghosts}
use Rattle.ln_keys.specs.declared.role.Role.{Role}
use Rattle.ln_keys.specs.declared.role.Role.TheVariants.{Funder, Fundee}
use Rattle.ln_keys.specs.Signer.{Signer}
use Rattle.ln_log.specs.Window.{MayBeBase, may_be_base}
use Rattle.ln_log.proofs.Bases.{base_tells}
use Rattle.ln_channel.specs.declared.machine.ConnectionState.TheVariants as line
use Rattle.ln_channel.specs.declared.machine.Stage.{Stage}
use Rattle.ln_channel.specs.declared.machine.Stage.TheVariants as stage
use Rattle.ln_channel.specs.Base.{allowed, based, based_stage}
use Rattle.ln_channel.specs.End.{End, end_of}
use Rattle.ln_channel.specs.Failing.{fails}
use Rattle.ln_channel.specs.Record.{saved_end}
use Rattle.ln_channel.specs.State.{State, is_down, lost, failed, fails_by, unless_failed, refused, cut, drops}
use Rattle.ln_channel.specs.Step.{Done, handled, commanded, connects}
use Rattle.ln_store.proofs.Formats.{both_true}
use Rattle.ln_channel_laws.specs.Ends as pair
use Rattle.ln_channel_laws.specs.Longest.{IsLongest}
use Rattle.ln_channel_laws.proofs.Offered.{both_longest}
use Rattle.ln_world_channels.specs.declared.step.Act.{Act}
use Rattle.ln_world_channels.specs.declared.step.Act.TheVariants as act
use Rattle.ln_world_channels.specs.declared.step.Node.{Node}
use Rattle.ln_world_channels.specs.declared.step.End.{End as WorldEnd}
use Rattle.ln_world_channels.specs.declared.step.Open.{Open}
use Rattle.ln_world_channels.specs.declared.step.RecordLeft.{RecordLeft}
use Rattle.ln_world_channels.specs.declared.step.RecordLeft.TheVariants as record_left
use Rattle.ln_world_channels.specs.declared.step.Step.{Step}
use Rattle.ln_world_channels.specs.declared.step.Step.TheVariants as step
use Rattle.ln_world_channels.specs.Settings.{channel_id_of, may_bring}
use Rattle.ln_world_channels.specs.Both.{Both, SimEnd, By, Disconnects, Halts, Restarts, Stops, HaltsAfter, Meet}
use Rattle.ln_world_channels.specs.Both.{reaches, left}
use Rattle.ln_world_channels.specs.Both.{unchanged, acts}
use Rattle.ln_world_channels.specs.Both.{delivers, greeted, back, restarted, swapped, moves, run as run_both}
use Rattle.ln_world_channels.specs.WorldChannel.{WorldChannel, by, side_of, is_node, moved, may_meet, act_moves}
use Rattle.ln_world_channels.specs.WorldChannel.{disconnect_moves}
use Rattle.ln_world_channels.specs.WorldChannel.{halt_moves, restart_moves, stop_moves, up_moves, opened_by}
use Rattle.ln_world_channels.specs.WorldChannel.{failed_save_moves}
use Rattle.ln_world_channels.specs.World.{World, settings_of, channel, may_open, may_be_done, may_reload, happens}
use Rattle.ln_world_channels.specs.World.{empty, run as run_world}
use Rattle.ln_world_channels.specs.Promises.{AtEnd, Each, OfEach}
use Rattle.ln_world_channels.specs.Longest.{HasLongest, HaveLongest, BasesAreLongest}
use Rattle.ln_world_channels.proofs.Mirror.{Mirrors}
use Rattle.ln_world_channels.proofs.Opened.{first_saves}
use Rattle.ln_world_channels.proofs.Kept.{IsRun, IsOpen, ends_of, act_kept, fall_kept, halt_kept, restart_kept}
use Rattle.ln_world_channels.proofs.Kept.{stop_kept, failed_save_kept}
use Rattle.ln_world_channels.proofs.Kept.{up_kept, at_links}
use Rattle.ln_world_channels.proofs.Promised.{brings_so, opened_run, moved_so}
use Rattle.ln_world_channels.proofs.Promised.{all_so, joined_so, either_so, there_so}

-- ---- an end

-- what has moved as far as it may is there
moved_there : (b : Bool) (e : End) → may_be_base e.dance.log (allowed e) ≡ b
    → MayBeBase (record e.dance.log { first = cond b (allowed e) e.dance.log.first }) (allowed e)
    → cond b (allowed e) e.dance.log.first ≡ allowed e
moved_there true e is may = refl
moved_there false e is may =
    let all : MayBeBase e.dance.log (allowed e) = record {
      own_first = may.own_first;
      own_current = may.own_current;
      peer_first = may.peer_first;
      peer_acknowledged = may.peer_acknowledged;
      closed = may.closed;
    } in
    absurd (let no : false ≡ true = sym is ∙ (base_tells e.dance.log (allowed e)).1 all in cc)

based_longest : (e : End) → IsLongest (based e) → HasLongest (based e)
based_longest e h = moved_there (may_be_base e.dance.log (allowed e)) e refl h.may

-- ---- a link

abbrev IsExact : Stage → Type 0
IsExact (stage.Funded e) = HasLongest e
IsExact s = Unit {0}

saved_exact : (s : Stage) → AtEnd IsLongest (based_stage s) → IsExact (based_stage s)
saved_exact (stage.AwaitsOpen c) h = tt
saved_exact (stage.AwaitsAccept c) h = tt
saved_exact (stage.AwaitsCreated a) h = tt
saved_exact (stage.AwaitsSigned e) h = tt
saved_exact (stage.Funded e) h = based_longest e h
saved_exact stage.Gone h = tt

lost_exact : (s : Stage) → IsExact s → IsExact (lost s)
lost_exact (stage.AwaitsOpen c) h = tt
lost_exact (stage.AwaitsAccept c) h = tt
lost_exact (stage.AwaitsCreated a) h = tt
lost_exact (stage.AwaitsSigned e) h = tt
lost_exact (stage.Funded e) h = h
lost_exact stage.Gone h = tt

cut_exact : (s : Stage) → IsExact s → IsExact (cut s)
cut_exact (stage.AwaitsOpen c) h = tt
cut_exact (stage.AwaitsAccept c) h = tt
cut_exact (stage.AwaitsCreated a) h = tt
cut_exact (stage.AwaitsSigned e) h = tt
cut_exact (stage.Funded e) h = h
cut_exact stage.Gone h = tt

module _ {K : Type 0} where
  refused_exact : (r : Refusal) (l : State K) → IsExact l.stage → IsExact (refused r l).stage
  refused_exact r l h = by_halted l.halted
    where
      by_fault : (b : Bool) → IsExact (cond b (failed r l) l).stage
      by_fault true = lost_exact l.stage h
      by_fault false = h

      by_failure : (f : Option Refusal) → IsExact (unless_failed f l (fails_by r l)).stage
      by_failure None = by_fault (fails r)
      by_failure (Some q) = h

      by_halted : (b : Bool) → IsExact (cond b l (unless_failed l.failure l (fails_by r l))).stage
      by_halted true = h
      by_halted false = by_failure l.failure

  drops_exact : (l : State K) → IsExact l.stage → IsExact (drops l).stage
  drops_exact l h = by_line (is_down l.connection)
    where
      by_line : (b : Bool) → IsExact (cond b l (record l { connection = line.Down; stage = cut l.stage })).stage
      by_line true = h
      by_line false = cut_exact l.stage h

  back_exact : (keys : K) (l : State K) (s : Stage) → IsExact s → IsExact l.stage
      → IsExact (back keys l (saved_end s)).stage
  back_exact keys l (stage.AwaitsOpen c) h k = drops_exact l k
  back_exact keys l (stage.AwaitsAccept c) h k = drops_exact l k
  back_exact keys l (stage.AwaitsCreated a) h k = drops_exact l k
  back_exact keys l (stage.AwaitsSigned e) h k = drops_exact l k
  back_exact keys l (stage.Funded e) h k = h
  back_exact keys l stage.Gone h k = drops_exact l k

  connects_exact : (keys : Signer) (l : State K) (s : Stage) → IsExact s → IsExact l.stage
      → IsExact (greeted (connects keys s) l).stage
  connects_exact keys l (stage.AwaitsOpen c) h k = tt
  connects_exact keys l (stage.AwaitsAccept c) h k = tt
  connects_exact keys l (stage.AwaitsCreated a) h k = k
  connects_exact keys l (stage.AwaitsSigned e) h k = k
  connects_exact keys l (stage.Funded e) h k = h
  connects_exact keys l stage.Gone h k = k

  greeted_exact : (keys : Signer) (l : State K) → IsExact l.stage
      → (a b : Bool) → IsExact (greeted (cond a (Err refusal.Halted) (cond b (connects keys l.stage)
      (Err refusal.NotReady))) l).stage
  greeted_exact keys l h true b = h
  greeted_exact keys l h false true = connects_exact keys l l.stage h h
  greeted_exact keys l h false false = h

  -- what an answer leaves
  left_exact : (after : Refusal → State K → State K) (row : Result Done Refusal) (l : State K)
      → ((r : Refusal) → IsExact (after r l).stage) → AtEnd IsLongest (left after row l).stage
      → IsExact (left after row l).stage
  left_exact after (Ok d) l f h = saved_exact d.stage h
  left_exact after (Err r) l f h = f r

  reaches_link : (ms : List Message) (p : SimEnd K) → (reaches ms p).link ≡ p.link
  reaches_link ms p = by_line (is_down p.link.connection)
    where
      by_line : (b : Bool) → (cond b p (record p { inbox = p.inbox ++ ms })).link ≡ p.link
      by_line true = refl
      by_line false = refl

-- ---- two links

module _ {K : Type 0} (signer : K → Signer) where
  abbrev BothExact : Both K → Type 0
  BothExact p = IsExact p.x.link.stage × IsExact p.y.link.stage

  x_longest : (id : List ℕ) (p : Both K) → IsRun signer id p → AtEnd IsLongest p.x.link.stage
  x_longest id p r = subst (λ (l : State K). AtEnd IsLongest l.stage) (sym r.mirrors.x_link)
      (both_longest (signer r.funders) (signer r.fundees) r.spec r.config r.funder r.fundee r.steps r.keys r.opens).0

  y_longest : (id : List ℕ) (p : Both K) → IsRun signer id p → AtEnd IsLongest p.y.link.stage
  y_longest id p r = subst (λ (l : State K). AtEnd IsLongest l.stage) (sym r.mirrors.y_link)
      (both_longest (signer r.funders) (signer r.fundees) r.spec r.config r.funder r.fundee r.steps r.keys r.opens).1

  -- as both ends were saved first
  first_exact : (id : List ℕ) (p : Both K) (r : IsRun signer id p) → r.steps ≡ first_saves → BothExact p
  first_exact id p r e =
      let a = signer r.funders in
      let b = signer r.fundees in
      let m = subst (λ ss. Mirrors id r.funders r.fundees p (pair.run a b ss (pair.opened r.funder r.fundee))) e
      r.mirrors in
      let both = both_longest a b r.spec r.config r.funder r.fundee first_saves r.keys r.opens in (
        subst (λ (l : State K). IsExact l.stage) (sym m.x_link) (based_longest (end_of r.funder) both.0),
        subst (λ (l : State K). IsExact l.stage) (sym m.y_link) (based_longest (end_of r.fundee) both.1),
      )

  acts_exact : (id : List ℕ) (a : Act) (p : Both K) → AtEnd IsLongest (acts signer id a p).x.link.stage
      → IsExact p.x.link.stage → IsExact (acts signer id a p).x.link.stage
  acts_exact id act.Deliver p h k = by_inbox p.x.inbox h
    where
      by_inbox : (ms : List Message) → AtEnd IsLongest (delivers signer id ms p).x.link.stage
          → IsExact (delivers signer id ms p).x.link.stage
      by_inbox [] g = k
      by_inbox (m ∷ ms) g = left_exact refused (handled (signer p.x.link.keys) p.x.link m) p.x.link
          (λ r. refused_exact r p.x.link k) g
  acts_exact id (act.Send c) p h k =
      left_exact unchanged (commanded (signer p.x.link.keys) p.x.link c) p.x.link (λ r. k) h

  acts_other : (id : List ℕ) (a : Act) (p : Both K) → (acts signer id a p).y.link ≡ p.y.link
  acts_other id act.Deliver p = by_inbox p.x.inbox
    where
      by_inbox : (ms : List Message) → (delivers signer id ms p).y.link ≡ p.y.link
      by_inbox [] = refl
      by_inbox (m ∷ ms) = reaches_link _ p.y
  acts_other id (act.Send c) p = reaches_link _ p.y

  link_exact : (l m : State K) → m ≡ l → IsExact l.stage → IsExact m.stage
  link_exact l m e h = subst (λ (n : State K). IsExact n.stage) (sym e) h

  restarted_exact : (p : SimEnd K) → IsExact p.link.stage → IsExact (restarted p).link.stage
  restarted_exact p h = back_exact p.keys p.link p.link.stage h h

  -- ---- moves

  by_exact : (id : List ℕ) (side : Role) (a : Act) (p : Both K) → IsRun signer id (moves signer id (By side a) p)
      → BothExact p → BothExact (moves signer id (By side a) p)
  unfolding moves
  by_exact id Funder a p r h = (
    acts_exact id a p (x_longest id (acts signer id a p) r) h.0,
    link_exact p.y.link (acts signer id a p).y.link (acts_other id a p) h.1,
  )
  by_exact id Fundee a p r h =
      let q = acts signer id a (swapped p) in (
        link_exact p.x.link q.y.link (acts_other id a (swapped p)) h.0,
        acts_exact id a (swapped p) (y_longest id (swapped q) r) h.1,
      )

  stops_exact : (id : List ℕ) (side : Role) (a : Act) (p : Both K) → IsRun signer id (moves signer id (By side a) p)
      → BothExact p → BothExact (moves signer id (Stops side a) p)
  unfolding moves
  stops_exact id Funder a p r h =
      let q = acts signer id a p in
      (restarted_exact q.x (acts_exact id a p (x_longest id q r) h.0), h.1)
  stops_exact id Fundee a p r h =
      let q = acts signer id a (swapped p) in
      (h.0, restarted_exact q.x (acts_exact id a (swapped p) (y_longest id (swapped q) r) h.1))

  halts_after_exact : (id : List ℕ) (side : Role) (a : Act) (p : Both K)
      → IsRun signer id (moves signer id (By side a) p)
      → BothExact p → BothExact (moves signer id (HaltsAfter side a) p)
  unfolding moves
  halts_after_exact id Funder a p r h =
      let q = acts signer id a p in
      (drops_exact q.x.link (acts_exact id a p (x_longest id q r) h.0), h.1)
  halts_after_exact id Fundee a p r h =
      let q = acts signer id a (swapped p) in
      (h.0, drops_exact q.x.link (acts_exact id a (swapped p) (y_longest id (swapped q) r) h.1))

  falls_exact : (id : List ℕ) (side : Role) (p : Both K) → BothExact p
      → BothExact (moves signer id (Disconnects side) p)
  unfolding moves
  falls_exact id Funder p h = (drops_exact p.x.link h.0, h.1)
  falls_exact id Fundee p h = (h.0, drops_exact p.y.link h.1)

  halts_exact : (id : List ℕ) (side : Role) (p : Both K) → BothExact p → BothExact (moves signer id (Halts side) p)
  unfolding moves
  halts_exact id Funder p h = (drops_exact p.x.link h.0, h.1)
  halts_exact id Fundee p h = (h.0, drops_exact p.y.link h.1)

  restarts_exact : (id : List ℕ) (side : Role) (p : Both K) → BothExact p
      → BothExact (moves signer id (Restarts side) p)
  unfolding moves
  restarts_exact id Funder p h = (restarted_exact p.x h.0, h.1)
  restarts_exact id Fundee p h = (h.0, restarted_exact p.y h.1)

  meets_exact : (id : List ℕ) (p : Both K) → BothExact p → BothExact (moves signer id Meet p)
  unfolding moves
  meets_exact id p h = (
    link_exact _ _ (reaches_link _ _) (greeted_exact (signer p.x.link.keys) p.x.link h.0 p.x.link.halted
        (is_down p.x.link.connection)),
    link_exact _ _ (reaches_link _ _) (greeted_exact (signer p.y.link.keys) p.y.link h.1 p.y.link.halted
        (is_down p.y.link.connection)),
  )

  -- ---- by the table

  abbrev IsLasting : WorldChannel K → Type 0
  IsLasting c = IsOpen signer c × BothExact c.both

  act_lasts : (n : Node) (a : Act) (c : WorldChannel K) → IsLasting c → IsLasting (moved signer (act_moves n a) c)
  act_lasts n a c h =
      let r = act_kept signer n a c h.0 in
      (r, by_side (side_of n c) r)
    where
      by_side : (o : Option Role) → IsRun signer (channel_id_of c.number)
          (run_both signer (channel_id_of c.number) (by o (λ side. By side a)) c.both)
          → BothExact (run_both signer (channel_id_of c.number) (by o (λ side. By side a)) c.both)
      by_side None r = h.1
      by_side (Some side) r = by_exact (channel_id_of c.number) side a c.both r h.1

  fall_lasts : (n : Node) (c : WorldChannel K) → IsLasting c → IsLasting (moved signer (disconnect_moves n) c)
  fall_lasts n c h = (fall_kept signer n c h.0, by_side (side_of n c))
    where
      by_side : (o : Option Role) → BothExact (run_both signer (channel_id_of c.number) (by o Disconnects) c.both)
      by_side None = h.1
      by_side (Some side) = falls_exact (channel_id_of c.number) side c.both h.1

  halt_lasts : (n : Node) (c : WorldChannel K) → IsLasting c → IsLasting (moved signer (halt_moves n) c)
  halt_lasts n c h = (halt_kept signer n c h.0, by_side (side_of n c))
    where
      by_side : (o : Option Role) → BothExact (run_both signer (channel_id_of c.number) (by o Halts) c.both)
      by_side None = h.1
      by_side (Some side) = halts_exact (channel_id_of c.number) side c.both h.1

  failed_save_lasts : (left : RecordLeft) (n : Node) (a : Act) (c : WorldChannel K) → IsLasting c
      → IsLasting (moved signer (failed_save_moves left n a) c)
  failed_save_lasts record_left.Old n a c h = halt_lasts n c h
  failed_save_lasts record_left.New n a c h =
      (failed_save_kept signer record_left.New n a c h.0, by_side (side_of n c) (act_kept signer n a c h.0))
    where
      by_side : (o : Option Role) → IsRun signer (channel_id_of c.number)
          (run_both signer (channel_id_of c.number) (by o (λ side. By side a)) c.both)
          → BothExact (run_both signer (channel_id_of c.number) (by o (λ side. HaltsAfter side a)) c.both)
      by_side None r = h.1
      by_side (Some side) r = halts_after_exact (channel_id_of c.number) side a c.both r h.1

  restart_by : (id : List ℕ) (o : Option Role) (p : Both K) → BothExact p
      → BothExact (run_both signer id (by o Restarts) p)
  restart_by id None p h = h
  restart_by id (Some side) p h = restarts_exact id side p h

  restart_lasts : (n : Node) (c : WorldChannel K) → IsLasting c → IsLasting (moved signer (restart_moves n) c)
  restart_lasts n c h =
      (restart_kept signer n c h.0, restart_by (channel_id_of c.number) (side_of n c) c.both h.1)

  stop_lasts : (e : WorldEnd) (a : Act) (c : WorldChannel K) → IsLasting c → IsLasting (moved signer (stop_moves e a) c)
  stop_lasts e a c h =
      (stop_kept signer e a c h.0, stopped (c.number == e.channel) (side_of e.node c) (act_kept signer e.node a c h.0))
    where
      stopped : (b : Bool) (o : Option Role) → IsRun signer (channel_id_of c.number)
          (run_both signer (channel_id_of c.number) (by o (λ side. By side a)) c.both)
          → BothExact (run_both signer (channel_id_of c.number)
          (cond b (by o (λ side. Stops side a)) (by o Restarts)) c.both)
      stopped true None r = h.1
      stopped true (Some side) r = stops_exact (channel_id_of c.number) side a c.both r h.1
      stopped false o r = restart_by (channel_id_of c.number) o c.both h.1

  up_lasts : (c : WorldChannel K) → IsLasting c → IsLasting (moved signer up_moves c)
  up_lasts c h = (up_kept signer c h.0, met (may_meet c.both))
    where
      met : (b : Bool) → BothExact (run_both signer (channel_id_of c.number) (cond b (Meet ∷ []) []) c.both)
      met true = meets_exact (channel_id_of c.number) c.both h.1
      met false = h.1

-- ---- a world

module _ {K : Type 0} (k : Ghosts K) where
  abbrev AllLast : World K → Type 0
  AllLast w = Each (IsLasting k.signer) w.channels

  opens_by : (b : Bool) (o : Open K k) (w : World K) → may_open o w ≡ b → AllLast w
      → AllLast (cond b (record {
        settings = w.settings;
        channels = w.channels
            ++ opened_by k o (settings_of o.funder w.settings) (settings_of o.fundee w.settings) ∷ [];
      }) w)
  opens_by false o w e h = h
  opens_by true o w e h =
      let s = settings_of o.funder w.settings in
      let t = settings_of o.fundee w.settings in
      let p = both_true (not (is_node o.funder o.fundee))
      (is_none (channel o.channel w.channels) && may_bring o.satoshis o.push s t) e in
      let q = both_true (is_none (channel o.channel w.channels)) (may_bring o.satoshis o.push s t) p.1 in
      let r = opened_run k o s t (brings_so o.satoshis o.push s t q.1) in
      joined_so k (IsLasting k.signer) w.channels (opened_by k o s t) h
      (r, first_exact k.signer (channel_id_of o.channel) (opened_by k o s t).both r refl)

  lasts : (s : Step K k) (w : World K) → AllLast w → AllLast (happens k s w)
  lasts (step.Fees n fees) w h = h
  lasts (step.Limits n limits) w h = h
  lasts (step.Open o) w h = opens_by (may_open o w) o w refl h
  lasts (step.Do e a) w h = moved_so k (IsLasting k.signer) e.channel (act_moves e.node a)
      (act_lasts k.signer e.node a) w.channels h
  lasts (step.Down e) w h = moved_so k (IsLasting k.signer) e.channel (disconnect_moves e.node)
      (fall_lasts k.signer e.node) w.channels h
  lasts (step.NoMemory e a) w h = there_so k (IsLasting k.signer) (may_be_done e a w.channels) e.channel
      (halt_moves e.node) (halt_lasts k.signer e.node) w h
  lasts (step.SaveFails e a left) w h = there_so k (IsLasting k.signer) (may_be_done e a w.channels) e.channel
      (failed_save_moves left e.node a) (failed_save_lasts k.signer left e.node a) w h
  lasts (step.Reload e) w h = there_so k (IsLasting k.signer) (may_reload e w.channels) e.channel
      (restart_moves e.node) (restart_lasts k.signer e.node) w h
  lasts (step.Restart n) w h = all_so k (IsLasting k.signer) (restart_moves n) (restart_lasts k.signer n)
      w.channels h
  lasts (step.StopBefore e a) w h = either_so k (IsLasting k.signer) (may_be_done e a w.channels)
      (restart_moves e.node) (restart_lasts k.signer e.node) w h
  lasts (step.StopAfter e a) w h = either_so k (IsLasting k.signer) (may_be_done e a w.channels) (stop_moves e a)
      (stop_lasts k.signer e a) w h
  lasts (step.Up n) w h = moved_so k (IsLasting k.signer) n up_moves (up_lasts k.signer) w.channels h

  all_lasts : (ss : List (Step K k)) (w : World K) → AllLast w → AllLast (run_world k ss w)
  all_lasts [] w h = h
  all_lasts (s ∷ ss) w h = all_lasts ss (happens k s w) (lasts s w h)

  told : (id : List ℕ) (p : Both K) → IsRun k.signer id p → BothExact k.signer p → BasesAreLongest p
  told id p r h = at_links k.signer id r.funders r.fundees HaveLongest p (ends_of k.signer id p r) r.mirrors (
    subst (λ (l : State K). IsExact l.stage) r.mirrors.x_link h.0,
    subst (λ (l : State K). IsExact l.stage) r.mirrors.y_link h.1,
  )

  all_told : (cs : List (WorldChannel K)) → Each (IsLasting k.signer) cs
      → Each (λ (c : WorldChannel K). BasesAreLongest c.both) cs
  all_told [] h = tt
  all_told (c ∷ cs) h = (told (channel_id_of c.number) c.both h.0.0 h.0.1, all_told cs h.1)

  pub bases_are_longest : (ss : List (Step K k)) → OfEach BasesAreLongest (run_world k ss empty)
  bases_are_longest ss = all_told (run_world k ss empty).channels
      (all_lasts ss empty tt)
