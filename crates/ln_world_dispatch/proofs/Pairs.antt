-- Each channel has two dispatchers, that of the funder's end and that of the fundee's, in the order of opening; and how
-- many events an end has decided lies between where its dispatcher's epoch starts and the event that is served next.
use Rattle.std.proofs.Common.{◌≡◌, ℕ, ◌+◌, ◌≤◌, ◌==◌, List, [], ◌∷◌, ◌++◌, map, refl, sym, ap, ◌∙◌, subst, arith}
use Rattle.std.proofs.Common.{Bool, true, false, cond, not, ◌&&◌, is_none, Option, Some, None, eqb-true, eq-eqb, ne_eqb}
use Rattle.std.proofs.Common.{◌⊎◌, inl, inr}
use Rattle.std.proofs.lemmas.Bool.{ltb-true}
use Rattle.std.proofs.lemmas.List.{length-append}
use Rattle.ln_keys.specs.declared.keys.ChannelKeys.{Ghosts}
use Rattle.ln_keys.specs.declared.role.Role.{Role}
use Rattle.ln_keys.specs.declared.role.Role.TheVariants.{Funder, Fundee}
use Rattle.ln_keys.specs.Signer.{Signer}
use Rattle.ln_hooks.specs.declared.event.ChannelEvent.{ChannelEvent}
use Rattle.ln_hooks.specs.declared.verdict.Verdict.{Verdict}
use Rattle.ln_channel.specs.declared.command.Command.TheVariants as command
use Rattle.ln_channel.specs.declared.machine.Stage.{Stage}
use Rattle.ln_channel.specs.declared.machine.Stage.TheVariants as stage
use Rattle.ln_channel.specs.Record.{saved_end}
use Rattle.ln_world_channels.specs.declared.settings.Settings.{Settings}
use Rattle.ln_world_channels.specs.declared.step.Act.{Act}
use Rattle.ln_world_channels.specs.declared.step.Act.TheVariants as act
use Rattle.ln_world_channels.specs.declared.step.End.{End}
use Rattle.ln_world_channels.specs.declared.step.Node.{Node}
use Rattle.ln_world_channels.specs.declared.step.Open.{Open}
use Rattle.ln_world_channels.specs.declared.step.RecordLeft.{RecordLeft}
use Rattle.ln_world_channels.specs.declared.step.RecordLeft.TheVariants as record_left
use Rattle.ln_world_channels.specs.declared.step.Step.{Step as ChannelStep}
use Rattle.ln_world_channels.specs.declared.step.Step.TheVariants as channel_step
use Rattle.ln_world_channels.specs.Settings.{channel_id_of, may_bring}
use Rattle.ln_world_channels.specs.Both.{Move, By, Disconnects, Halts, Restarts, Stops, HaltsAfter, Meet}
use Rattle.ln_world_channels.specs.WorldChannel.{WorldChannel, is_node, by, side_of, end_at, moved, act_moves}
use Rattle.ln_world_channels.specs.WorldChannel.{disconnect_moves, failed_save_moves}
use Rattle.ln_world_channels.specs.WorldChannel.{halt_moves, restart_moves, stop_moves, up_moves, may_meet}
use Rattle.ln_world_channels.specs.WorldChannel.{opening_moves}
use Rattle.ln_world_channels.specs.WorldChannel.{begun_by, opened_by}
use Rattle.ln_world_channels.specs.Promises.{Each}
use Rattle.ln_world_channels.specs.World.{World as Channels, channel, AreOnce, moved_if, moved_at, all_moved, may_open}
use Rattle.ln_world_channels.specs.World.{may_be_done, may_reload, settings_of, joined, at, everywhere}
use Rattle.ln_world_channels.specs.World as channels
use Rattle.ln_world_channels.proofs.Places.{once-push}
use Rattle.ln_world_dispatch.specs.declared.step.Step.{Step}
use Rattle.ln_world_dispatch.specs.declared.step.Step.TheVariants as step
use Rattle.ln_world_dispatch.specs.Dispatcher.{Dispatcher, next, fresh, serving, registered, restarted, is_at}
use Rattle.ln_world_dispatch.specs.Dispatcher.{dispatcher_at, at_dispatcher}
use Rattle.ln_world_dispatch.specs.World.{World, empty, is_below_next, is_dispatched, plain, moved_by, saved_in}
use Rattle.ln_world_dispatch.specs.World.{decided_of}
use Rattle.ln_world_dispatch.specs.World.{decided_for, next_event, new_dispatchers, restarts, all_restart, may_register}
use Rattle.ln_world_dispatch.specs.World.{served_at}
use Rattle.ln_world_dispatch.specs.World.{may_act, happens, run}
use Rattle.ln_world_dispatch.proofs.Deciding.{AtStage, KeptBy, AtBoth, KeptByMove, all_so, at_saved}

-- ---- what an end has decided

abbrev pub Between : Dispatcher → ℕ → Type 0
Between d n = (d.epoch.start ≤ n) × (n ≤ next d.epoch)

any-to : (P Q : ℕ → Type 0) → ((n : ℕ) → P n → Q n) → (n : ℕ) → (n ≡ 0) ⊎ ((m : ℕ) → P m)
    → (n ≡ 0) ⊎ ((m : ℕ) → Q m)
any-to P Q f n (inl none) = inl none
any-to P Q f n (inr all) = inr (λ m. f m (all m))

at-to : (P Q : ℕ → Type 0) → ((n : ℕ) → P n → Q n) → (s : Stage) → AtStage P s → AtStage Q s
at-to P Q f (stage.AwaitsOpen c) h = f 0 h
at-to P Q f (stage.AwaitsAccept s) h = f 0 h
at-to P Q f (stage.AwaitsCreated a) h = f 0 h
at-to P Q f (stage.AwaitsSigned e) h = (f 0 h.0, any-to P Q f e.ledger.decided h.1)
at-to P Q f (stage.Funded e) h = f e.ledger.decided h
at-to P Q f stage.Gone h = f 0 h

-- an epoch that begins there
abbrev Just : ℕ → ℕ → Type 0
Just m n = (m ≤ n) × (n ≤ m + 0)

just : (m : ℕ) → Just m m
just m = (omega arith, omega arith)

nothing_by : (d : Dispatcher) (n : ℕ) → (n ≡ 0) ⊎ ((m : ℕ) → Between d m) → (n ≡ 0) ⊎ ((m : ℕ) → Just 0 m)
nothing_by d n (inl none) = inl none
nothing_by d n (inr all) = let above = (all (next d.epoch + 1)).1 in absurd (omega (arith, above))

anew : (d : Dispatcher) (s : Stage) → AtStage (Between d) s → AtStage (Just (decided_of (saved_end s))) s
anew d (stage.AwaitsOpen c) h = just 0
anew d (stage.AwaitsAccept s) h = just 0
anew d (stage.AwaitsCreated a) h = just 0
anew d (stage.AwaitsSigned e) h = (just 0, nothing_by d e.ledger.decided h.1)
anew d (stage.Funded e) h = just e.ledger.decided
anew d stage.Gone h = just 0

-- ---- a decision of an event that was dispatched

abbrev Allowed : Act → Option Dispatcher → Type 0
Allowed (act.Send (command.Decide n mark)) o = is_below_next n o ≡ true
Allowed a o = Unit {0}

allowed_so : {K : Type 0} (e : End) (a : Act) (w : World K) → is_dispatched e a w ≡ true
    → Allowed a (dispatcher_at e w.dispatchers)
allowed_so e act.Deliver w h = tt
allowed_so e (act.Send (command.Confirm i)) w h = tt
allowed_so e (act.Send (command.Add amount hash expiry onion origin)) w h = tt
allowed_so e (act.Send (command.Fulfil i preimage)) w h = tt
allowed_so e (act.Send (command.Fail i reason)) w h = tt
allowed_so e (act.Send (command.Malformed i sha code)) w h = tt
allowed_so e (act.Send (command.Fee feerate)) w h = tt
allowed_so e (act.Send command.Sign) w h = tt
allowed_so e (act.Send (command.Shutdown script)) w h = tt
allowed_so e (act.Send (command.Decide n mark)) w h = h
allowed_so e (act.Send (command.Forget i)) w h = tt
allowed_so e (act.Send (command.Resume event mark)) w h = tt

kept_by : (a : Act) (d : Dispatcher) → Allowed a (Some d) → KeptBy (Between d) a
kept_by act.Deliver d h = tt
kept_by (act.Send (command.Confirm i)) d h = tt
kept_by (act.Send (command.Add amount hash expiry onion origin)) d h = tt
kept_by (act.Send (command.Fulfil i preimage)) d h = tt
kept_by (act.Send (command.Fail i reason)) d h = tt
kept_by (act.Send (command.Malformed i sha code)) d h = tt
kept_by (act.Send (command.Fee feerate)) d h = tt
kept_by (act.Send command.Sign) d h = tt
kept_by (act.Send (command.Shutdown script)) d h = tt
kept_by (act.Send (command.Decide n mark)) d h =
    λ b. let below = ltb-true n (next d.epoch) h in let from = b.0 in (omega (arith, from), omega (arith, below))
kept_by (act.Send (command.Forget i)) d h = tt
kept_by (act.Send (command.Resume event mark)) d h = tt

-- ---- tests

and_false : (b : Bool) → b && false ≡ false
and_false true = refl
and_false false = refl

and_true : (b : Bool) → b && true ≡ b
and_true true = refl
and_true false = refl

turned : (m n : ℕ) → (m == n) ≡ false → (n == m) ≡ false
turned m n h = ne_eqb n m (λ same. absurd (cc (h, eq-eqb m n (sym same))))

-- ---- a dispatcher

-- of a side
abbrev dispatcher_of : Role → Dispatcher → Dispatcher → Dispatcher
dispatcher_of Funder x y = x
dispatcher_of Fundee x y = y

at_end : (e : End) (d : Dispatcher) (n : ℕ) (node : Node) → d.end ≡ end_at n node
    → is_at e d ≡ is_node node e.node && (n == e.channel)
at_end e d n node is = ap (λ (x : End). is_node x.node e.node && (x.channel == e.channel)) is

-- whose end stays, and what was decided lies within
pub record Stays (f : Dispatcher → Dispatcher) (d : Dispatcher) : Type 0 where
  pub end : (f d).end ≡ d.end
  pub side : (f d).side ≡ d.side
  pub within : (n : ℕ) → Between d n → Between (f d) n

side_by : (a b : Bool) (side : Role) (x y : Dispatcher) (o : Option Dispatcher)
    → cond a (Some Funder) (cond b (Some Fundee) None) ≡ Some side
    → cond a (Some x) (cond b (Some y) o) ≡ Some (dispatcher_of side x y)
side_by true b Funder x y o h = refl
side_by true b Fundee x y o h = absurd (cc)
side_by false true Funder x y o h = absurd (cc)
side_by false true Fundee x y o h = refl
side_by false false side x y o h = absurd (cc)

-- ---- moves that keep what is said of both ends

moves_by : (P Q : ℕ → Type 0) (o : Option Role) (f : Role → Move)
    → ((side : Role) → o ≡ Some side → KeptByMove P Q (f side)) → Each (KeptByMove P Q) (by o f)
moves_by P Q None f h = tt
moves_by P Q (Some side) f h = (h side refl, tt)

either : (P Q : ℕ → Type 0) (b : Bool) (ms ns : List Move) → (b ≡ true → Each (KeptByMove P Q) ms)
    → Each (KeptByMove P Q) ns → Each (KeptByMove P Q) (cond b ms ns)
either P Q true ms ns h k = h refl
either P Q false ms ns h k = k

-- an act of an end that may decide so
acts_by : (side : Role) (a : Act) (x y : Dispatcher) → KeptBy (Between (dispatcher_of side x y)) a
    → KeptByMove (Between x) (Between y) (By side a)
acts_by Funder a x y h = h
acts_by Fundee a x y h = h

stops_by : (side : Role) (a : Act) (x y : Dispatcher) → KeptBy (Between (dispatcher_of side x y)) a
    → KeptByMove (Between x) (Between y) (Stops side a)
stops_by Funder a x y h = h
stops_by Fundee a x y h = h

halts_by : (side : Role) (a : Act) (x y : Dispatcher) → KeptBy (Between (dispatcher_of side x y)) a
    → KeptByMove (Between x) (Between y) (HaltsAfter side a)
halts_by Funder a x y h = h
halts_by Fundee a x y h = h

-- ---- channels, each with two dispatchers

module _ {K : Type 0} where
  abbrev pub EachPair : (WorldChannel K → Dispatcher → Dispatcher → Type 0) → List (WorldChannel K)
      → List Dispatcher → Type 0
  EachPair F [] [] = Unit {0}
  EachPair F (c ∷ cs) (x ∷ y ∷ ds) = F c x y × EachPair F cs ds
  EachPair F [] (d ∷ ds) = ⊥
  EachPair F (c ∷ cs) [] = ⊥
  EachPair F (c ∷ cs) (x ∷ []) = ⊥

  pairs-to : (F G : WorldChannel K → Dispatcher → Dispatcher → Type 0)
      → ((c : WorldChannel K) (x y : Dispatcher) → F c x y → G c x y)
      → (cs : List (WorldChannel K)) (ds : List Dispatcher)
      → EachPair F cs ds → EachPair G cs ds
  pairs-to F G f [] [] h = tt
  pairs-to F G f (c ∷ cs) (x ∷ y ∷ ds) h = (f c x y h.0, pairs-to F G f cs ds h.1)
  pairs-to F G f [] (d ∷ ds) h = elim h [ ]
  pairs-to F G f (c ∷ cs) [] h = elim h [ ]
  pairs-to F G f (c ∷ cs) (x ∷ []) h = elim h [ ]

  pairs-map : (F G : WorldChannel K → Dispatcher → Dispatcher → Type 0) (m : WorldChannel K → WorldChannel K)
      → ((c : WorldChannel K) (x y : Dispatcher) → F c x y → G (m c) x y)
      → (cs : List (WorldChannel K)) (ds : List Dispatcher)
      → EachPair F cs ds → EachPair G (map m cs) ds
  pairs-map F G m f [] [] h = tt
  pairs-map F G m f (c ∷ cs) (x ∷ y ∷ ds) h = (f c x y h.0, pairs-map F G m f cs ds h.1)
  pairs-map F G m f [] (d ∷ ds) h = elim h [ ]
  pairs-map F G m f (c ∷ cs) [] h = elim h [ ]
  pairs-map F G m f (c ∷ cs) (x ∷ []) h = elim h [ ]

  -- each dispatcher moves so
  pairs-dispatchers : (F G : WorldChannel K → Dispatcher → Dispatcher → Type 0) (m : Dispatcher → Dispatcher)
      → ((c : WorldChannel K) (x y : Dispatcher) → F c x y → G c (m x) (m y))
      → (cs : List (WorldChannel K)) (ds : List Dispatcher)
      → EachPair F cs ds → EachPair G cs (map m ds)
  pairs-dispatchers F G m f [] [] h = tt
  pairs-dispatchers F G m f (c ∷ cs) (x ∷ y ∷ ds) h = (f c x y h.0, pairs-dispatchers F G m f cs ds h.1)
  pairs-dispatchers F G m f [] (d ∷ ds) h = elim h [ ]
  pairs-dispatchers F G m f (c ∷ cs) [] h = elim h [ ]
  pairs-dispatchers F G m f (c ∷ cs) (x ∷ []) h = elim h [ ]

  pairs-both : (F G : WorldChannel K → Dispatcher → Dispatcher
      → Type 0) (cs : List (WorldChannel K)) (ds : List Dispatcher)
      → EachPair F cs ds → EachPair G cs ds → EachPair (λ c x y. F c x y × G c x y) cs ds
  pairs-both F G [] [] h g = tt
  pairs-both F G (c ∷ cs) (x ∷ y ∷ ds) h g = ((h.0, g.0), pairs-both F G cs ds h.1 g.1)
  pairs-both F G [] (d ∷ ds) h g = elim h [ ]
  pairs-both F G (c ∷ cs) [] h g = elim h [ ]
  pairs-both F G (c ∷ cs) (x ∷ []) h g = elim h [ ]

  pairs-with : (P : WorldChannel K → Type 0) (F : WorldChannel K → Dispatcher → Dispatcher
      → Type 0) (cs : List (WorldChannel K))
      (ds : List Dispatcher) → Each P cs → EachPair F cs ds → EachPair (λ c x y. P c × F c x y) cs ds
  pairs-with P F [] [] h g = tt
  pairs-with P F (c ∷ cs) (x ∷ y ∷ ds) h g = ((h.0, g.0), pairs-with P F cs ds h.1 g.1)
  pairs-with P F [] (d ∷ ds) h g = elim g [ ]
  pairs-with P F (c ∷ cs) [] h g = elim g [ ]
  pairs-with P F (c ∷ cs) (x ∷ []) h g = elim g [ ]

  pairs-push : (F : WorldChannel K → Dispatcher → Dispatcher → Type 0) (c : WorldChannel K) (x y : Dispatcher)
      (cs : List (WorldChannel K))
      (ds : List Dispatcher) → EachPair F cs ds → F c x y → EachPair F (cs ++ c ∷ []) (ds ++ x ∷ y ∷ [])
  pairs-push F c x y [] [] h n = (n, tt)
  pairs-push F c x y (b ∷ cs) (u ∷ v ∷ ds) h n = (h.0, pairs-push F c x y cs ds h.1 n)
  pairs-push F c x y [] (d ∷ ds) h n = elim h [ ]
  pairs-push F c x y (b ∷ cs) [] h n = elim h [ ]
  pairs-push F c x y (b ∷ cs) (u ∷ []) h n = elim h [ ]

  pairs-each : (F : WorldChannel K → Dispatcher → Dispatcher → Type 0) (P : Dispatcher → Type 0)
      → ((c : WorldChannel K) (x y : Dispatcher) → F c x y → P x × P y)
      → (cs : List (WorldChannel K)) (ds : List Dispatcher)
      → EachPair F cs ds → Each P ds
  pairs-each F P f [] [] h = tt
  pairs-each F P f (c ∷ cs) (x ∷ y ∷ ds) h =
      let p = f c x y h.0 in (p.0, (p.1, pairs-each F P f cs ds h.1))
  pairs-each F P f [] (d ∷ ds) h = elim h [ ]
  pairs-each F P f (c ∷ cs) [] h = elim h [ ]
  pairs-each F P f (c ∷ cs) (x ∷ []) h = elim h [ ]

  pub record Pair (c : WorldChannel K) (x y : Dispatcher) : Type 0 where
    pub funder : x.end ≡ end_at c.number c.funder
    pub fundee : y.end ≡ end_at c.number c.fundee
    pub sides : (x.side ≡ Funder) × (y.side ≡ Fundee)
    pub decided : AtBoth (Between x) (Between y) c.both

  pub record Aligned (cs : List (WorldChannel K)) (ds : List Dispatcher) : Type 0 where
    pub once : AreOnce cs
    pub pairs : EachPair Pair cs ds

  -- ---- numbers

  parted : (b : Bool) (c : WorldChannel K) (o : Option (WorldChannel K)) → cond b (Some c) o ≡ None
      → (b ≡ false) × (o ≡ None)
  parted true c o e = absurd (cc)
  parted false c o e = (refl, e)

  others : (n : ℕ) (cs : List (WorldChannel K)) → channel n cs ≡ None → Each (λ c. (c.number == n) ≡ false) cs
  others n [] h = tt
  others n (c ∷ cs) h =
      let p : ((c.number == n) ≡ false) × (channel n cs ≡ None) = parted (c.number == n) c (channel n cs) h in
      (p.0, others n cs p.1)

  found_later : (c : WorldChannel K) (cs ds : List (WorldChannel K)) → Each (λ d. (d.number == c.number) ≡ false) ds
      → Each (λ d. channel d.number cs ≡ Some d) ds → Each (λ d. channel d.number (c ∷ cs) ≡ Some d) ds
  found_later c cs [] h g = tt
  found_later c cs (d ∷ ds) h g = (
    ap (λ b. cond b (Some c) (channel d.number cs)) (turned d.number c.number h.0) ∙ g.0,
    found_later c cs ds h.1 g.1,
  )

  all_found : (cs : List (WorldChannel K)) → AreOnce cs → Each (λ c. channel c.number cs ≡ Some c) cs
  all_found [] h = tt
  all_found (c ∷ cs) h = (
    ap (λ b. cond b (Some c) (channel c.number cs)) (eq-eqb c.number c.number refl),
    found_later c cs cs (others c.number cs h.0) (all_found cs h.1),
  )

  none_by : (b : Bool) (c : WorldChannel K) (o : Option (WorldChannel K)) → b ≡ false → o ≡ None
      → cond b (Some c) o ≡ None
  none_by true c o h e = absurd (cc)
  none_by false c o h e = e

  none_map : (m : WorldChannel K → WorldChannel K) → ((c : WorldChannel K) → (m c).number ≡ c.number) → (n : ℕ)
      (cs : List (WorldChannel K)) → channel n cs ≡ None → channel n (map m cs) ≡ None
  none_map m same n [] h = refl
  none_map m same n (c ∷ cs) h =
      let p : ((c.number == n) ≡ false) × (channel n cs ≡ None) = parted (c.number == n) c (channel n cs) h in
      none_by ((m c).number == n) (m c) (channel n (map m cs)) (ap (λ i. i == n) (same c) ∙ p.0)
      (none_map m same n cs p.1)

  once_map : (m : WorldChannel K → WorldChannel K) → ((c : WorldChannel K) → (m c).number ≡ c.number)
      → (cs : List (WorldChannel K)) → AreOnce cs → AreOnce (map m cs)
  once_map m same [] h = tt
  once_map m same (c ∷ cs) h = (
    subst (λ n. channel n (map m cs) ≡ None) (sym (same c)) (none_map m same c.number cs h.0),
    once_map m same cs h.1,
  )

  -- ---- the dispatcher of a side

  passed_over : (e : End) (c : WorldChannel K) (x y : Dispatcher) (ds : List Dispatcher) → Pair c x y
      → (c.number == e.channel) ≡ false → dispatcher_at e (x ∷ y ∷ ds) ≡ dispatcher_at e ds
  passed_over e c x y ds h other =
      let not_x : is_at e x ≡ false =
      at_end e x c.number c.funder h.funder ∙ ap (λ b. is_node c.funder e.node && b) other
      ∙ and_false (is_node c.funder e.node) in
      let not_y : is_at e y ≡ false =
      at_end e y c.number c.fundee h.fundee ∙ ap (λ b. is_node c.fundee e.node && b) other
      ∙ and_false (is_node c.fundee e.node) in
      ap (λ b. cond b (Some x) (dispatcher_at e (y ∷ ds))) not_x ∙ ap (λ b. cond b (Some y) (dispatcher_at e ds)) not_y

  found_here : (e : End) (c : WorldChannel K) (x y : Dispatcher) (ds : List Dispatcher) (side : Role) → Pair c x y
      → (c.number == e.channel) ≡ true → side_of e.node c ≡ Some side
      → dispatcher_at e (x ∷ y ∷ ds) ≡ Some (dispatcher_of side x y)
  found_here e c x y ds side h here is =
      let at_x : is_at e x ≡ is_node c.funder e.node =
      at_end e x c.number c.funder h.funder ∙ ap (λ b. is_node c.funder e.node && b) here
      ∙ and_true (is_node c.funder e.node) in
      let at_y : is_at e y ≡ is_node c.fundee e.node =
      at_end e y c.number c.fundee h.fundee ∙ ap (λ b. is_node c.fundee e.node && b) here
      ∙ and_true (is_node c.fundee e.node) in
      ap (λ b. cond b (Some x) (dispatcher_at e (y ∷ ds))) at_x
      ∙ ap (λ b. cond (is_node c.funder e.node) (Some x) (cond b (Some y) (dispatcher_at e ds))) at_y
      ∙ side_by (is_node c.funder e.node) (is_node c.fundee e.node) side x y (dispatcher_at e ds) is

  abbrev IsFound : End → List Dispatcher → WorldChannel K → Dispatcher → Dispatcher → Type 0
  IsFound e all c x y =
      (side : Role) → c.number ≡ e.channel → side_of e.node c ≡ Some side
      → dispatcher_at e all ≡ Some (dispatcher_of side x y)

  found_by : (b : Bool) (e : End) (c : WorldChannel K) (x y : Dispatcher) (cs : List (WorldChannel K))
      (ds : List Dispatcher)
      → (c.number == e.channel) ≡ b → channel c.number cs ≡ None → Pair c x y → EachPair Pair cs ds
      → EachPair (IsFound e ds) cs ds → EachPair (IsFound e (x ∷ y ∷ ds)) (c ∷ cs) (x ∷ y ∷ ds)
  found_by true e c x y cs ds here alone h hs rest = (
    λ side n is. found_here e c x y ds side h here is,
    pairs-to (λ d u v. ((d.number == c.number) ≡ false) × Pair d u v) (IsFound e (x ∷ y ∷ ds))
        (λ d u v f side n is.
        let same : d.number ≡ c.number = n ∙ sym (eqb-true c.number e.channel here) in
        absurd (cc (f.0)))
        cs ds (pairs-with (λ d. (d.number == c.number) ≡ false) Pair cs ds (others c.number cs alone) hs),
  )
  found_by false e c x y cs ds other alone h hs rest = (
    λ side n is. absurd (cc (other, eq-eqb c.number e.channel n)),
    pairs-to (IsFound e ds) (IsFound e (x ∷ y ∷ ds))
        (λ d u v f side n is. passed_over e c x y ds h other ∙ f side n is) cs ds rest,
  )

  found : (e : End) (cs : List (WorldChannel K)) (ds : List Dispatcher) → AreOnce cs → EachPair Pair cs ds
      → EachPair (IsFound e ds) cs ds
  found e [] [] once h = tt
  found e (c ∷ cs) (x ∷ y ∷ ds) once h =
      found_by (c.number == e.channel) e c x y cs ds refl once.0 h.0 h.1 (found e cs ds once.1 h.1)
  found e [] (d ∷ ds) once h = elim h [ ]
  found e (c ∷ cs) [] once h = elim h [ ]
  found e (c ∷ cs) (x ∷ []) once h = elim h [ ]

  -- ---- channels that move

  abbrev Fits : (WorldChannel K → List Move) → WorldChannel K → Dispatcher → Dispatcher → Type 0
  Fits f c x y = Each (KeptByMove (Between x) (Between y)) (f c)

  pair_moved : (signer : K → Signer) (f : WorldChannel K
      → List Move) (c : WorldChannel K) (x y : Dispatcher) → Fits f c x y
      → Pair c x y → Pair (moved signer f c) x y
  pair_moved signer f c x y i h = record {
    funder = h.funder;
    fundee = h.fundee;
    sides = h.sides;
    decided = all_so (Between x) (Between y) signer (channel_id_of c.number) (f c) c.both i h.decided;
  }

  pair_moved_if : (b : Bool) (signer : K → Signer) (f : WorldChannel K
      → List Move) (c : WorldChannel K) (x y : Dispatcher)
      → (b ≡ true → Fits f c x y) → Pair c x y → Pair (cond b (moved signer f c) c) x y
  pair_moved_if true signer f c x y i h = pair_moved signer f c x y (i refl) h
  pair_moved_if false signer f c x y i h = h

  same_number : (b : Bool) (signer : K → Signer) (f : WorldChannel K → List Move) (c : WorldChannel K)
      → (cond b (moved signer f c) c).number ≡ c.number
  same_number true signer f c = refl
  same_number false signer f c = refl

  abbrev FitsAt : ℕ → (WorldChannel K → List Move) → WorldChannel K → Dispatcher → Dispatcher → Type 0
  FitsAt n f c x y = c.number ≡ n → Fits f c x y

  moves_at : (signer : K → Signer) (n : ℕ) (f : WorldChannel K → List Move) (cs : List (WorldChannel K))
      (ds : List Dispatcher) → EachPair (FitsAt n f) cs ds → Aligned cs ds → Aligned (moved_at signer n f cs) ds
  moves_at signer n f cs ds i h = record {
    once = once_map (moved_if signer n f) (λ c. same_number (c.number == n) signer f c) cs h.once;
    pairs = pairs-map (λ c x y. FitsAt n f c x y × Pair c x y) Pair (moved_if signer n f)
        (λ c x y g. pair_moved_if (c.number == n) signer f c x y (λ is. g.0 (eqb-true c.number n is)) g.1) cs ds
        (pairs-both (FitsAt n f) Pair cs ds i h.pairs);
  }

  moves_all : (signer : K → Signer) (f : WorldChannel K → List Move) (cs : List (WorldChannel K)) (ds : List Dispatcher)
      → EachPair (Fits f) cs ds → Aligned cs ds → Aligned (all_moved signer f cs) ds
  moves_all signer f cs ds i h = record {
    once = once_map (moved signer f) (λ c. refl) cs h.once;
    pairs = pairs-map (λ c x y. Fits f c x y × Pair c x y) Pair (moved signer f)
        (λ c x y g. pair_moved signer f c x y g.0 g.1) cs ds (pairs-both (Fits f) Pair cs ds i h.pairs);
  }

  -- ---- which moves they are

  -- what decides nothing
  disconnects : (n : Node) (c : WorldChannel K) (x y : Dispatcher) → Fits (disconnect_moves n) c x y
  disconnects n c x y = moves_by (Between x) (Between y) (side_of n c) Disconnects (λ side is. tt)

  halts : (n : Node) (c : WorldChannel K) (x y : Dispatcher) → Fits (halt_moves n) c x y
  halts n c x y = moves_by (Between x) (Between y) (side_of n c) Halts (λ side is. tt)

  comes_back : (n : Node) (c : WorldChannel K) (x y : Dispatcher) → Fits (restart_moves n) c x y
  comes_back n c x y = moves_by (Between x) (Between y) (side_of n c) Restarts (λ side is. tt)

  meets : (c : WorldChannel K) (x y : Dispatcher) → Fits up_moves c x y
  meets c x y = either (Between x) (Between y) (may_meet c.both) (Meet ∷ []) [] (λ is. (tt, tt)) tt

  each_at : (n : ℕ) (f : WorldChannel K → List Move) → ((c : WorldChannel K) (x y : Dispatcher) → Fits f c x y)
      → (cs : List (WorldChannel K)) (ds : List Dispatcher) → EachPair Pair cs ds → EachPair (FitsAt n f) cs ds
  each_at n f fits cs ds h = pairs-to Pair (FitsAt n f) (λ c x y p is. fits c x y) cs ds h

  each_all : (f : WorldChannel K → List Move) → ((c : WorldChannel K) (x y : Dispatcher) → Fits f c x y)
      → (cs : List (WorldChannel K)) (ds : List Dispatcher) → EachPair Pair cs ds → EachPair (Fits f) cs ds
  each_all f fits cs ds h = pairs-to Pair (Fits f) (λ c x y p. fits c x y) cs ds h

  abbrev MayDecide : End → Act → WorldChannel K → Dispatcher → Dispatcher → Type 0
  MayDecide e a c x y =
      c.number ≡ e.channel → (side : Role) → side_of e.node c ≡ Some side → KeptBy (Between (dispatcher_of side x y)) a

  may_decide : (e : End) (a : Act) (cs : List (WorldChannel K)) (ds : List Dispatcher) → Allowed a (dispatcher_at e ds)
      → Aligned cs ds → EachPair (MayDecide e a) cs ds
  may_decide e a cs ds may h =
      pairs-to (IsFound e ds) (MayDecide e a)
      (λ c x y f n side is. kept_by a (dispatcher_of side x y) (subst (Allowed a) (f side n is) may)) cs ds
      (found e cs ds h.once h.pairs)

  acts : (e : End) (a : Act) (cs : List (WorldChannel K)) (ds : List Dispatcher) → Allowed a (dispatcher_at e ds)
      → Aligned cs ds → EachPair (FitsAt e.channel (act_moves e.node a)) cs ds
  acts e a cs ds may h =
      pairs-to (MayDecide e a) (FitsAt e.channel (act_moves e.node a))
      (λ c x y f n. moves_by (Between x) (Between y) (side_of e.node c) (λ side. By side a)
      (λ side is. acts_by side a x y (f n side is))) cs ds (may_decide e a cs ds may h)

  fails_save : (left : RecordLeft) (e : End) (a : Act) (cs : List (WorldChannel K)) (ds : List Dispatcher)
      → Allowed a (dispatcher_at e ds)
      → Aligned cs ds → EachPair (FitsAt e.channel (failed_save_moves left e.node a)) cs ds
  fails_save record_left.Old e a cs ds may h = each_at e.channel (halt_moves e.node) (halts e.node) cs ds h.pairs
  fails_save record_left.New e a cs ds may h =
      pairs-to (MayDecide e a) (FitsAt e.channel (failed_save_moves record_left.New e.node a))
      (λ c x y f n. moves_by (Between x) (Between y) (side_of e.node c) (λ side. HaltsAfter side a)
      (λ side is. halts_by side a x y (f n side is))) cs ds (may_decide e a cs ds may h)

  stops : (e : End) (a : Act) (cs : List (WorldChannel K)) (ds : List Dispatcher) → Allowed a (dispatcher_at e ds)
      → Aligned cs ds → EachPair (Fits (stop_moves e a)) cs ds
  stops e a cs ds may h =
      pairs-to (MayDecide e a) (Fits (stop_moves e a))
      (λ c x y f. either (Between x) (Between y) (c.number == e.channel)
      (by (side_of e.node c) (λ side. Stops side a)) (restart_moves e.node c)
      (λ here. moves_by (Between x) (Between y) (side_of e.node c) (λ side. Stops side a)
      (λ side is. stops_by side a x y (f (eqb-true c.number e.channel here) side is)))
      (comes_back e.node c x y)) cs ds (may_decide e a cs ds may h)

  -- ---- dispatchers that move

  first_moves : (f : Dispatcher → Dispatcher) (c : WorldChannel K) (x y : Dispatcher) → Stays f x → Pair c x y
      → Pair c (f x) y
  first_moves f c x y s h = record {
    funder = s.end ∙ h.funder;
    fundee = h.fundee;
    sides = (s.side ∙ h.sides.0, h.sides.1);
    decided = (at-to (Between x) (Between (f x)) s.within c.both.x.link.stage h.decided.0, h.decided.1);
  }

  second_moves : (f : Dispatcher → Dispatcher) (c : WorldChannel K) (x y : Dispatcher) → Stays f y → Pair c x y
      → Pair c x (f y)
  second_moves f c x y s h = record {
    funder = h.funder;
    fundee = s.end ∙ h.fundee;
    sides = (h.sides.0, s.side ∙ h.sides.1);
    decided = (h.decided.0, at-to (Between y) (Between (f y)) s.within c.both.y.link.stage h.decided.1);
  }

  one_by : (a b : Bool) (e : End) (f : Dispatcher
      → Dispatcher) (c : WorldChannel K) (x y : Dispatcher) (cs : List (WorldChannel K))
      (ds : List Dispatcher) → ((d : Dispatcher) → Stays f d) → Pair c x y → EachPair Pair cs ds
      → EachPair Pair cs (at_dispatcher e f ds)
      → EachPair Pair (c ∷ cs) (cond a (f x ∷ y ∷ ds) (x ∷ cond b (f y ∷ ds) (y ∷ at_dispatcher e f ds)))
  one_by true b e f c x y cs ds s h hs rest = (first_moves f c x y (s x) h, hs)
  one_by false true e f c x y cs ds s h hs rest = (second_moves f c x y (s y) h, hs)
  one_by false false e f c x y cs ds s h hs rest = (h, rest)

  one_moves : (e : End) (f : Dispatcher → Dispatcher) → ((d : Dispatcher) → Stays f d)
      → (cs : List (WorldChannel K)) (ds : List Dispatcher)
      → EachPair Pair cs ds → EachPair Pair cs (at_dispatcher e f ds)
  one_moves e f s [] [] h = tt
  one_moves e f s (c ∷ cs) (x ∷ y ∷ ds) h =
      one_by (is_at e x) (is_at e y) e f c x y cs ds s h.0 h.1 (one_moves e f s cs ds h.1)
  one_moves e f s [] (d ∷ ds) h = elim h [ ]
  one_moves e f s (c ∷ cs) [] h = elim h [ ]
  one_moves e f s (c ∷ cs) (x ∷ []) h = elim h [ ]

  -- ---- dispatchers that begin anew

  decided_at : (w : Channels K) (d : Dispatcher) (side : Role) (n : ℕ) (node : Node) (c : WorldChannel K)
      → d.side ≡ side
      → d.end ≡ end_at n node → channel n w.channels ≡ Some c
      → decided_for d w ≡ decided_of (saved_in side (Some c))
  decided_at w d side n node c s e is =
      ap (λ r. decided_of (saved_in r (channel d.end.channel w.channels))) s
      ∙ ap (λ (x : End). decided_of (saved_in side (channel x.channel w.channels))) e
      ∙ ap (λ o. decided_of (saved_in side o)) is

  first_anew : (b : Bool) (m : ℕ) (c : WorldChannel K) (x y : Dispatcher)
      → m ≡ decided_of (saved_end c.both.x.link.stage)
      → Pair c x y → Pair c (cond b (restarted m x) x) y
  first_anew true m c x y is h = record {
    funder = h.funder;
    fundee = h.fundee;
    sides = h.sides;
    decided = (
      subst (λ i. AtStage (Just i) c.both.x.link.stage) (sym is)
          (anew x c.both.x.link.stage h.decided.0),
      h.decided.1,
    );
  }
  first_anew false m c x y is h = h

  second_anew : (b : Bool) (m : ℕ) (c : WorldChannel K) (x y : Dispatcher)
      → m ≡ decided_of (saved_end c.both.y.link.stage)
      → Pair c x y → Pair c x (cond b (restarted m y) y)
  second_anew true m c x y is h = record {
    funder = h.funder;
    fundee = h.fundee;
    sides = h.sides;
    decided = (
      h.decided.0,
      subst (λ i. AtStage (Just i) c.both.y.link.stage) (sym is)
          (anew y c.both.y.link.stage h.decided.1),
    );
  }
  second_anew false m c x y is h = h

  pair_anew : (n : Node) (w : Channels K) (c : WorldChannel K) (x y : Dispatcher) → channel c.number w.channels ≡ Some c
      → Pair c x y → Pair c (restarts n w x) (restarts n w y)
  pair_anew n w c x y is h =
      second_anew (is_node y.end.node n) (decided_for y w) c (restarts n w x) y
      (decided_at w y Fundee c.number c.fundee c h.sides.1 h.fundee is)
      (first_anew (is_node x.end.node n) (decided_for x w) c x y
      (decided_at w x Funder c.number c.funder c h.sides.0 h.funder is) h)

  pub all_anew : (n : Node) (w : Channels K) (ds : List Dispatcher) → Aligned w.channels ds
      → Aligned w.channels (all_restart n w ds)
  all_anew n w ds h = record {
    once = h.once;
    pairs = pairs-dispatchers (λ c x y. (channel c.number w.channels ≡ Some c) × Pair c x y) Pair (restarts n w)
        (λ c x y g. pair_anew n w c x y g.0 g.1) w.channels ds
        (pairs-with (λ c. channel c.number w.channels ≡ Some c) Pair w.channels ds
        (all_found w.channels h.once) h.pairs);
  }

  -- ---- what an end has decided, by its dispatcher

  pub decided_between : (w : Channels K) (ds : List Dispatcher) → Aligned w.channels ds
      → Each (λ d. Between d (decided_for d w)) ds
  decided_between w ds h =
      pairs-each (λ c x y. (channel c.number w.channels ≡ Some c) × Pair c x y) (λ d. Between d (decided_for d w))
      (λ c x y g. (
        subst (Between x) (sym (decided_at w x Funder c.number c.funder c g.1.sides.0 g.1.funder g.0))
            (at_saved (Between x) c.both.x.link.stage g.1.decided.0),
        subst (Between y) (sym (decided_at w y Fundee c.number c.fundee c g.1.sides.1 g.1.fundee g.0))
            (at_saved (Between y) c.both.y.link.stage g.1.decided.1),
      )) w.channels ds
      (pairs-with (λ c. channel c.number w.channels ≡ Some c) Pair w.channels ds (all_found w.channels h.once)
      h.pairs)

-- ---- over a list of steps

served_stays : (event : ChannelEvent) (v : Verdict) (d : Dispatcher) → Stays (serving event v) d
served_stays event v d = record {
  end = refl;
  side = refl;
  within = λ n b.
      let long = length-append d.epoch.served (event ∷ []) in
      let below = b.1 in (b.0, omega (arith, long, below));
}

slotted_stays : (hook : ℕ) (d : Dispatcher) → Stays (registered hook) d
slotted_stays hook d = record { end = refl; side = refl; within = λ n b. b }

second_true : (a b c : Bool) → a && (b && c) ≡ true → b ≡ true
second_true true true c h = refl
second_true true false c h = h
second_true false b c h = absurd (cc)

is_there_none : {A : Type 0} (o : Option A) → is_none o ≡ true → o ≡ None
is_there_none None h = refl
is_there_none (Some x) h = absurd (cc)

module _ {K : Type 0} (k : Ghosts K) where
  taken_by : (b : Bool) (s : ChannelStep K k) (w : Channels K) (ds : List Dispatcher)
      → (b ≡ true → Aligned (channels.happens k s w).channels ds) → Aligned w.channels ds
      → Aligned (moved_by k (cond b (Some s) None) w).channels ds
  taken_by true s w ds h g = h refl
  taken_by false s w ds h g = g

  done_by : (b : Bool) (new w : Channels K) (ds : List Dispatcher) → Aligned new.channels ds → Aligned w.channels ds
      → Aligned (cond b new w).channels ds
  done_by true new w ds h g = h
  done_by false new w ds h g = g

  opened_pair : (o : Open K k) (funder fundee : Settings)
      → Pair (opened_by k o funder fundee) (fresh (end_at o.channel o.funder) Funder)
      (fresh (end_at o.channel o.fundee) Fundee)
  opened_pair o funder fundee =
      let x = fresh (end_at o.channel o.funder) Funder in
      let y = fresh (end_at o.channel o.fundee) Fundee in
      record {
        funder = refl;
        fundee = refl;
        sides = (refl, refl);
        decided = all_so (Between x) (Between y) k.signer (channel_id_of o.channel) opening_moves
            (begun_by k o funder fundee).both (tt, (tt, (tt, (tt, (tt, tt))))) (just 0, just 0);
      }

  opens_by : (b : Bool) (o : Open K k) (funder fundee : Settings) (w : Channels K) (ds : List Dispatcher)
      → may_open o w ≡ b → Aligned w.channels ds
      → Aligned (cond b (joined (opened_by k o funder fundee) w) w).channels
      (cond b (ds ++ new_dispatchers o.channel o.funder o.fundee) ds)
  opens_by true o funder fundee w ds may h =
      let free = second_true (not (is_node o.funder o.fundee)) (is_none (channel o.channel w.channels))
      (may_bring o.satoshis o.push (settings_of o.funder w.settings) (settings_of o.fundee w.settings)) may in
      record {
        once = once-push (opened_by k o funder fundee) w.channels
            (is_there_none (channel o.channel w.channels) free) h.once;
        pairs = pairs-push Pair (opened_by k o funder fundee) (fresh (end_at o.channel o.funder) Funder)
            (fresh (end_at o.channel o.fundee) Fundee) w.channels ds h.pairs (opened_pair o funder fundee);
      }
  opens_by false o funder fundee w ds may h = h

  -- those of a channel that is opened are there
  abbrev pub with_opened : Step K k → World K → List Dispatcher
  with_opened (step.Open o) w =
      cond (may_open o w.channels) (w.dispatchers ++ new_dispatchers o.channel o.funder o.fundee) w.dispatchers
  with_opened s w = w.dispatchers

  -- after what the channels do in a step, and before what the dispatchers do
  pub channels_move : (s : Step K k) (w : World K) → Aligned w.channels.channels w.dispatchers
      → Aligned (moved_by k (plain k s w) w.channels).channels (with_opened s w)
  channels_move (step.Fees n fees) w h = h
  channels_move (step.Limits n limits) w h = h
  channels_move (step.Open o) w h =
      opens_by (may_open o w.channels) o (settings_of o.funder w.channels.settings)
      (settings_of o.fundee w.channels.settings) w.channels w.dispatchers refl h
  channels_move (step.Do e a) w h =
      let cs = w.channels.channels in
      taken_by (is_dispatched e a w) (channel_step.Do e a) w.channels w.dispatchers
      (λ is. moves_at k.signer e.channel (act_moves e.node a) cs w.dispatchers
      (acts e a cs w.dispatchers (allowed_so e a w is) h) h) h
  channels_move (step.Down e) w h =
      let cs = w.channels.channels in
      moves_at k.signer e.channel (disconnect_moves e.node) cs w.dispatchers
      (each_at e.channel (disconnect_moves e.node) (disconnects e.node) cs w.dispatchers h.pairs) h
  channels_move (step.NoMemory e a) w h =
      let cs = w.channels.channels in
      taken_by (is_dispatched e a w) (channel_step.NoMemory e a) w.channels w.dispatchers
      (λ is. done_by (may_be_done e a cs) (at k.signer e.channel
      (halt_moves e.node) w.channels) w.channels w.dispatchers
      (moves_at k.signer e.channel (halt_moves e.node) cs w.dispatchers
      (each_at e.channel (halt_moves e.node) (halts e.node) cs w.dispatchers h.pairs) h) h) h
  channels_move (step.SaveFails e a left) w h =
      let cs = w.channels.channels in
      taken_by (is_dispatched e a w) (channel_step.SaveFails e a left) w.channels w.dispatchers
      (λ is. done_by (may_be_done e a cs) (at k.signer e.channel
      (failed_save_moves left e.node a) w.channels) w.channels w.dispatchers
      (moves_at k.signer e.channel (failed_save_moves left e.node a) cs w.dispatchers
      (fails_save left e a cs w.dispatchers (allowed_so e a w is) h) h) h) h
  channels_move (step.Reload e) w h =
      let cs = w.channels.channels in
      done_by (may_reload e cs) (at k.signer e.channel (restart_moves e.node) w.channels) w.channels w.dispatchers
      (moves_at k.signer e.channel (restart_moves e.node) cs w.dispatchers
      (each_at e.channel (restart_moves e.node) (comes_back e.node) cs w.dispatchers h.pairs) h) h
  channels_move (step.Restart n) w h =
      let cs = w.channels.channels in
      moves_all k.signer (restart_moves n) cs w.dispatchers
      (each_all (restart_moves n) (comes_back n) cs w.dispatchers h.pairs) h
  channels_move (step.StopBefore e a) w h =
      let cs = w.channels.channels in
      taken_by (is_dispatched e a w) (channel_step.StopBefore e a) w.channels w.dispatchers
      (λ is. done_by (may_be_done e a cs) (everywhere k.signer
      (restart_moves e.node) w.channels) w.channels w.dispatchers
      (moves_all k.signer (restart_moves e.node) cs w.dispatchers
      (each_all (restart_moves e.node) (comes_back e.node) cs w.dispatchers h.pairs) h) h) h
  channels_move (step.StopAfter e a) w h =
      let cs = w.channels.channels in
      taken_by (is_dispatched e a w) (channel_step.StopAfter e a) w.channels w.dispatchers
      (λ is. done_by (may_be_done e a cs) (everywhere k.signer (stop_moves e a) w.channels) w.channels w.dispatchers
      (moves_all k.signer (stop_moves e a) cs w.dispatchers (stops e a cs w.dispatchers (allowed_so e a w is) h) h) h) h
  channels_move (step.Up n) w h =
      let cs = w.channels.channels in
      moves_at k.signer n up_moves cs w.dispatchers (each_at n up_moves meets cs w.dispatchers h.pairs) h
  channels_move (step.Dispatch e) w h = h
  channels_move (step.Register e hook) w h = h

  anew_by : (b : Bool) (n : Node) (new : Channels K) (ds : List Dispatcher) → Aligned new.channels ds
      → Aligned new.channels (cond b (all_restart n new ds) ds)
  anew_by true n new ds h = all_anew n new ds h
  anew_by false n new ds h = h

  one_by_one : (e : End) (f : Dispatcher → Dispatcher) (cs : List (WorldChannel K)) (ds : List Dispatcher)
      → ((d : Dispatcher) → Stays f d)
      → Aligned cs ds → Aligned cs (at_dispatcher e f ds)
  one_by_one e f cs ds s h = record { once = h.once; pairs = one_moves e f s cs ds h.pairs }

  served_by : (e : End) (v : Verdict) (o : Option (ℕ
      × ChannelEvent)) (cs : List (WorldChannel K)) (ds : List Dispatcher)
      → Aligned cs ds → Aligned cs (served_at e v o ds)
  served_by e v None cs ds h = h
  served_by e v (Some p) cs ds h = one_by_one e (serving p.1 v) cs ds (served_stays p.1 v) h

  slotted_by : (b : Bool) (e : End) (hook : ℕ) (cs : List (WorldChannel K)) (ds : List Dispatcher) → Aligned cs ds
      → Aligned cs (cond b (at_dispatcher e (registered hook) ds) ds)
  slotted_by true e hook cs ds h = one_by_one e (registered hook) cs ds (slotted_stays hook) h
  slotted_by false e hook cs ds h = h

  pub step_aligned : (v : Verdict) (s : Step K k) (w : World K) → Aligned w.channels.channels w.dispatchers
      → Aligned (happens k v s w).channels.channels (happens k v s w).dispatchers
  step_aligned v (step.Fees n fees) w h = h
  step_aligned v (step.Limits n limits) w h = h
  step_aligned v (step.Open o) w h = channels_move (step.Open o) w h
  step_aligned v (step.Do e a) w h = channels_move (step.Do e a) w h
  step_aligned v (step.Down e) w h = channels_move (step.Down e) w h
  step_aligned v (step.NoMemory e a) w h = channels_move (step.NoMemory e a) w h
  step_aligned v (step.SaveFails e a left) w h = channels_move (step.SaveFails e a left) w h
  step_aligned v (step.Reload e) w h = channels_move (step.Reload e) w h
  step_aligned v (step.Restart n) w h =
      let new = moved_by k (plain k (step.Restart n) w) w.channels in
      all_anew n new w.dispatchers (channels_move (step.Restart n) w h)
  step_aligned v (step.StopBefore e a) w h =
      let new = moved_by k (plain k (step.StopBefore e a) w) w.channels in
      anew_by (may_act e a w) e.node new w.dispatchers (channels_move (step.StopBefore e a) w h)
  step_aligned v (step.StopAfter e a) w h =
      let new = moved_by k (plain k (step.StopAfter e a) w) w.channels in
      anew_by (may_act e a w) e.node new w.dispatchers (channels_move (step.StopAfter e a) w h)
  step_aligned v (step.Up n) w h = channels_move (step.Up n) w h
  step_aligned v (step.Dispatch e) w h = served_by e v (next_event e w) w.channels.channels w.dispatchers h
  step_aligned v (step.Register e hook) w h =
      slotted_by (may_register e hook w) e hook w.channels.channels w.dispatchers h

  pub none_aligned : Aligned (channels.empty {K = K}).channels []
  none_aligned = record { once = tt; pairs = tt }

  run_aligned : (ss : List (Step K k × Verdict)) (w : World K) → Aligned w.channels.channels w.dispatchers
      → Aligned (run k ss w).channels.channels (run k ss w).dispatchers
  run_aligned [] w h = h
  run_aligned (s ∷ ss) w h = run_aligned ss (happens k s.1 s.0 w) (step_aligned s.1 s.0 w h)

  pub all_aligned : (n : ℕ) (ss : List (Step K k × Verdict))
      → Aligned (run k ss (empty n)).channels.channels (run k ss (empty n)).dispatchers
  all_aligned n ss = run_aligned ss (empty n) none_aligned
