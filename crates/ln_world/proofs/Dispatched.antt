-- The event that waits for its end's decision is the first that the end hasn't decided, and was dispatched.
use Rattle.std.proofs.Common.{◌≡◌, ℕ, zero, suc, ◌+◌, ◌-◌, ◌≤◌, ◌<◌, List, [], ◌∷◌, ◌++◌, drop, length, inl, inr, refl}
use Rattle.std.proofs.Common.{sym, ap, ◌∙◌}
use Rattle.std.proofs.Common.{subst, arith, Bool, true, false, cond, ◌==◌, ◌&&◌, nat_lt, nat_le, Option, Some, None}
use Rattle.std.proofs.Common.{option_map}
use Rattle.std.specs.List.{cons_option}
use Rattle.std.proofs.lemmas.Bool.{eqb-true, lt-ltb, leb-true, and_parts}
use Rattle.std.proofs.lemmas.List.{length-drop}
use Rattle.std.proofs.Math.Bool.{and-true, and-false}
use Rattle.ln_keys.specs.declared.keys.ChannelKeys.{Ghosts}
use Rattle.ln_keys.specs.declared.role.Role.{Role}
use Rattle.ln_keys.specs.declared.role.Role.TheVariants.{Funder, Fundee}
use Rattle.ln_hooks.specs.declared.event.ChannelEvent.{ChannelEvent}
use Rattle.ln_hooks.specs.declared.verdict.Verdict.{Verdict}
use Rattle.ln_log.specs.declared.mark.EventRef.{EventRef}
use Rattle.ln_channel.specs.Ledger.{first_htlc}
use Rattle.ln_channel.specs.Pending.{named_by, pending_from}
use Rattle.ln_channel.specs.End.{End as ChannelEnd}
use Rattle.ln_channel.specs.Record.{saved_end}
use Rattle.ln_channel.specs.declared.machine.Stage.{Stage}
use Rattle.ln_channel.specs.declared.machine.Stage.TheVariants as stage
use Rattle.ln_channel.specs.State.{State}
use Rattle.ln_channel_laws.specs.Pending.{counted, IsInStep}
use Rattle.ln_book_tables.specs.declared.htlc.Offer.{Offer}
use Rattle.ln_book.specs.Marks.{offer_of}
use Rattle.ln_world_channels.specs.declared.step.Node.{Node}
use Rattle.ln_world_channels.specs.declared.step.End.{End}
use Rattle.ln_world_channels.specs.WorldChannel.{WorldChannel, is_node, side_of, place_of, end_at}
use Rattle.ln_world_channels.specs.Promises.{Each, AtEnd}
use Rattle.ln_world_channels.specs.Machine.{AreInStep}
use Rattle.ln_world_channels.specs.World.{World as Channels, channel, AreOnce}
use Rattle.ln_world_channels.proofs.Told.{in_step_so}
use Rattle.ln_payment_circuits.proofs.Offering.{first_offers}
use Rattle.ln_world_dispatch.specs.Dispatcher.{Epoch, Dispatcher, Begins, next, is_at, dispatcher_at}
use Rattle.ln_world_dispatch.specs.World.{World as Dispatchers, item, both_of, served_in, waiting_of, waiting_for}
use Rattle.ln_world_dispatch.specs.World.{waiting, saved_in}
use Rattle.ln_world_dispatch.specs.World.{is_below_next}
use Rattle.ln_world_dispatch.specs.World.{decided_for}
use Rattle.ln_world_dispatch.specs.Promises.{DispatcherStands}
use Rattle.ln_world_dispatch.proofs.Events.{item_below, item_at}
use Rattle.ln_world_dispatch.proofs.Pairs.{Pair, EachPair, Aligned, all_aligned}
use Rattle.ln_world_dispatch.proofs.Dispatchers.{dispatchers_stand}
use Rattle.ln_world.specs.declared.step.Step.{Step}
use Rattle.ln_world.specs.World.{World, empty, run, plains, saved_of, link_by, link_there}
use Rattle.ln_world.specs.Promises.{events_of, channel_steps}
use Rattle.ln_world.proofs.Plains.{ran, ran_channels}
use Rattle.ln_world.proofs.Scene.{link_in, either}
use Rattle.ln_world.proofs.Lost.{Place, place}
use Rattle.ln_world.proofs.Orderly.{offer_in, told_by}

-- a world that steps have led to
pub record Ran {K : Type 0} (k : Ghosts K) (w : World K) : Type 0 where
  pub steps : List (Step K k × Verdict)
  pub hooks : ℕ
  pub is : w ≡ run k steps (empty hooks)

-- ---- the dispatcher of a side

side_by : (a b : Bool) (side : Role) (x y d : Dispatcher) (rest : Option Dispatcher)
    → cond a (Some Funder) (cond b (Some Fundee) None) ≡ Some side → cond a (Some x) (cond b (Some y) rest) ≡ Some d
    → x.side ≡ Funder → y.side ≡ Fundee → d.side ≡ side
side_by true b side x y d rest e f h k =
    let is : Funder ≡ side = cc in let same : x ≡ d = cc in ap (λ (z : Dispatcher). z.side) (sym same) ∙ h ∙ is
side_by false true side x y d rest e f h k =
    let is : Fundee ≡ side = cc in let same : y ≡ d = cc in ap (λ (z : Dispatcher). z.side) (sym same) ∙ k ∙ is
side_by false false side x y d rest e f h k = absurd (cc)

at_end : (e : End) (d : Dispatcher) (n : ℕ) (node : Node) → d.end ≡ end_at n node
    → is_at e d ≡ (is_node node e.node && (n == e.channel))
at_end e d n node is = ap (λ (z : End). is_node z.node e.node && (z.channel == e.channel)) is

module _ {K : Type 0} where
  pub dispatcher_side : (e : End) (cs : List (WorldChannel K)) (ds : List Dispatcher) → EachPair Pair cs ds
      → (c : WorldChannel K)
      → channel e.channel cs ≡ Some c → (side : Role) → side_of e.node c ≡ Some side → (d : Dispatcher)
      → dispatcher_at e ds ≡ Some d
      → d.side ≡ side
  dispatcher_side e [] ds h c is side of d at = absurd (cc)
  dispatcher_side e (c0 ∷ cs) [] h c is side of d at = absurd h
  dispatcher_side e (c0 ∷ cs) (x ∷ []) h c is side of d at = absurd h
  dispatcher_side e (c0 ∷ cs) (x ∷ y ∷ ds) h c is side of d at =
      cases (c0.number == e.channel) refl is (λ r at_rest. dispatcher_side e cs ds h.1 c r side of d at_rest)
    where
      at_x : is_at e x ≡ (is_node c0.funder e.node && (c0.number == e.channel))
      at_x = at_end e x c0.number c0.funder h.0.funder

      at_y : is_at e y ≡ (is_node c0.fundee e.node && (c0.number == e.channel))
      at_y = at_end e y c0.number c0.fundee h.0.fundee

      cases : (b : Bool) → (c0.number == e.channel) ≡ b → cond b (Some c0) (channel e.channel cs) ≡ Some c
          → (channel e.channel cs ≡ Some c → dispatcher_at e ds ≡ Some d → d.side ≡ side) → d.side ≡ side
      cases true here f rest =
          let same : c0 ≡ c = cc in
          side_by (is_node c0.funder e.node) (is_node c0.fundee e.node) side x y d (dispatcher_at e ds)
          (ap (side_of e.node) same ∙ of)
          (sym (ap (λ b. cond b (Some x) (cond (is_at e y) (Some y) (dispatcher_at e ds)))
          (at_x ∙ ap (λ z. is_node c0.funder e.node && z) here ∙ and-true (is_node c0.funder e.node))
          ∙ ap (λ b. cond (is_node c0.funder e.node) (Some x) (cond b (Some y) (dispatcher_at e ds)))
          (at_y ∙ ap (λ z. is_node c0.fundee e.node && z) here ∙ and-true (is_node c0.fundee e.node))) ∙ at)
          h.0.sides.0 h.0.sides.1
      cases false there f rest = rest f
          (sym (ap (λ b. cond b (Some x) (cond (is_at e y) (Some y) (dispatcher_at e ds)))
          (at_x ∙ ap (λ z. is_node c0.funder e.node && z) there ∙ and-false (is_node c0.funder e.node))
          ∙ ap (λ b. cond b (Some y) (dispatcher_at e ds))
          (at_y ∙ ap (λ z. is_node c0.fundee e.node && z) there ∙ and-false (is_node c0.fundee e.node))) ∙ at)

  -- each stands beside an end
  abbrev IsBeside : End → List (WorldChannel K) → Type 0
  IsBeside e cs =
      (c : WorldChannel K) × (side : Role) × (channel e.channel cs ≡ Some c) × (side_of e.node c ≡ Some side)

  pub dispatcher_there : (e : End) (cs : List (WorldChannel K)) (ds : List Dispatcher) → AreOnce cs
      → EachPair Pair cs ds
      → (d : Dispatcher)
      → dispatcher_at e ds ≡ Some d
      → (c : WorldChannel K) × (side : Role) × (channel e.channel cs ≡ Some c) × (side_of e.node c ≡ Some side)
  dispatcher_there e [] [] once h d at = absurd (cc)
  dispatcher_there e [] (x ∷ ds) once h d at = absurd h
  dispatcher_there e (c0 ∷ cs) [] once h d at = absurd h
  dispatcher_there e (c0 ∷ cs) (x ∷ []) once h d at = absurd h
  dispatcher_there e (c0 ∷ cs) (x ∷ y ∷ ds) once h d at =
      cases (λ rest. dispatcher_there e cs ds once.1 h.1 d rest) (c0.number == e.channel) refl
      (is_node c0.funder e.node) refl
      (is_node c0.fundee e.node) refl
    where
      at_x : is_at e x ≡ (is_node c0.funder e.node && (c0.number == e.channel))
      at_x = at_end e x c0.number c0.funder h.0.funder

      at_y : is_at e y ≡ (is_node c0.fundee e.node && (c0.number == e.channel))
      at_y = at_end e y c0.number c0.fundee h.0.fundee

      -- neither is
      past : (a b g : Bool) → (c0.number == e.channel) ≡ a → is_node c0.funder e.node ≡ b → is_node c0.fundee e.node ≡ g
          → (b && a) ≡ false → (g && a) ≡ false → dispatcher_at e ds ≡ Some d
      past a b g ea eb eg x_no y_no =
          sym (ap (λ z. cond z (Some x) (cond (is_at e y) (Some y) (dispatcher_at e ds)))
          (at_x ∙ ap (λ z. z && (c0.number == e.channel)) eb ∙ ap (λ z. b && z) ea ∙ x_no)
          ∙ ap (λ z. cond z (Some y) (dispatcher_at e ds))
          (at_y ∙ ap (λ z. z && (c0.number == e.channel)) eg ∙ ap (λ z. g && z) ea ∙ y_no)) ∙ at

      later : (dispatcher_at e ds ≡ Some d → IsBeside e cs) → dispatcher_at e ds ≡ Some d → IsBeside e (c0 ∷ cs)
      later go rest =
          let r = go rest in
          elim (either (c0.number == e.channel)) [
            | inr isnt ↦ (r.0, r.1, ap (λ z. cond z (Some c0) (channel e.channel cs)) isnt ∙ r.2, r.3)
            | inl is ↦ absurd (let no : None ≡ Some r.0 =
                sym once.0 ∙ ap (λ i. channel i cs) (eqb-true c0.number e.channel is) ∙ r.2 in cc)
          ]

      cases : (dispatcher_at e ds ≡ Some d → IsBeside e cs) → (a : Bool) → (c0.number == e.channel) ≡ a → (b : Bool)
          → is_node c0.funder e.node ≡ b
          → (g : Bool) → is_node c0.fundee e.node ≡ g → IsBeside e (c0 ∷ cs)
      cases go true ea true eb g eg = (
        c0,
        Funder,
        ap (λ z. cond z (Some c0) (channel e.channel cs)) ea,
        ap (λ z. cond z (Some Funder) (cond (is_node c0.fundee e.node) (Some Fundee) None)) eb,
      )
      cases go true ea false eb true eg = (
        c0,
        Fundee,
        ap (λ z. cond z (Some c0) (channel e.channel cs)) ea,
        ap (λ z. cond z (Some Funder) (cond (is_node c0.fundee e.node) (Some Fundee) None)) eb
            ∙ ap (λ z. cond z (Some Fundee) None) eg,
      )
      cases go true ea false eb false eg = later go (past true false false ea eb eg refl refl)
      cases go false ea b eb g eg = later go (past false b g ea eb eg (and-false b) (and-false g))

-- what holds of each holds of the end's
each_dispatcher : (P : Dispatcher → Type 0) (e : End) (ds : List Dispatcher) (d : Dispatcher) → Each P ds
    → dispatcher_at e ds ≡ Some d
    → P d × (d.end.channel ≡ e.channel)
each_dispatcher P e [] d h at = absurd (cc)
each_dispatcher P e (x ∷ ds) d h at = cases (is_at e x) refl at (λ r. each_dispatcher P e ds d h.1 r)
  where
    cases : (b : Bool) → is_at e x ≡ b → cond b (Some x) (dispatcher_at e ds) ≡ Some d
        → (dispatcher_at e ds ≡ Some d → P d × (d.end.channel ≡ e.channel)) → P d × (d.end.channel ≡ e.channel)
    cases true is f rest = let same : x ≡ d = cc in (
      subst P same h.0,
      ap (λ (z : Dispatcher). z.end.channel) (sym same)
          ∙ eqb-true x.end.channel e.channel (and_parts (is_node x.end.node e.node) (x.end.channel == e.channel) is).1,
    )
    cases false is f rest = rest f

-- ---- the event that it has served

pub item_front : {A : Type 0} (n : ℕ) (xs ys : List A) (x : A) → item n xs ≡ Some x → item n (xs ++ ys) ≡ Some x
item_front n [] ys x e = absurd (cc)
item_front zero (y ∷ xs) ys x e = e
item_front (suc n) (y ∷ xs) ys x e = item_front n xs ys x e

item_dropped : {A : Type 0} (d i : ℕ) (xs : List A) → item i (drop d xs) ≡ item (d + i) xs
item_dropped zero i xs = ap (λ n. item n xs) (let e : i ≡ 0 + i = omega arith in e)
item_dropped (suc d) i [] = refl
item_dropped (suc d) i (x ∷ xs) =
    item_dropped d i xs ∙ ap (λ n. item n (x ∷ xs)) (let e : suc (d + i) ≡ suc d + i = omega arith in e)

pub record Served (n : ℕ) (l : Epoch) (x : ChannelEvent) : Type 0 where
  pub start : l.start ≤ n
  pub is : item (n - l.start) l.served ≡ Some x

both_some : (o : Option ChannelEvent) (q : Option Verdict) (p : ChannelEvent × Verdict) → both_of o q ≡ Some p
    → o ≡ Some p.0
both_some None None p e = absurd (cc)
both_some None (Some y) p e = absurd (cc)
both_some (Some x) None p e = absurd (cc)
both_some (Some x) (Some y) p e =
    let same : ◌≡◌ {A = ChannelEvent × Verdict} (x, y) p = cc in ap (λ (z : ChannelEvent × Verdict). Some z.0) same

served_so : (n : ℕ) (l : Epoch) (p : ChannelEvent × Verdict) → served_in n l ≡ Some p → Served n l p.0
served_so n l p = cases (nat_le l.start n) refl
  where
    cases : (b : Bool) → nat_le l.start n ≡ b
        → cond b (both_of (item (n - l.start) l.served) (item (n - l.start) l.said)) None ≡ Some p → Served n l p.0
    cases true le e = record {
      start = leb-true l.start n le;
      is = both_some (item (n - l.start) l.served) (item (n - l.start) l.said) p e;
    }
    cases false le e = absurd (cc)

below_next : (n : ℕ) (l : Epoch) (x : ChannelEvent) → Served n l x → nat_lt n (next l) ≡ true
below_next n l x h =
    let start = h.start in
    let below = item_below (n - l.start) l.served x h.is in
    lt-ltb n (next l) (omega (arith, start, below))

-- it is the event of its number
of_number : (n : ℕ) (l : Epoch) (x : ChannelEvent) (evs : List ChannelEvent) → Begins l.served (drop l.start evs)
    → Served n l x
    → item n evs ≡ Some x
of_number n l x evs b h =
    let start = h.start in
    let back : n ≡ l.start + (n - l.start) = omega (arith, start) in
    ap (λ i. item i evs) back ∙ sym (item_dropped l.start (n - l.start) evs) ∙ ap (item (n - l.start)) (sym b.1)
    ∙ item_front (n - l.start) l.served b.0 x h.is

-- ---- and the first that isn't decided

count_pairs : (n : ℕ) (es : List ChannelEvent) → length (counted n es) ≡ length es
count_pairs n [] = refl
count_pairs n (e ∷ es) = ap suc (count_pairs (n + 1) es)

no_more : (n : ℕ) (rs : List EventRef) (e : ChannelEnd) → length (pending_from n rs e) ≤ length rs
no_more n [] e = omega arith
no_more n (r ∷ rs) e = cases (named_by r e) (no_more (n + 1) rs e)
  where
    cases : (o : Option ChannelEvent) → length (pending_from (n + 1) rs e) ≤ length rs
        → length (cons_option (option_map (λ event. (n, event)) o) (pending_from (n + 1) rs e)) ≤ suc (length rs)
    cases None le = omega (arith, le)
    cases (Some x) le = omega (arith, le)

pub first_named : (x : ChannelEnd) (evs : List ChannelEvent) (ev : ChannelEvent) → IsInStep evs x
    → item x.ledger.decided evs ≡ Some ev → (r : EventRef) (rs : List EventRef) → x.ledger.undecided ≡ r ∷ rs
    → named_by r x ≡ Some ev
first_named x evs ev h is r rs und = cases (named_by r x) refl
  where
    d : ℕ
    d = x.ledger.decided

    es : List ChannelEvent
    es = drop (suc d) evs

    list : cons_option (option_map (λ event. (d, event)) (named_by r x)) (pending_from (d + 1) rs x) ≡ (d, ev)
        ∷ counted (d + 1) es
    list = sym (ap (λ z. pending_from d z x) und) ∙ h.pending ∙ ap (counted d) (item_at d evs ev is)

    cases : (o : Option ChannelEvent) → named_by r x ≡ o → named_by r x ≡ Some ev
    cases None e = absurd (
        let short : pending_from (d + 1) rs x ≡ (d, ev) ∷ counted (d + 1) es =
        sym (ap (λ o. cons_option (option_map (λ event. (d, event)) o) (pending_from (d + 1) rs x)) e) ∙ list in
        let long : length (pending_from (d + 1) rs x) ≡ suc (length (counted (d + 1) es)) = ap length short in
        let few = no_more (d + 1) rs x in
        let pairs = count_pairs (d + 1) es in
        let left = length-drop (suc d) evs in
        let all = h.all in
        let unds : length x.ledger.undecided ≡ suc (length rs) = ap length und in
        let below = item_below d evs ev is in
        omega (arith, long, few, pairs, left, all, unds, below))
    cases (Some z) e =
        let same_list : (d, z) ∷ pending_from (d + 1) rs x ≡ (d, ev) ∷ counted (d + 1) es =
        sym (ap (λ o. cons_option (option_map (λ event. (d, event)) o) (pending_from (d + 1) rs x)) e) ∙ list in
        let pair : ◌≡◌ {A = ℕ × ChannelEvent} (d, z) (d, ev) = cc in
        e ∙ ap (λ (q : ℕ × ChannelEvent). Some q.1) pair

-- ---- in a world

pub record IsWaiting (x : ChannelEnd) (ds : List Dispatcher) (e : End) (p : ℕ × ChannelEvent × Verdict) : Type 0 where
  pub number : p.0 ≡ x.ledger.decided
  pub below : is_below_next p.0 (dispatcher_at e ds) ≡ true
  pub told : told_by p.0 (dispatcher_at e ds) ≡ offer_of p.1
  pub offers : (o : Offer) → offer_of p.1 ≡ Some o → first_htlc x.dance.log x.ledger.undecided ≡ Some o.id

first_by : (x : ChannelEnd) (evs : List ChannelEvent) (ev : ChannelEvent) (o : Offer) → IsInStep evs x
    → item x.ledger.decided evs ≡ Some ev → offer_of ev ≡ Some o → (us : List EventRef) → x.ledger.undecided ≡ us
    → 0 < length us → first_htlc x.dance.log us ≡ Some o.id
first_by x evs ev o h is offers [] und some = absurd (omega (arith, some))
first_by x evs ev o h is offers (r ∷ rs) und some = first_offers x r ev o (first_named x evs ev h is r rs und) offers

module _ {K : Type 0} (k : Ghosts K) (w : World K) (r : Ran k w) (e : End) (s : State K)
    (there : link_in e.node e.channel w.dispatchers.channels.channels ≡ Some s) (x : ChannelEnd)
    (saved : saved_of (Some s) ≡ Some x)
  where
    abbrev cs : List (WorldChannel K)
    cs = w.dispatchers.channels.channels

    abbrev evs : Dispatcher → List ChannelEvent
    evs d = events_of k r.hooks d.end.channel d.side r.steps

    aligned : Aligned w.dispatchers.channels.channels w.dispatchers.dispatchers
    aligned = subst (λ (z : World K). Aligned z.dispatchers.channels.channels z.dispatchers.dispatchers) (sym r.is)
        (subst (λ (z : Dispatchers K). Aligned z.channels.channels z.dispatchers) (sym (ran k r.hooks r.steps))
        (all_aligned k r.hooks (plains k r.steps (empty r.hooks))))

    stands : Each (λ d. DispatcherStands (evs d) (decided_for d w.dispatchers.channels) d) w.dispatchers.dispatchers
    stands =
        subst (λ (z : World K). Each (λ d. DispatcherStands (evs d)
        (decided_for d z.dispatchers.channels) d) z.dispatchers.dispatchers)
        (sym r.is)
        (subst (λ (z : Dispatchers K). Each (λ d. DispatcherStands (evs d) (decided_for d z.channels) d) z.dispatchers)
        (sym (ran k r.hooks r.steps))
        (dispatchers_stand k (plains k r.steps (empty r.hooks)) r.hooks))

    in_step : (number : ℕ) (side : Role) → AreInStep side (events_of k r.hooks number side r.steps) (channel number cs)
    in_step number side = subst (λ (z : World K). AreInStep side (events_of k r.hooks number side r.steps)
        (channel number z.dispatchers.channels.channels)) (sym r.is)
        (subst (λ (z : Channels K). AreInStep side (events_of k r.hooks number side r.steps)
        (channel number z.channels))
        (sym (ran_channels k r.hooks r.steps)) (in_step_so k (channel_steps k r.hooks r.steps) number side))

    abbrev p : Place e.node e.channel cs s
    p = place e.node e.channel cs s there

    at_saved : (st : Stage) (es : List ChannelEvent) → saved_end st ≡ Some x → AtEnd (IsInStep es) st → IsInStep es x
    at_saved (stage.Funded y) es f h = let same : y ≡ x = cc in subst (IsInStep es) same h
    at_saved (stage.AwaitsOpen c) es f h = absurd h
    at_saved (stage.AwaitsAccept c) es f h = absurd h
    at_saved (stage.AwaitsCreated c) es f h = absurd h
    at_saved (stage.AwaitsSigned c) es f h = absurd h
    at_saved stage.Gone es f h = absurd h

    -- the dispatcher of that end: what it has served, and what the end has told
    record Serves (d : Dispatcher) : Type 0 where
      stood : DispatcherStands (evs d) (decided_for d w.dispatchers.channels) d
      end : saved_in d.side (channel d.end.channel cs) ≡ Some x
      step : IsInStep (evs d) x

    serves : (d : Dispatcher) → dispatcher_at e w.dispatchers.dispatchers ≡ Some d → Serves d
    serves d at =
        let one = each_dispatcher (λ d. DispatcherStands (evs d)
        (decided_for d w.dispatchers.channels) d) e w.dispatchers.dispatchers d stands at in
        let side : d.side ≡ p.side = dispatcher_side e cs w.dispatchers.dispatchers aligned.pairs p.found p.is
        p.side p.of d at in
        let found : channel d.end.channel cs ≡ Some p.found = ap (λ i. channel i cs) one.1 ∙ p.is in
        let mine : saved_end (place_of p.side p.found.both).link.stage ≡ Some x =
        ap (λ (z : State K). saved_end z.stage) (sym p.link) ∙ saved in
        record {
          stood = one.0;
          end = ap (saved_in d.side) found ∙ ap (λ z. saved_in z (Some p.found)) side ∙ mine;
          step = at_saved (place_of p.side p.found.both).link.stage (evs d) mine
              (subst (λ z. AreInStep z (evs d) (Some p.found)) side
              (subst (AreInStep d.side (evs d)) found (in_step d.end.channel d.side)));
        }

    -- what it has served of the first event that the end hasn't decided
    served_first : (d : Dispatcher) → Serves d → (y : ChannelEvent × Verdict)
        → served_in x.ledger.decided d.epoch ≡ Some y → (o : Offer) → offer_of y.0 ≡ Some o
        → first_htlc x.dance.log x.ledger.undecided ≡ Some o.id
    served_first d s y f o is =
        let numbered = of_number x.ledger.decided d.epoch y.0 (evs d) s.stood.epoch.follows
        (served_so x.ledger.decided d.epoch y f) in
        let below = item_below x.ledger.decided (evs d) y.0 numbered in
        let all = s.step.all in
        first_by x (evs d) y.0 o s.step numbered is x.ledger.undecided refl (omega (arith, below, all))

    pub first_told : (o : Offer) → told_by x.ledger.decided (dispatcher_at e w.dispatchers.dispatchers) ≡ Some o
        → first_htlc x.dance.log x.ledger.undecided ≡ Some o.id
    first_told o is = cases (dispatcher_at e w.dispatchers.dispatchers) refl is
      where
        cases : (z : Option Dispatcher) → dispatcher_at e w.dispatchers.dispatchers ≡ z
            → told_by x.ledger.decided z ≡ Some o → first_htlc x.dance.log x.ledger.undecided ≡ Some o.id
        cases None at f = absurd (cc)
        cases (Some d) at f = by (served_in x.ledger.decided d.epoch) refl f
          where
            by : (y : Option (ChannelEvent × Verdict)) → served_in x.ledger.decided d.epoch ≡ y
                → offer_in y ≡ Some o → first_htlc x.dance.log x.ledger.undecided ≡ Some o.id
            by None f g = absurd (cc)
            by (Some y) f g = served_first d (serves d at) y f o g

    of_dispatcher : (d : Dispatcher) → dispatcher_at e w.dispatchers.dispatchers ≡ Some d
        → (q : ℕ × ChannelEvent × Verdict)
        → waiting_of d.epoch (saved_in d.side (channel d.end.channel cs)) ≡ Some q
        → IsWaiting x w.dispatchers.dispatchers e q
    of_dispatcher d at q is =
        let s = serves d at in
        cases (served_in x.ledger.decided d.epoch) refl (sym (ap (waiting_of d.epoch) s.end) ∙ is) s
      where
        cases : (o : Option (ChannelEvent × Verdict)) → served_in x.ledger.decided d.epoch ≡ o
            → option_map (λ p. (x.ledger.decided, p.0, p.1)) o ≡ Some q → Serves d
            → IsWaiting x w.dispatchers.dispatchers e q
        cases None f g s = absurd (cc)
        cases (Some y) f g s =
            let same : ◌≡◌ {A = ℕ × ChannelEvent × Verdict} (x.ledger.decided, y.0, y.1) q = cc in
            let number : x.ledger.decided ≡ q.0 = ap (λ (z : ℕ × ChannelEvent × Verdict). z.0) same in
            let event_is : y.0 ≡ q.1 = ap (λ (z : ℕ × ChannelEvent × Verdict). z.1) same in
            record {
              number = sym number;
              below = ap (is_below_next q.0) at ∙ ap (λ i. nat_lt i (next d.epoch)) (sym number)
                  ∙ below_next x.ledger.decided d.epoch y.0 (served_so x.ledger.decided d.epoch y f);
              told = ap (λ z. told_by q.0 z) at ∙ ap (λ i. offer_in (served_in i d.epoch)) (sym number)
                  ∙ ap offer_in f ∙ ap offer_of event_is;
              offers = λ o is. served_first d s y f o (ap offer_of event_is ∙ is);
            }

    pub waiting_so : (q : ℕ × ChannelEvent × Verdict) → waiting e w.dispatchers ≡ Some q
        → IsWaiting x w.dispatchers.dispatchers e q
    waiting_so q is = cases (dispatcher_at e w.dispatchers.dispatchers) refl is
      where
        cases : (o : Option Dispatcher) → dispatcher_at e w.dispatchers.dispatchers ≡ o
            → waiting_for o w.dispatchers.channels ≡ Some q
            → IsWaiting x w.dispatchers.dispatchers e q
        cases None at f = absurd (cc)
        cases (Some d) at f = of_dispatcher d at q f

-- it is an end of a channel
pub waiting_there : {K : Type 0} (k : Ghosts K) (w : World K) → Ran k w → (e : End) (q : ℕ × ChannelEvent × Verdict)
    → waiting e w.dispatchers ≡ Some q
    → (s : State K) × (link_in e.node e.channel w.dispatchers.channels.channels ≡ Some s)
waiting_there k w r e q is = cases (dispatcher_at e w.dispatchers.dispatchers) refl is
  where
    all : Aligned w.dispatchers.channels.channels w.dispatchers.dispatchers
    all = subst (λ (z : World _). Aligned z.dispatchers.channels.channels z.dispatchers.dispatchers) (sym r.is)
        (subst (λ (z : Dispatchers _). Aligned z.channels.channels z.dispatchers) (sym (ran k r.hooks r.steps))
        (all_aligned k r.hooks (plains k r.steps (empty r.hooks))))

    cases : (o : Option Dispatcher) → dispatcher_at e w.dispatchers.dispatchers ≡ o
        → waiting_for o w.dispatchers.channels ≡ Some q
        → (s : State _) × (link_in e.node e.channel w.dispatchers.channels.channels ≡ Some s)
    cases None at f = absurd (cc)
    cases (Some d) at f =
        let t = dispatcher_there e w.dispatchers.channels.channels w.dispatchers.dispatchers all.once
        all.pairs d at in (
          (place_of t.1 t.0.both).link,
          ap (link_there e.node) t.2 ∙ ap (link_by t.0) t.3,
        )
