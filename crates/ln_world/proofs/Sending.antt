-- An end of the node takes a message, or does what is none of its book's to command.
use Rattle.std.proofs.Common.{◌≡◌, inl, inr, ℕ, List, [], ◌∷◌, refl, sym, ap, ◌∙◌, subst}
use Rattle.std.proofs.Common.{Bool, true, false, not, ◌==◌, ◌&&◌, Option, Some, None, Result, Ok, Err}
use Rattle.std.proofs.lemmas.Bool.{eqb-true, and_parts}
use Rattle.ln_msgs.specs.declared.messages.message.Message.{Message}
use Rattle.ln_refusals.specs.declared.refusal.Refusal.{Refusal}
use Rattle.ln_keys.specs.declared.keys.ChannelKeys.{Ghosts}
use Rattle.ln_keys.specs.Signer.{Signer}
use Rattle.ln_hooks.specs.declared.verdict.Verdict.{Verdict}
use Rattle.ln_channel.specs.declared.command.Command.{Command}
use Rattle.ln_channel.specs.End.{End as ChannelEnd}
use Rattle.ln_channel.specs.Base.{based, is_open, entering}
use Rattle.ln_channel.specs.State.{State}
use Rattle.ln_channel.specs.Step.{Done, handled, commanded, is_of_records}
use Rattle.ln_book_tables.specs.declared.htlc.Htlc.{Htlc}
use Rattle.ln_book_tables.specs.Replay.{table_of}
use Rattle.ln_world_channels.specs.declared.step.Act.{Act as ChannelAct}
use Rattle.ln_world_channels.specs.declared.step.Act.TheVariants as channel_act
use Rattle.ln_world_channels.specs.declared.step.Node.{Node}
use Rattle.ln_world_channels.specs.declared.step.End.{End}
use Rattle.ln_world_channels.specs.Settings.{channel_id_of}
use Rattle.ln_world_channels.specs.WorldChannel.{WorldChannel, place_of, side_may_do, has_front}
use Rattle.ln_world_channels.specs.World.{channel, may_act_there, may_be_done}
use Rattle.ln_world_channels.proofs.Mirror.{link_at}
use Rattle.ln_world_dispatch.specs.World.{is_dispatched, may_act}
use Rattle.ln_world.specs.declared.step.Act.TheVariants as act
use Rattle.ln_world.specs.declared.step.Step.TheVariants as step
use Rattle.ln_world.specs.Node.{Book}
use Rattle.ln_world.specs.BookReports.{with_held, event_count}
use Rattle.ln_world.specs.World.{World, happens, id_of, act_where}
use Rattle.ln_payment.specs.Parts.{NoRemoval, IsHeld}
use Rattle.ln_payment_circuits.specs.Shift.{Shift, IsPlain}
use Rattle.ln_payment_circuits.specs.Snapshot.{IsIn, origin}
use Rattle.ln_payment_circuits.proofs.Links.{Changed, removal_at}
use Rattle.ln_payment_circuits.proofs.Logs.{no_removal}
use Rattle.ln_payment_circuits.proofs.Parts.{removal_of}
use Rattle.ln_payment_circuits.proofs.Lists.{of_picked}
use Rattle.ln_payment_circuits.proofs.Shifts.{side_of as read_side}
use Rattle.ln_payment_circuits.proofs.Scenes.{Scene, HavePayments}
use Rattle.ln_book.specs.Alone.{is_books}
use Rattle.ln_world.proofs.Answering.{RowSteps, IfDone, AtSaved}
use Rattle.ln_world.proofs.Moving.{row_of, row_front}
use Rattle.ln_world.proofs.Scene.{link_in, links_of, scene_of, either}
use Rattle.ln_world.proofs.Lost.{place, link_is}
use Rattle.ln_world.proofs.Books.{IsAlike}
use Rattle.ln_world.proofs.PendingCommands.{calm_as}
use Rattle.ln_world.proofs.Same.{IsSame, same_paid, same_agrees, same_past, one_id}
use Rattle.ln_world.proofs.Doing.{plain_paid, kin_agrees}
use Rattle.ln_world.proofs.Wells.{book_in}
use Rattle.ln_world.proofs.Halting.{link_exists}
use Rattle.ln_world.proofs.Orderly.{order_at, order_known, view_at, AllName, Any, later_same, later_as}
use Rattle.ln_world.proofs.Orderly.{dispatchers_stay}
use Rattle.ln_world.proofs.Dispatched.{Ran}
use Rattle.ln_world.proofs.Undecided.{Waits, unremoved_there, live_of, shift_live}
use Rattle.ln_world.proofs.Keeping.{Holds}
use Rattle.ln_world.proofs.Hearing.{hears, hears_none, all_paid, after_all, kin_all, NoneHeld, later_all, offers_all}
use Rattle.ln_world.proofs.Newly.{news, undecided_so, decided_so, news_so}
use Rattle.ln_payment_circuits.proofs.Calls.{Plain}
use Rattle.ln_payment_circuits.proofs.Moments.{plain_decisions, first_kept}
use Rattle.ln_world.proofs.Plainly.{handled_plain, commanded_plain, awake_handled, awake_commanded}
use Rattle.ln_world.proofs.Acting.{done_by, turn, ds, x, y, act_channels, act_book, act_later, concludes}
use Rattle.ln_world.proofs.Acting.{shift_names, plain_names, awake_now, refused_sides, refused_later, past_now}
use Rattle.ln_payment_circuits.proofs.Past.{offers_as}

module _ {K : Type 0} (k : Ghosts K) (e : End) (v : Verdict) (w : World K) (h : Holds k e.node w) where
  -- ---- nothing is done

  pub idle_holds : (u : World K) → u.dispatchers ≡ w.dispatchers → u.nodes ≡ w.nodes → Holds k e.node u
  idle_holds u d n = subst (Holds k e.node) (cases u d n) h
    where
      cases : (u : World K) → u.dispatchers ≡ w.dispatchers → u.nodes ≡ w.nodes → w ≡ u
      cases u d n =
          ap (λ z. record { dispatchers = z; nodes = w.nodes }) (sym d)
          ∙ ap (λ z. record { dispatchers = u.dispatchers; nodes = z }) (sym n)

  module _ (ran : Ran k w) (a : ChannelAct) (may : is_dispatched e a w.dispatchers ≡ true) (s : State K)
      (there : link_in e.node e.channel w.dispatchers.channels.channels ≡ Some s) (row : Result Done Refusal)
      (is : row_of k.signer a (place_of (place e.node e.channel w.dispatchers.channels.channels s there).side
      (place e.node e.channel w.dispatchers.channels.channels s there).found.both) ≡ Some row) where
    abbrev n : Node
    n = e.node

    abbrev cs : List (WorldChannel K)
    cs = w.dispatchers.channels.channels

    abbrev b : Book
    b = book_in n w

    abbrev new : List (WorldChannel K)
    new = ds k e v w h.well.open_ a may s there row is

    abbrev x0 : ChannelEnd
    x0 = x k e v w h.well.open_ a may s there row is

    abbrev y0 : ChannelEnd
    y0 = y k e v w h.well.open_ a may s there row is

    abbrev then : Option ℕ → World K
    then r = done_by k e v w None (Some a) r w.nodes

    abbrev scene_with : List Htlc → Scene
    scene_with hs = record { links = links_of n new; book = hs }

    heard_alike : (r : Option ℕ)
        → IsAlike (with_held (id_of e) (event_count (Some x0)) (Some y0) b) (book_in n (then r))
    heard_alike r = act_book k e v w h.well.open_ a may s there row is None r w.nodes

    refused : y0 ≡ x0 → (r : Option ℕ) → Holds k n (then r)
    refused same r =
        let same_scene : IsSame (scene_of n w) (scene_with (table_of b).htlcs) = record {
          sides = refused_sides k e v w h.well.open_ a may s there row is same;
          halted = (turn k e v w h.well.open_ a may s there row is).changed.halted;
          book = refl;
        } in
        concludes k e v w h.well.open_ a may s there row is (then r)
        (act_channels k e v w h.well.open_ a may s there row is) refl b
        (subst (λ q. IsAlike q (book_in n (then r)))
        (hears_none (id_of e) x0 y0 b (ap (λ z. event_count (Some z)) same))
        (heard_alike r)) h.well.small h.well.calm
        (same_paid channel_id_of (scene_of n w) (scene_with (table_of b).htlcs) same_scene h.well.paid)
        (same_agrees channel_id_of (scene_of n w) (scene_with (table_of b).htlcs) same_scene h.well.agrees)
        (same_past channel_id_of (scene_of n w) (scene_with (table_of b).htlcs) same_scene h.well.past)
        (order_at n cs new w.dispatchers.dispatchers w.dispatchers.dispatchers b b
        (refused_later k e v w h.well.open_ a may s there row is same) (λ q m. m) (later_same Any (table_of b).htlcs)
        (dispatchers_stay n w.dispatchers.dispatchers) h.order)

    -- an HTLC that waits has no removal that is held then
    none_held : (c : ℕ) (y : Htlc) → Waits k n w h.well ran c y → (f : ChannelEnd) (z : Shift x0 f) → IsPlain z
        → Changed (origin channel_id_of) e.channel (read_side x0) (read_side (based f)) (links_of n cs)
        (links_of n new) → (d : ℕ) → c ≡ d → IsHeld (removal_at y.key.id ((links_of n new).sides d)) → ⊥
    none_held c y next f z plain g d same held = elim (either (c == e.channel)) [
      | inr isnt ↦ subst IsHeld (ap (removal_at y.key.id) (g.others c isnt)
          ∙ unremoved_there k n w h.well ran c y next) at_c
      | inl is ↦
          let before : removal_of y.key.id x0.dance.log ≡ NoRemoval =
          sym (ap (λ o. removal_at y.key.id o) (ap (links_of n cs).sides (eqb-true c e.channel is) ∙ g.before))
          ∙ unremoved_there k n w h.well ran c y next in
          subst IsHeld (ap (λ o. removal_at y.key.id o) (ap (links_of n new).sides (eqb-true c e.channel is) ∙ g.behind)
          ∙ no_removal (based f).dance.log y.key.id
          (shift_live y.key.id x0 f z plain (live_of y.key.id x0.dance.log before))) at_c
    ]
      where
        at_c : IsHeld (removal_at y.key.id ((links_of n new).sides c))
        at_c = subst (λ i. IsHeld (removal_at y.key.id ((links_of n new).sides i))) (sym same) held

    taken : (d : Done) (t : RowSteps x0 y0 (Ok d)) → Plain x0 t.0 → s.halted ≡ false → (r : Option ℕ)
        → Holds k n (then r)
    taken d t p awake r =
        let f = t.0 in
        let z = p.0 in
        let fit = (link_is k.signer n cs h.well.open_ e.channel s there).is.fit in
        let g : Changed (origin channel_id_of) e.channel (read_side x0) (read_side (based f)) (links_of n cs)
        (links_of n new) =
        subst (λ q. Changed (origin channel_id_of) e.channel (read_side x0) (read_side q) (links_of n cs)
        (links_of n new)) t.3
        (turn k e v w h.well.open_ a may s there row is).changed in
        let mid =
        plain_paid e.channel x0 f (scene_of n w) (scene_with (table_of b).htlcs) g refl fit
        (first_kept x0 f fit z) z
        p.1 h.well.paid in
        let bt = with_held (id_of e) (event_count (Some x0)) (Some (based f)) b in
        let reported = hears (id_of e) x0 (based f) (news z) b (undecided_so x0 f z p.1) (decided_so x0 f z p.1) in
        let kin = kin_all (id_of e) (news z) (based f) (table_of b).htlcs in
        let paid : HavePayments channel_id_of (scene_with (after_all (id_of e) (news z) (based f) (table_of b).htlcs)) =
        λ q. all_paid q (links_of n new) e.channel (news z) (based f) (table_of b).htlcs
        (awake_now k e v w h.well.open_ a may s there row is awake)
        (news_so (links_of n new) e.channel x0 f fit g.behind z) (mid q) in
        concludes k e v w h.well.open_ a may s there row is (then r)
        (act_channels k e v w h.well.open_ a may s there row is) refl bt
        (subst (λ q. IsAlike (with_held (id_of e) (event_count (Some x0)) (Some q) b) (book_in n (then r))) t.3
        (heard_alike r))
        h.well.small (calm_as (table_of b) (table_of bt) reported.pending_commands h.well.calm)
        (subst (λ hs. HavePayments channel_id_of (scene_with hs)) (sym reported.htlcs) paid)
        (kin_agrees e.channel x0 (based f) (links_of n cs) (links_of n new) (table_of b).htlcs (table_of bt).htlcs g
        (λ q m. subst (IsIn q) (plain_decisions x0 f z p.1) (of_picked (is_open (entering f)) q f.ledger.decisions m))
        (λ q m. kin q (subst (IsIn q) reported.htlcs m)) h.well.agrees)
        (past_now k e v w h.well.open_ a may s there row is (λ d eq. awake) (table_of b).htlcs (table_of bt).htlcs
        (λ q c i y halted. offers_as channel_id_of (table_of b).htlcs
        (after_all (id_of e) (news z) (based f) (table_of b).htlcs) (table_of bt).htlcs reported.htlcs
        (offers_all (id_of e) (news z) (based f) (table_of b).htlcs) q c i y) h.well.past)
        (order_known (NoneHeld (links_of n new)) (view_at n cs w.dispatchers.dispatchers b)
        (view_at n new w.dispatchers.dispatchers bt)
        (λ c. let one = act_later k e v w h.well.open_ a may s there row is
        (λ q. subst (λ (y : ChannelEnd). AllName y.dance.log.own) (sym t.3)
        (shift_names x0 f z (plain_names x0 f z p.1) q)) c in (one.decided, one.names))
        (λ q m. subst (IsIn q) reported.queue m)
        (later_as (NoneHeld (links_of n new)) (table_of b).htlcs
        (after_all (id_of e) (news z) (based f) (table_of b).htlcs) (table_of bt).htlcs reported.htlcs
        (later_all (links_of n new) e.channel (news z) (based f) (table_of b).htlcs
        (news_so (links_of n new) e.channel x0 f fit g.behind z)))
        (dispatchers_stay n w.dispatchers.dispatchers)
        (λ c y m at next same d y_at held. none_held c y next f z p.1 g d
        (one_id c d (sym at ∙ y_at)) held) h.order)

    pub plain_holds : IfDone (Plain x0) row → ((d : Done) → row ≡ Ok d → s.halted ≡ false) → (r : Option ℕ)
        → Holds k n (then r)
    plain_holds plain awake r = cases row refl (turn k e v w h.well.open_ a may s there row is).steps plain
      where
        cases : (q : Result Done Refusal) → row ≡ q → RowSteps x0 y0 q → IfDone (Plain x0) q → Holds k n (then r)
        cases (Ok d) eq t p = taken d t (subst (AtSaved (Plain x0)) t.1 p) (awake d eq) r
        cases (Err q) eq same p = refused same r

  -- ---- a message

  front_of : (signer : K → Signer) (ms : List Message) (l : State K) → has_front ms ≡ true
      → (m : Message) × (row_front signer ms l ≡ Some (handled (signer l.keys) l m))
  front_of signer [] l f = absurd (cc)
  front_of signer (m ∷ ms) l f = (m, refl)

  pub deliver_holds : Ran k w → Holds k e.node (happens k v (step.Do e act.Deliver) w)
  deliver_holds ran = cases (may_act e channel_act.Deliver w.dispatchers) refl
    where
      cases : (b : Bool) → may_act e channel_act.Deliver w.dispatchers ≡ b
          → Holds k e.node (done_by k e v w None (act_where b channel_act.Deliver) None w.nodes)
      cases false f = idle_holds (done_by k e v w None None None w.nodes) refl refl
      cases true f =
          let cs = w.dispatchers.channels.channels in
          let l = link_exists e.node channel_act.Deliver (channel e.channel cs) f in
          let p = place e.node e.channel cs l.0 l.1 in
          let here = place_of p.side p.found.both in
          let front : has_front here.inbox ≡ true =
          sym (ap (may_act_there e.node channel_act.Deliver) p.is
          ∙ ap (λ q. side_may_do channel_act.Deliver q p.found.both) p.of) ∙ f in
          let m = front_of k.signer here.inbox here.link front in
          let mine = link_is k.signer e.node cs h.well.open_ e.channel l.0 l.1 in
          let link : link_at mine.halted mine.keys mine.connection mine.end ≡ here.link = sym mine.link ∙ p.link in
          plain_holds ran channel_act.Deliver refl l.0 l.1 (handled (k.signer here.link.keys) here.link m.0) m.1
          (subst (λ (z : State K). IfDone (Plain mine.end) (handled (k.signer z.keys) z m.0)) link
          (handled_plain (k.signer mine.keys) mine.halted mine.keys mine.connection mine.end m.0))
          (λ d is. ap (λ (z : State K). z.halted) p.link ∙ awake_handled (k.signer here.link.keys) here.link m.0 d is)
          None

  -- ---- a command that isn't the book's

  isnt_so : (b : Bool) → not b ≡ true → b ≡ false
  isnt_so true f = absurd (cc)
  isnt_so false f = refl

  pub send_holds : Ran k w → (c : Command) → is_books c ≡ false
      → Holds k e.node (happens k v (step.Do e (act.Send c)) w)
  send_holds ran c books = cases (not (is_of_records c) && may_act e (channel_act.Send c) w.dispatchers) refl
    where
      cases : (b : Bool) → (not (is_of_records c) && may_act e (channel_act.Send c) w.dispatchers) ≡ b
          → Holds k e.node (done_by k e v w None (act_where b (channel_act.Send c)) None w.nodes)
      cases false f = idle_holds (done_by k e v w None None None w.nodes) refl refl
      cases true f =
          let cs = w.dispatchers.channels.channels in
          let a = and_parts (not (is_of_records c)) (may_act e (channel_act.Send c) w.dispatchers) f in
          let d = and_parts (is_dispatched e (channel_act.Send c) w.dispatchers)
          (may_be_done e (channel_act.Send c) cs) a.1 in
          let l = link_exists e.node (channel_act.Send c) (channel e.channel cs) d.1 in
          let p = place e.node e.channel cs l.0 l.1 in
          let here = place_of p.side p.found.both in
          let mine = link_is k.signer e.node cs h.well.open_ e.channel l.0 l.1 in
          let link : link_at mine.halted mine.keys mine.connection mine.end ≡ here.link = sym mine.link ∙ p.link in
          plain_holds ran (channel_act.Send c) d.0 l.0 l.1 (commanded (k.signer here.link.keys) here.link c) refl
          (subst (λ (z : State K). IfDone (Plain mine.end) (commanded (k.signer z.keys) z c)) link
          (commanded_plain (k.signer mine.keys) mine.halted mine.keys mine.connection mine.end c
          (isnt_so (is_of_records c) a.0) books))
          (λ q is. ap (λ (z : State K). z.halted) p.link ∙ awake_commanded (k.signer here.link.keys) here.link c q is)
          None
