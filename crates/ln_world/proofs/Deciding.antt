-- A node's book is asked what is done about the event that waits at an end, and the end decides it so.
use Rattle.std.proofs.Common.{◌≡◌, ◌⊎◌, inl, inr, ℕ, List, [], ◌∷◌, ◌++◌, take, refl, sym, ap, ◌∙◌}
use Rattle.std.proofs.Common.{subst, arith, Bool, true, false, cond, not, ◌==◌, ◌&&◌, ◌||◌, Option, Some, None}
use Rattle.std.specs.Prelude.{option_map}
use Rattle.std.specs.List.{find, list_any}
use Rattle.std.proofs.lemmas.Bool.{eq-eqb, and_parts}
use Rattle.ln_keys.specs.declared.keys.ChannelKeys.{Ghosts}
use Rattle.ln_hooks.specs.declared.event.ChannelEvent.{ChannelEvent}
use Rattle.ln_hooks.specs.declared.verdict.Verdict.{Verdict}
use Rattle.ln_log.specs.declared.mark.Mark.TheVariants as mark
use Rattle.ln_log.specs.Updates.{is_live}
use Rattle.ln_channel.specs.declared.command.Command.{Command}
use Rattle.ln_channel.specs.declared.command.Command.TheVariants as command
use Rattle.ln_channel.specs.End.{End as ChannelEnd}
use Rattle.ln_channel.specs.Record.{saved_end}
use Rattle.ln_channel.specs.State.{State}
use Rattle.ln_book_tables.specs.declared.htlc.Htlc.{Htlc}
use Rattle.ln_book_tables.specs.declared.htlc.Offer.{Offer}
use Rattle.ln_book_tables.specs.declared.entry.Decided.{Decided}
use Rattle.ln_book_tables.specs.declared.entry.Out.{Out}
use Rattle.ln_book_tables.specs.declared.entry.Queued.{Queued}
use Rattle.ln_book_tables.specs.declared.entry.Entry.TheVariants as entry
use Rattle.ln_book_tables.specs.Replay.{Table, table_of, same, same_key, is_htlc, is_decided}
use Rattle.ln_book_tables.specs.Replay.{is_queued}
use Rattle.ln_book_tables.specs.Replay.{left_out, htlc_of, joined, with_offer, queued_of}
use Rattle.ln_book_tables.specs.Replay.{with_decided}
use Rattle.ln_book.specs.Commands.{first_of, is_queued_in, queued_command}
use Rattle.ln_book.specs.Marks.{offer_of, decision, mark_of}
use Rattle.ln_world_channels.specs.declared.step.Act.{Act as ChannelAct}
use Rattle.ln_world_channels.specs.declared.step.Act.TheVariants as channel_act
use Rattle.ln_world_channels.specs.declared.step.Node.{Node}
use Rattle.ln_world_channels.specs.declared.step.End.{End}
use Rattle.ln_world_channels.specs.Settings.{channel_id_of}
use Rattle.ln_world_channels.specs.WorldChannel.{WorldChannel}
use Rattle.ln_world_dispatch.specs.Dispatcher.{dispatcher_at}
use Rattle.ln_world_dispatch.specs.World.{waiting, is_dispatched, is_below_next, decided_of}
use Rattle.ln_world.specs.declared.step.Act.TheVariants as act
use Rattle.ln_world.specs.declared.step.Step.TheVariants as step
use Rattle.ln_world.specs.Node.{Book, services}
use Rattle.ln_world.specs.World.{World, happens, id_of, first_in, saved_of, with_decision, deciding, command_by}
use Rattle.ln_world.specs.World.{sent_or, handed_out}
use Rattle.ln_payment.specs.Parts.{Undecided}
use Rattle.ln_payment_circuits.specs.Snapshot.{is_gone, Incoming, IsIn, IsFit}
use Rattle.ln_payment_circuits.proofs.Links.{decision_at, decision_by}
use Rattle.ln_payment_circuits.proofs.Lists.{of_picked, passes}
use Rattle.ln_payment_circuits.proofs.Held.{among_last}
use Rattle.ln_payment_circuits.proofs.Shifts.{side_of as read_side, IsTidy}
use Rattle.ln_payment_circuits.proofs.Tidy.{none_decided, none_in_base}
use Rattle.ln_payment_circuits.proofs.Entries.{is_same, is_key}
use Rattle.ln_payment_circuits.proofs.Scenes.{HavePayments, by_moves}
use Rattle.ln_payment_circuits.proofs.Resumed.{HoldAlike}
use Rattle.ln_payment_circuits.proofs.Halts.{enters_undecided}
use Rattle.ln_payment_circuits.proofs.Past.{IsPast, OldOffers, past_on, offers_same, offers_joined, offers_as}
use Rattle.ln_world.proofs.Scene.{link_in, links_of, scene_of}
use Rattle.ln_world.proofs.Lost.{link_is, side_is}
use Rattle.ln_world.proofs.Books.{one_more}
use Rattle.ln_world.proofs.PendingCommands.{IsCalm, calm_as}
use Rattle.ln_world.proofs.Same.{one_id}
use Rattle.ln_world.proofs.Ends.{IsLink}
use Rattle.ln_world.proofs.Wells.{book_in}
use Rattle.ln_world.proofs.Orderly.{IsOrderly, IsNext, IsDated, view_at, end_at, told_by, told_in}
use Rattle.ln_world.proofs.Keeping.{Holds}
use Rattle.ln_world.proofs.Sending.{idle_holds}
use Rattle.ln_world.proofs.Given.{first_is}
use Rattle.ln_world.proofs.Acting.{done_by}
use Rattle.ln_world.proofs.Taking.{queued_there, queued_dispatched, same_entry}
use Rattle.ln_world.proofs.Giving.{gives}
use Rattle.ln_world.proofs.Dispatched.{Ran, IsWaiting, waiting_so, waiting_there}
use Rattle.ln_payment_circuits.proofs.Marking.{mark_does}
use Rattle.ln_world.proofs.Stopping.{May, may_be_given}

-- ---- lists

pub some_found : {A : Type 0} (p : A → Bool) (xs : List A) (x : A) → p x ≡ true
    → (y : A) × (find p (xs ++ x ∷ []) ≡ Some y)
some_found p [] x e = (x, ap (λ b. cond b (Some x) None) e)
some_found p (y ∷ xs) x e = cases (p y) (some_found p xs x e)
  where
    cases : (b : Bool) → (z : _) × (find p (xs ++ x ∷ []) ≡ Some z)
        → (z : _) × (cond b (Some y) (find p (xs ++ x ∷ [])) ≡ Some z)
    cases true r = (y, refl)
    cases false r = r

any_there : {A : Type 0} (p : A → Bool) (xs : List A) → list_any p xs ≡ true → (x : A) × IsIn x xs × (p x ≡ true)
any_there p [] e = absurd (cc)
any_there {A} p (y ∷ xs) e = cases (p y) refl e (any_there p xs)
  where
    cases : (b : Bool) → p y ≡ b → (b || list_any p xs) ≡ true
        → (list_any p xs ≡ true → (x : A) × IsIn x xs × (p x ≡ true)) → (x : A) × IsIn x (y ∷ xs) × (p x ≡ true)
    cases true at f rest = (y, inl refl, at)
    cases false at f rest = let r = rest f in (r.0, inr r.1, r.2)

-- ---- the step

module _ {K : Type 0} (k : Ghosts K) (e : End) (v : Verdict) (w : World K) (h : Holds k e.node w) (r : Ran k w)
    (q : ℕ × ChannelEvent × Verdict) (waits : waiting e w.dispatchers ≡ Some q) (s : State K)
    (there : link_in e.node e.channel w.dispatchers.channels.channels ≡ Some s) where
  abbrev n : Node
  n = e.node

  abbrev cs : List (WorldChannel K)
  cs = w.dispatchers.channels.channels

  abbrev own : Book
  own = book_in n w

  abbrev t : Table
  t = table_of own

  abbrev it : IsLink (channel_id_of e.channel) s
  it = link_is k.signer n cs h.well.open_ e.channel s there

  abbrev X : ChannelEnd
  X = (link_is k.signer n cs h.well.open_ e.channel s there).end

  abbrev tidy : IsTidy X
  tidy = (link_is k.signer n cs h.well.open_ e.channel s there).is.keeps.tidy

  abbrev fit : IsFit X
  fit = (link_is k.signer n cs h.well.open_ e.channel s there).is.fit

  side_was : (links_of n cs).sides e.channel ≡ Some (read_side X)
  side_was = side_is k.signer n cs h.well.open_ e.channel s there

  pub is_waiting : IsWaiting X w.dispatchers.dispatchers e q
  is_waiting = waiting_so k w r e s there X
      (ap (λ (z : State K). saved_end z.stage) (link_is k.signer n cs h.well.open_ e.channel s there).link) q waits

  -- what is entered
  abbrev d : Decided
  d = decision services t (id_of e) q.0 (offer_of q.1) q.2

  abbrev b0 : Book
  b0 = with_decision e q own

  entered : table_of b0 ≡ with_decided d t
  entered = one_more (entry.Decided d) own

  pub calm0 : IsCalm b0
  calm0 = calm_as t (table_of b0) (ap (λ (z : Table). z.pending_commands) entered) h.well.calm

  pub queue0 : (table_of b0).queue ≡ left_out (is_queued (id_of e) q.0) t.queue ++ queued_of d ∷ []
  queue0 = ap (λ (z : Table). z.queue) entered

  htlcs0 : (table_of b0).htlcs ≡ with_offer d (offer_of q.1) t.htlcs
  htlcs0 = ap (λ (z : Table). z.htlcs) entered

  abbrev one_of : Offer → Incoming
  one_of o = record { channel = e.channel; id = o.id }

  -- one that was there before, of which the event that is decided didn't tell
  abbrev IsOld : Htlc → Type 0
  IsOld y = IsIn y t.htlcs × ((o : Offer) → offer_of q.1 ≡ Some o → y.decided ≡ false
      → is_htlc (htlc_of d o).key y ≡ false)

  -- or the one of which it told
  abbrev IsTold : Htlc → Type 0
  IsTold y = (o : Offer) × (offer_of q.1 ≡ Some o) × (htlc_of d o ≡ y)

  old_or_told : (y : Htlc) → IsIn y (table_of b0).htlcs → IsOld y ⊎ IsTold y
  old_or_told y y_in = cases (offer_of q.1) refl (subst (IsIn y) htlcs0 y_in)
    where
      -- it stays where its channel has decided it
      stays : (o : Offer) → list_any (is_decided (htlc_of d o).key) t.htlcs ≡ true → IsIn y t.htlcs
          → y.decided ≡ false → is_htlc (htlc_of d o).key y ≡ false
      stays o any y_old undecided =
          let z = any_there (is_decided (htlc_of d o).key) t.htlcs any in
          let both = and_parts (is_htlc (htlc_of d o).key z.0) z.0.decided z.2 in
          by_key z.0 z.1 both.0 both.1 (is_htlc (htlc_of d o).key y) refl
        where
          by_key : (z : Htlc) → IsIn z t.htlcs → is_htlc (htlc_of d o).key z ≡ true → z.decided ≡ true → (b : Bool)
              → is_htlc (htlc_of d o).key y ≡ b → is_htlc (htlc_of d o).key y ≡ false
          by_key z z_in z_hit dec false isnt = isnt
          by_key z z_in z_hit dec true hit =
              let p = h.well.paid (one_of o) in
              let same_one : z ≡ y = same_entry (one_of o) t.htlcs p.0.note p.1.note z y z_in y_old z_hit hit in
              absurd (let no : true ≡ false = sym dec ∙ ap (λ (x : Htlc). x.decided) same_one ∙ undecided in cc)

      by : (o : Offer) → offer_of q.1 ≡ Some o → (b : Bool) → list_any (is_decided (htlc_of d o).key) t.htlcs ≡ b
          → IsIn y (cond b t.htlcs (left_out (is_htlc (htlc_of d o).key) t.htlcs ++ htlc_of d o ∷ []))
          → IsOld y ⊎ IsTold y
      by o is true any a = inl (
        a,
        λ p at undecided. let some : Some o ≡ Some p = sym is ∙ at in
            let same_offer : o ≡ p = cc in
            subst (λ x. is_htlc (htlc_of d x).key y ≡ false) same_offer (stays o any a undecided),
      )
      by o is false any a = elim (among_last y (htlc_of d o) (left_out (is_htlc (htlc_of d o).key) t.htlcs) a) [
        | inr told_one ↦ inr (o, is, told_one)
        | inl old ↦ inl (
          of_picked (λ z. not (is_htlc (htlc_of d o).key z)) y t.htlcs old,
          λ p at undecided. let some : Some o ≡ Some p = sym is ∙ at in
              let same_offer : o ≡ p = cc in
              subst (λ x. is_htlc (htlc_of d x).key y ≡ false) same_offer
              (isnt_so (is_htlc (htlc_of d o).key y)
              (passes (λ z. not (is_htlc (htlc_of d o).key z)) y t.htlcs old)),
        )
      ]
        where
          isnt_so : (b : Bool) → not b ≡ true → b ≡ false
          isnt_so true f = absurd (cc)
          isnt_so false f = refl

      cases : (o : Option Offer) → offer_of q.1 ≡ o → IsIn y (with_offer d o t.htlcs) → IsOld y ⊎ IsTold y
      cases None is a = inl (a, λ p at. absurd (let no : None ≡ Some p = sym is ∙ at in cc))
      cases (Some o) is a = by o is (list_any (is_decided (htlc_of d o).key) t.htlcs) refl a

  -- what was queued before, but no decision of this event; or this one
  queued_among : (z : Queued) → IsIn z (table_of b0).queue
      → (IsIn z t.queue × (is_queued (id_of e) q.0 z ≡ false)) ⊎ (queued_of d ≡ z)
  queued_among z z_in = elim (among_last z (queued_of d) (left_out (is_queued (id_of e) q.0) t.queue)
      (subst (IsIn z) queue0 z_in)) [
        | inl old ↦ inl (
          of_picked (λ y. not (is_queued (id_of e) q.0 y)) z t.queue old,
          isnt_so (is_queued (id_of e) q.0 z) (passes (λ y. not (is_queued (id_of e) q.0 y)) z t.queue old),
        )
        | inr is ↦ inr is
      ]
    where
      isnt_so : (b : Bool) → not b ≡ true → b ≡ false
      isnt_so true f = absurd (cc)
      isnt_so false f = refl

  -- the HTLC of which nothing was decided
  undecided_so : (o : Offer) → offer_of q.1 ≡ Some o
      → (find (λ z. z.id == o.id) X.ledger.decisions ≡ None) ×
      (is_gone o.id (take X.dance.log.first.own X.dance.log.own) ≡ false)
  undecided_so o is = (
    none_decided X.dance.log X.ledger fit tidy o.id (is_waiting.offers o is),
    ap (λ y. not (is_live y)) (none_in_base X.dance.log X.ledger fit tidy o.id (is_waiting.offers o is)),
  )

  still_undecided : (o : Offer) → offer_of q.1 ≡ Some o → decision_at o.id ((links_of n cs).sides e.channel) ≡ Undecided
  still_undecided o is =
      let u = undecided_so o is in
      ap (decision_at o.id) side_was
      ∙ ap (λ y. decision_by y (is_gone o.id (take X.dance.log.first.own X.dance.log.own))) u.0
      ∙ ap (decision_by None) u.1

  -- what is decided was dispatched
  told_there : told_by q.0 (dispatcher_at e w.dispatchers.dispatchers) ≡ offer_of q.1
  told_there = is_waiting.told

  count_was : decided_of (saved_of (link_in n e.channel cs)) ≡ X.ledger.decided
  count_was = ap (λ o. decided_of (saved_of o)) there
      ∙ ap (λ (z : State K). decided_of (saved_end z.stage)) it.link

  -- the one of which the event told waits
  told_next : (y : Htlc) → IsTold y
      → IsNext (told_in n w.dispatchers.dispatchers e.channel y.event)
      (decided_of (saved_of (link_in n e.channel cs))) y
  told_next y x = subst (λ z. IsNext (told_in n w.dispatchers.dispatchers e.channel z.event)
      (decided_of (saved_of (link_in n e.channel cs))) z) x.2 (record {
        new = (refl, refl, refl);
        event = is_waiting.number ∙ sym count_was;
        offered = x.0;
        told = told_there ∙ x.1;
        id = refl;
        does = λ none. mark_does services t q.0 x.0 q.2
            (sym (ap (λ z. mark_of services t q.0 z q.2) x.1) ∙ none);
      })

  -- no other one is undecided by its number
  old_event : (y : Htlc) → IsOld y → y.key.channel ≡ channel_id_of e.channel → y.event ≡ q.0 → y.decided ≡ false → ⊥
  old_event y old at number undecided = cases (h.order.dated e.channel y old.0 at)
    where
      cases : IsDated (told_in n w.dispatchers.dispatchers e.channel) (decided_of (saved_of (link_in n e.channel cs))) y
          → ⊥
      cases (inl none) = absurd (let no : true ≡ false = sym none.1 ∙ undecided in cc)
      cases (inr (inl lt)) =
          let turn = is_waiting.number in let count = count_was in absurd (omega (arith, number, lt, count, turn))
      cases (inr (inr next)) =
          let offered : offer_of q.1 ≡ Some next.offered = sym told_there
          ∙ ap (λ i. told_by i (dispatcher_at e w.dispatchers.dispatchers)) (sym number) ∙ next.told in
          let keys : (htlc_of d next.offered).key ≡ y.key =
          ap (λ i. record { channel = channel_id_of e.channel; id = i }) (sym next.id)
          ∙ ap (λ c. record { channel = c; id = y.key.id }) (sym at) in
          let no : true ≡ false = sym (ap (λ z. same_key z y.key) keys ∙ is_key y.key)
          ∙ old.1 next.offered offered undecided in
          absurd (cc)

  paid0 : HavePayments channel_id_of (record { links = links_of n cs; book = (table_of b0).htlcs })
  paid0 = subst (λ hs. HavePayments channel_id_of (record { links = links_of n cs; book = hs })) (sym htlcs0)
      (cases (offer_of q.1) refl)
    where
      cases : (o : Option Offer) → offer_of q.1 ≡ o
          → HavePayments channel_id_of (record { links = links_of n cs; book = with_offer d o t.htlcs })
      cases None is p = h.well.paid p
      cases (Some o) is p = by_moves channel_id_of p
          (record { links = links_of n cs; book = joined (htlc_of d o) t.htlcs }) (h.well.paid p).0
          ((h.well.paid p).1.kept, (h.well.paid p).1.holds) [] tt (h.well.paid p).1.of_links
          (enters_undecided channel_id_of one_id (scene_of n w) e.channel o.id (htlc_of d o) refl refl
          (still_undecided o is) h.well.paid p)

  agrees0 : HoldAlike channel_id_of (record { links = links_of n cs; book = (table_of b0).htlcs })
  agrees0 c Z is z z_in y y_in key dec i held = elim (old_or_told y y_in) [
    | inl old ↦ h.well.agrees c Z is z z_in y old.0 key dec i held
    | inr x ↦ absurd (let no : false ≡ true = ap (λ (g : Htlc). g.decided) x.2 ∙ dec in cc)
  ]

  past0 : IsPast channel_id_of (record { links = links_of n cs; book = (table_of b0).htlcs })
  past0 = past_on channel_id_of (scene_of n w) (record { links = links_of n cs; book = (table_of b0).htlcs })
      (λ c halted. (halted, refl))
      (λ p c i y halted. offers_as channel_id_of t.htlcs (with_offer d (offer_of q.1) t.htlcs) (table_of b0).htlcs
      htlcs0 (cases (offer_of q.1)) p c i y) h.well.past
    where
      cases : (o : Option Offer) → OldOffers channel_id_of t.htlcs (with_offer d o t.htlcs)
      cases None = offers_same channel_id_of t.htlcs t.htlcs refl
      cases (Some o) = offers_joined channel_id_of (htlc_of d o) t.htlcs refl

  order0 : IsOrderly (view_at n cs w.dispatchers.dispatchers b0)
  order0 = record {
    queued = λ c z z_in at free. elim (queued_among z z_in) [
      | inl old ↦
          let was = h.order.queued c z old.0 at free in (
            was.0,
            λ y y_in y_at event undecided. elim (old_or_told y y_in) [
              | inl y_old ↦ was.1 y y_old.0 y_at event undecided
              | inr x ↦ absurd (
                  let here : channel_id_of e.channel ≡ z.channel =
                  ap (λ (g : Htlc). g.key.channel) x.2 ∙ y_at ∙ sym at in
                  let number : q.0 ≡ z.event = ap (λ (g : Htlc). g.event) x.2 ∙ event in
                  let hit : is_queued (id_of e) q.0 z ≡ true =
                  ap (λ b. b && (same (id_of e) z.channel && not z.resumes)) (eq-eqb q.0 z.event number)
                  ∙ ap (λ b. b && not z.resumes) (is_same (id_of e) z.channel here) ∙ ap not free in
                  let no : true ≡ false = sym hit ∙ old.1 in cc)
            ],
          )
      | inr is ↦
          let here : c ≡ e.channel = one_id c e.channel (sym at ∙ sym (ap (λ (y : Queued). y.channel) is)) in
          let number : q.0 ≡ z.event = ap (λ (y : Queued). y.event) is in (
            ap (λ i. is_below_next z.event (dispatcher_at (end_at n i) w.dispatchers.dispatchers)) here
                ∙ ap (λ i. is_below_next i (dispatcher_at e w.dispatchers.dispatchers)) (sym number)
                ∙ is_waiting.below,
            λ y y_in y_at event undecided. elim (old_or_told y y_in) [
              | inl y_old ↦ absurd (old_event y y_old (y_at ∙ ap channel_id_of here) (event ∙ sym number) undecided)
              | inr x ↦ ap (λ (g : Htlc). g.mark) (sym x.2) ∙ ap (λ (g : Queued). g.mark) is
            ],
          )
    ];
    dated = λ c y y_in at. elim (old_or_told y y_in) [
      | inl old ↦ h.order.dated c y old.0 at
      | inr x ↦
          let here : c ≡ e.channel = one_id c e.channel (sym at ∙ sym (ap (λ (g : Htlc). g.key.channel) x.2)) in
          inr (inr (subst (λ i. IsNext (told_in n w.dispatchers.dispatchers i y.event)
          (decided_of (saved_of (link_in n i cs))) y) (sym here) (told_next y x)))
    ];
    keyed = λ y y_in. elim (old_or_told y y_in) [
      | inl old ↦ h.order.keyed y old.0
      | inr x ↦ (one_of x.0, sym (ap (λ (g : Htlc). g.key) x.2))
    ];
    named = h.order.named;
  }

  -- what is given first was dispatched
  pub decide_dispatched : (z : Queued) → find (is_queued_in (id_of e)) (table_of b0).queue ≡ Some z
      → (o : Out) (c : Command) → first_in e b0 ≡ Some (o, c)
      → is_dispatched e (channel_act.Send c) w.dispatchers ≡ true
  decide_dispatched z found o c first =
      let in_queue = queued_there e b0 calm0 z found o c first in
      queued_dispatched e b0 calm0 z found o c first w.dispatchers
      (λ free. (order0.queued e.channel z in_queue.0 in_queue.1 free).0)

  pub decision_gives : (o : Out) (c : Command) → first_in e b0 ≡ Some (o, c)
      → Holds k n (done_by k e v w (Some c) (Some (channel_act.Send c)) None (handed_out e (Some b0) w.nodes))
  decision_gives o c first = gives k e v w h r b0 calm0 paid0 agrees0 past0 order0 s there None o c first

-- ---- whichever it is

module _ {K : Type 0} (k : Ghosts K) (e : End) (v : Verdict) (w : World K) (h : Holds k e.node w) (r : Ran k w) where
  some_command : (q : ℕ × ChannelEvent × Verdict) → waiting e w.dispatchers ≡ Some q → (f : Option (Out × Command))
      → first_in e (with_decision e q (book_in e.node w)) ≡ f
      → Holds k e.node (done_by k e v w (option_map (λ x. x.1) f) (sent_or (option_map (λ x. x.1) f) None) None
      (handed_out e (Some (with_decision e q (book_in e.node w))) w.nodes))
  some_command q waits f is =
      let l = waiting_there k w r e q waits in
      let d = decision services (table_of (book_in e.node w)) (id_of e) q.0 (offer_of q.1) q.2 in
      let found =
      some_found (is_queued_in (id_of e)) (left_out (is_queued (id_of e) q.0) (table_of (book_in e.node w)).queue)
      (queued_of d) (is_same (id_of e) (id_of e) refl) in
      let first : find (is_queued_in (id_of e)) (table_of (with_decision e q (book_in e.node w))).queue ≡ Some found.0 =
      ap (find (is_queued_in (id_of e))) (queue0 k e v w h r q waits l.0 l.1) ∙ found.1 in
      cases f is l.0 l.1 found.0 first
    where
      cases : (f : Option (Out × Command)) → first_in e (with_decision e q (book_in e.node w)) ≡ f
          → (s : State K) (there : link_in e.node e.channel w.dispatchers.channels.channels ≡ Some s) (z : Queued)
          → find (is_queued_in (id_of e)) (table_of (with_decision e q (book_in e.node w))).queue ≡ Some z
          → Holds k e.node (done_by k e v w (option_map (λ x. x.1) f) (sent_or (option_map (λ x. x.1) f) None) None
          (handed_out e (Some (with_decision e q (book_in e.node w))) w.nodes))
      cases None is s there z found = absurd (let no : None ≡ Some (queued_command z) =
          sym is ∙ first_is e (with_decision e q (book_in e.node w)) (calm0 k e v w h r q waits s there)
          ∙ ap (λ y. first_of services (id_of e) y (table_of (with_decision e q (book_in e.node w))).htlcs) found in cc)
      cases (Some x) is s there z found = decision_gives k e v w h r q waits s there x.0 x.1 is

  pub decide_may : (o : Option (ℕ × ChannelEvent × Verdict)) → waiting e w.dispatchers ≡ o → (x : ChannelAct)
      → sent_or (command_by e (deciding e o (book_in e.node w))) None ≡ Some x → May k e v w h x
  decide_may None is x given = absurd (cc)
  decide_may (Some q) is x given = cases (first_in e (with_decision e q (book_in e.node w))) refl given
    where
      cases : (f : Option (Out × Command)) → first_in e (with_decision e q (book_in e.node w)) ≡ f
          → sent_or (option_map (λ y. y.1) f) None ≡ Some x → May k e v w h x
      cases None first g = absurd (cc)
      cases (Some y) first g =
          let l = waiting_there k w r e q is in
          let found =
          some_found (is_queued_in (id_of e)) (left_out (is_queued (id_of e) q.0)
          (table_of (book_in e.node w)).queue)
          (queued_of (decision services (table_of (book_in e.node w)) (id_of e) q.0 (offer_of q.1) q.2))
          (is_same (id_of e) (id_of e) refl) in
          let same : channel_act.Send y.1 ≡ x = cc in
          subst (May k e v w h) same (
            decide_dispatched k e v w h r q is l.0 l.1 found.0
                (ap (find (is_queued_in (id_of e))) (queue0 k e v w h r q is l.0 l.1) ∙ found.1) y.0 y.1 first,
            may_be_given k e v w h y.1 l.0 l.1,
          )

  -- and where it isn't begun
  pub undecided_may : (o : Option (ℕ × ChannelEvent × Verdict)) → waiting e w.dispatchers ≡ o → (x : ChannelAct)
      → option_map (λ y. channel_act.Send (command.Decide y.0 mark.None)) o ≡ Some x → May k e v w h x
  undecided_may None is x given = absurd (cc)
  undecided_may (Some q) is x given =
      let l = waiting_there k w r e q is in
      let same : channel_act.Send (command.Decide q.0 mark.None) ≡ x = cc in
      subst (May k e v w h) same (
        (is_waiting k e v w h r q is l.0 l.1).below,
        may_be_given k e v w h (command.Decide q.0 mark.None) l.0 l.1,
      )

  pub decide_holds : Holds k e.node (happens k v (step.Do e act.Decide) w)
  decide_holds = cases (waiting e w.dispatchers) refl
    where
      cases : (o : Option (ℕ × ChannelEvent × Verdict)) → waiting e w.dispatchers ≡ o
          → Holds k e.node (done_by k e v w (command_by e (deciding e o (book_in e.node w)))
          (sent_or (command_by e (deciding e o (book_in e.node w))) None) None
          (handed_out e (deciding e o (book_in e.node w)) w.nodes))
      cases None is = idle_holds k e v w h (done_by k e v w None None None w.nodes) refl refl
      cases (Some q) is = some_command q is (first_in e (with_decision e q (book_in e.node w))) refl
