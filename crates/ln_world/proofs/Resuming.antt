-- A node's book is asked what is done about an HTLC that an end holds, and the end resumes it so.
use Rattle.std.proofs.Common.{◌≡◌, inl, inr, ℕ, List, [], ◌∷◌, ◌++◌, refl, sym, ap, ◌∙◌}
use Rattle.std.proofs.Common.{subst, Bool, true, false, Option, Some, None}
use Rattle.std.specs.Prelude.{option_map, is_some}
use Rattle.std.specs.List.{find}
use Rattle.ln_keys.specs.declared.keys.ChannelKeys.{Ghosts}
use Rattle.ln_hooks.specs.declared.verdict.Verdict.{Verdict}
use Rattle.ln_log.specs.declared.mark.Mark.{Mark as LogMark}
use Rattle.ln_channel.specs.declared.command.Command.{Command}
use Rattle.ln_channel.specs.End.{End as ChannelEnd}
use Rattle.ln_channel.specs.State.{State}
use Rattle.ln_book_tables.specs.declared.entry.Resumed.{Resumed}
use Rattle.ln_book_tables.specs.declared.entry.Out.{Out}
use Rattle.ln_book_tables.specs.declared.entry.Queued.{Queued}
use Rattle.ln_book_tables.specs.declared.entry.Entry.TheVariants as entry
use Rattle.ln_book_tables.specs.Replay.{Table, table_of}
use Rattle.ln_book_tables.specs.Replay.{resumed_of, with_resumed as table_resumed}
use Rattle.ln_book.specs.Commands.{first_of, is_queued_in, queued_command}
use Rattle.ln_book.specs.Marks.{resumption}
use Rattle.ln_world_channels.specs.declared.step.Act.{Act as ChannelAct}
use Rattle.ln_world_channels.specs.declared.step.Act.TheVariants as channel_act
use Rattle.ln_world_channels.specs.declared.step.Node.{Node}
use Rattle.ln_world_channels.specs.declared.step.End.{End}
use Rattle.ln_world_channels.specs.Settings.{channel_id_of}
use Rattle.ln_world_channels.specs.WorldChannel.{WorldChannel}
use Rattle.ln_world_dispatch.specs.World.{is_dispatched}
use Rattle.ln_world.specs.declared.step.Act.TheVariants as act
use Rattle.ln_world.specs.declared.step.Step.TheVariants as step
use Rattle.ln_world.specs.Node.{Book, services}
use Rattle.ln_world.specs.World.{World, happens, id_of, first_in, end_at, saved_of, with_resumed, resuming, if_there}
use Rattle.ln_world.specs.World.{command_by, sent_or}
use Rattle.ln_world.specs.World.{handed_out, resumed_at, command_of}
use Rattle.ln_payment_circuits.specs.Snapshot.{IsIn}
use Rattle.ln_payment_circuits.proofs.Held.{among_last}
use Rattle.ln_payment_circuits.proofs.Shifts.{side_of as read_side}
use Rattle.ln_payment_circuits.proofs.Entries.{is_same}
use Rattle.ln_payment_circuits.proofs.Scenes.{HavePayments}
use Rattle.ln_payment_circuits.proofs.Past.{IsPast}
use Rattle.ln_payment_circuits.proofs.Resumed.{HoldAlike}
use Rattle.ln_world.proofs.Scene.{link_in, links_of}
use Rattle.ln_world.proofs.Lost.{link_is, side_is}
use Rattle.ln_world.proofs.Books.{one_more}
use Rattle.ln_world.proofs.PendingCommands.{IsCalm, calm_as}
use Rattle.ln_world.proofs.Wells.{book_in}
use Rattle.ln_world.proofs.Orderly.{IsOrderly, view_at}
use Rattle.ln_world.proofs.Keeping.{Holds}
use Rattle.ln_world.proofs.Sending.{idle_holds}
use Rattle.ln_world.proofs.Given.{first_is}
use Rattle.ln_world.proofs.Acting.{done_by}
use Rattle.ln_world.proofs.Taking.{queued_there, queued_dispatched}
use Rattle.ln_world.proofs.Deciding.{some_found}
use Rattle.ln_world.proofs.Dispatched.{Ran}
use Rattle.ln_world.proofs.Giving.{gives}
use Rattle.ln_world.proofs.Stopping.{May, may_be_given, saved_there}

module _ {K : Type 0} (k : Ghosts K) (e : End) (v : Verdict) (w : World K) (h : Holds k e.node w) (i : ℕ) (m : LogMark)
    (s : State K) (there : link_in e.node e.channel w.dispatchers.channels.channels ≡ Some s) where
  abbrev n : Node
  n = e.node

  abbrev cs : List (WorldChannel K)
  cs = w.dispatchers.channels.channels

  abbrev own : Book
  own = book_in n w

  abbrev t : Table
  t = table_of own

  abbrev X : ChannelEnd
  X = (link_is k.signer n cs h.well.open_ e.channel s there).end

  side_was : (links_of n cs).sides e.channel ≡ Some (read_side X)
  side_was = side_is k.signer n cs h.well.open_ e.channel s there

  abbrev z : Resumed
  z = record { channel = id_of e; event = i; mark = m }

  abbrev b0 : Book
  b0 = with_resumed e i own m

  entered : table_of b0 ≡ table_resumed z t
  entered = one_more (entry.Resumed z) own

  pub calm0 : IsCalm b0
  calm0 = calm_as t (table_of b0) (ap (λ (y : Table). y.pending_commands) entered) h.well.calm

  pub queue0 : (table_of b0).queue ≡ t.queue ++ resumed_of z ∷ []
  queue0 = ap (λ (y : Table). y.queue) entered

  htlcs0 : (table_of b0).htlcs ≡ t.htlcs
  htlcs0 = ap (λ (y : Table). y.htlcs) entered

  paid0 : HavePayments channel_id_of (record { links = links_of n cs; book = (table_of b0).htlcs })
  paid0 = subst (λ hs. HavePayments channel_id_of (record { links = links_of n cs; book = hs }))
      (sym htlcs0) h.well.paid

  agrees0 : HoldAlike channel_id_of (record { links = links_of n cs; book = (table_of b0).htlcs })
  agrees0 = subst (λ hs. HoldAlike channel_id_of (record { links = links_of n cs; book = hs }))
      (sym htlcs0) h.well.agrees

  past0 : IsPast channel_id_of (record { links = links_of n cs; book = (table_of b0).htlcs })
  past0 = subst (λ hs. IsPast channel_id_of (record { links = links_of n cs; book = hs })) (sym htlcs0) h.well.past

  order0 : IsOrderly (view_at n cs w.dispatchers.dispatchers b0)
  order0 = record {
    queued = λ c y a at free. elim (among_last y (resumed_of z) t.queue (subst (IsIn y) queue0 a)) [
      | inl old ↦ let was = h.order.queued c y old at free in
          (was.0, λ x x_in. was.1 x (subst (IsIn x) htlcs0 x_in))
      | inr is ↦ absurd (let no : true ≡ false = ap (λ (g : Queued). g.resumes) is ∙ free in cc)
    ];
    dated = λ c y a at. h.order.dated c y (subst (IsIn y) htlcs0 a) at;
    keyed = λ y a. h.order.keyed y (subst (IsIn y) htlcs0 a);
    named = h.order.named;
  }

  -- what is given first was dispatched
  pub resume_dispatched : (y : Queued) → find (is_queued_in (id_of e)) (table_of b0).queue ≡ Some y
      → (o : Out) (c : Command) → first_in e b0 ≡ Some (o, c)
      → is_dispatched e (channel_act.Send c) w.dispatchers ≡ true
  resume_dispatched y found o c first =
      let in_queue = queued_there e b0 calm0 y found o c first in
      queued_dispatched e b0 calm0 y found o c first w.dispatchers
      (λ free. (order0.queued e.channel y in_queue.0 in_queue.1 free).0)

  pub resumption_gives : Ran k w → (j : Option ℕ) (o : Out) (c : Command) → first_in e b0 ≡ Some (o, c)
      → Holds k n (done_by k e v w (Some c) (Some (channel_act.Send c)) j (handed_out e (Some b0) w.nodes))
  resumption_gives r j o c first = gives k e v w h r b0 calm0 paid0 agrees0 past0 order0 s there j o c first

-- ---- whichever it is

module _ {K : Type 0} (k : Ghosts K) (e : End) (v : Verdict) (w : World K) (h : Holds k e.node w) (r : Ran k w) (i : ℕ)
    (x : Verdict)
  where
    some_command : (m : LogMark) (j : Option ℕ) (f : Option (Out × Command)) → is_some (end_at e w.dispatchers) ≡ true
        → first_in e (with_resumed e i (book_in e.node w) m) ≡ f
        → Holds k e.node (done_by k e v w (option_map (λ x. x.1) f) (sent_or (option_map (λ x. x.1) f) None) j
        (handed_out e (Some (with_resumed e i (book_in e.node w) m)) w.nodes))
    some_command m j f some is = by_link (link_in e.node e.channel w.dispatchers.channels.channels) refl some
      where
        b0 : Book
        b0 = with_resumed e i (book_in e.node w) m

        cases : (f : Option (Out × Command)) → first_in e (with_resumed e i (book_in e.node w) m) ≡ f
            → (s : State K) (there : link_in e.node e.channel w.dispatchers.channels.channels ≡ Some s) (z : Queued)
            → find (is_queued_in (id_of e)) (table_of (with_resumed e i (book_in e.node w) m)).queue ≡ Some z
            → Holds k e.node (done_by k e v w (option_map (λ x. x.1) f) (sent_or (option_map (λ x. x.1) f) None) j
            (handed_out e (Some (with_resumed e i (book_in e.node w) m)) w.nodes))
        cases None is s there z found = absurd (let no : None ≡ Some (queued_command z) =
            sym is ∙ first_is e (with_resumed e i (book_in e.node w) m) (calm0 k e v w h i m s there)
            ∙ ap (λ y. first_of services (id_of e) y (table_of (with_resumed e i (book_in e.node w) m)).htlcs) found in
            cc)
        cases (Some y) is s there z found = resumption_gives k e v w h i m s there r j y.0 y.1 is

        by_link : (o : Option (State K)) → link_in e.node e.channel w.dispatchers.channels.channels ≡ o
            → is_some (saved_of o) ≡ true
            → Holds k e.node (done_by k e v w (option_map (λ x. x.1) f) (sent_or (option_map (λ x. x.1) f) None) j
            (handed_out e (Some (with_resumed e i (book_in e.node w) m)) w.nodes))
        by_link None at g = absurd (cc)
        by_link (Some s) at g =
            let found = some_found (is_queued_in (id_of e)) (table_of (book_in e.node w)).queue
            (resumed_of (record { channel = id_of e; event = i; mark = m })) (is_same (id_of e) (id_of e) refl) in
            cases f is s at found.0 (ap (find (is_queued_in (id_of e))) (queue0 k e v w h i m s at) ∙ found.1)

    -- nothing is resumed
    none_asked : (j : Option ℕ) → Holds k e.node (done_by k e v w None None j w.nodes)
    none_asked None = idle_holds k e v w h (done_by k e v w None None None w.nodes) refl refl
    none_asked (Some y) = idle_holds k e v w h (done_by k e v w None None (Some y) w.nodes) refl refl

    marked_may : (o : Option LogMark) (g : ChannelAct) → is_some (end_at e w.dispatchers) ≡ true
        → sent_or (command_by e (option_map (with_resumed e i (book_in e.node w)) o)) None ≡ Some g → May k e v w h g
    marked_may None g some given = absurd (cc)
    marked_may (Some m) g some given = cases (first_in e (with_resumed e i (book_in e.node w) m)) refl given
      where
        cases : (f : Option (Out × Command)) → first_in e (with_resumed e i (book_in e.node w) m) ≡ f
            → sent_or (option_map (λ y. y.1) f) None ≡ Some g → May k e v w h g
        cases None first a = absurd (cc)
        cases (Some y) first a =
            let l = saved_there k e v w h some in
            let found = some_found (is_queued_in (id_of e)) (table_of (book_in e.node w)).queue
            (resumed_of (record { channel = id_of e; event = i; mark = m })) (is_same (id_of e) (id_of e) refl) in
            let same : channel_act.Send y.1 ≡ g = cc in
            subst (May k e v w h) same (
              resume_dispatched k e v w h i m l.0 l.1 found.0
                  (ap (find (is_queued_in (id_of e))) (queue0 k e v w h i m l.0 l.1) ∙ found.1) y.0 y.1 first,
              may_be_given k e v w h y.1 l.0 l.1,
            )

    pub resuming_may : (g : ChannelAct) → sent_or (command_of e (act.Resume i x) w) None ≡ Some g → May k e v w h g
    resuming_may g given = cases (is_some (end_at e w.dispatchers)) refl given
      where
        cases : (b : Bool) → is_some (end_at e w.dispatchers) ≡ b
            → sent_or (command_by e (if_there b (resuming e i x (book_in e.node w)))) None ≡ Some g → May k e v w h g
        cases false is a = absurd (cc)
        cases true is a = marked_may (resumption services (table_of (book_in e.node w)) (id_of e) i x) g is a

    pub resume_holds : Holds k e.node (happens k v (step.Do e (act.Resume i x)) w)
    resume_holds = by_end (is_some (end_at e w.dispatchers)) refl
      where
        j : Option ℕ
        j = resumed_at e (act.Resume i x) w.dispatchers

        by_mark : is_some (end_at e w.dispatchers) ≡ true → (o : Option LogMark)
            → Holds k e.node (done_by k e v w (command_by e (option_map (with_resumed e i (book_in e.node w)) o))
            (sent_or (command_by e (option_map (with_resumed e i (book_in e.node w)) o)) None) j
            (handed_out e (option_map (with_resumed e i (book_in e.node w)) o) w.nodes))
        by_mark some None = none_asked j
        by_mark some (Some m) = some_command m j (first_in e (with_resumed e i (book_in e.node w) m)) some refl

        by_end : (b : Bool) → is_some (end_at e w.dispatchers) ≡ b
            → Holds k e.node (done_by k e v w (command_by e (if_there b (resuming e i x (book_in e.node w))))
            (sent_or (command_by e (if_there b (resuming e i x (book_in e.node w)))) None) j
            (handed_out e (if_there b (resuming e i x (book_in e.node w))) w.nodes))
        by_end false is = none_asked j
        by_end true is = by_mark is (resumption services (table_of (book_in e.node w)) (id_of e) i x)
