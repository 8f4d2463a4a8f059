-- An end of the node is given the first command that the node's book has for it.
use Rattle.std.proofs.Common.{◌≡◌, inl, inr, ℕ, List, refl, sym, ap, ◌∙◌, subst, Bool, true, false, cond}
use Rattle.std.proofs.Common.{Option, Some, None}
use Rattle.std.specs.Prelude.{option_map, is_some}
use Rattle.std.specs.List.{find}
use Rattle.ln_keys.specs.declared.keys.ChannelKeys.{Ghosts}
use Rattle.ln_hooks.specs.declared.verdict.Verdict.{Verdict}
use Rattle.ln_channel.specs.declared.command.Command.{Command}
use Rattle.ln_channel.specs.declared.command.Command.TheVariants as command
use Rattle.ln_channel.specs.State.{State}
use Rattle.ln_book_tables.specs.declared.entry.Out.{Out}
use Rattle.ln_book_tables.specs.declared.entry.Out.TheVariants as out
use Rattle.ln_book_tables.specs.declared.entry.Queued.{Queued}
use Rattle.ln_book_tables.specs.Replay.{table_of}
use Rattle.ln_book.specs.Commands.{first_of, is_queued_in, queued_command, with_taken}
use Rattle.ln_world_channels.specs.declared.step.Act.TheVariants as channel_act
use Rattle.ln_world_channels.specs.declared.step.End.{End}
use Rattle.ln_world_channels.specs.Settings.{channel_id_of}
use Rattle.ln_world_channels.specs.WorldChannel.{WorldChannel}
use Rattle.ln_world_dispatch.specs.World.{World as Dispatchers}
use Rattle.ln_world.specs.Node.{Book, services, with_book}
use Rattle.ln_world.specs.declared.node.NodeBook.{NodeBook}
use Rattle.ln_world.specs.declared.step.Act.TheVariants as act
use Rattle.ln_world.specs.declared.step.Step.TheVariants as step
use Rattle.ln_world.specs.World.{World, id_of, first_in, happens, end_at, saved_of, handed, handed_out, taking}
use Rattle.ln_world.specs.World.{command_by, sent_or}
use Rattle.ln_payment_circuits.specs.Snapshot.{IsIn}
use Rattle.ln_payment_circuits.proofs.Due.{first_is as due_first, due_by}
use Rattle.ln_payment_circuits.proofs.Scenes.{HavePayments}
use Rattle.ln_payment_circuits.proofs.Resumed.{HoldAlike}
use Rattle.ln_payment_circuits.proofs.Past.{IsPast}
use Rattle.ln_world.proofs.Scene.{link_in, links_of, either}
use Rattle.ln_world.proofs.PendingCommands.{IsCalm}
use Rattle.ln_world.proofs.Wells.{book_in, same_well}
use Rattle.ln_world.proofs.Orderly.{IsOrderly, DispatchersLater, view_at, orderly_alike, stays_later, dispatchers_stay}
use Rattle.ln_world.proofs.Keeping.{Holds}
use Rattle.ln_world.proofs.Refusing.{free_is}
use Rattle.ln_world.proofs.Removing.{due_books}
use Rattle.ln_world.proofs.Given.{first_is}
use Rattle.ln_world.proofs.Acting.{done_by}
use Rattle.ln_world.proofs.Sending.{idle_holds}
use Rattle.ln_world.proofs.Books.{own_book, alike, IsAlike}
use Rattle.ln_world.proofs.Dispatched.{Ran}
use Rattle.ln_world.proofs.Taking.{due_takes, halted_queued, queued_there}
use Rattle.ln_world.proofs.Queued.{first_resumed, awake_decides, awake_resumes}

-- ---- by a book of the node's, in which something may have been entered in this step

module _ {K : Type 0} (k : Ghosts K) (e : End) (v : Verdict) (w : World K) (h : Holds k e.node w) (ran : Ran k w)
    (b : Book) (calm : IsCalm b)
    (paid0 : HavePayments channel_id_of (record {
      links = links_of e.node w.dispatchers.channels.channels;
      book = (table_of b).htlcs;
    }))
    (agrees0 : HoldAlike channel_id_of (record {
      links = links_of e.node w.dispatchers.channels.channels;
      book = (table_of b).htlcs;
    }))
    (past0 : IsPast channel_id_of (record {
      links = links_of e.node w.dispatchers.channels.channels;
      book = (table_of b).htlcs;
    }))
    (order0 : IsOrderly (view_at e.node w.dispatchers.channels.channels w.dispatchers.dispatchers b))
    (s : State K) (there : link_in e.node e.channel w.dispatchers.channels.channels ≡ Some s) (j : Option ℕ) where
  abbrev Gives : Command → Type 0
  Gives c =
      Holds k e.node (done_by k e v w (Some c) (Some (channel_act.Send c)) j (handed_out e (Some b) w.nodes))

  -- what is queued
  queued_gives : (q : Queued) → find (is_queued_in (id_of e)) (table_of b).queue ≡ Some q → (o : Out) (c : Command)
      → first_in e b ≡ Some (o, c) → Gives c
  queued_gives q found o c first = elim (either s.halted) [
    | inl halted ↦ halted_queued k e v w h b calm paid0 agrees0 past0 order0 s there halted q found o c first j
    | inr awake ↦ by_kind awake q.resumes refl
  ]
    where
      given : ◌≡◌ {A = Out × Command} (o, c) (queued_command q)
      given =
          let some : ◌≡◌ {A = Option (Out × Command)} (Some (o, c)) (Some (queued_command q)) =
          sym first ∙ first_is e b calm ∙ ap (λ z. first_of services (id_of e) z (table_of b).htlcs) found in
          let pair : ◌≡◌ {A = Out × Command} (o, c) (queued_command q) = cc in
          pair

      in_queue : IsIn q (table_of b).queue × (q.channel ≡ channel_id_of e.channel)
      in_queue = queued_there e b calm q found o c first

      by_kind : s.halted ≡ false → (r : Bool) → q.resumes ≡ r → Gives c
      by_kind awake false is =
          let pair : ◌≡◌ {A = Out × Command} (o, c) (out.Deciding q.event, command.Decide q.event q.mark) =
          given ∙ ap (λ z. cond {A = Out × Command} z (out.Resuming q.event, command.Resume q.event q.mark)
          (out.Deciding q.event, command.Decide q.event q.mark)) is in
          let one = order0.queued e.channel q in_queue.0 in_queue.1 is in
          subst (λ (p : Out × Command). Gives p.1) (sym pair)
          (awake_decides k e v w h b calm paid0 agrees0 past0 order0 s there awake q.event q.mark j ran
          (first ∙ ap (λ z. Some z) pair) one.0 one.1)
      by_kind awake true is =
          let pair : ◌≡◌ {A = Out × Command} (o, c) (out.Resuming q.event, command.Resume q.event q.mark) =
          given ∙ ap (λ z. cond {A = Out × Command} z (out.Resuming q.event, command.Resume q.event q.mark)
          (out.Deciding q.event, command.Decide q.event q.mark)) is in
          subst (λ (p : Out × Command). Gives p.1) (sym pair)
          (awake_resumes k e v w h b calm paid0 agrees0 past0 order0 s there awake q.event q.mark j
          (first ∙ ap (λ z. Some z) pair) (q, first_resumed (id_of e) (table_of b).queue q found is, refl))

  -- or what is due about an HTLC
  pub gives : (o : Out) (c : Command) → first_in e b ≡ Some (o, c) → Gives c
  gives o c first = by_queue (find (is_queued_in (id_of e)) (table_of b).queue) refl
    where
      by_queue : (q : Option Queued) → find (is_queued_in (id_of e)) (table_of b).queue ≡ q → Gives c
      by_queue (Some q) found = queued_gives q found o c first
      by_queue None found =
          let due = due_first services (id_of e) (table_of b).htlcs o c
          (sym (first_is e b calm
          ∙ ap (λ z. first_of services (id_of e) z (table_of b).htlcs) found) ∙ first) in
          let books = due_books services (id_of e) due.htlc o c (due_by (id_of e) due.htlc o due.due_is) due.command in
          due_takes k e v w h b calm paid0 agrees0 past0 order0 o c books.0 first
          (free_is e c w.dispatchers books.1) s there j due

-- ---- the step

module _ {K : Type 0} (k : Ghosts K) (e : End) (v : Verdict) (w : World K) (h : Holds k e.node w) where
  abbrev own : Book
  own = book_in e.node w

  -- the book says the same
  pub quiet_holds : (u : World K) → u.dispatchers ≡ w.dispatchers → IsAlike own (book_in e.node u) → Holds k e.node u
  quiet_holds u dispatchers alike_book =
      let channels : u.dispatchers.channels.channels ≡ w.dispatchers.channels.channels =
      ap (λ (d : Dispatchers K). d.channels.channels) dispatchers in
      record {
        well = same_well k e.node w u channels alike_book h.well;
        order = orderly_alike e.node w u (λ c. stays_later (link_in e.node c w.dispatchers.channels.channels)
            (link_in e.node c u.dispatchers.channels.channels) (ap (link_in e.node c) channels)) alike_book
            (subst (DispatchersLater e.node w.dispatchers.dispatchers)
            (sym (ap (λ (d : Dispatchers K). d.dispatchers) dispatchers))
            (dispatchers_stay e.node w.dispatchers.dispatchers)) h.order;
      }

  pub take_holds : Ran k w → Holds k e.node (happens k v (step.Do e act.Take) w)
  take_holds ran = by_end (is_some (end_at e w.dispatchers)) refl
    where
      cs : List (WorldChannel K)
      cs = w.dispatchers.channels.channels

      found_link : (o : Option (State K)) → link_in e.node e.channel cs ≡ o → is_some (saved_of o) ≡ true
          → (s : State K) × (link_in e.node e.channel cs ≡ Some s)
      found_link None is f = absurd (cc)
      found_link (Some s) is f = (s, is)

      by_first : is_some (end_at e w.dispatchers) ≡ true → (f : Option (Out × Command)) → first_in e own ≡ f
          → Holds k e.node (done_by k e v w (option_map (λ x. x.1) f) (sent_or (option_map (λ x. x.1) f) None) None
          (handed_out e (Some own) w.nodes))
      by_first some None is = quiet_holds (done_by k e v w None None None (handed_out e (Some own) w.nodes)) refl
          (subst (λ b. IsAlike own b) (sym (ap (λ (z : NodeBook). z.book)
          (own_book (with_book (handed e own)) (λ z. refl) e.node w.nodes)
          ∙ ap (λ f. with_taken (id_of e) f own) is)) (alike own))
      by_first some (Some x) is =
          let l = found_link (link_in e.node e.channel cs) refl some in
          gives k e v w h ran own h.well.calm h.well.paid h.well.agrees h.well.past h.order l.0 l.1 None x.0 x.1 is

      by_end : (t : Bool) → is_some (end_at e w.dispatchers) ≡ t
          → Holds k e.node (done_by k e v w (command_by e (taking t own)) (sent_or (command_by e (taking t own)) None)
          None
          (handed_out e (taking t own) w.nodes))
      by_end false is = idle_holds k e v w h (done_by k e v w None None None w.nodes) refl refl
      by_end true is = by_first is (first_in e own) refl
