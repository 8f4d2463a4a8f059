-- The node restarts, or stops round an act of one of its ends.
use Rattle.std.proofs.Common.{◌≡◌, ℕ, List, map, refl, sym, ap, ◌∙◌, subst}
use Rattle.std.proofs.Common.{Bool, true, false, cond, not, ◌==◌, ◌&&◌, Option, Some, None}
use Rattle.std.specs.Prelude.{option_map, is_some}
use Rattle.std.specs.List.{find}
use Rattle.std.proofs.lemmas.Bool.{and_parts}
use Rattle.ln_keys.specs.declared.keys.ChannelKeys.{Ghosts}
use Rattle.ln_keys.specs.declared.role.Role.{Role}
use Rattle.ln_keys.specs.declared.role.Role.TheVariants.{Funder, Fundee}
use Rattle.ln_hooks.specs.declared.verdict.Verdict.{Verdict}
use Rattle.ln_channel.specs.declared.command.Command.{Command}
use Rattle.ln_channel.specs.declared.command.Command.TheVariants as command
use Rattle.ln_channel.specs.End.{End as ChannelEnd}
use Rattle.ln_channel.specs.State.{State}
use Rattle.ln_channel.specs.Step.{is_of_records}
use Rattle.ln_log.specs.declared.mark.Mark.TheVariants as mark
use Rattle.ln_world_channels.specs.declared.step.Act.{Act as ChannelAct}
use Rattle.ln_world_channels.specs.declared.step.Act.TheVariants as channel_act
use Rattle.ln_world_channels.specs.declared.step.Node.{Node}
use Rattle.ln_world_channels.specs.declared.step.End.{End}
use Rattle.ln_world_channels.specs.declared.step.Step.TheVariants as channel_step
use Rattle.ln_world_channels.specs.Settings.{channel_id_of}
use Rattle.ln_world_channels.specs.Both.{Both, By, Restarts, Stops, moves, run as run_both}
use Rattle.ln_world_channels.specs.WorldChannel.{WorldChannel, place_of, side_of, by, moved, act_moves, restart_moves}
use Rattle.ln_world_channels.specs.WorldChannel.{stop_moves, side_may_do}
use Rattle.ln_world_channels.specs.World.{channel, moved_if, may_be_done, may_act_there, everywhere}
use Rattle.ln_world_channels.specs.Promises.{Each}
use Rattle.ln_world_channels.proofs.Kept.{IsOpen, restart_kept, stop_kept}
use Rattle.ln_world_channels.proofs.Promised.{all_so}
use Rattle.ln_world_dispatch.specs.declared.step.Step.TheVariants as dispatcher_step
use Rattle.ln_world_dispatch.specs.World.{World as Dispatchers, is_dispatched, moved_by as dispatcher_moved_by, may_act}
use Rattle.ln_book_tables.specs.declared.entry.Out.{Out}
use Rattle.ln_book_tables.specs.declared.entry.Queued.{Queued}
use Rattle.ln_book_tables.specs.Replay.{table_of}
use Rattle.ln_book.specs.Commands.{first_of, is_queued_in, with_taken}
use Rattle.ln_world.specs.declared.follow_up.FollowUp.TheVariants as follow_up
use Rattle.ln_world.specs.declared.node.NodeBook.{NodeBook}
use Rattle.ln_world.specs.declared.step.Act.TheVariants as act
use Rattle.ln_world.specs.declared.step.Step.TheVariants as step
use Rattle.ln_world.specs.Node.{services, node_at, with_book}
use Rattle.ln_world.specs.Follow.{followed, begun_anew}
use Rattle.ln_world.specs.World.{World, happens, moved_by, lines_by, concluded, if_begun, if_stopped, stops_behind}
use Rattle.ln_world.specs.World.{resumes, call_of}
use Rattle.ln_world.specs.World.{restarted, link_by, link_there, act_where, resumed_at, handed_out, handed, first_in}
use Rattle.ln_world.specs.World.{id_of, end_at, saved_of, command_by, sent_or, taking}
use Rattle.ln_payment_circuits.proofs.Due.{due_by, first_is as due_first}
use Rattle.ln_world.proofs.Scene.{link_in, lookup_map, now, same_number as number_stays}
use Rattle.ln_world.proofs.Lost.{place}
use Rattle.ln_world.proofs.Books.{own_book, node_is, alike, IsAlike}
use Rattle.ln_world.proofs.Wells.{book_in}
use Rattle.ln_world.proofs.Anew.{AreSmall, small_all}
use Rattle.ln_world.proofs.Keeping.{Holds}
use Rattle.ln_world.proofs.Refusing.{free_is}
use Rattle.ln_world.proofs.Removing.{due_books}
use Rattle.ln_world.proofs.Given.{first_is}
use Rattle.ln_world.proofs.Acting.{done_by}
use Rattle.ln_world.proofs.Giving.{quiet_holds}
use Rattle.ln_world.proofs.Taking.{queued_there, queued_dispatched}
use Rattle.ln_world.proofs.Rebuilding.{anew_holds}

module _ {K : Type 0} (k : Ghosts K) where
  -- its book begins anew, whatever it was
  begun_so : (n : Node) (d : Dispatchers K) (xs : List NodeBook) → node_at n (restarted n d xs)
      ≡ followed d.channels.channels (begun_anew d.channels.channels (node_at n xs))
  begun_so n d xs = own_book (λ x. followed d.channels.channels (begun_anew d.channels.channels x)) (λ x. refl) n xs

  -- the node restarts
  back_holds : (n : Node) (w : World K) → Holds k n w → (d : Dispatchers K) (xs : List NodeBook)
      → d.channels.channels ≡ map (moved k.signer (restart_moves n)) w.dispatchers.channels.channels
      → Holds k n (record { dispatchers = d; nodes = restarted n d xs })
  back_holds n w h d xs same =
      anew_holds k n w (record { dispatchers = d; nodes = restarted n d xs }) h (λ c. ap (link_in n c) same)
      (subst (Each (IsOpen k.signer)) (sym same)
      (all_so k (IsOpen k.signer) (restart_moves n)
      (restart_kept k.signer n) w.dispatchers.channels.channels h.well.open_))
      (subst AreSmall (sym same) (small_all (moved k.signer (restart_moves n))
      (λ c. refl) w.dispatchers.channels.channels
      h.well.small))
      (node_at n xs) (node_is n xs) (begun_so n d xs)

  pub restart_holds : (n : Node) (v : Verdict) (w : World K) → Holds k n w → Holds k n (happens k v (step.Restart n) w)
  restart_holds n v w h = back_holds n w h (happens k v (step.Restart n) w).dispatchers w.nodes refl

  module _ (e : End) (v : Verdict) (w : World K) (h : Holds k e.node w) where
    abbrev n : Node
    n = e.node

    abbrev cs : List (WorldChannel K)
    cs = w.dispatchers.channels.channels

    -- a command may be given to an end that is there
    pub may_be_given : (c : Command) (s : State K) → link_in n e.channel cs ≡ Some s
        → may_be_done e (channel_act.Send c) cs ≡ true
    may_be_given c s there =
        let p = place n e.channel cs s there in
        ap (may_act_there n (channel_act.Send c)) p.is ∙ ap (λ q. side_may_do (channel_act.Send c) q p.found.both) p.of

    -- ---- before an act

    stopped_channels : (a : ChannelAct) → is_dispatched e a w.dispatchers ≡ true → may_be_done e a cs ≡ true
        → (moved_by k v (Some (dispatcher_step.StopBefore e a)) w.dispatchers).channels.channels
        ≡ map (moved k.signer (restart_moves n)) cs
    stopped_channels a may done =
        ap (λ b. (dispatcher_moved_by k (cond b (Some
        (channel_step.StopBefore e a)) None) w.dispatchers.channels).channels) may
        ∙ ap (λ b. (cond b (everywhere k.signer
        (restart_moves n) w.dispatchers.channels) w.dispatchers.channels).channels) done

    stops : (a : ChannelAct) → is_dispatched e a w.dispatchers ≡ true → may_be_done e a cs ≡ true → (xs : List NodeBook)
        → Holds k n (record {
          dispatchers = moved_by k v (Some (dispatcher_step.StopBefore e a)) w.dispatchers;
          nodes = restarted n (moved_by k v (Some (dispatcher_step.StopBefore e a)) w.dispatchers) xs;
        })
    stops a may done xs = back_holds n w h (moved_by k v (Some (dispatcher_step.StopBefore e a)) w.dispatchers) xs
        (stopped_channels a may done)

    abbrev pub stopped_by : Option ChannelAct → List NodeBook → World K
    stopped_by o xs =
        let s = option_map (λ x. dispatcher_step.StopBefore e x) o in
        let new = moved_by k v s w.dispatchers in
        record {
          dispatchers = new;
          nodes = concluded (if_begun o (follow_up.Restart n))
              (lines_by k v s w.dispatchers) new xs;
        }

    -- what an act is may be done
    abbrev pub May : ChannelAct → Type 0
    May a = (is_dispatched e a w.dispatchers ≡ true) × (may_be_done e a cs ≡ true)

    pub stopped_holds : (o : Option ChannelAct) → ((a : ChannelAct) → o ≡ Some a → May a) → (xs : List NodeBook)
        → (o ≡ None → IsAlike (book_in n w) (node_at n xs).book) → Holds k n (stopped_by o xs)
    stopped_holds None may xs same = quiet_holds k e v w h (stopped_by None xs) refl (same refl)
    stopped_holds (Some a) may xs same = let m = may a refl in stops a m.0 m.1 xs

    -- ---- after it

    stop_links : (side : Role) (a : ChannelAct) (id : List ℕ) (p : Both K)
        → (place_of side (moves k.signer id (Stops side a) p)).link
        ≡ (place_of side (moves k.signer id (Restarts side) (moves k.signer id (By side a) p))).link
    unfolding moves
    stop_links Funder a id p = refl
    stop_links Fundee a id p = refl

    abbrev behind : ChannelAct → List (WorldChannel K)
    behind a = map (moved k.signer (stop_moves e a)) cs

    abbrev acted : ChannelAct → List (WorldChannel K)
    acted a = now k.signer n e.channel (act_moves n a) cs

    -- the node's links come back from what the act has left
    same_links : (a : ChannelAct) (d : ℕ)
        → link_in n d (behind a) ≡ link_in n d (map (moved k.signer (restart_moves n)) (acted a))
    same_links a d =
        ap (link_there n) (lookup_map (moved k.signer (stop_moves e a)) (λ c. refl) d cs) ∙ cases (channel d cs) refl
        ∙ sym (ap (link_there n) (lookup_map (moved k.signer (restart_moves n)) (λ c. refl) d (acted a)
        ∙ ap (option_map (moved k.signer (restart_moves n)))
        (lookup_map (moved_if k.signer e.channel (act_moves n a)) same_number d cs)))
      where
        same_number : (c : WorldChannel K) → (moved_if k.signer e.channel (act_moves n a) c).number ≡ c.number
        same_number c = number_stays k.signer n e.channel (act_moves n a) c

        sides : (c : WorldChannel K) (q : Option Role) → side_of n c ≡ q
            → link_by (record c { both = run_both k.signer (channel_id_of c.number) (by q (λ s. Stops s a)) c.both }) q
            ≡ link_by (record c {
              both = run_both k.signer (channel_id_of c.number) (by q Restarts)
                  (run_both k.signer (channel_id_of c.number) (by q (λ s. By s a)) c.both);
            }) q
        sides c None is = refl
        sides c (Some side) is = ap Some (stop_links side a (channel_id_of c.number) c.both)

        stop_by : WorldChannel K → Bool → Option (State K)
        stop_by c z = link_by (record c {
          both = run_both k.signer (channel_id_of c.number)
              (cond z (by (side_of n c) (λ s. Stops s a)) (restart_moves n c)) c.both;
        }) (side_of n c)

        incoming_by : WorldChannel K → Bool → Option (State K)
        incoming_by c z =
            link_there n (Some (moved k.signer (restart_moves n) (cond z (moved k.signer (act_moves n a) c) c)))

        there : (c : WorldChannel K) (b : Bool) → (c.number == e.channel) ≡ b
            → stop_by c (c.number == e.channel) ≡ incoming_by c (c.number == e.channel)
        there c true is = ap (stop_by c) is ∙ sides c (side_of n c) refl ∙ sym (ap (incoming_by c) is)
        there c false is = ap (stop_by c) is ∙ sym (ap (incoming_by c) is)

        cases : (o : Option (WorldChannel K)) → channel d cs ≡ o
            → link_there n (option_map (moved k.signer (stop_moves e a)) o)
            ≡ link_there n (option_map (moved k.signer (restart_moves n))
            (option_map (moved_if k.signer e.channel (act_moves n a)) o))
        cases None f = refl
        cases (Some c) f = there c (c.number == e.channel) refl

    abbrev acts_to : ChannelAct → Option Command → Option ℕ → List NodeBook → World K
    acts_to a c r xs = done_by k e v w c (Some a) r xs

    abbrev pub stopped_behind : Option ChannelAct → Option ℕ → List NodeBook → World K
    stopped_behind o r xs =
        let s = stops_behind e o r in
        let new = moved_by k v s w.dispatchers in
        record {
          dispatchers = new;
          nodes = concluded (if_stopped o r (follow_up.Restart n))
              (lines_by k v s w.dispatchers) new xs;
        }

    behind_channels : (a : ChannelAct) → May a
        → (moved_by k v (Some (dispatcher_step.StopAfter e a)) w.dispatchers).channels.channels ≡ behind a
    behind_channels a may =
        ap (λ b. (dispatcher_moved_by k (cond b (Some
        (channel_step.StopAfter e a)) None) w.dispatchers.channels).channels) may.0
        ∙ ap (λ b. (cond b (everywhere k.signer
        (stop_moves e a) w.dispatchers.channels) w.dispatchers.channels).channels) may.1

    done_channels : (a : ChannelAct) → May a → (c : Option Command) (r : Option ℕ) (xs : List NodeBook)
        → (acts_to a c r xs).dispatchers.channels.channels ≡ acted a
    done_channels a may c r xs =
        ap (λ b. (dispatcher_moved_by k (cond b (Some
        (channel_step.Do e a)) None) w.dispatchers.channels).channels) may.0

    -- as the act leaves all, and the node begins anew
    behind_holds : (a : ChannelAct) → May a → (c : Option Command) (r : Option ℕ) (xs : List NodeBook)
        → Holds k n (acts_to a c r xs) → Holds k n (stopped_behind (Some a) r xs)
    behind_holds a may c r xs g =
        let new = moved_by k v (Some (dispatcher_step.StopAfter e a)) w.dispatchers in
        let u : World K = record { dispatchers = new; nodes = restarted n new xs } in
        let same = behind_channels a may in
        anew_holds k n (acts_to a c r xs) u g
        (λ d. ap (link_in n d) same ∙ same_links a d
        ∙ ap (λ zs. link_in n d (map (moved k.signer (restart_moves n)) zs)) (sym (done_channels a may c r xs)))
        (subst (Each (IsOpen k.signer)) (sym same)
        (all_so k (IsOpen k.signer) (stop_moves e a) (stop_kept k.signer e a) cs h.well.open_))
        (subst AreSmall (sym same) (small_all (moved k.signer (stop_moves e a)) (λ c. refl) cs h.well.small))
        (node_at n xs) (node_is n xs) (begun_so n new xs)

    -- one that isn't done: what it is to resume is refused by the book, and the node stops all the same
    none_behind : (c : Option Command) (r : Option ℕ) → ((i : ℕ) → r ≡ Some i → May (resumes i)) → (xs : List NodeBook)
        → Holds k n (done_by k e v w c None r xs) → Holds k n (stopped_behind None r xs)
    none_behind c None may xs g = g
    none_behind c (Some i) may xs g = let m = may i refl in stops (resumes i) m.0 m.1 xs

    pub behind_by : (c : Option Command) (o : Option ChannelAct) (r : Option ℕ) (xs : List NodeBook)
        → ((a : ChannelAct) → o ≡ Some a → May a) → ((i : ℕ) → r ≡ Some i → May (resumes i))
        → Holds k n (done_by k e v w c o r xs) → Holds k n (stopped_behind o r xs)
    behind_by c (Some a) r xs may resumed g = behind_holds a (may a refl) c r xs g
    behind_by c None r xs may resumed g = none_behind c r resumed xs g

    -- ---- which acts may be done

    own_may : (a : ChannelAct) (x : ChannelAct) → act_where (may_act e a w.dispatchers) a ≡ Some x → May x
    own_may a x is = by (may_act e a w.dispatchers) refl is
      where
        by : (b : Bool) → may_act e a w.dispatchers ≡ b → act_where b a ≡ Some x → May x
        by false f g = absurd (cc)
        by true f g =
            let same : a ≡ x = cc in
            subst May same (and_parts (is_dispatched e a w.dispatchers) (may_be_done e a cs) f)

    send_may : (c : Command) (x : ChannelAct)
        → act_where (not (is_of_records c) && may_act e (channel_act.Send c) w.dispatchers)
        (channel_act.Send c) ≡ Some x
        → May x
    send_may c x is = by (not (is_of_records c)) is
      where
        by : (b : Bool) → act_where (b && may_act e (channel_act.Send c) w.dispatchers) (channel_act.Send c)
            ≡ Some x → May x
        by true g = own_may (channel_act.Send c) x g
        by false g = absurd (cc)

    -- the end's link, where both have signed its opening
    pub saved_there : is_some (end_at e w.dispatchers) ≡ true → (s : State K) × (link_in n e.channel cs ≡ Some s)
    saved_there is = by (link_in n e.channel cs) refl is
      where
        by : (o : Option (State K)) → link_in n e.channel cs ≡ o → is_some (saved_of o) ≡ true
            → (s : State K) × (link_in n e.channel cs ≡ Some s)
        by None f g = absurd (cc)
        by (Some s) f g = (s, f)

    -- the first command of the book
    take_dispatched : (o : Out) (c : Command) → first_in e (book_in n w) ≡ Some (o, c)
        → is_dispatched e (channel_act.Send c) w.dispatchers ≡ true
    take_dispatched o c first = by (find (is_queued_in (id_of e)) (table_of (book_in n w)).queue) refl
      where
        by : (q : Option Queued) → find (is_queued_in (id_of e)) (table_of (book_in n w)).queue ≡ q
            → is_dispatched e (channel_act.Send c) w.dispatchers ≡ true
        by None found =
            let due = due_first services (id_of e) (table_of (book_in n w)).htlcs o c
            (sym (first_is e (book_in n w) h.well.calm
            ∙ ap (λ z. first_of services (id_of e) z (table_of (book_in n w)).htlcs) found) ∙ first) in
            free_is e c w.dispatchers
            (due_books services (id_of e) due.htlc o c (due_by (id_of e) due.htlc o due.due_is) due.command).1
        by (Some q) found =
            let in_queue = queued_there e (book_in n w) h.well.calm q found o c first in
            queued_dispatched e (book_in n w) h.well.calm q found o c first w.dispatchers
            (λ free. (h.order.queued e.channel q in_queue.0 in_queue.1 free).0)

    take_by : (t : Bool) → is_some (end_at e w.dispatchers) ≡ t → (f : Option (Out × Command))
        → first_in e (book_in n w) ≡ f
        → (x : ChannelAct) → sent_or (command_by e (taking t (book_in n w))) None ≡ Some x → May x
    take_by false some f first x is = absurd (cc)
    take_by true some None first x is = absurd (let no : None ≡ Some x =
        sym (ap (λ f. sent_or (option_map (λ y. y.1) f) None) first) ∙ is in cc)
    take_by true some (Some y) first x is =
        let s = saved_there some in
        let given : ◌≡◌ {A = Option ChannelAct} (Some (channel_act.Send y.1)) (Some x) =
        sym (ap (λ f. sent_or (option_map (λ z. z.1) f) None) first) ∙ is in
        let same : channel_act.Send y.1 ≡ x = cc in
        subst May same (take_dispatched y.0 y.1 first, may_be_given y.1 s.0 s.1)

    pub take_may : (x : ChannelAct) → call_of e act.Take w ≡ Some x → May x
    take_may x is = take_by (is_some (end_at e w.dispatchers)) refl (first_in e (book_in n w)) refl x is

    pub deliver_may : (x : ChannelAct) → call_of e act.Deliver w ≡ Some x → May x
    deliver_may x is = own_may channel_act.Deliver x is

    pub command_may : (c : Command) (x : ChannelAct) → call_of e (act.Send c) w ≡ Some x → May x
    command_may c x is = send_may c x is

    resumed_may : (i : ℕ) (o : Option ChannelEnd) → end_at e w.dispatchers ≡ o → (j : ℕ)
        → option_map (λ x. i) o ≡ Some j → May (resumes j)
    resumed_may i None f j is = absurd (cc)
    resumed_may i (Some y) f j is =
        let s = saved_there (ap is_some f) in (refl, may_be_given (command.Resume j mark.None) s.0 s.1)

    pub resume_may : (i : ℕ) (v : Verdict) (j : ℕ) → resumed_at e (act.Resume i v) w.dispatchers ≡ Some j
        → May (resumes j)
    resume_may i v j is = resumed_may i (end_at e w.dispatchers) refl j is

    -- a book that gives no command
    pub untaken : (t : Bool) (f : Option (Out × Command)) → first_in e (book_in n w) ≡ f
        → sent_or (command_by e (taking t (book_in n w))) None ≡ None
        → IsAlike (book_in n w) (node_at n (handed_out e (taking t (book_in n w)) w.nodes)).book
    untaken false f first none = alike (book_in n w)
    untaken true None first none = subst (IsAlike (book_in n w)) (sym (ap (λ (z : NodeBook). z.book)
        (own_book (with_book (handed e (book_in n w))) (λ z. refl) n w.nodes)
        ∙ ap (λ f. with_taken (id_of e) f (book_in n w)) first)) (alike (book_in n w))
    untaken true (Some y) first none = absurd (let no : Some (channel_act.Send y.1) ≡ None =
        sym (ap (λ f. sent_or (option_map (λ z. z.1) f) None) first) ∙ none in cc)
