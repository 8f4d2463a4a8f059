-- An end that has halted comes back from its record, and its node's book, which goes on, is told what it has kept.
use Rattle.std.proofs.Common.{◌≡◌, inl, inr, ℕ, List, map, refl, sym, ap, ◌∙◌, subst, Bool, true, false, cond, not}
use Rattle.std.proofs.Common.{◌==◌, ◌&&◌, Option, Some, None}
use Rattle.std.specs.Prelude.{option_map}
use Rattle.std.proofs.lemmas.Bool.{eqb-true}
use Rattle.ln_keys.specs.declared.keys.ChannelKeys.{Ghosts}
use Rattle.ln_keys.specs.declared.role.Role.{Role}
use Rattle.ln_hooks.specs.declared.verdict.Verdict.{Verdict}
use Rattle.ln_log.proofs.Removing.{next-front}
use Rattle.ln_channel.specs.End.{End as ChannelEnd, end_dropped}
use Rattle.ln_channel.specs.Record.{saved_end}
use Rattle.ln_channel.specs.State.{State}
use Rattle.ln_book_tables.specs.declared.entry.KeptState.{KeptState}
use Rattle.ln_book_tables.specs.Replay.{table_of, htlc_kept}
use Rattle.ln_book.specs.Uses.{kept_of}
use Rattle.ln_world_channels.specs.Both.{Both, Restarts, moves}
use Rattle.ln_world_channels.specs.declared.step.End.{End}
use Rattle.ln_world_channels.specs.declared.step.Node.{Node}
use Rattle.ln_world_channels.specs.declared.step.Step.TheVariants as channel_step
use Rattle.ln_world_channels.specs.Settings.{channel_id_of}
use Rattle.ln_world_channels.specs.WorldChannel.{WorldChannel, is_node, place_of, side_of, side_has_halted}
use Rattle.ln_world_channels.specs.WorldChannel.{restart_moves}
use Rattle.ln_world_channels.specs.World.{channel, may_reload, has_halted_there, moved_if}
use Rattle.ln_world_channels.specs.World as channels
use Rattle.ln_world_channels.specs.Promises.{Each}
use Rattle.ln_world_channels.proofs.Kept.{IsOpen, restart_kept}
use Rattle.ln_world_channels.proofs.Promised.{happened, moved_so}
use Rattle.ln_world_dispatch.specs.declared.step.Step.TheVariants as dispatcher_step
use Rattle.ln_world.specs.declared.follow_up.FollowUp.TheVariants as follow_up
use Rattle.ln_world.specs.declared.node.NodeBook.{NodeBook}
use Rattle.ln_world.specs.declared.step.Step.TheVariants as step
use Rattle.ln_world.specs.Circuit.{has_halted}
use Rattle.ln_world.specs.Follow.{followed}
use Rattle.ln_world.specs.Node.{Book, node_at, with_book}
use Rattle.ln_world.specs.World.{World, id_of, happens, coming_back, concluded, disconnected, dropped, saved_dropped}
use Rattle.ln_world.specs.World.{link_at, link_there, link_by, lines_by, saved_of}
use Rattle.ln_payment.specs.Moves.{is_of}
use Rattle.ln_payment_circuits.specs.Snapshot.{IsFit}
use Rattle.ln_payment_circuits.proofs.Losses.{Drops}
use Rattle.ln_payment_circuits.proofs.Past.{past_there}
use Rattle.ln_payment_circuits.proofs.Shifts.{side_of as read_side}
use Rattle.ln_world.proofs.Answering.{LinkIs}
use Rattle.ln_world.proofs.Ends.{IsLink}
use Rattle.ln_world.proofs.Moving.{back_is, own_restarts, restarts_side}
use Rattle.ln_world.proofs.Scene.{link_in, links_of, scene_of, linked, now, same_number, other_node, either}
use Rattle.ln_world.proofs.Lost.{link_is, link_now, side_is, all_drop, halted_at, halted_else}
use Rattle.ln_world.proofs.Books.{own_book, follow_alike, itself}
use Rattle.ln_world.proofs.Same.{one_id}
use Rattle.ln_world.proofs.Anew.{AreSmall, small_all}
use Rattle.ln_world.proofs.Downs.{AreStill, same_still, still_there, dropped_htlcs}
use Rattle.ln_world.proofs.Falling.{calm_fallen, fallen_else, others_well}
use Rattle.ln_world.proofs.PendingCommands.{IsCalm}
use Rattle.ln_world.proofs.Wells.{IsWell, book_in}
use Rattle.ln_world.proofs.Orderly.{OneLater, orderly, dispatchers_stay}
use Rattle.ln_world.proofs.Keeping.{Holds, BookLater, lost_later, fallen_later}
use Rattle.ln_world.proofs.Sending.{idle_holds}

-- it comes back where its link has halted
halted_link : {K : Type 0} (n : Node) (o : Option (WorldChannel K)) → has_halted_there n o ≡ has_halted (link_there n o)
halted_link n None = refl
halted_link n (Some c) = sides (side_of n c)
  where
    sides : (q : Option Role) → side_has_halted q c.both ≡ has_halted (link_by c q)
    sides None = refl
    sides (Some r) = refl

module _ {K : Type 0} (k : Ghosts K) (e : End) (v : Verdict) (w : World K) where
  abbrev n : Node
  n = e.node

  abbrev cs : List (WorldChannel K)
  cs = w.dispatchers.channels.channels

  abbrev new : List (WorldChannel K)
  new = now k.signer n e.channel (restart_moves n) cs

  abbrev u : World K
  u = happens k v (step.Reload e) w

  may_so : may_reload e cs ≡ has_halted (link_in n e.channel cs)
  may_so = halted_link n (channel e.channel cs)

  small_now : AreSmall cs → AreSmall u.dispatchers.channels.channels
  small_now h = cases (may_reload e cs)
    where
      cases : (b : Bool) → AreSmall (cond b (channels.at k.signer e.channel (restart_moves n) w.dispatchers.channels)
          w.dispatchers.channels).channels
      cases true = small_all (moved_if k.signer e.channel (restart_moves n))
          (same_number k.signer n e.channel (restart_moves n)) cs h
      cases false = h

  -- ---- of the node's own

  module _ (h : Holds k e.node w) where
    -- one that works stays as it is
    stays : may_reload e cs ≡ false → coming_back e (link_at e cs) ≡ follow_up.None → Holds k n u
    stays may none = idle_holds k e v w h u
        (ap (λ b. record {
          channels = cond b (channels.at k.signer e.channel (restart_moves n) w.dispatchers.channels)
              w.dispatchers.channels;
          dispatchers = w.dispatchers.dispatchers;
          used = w.dispatchers.used;
          hooks = w.dispatchers.hooks;
        }) may)
        (ap (λ f. concluded f (lines_by k v (Some (dispatcher_step.Reload e)) w.dispatchers) u.dispatchers w.nodes)
        none)

    module _ (s : State K) (there : link_in n e.channel cs ≡ Some s) (halted : s.halted ≡ true) where
      back_leaves : (id : List ℕ) (r : Role) (p : Both K) (l : IsLink id (place_of r p).link)
          → LinkIs (place_of r (moves k.signer id (Restarts r) p)).link (end_dropped l.end) false
      back_leaves id r p l = subst (λ z. LinkIs z (end_dropped l.end) false) (sym (own_restarts k.signer id r p))
          (back_is id (place_of r p).link l (place_of r p).keys)

      abbrev b : Book
      b = book_in n w

      abbrev x : ChannelEnd
      x = (link_is k.signer n cs h.well.open_ e.channel s there).end

      abbrev told : KeptState
      told = kept_of (id_of e) (end_dropped x) b

      abbrev back : (t : State K) × (link_in n e.channel new ≡ Some t)
          × LinkIs t (end_dropped x) false
      back = link_now k.signer n cs h.well.open_ n (itself n) e.channel Restarts restarts_side (λ z. false)
          back_leaves s there

      may : may_reload e cs ≡ true
      may = may_so ∙ ap has_halted there ∙ halted

      channels_now : u.dispatchers.channels.channels ≡ new
      channels_now = ap (λ t. (cond t (channels.at k.signer e.channel (restart_moves n) w.dispatchers.channels)
          w.dispatchers.channels).channels) may

      nodes_now : u.nodes ≡ disconnected e u.dispatchers (link_at e u.dispatchers.channels.channels) w.nodes
      nodes_now = ap (λ f. concluded f (lines_by k v (Some (dispatcher_step.Reload e)) w.dispatchers) u.dispatchers
          w.nodes) (ap (coming_back e) there ∙ ap (λ t. cond t (follow_up.Disconnected e) follow_up.None) halted)

      new_open : Each (IsOpen k.signer) new
      new_open = moved_so k (IsOpen k.signer) e.channel (restart_moves n) (restart_kept k.signer n) cs h.well.open_

      drops_so : Drops (is_of e.channel) (links_of n cs) (links_of n new)
      drops_so = all_drop k.signer n cs h.well.open_ n (itself n) e.channel Restarts restarts_side (λ z. false)
          back_leaves

      halted_now : (d : ℕ) → (links_of n new).halted d ≡ (not (d == e.channel) && (links_of n cs).halted d)
      halted_now d = elim (either (d == e.channel)) [
        | inr isnt ↦ halted_else k.signer n cs h.well.open_ n (itself n) e.channel Restarts restarts_side (λ z. false)
            back_leaves d isnt ∙ sym (ap (λ t. not t && (links_of n cs).halted d) isnt)
        | inl is ↦ ap (links_of n new).halted (eqb-true d e.channel is)
            ∙ halted_at k.signer n cs h.well.open_ n (itself n) e.channel Restarts restarts_side (λ z. false)
            back_leaves s there ∙ sym (ap (λ t. not t && (links_of n cs).halted d) is)
      ]

      x_side : (links_of n cs).sides e.channel
          ≡ Some (read_side x)
      x_side = side_is k.signer n cs h.well.open_ e.channel s there

      y_side : (links_of n new).sides e.channel
          ≡ Some (read_side (end_dropped x))
      y_side = ap (λ o. option_map read_side (saved_of o)) back.1
          ∙ ap (option_map read_side)
          (linked back.0 (end_dropped x) false back.2)

      y_fit : IsFit (end_dropped x)
      y_fit =
          let j = link_is k.signer n new new_open e.channel back.0 back.1 in
          let some : Some j.end ≡ Some (end_dropped x) =
          sym (ap (λ (z : State K). saved_end z.stage) j.link) ∙ ap saved_end back.2.stage in
          let same_end : j.end ≡ end_dropped x = cc in
          subst IsFit same_end j.is.fit

      -- what the book is told
      book_now : (table_of (book_in n u)).htlcs ≡ map (htlc_kept (id_of e) told) (table_of b).htlcs
      book_now =
          ap (λ xs. (table_of (node_at n xs).book).htlcs) nodes_now
          ∙ ap (λ o. (table_of (node_at n (disconnected e u.dispatchers o w.nodes)).book).htlcs)
          (ap (link_in n e.channel) channels_now ∙ back.1)
          ∙ ap (λ (z : NodeBook). (table_of z.book).htlcs)
          (own_book (λ z. followed u.dispatchers.channels.channels (with_book (dropped e back.0 z.book) z))
          (λ z. refl) n w.nodes)
          ∙ (follow_alike u.dispatchers.channels.channels (with_book (dropped e back.0 b) (node_at n w.nodes))).htlcs
          ∙ ap (λ t. (table_of (cond t b (saved_dropped e (saved_end back.0.stage) b))).htlcs) back.2.halted
          ∙ ap (λ o. (table_of (saved_dropped e o b)).htlcs) (ap saved_end back.2.stage)
          ∙ dropped_htlcs (id_of e) told b (h.well.calm (id_of e))

      still : AreStill (scene_of n u)
      still = same_still (record { links = links_of n new; book = (table_of (book_in n u)).htlcs }) (scene_of n u)
          (record {
            sides = λ d. ap (λ xs. (links_of n xs).sides d) channels_now;
            halted = λ d. ap (λ xs. (links_of n xs).halted d) channels_now;
            book = refl;
          })
          (still_there e.channel (links_of n cs) (links_of n new) b (table_of (book_in n u)).htlcs
          x
          (link_is k.signer n cs h.well.open_ e.channel s there).is.fit y_fit x_side y_side drops_so halted_now book_now
          (past_there channel_id_of one_id (scene_of n w) e.channel told.next
          (read_side x) x_side (ap has_halted there ∙ halted)
          (next-front x.dance.log.signed.own
          x.dance.log.own) h.well.past)
          (record { paid = h.well.paid; agrees = h.well.agrees; past = h.well.past }))

      book_later : BookLater b (book_in n u)
      book_later = subst (λ xs. BookLater b (node_at n xs).book) (sym nodes_now)
          (fallen_later e u.dispatchers (link_at e u.dispatchers.channels.channels) w.nodes h.well.calm)

      comes : Holds k n u
      comes = record {
        well = record {
          open_ = happened k (channel_step.Reload e) w.dispatchers.channels h.well.open_;
          small = small_now h.well.small;
          calm = subst (λ xs. IsCalm (node_at n xs).book) (sym nodes_now)
              (calm_fallen k e u.dispatchers (link_at e u.dispatchers.channels.channels) w.nodes h.well.calm);
          paid = still.paid;
          agrees = still.agrees;
          past = still.past;
        };
        order = orderly n w u
            (λ d. subst (λ xs. OneLater (link_in n d cs) (link_in n d xs)) (sym channels_now)
            (lost_later k.signer n cs h.well.open_ n (itself n) e.channel Restarts restarts_side (λ z. false)
            back_leaves d))
            book_later.queue book_later.htlcs (dispatchers_stay n w.dispatchers.dispatchers) h.order;
      }

    pub reload_holds : Holds k n u
    reload_holds = by_link (link_in n e.channel cs) refl
      where
        by_link : (o : Option (State K)) → link_in n e.channel cs ≡ o → Holds k n u
        by_link None none = stays (may_so ∙ ap has_halted none) (ap (coming_back e) none)
        by_link (Some s) there = elim (either s.halted) [
          | inl halted ↦ comes s there halted
          | inr awake ↦ stays (may_so ∙ ap has_halted there ∙ awake)
              (ap (coming_back e) there ∙ ap (λ t. cond t (follow_up.Disconnected e) follow_up.None) awake)
        ]

  -- ---- of others

  module _ (m : Node) (isnt : is_node e.node m ≡ false) where
    pub reload_links : (d : ℕ) → link_in m d u.dispatchers.channels.channels ≡ link_in m d cs
    reload_links d = cases (may_reload e cs)
      where
        cases : (b : Bool) → link_in m d (cond b (channels.at k.signer e.channel (restart_moves n)
            w.dispatchers.channels) w.dispatchers.channels).channels ≡ link_in m d cs
        cases true = other_node k.signer e.node Restarts restarts_side m e.channel cs isnt d
        cases false = refl

    pub reload_nodes : node_at m u.nodes ≡ node_at m w.nodes
    reload_nodes = cases (link_at e cs)
      where
        halts : (b : Bool) → node_at m (concluded (cond b (follow_up.Disconnected e) follow_up.None)
            (lines_by k v (Some (dispatcher_step.Reload e)) w.dispatchers) u.dispatchers w.nodes) ≡ node_at m w.nodes
        halts true =
            fallen_else k m e isnt u.dispatchers (link_at e u.dispatchers.channels.channels) w.nodes
        halts false = refl

        cases : (o : Option (State K)) → node_at m (concluded (coming_back e o)
            (lines_by k v (Some (dispatcher_step.Reload e)) w.dispatchers) u.dispatchers w.nodes) ≡ node_at m w.nodes
        cases None = refl
        cases (Some l) = halts l.halted

    pub other_reloads : IsWell k m w → IsWell k m u
    other_reloads h = others_well k m w u (happened k (channel_step.Reload e) w.dispatchers.channels h.open_)
        (small_now h.small) reload_links reload_nodes h
