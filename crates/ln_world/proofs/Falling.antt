-- Lost connections and restarts, of the node itself and of others.
use Rattle.std.proofs.Common.{◌≡◌, ℕ, List, map, refl, sym, ap, subst, Bool, true, false}
use Rattle.std.proofs.Common.{cond, Option, Some, None}
use Rattle.std.specs.Prelude.{option_map}
use Rattle.ln_keys.specs.declared.keys.ChannelKeys.{Ghosts}
use Rattle.ln_hooks.specs.declared.verdict.Verdict.{Verdict}
use Rattle.ln_channel.specs.End.{End as ChannelEnd}
use Rattle.ln_channel.specs.Record.{saved_end}
use Rattle.ln_channel.specs.State.{State}
use Rattle.ln_world_channels.specs.declared.step.Node.{Node}
use Rattle.ln_world_channels.specs.declared.step.End.{End}
use Rattle.ln_world_channels.specs.Settings.{channel_id_of}
use Rattle.ln_world_channels.specs.Both.{Disconnects, Restarts}
use Rattle.ln_world_channels.specs.WorldChannel.{is_node, disconnect_moves, restart_moves, moved}
use Rattle.ln_world_channels.specs.World.{moved_if}
use Rattle.ln_world_channels.specs.Promises.{Each}
use Rattle.ln_world_channels.proofs.Kept.{IsOpen, fall_kept, restart_kept}
use Rattle.ln_world_channels.proofs.Promised.{moved_so, all_so}
use Rattle.ln_book_tables.specs.Replay.{table_of}
use Rattle.ln_world_dispatch.specs.World.{World as Dispatchers}
use Rattle.ln_book.specs.Uses.{kept_of}
use Rattle.ln_world.specs.declared.node.NodeBook.{NodeBook}
use Rattle.ln_world.specs.declared.step.Step.TheVariants as step
use Rattle.ln_world.specs.Node.{Book, node_at, with_book}
use Rattle.ln_world.specs.Follow.{followed, begun_anew}
use Rattle.ln_world.specs.World.{World, happens, id_of, link_at, disconnected, dropped, saved_dropped, saved_of}
use Rattle.ln_payment_circuits.proofs.Shifts.{side_of as read_side}
use Rattle.ln_world.specs.Circuit.{has_halted}
use Rattle.ln_world.proofs.Scene.{scene_of, link_in, other_node, other_all, same_number}
use Rattle.ln_world.proofs.Books.{own_book, other_book, follow_alike}
use Rattle.ln_world.proofs.Same.{IsSame, same_paid, same_agrees, same_past}
use Rattle.ln_world.proofs.Anew.{AreSmall, small_all}
use Rattle.ln_world.proofs.Downs.{down}
use Rattle.ln_world.proofs.PendingCommands.{IsCalm, calm_alike, calm_dropped}
use Rattle.ln_world.proofs.Wells.{IsWell}
use Rattle.ln_world.proofs.Moving.{falls_side, restarts_side}

module _ {K : Type 0} (k : Ghosts K) where
  -- ---- of the node itself

  calm_kept : (e : End) (o : Option ChannelEnd) (b : Book) → IsCalm b → IsCalm (saved_dropped e o b)
  calm_kept e None b h = h
  calm_kept e (Some x) b h = calm_dropped (id_of e) (kept_of (id_of e) x b) b h

  pub calm_fallen : (e : End) (d : Dispatchers K) (o : Option (State K)) (xs : List NodeBook)
      → IsCalm (node_at e.node xs).book
      → IsCalm (node_at e.node (disconnected e d o xs)).book
  calm_fallen e d None xs h = h
  calm_fallen e d (Some l) xs h =
      let x = node_at e.node xs in
      let f = with_book (dropped e l x.book) x in
      subst (λ (z : NodeBook). IsCalm z.book)
      (sym (own_book (λ z. followed d.channels.channels (with_book (dropped e l z.book) z)) (λ z. refl) e.node xs))
      (calm_alike f.book (followed d.channels.channels f).book (follow_alike d.channels.channels f) (cases l.halted))
    where
      cases : (b : Bool)
          → IsCalm (cond b (node_at e.node xs).book (saved_dropped e (saved_end l.stage) (node_at e.node xs).book))
      cases true = h
      cases false = calm_kept e (saved_end l.stage) (node_at e.node xs).book h

  pub down_well : (e : End) (v : Verdict) (w : World K) → IsWell k e.node w
      → IsWell k e.node (happens k v (step.Down e) w)
  down_well e v w h =
      let cs = w.dispatchers.channels.channels in
      let p = down k e w h.open_ v (h.calm (channel_id_of e.channel))
      (record { paid = h.paid; agrees = h.agrees; past = h.past }) in
      record {
        open_ = moved_so k (IsOpen k.signer) e.channel (disconnect_moves e.node) (fall_kept k.signer e.node) cs h.open_;
        small = small_all (moved_if k.signer e.channel (disconnect_moves e.node))
            (same_number k.signer e.node e.channel (disconnect_moves e.node)) cs h.small;
        calm = calm_fallen e (happens k v (step.Down e) w).dispatchers
            (link_at e (happens k v (step.Down e) w).dispatchers.channels.channels) w.nodes h.calm;
        paid = p.paid;
        agrees = p.agrees;
        past = p.past;
      }

  -- ---- of others

  module _ (n : Node) where
    pub others_well : (w u : World K) → Each (IsOpen k.signer) u.dispatchers.channels.channels
        → AreSmall u.dispatchers.channels.channels
        → ((d : ℕ) → link_in n d u.dispatchers.channels.channels ≡ link_in n d w.dispatchers.channels.channels)
        → node_at n u.nodes ≡ node_at n w.nodes → IsWell k n w → IsWell k n u
    others_well w u open_ small links books h =
        let same : IsSame (scene_of n w) (scene_of n u) = record {
          sides = λ d. ap (λ o. option_map read_side (saved_of o)) (links d);
          halted = λ d. ap has_halted (links d);
          book = ap (λ (x : NodeBook). (table_of x.book).htlcs) books;
        } in
        record {
          open_ = open_;
          small = small;
          calm = subst (λ (x : NodeBook). IsCalm x.book) (sym books) h.calm;
          paid = same_paid channel_id_of (scene_of n w) (scene_of n u) same h.paid;
          agrees = same_agrees channel_id_of (scene_of n w) (scene_of n u) same h.agrees;
          past = same_past channel_id_of (scene_of n w) (scene_of n u) same h.past;
        }

    pub fallen_else : (e : End) → is_node e.node n ≡ false
        → (d : Dispatchers K) (o : Option (State K)) (xs : List NodeBook)
        → node_at n (disconnected e d o xs) ≡ node_at n xs
    fallen_else e isnt d None xs = refl
    fallen_else e isnt d (Some l) xs =
        other_book (λ z. followed d.channels.channels (with_book (dropped e l z.book) z)) (λ z. refl) e.node n isnt xs

    pub other_falls : (e : End) → is_node e.node n ≡ false → (v : Verdict) (w : World K) → IsWell k n w
        → IsWell k n (happens k v (step.Down e) w)
    other_falls e isnt v w h =
        let cs = w.dispatchers.channels.channels in
        others_well w (happens k v (step.Down e) w)
        (moved_so k (IsOpen k.signer) e.channel (disconnect_moves e.node) (fall_kept k.signer e.node) cs h.open_)
        (small_all (moved_if k.signer e.channel (disconnect_moves e.node))
        (same_number k.signer e.node e.channel (disconnect_moves e.node)) cs h.small)
        (λ d. other_node k.signer e.node Disconnects falls_side n e.channel cs isnt d)
        (fallen_else e isnt (happens k v (step.Down e) w).dispatchers
        (link_at e (happens k v (step.Down e) w).dispatchers.channels.channels) w.nodes) h

    pub other_restarts : (m : Node) → is_node m n ≡ false → (v : Verdict) (w : World K) → IsWell k n w
        → IsWell k n (happens k v (step.Restart m) w)
    other_restarts m isnt v w h =
        let cs = w.dispatchers.channels.channels in
        let new = map (moved k.signer (restart_moves m)) cs in
        others_well w (happens k v (step.Restart m) w)
        (all_so k (IsOpen k.signer) (restart_moves m) (restart_kept k.signer m) cs h.open_)
        (small_all (moved k.signer (restart_moves m)) (λ c. refl) cs h.small)
        (λ d. other_all k.signer m Restarts restarts_side n cs isnt d)
        (other_book (λ x. followed new (begun_anew new x)) (λ x. refl) m n isnt w.nodes) h
