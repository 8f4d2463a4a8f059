-- What ends of other nodes do: a node's payments have no part in it.
use Rattle.std.proofs.Common.{◌≡◌, ℕ, List, [], map, refl, sym, ap, ◌∙◌, subst, Bool, true, false}
use Rattle.std.proofs.Common.{cond, ◌==◌, Option, Some, None}
use Rattle.std.specs.Prelude.{option_map}
use Rattle.ln_keys.specs.declared.keys.ChannelKeys.{Ghosts}
use Rattle.ln_keys.specs.declared.role.Role.{Role}
use Rattle.ln_hooks.specs.declared.verdict.Verdict.{Verdict}
use Rattle.ln_channel.specs.declared.command.Command.{Command}
use Rattle.ln_channel.specs.State.{State}
use Rattle.ln_world_channels.specs.declared.line.Line.{Line}
use Rattle.ln_world_channels.specs.declared.step.Act.{Act as ChannelAct}
use Rattle.ln_world_channels.specs.declared.step.Node.{Node}
use Rattle.ln_world_channels.specs.declared.step.End.{End}
use Rattle.ln_world_channels.specs.declared.step.Step.{Step as ChannelStep}
use Rattle.ln_world_channels.specs.declared.step.Step.TheVariants as channel_step
use Rattle.ln_world_channels.specs.Settings.{channel_id_of}
use Rattle.ln_world_channels.specs.Both.{By, Halts, Restarts, Stops, Move, moves, run as run_both}
use Rattle.ln_world_channels.specs.WorldChannel.{WorldChannel, is_node, place_of, side_of, by, moved, act_moves}
use Rattle.ln_world_channels.specs.WorldChannel.{halt_moves}
use Rattle.ln_world_channels.specs.WorldChannel.{restart_moves, stop_moves}
use Rattle.ln_world_channels.specs.World.{World as Channels, channel, moved_if, may_be_done}
use Rattle.ln_world_channels.specs.World as channels
use Rattle.ln_world_channels.specs.Promises.{Each}
use Rattle.ln_world_channels.proofs.Kept.{IsOpen}
use Rattle.ln_world_channels.proofs.Promised.{happened}
use Rattle.ln_world_dispatch.specs.declared.step.Step.TheVariants as dispatcher_step
use Rattle.ln_world_dispatch.specs.World.{World as Dispatchers, is_dispatched}
use Rattle.ln_world_dispatch.specs.World as dispatchers
use Rattle.ln_world.specs.declared.follow_up.FollowUp.TheVariants as follow_up
use Rattle.ln_world.specs.declared.node.NodeBook.{NodeBook}
use Rattle.ln_world.specs.declared.step.Act.{Act}
use Rattle.ln_world.specs.declared.step.Step.TheVariants as step
use Rattle.ln_world.specs.Node.{Book, node_at, with_book}
use Rattle.ln_world.specs.Follow.{followed, begun_anew}
use Rattle.ln_world.specs.World.{World, happens, handed, handed_out, asked, asked_unbegun, command_of, call_of, unbegun}
use Rattle.ln_world.specs.World.{resumed_at}
use Rattle.ln_world.specs.World.{moved_by, acting, asks_by, if_begun, if_stopped, is_take, concluded, follows}
use Rattle.ln_world.specs.World.{stops_behind}
use Rattle.ln_book.specs.Answers.{next_id}
use Rattle.ln_world.specs.BookReports.{event_count}
use Rattle.ln_world.specs.World.{end_at, resumes, link_by, link_there, reported, unanswered}
use Rattle.ln_world.proofs.Moving.{IsOfSide, other_stays}
use Rattle.ln_world.proofs.Scene.{link_in, other_node, other_all, same_number, lookup_map, side_apart}
use Rattle.ln_world.proofs.Books.{other_book}
use Rattle.ln_world.proofs.Anew.{AreSmall, small_all}
use Rattle.ln_world.proofs.Falling.{others_well}
use Rattle.ln_world.proofs.Wells.{IsWell}
use Rattle.ln_world.proofs.Moving.{acts_side, stops_side, halts_side, restarts_side}

module _ {K : Type 0} (k : Ghosts K) (e : End) (n : Node) (isnt : is_node e.node n ≡ false) where
  -- ---- channels

  pub record Apart (cs ds : List (WorldChannel K)) : Type 0 where
    pub open_ : Each (IsOpen k.signer) cs → Each (IsOpen k.signer) ds
    pub small : AreSmall cs → AreSmall ds
    pub links : (d : ℕ) → link_in n d ds ≡ link_in n d cs

  stays : (cs : List (WorldChannel K)) → Apart cs cs
  stays cs = record { open_ = λ h. h; small = λ h. h; links = λ d. refl }

  acts_apart : (a : ChannelAct) (w : Channels K)
      → Apart w.channels (channels.happens k (channel_step.Do e a) w).channels
  acts_apart a w = record {
    open_ = λ h. happened k (channel_step.Do e a) w h;
    small = small_all (moved_if k.signer e.channel (act_moves e.node a))
        (same_number k.signer e.node e.channel (act_moves e.node a)) w.channels;
    links = λ d. other_node k.signer e.node (λ s. By s a) (acts_side a) n e.channel w.channels isnt d;
  }

  halts_apart : (a : ChannelAct) (w : Channels K)
      → Apart w.channels (channels.happens k (channel_step.NoMemory e a) w).channels
  halts_apart a w = record {
    open_ = λ h. happened k (channel_step.NoMemory e a) w h;
    small = small (may_be_done e a w.channels);
    links = links (may_be_done e a w.channels);
  }
    where
      small : (b : Bool) → AreSmall w.channels
          → AreSmall (cond b (channels.at k.signer e.channel (halt_moves e.node) w) w).channels
      small true h = small_all (moved_if k.signer e.channel (halt_moves e.node))
          (same_number k.signer e.node e.channel (halt_moves e.node)) w.channels h
      small false h = h

      links : (b : Bool) (d : ℕ)
          → link_in n d (cond b (channels.at k.signer e.channel (halt_moves e.node) w) w).channels
          ≡ link_in n d w.channels
      links true d = other_node k.signer e.node Halts halts_side n e.channel w.channels isnt d
      links false d = refl

  before_apart : (a : ChannelAct) (w : Channels K)
      → Apart w.channels (channels.happens k (channel_step.StopBefore e a) w).channels
  before_apart a w = record {
    open_ = λ h. happened k (channel_step.StopBefore e a) w h;
    small = small (may_be_done e a w.channels);
    links = links (may_be_done e a w.channels);
  }
    where
      small : (b : Bool) → AreSmall w.channels
          → AreSmall (cond b (channels.everywhere k.signer (restart_moves e.node) w) w).channels
      small true h = small_all (moved k.signer (restart_moves e.node)) (λ c. refl) w.channels h
      small false h = h

      links : (b : Bool) (d : ℕ)
          → link_in n d (cond b (channels.everywhere k.signer (restart_moves e.node) w) w).channels
          ≡ link_in n d w.channels
      links true d = other_all k.signer e.node Restarts restarts_side n w.channels isnt d
      links false d = refl

  stop_there : (a : ChannelAct) (cs : List (WorldChannel K)) (d : ℕ)
      → link_in n d (map (moved k.signer (stop_moves e a)) cs) ≡ link_in n d cs
  stop_there a cs d =
      ap (link_there n) (lookup_map (moved k.signer (stop_moves e a)) (λ c. refl) d cs) ∙ cases (channel d cs)
    where
      sides : (act : Role → Move) → ((s : Role) → IsOfSide (act s) s) → (c : WorldChannel K) (r q : Option Role)
          → side_of e.node c ≡ r → side_of n c ≡ q
          → link_by (record c { both = run_both k.signer (channel_id_of c.number) (by r act) c.both }) q ≡ link_by c q
      sides act of c r None x f = refl
      sides act of c None (Some q) x f = refl
      sides act of c (Some r) (Some q) x f = subst (λ z. ◌≡◌ {A = Option (State K)}
          (Some (place_of z (moves k.signer (channel_id_of c.number) (act r) c.both)).link)
          (Some (place_of z c.both).link))
          (sym (side_apart e.node n c r q isnt x f)) (ap Some
          (other_stays k.signer (channel_id_of c.number) act of r c.both))

      which : (c : WorldChannel K) (b : Bool)
          → link_there n (Some (record c {
            both = run_both k.signer (channel_id_of c.number)
                (cond b (by (side_of e.node c) (λ s. Stops s a)) (restart_moves e.node c)) c.both;
          })) ≡ link_there n (Some c)
      which c true = sides (λ s. Stops s a) (stops_side a) c (side_of e.node c) (side_of n c) refl refl
      which c false = sides Restarts restarts_side c (side_of e.node c) (side_of n c) refl refl

      cases : (o : Option (WorldChannel K))
          → link_there n (option_map (moved k.signer (stop_moves e a)) o) ≡ link_there n o
      cases None = refl
      cases (Some c) = which c (c.number == e.channel)

  behind_apart : (a : ChannelAct) (w : Channels K)
      → Apart w.channels (channels.happens k (channel_step.StopAfter e a) w).channels
  behind_apart a w = record {
    open_ = λ h. happened k (channel_step.StopAfter e a) w h;
    small = small (may_be_done e a w.channels);
    links = links (may_be_done e a w.channels);
  }
    where
      small : (b : Bool) → AreSmall w.channels
          → AreSmall (cond b (channels.everywhere k.signer (stop_moves e a) w) w).channels
      small true h = small_all (moved k.signer (stop_moves e a)) (λ c. refl) w.channels h
      small false h = h

      links : (b : Bool) (d : ℕ) → link_in n d (cond b (channels.everywhere k.signer (stop_moves e a) w) w).channels
          ≡ link_in n d w.channels
      links true d = stop_there a w.channels d
      links false d = refl

  -- ---- pending commands

  dispatched : (a : ChannelAct) (w : Dispatchers K) (s : ChannelStep K k)
      → Apart w.channels.channels (channels.happens k s w.channels).channels
      → (b : Bool) → Apart w.channels.channels (dispatchers.moved_by k (cond b (Some s) None) w.channels).channels
  dispatched a w s h true = h
  dispatched a w s h false = stays w.channels.channels

  pub do_apart : (v : Verdict) (w : Dispatchers K) (o : Option ChannelAct)
      → Apart w.channels.channels (moved_by k v (option_map (λ x. dispatcher_step.Do e x) o) w).channels.channels
  do_apart v w None = stays w.channels.channels
  do_apart v w (Some a) = dispatched a w (channel_step.Do e a) (acts_apart a w.channels) (is_dispatched e a w)

  pub memory_apart : (v : Verdict) (w : Dispatchers K) (o : Option ChannelAct)
      → Apart w.channels.channels (moved_by k v (option_map (λ x. dispatcher_step.NoMemory e x) o) w).channels.channels
  memory_apart v w None = stays w.channels.channels
  memory_apart v w (Some a) =
      dispatched a w (channel_step.NoMemory e a) (halts_apart a w.channels) (is_dispatched e a w)

  pub stop_apart : (v : Verdict) (w : Dispatchers K) (o : Option ChannelAct)
      → Apart w.channels.channels (moved_by k v (option_map
      (λ x. dispatcher_step.StopBefore e x) o) w).channels.channels
  stop_apart v w None = stays w.channels.channels
  stop_apart v w (Some a) =
      dispatched a w (channel_step.StopBefore e a) (before_apart a w.channels) (is_dispatched e a w)

  pub stopped_apart : (v : Verdict) (w : Dispatchers K) (o : Option ChannelAct) (r : Option ℕ)
      → Apart w.channels.channels (moved_by k v (stops_behind e o r) w).channels.channels
  stopped_apart v w (Some a) r =
      dispatched a w (channel_step.StopAfter e a) (behind_apart a w.channels) (is_dispatched e a w)
  stopped_apart v w None None = stays w.channels.channels
  stopped_apart v w None (Some i) = dispatched (resumes i) w (channel_step.StopBefore e (resumes i))
      (before_apart (resumes i) w.channels) (is_dispatched e (resumes i) w)

  -- ---- books

  handed_else : (o : Option Book) (xs : List NodeBook) → node_at n (handed_out e o xs) ≡ node_at n xs
  handed_else None xs = refl
  handed_else (Some b) xs = other_book (with_book (handed e b)) (λ x. refl) e.node n isnt xs

  follows_else : (f : Book → Book) (d : Dispatchers K) (xs : List NodeBook)
      → node_at n (follows e.node f d xs) ≡ node_at n xs
  follows_else f d xs =
      other_book (λ x. followed d.channels.channels (with_book (f x.book) x)) (λ x. refl) e.node n isnt xs

  restarted_else : (d : Dispatchers K) (xs : List NodeBook)
      → node_at n (concluded (follow_up.Restart e.node) [] d xs) ≡ node_at n xs
  restarted_else d xs =
      other_book (λ x. followed d.channels.channels (begun_anew d.channels.channels x)) (λ x. refl) e.node n
      isnt xs

  acting_else : (c : Option Command) (o : Option ChannelAct) (r : Option ℕ) (old : Dispatchers K) (told : List Line)
      (d : Dispatchers K)
      (xs : List NodeBook) → node_at n (concluded (acting e c o r old) told d xs) ≡ node_at n xs
  acting_else c (Some x) r old told d xs = follows_else
      (reported e (event_count (end_at e old))
      (asks_by c (next_id (end_at e old))) told d) d xs
  acting_else c None None old told d xs = refl
  acting_else c None (Some i) old told d xs = refl

  begun_else : (o : Option ChannelAct) (out : Bool) (told : List Line) (d : Dispatchers K) (xs : List NodeBook)
      → node_at n (concluded (if_begun o (follow_up.Halt e out)) told d xs) ≡ node_at n xs
  begun_else None out told d xs = refl
  begun_else (Some a) out told d xs = follows_else (unanswered e out) d xs

  anew_else : (o : Option ChannelAct) (told : List Line) (d : Dispatchers K) (xs : List NodeBook)
      → node_at n (concluded (if_begun o (follow_up.Restart e.node)) told d xs) ≡ node_at n xs
  anew_else None told d xs = refl
  anew_else (Some a) told d xs = restarted_else d xs

  stopped_else : (o : Option ChannelAct) (r : Option ℕ) (told : List Line) (d : Dispatchers K) (xs : List NodeBook)
      → node_at n (concluded (if_stopped o r (follow_up.Restart e.node)) told d xs) ≡ node_at n xs
  stopped_else (Some a) r told d xs = restarted_else d xs
  stopped_else None (Some i) told d xs = restarted_else d xs
  stopped_else None None told d xs = refl

  -- ---- the steps

  well : (w u : World K) → Apart w.dispatchers.channels.channels u.dispatchers.channels.channels
      → node_at n u.nodes ≡ node_at n w.nodes
      → IsWell k n w → IsWell k n u
  well w u a b h = others_well k n w u (a.open_ h.open_) (a.small h.small) a.links b h

  module _ (v : Verdict) (w : World K) (a : Act) where
    pub acts_else : node_at n (happens k v (step.Do e a) w).nodes ≡ node_at n w.nodes
    acts_else = acting_else (command_of e a w) (call_of e a w) (resumed_at e a w.dispatchers) w.dispatchers _
        (happens k v (step.Do e a) w).dispatchers (handed_out e (asked e a w) w.nodes)
        ∙ handed_else (asked e a w) w.nodes

    pub halts_else : node_at n (happens k v (step.NoMemory e a) w).nodes ≡ node_at n w.nodes
    halts_else = begun_else (unbegun e a w) (is_take a) _ (happens k v (step.NoMemory e a) w).dispatchers
        (handed_out e (asked_unbegun e a w) w.nodes) ∙ handed_else (asked_unbegun e a w) w.nodes

    pub stops_else : node_at n (happens k v (step.StopBefore e a) w).nodes ≡ node_at n w.nodes
    stops_else = anew_else (unbegun e a w) _ (happens k v (step.StopBefore e a) w).dispatchers
        (handed_out e (asked_unbegun e a w) w.nodes) ∙ handed_else (asked_unbegun e a w) w.nodes

    pub stopped_so : node_at n (happens k v (step.StopAfter e a) w).nodes ≡ node_at n w.nodes
    stopped_so = stopped_else (call_of e a w) (resumed_at e a w.dispatchers) _ (happens k v
        (step.StopAfter e a) w).dispatchers
        (handed_out e (asked e a w) w.nodes) ∙ handed_else (asked e a w) w.nodes

    pub other_acts : IsWell k n w → IsWell k n (happens k v (step.Do e a) w)
    other_acts h = well w (happens k v (step.Do e a) w) (do_apart v w.dispatchers (call_of e a w)) acts_else h

    pub other_halts : IsWell k n w → IsWell k n (happens k v (step.NoMemory e a) w)
    other_halts h = well w (happens k v (step.NoMemory e a) w) (memory_apart v w.dispatchers
        (unbegun e a w)) halts_else h

    pub other_stops : IsWell k n w → IsWell k n (happens k v (step.StopBefore e a) w)
    other_stops h = well w (happens k v (step.StopBefore e a) w) (stop_apart v w.dispatchers
        (unbegun e a w)) stops_else h

    pub other_stopped : IsWell k n w → IsWell k n (happens k v (step.StopAfter e a) w)
    other_stopped h = well w (happens k v (step.StopAfter e a) w)
        (stopped_apart v w.dispatchers (call_of e a w) (resumed_at e a w.dispatchers)) stopped_so h
