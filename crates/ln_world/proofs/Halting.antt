-- An end of the node has no memory for its act, and halts; its book hears nothing that a payment is read off.
use Rattle.std.proofs.Common.{◌≡◌, ◌⊎◌, inl, inr, ℕ, List, refl, sym, ap, ◌∙◌, subst, Bool, true, false}
use Rattle.std.proofs.Common.{cond, ◌==◌, ◌||◌, Option, Some, None, Err}
use Rattle.std.specs.Prelude.{option_map}
use Rattle.ln_keys.specs.declared.keys.ChannelKeys.{Ghosts}
use Rattle.ln_keys.specs.declared.role.Role.{Role}
use Rattle.ln_hooks.specs.declared.verdict.Verdict.{Verdict}
use Rattle.ln_channel.specs.declared.command.Command.{Command}
use Rattle.ln_channel.specs.State.{State}
use Rattle.ln_book_tables.specs.declared.entry.Out.{Out}
use Rattle.ln_book_tables.specs.Replay.{table_of}
use Rattle.ln_book.specs.Commands.{with_taken}
use Rattle.ln_world_channels.specs.declared.line.Line.{Line}
use Rattle.ln_world_channels.specs.declared.step.Act.{Act as ChannelAct}
use Rattle.ln_world_channels.specs.declared.step.Node.{Node}
use Rattle.ln_world_channels.specs.declared.step.End.{End}
use Rattle.ln_world_channels.specs.Settings.{channel_id_of}
use Rattle.ln_world_channels.specs.WorldChannel.{WorldChannel, place_of, side_of, side_may_do, halt_moves}
use Rattle.ln_world_channels.specs.World.{channel, may_act_there, may_be_done, moved_if}
use Rattle.ln_world_channels.specs.World as channels
use Rattle.ln_world_channels.specs.Promises.{Each}
use Rattle.ln_world_channels.proofs.Kept.{IsOpen, halt_kept}
use Rattle.ln_world_channels.proofs.Promised.{moved_so}
use Rattle.ln_world_dispatch.specs.declared.step.Step.TheVariants as dispatcher_step
use Rattle.ln_world_dispatch.specs.World.{World as Dispatchers, is_dispatched, moved_by as dispatcher_moved_by}
use Rattle.ln_world_channels.specs.declared.step.Step.TheVariants as channel_step
use Rattle.ln_payment.specs.Moves.{is_of}
use Rattle.ln_log.specs.declared.mark.Decision.{Decision}
use Rattle.ln_world.specs.declared.follow_up.FollowUp.TheVariants as follow_up
use Rattle.ln_world.specs.declared.step.Act.{Act}
use Rattle.ln_world.specs.declared.step.Act.TheVariants as act
use Rattle.ln_world.specs.declared.step.Step.TheVariants as step
use Rattle.ln_world.specs.World.{happens, concluded, if_begun, is_take, asked_unbegun, unbegun, lines_by, plain}
use Rattle.ln_world.specs.World.{handed_out, sent_or, command_by}
use Rattle.ln_world.specs.World.{taking, book_of, end_at}
use Rattle.std.specs.Prelude.{is_some}
use Rattle.ln_world.specs.declared.node.NodeBook.{NodeBook}
use Rattle.ln_world.specs.Node.{Book, node_at, changed, with_book}
use Rattle.ln_world.specs.Follow.{followed}
use Rattle.ln_world.specs.World.{World, id_of, first_in, moved_by, unanswered, link_by, link_there}
use Rattle.ln_payment_circuits.specs.Snapshot.{IsIn}
use Rattle.ln_payment_circuits.proofs.Links.{Side}
use Rattle.ln_payment_circuits.proofs.Halts.{halts}
use Rattle.ln_payment_circuits.proofs.Past.{past_halts, offers_same}
use Rattle.ln_payment_circuits.proofs.Agrees.{agrees_fewer, was_same}
use Rattle.ln_payment_circuits.proofs.Losses.{Drops, all_dropped, dropped}
use Rattle.ln_world.proofs.Scene.{links_of, scene_of, link_in, now, same_number, either}
use Rattle.ln_world.proofs.Lost.{halt_drops, halt_halted}
use Rattle.ln_world.proofs.Books.{own_book, follow_alike, itself, IsAlike}
use Rattle.ln_world.proofs.Same.{one_id}
use Rattle.ln_world.proofs.Anew.{AreSmall, small_all}
use Rattle.ln_world.proofs.PendingCommands.{IsCalm, calm_alike, book_turned}
use Rattle.ln_world.proofs.Wells.{IsWell, book_in, well_as}

-- a book of which a payment reads the same
pub record ReadsSame (a b : Book) : Type 0 where
  pub htlcs : (table_of b).htlcs ≡ (table_of a).htlcs
  pub queue : (table_of b).queue ≡ (table_of a).queue
  pub calm : IsCalm a → IsCalm b

pub reads_alike : (a b : Book) → IsAlike a b → ReadsSame a b
reads_alike a b k = record { htlcs = k.htlcs; queue = k.queue; calm = calm_alike a b k }

pub reads_then : (a b c : Book) → ReadsSame a b → ReadsSame b c → ReadsSame a c
reads_then a b c h k = record {
  htlcs = k.htlcs ∙ h.htlcs;
  queue = k.queue ∙ h.queue;
  calm = λ m. k.calm (h.calm m);
}

-- ---- the book's command is answered with 62

pub halted_reads : (e : End) (b : Book) (x : Out × Command) → IsCalm b
    → ReadsSame b (unanswered e true (with_taken (id_of e) (Some x) b))
halted_reads e b x calm =
    let t = book_turned (id_of e) (Err 62) x.0 b refl calm in
    record { htlcs = t.htlcs; queue = t.queue; calm = λ m. t.calm }

-- ---- where an act may be done there is a link

pub link_exists : {K : Type 0} (n : Node) (a : ChannelAct) (o : Option (WorldChannel K)) → may_act_there n a o ≡ true
    → (s : State K) × (link_there n o ≡ Some s)
link_exists n a None e = absurd (cc)
link_exists n a (Some c) e = cases (side_of n c) e
  where
    cases : (q : Option Role) → side_may_do a q c.both ≡ true → (s : State _) × (link_by c q ≡ Some s)
    cases None f = absurd (cc)
    cases (Some r) f = ((place_of r c.both).link, refl)

module _ {K : Type 0} (k : Ghosts K) (e : End) (w : World K) (h : IsWell k e.node w) where
  abbrev pub n : Node
  n = e.node

  abbrev pub cs : List (WorldChannel K)
  cs = w.dispatchers.channels.channels

  abbrev pub new : List (WorldChannel K)
  new = now k.signer n e.channel (halt_moves n) cs

  -- ---- its channels stay, or its end halts

  abbrev pub Halted : List (WorldChannel K) → Type 0
  Halted ds = (ds ≡ cs) ⊎ ((ds ≡ new) × (s : State K) × (link_in n e.channel cs ≡ Some s))

  halts_by : (a : ChannelAct) (b : Bool) → may_be_done e a cs ≡ b
      → Halted (cond b (channels.at k.signer e.channel
      (halt_moves n) w.dispatchers.channels) w.dispatchers.channels).channels
  halts_by a false is = inl refl
  halts_by a true is = let l = link_exists n a (channel e.channel cs) is in inr (refl, l.0, l.1)

  dispatched_by : (a : ChannelAct) (b : Bool)
      → Halted (dispatcher_moved_by k (cond b (Some (channel_step.NoMemory e a)) None)
      w.dispatchers.channels).channels
  dispatched_by a false = inl refl
  dispatched_by a true = halts_by a (may_be_done e a cs) refl

  pub halt_or : (v : Verdict) (o : Option ChannelAct)
      → Halted (moved_by k v (option_map (λ x. dispatcher_step.NoMemory e x) o) w.dispatchers).channels.channels
  halt_or v None = inl refl
  halt_or v (Some a) = dispatched_by a (is_dispatched e a w.dispatchers)

  -- ---- what that leaves of its payments

  pub halted_well : (u : World K) → Halted u.dispatchers.channels.channels → ReadsSame (book_in n w) (book_in n u)
      → IsWell k n u
  halted_well u (inl same_channels) b = well_as k n w u same_channels b.htlcs (b.calm h.calm) h
  halted_well u (inr x) b =
      let drops : Drops (is_of e.channel) (links_of n cs) (links_of n u.dispatchers.channels.channels) =
      subst (λ xs. Drops (is_of e.channel) (links_of n cs) (links_of n xs)) (sym x.0)
      (halt_drops k.signer n cs h.open_ n (itself n) e.channel) in
      let now : (d : ℕ) → (links_of n u.dispatchers.channels.channels).halted d
      ≡ ((d == e.channel) || (links_of n cs).halted d) = λ d. ap (λ xs. (links_of n xs).halted d) x.0
      ∙ halt_halted k.signer n cs h.open_ n (itself n) e.channel x.1 x.2 d in
      record {
        open_ = subst (Each (IsOpen k.signer)) (sym x.0)
            (moved_so k (IsOpen k.signer) e.channel (halt_moves n) (halt_kept k.signer n) cs h.open_);
        small = subst AreSmall (sym x.0)
            (small_all (moved_if k.signer e.channel (halt_moves n)) (same_number k.signer n e.channel (halt_moves n))
            cs h.small);
        calm = b.calm h.calm;
        paid = halts channel_id_of one_id (scene_of n w) (scene_of n u) e.channel drops
            now b.htlcs h.paid;
        agrees = agrees_fewer channel_id_of (scene_of n w) (scene_of n u) (record {
          links = λ c Y is d m. elim (either (c == e.channel)) [
            | inr isnt ↦ (Y, sym (drops.others c isnt) ∙ is, m)
            | inl it ↦ was_there c ((links_of n cs).sides c) refl Y (sym (drops.lost c it) ∙ is) d m
          ];
          book = λ z m. (z, subst (λ xs. IsIn z xs) b.htlcs m, was_same z);
        }) h.agrees;
        past = past_halts channel_id_of one_id (scene_of n w) (scene_of n u) e.channel drops now
            (offers_same channel_id_of (scene_of n w).book (scene_of n u).book b.htlcs) h.paid h.past;
      }
    where
      was_there : (c : ℕ) (o : Option Side) → (links_of n cs).sides c ≡ o → (Y : Side)
          → all_dropped ((links_of n cs).sides c) ≡ Some Y
          → (d : Decision) → IsIn d Y.decisions → (X : Side) × ((links_of n cs).sides c ≡ Some X) × IsIn d X.decisions
      was_there c None f Y g d m = absurd (let no : None ≡ Some Y = sym (ap all_dropped f) ∙ g in cc)
      was_there c (Some X) f Y g d m =
          let some : Some (dropped X) ≡ Some Y = sym (ap all_dropped f) ∙ g in
          let same : dropped X ≡ Y = cc in
          (X, f, subst (λ (z : Side). IsIn d z.decisions) (sym same) m)

  -- ---- the book

  -- where it gave no command
  pub book_none : (o : Option ChannelAct) (told : List Line) (d : Dispatchers K)
      → ReadsSame (book_in n w) (node_at n (concluded (if_begun o (follow_up.Halt e false)) told d w.nodes)).book
  book_none None told d = record { htlcs = refl; queue = refl; calm = λ m. m }
  book_none (Some a) told d = subst (λ (x : NodeBook). ReadsSame (book_in n w) x.book)
      (sym (own_book (λ x. followed d.channels.channels (with_book x.book x)) (λ x. refl) n w.nodes))
      (reads_alike (book_in n w) (followed d.channels.channels (node_at n w.nodes)).book
      (follow_alike d.channels.channels (node_at n w.nodes)))

  module _ (v : Verdict) where
    reads_none : (a : Act) → asked_unbegun e a w ≡ None → is_take a ≡ false
        → ReadsSame (book_in n w) (book_in n (happens k v (step.NoMemory e a) w))
    reads_none a none isnt =
        subst (λ o. ReadsSame (book_in n w) (node_at n (concluded (if_begun (unbegun e a w)
        (follow_up.Halt e (is_take a)))
        (lines_by k v (plain k (step.NoMemory e a) w) w.dispatchers) (happens k v (step.NoMemory e a) w).dispatchers
        (handed_out e o w.nodes))).book) (sym none)
        (subst (λ b. ReadsSame (book_in n w) (node_at n (concluded (if_begun (unbegun e a w) (follow_up.Halt e b))
        (lines_by k v (plain k (step.NoMemory e a) w) w.dispatchers) (happens k v
        (step.NoMemory e a) w).dispatchers w.nodes)).book)
        (sym isnt) (book_none (unbegun e a w) (lines_by k v (plain k (step.NoMemory e a) w) w.dispatchers)
        (happens k v (step.NoMemory e a) w).dispatchers))

    -- where it gave one
    taken_first : (o : Option (Out × Command)) (told : List Line) (d : Dispatchers K)
        → ReadsSame (book_in n w) (node_at n (concluded (if_begun (sent_or (option_map (λ x. x.1) o) None)
        (follow_up.Halt e true))
        told d (changed n (with_book (with_taken (id_of e) o (book_in n w))) w.nodes))).book
    taken_first None told d = subst (λ (x : NodeBook). ReadsSame (book_in n w) x.book)
        (sym (own_book (with_book (book_in n w)) (λ x. refl) n w.nodes))
        (record { htlcs = refl; queue = refl; calm = λ m. m })
    taken_first (Some x) told d =
        let b = book_in n w in
        let c = with_taken (id_of e) (Some x) b in
        let y = with_book c (node_at n w.nodes) in
        let z = with_book (unanswered e true c) y in
        subst (λ (q : NodeBook). ReadsSame b q.book)
        (sym (own_book (λ q. followed d.channels.channels (with_book (unanswered e true q.book) q)) (λ q. refl) n
        (changed n (with_book c) w.nodes)
        ∙ ap (λ q. followed d.channels.channels (with_book (unanswered e true q.book) q))
        (own_book (with_book c) (λ q. refl) n w.nodes)))
        (reads_then b (unanswered e true c) (followed d.channels.channels z).book (halted_reads e b x h.calm)
        (reads_alike (unanswered e true c) (followed d.channels.channels z).book (follow_alike d.channels.channels z)))

    taken_by : (t : Bool) (told : List Line) (d : Dispatchers K)
        → ReadsSame (book_in n w) (node_at n (concluded (if_begun
        (sent_or (command_by e (taking t (book_of e w.nodes))) None)
        (follow_up.Halt e true)) told d (handed_out e (taking t (book_of e w.nodes)) w.nodes))).book
    taken_by false told d = record { htlcs = refl; queue = refl; calm = λ m. m }
    taken_by true told d = taken_first (first_in e (book_in n w)) told d

    pub halts_read : (a : Act) → ReadsSame (book_in n w) (book_in n (happens k v (step.NoMemory e a) w))
    halts_read act.Deliver = reads_none act.Deliver refl refl
    halts_read (act.Send c) = reads_none (act.Send c) refl refl
    halts_read act.Decide = reads_none act.Decide refl refl
    halts_read (act.Resume i x) = reads_none (act.Resume i x) refl refl
    halts_read act.Take =
        taken_by (is_some (end_at e w.dispatchers)) (lines_by k v (plain k (step.NoMemory e act.Take) w) w.dispatchers)
        (happens k v (step.NoMemory e act.Take) w).dispatchers

    pub act_halts : (a : Act) → IsWell k n (happens k v (step.NoMemory e a) w)
    act_halts a = halted_well (happens k v (step.NoMemory e a) w) (halt_or v (unbegun e a w)) (halts_read a)
