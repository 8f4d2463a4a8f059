-- A node's end loses its connection, and its book hears what the end has kept.
use Rattle.std.proofs.Common.{◌≡◌, inl, inr, ℕ, List, [], ◌∷◌, map, refl, sym, ap, ◌∙◌, subst, Bool, true, false}
use Rattle.std.proofs.Common.{not, cond, ◌==◌, ◌&&◌, nat_le, Option, Some, None}
use Rattle.std.specs.Prelude.{option_map}
use Rattle.std.proofs.lemmas.Bool.{eqb-true}
use Rattle.ln_keys.specs.declared.keys.ChannelKeys.{Ghosts}
use Rattle.ln_hooks.specs.declared.verdict.Verdict.{Verdict}
use Rattle.ln_channel.specs.End.{End as ChannelEnd, end_dropped}
use Rattle.ln_channel.specs.Record.{saved_end}
use Rattle.ln_channel.specs.State.{State}
use Rattle.ln_history.specs.History.{with_entry}
use Rattle.ln_book_tables.specs.declared.htlc.Htlc.{Htlc}
use Rattle.ln_book_tables.specs.declared.htlc.Key.{Key}
use Rattle.ln_payment.specs.Rebuild.{is_uncovered}
use Rattle.ln_book_tables.specs.declared.htlc.OutgoingLeg.TheVariants as outgoing
use Rattle.ln_book_tables.specs.declared.entry.KeptState.{KeptState}
use Rattle.ln_book_tables.specs.declared.entry.PendingCommand.TheVariants as pending_command
use Rattle.ln_book_tables.specs.declared.entry.Entry.TheVariants as entry
use Rattle.ln_book_tables.specs.Replay.{Table, table_of, pending_command_at, htlc_kept, put_back_all, kept_at, is_among}
use Rattle.ln_book_tables.specs.Replay.{is_outgoing_lost}
use Rattle.ln_book.specs.Kept.{has_own_removal}
use Rattle.ln_book.specs.Uses.{kept_of}
use Rattle.ln_world_channels.specs.declared.step.Node.{Node}
use Rattle.ln_world_channels.specs.declared.step.End.{End}
use Rattle.ln_world_channels.specs.Settings.{channel_id_of}
use Rattle.ln_world_channels.specs.WorldChannel.{WorldChannel, disconnect_moves}
use Rattle.ln_world_channels.specs.Promises.{Each}
use Rattle.ln_world_channels.proofs.Kept.{IsOpen, fall_kept}
use Rattle.ln_world_channels.proofs.Promised.{moved_so}
use Rattle.ln_world.specs.declared.node.NodeBook.{NodeBook}
use Rattle.ln_world.specs.declared.step.Step.TheVariants as step
use Rattle.ln_world.specs.Node.{Book, node_at, with_book}
use Rattle.ln_world.specs.Follow.{followed}
use Rattle.ln_world.specs.World.{World, happens, id_of, disconnected, dropped, saved_dropped, saved_of}
use Rattle.ln_payment.specs.Parts.{Note, Offered, Among, IsAt}
use Rattle.ln_payment.specs.Moves.{is_of}
use Rattle.ln_payment_circuits.specs.Snapshot.{Incoming, IsIn, IsFit}
use Rattle.ln_payment_circuits.proofs.Links.{Side, Links, HasAddAt, course_at, removal_at}
use Rattle.ln_payment_circuits.proofs.Losses.{Drops}
use Rattle.ln_payment_circuits.proofs.Kept.{none_kept}
use Rattle.ln_payment_circuits.proofs.Shifts.{side_of as read_side}
use Rattle.ln_payment_circuits.proofs.Entries.{is_same}
use Rattle.ln_payment_circuits.proofs.Scenes.{Scene, HasPayment, HavePayments, comes_back, awake_there, works_still}
use Rattle.ln_payment_circuits.proofs.Resumed.{HoldAlike}
use Rattle.ln_payment_circuits.proofs.Agrees.{agrees_fewer}
use Rattle.ln_payment_circuits.proofs.Past.{IsPast, OffersNothing, past_on, offers_as, offers_map}
use Rattle.ln_world.proofs.Scene.{link_in, links_of, scene_of, linked, now, no_node, either}
use Rattle.ln_world.proofs.Lost.{link_is, side_is, halted_is, down_drops, down_halted, link_now}
use Rattle.ln_world.proofs.Lost.{fall_leaves}
use Rattle.ln_world.proofs.Books.{own_book, follow_alike, one_more, itself}
use Rattle.ln_world.proofs.Same.{IsSame, same_paid, same_agrees, same_past, one_id}
use Rattle.ln_payment_circuits.proofs.Told.{covered, gone, none_removed}
use Rattle.ln_world_channels.specs.Both.{Disconnects}
use Rattle.ln_world.proofs.Answering.{LinkIs}
use Rattle.ln_world.proofs.Moving.{falls_side}

-- nothing is out for this channel
abbrev pub IsIdle : ℕ → Book → Type 0
IsIdle c b = pending_command_at (channel_id_of c) (table_of b) ≡ pending_command.Idle

map_among : (f : Htlc → Htlc) (x : Htlc) (xs : List Htlc) → IsIn x (map f xs) → (y : Htlc) × IsIn y xs × (f y ≡ x)
map_among f x [] m = absurd m
map_among f x (y ∷ ys) (inl e) = (y, inl refl, e)
map_among f x (y ∷ ys) (inr m) = let r = map_among f x ys m in (r.0, inr r.1, r.2)

-- what a lost connection enters
pub dropped_htlcs : (c : List ℕ) (told : KeptState) (b : Book)
    → pending_command_at c (table_of b) ≡ pending_command.Idle
    → (table_of (with_entry (entry.Dropped c told) b)).htlcs ≡ map (htlc_kept c told) (table_of b).htlcs
dropped_htlcs c told b idle =
    ap (λ (t : Table). t.htlcs) (one_more (entry.Dropped c told) b)
    ∙ ap (λ d. (put_back_all c told (kept_at c told.decides d (table_of b))).htlcs) idle

-- ---- what is kept of a node's payments

pub record AreStill (s : Scene) : Type 0 where
  pub paid : HavePayments channel_id_of s
  pub agrees : HoldAlike channel_id_of s
  pub past : IsPast channel_id_of s

pub same_still : (s t : Scene) → IsSame s t → AreStill s → AreStill t
same_still s t e h = record {
  paid = same_paid channel_id_of s t e h.paid;
  agrees = same_agrees channel_id_of s t e h.agrees;
  past = same_past channel_id_of s t e h.past;
}

-- ---- an end without its connection, whose link works still, or again: its book is told what it has kept

module _ (c : ℕ) (l m : Links) (b : Book) (ys : List Htlc) (x : ChannelEnd) (x_fit : IsFit x)
    (y_fit : IsFit (end_dropped x)) (x_side : l.sides c ≡ Some (read_side x))
    (y_side : m.sides c ≡ Some (read_side (end_dropped x))) (drops : Drops (is_of c) l m)
    (now : (d : ℕ) → m.halted d ≡ (not (d == c) && l.halted d))
    (book : ys ≡ map (htlc_kept (channel_id_of c) (kept_of (channel_id_of c) (end_dropped x) b)) (table_of b).htlcs)
    -- what the book has offered there, below the next id, is there
    (offered : (h : Incoming) (p : HasPayment channel_id_of h (record { links = l; book = (table_of b).htlcs }))
    (f : Note) (i : ℕ) → p.0.note ≡ Some f → f.outgoing ≡ Offered c i
    → nat_le (kept_of (channel_id_of c) (end_dropped x) b).next i ≡ false → Among (IsAt c i) p.0.outs) where
  abbrev was : Scene
  was = record { links = l; book = (table_of b).htlcs }

  abbrev is : Scene
  is = record { links = m; book = ys }

  abbrev kept : KeptState
  kept = kept_of (channel_id_of c) (end_dropped x) b

  still_paid : HavePayments channel_id_of was → HavePayments channel_id_of is
  still_paid = comes_back channel_id_of one_id was is c kept drops now book
      (λ i lt. ap (λ o. is_uncovered (course_at i o)) x_side ∙ covered x x_fit i lt)
      (λ o i le a. gone x x_fit o i le (subst (HasAddAt o i) y_side a))
      (λ z i z_in key none. ap (removal_at i) y_side ∙ none_removed (end_dropped x) y_fit i
      (sym (ap (λ (j : Key). has_own_removal j.id (end_dropped x).dance.log) key)
      ∙ none_kept (λ j. has_own_removal j (end_dropped x).dance.log) (channel_id_of c) was.book z z_in
      (is_same (channel_id_of c) z.key.channel (sym (ap (λ (j : Key). j.channel) key)))
      (ap (λ (j : Key). is_among j.id kept.removes) key ∙ none))) offered

  still_agrees : HoldAlike channel_id_of was → HoldAlike channel_id_of is
  still_agrees = agrees_fewer channel_id_of was is (record {
    links = λ d Y at z z_in. elim (either (d == c)) [
      | inr isnt ↦ (Y, sym (drops.others d isnt) ∙ at, z_in)
      | inl here ↦ (
        read_side x,
        ap l.sides (eqb-true d c here) ∙ x_side,
        subst (λ (y : Side). IsIn z y.decisions)
            (let same_side : Some Y ≡ Some (read_side (end_dropped x)) =
            sym at ∙ ap m.sides (eqb-true d c here) ∙ y_side in
            let it_is : Y ≡ read_side (end_dropped x) = cc in it_is) z_in,
      )
    ];
    book = λ z z_in. let r = map_among (htlc_kept (channel_id_of c) kept) z was.book (subst (IsIn z) book z_in) in (
      r.0,
      r.1,
      record {
        key = ap (λ (q : Htlc). q.key) r.2;
        mark = ap (λ (q : Htlc). q.mark) r.2;
        decided = λ dec. ap (λ (q : Htlc). q.decided) r.2 ∙ dec;
      },
    );
  })

  -- nothing goes out that didn't
  none_new : OffersNothing channel_id_of (htlc_kept (channel_id_of c) kept)
  none_new z k dec = cases (is_outgoing_lost (channel_id_of c) kept.next z.outgoing)
    where
      cases : (t : Bool) → cond t outgoing.Absent z.outgoing ≡ outgoing.Offered k
          → (z.key ≡ z.key) × (z.decided ≡ true) × (z.outgoing ≡ outgoing.Offered k)
      cases true f = absurd (cc)
      cases false f = (refl, dec, f)

  still_past : IsPast channel_id_of was → IsPast channel_id_of is
  still_past = past_on channel_id_of was is
      (λ d halted. elim (either (d == c)) [
        | inl here ↦ absurd (let no : true ≡ false = sym halted ∙ now d ∙ ap (λ t. not t && l.halted d) here in cc)
        | inr isnt ↦ (sym (ap (λ t. not t && l.halted d) isnt) ∙ sym (now d) ∙ halted, drops.others d isnt)
      ])
      (λ q d i y halted. offers_as channel_id_of was.book (map (htlc_kept (channel_id_of c) kept) was.book) ys book
      (offers_map channel_id_of (htlc_kept (channel_id_of c) kept) none_new was.book) q d i y)

  pub still_there : AreStill was → AreStill is
  still_there h = record {
    paid = still_paid h.paid;
    agrees = still_agrees h.agrees;
    past = still_past h.past;
  }

module _ {K : Type 0} (k : Ghosts K) (e : End) (w : World K)
    (open_ : Each (IsOpen k.signer) w.dispatchers.channels.channels) where
  abbrev n : Node
  n = e.node

  abbrev cs : List (WorldChannel K)
  cs = w.dispatchers.channels.channels

  abbrev new : List (WorldChannel K)
  new = now k.signer n e.channel (disconnect_moves n) cs

  abbrev b : Book
  b = (node_at n w.nodes).book

  abbrev before : Scene
  before = scene_of n w

  abbrev behind : Verdict → Scene
  behind v = scene_of n (happens k v (step.Down e) w)

  new_open : Each (IsOpen k.signer) new
  new_open = moved_so k (IsOpen k.signer) e.channel (disconnect_moves n) (fall_kept k.signer n) cs open_

  drops_so : Drops (is_of e.channel) (links_of n cs) (links_of n new)
  drops_so = down_drops k.signer n cs open_ n (itself n) e.channel

  halted_so : (d : ℕ) → (links_of n new).halted d ≡ (links_of n cs).halted d
  halted_so = down_halted k.signer n cs open_ n (itself n) e.channel

  -- ---- where the node has no such end

  module _ (none : link_in n e.channel cs ≡ None) (v : Verdict) where
    none_now : link_in n e.channel new ≡ None
    none_now = no_node k.signer n Disconnects falls_side n e.channel cs (itself n) none

    none_same : IsSame before (behind v)
    none_same = record {
      sides = λ d. elim (either (d == e.channel)) [
        | inl is ↦ ap (λ j. option_map read_side (saved_of (link_in n j new))) (eqb-true d e.channel is)
            ∙ ap (λ o. option_map read_side (saved_of o)) (none_now ∙ sym none)
            ∙ sym (ap (λ j. option_map read_side (saved_of (link_in n j cs))) (eqb-true d e.channel is))
        | inr isnt ↦ drops_so.others d isnt
      ];
      halted = halted_so;
      book =
          ap (λ o. (table_of (node_at n (disconnected e (happens k v
          (step.Down e) w).dispatchers o w.nodes)).book).htlcs) none_now;
    }

  -- ---- where it has

  module _ (s : State K) (there : link_in n e.channel cs ≡ Some s) (t : State K)
      (now_there : link_in n e.channel new ≡ Some t)
      (x : ChannelEnd) (x_fit : IsFit x) (x_side : (links_of n cs).sides e.channel ≡ Some (read_side x))
      (y_fit : IsFit (end_dropped x)) (h : Bool) (at : LinkIs t (end_dropped x) h)
      (halted : (links_of n cs).halted e.channel ≡ h) (v : Verdict) where
    book_now : (behind v).book ≡ (table_of (dropped e t b)).htlcs
    book_now =
        ap (λ o. (table_of (node_at n (disconnected e (happens k v
        (step.Down e) w).dispatchers o w.nodes)).book).htlcs) now_there
        ∙ ap (λ (z : NodeBook). (table_of z.book).htlcs)
        (own_book (λ z. followed new (with_book (dropped e t z.book) z)) (λ z. refl) n w.nodes)
        ∙ (follow_alike new (with_book (dropped e t b) (node_at n w.nodes))).htlcs

    y_side : (links_of n new).sides e.channel ≡ Some (read_side (end_dropped x))
    y_side = ap (λ o. option_map read_side (saved_of o)) now_there
        ∙ ap (option_map read_side) (linked t (end_dropped x) h at)

    -- one that has halted has disconnected before
    halted_same : h ≡ true → end_dropped x ≡ x → IsSame before (behind v)
    halted_same is fell = record {
      sides = λ d. elim (either (d == e.channel)) [
        | inl it ↦ ap (links_of n new).sides (eqb-true d e.channel it) ∙ y_side ∙ ap (λ z. Some (read_side z)) fell
            ∙ sym x_side ∙ sym (ap (links_of n cs).sides (eqb-true d e.channel it))
        | inr isnt ↦ drops_so.others d isnt
      ];
      halted = halted_so;
      book = book_now ∙ ap (λ z. (table_of (cond z b (saved_dropped e (saved_end t.stage) b))).htlcs) (at.halted ∙ is);
    }

    -- one that works
    module _ (awake : h ≡ false) (idle : IsIdle e.channel b) where
      abbrev pub told : KeptState
      told = kept_of (id_of e) (end_dropped x) b

      book_dropped : (behind v).book ≡ map (htlc_kept (channel_id_of e.channel) told) before.book
      book_dropped = book_now
          ∙ ap (λ z. (table_of (cond z b (saved_dropped e (saved_end t.stage) b))).htlcs) (at.halted ∙ awake)
          ∙ ap (λ z. (table_of (saved_dropped e z b)).htlcs) (ap saved_end at.stage)
          ∙ dropped_htlcs (channel_id_of e.channel) told b idle

      pub fallen : AreStill before → AreStill (behind v)
      fallen = still_there e.channel (links_of n cs) (links_of n new) b (behind v).book x x_fit y_fit x_side y_side
          drops_so (works_still channel_id_of e.channel before (behind v) (halted ∙ awake) halted_so) book_dropped
          (λ q p f i note to near. awake_there channel_id_of e.channel before (halted ∙ awake) q p f i note to)

  -- ---- all of it

  pub down : (v : Verdict) → IsIdle e.channel b → AreStill before → AreStill (behind v)
  down v idle p = cases (link_in n e.channel cs) refl
    where
      cases : (o : Option (State K)) → link_in n e.channel cs ≡ o → AreStill (behind v)
      cases None none = same_still before (behind v) (none_same none v) p
      cases (Some s) there =
          let h = link_is k.signer n cs open_ e.channel s there in
          let q = link_now k.signer n cs open_ n (itself n) e.channel Disconnects falls_side (λ z. z)
          (fall_leaves k.signer n cs open_) s there in
          let j = link_is k.signer n new new_open e.channel q.0 q.1 in
          let some : Some j.end ≡ Some (end_dropped h.end) =
          sym (ap (λ (z : State K). saved_end z.stage) j.link) ∙ ap saved_end q.2.stage in
          let same_end : j.end ≡ end_dropped h.end = cc in
          let f = h.is.fit in
          let sd = side_is k.signer n cs open_ e.channel s there in
          let y = subst IsFit same_end j.is.fit in
          let hs = halted_is k.signer n cs open_ e.channel s there in
          elim (either h.halted) [
            | inl is ↦ same_still before (behind v)
                (halted_same s there q.0 q.1 h.end f sd y h.halted q.2 hs v is (h.dropped (h.down is))) p
            | inr awake ↦ fallen s there q.0 q.1 h.end f sd y h.halted q.2 hs v awake idle p
          ]
