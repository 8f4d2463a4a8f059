-- The steps in which a node's payments have no part, and lost connections and ends without memory, keep it orderly.
use Rattle.std.proofs.Common.{◌≡◌, inl, inr, ℕ, List, [], ◌∷◌, map, refl, sym, ap, ◌∙◌, subst, arith}
use Rattle.std.proofs.Common.{Bool, true, false, cond, not, ◌++◌, ◌-◌, ◌==◌, ◌||◌, nat_le, Option, Some, None}
use Rattle.std.specs.Prelude.{option_map}
use Rattle.std.proofs.lemmas.Bool.{eqb-true}
use Rattle.std.proofs.lemmas.List.{length-append}
use Rattle.ln_keys.specs.declared.keys.ChannelKeys.{Ghosts}
use Rattle.ln_keys.specs.declared.role.Role.{Role}
use Rattle.ln_keys.specs.Signer.{Signer}
use Rattle.ln_hooks.specs.declared.event.ChannelEvent.{ChannelEvent}
use Rattle.ln_hooks.specs.declared.verdict.Verdict.{Verdict}
use Rattle.ln_forward.specs.declared.checks.Policy.{Policy}
use Rattle.ln_history.specs.History.{with_entry}
use Rattle.ln_close.specs.declared.closing.Fees.{Fees}
use Rattle.ln_log.specs.declared.opening.Limits.{Limits}
use Rattle.ln_channel.specs.End.{End as ChannelEnd, end_dropped}
use Rattle.ln_channel.specs.Record.{saved_end}
use Rattle.ln_channel.specs.State.{State}
use Rattle.ln_book_tables.specs.declared.entry.Invoice.{Invoice}
use Rattle.ln_book_tables.specs.declared.entry.KeptState.{KeptState}
use Rattle.ln_book_tables.specs.declared.entry.Queued.{Queued}
use Rattle.ln_book_tables.specs.declared.entry.Entry.TheVariants as entry
use Rattle.ln_book_tables.specs.declared.entry.PendingCommand.TheVariants as pending_command
use Rattle.ln_book_tables.specs.declared.htlc.Htlc.{Htlc}
use Rattle.ln_book_tables.specs.declared.htlc.Offer.{Offer}
use Rattle.ln_book_tables.specs.declared.htlc.OutgoingLeg.TheVariants as outgoing
use Rattle.ln_book_tables.specs.Replay.{Table, table_of, pending_command_at, put_back_all, kept_at, htlc_kept, same}
use Rattle.ln_book_tables.specs.Replay.{is_outgoing_lost, incoming_kept, is_among}
use Rattle.ln_world_channels.specs.declared.step.Act.{Act as ChannelAct}
use Rattle.ln_world_channels.specs.declared.step.Node.{Node}
use Rattle.ln_world_channels.specs.declared.step.End.{End}
use Rattle.ln_world_channels.specs.Both.{Both, Move, Disconnects, Halts, moves}
use Rattle.ln_world_channels.specs.WorldChannel.{WorldChannel, is_node, place_of}
use Rattle.ln_world_channels.specs.World.{channel}
use Rattle.ln_world_channels.specs.Promises.{Each}
use Rattle.ln_world_channels.proofs.Kept.{IsOpen}
use Rattle.ln_world_dispatch.specs.declared.step.Step.TheVariants as dispatcher_step
use Rattle.ln_world_dispatch.specs.Dispatcher.{Dispatcher, serving, registered, at_dispatcher}
use Rattle.ln_world_dispatch.specs.World.{World as Dispatchers, item, both_of, next_event, served_at, may_register}
use Rattle.ln_book.specs.Uses.{kept_of}
use Rattle.ln_world.specs.declared.node.NodeBook.{NodeBook}
use Rattle.ln_world.specs.declared.step.Act.{Act}
use Rattle.ln_world.specs.declared.step.Step.TheVariants as step
use Rattle.ln_world.specs.Node.{Book, node_at, with_policy, with_book}
use Rattle.ln_world.specs.Follow.{followed}
use Rattle.ln_world.specs.World.{World, happens, is_height, moved_by, unbegun, disconnected, dropped, saved_dropped}
use Rattle.ln_world.specs.World.{id_of, link_at}
use Rattle.ln_world.specs.World.{saved_of}
use Rattle.ln_payment_circuits.specs.Snapshot.{IsIn}
use Rattle.ln_world.proofs.Answering.{LinkIs}
use Rattle.ln_world.proofs.Ends.{IsLink}
use Rattle.ln_world.proofs.Moving.{IsOfSide}
use Rattle.ln_world.proofs.Scene.{link_in, linked, now, of_node, no_node, elsewhere, either}
use Rattle.ln_world.proofs.Lost.{link_is, link_now, fall_leaves, halt_leaves}
use Rattle.ln_world.proofs.Books.{own_book, follow_alike, itself, alike, IsAlike}
use Rattle.ln_world.proofs.Books as books
use Rattle.ln_world.proofs.PendingCommands.{IsCalm}
use Rattle.ln_world.proofs.Downs.{dropped_htlcs}
use Rattle.ln_world.proofs.Wells.{IsWell, book_in, set_alike, height_by}
use Rattle.ln_world.proofs.Wells as wells
use Rattle.ln_world.proofs.Halting.{Halted, halt_or, halts_read, act_halts}
use Rattle.ln_world.proofs.Meeting.{all_same, met_alike, up_well, new as met_new}
use Rattle.ln_world.proofs.Falling.{down_well}
use Rattle.ln_world.proofs.Dispatched.{item_front}
use Rattle.ln_world.proofs.Orderly.{IsOrderly, view_of, OneLater, IsLater, AreLater, Any, DispatchersLater, orderly}
use Rattle.ln_world.proofs.Orderly.{orderly_alike, stays_later, alike_later, ends_later, names_dropped, one_moves}
use Rattle.ln_world.proofs.Orderly.{later_same, later_then, later_mapped, later_as, dispatchers_stay, below_more}
use Rattle.ln_world.proofs.Orderly.{offer_in}
use Rattle.ln_world.proofs.Moving.{falls_side, halts_side}
use Rattle.ln_world.proofs.Books.{entry_alike}

-- all that is kept of a node in a world
pub record Holds {K : Type 0} (k : Ghosts K) (n : Node) (w : World K) : Type 0 where
  pub well : IsWell k n w
  pub order : IsOrderly (view_of n w)

-- ---- links that lose their connection

module _ {K : Type 0} (signer : K → Signer) (n : Node) (cs : List (WorldChannel K)) (open_ : Each (IsOpen signer) cs)
    (m : Node) (own : is_node m n ≡ true) (at : ℕ) (act : Role → Move) (of : (s : Role) → IsOfSide (act s) s)
    (after : Bool → Bool)
    (leaves : (id : List ℕ) (r : Role) (p : Both K) (h : IsLink id (place_of r p).link)
    → LinkIs (place_of r (moves signer id (act r) p)).link (end_dropped h.end) (after h.halted)) where
  abbrev new : List (WorldChannel K)
  new = now signer n at (of_node signer m act of) cs

  one_later : (o : Option (State K)) → link_in n at cs ≡ o → OneLater (link_in n at cs) (link_in n at new)
  one_later None e = stays_later (link_in n at cs) (link_in n at new) (no_node signer m act of n at cs own e ∙ sym e)
  one_later (Some s) e =
      let h = link_is signer n cs open_ at s e in
      let k = link_now signer n cs open_ m own at act of after leaves s e in
      ends_later (link_in n at cs) (link_in n at new) h.end (end_dropped h.end)
      (ap saved_of e ∙ ap (λ (z : State K). saved_end z.stage) h.link)
      (ap saved_of k.1 ∙ linked k.0 (end_dropped h.end) (after h.halted) k.2)
      (omega arith) (names_dropped h.end)

  pub lost_later : (d : ℕ) → OneLater (link_in n d cs) (link_in n d new)
  lost_later d = elim (either (d == at)) [
    | inr isnt ↦ stays_later (link_in n d cs) (link_in n d new)
        (elsewhere signer n at (of_node signer m act of) d isnt cs)
    | inl is ↦ subst (λ j. OneLater (link_in n j cs) (link_in n j new)) (sym (eqb-true d at is))
        (one_later (link_in n at cs) refl)
  ]

-- ---- what a lost connection enters

-- one that waits stays as it is
kept_later : (c : List ℕ) (told : KeptState) (x : Htlc) → IsLater Any x (htlc_kept c told x)
kept_later c told x = record {
  key = refl;
  event = refl;
  was = λ e. (e, refl);
  waits = λ known new. (
    new.0,
    ap (λ w. cond (is_outgoing_lost c told.next w) outgoing.Absent w) new.1,
    ap (incoming_kept (not (same c x.key.channel) || is_among x.key.id told.removes)) new.2,
  );
}

pub record BookLater (a b : Book) : Type 0 where
  pub queue : (q : Queued) → IsIn q (table_of b).queue → IsIn q (table_of a).queue
  pub htlcs : AreLater Any (table_of a).htlcs (table_of b).htlcs

pub book_alike : (a b : Book) → IsAlike a b → BookLater a b
book_alike a b h = record {
  queue = λ q m. subst (IsIn q) h.queue m;
  htlcs = later_as Any (table_of a).htlcs (table_of a).htlcs (table_of b).htlcs h.htlcs
      (later_same Any (table_of a).htlcs);
}

pub book_then : (a b c : Book) → BookLater a b → BookLater b c → BookLater a c
book_then a b c h k = record {
  queue = λ q m. h.queue q (k.queue q m);
  htlcs = later_then Any (λ x y e known. tt) (table_of a).htlcs (table_of b).htlcs (table_of c).htlcs h.htlcs k.htlcs;
}

dropped_later : (c : List ℕ) (told : KeptState) (b : Book) → pending_command_at c (table_of b) ≡ pending_command.Idle
    → BookLater b (with_entry (entry.Dropped c told) b)
dropped_later c told b idle = record {
  queue = λ q m. subst (IsIn q) (ap (λ (t : Table). t.queue) (books.one_more (entry.Dropped c told) b)
      ∙ ap (λ d. (put_back_all c told (kept_at c told.decides d (table_of b))).queue) idle) m;
  htlcs = later_as Any (table_of b).htlcs (map (htlc_kept c told) (table_of b).htlcs)
      (table_of (with_entry (entry.Dropped c told) b)).htlcs (dropped_htlcs c told b idle)
      (later_mapped Any (htlc_kept c told) (kept_later c told) (table_of b).htlcs);
}

saved_later : (e : End) (o : Option ChannelEnd) (b : Book) → IsCalm b → BookLater b (saved_dropped e o b)
saved_later e None b h = book_alike b b (alike b)
saved_later e (Some x) b h = dropped_later (id_of e) (kept_of (id_of e) x b) b (h (id_of e))

module _ {K : Type 0} where
  pub fallen_later : (e : End) (d : Dispatchers K) (o : Option (State K)) (xs : List NodeBook)
      → IsCalm (node_at e.node xs).book
      → BookLater (node_at e.node xs).book (node_at e.node (disconnected e d o xs)).book
  fallen_later e d None xs h =
      book_alike (node_at e.node xs).book (node_at e.node xs).book (alike (node_at e.node xs).book)
  fallen_later e d (Some l) xs h =
      let b = (node_at e.node xs).book in
      let f = with_book (dropped e l b) (node_at e.node xs) in
      subst (λ (z : NodeBook). BookLater b z.book)
      (sym (own_book (λ z. followed d.channels.channels (with_book (dropped e l z.book) z)) (λ z. refl) e.node xs))
      (book_then b f.book (followed d.channels.channels f).book (cases l.halted)
      (book_alike f.book (followed d.channels.channels f).book (follow_alike d.channels.channels f)))
    where
      cases : (t : Bool) → BookLater (node_at e.node xs).book
          (cond t (node_at e.node xs).book (saved_dropped e (saved_end l.stage) (node_at e.node xs).book))
      cases true = book_alike (node_at e.node xs).book (node_at e.node xs).book (alike (node_at e.node xs).book)
      cases false = saved_later e (saved_end l.stage) (node_at e.node xs).book h

-- what was dispatched stays so
told_more : (b : Bool) (x : Option ChannelEvent) (y : Option Verdict) (p : Option ChannelEvent) (q : Option Verdict)
    (o : Offer) → ((z : ChannelEvent) → x ≡ Some z → p ≡ Some z) → ((z : Verdict) → y ≡ Some z → q ≡ Some z)
    → offer_in (cond b (both_of x y) None) ≡ Some o → offer_in (cond b (both_of p q) None) ≡ Some o
told_more false x y p q o event verdict e = e
told_more true None None p q o event verdict e = absurd (cc)
told_more true None (Some y) p q o event verdict e = absurd (cc)
told_more true (Some x) None p q o event verdict e = absurd (cc)
told_more true (Some x) (Some y) p q o event verdict e =
    subst (λ z. offer_in (both_of z q) ≡ Some o) (sym (event x refl))
    (subst (λ z. offer_in (both_of (Some x) z) ≡ Some o) (sym (verdict y refl)) e)

module _ {K : Type 0} (k : Ghosts K) where
  same_links : (n : Node) (cs ds : List (WorldChannel K)) → ds ≡ cs → (c : ℕ)
      → OneLater (link_in n c cs) (link_in n c ds)
  same_links n cs ds e c = stays_later (link_in n c cs) (link_in n c ds) (ap (link_in n c) e)

  -- ---- the node's own ends

  pub down_holds : (e : End) (v : Verdict) (w : World K) → Holds k e.node w
      → Holds k e.node (happens k v (step.Down e) w)
  down_holds e v w h =
      let cs = w.dispatchers.channels.channels in
      let u = happens k v (step.Down e) w in
      let b = fallen_later e u.dispatchers (link_at e u.dispatchers.channels.channels) w.nodes h.well.calm in
      record {
        well = down_well k e v w h.well;
        order = orderly e.node w u
            (lost_later k.signer e.node cs h.well.open_ e.node (itself e.node) e.channel Disconnects
            falls_side (λ z. z) (fall_leaves k.signer e.node cs h.well.open_)) b.queue b.htlcs
            (dispatchers_stay e.node w.dispatchers.dispatchers) h.order;
      }

  memory_dispatchers : (e : End) (v : Verdict) (d : Dispatchers K) (o : Option ChannelAct)
      → (moved_by k v (option_map (λ x. dispatcher_step.NoMemory e x) o) d).dispatchers ≡ d.dispatchers
  memory_dispatchers e v d None = refl
  memory_dispatchers e v d (Some a) = refl

  pub memory_holds : (e : End) (v : Verdict) (w : World K) (a : Act) → Holds k e.node w
      → Holds k e.node (happens k v (step.NoMemory e a) w)
  memory_holds e v w a h =
      let n = e.node in
      let cs = w.dispatchers.channels.channels in
      let u = happens k v (step.NoMemory e a) w in
      let b = halts_read k e w h.well v a in
      record {
        well = act_halts k e w h.well v a;
        order = orderly n w u (links u.dispatchers.channels.channels (halt_or k e w h.well v (unbegun e a w)))
            (λ q m. subst (IsIn q) b.queue m)
            (later_as Any (view_of n w).htlcs (view_of n w).htlcs (view_of n u).htlcs b.htlcs
            (later_same Any (view_of n w).htlcs))
            (subst (DispatchersLater n w.dispatchers.dispatchers)
            (sym (memory_dispatchers e v w.dispatchers (unbegun e a w)))
            (dispatchers_stay n w.dispatchers.dispatchers)) h.order;
      }
    where
      links : (ds : List (WorldChannel K)) → Halted k e w h.well ds
          → (c : ℕ) → OneLater (link_in e.node c w.dispatchers.channels.channels) (link_in e.node c ds)
      links ds (inl same) c = same_links e.node w.dispatchers.channels.channels ds same c
      links ds (inr x) c =
          subst (λ xs. OneLater (link_in e.node c w.dispatchers.channels.channels) (link_in e.node c xs)) (sym x.0)
          (lost_later k.signer e.node w.dispatchers.channels.channels h.well.open_ e.node
          (itself e.node) e.channel Halts
          halts_side (λ z. true)
          (halt_leaves k.signer e.node w.dispatchers.channels.channels h.well.open_) c)

  -- ---- what is set, and what dispatchers do

  module _ (n : Node) (v : Verdict) (w : World K) where
    set_holds : (u : World K) → IsWell k n u → u.dispatchers.channels.channels ≡ w.dispatchers.channels.channels
        → IsAlike (book_in n w) (book_in n u)
        → DispatchersLater n w.dispatchers.dispatchers u.dispatchers.dispatchers → Holds k n w → Holds k n u
    set_holds u well same b dispatchers h = record {
      well = well;
      order =
          orderly_alike n w u (same_links n w.dispatchers.channels.channels u.dispatchers.channels.channels same) b
          dispatchers h.order;
    }

    pub policy_holds : (m : Node) (p : Policy) → Holds k n w → Holds k n (happens k v (step.Policy m p) w)
    policy_holds m p h = set_holds (happens k v (step.Policy m p) w) (wells.policy_well k n v w m p h.well) refl
        (set_alike k n v w m (with_policy p) (λ x. refl) (λ x. alike x.book))
        (dispatchers_stay n w.dispatchers.dispatchers) h

    pub expect_holds : (m : Node) (i : Invoice) → Holds k n w → Holds k n (happens k v (step.Expect m i) w)
    expect_holds m i h = set_holds (happens k v (step.Expect m i) w) (wells.expect_well k n v w m i h.well) refl
        (set_alike k n v w m (λ b. with_book (with_entry (entry.Expect i) b.book) b) (λ x. refl)
        (λ x. entry_alike (entry.Expect i) x.book refl refl refl)) (dispatchers_stay n w.dispatchers.dispatchers) h

    pub height_holds : (m : Node) (height : ℕ) → Holds k n w → Holds k n (happens k v (step.Height m height) w)
    height_holds m height h =
        set_holds (happens k v (step.Height m height) w) (wells.height_well k n v w m height h.well) refl
        (height_by k n v w m height (is_height height) refl) (dispatchers_stay n w.dispatchers.dispatchers) h

    pub fees_holds : (m : Node) (f : Fees) → Holds k n w → Holds k n (happens k v (step.Fees m f) w)
    fees_holds m f h = set_holds (happens k v (step.Fees m f) w) (wells.fees_well k n v w m f h.well) refl
        (alike (book_in n w)) (dispatchers_stay n w.dispatchers.dispatchers) h

    pub limits_holds : (m : Node) (l : Limits) → Holds k n w → Holds k n (happens k v (step.Limits m l) w)
    limits_holds m l h = set_holds (happens k v (step.Limits m l) w) (wells.limits_well k n v w m l h.well) refl
        (alike (book_in n w)) (dispatchers_stay n w.dispatchers.dispatchers) h

    served_later : (e : End) (o : Option (ℕ × ChannelEvent)) (ds : List Dispatcher)
        → DispatchersLater n ds (served_at e v o ds)
    served_later e None ds = dispatchers_stay n ds
    served_later e (Some p) ds = one_moves e (serving p.1 v) (λ d. refl) (λ d i. (
      below_more i d (serving p.1 v d)
          (let long = length-append d.epoch.served (p.1 ∷ []) in omega (arith, long)),
      λ o is. told_more (nat_le d.epoch.start i) (item (i - d.epoch.start) d.epoch.served)
          (item (i - d.epoch.start) d.epoch.said) (item (i - d.epoch.start) (d.epoch.served ++ p.1 ∷ []))
          (item (i - d.epoch.start) (d.epoch.said ++ v ∷ [])) o
          (λ x. item_front (i - d.epoch.start) d.epoch.served (p.1 ∷ []) x)
          (λ x. item_front (i - d.epoch.start) d.epoch.said (v ∷ []) x) is,
    )) n ds

    pub dispatch_holds : (e : End) → Holds k n w → Holds k n (happens k v (step.Dispatch e) w)
    dispatch_holds e h = set_holds (happens k v (step.Dispatch e) w) (wells.dispatch_well k n v w e h.well) refl
        (alike (book_in n w)) (served_later e (next_event e w.dispatchers) w.dispatchers.dispatchers) h

    slotted_later : (e : End) (hook : ℕ) (b : Bool) (ds : List Dispatcher)
        → DispatchersLater n ds (cond b (at_dispatcher e (registered hook) ds) ds)
    slotted_later e hook true ds = one_moves e (registered hook) (λ d. refl) (λ d i. (λ is. is, λ o is. is)) n ds
    slotted_later e hook false ds = dispatchers_stay n ds

    pub register_holds : (e : End) (hook : ℕ) → Holds k n w → Holds k n (happens k v (step.Register e hook) w)
    register_holds e hook h =
        set_holds (happens k v (step.Register e hook) w) (wells.register_well k n v w e hook h.well) refl
        (alike (book_in n w)) (slotted_later e hook (may_register e hook w.dispatchers) w.dispatchers.dispatchers) h

    -- a new connection
    pub up_holds : (c : ℕ) → Holds k n w → Holds k n (happens k v (step.Up c) w)
    up_holds c h =
        let u = happens k v (step.Up c) w in
        record {
          well = up_well k n c v w h.well;
          order = orderly_alike n w u (λ d. let s = all_same k n c v w h.well d in
              alike_later (link_in n d w.dispatchers.channels.channels)
              (link_in n d u.dispatchers.channels.channels) s.end)
              (met_alike k n c v w h.well u.dispatchers (channel c (met_new k n c v w h.well)) w.nodes)
              (dispatchers_stay n w.dispatchers.dispatchers) h.order;
        }
