-- What else is kept of a node in a world: what its book has queued, by which events and keys it knows HTLCs, and that
-- each own add that forwards an HTLC says so by the number of a channel.
use Rattle.std.proofs.Common.{◌≡◌, ◌⊎◌, inl, inr, ℕ, ◌≤◌, ◌<◌, List, [], ◌∷◌, ◌++◌, take, drop, map, refl, sym, ap}
use Rattle.std.proofs.Common.{◌∙◌, subst, arith, Bool, true, false, cond, not, ◌==◌, ◌&&◌, nat_lt, Option, Some, None}
use Rattle.std.specs.Prelude.{option_map}
use Rattle.std.proofs.lemmas.Bool.{eqb-true, ltb-true, ltb-false, lt-ltb}
use Rattle.std.proofs.lemmas.List.{take-append-drop}
use Rattle.ln_log.specs.declared.update.Add.{Add}
use Rattle.ln_log.specs.declared.update.Update.{Update}
use Rattle.ln_log.specs.Updates.{add_with, is_some}
use Rattle.ln_log.proofs.Removing.{add_with-more, add_with-append, or_else}
use Rattle.ln_channel.specs.End.{End as ChannelEnd, end_dropped}
use Rattle.ln_channel.specs.State.{State}
use Rattle.ln_hooks.specs.declared.event.ChannelEvent.{ChannelEvent}
use Rattle.ln_hooks.specs.declared.verdict.Verdict.{Verdict}
use Rattle.ln_log.specs.declared.mark.Mark.TheVariants as mark
use Rattle.ln_book_tables.specs.declared.htlc.Htlc.{Htlc}
use Rattle.ln_book_tables.specs.declared.htlc.IncomingLeg.TheVariants as incoming
use Rattle.ln_book_tables.specs.declared.htlc.Key.{Key}
use Rattle.ln_book_tables.specs.declared.htlc.Offer.{Offer}
use Rattle.ln_book_tables.specs.declared.htlc.OutgoingLeg.TheVariants as outgoing
use Rattle.ln_book_tables.specs.declared.entry.Queued.{Queued}
use Rattle.ln_book_tables.specs.Replay.{table_of, changed_first, left_out}
use Rattle.ln_book.specs.Marks.{offer_of}
use Rattle.ln_book.specs.Rebuild.{no_event}
use Rattle.ln_world_channels.specs.declared.step.Node.{Node}
use Rattle.ln_world_channels.specs.declared.step.End.{End}
use Rattle.ln_world_channels.specs.Settings.{channel_id_of}
use Rattle.ln_world_channels.specs.WorldChannel.{WorldChannel, is_node}
use Rattle.ln_world_channels.specs.World.{World as Channels}
use Rattle.ln_world_dispatch.specs.Dispatcher.{Dispatcher, next, is_at, dispatcher_at, at_dispatcher, restarted}
use Rattle.ln_world_dispatch.specs.World.{is_below_next, served_in, decided_of, decided_for, all_restart}
use Rattle.ln_world.specs.Node.{Book, node_at}
use Rattle.ln_world.specs.World.{World, saved_of}
use Rattle.ln_payment_circuits.specs.Snapshot.{Incoming, IsIn, origin, key_of}
use Rattle.ln_payment_circuits.proofs.Links.{Links, Side}
use Rattle.ln_payment_circuits.proofs.Lists.{among_changed, of_picked}
use Rattle.ln_payment_circuits.proofs.Shifts.{side_of as read_side}
use Rattle.ln_world.proofs.Books.{IsAlike}
use Rattle.ln_world.proofs.Scene.{links_of, link_in}

-- ---- of an HTLC of the book, and of an own add

abbrev pub IsKeyed : Key → Type 0
IsKeyed k = (h : Incoming) × (k ≡ key_of channel_id_of h)

-- nothing was decided about it yet
abbrev pub IsNew : Htlc → Type 0
IsNew x = (x.decided ≡ false) × (x.outgoing ≡ outgoing.Absent) × (x.incoming ≡ incoming.Open)

-- its end is to decide it next: the event that told of it was dispatched
pub record IsNext (offer : Option Offer) (decided : ℕ) (x : Htlc) : Type 0 where
  pub new : IsNew x
  pub event : x.event ≡ decided
  pub offered : Offer
  pub told : offer ≡ Some offered
  pub id : x.key.id ≡ offered.id
  pub does : x.mark ≡ mark.None → ⊥

-- the event that told of it is decided, or is the next to be; no event tells of one that was read
abbrev pub IsDated : (ℕ → Option Offer) → ℕ → Htlc → Type 0
IsDated told decided x = ((x.event ≡ no_event) × (x.decided ≡ true))
    ⊎ ((x.event < decided) ⊎ IsNext (told x.event) decided x)

abbrev pub Names : Option Add → Type 0
Names None = Unit {0}
Names (Some a) = (o : List ℕ × ℕ) → a.origin ≡ Some o → (h : Incoming) × (o ≡ origin channel_id_of h)

abbrev pub AllName : List Update → Type 0
AllName us = (i : ℕ) → Names (add_with i us)

abbrev pub SideNames : Option Side → Type 0
SideNames None = Unit {0}
SideNames (Some x) = AllName x.log.own

-- ---- of a node

pub record View : Type 0 where
  pub links : Links
  pub decided : ℕ → ℕ  -- how many events its end has decided, by the number of the channel
  pub below : ℕ → ℕ → Bool  -- an event of this number was dispatched
  pub told : ℕ → ℕ → Option Offer  -- what it told of, where its dispatcher has dispatched it in this epoch
  pub queue : List Queued
  pub htlcs : List Htlc

abbrev pub end_at : Node → ℕ → End
end_at n c = record { node = n; channel = c }

abbrev pub below_in : Node → List Dispatcher → ℕ → ℕ → Bool
below_in n ds c i = is_below_next i (dispatcher_at (end_at n c) ds)

abbrev pub offer_in : Option (ChannelEvent × Verdict) → Option Offer
offer_in None = None
offer_in (Some p) = offer_of p.0

abbrev pub told_by : ℕ → Option Dispatcher → Option Offer
told_by i None = None
told_by i (Some d) = offer_in (served_in i d.epoch)

abbrev pub told_in : Node → List Dispatcher → ℕ → ℕ → Option Offer
told_in n ds c i = told_by i (dispatcher_at (end_at n c) ds)

abbrev pub view_at : {K : Type 0} → Node → List (WorldChannel K) → List Dispatcher → Book → View
view_at n cs ds b = record {
  links = links_of n cs;
  decided = λ c. decided_of (saved_of (link_in n c cs));
  below = below_in n ds;
  told = told_in n ds;
  queue = (table_of b).queue;
  htlcs = (table_of b).htlcs;
}

abbrev pub view_of : {K : Type 0} → Node → World K → View
view_of n w = view_at n w.dispatchers.channels.channels w.dispatchers.dispatchers (node_at n w.nodes).book

pub record IsOrderly (v : View) : Type 0 where
  -- what is queued to be decided was dispatched, and the book says the same of the HTLC
  pub queued : (c : ℕ) (q : Queued) → IsIn q v.queue → q.channel ≡ channel_id_of c → q.resumes ≡ false
      → (v.below c q.event ≡ true) × ((x : Htlc) → IsIn x v.htlcs → x.key.channel ≡ channel_id_of c
      → x.event ≡ q.event → x.decided ≡ false → x.mark ≡ q.mark)
  pub dated : (c : ℕ) (x : Htlc) → IsIn x v.htlcs → x.key.channel ≡ channel_id_of c
      → IsDated (v.told c) (v.decided c) x
  pub keyed : (x : Htlc) → IsIn x v.htlcs → IsKeyed x.key
  pub named : (c : ℕ) → SideNames (v.links.sides c)

-- ---- what keeps it

pub record OneLater {K : Type 0} (o p : Option (State K)) : Type 0 where
  pub decided : decided_of (saved_of o) ≤ decided_of (saved_of p)
  pub names : SideNames (option_map read_side (saved_of o)) → SideNames (option_map read_side (saved_of p))

-- one HTLC of the book, and the same later: of one that waits, of which this is known, nothing is changed
pub record IsLater (Known : Htlc → Type 0) (x y : Htlc) : Type 0 where
  pub key : y.key ≡ x.key
  pub event : y.event ≡ x.event
  pub was : y.decided ≡ false → (x.decided ≡ false) × (y.mark ≡ x.mark)
  pub waits : Known x → IsNew x → IsNew y

-- each of these HTLCs was there
abbrev pub AreLater : (Htlc → Type 0) → List Htlc → List Htlc → Type 0
AreLater Known xs ys = (y : Htlc) → IsIn y ys → (x : Htlc) × IsIn x xs × IsLater Known x y

-- of any of them
abbrev pub Any : Htlc → Type 0
Any x = Unit {0}

module _ (Known : Htlc → Type 0) where
  pub itself_later : (x : Htlc) → IsLater Known x x
  itself_later x = record { key = refl; event = refl; was = λ e. (e, refl); waits = λ k n. n }

  pub later_same : (xs : List Htlc) → AreLater Known xs xs
  later_same xs y m = (y, m, itself_later y)

  pub later_left : (p : Htlc → Bool) (xs : List Htlc) → AreLater Known xs (left_out p xs)
  later_left p xs y m = (y, of_picked (λ z. not (p z)) y xs m, itself_later y)

  -- those that pass are changed so
  pub later_changed : (p : Htlc → Bool) (f : Htlc → Htlc) (xs : List Htlc)
      → ((x : Htlc) → IsIn x xs → p x ≡ true → IsLater Known x (f x)) → AreLater Known xs (changed_first p f xs)
  later_changed p f xs so y m = elim (among_changed p f y xs m) [
    | inl old ↦ (y, old, itself_later y)
    | inr r ↦ (r.0, r.1, subst (IsLater Known r.0) r.3 (so r.0 r.1 r.2))
  ]

  pub later_mapped : (f : Htlc → Htlc) → ((x : Htlc) → IsLater Known x (f x)) → (xs : List Htlc)
      → AreLater Known xs (map f xs)
  later_mapped f so [] y m = absurd m
  later_mapped f so (x ∷ xs) y (inl e) = (x, inl refl, subst (IsLater Known x) e (so x))
  later_mapped f so (x ∷ xs) y (inr m) = let r = later_mapped f so xs y m in (r.0, inr r.1, r.2)

  -- one after the other, where what is known of one stays known
  pub later_then : ((x y : Htlc) → y.key ≡ x.key → Known x → Known y) → (xs ys zs : List Htlc) → AreLater Known xs ys
      → AreLater Known ys zs → AreLater Known xs zs
  later_then stays xs ys zs h k z m =
      let b = k z m in
      let a = h b.0 b.1 in (
        a.0,
        a.1,
        record {
          key = b.2.key ∙ a.2.key;
          event = b.2.event ∙ a.2.event;
          was = λ e. let q = b.2.was e in let r = a.2.was q.0 in (r.0, q.1 ∙ r.1);
          waits = λ known new. b.2.waits (stays a.0 b.0 a.2.key known) (a.2.waits known new);
        },
      )

-- where less is known
pub known_later : (P Q : Htlc → Type 0) → ((x : Htlc) → Q x → P x) → (xs ys : List Htlc) → AreLater P xs ys
    → AreLater Q xs ys
known_later P Q from xs ys h y m =
    let r = h y m in
    (r.0, r.1, record { key = r.2.key; event = r.2.event; was = r.2.was; waits = λ q. r.2.waits (from r.0 q) })

pub later_as : (P : Htlc → Type 0) (xs ys zs : List Htlc) → zs ≡ ys → AreLater P xs ys → AreLater P xs zs
later_as P xs ys zs e h = subst (AreLater P xs) (sym e) h

-- a dispatcher, and the same later
abbrev pub IsDispatcherLater : ℕ → Option Dispatcher → Option Dispatcher → Type 0
IsDispatcherLater i o p = (is_below_next i o ≡ true → is_below_next i p ≡ true)
    × ((x : Offer) → told_by i o ≡ Some x → told_by i p ≡ Some x)

pub dispatcher_stays : (i : ℕ) (o : Option Dispatcher) → IsDispatcherLater i o o
dispatcher_stays i o = (λ h. h, λ x h. h)

abbrev pub DispatchersLater : Node → List Dispatcher → List Dispatcher → Type 0
DispatchersLater n ds es =
    (c i : ℕ) → IsDispatcherLater i (dispatcher_at (end_at n c) ds) (dispatcher_at (end_at n c) es)

pub dispatchers_stay : (n : Node) (ds : List Dispatcher) → DispatchersLater n ds ds
dispatchers_stay n ds c i = dispatcher_stays i (dispatcher_at (end_at n c) ds)

-- no fewer are decided
grows : (m n : ℕ) → m ≤ n → (n ≡ m) ⊎ (m < n)
grows m n le = cases (nat_lt m n) refl
  where
    cases : (b : Bool) → nat_lt m n ≡ b → (n ≡ m) ⊎ (m < n)
    cases true e = inr (ltb-true m n e)
    cases false e = let ge = ltb-false m n e in inl (omega (arith, le, ge))

-- what is known of an HTLC of this channel that waits
abbrev pub WaitsAt : View → ℕ → Htlc → Type 0
WaitsAt v c x = IsNext (v.told c x.event) (v.decided c) x

still_decided : (x y : Htlc) → (y.decided ≡ false → x.decided ≡ false) → x.decided ≡ true → y.decided ≡ true
still_decided x y was dec = cases y.decided refl
  where
    cases : (b : Bool) → y.decided ≡ b → y.decided ≡ true
    cases true e = e
    cases false e = absurd (let no : true ≡ false = sym dec ∙ was e in cc)

pub dated_later : (told told' : ℕ → Option Offer) (m n : ℕ) (x y : Htlc) → m ≤ n
    → ((i : ℕ) (o : Offer) → told i ≡ Some o → told' i ≡ Some o) → y.key ≡ x.key → y.event ≡ x.event
    → (y.decided ≡ false → (x.decided ≡ false) × (y.mark ≡ x.mark))
    → (n ≡ m → IsNext (told x.event) m x → IsNew y) → IsDated told m x → IsDated told' n y
dated_later told told' m n x y le more key event was waits (inl e) =
    inl (event ∙ e.0, still_decided x y (λ u. (was u).0) e.1)
dated_later told told' m n x y le more key event was waits (inr (inl lt)) =
    inr (inl (omega (arith, le, lt, event)))
dated_later told told' m n x y le more key event was waits (inr (inr next)) = elim (grows m n le) [
  | inr lt ↦ let at = next.event in inr (inl (omega (arith, lt, at, event)))
  | inl same ↦
      let new = waits same next in
      inr (inr (record {
        new = new;
        event = event ∙ next.event ∙ sym same;
        offered = next.offered;
        told = more y.event next.offered (ap told event ∙ next.told);
        id = ap (λ (k : Key). k.id) key ∙ next.id;
        does = λ none. next.does (sym (was new.0).1 ∙ none);
      }))
]

-- ---- it is kept

-- each end has decided no fewer events, and its adds name what they forward
abbrev pub EndsLater : View → View → Type 0
EndsLater v v' =
    (c : ℕ) → (v.decided c ≤ v'.decided c) × (SideNames (v.links.sides c) → SideNames (v'.links.sides c))

-- what was dispatched was
abbrev pub ToldLater : View → View → Type 0
ToldLater v v' = (c i : ℕ) → (v.below c i ≡ true → v'.below c i ≡ true)
    × ((o : Offer) → v.told c i ≡ Some o → v'.told c i ≡ Some o)

-- by what is known of an HTLC that waits still
pub order_known : (Known : Htlc → Type 0) (v v' : View) → EndsLater v v'
    → ((q : Queued) → IsIn q v'.queue → IsIn q v.queue) → AreLater Known v.htlcs v'.htlcs → ToldLater v v'
    → ((c : ℕ) (x : Htlc) → IsIn x v.htlcs → x.key.channel ≡ channel_id_of c → WaitsAt v c x
    → v'.decided c ≡ v.decided c → Known x) → IsOrderly v → IsOrderly v'
order_known Known v v' ends queue htlcs dispatched known h = record {
  queued = λ c q m at free. let was = h.queued c q (queue q m) at free in (
    (dispatched c q.event).0 was.0,
    λ y y_in y_at event undecided. let x = htlcs y y_in in let r = x.2.was undecided in
        r.1 ∙ was.1 x.0 x.1 (ap (λ (k : Key). k.channel) (sym x.2.key) ∙ y_at) (sym x.2.event ∙ event) r.0,
  );
  dated = λ c y m at.
      let x = htlcs y m in
      let x_at : x.0.key.channel ≡ channel_id_of c = ap (λ (k : Key). k.channel) (sym x.2.key) ∙ at in
      dated_later (v.told c) (v'.told c) (v.decided c) (v'.decided c) x.0 y (ends c).0 (λ i o. (dispatched c i).1 o)
      x.2.key x.2.event x.2.was (λ same next. x.2.waits (known c x.0 x.1 x_at next same) next.new)
      (h.dated c x.0 x.1 x_at);
  keyed = λ y m. let x = htlcs y m in let k = h.keyed x.0 x.1 in (k.0, x.2.key ∙ k.1);
  named = λ c. (ends c).1 (h.named c);
}

module _ {K : Type 0} (n : Node) where
  pub links_later : (cs cs' : List (WorldChannel K)) (ds ds' : List Dispatcher) (b b' : Book)
      → ((c : ℕ) → OneLater (link_in n c cs) (link_in n c cs')) → EndsLater (view_at n cs ds b) (view_at n cs' ds' b')
  links_later cs cs' ds ds' b b' links c = ((links c).decided, (links c).names)

  pub order_at : (cs cs' : List (WorldChannel K)) (ds ds' : List Dispatcher) (b b' : Book)
      → ((c : ℕ) → OneLater (link_in n c cs) (link_in n c cs'))
      → ((q : Queued) → IsIn q (table_of b').queue → IsIn q (table_of b).queue)
      → AreLater Any (table_of b).htlcs (table_of b').htlcs → DispatchersLater n ds ds'
      → IsOrderly (view_at n cs ds b) → IsOrderly (view_at n cs' ds' b')
  order_at cs cs' ds ds' b b' links queue htlcs dispatchers h =
      order_known Any (view_at n cs ds b) (view_at n cs' ds' b') (links_later cs cs' ds ds' b b' links) queue htlcs
      dispatchers (λ c x m at next same. tt) h

  pub orderly : (w u : World K)
      → ((c : ℕ) → OneLater (link_in n c w.dispatchers.channels.channels) (link_in n c u.dispatchers.channels.channels))
      → ((q : Queued) → IsIn q (view_of n u).queue → IsIn q (view_of n w).queue)
      → AreLater Any (view_of n w).htlcs (view_of n u).htlcs
      → DispatchersLater n w.dispatchers.dispatchers u.dispatchers.dispatchers
      → IsOrderly (view_of n w) → IsOrderly (view_of n u)
  orderly w u links queue htlcs dispatchers h = order_at w.dispatchers.channels.channels
      u.dispatchers.channels.channels w.dispatchers.dispatchers
      u.dispatchers.dispatchers (node_at n w.nodes).book (node_at n u.nodes).book links queue htlcs dispatchers h

  -- where the book is alike
  pub orderly_alike : (w u : World K)
      → ((c : ℕ) → OneLater (link_in n c w.dispatchers.channels.channels) (link_in n c u.dispatchers.channels.channels))
      → IsAlike (node_at n w.nodes).book (node_at n u.nodes).book
      → DispatchersLater n w.dispatchers.dispatchers u.dispatchers.dispatchers
      → IsOrderly (view_of n w) → IsOrderly (view_of n u)
  orderly_alike w u links b dispatchers h = orderly w u links (λ q m. subst (IsIn q) b.queue m)
      (later_as Any (view_of n w).htlcs (view_of n w).htlcs (view_of n u).htlcs b.htlcs
      (later_same Any (view_of n w).htlcs)) dispatchers h

-- ---- one link

module _ {K : Type 0} where
  pub stays_later : (o p : Option (State K)) → p ≡ o → OneLater o p
  stays_later o p e = record {
    decided = subst (λ z. decided_of (saved_of o) ≤ decided_of (saved_of z)) (sym e) (omega arith);
    names = λ h. subst (λ z. SideNames (option_map read_side (saved_of z))) (sym e) h;
  }

  pub alike_later : (o p : Option (State K)) → saved_of p ≡ saved_of o → OneLater o p
  alike_later o p e = record {
    decided = subst (λ z. decided_of (saved_of o) ≤ decided_of z) (sym e) (omega arith);
    names = λ h. subst (λ z. SideNames (option_map read_side z)) (sym e) h;
  }

  -- by their ends
  pub ends_later : (o p : Option (State K)) (x y : ChannelEnd) → saved_of o ≡ Some x → saved_of p ≡ Some y
      → x.ledger.decided ≤ y.ledger.decided → (AllName x.dance.log.own → AllName y.dance.log.own) → OneLater o p
  ends_later o p x y e f le names = record {
    decided = subst (λ z. decided_of (saved_of o) ≤ decided_of z) (sym f)
        (subst (λ z. decided_of z ≤ y.ledger.decided) (sym e) le);
    names = λ h. subst (λ z. SideNames (option_map read_side z)) (sym f)
        (names (subst (λ z. SideNames (option_map read_side z)) e h));
  }

-- fewer updates
pub names_front : (i k : ℕ) (us : List Update) → Names (add_with i us) → Names (add_with i (take k us))
names_front i k us h = cases (add_with i (take k us)) refl
  where
    cases : (o : Option Add) → add_with i (take k us) ≡ o → Names o
    cases None e = tt
    cases (Some a) e = subst Names (sym (ap (add_with i) (take-append-drop k us))
        ∙ add_with-more i (take k us) (drop k us) (ap is_some e) ∙ e) h

pub names_dropped : (x : ChannelEnd) → AllName x.dance.log.own → AllName (end_dropped x).dance.log.own
names_dropped x h i = names_front i x.dance.log.signed.own x.dance.log.own (h i)

-- one more
pub names_more : (us : List Update) (u : Update) → AllName us → AllName (u ∷ []) → AllName (us ++ u ∷ [])
names_more us u h k i =
    subst Names (sym (add_with-append i us (u ∷ []))) (cases (add_with i us) (add_with i (u ∷ [])) (h i) (k i))
  where
    cases : (x y : Option Add) → Names x → Names y → Names (or_else x y)
    cases None y a b = b
    cases (Some z) y a b = a

-- ---- dispatchers

pub below_more : (i : ℕ) (d e : Dispatcher) → next d.epoch ≤ next e.epoch → is_below_next i (Some d) ≡ true
    → is_below_next i (Some e) ≡ true
below_more i d e le h = let lt = ltb-true i (next d.epoch) h in lt-ltb i (next e.epoch) (omega (arith, lt, le))

-- one of them moves
pub one_moves : (e : End) (f : Dispatcher → Dispatcher) → ((d : Dispatcher) → (f d).end ≡ d.end)
    → ((d : Dispatcher) (i : ℕ) → IsDispatcherLater i (Some d) (Some (f d)))
    → (n : Node) (ds : List Dispatcher) → DispatchersLater n ds (at_dispatcher e f ds)
one_moves e f same more n [] c i = dispatcher_stays i None
one_moves e f same more n (d ∷ ds) c i =
    cases (is_at e d) (is_at (end_at n c) d) refl (one_moves e f same more n ds c i)
  where
    there : is_at (end_at n c) (f d) ≡ is_at (end_at n c) d
    there = ap (λ (x : End). is_node x.node n && (x.channel == c)) (same d)

    moves : (b : Bool) → IsDispatcherLater i (cond b (Some d) (dispatcher_at (end_at n c) ds))
        (cond b (Some (f d)) (dispatcher_at (end_at n c) ds))
    moves true = more d i
    moves false = dispatcher_stays i (dispatcher_at (end_at n c) ds)

    goes : (b : Bool)
        → IsDispatcherLater i (dispatcher_at (end_at n c) ds) (dispatcher_at (end_at n c) (at_dispatcher e f ds))
        → IsDispatcherLater i (cond b (Some d) (dispatcher_at (end_at n c) ds))
        (cond b (Some d) (dispatcher_at (end_at n c) (at_dispatcher e f ds)))
    goes true rest = dispatcher_stays i (Some d)
    goes false rest = rest

    cases : (a b : Bool) → is_at (end_at n c) d ≡ b
        → IsDispatcherLater i (dispatcher_at (end_at n c) ds) (dispatcher_at (end_at n c) (at_dispatcher e f ds))
        → IsDispatcherLater i (cond b (Some d) (dispatcher_at (end_at n c) ds))
        (dispatcher_at (end_at n c) (cond a (f d ∷ ds) (d ∷ at_dispatcher e f ds)))
    cases true b is rest = subst (λ z. IsDispatcherLater i (cond b (Some d) (dispatcher_at (end_at n c) ds))
        (cond z (Some (f d)) (dispatcher_at (end_at n c) ds))) (sym (there ∙ is)) (moves b)
    cases false b is rest = subst (λ z. IsDispatcherLater i (cond b (Some d) (dispatcher_at (end_at n c) ds))
        (cond z (Some d) (dispatcher_at (end_at n c) (at_dispatcher e f ds)))) (sym is) (goes b rest)

-- some join
pub some_join : (n : Node) (ds es : List Dispatcher) → DispatchersLater n ds (ds ++ es)
some_join n [] es c i = (λ h. absurd (cc), λ x h. absurd (cc))
some_join n (d ∷ ds) es c i = cases (is_at (end_at n c) d) (some_join n ds es c i)
  where
    cases : (b : Bool)
        → IsDispatcherLater i (dispatcher_at (end_at n c) ds) (dispatcher_at (end_at n c) (ds ++ es))
        → IsDispatcherLater i (cond b (Some d) (dispatcher_at (end_at n c) ds))
        (cond b (Some d) (dispatcher_at (end_at n c) (ds ++ es)))
    cases true rest = dispatcher_stays i (Some d)
    cases false rest = rest

-- those of another node begin anew
pub others_begin : {K : Type 0} (m n : Node) → is_node m n ≡ false → (w : Channels K) (ds : List Dispatcher)
    → DispatchersLater n ds (all_restart m w ds)
others_begin m n isnt w [] c i = dispatcher_stays i None
others_begin m n isnt w (d ∷ ds) c i =
    cases (is_node d.end.node m) refl (is_at (end_at n c) d) refl (others_begin m n isnt w ds c i)
  where
    goes : (b : Bool)
        → IsDispatcherLater i (dispatcher_at (end_at n c) ds) (dispatcher_at (end_at n c) (all_restart m w ds))
        → IsDispatcherLater i (cond b (Some d) (dispatcher_at (end_at n c) ds))
        (cond b (Some d) (dispatcher_at (end_at n c) (all_restart m w ds)))
    goes true rest = dispatcher_stays i (Some d)
    goes false rest = rest

    cases : (a : Bool) → is_node d.end.node m ≡ a → (b : Bool) → is_at (end_at n c) d ≡ b
        → IsDispatcherLater i (dispatcher_at (end_at n c) ds) (dispatcher_at (end_at n c) (all_restart m w ds))
        → IsDispatcherLater i (cond b (Some d) (dispatcher_at (end_at n c) ds))
        (dispatcher_at (end_at n c) (cond a (restarted (decided_for d w) d) d ∷ all_restart m w ds))
    cases true is true at rest = absurd (
        let own : is_node d.end.node n ≡ true = front (is_node d.end.node n) (d.end.channel == c) at in
        let same : is_node m n ≡ true = ap (λ l. l == n.letter) (sym (eqb-true d.end.node.letter m.letter is)) ∙ own in
        let no : true ≡ false = sym same ∙ isnt in cc)
      where
        front : (a b : Bool) → (a && b) ≡ true → a ≡ true
        front true b e = refl
        front false b e = absurd (cc)
    cases true is false at rest = subst (λ z. IsDispatcherLater i (dispatcher_at (end_at n c) ds)
        (cond z (Some (restarted (decided_for d w) d)) (dispatcher_at (end_at n c) (all_restart m w ds)))) (sym at) rest
    cases false is b at rest = subst (λ z. IsDispatcherLater i (cond b (Some d) (dispatcher_at (end_at n c) ds))
        (cond z (Some d) (dispatcher_at (end_at n c) (all_restart m w ds)))) (sym at) (goes b rest)
