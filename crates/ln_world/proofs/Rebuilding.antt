-- A node begins anew: what its book is read off its ends is orderly, and all that is kept of it is kept.
use Rattle.std.proofs.Common.{◌≡◌, inl, ℕ, List, [], ◌∷◌, take, refl, sym, ap, ◌∙◌, subst}
use Rattle.std.proofs.Common.{Bool, true, false, cond, Option, Some, None}
use Rattle.std.specs.Prelude.{option_map}
use Rattle.std.specs.List.{cons_option}
use Rattle.ln_keys.specs.declared.keys.ChannelKeys.{Ghosts}
use Rattle.ln_log.specs.declared.mark.Decision.{Decision}
use Rattle.ln_log.specs.declared.mark.Settlement.{Settlement}
use Rattle.ln_log.specs.declared.update.Add.{Add}
use Rattle.ln_log.specs.declared.update.Update.{Update}
use Rattle.ln_log.specs.Updates.{add_with}
use Rattle.ln_log.specs.Log.{Log}
use Rattle.ln_hooks.specs.declared.event.How.{How}
use Rattle.ln_channel.specs.End.{End as ChannelEnd}
use Rattle.ln_book_tables.specs.declared.htlc.Htlc.{Htlc}
use Rattle.ln_book_tables.specs.Replay.{table_of, is_over}
use Rattle.ln_book.specs.declared.recovery.leg.Leg.{Leg}
use Rattle.ln_book.specs.Rebuild.{ChannelSnapshot, channel_snapshot_of, no_event, key_of as key_from}
use Rattle.ln_book.specs.Rebuild.{leg_resolved, legs_resolved, how_of}
use Rattle.ln_book.specs.Rebuild.{peer_updates, incoming_in}
use Rattle.ln_book.specs.Rebuild.{decided_by, decided_in, led, unfinished, all_unfinished, is_read, htlc_left}
use Rattle.ln_book.specs.Rebuild.{left}
use Rattle.ln_book.specs.Rebuild.{all_left}
use Rattle.ln_book.specs.Rebuild.{rebuilt_htlcs}
use Rattle.ln_world_channels.specs.declared.step.Node.{Node}
use Rattle.ln_world_channels.specs.Settings.{channel_id_of}
use Rattle.ln_world_channels.specs.WorldChannel.{WorldChannel}
use Rattle.ln_world_channels.specs.Promises.{Each}
use Rattle.ln_world_channels.proofs.Kept.{IsOpen}
use Rattle.ln_world.specs.declared.node.NodeBook.{NodeBook}
use Rattle.ln_world.specs.Node.{Book, node_at}
use Rattle.ln_world.specs.Follow.{followed, begun_anew, snapshots_below}
use Rattle.ln_world.specs.World.{World, saved_of}
use Rattle.ln_payment.specs.Rebuild.{everywhere}
use Rattle.ln_payment_circuits.specs.Circuit.{Forwards}
use Rattle.ln_payment_circuits.specs.Snapshot.{IsIn, All, snapshots}
use Rattle.ln_payment_circuits.proofs.Links.{Side}
use Rattle.ln_payment_circuits.proofs.Results.{IsTrue}
use Rattle.ln_payment_circuits.proofs.Losses.{Drops, all_dropped}
use Rattle.ln_payment_circuits.proofs.OutgoingLegs.{IsIncoming, AreBack, of_member}
use Rattle.ln_payment_circuits.proofs.Shifts.{side_of as read_side}
use Rattle.ln_payment_circuits.proofs.Scenes.{restart}
use Rattle.ln_payment_circuits.proofs.Agrees.{agrees_rebuilt}
use Rattle.ln_payment_circuits.proofs.Tidy.{all_append}
use Rattle.ln_world.specs.Circuit.{has_halted}
use Rattle.ln_world.proofs.Scene.{link_in, links_of, scene_of}
use Rattle.ln_world.proofs.Books.{follow_alike, itself}
use Rattle.ln_world.proofs.PendingCommands.{IsCalm, calm_alike}
use Rattle.ln_world.proofs.Same.{one_id}
use Rattle.ln_world.proofs.Anew.{AreSmall, ends_below, snapshots_so, are_back, anew, anew_drops, anew_halted}
use Rattle.ln_world.proofs.Anew.{anew_signed}
use Rattle.ln_world.proofs.Orderly.{IsKeyed, Names, AllName, SideNames, names_front}
use Rattle.ln_world.proofs.Keeping.{Holds}

-- ---- each HTLC that is read

abbrev IsReadSo : Htlc → Type 0
IsReadSo y = ((y.event ≡ no_event) × (y.decided ≡ true)) × IsKeyed y.key

decided_all : (ch : List ℕ) (l : Log) (c : ℕ) → ch ≡ channel_id_of c → (ds : List Decision)
    → All IsReadSo (decided_in ch l ds)
decided_all ch l c at [] = tt
decided_all ch l c at (d ∷ ds) = cases (add_with d.id (peer_updates l)) (decided_all ch l c at ds)
  where
    cases : (o : Option Add) → All IsReadSo (decided_in ch l ds)
        → All IsReadSo (cons_option (decided_by ch d.mark (incoming_in d.id l) o) (decided_in ch l ds))
    cases None rest = rest
    cases (Some a) rest = (
      ((refl, refl), (record { channel = c; id = a.id }, ap (λ z. record { channel = z; id = a.id }) at)),
      rest,
    )

unfinished_all : (all : List ChannelSnapshot) (hs : List Htlc) → All IsReadSo hs → All IsReadSo (unfinished all hs)
unfinished_all all [] h = tt
unfinished_all all (x ∷ xs) h = cases (is_over (led all x)) (unfinished_all all xs h.1)
  where
    cases : (b : Bool) → All IsReadSo (unfinished all xs)
        → All IsReadSo (cond b (unfinished all xs) (led all x ∷ unfinished all xs))
    cases true rest = rest
    cases false rest = (h.0, rest)

legs_all : (ch : List ℕ) (ss : List Settlement) → All (λ s. IsKeyed (key_from s.origin)) ss
    → All (λ (g : Leg). IsKeyed g.origin) (legs_resolved ch ss)
legs_all ch [] h = tt
legs_all ch (s ∷ ss) h = cases (how_of s.removal) (legs_all ch ss h.1)
  where
    cases : (o : Option How) → All (λ (g : Leg). IsKeyed g.origin) (legs_resolved ch ss)
        → All (λ (g : Leg). IsKeyed g.origin) (cons_option (leg_resolved ch s o) (legs_resolved ch ss))
    cases None rest = rest
    cases (Some w) rest = (h.0, rest)

left_each : (all : List ChannelSnapshot) (ls : List Leg) → All (λ (g : Leg). IsKeyed g.origin) ls
    → All IsReadSo (left all ls)
left_each all [] h = tt
left_each all (g ∷ ls) h = cases (is_read g.origin all) (left_each all ls h.1)
  where
    cases : (b : Bool) → All IsReadSo (left all ls) → All IsReadSo (cond b (left all ls) (htlc_left g ∷ left all ls))
    cases true rest = rest
    cases false rest = (((refl, refl), h.0), rest)

-- of each end
abbrev IsEndSo : ℕ × ChannelEnd → Type 0
IsEndSo x = (x.1.dance.channel ≡ channel_id_of x.0) × All (λ s. IsKeyed (key_from s.origin)) x.1.ledger.results

all_unfinished_so : (all : List ChannelSnapshot) (es : List (ℕ × ChannelEnd)) → All IsEndSo es
    → All IsReadSo (all_unfinished all (snapshots es))
all_unfinished_so all [] h = tt
all_unfinished_so all (x ∷ es) h =
    all_append IsReadSo (unfinished all (channel_snapshot_of x.1).decided) (all_unfinished all (snapshots es))
    (unfinished_all all (channel_snapshot_of x.1).decided (decided_all x.1.dance.channel x.1.dance.log x.0 h.0.0
    x.1.ledger.decisions))
    (all_unfinished_so all es h.1)

all_left_so : (all : List ChannelSnapshot) (es : List (ℕ × ChannelEnd)) → All IsEndSo es
    → All IsReadSo (all_left all (snapshots es))
all_left_so all [] h = tt
all_left_so all (x ∷ es) h =
    all_append IsReadSo (left all (channel_snapshot_of x.1).results) (all_left all (snapshots es))
    (left_each all (channel_snapshot_of x.1).results (legs_all x.1.dance.channel x.1.ledger.results h.0.1))
    (all_left_so all es h.1)

read_so : (es : List (ℕ × ChannelEnd)) → All IsEndSo es → (y : Htlc) → IsIn y (rebuilt_htlcs (snapshots es))
    → IsReadSo y
read_so es h y m = of_member IsReadSo (rebuilt_htlcs (snapshots es)) y
    (all_append IsReadSo (all_unfinished (snapshots es) (snapshots es)) (all_left (snapshots es) (snapshots es))
    (all_unfinished_so (snapshots es) es h) (all_left_so (snapshots es) es h)) m

-- its results are of adds that say what they forward
forwarded_so : (o : Option Add) (p : List ℕ × ℕ) → Names o → Forwards p o → IsKeyed (key_from p)
forwarded_so None p h f = absurd f
forwarded_so (Some a) p h f = let r = h p f in (r.0, ap (λ (z : List ℕ × ℕ). record { channel = z.0; id = z.1 }) r.1)

results_so : (own held : List Update) → AllName own → (ss : List Settlement) → All (IsTrue own held) ss
    → All (λ s. IsKeyed (key_from s.origin)) ss
results_so own held h [] k = tt
results_so own held h (s ∷ ss) k = (
  forwarded_so (add_with s.id own) s.origin (h s.id) k.0.forwards,
  results_so own held h ss k.1,
)

module _ {K : Type 0} (k : Ghosts K) (n : Node) (w u : World K) (h : Holds k n w)
    (links : (d : ℕ) → link_in n d u.dispatchers.channels.channels
    ≡ link_in n d (anew k.signer n n (itself n) w.dispatchers.channels.channels h.well.open_))
    (open_ : Each (IsOpen k.signer) u.dispatchers.channels.channels) (small : AreSmall u.dispatchers.channels.channels)
    (z : NodeBook)
    (named : z.node ≡ n)
    (book : node_at n u.nodes ≡ followed u.dispatchers.channels.channels
    (begun_anew u.dispatchers.channels.channels z)) where
  abbrev cs : List (WorldChannel K)
  cs = w.dispatchers.channels.channels

  abbrev ds : List (WorldChannel K)
  ds = u.dispatchers.channels.channels

  abbrev es : List (ℕ × ChannelEnd)
  es = ends_below 256 n ds

  all_drop : Drops everywhere (links_of n cs) (links_of n ds)
  all_drop = record {
    lost = λ d is. ap (λ o. option_map read_side (saved_of o)) (links d)
        ∙ (anew_drops k.signer n n (itself n) cs h.well.open_).lost d is;
    others = λ d isnt. absurd (cc);
    sound = (anew_drops k.signer n n (itself n) cs h.well.open_).sound;
  }

  none_halted : (d : ℕ) → (links_of n ds).halted d ≡ false
  none_halted d = ap has_halted (links d) ∙ anew_halted k.signer n n (itself n) cs h.well.open_ d

  back : AreBack channel_id_of (links_of n ds) es
  back = are_back k.signer n ds open_ small (λ c e is. anew_signed k.signer n n (itself n) cs h.well.open_ c e
      (sym (ap saved_of (links c)) ∙ is))

  abbrev own : Book
  own = (node_at n u.nodes).book

  begun : (table_of own).htlcs ≡ rebuilt_htlcs (snapshots es)
  begun =
      ap (λ (y : NodeBook). (table_of y.book).htlcs) book ∙ (follow_alike ds (begun_anew ds z)).htlcs
      ∙ ap (λ m. rebuilt_htlcs (snapshots_below 256 m ds)) named ∙ ap rebuilt_htlcs (snapshots_so n ds 256)

  none_queued : (table_of own).queue ≡ []
  none_queued = ap (λ (y : NodeBook). (table_of y.book).queue) book ∙ (follow_alike ds (begun_anew ds z)).queue

  sides_name : (c : ℕ) → SideNames ((links_of n ds).sides c)
  sides_name c = subst SideNames (sym (all_drop.lost c refl)) (cases ((links_of n cs).sides c) (h.order.named c))
    where
      cases : (o : Option Side) → SideNames o → SideNames (all_dropped o)
      cases None a = tt
      cases (Some x) a = λ i. names_front i x.log.signed.own x.log.own (a i)

  ends_so : (xs : List (ℕ × ChannelEnd)) → All (IsIncoming channel_id_of (links_of n ds)) xs → All IsEndSo xs
  ends_so [] b = tt
  ends_so (x ∷ xs) b = (
    (
      b.0.channel,
      results_so x.1.dance.log.own (take x.1.dance.log.acknowledged.peer x.1.dance.log.received)
          (subst SideNames b.0.side (sides_name x.0)) x.1.ledger.results b.0.tidy.true_results,
    ),
    ends_so xs b.1,
  )

  each_read : (y : Htlc) → IsIn y (table_of own).htlcs → IsReadSo y
  each_read y m = read_so es (ends_so es back.each) y (subst (IsIn y) begun m)

  pub anew_holds : Holds k n u
  anew_holds = record {
    well = record {
      open_ = open_;
      small = small;
      calm = subst (λ (y : NodeBook). IsCalm y.book) (sym book)
          (calm_alike (begun_anew ds z).book (followed ds (begun_anew ds z)).book (follow_alike ds (begun_anew ds z))
          (λ a. refl));
      paid = restart channel_id_of one_id (scene_of n w) (scene_of n u) es all_drop none_halted back begun h.well.paid;
      agrees = agrees_rebuilt channel_id_of one_id (scene_of n u) es back begun;
      past = λ q c i x o halted. absurd (let no : true ≡ false = sym halted ∙ none_halted c in cc);
    };
    order = record {
      queued = λ c q m at free. absurd (subst (IsIn q) none_queued m);
      dated = λ c y m at. inl (each_read y m).0;
      keyed = λ y m. (each_read y m).1;
      named = sides_name;
    };
  }
