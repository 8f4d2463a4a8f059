-- A load of what a host has saved: the links come back that a manager of channels has, and it is loaded so.
use Rattle.std.proofs.Common.{◌≡◌, ◌⊎◌, inl, inr, ℕ, zero, suc, ◌+◌, ◌<◌, ◌^◌, List, [], ◌∷◌, ◌++◌, length, map}
use Rattle.std.proofs.Common.{slice_get}
use Rattle.std.proofs.Common.{refl, sym, ap, ◌∙◌, subst, arith, Bool, true, false, cond, nat_le, Option, Some, None, Ok}
use Rattle.std.specs.Prelude.{Result, is_some, option_map}
use Rattle.std.specs.List.{find}
use Rattle.std.specs.FinMap as finmap
use Rattle.std.proofs.lemmas.List.{append_assoc, length-append}
use Rattle.ln_refusals.specs.declared.refusal.Refusal.{Refusal}
use Rattle.ln_refusals.specs.declared.refusal.Refusal.TheVariants as refusal
use Rattle.ln_channel.specs.End.{End, end_dropped}
use Rattle.ln_channel.specs.Record.{came_back, saved_end}
use Rattle.ln_channel.specs.State.{State}
use Rattle.ln_store.specs.declared.record.Items.{Items}
use Rattle.ln_store.specs.Readable.{is_readable}
use Rattle.ln_store.specs.Record.{record_at, record_bytes}
use Rattle.ln_store.specs.Store.{Records}
use Rattle.ln_link.specs.Loading.{HasRecord, Loads, end_of}
use Rattle.ln_link.specs.Record.{header_of, items_of}
use Rattle.ln_link.proofs.Loaded.{loaded}
use Rattle.ln_link.proofs.Recorded.{recorded}
use Rattle.ln_link.proofs.Restarted.{comes_back}
use Rattle.ln_book.specs.Rebuild.{rebuilt_htlcs}
use Rattle.ln_book.specs.Snapshots.{snapshot_by}
use Rattle.ln_keys.specs.Signer.{Signer}
use Rattle.ln_book_tables.specs.Replay.{pending_command_at, same, table_of}
use Rattle.ln_payment_circuits.specs.Snapshot.{IsIn}
use Rattle.ln_payment_circuits.proofs.Entries.{is_same, same_is}
use Rattle.ln_manager_laws.specs.Calls.{Seat, working}
use Rattle.ln_manager_laws.specs.Manager.{Manager, agreed_id, end_in, id_by, seat_id}
use Rattle.ln_manager_laws.specs.Runs.{AreOnce, AreOther, IsLoaded, read_off}
use Rattle.ln_manager_channels.specs.declared.newest.Newest.{Newest}
use Rattle.ln_manager_channels.specs.declared.saved.Saved.{Saved}
use Rattle.ln_manager_channels.specs.Books.{snapshots_of}
use Rattle.ln_manager_channels.specs.Calls.{AreLoaded, Parts, seats}
use Rattle.ln_manager_channels.specs.Loading.{ComesBack, Seats, SeatsAll, link_id, no_seats, numbered_by}
use Rattle.ln_manager_channels.specs.Loading.{seat_fault}
use Rattle.ln_manager_channels.specs.Moves.{no_record, with_place}
use Rattle.ln_manager_channels.specs.Numbers.{NumbersById, number_at, numbered}
use Rattle.ln_manager_calls.specs.Lives.{AreAgain, AreSaved, Goes, HasNewest, Loads as loads, Moment, again}
use Rattle.ln_manager_calls.specs.Lives.{loaded_of, tells_of}
use Rattle.ln_manager_calls.specs.Standing.{FailsAs, HasId, IsFailing, IsRecorded, Kept, StandsFor, kept_at}
use Rattle.ln_manager_calls.specs.Standing.{link_of, newest, newest_in, told_by}
use Rattle.ln_manager_calls.proofs.Lives.{IsAt}
use Rattle.ln_manager_calls.proofs.Numbered.{has_number, others_number}
use Rattle.ln_manager_calls.proofs.Places.{all_by, is_among, place_of}
use Rattle.ln_manager_calls.proofs.Reading.{read_again}
use Rattle.ln_manager_calls.proofs.Recording.{dropped_has, none_got}
use Rattle.ln_manager_calls.proofs.Seating.{saved_kept}

-- ---- what is found in a list

module _ {A : Type 0} (p : A → Bool) where
  found_is : (xs : List A) (x : A) → find p xs ≡ Some x → IsIn x xs × (p x ≡ true)
  found_is [] x is = absurd (cc)
  found_is (y ∷ xs) x is = cases (λ r. found_is xs x r) (p y) refl is
    where
      cases : (find p xs ≡ Some x → IsIn x xs × (p x ≡ true)) → (b : Bool) → p y ≡ b
          → cond b (Some y) (find p xs) ≡ Some x → IsIn x (y ∷ xs) × (p x ≡ true)
      cases rest true at is =
          let some : Some y ≡ Some x = is in
          let e : y ≡ x = cc in
          (inl e, subst (λ z. p z ≡ true) e at)
      cases rest false at is = let r = rest is in (inr r.0, r.1)

  found_one : (xs : List A) (x : A) → IsIn x xs → p x ≡ true → (y : A) × (find p xs ≡ Some y)
  found_one [] x k is = absurd k
  found_one (z ∷ xs) x k is = cases (λ m. found_one xs x m is) (p z) refl
    where
      cases : (IsIn x xs → (y : A) × (find p xs ≡ Some y)) → (b : Bool) → p z ≡ b
          → (y : A) × (cond b (Some z) (find p xs) ≡ Some y)
      cases rest true at = (z, refl)
      cases rest false at = elim k [
        | inl e ↦ absurd (let no : true ≡ false = sym is ∙ ap p (sym e) ∙ at in cc)
        | inr m ↦ rest m
      ]

-- ---- one record

abbrev pub ReadsRecords : Type 0
ReadsRecords = (i : Items) → is_readable i ≡ true → length (record_bytes i) < 2 ^ 64 → record_at (record_bytes i) ≡ Ok i

abbrev read_as : Items → Result Items Refusal
read_as i = Ok i

of_ok : (i j : Items) → read_as i ≡ read_as j → i ≡ j
of_ok i j e = cc

items_channel : (f : Option Refusal) (e : End) → (items_of f e).header.channel ≡ e.dance.channel
unfolding items_of header_of
items_channel f e = refl

module _ {K : Type 0} (reads : ReadsRecords) (s : Moment K) (at : IsAt s) (saved : List (Saved K))
    (are : AreSaved saved s) where
  abbrev m : Manager K
  m = s.stood

  abbrev kept : ℕ → Kept
  kept k = kept_at s.loaded s.parts.records k

  its_id : (z : Seat K) (e : End) (id : List ℕ) → z.end ≡ Some e → e.dance.channel ≡ id → seat_id z ≡ Some id
  its_id z e id is channel = ap (λ o. id_by o (agreed_id z.link)) is ∙ ap Some channel

  -- the seat that has this id
  record SeatAt (k : ℕ) (id : List ℕ) : Type 0 where
    seat : Seat K
    there : slice_get m.seats k ≡ Some seat
    end : End
    its : seat.end ≡ Some end
    channel : end.dance.channel ≡ id

  same_place : (k j : ℕ) (id : List ℕ) (x : SeatAt k id) (y : SeatAt j id) → j ≡ k
  same_place k j id x y =
      let some : Some j ≡ Some k = sym (at.stands.numbered j y.seat y.there id (its_id y.seat y.end id y.its y.channel))
      ∙ at.stands.numbered k x.seat x.there id (its_id x.seat x.end id x.its x.channel) in cc

  of_loaded : (k : ℕ) (id bytes : List ℕ) → number_at id s.parts.numbers ≡ Some k → s.loaded id ≡ Some bytes
      → SeatAt k id
  of_loaded k id bytes number is =
      let c = at.came id bytes is in
      let p = place_of m.seats c.0 c.1 in
      let some : Some p.0 ≡ Some k =
      sym (at.stands.numbered p.0 c.0 p.1 id (its_id c.0 c.2.0 id c.2.1 c.2.2)) ∙ number in
      let place : p.0 ≡ k = cc in
      record {
        seat = c.0;
        there = ap (slice_get m.seats) (sym place) ∙ p.1;
        end = c.2.0;
        its = c.2.1;
        channel = c.2.2;
      }

  of_own : (k : ℕ) (id : List ℕ) → HasId (end_in (slice_get m.seats k)) id → SeatAt k id
  of_own k id own = by_seat (slice_get m.seats k) refl own
    where
      by_seat : (o : Option (Seat K)) → slice_get m.seats k ≡ o → HasId (end_in o) id → SeatAt k id
      by_seat None is own = absurd (let no : None ≡ Some own.0 = own.1 in cc)
      by_seat (Some z) is own =
          record { seat = z; there = is; end = own.0; its = own.1; channel = own.2 }

  has_seat : (k : ℕ) (id bytes : List ℕ) → HasNewest s k id bytes → SeatAt k id
  has_seat k id bytes h = by_records (kept k).since refl h.1
    where
      by_found : (rs : Records) → (kept k).since ≡ Some rs → (o : Option (List ℕ)) → finmap.get rs id ≡ o
          → told_by o (s.loaded id) ≡ Some bytes → SeatAt k id
      by_found rs since None got is = of_loaded k id bytes h.0 is
      by_found rs since (Some []) got is = of_loaded k id bytes h.0 is
      by_found rs since (Some (b ∷ bs)) got is =
          elim ((at.stands.recorded k).alone rs since id (b ∷ bs) got) [
            | inl none ↦ absurd (cc)
            | inr own ↦ of_own k id own
          ]

      by_records : (o : Option Records) → (kept k).since ≡ o → newest_in o id (s.loaded id) ≡ Some bytes → SeatAt k id
      by_records None since is = of_loaded k id bytes h.0 is
      by_records (Some rs) since is = by_found rs since (finmap.get rs id) refl is

  -- its end, and the record of that
  record RecordAt (k : ℕ) (id bytes : List ℕ) : Type 0 where
    seat : SeatAt k id
    failure : Option Refusal
    fails : IsFailing failure
    has : HasRecord failure seat.end
    bytes_are : bytes ≡ record_bytes (items_of failure seat.end)

  record_found : (k : ℕ) (id bytes : List ℕ) (x : SeatAt k id) → newest (kept k) id ≡ Some bytes → RecordAt k id bytes
  record_found k id bytes x is =
      let r = (subst (λ o. IsRecorded o (kept k)) x.there (at.stands.recorded k)).has x.end x.its in
      let some : Some bytes ≡ Some (record_bytes (items_of r.0 x.end)) =
      sym is ∙ ap (newest (kept k)) (sym x.channel) ∙ r.3 in
      record { seat = x; failure = r.0; fails = r.1.0; has = r.2; bytes_are = cc }

  read_record : (f : Option Refusal) (e : End) (bytes : List ℕ) → HasRecord f e
      → bytes ≡ record_bytes (items_of f e) → length bytes < 2 ^ 64 → record_at bytes ≡ Ok (items_of f e)
  read_record f e bytes has is short =
      ap record_at is ∙ reads (items_of f e) has.items (subst (λ b. length b < 2 ^ 64) is short)

  -- ---- a link has come back from it

  record IsBack (x : Saved K) (l : State K) (y : Seat K) : Type 0 where
    place : ℕ
    id : List ℕ
    newest_is : newest (kept place) id ≡ Some x.bytes
    of : RecordAt place id x.bytes
    link : l ≡ came_back x.keys of.failure (end_of (items_of of.failure of.seat.end))
    is : y ≡ working (came_back x.keys of.failure (end_dropped of.seat.end))

  back_one : (x : Saved K) → IsIn x saved → (l : State K) → ComesBack x (Ok l) → (y : Seat K) × IsBack x l y
  unfolding ComesBack
  back_one x x_in l comes =
      let e = are.each x x_in in
      let k = e.0 in
      let id = e.1.0 in
      let r = record_found k id x.bytes (has_seat k id x.bytes e.1.1) e.1.1.1 in
      let read = read_record r.failure r.seat.end x.bytes r.has r.bytes_are (are.short x x_in) in
      let loads_it = subst (λ z. Loads x.keys z (Ok l)) read comes in (
        working (came_back x.keys r.failure (end_dropped r.seat.end)),
        record {
          place = k;
          id = id;
          newest_is = e.1.1.1;
          of = r;
          link = comes_back x.keys r.failure r.seat.end (Ok l) r.has loads_it;
          is = refl;
        },
      )

  back_id : (x : Saved K) (l : State K) (y : Seat K) → (b : IsBack x l y) → link_id l ≡ Some b.id
  back_id x l y b =
      ap link_id b.link
      ∙ ap Some (ap (λ (z : End). z.dance.channel) (loaded b.of.failure b.of.seat.end b.of.has).same_end
      ∙ b.of.seat.channel)

  back_end : (x : Saved K) (l : State K) (y : Seat K) → (b : IsBack x l y) → y.end ≡ Some (end_dropped b.of.seat.end)
  back_end x l y b = ap (λ (z : Seat K). z.end) b.is

  back_seat_id : (x : Saved K) (l : State K) (y : Seat K) → (b : IsBack x l y) → seat_id y ≡ Some b.id
  back_seat_id x l y b = its_id y (end_dropped b.of.seat.end) b.id (back_end x l y b) b.of.seat.channel

  -- two of one id are of one seat, and have one record
  back_same : (x x' : Saved K) (l l' : State K) (y y' : Seat K) (b : IsBack x l y) (b' : IsBack x' l' y')
      → b'.id ≡ b.id → (b'.of.seat.end ≡ b.of.seat.end) × (x'.bytes ≡ x.bytes)
  back_same x x' l l' y y' b b' id =
      let other : SeatAt b'.place b.id = record {
        seat = b'.of.seat.seat;
        there = b'.of.seat.there;
        end = b'.of.seat.end;
        its = b'.of.seat.its;
        channel = b'.of.seat.channel ∙ id;
      } in
      let place : b'.place ≡ b.place = same_place b.place b'.place b.id b.of.seat other in
      let some : Some b'.of.seat.seat ≡ Some b.of.seat.seat =
      sym b'.of.seat.there ∙ ap (slice_get m.seats) place ∙ b.of.seat.there in
      let same_seat : b'.of.seat.seat ≡ b.of.seat.seat = cc in
      let ends : Some b'.of.seat.end ≡ Some b.of.seat.end =
      sym b'.of.seat.its ∙ ap (λ (z : Seat K). z.end) same_seat ∙ b.of.seat.its in
      let found : Some x'.bytes ≡ Some x.bytes =
      sym b'.newest_is ∙ ap (λ k. newest (kept k) b'.id) place ∙ ap (newest (kept b.place)) id ∙ b.newest_is in
      (cc, cc)

  -- ---- all have come back, with their numbers

  abbrev AreBack : List (Saved K) → List (State K) → List (Seat K) → Type 0
  AreBack [] [] [] = Unit {0}
  AreBack [] [] (y ∷ ys) = ⊥
  AreBack [] (l ∷ ls) ys = ⊥
  AreBack (x ∷ xs) [] ys = ⊥
  AreBack (x ∷ xs) (l ∷ ls) [] = ⊥
  AreBack (x ∷ xs) (l ∷ ls) (y ∷ ys) = IsBack x l y × AreBack xs ls ys

  record AllBack (xs : List (Saved K)) (p q : Seats K) : Type 0 where
    ls : List (State K)
    ys : List (Seat K)
    back : AreBack xs ls ys
    links : q.links ≡ p.links ++ ls
    older : (id : List ℕ) (n : ℕ) → number_at id p.numbers ≡ Some n → number_at id q.numbers ≡ Some n
    numbers : (k : ℕ) (y : Seat K) → slice_get ys k ≡ Some y → (id : List ℕ) → seat_id y ≡ Some id
        → number_at id q.numbers ≡ Some (length p.links + k)
    empty : ((k : ℕ) (n : Newest) → slice_get p.records k ≡ Some n → n.kept ≡ finmap.empty)
        → (k : ℕ) (n : Newest) → slice_get q.records k ≡ Some n → n.kept ≡ finmap.empty

  -- a place more has none
  placed_empty : (c : ℕ) (ns : List Newest) → ((k : ℕ) (n : Newest) → slice_get ns k ≡ Some n → n.kept ≡ finmap.empty)
      → (k : ℕ) (n : Newest) → slice_get (with_place c ns) k ≡ Some n → n.kept ≡ finmap.empty
  placed_empty c ns h = by_room (nat_le (length ns) c)
    where
      more : (xs : List Newest) → ((k : ℕ) (n : Newest) → slice_get xs k ≡ Some n → n.kept ≡ finmap.empty)
          → (k : ℕ) (n : Newest) → slice_get (xs ++ no_record ∷ []) k ≡ Some n → n.kept ≡ finmap.empty
      more [] h zero n is = let same : no_record ≡ n = cc in ap (λ (z : Newest). z.kept) (sym same)
      more [] h (suc k) n is = absurd (cc)
      more (x ∷ xs) h zero n is = h zero n is
      more (x ∷ xs) h (suc k) n is = more xs (λ j. h (suc j)) k n is

      by_room : (b : Bool) → (k : ℕ) (n : Newest) → slice_get (cond b (ns ++ no_record ∷ []) ns) k ≡ Some n
          → n.kept ≡ finmap.empty
      by_room true = more ns h
      by_room false = h

  -- an id without a number
  no_number : (o : Option (List ℕ)) (id : List ℕ) (by_id : NumbersById) → o ≡ Some id → seat_fault o by_id ≡ None
      → number_at id by_id ≡ None
  no_number o id by_id is none = by_number (number_at id by_id) refl
    where
      by_number : (n : Option ℕ) → number_at id by_id ≡ n → n ≡ None
      by_number None at = refl
      by_number (Some n) at = absurd (let no : Some refusal.Damaged ≡ None =
          sym (ap (λ b. cond (is_some b) (Some refusal.Damaged) None) at) ∙ sym (ap (λ z. seat_fault z by_id) is) ∙ none
          in cc)

  back_all : (xs : List (Saved K)) → ((x : Saved K) → IsIn x xs → IsIn x saved) → (p q : Seats K) → SeatsAll xs p q
      → AllBack xs p q
  back_all [] among p q are_same = record {
    ls = [];
    ys = [];
    back = tt;
    links = ap (λ (z : Seats K). z.links) are_same ∙ sym (append_nil p.links);
    older = λ id n is. ap (λ (z : Seats K). number_at id z.numbers) are_same ∙ is;
    numbers = λ k y is. absurd (cc);
    empty = λ h k n is. h k n (ap (λ (z : Seats K). slice_get z.records k) (sym are_same) ∙ is);
  }
    where
      append_nil : (xs : List (State K)) → xs ++ [] ≡ xs
      append_nil [] = refl
      append_nil (x ∷ xs) = ap (λ zs. x ∷ zs) (append_nil xs)
  back_all (x ∷ xs) among p q all =
      let one = all.1 in
      let l = one.0 in
      let b = back_one x (among x (inl refl)) l one.1 in
      let id = back_id x l b.0 b.1 in
      let new = no_number (link_id l) b.1.id p.numbers id one.2 in
      let rest = back_all xs (λ z k. among z (inr k)) all.0 q all.2 in
      let first_links : all.0.links ≡ p.links ++ l ∷ [] = ap (λ (z : Seats K). z.links) one.3 in
      let first_numbers : all.0.numbers ≡ numbered b.1.id (length p.links) p.numbers =
      ap (λ (z : Seats K). z.numbers) one.3 ∙ ap (λ o. numbered_by o (length p.links) p.numbers) id in
      let long : length all.0.links ≡ length p.links + 1 =
      ap length first_links ∙ length-append p.links (l ∷ []) in
      record {
        ls = l ∷ rest.ls;
        ys = b.0 ∷ rest.ys;
        back = (b.1, rest.back);
        links = rest.links ∙ ap (λ zs. zs ++ rest.ls) first_links ∙ append_assoc p.links (l ∷ []) rest.ls;
        older = λ i n is. rest.older i n (ap (number_at i) first_numbers
            ∙ others_number b.1.id i (λ e. absurd (let no : None ≡ Some n =
            sym new ∙ ap (λ z. number_at z p.numbers) (sym e) ∙ is in cc)) (length p.links) p.numbers ∙ is);
        numbers = λ k y is i its. by_place b.0 b.1 rest new first_numbers long k y is i its;
        empty = λ h k n is. rest.empty (λ j z at. placed_empty (length p.links) p.records h j z
            (ap (λ (y : Seats K). slice_get y.records j) (sym one.3) ∙ at)) k n is;
      }
    where
      by_place : (y' : Seat K) (b : IsBack x all.1.0 y') (rest : AllBack xs all.0 q) → number_at b.id p.numbers ≡ None
          → all.0.numbers ≡ numbered b.id (length p.links) p.numbers → length all.0.links ≡ length p.links + 1
          → (k : ℕ) (y : Seat K) → slice_get (y' ∷ rest.ys) k ≡ Some y → (i : List ℕ) → seat_id y ≡ Some i
          → number_at i q.numbers ≡ Some (length p.links + k)
      by_place y' b rest new numbers long zero y is i its =
          let some : Some y' ≡ Some y = is in
          let same_seat : y' ≡ y = cc in
          let ids : Some b.id ≡ Some i =
          sym (back_seat_id x all.1.0 y' b) ∙ ap seat_id same_seat ∙ its in
          let id : i ≡ b.id = cc in
          let place : length p.links ≡ length p.links + zero = omega arith in
          ap (λ z. number_at z q.numbers) id
          ∙ rest.older b.id (length p.links) (ap (number_at b.id) numbers ∙ has_number b.id (length p.links) p.numbers)
          ∙ ap Some place
      by_place y' b rest new numbers long (suc k) y is i its =
          let place : length all.0.links + k ≡ length p.links + suc k = omega (arith, long) in
          rest.numbers k y is i its ∙ ap Some place

  -- ---- what is among them

  of_seat : (xs : List (Saved K)) (ls : List (State K)) (ys : List (Seat K)) → AreBack xs ls ys → (y : Seat K)
      → IsIn y ys → (x : Saved K) × IsIn x xs × ((l : State K) × IsBack x l y)
  of_seat [] [] [] b y k = absurd k
  of_seat (x ∷ xs) (l ∷ ls) (z ∷ ys) b y (inl e) = (x, inl refl, (l, subst (IsBack x l) e b.0))
  of_seat (x ∷ xs) (l ∷ ls) (z ∷ ys) b y (inr k) = let r = of_seat xs ls ys b.1 y k in (r.0, inr r.1, r.2)
  of_seat [] [] (z ∷ ys) b y k = absurd b
  of_seat [] (l ∷ ls) ys b y k = absurd b
  of_seat (x ∷ xs) [] ys b y k = absurd b
  of_seat (x ∷ xs) (l ∷ ls) [] b y k = absurd b

  of_saved : (xs : List (Saved K)) (ls : List (State K)) (ys : List (Seat K)) → AreBack xs ls ys → (x : Saved K)
      → IsIn x xs → (l : State K) × ((y : Seat K) × IsIn y ys × IsBack x l y)
  of_saved [] [] [] b x k = absurd k
  of_saved (z ∷ xs) (l ∷ ls) (y ∷ ys) b x (inl e) = (l, (y, inl refl, subst (λ i. IsBack i l y) e b.0))
  of_saved (z ∷ xs) (l ∷ ls) (y ∷ ys) b x (inr k) =
      let r = of_saved xs ls ys b.1 x k in (r.0, (r.1.0, inr r.1.1, r.1.2))
  of_saved [] [] (z ∷ ys) b x k = absurd b
  of_saved [] (l ∷ ls) ys b x k = absurd b
  of_saved (z ∷ xs) [] ys b x k = absurd b
  of_saved (z ∷ xs) (l ∷ ls) [] b x k = absurd b

  are_again : (xs : List (Saved K)) (ls : List (State K)) (ys : List (Seat K)) → AreBack xs ls ys
      → AreAgain ls (map link_of ys)
  are_again [] [] [] b = tt
  are_again (x ∷ xs) (l ∷ ls) (y ∷ ys) b = (
    record {
      keys = x.keys;
      failure = b.0.of.failure;
      end = b.0.of.seat.end;
      has = b.0.of.has;
      loaded = b.0.link;
      again = ap link_of b.0.is;
    },
    are_again xs ls ys b.1,
  )
  are_again [] [] (z ∷ ys) b = absurd b
  are_again [] (l ∷ ls) ys b = absurd b
  are_again (x ∷ xs) [] ys b = absurd b
  are_again (x ∷ xs) (l ∷ ls) [] b = absurd b

  reads_so : (xs : List (Saved K)) (ls : List (State K)) (ys : List (Seat K)) → AreBack xs ls ys
      → snapshots_of ls ≡ read_off ys
  reads_so [] [] [] b = refl
  reads_so (x ∷ xs) (l ∷ ls) (y ∷ ys) b =
      ap (λ (z : State K). snapshot_by (saved_end z.stage) ++ snapshots_of ls) b.0.link
      ∙ ap (λ r. r ∷ snapshots_of ls) (read_again _ b.0.of.seat.end (loaded b.0.of.failure b.0.of.seat.end b.0.of.has))
      ∙ ap (λ o. snapshot_by o ++ snapshots_of ls) (sym (back_end x l y b.0))
      ∙ ap (λ rs. snapshot_by y.end ++ rs) (reads_so xs ls ys b.1)
  reads_so [] [] (z ∷ ys) b = absurd b
  reads_so [] (l ∷ ls) ys b = absurd b
  reads_so (x ∷ xs) [] ys b = absurd b
  reads_so (x ∷ xs) (l ∷ ls) [] b = absurd b

  -- ---- a load

  module _ (q : Parts K) (load : AreLoaded saved q) where
    all : AllBack saved no_seats (seats q)
    all = back_all saved (λ x k. k) no_seats (seats q) load.0

    pub n : Manager K
    n = record { seats = all.ys; book = table_of q.book }

    came : (y : Seat K) → IsIn y all.ys → (x : Saved K) × IsIn x saved × ((l : State K) × IsBack x l y)
    came = of_seat saved all.ls all.ys all.back

    its_number : (k : ℕ) (y : Seat K) → slice_get all.ys k ≡ Some y → (id : List ℕ) → seat_id y ≡ Some id
        → number_at id q.numbers ≡ Some k
    its_number k y is id its = let place : 0 + k ≡ k = omega arith in all.numbers k y is id its ∙ ap Some place

    once : (ys : List (Seat K)) (f : ℕ → ℕ) → ((i j : ℕ) → f i ≡ f j → i ≡ j)
        → ((k : ℕ) (y : Seat K) → slice_get ys k ≡ Some y → (id : List ℕ) → seat_id y ≡ Some id
        → number_at id q.numbers ≡ Some (f k)) → AreOnce ys
    once [] f one h = tt
    once (y ∷ ys) f one h = (
      all_by (λ z. AreOther (seat_id y) (seat_id z)) ys (λ k z is. other (seat_id y) (seat_id z) k
          (λ id its. h zero y refl id its) (λ id its. h (suc k) z is id its)),
      once ys (λ k. f (suc k)) (λ i j e. let less : suc i ≡ suc j = one (suc i) (suc j) e in omega (arith, less))
          (λ k z is. h (suc k) z is),
    )
      where
        other : (a b : Option (List ℕ)) (k : ℕ) → ((id : List ℕ) → a ≡ Some id → number_at id q.numbers ≡ Some (f zero))
            → ((id : List ℕ) → b ≡ Some id → number_at id q.numbers ≡ Some (f (suc k))) → AreOther a b
        other None b k x z = tt
        other (Some i) None k x z = tt
        other (Some i) (Some j) k x z = λ same_one.
            let some : Some (f zero) ≡ Some (f (suc k)) =
            sym (x i refl) ∙ ap (λ u. number_at u q.numbers) same_one ∙ z j refl in
            let places : f zero ≡ f (suc k) = cc in
            let no : zero ≡ suc k = one zero (suc k) places in omega (arith, no)

    pub is_loaded : IsLoaded m n
    unfolding n
    is_loaded = record {
      back = λ y y_in.
          let c = came y y_in in
          let b = c.2.1 in (
            b.of.seat.seat,
            is_among m.seats b.place b.of.seat.seat b.of.seat.there,
            (b.of.seat.end, b.of.seat.its, (c.0.keys, b.of.failure, b.is)),
          );
      all = λ x x_in e is.
          let p = place_of m.seats x x_in in
          let own : SeatAt p.0 e.dance.channel =
          record { seat = x; there = p.1; end = e; its = is; channel = refl } in
          let r = (subst (λ o. IsRecorded o (kept p.0)) p.1 (at.stands.recorded p.0)).has e is in
          let number = at.stands.numbered p.0 x p.1 e.dance.channel (its_id x e e.dance.channel is refl) in
          let there = are.all p.0 e.dance.channel (record_bytes (items_of r.0 e)) (number, r.3) in
          let k = of_saved saved all.ls all.ys all.back there.0 there.1 in
          let b = k.1.2 in
          let bytes : record_bytes (items_of b.of.failure b.of.seat.end) ≡ record_bytes (items_of r.0 e) =
          sym b.of.bytes_are ∙ there.2 in
          let short : length (record_bytes (items_of r.0 e)) < 2 ^ 64 =
          subst (λ z. length z < 2 ^ 64) there.2 (are.short there.0 there.1) in
          let read = read_record b.of.failure b.of.seat.end (record_bytes (items_of r.0 e)) b.of.has (sym bytes) short
          in
          let items : items_of b.of.failure b.of.seat.end ≡ items_of r.0 e =
          of_ok _ _ (sym read ∙ read_record r.0 e (record_bytes (items_of r.0 e)) r.2 refl short) in
          let channel : b.of.seat.end.dance.channel ≡ e.dance.channel =
          sym (items_channel b.of.failure b.of.seat.end) ∙ ap (λ (i : Items). i.header.channel) items
          ∙ items_channel r.0 e in
          let same_one : b.of.seat.end ≡ e = same_end p.0 x e own b.place b.id b.of.seat channel in
          (k.1.0, k.1.1, back_end there.0 k.0 k.1.0 b ∙ ap (λ z. Some (end_dropped z)) same_one);
      once = once all.ys (λ k. k) (λ i j e. e) its_number;
      book = ap (λ b. (table_of b).htlcs) load.1 ∙ ap rebuilt_htlcs reads_now;
    }
      where
        same_end : (k : ℕ) (x : Seat K) (e : End) (own : SeatAt k e.dance.channel) (j : ℕ) (id : List ℕ)
            (z : SeatAt j id) → z.end.dance.channel ≡ e.dance.channel → z.end ≡ own.end
        same_end k x e own j id z channel =
            let moved : SeatAt j e.dance.channel =
            record { seat = z.seat; there = z.there; end = z.end; its = z.its; channel = channel } in
            let place : j ≡ k = same_place k j e.dance.channel own moved in
            let some : Some z.seat ≡ Some own.seat =
            sym z.there ∙ ap (slice_get m.seats) place ∙ own.there in
            let same_seat : z.seat ≡ own.seat = cc in
            let ends : Some z.end ≡ Some own.end =
            sym z.its ∙ ap (λ (i : Seat K). i.end) same_seat ∙ own.its in cc

        reads_now : snapshots_of q.links ≡ read_off all.ys
        reads_now = ap snapshots_of all.links ∙ reads_so saved all.ls all.ys all.back

    -- ---- what was loaded stands for it

    tells : (x : Saved K) (l : State K) (y : Seat K) (b : IsBack x l y) → IsIn x saved → (id : List ℕ)
        → tells_of id (record_at x.bytes) ≡ same id b.id
    tells x l y b x_in id =
        ap (tells_of id) (read_record b.of.failure b.of.seat.end x.bytes b.of.has b.of.bytes_are (are.short x x_in))
        ∙ ap (same id) (items_channel b.of.failure b.of.seat.end ∙ b.of.seat.channel)

    -- the record of a link that has come back
    loaded_record : (x : Saved K) → IsIn x saved → (l : State K) (y : Seat K) (b : IsBack x l y)
        → loaded_of saved b.id ≡ Some x.bytes
    loaded_record x x_in l y b =
        let p = λ (z : Saved K). tells_of b.id (record_at z.bytes) in
        let first = found_one p saved x x_in (tells x l y b x_in b.id ∙ is_same b.id b.id refl) in
        let is = found_is p saved first.0 first.1 in
        let k = of_saved saved all.ls all.ys all.back first.0 is.0 in
        let id = same_is b.id k.1.2.id (sym (tells first.0 k.0 k.1.0 k.1.2 is.0 b.id) ∙ is.1) in
        ap (option_map (λ (z : Saved K). z.bytes)) first.1
        ∙ ap Some (back_same x first.0 l k.0 y k.1.0 b k.1.2 (sym id)).1

    -- whose id was loaded has come back
    loaded_seat : (id bytes : List ℕ) → loaded_of saved id ≡ Some bytes
        → (y : Seat K) × IsIn y all.ys × HasId y.end id
    loaded_seat id bytes is = by_found (find p saved) refl is
      where
        p : Saved K → Bool
        p z = tells_of id (record_at z.bytes)

        by_found : (o : Option (Saved K)) → find p saved ≡ o → option_map (λ (z : Saved K). z.bytes) o ≡ Some bytes
            → (y : Seat K) × IsIn y all.ys × HasId y.end id
        by_found None at is = absurd (cc)
        by_found (Some x) at is =
            let f = found_is p saved x at in
            let k = of_saved saved all.ls all.ys all.back x f.0 in
            let b = k.1.2 in
            let same_one = same_is id b.id (sym (tells x k.0 k.1.0 b f.0 id) ∙ f.1) in
            (k.1.0, k.1.1, (end_dropped b.of.seat.end, back_end x k.0 k.1.0 b, b.of.seat.channel ∙ sym same_one))

    -- no record was saved since
    none_since : (k : ℕ) (rs : Records) → (kept_at (loaded_of saved) q.records k).since ≡ Some rs → rs ≡ finmap.empty
    none_since k rs is = by_record (slice_get q.records k) refl is
      where
        by_record : (o : Option Newest) → slice_get q.records k ≡ o → option_map (λ (z : Newest). z.kept) o ≡ Some rs
            → rs ≡ finmap.empty
        by_record None at is = absurd (cc)
        by_record (Some z) at is =
            let some : Some z.kept ≡ Some rs = is in
            let same_one : rs ≡ z.kept = cc in
            same_one ∙ all.empty (λ j y none. absurd (let no : None ≡ Some y = none in cc)) k z at

    newest_loaded : (k : ℕ) (id : List ℕ) → newest (kept_at (loaded_of saved) q.records k) id ≡ loaded_of saved id
    newest_loaded k id = by_records (kept_at (loaded_of saved) q.records k).since refl
      where
        by_records : (o : Option Records) → (kept_at (loaded_of saved) q.records k).since ≡ o
            → newest_in o id (loaded_of saved id) ≡ loaded_of saved id
        by_records None is = refl
        by_records (Some rs) is =
            ap (λ z. told_by (finmap.get z id) (loaded_of saved id)) (none_since k rs is)
            ∙ ap (λ b. told_by b (loaded_of saved id)) (none_got id)

    nothing_told : (k : ℕ) (o : Option End) (rs : Records) → (kept_at (loaded_of saved) q.records k).since ≡ Some rs
        → (id bytes : List ℕ) → finmap.get rs id ≡ Some bytes → (bytes ≡ []) ⊎ HasId o id
    nothing_told k o rs since id bytes got =
        absurd (let no : None ≡ Some bytes =
        sym (none_got id) ∙ sym (ap (λ z. finmap.get z id) (none_since k rs since)) ∙ got in cc)

    now_recorded : (k : ℕ) (o : Option (Seat K)) → slice_get all.ys k ≡ o
        → IsRecorded o (kept_at (loaded_of saved) q.records k)
    now_recorded k None is = record { has = λ e at. absurd (cc); alone = nothing_told k None }
    now_recorded k (Some y) is =
        let c = came y (is_among all.ys k y is) in
        let b = c.2.1 in
        let d = end_dropped b.of.seat.end in
        let its_end = back_end c.0 c.2.0 y b in
        let bytes : newest (kept_at (loaded_of saved) q.records k) d.dance.channel
        ≡ Some (record_bytes (items_of b.of.failure d)) =
        newest_loaded k d.dance.channel ∙ ap (loaded_of saved) b.of.seat.channel
        ∙ loaded_record c.0 c.1 c.2.0 y b ∙ ap Some b.of.bytes_are
        ∙ ap (λ i. Some (record_bytes i)) (sym (recorded b.of.failure b.of.seat.end)) in
        record {
          has = λ e at.
              let some : Some d ≡ Some e = sym its_end ∙ at in
              let same_one : d ≡ e = cc in
              subst (λ z. (f : Option Refusal) × FailsAs (Some y) f × HasRecord f z
              × (newest (kept_at (loaded_of saved) q.records k) z.dance.channel
              ≡ Some (record_bytes (items_of f z)))) same_one (
                b.of.failure,
                (b.of.fails, λ works. sym (ap (λ (z : Seat K). z.link.failure) b.is)),
                dropped_has b.of.failure b.of.seat.end b.of.has,
                bytes,
              );
          alone = nothing_told k y.end;
        }

    its_end : (y : Seat K) → IsIn y all.ys → y.end ≡ saved_end y.link.stage
    its_end y y_in = subst (λ (z : Seat K). z.end ≡ saved_end z.link.stage) (sym (came y y_in).2.1.is) refl

    pub stands : StandsFor (loaded_of saved) (again q n) n
    unfolding n
    stands = record {
      links = refl;
      ends = λ y y_in works. its_end y y_in;
      channels = λ y y_in e is. saved_kept y.link.stage e (sym (its_end y y_in) ∙ is);
      failures = λ y y_in works r is.
          let b = (came y y_in).2.1 in
          b.of.fails r (sym (ap (λ (z : Seat K). z.link.failure) b.is) ∙ is);
      records = λ k. now_recorded k (slice_get all.ys k) refl;
      loaded = loaded_seat;
      numbers = its_number;
      commands = λ id. inl (ap (λ b. pending_command_at id (table_of b)) load.1);
      book = refl;
    }

    pub load_goes : (signer : K → Signer)
        → Goes signer s (record { parts = again q n; loaded = loaded_of saved; stood = n })
    unfolding n
    load_goes signer = loads saved q are load
        (subst (λ ls. AreAgain ls (map link_of all.ys)) (sym all.links) (are_again saved all.ls all.ys all.back))
        refl refl is_loaded stands
