-- What is kept of a manager, whatever it is called for: each end is fit, no two links have one id, each payment is one
-- of the machine's, and the book knows each HTLC by a channel and by an event that was decided.
use Rattle.std.proofs.Common.{◌≡◌, ◌⊎◌, inl, inr, ℕ, ◌<◌, ◌≤◌, List, [], ◌∷◌, ◌++◌, refl, sym, ap, ◌∙◌, subst}
use Rattle.std.proofs.Common.{true, Option, Some, None, IfSome}
use Rattle.ln_channel.specs.End.{End}
use Rattle.ln_channel.specs.Ledger.{most_decided}
use Rattle.ln_book_tables.specs.declared.htlc.Htlc.{Htlc}
use Rattle.ln_book_tables.specs.declared.htlc.Key.{Key}
use Rattle.ln_book_tables.specs.Replay.{same}
use Rattle.ln_book.specs.Rebuild.{no_event}
use Rattle.ln_payment_circuits.specs.Snapshot.{Snapshot, IsIn, IsFit, AreFit}
use Rattle.ln_payment_circuits.specs.Happens.{Happens, HasOwnIds}
use Rattle.ln_payment_circuits.proofs.Entries.{same_is}
use Rattle.ln_payment_circuits.proofs.Law.{IsKept, kept}
use Rattle.ln_payment_circuits.proofs.Naming.{AllName, names_widen}
use Rattle.ln_manager_laws.specs.Calls.{Seat}
use Rattle.ln_manager_laws.specs.Manager.{Manager, has_id, seat_of, end_in, end_of, snapshot, seat_id}
use Rattle.ln_manager_laws.specs.Steps.{Changes, others, Works}
use Rattle.ln_manager_laws.proofs.Seats.{IsSound}
use Rattle.ln_manager_laws.proofs.Apart.{AreApart, ids, ids_split, apart_split, apart_join, Other, found_is}
use Rattle.ln_manager_laws.proofs.Hosted.{IsAlone}
use Rattle.ln_manager_laws.proofs.Snapshots.{Apart}

-- ---- of each link

module _ {K : Type 0} where
  abbrev pub EachSeat : (Seat K → Type 0) → Manager K → Type 0
  EachSeat P m = (x : Seat K) → IsIn x m.seats → P x

  among_front : (x : Seat K) (xs ys : List (Seat K)) → IsIn x xs → IsIn x (xs ++ ys)
  among_front x [] ys h = absurd h
  among_front x (y ∷ xs) ys (inl e) = inl e
  among_front x (y ∷ xs) ys (inr h) = inr (among_front x xs ys h)

  among_rest : (x : Seat K) (xs ys : List (Seat K)) → IsIn x ys → IsIn x (xs ++ ys)
  among_rest x [] ys h = h
  among_rest x (y ∷ xs) ys h = inr (among_rest x xs ys h)

  -- each that isn't the one in the middle stands beside any other one there
  beside : (x y z : Seat K) (xs ys : List (Seat K)) → IsIn z (xs ++ y ∷ ys) → (y ≡ z) ⊎ IsIn z (xs ++ x ∷ ys)
  beside x y z [] ys (inl e) = inl e
  beside x y z [] ys (inr h) = inr (inr h)
  beside x y z (w ∷ xs) ys (inl e) = inr (inl e)
  beside x y z (w ∷ xs) ys (inr h) = elim (beside x y z xs ys h) [ inl e ↦ inl e | inr k ↦ inr (inr k) ]

  alone_front : (a : Option (List ℕ)) (xs ys : List (Seat K)) → IsAlone a (xs ++ ys) → IsAlone a xs
  alone_front a [] ys h = tt
  alone_front a (x ∷ xs) ys h = (h.0, alone_front a xs ys h.1)

  alone_rest : (a : Option (List ℕ)) (xs ys : List (Seat K)) → IsAlone a (xs ++ ys) → IsAlone a ys
  alone_rest a [] ys h = h
  alone_rest a (x ∷ xs) ys h = alone_rest a xs ys h.1

  alone_both : (a : Option (List ℕ)) (xs ys : List (Seat K)) → IsAlone a xs → IsAlone a ys → IsAlone a (xs ++ ys)
  alone_both a [] ys h k = k
  alone_both a (x ∷ xs) ys h k = (h.0, alone_both a xs ys h.1 k)

  in_parts : (z y : Seat K) (xs ys : List (Seat K)) → IsIn z (xs ++ y ∷ ys) → (y ≡ z) ⊎ IsIn z (xs ++ ys)
  in_parts z y [] ys (inl e) = inl e
  in_parts z y [] ys (inr k) = inr k
  in_parts z y (x ∷ xs) ys (inl e) = inr (inl e)
  in_parts z y (x ∷ xs) ys (inr k) = elim (in_parts z y xs ys k) [ inl e ↦ inl e | inr l ↦ inr (inr l) ]

  in_all : (z x : Seat K) (xs ys : List (Seat K)) → IsIn z (xs ++ ys) → IsIn z (xs ++ x ∷ ys)
  in_all z x [] ys k = inr k
  in_all z x (y ∷ xs) ys (inl e) = inl e
  in_all z x (y ∷ xs) ys (inr k) = inr (in_all z x xs ys k)

  pub of_all : (a : Option (List ℕ)) (z : Seat K) (xs : List (Seat K)) → IsAlone a xs → IsIn z xs → Other a (seat_id z)
  of_all a z [] h k = absurd k
  of_all a z (x ∷ xs) h (inl e) = subst (λ (q : Seat K). Other a (seat_id q)) e h.0
  of_all a z (x ∷ xs) h (inr k) = of_all a z xs h.1 k

  -- ---- channels

  -- a link has an end of the channel with this id
  abbrev pub IsChannel : Manager K → List ℕ → Type 0
  IsChannel m c = (x : Seat K) × IsIn x m.seats × ((e : End) × (x.end ≡ Some e) × (e.dance.channel ≡ c))

  -- own adds say by channels which HTLCs they forward
  abbrev pub SaysNames : Manager K → Seat K → Type 0
  SaysNames m x = (e : End) → x.end ≡ Some e → AllName (IsChannel m) e.dance.log.own

  -- what a link that works has told of the book's HTLCs, it has decided
  abbrev pub IsDated : List Htlc → Seat K → Type 0
  IsDated hs x = (e : End) → Works x e → (h : Htlc) → IsIn h hs → h.key.channel ≡ e.dance.channel
      → (h.event ≡ no_event) ⊎ (h.event < e.ledger.decided)

  -- an end has events left
  abbrev pub HasEvents : Seat K → Type 0
  HasEvents x = (e : End) → x.end ≡ Some e → e.ledger.decided ≤ most_decided

  -- an end stays, of its channel
  abbrev pub KeepsEnd : Seat K → Seat K → Type 0
  KeepsEnd x y = (e : End) → x.end ≡ Some e → (f : End) × (y.end ≡ Some f) × (f.dance.channel ≡ e.dance.channel)

  module _ (x y : Seat K) (m n : Manager K) (g : Changes x y m n) where
    pub was_there : IsIn x m.seats
    was_there = subst (IsIn x) (sym g.was) (among_rest x g.before (x ∷ g.after) (inl refl))

    pub is_there : IsIn y n.seats
    is_there = subst (IsIn y) (sym g.is) (among_rest y g.before (y ∷ g.after) (inl refl))

    -- the changed one, or one that was there
    pub now_or_then : (z : Seat K) → IsIn z n.seats → (y ≡ z) ⊎ IsIn z m.seats
    now_or_then z h = elim (beside x y z g.before g.after (subst (IsIn z) g.is h)) [
      | inl e ↦ inl e
      | inr k ↦ inr (subst (IsIn z) (sym g.was) k)
    ]

    pub then_or_now : (z : Seat K) → IsIn z m.seats → (x ≡ z) ⊎ IsIn z n.seats
    then_or_now z h = elim (beside y x z g.before g.after (subst (IsIn z) g.was h)) [
      | inl e ↦ inl e
      | inr k ↦ inr (subst (IsIn z) (sym g.is) k)
    ]

    pub each_changed : (P Q : Seat K → Type 0) → ((z : Seat K) → P z → Q z) → Q y → EachSeat P m → EachSeat Q n
    each_changed P Q to new old z h = elim (now_or_then z h) [
      | inl e ↦ subst Q e new
      | inr k ↦ to z (old z k)
    ]

    -- beside the changed one stand the others
    pub now_or_others : (z : Seat K) → IsIn z n.seats → (y ≡ z) ⊎ IsIn z (others g)
    now_or_others z h = in_parts z y g.before g.after (subst (IsIn z) g.is h)

    pub others_were : (z : Seat K) → IsIn z (others g) → IsIn z m.seats
    others_were z h = subst (IsIn z) (sym g.was) (in_all z x g.before g.after h)

    pub others_alone : Apart m → (z : Seat K) → IsIn z (others g) → Other (seat_id x) (seat_id z)
    others_alone am z h =
        let parts = apart_split (ids g.before) (seat_id x) (ids g.after)
        (subst AreApart (ids_split g.before x g.after) (subst (λ zs. AreApart (ids zs)) g.was am)) in
        of_all (seat_id x) z (others g) (alone_both (seat_id x) g.before g.after parts.0 parts.1) h

    pub channels_stay : KeepsEnd x y → (c : List ℕ) → IsChannel m c → IsChannel n c
    channels_stay keeps c h = elim (then_or_now h.0 h.1) [
      | inr k ↦ (h.0, k, h.2)
      | inl is ↦
          let k = keeps h.2.0 (ap (λ (z : Seat K). z.end) is ∙ h.2.1) in
          (y, is_there, (k.0, k.1, k.2 ∙ h.2.2))
    ]

    -- ids
    pub apart_changed : Apart m → (IsAlone (seat_id x) (others g) → IsAlone (seat_id y) (others g)) → Apart n
    apart_changed am alone =
        let old = subst AreApart (ids_split g.before x g.after) (subst (λ zs. AreApart (ids zs)) g.was am) in
        let parts = apart_split (ids g.before) (seat_id x) (ids g.after) old in
        let now = alone (alone_both (seat_id x) g.before g.after parts.0 parts.1) in
        subst (λ zs. AreApart (ids zs)) (sym g.is)
        (subst AreApart (sym (ids_split g.before y g.after))
        (apart_join (ids g.before) (seat_id x) (seat_id y) (ids g.after) old
        (alone_front (seat_id y) g.before g.after now) (alone_rest (seat_id y) g.before g.after now)))

-- ---- HTLCs of a book

-- each of these was there
abbrev pub Kin : List Htlc → List Htlc → Type 0
Kin xs ys = (y : Htlc) → IsIn y ys → (x : Htlc) × IsIn x xs × (y.key ≡ x.key) × (y.event ≡ x.event)

pub kin_same : (xs ys : List Htlc) → ys ≡ xs → Kin xs ys
kin_same xs ys e y m = (y, subst (IsIn y) e m, refl, refl)

-- ---- of all

-- the circuits of payments see something happen, or nothing
pub data Gives (id_of : ℕ → List ℕ) (s t : Snapshot) : Type 0 where
  Happened : Happens id_of s t → Gives id_of s t
  Same : t ≡ s → Gives id_of s t

module _ {K : Type 0} (id_of : ℕ → List ℕ) where
  -- the channel's id has a number
  abbrev pub HasNumber : Seat K → Type 0
  HasNumber x = (e : End) → x.end ≡ Some e → (c : ℕ) × (e.dance.channel ≡ id_of c)

  pub record IsOrderly (m : Manager K) : Type 0 where
    pub sound : EachSeat IsSound m
    pub apart : Apart m
    pub kept : IsKept id_of (snapshot id_of m)
    pub keyed : (h : Htlc) → IsIn h m.book.htlcs → IsChannel m h.key.channel
    pub dated : EachSeat (IsDated m.book.htlcs) m
    pub named : EachSeat (SaysNames m) m
    pub few : EachSeat HasEvents m

  -- ---- ends are fit

  pub at_seat : (c : ℕ) (m : Manager K) (e : End) → end_of (id_of c) m ≡ Some e
      → (x : Seat K) × IsIn x m.seats × (x.end ≡ Some e) × (has_id (id_of c) x.end ≡ true)
  at_seat c m e is = cases (seat_of (id_of c) m.seats) refl is
    where
      cases : (o : Option (Seat K)) → seat_of (id_of c) m.seats ≡ o → end_in o ≡ Some e
          → (x : Seat K) × IsIn x m.seats × (x.end ≡ Some e) × (has_id (id_of c) x.end ≡ true)
      cases None at f = absurd (cc)
      cases (Some x) at f = let k = found_is (id_of c) m.seats x at in (x, k.0, f, k.1)

  pub are_fit : (m : Manager K) → EachSeat IsSound m → AreFit id_of (snapshot id_of m)
  are_fit m sound = record {
    fit = λ c e is. let k = at_seat c m e is in subst (λ o. IfSome o IsFit) k.2 (sound k.0 k.1).fit;
    channel = λ c e is. let k = at_seat c m e is in
        sym (same_is (id_of c) e.dance.channel (sym (ap (has_id (id_of c)) k.2) ∙ k.3));
  }

  -- ---- what a step leaves

  pub record Leaves (m n : Manager K) : Type 0 where
    pub sound : EachSeat IsSound n
    pub apart : Apart n
    pub gives : Gives id_of (snapshot id_of m) (snapshot id_of n)
    pub keyed : (h : Htlc) → IsIn h n.book.htlcs → IsChannel n h.key.channel
    pub dated : EachSeat (IsDated n.book.htlcs) n
    pub named : EachSeat (SaysNames n) n
    pub few : EachSeat HasEvents n

  pub stays_orderly : HasOwnIds id_of → (m n : Manager K) → IsOrderly m → Leaves m n → IsOrderly n
  stays_orderly one m n h l = record {
    sound = l.sound;
    apart = l.apart;
    kept = given l.gives;
    keyed = l.keyed;
    dated = l.dated;
    named = l.named;
    few = l.few;
  }
    where
      given : Gives id_of (snapshot id_of m) (snapshot id_of n) → IsKept id_of (snapshot id_of n)
      given (Happened x) = kept id_of one (snapshot id_of m) (snapshot id_of n) (are_fit m h.sound) h.kept
          (are_fit n l.sound) x
      given (Same is) = subst (IsKept id_of) (sym is) h.kept

  -- ---- a step by its parts

  pub dated_kin : (xs ys : List Htlc) → Kin xs ys → (z : Seat K) → IsDated xs z → IsDated ys z
  dated_kin xs ys kin z old e works y m at =
      let k = kin y m in
      subst (λ i. (i ≡ no_event) ⊎ (i < e.ledger.decided)) (sym k.3)
      (old e works k.0 k.1 (ap (λ (q : Key). q.channel) (sym k.2) ∙ at))

  pub names_stay : (m n : Manager K) → ((c : List ℕ) → IsChannel m c → IsChannel n c) → (z : Seat K) → SaysNames m z
      → SaysNames n z
  names_stay m n stay z k e is = names_widen (IsChannel m) (IsChannel n) stay e.dance.log.own (k e is)

  keyed_kin : (m n : Manager K) → ((c : List ℕ) → IsChannel m c → IsChannel n c)
      → ((h : Htlc) → IsIn h m.book.htlcs → IsChannel m h.key.channel) → Kin m.book.htlcs n.book.htlcs
      → (h : Htlc) → IsIn h n.book.htlcs → IsChannel n h.key.channel
  keyed_kin m n stay old kin h m_in =
      let k = kin h m_in in stay h.key.channel (subst (λ (q : Key). IsChannel m q.channel) (sym k.2) (old k.0 k.1))

  -- a seat changes, and the book has no new HTLC
  pub leaves_by : (x y : Seat K) (m n : Manager K) (g : Changes x y m n) → IsOrderly m → IsSound y → Apart n
      → KeepsEnd x y → Gives id_of (snapshot id_of m) (snapshot id_of n) → Kin m.book.htlcs n.book.htlcs
      → IsDated m.book.htlcs y → SaysNames m y → HasEvents y → Leaves m n
  leaves_by x y m n g h sound apart keeps gives kin dated named few =
      let stay = channels_stay x y m n g keeps in
      record {
        sound = each_changed x y m n g IsSound IsSound (λ z k. k) sound h.sound;
        apart = apart;
        gives = gives;
        keyed = keyed_kin m n stay h.keyed kin;
        dated = each_changed x y m n g (IsDated m.book.htlcs) (IsDated n.book.htlcs)
            (dated_kin m.book.htlcs n.book.htlcs kin) (dated_kin m.book.htlcs n.book.htlcs kin y dated) h.dated;
        named = each_changed x y m n g (SaysNames m) (SaysNames n) (names_stay m n stay)
            (names_stay m n stay y named) h.named;
        few = each_changed x y m n g HasEvents HasEvents (λ z k. k) few h.few;
      }

  -- the book alone changes, and has no new HTLC
  pub leaves_seats : (m n : Manager K) → n.seats ≡ m.seats → IsOrderly m
      → Gives id_of (snapshot id_of m) (snapshot id_of n) → Kin m.book.htlcs n.book.htlcs → Leaves m n
  leaves_seats m n same h gives kin =
      let stay = λ (c : List ℕ) (k : IsChannel m c). let there : IsChannel n c =
      (k.0, subst (IsIn k.0) (sym same) k.1, k.2) in there in
      record {
        sound = λ x m_in. h.sound x (subst (IsIn x) same m_in);
        apart = subst (λ zs. AreApart (ids zs)) (sym same) h.apart;
        gives = gives;
        keyed = keyed_kin m n stay h.keyed kin;
        dated = λ x m_in. dated_kin m.book.htlcs n.book.htlcs kin x (h.dated x (subst (IsIn x) same m_in));
        named = λ x m_in. names_stay m n stay x (h.named x (subst (IsIn x) same m_in));
        few = λ x m_in. h.few x (subst (IsIn x) same m_in);
      }
