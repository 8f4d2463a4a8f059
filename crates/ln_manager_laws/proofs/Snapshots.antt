-- What a change of one link of a manager makes of the snapshot in which the circuits of its payments are seen.
use Rattle.std.proofs.Common.{◌≡◌, ◌⊎◌, inl, inr, ℕ, List, refl, sym, ap, ◌∙◌, subst, true, false}
use Rattle.std.proofs.Common.{◌==◌, ◌||◌, Option, Some, None}
use Rattle.std.specs.Prelude.{option_map}
use Rattle.std.proofs.lemmas.Bool.{eqb-true, eq-eqb}
use Rattle.ln_channel.specs.End.{End, end_dropped}
use Rattle.ln_book_tables.specs.Replay.{same}
use Rattle.ln_payment.specs.Moves.{is_of}
use Rattle.ln_payment_circuits.specs.Happens.{Goes, AreSame, Loses, HasOwnIds}
use Rattle.ln_payment_circuits.proofs.Entries.{is_same, same_is}
use Rattle.ln_payment_circuits.proofs.Lists.{either}
use Rattle.ln_manager_laws.specs.Calls.{Seat}
use Rattle.ln_manager_laws.specs.Manager.{Manager, has_id, seat_of, end_in, halted_in, end_of, snapshot}
use Rattle.ln_manager_laws.specs.Steps.{Changes}
use Rattle.ln_manager_laws.proofs.Apart.{AreApart, ids, found_by, found_there, none_before}

-- ---- ids and numbers

module _ (id_of : ℕ → List ℕ) (one : HasOwnIds id_of) where
  pub has_number : (c : ℕ) (e : End) → e.dance.channel ≡ id_of c → has_id (id_of c) (Some e) ≡ true
  has_number c e at = is_same (id_of c) e.dance.channel (sym at)

  pub other_number : (c d : ℕ) (e : End) → e.dance.channel ≡ id_of c → (d == c) ≡ false
      → has_id (id_of d) (Some e) ≡ false
  other_number c d e at isnt = elim (either (same (id_of d) e.dance.channel)) [
    | inr isnt_same ↦ isnt_same
    | inl is ↦ absurd (let equal : d ≡ c = one d c (same_is (id_of d) e.dance.channel is ∙ at) in
        let no : true ≡ false = sym (eq-eqb d c equal) ∙ isnt in cc)
  ]

module _ {K : Type 0} where
  abbrev pub Apart : Manager K → Type 0
  Apart m = AreApart (ids m.seats)

  -- ---- seats by an id

  pub record IsAt (id : List ℕ) (x y : Seat K) (m n : Manager K) : Type 0 where
    pub has : has_id id x.end ≡ true
    pub before : seat_of id m.seats ≡ Some x
    pub now : seat_of id n.seats ≡ Some y

  module _ (x y : Seat K) (m n : Manager K) (g : Changes x y m n) where
    pub found_at : (id : List ℕ) → Apart m → Apart n → has_id id x.end ≡ true → has_id id y.end ≡ true → IsAt id x y m n
    found_at id am an there here = record {
      has = there;
      before = ap (seat_of id) g.was
          ∙ found_by id g.before x g.after (subst (λ zs. AreApart (ids zs)) g.was am) there;
      now = ap (seat_of id) g.is ∙ found_by id g.before y g.after (subst (λ zs. AreApart (ids zs)) g.is an) here;
    }

    pub found_off : (id : List ℕ) → has_id id x.end ≡ false → has_id id y.end ≡ false
        → seat_of id n.seats ≡ seat_of id m.seats
    found_off id off off' =
        ap (seat_of id) g.is ∙ found_there id g.before x y g.after off off' ∙ sym (ap (seat_of id) g.was)

    -- both have one id, or none
    pub found_both : (id : List ℕ) → Apart m → Apart n → has_id id y.end ≡ has_id id x.end
        → IsAt id x y m n ⊎ (seat_of id n.seats ≡ seat_of id m.seats)
    found_both id am an alike = elim (either (has_id id x.end)) [
      | inl is ↦ inl (found_at id am an is (alike ∙ is))
      | inr isnt ↦ inr (found_off id isnt (alike ∙ isnt))
    ]

  module _ (id_of : ℕ → List ℕ) (one : HasOwnIds id_of) where
    -- ---- a seat with an end changes

    module _ (x y : Seat K) (m n : Manager K) (g : Changes x y m n) (am : Apart m) (an : Apart n) where
      module _ (c : ℕ) (e f : End) (was : x.end ≡ Some e) (is : y.end ≡ Some f) (at : e.dance.channel ≡ id_of c)
          (channel : f.dance.channel ≡ e.dance.channel) where
        there : has_id (id_of c) x.end ≡ true
        there = ap (has_id (id_of c)) was ∙ has_number id_of one c e at

        here : has_id (id_of c) y.end ≡ true
        here = ap (has_id (id_of c)) is ∙ has_number id_of one c f (channel ∙ at)

        pub here_now : IsAt (id_of c) x y m n
        here_now = found_at x y m n g (id_of c) am an there here

        pub there_still : (d : ℕ) → (d == c) ≡ false → seat_of (id_of d) n.seats ≡ seat_of (id_of d) m.seats
        there_still d isnt = found_off x y m n g (id_of d)
            (ap (has_id (id_of d)) was ∙ other_number id_of one c d e at isnt)
            (ap (has_id (id_of d)) is ∙ other_number id_of one c d f (channel ∙ at) isnt)

        pub halted_same : y.link.halted ≡ x.link.halted → (d : ℕ)
            → (snapshot id_of n).halted d ≡ (snapshot id_of m).halted d
        halted_same halted d = elim (either (d == c)) [
          | inr isnt ↦ ap halted_in (there_still d isnt)
          | inl it ↦ subst (λ i. halted_in (seat_of (id_of i) n.seats) ≡ halted_in (seat_of (id_of i) m.seats))
              (sym (eqb-true d c it)) (ap halted_in here_now.now ∙ halted ∙ sym (ap halted_in here_now.before))
        ]

        pub goes : x.link.halted ≡ false → y.link.halted ≡ x.link.halted
            → Goes c (Some e) f (snapshot id_of m) (snapshot id_of n)
        goes works halted = record {
          awake = ap halted_in here_now.before ∙ works;
          before = ap end_in here_now.before ∙ was;
          now = ap end_in here_now.now ∙ is;
          others = λ d isnt. ap end_in (there_still d isnt);
          halted = halted_same halted;
        }

        pub loses : f ≡ end_dropped e → Loses (is_of c) (snapshot id_of m) (snapshot id_of n)
        loses dropped = record {
          theirs = λ d it. subst (λ i. end_of (id_of i) n ≡ option_map end_dropped (end_of (id_of i) m))
              (sym (eqb-true d c it))
              (ap end_in here_now.now ∙ is ∙ ap Some dropped
              ∙ sym (ap (option_map end_dropped) (ap end_in here_now.before ∙ was)));
          others = λ d isnt. ap end_in (there_still d isnt);
        }

        pub halts_now : y.link.halted ≡ true → (d : ℕ)
            → (snapshot id_of n).halted d ≡ ((d == c) || (snapshot id_of m).halted d)
        halts_now halted d = elim (either (d == c)) [
          | inr isnt ↦ ap halted_in (there_still d isnt)
              ∙ sym (ap (λ b. b || (snapshot id_of m).halted d) isnt)
          | inl it ↦ subst (λ i. halted_in (seat_of (id_of i) n.seats)
              ≡ ((d == c) || halted_in (seat_of (id_of d) m.seats))) (sym (eqb-true d c it))
              (ap halted_in here_now.now ∙ halted
              ∙ sym (ap (λ b. b || halted_in (seat_of (id_of d) m.seats)) it))
        ]

      -- ---- a channel is opened

      pub opens : (c : ℕ) (f : End) → x.end ≡ None → y.end ≡ Some f → f.dance.channel ≡ id_of c
          → y.link.halted ≡ false → Goes c None f (snapshot id_of m) (snapshot id_of n)
      opens c f was is at works = record {
        awake = ap halted_in none;
        before = ap end_in none;
        now = ap end_in found ∙ is;
        others = λ d isnt. ap end_in (off d isnt);
        halted = λ d. elim (either (d == c)) [
          | inr isnt ↦ ap halted_in (off d isnt)
          | inl it ↦ subst (λ i. halted_in (seat_of (id_of i) n.seats) ≡ halted_in (seat_of (id_of i) m.seats))
              (sym (eqb-true d c it)) (ap halted_in found ∙ works ∙ sym (ap halted_in none))
        ];
      }
        where
          here : has_id (id_of c) y.end ≡ true
          here = ap (has_id (id_of c)) is ∙ has_number id_of one c f at

          no : (id : List ℕ) → has_id id x.end ≡ false
          no id = ap (has_id id) was

          found : seat_of (id_of c) n.seats ≡ Some y
          found = ap (seat_of (id_of c)) g.is
              ∙ found_by (id_of c) g.before y g.after (subst (λ zs. AreApart (ids zs)) g.is an) here

          none : seat_of (id_of c) m.seats ≡ None
          none = ap (seat_of (id_of c)) g.was
              ∙ none_before (id_of c) g.before x y g.after (subst (λ zs. AreApart (ids zs)) g.is an) here (no (id_of c))

          off : (d : ℕ) → (d == c) ≡ false → seat_of (id_of d) n.seats ≡ seat_of (id_of d) m.seats
          off d isnt = found_off x y m n g (id_of d) (no (id_of d))
              (ap (has_id (id_of d)) is ∙ other_number id_of one c d f at isnt)

    -- ---- nothing changes

    pub snapshot_same : (m n : Manager K) → ((id : List ℕ) → end_of id n ≡ end_of id m)
        → ((id : List ℕ) → halted_in (seat_of id n.seats) ≡ halted_in (seat_of id m.seats))
        → n.book.htlcs ≡ m.book.htlcs → snapshot id_of n ≡ snapshot id_of m
    snapshot_same m n ends halted book = λ i. record {
      ends = λ c. ends (id_of c) i;
      halted = λ c. halted (id_of c) i;
      book = book i;
    }

    pub seats_same : (m n : Manager K) → n.seats ≡ m.seats → n.book.htlcs ≡ m.book.htlcs
        → snapshot id_of n ≡ snapshot id_of m
    seats_same m n seats book =
        snapshot_same m n (λ id. ap (λ zs. end_in (seat_of id zs)) seats)
        (λ id. ap (λ zs. halted_in (seat_of id zs)) seats) book

    -- but for what isn't seen
    module _ (x y : Seat K) (m n : Manager K) (g : Changes x y m n) (am : Apart m) (an : Apart n)
        (end : y.end ≡ x.end) (halted : (e : End) → x.end ≡ Some e → y.link.halted ≡ x.link.halted) where
      both : (id : List ℕ) → IsAt id x y m n ⊎ (seat_of id n.seats ≡ seat_of id m.seats)
      both id = found_both x y m n g id am an (ap (has_id id) end)

      same_ends : (id : List ℕ) → end_of id n ≡ end_of id m
      same_ends id = elim (both id) [
        | inl at ↦ ap end_in at.now ∙ end ∙ sym (ap end_in at.before)
        | inr is ↦ ap end_in is
      ]

      same_halted : (id : List ℕ) → halted_in (seat_of id n.seats) ≡ halted_in (seat_of id m.seats)
      same_halted id = elim (both id) [
        | inl at ↦ ap halted_in at.now ∙ by_end id at x.end refl ∙ sym (ap halted_in at.before)
        | inr is ↦ ap halted_in is
      ]
        where
          by_end : (id : List ℕ) → IsAt id x y m n → (o : Option End) → x.end ≡ o → y.link.halted ≡ x.link.halted
          by_end id at (Some e) is = halted e is
          by_end id at None is = absurd (let no : false ≡ true = sym (ap (has_id id) is) ∙ at.has in cc)

      pub seat_same : n.book.htlcs ≡ m.book.htlcs → snapshot id_of n ≡ snapshot id_of m
      seat_same book = snapshot_same m n same_ends same_halted book

      pub seat_alike : AreSame (snapshot id_of m) (snapshot id_of n)
      seat_alike = record { ends = λ d. same_ends (id_of d); halted = λ d. same_halted (id_of d) }
