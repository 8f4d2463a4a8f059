-- What peers, users and hosts make of a manager, where its book has no part in it.
use Rattle.std.proofs.Common.{◌≡◌, ◌⊎◌, inl, inr, ℕ, ◌≤◌, ◌<◌, List, [], refl, sym, ap, ◌∙◌, subst, arith}
use Rattle.std.proofs.Common.{Some, None, false}
use Rattle.ln_keys.specs.Signer.{Signer}
use Rattle.ln_log.specs.declared.update.Update.{Update}
use Rattle.ln_channel.specs.Base.{based, entering, without_removed}
use Rattle.ln_channel.specs.End.{End}
use Rattle.ln_book_tables.specs.Replay.{Table}
use Rattle.ln_book.specs.Rebuild.{no_event}
use Rattle.ln_payment_circuits.specs.Snapshot.{IsIn}
use Rattle.ln_payment_circuits.specs.Happens.{IsNew, HasOwnIds}
use Rattle.ln_payment_circuits.specs.Happens as may
use Rattle.ln_payment_circuits.proofs.Naming.{AllName, names_widen, shift_decided, shift_names, plain_names}
use Rattle.ln_payment_circuits.proofs.Naming.{shift_few}
use Rattle.ln_channel.specs.Ledger.{Ledger, most_decided}
use Rattle.std.proofs.lemmas.Bool.{leb-true}
use Rattle.ln_manager_laws.specs.Calls.{Seat, Call, called}
use Rattle.ln_manager_laws.specs.Manager.{Manager, end_in, end_of, snapshot}
use Rattle.ln_manager_laws.specs.Steps.{Changes, others, IsHosts}
use Rattle.ln_manager_laws.proofs.Turns.{Becomes, Stays, Opens, Turns}
use Rattle.ln_manager_laws.proofs.Seats.{IsSound}
use Rattle.ln_manager_laws.proofs.Apart.{found_in}
use Rattle.ln_manager_laws.proofs.Hosted.{IsHosted, hosted}
use Rattle.ln_manager_laws.proofs.Snapshots.{Apart, goes, opens, seat_same}
use Rattle.ln_manager_laws.proofs.Orderly.{EachSeat, was_there, is_there, each_changed, channels_stay, apart_changed}
use Rattle.ln_manager_laws.proofs.Orderly.{IsChannel, KeepsEnd, HasNumber, IsDated, SaysNames, IsOrderly, Gives}
use Rattle.ln_manager_laws.proofs.Orderly.{Happened, Same, Leaves, HasEvents}

-- an end that was just opened has nothing in its base
new_based : (e : End) → IsNew e → IsNew (based e)
new_based e n = record { own = n.own; received = n.received; ledger = ap (without_removed (entering e)) n.ledger }

-- it offers nothing
none_named : (P : List ℕ → Type 0) (us : List Update) → us ≡ [] → AllName P us
none_named P us e = subst (AllName P) (sym e) (λ i. tt)

module _ {K : Type 0} where
  pub become_keeps : (P : Type 0) (x y : Seat K) → Becomes P x.end y.end → KeepsEnd x y
  become_keeps P x y (Stays same) e is = (e, same ∙ is, refl)
  become_keeps P x y (Opens f new fit was now) e is = absurd (let no : None ≡ Some e = sym was ∙ is in cc)
  become_keeps P x y (Turns d f s plain channel was now) e is =
      let some : Some d ≡ Some e = sym was ∙ is in
      let same : d ≡ e = cc in (based f, now, channel ∙ ap (λ (z : End). z.dance.channel) same)

  -- the events of an end are few
  pub become_few : (P : Type 0) (x y : Seat K) → Becomes P x.end y.end → HasEvents x → HasEvents y
  become_few P x y (Stays same) h e is = h e (sym same ∙ is)
  become_few P x y (Opens f new fit was now) h e is =
      let some : Some (based f) ≡ Some e = sym now ∙ is in
      let same : based f ≡ e = cc in
      let none : f.ledger.decided ≡ 0 = ap (λ (z : Ledger). z.decided) new.ledger in
      subst (λ (z : End). z.ledger.decided ≤ most_decided) same
      (subst (λ i. i ≤ most_decided) (sym none) (leb-true 0 most_decided refl))
  become_few P x y (Turns d f s plain channel was now) h e is =
      let some : Some (based f) ≡ Some e = sym now ∙ is in
      let same : based f ≡ e = cc in
      subst (λ (z : End). z.ledger.decided ≤ most_decided) same (shift_few d f s (h d was))

  -- ---- a seat goes on beside others, and the book stays

  module _ (id_of : ℕ → List ℕ) (one : HasOwnIds id_of) (x y : Seat K) (m n : Manager K) (g : Changes x y m n)
      (h : IsOrderly id_of m) (w : IsHosted (Unit {0}) x y (others g)) (book : n.book ≡ m.book)
      (numbers : EachSeat (HasNumber id_of) n) where
    an : Apart n
    an = apart_changed x y m n g h.apart w.alone

    stay : (c : List ℕ) → IsChannel m c → IsChannel n c
    stay = channels_stay x y m n g (become_keeps (Unit {0}) x y w.becomes)

    htlcs : n.book.htlcs ≡ m.book.htlcs
    htlcs = ap (λ (t : Table). t.htlcs) book

    begins : (e : End) → x.end ≡ None → y.end ≡ Some (based e) → y.link.halted ≡ false
    begins e was now = w.halted ∙ cases w.works
      where
        cases : (y.end ≡ x.end) ⊎ (x.link.halted ≡ false) → x.link.halted ≡ false
        cases (inl same) = absurd (let no : Some (based e) ≡ None = sym now ∙ same ∙ was in cc)
        cases (inr works) = works

    gives : Becomes (Unit {0}) x.end y.end → Gives id_of (snapshot id_of m) (snapshot id_of n)
    gives (Stays same) = Same (seat_same id_of one x y m n g h.apart an same (λ e is. w.halted) htlcs)
    gives (Opens e new fit was now) =
        let c = numbers y (is_there x y m n g) (based e) now in
        Happened (may.Opens c.0 (based e) (new_based e new)
        (opens id_of one x y m n g h.apart an c.0 (based e) was now c.1 (begins e was now)) htlcs)
    gives (Turns e f s plain channel was now) =
        let c = numbers y (is_there x y m n g) (based f) now in
        cases c.0 c.1 w.works
      where
        cases : (c : ℕ) → (based f).dance.channel ≡ id_of c → (y.end ≡ x.end) ⊎ (x.link.halted ≡ false)
            → Gives id_of (snapshot id_of m) (snapshot id_of n)
        cases c at (inl same) = Same (seat_same id_of one x y m n g h.apart an same (λ d is. w.halted) htlcs)
        cases c at (inr works) = Happened (may.Turns c e f s (plain tt)
            (goes id_of one x y m n g h.apart an c e (based f) was now (sym channel ∙ at) channel works w.halted) htlcs)

    dated_now : Becomes (Unit {0}) x.end y.end → IsDated m.book.htlcs y
    dated_now (Stays same) e works z m_in at =
        h.dated x (was_there x y m n g) e
        (record { end = sym same ∙ works.end; halted = sym w.halted ∙ works.halted }) z m_in at
    dated_now (Opens e new fit was now) f works z m_in at =
        let some : Some (based e) ≡ Some f = sym now ∙ works.end in
        let same : based e ≡ f = cc in
        let c = numbers y (is_there x y m n g) (based e) now in
        let k = h.keyed z m_in in
        let found = found_in k.0 m.seats k.2.0 h.apart k.1 k.2.1 in
        let none = (opens id_of one x y m n g h.apart an c.0 (based e) was now c.1 (begins e was now)).before in
        let id : k.2.0.dance.channel ≡ id_of c.0 =
        k.2.2 ∙ at ∙ sym (ap (λ (q : End). q.dance.channel) same) ∙ c.1 in
        absurd (let no : Some k.2.0 ≡ None =
        sym k.2.1 ∙ sym (ap end_in found) ∙ ap (λ i. end_of i m) id ∙ none in cc)
    dated_now (Turns e f s plain channel was now) d works z m_in at =
        let some : Some (based f) ≡ Some d = sym now ∙ works.end in
        let same : based f ≡ d = cc in
        let old = h.dated x (was_there x y m n g) e (record { end = was; halted = sym w.halted ∙ works.halted }) z m_in
        (at ∙ sym (ap (λ (q : End). q.dance.channel) same) ∙ channel) in
        later old (subst (λ (q : End). e.ledger.decided ≤ q.ledger.decided) same (shift_decided e f s))
      where
        later : (z.event ≡ no_event) ⊎ (z.event < e.ledger.decided) → e.ledger.decided ≤ d.ledger.decided
            → (z.event ≡ no_event) ⊎ (z.event < d.ledger.decided)
        later (inl none) le = inl none
        later (inr lt) le = inr (omega (arith, lt, le))

    named_now : Becomes (Unit {0}) x.end y.end → SaysNames m y
    named_now (Stays same) e is = h.named x (was_there x y m n g) e (sym same ∙ is)
    named_now (Opens e new fit was now) f is =
        let some : Some (based e) ≡ Some f = sym now ∙ is in
        let same : based e ≡ f = cc in
        subst (λ (q : End). AllName (IsChannel m) q.dance.log.own) same
        (none_named (IsChannel m) (based e).dance.log.own new.own)
    named_now (Turns e f s plain channel was now) d is =
        let some : Some (based f) ≡ Some d = sym now ∙ is in
        let same : based f ≡ d = cc in
        subst (λ (q : End). AllName (IsChannel m) q.dance.log.own) same
        (shift_names (IsChannel m) e f s (plain_names (IsChannel m) e f s (plain tt))
        (h.named x (was_there x y m n g) e was))

    widened : (z : Seat K) → SaysNames m z → SaysNames n z
    widened z k e is = names_widen (IsChannel m) (IsChannel n) stay e.dance.log.own (k e is)

    pub goes_beside : Leaves id_of m n
    goes_beside = record {
      sound = each_changed x y m n g IsSound IsSound (λ z k. k) w.sound h.sound;
      apart = an;
      gives = gives w.becomes;
      keyed = λ z m_in. stay z.key.channel (h.keyed z (subst (IsIn z) htlcs m_in));
      dated = each_changed x y m n g (IsDated m.book.htlcs) (IsDated n.book.htlcs)
          (λ z k. subst (λ hs. IsDated hs z) (sym htlcs) k)
          (subst (λ hs. IsDated hs y) (sym htlcs) (dated_now w.becomes)) h.dated;
      named = each_changed x y m n g (SaysNames m) (SaysNames n) widened (widened y (named_now w.becomes)) h.named;
      few = each_changed x y m n g HasEvents HasEvents (λ z k. k)
          (become_few (Unit {0}) x y w.becomes (h.few x (was_there x y m n g))) h.few;
    }

  -- ---- a peer's message, a user's command, a connection

  pub calls : (signer : K → Signer) (id_of : ℕ → List ℕ) → HasOwnIds id_of → (x : Seat K) (k : Call K)
      (m n : Manager K) (g : Changes x (called signer k x) m n) → IsOrderly id_of m → IsHosts (others g) k
      → n.book ≡ m.book → EachSeat (HasNumber id_of) n → Leaves id_of m n
  calls signer id_of one x k m n g h hosts book numbers =
      goes_beside id_of one x (called signer k x) m n g h
      (hosted signer x (h.sound x (was_there x (called signer k x) m n g)) k (others g) hosts) book numbers
