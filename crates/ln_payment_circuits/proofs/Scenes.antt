-- What a step of a node leaves of a payment: of its links and of its book together.
use Rattle.std.proofs.Common.{◌≡◌, ◌⊎◌, inl, inr, ℕ, List, [], ◌∷◌, ◌++◌, map, filter, refl, sym, ap, ◌∙◌, subst, Bool}
use Rattle.std.proofs.Common.{true}
use Rattle.std.proofs.Common.{false, cond, not, ◌==◌, ◌&&◌, nat_le, Option, Some, None}
use Rattle.std.proofs.lemmas.Bool.{eqb-true, eq-eqb}
use Rattle.ln_log.specs.declared.update.Add.{Add}
use Rattle.ln_log.specs.declared.update.Update.{Update}
use Rattle.ln_log.specs.declared.update.Update.TheVariants as update
use Rattle.ln_log.specs.declared.outcome.Outcome.TheVariants.{Live}
use Rattle.ln_log.specs.Updates.{add_with, outcome, next_id, is_some}
use Rattle.ln_log.specs.Log as log
use Rattle.ln_log.proofs.Removing.{outcome-none}
use Rattle.ln_hooks.specs.declared.event.How.{How}
use Rattle.ln_channel.specs.End.{End}
use Rattle.ln_channel.specs.declared.command.Command.{Command}
use Rattle.ln_book_tables.specs.declared.htlc.Key.{Key}
use Rattle.ln_book_tables.specs.declared.htlc.OutgoingLeg.TheVariants as outgoing
use Rattle.ln_book_tables.specs.declared.htlc.IncomingLeg.TheVariants as incoming
use Rattle.ln_book_tables.specs.declared.htlc.Htlc.{Htlc}
use Rattle.ln_book_tables.specs.declared.entry.KeptState.{KeptState}
use Rattle.ln_book_tables.specs.Replay.{same, same_key, is_htlc, is_offered, changed_first, left_out, with_outgoing}
use Rattle.ln_book_tables.specs.Replay.{with_incoming}
use Rattle.ln_book_tables.specs.Replay.{put_outgoing, is_settled, has_nothing_offered, is_open, is_finished, is_among}
use Rattle.ln_book_tables.specs.Replay.{htlc_kept}
use Rattle.ln_book.specs.Rebuild.{offer_for, rebuilt_htlcs}
use Rattle.ln_keys.specs.Services.{Services}
use Rattle.ln_book.specs.Commands.{forwards_in, removal_by}
use Rattle.ln_payment.specs.Parts.{Kind, Mark, Forward, Hold, Answer, Proposed, Removal, NoRemoval, By}
use Rattle.ln_payment.specs.Parts.{Out, OutgoingLeg, Absent, Refused, Offered, Resolved, IncomingLeg, Open}
use Rattle.ln_payment.specs.Parts.{RemovalSent, RemovalRefused, Settled, Note, Payment, Each, Among, IsAt, IsEnd}
use Rattle.ln_payment.specs.Parts.{HasEnded, IsHeld}
use Rattle.ln_payment.specs.Rebuild.{kept_outs, kept_removal, is_uncovered, everywhere}
use Rattle.ln_payment.specs.Moves.{Move, MayMove, AreMade, after, moved, Offers, AsksToOffer, Removes, NoteIsAt}
use Rattle.ln_payment.specs.Moves.{OutgoingIsAt, IsTold}
use Rattle.ln_payment.specs.Moves.{Stays, OutgoingStays, IsLost, is_of}
use Rattle.ln_payment.specs.Moves as move
use Rattle.ln_payment.proofs.Invariant.{IsKept, IsKnown, Names, ForNote, NotAgain, IsOffered}
use Rattle.ln_payment.proofs.Law.{kept_after}
use Rattle.ln_payment_circuits.specs.Circuit.{Forwards}
use Rattle.ln_payment_circuits.specs.Snapshot.{IsSoundLog, Incoming, IsIn, key_at, key_of, origin, snapshots}
use Rattle.ln_payment_circuits.proofs.Holding.{HoldIsDecided, holds_after}
use Rattle.ln_payment_circuits.proofs.Parts.{removal_by as removal_of_outcome}
use Rattle.ln_payment_circuits.proofs.Links.{Side, Links, HasAddAt, AreOuts, IsOfLinks, HasMoves, Changed, course_at}
use Rattle.ln_payment_circuits.proofs.Links.{removal_at, removal_here, proposes, offers, removes}
use Rattle.ln_payment_circuits.proofs.Losses.{Drops, falls_here, falls_elsewhere, restarts, outs_kept}
use Rattle.ln_payment_circuits.proofs.Logs.{no_removal}
use Rattle.ln_payment_circuits.proofs.Lists.{picked, of_picked}
use Rattle.ln_payment_circuits.proofs.Entries.{same_is, key_is, is_key, kind_of, IsNoteOf, IsEntry, AreEntries}
use Rattle.ln_payment_circuits.proofs.Entries.{HasEntry}
use Rattle.ln_payment_circuits.proofs.Entries.{outgoing_here, outgoing_there, back_here, back_there, settled_here}
use Rattle.ln_payment_circuits.proofs.Entries.{settled_there}
use Rattle.ln_payment_circuits.proofs.Entries.{over_so_far, loses, kept_turn, Loses, lost_outgoing, lost_back}
use Rattle.ln_payment_circuits.proofs.OutgoingLegs.{AreBack}
use Rattle.ln_payment_circuits.proofs.AllEnds.{read_so}
use Rattle.ln_payment_circuits.proofs.Removing.{IsRemoval}
use Rattle.ln_payment_circuits.proofs.Due.{asks_to_offer, asks_to_remove}
use Rattle.ln_payment_circuits.proofs.Lists.{either}

-- a node's links, and the HTLCs of its book
pub record Scene : Type 0 where
  pub links : Links
  pub book : List Htlc

-- ---- what the machine asks for has no add, and no removal

no_names : (os : List Out) → Each (Names Absent) os → os ≡ []
no_names [] e = refl
no_names (o ∷ os) e = absurd e.0

none_by : (r : Removal) → r ≡ NoRemoval → IsHeld r → ⊥
none_by r e h = subst IsHeld e h

pub none_out : (p : Payment) → IsKept p → Offers p.note → p.outs ≡ []
none_out p k a = of p.note a k.knows k.not_again
  where
    known : (b : IncomingLeg) → (IsHeld p.removal → ⊥) → IsHeld p.removal ⊎ Each (Names Absent) p.outs → p.outs ≡ []
    known b never (inl held) = absurd (never held)
    known b never (inr e) = no_names p.outs e

    cases : (m : Mark) (w : OutgoingLeg) (b : IncomingLeg) → AsksToOffer m w b
        → IsHeld p.removal ⊎ Each (Names w) p.outs
        → NotAgain m w b p.removal → p.outs ≡ []
    cases Forward Absent Open a e n = known Open (none_by p.removal n) e
    cases Forward Absent RemovalSent a e n = known RemovalSent (none_by p.removal n) e
    cases Forward Absent RemovalRefused a e n = known RemovalRefused (none_by p.removal n) e
    cases Forward Absent Settled a e n = absurd a
    cases Forward Refused b a e n = absurd a
    cases Forward (Offered c i) b a e n = absurd a
    cases Forward (Resolved c i k) b a e n = absurd a
    cases Hold w b a e n = absurd a
    cases (Answer k) w b a e n = absurd a

    of : (o : Option Note) → Offers o → IsHeld p.removal ⊎ IsKnown o p.outs
        → ForNote (λ f. NotAgain f.mark f.outgoing f.incoming p.removal) o → p.outs ≡ []
    of None a e n = absurd a
    of (Some f) a e n = cases f.mark f.outgoing f.incoming a e n

module _ (id_of : ℕ → List ℕ) where
  pub record IsPaymentOf (h : Incoming) (s : Scene) (p : Payment) : Type 0 where
    pub kept : IsKept p
    pub holds : HoldIsDecided p
    pub of_links : IsOfLinks (origin id_of) h s.links p
    pub note : HasEntry id_of h s.book p.note

  abbrev pub HasPayment : Incoming → Scene → Type 0
  HasPayment h s = (p : Payment) × IsPaymentOf h s p

  abbrev pub HavePayments : Scene → Type 0
  HavePayments s = (h : Incoming) → HasPayment h s

  pub by_moves : (h : Incoming) (t : Scene) (p : Payment) → IsKept p × HoldIsDecided p → (ms : List Move) → AreMade ms p
      → IsOfLinks (origin id_of) h t.links (after ms p) → HasEntry id_of h t.book (after ms p).note → HasPayment h t
  by_moves h t p k ms made of_links note = (
    after ms p,
    record {
      kept = kept_after ms p made k.0;
      holds = holds_after ms p made k.0 k.1;
      of_links = of_links;
      note = note;
    },
  )

  -- where the links alone go on
  pub links_go : (h : Incoming) (s t : Scene) → t.book ≡ s.book → (k : HasPayment h s)
      → HasMoves (origin id_of) h t.links k.0 → HasPayment h t
  links_go h s t book k g = by_moves h t k.0 (k.1.kept, k.1.holds) g.moves g.made g.of_links
      (subst (λ o. HasEntry id_of h t.book o) (sym g.note) (subst (λ xs. HasEntry id_of h xs k.0.note) (sym book)
      k.1.note))

  -- ---- the HTLC of the book that a command is of

  entry_of : (h : Incoming) (x : Htlc) (xs : List Htlc) (o : Option Note) → IsIn x xs
      → is_htlc (key_of id_of h) x ≡ true → HasEntry id_of h xs o → IsEntry id_of x o
  entry_of h x xs o m is k = cases (filter q xs) (picked q x xs m is) k
    where
      q : Htlc → Bool
      q = is_htlc (key_of id_of h)

      cases : (ys : List Htlc) → IsIn x ys → AreEntries id_of ys o → IsEntry id_of x o
      cases [] m k = absurd m
      cases (y ∷ []) (inl e) k = subst (λ z. IsEntry id_of z o) e k
      cases (y ∷ []) (inr m) k = absurd m
      cases (y ∷ z ∷ ys) m k = absurd k

  noted : (x : Htlc) (o : Option Note) → x.decided ≡ true → IsEntry id_of x o
      → (n : Note) × (o ≡ Some n) × IsNoteOf id_of x n
  noted x None d k = absurd (let no : true ≡ false = sym d ∙ k in cc)
  noted x (Some n) d k = (n, refl, k.1)

  -- of h's: its note
  pub note_of : (h : Incoming) (s : Scene) (k : HasPayment h s) (x : Htlc) → IsIn x s.book → x.decided ≡ true
      → x.key ≡ key_of id_of h → (n : Note) × (k.0.note ≡ Some n) × IsNoteOf id_of x n
  note_of h s k x m d key = noted x k.0.note d (entry_of h x s.book k.0.note m
      (ap (same_key (key_of id_of h)) key ∙ is_key (key_of id_of h)) k.1.note)

  -- ---- a channel changes as a command of the book is taken

  module _ (s t : Scene) (c : ℕ) (X Y : Side) (g : Changed (origin id_of) c X Y s.links t.links)
      (sound : IsSoundLog X.log)
    where
      pub offered : (x : Htlc) → IsIn x s.book → x.decided ≡ true → is_settled x.incoming ≡ false
          → has_nothing_offered x.outgoing ≡ true
          → (d : List ℕ) → forwards_in d x.mark ≡ true → (a : Add) → Y.log ≡ log.after_propose (update.Add a) X.log
          → Y.results ≡ X.results → Y.decisions ≡ X.decisions → a.id ≡ next_id X.log.own
          → a.origin ≡ Some (x.key.channel, x.key.id)
          → t.book ≡ with_outgoing x.key (outgoing.Offered (key_at id_of c a.id)) s.book → HavePayments s
          → HavePayments t
      offered x m dec uns now d fwd a l r ds id from book k h = elim (either (same_key x.key (key_of id_of h))) [
        | inl is ↦ here (key_is x.key (key_of id_of h) is)
        | inr isnt ↦ there isnt
      ]
        where
          p : Payment
          p = (k h).0

          here : x.key ≡ key_of id_of h → HasPayment h t
          here key =
              let n = note_of h s (k h) x m dec key in
              let asks : Offers p.note = subst Offers (sym n.1) (asks_to_offer id_of x n.0 n.2 d uns now fwd) in
              by_moves h t p ((k h).1.kept, (k h).1.holds) (move.Offer c a.id ∷ []) (asks, tt)
              (offers (origin id_of) h c X Y s.links t.links g a l r ds sound id
              (from ∙ ap (λ (z : Key). Some (z.channel, z.id)) key) p (k h).1.of_links (none_out p (k h).1.kept asks))
              (subst (λ xs. HasEntry id_of h xs (move.with_outgoing (Offered c a.id) p.note))
              (sym (book ∙ ap (λ z. with_outgoing z (outgoing.Offered (key_at id_of c a.id)) s.book) key))
              (outgoing_here id_of h s.book p.note (outgoing.Offered (key_at id_of c a.id))
              (Offered c a.id) refl (k h).1.note))

          there : same_key x.key (key_of id_of h) ≡ false → HasPayment h t
          there isnt = by_moves h t p ((k h).1.kept, (k h).1.holds) [] tt
              (proposes (origin id_of) h c X Y s.links t.links g (update.Add a) l r ds sound none
              (λ is. outcome-none h.id X.log.own (update.Add a) refl) p (k h).1.of_links)
              (subst (λ xs. HasEntry id_of h xs p.note) (sym book)
              (outgoing_there id_of h x.key isnt s.book p.note (outgoing.Offered
              (key_at id_of c a.id))
              (k h).1.note))
            where
              none : (i : ℕ) → Forwards (origin id_of h) (add_with i (update.Add a ∷ [])) → ⊥
              none i f = cases (a.id == i) f
                where
                  cases : (b : Bool) → Forwards (origin id_of h) (cond b (Some a) None) → ⊥
                  cases false f = f
                  cases true f =
                      let pair : ◌≡◌ {A = Option (List ℕ × ℕ)} (Some (x.key.channel, x.key.id))
                      (Some (origin id_of h)) =
                      sym from ∙ f in
                      let e : ◌≡◌ {A = List ℕ × ℕ} (x.key.channel, x.key.id) (origin id_of h) = cc in
                      let key : x.key ≡ key_of id_of h = ap (λ (z : List ℕ × ℕ). record { channel = z.0; id = z.1 })
                      e in
                      let no : true ≡ false = sym (ap (same_key x.key) (sym key) ∙ is_key x.key) ∙ isnt in
                      absurd (cc)

      -- the HTLC that came in is removed by this update, as the book asks
      pub removed : (v : Services) (x : Htlc) → IsIn x s.book → x.decided ≡ true → is_open x.incoming ≡ true
          → same (id_of c) x.key.channel ≡ true → (y : Command) → removal_by v x x.mark ≡ Some y → (u : Update)
          → ((k : Kind) → IsRemoval x.key.id k y → removal_of_outcome
          (outcome x.key.id (X.log.own ++ u ∷ [])) Proposed ≡ By k Proposed)
          → outcome x.key.id X.log.own ≡ Live
          → ((i : ℕ) → (i == x.key.id) ≡ false → outcome i (X.log.own ++ u ∷ []) ≡ outcome i X.log.own)
          → ((o : List ℕ × ℕ) (i : ℕ) → Forwards o (add_with i (u ∷ [])) → ⊥)
          → Y.log ≡ log.after_propose u X.log → Y.results ≡ X.results → Y.decisions ≡ X.decisions
          → ((d e : ℕ) → id_of d ≡ id_of e → d ≡ e)
          → t.book ≡ with_incoming x.key incoming.RemovalSent s.book → HavePayments s → HavePayments t
      removed v x m dec unsent chan y asked u told live others none l r ds one book k h =
          elim (either (same_key x.key (key_of id_of h))) [
            | inl is ↦ here (key_is x.key (key_of id_of h) is)
            | inr isnt ↦ there isnt
          ]
        where
          p : Payment
          p = (k h).0

          here : x.key ≡ key_of id_of h → HasPayment h t
          here key =
              let n = note_of h s (k h) x m dec key in
              let id : x.key.id ≡ h.id = ap (λ (z : Key). z.id) key in
              let at : h.channel ≡ c = sym (one c h.channel (same_is (id_of c) x.key.channel chan
              ∙ ap (λ (z : Key). z.channel) key)) in
              let asks = asks_to_remove id_of v x n.0 n.2 y unsent asked in
              let may : Removes asks.0 p.note = subst (Removes asks.0) (sym n.1) asks.2 in
              let still : outcome h.id X.log.own ≡ Live = sym (ap (λ i. outcome i X.log.own) id) ∙ live in
              let none_yet : p.removal ≡ NoRemoval =
              removal_here (origin id_of) h c X Y s.links t.links g (eq-eqb h.channel c at) p (k h).1.of_links
              ∙ no_removal X.log h.id still in
              by_moves h t p ((k h).1.kept, (k h).1.holds) (move.Remove asks.0 ∷ []) ((may, none_yet), tt)
              (removes (origin id_of) h c X Y s.links t.links g u l r ds sound
              (outcome h.id (X.log.own ++ u ∷ [])) asks.0
              (eq-eqb h.channel c at) (none (origin id_of h)) still refl
              (sym (ap (λ i. removal_of_outcome (outcome i (X.log.own ++ u ∷ [])) Proposed) id) ∙ told asks.0 asks.1) p
              (k h).1.of_links)
              (subst (λ xs. HasEntry id_of h xs (move.with_incoming RemovalSent p.note))
              (sym (book ∙ ap (λ z. with_incoming z incoming.RemovalSent s.book) key))
              (back_here id_of h s.book p.note incoming.RemovalSent (k h).1.note))

          there : same_key x.key (key_of id_of h) ≡ false → HasPayment h t
          there isnt = by_moves h t p ((k h).1.kept, (k h).1.holds) [] tt
              (proposes (origin id_of) h c X Y s.links t.links g u l r ds sound (none (origin id_of h))
              (λ is. others h.id (other (h.id == x.key.id) refl is)) p (k h).1.of_links)
              (subst (λ xs. HasEntry id_of h xs p.note) (sym book)
              (back_there id_of h x.key isnt s.book p.note incoming.RemovalSent
              (k h).1.note))
            where
              other : (b : Bool) → (h.id == x.key.id) ≡ b → (h.channel == c) ≡ true → (h.id == x.key.id) ≡ false
              other false e is = e
              other true e is =
                  let key : x.key ≡ key_of id_of h =
                  ap (λ i. record { channel = x.key.channel; id = i }) (sym (eqb-true h.id x.key.id e))
                  ∙ ap (λ z. record { channel = z; id = h.id }) (sym (same_is (id_of c) x.key.channel chan)
                  ∙ ap id_of (sym (eqb-true h.channel c is))) in
                  let no : true ≡ false = sym (ap (same_key x.key) (sym key) ∙ is_key x.key) ∙ isnt in
                  absurd (cc)

  -- ---- an end without its connection, whose link works still, or again

  module _ (one : (c d : ℕ) → id_of c ≡ id_of d → c ≡ d) (s t : Scene) (c : ℕ) (told : KeptState)
      (g : Drops (is_of c) s.links t.links) (now : (d : ℕ) → t.links.halted d ≡ (not (d == c) && s.links.halted d))
      (book : t.book ≡ map (htlc_kept (id_of c) told) s.book)
      (covered : (i : ℕ) → nat_le told.next i ≡ false → is_uncovered (course_at i (s.links.sides c)) ≡ false)
      (gone : (o : List ℕ × ℕ) (i : ℕ) → nat_le told.next i ≡ true → HasAddAt o i (t.links.sides c) → ⊥)
      (open_still : (x : Htlc) (i : ℕ) → IsIn x s.book → x.key ≡ key_at id_of c i → is_among i told.removes ≡ false
      → removal_at i (t.links.sides c) ≡ NoRemoval)
      -- what the book has offered there, below the next id, is there
      (there : (h : Incoming) (k : HasPayment h s) (n : Note) (i : ℕ) → k.0.note ≡ Some n → n.outgoing ≡ Offered c i
      → nat_le told.next i ≡ false → Among (IsAt c i) k.0.outs) where
    pub comes_back : HavePayments s → HavePayments t
    comes_back k h = cases e.outgoing refl
      where
        p : Payment
        p = (k h).0

        st : IsOfLinks (origin id_of) h s.links p
        st = (k h).1.of_links

        e : Loses id_of one h c told (filter (is_htlc (key_of id_of h)) s.book) p.note
        e = loses id_of one h c told s.book p.note (k h).1.note

        kept_list : List Out
        kept_list = kept_outs (is_of c) p.outs

        -- the book, in the end
        note : (b : Bool) → e.incoming ≡ b → (w : Bool) → e.outgoing ≡ w
            → HasEntry id_of h t.book (lost_back id_of one b (lost_outgoing id_of one w p.note))
        note b is w so =
            subst (λ xs. AreEntries id_of (filter (is_htlc (key_of id_of h)) xs)
            (lost_back id_of one b (lost_outgoing id_of one w p.note))) (sym book)
            (subst (λ ys. AreEntries id_of ys (lost_back id_of one b (lost_outgoing id_of one w p.note)))
            (sym (kept_turn id_of one h c told s.book))
            (subst (λ z. AreEntries id_of (map (htlc_kept (id_of c) told) (filter (is_htlc (key_of id_of h)) s.book))
            (lost_back id_of one z (lost_outgoing id_of one w p.note))) is
            (subst (λ z. AreEntries id_of (map (htlc_kept (id_of c) told) (filter (is_htlc (key_of id_of h)) s.book))
            (lost_back id_of one e.incoming (lost_outgoing id_of one z p.note))) so e.there)))

        -- what is left has the incoming HTLC's channel or not
        onward : (v : Move) → MayMove v p → Stays c (moved v p).note (moved v p).outs
            → (moved v p).decision ≡ p.decision → (moved v p).removal ≡ p.removal
            → (moved v p).outs ≡ kept_list → (moved v p).halted ≡ p.halted → (w : Bool) → e.outgoing ≡ w
            → (moved v p).note ≡ lost_outgoing id_of one w p.note → HasPayment h t
        onward v may stay same_decision same_removal same_outs same_halts w so note_now = elim (either
            (h.channel == c)) [
              | inl is ↦ here is e.incoming refl
              | inr isnt ↦ by_moves h t p ((k h).1.kept, (k h).1.holds) (v ∷ move.Reload c ∷ []) (may, (stay, tt))
                  (let f = falls_elsewhere (origin id_of) h s.links t.links c g now isnt p st in record {
                    decision = same_decision ∙ f.decision;
                    removal = same_removal ∙ f.removal;
                    outs = subst (AreOuts (origin id_of) h t.links) (sym same_outs) f.outs;
                    halted = λ d. ap (λ z. not (d == c) && z d) same_halts ∙ f.halted d;
                  })
                  (subst (λ o. HasEntry id_of h t.book o) (sym note_now)
                  (note false (not_back isnt e.incoming refl) w so))
            ]
          where
            not_back : (h.channel == c) ≡ false → (b : Bool) → e.incoming ≡ b → e.incoming ≡ false
            not_back isnt false is = is
            not_back isnt true is = absurd (let no : true ≡ false = sym (eq-eqb h.channel c (e.is_open is).0)
                ∙ isnt in cc)

            here : (h.channel == c) ≡ true → (b : Bool) → e.incoming ≡ b → HasPayment h t
            here is false so_back =
                by_moves h t p ((k h).1.kept, (k h).1.holds) (v ∷ move.Reload c ∷ move.DropRemoval ∷ [])
                (may, (stay, (tt, tt)))
                (let f = falls_here (origin id_of) h s.links t.links c g now is p st in record {
                  decision = same_decision ∙ f.decision;
                  removal = ap kept_removal same_removal ∙ f.removal;
                  outs = subst (AreOuts (origin id_of) h t.links) (sym same_outs) f.outs;
                  halted = λ d. ap (λ z. not (d == c) && z d) same_halts ∙ f.halted d;
                })
                (subst (λ o. HasEntry id_of h t.book o) (sym note_now) (note false so_back w so))
            here is true so_back =
                let there = e.is_there so_back in
                let f = falls_here (origin id_of) h s.links t.links c g now is p st in
                let none : kept_removal (moved v p).removal ≡ NoRemoval = ap kept_removal same_removal ∙ f.removal
                ∙ ap (λ n. removal_at h.id (t.links.sides n)) (eqb-true h.channel c is)
                ∙ open_still there.0 h.id (of_picked (is_htlc (key_of id_of h)) there.0 s.book there.1)
                (there.2 ∙ ap (λ n. key_at id_of n h.id) (e.is_open so_back).0) (e.is_open so_back).1 in
                by_moves h t p ((k h).1.kept, (k h).1.holds)
                (v ∷ move.Reload c ∷ move.DropRemoval ∷ move.Reopen ∷ []) (may, (stay, (tt, (none, tt))))
                (record {
                  decision = same_decision ∙ f.decision;
                  removal = ap kept_removal same_removal ∙ f.removal;
                  outs = subst (AreOuts (origin id_of) h t.links) (sym same_outs) f.outs;
                  halted = λ d. ap (λ z. not (d == c) && z d) same_halts ∙ f.halted d;
                })
                (subst (λ o. HasEntry id_of h t.book (move.with_incoming Open o)) (sym note_now)
                (note true so_back w so))

        -- it is no longer there
        lost_all : (i : ℕ) → nat_le told.next i ≡ true → (os : List Out) → AreOuts (origin id_of) h t.links os
            → Each (λ o. IsAt c i o → ⊥) os
        lost_all i past [] o = tt
        lost_all i past (q ∷ []) o = (
          λ at. gone (origin id_of h) i past (subst (λ n. HasAddAt (origin id_of h) n (t.links.sides c)) at.1
              (subst (λ n. HasAddAt (origin id_of h) q.id (t.links.sides n)) at.0 o.0)),
          tt,
        )
        lost_all i past (q ∷ r ∷ os) o = absurd o

        after_outs : AreOuts (origin id_of) h t.links kept_list
        after_outs = outs_kept (origin id_of) h (is_of c) s.links t.links g p.outs st.outs

        -- it is there still
        stay_all : (i : ℕ) → nat_le told.next i ≡ false → (os : List Out) → AreOuts (origin id_of) h s.links os
            → Among (IsAt c i) os → Among (IsAt c i) (kept_outs (is_of c) os)
        stay_all i near [] o a = a
        stay_all i near (q ∷ r ∷ os) o a = absurd o
        stay_all i near (q ∷ []) o (inr a) = absurd a
        stay_all i near (q ∷ []) o (inl at) =
            subst (λ b. Among (IsAt c i) (cond (not (b && is_of c q.channel)) (q ∷ []) [])) (sym here_covered) (inl at)
          where
            here_covered : is_uncovered q.course ≡ false
            here_covered = ap is_uncovered o.1 ∙ ap (λ n. is_uncovered (course_at n (s.links.sides q.channel))) at.1
                ∙ ap (λ n. is_uncovered (course_at i (s.links.sides n))) at.0 ∙ covered i near

        none_stays : (o : Option Note) → Stays c (move.with_outgoing Absent o) kept_list
        none_stays None = tt
        none_stays (Some n) = tt

        cases : (w : Bool) → e.outgoing ≡ w → HasPayment h t
        cases true so =
            let f = e.is_lost so in
            onward (move.PutBack c f.0) (f.1.0, lost_all f.0 f.1.1 kept_list after_outs) (none_stays p.note)
            refl refl refl refl true so refl
        cases false so = onward (move.Drop c) (stays p.note refl) (stays p.note refl) refl refl refl refl false so refl
          where
            stays_by : (n : Note) → p.note ≡ Some n → (w : OutgoingLeg) → n.outgoing ≡ w → OutgoingStays c w kept_list
            stays_by n is Absent to = tt
            stays_by n is Refused to = tt
            stays_by n is (Resolved d j m) to = tt
            stays_by n is (Offered d j) to = λ at.
                let to_c : n.outgoing ≡ Offered c j = to ∙ ap (λ z. Offered z j) at in
                let near = e.is_kept so n j is to_c in
                subst (λ z. Among (IsAt z j) kept_list) (sym at)
                (stay_all j near p.outs st.outs (there h (k h) n j is to_c near))

            stays : (o : Option Note) → p.note ≡ o → Stays c o kept_list
            stays None is = tt
            stays (Some n) is = stays_by n is n.outgoing refl

  -- what the book has offered in a channel whose link works is there
  pub awake_there : (c : ℕ) (s : Scene) → s.links.halted c ≡ false → (h : Incoming) (k : HasPayment h s) (n : Note)
      (i : ℕ) → k.0.note ≡ Some n → n.outgoing ≡ Offered c i → Among (IsAt c i) k.0.outs
  awake_there c s awake h k n i is to = by_offered
      (subst (λ w. IsOffered w k.0.outs k.0.halted) to
      (subst (λ o. ForNote (λ f. IsOffered f.outgoing k.0.outs k.0.halted) o) is k.1.kept.offered))
    where
      by_offered : (k.0.halted c ≡ true) ⊎ Among (IsAt c i) k.0.outs → Among (IsAt c i) k.0.outs
      by_offered (inl halt) = absurd (let no : true ≡ false = sym halt ∙ k.1.of_links.halted c ∙ awake in cc)
      by_offered (inr a) = a

  -- its link worked, and works
  pub works_still : (c : ℕ) (s t : Scene) → s.links.halted c ≡ false
      → ((d : ℕ) → t.links.halted d ≡ s.links.halted d) → (d : ℕ)
      → t.links.halted d ≡ (not (d == c) && s.links.halted d)
  works_still c s t awake same_halted d = same_halted d ∙ elim (either (d == c)) [
    | inl is ↦ ap s.links.halted (eqb-true d c is) ∙ awake ∙ sym (ap (λ b. not b && s.links.halted d) is)
    | inr isnt ↦ sym (ap (λ b. not b && s.links.halted d) isnt)
  ]

  -- ---- the node restarts

  pub restart : ((c d : ℕ) → id_of c ≡ id_of d → c ≡ d) → (s t : Scene) (es : List (ℕ × End))
      → Drops everywhere s.links t.links → ((d : ℕ) → t.links.halted d ≡ false) → AreBack id_of t.links es
      → t.book ≡ rebuilt_htlcs (snapshots es) → HavePayments s → HavePayments t
  restart one s t es g none incoming book k h =
      let p = (k h).0 in
      let still = is_some (offer_for (key_of id_of h) (snapshots es)) in
      let st = restarts (origin id_of) h s.links t.links g none still p (k h).1.of_links in
      let kp = kept_after (move.Restart still ∷ []) p (tt, tt) (k h).1.kept in
      by_moves h t p ((k h).1.kept, (k h).1.holds) (move.Restart still ∷ []) (tt, tt) st
      (subst (λ xs. HasEntry id_of h xs (moved (move.Restart still) p).note) (sym book)
      (read_so id_of one h t.links es incoming (moved (move.Restart still) p) kp st))

  -- ---- the book hears what came to be held

  abbrev pub scene : Links → List Htlc → Scene
  scene l xs = record { links = l; book = xs }

  -- the removals of these HTLCs that came in
  abbrev pub after_removed : List Key → List Htlc → List Htlc
  after_removed [] xs = xs
  after_removed (k ∷ ks) xs = after_removed ks (left_out (is_finished k) (with_incoming k incoming.Settled xs))

  pub settles : (h : Incoming) (l : Links) (ks : List Key) (xs : List Htlc)
      → Each (λ j. j ≡ key_of id_of h → IsHeld (removal_at h.id (l.sides h.channel))) ks → HasPayment h (scene l xs)
      → HasPayment h (scene l (after_removed ks xs))
  settles h l [] xs e k = k
  settles h l (j ∷ ks) xs e k =
      settles h l ks (left_out (is_finished j) (with_incoming j incoming.Settled xs)) e.1
      (elim (either (same_key j (key_of id_of h))) [
        | inl is ↦ here (key_is j (key_of id_of h) is)
        | inr isnt ↦ (
          k.0,
          record {
            kept = k.1.kept;
            holds = k.1.holds;
            of_links = k.1.of_links;
            note = settled_there id_of h j isnt xs k.0.note k.1.note;
          },
        )
      ])
    where
      here : j ≡ key_of id_of h → HasPayment h (scene l (left_out (is_finished j)
          (with_incoming j incoming.Settled xs)))
      here key = by_moves h (scene l (left_out (is_finished j) (with_incoming j incoming.Settled xs))) k.0
          (k.1.kept, k.1.holds) (move.Settle ∷ [])
          (subst IsHeld (sym k.1.of_links.removal) (e.0 key), tt)
          (record {
            decision = k.1.of_links.decision;
            removal = k.1.of_links.removal;
            outs = k.1.of_links.outs;
            halted = k.1.of_links.halted;
          })
          (subst (λ z. HasEntry id_of h (left_out (is_finished z) (with_incoming z incoming.Settled xs))
          (move.settled k.0.note)) (sym key) (settled_here id_of h xs k.0.note k.1.note))

  -- what became of these HTLCs that went out there
  abbrev pub after_over : ℕ → List (ℕ × How) → List Htlc → List Htlc
  after_over c [] xs = xs
  after_over c (w ∷ ws) xs = after_over c ws
      (changed_first (is_offered (key_at id_of c w.0)) (put_outgoing (outgoing.Resolved (key_at id_of c w.0) w.1)) xs)

  pub tells : ((c d : ℕ) → id_of c ≡ id_of d → c ≡ d) → (h : Incoming) (l : Links) (c : ℕ) (ws : List (ℕ × How))
      (xs : List Htlc) → l.halted c ≡ false
      → Each (λ w. HasAddAt (origin id_of h) w.0 (l.sides c) → IsEnd (kind_of w.1) (course_at w.0 (l.sides c))) ws
      → HasPayment h (scene l xs) → HasPayment h (scene l (after_over c ws xs))
  tells one h l c [] xs awake e k = k
  tells one h l c (w ∷ ws) xs awake e k =
      tells one h l c ws now awake e.1
      (elim (over_so_far id_of one h c w.0 w.1 xs k.0.note k.1.note) [
        | inl as_was ↦ (k.0, record { kept = k.1.kept; holds = k.1.holds; of_links = k.1.of_links; note = as_was })
        | inr new ↦ by_moves h (scene l now) k.0 (k.1.kept, k.1.holds) (move.Tell c w.0 (kind_of w.1) ∷ [])
            ((new.0, k.1.of_links.halted c ∙ awake, ended k.0.outs k.1.of_links.outs), tt)
            (record {
              decision = k.1.of_links.decision;
              removal = k.1.of_links.removal;
              outs = k.1.of_links.outs;
              halted = k.1.of_links.halted;
            })
            new.1
      ])
    where
      now : List Htlc
      now = changed_first (is_offered (key_at id_of c w.0)) (put_outgoing (outgoing.Resolved
          (key_at id_of c w.0) w.1)) xs

      ended : (os : List Out) → AreOuts (origin id_of) h l os → Each (λ o. IsAt c w.0 o → HasEnded (kind_of w.1) o) os
      ended [] o = tt
      ended (q ∷ []) o = (
        λ at. subst (IsEnd (kind_of w.1))
            (sym (o.1 ∙ ap (λ n. course_at n (l.sides q.channel)) at.1 ∙ ap (λ n. course_at w.0 (l.sides n)) at.0))
            (e.0 (subst (λ n. HasAddAt (origin id_of h) n (l.sides c)) at.1
            (subst (λ n. HasAddAt (origin id_of h) q.id (l.sides n)) at.0 o.0))),
        tt,
      )
      ended (q ∷ r ∷ os) o = absurd o
