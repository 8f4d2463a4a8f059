-- What a lost connection leaves, and a channel that is added.
use Rattle.std.proofs.Common.{◌≡◌, ◌⊎◌, inl, inr, ℕ, zero, suc, List, [], ◌∷◌, ◌++◌, length, slice_get, slice_set, refl}
use Rattle.std.proofs.Common.{sym, ap, ◌∙◌}
use Rattle.std.proofs.Common.{subst, Bool, true, false, cond, not, ◌&&◌, Option, Some, None}
use Rattle.std.specs.Prelude.{option_map}
use Rattle.std.proofs.lemmas.List.{set-set}
use Rattle.ln_keys.specs.Signer.{Signer}
use Rattle.ln_channel.specs.declared.machine.ConnectionState.TheVariants as connection
use Rattle.ln_channel.specs.declared.machine.Stage.{Stage}
use Rattle.ln_channel.specs.declared.machine.Stage.TheVariants as stage
use Rattle.ln_channel.specs.End.{End, end_dropped}
use Rattle.ln_channel.specs.Record.{saved_end}
use Rattle.ln_channel.specs.State.{State, begun, cut, drops, halts, is_down}
use Rattle.ln_book_tables.specs.declared.entry.Entry.TheVariants as entry
use Rattle.ln_book_tables.specs.Replay.{Table, after, pending_command_at, table_of}
use Rattle.ln_payment_circuits.specs.Snapshot.{IsIn}
use Rattle.ln_manager_laws.specs.Calls as made
use Rattle.ln_manager_laws.specs.Calls.{Seat, begun_seat, called}
use Rattle.ln_manager_laws.specs.Manager as laws
use Rattle.ln_manager_laws.specs.Manager.{Manager, seat_id, id_by, agreed_id}
use Rattle.ln_manager_laws.specs.Steps.{Step, IsFirst, Works, kept_by}
use Rattle.ln_manager_laws.specs.Steps as step
use Rattle.ln_manager_laws.proofs.Stepping.{step_sound}
use Rattle.ln_manager_laws.proofs.Turns.{cut_so}
use Rattle.ln_manager_channels.specs.Books.{with_kept}
use Rattle.ln_manager_channels.specs.Links.{end_in, is_up}
use Rattle.ln_manager_channels.specs.Places.{changed_at, changed_by}
use Rattle.ln_manager_channels.specs.Calls.{Parts, Adds, HasPlace, Loses}
use Rattle.ln_manager_calls.specs.Standing.{FailsAs, IsRecorded, Kept, Loaded, kept_at, link_of}
use Rattle.ln_manager_calls.proofs.Hosting.{same_lead, same_records}
use Rattle.ln_manager_calls.proofs.Kept.{View, view, IsFaithful, HasNumber, Leads}
use Rattle.ln_manager_calls.proofs.Kept.{none_out, seat_changes}
use Rattle.ln_manager_calls.proofs.Pending.{OutOnly, one_more, out_dropped, out_same}
use Rattle.ln_manager_calls.proofs.Places.{got_set, got_more, is_among, mapped_more}
use Rattle.ln_manager_calls.proofs.Recording.{IsGrown, Tells, grown_of, halt_tells, placed_at, quiet_tells}
use Rattle.ln_manager_calls.proofs.Seating.{drops_keeps}
use Rattle.ln_manager_calls.proofs.Steps.{quiet_lead, still_halts}

-- a lost connection keeps its failure
dropped_failure : {K : Type 0} (l : State K) → (drops l).failure ≡ l.failure
dropped_failure l = by_line (is_down l.connection)
  where
    by_line : (b : Bool)
        → (cond b l (record l { connection = connection.Down; stage = cut l.stage })).failure ≡ l.failure
    by_line true = refl
    by_line false = refl

module _ {K : Type 0} (signer : K → Signer) (old : Loaded) (p q : Parts K) where
  -- ---- a connection that was there

  module _ (numbers : q.numbers ≡ p.numbers) (records : q.records ≡ p.records) (c : ℕ) (l : State K)
      (at : slice_get p.links c ≡ Some l)
      (now : q.links ≡ slice_set p.links c (drops l)) where
    module _ (works : l.halted ≡ false) (up : is_down l.connection ≡ false) where
      dropped_end : saved_end (drops l).stage ≡ option_map end_dropped (saved_end l.stage)
      dropped_end = by_line (is_down l.connection) up
        where
          by_line : (b : Bool) → b ≡ false
              → saved_end (cond b l (record l { connection = connection.Down; stage = cut l.stage })).stage
              ≡ option_map end_dropped (saved_end l.stage)
          by_line true isnt = absurd (cc)
          by_line false isnt = (cut_so l.stage).end

      dropped_tells : (o : Option End) → Tells (kept_at old p.records) (kept_at old q.records) c l (drops l) o
      dropped_tells = quiet_tells (kept_at old p.records) (kept_at old q.records) c l (drops l)
          (same_records old p q records)
          (inr dropped_end, dropped_failure l)

      loses_none : saved_end l.stage ≡ None → table_of q.book ≡ table_of p.book → Leads signer (view old p) (view old q)
      loses_none none same =
          quiet_lead signer (view old p) (view old q) c l (drops l) at now numbers made.DropConnection tt refl
          (λ halted. drops_keeps l) dropped_tells
          (out_same (λ id. ⊥) (table_of p.book) (table_of q.book) (ap (λ (t : Table). t.pending_commands) same))
          (λ m h x x_at link.
          let sound = h.sound x (is_among m.seats c x x_at) in
          step.LosesOpening x
          ((sound.works (ap (λ (z : State K). z.halted) link ∙ works)).0
          ∙ ap (λ (z : State K). saved_end z.stage) link ∙ none)
          (seat_changes c x (called signer made.DropConnection x) (table_of q.book) m x_at)
          (same ∙ sym h.book))

      loses_end : (e : End) → saved_end l.stage ≡ Some e
          → q.book ≡ with_kept (Some (end_dropped e)) p.book → Leads signer (view old p) (view old q)
      loses_end e is told =
          let dropped = entry.Dropped e.dance.channel (kept_by (end_dropped e) (table_of p.book)) in
          let book : table_of q.book ≡ after (table_of p.book) dropped = ap table_of told ∙ one_more dropped p.book in
          quiet_lead signer (view old p) (view old q) c l (drops l) at now numbers made.DropConnection tt refl
          (λ halted. drops_keeps l) dropped_tells
          (subst (OutOnly (λ id. ⊥) (table_of p.book)) (sym book)
          (out_dropped (λ id. ⊥) e.dance.channel (kept_by (end_dropped e) (table_of p.book)) (table_of p.book)))
          (λ m h x x_at link.
          let halted = ap (λ (z : State K). z.halted) link ∙ works in
          let sound = h.sound x (is_among m.seats c x x_at) in
          let end = (sound.works halted).0 ∙ ap (λ (z : State K). saved_end z.stage) link ∙ is in
          step.Disconnects x e (record { end = end; halted = halted })
          (ap (λ (z : State K). is_down z.connection) link ∙ up)
          (seat_changes c x (called signer made.DropConnection x) (table_of q.book) m x_at)
          (none_out (view old p) m h c x x_at halted e.dance.channel (ap (λ o. id_by o (agreed_id x.link)) end))
          (book ∙ ap (λ t. after t (entry.Dropped e.dance.channel (kept_by (end_dropped e) t))) (sym h.book)))

      loses_up : q.book ≡ with_kept (end_in (slice_get q.links c)) p.book → Leads signer (view old p) (view old q)
      loses_up told = cases (saved_end l.stage) refl
        where
          told_end : q.book ≡ with_kept (option_map end_dropped (saved_end l.stage)) p.book
          told_end = told ∙ ap (λ o. with_kept (end_in o) p.book) (ap (λ ls. slice_get ls c) now
              ∙ got_set p.links c l (drops l) at) ∙ ap (λ o. with_kept o p.book) dropped_end

          cases : (o : Option End) → saved_end l.stage ≡ o → Leads signer (view old p) (view old q)
          cases None is =
              loses_none is (ap table_of (told_end ∙ ap (λ o. with_kept (option_map end_dropped o) p.book) is))
          cases (Some e) is = loses_end e is (told_end ∙ ap (λ o. with_kept (option_map end_dropped o) p.book) is)

  abbrev AtUp : ℕ → Bool → Type 0
  AtUp c up = (q.links ≡ cond up (changed_at c drops p.links) p.links)
      × (q.book ≡ cond up (with_kept (end_in (slice_get q.links c)) p.book) p.book)

  pub loses : (c : ℕ) → Loses c p q → q.numbers ≡ p.numbers → q.records ≡ p.records → Leads signer (view old p)
      (view old q)
  loses c (inl h) numbers records = by_link (slice_get p.links c) refl h
    where
      stays : AtUp c false → Leads signer (view old p) (view old q)
      stays k = same_lead signer (view old p) (view old q) k.0 (same_records old p q records) numbers (ap table_of k.1)

      by_up : (l : State K) → slice_get p.links c ≡ Some l → (a b : Bool) → l.halted ≡ a → is_down l.connection ≡ b
          → AtUp c (not a && not b) → Leads signer (view old p) (view old q)
      by_up l at true b halted down k = stays k
      by_up l at false true halted down k = stays k
      by_up l at false false works up k =
          loses_up numbers records c l at (k.0 ∙ ap (λ o. changed_by c drops o p.links) at) works up k.1

      by_link : (o : Option (State K)) → slice_get p.links c ≡ o → AtUp c (is_up o) → Leads signer (view old p)
          (view old q)
      by_link None at k = stays k
      by_link (Some l) at k = by_up l at l.halted (is_down l.connection) refl refl k
  loses c (inr h) numbers records = by_link (slice_get p.links c) refl
    where
      by_link : (o : Option (State K)) → slice_get p.links c ≡ o → Leads signer (view old p) (view old q)
      by_link None at =
          let first : changed_at c drops p.links ≡ p.links = ap (λ o. changed_by c drops o p.links) at in
          same_lead signer (view old p) (view old q) (h.0 ∙ ap (changed_at c halts) first
          ∙ ap (λ o. changed_by c halts o p.links) at) (same_records old p q records) numbers (ap table_of h.1)
      by_link (Some l) at =
          let first : changed_at c drops p.links ≡ slice_set p.links c (drops l) =
          ap (λ o. changed_by c drops o p.links) at in
          let now : q.links ≡ slice_set p.links c (halts (drops l)) =
          h.0 ∙ ap (changed_at c halts) first
          ∙ ap (λ o. changed_by c halts o (slice_set p.links c (drops l))) (got_set p.links c l (drops l) at)
          ∙ set-set p.links c (drops l) (halts (drops l)) in
          still_halts signer (view old p) (view old q) c l (halts (drops l)) at now numbers refl
          (λ channel is. drops_keeps (drops l) channel (drops_keeps l channel is))
          (halt_tells (kept_at old p.records) (kept_at old q.records) c l (halts (drops l))
          (same_records old p q records) refl) (ap table_of h.1)

-- ---- a channel is added

module _ {K : Type 0} (keys : K) where
  first_end : (s : Stage) → IsFirst s → (begun_seat keys s).end ≡ None
  first_end (stage.AwaitsOpen c) is = refl
  first_end (stage.AwaitsAccept s) is = refl
  first_end (stage.AwaitsCreated a) is = absurd is
  first_end (stage.AwaitsSigned e) is = absurd is
  first_end (stage.Funded e) is = absurd is
  first_end stage.Gone is = absurd is

  first_id : (s : Stage) → IsFirst s → seat_id (begun_seat keys s) ≡ None
  first_id (stage.AwaitsOpen c) is = refl
  first_id (stage.AwaitsAccept s) is = refl
  first_id (stage.AwaitsCreated a) is = absurd is
  first_id (stage.AwaitsSigned e) is = absurd is
  first_id (stage.Funded e) is = absurd is
  first_id stage.Gone is = absurd is

  module _ (signer : K → Signer) (s : Stage) (first : IsFirst s) (v w : View K)
      (links : w.links ≡ v.links ++ begun keys s ∷ []) (numbers : w.numbers ≡ v.numbers) (table : w.table ≡ v.table)
      (places : (k : ℕ) → IsGrown (v.records k) (w.records k))
    where
      abbrev y : Seat K
      y = begun_seat keys s

      new_faithful : IsFaithful y
      new_faithful = record {
        held = λ e is. absurd (let no : None ≡ Some e = sym (first_end s first) ∙ is in cc);
        failed = λ works r is. absurd (cc);
      }

      among_more : (z : Seat K) (xs : List (Seat K)) → IsIn z (xs ++ y ∷ []) → (y ≡ z) ⊎ IsIn z xs
      among_more z [] (inl e) = inl e
      among_more z [] (inr k) = absurd k
      among_more z (x ∷ xs) (inl e) = inr (inl e)
      among_more z (x ∷ xs) (inr k) = elim (among_more z xs k) [ inl e ↦ inl e | inr l ↦ inr (inr l) ]

      among_still : (z : Seat K) (xs : List (Seat K)) → IsIn z xs → IsIn z (xs ++ y ∷ [])
      among_still z [] k = absurd k
      among_still z (x ∷ xs) (inl e) = inl e
      among_still z (x ∷ xs) (inr k) = inr (among_still z xs k)

      -- a seat more has no end, and no record
      more_record : (xs : List (Seat K)) (k : ℕ) (found : Kept) → IsRecorded (slice_get xs k) found
          → IsRecorded (slice_get (xs ++ y ∷ []) k) found
      more_record [] zero found h = record {
        has = λ e is. absurd (let no : None ≡ Some e = sym (first_end s first) ∙ is in cc);
        alone = λ rs at id bytes got. elim (h.alone rs at id bytes got) [
          | inl none ↦ inl none
          | inr own ↦ absurd (let no : None ≡ Some own.0 = own.1 in cc)
        ];
      }
      more_record [] (suc k) found h = h
      more_record (x ∷ xs) zero found h = h
      more_record (x ∷ xs) (suc k) found h = more_record xs k found h

      add_lead : Leads signer v w
      add_lead m h =
          let n : Manager K = record { seats = m.seats ++ y ∷ []; book = w.table } in
          let book : w.table ≡ m.book = table ∙ sym h.book in
          let one : Step signer m n = step.Adds keys s first refl book in (
            n ∷ [],
            (one, tt),
            record {
              links = mapped_more link_of m.seats (y ∷ []) ∙ ap (λ ls. ls ++ begun keys s ∷ []) h.links ∙ sym links;
              book = refl;
              sound = step_sound signer m n h.sound one;
              faithful = λ z k. elim (among_more z m.seats k) [
                | inl same ↦ subst IsFaithful same new_faithful
                | inr old ↦ h.faithful z old
              ];
              numbered = λ k z at. elim (got_more m.seats y k z at) [
                | inl old ↦ subst (λ ns. HasNumber ns k z) (sym numbers) (h.numbered k z old)
                | inr same ↦ λ id is. absurd (let no : None ≡ Some id =
                    sym (first_id s first) ∙ ap seat_id same ∙ is in cc)
              ];
              recorded = λ k. let o = slice_get (m.seats ++ y ∷ []) k in
                  grown_of (FailsAs o) (laws.end_in o) (v.records k) (w.records k)
                  (more_record m.seats k (v.records k) (h.recorded k)) (places k);
              out = λ id. elim (h.out id) [
                | inl idle ↦ inl (ap (pending_command_at id) book ∙ idle)
                | inr k ↦ inr (k.0, among_still k.0 m.seats k.1, k.2)
              ];
            },
          )

has_place : {K : Type 0} (old : Loaded) (p q : Parts K) → HasPlace p q → (k : ℕ)
    → IsGrown (kept_at old p.records k) (kept_at old q.records k)
has_place old p q place k = subst (λ ns. IsGrown (kept_at old p.records k) (kept_at old ns k)) (sym place)
    (placed_at old (length p.links) p.records k)

-- a place more, without a channel
grown_lead : {K : Type 0} (signer : K → Signer) (v w : View K) → w.links ≡ v.links → w.numbers ≡ v.numbers
    → w.table ≡ v.table → ((k : ℕ) → IsGrown (v.records k) (w.records k)) → Leads signer v w
grown_lead signer v w links numbers table places m h = (
  [],
  tt,
  record {
    links = h.links ∙ sym links;
    book = h.book ∙ sym table;
    sound = h.sound;
    faithful = h.faithful;
    numbered = λ k x at. subst (λ ns. HasNumber ns k x) (sym numbers) (h.numbered k x at);
    recorded = λ k. let o = slice_get m.seats k in
        grown_of (FailsAs o) (laws.end_in o) (v.records k) (w.records k) (h.recorded k)
        (places k);
    out = h.out;
  },
)

pub adds : {K : Type 0} (signer : K → Signer) (old : Loaded) (p q : Parts K) (keys : K) (s : Stage) → IsFirst s
    → Adds (begun keys s) p q → Leads signer (view old p) (view old q)
adds signer old p q keys s first (inl (links, place), beside) =
    add_lead keys signer s first (view old p) (view old q) links beside.0 (ap table_of beside.1)
    (λ k. has_place old p q place k)
adds signer old p q keys s first (inr (links, inl same), beside) =
    same_lead signer (view old p) (view old q) links (same_records old p q same) beside.0 (ap table_of beside.1)
adds signer old p q keys s first (inr (links, inr place), beside) =
    grown_lead signer (view old p) (view old q) links beside.0 (ap table_of beside.1) (λ k. has_place old p q place k)
