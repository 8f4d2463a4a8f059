-- What a peer's message makes of one channel.
use Rattle.std.proofs.Common.{◌≡◌, ◌⊎◌, inl, inr, ℕ, List, [], ◌++◌, slice_get, slice_set, refl, sym, ap, ◌∙◌, subst}
use Rattle.std.proofs.Common.{Bool}
use Rattle.std.proofs.Common.{true, false, cond, not, ◌==◌, Option, Some, None, Err}
use Rattle.std.proofs.lemmas.Bool.{eqb-true, eq-eqb}
use Rattle.std.proofs.lemmas.List.{set-set}
use Rattle.ln_msgs.specs.declared.messages.message.Message.{Message}
use Rattle.ln_refusals.specs.declared.refusal.Refusal.TheVariants as refusal
use Rattle.ln_keys.specs.Signer.{Signer}
use Rattle.ln_channel.specs.End.{End}
use Rattle.ln_channel.specs.State.{State, KeepsChannel, refused}
use Rattle.ln_channel.specs.Step.{handled, opened}
use Rattle.ln_link.specs.Calls.{left_by}
use Rattle.ln_link.specs.Saving.{handled_beside, is_known}
use Rattle.ln_store.specs.Store.{Records}
use Rattle.ln_book_tables.specs.Replay.{Table, same, table_of}
use Rattle.ln_payment_circuits.specs.Snapshot.{All}
use Rattle.ln_payment_circuits.proofs.Entries.{same_is, is_same}
use Rattle.ln_manager_laws.specs.Calls as made
use Rattle.ln_manager_laws.specs.Calls.{Seat, called}
use Rattle.ln_manager_laws.specs.Manager as laws
use Rattle.ln_manager_laws.specs.Manager.{Manager, seat_id, id_by, agreed_id}
use Rattle.ln_manager_laws.specs.Steps.{Changes, Knows}
use Rattle.ln_manager_laws.specs.Steps as step
use Rattle.ln_manager_laws.proofs.Turns.{message_goes}
use Rattle.ln_manager_channels.specs.declared.newest.Newest.{Newest}
use Rattle.ln_manager_channels.specs.Moves.{Answer, Takes, TakesAt, TakesOver, TakesMessage, Known}
use Rattle.ln_manager_channels.specs.Moves.{is_others, knowing, known_before, numbered_before, opened_in, store_of}
use Rattle.ln_manager_channels.specs.Links.{number_in}
use Rattle.ln_manager_channels.specs.Numbers.{NumbersById, number_at, numbered}
use Rattle.ln_manager_channels.specs.Places.{AnswersBesideBy, changed_at, changed_by}
use Rattle.ln_manager_channels.specs.Calls.{Parts, known}
use Rattle.ln_manager_calls.specs.Standing.{FailsAs, IsRecorded, Loaded, kept_at}
use Rattle.ln_manager_calls.proofs.Answering.{message_left}
use Rattle.ln_manager_calls.proofs.Hosting.{same_lead, same_records}
use Rattle.ln_manager_calls.proofs.Kept.{View, view, HasNumber, SameRecords, Stands, Reaches, Leads, at_link}
use Rattle.ln_manager_calls.proofs.Kept.{lead_then, with_seat}
use Rattle.ln_manager_calls.proofs.Knowing.{known_own, knowing_all, all_more, all_still, knows_all, number_found}
use Rattle.ln_manager_calls.proofs.Numbered.{has_number, others_number}
use Rattle.ln_manager_calls.proofs.Pending.{out_same}
use Rattle.ln_manager_calls.proofs.Places.{stands_at, got_set, set_other, set_same}
use Rattle.ln_manager_calls.proofs.Recording.{Tells, call_tells, kept_of, knowing_of, message_leaves, quiet_tells}
use Rattle.ln_manager_calls.proofs.Steps.{host_lead, plain_reaches, still_halts}

module _ {K : Type 0} (signer : K → Signer) where
  -- ---- over these records, an id that it opens is another link's, and known, or has its number

  abbrev IsFresh : ℕ → NumbersById → Records → Option (List ℕ) → Type 0
  IsFresh c numbers rs o = (id : List ℕ) → o ≡ Some id
      → (is_known (Some id) rs ≡ true) ⊎ (number_at id numbers ≡ Some c)

  -- so it is known in these, too, exactly where it was
  known_alike : (v : View K) (c : ℕ) (rs : Records) (xs : List (Seat K)) (o : Option (List ℕ))
      → IsFresh c v.numbers rs o
      → ((id : List ℕ) → number_at id v.numbers ≡ Some c → All (λ (x : Seat K). seat_id x ≡ Some id → ⊥) xs)
      → is_known o (knowing_all xs rs) ≡ is_known o rs
  known_alike v c rs xs None fresh apart = refl
  known_alike v c rs xs (Some id) fresh apart = elim (fresh id refl) [
    | inl is ↦ all_more xs id rs is ∙ sym is
    | inr own ↦ all_still xs id rs (apart id own)
  ]

  module _ (v w : View K) (c : ℕ) (l l' : State K) (there : slice_get v.links c ≡ Some l)
      (links : w.links ≡ slice_set v.links c l') (numbers : w.numbers ≡ v.numbers) (table : w.table ≡ v.table)
      (keeps : KeepsChannel l.stage l'.stage) (m : Message) (rs : Records)
      (fresh : IsFresh c v.numbers rs (opened l m))
      (is : l' ≡ left_by (handled_beside rs (signer l.keys) l m) (λ r. refused r l) l)
      (told : (o : Option End) → Tells v.records w.records c l l' o) where
    handle_lead : Leads signer v w
    handle_lead = at_link signer v w c l there (λ n h x at link. reaches n h x at link)
      where
        reaches : (n : Manager K) → Stands v n → (x : Seat K) → slice_get n.seats c ≡ Some x → x.link ≡ l
            → Reaches signer w n
        reaches n h x at link =
            let p = stands_at n.seats c x at in
            let xs = p.before ++ p.after in
            let more = knowing_all xs rs in
            let k = made.Handle more m in
            let g : Changes x (called signer k x) n (with_seat c (called signer k x) w.table n) = record {
              before = p.before;
              after = p.after;
              was = p.was;
              is = p.is (called signer k x);
            } in
            let alike = known_alike v c rs xs (opened l m) fresh (λ id own.
            p.others (λ (z : Seat K). seat_id z ≡ Some id → ⊥) (λ i z found apart its.
            let some : Some c ≡ Some i = sym own ∙ h.numbered i z found id its in
            let place : c ≡ i = cc in apart (sym place))) in
            let now : l' ≡ made.made signer k l = is
            ∙ ap (λ b. left_by (cond b (Err refusal.OutOfPlace) (handled (signer l.keys) l m)) (λ r. refused r l) l)
            (sym alike) in
            plain_reaches signer v w c l l' there links numbers k tt (record {
              is = now;
              keeps = λ halted. keeps;
              goes = λ works ready. (message_goes ⊥ (λ id. number_at id w.numbers ≡ Some c) (signer l.keys) more m l
                  ready (λ new id opens. agrees (sym alike ∙ new) id opens)).id;
            }) (out_same (λ id. ⊥) v.table w.table (ap (λ (t : Table). t.pending_commands) table)) n h x at link
            (told x.end) (step.Calls x k g (knows_all xs rs) (table ∙ sym h.book))
          where
            agrees : is_known (opened l m) rs ≡ false → (id : List ℕ) → opened l m ≡ Some id
                → number_at id w.numbers ≡ Some c
            agrees new id opens = elim (fresh id opens) [
              | inl old ↦ absurd (let no : true ≡ false = sym old ∙ ap (λ o. is_known o rs) (sym opens) ∙ new in cc)
              | inr own ↦ ap (number_at id) numbers ∙ own
            ]

  -- ---- an id has a number from now on

  number_lead : (v w : View K) (c : ℕ) (id : List ℕ) → is_others c (number_in v.numbers v.links id) ≡ false
      → w.links ≡ v.links → SameRecords v w → w.numbers ≡ numbered id c v.numbers → w.table ≡ v.table
      → Leads signer v w
  number_lead v w c id own links records numbers table m h = (
    [],
    tt,
    record {
      links = h.links ∙ sym links;
      book = h.book ∙ sym table;
      sound = h.sound;
      faithful = h.faithful;
      numbered = λ k x at i its. ap (number_at i) numbers ∙ by_id k x at i its (same i id) refl;
      recorded = λ k. subst (IsRecorded (slice_get m.seats k)) (sym (records k)) (h.recorded k);
      out = h.out;
    },
  )
    where
      by_id : (k : ℕ) (x : Seat K) → slice_get m.seats k ≡ Some x → (i : List ℕ) → seat_id x ≡ Some i
          → (b : Bool) → same i id ≡ b → number_at i (numbered id c v.numbers) ≡ Some k
      by_id k x at i its false isnt =
          others_number id i (λ e. absurd (let no : true ≡ false = sym (is_same i id e) ∙ isnt in cc)) c v.numbers
          ∙ h.numbered k x at i its
      by_id k x at i its true is =
          let e = same_is i id is in
          let found = number_found v m h k x at id (its ∙ ap Some e) in
          let here : not (k == c) ≡ false = ap (is_others c) (sym found) ∙ own in
          ap (λ j. number_at j (numbered id c v.numbers)) e ∙ has_number id c v.numbers
          ∙ ap Some (sym (eqb-true k c (unnot (k == c) here)))
        where
          unnot : (b : Bool) → not b ≡ false → b ≡ true
          unnot true isnt = refl
          unnot false isnt = absurd (cc)

  -- ---- an id that another channel has is known to the store

  know_lead : (old : Loaded) (ns : List Newest) (v w : View K) (c : ℕ) (id : List ℕ) → is_others c
      (number_in v.numbers v.links id) ≡ true
      → w.links ≡ v.links → ((k : ℕ) → v.records k ≡ kept_at old ns k)
      → ((k : ℕ) → w.records k ≡ kept_at old (changed_at c (knowing id) ns) k) → w.numbers ≡ v.numbers
      → w.table ≡ v.table → Leads signer v w
  know_lead old ns v w c id others links before records numbers table m h = (
    [],
    tt,
    record {
      links = h.links ∙ sym links;
      book = h.book ∙ sym table;
      sound = h.sound;
      faithful = h.faithful;
      numbered = λ k x at. subst (λ ns. HasNumber ns k x) (sym numbers) (h.numbered k x at);
      recorded = λ k. subst (IsRecorded (slice_get m.seats k)) (sym (records k))
          (by_record (slice_get ns c) refl k);
      out = h.out;
    },
  )
    where
      -- it is no id of this channel's
      apart : (o : Option (Seat K)) → slice_get m.seats c ≡ o → (e : End) → laws.end_in o ≡ Some e
          → e.dance.channel ≡ id → ⊥
      apart None at e is same = absurd (cc)
      apart (Some x) at e is same =
          let own = number_found v m h c x at id (ap (λ z. id_by z (agreed_id x.link)) is ∙ ap Some same) in
          absurd (let no : true ≡ false = sym others ∙ ap (is_others c) own ∙ ap not (eq-eqb c c refl) in cc)

      was : (k : ℕ) → IsRecorded (slice_get m.seats k) (kept_at old ns k)
      was k = subst (IsRecorded (slice_get m.seats k)) (before k) (h.recorded k)

      by_place : (n : Newest) → slice_get ns c ≡ Some n → (k : ℕ) (b : Bool) → (k == c) ≡ b
          → IsRecorded (slice_get m.seats k) (kept_at old (slice_set ns c (knowing id n)) k)
      by_place n at k true is =
          let o = slice_get m.seats c in
          let first : IsRecorded o (record { since = Some n.kept; loaded = old }) =
          subst (IsRecorded o) (ap (kept_of old) at) (was c) in
          let now : IsRecorded o (record { since = Some (knowing id n).kept; loaded = old }) =
          knowing_of id (FailsAs o) (laws.end_in o) n.kept old (apart o refl) first in
          subst (λ i. IsRecorded (slice_get m.seats i) (kept_at old (slice_set ns c (knowing id n)) i))
          (sym (eqb-true k c is))
          (subst (IsRecorded o) (sym (ap (kept_of old) (got_set ns c n (knowing id n) at))) now)
      by_place n at k false isnt =
          subst (IsRecorded (slice_get m.seats k)) (sym (ap (kept_of old) (set_other ns c k (knowing id n)
          (λ e. absurd (let no : true ≡ false = sym (eq-eqb k c e) ∙ isnt in cc))))) (was k)

      by_record : (o : Option Newest) → slice_get ns c ≡ o → (k : ℕ)
          → IsRecorded (slice_get m.seats k) (kept_at old (changed_by c (knowing id) o ns) k)
      by_record None at k = was k
      by_record (Some n) at k = by_place n at k (k == c) refl

  -- ---- a message

  module _ (old : Loaded) (p q : Parts K) (book : q.book ≡ p.book) (c : ℕ) (keys : K) (m : Message)
      (answer : Answer) where
    same_book : table_of q.book ≡ table_of p.book
    same_book = ap table_of book

    -- over these records
    abbrev mid : List Newest → View K
    mid ns = record { links = p.links; records = kept_at old ns; numbers = q.numbers; table = table_of p.book }

    -- the link takes it over the one at its place
    takes : (ns : List Newest) (l l' : State K) (n n' : Newest) → slice_get p.links c ≡ Some l
        → q.links ≡ slice_set p.links c l' → slice_get ns c ≡ Some n → q.records ≡ slice_set ns c n'
        → IsFresh c q.numbers (store_of n).records (opened l m) → Takes signer keys m l l' n n' answer
        → Leads signer (mid ns) (view old q)
    unfolding Takes
    takes ns l l' n n' at now found kept fresh h =
        let k : State K = record l { keys = keys } in
        let set : View K = record {
          links = slice_set p.links c k;
          records = kept_at old ns;
          numbers = q.numbers;
          table = table_of p.book;
        } in
        let there = got_set p.links c l k at in
        let links = now ∙ sym (set-set p.links c k l') in
        let told = call_tells old ns q.records c k l' n n' found kept h.1
        (message_leaves (λ v. v.items) k l' n n' (signer keys) answer m h.0) in
        lead_then signer (mid ns) set (view old q)
        (host_lead signer (mid ns) set c l k at refl refl (made.SetKeys keys) tt (λ xs. tt) refl
        (λ halted channel is. is)
        (quiet_tells (kept_at old ns) (kept_at old ns) c l k (λ i. refl) (inl refl, refl)) refl)
        (elim (message_left (λ v. v.items) k l' (signer keys) m answer (store_of n) (store_of n') h.0) [
          | inl is ↦ handle_lead set (view old q) c k l' there links refl same_book h.1 m (store_of n).records fresh is
              told
          | inr halted ↦ still_halts signer set (view old q) c k l' there links refl halted h.1 told same_book
        ])

    -- the store knows it, or it has this number
    is_ready : (number : List ℕ → Option ℕ) (o : Option (List ℕ)) (n : Newest)
        → q.numbers ≡ numbered_before c number o p.numbers
        → slice_get (known_before c number o p.records) c ≡ Some n → IsFresh c q.numbers (store_of n).records o
    is_ready number None n numbers at id is = absurd (cc)
    is_ready number (Some new) n numbers at id is =
        let some : Some new ≡ Some id = is in
        let e : new ≡ id = cc in
        subst (λ i. (is_known (Some i) (store_of n).records ≡ true) ⊎ (number_at i q.numbers ≡ Some c)) e
        (by_others (is_others c (number new)) numbers at)
      where
        known_at : (o : Option Newest) → slice_get p.records c ≡ o
            → slice_get (changed_by c (knowing new) o p.records) c ≡ Some n → is_known (Some new) n.kept ≡ true
        known_at None was is = absurd (let no : None ≡ Some n = sym was ∙ is in cc)
        known_at (Some old) was is =
            let found : Some (knowing new old) ≡ Some n =
            sym (got_set p.records c old (knowing new old) was) ∙ is in
            let e : knowing new old ≡ n = cc in
            subst (λ (z : Newest). is_known (Some new) z.kept ≡ true) e (known_own new old.kept [])

        by_others : (b : Bool) → q.numbers ≡ cond b p.numbers (numbered new c p.numbers)
            → slice_get (cond b (changed_at c (knowing new) p.records) p.records) c ≡ Some n
            → (is_known (Some new) n.kept ≡ true) ⊎ (number_at new q.numbers ≡ Some c)
        by_others true numbers at = inl (known_at (slice_get p.records c) refl at)
        by_others false numbers at = inr (ap (number_at new) numbers ∙ has_number new c p.numbers)

    -- first its number, or what the store knows
    ready_lead : (o : Option (List ℕ)) → q.numbers ≡ numbered_before c (number_in p.numbers p.links) o p.numbers
        → Leads signer (view old p) (mid (known_before c (number_in p.numbers p.links) o p.records))
    ready_lead None numbers = same_lead signer (view old p) (mid p.records) refl (λ k. refl) numbers refl
    ready_lead (Some id) numbers = by_others (is_others c (number_in p.numbers p.links id)) refl numbers
      where
        by_others : (b : Bool) → is_others c (number_in p.numbers p.links id) ≡ b
            → q.numbers ≡ cond b p.numbers (numbered id c p.numbers)
            → Leads signer (view old p) (mid (cond b (changed_at c (knowing id) p.records) p.records))
        by_others true is numbers =
            know_lead old p.records (view old p) (mid (changed_at c (knowing id) p.records)) c id is refl (λ k. refl)
            (λ k. refl) numbers refl
        by_others false isnt numbers = number_lead (view old p) (mid p.records) c id isnt refl (λ k. refl) numbers refl

    takes_over : (number : List ℕ → Option ℕ)
        → q.numbers ≡ numbered_before c number (opened_in (slice_get p.links c) m) p.numbers
        → TakesOver signer c keys m answer p.links q.links
        (known_before c number (opened_in (slice_get p.links c) m) p.records) q.records
        → Leads signer (mid (known_before c number (opened_in (slice_get p.links c) m) p.records)) (view old q)
    unfolding TakesOver
    takes_over number numbers h = by_record (slice_get ns c) refl h
      where
        ns : List Newest
        ns = known_before c number (opened_in (slice_get p.links c) m) p.records

        nothing : q.links ≡ p.links → q.records ≡ ns → Leads signer (mid ns) (view old q)
        nothing links records =
            same_lead signer (mid ns) (view old q) links (λ k. ap (λ xs. kept_at old xs k) records) refl same_book

        by_link : (n n' : Newest) → slice_get ns c ≡ Some n → q.records ≡ slice_set ns c n' → (o : Option (State K))
            → slice_get p.links c ≡ o → AnswersBesideBy c (Takes signer keys m) o answer p.links q.links n n'
            → Leads signer (mid ns) (view old q)
        by_link n n' found kept None at k =
            nothing k.1 (kept ∙ ap (slice_set ns c) k.2 ∙ set_same ns c n found)
        by_link n n' found kept (Some l) at k = takes ns l k.0 n n' at k.1 found kept
            (subst (λ o. IsFresh c q.numbers (store_of n).records (opened_in o m)) at
            (is_ready number (opened_in (slice_get p.links c) m) n numbers found)) k.2

        by_record : (o : Option Newest) → slice_get ns c ≡ o
            → AnswersBesideBy c (λ n n' l l' a. TakesAt signer c keys m a l l' n n') o answer ns q.records p.links
            q.links → Leads signer (mid ns) (view old q)
        by_record None at k = nothing k.2 k.1
        by_record (Some n) at k = by_link n k.0 at k.1 (slice_get p.links c) refl k.2

    pub messages : TakesMessage signer c keys m answer (known p) (known q) → Leads signer (view old p) (view old q)
    messages (inl h) = same_lead signer (view old p) (view old q) (ap (λ (k : Known K). k.links) h.1)
        (same_records old p q (ap (λ (k : Known K). k.records) h.1)) (ap (λ (k : Known K). k.numbers) h.1) same_book
    messages (inr h) =
        let number = number_in p.numbers p.links in
        let o = opened_in (slice_get p.links c) m in
        lead_then signer (view old p) (mid (known_before c number o p.records)) (view old q) (ready_lead o h.0)
        (takes_over number h.0 h.1)
