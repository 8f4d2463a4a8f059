-- What the book hears of its channels, and its settings.
use Rattle.std.proofs.Common.{◌≡◌, inl, inr, ℕ, ◌<◌, List, [], ◌∷◌, slice_get, take, refl, sym, ap, ◌∙◌}
use Rattle.std.proofs.Common.{subst, Bool, true, false, cond, nat_lt, nat_le, Option, Some, None, zero, suc, arith}
use Rattle.std.proofs.lemmas.Bool.{ltb-true}
use Rattle.ln_keys.specs.Signer.{Signer}
use Rattle.ln_log.specs.declared.mark.EventRef.{EventRef}
use Rattle.ln_log.specs.declared.mark.EventRef.TheVariants as ref
use Rattle.ln_log.specs.declared.update.Update.{Update}
use Rattle.ln_hooks.specs.declared.event.ChannelEvent.{ChannelEvent}
use Rattle.ln_hooks.specs.declared.event.ChannelEvent.TheVariants as event
use Rattle.ln_hooks.specs.Event.{event_of}
use Rattle.ln_channel.specs.End.{End}
use Rattle.ln_channel.specs.Pending.{event_in}
use Rattle.ln_channel.specs.Record.{saved_end}
use Rattle.ln_channel.specs.State.{State}
use Rattle.ln_forward.specs.declared.checks.Policy.{Policy}
use Rattle.ln_history.specs.History.{with_entry}
use Rattle.ln_book_tables.specs.declared.entry.Entry.{Entry}
use Rattle.ln_book_tables.specs.declared.entry.Entry.TheVariants as entry
use Rattle.ln_book_tables.specs.Replay.{Table, after, replay, table_of}
use Rattle.ln_book.specs.declared.switch.uses.Use.{Use}
use Rattle.ln_book.specs.Settled.{with_settled}
use Rattle.ln_book.specs.Uses.{with_route, with_use}
use Rattle.ln_payment_circuits.specs.Snapshot.{IsIn}
use Rattle.ln_manager_laws.specs.Steps.{IsSetting, HasTold, heard, Works}
use Rattle.ln_manager_laws.specs.Steps as step
use Rattle.ln_manager_channels.specs.Books.{Book, with_heard, with_height}
use Rattle.ln_manager_channels.specs.Events.{entry_at, held_by, told_event, told_in}
use Rattle.ln_manager_channels.specs.Links.{id_by_end, working_end, working_id}
use Rattle.ln_manager_channels.specs.Calls.{Parts, Hears}
use Rattle.ln_manager_calls.specs.Standing.{Loaded, link_of}
use Rattle.ln_manager_calls.proofs.Hosting.{same_lead, same_records}
use Rattle.ln_manager_calls.proofs.Kept.{View, view, Leads, entered, lead_then}
use Rattle.ln_manager_calls.proofs.Pending.{OutOnly, one_more, out_same}
use Rattle.ln_manager_calls.proofs.Places.{is_among, mapped_at}

-- ---- an event that an end has told

among_first : (us : List Update) (n k : ℕ) (u : Update) → n < k → slice_get us n ≡ Some u → IsIn u (take k us)
among_first [] n k u lt is = absurd (cc)
among_first (x ∷ us) n zero u lt is = absurd (omega (arith, lt))
among_first (x ∷ us) zero (suc k) u lt is = inl (cc)
among_first (x ∷ us) (suc n) (suc k) u lt is = inr (among_first us n k u (omega (arith, lt)) is)

-- among the updates that are held
held_among : (us : List Update) (first held n : ℕ) (own : Bool) (told : ChannelEvent)
    → event_in own (cond (nat_lt n held) (cond (nat_lt n first) None (slice_get us n)) None) ≡ Some told
    → (u : Update) × IsIn u (take held us) × (event_of own u ≡ Some told)
held_among us first held n own told = by_held (nat_lt n held) refl (nat_lt n first) (slice_get us n) refl
  where
    by_held : (a : Bool) → nat_lt n held ≡ a → (b : Bool) (o : Option Update) → slice_get us n ≡ o
        → event_in own (cond a (cond b None o) None) ≡ Some told
        → (u : Update) × IsIn u (take held us) × (event_of own u ≡ Some told)
    by_held false is b o at e = absurd (cc)
    by_held true is true o at e = absurd (cc)
    by_held true is false None at e = absurd (cc)
    by_held true is false (Some u) at e = (u, among_first us n held u (ltb-true n held is) at, e)

told_is : (n : ℕ) (e : End) (told : ChannelEvent) → told_event n e ≡ Some told → HasTold e told
told_is n e told = by_entry (entry_at n e.ledger)
  where
    by_entry : (o : Option EventRef) → held_by o e ≡ Some told → HasTold e told
    by_entry None is = absurd (cc)
    by_entry (Some (ref.Own i)) is =
        inl (held_among e.dance.log.own e.dance.log.first.own e.dance.log.current.own i true told is)
    by_entry (Some (ref.Peer i)) is =
        inr (held_among e.dance.log.received e.dance.log.first.peer e.dance.log.acknowledged.peer i false told is)
    by_entry (Some ref.Close) is = absurd (cc)

-- ---- what the book hears of it

heard_so : (c : List ℕ) (told : ChannelEvent) (b : Book)
    → table_of (with_settled c told b) ≡ replay (table_of b) (heard c told)
heard_so c (event.Added own id amount hash expiry onion) b = refl
heard_so c (event.Settled own id how) b = one_more _ b
heard_so c (event.Closed fee) b = refl

heard_out : (c : List ℕ) (told : ChannelEvent) (t : Table) → OutOnly (λ id. ⊥) t (replay t (heard c told))
heard_out c (event.Added own id amount hash expiry onion) t = out_same (λ id. ⊥) t t refl
heard_out c (event.Settled true id how) t =
    out_same (λ id. ⊥) t (replay t (heard c (event.Settled true id how))) refl
heard_out c (event.Settled false id how) t =
    out_same (λ id. ⊥) t (replay t (heard c (event.Settled false id how))) refl
heard_out c (event.Closed fee) t = out_same (λ id. ⊥) t t refl

-- ---- settings

setting_out : (x : Entry) → IsSetting x → (t : Table) → OutOnly (λ id. ⊥) t (after t x)
setting_out (entry.Route id l) is t = out_same (λ id. ⊥) t (after t (entry.Route id l)) refl
setting_out (entry.Use c u) is t = out_same (λ id. ⊥) t (after t (entry.Use c u)) refl
setting_out (entry.Height h) is t = out_same (λ id. ⊥) t (after t (entry.Height h)) refl
setting_out (entry.Expect i) is t = out_same (λ id. ⊥) t (after t (entry.Expect i)) refl
setting_out (entry.Decided d) is t = absurd is
setting_out (entry.Resumed r) is t = absurd is
setting_out (entry.Taken c o) is t = absurd is
setting_out (entry.Answered c a) is t = absurd is
setting_out (entry.Resolved k how) is t = absurd is
setting_out (entry.Removed k) is t = absurd is
setting_out (entry.Dropped c told) is t = absurd is

module _ {K : Type 0} (signer : K → Signer) where
  -- the book with these entries
  abbrev pub with_book : View K → Book → View K
  with_book v b = record { links = v.links; records = v.records; numbers = v.numbers; table = table_of b }

  set_lead : (v : View K) (b : Book) → v.table ≡ table_of b → (x : Entry) → IsSetting x
      → Leads signer v (with_book v (with_entry x b))
  set_lead v b same x is =
      let table : table_of (with_entry x b) ≡ after v.table x = one_more x b ∙ ap (λ t. after t x) (sym same) in
      entered signer v (with_book v (with_entry x b)) refl refl (λ k. refl)
      (subst (OutOnly (λ id. ⊥) v.table) (sym table) (setting_out x is v.table))
      (λ m h. step.Sets x is refl (table ∙ ap (λ t. after t x) (sym h.book)))

  route_lead : (v : View K) (b : Book) → v.table ≡ table_of b → (policy : Policy) (used : Use) (o : Option (List ℕ))
      → Leads signer v (with_book v (with_route policy used o b))
  route_lead v b same policy used None = same_lead signer v (with_book v b) refl (λ k. refl) refl (sym same)
  route_lead v b same policy used (Some id) = set_lead v b same (entry.Route id _) tt

  module _ (old : Loaded) (p q : Parts K) where
    -- ---- the book hears what is told, or nothing

    pub hears_book : (told : Book) → Hears told p q → Leads signer (view old p) (with_book (view old p) told)
        → Leads signer (view old p) (view old q)
    hears_book told (inl is, stays) leads =
        lead_then signer (view old p) (with_book (view old p) told) (view old q) leads
        (same_lead signer (with_book (view old p) told) (view old q) stays.0 (same_records old p q stays.2) stays.1
        (ap table_of is))
    hears_book told (inr is, stays) leads =
        same_lead signer (view old p) (view old q) stays.0 (same_records old p q stays.2) stays.1 (ap table_of is)

    pub sets : (x : Entry) → IsSetting x → Hears (with_entry x p.book) p q → Leads signer (view old p) (view old q)
    sets x is h = hears_book (with_entry x p.book) h (set_lead (view old p) p.book refl x is)

    pub height : (n : ℕ) → Hears (with_height n p.book) p q → Leads signer (view old p) (view old q)
    height n h = hears_book (with_height n p.book) h (by_bound (nat_le n 400000000))
      where
        by_bound : (b : Bool) → Leads signer (view old p)
            (with_book (view old p) (cond b (with_entry (entry.Height n) p.book) p.book))
        by_bound true = set_lead (view old p) p.book refl (entry.Height n) tt
        by_bound false = same_lead signer (view old p) (view old p) refl (λ k. refl) refl refl

    pub routes : (policy : Policy) (used : Use) → Hears (with_route policy used used.short_id p.book) p q
        → Leads signer (view old p) (view old q)
    routes policy used h = hears_book (with_route policy used used.short_id p.book) h
        (route_lead (view old p) p.book refl policy used used.short_id)

    pub follows : (policy : Policy) (used : Use) → Hears (with_use policy used p.book) p q
        → Leads signer (view old p) (view old q)
    follows policy used h =
        let first = with_route policy used used.short_id p.book in
        let mid = with_book (view old p) first in
        hears_book (with_use policy used p.book) h
        (lead_then signer (view old p) mid (with_book (view old p) (with_use policy used p.book))
        (route_lead (view old p) p.book refl policy used used.short_id)
        (set_lead mid first refl (entry.Use used.channel used.takes) tt))

    -- ---- an event

    event_lead : (c : ℕ) (l : State K) (e : End) (told : ChannelEvent) → slice_get p.links c ≡ Some l
        → l.halted ≡ false → saved_end l.stage ≡ Some e → HasTold e told
        → Leads signer (view old p) (with_book (view old p) (with_settled e.dance.channel told p.book))
    event_lead c l e told at works end has =
        let v = view old p in
        let w = with_book v (with_settled e.dance.channel told p.book) in
        let table = heard_so e.dance.channel told p.book in
        entered signer v w refl refl (λ k. refl)
        (subst (OutOnly (λ id. ⊥) v.table) (sym table) (heard_out e.dance.channel told v.table))
        (λ m h.
        let k = mapped_at link_of m.seats c l (ap (λ ls. slice_get ls c) h.links ∙ at) in
        let x_in = is_among m.seats c k.0 k.1 in
        let halted = ap (λ (z : State K). z.halted) k.2 ∙ works in
        step.Hears k.0 e told x_in
        (record {
          end = ((h.sound k.0 x_in).works halted).0 ∙ ap (λ (z : State K). saved_end z.stage) k.2 ∙ end;
          halted = halted;
        }) has refl (table ∙ ap (λ t. replay t (heard e.dance.channel told)) (sym h.book)))

    pub hears : (c n : ℕ)
        → Hears (with_heard (working_id (slice_get p.links c)) (told_in n (working_end (slice_get p.links c))) p.book)
        p q
        → Leads signer (view old p) (view old q)
    hears c n h = hears_book _ h (by_link (slice_get p.links c) refl)
      where
        stays : Leads signer (view old p) (with_book (view old p) p.book)
        stays = same_lead signer (view old p) (view old p) refl (λ k. refl) refl refl

        by_told : (l : State K) (e : End) → slice_get p.links c ≡ Some l → l.halted ≡ false
            → saved_end l.stage ≡ Some e → (o : Option ChannelEvent) → told_event n e ≡ o
            → Leads signer (view old p) (with_book (view old p) (with_heard (Some e.dance.channel) o p.book))
        by_told l e at works end None is = stays
        by_told l e at works end (Some told) is = event_lead c l e told at works end (told_is n e told is)

        by_end : (l : State K) → slice_get p.links c ≡ Some l → l.halted ≡ false → (o : Option End)
            → saved_end l.stage ≡ o
            → Leads signer (view old p) (with_book (view old p) (with_heard (id_by_end o) (told_in n o) p.book))
        by_end l at works None is = stays
        by_end l at works (Some e) is = by_told l e at works is (told_event n e) refl

        by_halted : (l : State K) → slice_get p.links c ≡ Some l → (b : Bool) → l.halted ≡ b
            → Leads signer (view old p) (with_book (view old p) (with_heard (cond b None
            (id_by_end (saved_end l.stage)))
            (told_in n (cond b None (saved_end l.stage))) p.book))
        by_halted l at true is = stays
        by_halted l at false is = by_end l at is (saved_end l.stage) refl

        by_link : (o : Option (State K)) → slice_get p.links c ≡ o
            → Leads signer (view old p) (with_book (view old p) (with_heard (working_id o) (told_in n (working_end o))
            p.book))
        by_link None at = stays
        by_link (Some l) at = by_halted l at l.halted refl
