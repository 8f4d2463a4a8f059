-- Whatever happens to a node, its payments stay those of the machine.
use Rattle.std.proofs.Common.{◌≡◌, ◌⊎◌, inl, inr, ℕ, ◌≤◌, List, [], ◌∷◌, ◌++◌, take, map, refl, sym, ap, ◌∙◌}
use Rattle.std.proofs.Common.{subst, arith, Bool, true, false, cond, not, ◌==◌, ◌&&◌, ◌||◌, Option, Some, None, Result}
use Rattle.std.proofs.Common.{Ok, Err}
use Rattle.std.proofs.Common.{nat_lt, nat_le}
use Rattle.std.specs.Prelude.{option_map}
use Rattle.std.specs.List.{find, list_any}
use Rattle.std.proofs.lemmas.Bool.{eqb-true, eq-eqb}
use Rattle.std.proofs.lemmas.List.{take-take}
use Rattle.ln_refusals.specs.declared.refusal.Refusal.{Refusal}
use Rattle.ln_keys.specs.Signer.{Signer}
use Rattle.ln_log.specs.declared.mark.Decision.{Decision as LogDecision}
use Rattle.ln_log.specs.declared.mark.Mark.{Mark as LogMark}
use Rattle.ln_log.specs.declared.mark.Mark.TheVariants as mark
use Rattle.ln_log.specs.Mark.{is_held_by}
use Rattle.ln_log.specs.declared.outcome.Outcome.TheVariants.{Live}
use Rattle.ln_log.specs.declared.update.Update.{Update}
use Rattle.ln_log.specs.Updates.{outcome, is_live, is_some, add_with, next_id}
use Rattle.ln_log.specs.Log.{Log}
use Rattle.ln_log.proofs.Removing.{next-front}
use Rattle.ln_hooks.specs.declared.event.How.{How}
use Rattle.ln_hooks.specs.declared.event.How.TheVariants as how
use Rattle.ln_channel.specs.declared.command.Command.{Command}
use Rattle.ln_channel.specs.declared.command.Command.TheVariants as command
use Rattle.ln_channel.specs.Base.{based}
use Rattle.ln_channel.specs.Commands.{note_row, with_ledger, ledgered}
use Rattle.ln_channel.specs.End.{End, Turn, end_dropped, quiet}
use Rattle.ln_channel.specs.Ledger.{Ledger, first_htlc, forgotten, is_held_at}
use Rattle.ln_book_tables.specs.declared.htlc.Htlc.{Htlc}
use Rattle.ln_book_tables.specs.declared.htlc.Offer.{Offer}
use Rattle.ln_book_tables.specs.declared.htlc.Key.{Key}
use Rattle.ln_book_tables.specs.declared.htlc.OutgoingLeg.{OutgoingLeg as BookOutgoing}
use Rattle.ln_book_tables.specs.declared.htlc.OutgoingLeg.TheVariants as outgoing
use Rattle.ln_book_tables.specs.declared.htlc.IncomingLeg.{IncomingLeg as BookIncoming}
use Rattle.ln_book_tables.specs.declared.htlc.IncomingLeg.TheVariants as incoming
use Rattle.ln_book_tables.specs.declared.entry.Decided.{Decided}
use Rattle.ln_book_tables.specs.declared.entry.Out.{Out}
use Rattle.ln_book_tables.specs.declared.entry.Out.TheVariants as out
use Rattle.ln_book_tables.specs.declared.entry.Queued.{Queued}
use Rattle.ln_book_tables.specs.declared.entry.KeptState.{KeptState}
use Rattle.ln_book_tables.specs.Replay.{same, is_htlc, is_told, htlc_of, joined, taken_by, refused_by, with_mark}
use Rattle.ln_book_tables.specs.Replay.{with_outgoing}
use Rattle.ln_book_tables.specs.Replay.{with_incoming, put_outgoing, put_incoming, left_out, changed_first, htlc_kept}
use Rattle.ln_book_tables.specs.Replay.{is_among, is_outgoing_lost, is_held_in, is_over, put_mark, decide}
use Rattle.ln_book_tables.specs.Replay.{is_offered, is_finished, is_settled, has_nothing_offered, is_open}
use Rattle.ln_book_tables.specs.Replay.{is_undecided, is_decided}
use Rattle.ln_book.specs.Kept.{has_own_removal}
use Rattle.ln_book.specs.Rebuild.{rebuilt_htlcs}
use Rattle.ln_keys.specs.Services.{Services}
use Rattle.ln_book.specs.Commands.{command_of, removal_by, forget_by, forwards_in, is_resolved_in}
use Rattle.ln_payment.specs.Parts.{IsEnd, IsHeld, Undecided, Offered, Note, Among, IsAt}
use Rattle.ln_payment.specs.Parts.{Mark as PaymentMark, Decided as DecidedSo}
use Rattle.ln_payment.specs.Rebuild.{everywhere, is_uncovered}
use Rattle.ln_payment.specs.Moves.{is_of}
use Rattle.ln_payment_circuits.specs.Snapshot.{Snapshot, Incoming, IsIn, All, AreFit, key_at, key_of, origin, is_gone}
use Rattle.ln_payment_circuits.specs.Snapshot.{snapshots}
use Rattle.ln_payment_circuits.specs.Snapshot.{NonePasses, nothing_yet}
use Rattle.ln_payment_circuits.specs.Shift.{Shift, Proposes, Notes, IsPlain}
use Rattle.ln_payment_circuits.specs.Happens.{Happens, Goes, AreSame, Loses, IsNew, Asks, IsOnFirst, Tells, AreEnds}
use Rattle.ln_payment_circuits.specs.Happens.{IsUnheard}
use Rattle.ln_payment_circuits.specs.Happens.{obeyed}
use Rattle.ln_payment_circuits.specs.Happens.{entered, outcome_of, HasOwnIds, AreMoments, last_of}
use Rattle.ln_payment_circuits.specs.Happens as may
use Rattle.ln_payment_circuits.proofs.Lists.{either, of_picked, among_changed}
use Rattle.ln_payment_circuits.proofs.Parts.{course_by, ended_by, has_result}
use Rattle.ln_payment_circuits.proofs.Logs.{uncovered_live_htlcs, no_removal}
use Rattle.ln_payment_circuits.proofs.Links.{Side, Links, HasAddAt, course_at, decision_at, decision_by, has_mark}
use Rattle.ln_payment_circuits.proofs.Links.{removal_at, decided_as, mark_as}
use Rattle.ln_payment_circuits.proofs.Heard.{removal_is_held}
use Rattle.ln_payment_circuits.proofs.Held.{some_held, found_of, among_last}
use Rattle.ln_payment_circuits.proofs.Tidy.{tidy_dropped, decides_so, resumes_so, none_decided, none_in_base, Decides}
use Rattle.ln_payment_circuits.proofs.Tidy.{Resumes}
use Rattle.ln_payment_circuits.proofs.Shifts.{side_of, IsTidy, tidy_shift, tidy_based_end, plain_shift, stay}
use Rattle.ln_payment_circuits.proofs.Ledgers.{nothing}
use Rattle.ln_payment_circuits.proofs.Preimages.{ArePaid, paid_shift, paid_dropped, paid_based}
use Rattle.ln_payment_circuits.proofs.Waiting.{waiting_ids}
use Rattle.ln_payment_circuits.proofs.Entries.{is_same, kind_of, HasEntry}
use Rattle.ln_payment_circuits.proofs.OutgoingLegs.{AreBack, IsIncoming}
use Rattle.ln_payment_circuits.proofs.Due.{IsDueBy, Forgets, Offers, Removes, due_by, forgets_so}
use Rattle.ln_payment_circuits.proofs.Scenes.{Scene, HavePayments, links_go, offered, removed, comes_back}
use Rattle.ln_payment_circuits.proofs.Scenes.{by_moves, awake_there, works_still}
use Rattle.ln_payment_circuits.proofs.Scenes.{settles, tells}
use Rattle.ln_payment_circuits.proofs.Scenes.{restart}
use Rattle.ln_payment_circuits.proofs.Scenes as scenes
use Rattle.ln_payment_circuits.proofs.Answers.{decided, decided_book, waited, waiting_entry, waiting_undecided, heard}
use Rattle.ln_payment_circuits.proofs.Answers.{decided_or_old, add_refused, add_left, removal_refused}
use Rattle.ln_payment_circuits.proofs.Answers.{forget_refused}
use Rattle.ln_payment_circuits.proofs.Answers as answers
use Rattle.ln_payment_circuits.proofs.Resumed.{HoldAlike, resumed, agrees_resumed}
use Rattle.ln_payment_circuits.proofs.Agrees.{IsStill, was_same, agrees_fewer, agrees_taken, agrees_decided}
use Rattle.ln_payment_circuits.proofs.Agrees.{agrees_rebuilt}
use Rattle.ln_payment_circuits.proofs.Halts.{enters_undecided, halts, halts_undecided, decision_refused}
use Rattle.ln_payment_circuits.proofs.Kept.{none_kept}
use Rattle.ln_payment_circuits.proofs.Past.{IsOffer, WasOffer, IsPast, OldOffers, OffersNothing, offers_same, offers_as}
use Rattle.ln_payment_circuits.proofs.Past.{offers_then, offers_left, offers_changed, offers_map, offers_last}
use Rattle.ln_payment_circuits.proofs.Past.{offers_joined, past_on, past_halts, past_there}
use Rattle.ln_payment_circuits.specs.Circuit.{PaysOnce}
use Rattle.ln_payment_circuits.proofs.Promise.{begun, pays_once}
use Rattle.ln_payment_circuits.proofs.Proposed.{IsProposed, IsAdd, add_is, IsRemoved, removing_is}
use Rattle.ln_payment_circuits.proofs.Removing.{live_so, told_so, others_so, none_forwards}
use Rattle.ln_payment_circuits.proofs.Told.{covered, gone, none_removed}
use Rattle.ln_payment_circuits.proofs.Moments.{scene_of, links_of, EachEnd, each_goes, each_same, each_loses, drops}
use Rattle.ln_payment_circuits.proofs.Moments.{mid}
use Rattle.ln_payment_circuits.proofs.Alike.{payments_alike, same_links, opened_links, tidy_new, paid_new}
use Rattle.ln_payment_circuits.proofs.Moments.{mid_scene, to_mid, saved, fewer_saved, first_kept, plain_decisions}

-- ---- what stays, whatever happens

pub record IsKept (id_of : ℕ → List ℕ) (s : Snapshot) : Type 0 where
  pub tidy : EachEnd IsTidy s
  pub paid : EachEnd (λ e. ArePaid e.dance.log) s
  pub payments : HavePayments id_of (scene_of s)
  pub alike : HoldAlike id_of (scene_of s)
  pub past : IsPast id_of (scene_of s)

-- ---- a book of which nothing is new but where HTLCs go and their removals

abbrev HasOld : List Htlc → List Htlc → Type 0
HasOld xs ys = (y : Htlc) → IsIn y ys → (x : Htlc) × IsIn x xs × IsStill y x

old_same : (xs ys : List Htlc) → ys ≡ xs → HasOld xs ys
old_same xs ys e y m = (y, subst (IsIn y) e m, was_same y)

old_left : (p : Htlc → Bool) (xs : List Htlc) → HasOld xs (left_out p xs)
old_left p xs y m = (y, of_picked (λ x. not (p x)) y xs m, was_same y)

old_changed : (p : Htlc → Bool) (f : Htlc → Htlc) → ((x : Htlc) → IsStill (f x) x) → (xs : List Htlc)
    → HasOld xs (changed_first p f xs)
old_changed p f still xs y m = elim (among_changed p f y xs m) [
  | inl old ↦ (y, old, was_same y)
  | inr new ↦ (new.0, new.1, subst (λ z. IsStill z new.0) new.3 (still new.0))
]

old_map : (f : Htlc → Htlc) → ((x : Htlc) → IsStill (f x) x) → (xs : List Htlc) → HasOld xs (map f xs)
old_map f still [] y m = absurd m
old_map f still (x ∷ xs) y (inl e) = (x, inl refl, subst (λ z. IsStill z x) e (still x))
old_map f still (x ∷ xs) y (inr m) = let r = old_map f still xs y m in (r.0, inr r.1, r.2)

old_then : (xs ys zs : List Htlc) → HasOld xs ys → HasOld ys zs → HasOld xs zs
old_then xs ys zs a b z m =
    let r = b z m in
    let q = a r.0 r.1 in (
      q.0,
      q.1,
      record {
        key = q.2.key ∙ r.2.key;
        mark = q.2.mark ∙ r.2.mark;
        decided = λ d. q.2.decided (r.2.decided d);
      },
    )

old_as : (xs ys zs : List Htlc) → zs ≡ ys → HasOld xs ys → HasOld xs zs
old_as xs ys zs e h = subst (HasOld xs) (sym e) h

outgoing_still : (w : BookOutgoing) (x : Htlc) → IsStill (put_outgoing w x) x
outgoing_still w x = record { key = refl; mark = refl; decided = λ d. d }

back_still : (b : BookIncoming) (x : Htlc) → IsStill (put_incoming b x) x
back_still b x = record { key = refl; mark = refl; decided = λ d. d }

-- ---- what a command makes of an end

proposes_shift : (e f : End) (u : Update) → IsProposed e f u → Shift e f
proposes_shift e f u p =
    Proposes u p.may p.next (ap (λ (z : End). z.dance.log) p.end) (ap (λ (z : End). z.ledger) p.end)

pub forgotten_is : (keys : Signer) (y : Command) (e : End) (turn : Turn) (j : ℕ) → y ≡ command.Forget j
    → obeyed keys y e ≡ Ok turn → turn.end ≡ record e { ledger = forgotten j e.ledger }
forgotten_is keys y e turn j is done =
    let row : Ok (quiet (record e { ledger = forgotten j e.ledger })) ≡ Ok turn =
    sym (ap (λ z. obeyed keys z e) is) ∙ done in
    let same_turn : quiet (record e { ledger = forgotten j e.ledger }) ≡ turn = cc in
    sym (ap (λ (z : Turn). z.end) same_turn)

pub noted : (y : Command) (e : End) (turn : Turn) → note_row y e ≡ Ok turn
    → (turn.end.dance.log ≡ e.dance.log) × (ledgered y e ≡ Ok turn.end.ledger)
noted y e turn done = cases (ledgered y e) refl done
  where
    cases : (row : Result Ledger Refusal) → ledgered y e ≡ row → with_ledger row e ≡ Ok turn
        → (turn.end.dance.log ≡ e.dance.log) × (ledgered y e ≡ Ok turn.end.ledger)
    cases (Ok l) is f =
        let same_turn : quiet (record e { ledger = l }) ≡ turn = cc in (
          ap (λ (z : Turn). z.end.dance.log) (sym same_turn),
          is ∙ ap (λ (z : Turn). Ok z.end.ledger) same_turn,
        )
    cases (Err r) is f = absurd (cc)

-- what isn't found isn't there
not_there : (ds : List LogDecision) (d : LogDecision) → IsIn d ds → (i : ℕ) → d.id ≡ i
    → find (λ z. z.id == i) ds ≡ None → ⊥
not_there [] d m i is none = absurd m
not_there (x ∷ ds) d (inl here) i is none =
    let hit : (x.id == i) ≡ true = eq-eqb x.id i (ap (λ (z : LogDecision). z.id) here ∙ is) in
    absurd (let no : Some x ≡ None = sym (ap (λ b. cond b (Some x) (find (λ z. z.id == i) ds)) hit) ∙ none in cc)
not_there (x ∷ ds) d (inr m) i is none = cases (x.id == i) none (λ f. not_there ds d m i is f)
  where
    cases : (b : Bool) → cond b (Some x) (find (λ z. z.id == i) ds) ≡ None → (find (λ z. z.id == i) ds ≡ None → ⊥) → ⊥
    cases true f rest = absurd (cc)
    cases false f rest = rest f

module _ (id_of : ℕ → List ℕ) (one : HasOwnIds id_of) where
  -- links of which each decision was there
  abbrev HasOldDecisions : Links → Links → Type 0
  HasOldDecisions l m = (c : ℕ) (Y : Side) → m.sides c ≡ Some Y → (d : LogDecision) → IsIn d Y.decisions
      → (X : Side) × (l.sides c ≡ Some X) × IsIn d X.decisions

  alike_by : (s t : Scene) → HasOldDecisions s.links t.links → HasOld s.book t.book → HoldAlike id_of s
      → HoldAlike id_of t
  alike_by s t links book = agrees_fewer id_of s t (record { links = links; book = book })

  decisions_same : (s t : Snapshot) → AreSame s t → HasOldDecisions (links_of s) (links_of t)
  decisions_same s t g c Y is d m = (Y, ap (option_map side_of) (sym (g.ends c)) ∙ is, m)

  decisions_lost : (lost : ℕ → Bool) (s t : Snapshot) → Loses lost s t → HasOldDecisions (links_of s) (links_of t)
  decisions_lost lost s t g c Y is d m = elim (either (lost c)) [
    | inr isnt ↦ (Y, ap (option_map side_of) (sym (g.others c isnt)) ∙ is, m)
    | inl gone ↦ cases (s.ends c) refl (ap (option_map side_of) (sym (g.theirs c gone)) ∙ is)
  ]
    where
      cases : (o : Option End) → s.ends c ≡ o → option_map side_of (option_map end_dropped o) ≡ Some Y
          → (X : Side) × (option_map side_of (s.ends c) ≡ Some X) × IsIn d X.decisions
      cases None was f = absurd (cc)
      cases (Some e) was f =
          let same : side_of (end_dropped e) ≡ Y = cc in
          (side_of e, ap (option_map side_of) was, subst (λ (z : Side). IsIn d z.decisions) (sym same) m)

  -- an end with the decisions that it had, or fewer
  decisions_mid : (c : ℕ) (e f : End) (s t : Snapshot) (g : Goes c (Some e) (based f) s t)
      → ((d : LogDecision) → IsIn d f.ledger.decisions → IsIn d e.ledger.decisions)
      → HasOldDecisions (links_of s) (mid id_of c e f s t g)
  decisions_mid c e f s t g old b Y is d m = elim (either (b == c)) [
    | inr isnt ↦ (Y, sym (ap (λ z. cond z (Some (side_of f)) ((links_of s).sides b)) isnt) ∙ is, m)
    | inl here ↦
        let some : Some (side_of f) ≡ Some Y =
        sym (ap (λ z. cond z (Some (side_of f)) ((links_of s).sides b)) here) ∙ is in
        let same : side_of f ≡ Y = cc in (
          side_of e,
          ap (λ n. (links_of s).sides n) (eqb-true b c here) ∙ ap (option_map side_of) g.before,
          old d (subst (λ (z : Side). IsIn d z.decisions) (sym same) m),
        )
  ]

  -- what is decided goes nowhere yet
  decided_offers : (xs ys : List Htlc) (x : Htlc) (P : Htlc → Type 0) → x.outgoing ≡ outgoing.Absent
      → ((y : Htlc) → IsIn y ys → (IsIn y xs × P y) ⊎ (decide x ≡ y)) → OldOffers id_of xs ys
  decided_offers xs ys x P absent books h b i y old = elim (books y old.there) [
    | inl before ↦
        (y, record { there = before.0; key = old.key; decided = old.decided; outgoing = old.outgoing })
    | inr new ↦ absurd (let no : ◌≡◌ {A = BookOutgoing} outgoing.Absent (outgoing.Offered (key_at id_of b i)) =
        sym absent ∙ ap (λ (z : Htlc). z.outgoing) new ∙ old.outgoing in cc)
  ]

  -- ---- an end goes on by a shift

  module _ (s t : Snapshot) (fit : AreFit id_of s) (k : IsKept id_of s) where
    module _ (c : ℕ) (e f : End) (g : Goes c (Some e) (based f) s t) (x : Shift e f) where
      -- nothing new goes out by a link that has halted
      abbrev OffersAwake : Type 0
      OffersAwake = (h : Incoming) (d i : ℕ) (y : Htlc) → t.halted d ≡ true → IsOffer id_of t.book h d i y
          → WasOffer id_of s.book h d i

      goes_on : HavePayments id_of (mid_scene id_of c e f s t g) → HoldAlike id_of (mid_scene id_of c e f s t g)
          → OffersAwake → IsKept id_of t
      goes_on payments alike offers =
          let le = first_kept e f (fit.fit c e g.before) x in
          record {
            tidy = each_goes IsTidy c (Some e) (based f) s t g
                (tidy_based_end f le (tidy_shift e f (fit.fit c e g.before) (k.tidy c e g.before) x)) k.tidy;
            paid = each_goes (λ z. ArePaid z.dance.log) c (Some e) (based f) s t g
                (paid_based f (paid_shift e f (fit.fit c e g.before).sound.within (k.paid c e g.before) x)) k.paid;
            payments = saved id_of c e f s t g le payments;
            alike = agrees_fewer id_of (mid_scene id_of c e f s t g) (scene_of t) (record {
              links = fewer_saved id_of c e f s t g;
              book = λ y m. (y, m, was_same y);
            }) alike;
            past = past_on id_of (scene_of s) (scene_of t) halted_stays offers k.past;
          }
        where
          halted_stays : (d : ℕ) → t.halted d ≡ true
              → (s.halted d ≡ true) × (option_map side_of (t.ends d) ≡ option_map side_of (s.ends d))
          halted_stays d halted =
              let was : s.halted d ≡ true = sym (g.halted d) ∙ halted in (
                was,
                elim (either (d == c)) [
                  | inr isnt ↦ ap (option_map side_of) (g.others d isnt)
                  | inl here ↦ absurd (let no : true ≡ false = sym was ∙ ap s.halted (eqb-true d c here)
                      ∙ g.awake in cc)
                ],
              )

      no_new : OldOffers id_of s.book t.book → OffersAwake
      no_new old h d i y halted = old h d i y

      -- whose decisions are those that were there
      alike_mid : f.ledger.decisions ≡ e.ledger.decisions → HasOld s.book t.book
          → HoldAlike id_of (mid_scene id_of c e f s t g)
      alike_mid is book = alike_by (scene_of s) (mid_scene id_of c e f s t g)
          (decisions_mid c e f s t g (λ d m. subst (IsIn d) is m)) book k.alike

      turns : IsPlain x → t.book ≡ s.book → IsKept id_of t
      turns plain book = goes_on
          (λ h. links_go id_of h (scene_of s) (mid_scene id_of c e f s t g) book (k.payments h)
          (plain_shift (origin id_of) h c e f (links_of s) (mid id_of c e f s t g) (to_mid id_of c e f s t g)
          (fit.fit c e g.before) x plain (k.payments h).0 (k.payments h).1.of_links))
          (alike_mid (plain_decisions e f x plain) (old_same s.book t.book book))
          (no_new (offers_same id_of s.book t.book book))

      -- ---- what a book asks is done

      offers : (x : Htlc) (a : IsAdd x e f) → IsIn x s.book → x.decided ≡ true → is_settled x.incoming ≡ false
          → has_nothing_offered x.outgoing ≡ true → forwards_in (id_of c) x.mark ≡ true
          → t.book ≡ with_outgoing x.key (outgoing.Offered (key_at id_of c (next_id e.dance.log.own))) s.book
          → IsKept id_of t
      offers x a m dec uns now fwd book =
          let same_results = ap (λ (z : End). z.ledger.results) a.proposed.end in
          let same_decisions = ap (λ (z : End). z.ledger.decisions) a.proposed.end in
          goes_on
          (offered id_of (scene_of s) (mid_scene id_of c e f s t g) c (side_of e) (side_of f) (to_mid id_of c e f s t g)
          (fit.fit c e g.before).sound x m dec uns now (id_of c) fwd a.add
          (ap (λ (z : End). z.dance.log) a.proposed.end)
          same_results same_decisions a.id a.origin
          (book ∙ ap (λ i. with_outgoing x.key (outgoing.Offered (key_at id_of c i)) s.book) (sym a.id)) k.payments)
          (alike_mid same_decisions (old_as s.book _ t.book book
          (old_changed (is_htlc x.key) (put_outgoing (outgoing.Offered (key_at id_of c (next_id e.dance.log.own))))
          (outgoing_still (outgoing.Offered (key_at id_of c (next_id e.dance.log.own)))) s.book)))
          awake_alone
        where
          now_out : BookOutgoing
          now_out = outgoing.Offered (key_at id_of c (next_id e.dance.log.own))

          awake_alone : OffersAwake
          awake_alone h d i y halted old = elim (among_changed (is_htlc x.key) (put_outgoing now_out) y s.book
              (subst (IsIn y) book old.there)) [
                | inl before ↦
                    (y, record { there = before; key = old.key; decided = old.decided; outgoing = old.outgoing })
                | inr new ↦
                    let same_out : ◌≡◌ {A = BookOutgoing} now_out (outgoing.Offered (key_at id_of d i)) =
                    ap (λ (z : Htlc). z.outgoing) new.3 ∙ old.outgoing in
                    let keys : key_at id_of c (next_id e.dance.log.own) ≡ key_at id_of d i = cc in
                    let at : c ≡ d = one c d (ap (λ (z : Key). z.channel) keys) in
                    absurd (let no : true ≡ false = sym halted ∙ g.halted d ∙ ap s.halted (sym at) ∙ g.awake in cc)
              ]

      removes : (v : Services) (x : Htlc) (y : Command) (u : IsRemoved x.key.id y e f) → IsIn x s.book
          → x.decided ≡ true → is_open x.incoming ≡ true → same (id_of c) x.key.channel ≡ true
          → removal_by v x x.mark ≡ Some y
          → t.book ≡ with_incoming x.key incoming.RemovalSent s.book → IsKept id_of t
      removes v x y u m dec unsent chan asked book =
          let same_results = ap (λ (z : End). z.ledger.results) u.proposed.end in
          let same_decisions = ap (λ (z : End). z.ledger.decisions) u.proposed.end in
          let r = u.removing in
          let live = live_so x.key.id y r e u.proposed.may in
          goes_on
          (removed id_of (scene_of s) (mid_scene id_of c e f s t g) c (side_of e) (side_of f) (to_mid id_of c e f s t g)
          (fit.fit c e g.before).sound v x m dec unsent chan y asked r.change
          (told_so x.key.id y r e.dance.log.own live) live (others_so x.key.id y r e.dance.log.own)
          (none_forwards x.key.id y r) (ap (λ (z : End). z.dance.log) u.proposed.end) same_results same_decisions
          one book k.payments)
          (alike_mid same_decisions (old_as s.book _ t.book book
          (old_changed (is_htlc x.key) (put_incoming incoming.RemovalSent) (back_still incoming.RemovalSent) s.book)))
          (no_new (offers_as id_of s.book _ t.book book
          (offers_changed id_of (is_htlc x.key) (put_incoming incoming.RemovalSent) (λ z j dec is. (refl, dec, is))
          s.book)))

      forgets : (v : Services) (x : Htlc) (h : Incoming) (y : Command) (j : ℕ) → IsIn x s.book → x.decided ≡ true
          → x.key ≡ key_of id_of h → is_settled x.incoming ≡ true → is_resolved_in (id_of c) x.outgoing ≡ true
          → forget_by x.outgoing ≡ Some y → y ≡ command.Forget j → f ≡ record e { ledger = forgotten j e.ledger }
          → t.book ≡ left_out (is_htlc x.key) s.book → IsKept id_of t
      forgets v x h y j m dec key settled over asked is now book =
          let same_decisions = ap (λ (z : End). z.ledger.decisions) now in
          goes_on
          (answers.forgotten id_of one (scene_of s) (mid_scene id_of c e f s t g) c (side_of e) (side_of f)
          (to_mid id_of c e f s t g) (ap (λ (z : End). z.dance.log) now) v x h y j m dec key settled over asked is
          (ap (λ (z : End). z.ledger.results) now) same_decisions book k.payments)
          (alike_mid same_decisions (old_as s.book _ t.book book (old_left (is_htlc x.key) s.book)))
          (no_new (offers_as id_of s.book _ t.book book (offers_left id_of (is_htlc x.key) s.book)))

      -- ---- what came in is decided

      -- the decision joins the book, or waits there, and then the book hears that it was taken, or doesn't yet
      abbrev DecidesBook : Decided → Offer → Type 0
      DecidesBook d o =
          (t.book ≡ changed_first (is_told (id_of c) d.event) decide (joined (htlc_of d o) s.book))
          ⊎ (IsIn (htlc_of d o) s.book
          × ((t.book ≡ changed_first (is_told (id_of c) d.event) decide s.book) ⊎ (t.book ≡ s.book)))

      decides : (d : Decided) (o : Offer) → IsOnFirst (id_of c) e s.book d o
          → Decides e.ledger f.ledger d.event d.mark (first_htlc e.dance.log e.ledger.undecided)
          → f.dance.log ≡ e.dance.log
          → DecidesBook d o → IsKept id_of t
      decides d o on n log entry = elim n.decisions [
        | inl nothing ↦ absurd (on.does_something nothing.0)
        | inr some ↦ with_decision some.0
            (let is : Some o.id ≡ Some some.0 = sym on.first ∙ some.1 in let same_id : o.id ≡ some.0 = cc in same_id)
            some.2
      ]
        where
          new_one : Htlc
          new_one = htlc_of d o

          one_decision : LogDecision
          one_decision = record { id = o.id; mark = d.mark }

          none : find (λ z. z.id == o.id) e.ledger.decisions ≡ None
          none = none_decided e.dance.log e.ledger (fit.fit c e g.before) (k.tidy c e g.before) o.id on.first

          base : is_gone o.id (take e.dance.log.first.own e.dance.log.own) ≡ false
          base = ap (λ z. not (is_live z))
              (none_in_base e.dance.log e.ledger (fit.fit c e g.before) (k.tidy c e g.before) o.id on.first)

          hit : is_told (id_of c) d.event new_one ≡ true
          hit = ap (λ b. b && same (id_of c) d.channel) (eq-eqb d.event d.event refl)
              ∙ is_same (id_of c) d.channel (sym on.channel_is)

          key : new_one.key ≡ key_at id_of c o.id
          key = ap (λ z. record { channel = z; id = o.id }) on.channel_is

          no_other : NonePasses (λ z. is_told (id_of c) d.event z && not (is_htlc (key_at id_of c o.id) z)) s.book
          no_other = subst (λ i. NonePasses (λ z. is_told (id_of c) d.event z && not (is_htlc i z)) s.book) key
              on.no_other

          with_decision : (id : ℕ) → o.id ≡ id
              → f.ledger.decisions ≡ e.ledger.decisions ++ record { id = id; mark = d.mark } ∷ [] → IsKept id_of t
          with_decision id same_id ds =
              let now : f.ledger.decisions ≡ e.ledger.decisions ++ one_decision ∷ [] =
              ds ∙ ap (λ i. e.ledger.decisions ++ record { id = i; mark = d.mark } ∷ []) (sym same_id) in
              let is_mark = has_mark d.mark on.does_something in
              elim entry [
                | inl book ↦
                    let now_book = decided_book id_of one (scene_of s) (mid_scene id_of c e f s t g) c (side_of e)
                    (side_of f) (to_mid id_of c e f s t g) log one_decision new_one (is_told (id_of c) d.event) none
                    base key hit no_other book k.payments in
                    goes_on
                    (answers.decided id_of one (scene_of s) (mid_scene id_of c e f s t g) c (side_of e) (side_of f)
                    (to_mid id_of c e f s t g) log one_decision is_mark.0 new_one (is_told (id_of c) d.event) n.results
                    now is_mark.1 none base key refl refl refl hit no_other book k.payments)
                    (agrees_decided id_of one (scene_of s) (mid_scene id_of c e f s t g) c (side_of e) one_decision
                    new_one (ap (option_map side_of) g.before) key refl fresh (old_or_new now) now_book k.alike)
                    (no_new (offers_as id_of s.book _ t.book now_book (offers_then id_of s.book
                    (left_out (is_htlc (key_at id_of c o.id)) s.book) _
                    (offers_left id_of (is_htlc (key_at id_of c o.id)) s.book)
                    (offers_last id_of (left_out (is_htlc (key_at id_of c o.id)) s.book) (decide new_one) refl))))
                | inr waits ↦
                    let alone = waited id_of one (scene_of s) (mid_scene id_of c e f s t g) c (side_of e) (side_of f)
                    (to_mid id_of c e f s t g) log one_decision new_one key refl waits.0 k.payments in
                    elim waits.1 [
                      | inr book ↦ goes_on
                          (answers.taken_unheard id_of one (scene_of s) (mid_scene id_of c e f s t g) c (side_of e)
                          (side_of f) (to_mid id_of c e f s t g) log one_decision is_mark.0 new_one n.results now
                          is_mark.1 none base key book k.payments)
                          (agrees_taken id_of one (scene_of s) (mid_scene id_of c e f s t g) c (side_of e)
                          one_decision new_one (ap (option_map side_of) g.before) key refl fresh (old_or_new now)
                          (λ y m. let before : IsIn y s.book = subst (IsIn y) book m in inl (
                            before,
                            waiting_undecided id_of one s.book h0 new_one alone refl y before,
                          )) k.alike)
                          (no_new (offers_same id_of s.book t.book book))
                      | inl book ↦
                          let books = decided_or_old id_of one s.book t.book h0 new_one (is_told (id_of c) d.event)
                          key no_other book refl alone in
                          goes_on
                          (answers.decided_waiting id_of one (scene_of s) (mid_scene id_of c e f s t g) c (side_of e)
                          (side_of f) (to_mid id_of c e f s t g) log one_decision is_mark.0 new_one
                          (is_told (id_of c) d.event) n.results now is_mark.1 none base key refl refl refl refl hit
                          no_other waits.0 book k.payments)
                          (agrees_taken id_of one (scene_of s) (mid_scene id_of c e f s t g) c (side_of e)
                          one_decision new_one (ap (option_map side_of) g.before) key refl fresh (old_or_new now) books
                          k.alike)
                          (no_new (decided_offers s.book t.book new_one
                          (λ z. z.key ≡ key_of id_of h0 → z.decided ≡ true → ⊥) refl books))
                    ]
              ]
            where
              h0 : Incoming
              h0 = record { channel = c; id = o.id }

              fresh : (z : LogDecision) → IsIn z e.ledger.decisions → z.id ≡ o.id → ⊥
              fresh z m is = not_there e.ledger.decisions z m o.id is none

              old_or_new : f.ledger.decisions ≡ e.ledger.decisions ++ one_decision ∷ [] → (b : ℕ) (Y : Side)
                  → (mid id_of c e f s t g).sides b ≡ Some Y → (z : LogDecision) → IsIn z Y.decisions
                  → ((b ≡ c) × (one_decision ≡ z))
                  ⊎ ((Z : Side) × ((links_of s).sides b ≡ Some Z) × IsIn z Z.decisions)
              old_or_new now b Y is z m = elim (either (b == c)) [
                | inr isnt ↦ inr (Y, sym (ap (λ q. cond q (Some (side_of f)) ((links_of s).sides b)) isnt) ∙ is, m)
                | inl here ↦
                    let some : Some (side_of f) ≡ Some Y =
                    sym (ap (λ q. cond q (Some (side_of f)) ((links_of s).sides b)) here) ∙ is in
                    let same_side : side_of f ≡ Y = cc in
                    elim (among_last z one_decision e.ledger.decisions
                    (subst (IsIn z) now (subst (λ (q : Side). IsIn z q.decisions) (sym same_side) m))) [
                      | inl old ↦ inr (
                        side_of e,
                        ap (λ n. (links_of s).sides n) (eqb-true b c here) ∙ ap (option_map side_of) g.before,
                        old,
                      )
                      | inr new ↦ inl (eqb-true b c here, new)
                    ]
              ]

      -- ---- an event is decided about which nothing is done

      decides_nothing : (event : ℕ)
          → Decides e.ledger f.ledger event mark.None (first_htlc e.dance.log e.ledger.undecided)
          → f.dance.log ≡ e.dance.log → t.book ≡ s.book → IsKept id_of t
      decides_nothing event d log book =
          let decisions : f.ledger.decisions ≡ e.ledger.decisions = elim d.decisions [
            | inl none ↦ none.1
            | inr some ↦ absurd (some.3 refl)
          ] in
          goes_on
          (λ h. links_go id_of h (scene_of s) (mid_scene id_of c e f s t g) book (k.payments h)
          (stay (origin id_of) h (links_of s) (mid id_of c e f s t g) (k.payments h).0
          (nothing (origin id_of) h c (side_of e) (side_of f) (links_of s) (mid id_of c e f s t g)
          (to_mid id_of c e f s t g) log d.results decisions (k.payments h).0 (k.payments h).1.of_links)))
          (alike_mid decisions (old_same s.book t.book book))
          (no_new (offers_same id_of s.book t.book book))

      -- ---- what is held is decided

      resumes : (event : ℕ) (m : LogMark) → Resumes e.ledger f.ledger event m → f.dance.log ≡ e.dance.log
          → t.book ≡ with_mark (id_of c) event m s.book → IsKept id_of t
      resumes event m r log book =
          let d = some_held event e.ledger.decisions r.there in
          let tidy = k.tidy c e g.before in
          let apart : (y z : LogDecision) → IsIn y e.ledger.decisions → IsIn z e.ledger.decisions
          → is_held_at event y ≡ true → is_held_at event z ≡ true → y.id ≡ z.id = tidy.waits.one event in
          let found = found_of 0 e.ledger.decisions (waiting_ids e.dance.log.received e.ledger.undecided)
          (next_id (take e.dance.log.acknowledged.peer e.dance.log.received)) d.0 tidy.ids d.1 in
          let results = ap (λ (z : Ledger). z.results) r.is in
          let decisions = ap (λ (z : Ledger). z.decisions) r.is in
          goes_on
          (resumed id_of one (scene_of s) (mid_scene id_of c e f s t g) c (side_of e) (side_of f)
          (to_mid id_of c e f s t g)
          log results event m r.answers decisions apart d.0 d.1 d.2 found k.alike book k.payments)
          (agrees_resumed id_of one (scene_of s) (mid_scene id_of c e f s t g) c (side_of e) (side_of f)
          (to_mid id_of c e f s t g) log results event m r.answers decisions apart d.0 d.1 d.2 found k.alike book
          k.payments)
          (no_new (offers_as id_of s.book _ t.book book (offers_then id_of s.book
          (changed_first (is_held_in (id_of c) event) (put_mark m) s.book) _
          (offers_changed id_of (is_held_in (id_of c) event) (put_mark m) (λ z j dec is. (refl, dec, is)) s.book)
          (offers_left id_of is_over (changed_first (is_held_in (id_of c) event) (put_mark m) s.book)))))

    -- ---- channels lose what no signature covers

    lost_tidy : (lost : ℕ → Bool) → Loses lost s t → EachEnd IsTidy t
    lost_tidy lost g = each_loses IsTidy lost s t g
        (λ c e is. tidy_dropped e.dance.log e.ledger (fit.fit c e is) (k.tidy c e is)) k.tidy

    lost_paid : (lost : ℕ → Bool) → Loses lost s t → EachEnd (λ e. ArePaid e.dance.log) t
    lost_paid lost g = each_loses (λ e. ArePaid e.dance.log) lost s t g
        (λ c e is. paid_dropped e.dance.log (fit.fit c e is).sound.within (k.paid c e is)) k.paid

    -- ---- nothing changes in its channels

    stays : AreSame s t → HavePayments id_of (record { links = links_of s; book = t.book })
        → HoldAlike id_of (record { links = links_of s; book = t.book }) → OldOffers id_of s.book t.book
        → IsKept id_of t
    stays g payments alike offers = record {
      tidy = each_same IsTidy s t g k.tidy;
      paid = each_same (λ e. ArePaid e.dance.log) s t g k.paid;
      payments = payments_alike id_of (record { links = links_of s; book = t.book }) (scene_of t)
          (same_links s t g) refl
          payments;
      alike = alike_by (record { links = links_of s; book = t.book }) (scene_of t) (decisions_same s t g)
          (old_same t.book t.book refl) alike;
      past = past_on id_of (scene_of s) (scene_of t)
          (λ c halted. (sym (g.halted c) ∙ halted, ap (option_map side_of) (g.ends c)))
          (λ h c i y halted. offers h c i y) k.past;
    }

    same_alike : HasOld s.book t.book → HoldAlike id_of (record { links = links_of s; book = t.book })
    same_alike book = alike_by (scene_of s) (record { links = links_of s; book = t.book })
        (λ c Y is d m. (Y, is, m)) book
        k.alike

    hears_removed : (c i : ℕ) (e : End) → s.ends c ≡ Some e → is_gone i
        (take e.dance.log.current.own e.dance.log.own) ≡ true
        → AreSame s t
        → t.book ≡ left_out (is_finished (key_at id_of c i)) (with_incoming (key_at id_of c i) incoming.Settled s.book)
        → IsKept id_of t
    hears_removed c i e is gone g book = stays g
        (λ h. subst (λ xs. scenes.HasPayment id_of h (record { links = links_of s; book = xs })) (sym book)
        (settles id_of h (links_of s) (key_at id_of c i ∷ []) s.book (held h, tt) (k.payments h)))
        (same_alike (old_as s.book _ t.book book (old_then s.book (with_incoming
        (key_at id_of c i) incoming.Settled s.book) _
        (old_changed (is_htlc (key_at id_of c i)) (put_incoming incoming.Settled) (back_still incoming.Settled) s.book)
        (old_left (is_finished (key_at id_of c i)) (with_incoming (key_at id_of c i) incoming.Settled s.book)))))
        (offers_as id_of s.book _ t.book book (offers_then id_of s.book
        (with_incoming (key_at id_of c i) incoming.Settled s.book) _
        (offers_changed id_of (is_htlc (key_at id_of c i)) (put_incoming incoming.Settled)
        (λ z j dec at. (refl, dec, at)) s.book)
        (offers_left id_of (is_finished (key_at id_of c i))
        (with_incoming (key_at id_of c i) incoming.Settled s.book))))
      where
        held : (h : Incoming) → key_at id_of c i ≡ key_of id_of h
            → IsHeld (removal_at h.id ((links_of s).sides h.channel))
        held h keys =
            let chan : c ≡ h.channel = one c h.channel (ap (λ (z : Key). z.channel) keys) in
            let id : i ≡ h.id = ap (λ (z : Key). z.id) keys in
            subst (λ n. IsHeld (removal_at h.id ((links_of s).sides n))) chan
            (subst (λ j. IsHeld (removal_at j ((links_of s).sides c))) id
            (subst (λ z. IsHeld (removal_at i (option_map side_of z))) (sym is) (removal_is_held e.dance.log i gone)))

    hears_over : (c i : ℕ) (e : End) (w : How) → s.ends c ≡ Some e → s.halted c ≡ false
        → outcome i (take e.dance.log.acknowledged.peer e.dance.log.received) ≡ outcome_of w → AreSame s t
        → t.book ≡ changed_first (is_offered (key_at id_of c i)) (put_outgoing (outgoing.Resolved
        (key_at id_of c i) w)) s.book
        → IsKept id_of t
    hears_over c i e w is awake fate g book = stays g
        (λ h. subst (λ xs. scenes.HasPayment id_of h (record { links = links_of s; book = xs })) (sym book)
        (tells id_of one h (links_of s) c ((i, w) ∷ []) s.book awake (ended (origin id_of h), tt) (k.payments h)))
        (same_alike (old_as s.book _ t.book book (old_changed (is_offered (key_at id_of c i))
        (put_outgoing (outgoing.Resolved (key_at id_of c i) w)) (outgoing_still (outgoing.Resolved
        (key_at id_of c i) w)) s.book)))
        (offers_as id_of s.book _ t.book book (offers_changed id_of (is_offered (key_at id_of c i))
        (put_outgoing (outgoing.Resolved (key_at id_of c i) w)) (λ z j dec at. absurd
        (let no : ◌≡◌ {A = BookOutgoing} (outgoing.Resolved (key_at id_of c i) w) (outgoing.Offered j) = at in cc))
        s.book))
      where
        l : Log
        l = e.dance.log

        ends : (h : How) (r : Bool) → IsEnd (kind_of h) (ended_by (outcome_of h) r)
        ends (how.Fulfilled preimage) r = refl
        ends (how.Failed reason) r = refl
        ends (how.Malformed sha code) r = refl

        no_life : (h : How) → outcome_of h ≡ Live → ⊥
        no_life (how.Fulfilled preimage) f = absurd (cc)
        no_life (how.Failed reason) f = absurd (cc)
        no_life (how.Malformed sha code) f = absurd (cc)

        covered_so : (b : Bool) → is_some (add_with i (take l.signed.own l.own)) ≡ b
            → is_some (add_with i (take l.signed.own l.own)) ≡ true
        covered_so true f = f
        covered_so false f = absurd (no_life w (sym fate
            ∙ uncovered_live_htlcs l (fit.fit c e is).sound i l.acknowledged.peer f))

        ended : (o : List ℕ × ℕ) → HasAddAt o i ((links_of s).sides c)
            → IsEnd (kind_of w) (course_at i ((links_of s).sides c))
        ended o has = subst (λ z. IsEnd (kind_of w) (course_at i (option_map side_of z))) (sym is)
            (subst (λ b. IsEnd (kind_of w) (course_by b (ended_by (outcome i (take l.acknowledged.peer l.received))
            (has_result i e.ledger.results)))) (sym (covered_so (is_some (add_with i (take l.signed.own l.own))) refl))
            (subst (λ z. IsEnd (kind_of w) (ended_by z (has_result i e.ledger.results))) (sym fate)
            (ends w (has_result i e.ledger.results))))

    -- ---- it is refused

    module _ (g : AreSame s t) (x : Htlc) (m : IsIn x s.book) (dec : x.decided ≡ true) where
      abbrev after : Scene
      after = record { links = links_of s; book = t.book }

      refuses_add : (c : ℕ) (number : ℕ) → is_settled x.incoming ≡ false → has_nothing_offered x.outgoing ≡ true
          → forwards_in (id_of c) x.mark ≡ true → t.book ≡ refused_by (id_of c) number (out.Adding x.key) s.book
          → IsKept id_of t
      refuses_add c number uns now fwd book = cases (nat_lt number 47) book
        where
          cases : (b : Bool) → t.book ≡ cond b (with_outgoing x.key outgoing.Refused s.book) (left_out
              (is_htlc x.key) s.book)
              → IsKept id_of t
          cases true is = stays g
              (add_refused id_of one (scene_of s) after refl x m dec uns now (id_of c) fwd is k.payments)
              (same_alike (old_as s.book _ t.book is
              (old_changed (is_htlc x.key) (put_outgoing outgoing.Refused) (outgoing_still outgoing.Refused) s.book)))
              (offers_as id_of s.book _ t.book is (offers_changed id_of (is_htlc x.key) (put_outgoing outgoing.Refused)
              (λ z j dec at. absurd (let no : ◌≡◌ {A = BookOutgoing} outgoing.Refused (outgoing.Offered j) = at in cc))
              s.book))
          cases false is = stays g
              (add_left id_of one (scene_of s) after refl x m dec uns now (id_of c) fwd is k.payments)
              (same_alike (old_as s.book _ t.book is (old_left (is_htlc x.key) s.book)))
              (offers_as id_of s.book _ t.book is (offers_left id_of (is_htlc x.key) s.book))

      refuses_removal : (v : Services) (y : Command) → is_open x.incoming ≡ true → removal_by v x x.mark ≡ Some y
          → t.book ≡ with_incoming x.key incoming.RemovalRefused s.book → IsKept id_of t
      refuses_removal v y unsent asked book = stays g
          (removal_refused id_of one (scene_of s) after refl x m dec v y unsent asked book k.payments)
          (same_alike (old_as s.book _ t.book book
          (old_changed (is_htlc x.key) (put_incoming incoming.RemovalRefused)
          (back_still incoming.RemovalRefused) s.book)))
          (offers_as id_of s.book _ t.book book (offers_changed id_of (is_htlc x.key)
          (put_incoming incoming.RemovalRefused) (λ z j d at. (refl, d, at)) s.book))

      refuses_forget : is_settled x.incoming ≡ true → t.book ≡ left_out (is_htlc x.key) s.book → IsKept id_of t
      refuses_forget settled book = stays g
          (forget_refused id_of one (scene_of s) after refl x m dec settled book k.payments)
          (same_alike (old_as s.book _ t.book book (old_left (is_htlc x.key) s.book)))
          (offers_as id_of s.book _ t.book book (offers_left id_of (is_htlc x.key) s.book))

    -- ---- a decision that isn't taken

    module _ (c : ℕ) (e : End) (is : s.ends c ≡ Some e) (d : Decided) (o : Offer)
        (on : IsOnFirst (id_of c) e s.book d o)
      where
        key : (htlc_of d o).key ≡ key_at id_of c o.id
        key = ap (λ z. record { channel = z; id = o.id }) on.channel_is

        undecided : decision_at o.id ((links_of s).sides c) ≡ Undecided
        undecided = ap (λ z. decision_at o.id (option_map side_of z)) is
            ∙ ap (λ z. decision_by z (is_gone o.id (take e.dance.log.first.own e.dance.log.own)))
            (none_decided e.dance.log e.ledger (fit.fit c e is) (k.tidy c e is) o.id on.first)
            ∙ ap (λ z. decision_by None (not (is_live z)))
            (none_in_base e.dance.log e.ledger (fit.fit c e is) (k.tidy c e is) o.id on.first)

        -- it joins the book, undecided
        old_joined : (y : Htlc) → IsIn y (joined (htlc_of d o) s.book) → IsIn y s.book ⊎ (htlc_of d o ≡ y)
        old_joined y m = cases (list_any (is_decided (htlc_of d o).key) s.book) m
          where
            cases : (b : Bool) → IsIn y (cond b s.book (left_out
                (is_htlc (htlc_of d o).key) s.book ++ htlc_of d o ∷ []))
                → IsIn y s.book ⊎ (htlc_of d o ≡ y)
            cases true m = inl m
            cases false m = elim (among_last y (htlc_of d o) (left_out (is_htlc (htlc_of d o).key) s.book) m) [
              | inl old ↦ inl (of_picked (λ z. not (is_htlc (htlc_of d o).key z)) y s.book old)
              | inr new ↦ inr new
            ]

        joined_alike : (r : Scene) → HasOldDecisions (links_of s) r.links
            → ((y : Htlc) → IsIn y r.book → IsIn y (joined (htlc_of d o) s.book)) → HoldAlike id_of r
        joined_alike r links book b Y at z m y in_book y_key dec n held =
            let l = links b Y at z m in
            elim (old_joined y (book y in_book)) [
              | inl old ↦ k.alike b l.0 l.1 z l.2 y old y_key dec n held
              | inr new ↦ absurd (let no : true ≡ false = sym dec ∙ ap (λ (q : Htlc). q.decided) (sym new) in cc)
            ]

        refuses_decision : (number : ℕ) → AreSame s t
            → t.book ≡ left_out (is_undecided (id_of c) d.event) (joined (htlc_of d o) s.book) → IsKept id_of t
        refuses_decision number g book = stays g
            (decision_refused id_of one (scene_of s) (record { links = links_of s; book = t.book }) refl c o.id
            (htlc_of d o) key undecided (is_undecided (id_of c) d.event) hit (fewer_pass s.book no_other) book
            k.payments)
            (joined_alike (record { links = links_of s; book = t.book }) (λ b Y at z m. (Y, at, m))
            (λ y m. of_picked (λ z. not (is_undecided (id_of c) d.event z)) y (joined (htlc_of d o) s.book)
            (subst (IsIn y) book m)))
            (offers_as id_of s.book _ t.book book (offers_then id_of s.book (joined (htlc_of d o) s.book) _
            (offers_joined id_of (htlc_of d o) s.book refl)
            (offers_left id_of (is_undecided (id_of c) d.event) (joined (htlc_of d o) s.book))))
          where
            hit : is_undecided (id_of c) d.event (htlc_of d o) ≡ true
            hit = ap (λ b. (b && same (id_of c) d.channel) && true) (eq-eqb d.event d.event refl)
                ∙ ap (λ b. b && true) (is_same (id_of c) d.channel (sym on.channel_is))

            theirs : Htlc → Bool
            theirs z = not (is_htlc (key_at id_of c o.id) z)

            no_other : NonePasses (λ z. is_told (id_of c) d.event z && theirs z) s.book
            no_other = subst (λ i. NonePasses (λ z. is_told (id_of c) d.event z && not (is_htlc i z)) s.book) key
                on.no_other

            less : (a b r : Bool) → (a && r) ≡ false → ((a && b) && r) ≡ false
            less true true r e = e
            less true false r e = refl
            less false b r e = refl

            fewer_pass : (xs : List Htlc) → NonePasses (λ z. is_told (id_of c) d.event z && theirs z) xs
                → NonePasses (λ z. is_undecided (id_of c) d.event z && theirs z) xs
            fewer_pass [] n = tt
            fewer_pass (x ∷ xs) n =
                (less (is_told (id_of c) d.event x) (not x.decided) (theirs x) n.0, fewer_pass xs n.1)

        enters_decision : AreSame s t → t.book ≡ joined (htlc_of d o) s.book → IsKept id_of t
        enters_decision g book = stays g
            (λ h. let p = k.payments h in by_moves id_of h (record { links = links_of s; book = t.book }) p.0
            (p.1.kept, p.1.holds) [] tt p.1.of_links
            (subst (λ xs. HasEntry id_of h xs p.0.note) (sym book)
            (enters_undecided id_of one (scene_of s) c o.id (htlc_of d o) key refl undecided k.payments h)))
            (joined_alike (record { links = links_of s; book = t.book }) (λ b Y at z m. (Y, at, m))
            (λ y. subst (IsIn y) book))
            (offers_as id_of s.book _ t.book book (offers_joined id_of (htlc_of d o) s.book refl))

        halts_deciding : Loses (is_of c) s t → ((b : ℕ) → t.halted b ≡ ((b == c) || s.halted b))
            → t.book ≡ joined (htlc_of d o) s.book → IsKept id_of t
        halts_deciding g now book = record {
          tidy = lost_tidy (is_of c) g;
          paid = lost_paid (is_of c) g;
          payments = halts_undecided id_of one (scene_of s) (scene_of t) c (drops (is_of c) s t fit.fit g) now o.id
              (htlc_of d o) key refl undecided book k.payments;
          alike = joined_alike (scene_of t) (decisions_lost (is_of c) s t g) (λ y. subst (IsIn y) book);
          past = past_halts id_of one (scene_of s) (scene_of t) c (drops (is_of c) s t fit.fit g) now
              (offers_as id_of s.book _ t.book book (offers_joined id_of (htlc_of d o) s.book refl)) k.payments k.past;
        }

    -- ---- a decision that was taken is heard of

    hears_decision : (c : ℕ) (e : End) → s.ends c ≡ Some e → (d : Decided) (o : Offer)
        → IsUnheard (id_of c) e s.book d o → AreSame s t
        → t.book ≡ changed_first (is_told (id_of c) d.event) decide s.book → IsKept id_of t
    hears_decision c e is d o u g book = stays g
        (heard id_of one (scene_of s) after refl c o.id new_one m.0 (is_told (id_of c) d.event) key m.1 refl refl refl
        decided_now (ap (λ q. removal_at o.id (option_map side_of q)) is ∙ no_removal e.dance.log o.id u.not_removed)
        hit no_other u.waits book k.payments)
        alike
        (decided_offers s.book t.book new_one (λ z. z.key ≡ key_of id_of h0 → z.decided ≡ true → ⊥) refl books)
      where
        new_one : Htlc
        new_one = htlc_of d o

        h0 : Incoming
        h0 = record { channel = c; id = o.id }

        after : Scene
        after = record { links = links_of s; book = t.book }

        m : (n : PaymentMark) × (mark_as d.mark ≡ Some n)
        m = has_mark d.mark u.does_something

        key : new_one.key ≡ key_at id_of c o.id
        key = ap (λ z. record { channel = z; id = o.id }) u.channel_is

        hit : is_told (id_of c) d.event new_one ≡ true
        hit = ap (λ b. b && same (id_of c) d.channel) (eq-eqb d.event d.event refl)
            ∙ is_same (id_of c) d.channel (sym u.channel_is)

        no_other : NonePasses (λ z. is_told (id_of c) d.event z && not (is_htlc (key_at id_of c o.id) z)) s.book
        no_other = subst (λ i. NonePasses (λ z. is_told (id_of c) d.event z && not (is_htlc i z)) s.book) key u.no_other

        decided_now : decision_at o.id ((links_of s).sides c) ≡ DecidedSo m.0
        decided_now = ap (λ q. decision_at o.id (option_map side_of q)) is
            ∙ ap (λ q. decision_by q (is_gone o.id (take e.dance.log.first.own e.dance.log.own))) u.decided
            ∙ ap decided_as m.1

        books : (y : Htlc) → IsIn y t.book
            → (IsIn y s.book × (y.key ≡ key_of id_of h0 → y.decided ≡ true → ⊥)) ⊎ (decide new_one ≡ y)
        books = decided_or_old id_of one s.book t.book h0 new_one (is_told (id_of c) d.event) key no_other book refl
            (waiting_entry id_of one s.book h0 new_one (k.payments h0).0.note u.waits refl key (k.payments h0).1.note).1

        alike : HoldAlike id_of after
        alike b Y at z z_in y y_in y_key dec n held = elim (books y y_in) [
          | inl old ↦ k.alike b Y at z z_in y old.0 y_key dec n held
          | inr new ↦
              let keys : key_at id_of c o.id ≡ key_at id_of b z.id = sym key ∙ ap (λ (q : Htlc). q.key) new ∙ y_key in
              let chan : c ≡ b = one c b (ap (λ (q : Key). q.channel) keys) in
              let some : Some (side_of e) ≡ Some Y =
              sym (ap (option_map side_of) is) ∙ ap (λ i. (links_of s).sides i) chan ∙ at in
              let same_side : side_of e ≡ Y = cc in
              let mine : IsIn z e.ledger.decisions = subst (λ (q : Side). IsIn z q.decisions) (sym same_side) z_in in
              let found : find (λ q. q.id == z.id) e.ledger.decisions ≡ Some z =
              found_of 0 e.ledger.decisions (waiting_ids e.dance.log.received e.ledger.undecided)
              (next_id (take e.dance.log.acknowledged.peer e.dance.log.received)) z (k.tidy c e is).ids mine in
              let both : ◌≡◌ {A = Option LogDecision} (Some (record { id = o.id; mark = d.mark })) (Some z) =
              sym u.decided ∙ ap (λ i. find (λ q. q.id == i) e.ledger.decisions) (ap (λ (q : Key). q.id) keys)
              ∙ found in
              let same_decision : ◌≡◌ {A = LogDecision} (record { id = o.id; mark = d.mark }) z = cc in
              ap (λ (q : LogDecision). is_held_by n q.mark) (sym same_decision)
              ∙ ap (λ (q : Htlc). is_held_by n q.mark) new ∙ held
        ]

    -- ---- links halt, disconnect, and come back

    halts_at : (c : ℕ) → Loses (is_of c) s t → ((d : ℕ) → t.halted d ≡ ((d == c) || s.halted d)) → t.book ≡ s.book
        → IsKept id_of t
    halts_at c g now book = record {
      tidy = lost_tidy (is_of c) g;
      paid = lost_paid (is_of c) g;
      payments = halts id_of one (scene_of s) (scene_of t) c (drops (is_of c) s t fit.fit g) now book k.payments;
      alike = alike_by (scene_of s) (scene_of t) (decisions_lost (is_of c) s t g) (old_same s.book t.book book) k.alike;
      past = past_halts id_of one (scene_of s) (scene_of t) c (drops (is_of c) s t fit.fit g) now
          (offers_same id_of s.book t.book book) k.payments k.past;
    }

    -- a link works still, or again, without its connection
    comes_back_at : AreFit id_of t → (c : ℕ) (e : End) (told : KeptState) → s.ends c ≡ Some e
        → Tells (id_of c) (end_dropped e) s.book told → Loses (is_of c) s t
        → ((d : ℕ) → t.halted d ≡ (not (d == c) && s.halted d)) → t.book ≡ map (htlc_kept (id_of c) told) s.book
        → ((h : Incoming) (p : scenes.HasPayment id_of h (scene_of s)) (n : Note) (i : ℕ) → p.0.note ≡ Some n
        → n.outgoing ≡ Offered c i → nat_le told.next i ≡ false → Among (IsAt c i) p.0.outs) → IsKept id_of t
    comes_back_at fit_now c e told is tells g now book there = record {
      tidy = lost_tidy (is_of c) g;
      paid = lost_paid (is_of c) g;
      payments = comes_back id_of one (scene_of s) (scene_of t) c told (drops (is_of c) s t fit.fit g) now book
          (λ i lt. ap (λ o. is_uncovered (course_at i (option_map side_of o))) is
          ∙ covered e (fit.fit c e is) i (sym (ap (λ n. nat_le n i) tells.next) ∙ lt))
          (λ o i le a. gone e (fit.fit c e is) o i (sym (ap (λ n. nat_le n i) tells.next) ∙ le)
          (subst (λ z. HasAddAt o i (option_map side_of z)) ends_now a))
          (λ z i m key none. ap (λ o. removal_at i (option_map side_of o)) ends_now
          ∙ none_removed (end_dropped e) (fit_now.fit c (end_dropped e) ends_now) i
          (sym (ap (λ (j : Key). has_own_removal j.id (end_dropped e).dance.log) key)
          ∙ none_kept (λ j. has_own_removal j (end_dropped e).dance.log) (id_of c) s.book z m
          (is_same (id_of c) z.key.channel (sym (ap (λ (j : Key). j.channel) key)))
          (sym (ap (is_among z.key.id) tells.removes) ∙ ap (λ (j : Key). is_among j.id told.removes) key ∙ none)))
          there k.payments;
      alike = alike_by (scene_of s) (scene_of t) (decisions_lost (is_of c) s t g)
          (old_as s.book _ t.book book (old_map (htlc_kept (id_of c) told) kept_still s.book)) k.alike;
      past = past_on id_of (scene_of s) (scene_of t) halted_stays
          (λ h d i y halted. offers_as id_of s.book _ t.book book
          (offers_map id_of (htlc_kept (id_of c) told) nothing_new s.book) h d i y) k.past;
    }
      where
        ends_now : t.ends c ≡ Some (end_dropped e)
        ends_now = g.theirs c (eq-eqb c c refl) ∙ ap (option_map end_dropped) is

        kept_still : (x : Htlc) → IsStill (htlc_kept (id_of c) told x) x
        kept_still x = record { key = refl; mark = refl; decided = λ d. d }

        nothing_new : OffersNothing id_of (htlc_kept (id_of c) told)
        nothing_new x j dec = cases (is_outgoing_lost (id_of c) told.next x.outgoing)
          where
            cases : (b : Bool) → cond b outgoing.Absent x.outgoing ≡ outgoing.Offered j
                → (x.key ≡ x.key) × (x.decided ≡ true) × (x.outgoing ≡ outgoing.Offered j)
            cases true f = absurd (cc)
            cases false f = (refl, dec, f)

        halted_stays : (d : ℕ) → t.halted d ≡ true
            → (s.halted d ≡ true) × (option_map side_of (t.ends d) ≡ option_map side_of (s.ends d))
        halted_stays d halted = elim (either (d == c)) [
          | inl here ↦ absurd (let no : true ≡ false = sym halted ∙ now d ∙ ap (λ b. not b && s.halted d) here in cc)
          | inr isnt ↦ (
            sym (ap (λ b. not b && s.halted d) isnt) ∙ sym (now d) ∙ halted,
            ap (option_map side_of) (g.others d isnt),
          )
        ]

    disconnects_at : AreFit id_of t → (c : ℕ) (e : End) (told : KeptState) → s.ends c ≡ Some e → s.halted c ≡ false
        → Tells (id_of c) (end_dropped e) s.book told → Loses (is_of c) s t → ((d : ℕ) → t.halted d ≡ s.halted d)
        → t.book ≡ map (htlc_kept (id_of c) told) s.book → IsKept id_of t
    disconnects_at fit_now c e told is awake tells g same_halted book =
        comes_back_at fit_now c e told is tells g (works_still id_of c (scene_of s) (scene_of t) awake same_halted) book
        (λ h p n i note to near. awake_there id_of c (scene_of s) awake h p n i note to)

    reloads_at : AreFit id_of t → (c : ℕ) (e : End) (told : KeptState) → s.ends c ≡ Some e → s.halted c ≡ true
        → Tells (id_of c) (end_dropped e) s.book told → Loses (is_of c) s t
        → ((d : ℕ) → t.halted d ≡ (not (d == c) && s.halted d)) → t.book ≡ map (htlc_kept (id_of c) told) s.book
        → IsKept id_of t
    reloads_at fit_now c e told is halted tells g now book =
        comes_back_at fit_now c e told is tells g now book
        (past_there id_of one (scene_of s) c told.next (side_of e) (ap (option_map side_of) is) halted
        (subst (λ n. n ≤ next_id e.dance.log.own) (sym tells.next) (next-front e.dance.log.signed.own e.dance.log.own))
        k.past)

    restarts_all : AreFit id_of t → (es : List (ℕ × End)) → Loses everywhere s t → ((d : ℕ) → t.halted d ≡ false)
        → AreEnds t es → t.book ≡ rebuilt_htlcs (snapshots es) → IsKept id_of t
    restarts_all fit_now es g none ends book = record {
      tidy = tidy_now;
      paid = lost_paid everywhere g;
      payments = restart id_of one (scene_of s) (scene_of t) es
          (drops everywhere s t fit.fit g) none incoming book k.payments;
      alike = agrees_rebuilt id_of one (scene_of t) es incoming book;
      past = λ h c i x o halted. absurd (let no : true ≡ false = sym halted ∙ none c in cc);
    }
      where
        tidy_now : EachEnd IsTidy t
        tidy_now = lost_tidy everywhere g

        -- what comes back is signed
        signed : (c : ℕ) (e : End) → t.ends c ≡ Some e → take e.dance.log.signed.own e.dance.log.own ≡ e.dance.log.own
        signed c e is = cases (s.ends c) (sym (g.theirs c refl) ∙ is)
          where
            cases : (o : Option End) → option_map end_dropped o ≡ Some e
                → take e.dance.log.signed.own e.dance.log.own ≡ e.dance.log.own
            cases None f = absurd (cc)
            cases (Some x) f =
                let same_end : end_dropped x ≡ e = cc in
                let n = x.dance.log.signed.own in
                subst (λ (z : End). take z.dance.log.signed.own z.dance.log.own ≡ z.dance.log.own) same_end
                (take-take n n x.dance.log.own (omega arith))

        each_back : (xs : List (ℕ × End)) → ((x : ℕ × End) → IsIn x xs → IsIn x es)
            → All (IsIncoming id_of (links_of t)) xs
        each_back [] there = tt
        each_back (x ∷ xs) there =
            let is = ends.there x (there x (inl refl)) in (
              record {
                side = ap (option_map side_of) is;
                channel = fit_now.channel x.0 x.1 is;
                tidy = tidy_now x.0 x.1 is;
                fit = fit_now.fit x.0 x.1 is;
                all_signed = signed x.0 x.1 is;
              },
              each_back xs (λ y m. there y (inr m)),
            )

        every : (c : ℕ) (x : Side) → (links_of t).sides c ≡ Some x → (e : End) × IsIn (c, e) es
        every c x is = cases (t.ends c) refl is
          where
            cases : (o : Option End) → t.ends c ≡ o → option_map side_of o ≡ Some x → (e : End) × IsIn (c, e) es
            cases None at f = absurd (cc)
            cases (Some e) at f = (e, ends.all c e at)

        incoming : AreBack id_of (links_of t) es
        incoming = record { once = ends.once; each = each_back es (λ x m. m); every = every }

    opens : (c : ℕ) (e : End) → IsNew e → Goes c None e s t → t.book ≡ s.book → IsKept id_of t
    opens c e new g book = record {
      tidy = each_goes IsTidy c None e s t g (tidy_new e new) k.tidy;
      paid = each_goes (λ z. ArePaid z.dance.log) c None e s t g (paid_new e new) k.paid;
      payments = payments_alike id_of (scene_of s) (scene_of t) (opened_links e new c s t g) book k.payments;
      alike = alike_by (scene_of s) (scene_of t) old (old_same s.book t.book book) k.alike;
      past = past_on id_of (scene_of s) (scene_of t) halted_stays
          (λ h d i y halted. offers_same id_of s.book t.book book h d i y) k.past;
    }
      where
        halted_stays : (d : ℕ) → t.halted d ≡ true
            → (s.halted d ≡ true) × (option_map side_of (t.ends d) ≡ option_map side_of (s.ends d))
        halted_stays d halted =
            let was : s.halted d ≡ true = sym (g.halted d) ∙ halted in (
              was,
              elim (either (d == c)) [
                | inr isnt ↦ ap (option_map side_of) (g.others d isnt)
                | inl here ↦ absurd (let no : true ≡ false = sym was ∙ ap s.halted (eqb-true d c here) ∙ g.awake in cc)
              ],
            )

        old : HasOldDecisions (links_of s) (links_of t)
        old b Y is d m = elim (either (b == c)) [
          | inr isnt ↦ (Y, sym (ap (option_map side_of) (g.others b isnt)) ∙ is, m)
          | inl here ↦
              let some : Some (side_of e) ≡ Some Y =
              sym (ap (λ n. (links_of t).sides n) (eqb-true b c here) ∙ ap (option_map side_of) g.now) ∙ is in
              let same_side : side_of e ≡ Y = cc in
              absurd (subst (IsIn d) (ap (λ (z : Ledger). z.decisions) new.ledger)
              (subst (λ (q : Side). IsIn d q.decisions) (sym same_side) m))
        ]

    -- ---- whatever it is

    asked : (v : Services) (keys : Signer) (c : ℕ) (e : End) (x : Htlc) (o : Out) (y : Command) (turn : Turn)
        (queue : List Queued) → Asks id_of c v s.book x o y → obeyed keys y e ≡ Ok turn
        → Goes c (Some e) (based turn.end) s t → t.book ≡ taken_by (id_of c) (next_id e.dance.log.own) o queue s.book
        → IsDueBy (id_of c) x o → IsKept id_of t
    asked v keys c e x o y turn queue a done g book (Offers dec uns now fwd is) =
        let is_add = add_is v keys x y e turn (sym (ap (command_of v x) is) ∙ a.command) done in
        offers c e turn.end g (proposes_shift e turn.end _ is_add.proposed) x is_add a.has dec uns now fwd
        (book ∙ ap (λ z. taken_by (id_of c) (next_id e.dance.log.own) z queue s.book) is)
    asked v keys c e x o y turn queue a done g book (Removes dec told unsent chan is) =
        let asks = sym (ap (command_of v x) is) ∙ a.command in
        let u = removing_is v keys x y e turn asks done in
        removes c e turn.end g (proposes_shift e turn.end _ u.proposed) v x y u a.has dec unsent chan asks
        (book ∙ ap (λ z. taken_by (id_of c) (next_id e.dance.log.own) z queue s.book) is)
    asked v keys c e x o y turn queue a done g book (Forgets dec settled over is) =
        let asks = sym (ap (command_of v x) is) ∙ a.command in
        let j = forgets_so x.outgoing y asks in
        let now = forgotten_is keys y e turn j.0 j.1 done in
        forgets c e turn.end g (Notes (command.Forget j.0) (ap (λ (z : End). z.dance.log) now)
        (sym (ap (λ (z : End). Ok z.ledger) now))) v x a.incoming y j.0 a.has dec a.key settled over asks j.1 now
        (book ∙ ap (λ z. taken_by (id_of c) (next_id e.dance.log.own) z queue s.book) is)

    refused : (v : Services) (c : ℕ) (x : Htlc) (o : Out) (y : Command) (number : ℕ) → Asks id_of c v s.book x o y
        → AreSame s t → t.book ≡ refused_by (id_of c) number o s.book → IsDueBy (id_of c) x o → IsKept id_of t
    refused v c x o y number a g book (Offers dec uns now fwd is) = refuses_add g x a.has dec c number uns now fwd
        (book ∙ ap (λ z. refused_by (id_of c) number z s.book) is)
    refused v c x o y number a g book (Removes dec told unsent chan is) = refuses_removal g x a.has dec v y unsent
        (sym (ap (command_of v x) is) ∙ a.command) (book ∙ ap (λ z. refused_by (id_of c) number z s.book) is)
    refused v c x o y number a g book (Forgets dec settled over is) = refuses_forget g x a.has dec settled
        (book ∙ ap (λ z. refused_by (id_of c) number z s.book) is)

    pub kept : AreFit id_of t → Happens id_of s t → IsKept id_of t
    kept now (may.Opens c e new g book) = opens c e new g book
    kept now (may.Turns c e f x plain g book) = turns c e f g x plain book
    kept now (may.HearsRemoved c i e is gone g book) = hears_removed c i e is gone g book
    kept now (may.HearsOver c i e h is awake fate g book) = hears_over c i e h is awake fate g book
    kept now (may.Obeys v keys c e x o y turn queue a done g book) =
        asked v keys c e x o y turn queue a done g book (due_by (id_of c) x o a.is_due)
    kept now (may.Refuses v c x o y number a g book) =
        refused v c x o y number a g book (due_by (id_of c) x o a.is_due)
    kept now (may.Decides c e d o turn queue on done g book) =
        let n = noted (command.Decide d.event d.mark) e turn done in
        decides c e turn.end g (Notes (command.Decide d.event d.mark) n.0 n.1) d o on
        (decides_so d.event d.mark (first_htlc e.dance.log e.ledger.undecided) e.ledger turn.end.ledger n.1) n.0
        (inl book)
    kept now (may.EntersDecision c e d o is on g book) = enters_decision c e is d o on g book
    kept now (may.TakesDecision c e d o turn queue on waits done g book) =
        let n = noted (command.Decide d.event d.mark) e turn done in
        decides c e turn.end g (Notes (command.Decide d.event d.mark) n.0 n.1) d o on
        (decides_so d.event d.mark (first_htlc e.dance.log e.ledger.undecided) e.ledger turn.end.ledger n.1) n.0
        (inr (waits, inl book))
    kept now (may.TakesUnheard c e d o turn on waits done g book) =
        let n = noted (command.Decide d.event d.mark) e turn done in
        decides c e turn.end g (Notes (command.Decide d.event d.mark) n.0 n.1) d o on
        (decides_so d.event d.mark (first_htlc e.dance.log e.ledger.undecided) e.ledger turn.end.ledger n.1) n.0
        (inr (waits, inr book))
    kept now (may.HearsDecision c e d o queue is unheard g book) = hears_decision c e is d o unheard g book
    kept now (may.RefusesDecision c e d o number is on g book) = refuses_decision c e is d o on number g book
    kept now (may.HaltsDeciding c e d o is on g halted book) = halts_deciding c e is d o on g halted book
    kept now (may.DecidesNothing c e event turn done g book) =
        let n = noted (command.Decide event mark.None) e turn done in
        decides_nothing c e turn.end g (Notes (command.Decide event mark.None) n.0 n.1) event
        (decides_so event mark.None (first_htlc e.dance.log e.ledger.undecided) e.ledger turn.end.ledger n.1) n.0 book
    kept now (may.Resumes c e event m turn done g book) =
        let n = noted (command.Resume event m) e turn done in
        resumes c e turn.end g (Notes (command.Resume event m) n.0 n.1) event m
        (resumes_so event m e.ledger turn.end.ledger n.1) n.0 book
    kept now (may.Halts c g halted book) = halts_at c g halted book
    kept now (may.Disconnects c e told is awake tells g halted book) =
        disconnects_at now c e told is awake tells g halted book
    kept now (may.Reloads c e told is halted tells g awake book) =
        reloads_at now c e told is halted tells g awake book
    kept now (may.Restarts es g none ends book) = restarts_all now es g none ends book

  -- ---- one after the other

  pub first_kept_is : IsKept id_of nothing_yet
  first_kept_is = record {
    tidy = λ c e is. absurd (cc);
    paid = λ c e is. absurd (cc);
    payments = begun id_of;
    alike = λ c X is d m x in_book. absurd in_book;
    past = λ h c i x o halted. absurd o.there;
  }

  no_ends : AreFit id_of nothing_yet
  no_ends = record { fit = λ c e is. absurd (cc); channel = λ c e is. absurd (cc) }

  all_kept : (s : Snapshot) (ts : List Snapshot) → AreFit id_of s → AreMoments id_of s ts → IsKept id_of s
      → IsKept id_of (last_of s ts)
  all_kept s [] fit m k = k
  all_kept s (t ∷ ts) fit m k = all_kept t ts m.1.0 m.1.1 (kept s t fit k m.1.0 m.0)

  pub one_payment : (ts : List Snapshot) → AreMoments id_of nothing_yet ts → (h : Incoming)
      → PaysOnce id_of h (last_of nothing_yet ts)
  one_payment ts m h =
      let k = all_kept nothing_yet ts no_ends m first_kept_is in
      pays_once id_of h (last_of nothing_yet ts) k.paid (k.payments h)
