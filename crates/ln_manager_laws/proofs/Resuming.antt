-- What leaves of a manager that what is held is decided.
use Rattle.std.proofs.Common.{◌≡◌, ◌⊎◌, inl, inr, ℕ, ◌≤◌, ◌<◌, List, [], ◌∷◌, ◌++◌, refl, sym, ap, ◌∙◌, subst, arith}
use Rattle.std.proofs.Common.{Bool, true, false, cond, ◌&&◌, ◌||◌, Some, None, Result, Ok, Err}
use Rattle.std.specs.List.{find, list_any}
use Rattle.std.proofs.lemmas.Bool.{eq-eqb}
use Rattle.ln_refusals.specs.declared.refusal.Refusal.{Refusal}
use Rattle.ln_refusals.specs.Refusal.{refusal_number}
use Rattle.ln_keys.specs.Signer.{Signer}
use Rattle.ln_log.specs.Log.{Log}
use Rattle.ln_log.specs.declared.mark.Mark.{Mark}
use Rattle.ln_hooks.specs.declared.verdict.Verdict.{Verdict}
use Rattle.ln_channel.specs.declared.command.Command as declared
use Rattle.ln_channel.specs.declared.command.Command.TheVariants as command
use Rattle.ln_channel.specs.Base.{based, based_stage}
use Rattle.ln_channel.specs.End.{End}
use Rattle.ln_channel.specs.Record.{saved_end}
use Rattle.ln_channel.specs.Step.{Done, commanded}
use Rattle.ln_link.specs.Calls.{left_by}
use Rattle.ln_book_tables.specs.declared.htlc.Htlc.{Htlc}
use Rattle.ln_book_tables.specs.declared.entry.Out.TheVariants as out
use Rattle.ln_book_tables.specs.declared.entry.Resumed.{Resumed}
use Rattle.ln_book_tables.specs.declared.entry.Entry.TheVariants as entry
use Rattle.ln_book_tables.specs.Replay.{Table, same, replay, with_mark, with_resumed, resumed_of, resumed_by, taken_by}
use Rattle.ln_book_tables.specs.Replay.{is_resumed, is_held_in}
use Rattle.ln_book.specs.Answers.{command_subject, answer_to}
use Rattle.ln_keys.specs.Services.{Services}
use Rattle.ln_book.specs.Kept.{next_own_id}
use Rattle.ln_book.specs.Marks.{resumption, resumed_mark}
use Rattle.ln_book.specs.Rebuild.{no_event}
use Rattle.ln_payment_circuits.specs.Snapshot.{IsIn}
use Rattle.ln_payment_circuits.specs.Happens.{HasOwnIds}
use Rattle.ln_payment_circuits.specs.Happens as may
use Rattle.ln_payment_circuits.proofs.Covering.{obeyed_shift}
use Rattle.ln_payment_circuits.proofs.Entries.{is_same}
use Rattle.ln_payment_circuits.proofs.Law.{noted as noted_so}
use Rattle.ln_payment_circuits.proofs.Naming.{AllName, shift_decided}
use Rattle.ln_manager_laws.specs.Calls.{Seat, Command, called}
use Rattle.ln_manager_laws.specs.Manager.{Manager}
use Rattle.ln_manager_laws.specs.Steps.{Changes, Works, obeying, done_or_refused}
use Rattle.ln_manager_laws.proofs.Answering.{told_answer, answer_done, answer_refused, IsObeyed, commanded_is}
use Rattle.ln_manager_laws.proofs.Answering.{obeyed_channel}
use Rattle.ln_manager_laws.proofs.Calling.{become_few}
use Rattle.ln_manager_laws.proofs.Hearing.{kin_as}
use Rattle.ln_manager_laws.proofs.Obeying.{IsBidden, bids, kin_taken}
use Rattle.ln_manager_laws.proofs.Snapshots.{goes, seat_same}
use Rattle.ln_manager_laws.proofs.Orderly.{EachSeat, was_there, HasNumber, IsDated, SaysNames, IsOrderly, IsChannel}
use Rattle.ln_manager_laws.proofs.Orderly.{Happened, Same, Leaves, leaves_by, kin_same}

-- the one that joins is found, where none passed before
found_last : {A : Type 0} (p : A → Bool) (xs : List A) (y : A) → list_any p xs ≡ false → p y ≡ true
    → find p (xs ++ y ∷ []) ≡ Some y
found_last p [] y none is = ap (λ b. cond b (Some y) None) is
found_last p (x ∷ xs) y none is = cases (p x) refl none (λ f. found_last p xs y f is)
  where
    cases : (b : Bool) → p x ≡ b → (b || list_any p xs) ≡ false
        → (list_any p xs ≡ false → find p (xs ++ y ∷ []) ≡ Some y) → find p (x ∷ xs ++ y ∷ []) ≡ Some y
    cases true at f rest = absurd (cc)
    cases false at f rest = ap (λ b. cond b (Some x) (find p (xs ++ y ∷ []))) at ∙ rest f

none_resumed : (v : Services) (t : Table) (c : List ℕ) (i : ℕ) (verdict : Verdict) (w : Mark)
    → resumption v t c i verdict ≡ Some w → list_any (is_resumed c i) t.queue ≡ false
none_resumed v t c i verdict w = cases (list_any (is_resumed c i) t.queue)
  where
    cases : (b : Bool) → resumed_mark v t i (cond b None (find (is_held_in c i) t.htlcs)) verdict ≡ Some w → b ≡ false
    cases true e = absurd (cc)
    cases false e = refl

module _ {K : Type 0} (signer : K → Signer) (id_of : ℕ → List ℕ) (one : HasOwnIds id_of) (m n : Manager K)
    (h : IsOrderly id_of m) (numbers : EachSeat (HasNumber id_of) n) (v : Services) (x : Seat K) (e : End) (i : ℕ)
    (verdict : Verdict) (w : Mark) (works : Works x e)
    (said : resumption v m.book e.dance.channel i verdict ≡ Some w)
    (g : Changes x (called signer (Command (command.Resume i w)) x) m n)
    (book : n.book ≡ replay m.book (entry.Resumed (record { channel = e.dance.channel; event = i; mark = w })
    ∷ obeying signer x.link e (out.Resuming i) (command.Resume i w))) where
  abbrev y : declared.Command
  y = command.Resume i w

  abbrev seat : Seat K
  seat = called signer (Command y) x

  abbrev keys : Signer
  keys = signer x.link.keys

  abbrev ch : List ℕ
  ch = e.dance.channel

  abbrev r : Resumed
  r = record { channel = ch; event = i; mark = w }

  abbrev with_it : Table
  with_it = with_resumed r m.book

  abbrev subject : ℕ
  subject = command_subject (next_own_id e) y

  b : IsBidden signer id_of one m n h numbers x e y g
  b = bids signer id_of one m n h numbers x e y works g

  x_in : IsIn x m.seats
  x_in = was_there x seat m n g

  reply : (row : Result Done Refusal) → commanded keys x.link y ≡ row
      → n.book.htlcs ≡ (told_answer ch (out.Resuming i) (answer_to subject (done_or_refused row)) with_it).htlcs
  reply row is = ap (λ (t : Table). t.htlcs) book
      ∙ ap (λ q. (told_answer ch (out.Resuming i) (answer_to subject (done_or_refused q)) with_it).htlcs) is

  queued : find (is_resumed ch i) with_it.queue ≡ Some (resumed_of r)
  queued = found_last (is_resumed ch i) m.book.queue (resumed_of r) (none_resumed v m.book ch i verdict w said)
      (ap (λ q. q && (same ch ch && true)) (eq-eqb i i refl) ∙ ap (λ q. q && true) (is_same ch ch refl))

  taken : (done : Done) → commanded keys x.link y ≡ Ok done → Leaves id_of m n
  taken done row =
      leaves_by id_of x seat m n g h b.hosted.sound b.apart b.keeps
      (Happened (may.Resumes b.number.0 e i w k.turn k.row
      (goes id_of one x seat m n g h.apart b.apart b.number.0 e (based k.turn.end) works.end end b.number.1 channel
      works.halted b.hosted.halted)
      (htlcs ∙ ap (λ q. resumed_by ch i q m.book.htlcs) queued ∙ ap (λ c. with_mark c i w m.book.htlcs) b.number.1)))
      (kin_as m.book.htlcs (taken_by ch subject (out.Resuming i) with_it.queue m.book.htlcs) n.book.htlcs htlcs
      (kin_taken ch subject (out.Resuming i) with_it.queue m.book.htlcs))
      dated named (become_few ⊥ x seat b.hosted.becomes (h.few x x_in))
    where
      k : IsObeyed keys y e done
      k = commanded_is keys x.link y e done b.saved row

      channel : k.turn.end.dance.channel ≡ ch
      channel = obeyed_channel keys y e k.turn k.row

      end : seat.end ≡ Some (based k.turn.end)
      end = ap (λ (q : Seat K). q.end) b.is ∙ ap (λ q. saved_end (left_by q (λ f. x.link) x.link).stage) row
          ∙ ap (λ s. saved_end (based_stage s)) k.stage

      htlcs : n.book.htlcs ≡ taken_by ch subject (out.Resuming i) with_it.queue m.book.htlcs
      htlcs = reply (Ok done) row ∙ answer_done ch (out.Resuming i) subject with_it

      dated : IsDated m.book.htlcs seat
      dated f q z m_in at =
          let some : Some (based k.turn.end) ≡ Some f = sym end ∙ q.end in
          let same_end : based k.turn.end ≡ f = cc in
          later z f (h.dated x x_in e works z m_in (at ∙ sym (ap (λ (u : End). u.dance.channel) same_end) ∙ channel))
          (subst (λ (u : End). e.ledger.decided ≤ u.ledger.decided) same_end
          (shift_decided e k.turn.end (obeyed_shift keys y e k.turn k.row)))
        where
          later : (z : Htlc) (f : End) → (z.event ≡ no_event) ⊎ (z.event < e.ledger.decided)
              → e.ledger.decided ≤ f.ledger.decided → (z.event ≡ no_event) ⊎ (z.event < f.ledger.decided)
          later z f (inl none) le = inl none
          later z f (inr lt) le = inr (omega (arith, lt, le))

      named : SaysNames m seat
      named f is =
          let some : Some (based k.turn.end) ≡ Some f = sym end ∙ is in
          let same_end : based k.turn.end ≡ f = cc in
          subst (λ (u : End). AllName (IsChannel m) u.dance.log.own) same_end
          (subst (λ (l : Log). AllName (IsChannel m) l.own) (sym (noted_so y e k.turn k.row).0)
          (h.named x x_in e works.end))

  refused_so : (f : Refusal) → commanded keys x.link y ≡ Err f → Leaves id_of m n
  refused_so f row =
      leaves_by id_of x seat m n g h b.hosted.sound b.apart b.keeps
      (Same (seat_same id_of one x seat m n g h.apart b.apart end (λ q is. b.hosted.halted) unchanged))
      (kin_same m.book.htlcs n.book.htlcs unchanged)
      (λ q u. h.dated x x_in q (record { end = sym end ∙ u.end; halted = works.halted }))
      (λ q is. h.named x x_in q (sym end ∙ is))
      (become_few ⊥ x seat b.hosted.becomes (h.few x x_in))
    where
      end : seat.end ≡ x.end
      end = ap (λ (q : Seat K). q.end) b.is ∙ ap (λ q. saved_end (left_by q (λ f. x.link) x.link).stage) row
          ∙ b.saved ∙ sym works.end

      unchanged : n.book.htlcs ≡ m.book.htlcs
      unchanged = reply (Err f) row ∙ (elim (answer_refused ch (out.Resuming i) (refusal_number f) with_it) [
        | inl same_htlcs ↦ same_htlcs
        | inr for_good ↦ for_good.2
      ])

  pub resumes : Leaves id_of m n
  resumes = cases (commanded keys x.link y) refl
    where
      cases : (row : Result Done Refusal) → commanded keys x.link y ≡ row → Leaves id_of m n
      cases (Ok done) row = taken done row
      cases (Err f) row = refused_so f row
