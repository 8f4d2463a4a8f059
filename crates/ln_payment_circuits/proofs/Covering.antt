-- What a signature covers of what goes out stays covered, whatever happens.
use Rattle.std.proofs.Common.{◌≡◌, inl, inr, ℕ, ◌-◌, List, [], ◌∷◌, ◌++◌, take, drop, sym, ap, ◌∙◌}
use Rattle.std.proofs.Common.{subst, arith, Bool, true, false, cond, ◌==◌, Option, Some, None, Result, Ok, Err}
use Rattle.std.specs.Prelude.{option_map}
use Rattle.std.proofs.lemmas.Bool.{eqb-true}
use Rattle.std.proofs.lemmas.List.{take-take, take-append-le}
use Rattle.ln_refusals.specs.declared.refusal.Refusal.{Refusal}
use Rattle.ln_keys.specs.Signer.{Signer}
use Rattle.ln_log.specs.declared.mark.Mark.TheVariants as mark
use Rattle.ln_log.specs.declared.update.Update.{Update}
use Rattle.ln_log.specs.Updates.{add_with}
use Rattle.ln_log.specs.Log.{Log, IsWithin}
use Rattle.ln_log.specs.Log as log
use Rattle.ln_log.proofs.Removing.{add_with-more}
use Rattle.ln_channel.specs.declared.command.Command.{Command}
use Rattle.ln_channel.specs.declared.command.Command.TheVariants as command
use Rattle.ln_channel.specs.Base.{based}
use Rattle.ln_channel.specs.Commands.{command_row, note_row}
use Rattle.ln_channel.specs.End.{End, Turn, end_dropped}
use Rattle.ln_channel.specs.Step.{is_of_records}
use Rattle.ln_payment_circuits.specs.Snapshot.{Snapshot, Incoming, AreFit, origin}
use Rattle.ln_payment_circuits.specs.Circuit.{Forwards, IsCoveredAt, IsCovered}
use Rattle.ln_payment_circuits.specs.Shift.{Shift, Stays, Takes, Proposes, Signs, Accepts, Learns, Closes, Notes}
use Rattle.ln_payment_circuits.specs.Happens.{Happens, Goes, AreSame, Loses, obeyed, AreMoments, last_of}
use Rattle.ln_payment_circuits.specs.Happens as may
use Rattle.ln_payment_circuits.proofs.Lists.{either}
use Rattle.ln_payment_circuits.proofs.Parts.{some_of}
use Rattle.ln_payment_circuits.proofs.Calls.{IfTurn, command_shifts, note_shifts}
use Rattle.ln_payment_circuits.proofs.Removals.{split_front}

-- ---- an end goes on

module _ (o : List ℕ × ℕ) (i : ℕ) where
  abbrev Covers : Log → Type 0
  Covers l = Forwards o (add_with i (take l.signed.own l.own))

  covers_more : (us vs : List Update) → Forwards o (add_with i us) → Forwards o (add_with i (us ++ vs))
  covers_more us vs h = subst (Forwards o) (sym (add_with-more i us vs (some_of o (add_with i us) h))) h

  covers_proposed : (l : Log) (u : Update) → IsWithin l → Covers l → Covers (log.after_propose u l)
  covers_proposed l u w h =
      let a = w.own_signed in
      subst (λ us. Forwards o (add_with i us)) (sym (take-append-le l.signed.own l.own (u ∷ []) a)) h

  covers_signed : (l : Log) → IsWithin l → Covers l → Covers (log.after_sign l)
  covers_signed l w h =
      let n = (log.after_sign l).signed.own in
      subst (λ us. Forwards o (add_with i us)) (sym (split_front l.signed.own n l.own w.own_signed))
      (covers_more (take l.signed.own l.own) (take (n - l.signed.own) (drop l.signed.own l.own)) h)

  covers_dropped : (l : Log) → Covers l → Covers (log.after_drop l)
  covers_dropped l h =
      let n = l.signed.own in
      subst (λ us. Forwards o (add_with i us)) (sym (take-take n n l.own (omega arith))) h

  covers_at : (f : End) (l : Log) → f.dance.log ≡ l → Covers l → Covers f.dance.log
  covers_at f l is h = subst Covers (sym is) h

  covers_shift : (e f : End) → IsWithin e.dance.log → Shift e f → Covers e.dance.log → Covers f.dance.log
  covers_shift e f w (Stays l g) h = covers_at f e.dance.log l h
  covers_shift e f w (Takes u may l g) h = covers_at f (log.after_receive u e.dance.log) l h
  covers_shift e f w (Proposes u may next l g) h =
      covers_at f (log.after_propose u e.dance.log) l (covers_proposed e.dance.log u w h)
  covers_shift e f w (Signs l g) h = covers_at f (log.after_sign e.dance.log) l (covers_signed e.dance.log w h)
  covers_shift e f w (Accepts l g) h = covers_at f (log.after_accept e.dance.log) l h
  covers_shift e f w (Learns l g) h = covers_at f (log.after_learn e.dance.log) l h
  covers_shift e f w (Closes l g) h = covers_at f e.dance.log l h
  covers_shift e f w (Notes c l g) h = covers_at f e.dance.log l h

-- ---- by a command

shift_of : (e : End) (row : Result Turn Refusal) (turn : Turn) → IfTurn (Shift e) row → row ≡ Ok turn → Shift e turn.end
shift_of e (Ok t) turn x is = let same : t ≡ turn = cc in subst (λ (z : Turn). Shift e z.end) same x
shift_of e (Err r) turn x is = absurd (cc)

pub obeyed_shift : (keys : Signer) (y : Command) (e : End) (turn : Turn) → obeyed keys y e ≡ Ok turn → Shift e turn.end
obeyed_shift keys y e turn is = cases (is_of_records y) is
  where
    cases : (b : Bool) → cond b (note_row y e) (command_row keys y e) ≡ Ok turn → Shift e turn.end
    cases true is = shift_of e (note_row y e) turn (note_shifts y e) is
    cases false is = shift_of e (command_row keys y e) turn (command_shifts keys y e) is

pub noted_shift : (y : Command) (e : End) (turn : Turn) → note_row y e ≡ Ok turn → Shift e turn.end
noted_shift y e turn is = shift_of e (note_row y e) turn (note_shifts y e) is

-- ---- whatever happens

module _ (id_of : ℕ → List ℕ) (h : Incoming) (d i : ℕ) where
  abbrev At : Snapshot → Type 0
  At s = IsCovered id_of h s d i

  covered_goes : (c : ℕ) (e f : End) (s t : Snapshot) → AreFit id_of s → Goes c (Some e) (based f) s t → Shift e f
      → At s → At t
  covered_goes c e f s t fit g x k = elim (either (d == c)) [
    | inr isnt ↦ subst (IsCoveredAt (origin id_of h) i) (sym (g.others d isnt)) k
    | inl here ↦
        let at = eqb-true d c here in
        let was = subst (IsCoveredAt (origin id_of h) i) (ap s.ends at ∙ g.before) k in
        subst (IsCoveredAt (origin id_of h) i) (sym (ap t.ends at ∙ g.now))
        (covers_shift (origin id_of h) i e f (fit.fit c e g.before).sound.within x was)
  ]

  covered_opens : (c : ℕ) (e : End) (s t : Snapshot) → Goes c None e s t → At s → At t
  covered_opens c e s t g k = elim (either (d == c)) [
    | inr isnt ↦ subst (IsCoveredAt (origin id_of h) i) (sym (g.others d isnt)) k
    | inl here ↦ absurd (subst (IsCoveredAt (origin id_of h) i) (ap s.ends (eqb-true d c here) ∙ g.before) k)
  ]

  covered_same : (s t : Snapshot) → AreSame s t → At s → At t
  covered_same s t g k = subst (IsCoveredAt (origin id_of h) i) (sym (g.ends d)) k

  covered_lost : (lost : ℕ → Bool) (s t : Snapshot) → Loses lost s t → At s → At t
  covered_lost lost s t g k = elim (either (lost d)) [
    | inr isnt ↦ subst (IsCoveredAt (origin id_of h) i) (sym (g.others d isnt)) k
    | inl gone ↦ subst (IsCoveredAt (origin id_of h) i) (sym (g.theirs d gone)) (cases (s.ends d) k)
  ]
    where
      cases : (o : Option End) → IsCoveredAt (origin id_of h) i o
          → IsCoveredAt (origin id_of h) i (option_map end_dropped o)
      cases None f = f
      cases (Some e) f = covers_dropped (origin id_of h) i e.dance.log f

  pub covered_then : (s t : Snapshot) → AreFit id_of s → Happens id_of s t → At s → At t
  covered_then s t fit (may.Opens c e new g book) = covered_opens c e s t g
  covered_then s t fit (may.Turns c e f x plain g book) = covered_goes c e f s t fit g x
  covered_then s t fit (may.HearsRemoved c j e is gone g book) = covered_same s t g
  covered_then s t fit (may.HearsOver c j e w is awake fate g book) = covered_same s t g
  covered_then s t fit (may.Obeys v keys c e x o y turn queue a done g book) =
      covered_goes c e turn.end s t fit g (obeyed_shift keys y e turn done)
  covered_then s t fit (may.Refuses v c x o y number a g book) = covered_same s t g
  covered_then s t fit (may.Decides c e d o turn queue on done g book) =
      covered_goes c e turn.end s t fit g (noted_shift (command.Decide d.event d.mark) e turn done)
  covered_then s t fit (may.RefusesDecision c e d o number is on g book) = covered_same s t g
  covered_then s t fit (may.HaltsDeciding c e d o is on g halted book) = covered_lost _ s t g
  covered_then s t fit (may.EntersDecision c e d o is on g book) = covered_same s t g
  covered_then s t fit (may.TakesDecision c e d o turn queue on waits done g book) =
      covered_goes c e turn.end s t fit g (noted_shift (command.Decide d.event d.mark) e turn done)
  covered_then s t fit (may.TakesUnheard c e d o turn on waits done g book) =
      covered_goes c e turn.end s t fit g (noted_shift (command.Decide d.event d.mark) e turn done)
  covered_then s t fit (may.HearsDecision c e d o queue is on g book) = covered_same s t g
  covered_then s t fit (may.DecidesNothing c e event turn done g book) =
      covered_goes c e turn.end s t fit g (noted_shift (command.Decide event mark.None) e turn done)
  covered_then s t fit (may.Resumes c e event m turn done g book) =
      covered_goes c e turn.end s t fit g (noted_shift (command.Resume event m) e turn done)
  covered_then s t fit (may.Halts c g halted book) = covered_lost _ s t g
  covered_then s t fit (may.Disconnects c e told is awake tells g halted book) = covered_lost _ s t g
  covered_then s t fit (may.Reloads c e told is halted tells g now book) = covered_lost _ s t g
  covered_then s t fit (may.Restarts es g none ends book) = covered_lost _ s t g

  pub covered_stays : (s : Snapshot) (ts : List Snapshot) → AreFit id_of s → AreMoments id_of s ts → At s
      → At (last_of s ts)
  covered_stays s [] fit m k = k
  covered_stays s (t ∷ ts) fit m k = covered_stays t ts m.1.0 m.1.1 (covered_then s t fit m.0 k)
