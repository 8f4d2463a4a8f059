-- What a side sends again is what the other lacks.
use Rattle.std.proofs.Common.{◌≡◌, ℕ, ◌+◌, ◌≤◌, List, [], ◌∷◌, ◌++◌, ◌==◌, length, take, drop, refl, sym, ap, ◌∙◌}
use Rattle.std.proofs.Common.{subst, arith, append_assoc, append-nil, Bool, true, false, cond, ◌&&◌}
use Rattle.std.proofs.lemmas.List.{take-append-drop, take-take, length-take-le, take_all}
use Rattle.std.proofs.lemmas.Bool.{eq-eqb, ne_eqb}
use Rattle.ln_log.specs.declared.update.Update.{Update as Change}
use Rattle.ln_log.specs.Log.{Counts}
use Rattle.ln_channel.specs.declared.machine.ConnectionState.{ConnectionState}
use Rattle.ln_channel.specs.declared.machine.ConnectionState.TheVariants.{Down, AwaitingReestablish, Connected}
use Rattle.ln_msgs.specs.declared.messages.commitments.ChannelReestablish.{ChannelReestablish}
use Rattle.std.specs.Prelude.{Option, Some, None}
use Rattle.ln_msgs.specs.declared.messages.closing.ClosingSigned.{ClosingSigned}
use Rattle.ln_msgs.specs.declared.messages.closing.Shutdown.{Shutdown as ShutdownMessage}
use Rattle.ln_channel_laws.proofs.Flight.Sides.{closes_of}
use Rattle.ln_channel_laws.proofs.Flight.Sides.{Ready, Shutdown, all_owed, ready_again, shutdown_again, Both, Notice}
use Rattle.ln_channel_laws.proofs.Flight.Sides.{Sign}
use Rattle.ln_channel_laws.proofs.Flight.Sides.{Revoke}
use Rattle.ln_channel_laws.proofs.Flight.Sides.{Again, Side, posts, dropped, updates_of, again_signed, signature_owed}
use Rattle.ln_channel_laws.proofs.Flight.Sides.{revocation_owed}
use Rattle.ln_channel_laws.proofs.Flight.Sides.{owed, goes_down, comes_up}
use Rattle.ln_channel_laws.proofs.Flight.Walk.{holds, AllFit, Phase, Idle, Sent, Answered, InOrder, sender, IsBehind}
use Rattle.ln_channel_laws.proofs.Flight.Walk.{Reads}
use Rattle.ln_channel_laws.proofs.Flight.Walk.{LacksNothing, Anywhere, Carries, InFlight, Flows, BothFlow}
use Rattle.ln_channel_laws.proofs.Flight.Reading.{reads-push, IsQuiet, reads-quiet, reads-to, reads-same, reads-updates}
use Rattle.ln_channel_laws.proofs.Flight.WalkOverActs.{fit-all-held, held_there, fit-take, fit-behind, current_own}
use Rattle.ln_channel_laws.proofs.Flight.WalkOverActs.{posted}
use Rattle.ln_channel_laws.proofs.Flight.WalkOverActs.{passed, same_front}

-- the numbers that y tells, and what they mean: its place, and whether x's last signature or revocation is missing
pub data Lacks (x y : Side) : Type 0 where
  Nothing : y.number ≡ x.signatures → y.current.peer ≡ x.signed.own → y.revocations ≡ x.number
      → y.acked.own ≡ x.current.peer → Lacks x y
  ASignature : y.number + 1 ≡ x.signatures → y.current.peer ≡ x.acked.own → y.revocations ≡ x.number
      → y.acked.own ≡ x.current.peer → Lacks x y
  ARevocation : y.number ≡ x.signatures → y.current.peer ≡ x.signed.own → y.revocations + 1 ≡ x.number
      → y.signed.own ≡ x.current.peer → Lacks x y
  SignatureAndRevocation : y.number + 1 ≡ x.signatures → y.current.peer ≡ x.acked.own → y.revocations + 1 ≡ x.number
      → y.signed.own ≡ x.current.peer → Lacks x y

pub lacks : (x y : Side) → Phase x.signatures x.revocations y.number x.acked x.signed y.current
    → Phase y.signatures y.revocations x.number y.acked y.signed x.current → Lacks x y
lacks x y (Idle e1 e2 e3 e4 e5 e6) (Idle f1 f2 f3 f4 f5 f6) = Nothing e2 e5 (sym f1 ∙ sym f2) (f3 ∙ sym f5)
lacks x y (Idle e1 e2 e3 e4 e5 e6) (Sent f1 f2 f3 f4) = Nothing e2 e5 (sym f2) (sym f3)
lacks x y (Idle e1 e2 e3 e4 e5 e6) (Answered f1 f2 f3 f4) = ARevocation e2 e5 (sym f1 ∙ sym f2) (sym f3)
lacks x y (Sent e1 e2 e3 e4) (Idle f1 f2 f3 f4 f5 f6) =
    ASignature (ap (λ m. m + 1) e2 ∙ sym e1) e3 (sym f1 ∙ sym f2) (f3 ∙ sym f5)
lacks x y (Sent e1 e2 e3 e4) (Sent f1 f2 f3 f4) = ASignature (ap (λ m. m + 1) e2 ∙ sym e1) e3 (sym f2) (sym f3)
lacks x y (Sent e1 e2 e3 e4) (Answered f1 f2 f3 f4) =
    SignatureAndRevocation (ap (λ m. m + 1) e2 ∙ sym e1) e3 (sym f1 ∙ sym f2) (sym f3)
lacks x y (Answered e1 e2 e3 e4) (Idle f1 f2 f3 f4 f5 f6) = Nothing e2 e3 (sym f1 ∙ sym f2) (f3 ∙ sym f5)
lacks x y (Answered e1 e2 e3 e4) (Sent f1 f2 f3 f4) = Nothing e2 e3 (sym f2) (sym f3)
lacks x y (Answered e1 e2 e3 e4) (Answered f1 f2 f3 f4) = ARevocation e2 e3 (sym f1 ∙ sym f2) (sym f3)

-- where its commitment is the one signed last, no signature is owed, and so on
no_signature : (x y : Side) → y.number ≡ x.signatures → signature_owed (y.number + 1) x ≡ []
no_signature x y e = ap (λ b. cond (b && (x.signatures == x.revocations + 1)) (again_signed x) [])
    (ne_eqb (y.number + 1) x.signatures (λ f. omega (arith, e, f)))

a_signature : (x y : Side) → y.number + 1 ≡ x.signatures → x.signatures ≡ x.revocations + 1
    → signature_owed (y.number + 1) x ≡ again_signed x
a_signature x y e one = ap (λ b. cond (b && (x.signatures == x.revocations + 1)) (again_signed x) [])
    (eq-eqb (y.number + 1) x.signatures e) ∙ ap (λ b. cond b (again_signed x) [])
    (eq-eqb x.signatures (x.revocations + 1) one)

no_revocation : (x y : Side) → y.revocations ≡ x.number → revocation_owed y.revocations x ≡ []
no_revocation x y e = ap (λ b. cond b (Revoke x.revocation ∷ []) [])
    (ne_eqb (y.revocations + 1) x.number (λ f. omega (arith, e, f)))

a_revocation : (x y : Side) → y.revocations + 1 ≡ x.number → revocation_owed y.revocations x ≡ Revoke x.revocation ∷ []
a_revocation x y e = ap (λ b. cond b (Revoke x.revocation ∷ []) []) (eq-eqb (y.revocations + 1) x.number e)

abbrev in_order : Bool → List Notice → List Notice → List Notice
in_order l s r = cond l (s ++ r) (r ++ s)

owes : (x y : Side) (s r : List Notice) → signature_owed (y.number + 1) x ≡ s → revocation_owed y.revocations x ≡ r
    → owed (y.number + 1) y.revocations x ≡ in_order x.late s r
owes x y s r e f = ap (λ m. in_order x.late m (revocation_owed y.revocations x)) e ∙ ap (in_order x.late s) f

-- the updates that y lacks, and the signature over them
module _ (x y : Side) (Q : List Change → ℕ → ℕ → ℕ
    → Type 0) (a r : ℕ) (ms : List Notice) (fit : AllFit x.opening x.role [] (take x.signed.peer x.got) (holds y)
    (take x.signed.own x.own)) (seen : take x.signed.peer x.got ≡ take x.signed.peer y.own)
    (has : y.got ≡ take x.acked.own (take x.signed.own x.own)) (next : y.number + 1 ≡ x.signatures)
    (knows : a ≡ x.signed.peer) where
  reads_again : Reads (sender x) y.own (holds y) y.signed.own Q (take x.signed.own x.own) a (y.number + 1) r ms
      → Reads (sender x) y.own (holds y) y.signed.own Q y.got a y.number r (again_signed x ++ ms)
  reads_again h =
      let front = take x.acked.own (take x.signed.own x.own) in
      let new = drop x.acked.own (take x.signed.own x.own) in
      let parts : front ++ new ≡ take x.signed.own x.own = take-append-drop x.acked.own (take x.signed.own x.own) in
      let fits : AllFit x.opening x.role front (take x.signed.peer x.got) (holds y) new =
      fit-behind x.opening x.role [] (take x.signed.peer x.got) (holds y) front new
      (subst (λ us. AllFit x.opening x.role [] (take x.signed.peer x.got) (holds y) us) (sym parts) fit) in
      let fits_there : AllFit x.opening x.role front (take a y.own) (holds y) new =
      subst (λ p. AllFit x.opening x.role front p (holds y) new) (seen ∙ ap (λ m. take m y.own) (sym knows)) fits in
      let next_one : List Notice = Sign x.signature ∷ ms in
      let signed : Reads (sender x) y.own (holds y) y.signed.own Q (front ++ new) a y.number r next_one = (
        record { named = refl; next = next; covers = parts; knows = knows },
        subst (λ us. Reads (sender x) y.own (holds y) y.signed.own Q us a (y.number + 1) r ms) (sym parts) h,
      ) in
      subst (λ ns. Reads (sender x) y.own (holds y) y.signed.own Q y.got a y.number r ns)
      (sym (append_assoc (updates_of new) (Sign x.signature ∷ []) ms))
      (subst (λ us. Reads (sender x) y.own (holds y) y.signed.own Q us a y.number r
      (updates_of new ++ Sign x.signature ∷ ms)) (sym has)
      (reads-updates (sender x) y.own (holds y) y.signed.own Q front a y.number r new
      (Sign x.signature ∷ ms) fits_there signed))

abbrev All : Side → List Change → ℕ → ℕ → ℕ → Type 0
All x = LacksNothing x.own x.current.peer x.signatures x.number

-- the signature and the revocation, either first
reads_both : (x y : Side) (l : Bool) → x.late ≡ l
    → AllFit x.opening x.role [] (take x.signed.peer x.got) (holds y) (take x.signed.own x.own)
    → take x.signed.peer x.got ≡ take x.signed.peer y.own → y.got ≡ take x.acked.own (take x.signed.own x.own)
    → take x.signed.own x.own ≡ x.own
    → y.number + 1 ≡ x.signatures → y.revocations + 1 ≡ x.number → y.signed.own ≡ x.current.peer
    → InOrder l x.number y.revocations x.signed.peer y.acked.own x.current.peer
    → Reads (sender x) y.own (holds y) y.signed.own (All x) y.got y.acked.own y.number y.revocations
    (in_order l (again_signed x) (Revoke x.revocation ∷ []))
reads_both x y true e fit seen has whole next one knows o =
    reads_again x y (All x) y.acked.own y.revocations (Revoke x.revocation ∷ []) fit seen has next (sym o.1) (
      record { named = refl; next = one; order = subst (λ b. IsBehind b (y.number + 1) x.signatures) (sym e) next },
      record { has_all = whole; knows = knows; accepted = next; revoked = one },
    )
reads_both x y false e fit seen has whole next one knows o = (
  record { named = refl; next = one; order = subst (λ b. IsBehind b y.number x.signatures) (sym e) tt },
  subst (λ ns. Reads (sender x) y.own (holds y) y.signed.own (All x) y.got y.signed.own y.number (y.revocations + 1) ns)
      (append-nil (again_signed x))
      (reads_again x y (All x) y.signed.own (y.revocations + 1) [] fit seen has next (knows
      ∙ sym o) record { has_all = whole; knows = knows; accepted = next; revoked = one }),
)

either : (l : Bool) (ms : List Notice) → in_order l ms [] ≡ ms
either true ms = append-nil ms
either false ms = refl

alone : (l : Bool) (ms : List Notice) → in_order l [] ms ≡ ms
alone true ms = refl
alone false ms = append-nil ms

-- late or not, a revocation alone is due where the signature was accepted
behind_accepted : (l : Bool) (c s : ℕ) → c ≡ s → IsBehind l c s
behind_accepted true c s e = e
behind_accepted false c s e = tt

-- where no revocation is missing, the signature covers what x has accepted
seen_now : (l : Bool) (number revocations seen known current : ℕ) → revocations ≡ number
    → InOrder l number revocations seen known current → seen ≡ current
seen_now true number revocations seen known current e h = absurd (omega (arith, e, h.0))
seen_now false number revocations seen known current e h = h

module _ (x y : Side) (fit : AllFit x.opening x.role [] (take x.signed.peer x.got) (holds y) (take x.signed.own x.own))
    (seen : take x.signed.peer x.got ≡ take x.signed.peer y.own) (whole : take x.signed.own x.own ≡ x.own)
    (there : y.got ≡ take y.current.peer x.own)
    (order : y.number + 1 ≡ x.signatures → InOrder x.late x.number y.revocations x.signed.peer y.acked.own
    x.current.peer) (one : y.number + 1 ≡ x.signatures → x.signatures ≡ x.revocations + 1) where
  resumes_by : Lacks x y → Reads (sender x) y.own (holds y) y.signed.own (All x) y.got y.acked.own y.number
      y.revocations (owed (y.number + 1) y.revocations x)
  resumes_by (Nothing s e r k) =
      subst (λ os. Reads (sender x) y.own (holds y) y.signed.own (All x) y.got y.acked.own y.number y.revocations os)
      (sym (owes x y [] [] (no_signature x y s) (no_revocation x y r) ∙ either x.late []))
      (record { has_all = there ∙ ap (λ m. take m x.own) e ∙ whole; knows = k; accepted = s; revoked = r })
  resumes_by (ASignature s e r k) =
      let knows : y.acked.own ≡ x.signed.peer = k ∙ sym
      (seen_now x.late x.number y.revocations x.signed.peer y.acked.own x.current.peer r (order s)) in
      subst (λ os. Reads (sender x) y.own (holds y) y.signed.own (All x) y.got y.acked.own y.number y.revocations os)
      (sym (owes x y (again_signed x) [] (a_signature x y s (one s)) (no_revocation x y r)
      ∙ either x.late (again_signed x) ∙ sym (append-nil (again_signed x))))
      (reads_again x y (All x) y.acked.own y.revocations [] fit seen (there ∙ ap (λ m. take m x.own) e
      ∙ ap (take x.acked.own) (sym whole)) s knows (record { has_all = whole; knows = k; accepted = s; revoked = r }))
  resumes_by (ARevocation s e r k) =
      subst (λ os. Reads (sender x) y.own (holds y) y.signed.own (All x) y.got y.acked.own y.number y.revocations os)
      (sym (owes x y [] (Revoke x.revocation ∷ []) (no_signature x y s) (a_revocation x y r)
      ∙ alone x.late (Revoke x.revocation ∷ []))) (
        record { named = refl; next = r; order = behind_accepted x.late y.number x.signatures s },
        record { has_all = there ∙ ap (λ m. take m x.own) e ∙ whole; knows = k; accepted = s; revoked = r },
      )
  resumes_by (SignatureAndRevocation s e r k) =
      subst (λ os. Reads (sender x) y.own (holds y) y.signed.own (All x) y.got y.acked.own y.number y.revocations os)
      (sym (owes x y (again_signed x) (Revoke x.revocation ∷ []) (a_signature x y s (one s)) (a_revocation x y r)))
      (reads_both x y x.late refl fit seen (there ∙ ap (λ m. take m x.own) e
      ∙ ap (take x.acked.own) (sym whole)) whole s r k (order s))

sent_one : (s a c : ℕ) (am sm current : Counts) → c + 1 ≡ s → Phase s a c am sm current → s ≡ a + 1
sent_one s a c am sm current e (Idle e1 e2 e3 e4 e5 e6) = absurd (omega (arith, e, e2))
sent_one s a c am sm current e (Sent e1 e2 e3 e4) = e1
sent_one s a c am sm current e (Answered e1 e2 e3 e4) = absurd (omega (arith, e, e2))

pub resumes : (lx ly : ConnectionState) (x y : Side) (ms ns : List Notice) → Flows lx ly x y ms → Flows ly lx y x ns
    → length x.own ≤ x.signed.own → length y.got ≤ y.current.peer
    → Reads (sender x) y.own (holds y) y.signed.own (All x) y.got y.acked.own y.number y.revocations
    (owed (y.number + 1) y.revocations x)
resumes lx ly x y ms ns f g cut_own cut_got =
    let fits : AllFit x.opening x.role [] (take x.signed.peer x.got) (holds y) (take x.signed.own x.own) =
    subst (λ h. AllFit x.opening x.role [] (take x.signed.peer x.got) h (take x.signed.own x.own))
    (held_there x y f.within.peer_acked f.within.peer_signed g.agree f.phase)
    (fit-all-held x.opening x.role [] (take x.signed.peer x.got) (take x.acked.peer x.got)
    (drop x.acked.peer (holds y)) (take x.signed.own x.own) f.fit_signed) in
    let seen : take x.signed.peer x.got ≡ take x.signed.peer y.own
    = sym (take-take x.signed.peer x.current.peer x.got f.within.peer_signed) ∙ ap (take x.signed.peer) g.agree
    ∙ take-take x.signed.peer x.current.peer y.own f.within.peer_signed in
    resumes_by x y fits seen (take_all x.signed.own x.own cut_own) (sym (take_all y.current.peer y.got cut_got)
    ∙ f.agree) f.order (λ e. sent_one x.signatures x.revocations y.number x.acked x.signed y.current e f.phase)
    (lacks x y f.phase g.phase)

quiet_when : (b : Bool) (m : Notice) → IsQuiet (m ∷ []) → IsQuiet (cond b (m ∷ []) [])
quiet_when true m q = q
quiet_when false m q = tt

quiet_tail : (b : Bool) (m : ShutdownMessage) (o : Option ClosingSigned)
    → IsQuiet (cond b (Shutdown m ∷ []) [] ++ closes_of o)
quiet_tail true m None = tt
quiet_tail true m (Some w) = tt
quiet_tail false m None = tt
quiet_tail false m (Some w) = tt

resumes_all : (x y : Side) → Reads (sender x) y.own (holds y) y.signed.own (All x) y.got y.acked.own y.number
    y.revocations (owed (y.number + 1) y.revocations x)
    → Reads (sender x) y.own (holds y) y.signed.own (All x) y.got y.acked.own y.number y.revocations
    (all_owed (y.number + 1) y.revocations x)
resumes_all x y h =
    let n = y.number + 1 in
    let tail = shutdown_again x ++ closes_of x.close_message in
    reads-quiet (sender x) y.own (holds y) y.signed.own (All x) y.got y.acked.own y.number y.revocations
    (ready_again n x) (owed n y.revocations x ++ tail)
    (quiet_when ((x.number == 0) && (n == 1) && x.ready) (Ready x.ready_message) tt)
    (reads-push (sender x) y.own (holds y) y.signed.own (All x) (All x) y.got y.acked.own y.number y.revocations
    (owed n y.revocations x) tail
    (λ g b d s l. subst (λ ms. Reads (sender x) y.own (holds y) y.signed.own (All x) g b d s ms) (append-nil tail)
    (reads-quiet (sender x) y.own (holds y) y.signed.own (All x) g b d s tail []
    (quiet_tail x.shut x.shut_message x.close_message) l)) h)

-- ---- x takes the reestablish

carries_owed : (ly : ConnectionState) (x y : Side) (to_y ms : List Notice) → Flows AwaitingReestablish ly x y to_y
    → Flows ly AwaitingReestablish y x ms
    → (ns : List Notice) → Carries AwaitingReestablish x y ns
    → Carries Connected x y (ns ++ all_owed (y.number + 1) y.revocations x)
carries_owed ly x y to_y ms f g [] h = resumes_all x y (resumes AwaitingReestablish ly x y to_y ms f g f.cut.0 h.1)
carries_owed ly x y to_y ms f g (m ∷ ns) h = absurd (cc (h.0))

pub kept_again : (ly : ConnectionState) (x y : Side) (m : ChannelReestablish) (ms to_y : List Notice)
    → y.reestablish.next_commitment_number ≡ y.number + 1 → y.reestablish.next_revocation_number ≡ y.revocations
    → BothFlow (record { x_link = AwaitingReestablish; y_link = ly; x = x; y = y; to_x = Again m ∷ ms; to_y = to_y })
    → BothFlow (record {
      x_link = Connected;
      y_link = ly;
      x = x;
      y = y;
      to_x = ms;
      to_y = posts ly (all_owed m.next_commitment_number m.next_revocation_number x) to_y;
    })
kept_again ly x y m ms to_y en er k =
    let f = k.there in
    let g = k.back in
    let n : m.next_commitment_number ≡ y.number + 1 =
    ap (λ (q : ChannelReestablish). q.next_commitment_number) g.flight.0 ∙ en in
    let r : m.next_revocation_number ≡ y.revocations =
    ap (λ (q : ChannelReestablish). q.next_revocation_number) g.flight.0 ∙ er in
    let told : all_owed (y.number + 1) y.revocations x ≡ all_owed m.next_commitment_number m.next_revocation_number x =
    ap (λ q. all_owed q y.revocations x) (sym n) ∙ ap (λ q. all_owed m.next_commitment_number q x) (sym r) in
    record {
      there = record {
        same = f.same;
        roles = f.roles;
        within = f.within;
        cut = tt;
        fit = f.fit;
        fit_signed = f.fit_signed;
        phase = f.phase;
        agree = f.agree;
        order = f.order;
        flight = subst (λ os. InFlight Connected ly x y (posts ly os to_y)) told
            (posted ly AwaitingReestablish Connected x x y (all_owed (y.number + 1) y.revocations x) to_y
            (same_front ly x x refl)
            (carries_owed ly x y to_y (Again m ∷ ms) f g) f.flight);
      };
      back = record {
        same = g.same;
        roles = g.roles;
        within = g.within;
        cut = g.cut;
        fit = g.fit;
        fit_signed = g.fit_signed;
        phase = g.phase;
        agree = g.agree;
        order = g.order;
        flight = g.flight.1;
      };
    }

-- ---- x goes down

take_twice : (n m : ℕ) (us : List Change) → n ≤ m → take n (take m us) ≡ take n us
take_twice n m us le = take-take n m us le

same_covered : (x : Side) → sender x ≡ sender (dropped x)
same_covered x = ap (λ us. record {
  opening = x.opening;
  role = x.role;
  covered = us;
  seen = x.signed.peer;
  signatures = x.signatures;
  number = x.number;
  late = x.late;
  signature = x.signature;
  revocation = x.revocation;
})
    (sym (take-take x.signed.own x.signed.own x.own (omega arith)))

carries_down : (lx : ConnectionState) (x y : Side) (ms : List Notice) → Carries lx x y ms
    → Carries Down (dropped x) y ms
carries_down Down x y ms h = reads-same (sender x) (sender (dropped x)) y.own (holds y) y.signed.own Anywhere y.got
    y.acked.own y.number y.revocations ms (same_covered x) h
carries_down AwaitingReestablish x y [] h = tt
carries_down AwaitingReestablish x y (m ∷ ms) h = absurd (cc (h.0))
carries_down Connected x y ms h =
    reads-same (sender x) (sender (dropped x)) y.own (holds y) y.signed.own Anywhere y.got y.acked.own y.number
    y.revocations ms (same_covered x)
    (reads-to (sender x) y.own (holds y) y.signed.own (All x) Anywhere y.got y.acked.own y.number
    y.revocations ms (λ g b d s l. tt) h)

pub kept_down : (b : Both) → BothFlow b → BothFlow (goes_down b)
kept_down b k =
    let x = b.x in
    let y = b.y in
    let f = k.there in
    let g = k.back in
    let w = f.within in
    let n = dropped x in
    let held : take x.acked.peer (take x.current.peer x.got) ≡ take x.acked.peer x.got =
    take-take x.acked.peer x.current.peer x.got (omega (arith, w.peer_acked, w.peer_signed)) in
    let own : length (take x.signed.own x.own) ≡ x.signed.own = length-take-le x.signed.own x.own w.own_signed in
    let got : length (take x.current.peer x.got) ≡ x.current.peer =
    length-take-le x.current.peer x.got w.peer_current in
    let le : y.current.peer ≤ x.signed.own = current_own x.signatures x.revocations y.number x.acked x.signed
    y.current w.own_acked f.phase in
    record {
      there = record {
        same = f.same;
        roles = f.roles;
        within = record {
          own_current = w.own_current;
          own_acked = w.own_acked;
          own_signed = omega (arith, own);
          peer_acked = w.peer_acked;
          peer_signed = w.peer_signed;
          peer_current = omega (arith, got);
        };
        cut = (omega (arith, own), omega (arith, got));
        fit = subst (λ p. AllFit x.opening x.role [] p (take x.acked.peer (take x.current.peer x.got))
            (take x.signed.own x.own)) (sym (take-take x.current.peer x.current.peer x.got (omega arith)))
            (subst (λ h. AllFit x.opening x.role [] (take x.current.peer x.got) h (take x.signed.own x.own)) (sym held)
            (fit-take x.opening x.role [] (take x.current.peer x.got) (take x.acked.peer x.got)
            x.own x.signed.own f.fit));
        fit_signed = subst (λ p. AllFit x.opening x.role [] p (take x.acked.peer (take x.current.peer x.got))
            (take x.signed.own (take x.signed.own x.own)))
            (sym (take-take x.signed.peer x.current.peer x.got w.peer_signed))
            (subst (λ h. AllFit x.opening x.role [] (take x.signed.peer x.got) h
            (take x.signed.own (take x.signed.own x.own))) (sym held)
            (fit-take x.opening x.role [] (take x.signed.peer x.got) (take x.acked.peer x.got) (take x.signed.own x.own)
            x.signed.own f.fit_signed));
        phase = f.phase;
        agree = f.agree ∙ sym (take-take y.current.peer x.signed.own x.own le);
        order = f.order;
        flight = passed b.y_link b.x_link Down x n y b.to_y (same_front b.y_link x n refl)
            (carries_down b.x_link x y) f.flight;
      };
      back = record {
        same = g.same;
        roles = g.roles;
        within = g.within;
        cut = g.cut;
        fit = g.fit;
        fit_signed = g.fit_signed;
        phase = g.phase;
        agree = take-take x.current.peer x.current.peer x.got (omega arith)
            ∙ g.agree;
        order = g.order;
        flight = refl;
      };
    }

-- ---- both come up

up_flows : (x y : Side) → Flows Down Down x y [] → Flows Down Down y x []
    → Flows AwaitingReestablish AwaitingReestablish x y (Again x.reestablish ∷ [])
up_flows x y f g = record {
  same = f.same;
  roles = f.roles;
  within = f.within;
  cut = f.cut;
  fit = f.fit;
  fit_signed = f.fit_signed;
  phase = f.phase;
  agree = f.agree;
  order = f.order;
  flight = (refl, (refl, g.cut.1));
}

pub kept_up : (x y : Side) → BothFlow (record { x_link = Down; y_link = Down; x = x; y = y; to_x = []; to_y = [] })
    → BothFlow (comes_up (record { x_link = Down; y_link = Down; x = x; y = y; to_x = []; to_y = [] }))
kept_up x y k = record { there = up_flows x y k.there k.back; back = up_flows y x k.back k.there }
