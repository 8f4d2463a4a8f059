-- channel_ready and shutdown, where a connection is lost and comes back.
use Rattle.std.proofs.Common.{◌≡◌, ◌⊎◌, inl, inr, ℕ, zero, suc, ◌+◌, ◌≤◌, ◌==◌, ◌&&◌, List, [], ◌∷◌, ◌++◌, length, take}
use Rattle.std.proofs.Common.{drop, refl, sym, ap, ◌∙◌, subst, arith, append_assoc, Bool, true, false, cond}
use Rattle.std.proofs.lemmas.List.{length-take-le}
use Rattle.std.proofs.lemmas.Bool.{ne_eqb}
use Rattle.ln_log.specs.declared.update.Update.{Update as Change}
use Rattle.ln_log.specs.Log.{Counts}
use Rattle.ln_msgs.specs.declared.messages.commitments.ChannelReestablish.{ChannelReestablish}
use Rattle.ln_channel.specs.declared.machine.ConnectionState.{ConnectionState}
use Rattle.ln_channel.specs.declared.machine.ConnectionState.TheVariants.{Down, AwaitingReestablish, Connected}
use Rattle.std.specs.Prelude.{Option, Some, None, is_some}
use Rattle.ln_msgs.specs.declared.messages.closing.ClosingSigned.{ClosingSigned}
use Rattle.ln_channel_laws.proofs.Flight.Sides.{closes_of}
use Rattle.ln_channel_laws.proofs.Flight.Sides.{Both, opens, Notice, Sign, Revoke, Ready, Shutdown, Again, Side, posts}
use Rattle.ln_channel_laws.proofs.Flight.Sides.{dropped}
use Rattle.ln_channel_laws.proofs.Flight.Sides.{updates_of, again_signed, signature_owed, revocation_owed, owed}
use Rattle.ln_channel_laws.proofs.Flight.Sides.{ready_again}
use Rattle.ln_channel_laws.proofs.Flight.Sides.{shutdown_again, all_owed, goes_down, comes_up}
use Rattle.ln_channel_laws.proofs.Flight.Walk.{Phase, Idle, Sent, Answered, Flows, BothFlow}
use Rattle.ln_channel_laws.proofs.Readiness.ReadinessInFlight.{IsAllowed, NoneOpens, ReadinessOf}
use Rattle.ln_channel_laws.proofs.Readiness.ReadinessInFlight.{ReadsReadiness, AllReadiness, readiness_of}
use Rattle.ln_channel_laws.proofs.Readiness.ReadinessInFlight.{CarriesReadiness, ReadinessFlight}
use Rattle.ln_channel_laws.proofs.Readiness.ReadinessInFlight.{IsReady, ReadinessFlow}
use Rattle.ln_channel_laws.proofs.Readiness.ReadinessInFlight.{BothReadiness}
use Rattle.ln_channel_laws.proofs.Readiness.ReadinessOverActs.{readiness-any, spoken, silent, none-take, ready_same}
use Rattle.ln_channel_laws.proofs.Flight.WalkOverBreaks.{Lacks, Nothing, ASignature, ARevocation}
use Rattle.ln_channel_laws.proofs.Flight.WalkOverBreaks.{SignatureAndRevocation, lacks}

-- ---- x goes down, and both come up

tells_down : (lx : ConnectionState) (x y : Side) (ms : List Notice) → CarriesReadiness lx x y ms
    → CarriesReadiness Down (dropped x) y ms
tells_down Down x y ms h = h
tells_down AwaitingReestablish x y [] h = tt
tells_down AwaitingReestablish x y (m ∷ ms) h = absurd (cc h)
tells_down Connected x y ms h = readiness-any (readiness_of x y)
    (AllReadiness x.ready x.shut y.closed) y.peer_ready y.peer_shut ms h

pub readiness_down : (b : Both) → b.x.signed.own ≤ length b.x.own → BothReadiness b → BothReadiness (goes_down b)
readiness_down b le k =
    let x = b.x in
    let f = k.there in
    let g = k.back in
    let n = dropped x in
    record {
      there = record {
        ready_sent = f.ready_sent;
        shut_sent = f.shut_sent;
        used = λ e. ready_same x n refl refl (f.used (omega (arith, e, length-take-le x.signed.own x.own le, le)));
        used_signature = λ e. ready_same x n refl refl (f.used_signature e);
        used_number = λ e. ready_same x n refl refl (f.used_number e);
        shut = λ e. none-take x.acked.own x.signed.own x.own (f.shut e);
        flight = silent b.y_link b.x_link Down x n b.y b.to_y (tells_down b.x_link x b.y) f.flight;
      };
      back = record {
        ready_sent = g.ready_sent;
        shut_sent = g.shut_sent;
        used = g.used;
        used_signature = g.used_signature;
        used_number = g.used_number;
        shut = g.shut;
        flight = refl;
      };
    }

up_told : (x y : Side) (ms : List Notice) → ReadinessFlow Down Down x y ms
    → ReadinessFlow AwaitingReestablish AwaitingReestablish x y (Again x.reestablish ∷ [])
up_told x y ms f = record {
  ready_sent = f.ready_sent;
  shut_sent = f.shut_sent;
  used = f.used;
  used_signature = f.used_signature;
  used_number = f.used_number;
  shut = f.shut;
  flight = refl;
}

pub readiness_up : (x y : Side) (to_x to_y : List Notice)
    → BothReadiness (record { x_link = Down; y_link = Down; x = x; y = y; to_x = to_x; to_y = to_y })
    → BothReadiness (comes_up (record { x_link = Down; y_link = Down; x = x; y = y; to_x = to_x; to_y = to_y }))
readiness_up x y to_x to_y k = record { there = up_told x y to_y k.there; back = up_told y x to_x k.back }

-- ---- x takes the reestablish

-- what may be said without harm, whatever is said after it
abbrev Harmless : ReadinessOf → (Bool → Bool → Type 0) → Bool → Bool → List Notice → Type 0
Harmless t Q r s ms = (ns : List Notice) → ReadsReadiness t Q r s ns → ReadsReadiness t Q r s (ms ++ ns)

harmless-both : (t : ReadinessOf) (Q : Bool → Bool → Type 0) (r s : Bool) (ms os : List Notice) → Harmless t Q r s ms
    → Harmless t Q r s os → Harmless t Q r s (ms ++ os)
harmless-both t Q r s ms os f g ns h = subst (λ m. ReadsReadiness t Q r s m)
    (sym (append_assoc ms os ns)) (f (os ++ ns) (g ns h))

allowed_when : (o s : Bool) → (s ≡ true → o ≡ false) → IsAllowed o s
allowed_when false s f = tt
allowed_when true true f = absurd (let e : true ≡ false = f refl in cc)
allowed_when true false f = refl

harmless-updates : (t : ReadinessOf) (Q : Bool → Bool → Type 0) (r s : Bool) (us : List Change) → r ≡ true
    → t.peer_ready ≡ true → (s ≡ true → NoneOpens us) → Harmless t Q r s (updates_of us)
harmless-updates t Q r s [] e f g ns h = h
harmless-updates t Q r s (u ∷ us) e f g ns h =
    (e, f, allowed_when (opens u) s (λ d. (g d).0), harmless-updates t Q r s us e f (λ d. (g d).1) ns h)

harmless-signature : (x y : Side) (Q : Bool → Bool → Type 0) (r : Bool)
    → (y.number ≡ x.signatures) ⊎ ((r ≡ true) × (y.ready ≡ true))
    → (y.peer_shut ≡ true → NoneOpens (drop x.acked.own (take x.signed.own x.own)))
    → Harmless (readiness_of x y) Q r y.peer_shut (signature_owed (y.number + 1) x)
harmless-signature x y Q r (inl e) g ns h = subst (λ ms. ReadsReadiness (readiness_of x y) Q r y.peer_shut (ms ++ ns))
    (sym (ap (λ b. cond (b && (x.signatures == x.revocations + 1)) (again_signed x) [])
    (ne_eqb (y.number + 1) x.signatures (λ f. omega (arith, e, f))))) h
harmless-signature x y Q r (inr e) g ns h = when ((y.number + 1 == x.signatures) && (x.signatures == x.revocations + 1))
  where
    when : (b : Bool) → ReadsReadiness (readiness_of x y) Q r y.peer_shut (cond b (again_signed x) [] ++ ns)
    when false = h
    when true = harmless-both (readiness_of x y) Q r y.peer_shut
        (updates_of (drop x.acked.own (take x.signed.own x.own)))
        (Sign x.signature ∷ []) (harmless-updates (readiness_of x y) Q r y.peer_shut
        (drop x.acked.own (take x.signed.own x.own)) e.0 e.1 g) (λ os k. (e.0, e.1, k)) ns h

harmless-revocation : (x : Side) (t : ReadinessOf) (Q : Bool → Bool → Type 0) (r s : Bool) (k : ℕ)
    → Harmless t Q r s (revocation_owed k x)
harmless-revocation x t Q r s k ns h = when (k + 1 == x.number)
  where
    when : (b : Bool) → ReadsReadiness t Q r s (cond b (Revoke x.revocation ∷ []) [] ++ ns)
    when true = h
    when false = h

harmless-order : (l : Bool) (t : ReadinessOf) (Q : Bool → Bool → Type 0) (r s : Bool) (ms os : List Notice)
    → Harmless t Q r s ms → Harmless t Q r s os → Harmless t Q r s (cond l (ms ++ os) (os ++ ms))
harmless-order true t Q r s ms os f g = harmless-both t Q r s ms os f g
harmless-order false t Q r s ms os f g = harmless-both t Q r s os ms g f

-- what y has taken, where x says it again only at the first commitments
readiness_already : (b : Bool) (ready peer_ready : Bool) → b ≡ peer_ready → (peer_ready ≡ true → ready ≡ true)
    → (ready ≡ true → peer_ready ≡ true) → b ≡ ready
readiness_already b true true e f g = e
readiness_already b true false e f g = absurd (let d : false ≡ true = g refl in cc)
readiness_already b false true e f g = absurd (let d : false ≡ true = f refl in cc)
readiness_already b false false e f g = e

and_true : (a b c : Bool) → (a && b && c) ≡ true → c ≡ true
and_true true true c e = e
and_true true false c e = absurd (cc)
and_true false b c e = absurd (cc)

first_numbers : (n m : ℕ) (r : Bool) → n ≡ 0 → m ≡ 0 → r ≡ true → ((m == 0) && (n + 1 == 1) && r) ≡ true
first_numbers n m r e f g = ap (λ k. (m == 0) && (k + 1 == 1) && r) e ∙ ap (λ k. (k == 0) && (0 + 1 == 1) && r) f
    ∙ ap (λ b. (0 == 0) && (0 + 1 == 1) && b) g

says_ready : (x y : Side) (Q : Bool → Bool → Type 0) (ns : List Notice)
    → (x.ready ≡ true → (y.peer_ready ≡ true) ⊎ ((y.number ≡ 0) × (x.number ≡ 0)))
    → (y.peer_ready ≡ true → x.ready ≡ true)
    → ((r : Bool) → r ≡ x.ready → ReadsReadiness (readiness_of x y) Q r y.peer_shut ns)
    → ReadsReadiness (readiness_of x y) Q y.peer_ready y.peer_shut (ready_again (y.number + 1) x ++ ns)
says_ready x y Q ns again sent f = when ((x.number == 0) && (y.number + 1 == 1) && x.ready) refl
  where
    taken : (false ≡ ((x.number == 0) && (y.number + 1 == 1) && x.ready)) → x.ready ≡ true
        → (y.peer_ready ≡ true) ⊎ ((y.number ≡ 0) × (x.number ≡ 0)) → y.peer_ready ≡ true
    taken e r (inl h) = h
    taken e r (inr h) = absurd (let d : false ≡ true = e ∙ first_numbers y.number x.number x.ready h.0 h.1 r in cc)

    when : (b : Bool) → b ≡ ((x.number == 0) && (y.number + 1 == 1) && x.ready)
        → ReadsReadiness (readiness_of x y) Q y.peer_ready y.peer_shut (cond b (Ready x.ready_message ∷ []) [] ++ ns)
    when true e = let r : x.ready ≡ true = and_true (x.number == 0) (y.number + 1 == 1) x.ready (sym e) in
        (r, refl, f true (sym r))
    when false e = f y.peer_ready (readiness_already y.peer_ready x.ready y.peer_ready refl sent
        (λ r. taken e r (again r)))

-- a closed end needn't know it
says_ready_closed : (x y : Side) (Q : Bool → Bool → Type 0) (ns : List Notice)
    → ((r : Bool) → ReadsReadiness (readiness_of x y) Q r y.peer_shut ns)
    → ReadsReadiness (readiness_of x y) Q y.peer_ready y.peer_shut (ready_again (y.number + 1) x ++ ns)
says_ready_closed x y Q ns f = when ((x.number == 0) && (y.number + 1 == 1) && x.ready) refl
  where
    when : (b : Bool) → b ≡ ((x.number == 0) && (y.number + 1 == 1) && x.ready)
        → ReadsReadiness (readiness_of x y) Q y.peer_ready y.peer_shut (cond b (Ready x.ready_message ∷ []) [] ++ ns)
    when true e = let r : x.ready ≡ true = and_true (x.number == 0) (y.number + 1 == 1) x.ready (sym e) in
        (r, refl, f true)
    when false e = f y.peer_ready

says_closes : (x y : Side) (Q : Bool → Bool → Type 0) (r s : Bool) (o : Option ClosingSigned) → x.close_message ≡ o
    → Q r s → ReadsReadiness (readiness_of x y) Q r s (closes_of o)
says_closes x y Q r s None e h = h
says_closes x y Q r s (Some m) e h = (ap (λ (q : Option ClosingSigned). is_some q) e, h)

says_tail : (x y : Side) (r : Bool) → (y.closed ≡ false → r ≡ x.ready) → (y.peer_shut ≡ true → x.shut ≡ true)
    → ReadsReadiness (readiness_of x y) (AllReadiness x.ready x.shut y.closed) r y.peer_shut
    (shutdown_again x ++ closes_of x.close_message)
says_tail x y r e sent = when x.shut refl
  where
    none : (s p : Bool) → (p ≡ true → s ≡ true) → s ≡ false → p ≡ s
    none true p f d = absurd (cc)
    none false true f d = absurd (let g : false ≡ true = f refl in cc)
    none false false f d = refl

    when : (b : Bool) → b ≡ x.shut → ReadsReadiness (readiness_of x y) (AllReadiness x.ready x.shut y.closed) r
        y.peer_shut
        (cond b (Shutdown x.shut_message ∷ []) [] ++ closes_of x.close_message)
    when true d = (
      sym d,
      refl,
      says_closes x y (AllReadiness x.ready x.shut y.closed) r true x.close_message refl
          (e, d),
    )
    when false d = says_closes x y (AllReadiness x.ready x.shut y.closed) r y.peer_shut x.close_message refl (
      e,
      none x.shut y.peer_shut sent (sym d),
    )

-- whether y has taken channel_ready, or neither side has a commitment after the first
ready_known : (x y : Side) (lx ly : ConnectionState) (ms ns : List Notice) → ReadinessFlow lx ly x y ms
    → ReadinessFlow ly lx y x ns
    → x.number ≤ y.signatures → (n m : ℕ) → n ≡ y.number → m ≡ x.number
    → (y.peer_ready ≡ true) ⊎ ((y.number ≡ 0) × (x.number ≡ 0))
ready_known x y lx ly ms ns f g le zero zero e d = inr (sym e, sym d)
ready_known x y lx ly ms ns f g le zero (suc m) e d = inl (g.used_signature (omega (arith, d, le))).taken
ready_known x y lx ly ms ns f g le (suc n) m e d = inl (g.used_number (omega (arith, e))).taken

number_signed : (s a c : ℕ) (am sm current : Counts) → Phase s a c am sm current → c ≤ s
number_signed s a c am sm current (Idle e1 e2 e3 e4 e5 e6) = omega (arith, e2)
number_signed s a c am sm current (Sent e1 e2 e3 e4) = omega (arith, e1, e2)
number_signed s a c am sm current (Answered e1 e2 e3 e4) = omega (arith, e2)

-- whether the signature was accepted, or is owed by a side that is ready
owed_when_ready : (x y : Side) (r : Bool) → r ≡ x.ready → (1 ≤ x.signatures → IsReady x)
    → (x.peer_ready ≡ true → y.ready ≡ true) → Lacks x y → (y.number ≡ x.signatures) ⊎ ((r ≡ true) × (y.ready ≡ true))
owed_when_ready x y r e f g (Nothing s i v j) = inl s
owed_when_ready x y r e f g (ASignature s i v j) = let h = f (omega (arith, s)) in inr (e ∙ h.sent, g h.taken)
owed_when_ready x y r e f g (ARevocation s i v j) = inl s
owed_when_ready x y r e f g (SignatureAndRevocation s i v j) = let h = f (omega (arith, s)) in
    inr (e ∙ h.sent, g h.taken)

-- where y is closed no signature is owed
says_again_by : (c : Bool) (lx ly : ConnectionState) (x y : Side) (ms ns os ps : List Notice) → y.closed ≡ c
    → (y.closed ≡ true → y.number ≡ x.signatures) → Flows lx ly x y os → Flows ly lx y x ps → ReadinessFlow lx ly x y ms
    → ReadinessFlow ly lx y x ns → ReadsReadiness (readiness_of x y) (AllReadiness x.ready x.shut y.closed)
    y.peer_ready y.peer_shut
    (all_owed (y.number + 1) y.revocations x)
says_again_by true lx ly x y ms ns os ps is over p q f g =
    let Q = AllReadiness x.ready x.shut y.closed in
    let tail = shutdown_again x ++ closes_of x.close_message in
    says_ready_closed x y Q (owed (y.number + 1) y.revocations x ++ tail) (λ r.
    harmless-order x.late (readiness_of x y) Q r y.peer_shut (signature_owed (y.number + 1) x)
    (revocation_owed y.revocations x)
    (harmless-signature x y Q r (inl (over is)) (λ e. none-take x.acked.own x.signed.own x.own
    (f.shut (f.shut_sent e))))
    (harmless-revocation x (readiness_of x y) Q r y.peer_shut y.revocations)
    tail (says_tail x y r (λ e. absurd (let no : true ≡ false = sym is ∙ e in cc)) f.shut_sent))
says_again_by false lx ly x y ms ns os ps is over p q f g =
    let known : x.ready ≡ true → (y.peer_ready ≡ true) ⊎ ((y.number ≡ 0) × (x.number ≡ 0)) =
    λ e. ready_known x y lx ly ms ns f g (number_signed y.signatures y.revocations x.number y.acked y.signed x.current
    q.phase) y.number x.number refl refl in
    let Q = AllReadiness x.ready x.shut y.closed in
    let tail = shutdown_again x ++ closes_of x.close_message in
    says_ready x y Q (owed (y.number + 1) y.revocations x ++ tail) known f.ready_sent (λ r e.
    harmless-order x.late (readiness_of x y) Q r y.peer_shut (signature_owed (y.number + 1) x)
    (revocation_owed y.revocations x)
    (harmless-signature x y Q r (owed_when_ready x y r e f.used_signature g.ready_sent (lacks x y p.phase q.phase))
    (λ e. none-take x.acked.own x.signed.own x.own (f.shut (f.shut_sent e))))
    (harmless-revocation x (readiness_of x y) Q r y.peer_shut y.revocations)
    tail (says_tail x y r (λ c. e) f.shut_sent))

speaks_owed : (ly : ConnectionState) (x y : Side) (ms ns os ps : List Notice) → (y.closed ≡ true
    → y.number ≡ x.signatures)
    → Flows AwaitingReestablish ly x y os → Flows ly AwaitingReestablish y x ps
    → ReadinessFlow AwaitingReestablish ly x y ms → ReadinessFlow ly AwaitingReestablish y x ns → (qs : List Notice)
    → CarriesReadiness AwaitingReestablish x y qs
    → CarriesReadiness Connected x y (qs ++ all_owed (y.number + 1) y.revocations x)
speaks_owed ly x y ms ns os ps over p q f g [] h = says_again_by y.closed AwaitingReestablish ly x y ms ns os ps
    refl over p q f g
speaks_owed ly x y ms ns os ps over p q f g (m ∷ qs) h = absurd (cc h)

pub readiness_again : (ly : ConnectionState) (x y : Side) (m : ChannelReestablish) (ms to_y : List Notice)
    → (y.closed ≡ true → y.number ≡ x.signatures)
    → y.reestablish.next_commitment_number ≡ y.number + 1 → y.reestablish.next_revocation_number ≡ y.revocations
    → BothFlow (record { x_link = AwaitingReestablish; y_link = ly; x = x; y = y; to_x = Again m ∷ ms; to_y = to_y })
    → BothReadiness (record {
      x_link = AwaitingReestablish;
      y_link = ly;
      x = x;
      y = y;
      to_x = Again m ∷ ms;
      to_y =
          to_y;
    })
    → BothReadiness (record {
      x_link = Connected;
      y_link = ly;
      x = x;
      y = y;
      to_x = ms;
      to_y = posts ly (all_owed m.next_commitment_number m.next_revocation_number x) to_y;
    })
readiness_again ly x y m ms to_y over en er k t =
    let f = t.there in
    let g = t.back in
    let n : m.next_commitment_number ≡ y.number + 1 =
    ap (λ (q : ChannelReestablish). q.next_commitment_number) k.back.flight.0 ∙ en in
    let r : m.next_revocation_number ≡ y.revocations =
    ap (λ (q : ChannelReestablish). q.next_revocation_number) k.back.flight.0 ∙ er in
    let same : all_owed (y.number + 1) y.revocations x ≡ all_owed m.next_commitment_number m.next_revocation_number x =
    ap (λ q. all_owed q y.revocations x) (sym n) ∙ ap (λ q. all_owed m.next_commitment_number q x) (sym r) in
    record {
      there = record {
        ready_sent = f.ready_sent;
        shut_sent = f.shut_sent;
        used = f.used;
        used_signature = f.used_signature;
        used_number = f.used_number;
        shut = f.shut;
        flight = subst (λ os. ReadinessFlight Connected ly x y (posts ly os to_y)) same
            (spoken ly AwaitingReestablish Connected x x y (all_owed (y.number + 1) y.revocations x) to_y
            (speaks_owed ly x y to_y (Again m ∷ ms) to_y (Again m ∷ ms) over k.there k.back f g) f.flight);
      };
      back = record {
        ready_sent = g.ready_sent;
        shut_sent = g.shut_sent;
        used = g.used;
        used_signature = g.used_signature;
        used_number = g.used_number;
        shut = g.shut;
        flight = g.flight;
      };
    }
