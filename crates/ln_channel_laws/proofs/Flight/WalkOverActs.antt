-- What every step keeps.
use Rattle.ln_log.specs.declared.opening.Opening.{Opening}
use Rattle.ln_keys.specs.declared.role.Role.{Role}
use Rattle.std.proofs.Common.{◌≡◌, ℕ, zero, suc, ◌+◌, ◌≤◌, List, [], ◌∷◌, ◌++◌, length, take, drop, refl, sym, ap, ◌∙◌}
use Rattle.std.proofs.Common.{subst, arith, append_assoc, append-nil, length-append, Bool, true, false}
use Rattle.std.proofs.lemmas.List.{take-take, take-append-le, take-append-drop, length-take-le, take_all}
use Rattle.ln_log.specs.declared.update.Update.{Update as Change}
use Rattle.ln_log.specs.Log.{Counts}
use Rattle.ln_msgs.specs.declared.messages.commitments.CommitmentSigned.{CommitmentSigned}
use Rattle.ln_msgs.specs.declared.messages.commitments.RevokeAndAck.{RevokeAndAck}
use Rattle.ln_msgs.specs.declared.messages.commitments.ChannelReestablish.{ChannelReestablish}
use Rattle.ln_msgs.specs.declared.messages.opening.ChannelReady.{ChannelReady}
use Rattle.ln_msgs.specs.declared.messages.closing.ClosingSigned.{ClosingSigned}
use Rattle.ln_msgs.specs.declared.messages.closing.Shutdown.{Shutdown as ShutdownMessage}
use Rattle.ln_channel.specs.declared.machine.ConnectionState.{ConnectionState}
use Rattle.ln_channel.specs.declared.machine.ConnectionState.TheVariants.{Down, AwaitingReestablish, Connected}
use Rattle.std.specs.Prelude.{Option, Some, None}
use Rattle.ln_channel_laws.proofs.Flight.Sides.{dealt, closes_of}
use Rattle.ln_channel_laws.proofs.Flight.Sides.{confirms, shuts, Ready, Shutdown, Close, Notice, Update, Sign, Revoke}
use Rattle.ln_channel_laws.proofs.Flight.Sides.{Again}
use Rattle.ln_channel_laws.proofs.Flight.Sides.{Side, posts, proposed, signed_all, received, accepted_all}
use Rattle.ln_channel_laws.proofs.Flight.Sides.{acknowledged_all, proposes, signs}
use Rattle.ln_channel_laws.proofs.Flight.Walk.{holds, Reads, FitsBehind, AllFit, Phase, Idle, Sent, Answered, InOrder}
use Rattle.ln_channel_laws.proofs.Flight.Walk.{sender}
use Rattle.ln_channel_laws.proofs.Flight.Walk.{IsDue}
use Rattle.ln_channel_laws.proofs.Flight.Walk.{IsBehind, IsNext, LacksNothing, Anywhere, Carries, InFlight, Flows}
use Rattle.ln_channel_laws.proofs.Flight.Walk.{BothFlow}
use Rattle.ln_channel_laws.proofs.Flight.Reading.{fits-more, fits-held, reads-held, reads-push, reads-proposed}
use Rattle.ln_channel_laws.proofs.Flight.Reading.{reads-signed}
use Rattle.ln_channel_laws.proofs.Flight.Reading.{reads-signing, reads-learned, reads-accepting, reads-same}

-- ---- limits

pub fit-push : (o : Opening) (r : Role) (before seen held us : List Change) (u : Change)
    → AllFit o r before seen held us → FitsBehind o r (before ++ us) seen held u
    → AllFit o r before seen held (us ++ u ∷ [])
fit-push o r before seen held [] u h f = (subst (λ b. FitsBehind o r b seen held u) (append-nil before) f, tt)
fit-push o r before seen held (v ∷ us) u h f = (
  h.0,
  fit-push o r (before ++ v ∷ []) seen held us u h.1
      (subst (λ b. FitsBehind o r b seen held u) (sym (append_assoc before (v ∷ []) us)) f),
)

pub fit-all-more : (o : Opening) (r : Role) (before p q held us : List Change) → AllFit o r before p held us
    → AllFit o r before (p ++ q) held us
fit-all-more o r before p q held [] h = tt
fit-all-more o r before p q held (u ∷ us) h =
    (fits-more o r before p q held u h.0, fit-all-more o r (before ++ u ∷ []) p q held us h.1)

pub fit-all-held : (o : Opening) (r : Role) (before p h k us : List Change) → AllFit o r before p h us
    → AllFit o r before p (h ++ k) us
fit-all-held o r before p h k [] f = tt
fit-all-held o r before p h k (u ∷ us) f = (
  fits-held o r before p h k u f.0,
  fit-all-held o r (before ++ u ∷ []) p h k us f.1,
)

pub fit-take : (o : Opening) (r : Role) (before seen held us : List Change) (n : ℕ) → AllFit o r before seen held us
    → AllFit o r before seen held (take n us)
fit-take o r before seen held us zero h = tt
fit-take o r before seen held [] (suc n) h = tt
fit-take o r before seen held (u ∷ us) (suc n) h = (h.0, fit-take o r (before ++ u ∷ []) seen held us n h.1)

pub fit-behind : (o : Opening) (r : Role) (before seen held us vs : List Change)
    → AllFit o r before seen held (us ++ vs) → AllFit o r (before ++ us) seen held vs
fit-behind o r before seen held [] vs h = subst (λ b. AllFit o r b seen held vs) (sym (append-nil before)) h
fit-behind o r before seen held (u ∷ us) vs h =
    subst (λ b. AllFit o r b seen held vs) (append_assoc before (u ∷ []) us)
    (fit-behind o r (before ++ u ∷ []) seen held us vs h.1)

-- a longer front is a front and more
pub longer : (m n : ℕ) (us : List Change) → m ≤ n → take m us ++ drop m (take n us) ≡ take n us
longer m n us le = ap (λ p. p ++ drop m (take n us)) (sym (take-take m n us le)) ∙ take-append-drop m (take n us)

-- ---- counts

-- y's commitment covers no more than x signed
pub current_own : (s a c : ℕ) (acked signed current : Counts) → acked.own ≤ signed.own
    → Phase s a c acked signed current → current.peer ≤ signed.own
current_own s a c acked signed current le (Idle e1 e2 e3 e4 e5 e6) = omega (arith, e5)
current_own s a c acked signed current le (Sent e1 e2 e3 e4) = omega (arith, e3, le)
current_own s a c acked signed current le (Answered e1 e2 e3 e4) = omega (arith, e3)

pub current_peer : (s a c : ℕ) (acked signed current : Counts) → acked.peer ≤ signed.peer
    → Phase s a c acked signed current → current.own ≤ signed.peer
current_peer s a c acked signed current le (Idle e1 e2 e3 e4 e5 e6) = omega (arith, e6)
current_peer s a c acked signed current le (Sent e1 e2 e3 e4) = omega (arith, e4, le)
current_peer s a c acked signed current le (Answered e1 e2 e3 e4) = omega (arith, e3, e4)

-- what was acknowledged to x of y's updates stands in y's commitment
pub acked_there : (s a c : ℕ) (acked signed current : Counts) → acked.peer ≤ signed.peer
    → Phase s a c acked signed current → acked.peer ≤ current.own
acked_there s a c acked signed current le (Idle e1 e2 e3 e4 e5 e6) = omega (arith, e4, e6)
acked_there s a c acked signed current le (Sent e1 e2 e3 e4) = omega (arith, e4)
acked_there s a c acked signed current le (Answered e1 e2 e3 e4) = omega (arith, e4, le)

-- so what x holds of them begins that
pub held_there : (x y : Side) → x.acked.peer ≤ x.signed.peer → x.signed.peer ≤ x.current.peer
    → take x.current.peer x.got ≡ take x.current.peer y.own
    → Phase x.signatures x.revocations y.number x.acked x.signed y.current
    → take x.acked.peer x.got ++ drop x.acked.peer (holds y) ≡ holds y
held_there x y l m agree p =
    let same : take x.acked.peer x.got ≡ take x.acked.peer y.own =
    sym (take-take x.acked.peer x.current.peer x.got (omega (arith, l, m))) ∙ ap (take x.acked.peer) agree
    ∙ take-take x.acked.peer x.current.peer y.own (omega (arith, l, m)) in
    ap (λ q. q ++ drop x.acked.peer (holds y)) same
    ∙ longer x.acked.peer y.current.own y.own (acked_there x.signatures x.revocations y.number
    x.acked x.signed y.current l p)

pub signed_is : (s a c : ℕ) (am sm current : Counts) → c ≡ s → Phase s a c am sm current
    → (current.peer ≡ sm.own) × (current.own ≡ sm.peer)
signed_is s a c am sm current e (Idle e1 e2 e3 e4 e5 e6) = (e5, e6)
signed_is s a c am sm current e (Sent e1 e2 e3 e4) = absurd (omega (arith, e, e1, e2))
signed_is s a c am sm current e (Answered e1 e2 e3 e4) = (e3, e4)

pub number_is : (s a c : ℕ) (am sm current : Counts) → (s ≡ a + 1 → ⊥) → Phase s a c am sm current → c ≡ s
number_is s a c am sm current n (Idle e1 e2 e3 e4 e5 e6) = e2
number_is s a c am sm current n (Sent e1 e2 e3 e4) = absurd (n e1)
number_is s a c am sm current n (Answered e1 e2 e3 e4) = absurd (n e1)

-- ---- what is in flight, where x changes

-- an end that waits knows of x what x was as it came up
abbrev pub SameFront : ConnectionState → Side → Side → Type 0
SameFront Down x n = Unit {0}
SameFront AwaitingReestablish x n = n.reestablish ≡ x.reestablish
SameFront Connected x n = Unit {0}

-- x sends
pub posted : (ly lx ln : ConnectionState) (x n y : Side) (sent ms : List Notice) → SameFront ly x n
    → ((ns : List Notice) → Carries lx x y ns → Carries ln n y (ns ++ sent)) → InFlight lx ly x y ms
    → InFlight ln ly n y (posts ly sent ms)
posted Down lx ln x n y sent ms f h e = e
posted AwaitingReestablish lx ln x n y sent [] f h e = absurd e
posted AwaitingReestablish lx ln x n y sent (Update u ∷ ms) f h e = absurd e
posted AwaitingReestablish lx ln x n y sent (Sign k ∷ ms) f h e = absurd e
posted AwaitingReestablish lx ln x n y sent (Revoke k ∷ ms) f h e = absurd e
posted AwaitingReestablish lx ln x n y sent (Ready z ∷ ms) f h e = absurd e
posted AwaitingReestablish lx ln x n y sent (Shutdown z ∷ ms) f h e = absurd e
posted AwaitingReestablish lx ln x n y sent (Close z ∷ ms) f h e = absurd e
posted AwaitingReestablish lx ln x n y sent (Again k ∷ ms) f h e = (e.0 ∙ sym f, h ms e.1)
posted Connected lx ln x n y sent ms f h e = h ms e

-- x sends nothing
pub passed : (ly lx ln : ConnectionState) (x n y : Side) (ms : List Notice) → SameFront ly x n
    → ((ns : List Notice) → Carries lx x y ns → Carries ln n y ns) → InFlight lx ly x y ms → InFlight ln ly n y ms
passed Down lx ln x n y ms f h e = e
passed AwaitingReestablish lx ln x n y [] f h e = absurd e
passed AwaitingReestablish lx ln x n y (Update u ∷ ms) f h e = absurd e
passed AwaitingReestablish lx ln x n y (Sign k ∷ ms) f h e = absurd e
passed AwaitingReestablish lx ln x n y (Revoke k ∷ ms) f h e = absurd e
passed AwaitingReestablish lx ln x n y (Ready z ∷ ms) f h e = absurd e
passed AwaitingReestablish lx ln x n y (Shutdown z ∷ ms) f h e = absurd e
passed AwaitingReestablish lx ln x n y (Close z ∷ ms) f h e = absurd e
passed AwaitingReestablish lx ln x n y (Again k ∷ ms) f h e = (e.0 ∙ sym f, h ms e.1)
passed Connected lx ln x n y ms f h e = h ms e

pub same_front : (ly : ConnectionState) (x n : Side) → n.reestablish ≡ x.reestablish → SameFront ly x n
same_front Down x n e = tt
same_front AwaitingReestablish x n e = e
same_front Connected x n e = tt

-- ---- x proposes

carries_proposed : (ly : ConnectionState) (y x : Side) (u : Change) (ms : List Notice) → x.current.own ≤ length x.own
    → Carries ly y x ms → Carries ly y (proposed u x) ms
carries_proposed Down y x u ms le h =
    subst (λ p. Reads (sender y) (x.own ++ u ∷ []) p x.signed.own Anywhere x.got x.acked.own x.number x.revocations ms)
    (sym (take-append-le x.current.own x.own (u ∷ []) le))
    (reads-proposed (sender y) x.own (u ∷ []) (holds x) x.signed.own Anywhere x.got x.acked.own
    x.number x.revocations ms h)
carries_proposed AwaitingReestablish y x u ms le h = h
carries_proposed Connected y x u ms le h =
    subst (λ p. Reads (sender y) (x.own ++ u ∷ []) p x.signed.own
    (LacksNothing y.own y.current.peer y.signatures y.number) x.got x.acked.own x.number x.revocations ms)
    (sym (take-append-le x.current.own x.own (u ∷ []) le))
    (reads-proposed (sender y) x.own (u ∷ []) (holds x) x.signed.own
    (LacksNothing y.own y.current.peer y.signatures y.number) x.got x.acked.own x.number x.revocations ms h)

pub kept_proposed : (ly : ConnectionState) (x y : Side) (u : Change) (to_x to_y : List Notice)
    → FitsBehind x.opening x.role x.own (take x.current.peer x.got) (take x.acked.peer x.got) u
    → BothFlow (record { x_link = Connected; y_link = ly; x = x; y = y; to_x = to_x; to_y = to_y })
    → BothFlow (proposes u (record { x_link = Connected; y_link = ly; x = x; y = y; to_x = to_x; to_y = to_y }))
kept_proposed ly x y u to_x to_y may k =
    let f = k.there in
    let g = k.back in
    let n = proposed u x in
    let there : FitsBehind x.opening x.role x.own (take x.current.peer x.got) (holds y) u =
    subst (λ q. FitsBehind x.opening x.role x.own (take x.current.peer x.got) q u)
    (held_there x y f.within.peer_acked f.within.peer_signed g.agree f.phase)
    (fits-held x.opening x.role x.own (take x.current.peer x.got) (take x.acked.peer x.got)
    (drop x.acked.peer (holds y)) u may) in
    let same : take x.signed.own (x.own ++ u ∷ []) ≡ take x.signed.own x.own =
    take-append-le x.signed.own x.own (u ∷ []) f.within.own_signed in
    let le : y.current.peer ≤ x.signed.own = current_own x.signatures x.revocations y.number x.acked x.signed y.current
    f.within.own_acked f.phase in
    let body : (ns : List Notice) → Carries Connected x y ns → Carries Connected n y (ns ++ Update u ∷ []) = λ ns h.
    reads-same (sender x) (sender n) y.own (holds y) y.signed.own
    (LacksNothing n.own x.current.peer x.signatures x.number) y.got y.acked.own y.number y.revocations
    (ns ++ Update u ∷ []) (ap (λ us. record {
      opening = x.opening;
      role = x.role;
      covered = us;
      seen = x.signed.peer;
      signatures = x.signatures;
      number = x.number;
      late = x.late;
      signature = x.signature;
      revocation =
          x.revocation;
    }) (sym same))
    (reads-push (sender x) y.own (holds y) y.signed.own (LacksNothing x.own x.current.peer x.signatures x.number)
    (LacksNothing n.own x.current.peer x.signatures x.number) y.got y.acked.own y.number
    y.revocations ns (Update u ∷ [])
    (λ p b d s l. (
      subst (λ q. FitsBehind x.opening x.role q (take b y.own) (holds y) u) (sym l.has_all)
          (subst (λ m. FitsBehind x.opening x.role x.own (take m y.own) (holds y) u) (sym l.knows)
          (subst (λ q. FitsBehind x.opening x.role x.own q (holds y) u) g.agree there)),
      record {
        has_all = ap (λ us. us ++ u ∷ []) l.has_all;
        knows = l.knows;
        accepted = l.accepted;
        revoked = l.revoked;
      },
    )) h) in
    record {
      there = record {
        same = f.same;
        roles = f.roles;
        within = record {
          own_current = f.within.own_current;
          own_acked = f.within.own_acked;
          own_signed = omega (arith, f.within.own_signed, length-append x.own (u ∷ []));
          peer_acked =
              f.within.peer_acked;
          peer_signed = f.within.peer_signed;
          peer_current = f.within.peer_current;
        };
        cut = tt;
        fit = fit-push x.opening x.role [] (take x.current.peer x.got) (take x.acked.peer x.got) x.own u f.fit may;
        fit_signed = subst (λ us. AllFit x.opening x.role [] (take x.signed.peer x.got) (take x.acked.peer x.got) us)
            (sym same) f.fit_signed;
        phase = f.phase;
        agree = f.agree ∙ sym (take-append-le y.current.peer x.own (u ∷ []) (omega (arith, le, f.within.own_signed)));
        order = f.order;
        flight = posted ly Connected Connected x n y (Update u ∷ []) to_y (same_front ly x n refl) body f.flight;
      };
      back = record {
        same = g.same;
        roles = g.roles;
        within = g.within;
        cut = g.cut;
        fit = g.fit;
        fit_signed = g.fit_signed;
        phase = g.phase;
        agree = g.agree;
        order = g.order;
        flight =
            carries_proposed ly y x u to_x (omega (
              arith,
              f.within.own_current,
              f.within.own_acked,
              f.within.own_signed,
            )) g.flight;
      };
    }

-- ---- x signs

carries_signed : (ly : ConnectionState) (z : CommitmentSigned) (y x : Side) (ms : List Notice)
    → y.number ≤ x.revocations
    → Carries ly y x ms → Carries ly y (signed_all z x) ms
carries_signed Down z y x ms le h = reads-signed (sender y) x.own (holds x) x.signed.own (length x.own) Anywhere x.got
    x.acked.own x.number x.revocations ms le h
carries_signed AwaitingReestablish z y x ms le h = h
carries_signed Connected z y x ms le h = reads-signed (sender y) x.own (holds x) x.signed.own (length x.own)
    (LacksNothing y.own y.current.peer y.signatures y.number) x.got x.acked.own x.number x.revocations ms le h

-- nothing unrevoked: y's commitment is the one that x signed last
settled : (s a c : ℕ) (acked signed current : Counts) → s ≡ a → Phase s a c acked signed current
    → (c ≡ s) × (current.peer ≡ acked.own) × (current.own ≡ acked.peer)
settled s a c acked signed current e (Idle e1 e2 e3 e4 e5 e6) = (e2, e5 ∙ sym e3, e6 ∙ sym e4)
settled s a c acked signed current e (Sent e1 e2 e3 e4) = absurd (omega (arith, e, e1))
settled s a c acked signed current e (Answered e1 e2 e3 e4) = absurd (omega (arith, e, e1))

pub kept_signed : (ly : ConnectionState) (z : CommitmentSigned) (x y : Side) (to_x to_y : List Notice)
    → x.signatures ≡ x.revocations
    → BothFlow (record { x_link = Connected; y_link = ly; x = x; y = y; to_x = to_x; to_y = to_y })
    → BothFlow (signs z (record { x_link = Connected; y_link = ly; x = x; y = y; to_x = to_x; to_y = to_y }))
kept_signed ly z x y to_x to_y free k =
    let f = k.there in
    let g = k.back in
    let n = signed_all z x in
    let whole : take (length x.own) x.own ≡ x.own = take_all (length x.own) x.own (omega arith) in
    let p = settled x.signatures x.revocations y.number x.acked x.signed y.current free f.phase in
    let number : y.number ≡ x.signatures = p.0 in
    let body : (ns : List Notice) → Carries Connected x y ns → Carries Connected n y (ns ++ Sign z ∷ []) = λ ns h.
    reads-push (sender n) y.own (holds y) y.signed.own (LacksNothing x.own x.current.peer x.signatures x.number)
    (LacksNothing x.own x.current.peer (x.signatures + 1) x.number) y.got y.acked.own y.number
    y.revocations ns (Sign z ∷ [])
    (λ q b d s l. (
      record { named = refl; next = ap (λ m. m + 1) l.accepted; covers = l.has_all ∙ sym whole; knows = l.knows },
      record { has_all = l.has_all; knows = l.knows; accepted = ap (λ m. m + 1) l.accepted; revoked = l.revoked },
    ))
    (reads-signing (sender x) (sender n) y.own (holds y) y.signed.own
    (LacksNothing x.own x.current.peer x.signatures x.number) y.got y.acked.own y.number y.revocations ns refl refl
    (omega (arith, number)) refl refl refl h) in
    record {
      there = record {
        same = f.same;
        roles = f.roles;
        within = record {
          own_current = f.within.own_current;
          own_acked = omega (arith, f.within.own_acked, f.within.own_signed);
          own_signed = omega arith;
          peer_acked =
              omega (arith, f.within.peer_acked, f.within.peer_signed);
          peer_signed = omega arith;
          peer_current =
              f.within.peer_current;
        };
        cut = tt;
        fit = f.fit;
        fit_signed = subst (λ us. AllFit x.opening x.role [] (take x.current.peer x.got)
            (take x.acked.peer x.got) us) (sym whole) f.fit;
        phase = Sent (ap (λ m. m + 1) free) (number ∙ free) p.1 p.2;
        agree = f.agree;
        order = λ e. refl;
        flight = posted ly Connected Connected x n y (Sign z ∷ []) to_y (same_front ly x n refl) body f.flight;
      };
      back = record {
        same = g.same;
        roles = g.roles;
        within = g.within;
        cut = g.cut;
        fit = g.fit;
        fit_signed = g.fit_signed;
        phase = g.phase;
        agree = g.agree;
        order = g.order;
        flight =
            carries_signed ly z y x to_x (omega (arith, number, free)) g.flight;
      };
    }

-- ---- x takes an update

took_update : (ly : ConnectionState) (x y : Side) (u : Change) (ms : List Notice) → Carries ly y x (Update u ∷ ms)
    → Carries ly y (received u x) ms
took_update Down x y u ms h = h.1
took_update AwaitingReestablish x y u ms h = absurd (cc (h.0))
took_update Connected x y u ms h = h.1

pub kept_update : (ly : ConnectionState) (x y : Side) (u : Change) (ms to_y : List Notice)
    → BothFlow (record { x_link = Connected; y_link = ly; x = x; y = y; to_x = Update u ∷ ms; to_y = to_y })
    → BothFlow (record { x_link = Connected; y_link = ly; x = received u x; y = y; to_x = ms; to_y = to_y })
kept_update ly x y u ms to_y k =
    let f = k.there in
    let g = k.back in
    let n = received u x in
    let w = f.within in
    let seen : take x.current.peer (x.got ++ u ∷ []) ≡ take x.current.peer x.got =
    take-append-le x.current.peer x.got (u ∷ []) w.peer_current in
    let held : take x.acked.peer (x.got ++ u ∷ []) ≡ take x.acked.peer x.got =
    take-append-le x.acked.peer x.got (u ∷ []) (omega (arith, w.peer_acked, w.peer_signed, w.peer_current)) in
    let covered : take x.signed.peer (x.got ++ u ∷ []) ≡ take x.signed.peer x.got =
    take-append-le x.signed.peer x.got (u ∷ []) (omega (arith, w.peer_signed, w.peer_current)) in
    record {
      there = record {
        same = f.same;
        roles = f.roles;
        within = record {
          own_current = w.own_current;
          own_acked = w.own_acked;
          own_signed = w.own_signed;
          peer_acked = w.peer_acked;
          peer_signed = w.peer_signed;
          peer_current =
              omega (arith, w.peer_current, length-append x.got (u ∷ []));
        };
        cut = tt;
        fit = subst (λ p. AllFit x.opening x.role [] p (take x.acked.peer (x.got ++ u ∷ [])) x.own) (sym seen)
            (subst (λ h. AllFit x.opening x.role [] (take x.current.peer x.got) h x.own) (sym held) f.fit);
        fit_signed = subst (λ p. AllFit x.opening x.role [] p (take x.acked.peer (x.got ++ u ∷ []))
            (take x.signed.own x.own)) (sym covered) (subst
            (λ h. AllFit x.opening x.role [] (take x.signed.peer x.got) h (take x.signed.own x.own))
            (sym held) f.fit_signed);
        phase = f.phase;
        agree = f.agree;
        order = f.order;
        flight = passed ly Connected Connected x n y to_y (same_front ly x n refl) (λ ns h. h) f.flight;
      };
      back = record {
        same = g.same;
        roles = g.roles;
        within = g.within;
        cut = g.cut;
        fit = g.fit;
        fit_signed = g.fit_signed;
        phase = g.phase;
        agree = seen ∙ g.agree;
        order = g.order;
        flight =
            took_update ly x y u ms g.flight;
      };
    }

-- ---- x takes a signature

-- it is the one that y sent last, over the lists that x has
pub record Accepts (x y : Side) (k : CommitmentSigned) : Type 0 where
  pub due : IsDue (sender y) x.got x.acked.own x.number k
  pub before : x.number ≡ y.revocations
  pub one : y.signatures ≡ y.revocations + 1
  pub known_own : x.current.peer ≡ y.acked.own
  pub known_peer : x.current.own ≡ y.acked.peer
  pub length_own : length x.got ≡ y.signed.own

pub unaccepted : (s a c : ℕ) (acked signed current : Counts) → c + 1 ≡ s → Phase s a c acked signed current
    → (c ≡ a) × (s ≡ a + 1) × (current.peer ≡ acked.own) × (current.own ≡ acked.peer)
unaccepted s a c acked signed current e (Idle e1 e2 e3 e4 e5 e6) = absurd (omega (arith, e, e2))
unaccepted s a c acked signed current e (Sent e1 e2 e3 e4) = (e2, e1, e3, e4)
unaccepted s a c acked signed current e (Answered e1 e2 e3 e4) = absurd (omega (arith, e, e2))

pub accepts : (lx ly : ConnectionState) (x y : Side) (k : CommitmentSigned) (ms : List Notice) → Flows ly lx y x ms
    → IsDue (sender y) x.got x.acked.own x.number k → Accepts x y k
accepts lx ly x y k ms g d =
    let p = unaccepted y.signatures y.revocations x.number y.acked y.signed x.current d.next g.phase in
    record {
      due = d;
      before = p.0;
      one = p.1;
      known_own = p.2;
      known_peer = p.3;
      length_own = ap length d.covers
          ∙ length-take-le y.signed.own y.own g.within.own_signed;
    }

-- y's revocation of a signature that x made later than its own last one is on the way still
late_order : (l : Bool) (number revocations seen known current : ℕ) → number ≡ revocations → current ≡ known
    → InOrder l number revocations seen known current → seen ≡ known
late_order true number revocations seen known current e d h = absurd (omega (arith, e, h.0))
late_order false number revocations seen known current e d h = h ∙ d

kept_sign_by : (ly : ConnectionState) (z : RevokeAndAck) (v : ChannelReestablish) (x y : Side)
    (k : CommitmentSigned) (ms to_y : List Notice)
    → SameFront ly x (accepted_all z v x) → Flows Connected ly x y to_y → Flows ly Connected y x (Sign k ∷ ms)
    → Accepts x y k
    → Carries ly y (accepted_all z v x) ms
    → BothFlow (record {
      x_link = Connected;
      y_link = ly;
      x = accepted_all z v x;
      y = y;
      to_x = ms;
      to_y = posts ly (Revoke z ∷ []) to_y;
    })
kept_sign_by ly z v x y k ms to_y front f g a rest =
    let n = accepted_all z v x in
    let w = f.within in
    let d = a.due in
    let whole : take (length x.got) x.got ≡ x.got = take_all (length x.got) x.got (omega arith) in
    let body : (ns : List Notice) → Carries Connected x y ns → Carries Connected n y (ns ++ Revoke z ∷ []) = λ ns h.
    reads-push (sender n) y.own (holds y) y.signed.own (LacksNothing x.own x.current.peer x.signatures x.number)
    (LacksNothing x.own (length x.got) x.signatures (x.number + 1)) y.got y.acked.own y.number
    y.revocations ns (Revoke z ∷ [])
    (λ q b c s l. (
      record { named = refl; next = ap (λ m. m + 1) l.revoked; order = l.accepted },
      record {
        has_all = l.has_all;
        knows = sym a.length_own;
        accepted = l.accepted;
        revoked = ap (λ m. m + 1) l.revoked;
      },
    ))
    (reads-accepting (sender x) (sender n) y.own (holds y) y.signed.own
    (LacksNothing x.own x.current.peer x.signatures x.number) y.got y.acked.own y.number y.revocations ns refl refl
    (omega (arith, a.before)) refl refl refl refl h) in
    record {
      there = record {
        same = f.same;
        roles = f.roles;
        within = record {
          own_current = omega arith;
          own_acked = w.own_acked;
          own_signed = w.own_signed;
          peer_acked = w.peer_acked;
          peer_signed = omega (arith, w.peer_signed, w.peer_current);
          peer_current = omega arith;
        };
        cut = tt;
        fit = subst (λ p. AllFit x.opening x.role [] p (take x.acked.peer x.got) x.own)
            (take-append-drop x.current.peer x.got ∙ sym whole)
            (fit-all-more x.opening x.role [] (take x.current.peer x.got) (drop x.current.peer x.got)
            (take x.acked.peer x.got) x.own f.fit);
        fit_signed = f.fit_signed;
        phase = f.phase;
        agree = f.agree;
        order = λ e. (
          ap (λ m. m + 1) (sym a.before),
          late_order x.late x.number y.revocations x.signed.peer y.acked.own x.current.peer a.before
              a.known_own (f.order e),
        );
        flight = posted ly Connected Connected x n y (Revoke z ∷ []) to_y front body f.flight;
      };
      back = record {
        same = g.same;
        roles = g.roles;
        within = g.within;
        cut = g.cut;
        fit = g.fit;
        fit_signed = g.fit_signed;
        phase = Answered a.one d.next a.length_own d.knows;
        agree = whole ∙ d.covers ∙ ap (λ m. take m y.own) (sym a.length_own);
        order = λ e. absurd (omega (arith, e, d.next));
        flight = rest;
      };
    }

-- x holds more of its own updates then
reads_further : (x y : Side) (Q : List Change → ℕ → ℕ → ℕ → Type 0) (ms : List Notice) → x.current.own ≤ x.acked.own
    → Reads (sender y) x.own (holds x) x.signed.own Q x.got x.acked.own (x.number + 1) x.revocations ms
    → Reads (sender y) x.own (take x.acked.own x.own) x.signed.own Q x.got x.acked.own (x.number + 1) x.revocations ms
reads_further x y Q ms le h =
    subst (λ p. Reads (sender y) x.own p x.signed.own Q x.got x.acked.own (x.number + 1) x.revocations ms)
    (longer x.current.own x.acked.own x.own le)
    (reads-held (sender y) x.own (holds x) (drop x.current.own (take x.acked.own x.own)) x.signed.own Q x.got
    x.acked.own (x.number + 1) x.revocations ms h)

pub kept_sign : (ly : ConnectionState) (z : RevokeAndAck) (v : ChannelReestablish) (x y : Side)
    (k : CommitmentSigned) (ms to_y : List Notice)
    → BothFlow (record { x_link = Connected; y_link = ly; x = x; y = y; to_x = Sign k ∷ ms; to_y = to_y })
    → BothFlow (record {
      x_link = Connected;
      y_link = ly;
      x = accepted_all z v x;
      y = y;
      to_x = ms;
      to_y = posts ly (Revoke z ∷ []) to_y;
    })
kept_sign Down z v x y k ms to_y h = kept_sign_by Down z v x y k ms to_y tt h.there h.back
    (accepts Connected Down x y k (Sign k ∷ ms) h.back h.back.flight.0)
    (reads_further x y Anywhere ms h.there.within.own_current h.back.flight.1)
kept_sign AwaitingReestablish z v x y k ms to_y h = absurd (cc (h.back.flight.0))
kept_sign Connected z v x y k ms to_y h = kept_sign_by Connected z v x y k ms to_y tt h.there h.back
    (accepts Connected Connected x y k (Sign k ∷ ms) h.back h.back.flight.0)
    (reads_further x y (LacksNothing y.own y.current.peer y.signatures y.number) ms
    h.there.within.own_current h.back.flight.1)

-- ---- x takes a revocation

pub revoked_for : (s a c : ℕ) (acked signed current : Counts) → a + 1 ≡ c → Phase s a c acked signed current
    → (s ≡ a + 1) × (c ≡ s) × (current.peer ≡ signed.own) × (current.own ≡ signed.peer)
revoked_for s a c acked signed current e (Idle e1 e2 e3 e4 e5 e6) = absurd (omega (arith, e, e1, e2))
revoked_for s a c acked signed current e (Sent e1 e2 e3 e4) = absurd (omega (arith, e, e2))
revoked_for s a c acked signed current e (Answered e1 e2 e3 e4) = (e1, e2, e3, e4)

-- after it no signature waits that was sent before it
not_before : (l : Bool) (c s number revocations seen known more current : ℕ) → c + 1 ≡ s → IsBehind l c s
    → InOrder l number revocations seen known current → InOrder l number (revocations + 1) seen more current
not_before true c s number revocations seen known more current e b h = absurd (omega (arith, e, b))
not_before false c s number revocations seen known more current e b h = h

kept_revoke_by : (ly : ConnectionState) (z : CommitmentSigned) (v : ChannelReestablish) (x y : Side)
    (k : RevokeAndAck) (ms to_y : List Notice)
    → InFlight Connected ly (acknowledged_all z v x) y to_y → Flows Connected ly x y to_y
    → Flows ly Connected y x (Revoke k ∷ ms)
    → IsNext (sender y) x.number x.revocations k → Carries ly y (acknowledged_all z v x) ms
    → BothFlow (record { x_link = Connected; y_link = ly; x = acknowledged_all z v x; y = y; to_x = ms; to_y = to_y })
kept_revoke_by ly z v x y k ms to_y flight f g d rest =
    let n = acknowledged_all z v x in
    let w = f.within in
    let p = revoked_for x.signatures x.revocations y.number x.acked x.signed y.current d.next f.phase in
    let more : (seen us : List Change) → AllFit x.opening x.role [] seen (take x.acked.peer x.got) us
    → AllFit x.opening x.role [] seen (take x.signed.peer x.got) us = λ seen us h.
    subst (λ p. AllFit x.opening x.role [] seen p us) (longer x.acked.peer x.signed.peer x.got w.peer_acked)
    (fit-all-held x.opening x.role [] seen (take x.acked.peer x.got)
    (drop x.acked.peer (take x.signed.peer x.got)) us h) in
    record {
      there = record {
        same = f.same;
        roles = f.roles;
        within = record {
          own_current = omega (arith, w.own_current, w.own_acked);
          own_acked = omega arith;
          own_signed = w.own_signed;
          peer_acked = omega arith;
          peer_signed = w.peer_signed;
          peer_current = w.peer_current;
        };
        cut = tt;
        fit = more (take x.current.peer x.got) x.own f.fit;
        fit_signed = more (take x.signed.peer x.got) (take x.signed.own x.own) f.fit_signed;
        phase = Idle p.0 p.1 refl refl p.2 p.3;
        agree = f.agree;
        order = λ e. absurd (omega (arith, e, p.1));
        flight = flight;
      };
      back = record {
        same = g.same;
        roles = g.roles;
        within = g.within;
        cut = g.cut;
        fit = g.fit;
        fit_signed = g.fit_signed;
        phase = g.phase;
        agree = g.agree;
        order = λ e. not_before y.late x.number y.signatures y.number x.revocations y.signed.peer x.acked.own
            x.signed.own y.current.peer e d.order (g.order e);
        flight = rest;
      };
    }

carries_learned : (z : CommitmentSigned) (v : ChannelReestablish) (x y : Side) (ms : List Notice)
    → x.signatures ≤ y.number → Carries Connected x y ms
    → Carries Connected (acknowledged_all z v x) y ms
carries_learned z v x y ms le h = reads-learned (sender x) (sender (acknowledged_all z v x))
    y.own (holds y) y.signed.own
    (LacksNothing x.own x.current.peer x.signatures x.number) y.got y.acked.own y.number y.revocations ms refl refl
    le refl refl refl refl h

pub kept_revoke : (ly : ConnectionState) (z : CommitmentSigned) (v : ChannelReestablish) (x y : Side)
    (k : RevokeAndAck) (ms to_y : List Notice)
    → BothFlow (record { x_link = Connected; y_link = ly; x = x; y = y; to_x = Revoke k ∷ ms; to_y = to_y })
    → BothFlow (record { x_link = Connected; y_link = ly; x = acknowledged_all z v x; y = y; to_x = ms; to_y = to_y })
kept_revoke Down z v x y k ms to_y h = kept_revoke_by Down z v x y k ms to_y h.there.flight h.there h.back
    h.back.flight.0 h.back.flight.1
kept_revoke AwaitingReestablish z v x y k ms to_y h = absurd (cc (h.back.flight.0))
kept_revoke Connected z v x y k ms to_y h =
    let p = revoked_for x.signatures x.revocations y.number x.acked x.signed y.current
    (h.back.flight.0).next h.there.phase in
    kept_revoke_by Connected z v x y k ms to_y (carries_learned z v x y to_y (omega (arith, p.1))
    h.there.flight) h.there h.back
    h.back.flight.0 h.back.flight.1

-- ---- x takes channel_ready, or a shutdown

took_ready : (ly : ConnectionState) (z : ChannelReady) (m : CommitmentSigned) (x y : Side) (ms : List Notice)
    → Carries ly y x (Ready z ∷ ms) → Carries ly y (record x { peer_ready = true; signature = m }) ms
took_ready Down z m x y ms h = h
took_ready AwaitingReestablish z m x y ms h = absurd (cc (h.0))
took_ready Connected z m x y ms h = h

took_shutdown : (ly : ConnectionState) (z : ShutdownMessage) (x y : Side) (ms : List Notice)
    → Carries ly y x (Shutdown z ∷ ms) → Carries ly y (record x { peer_shut = true }) ms
took_shutdown Down z x y ms h = h
took_shutdown AwaitingReestablish z x y ms h = absurd (cc (h.0))
took_shutdown Connected z x y ms h = h

-- m is what x would now send again as its last signature
pub kept_ready : (ly : ConnectionState) (z : ChannelReady) (m : CommitmentSigned) (x y : Side) (ms to_y : List Notice)
    → ((ns : List Notice) → Carries Connected x y ns
    → Carries Connected (record x { peer_ready = true; signature = m }) y ns)
    → BothFlow (record { x_link = Connected; y_link = ly; x = x; y = y; to_x = Ready z ∷ ms; to_y = to_y })
    → BothFlow (record {
      x_link = Connected;
      y_link = ly;
      x = record x { peer_ready = true; signature = m };
      y = y;
      to_x = ms;
      to_y = to_y;
    })
kept_ready ly z m x y ms to_y frame k =
    let f = k.there in
    let g = k.back in
    let n : Side = record x { peer_ready = true; signature = m } in
    record {
      there = record {
        same = f.same;
        roles = f.roles;
        within = record {
          own_current = f.within.own_current;
          own_acked = f.within.own_acked;
          own_signed = f.within.own_signed;
          peer_acked = f.within.peer_acked;
          peer_signed = f.within.peer_signed;
          peer_current = f.within.peer_current;
        };
        cut = tt;
        fit = f.fit;
        fit_signed = f.fit_signed;
        phase = f.phase;
        agree = f.agree;
        order = f.order;
        flight = passed ly Connected Connected x n y to_y
            (same_front ly x n refl) frame f.flight;
      };
      back = record {
        same = g.same;
        roles = g.roles;
        within = g.within;
        cut = g.cut;
        fit = g.fit;
        fit_signed = g.fit_signed;
        phase = g.phase;
        agree = g.agree;
        order = g.order;
        flight =
            took_ready ly z m x y ms g.flight;
      };
    }

-- before x has signed anything
pub carries_first : (m : CommitmentSigned) (x y : Side) (ms : List Notice) → x.signatures ≤ y.number
    → Carries Connected x y ms → Carries Connected (record x { peer_ready = true; signature = m }) y ms
carries_first m x y ms le h = reads-learned (sender x) (sender (record x { peer_ready = true; signature = m })) y.own
    (holds y) y.signed.own (LacksNothing x.own x.current.peer x.signatures x.number) y.got y.acked.own y.number
    y.revocations ms refl refl le refl refl refl refl h

pub kept_shutdown : (ly : ConnectionState) (z : ShutdownMessage) (x y : Side) (ms to_y : List Notice)
    → BothFlow (record { x_link = Connected; y_link = ly; x = x; y = y; to_x = Shutdown z ∷ ms; to_y = to_y })
    → BothFlow (record {
      x_link = Connected;
      y_link = ly;
      x = record x { peer_shut = true };
      y = y;
      to_x =
          ms;
      to_y = to_y;
    })
kept_shutdown ly z x y ms to_y k =
    let f = k.there in
    let g = k.back in
    let n : Side = record x { peer_shut = true } in
    record {
      there = record {
        same = f.same;
        roles = f.roles;
        within = record {
          own_current = f.within.own_current;
          own_acked = f.within.own_acked;
          own_signed = f.within.own_signed;
          peer_acked = f.within.peer_acked;
          peer_signed = f.within.peer_signed;
          peer_current = f.within.peer_current;
        };
        cut = tt;
        fit = f.fit;
        fit_signed = f.fit_signed;
        phase = f.phase;
        agree = f.agree;
        order = f.order;
        flight = passed ly Connected Connected x n y to_y
            (same_front ly x n refl) (λ ns h. h) f.flight;
      };
      back = record {
        same = g.same;
        roles = g.roles;
        within = g.within;
        cut = g.cut;
        fit = g.fit;
        fit_signed = g.fit_signed;
        phase = g.phase;
        agree = g.agree;
        order = g.order;
        flight =
            took_shutdown ly z x y ms g.flight;
      };
    }

-- ---- x sends channel_ready, or a shutdown: neither says anything of updates and commitments

body_quiet : (x n y : Side) (m : Notice) (ns : List Notice) → sender n ≡ sender x
    → Reads (sender x) y.own (holds y) y.signed.own (LacksNothing x.own x.current.peer x.signatures x.number) y.got
    y.acked.own y.number y.revocations ns
    → ((g : List Change) (b d s : ℕ) → LacksNothing x.own x.current.peer x.signatures x.number g b d s
    → Reads (sender x) y.own (holds y) y.signed.own
    (LacksNothing x.own x.current.peer x.signatures x.number) g b d s (m ∷ []))
    → Reads (sender x) y.own (holds y) y.signed.own (LacksNothing x.own x.current.peer x.signatures x.number) y.got
    y.acked.own y.number y.revocations (ns ++ m ∷ [])
body_quiet x n y m ns e h f = reads-push (sender x) y.own (holds y) y.signed.own
    (LacksNothing x.own x.current.peer x.signatures x.number) (LacksNothing x.own x.current.peer x.signatures x.number)
    y.got y.acked.own y.number y.revocations ns (m ∷ []) f h

-- what the reader reads by is the same
carries_own : (ly : ConnectionState) (y x n : Side) (ms : List Notice) → Carries ly y x ms
    → Carries ly y (record n {
      own = x.own;
      got = x.got;
      signed = x.signed;
      acked = x.acked;
      current = x.current;
      number = x.number;
      revocations = x.revocations;
    }) ms
carries_own Down y x n ms h = h
carries_own AwaitingReestablish y x n ms h = h
carries_own Connected y x n ms h = h

pub kept_confirmed : (ly : ConnectionState) (x y : Side) (to_x to_y : List Notice)
    → BothFlow (record { x_link = Connected; y_link = ly; x = x; y = y; to_x = to_x; to_y = to_y })
    → BothFlow (confirms (record { x_link = Connected; y_link = ly; x = x; y = y; to_x = to_x; to_y = to_y }))
kept_confirmed ly x y to_x to_y k =
    let f = k.there in
    let g = k.back in
    let n : Side = record x { ready = true } in
    record {
      there = record {
        same = f.same;
        roles = f.roles;
        within = record {
          own_current = f.within.own_current;
          own_acked = f.within.own_acked;
          own_signed = f.within.own_signed;
          peer_acked = f.within.peer_acked;
          peer_signed = f.within.peer_signed;
          peer_current = f.within.peer_current;
        };
        cut = tt;
        fit = f.fit;
        fit_signed = f.fit_signed;
        phase = f.phase;
        agree = f.agree;
        order = f.order;
        flight = posted ly Connected Connected x n y (Ready x.ready_message ∷ []) to_y
            (same_front ly x n refl) (λ ns h. body_quiet x n y (Ready x.ready_message) ns refl h
            (λ b c d s l. l)) f.flight;
      };
      back = record {
        same = g.same;
        roles = g.roles;
        within = g.within;
        cut = g.cut;
        fit = g.fit;
        fit_signed = g.fit_signed;
        phase = g.phase;
        agree = g.agree;
        order = g.order;
        flight =
            carries_own ly y x n to_x g.flight;
      };
    }

pub kept_shut : (ly : ConnectionState) (z : ShutdownMessage) (x y : Side) (to_x to_y : List Notice)
    → BothFlow (record { x_link = Connected; y_link = ly; x = x; y = y; to_x = to_x; to_y = to_y })
    → BothFlow (shuts z (record { x_link = Connected; y_link = ly; x = x; y = y; to_x = to_x; to_y = to_y }))
kept_shut ly z x y to_x to_y k =
    let f = k.there in
    let g = k.back in
    let n : Side = record x { shut = true; shut_message = z } in
    record {
      there = record {
        same = f.same;
        roles = f.roles;
        within = record {
          own_current = f.within.own_current;
          own_acked = f.within.own_acked;
          own_signed = f.within.own_signed;
          peer_acked = f.within.peer_acked;
          peer_signed = f.within.peer_signed;
          peer_current = f.within.peer_current;
        };
        cut = tt;
        fit = f.fit;
        fit_signed = f.fit_signed;
        phase = f.phase;
        agree = f.agree;
        order = f.order;
        flight = posted ly Connected Connected x n y (Shutdown z ∷ []) to_y
            (same_front ly x n refl) (λ ns h. body_quiet x n y (Shutdown z) ns refl h (λ b c d s l. l)) f.flight;
      };
      back = record {
        same = g.same;
        roles = g.roles;
        within = g.within;
        cut = g.cut;
        fit = g.fit;
        fit_signed = g.fit_signed;
        phase = g.phase;
        agree = g.agree;
        order = g.order;
        flight =
            carries_own ly y x n to_x g.flight;
      };
    }

-- ---- closing fees: they say nothing of updates and commitments

took_close : (ly : ConnectionState) (z : ClosingSigned) (x y : Side) (ms : List Notice)
    → Carries ly y x (Close z ∷ ms) → Carries ly y x ms
took_close Down z x y ms h = h
took_close AwaitingReestablish z x y ms h = absurd (cc (h.0))
took_close Connected z x y ms h = h

pub kept_close : (ly : ConnectionState) (z : ClosingSigned) (x y : Side) (ms to_y : List Notice)
    → BothFlow (record { x_link = Connected; y_link = ly; x = x; y = y; to_x = Close z ∷ ms; to_y = to_y })
    → BothFlow (record { x_link = Connected; y_link = ly; x = x; y = y; to_x = ms; to_y = to_y })
kept_close ly z x y ms to_y k =
    let g = k.back in
    record {
      there = k.there;
      back = record {
        same = g.same;
        roles = g.roles;
        within = g.within;
        cut = g.cut;
        fit = g.fit;
        fit_signed = g.fit_signed;
        phase = g.phase;
        agree = g.agree;
        order = g.order;
        flight =
            took_close ly z x y ms g.flight;
      };
    }

skipped_ready : (ly : ConnectionState) (z : ChannelReady) (x y : Side) (ms : List Notice)
    → Carries ly y x (Ready z ∷ ms) → Carries ly y x ms
skipped_ready Down z x y ms h = h
skipped_ready AwaitingReestablish z x y ms h = absurd (cc (h.0))
skipped_ready Connected z x y ms h = h

pub kept_skipped : (ly : ConnectionState) (z : ChannelReady) (x y : Side) (ms to_y : List Notice)
    → BothFlow (record { x_link = Connected; y_link = ly; x = x; y = y; to_x = Ready z ∷ ms; to_y = to_y })
    → BothFlow (record { x_link = Connected; y_link = ly; x = x; y = y; to_x = ms; to_y = to_y })
kept_skipped ly z x y ms to_y k =
    let g = k.back in
    record {
      there = k.there;
      back = record {
        same = g.same;
        roles = g.roles;
        within = g.within;
        cut = g.cut;
        fit = g.fit;
        fit_signed = g.fit_signed;
        phase = g.phase;
        agree = g.agree;
        order = g.order;
        flight =
            skipped_ready ly z x y ms g.flight;
      };
    }

heard_dealt : (ly : ConnectionState) (m : Option ClosingSigned) (c : Bool) (y x : Side) (ms : List Notice)
    → Carries ly y x ms
    → Carries ly y (dealt m c x) ms
heard_dealt Down m c y x ms h = h
heard_dealt AwaitingReestablish m c y x ms h = h
heard_dealt Connected m c y x ms h = h

pub kept_dealt : (ly : ConnectionState) (m : Option ClosingSigned) (c : Bool) (sent : Option ClosingSigned) (x y : Side)
    (to_x to_y : List Notice) → BothFlow
    (record { x_link = Connected; y_link = ly; x = x; y = y; to_x = to_x; to_y = to_y })
    → BothFlow (record {
      x_link = Connected;
      y_link = ly;
      x = dealt m c x;
      y = y;
      to_x = to_x;
      to_y = posts ly (closes_of sent) to_y;
    })
kept_dealt ly m c sent x y to_x to_y k =
    let f = k.there in
    let g = k.back in
    let n : Side = dealt m c x in
    let Q = LacksNothing x.own x.current.peer x.signatures x.number in
    record {
      there = record {
        same = f.same;
        roles = f.roles;
        within = record {
          own_current = f.within.own_current;
          own_acked = f.within.own_acked;
          own_signed = f.within.own_signed;
          peer_acked = f.within.peer_acked;
          peer_signed = f.within.peer_signed;
          peer_current = f.within.peer_current;
        };
        cut = tt;
        fit = f.fit;
        fit_signed = f.fit_signed;
        phase = f.phase;
        agree = f.agree;
        order = f.order;
        flight = posted ly Connected Connected x n y (closes_of sent) to_y (same_front ly x n refl)
            (λ ns h. reads-push (sender x) y.own (holds y) y.signed.own Q Q y.got y.acked.own y.number y.revocations ns
            (closes_of sent) (λ q b d s l. says sent q b d s l) h) f.flight;
      };
      back = record {
        same = g.same;
        roles = g.roles;
        within = g.within;
        cut = g.cut;
        fit = g.fit;
        fit_signed = g.fit_signed;
        phase = g.phase;
        agree = g.agree;
        order = g.order;
        flight =
            heard_dealt ly m c y x to_x g.flight;
      };
    }
  where
    says : (o : Option ClosingSigned) (q : List Change) (b d s : ℕ)
        → LacksNothing x.own x.current.peer x.signatures x.number q b d s
        → Reads (sender x) y.own (holds y) y.signed.own
        (LacksNothing x.own x.current.peer x.signatures x.number) q b d s (closes_of o)
    says None q b d s l = l
    says (Some w) q b d s l = l
