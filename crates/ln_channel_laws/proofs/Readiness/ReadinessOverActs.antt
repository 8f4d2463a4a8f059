-- channel_ready and shutdown, in flight.
use Rattle.std.proofs.Common.{◌≡◌, ℕ, zero, suc, ◌≤◌, List, [], ◌∷◌, ◌++◌, length, take, drop, refl, sym, ◌∙◌, subst}
use Rattle.std.proofs.Common.{arith, Bool, true, false}
use Rattle.ln_log.specs.declared.update.Update.{Update as Change}
use Rattle.ln_msgs.specs.declared.messages.commitments.CommitmentSigned.{CommitmentSigned}
use Rattle.ln_msgs.specs.declared.messages.commitments.RevokeAndAck.{RevokeAndAck}
use Rattle.ln_msgs.specs.declared.messages.commitments.ChannelReestablish.{ChannelReestablish}
use Rattle.ln_msgs.specs.declared.messages.opening.ChannelReady.{ChannelReady}
use Rattle.ln_msgs.specs.declared.messages.closing.ClosingSigned.{ClosingSigned}
use Rattle.ln_msgs.specs.declared.messages.closing.Shutdown.{Shutdown as ShutdownMessage}
use Rattle.ln_channel.specs.declared.machine.ConnectionState.{ConnectionState}
use Rattle.ln_channel.specs.declared.machine.ConnectionState.TheVariants.{Down, AwaitingReestablish, Connected}
use Rattle.std.specs.Prelude.{Option, Some, None, is_some}
use Rattle.ln_channel_laws.proofs.Flight.Sides.{has_bid, dealt, closes_of}
use Rattle.ln_channel_laws.proofs.Flight.Sides.{opens, Notice, Update, Sign, Revoke, Ready, Shutdown, Close, Again}
use Rattle.ln_channel_laws.proofs.Flight.Sides.{Side, posts, proposed, signed_all, received, accepted_all}
use Rattle.ln_channel_laws.proofs.Flight.Sides.{acknowledged_all}
use Rattle.ln_channel_laws.proofs.Flight.Sides.{proposes}
use Rattle.ln_channel_laws.proofs.Flight.Sides.{signs, confirms, shuts}
use Rattle.ln_channel_laws.proofs.Readiness.ReadinessInFlight.{IsAllowed, NoneOpens, ReadinessOf}
use Rattle.ln_channel_laws.proofs.Readiness.ReadinessInFlight.{ReadsReadiness, AllReadiness, AnyReadiness}
use Rattle.ln_channel_laws.proofs.Readiness.ReadinessInFlight.{readiness_of}
use Rattle.ln_channel_laws.proofs.Readiness.ReadinessInFlight.{CarriesReadiness}
use Rattle.ln_channel_laws.proofs.Readiness.ReadinessInFlight.{ReadinessFlight, IsReady}
use Rattle.ln_channel_laws.proofs.Readiness.ReadinessInFlight.{BothReadiness}

-- ---- the walk

-- as more was sent
pub readiness-more : (t v : ReadinessOf) (Q : Bool → Bool → Type 0) (r s : Bool) (ms : List Notice)
    → (t.ready ≡ true → v.ready ≡ true) → (t.shut ≡ true → v.shut ≡ true) → (t.peer_ready ≡ true → v.peer_ready ≡ true)
    → v.ready_message ≡ t.ready_message → (t.shut ≡ true → v.shut_message ≡ t.shut_message)
    → (t.bid ≡ true → v.bid ≡ true)
    → ReadsReadiness t Q r s ms → ReadsReadiness v Q r s ms
readiness-more t v Q r s [] a b c d g k h = h
readiness-more t v Q r s (Update u ∷ ms) a b c d g k h = (h.0, c h.1, h.2, readiness-more t v Q r s ms a b c d g k h.3)
readiness-more t v Q r s (Sign z ∷ ms) a b c d g k h = (h.0, c h.1, readiness-more t v Q r s ms a b c d g k h.2)
readiness-more t v Q r s (Revoke z ∷ ms) a b c d g k h = readiness-more t v Q r s ms a b c d g k h
readiness-more t v Q r s (Ready z ∷ ms) a b c d g k h =
    (a h.0, h.1 ∙ sym d, readiness-more t v Q true s ms a b c d g k h.2)
readiness-more t v Q r s (Shutdown z ∷ ms) a b c d g k h =
    (b h.0, h.1 ∙ sym (g h.0), readiness-more t v Q r true ms a b c d g k h.2)
readiness-more t v Q r s (Close z ∷ ms) a b c d g k h = (k h.0, readiness-more t v Q r s ms a b c d g k h.1)
readiness-more t v Q r s (Again n ∷ ms) a b c d g k h = absurd h

pub readiness-push : (t : ReadinessOf) (P Q : Bool → Bool → Type 0) (r s : Bool) (ms ns : List Notice)
    → ((q p : Bool) → P q p → ReadsReadiness t Q q p ns) → ReadsReadiness t P r s ms → ReadsReadiness t Q r s (ms ++ ns)
readiness-push t P Q r s [] ns f h = f r s h
readiness-push t P Q r s (Update u ∷ ms) ns f h = (h.0, h.1, h.2, readiness-push t P Q r s ms ns f h.3)
readiness-push t P Q r s (Sign k ∷ ms) ns f h = (h.0, h.1, readiness-push t P Q r s ms ns f h.2)
readiness-push t P Q r s (Revoke k ∷ ms) ns f h = readiness-push t P Q r s ms ns f h
readiness-push t P Q r s (Ready z ∷ ms) ns f h = (h.0, h.1, readiness-push t P Q true s ms ns f h.2)
readiness-push t P Q r s (Shutdown z ∷ ms) ns f h = (h.0, h.1, readiness-push t P Q r true ms ns f h.2)
readiness-push t P Q r s (Close z ∷ ms) ns f h = (h.0, readiness-push t P Q r s ms ns f h.1)
readiness-push t P Q r s (Again n ∷ ms) ns f h = absurd h

pub readiness-any : (t : ReadinessOf) (P : Bool → Bool → Type 0) (r s : Bool) (ms : List Notice)
    → ReadsReadiness t P r s ms
    → ReadsReadiness t AnyReadiness r s ms
readiness-any t P r s [] h = tt
readiness-any t P r s (Update u ∷ ms) h = (h.0, h.1, h.2, readiness-any t P r s ms h.3)
readiness-any t P r s (Sign k ∷ ms) h = (h.0, h.1, readiness-any t P r s ms h.2)
readiness-any t P r s (Revoke k ∷ ms) h = readiness-any t P r s ms h
readiness-any t P r s (Ready z ∷ ms) h = (h.0, h.1, readiness-any t P true s ms h.2)
readiness-any t P r s (Shutdown z ∷ ms) h = (h.0, h.1, readiness-any t P r true ms h.2)
readiness-any t P r s (Close z ∷ ms) h = (h.0, readiness-any t P r s ms h.1)
readiness-any t P r s (Again n ∷ ms) h = absurd h

pub readiness-front : (t : ReadinessOf) (P : Bool → Bool → Type 0) (r s : Bool) (ms ns : List Notice)
    → ReadsReadiness t P r s (ms ++ ns)
    → ReadsReadiness t AnyReadiness r s ms
readiness-front t P r s [] ns h = tt
readiness-front t P r s (Update u ∷ ms) ns h = (h.0, h.1, h.2, readiness-front t P r s ms ns h.3)
readiness-front t P r s (Sign k ∷ ms) ns h = (h.0, h.1, readiness-front t P r s ms ns h.2)
readiness-front t P r s (Revoke k ∷ ms) ns h = readiness-front t P r s ms ns h
readiness-front t P r s (Ready z ∷ ms) ns h = (h.0, h.1, readiness-front t P true s ms ns h.2)
readiness-front t P r s (Shutdown z ∷ ms) ns h = (h.0, h.1, readiness-front t P r true ms ns h.2)
readiness-front t P r s (Close z ∷ ms) ns h = (h.0, readiness-front t P r s ms ns h.1)
readiness-front t P r s (Again n ∷ ms) ns h = absurd h

-- ---- where x or y changes

pub spoken : (ly lx ln : ConnectionState) (x n y : Side) (sent ms : List Notice)
    → ((ns : List Notice) → CarriesReadiness lx x y ns → CarriesReadiness ln n y (ns ++ sent))
    → ReadinessFlight lx ly x y ms
    → ReadinessFlight ln ly n y (posts ly sent ms)
spoken Down lx ln x n y sent ms h e = e
spoken AwaitingReestablish lx ln x n y sent [] h e = absurd e
spoken AwaitingReestablish lx ln x n y sent (Update u ∷ ms) h e = absurd e
spoken AwaitingReestablish lx ln x n y sent (Sign k ∷ ms) h e = absurd e
spoken AwaitingReestablish lx ln x n y sent (Revoke k ∷ ms) h e = absurd e
spoken AwaitingReestablish lx ln x n y sent (Ready z ∷ ms) h e = absurd e
spoken AwaitingReestablish lx ln x n y sent (Shutdown z ∷ ms) h e = absurd e
spoken AwaitingReestablish lx ln x n y sent (Close z ∷ ms) h e = absurd e
spoken AwaitingReestablish lx ln x n y sent (Again k ∷ ms) h e = h ms e
spoken Connected lx ln x n y sent ms h e = h ms e

pub silent : (ly lx ln : ConnectionState) (x n y : Side) (ms : List Notice)
    → ((ns : List Notice) → CarriesReadiness lx x y ns → CarriesReadiness ln n y ns) → ReadinessFlight lx ly x y ms
    → ReadinessFlight ln ly n y ms
silent Down lx ln x n y ms h e = e
silent AwaitingReestablish lx ln x n y [] h e = absurd e
silent AwaitingReestablish lx ln x n y (Update u ∷ ms) h e = absurd e
silent AwaitingReestablish lx ln x n y (Sign k ∷ ms) h e = absurd e
silent AwaitingReestablish lx ln x n y (Revoke k ∷ ms) h e = absurd e
silent AwaitingReestablish lx ln x n y (Ready z ∷ ms) h e = absurd e
silent AwaitingReestablish lx ln x n y (Shutdown z ∷ ms) h e = absurd e
silent AwaitingReestablish lx ln x n y (Close z ∷ ms) h e = absurd e
silent AwaitingReestablish lx ln x n y (Again k ∷ ms) h e = h ms e
silent Connected lx ln x n y ms h e = h ms e

-- ---- lists

none-push : (us : List Change) (u : Change) → NoneOpens us → opens u ≡ false → NoneOpens (us ++ u ∷ [])
none-push [] u h e = (e, tt)
none-push (v ∷ us) u h e = (h.0, none-push us u h.1 e)

none-drop : (k m : ℕ) (us : List Change) → k ≤ m → NoneOpens (drop k us) → NoneOpens (drop m us)
none-drop zero zero us le h = h
none-drop zero (suc m) [] le h = tt
none-drop zero (suc m) (u ∷ us) le h = none-drop zero m us (omega arith) h.1
none-drop (suc k) zero us le h = absurd (omega (arith, le))
none-drop (suc k) (suc m) [] le h = tt
none-drop (suc k) (suc m) (u ∷ us) le h = none-drop k m us (omega (arith, le)) h

pub none-take : (k m : ℕ) (us : List Change) → NoneOpens (drop k us) → NoneOpens (drop k (take m us))
none-take zero zero us h = tt
none-take zero (suc m) [] h = tt
none-take zero (suc m) (u ∷ us) h = (h.0, none-take zero m us h.1)
none-take (suc k) zero us h = tt
none-take (suc k) (suc m) [] h = tt
none-take (suc k) (suc m) (u ∷ us) h = none-take k m us h

drop-push : (k : ℕ) (us : List Change) (u : Change) → k ≤ length us → drop k (us ++ u ∷ []) ≡ drop k us ++ u ∷ []
drop-push zero us u le = refl
drop-push (suc k) [] u le = absurd (omega (arith, le))
drop-push (suc k) (v ∷ us) u le = drop-push k us u (omega (arith, le))

drop-past : (k : ℕ) (us : List Change) → length us ≤ k → drop k us ≡ []
drop-past zero [] le = refl
drop-past zero (u ∷ us) le = absurd (omega (arith, le))
drop-past (suc k) [] le = refl
drop-past (suc k) (u ∷ us) le = drop-past k us (omega (arith, le))

-- nothing that the reader has said changes
heard_same : (ly : ConnectionState) (y x n : Side) (ms : List Notice) → n.ready ≡ x.ready → n.peer_ready ≡ x.peer_ready
    → n.peer_shut ≡ x.peer_shut → n.closed ≡ x.closed → CarriesReadiness ly y x ms → CarriesReadiness ly y n ms
heard_same Down y x n ms e f g c h =
    subst (λ b. ReadsReadiness (record (readiness_of y x) {
      peer_ready =
          b;
    }) AnyReadiness n.peer_ready n.peer_shut ms) (sym e)
    (subst (λ b. ReadsReadiness (readiness_of y x) AnyReadiness b n.peer_shut ms) (sym f)
    (subst (λ b. ReadsReadiness (readiness_of y x) AnyReadiness x.peer_ready b ms) (sym g) h))
heard_same AwaitingReestablish y x n ms e f g c h = h
heard_same Connected y x n ms e f g c h =
    subst (λ b. ReadsReadiness (record (readiness_of y x) { peer_ready = b }) (AllReadiness y.ready y.shut n.closed)
    n.peer_ready n.peer_shut ms) (sym e)
    (subst (λ q. ReadsReadiness (readiness_of y x) (AllReadiness y.ready y.shut q) n.peer_ready n.peer_shut ms) (sym c)
    (subst (λ b. ReadsReadiness (readiness_of y x) (AllReadiness y.ready y.shut x.closed) b n.peer_shut ms) (sym f)
    (subst (λ b. ReadsReadiness (readiness_of y x) (AllReadiness y.ready y.shut x.closed) x.peer_ready b ms) (sym g)
    h)))

-- ---- x sends channel_ready

heard_ready : (ly : ConnectionState) (y x : Side) (ms : List Notice) → CarriesReadiness ly y x ms
    → CarriesReadiness ly y (record x { ready = true }) ms
heard_ready Down y x ms h = readiness-more (readiness_of y x) (readiness_of y (record x { ready = true }))
    AnyReadiness x.peer_ready
    x.peer_shut ms (λ e. e) (λ e. e) (λ e. refl) refl (λ e. refl) (λ e. e) h
heard_ready AwaitingReestablish y x ms h = h
heard_ready Connected y x ms h = readiness-more (readiness_of y x) (readiness_of y (record x { ready = true }))
    (AllReadiness y.ready y.shut x.closed)
    x.peer_ready x.peer_shut ms (λ e. e) (λ e. e) (λ e. refl) refl (λ e. refl) (λ e. e) h

pub readiness_confirmed : (ly : ConnectionState) (x y : Side) (to_x to_y : List Notice)
    → BothReadiness (record { x_link = Connected; y_link = ly; x = x; y = y; to_x = to_x; to_y = to_y })
    → BothReadiness (confirms (record { x_link = Connected; y_link = ly; x = x; y = y; to_x = to_x; to_y = to_y }))
readiness_confirmed ly x y to_x to_y k =
    let f = k.there in
    let g = k.back in
    let n : Side = record x { ready = true } in
    let body : (ns : List Notice) → CarriesReadiness Connected x y ns
    → CarriesReadiness Connected n y (ns ++ Ready x.ready_message ∷ []) = λ ns h.
    readiness-push (readiness_of n y) (AllReadiness x.ready x.shut y.closed) (AllReadiness true x.shut y.closed)
    y.peer_ready
    y.peer_shut ns
    (Ready x.ready_message ∷ []) (λ q p a. (refl, refl, (λ e. refl, a.1)))
    (readiness-more (readiness_of x y) (readiness_of n y) (AllReadiness x.ready x.shut y.closed) y.peer_ready
    y.peer_shut ns (λ e. refl)
    (λ e. e) (λ e. e) refl (λ e. refl) (λ e. e) h) in
    record {
      there = record {
        ready_sent = λ e. refl;
        shut_sent = f.shut_sent;
        used = λ e. record { sent = refl; taken = (f.used e).taken };
        used_signature = λ e. record { sent = refl; taken = (f.used_signature e).taken };
        used_number = λ e. record { sent = refl; taken = (f.used_number e).taken };
        shut = f.shut;
        flight = spoken ly Connected Connected x n y (Ready x.ready_message ∷ []) to_y body f.flight;
      };
      back = record {
        ready_sent = g.ready_sent;
        shut_sent = g.shut_sent;
        used = g.used;
        used_signature = g.used_signature;
        used_number = g.used_number;
        shut = g.shut;
        flight =
            heard_ready ly y x to_x g.flight;
      };
    }

-- ---- x sends shutdown

pub readiness_shut : (ly : ConnectionState) (z : ShutdownMessage) (x y : Side) (to_x to_y : List Notice) → x.shut
    ≡ false
    → x.acked.own ≡ length x.own → BothReadiness (record {
      x_link = Connected;
      y_link = ly;
      x = x;
      y = y;
      to_x = to_x;
      to_y = to_y;
    })
    → BothReadiness (shuts z (record { x_link = Connected; y_link = ly; x = x; y = y; to_x = to_x; to_y = to_y }))
readiness_shut ly z x y to_x to_y unshut all k =
    let f = k.there in
    let g = k.back in
    let n : Side = record x { shut = true; shut_message = z } in
    let body : (ns : List Notice) → CarriesReadiness Connected x y ns
    → CarriesReadiness Connected n y (ns ++ Shutdown z ∷ []) = λ ns h.
    readiness-push (readiness_of n y) (AllReadiness x.ready x.shut y.closed) (AllReadiness x.ready true y.closed)
    y.peer_ready y.peer_shut ns
    (Shutdown z ∷ []) (λ q p a. (refl, refl, (a.0, refl)))
    (readiness-more (readiness_of x y) (readiness_of n y) (AllReadiness x.ready x.shut y.closed) y.peer_ready
    y.peer_shut ns (λ e. e) (λ e. refl)
    (λ e. e) refl (λ e. absurd (let d : true ≡ false = sym e ∙ unshut in cc)) (λ e. e) h) in
    record {
      there = record {
        ready_sent = f.ready_sent;
        shut_sent = λ e. refl;
        used = λ e. record { sent = (f.used e).sent; taken = (f.used e).taken };
        used_signature = λ e. record { sent = (f.used_signature e).sent; taken = (f.used_signature e).taken };
        used_number = λ e. record { sent = (f.used_number e).sent; taken = (f.used_number e).taken };
        shut = λ e. subst NoneOpens (sym (drop-past x.acked.own x.own (omega (arith, all)))) tt;
        flight = spoken ly Connected Connected x n y (Shutdown z ∷ []) to_y body f.flight;
      };
      back = record {
        ready_sent = g.ready_sent;
        shut_sent = g.shut_sent;
        used = g.used;
        used_signature = g.used_signature;
        used_number = g.used_number;
        shut = g.shut;
        flight =
            heard_same ly y x n to_x refl refl refl refl g.flight;
      };
    }

-- ---- x proposes, and signs

pub allowed_own : (o s : Bool) → IsAllowed o s → s ≡ true → o ≡ false
allowed_own true true h e = absurd (cc)
allowed_own true false h e = absurd (cc)
allowed_own false s h e = refl

pub ready_same : (x n : Side) → n.ready ≡ x.ready → n.peer_ready ≡ x.peer_ready → IsReady x → IsReady n
ready_same x n e f r = record { sent = e ∙ r.sent; taken = f ∙ r.taken }

pub readiness_proposed : (ly : ConnectionState) (x y : Side) (u : Change) (to_x to_y : List Notice) → y.closed ≡ false
    → x.acked.own ≤ length x.own
    → IsReady x → IsAllowed (opens u) x.shut → BothReadiness
    (record { x_link = Connected; y_link = ly; x = x; y = y; to_x = to_x; to_y = to_y })
    → BothReadiness (proposes u (record { x_link = Connected; y_link = ly; x = x; y = y; to_x = to_x; to_y = to_y }))
readiness_proposed ly x y u to_x to_y on le ready may k =
    let f = k.there in
    let g = k.back in
    let n = proposed u x in
    let r : IsReady n = ready_same x n refl refl ready in
    let body : (ns : List Notice) → CarriesReadiness Connected x y ns
    → CarriesReadiness Connected n y (ns ++ Update u ∷ []) = λ ns h.
    readiness-push (readiness_of x y) (AllReadiness x.ready x.shut y.closed) (AllReadiness x.ready x.shut y.closed)
    y.peer_ready
    y.peer_shut ns (Update u ∷ [])
    (λ q p a. (a.0 on ∙ ready.sent, g.ready_sent ready.taken, subst (IsAllowed (opens u)) (sym a.1) may, a)) h in
    record {
      there = record {
        ready_sent = f.ready_sent;
        shut_sent = f.shut_sent;
        used = λ e. r;
        used_signature = λ e. r;
        used_number = λ e. r;
        shut = λ e. subst NoneOpens (sym (drop-push x.acked.own x.own u le))
            (none-push (drop x.acked.own x.own) u (f.shut e) (allowed_own (opens u) x.shut may e));
        flight = spoken ly Connected Connected x n y (Update u ∷ []) to_y body f.flight;
      };
      back = record {
        ready_sent = g.ready_sent;
        shut_sent = g.shut_sent;
        used = g.used;
        used_signature = g.used_signature;
        used_number = g.used_number;
        shut = g.shut;
        flight =
            heard_same ly y x n to_x refl refl refl refl g.flight;
      };
    }

pub readiness_signed : (ly : ConnectionState) (z : CommitmentSigned) (x y : Side) (to_x to_y : List Notice)
    → y.closed ≡ false → IsReady x
    → BothReadiness (record { x_link = Connected; y_link = ly; x = x; y = y; to_x = to_x; to_y = to_y })
    → BothReadiness (signs z (record { x_link = Connected; y_link = ly; x = x; y = y; to_x = to_x; to_y = to_y }))
readiness_signed ly z x y to_x to_y on ready k =
    let f = k.there in
    let g = k.back in
    let n = signed_all z x in
    let r : IsReady n = ready_same x n refl refl ready in
    let body : (ns : List Notice) → CarriesReadiness Connected x y ns
    → CarriesReadiness Connected n y (ns ++ Sign z ∷ []) = λ ns h.
    readiness-push (readiness_of x y) (AllReadiness x.ready x.shut y.closed) (AllReadiness x.ready x.shut y.closed)
    y.peer_ready
    y.peer_shut ns (Sign z ∷ [])
    (λ q p a. (a.0 on ∙ ready.sent, g.ready_sent ready.taken, a)) h in
    record {
      there = record {
        ready_sent = f.ready_sent;
        shut_sent = f.shut_sent;
        used = λ e. r;
        used_signature = λ e. r;
        used_number = λ e. r;
        shut = f.shut;
        flight = spoken ly Connected Connected x n y (Sign z ∷ []) to_y body f.flight;
      };
      back = record {
        ready_sent = g.ready_sent;
        shut_sent = g.shut_sent;
        used = g.used;
        used_signature = g.used_signature;
        used_number = g.used_number;
        shut = g.shut;
        flight =
            heard_same ly y x n to_x refl refl refl refl g.flight;
      };
    }

-- ---- x takes what is in front of it

took_update : (ly : ConnectionState) (x y : Side) (u : Change) (ms : List Notice)
    → CarriesReadiness ly y x (Update u ∷ ms)
    → CarriesReadiness ly y (received u x) ms
took_update Down x y u ms h = h.3
took_update AwaitingReestablish x y u ms h = absurd (cc h)
took_update Connected x y u ms h = h.3

pub readiness_update : (ly : ConnectionState) (x y : Side) (u : Change) (ms to_y : List Notice)
    → BothReadiness (record { x_link = Connected; y_link = ly; x = x; y = y; to_x = Update u ∷ ms; to_y = to_y })
    → BothReadiness (record { x_link = Connected; y_link = ly; x = received u x; y = y; to_x = ms; to_y = to_y })
readiness_update ly x y u ms to_y k =
    let f = k.there in
    let g = k.back in
    let n = received u x in
    record {
      there = record {
        ready_sent = f.ready_sent;
        shut_sent = f.shut_sent;
        used = λ e. ready_same x n refl refl (f.used e);
        used_signature =
            λ e. ready_same x n refl refl (f.used_signature e);
        used_number =
            λ e. ready_same x n refl refl (f.used_number e);
        shut = f.shut;
        flight =
            silent ly Connected Connected x n y to_y (λ ns h. h) f.flight;
      };
      back = record {
        ready_sent = g.ready_sent;
        shut_sent = g.shut_sent;
        used = g.used;
        used_signature = g.used_signature;
        used_number = g.used_number;
        shut = g.shut;
        flight =
            took_update ly x y u ms g.flight;
      };
    }

took_sign : (ly : ConnectionState) (z : RevokeAndAck) (v : ChannelReestablish) (x y : Side)
    (k : CommitmentSigned) (ms : List Notice)
    → CarriesReadiness ly y x (Sign k ∷ ms) → (x.peer_ready ≡ true) × (x.ready ≡ true)
    × CarriesReadiness ly y (accepted_all z v x) ms
took_sign Down z v x y k ms h = h
took_sign AwaitingReestablish z v x y k ms h = absurd (cc h)
took_sign Connected z v x y k ms h = h

pub readiness_sign : (ly : ConnectionState) (z : RevokeAndAck) (v : ChannelReestablish) (x y : Side)
    (k : CommitmentSigned) (ms to_y : List Notice)
    → BothReadiness (record { x_link = Connected; y_link = ly; x = x; y = y; to_x = Sign k ∷ ms; to_y = to_y })
    → BothReadiness (record {
      x_link = Connected;
      y_link = ly;
      x = accepted_all z v x;
      y = y;
      to_x = ms;
      to_y = posts ly (Revoke z ∷ []) to_y;
    })
readiness_sign ly z v x y k ms to_y h =
    let f = h.there in
    let g = h.back in
    let n = accepted_all z v x in
    let t = took_sign ly z v x y k ms g.flight in
    let r : IsReady n = record { sent = t.1; taken = t.0 } in
    let body : (ns : List Notice) → CarriesReadiness Connected x y ns
    → CarriesReadiness Connected n y (ns ++ Revoke z ∷ []) = λ ns s.
    readiness-push (readiness_of x y) (AllReadiness x.ready x.shut y.closed) (AllReadiness x.ready x.shut y.closed)
    y.peer_ready y.peer_shut ns
    (Revoke z ∷ []) (λ q p a. a) s in
    record {
      there = record {
        ready_sent = f.ready_sent;
        shut_sent = f.shut_sent;
        used = λ e. r;
        used_signature = λ e. r;
        used_number = λ e. r;
        shut = f.shut;
        flight = spoken ly Connected Connected x n y (Revoke z ∷ []) to_y body f.flight;
      };
      back = record {
        ready_sent = g.ready_sent;
        shut_sent = g.shut_sent;
        used = g.used;
        used_signature = g.used_signature;
        used_number = g.used_number;
        shut = g.shut;
        flight = t.2;
      };
    }

took_revoke : (ly : ConnectionState) (z : CommitmentSigned) (v : ChannelReestablish) (x y : Side)
    (k : RevokeAndAck) (ms : List Notice)
    → CarriesReadiness ly y x (Revoke k ∷ ms) → CarriesReadiness ly y (acknowledged_all z v x) ms
took_revoke Down z v x y k ms h = h
took_revoke AwaitingReestablish z v x y k ms h = absurd (cc h)
took_revoke Connected z v x y k ms h = h

pub readiness_revoke : (ly : ConnectionState) (z : CommitmentSigned) (v : ChannelReestablish) (x y : Side)
    (k : RevokeAndAck) (ms to_y : List Notice)
    → x.acked.own ≤ x.signed.own → BothReadiness (record {
      x_link = Connected;
      y_link = ly;
      x = x;
      y = y;
      to_x = Revoke k ∷ ms;
      to_y = to_y;
    }) → BothReadiness (record {
      x_link = Connected;
      y_link = ly;
      x = acknowledged_all z v x;
      y = y;
      to_x = ms;
      to_y = to_y;
    })
readiness_revoke ly z v x y k ms to_y le h =
    let f = h.there in
    let g = h.back in
    let n = acknowledged_all z v x in
    record {
      there = record {
        ready_sent = f.ready_sent;
        shut_sent = f.shut_sent;
        used = λ e. ready_same x n refl refl (f.used e);
        used_signature =
            λ e. ready_same x n refl refl (f.used_signature e);
        used_number =
            λ e. ready_same x n refl refl (f.used_number e);
        shut =
            λ e. none-drop x.acked.own x.signed.own x.own le (f.shut e);
        flight =
            silent ly Connected Connected x n y to_y (λ ns s. s) f.flight;
      };
      back = record {
        ready_sent = g.ready_sent;
        shut_sent = g.shut_sent;
        used = g.used;
        used_signature = g.used_signature;
        used_number = g.used_number;
        shut = g.shut;
        flight =
            took_revoke ly z v x y k ms g.flight;
      };
    }

took_ready : (ly : ConnectionState) (z : ChannelReady) (m : CommitmentSigned) (x y : Side) (ms : List Notice)
    → CarriesReadiness ly y x (Ready z ∷ ms) → (y.ready ≡ true) × (z ≡ y.ready_message)
    × CarriesReadiness ly y (record x { peer_ready = true; signature = m }) ms
took_ready Down z m x y ms h = h
took_ready AwaitingReestablish z m x y ms h = absurd (cc h)
took_ready Connected z m x y ms h = h

pub readiness_ready : (ly : ConnectionState) (z : ChannelReady) (m : CommitmentSigned) (x y : Side)
    (ms to_y : List Notice)
    → BothReadiness (record { x_link = Connected; y_link = ly; x = x; y = y; to_x = Ready z ∷ ms; to_y = to_y })
    → BothReadiness (record {
      x_link = Connected;
      y_link = ly;
      x = record x { peer_ready = true; signature = m };
      y = y;
      to_x = ms;
      to_y = to_y;
    })
readiness_ready ly z m x y ms to_y h =
    let f = h.there in
    let g = h.back in
    let n : Side = record x { peer_ready = true; signature = m } in
    let t = took_ready ly z m x y ms g.flight in
    record {
      there = record {
        ready_sent = f.ready_sent;
        shut_sent = f.shut_sent;
        used = λ e. record { sent = (f.used e).sent; taken = refl };
        used_signature =
            λ e. record { sent = (f.used_signature e).sent; taken = refl };
        used_number =
            λ e. record { sent = (f.used_number e).sent; taken = refl };
        shut = f.shut;
        flight =
            silent ly Connected Connected x n y to_y (λ ns s. s) f.flight;
      };
      back = record {
        ready_sent = λ e. t.0;
        shut_sent = g.shut_sent;
        used = g.used;
        used_signature = g.used_signature;
        used_number = g.used_number;
        shut = g.shut;
        flight = t.2;
      };
    }

took_shutdown : (ly : ConnectionState) (z : ShutdownMessage) (x y : Side) (ms : List Notice)
    → CarriesReadiness ly y x (Shutdown z ∷ ms)
    → (y.shut ≡ true) × (z ≡ y.shut_message) × CarriesReadiness ly y (record x { peer_shut = true }) ms
took_shutdown Down z x y ms h = h
took_shutdown AwaitingReestablish z x y ms h = absurd (cc h)
took_shutdown Connected z x y ms h = h

pub readiness_shutdown : (ly : ConnectionState) (z : ShutdownMessage) (x y : Side) (ms to_y : List Notice)
    → BothReadiness (record { x_link = Connected; y_link = ly; x = x; y = y; to_x = Shutdown z ∷ ms; to_y = to_y })
    → BothReadiness (record {
      x_link = Connected;
      y_link = ly;
      x = record x { peer_shut = true };
      y = y;
      to_x =
          ms;
      to_y = to_y;
    })
readiness_shutdown ly z x y ms to_y h =
    let f = h.there in
    let g = h.back in
    let n : Side = record x { peer_shut = true } in
    let t = took_shutdown ly z x y ms g.flight in
    record {
      there = record {
        ready_sent = f.ready_sent;
        shut_sent = f.shut_sent;
        used = λ e. ready_same x n refl refl (f.used e);
        used_signature =
            λ e. ready_same x n refl refl (f.used_signature e);
        used_number =
            λ e. ready_same x n refl refl (f.used_number e);
        shut = f.shut;
        flight =
            silent ly Connected Connected x n y to_y (λ ns s. s) f.flight;
      };
      back = record {
        ready_sent = g.ready_sent;
        shut_sent = λ e. t.0;
        used = g.used;
        used_signature = g.used_signature;
        used_number = g.used_number;
        shut = g.shut;
        flight = t.2;
      };
    }

-- ---- where nothing moves any more

-- messages that ask for no channel_ready
abbrev pub IsStill : List Notice → Type 0
IsStill [] = Unit {0}
IsStill (Update u ∷ ms) = ⊥
IsStill (Sign k ∷ ms) = ⊥
IsStill (Revoke k ∷ ms) = ⊥
IsStill (Ready z ∷ ms) = IsStill ms
IsStill (Shutdown z ∷ ms) = IsStill ms
IsStill (Close z ∷ ms) = IsStill ms
IsStill (Again n ∷ ms) = ⊥

pub readiness-unready : (t : ReadinessOf) (P Q : Bool → Bool → Type 0) (q r s : Bool) (ms : List Notice) → IsStill ms
    → ((q r s : Bool) → P q s → Q r s) → ReadsReadiness t P q s ms → ReadsReadiness t Q r s ms
readiness-unready t P Q q r s [] i f h = f q r s h
readiness-unready t P Q q r s (Update u ∷ ms) i f h = absurd i
readiness-unready t P Q q r s (Sign k ∷ ms) i f h = absurd i
readiness-unready t P Q q r s (Revoke k ∷ ms) i f h = absurd i
readiness-unready t P Q q r s (Ready z ∷ ms) i f h = (h.0, h.1, readiness-unready t P Q true true s ms i f h.2)
readiness-unready t P Q q r s (Shutdown z ∷ ms) i f h = (h.0, h.1, readiness-unready t P Q q r true ms i f h.2)
readiness-unready t P Q q r s (Close z ∷ ms) i f h = (h.0, readiness-unready t P Q q r s ms i f h.1)
readiness-unready t P Q q r s (Again n ∷ ms) i f h = absurd i

pub readiness-to : (t : ReadinessOf) (P Q : Bool → Bool → Type 0) (r s : Bool) (ms : List Notice)
    → ((r s : Bool) → P r s → Q r s) → ReadsReadiness t P r s ms → ReadsReadiness t Q r s ms
readiness-to t P Q r s [] f h = f r s h
readiness-to t P Q r s (Update u ∷ ms) f h = (h.0, h.1, h.2, readiness-to t P Q r s ms f h.3)
readiness-to t P Q r s (Sign k ∷ ms) f h = (h.0, h.1, readiness-to t P Q r s ms f h.2)
readiness-to t P Q r s (Revoke k ∷ ms) f h = readiness-to t P Q r s ms f h
readiness-to t P Q r s (Ready z ∷ ms) f h = (h.0, h.1, readiness-to t P Q true s ms f h.2)
readiness-to t P Q r s (Shutdown z ∷ ms) f h = (h.0, h.1, readiness-to t P Q r true ms f h.2)
readiness-to t P Q r s (Close z ∷ ms) f h = (h.0, readiness-to t P Q r s ms f h.1)
readiness-to t P Q r s (Again n ∷ ms) f h = absurd h

-- a closed end passes over channel_ready
skipped_ready : (ly : ConnectionState) (z : ChannelReady) (x y : Side) (ms : List Notice) → x.closed ≡ true → IsStill ms
    → CarriesReadiness ly y x (Ready z ∷ ms) → CarriesReadiness ly y x ms
skipped_ready Down z x y ms c i h = readiness-unready (readiness_of y x) AnyReadiness AnyReadiness true x.peer_ready
    x.peer_shut
    ms i (λ q r s p. tt) h.2
skipped_ready AwaitingReestablish z x y ms c i h = absurd (cc)
skipped_ready Connected z x y ms c i h = readiness-unready (readiness_of y x) (AllReadiness y.ready y.shut x.closed)
    (AllReadiness y.ready y.shut x.closed) true x.peer_ready x.peer_shut ms i
    (λ q r s p. (λ e. absurd (let no : true ≡ false = sym c ∙ e in cc), p.1)) h.2

pub readiness_skipped : (ly : ConnectionState) (z : ChannelReady) (x y : Side) (ms to_y : List Notice) → x.closed ≡ true
    → IsStill ms → BothReadiness (record {
      x_link = Connected;
      y_link = ly;
      x = x;
      y = y;
      to_x = Ready z ∷
          ms;
      to_y = to_y;
    })
    → BothReadiness (record { x_link = Connected; y_link = ly; x = x; y = y; to_x = ms; to_y = to_y })
readiness_skipped ly z x y ms to_y c i h =
    let f = h.there in
    let g = h.back in
    record {
      there = f;
      back = record {
        ready_sent = g.ready_sent;
        shut_sent = g.shut_sent;
        used = g.used;
        used_signature = g.used_signature;
        used_number = g.used_number;
        shut = g.shut;
        flight =
            skipped_ready ly z x y ms c i g.flight;
      };
    }

-- ---- closing fees

took_close : (ly : ConnectionState) (z : ClosingSigned) (x y : Side) (ms : List Notice)
    → CarriesReadiness ly y x (Close z ∷ ms)
    → (has_bid y ≡ true) × CarriesReadiness ly y x ms
took_close Down z x y ms h = h
took_close AwaitingReestablish z x y ms h = absurd (cc)
took_close Connected z x y ms h = h

pub closing_sent : (ly : ConnectionState) (z : ClosingSigned) (x y : Side) (ms : List Notice)
    → CarriesReadiness ly y x (Close z ∷ ms) → has_bid y ≡ true
closing_sent ly z x y ms h = (took_close ly z x y ms h).0

pub readiness_close : (ly : ConnectionState) (z : ClosingSigned) (x y : Side) (ms to_y : List Notice)
    → BothReadiness (record { x_link = Connected; y_link = ly; x = x; y = y; to_x = Close z ∷ ms; to_y = to_y })
    → BothReadiness (record { x_link = Connected; y_link = ly; x = x; y = y; to_x = ms; to_y = to_y })
readiness_close ly z x y ms to_y h =
    let g = h.back in
    record {
      there = h.there;
      back = record {
        ready_sent = g.ready_sent;
        shut_sent = g.shut_sent;
        used = g.used;
        used_signature = g.used_signature;
        used_number = g.used_number;
        shut = g.shut;
        flight =
            (took_close ly z x y ms g.flight).1;
      };
    }

heard_dealt : (ly : ConnectionState) (m : Option ClosingSigned) (c : Bool) (y x : Side) (ms : List Notice)
    → (x.closed ≡ true → c ≡ true) → CarriesReadiness ly y x ms → CarriesReadiness ly y (dealt m c x) ms
heard_dealt Down m c y x ms f h = h
heard_dealt AwaitingReestablish m c y x ms f h = h
heard_dealt Connected m c y x ms f h = readiness-to (readiness_of y x) (AllReadiness y.ready y.shut x.closed)
    (AllReadiness y.ready y.shut c)
    x.peer_ready x.peer_shut ms (λ r s p. (λ e. p.0 (unclosed x.closed c f e), p.1)) h
  where
    unclosed : (a b : Bool) → (a ≡ true → b ≡ true) → b ≡ false → a ≡ false
    unclosed true b g e = absurd (let no : true ≡ false = sym (g refl) ∙ e in cc)
    unclosed false b g e = refl

-- it sends this, or nothing
pub readiness_dealt : (ly : ConnectionState) (m : Option ClosingSigned) (c : Bool)
    (sent : Option ClosingSigned) (x y : Side)
    (to_x to_y : List Notice) → (x.closed ≡ true → c ≡ true) → (has_bid x ≡ true → is_some m ≡ true)
    → (is_some sent ≡ true → is_some m ≡ true)
    → BothReadiness (record { x_link = Connected; y_link = ly; x = x; y = y; to_x = to_x; to_y = to_y })
    → BothReadiness (record {
      x_link = Connected;
      y_link = ly;
      x = dealt m c x;
      y = y;
      to_x = to_x;
      to_y = posts ly (closes_of sent) to_y;
    })
readiness_dealt ly m c sent x y to_x to_y cl bd st k =
    let f = k.there in
    let g = k.back in
    let n : Side = dealt m c x in
    let body : (ns : List Notice) → CarriesReadiness Connected x y ns
    → CarriesReadiness Connected n y (ns ++ closes_of sent) = λ ns h.
    readiness-push (readiness_of n y) (AllReadiness x.ready x.shut y.closed) (AllReadiness x.ready x.shut y.closed)
    y.peer_ready
    y.peer_shut
    ns (closes_of sent) (λ q p a. says sent st q p a)
    (readiness-more (readiness_of x y) (readiness_of n y) (AllReadiness x.ready x.shut y.closed) y.peer_ready
    y.peer_shut ns (λ e. e)
    (λ e. e) (λ e. e) refl (λ e. refl) bd h) in
    record {
      there = record {
        ready_sent = f.ready_sent;
        shut_sent = f.shut_sent;
        used = λ e. ready_same x n refl refl (f.used e);
        used_signature =
            λ e. ready_same x n refl refl (f.used_signature e);
        used_number =
            λ e. ready_same x n refl refl (f.used_number e);
        shut = f.shut;
        flight =
            spoken ly Connected Connected x n y (closes_of sent) to_y body f.flight;
      };
      back = record {
        ready_sent = g.ready_sent;
        shut_sent = g.shut_sent;
        used = g.used;
        used_signature = g.used_signature;
        used_number = g.used_number;
        shut = g.shut;
        flight =
            heard_dealt ly m c y x to_x cl g.flight;
      };
    }
  where
    says : (o : Option ClosingSigned) → (is_some o ≡ true → is_some m ≡ true) → (q p : Bool)
        → AllReadiness x.ready x.shut y.closed q p → ReadsReadiness (readiness_of (dealt m c x) y)
        (AllReadiness x.ready x.shut y.closed) q p (closes_of o)
    says None i q p a = a
    says (Some w) i q p a = (i refl, a)
