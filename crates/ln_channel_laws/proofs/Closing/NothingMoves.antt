-- Where closing has begun nothing moves any more.
use Rattle.std.proofs.Common.{◌≡◌, ℕ, ◌+◌, ◌==◌, List, [], ◌∷◌, length, take, refl, sym, ap, ◌∙◌, subst, arith, Bool}
use Rattle.std.proofs.Common.{true, false, cond, Option, Some, None}
use Rattle.std.proofs.lemmas.Bool.{eqb-true}
use Rattle.std.proofs.lemmas.List.{take_all, length-take-le}
use Rattle.std.specs.List.{cons_option}
use Rattle.ln_keys.specs.declared.role.Role.{Role}
use Rattle.ln_msgs.specs.declared.messages.commitments.CommitmentSigned.{CommitmentSigned}
use Rattle.ln_msgs.specs.declared.messages.commitments.RevokeAndAck.{RevokeAndAck}
use Rattle.ln_log.specs.declared.opening.Opening.{Opening}
use Rattle.ln_log.specs.declared.update.Add.{Add}
use Rattle.ln_log.specs.declared.update.Update.{Update as Change}
use Rattle.ln_log.specs.declared.update.Update.TheVariants as update
use Rattle.ln_log.specs.Opening.{limits_of, first_balance}
use Rattle.ln_log.specs.Updates.{offered, found_or, add_with, outcome, is_live, is_some}
use Rattle.ln_log.specs.View.{live_of, live_adds}
use Rattle.ln_log.specs.Limits.{standing_of, update_fault}
use Rattle.ln_log.specs.Log.{Counts}
use Rattle.ln_log.proofs.Kept.{names_live}
use Rattle.ln_channel.specs.declared.machine.ConnectionState.{ConnectionState}
use Rattle.ln_channel.specs.declared.machine.ConnectionState.TheVariants.{Down, AwaitingReestablish, Connected}
use Rattle.ln_channel_laws.proofs.Flight.Sides.{opens, has_bid, Notice, Update, Sign, Revoke, Ready, Shutdown, Close}
use Rattle.ln_channel_laws.proofs.Flight.Sides.{Again}
use Rattle.ln_channel_laws.proofs.Flight.Sides.{Side}
use Rattle.ln_channel_laws.proofs.Flight.Sides.{dropped}
use Rattle.ln_channel_laws.proofs.Flight.Walk.{FitsBehind, Sender, sender, IsDue, IsNext, Reads}
use Rattle.ln_channel_laws.proofs.Flight.Walk.{LacksNothing}
use Rattle.ln_channel_laws.proofs.Flight.Walk.{Anywhere, holds, IsWithin, Flows}
use Rattle.ln_channel_laws.proofs.Readiness.ReadinessInFlight.{IsAllowed, ReadinessOf, ReadsReadiness}
use Rattle.ln_channel_laws.proofs.Readiness.ReadinessInFlight.{AllReadiness, AnyReadiness, readiness_of}
use Rattle.ln_channel_laws.proofs.Readiness.ReadinessInFlight.{ReadinessFlow}
use Rattle.ln_channel_laws.proofs.Flight.WalkOverActs.{unaccepted, revoked_for, number_is}
use Rattle.ln_channel_laws.proofs.Readiness.ReadinessOverActs.{IsStill, allowed_own}

-- both have shut down, every update stands acknowledged in both commitments, and no HTLC is live
pub record Begun (shut peer_shut : Bool) (acked current : Counts) (own got : List Change) : Type 0 where
  pub shut_sent : shut ≡ true
  pub shut_taken : peer_shut ≡ true
  pub own_acked : acked.own ≡ length own
  pub own_current : current.own ≡ length own
  pub peer_current : current.peer ≡ length got
  pub peer_acked : acked.peer ≡ length got
  pub none_own : live_adds own got ≡ []
  pub none_got : live_adds got own ≡ []

abbrev pub HasBegun : Side → Type 0
HasBegun x = Begun x.shut x.peer_shut x.acked x.current x.own x.got

-- for one direction: an unrevoked signature covers something new; who has sent a fee, or is closed, has begun; and who
-- has closed was sent a fee
pub record Ending (x y : Side) : Type 0 where
  pub news : x.signatures ≡ x.revocations + 1 → x.acked.own ≡ x.signed.own → x.acked.peer ≡ x.signed.peer → ⊥
  pub begun : has_bid x ≡ true → HasBegun x
  pub closed : x.closed ≡ true → HasBegun x
  pub answered : y.closed ≡ true → has_bid x ≡ true

pub covers_all : (x : Side) → IsWithin x → HasBegun x → (x.signed.own ≡ length x.own) × (x.signed.peer ≡ x.current.peer)
covers_all x w b = (
  omega (arith, w.own_acked, w.own_signed, b.own_acked),
  omega (arith, w.peer_acked, w.peer_signed, b.peer_acked, b.peer_current),
)

-- an HTLC that was offered, where none is live, was removed
gone_one : (id : ℕ) (a : Add) (rs : List Change) (rest : List Add) → a.id ≡ id
    → cons_option (cond (is_live (outcome a.id rs)) (Some a) None) rest ≡ [] → is_live (outcome id rs) ≡ false
gone_one id a rs rest f h = subst (λ n. is_live (outcome n rs) ≡ false) f (none (is_live (outcome a.id rs)) h)
  where
    none : (b : Bool) → cons_option (cond b (Some a) None) rest ≡ [] → b ≡ false
    none true g = absurd (cc)
    none false g = refl

rest_gone : (o : Option Add) (rs : List Change) (rest : List Add) → cons_option (live_of o rs) rest ≡ [] → rest ≡ []
rest_gone None rs rest h = h
rest_gone (Some a) rs rest h = none (is_live (outcome a.id rs)) h
  where
    none : (b : Bool) → cons_option (cond b (Some a) None) rest ≡ [] → rest ≡ []
    none true g = absurd (cc)
    none false g = g

gone_here : (id : ℕ) (a : Add) (t : Bool) (rs : List Change) (rest : List Add) (found : Option Add) → t ≡ (a.id == id)
    → cons_option (live_of (Some a) rs) rest ≡ [] → (rest ≡ [] → is_some found ≡ true → is_live (outcome id rs) ≡ false)
    → is_some (cond t (Some a) found) ≡ true → is_live (outcome id rs) ≡ false
gone_here id a true rs rest found d g ih k = gone_one id a rs rest (eqb-true a.id id (sym d)) g
gone_here id a false rs rest found d g ih k = ih (rest_gone (Some a) rs rest g) k

gone_by : (id : ℕ) (o : Option Add) (rs : List Change) (rest : List Add) (found : Option Add)
    → cons_option (live_of o rs) rest ≡ [] → (rest ≡ [] → is_some found ≡ true → is_live (outcome id rs) ≡ false)
    → is_some (found_or id o found) ≡ true → is_live (outcome id rs) ≡ false
gone_by id None rs rest found g ih k = ih g k
gone_by id (Some a) rs rest found g ih k = gone_here id a (a.id == id) rs rest found refl g ih k

gone : (id : ℕ) (us rs : List Change) → live_adds us rs ≡ [] → is_some (add_with id us) ≡ true
    → is_live (outcome id rs) ≡ false
gone id [] rs h e = absurd (cc)
gone id (u ∷ us) rs h e = gone_by id (offered u) rs (live_adds us rs) (add_with id us) h (gone id us rs) e

-- so nothing can be removed any more
pub removes_none : (o : Opening) (r : Role) (own seen held : List Change) (u : Change) → live_adds held own ≡ []
    → opens u ≡ false → update_fault o r own seen held u ≡ None → ⊥
removes_none o r own seen held (update.Add a) e f h = absurd (cc)
removes_none o r own seen held (update.Fee a) e f h = absurd (cc)
removes_none o r own seen held (update.Fulfil a) e f h =
    let n = names_live (limits_of o r) (standing_of (first_balance o r) own seen) r own held (update.Fulfil a) h in
    let d : true ≡ false = ap is_live (sym n.1) ∙ gone a.id held own e n.0 in absurd (cc)
removes_none o r own seen held (update.Fail a) e f h =
    let n = names_live (limits_of o r) (standing_of (first_balance o r) own seen) r own held (update.Fail a) h in
    let d : true ≡ false = ap is_live (sym n.1) ∙ gone a.id held own e n.0 in absurd (cc)
removes_none o r own seen held (update.Malformed a) e f h =
    let n = names_live (limits_of o r) (standing_of (first_balance o r) own seen) r own held (update.Malformed a) h in
    let d : true ≡ false = ap is_live (sym n.1) ∙ gone a.id held own e n.0 in absurd (cc)

pub no_removal : (o : Opening) (r : Role) (own seen held : List Change) (u : Change) → live_adds held own ≡ []
    → opens u ≡ false → FitsBehind o r own seen held u → ⊥
no_removal o r own seen held u e f h = removes_none o r own seen held u e f h.within

-- ---- what is in flight to an end that has begun

still_by : (w : Sender) (t : ReadinessOf) (own held : List Change) (all : ℕ) (Q : List Change → ℕ → ℕ → ℕ → Type 0)
    (P : Bool → Bool → Type 0) (got : List Change) (a c r : ℕ) (q : Bool) (ms : List Notice) → live_adds held got ≡ []
    → ((k : CommitmentSigned) → IsDue w got a c k → ⊥) → ((k : RevokeAndAck) → IsNext w c r k → ⊥)
    → Reads w own held all Q got a c r ms → ReadsReadiness t P q true ms → IsStill ms
still_by w t own held all Q P got a c r q [] le due next h k = tt
still_by w t own held all Q P got a c r q (Update u ∷ ms) le due next h k =
    no_removal w.opening w.role got (take a own) held u le (allowed_own (opens u) true k.2 refl) h.0
still_by w t own held all Q P got a c r q (Sign n ∷ ms) le due next h k = due n h.0
still_by w t own held all Q P got a c r q (Revoke n ∷ ms) le due next h k = next n h.0
still_by w t own held all Q P got a c r q (Ready z ∷ ms) le due next h k =
    still_by w t own held all Q P got a c r true ms le due next h k.2
still_by w t own held all Q P got a c r q (Shutdown z ∷ ms) le due next h k =
    still_by w t own held all Q P got a c r q ms le due next h k.2
still_by w t own held all Q P got a c r q (Close z ∷ ms) le due next h k =
    still_by w t own held all Q P got a c r q ms le due next h k.1
still_by w t own held all Q P got a c r q (Again n ∷ ms) le due next h k = absurd h

-- a signature there would cover nothing new
pub not_due : (lx ly : ConnectionState) (x y : Side) (ms : List Notice) → Flows ly lx y x ms → Ending y x → HasBegun x
    → (k : CommitmentSigned) → IsDue (sender y) x.got x.acked.own x.number k → ⊥
not_due lx ly x y ms g e b k d =
    let p = unaccepted y.signatures y.revocations x.number y.acked y.signed x.current d.next g.phase in
    e.news p.1 (sym p.2 ∙ b.peer_current ∙ ap length d.covers ∙ length-take-le y.signed.own y.own g.within.own_signed)
    (sym p.3 ∙ b.own_current ∙ sym b.own_acked ∙ d.knows)

-- and none of its own is unrevoked
pub not_next : (lx ly : ConnectionState) (x y : Side) (ms : List Notice) → Flows lx ly x y ms → Ending x y → HasBegun x
    → (k : RevokeAndAck) → IsNext (sender y) x.number x.revocations k → ⊥
not_next lx ly x y ms f e b k d =
    let p = revoked_for x.signatures x.revocations y.number x.acked x.signed y.current d.next f.phase in
    let all = covers_all x f.within b in
    e.news p.0 (b.own_acked ∙ sym all.0) (b.peer_acked ∙ sym b.peer_current ∙ sym all.1)

-- what x holds is all its own
pub held_none : (x : Side) → HasBegun x → live_adds (holds x) x.got ≡ []
held_none x b = subst (λ us. live_adds us x.got ≡ [])
    (sym (take_all x.current.own x.own (omega (arith, b.own_current)))) b.none_own

pub still : (ly : ConnectionState) (x y : Side) (ns ms : List Notice) → Flows Connected ly x y ns
    → Flows ly Connected y x ms
    → ReadinessFlow ly Connected y x ms → Ending x y → Ending y x → HasBegun x → IsStill ms
still Down x y ns ms f g t d e b =
    still_by (sender y) (readiness_of y x) x.own (holds x) x.signed.own Anywhere AnyReadiness x.got x.acked.own x.number
    x.revocations x.peer_ready ms (held_none x b) (not_due Connected Down x y ms g e b)
    (not_next Connected Down x y ns f d b) g.flight
    (subst (λ s. ReadsReadiness (readiness_of y x) AnyReadiness x.peer_ready s ms) b.shut_taken t.flight)
still AwaitingReestablish x y ns ms f g t d e b = subst IsStill (sym g.flight.0) tt
still Connected x y ns ms f g t d e b =
    still_by (sender y) (readiness_of y x) x.own (holds x) x.signed.own
    (LacksNothing y.own y.current.peer y.signatures y.number) (AllReadiness y.ready y.shut x.closed) x.got x.acked.own
    x.number x.revocations x.peer_ready ms (held_none x b) (not_due Connected Connected x y ms g e b)
    (not_next Connected Connected x y ns f d b) g.flight
    (subst (λ s. ReadsReadiness (readiness_of y x) (AllReadiness y.ready y.shut x.closed) x.peer_ready s ms)
    b.shut_taken t.flight)

-- an end that has begun can't propose
pub no_proposal : (x : Side) (u : Change) → HasBegun x
    → FitsBehind x.opening x.role x.own (take x.current.peer x.got) (take x.acked.peer x.got) u
    → IsAllowed (opens u) x.shut → ⊥
no_proposal x u b h may =
    no_removal x.opening x.role x.own (take x.current.peer x.got) (take x.acked.peer x.got) u
    (subst (λ us. live_adds us x.own ≡ []) (sym (take_all x.acked.peer x.got (omega (arith, b.peer_acked))))
    b.none_got) (allowed_own (opens u) x.shut may b.shut_sent) h

-- nothing is owed to an end that is closed
pub none_owed : (lx ly : ConnectionState) (x y : Side) (ms : List Notice) → Flows lx ly x y ms → Ending x y
    → y.closed ≡ true
    → y.number ≡ x.signatures
none_owed lx ly x y ms f e c =
    let b = e.begun (e.answered c) in
    let all = covers_all x f.within b in
    number_is x.signatures x.revocations y.number x.acked x.signed y.current
    (λ one. e.news one (b.own_acked ∙ sym all.0) (b.peer_acked ∙ sym b.peer_current ∙ sym all.1)) f.phase

pub begun_dropped : (x : Side) → IsWithin x → HasBegun x → HasBegun (dropped x)
begun_dropped x w b =
    let all = covers_all x w b in
    let own : take x.signed.own x.own ≡ x.own = take_all x.signed.own x.own (omega (arith, all.0)) in
    let got : take x.current.peer x.got ≡ x.got = take_all x.current.peer x.got (omega (arith, b.peer_current)) in
    subst (λ us. Begun x.shut x.peer_shut x.acked x.current us (take x.current.peer x.got)) (sym own)
    (subst (λ us. Begun x.shut x.peer_shut x.acked x.current x.own us) (sym got) b)
