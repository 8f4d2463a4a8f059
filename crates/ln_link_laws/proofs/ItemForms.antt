-- The items of a record have their forms where they are as wide as their types.
use Rattle.std.proofs.Common.{◌≡◌, ◌<◌, ◌≤◌, ◌^◌, ℕ, List, [], ◌∷◌, length, refl, arith}
use Rattle.std.proofs.Common.{Bool, true, false, cond, nat_lt, Option, Some, None}
use Rattle.std.proofs.lemmas.Bool.{lt-ltb, eq-eqb}
use Rattle.std.specs.List.{list_all}
use Rattle.ln_refusals.specs.declared.refusal.Refusal.{Refusal}
use Rattle.ln_keys.specs.declared.role.Role.{Role}
use Rattle.ln_keys.specs.declared.role.Role.TheVariants.{Funder, Fundee}
use Rattle.ln_dance.specs.declared.dance.Later.{Later}
use Rattle.ln_dance.specs.declared.dance.Later.TheVariants.{Signature, Revocation}
use Rattle.ln_dance.specs.declared.dance.Numbers.{Numbers}
use Rattle.ln_dance.specs.declared.dance.Peer.{Peer}
use Rattle.ln_close.specs.declared.closing.Fees.{Fees}
use Rattle.ln_log.specs.declared.mark.Decision.{Decision}
use Rattle.ln_log.specs.declared.mark.EventRef.{EventRef}
use Rattle.ln_log.specs.declared.mark.Mark.{Mark}
use Rattle.ln_log.specs.declared.mark.Mark.TheVariants as mark
use Rattle.ln_log.specs.declared.mark.Settlement.{Settlement}
use Rattle.ln_log.specs.declared.update.Update.{Update}
use Rattle.ln_log.specs.declared.update.Update.TheVariants as kinds
use Rattle.ln_log.specs.Updates.{removed, is_some as removes_one}
use Rattle.ln_log.specs.declared.mark.EventRef.TheVariants as ref
use Rattle.ln_store.specs.declared.record.Flags.{Flags}
use Rattle.ln_store.specs.declared.record.Agreement.{Agreement}
use Rattle.ln_store.specs.declared.record.LiveHtlc.{LiveHtlc}
use Rattle.ln_store.specs.declared.record.Sides.{Sides}
use Rattle.ln_store.specs.declared.record.Base.{Base}
use Rattle.ln_store.specs.declared.record.Covered.{Covered}
use Rattle.ln_store.specs.declared.record.Pairs.{Pairs}
use Rattle.ln_store.specs.declared.record.Events.{Events}
use Rattle.ln_store.specs.declared.record.ClosingFees.{ClosingFees}
use Rattle.ln_store.specs.declared.record.Forwards.{Forwards}
use Rattle.ln_store.specs.Format.{Format, number, fixed, sized, optional, is_some}
use Rattle.ln_store.specs.Items as it
use Rattle.ln_store.specs.Items.{bit, later_bit, flags_number}
use Rattle.ln_channel_laws.specs.Widths.{IsAdd}
use Rattle.ln_channel_laws.proofs.Offered.{All, Where, Does, IsDecision, IsSettlement, longest_script}
use Rattle.ln_link_laws.proofs.UpdateForms.{also, add_fits, update_fits}

where_fits : {A : Type 0} (f : Format A) (P : A → Type 0) → ((x : A) → P x → f.fits x ≡ true) → (o : Option A)
    → Where P o → (optional f).fits o ≡ true
where_fits f P g None h = refl
where_fits f P g (Some x) h = g x h

-- ---- who, and what was sent and taken

role_fits : (r : Role) → it.role.fits r ≡ true
unfolding it.role
role_fits Funder = refl
role_fits Fundee = refl

bit_below : (b : Bool) → bit b ≤ 1
bit_below true = omega arith
bit_below false = omega arith

later_below : (l : Later) → later_bit l ≤ 1
later_below Signature = omega arith
later_below Revocation = omega arith

flags_below : (f : Flags) → flags_number f < 32
flags_below f =
    let a = bit_below f.ready_sent in
    let b = bit_below f.ready_received in
    let c = bit_below f.shut_sent in
    let d = bit_below f.shut_received in
    let l = later_below f.later in
    omega (arith, a, b, c, d, l)

some_if : {A : Type 0} (b : Bool) (x : A) → b ≡ true → is_some (cond b (Some x) None) ≡ true
some_if true x e = refl
some_if false x e = absurd cc

flags_fit : (f : Flags) → it.flags.fits f ≡ true
unfolding it.flags
flags_fit f =
    let below = flags_below f in
    also (lt-ltb (flags_number f) 256 (omega (arith, below)))
    (some_if (nat_lt (flags_number f) 32) _ (lt-ltb (flags_number f) 32 below))

pub header_fits : (channel : List ℕ) (r : Role) (f : Flags) (failure : Option Refusal) → length channel ≡ 32
    → it.failure.fits failure ≡ true
    → it.header.fits (record { channel = channel; role = r; flags = f; failure = failure }) ≡ true
unfolding it.header
header_fits channel r f failure len fits =
    also (eq-eqb (length channel) 32 len) (also (role_fits r) (also (flags_fit f) fits))

-- ---- what was agreed on, and numbers of commitments

pub fees_fit : (f : Fees) → f.first < 2 ^ 64 → f.least < 2 ^ 64 → f.greatest < 2 ^ 64 → it.fees.fits f ≡ true
unfolding it.fees
fees_fit f a b c =
    also (lt-ltb f.first (2 ^ 64) a) (also (lt-ltb f.least (2 ^ 64) b) (lt-ltb f.greatest (2 ^ 64) c))

script_fits : (s : List ℕ) → length s ≤ longest_script → (sized 2).fits s ≡ true
script_fits s h = lt-ltb (length s) 65536 (omega (arith, h))

pub agreement_fits : (a : Agreement) → length a.open_payload ≤ 65535 → length a.accept_payload ≤ 65535
    → (optional (fixed 8)).fits a.place ≡ true → it.fees.fits a.fees ≡ true → length a.script ≤ longest_script
    → Where (λ s. length s ≤ longest_script) a.peer_script → it.agreement.fits a ≡ true
unfolding it.agreement
agreement_fits a asked accept place fees script peer =
    also (lt-ltb (length a.open_payload) (2 ^ 32) (omega (arith, asked)))
    (also (lt-ltb (length a.accept_payload) (2 ^ 32) (omega (arith, accept))) (also place (also fees
    (also (script_fits a.script script)
    (where_fits (sized 2) (λ s. length s ≤ longest_script) script_fits a.peer_script peer)))))

pub numbers_fit : (n : Numbers) → n.commitment < 2 ^ 48 → n.signed < 2 ^ 48 → n.revoked < 2 ^ 48
    → it.numbers.fits n ≡ true
unfolding it.numbers
numbers_fit n a b c =
    also (lt-ltb n.commitment (2 ^ 64) (omega (arith, a))) (also (lt-ltb n.signed (2 ^ 64) (omega (arith, b)))
    (lt-ltb n.revoked (2 ^ 64) (omega (arith, c))))

pub peer_fits : (p : Peer) → length p.point ≡ 33 → length p.next_point ≡ 33 → Where (λ s. length s ≡ 32) p.secret
    → it.peer.fits p ≡ true
unfolding it.peer
peer_fits p point next secret =
    also (eq-eqb (length p.point) 33 point) (also (eq-eqb (length p.next_point) 33 next)
    (where_fits (fixed 32) (λ s. length s ≡ 32) (λ s e. eq-eqb (length s) 32 e) p.secret secret))

-- ---- updates

-- numbers of eight bytes
abbrev pub AreSides : Sides → Type 0
AreSides s = (s.funder < 2 ^ 64) × (s.fundee < 2 ^ 64)

sides_fit : (s : Sides) → AreSides s → it.sides.fits s ≡ true
unfolding it.sides
sides_fit s h = also (lt-ltb s.funder (2 ^ 64) h.0) (lt-ltb s.fundee (2 ^ 64) h.1)

abbrev pub IsLive : LiveHtlc → Type 0
IsLive h = IsAdd h.add

live_fits : (h : LiveHtlc) → IsLive h → it.live.fits h ≡ true
unfolding it.live
live_fits h is = also (role_fits h.offerer) (add_fits h.add is)

each_live_fits : (hs : List LiveHtlc) → All IsLive hs → list_all it.live.fits hs ≡ true
each_live_fits [] is = refl
each_live_fits (h ∷ hs) is = also (live_fits h is.0) (each_live_fits hs is.1)

pub base_fits : (b : Base) → AreSides b.updates → AreSides b.next_ids → AreSides b.balances → b.feerate < 2 ^ 32
    → length b.live < 2 ^ 64 → All IsLive b.live → it.base.fits b ≡ true
unfolding it.base
base_fits b updates ids balances feerate few live =
    also (sides_fit b.updates updates) (also (sides_fit b.next_ids ids) (also (sides_fit b.balances balances)
    (also (lt-ltb b.feerate (2 ^ 32) feerate)
    (also (lt-ltb (length b.live) (2 ^ 64) few) (each_live_fits b.live live)))))

-- fewer than 2^64 of either side
abbrev pub IsCount : Covered → Type 0
IsCount c = (c.own < 2 ^ 64) × (c.peer < 2 ^ 64)

covered_fits : (c : Covered) → IsCount c → it.covered.fits c ≡ true
unfolding it.covered
covered_fits c h = also (lt-ltb c.own (2 ^ 64) h.0) (lt-ltb c.peer (2 ^ 64) h.1)

covered_by_own_fits : (c : Covered) → IsCount c → it.covered_by_own.fits c ≡ true
unfolding it.covered_by_own
covered_by_own_fits c h = also (lt-ltb c.peer (2 ^ 64) h.1) (lt-ltb c.own (2 ^ 64) h.0)

pub pairs_fit : (p : Pairs) → IsCount p.signed → IsCount p.acknowledged → IsCount p.current → it.pairs.fits p ≡ true
unfolding it.pairs
pairs_fit p s a c =
    also (covered_fits p.signed s) (also (covered_fits p.acknowledged a) (covered_by_own_fits p.current c))

-- ---- events and closing fees

-- an event of an update with a number below 2^64, or the close
abbrev pub IsNumbered : EventRef → Type 0
IsNumbered (ref.Own n) = n < 2 ^ 64
IsNumbered (ref.Peer n) = n < 2 ^ 64
IsNumbered ref.Close = Unit {0}

event_fits : (r : EventRef) → IsNumbered r → it.event.fits r ≡ true
unfolding it.event it.no_number
event_fits (ref.Own n) h = lt-ltb n (2 ^ 64) h
event_fits (ref.Peer n) h = lt-ltb n (2 ^ 64) h
event_fits ref.Close h = refl

each_event_fits : (rs : List EventRef) → All IsNumbered rs → list_all it.event.fits rs ≡ true
each_event_fits [] h = refl
each_event_fits (r ∷ rs) h = also (event_fits r h.0) (each_event_fits rs h.1)

pub events_fit : (e : Events) → e.decided < 2 ^ 64 → length e.undecided < 2 ^ 64 → All IsNumbered e.undecided
    → it.events.fits e ≡ true
unfolding it.events
events_fit e decided short h =
    also (lt-ltb e.decided (2 ^ 64) decided)
    (also (lt-ltb (length e.undecided) (2 ^ 64) short) (each_event_fits e.undecided h))

mark_fits : (m : Mark) → Does m → it.stored_mark.fits m ≡ true
unfolding it.stored_mark
mark_fits mark.None h = absurd h
mark_fits (mark.Forward channel amount expiry) h =
    also (eq-eqb (length channel) 32 h.channel_fits)
    (also (lt-ltb amount (2 ^ 64) h.amount_fits) (lt-ltb expiry (2 ^ 32) h.expiry_fits))
mark_fits (mark.Fail reason) h = lt-ltb (length reason) (2 ^ 64) h
mark_fits (mark.Malformed code) h = lt-ltb code (2 ^ 16) h
mark_fits (mark.Fulfil preimage) h = eq-eqb (length preimage) 32 h
mark_fits (mark.Held event) h = lt-ltb event (2 ^ 64) h

decision_fits : (d : Decision) → IsDecision d → it.decision.fits d ≡ true
unfolding it.decision
decision_fits d h = also (lt-ltb d.id (2 ^ 64) h.id) (mark_fits d.mark h.mark)

each_decision_fits : (ds : List Decision) → All IsDecision ds → list_all it.decision.fits ds ≡ true
each_decision_fits [] h = refl
each_decision_fits (d ∷ ds) h = also (decision_fits d h.0) (each_decision_fits ds h.1)

removes : (u : Update) → removes_one (removed u) ≡ true → it.is_removal u ≡ true
removes (kinds.Add a) e = absurd (cc)
removes (kinds.Fulfil f) e = refl
removes (kinds.Fail f) e = refl
removes (kinds.Malformed m) e = refl
removes (kinds.Fee f) e = absurd (cc)

settlement_fits : (s : Settlement) → IsSettlement s → it.settlement.fits s ≡ true
unfolding it.settlement
settlement_fits s h =
    also (lt-ltb s.id (2 ^ 64) h.id)
    (also (also (eq-eqb (length s.origin.0) 32 h.origin.0) (lt-ltb s.origin.1 (2 ^ 64) h.origin.1))
    (also (update_fits s.removal h.update) (removes s.removal h.removal)))

each_settlement_fits : (ss : List Settlement) → All IsSettlement ss → list_all it.settlement.fits ss ≡ true
each_settlement_fits [] h = refl
each_settlement_fits (s ∷ ss) h = also (settlement_fits s h.0) (each_settlement_fits ss h.1)

pub forwards_fit : (f : Forwards) → length f.decisions < 2 ^ 64 → length f.results < 2 ^ 64
    → All IsDecision f.decisions → All IsSettlement f.results → it.forwards.fits f ≡ true
unfolding it.forwards
forwards_fit f few some decisions results =
    also (also (lt-ltb (length f.decisions) (2 ^ 64) few) (each_decision_fits f.decisions decisions))
    (also (lt-ltb (length f.results) (2 ^ 64) some) (each_settlement_fits f.results results))

fee_fits : (o : Option ℕ) → Where (λ n. n < 2 ^ 64) o → (optional (number 8)).fits o ≡ true
fee_fits o h = where_fits (number 8) (λ n. n < 2 ^ 64) (λ n lt. lt-ltb n (2 ^ 64) lt) o h

pub closing_fits : (f : ClosingFees) → Where (λ n. n < 2 ^ 64) f.own → Where (λ n. n < 2 ^ 64) f.peer
    → Where (λ n. n < 2 ^ 64) f.closed → it.closing_fees.fits f ≡ true
unfolding it.closing_fees
closing_fits f own peer closed = also (fee_fits f.own own) (also (fee_fits f.peer peer) (fee_fits f.closed closed))
