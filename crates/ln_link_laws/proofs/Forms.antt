-- An end has a record whatever it was sent: its messages can be written, and where a log can be restored from what is
-- told of its updates, its items are readable.
use Rattle.std.proofs.Common.{◌≡◌, ◌<◌, ◌≤◌, ◌+◌, ◌^◌, ◌∙◌, ℕ, List, [], ◌∷◌, length, refl, sym}
use Rattle.std.proofs.Common.{ap, subst, arith, inl, inr, Bool, true, false, Option, Some, None}
use Rattle.std.proofs.Common.{option_map, Ok}
use Rattle.std.proofs.lemmas.Bool.{le-leb}
use Rattle.std.proofs.lemmas.List.{length-drop}
use Rattle.std.specs.List.{list_all}
use Rattle.ln_bytes.specs.declared.short_id.ShortId.{ShortId}
use Rattle.ln_msgs.specs.declared.messages.opening.OpenChannel.{OpenChannel}
use Rattle.ln_msgs.specs.declared.messages.opening.AcceptChannel.{AcceptChannel}
use Rattle.ln_msgs.specs.Messages.Message.{Known, Wire, wire_bytes, message_at}
use Rattle.ln_msgs.specs.Messages.Typed.{open_wire, accept_wire}
use Rattle.ln_msgs.specs.Codec.Writing.{MayFollowForm}
use Rattle.ln_msgs.specs.declared.messages.message.Message.TheVariants as message
use Rattle.ln_refusals.specs.declared.refusal.Refusal.{Refusal}
use Rattle.ln_msgs.specs.Messages.Table.{Form, form_of, open_form, accept_form}
use Rattle.ln_msgs.proofs.Grammar.{message_again}
use Rattle.ln_link.specs.Loading.{IsSaid}
use Rattle.ln_log.specs.declared.opening.Opening.{Opening}
use Rattle.ln_log.specs.Opening.{HasFunds, IsFit}
use Rattle.ln_log.specs.Log.{Log, after_drop}
use Rattle.ln_log.specs.RecordForm.{RecordForm, record_form_of, IsRestorable}
use Rattle.ln_log.specs.declared.mark.EventRef.{EventRef}
use Rattle.ln_log.specs.declared.mark.EventRef.TheVariants as ref
use Rattle.ln_channel.specs.Opening.{opening_of, asked_with, asked_by_accept}
use Rattle.ln_channel.specs.End.{End}
use Rattle.ln_store.specs.Format.{fixed, optional}
use Rattle.ln_store.specs.Items as it
use Rattle.ln_store.specs.Readable.{names_an_update, is_sound, is_readable, funding_in}
use Rattle.ln_store.specs.Window.{updates_fit}
use Rattle.ln_link.specs.Record.{flags_of, payload_of, chain_place_of, agreement_of, pairs_of, updates_by, updates_of}
use Rattle.ln_link.specs.Record.{events_of, forwards_of, fees_of, progress_of, header_of, items_of, IsUnwritable}
use Rattle.ln_link.specs.Record.{HasNoAgreement, NoRecord}
use Rattle.ln_link.proofs.Window.{told_as, fit_so}
use Rattle.ln_channel_laws.specs.Widths.{IsUpdate}
use Rattle.ln_channel_laws.proofs.Offered.{All, all-take, raised, closes_in, Origin, Fits, wide_of, IsHeld, IsCounted}
use Rattle.ln_channel_laws.proofs.Offered.{IsWide}
use Rattle.ln_link_laws.specs.Handed.{IsMessage}
use Rattle.ln_link_laws.proofs.Said.{what}
use Rattle.ln_link_laws.proofs.Kept.{AreFees, IsOrigin, HasMore}
use Rattle.ln_link_laws.proofs.UpdateForms.{also}
use Rattle.ln_link_laws.proofs.ItemForms.{header_fits, fees_fit, agreement_fits, numbers_fit, peer_fits}
use Rattle.ln_link_laws.proofs.ItemForms.{IsNumbered, events_fit, forwards_fit, closing_fits}
use Rattle.ln_link_laws.proofs.ToldForms.{IsToldWide, told_wide, updates_by_fit, all_named}
use Rattle.ln_link_laws.proofs.SoundForms.{open_sounds, funding_told, accept_sounds, in_step, settled}

-- ---- what an end keeps of its opening

pub record Opens (e : End) : Type 0 where
  pub channel : length e.dance.channel ≡ 32
  pub fees : AreFees e.closing.fees
  pub funds : HasFunds (opening_of e.terms)
  pub open_channel : IsMessage (message.OpenChannel e.terms.open_channel)
  pub accept_channel : IsMessage (message.AcceptChannel e.terms.accept_channel)
  pub opening : e.dance.log.opening ≡ opening_of e.terms
  pub role : e.dance.log.role ≡ e.closing.role

has_funds : (o : Opening) → IsFit o → HasFunds o
has_funds o h = record { some_funds = h.some_funds; funds = h.funds; push = h.push }

opens : (o : Origin) (e : End) → IsOrigin o → Fits o e → Opens e
opens o e is h =
    let opening : e.dance.log.opening ≡ opening_of e.terms =
    subst (λ (x : Origin). x.opening ≡ asked_with x.open_channel (asked_by_accept x.accept_channel)) (sym h.origin)
    is.opening in
    record {
      channel = subst (λ (x : Origin). length x.channel ≡ 32) (sym h.origin) is.channel;
      fees = subst (λ (x : Origin). AreFees x.fees) (sym h.origin) is.fees;
      funds = subst HasFunds opening
          (has_funds e.dance.log.opening (subst (λ (x : Origin). IsFit x.opening) (sym h.origin) is.fit));
      open_channel = subst (λ (x : Origin). IsMessage (message.OpenChannel x.open_channel)) (sym h.origin)
          is.open_channel;
      accept_channel = subst (λ (x : Origin). IsMessage (message.AcceptChannel x.accept_channel)) (sym h.origin)
          is.accept_channel;
      opening = opening;
      role = subst (λ (x : Origin). x.role ≡ x.closing_role) (sym h.origin) is.role;
    }

pub feerate_below : (m : OpenChannel) → IsMessage (message.OpenChannel m) → m.feerate_per_kw < 2 ^ 32
feerate_below m is = (what open_form (open_wire m) refl is).formed.values.1.1.1.1.1.1.1.1.0

-- ---- the agreement

short_bytes : (w : Wire) → IsSaid w → length (wire_bytes w) ≤ 65535
unfolding IsSaid
short_bytes w h = h.0

is_written : (form : Form) (w : Wire) → form_of w.typ ≡ Some form → IsSaid w → IsUnwritable w → ⊥
is_written form w known is (inl lack) =
    let formed = (what form w known is).formed in
    lack (subst (λ f. MayFollowForm f w.records) (sym known)
    (record { valid = formed.valid; lengths = formed.lengths }))
is_written form w known is (inr long) = let short = short_bytes w is in omega (arith, short, long)

both_written : (e : End) → Opens e → HasNoAgreement e → ⊥
unfolding HasNoAgreement
both_written e o (inl lack) = is_written open_form (open_wire e.terms.open_channel) refl o.open_channel lack
both_written e o (inr lack) = is_written accept_form (accept_wire e.terms.accept_channel) refl o.accept_channel lack

payload_short : (w : Wire) → length (wire_bytes w) ≤ 65535 → length (payload_of w) ≤ 65535
unfolding payload_of
payload_short w short = let l = length-drop 2 (wire_bytes w) in omega (arith, short, l)

place_fits : (s : Option ShortId) → (optional (fixed 8)).fits (option_map chain_place_of s) ≡ true
place_fits None = refl
place_fits (Some id) = refl

agreement_of_fits : (e : End) → Opens e → IsWide e → it.agreement.fits (agreement_of e) ≡ true
unfolding agreement_of
agreement_of_fits e o w =
    let m = e.terms.open_channel in
    let a = e.terms.accept_channel in
    agreement_fits (agreement_of e)
    (payload_short (open_wire m) (short_bytes (open_wire m) o.open_channel))
    (payload_short (accept_wire a) (short_bytes (accept_wire a) o.accept_channel)) (place_fits e.readiness.short_id)
    (fees_fit e.closing.fees o.fees.first o.fees.least o.fees.greatest) w.script w.peer_script

open_is_read : (m : OpenChannel) → IsMessage (message.OpenChannel m)
    → message_at (0 ∷ 32 ∷ payload_of (open_wire m)) ≡ Ok (Known (open_wire m))
unfolding payload_of IsSaid
open_is_read m is = message_again (wire_bytes (open_wire m)) (Known (open_wire m)) is

accept_is_read : (m : AcceptChannel) → IsMessage (message.AcceptChannel m)
    → message_at (0 ∷ 33 ∷ payload_of (accept_wire m)) ≡ Ok (Known (accept_wire m))
unfolding payload_of IsSaid
accept_is_read m is = message_again (wire_bytes (accept_wire m)) (Known (accept_wire m)) is

-- ---- the updates

-- those that signatures cover
abbrev covered_log : End → Log
covered_log e = record (after_drop e.dance.log) { opening = opening_of e.terms; role = e.closing.role }

-- what is told of them
abbrev told_here : End → RecordForm
told_here e = record_form_of e.dance.log.first (covered_log e)

abbrev CanBeRestored : End → Type 0
CanBeRestored e = IsRestorable (record_form_of e.dance.log.first (after_drop e.dance.log))

restorable : (e : End) → Opens e → CanBeRestored e → IsRestorable (told_here e)
restorable e o =
    subst IsRestorable (sym (told_as (opening_of e.terms) e.closing.role (after_drop e.dance.log) o.opening o.role))

told_here_wide : (e : End) → Opens e → IsWide e → IsToldWide (told_here e)
told_here_wide e o w =
    told_wide e.dance.log.first (covered_log e) (feerate_below e.terms.open_channel o.open_channel)
    (all-take IsUpdate e.dance.log.signed.own e.dance.log.own w.own) w.received

updates_of_fit : (e : End) → Opens e → IsWide e → CanBeRestored e
    → it.updates.fits (updates_of (opening_of e.terms) e.closing.role (after_drop e.dance.log)) ≡ true
updates_of_fit e o w r = updates_by_fit (told_here e) (restorable e o r) (told_here_wide e o w)

-- the updates that signatures cover are fewer than 2^63
record AreCovered (l : Log) : Type 0 where
  own_room : l.signed.own ≤ 2 ^ 62
  received_room : l.current.peer ≤ 2 ^ 62

are_covered : (e : End) → CanBeRestored e → AreCovered e.dance.log
are_covered e r = record { own_room = r.counts.own_last; received_room = r.counts.peer_last }

-- ---- events

held_numbered : (a b : ℕ) (r : EventRef) → a ≤ 2 ^ 62 → b ≤ 2 ^ 62 → IsHeld a b r → IsNumbered r
held_numbered a b (ref.Own n) p q h = omega (arith, p, h)
held_numbered a b (ref.Peer n) p q h = omega (arith, q, h)
held_numbered a b ref.Close p q h = tt

all_numbered : (a b : ℕ) (rs : List EventRef) → a ≤ 2 ^ 62 → b ≤ 2 ^ 62 → All (IsHeld a b) rs
    → All IsNumbered rs
all_numbered a b [] p q h = tt
all_numbered a b (r ∷ rs) p q h = (held_numbered a b r p q h.0, all_numbered a b rs p q h.1)

events_of_fit : (e : End) → IsCounted e → AreCovered e.dance.log → it.events.fits (events_of e.ledger) ≡ true
events_of_fit e k c =
    let l = e.dance.log in
    let i = k.within in
    let a = i.own_current in
    let b = i.own_acknowledged in
    let s = i.peer_acknowledged in
    let t = i.peer_signed in
    let m = c.own_room in
    let n = c.received_room in
    let own : l.current.own ≤ 2 ^ 62 = omega (arith, a, b, m) in
    let peer : l.acknowledged.peer ≤ 2 ^ 62 = omega (arith, s, t, n) in
    let events = k.events in
    events_fit (events_of e.ledger) (omega (arith, events, own, peer)) (omega (arith, events, own, peer))
    (all_numbered l.current.own l.acknowledged.peer e.ledger.undecided own peer k.undecided)

-- ---- all items

forwards_of_fit : (e : End) → IsCounted e → AreCovered e.dance.log → IsWide e
    → it.forwards.fits (forwards_of e.ledger) ≡ true
forwards_of_fit e k c w =
    let i = k.within in
    let a = i.own_current in
    let b = i.own_acknowledged in
    let s = i.peer_acknowledged in
    let t = i.peer_signed in
    let m = c.own_room in
    let n = c.received_room in
    let events = k.events in
    let decisions = k.decisions in
    let results = k.results in
    forwards_fit (forwards_of e.ledger) (omega (arith, decisions, events, a, b, m, s, t, n))
    (omega (arith, results, s, t, n)) w.decisions w.results

progress_of_fits : (e : End) → IsCounted e → AreCovered e.dance.log → IsWide e
    → it.progress.fits (progress_of e) ≡ true
unfolding it.progress progress_of
progress_of_fits e k c w =
    also (events_of_fit e k c)
    (also (forwards_of_fit e k c w) (closing_fits (fees_of e.closing) k.own_fee k.peer_fee k.closed))

record AreBelow (e : End) : Type 0 where
  commitment : e.dance.numbers.commitment < 2 ^ 48
  signed : e.dance.numbers.signed < 2 ^ 48
  revoked : e.dance.numbers.revoked < 2 ^ 48

are_below : (e : End) → IsCounted e → AreBelow e
are_below e k =
    let a : e.dance.numbers.commitment ≤ 281474976710655 = k.step.commitment in
    let b : e.dance.numbers.signed ≤ 281474976710655 = k.step.signed in
    let c = k.step.revoked in
    record { commitment = omega (arith, a); signed = omega (arith, b); revoked = omega (arith, b, c) }

items_fit : (f : Option Refusal) (e : End) → it.failure.fits f ≡ true → Opens e → IsCounted e → IsWide e
    → CanBeRestored e → it.items.fits (items_of f e) ≡ true
unfolding it.items it.commitments items_of header_of
items_fit f e fits o k w r =
    let n = are_below e k in
    also (header_fits e.dance.channel e.closing.role (flags_of e) f o.channel fits) (also (agreement_of_fits e o w)
    (also (also (numbers_fit e.dance.numbers n.commitment n.signed n.revoked)
    (peer_fits e.dance.peer k.point k.next_point k.secret)) (also (updates_of_fit e o w r)
    (progress_of_fits e k (are_covered e r) w))))

-- the updates fit together, in a channel of what its opening tells of the funding
updates_sound : (e : End) → Opens e → CanBeRestored e
    → updates_fit e.closing.role (funding_in (payload_of (open_wire e.terms.open_channel)))
    (updates_of (opening_of e.terms) e.closing.role (after_drop e.dance.log)) ≡ true
updates_sound e o r =
    let m = e.terms.open_channel in
    let u = updates_of (opening_of e.terms) e.closing.role (after_drop e.dance.log) in
    ap (λ n. updates_fit e.closing.role n u)
    (funding_told m (payload_of (open_wire m)) (open_is_read m o.open_channel))
    ∙ fit_so (opening_of e.terms) e.closing.role (after_drop e.dance.log) o.opening o.role r

-- each undecided event names an update that is told
events_named : (e : End) → Opens e → IsCounted e → CanBeRestored e
    → let u = updates_of (opening_of e.terms) e.closing.role (after_drop e.dance.log) in
    list_all (names_an_update e.closing.role u) e.ledger.undecided ≡ true
events_named e o k r =
    let l = e.dance.log in
    let t = told_here e in
    let own_current = k.within.own_current in
    let own_acknowledged = k.within.own_acknowledged in
    let peer_acknowledged = k.within.peer_acknowledged in
    let peer_signed = k.within.peer_signed in
    let own = r.counts.own_signed in
    let peer = r.counts.peer_current in
    all_named t e.ledger.undecided k.there
    (raised l.current.own l.acknowledged.peer (l.first.own + length t.own) (l.first.peer + length t.received)
    e.ledger.undecided (omega (arith, own_current, own_acknowledged, own))
    (omega (arith, peer_acknowledged, peer_signed, peer)) k.undecided)

items_sound : (f : Option Refusal) (e : End) → Opens e → IsCounted e → CanBeRestored e → is_sound (items_of f e) ≡ true
unfolding items_of header_of agreement_of progress_of updates_by
items_sound f e o k r =
    let m = e.terms.open_channel in
    let a = e.terms.accept_channel in
    let n = are_below e k in
    let c = are_covered e r in
    let own_current = k.within.own_current in
    let own_acknowledged = k.within.own_acknowledged in
    let peer_acknowledged = k.within.peer_acknowledged in
    let peer_signed = k.within.peer_signed in
    let own_room = c.own_room in
    let received_room = c.received_room in
    let events = k.events in
    let decided : e.ledger.decided ≤ 2 ^ 63 + 1 =
    omega (arith, events, own_current, own_acknowledged, peer_acknowledged, peer_signed, own_room, received_room) in
    also (also (also (also (also (also
    (open_sounds m (payload_of (open_wire m)) o.funds.some_funds o.funds.funds
    (open_is_read m o.open_channel))
    (accept_sounds a (payload_of (accept_wire a)) (accept_is_read a o.accept_channel)))
    (in_step e.dance.numbers n.commitment n.signed n.revoked k.step.revoked k.step.one_unrevoked))
    (settled e.dance.numbers (pairs_of (told_here e)) k.step.acknowledged))
    (le-leb e.ledger.decided (2 ^ 63 + 1) decided))
    (events_named e o k r))
    (updates_sound e o r)

unreadable : (b : Bool) → b ≡ true → b ≡ false → ⊥
unreadable true p q = cc
unreadable false p q = cc

pub record_so : (f : Option Refusal) (e : End) → it.failure.fits f ≡ true → Opens e → IsCounted e → IsWide e
    → NoRecord f e → ⊥
unfolding NoRecord
record_so f e fits o k w (inl lack) = both_written e o lack
record_so f e fits o k w (inr lack) =
    unreadable (is_readable (items_of f e)) (also (items_fit f e fits o k w lack.0) (items_sound f e o k lack.0)) lack.1

-- ---- an end that keeps what every turn keeps

-- a close is one event at most
at_most_one : (closed : Option ℕ) (n m : ℕ) → n ≤ m + closes_in closed → n ≤ m + 1
at_most_one None n m le = omega (arith, le)
at_most_one (Some fee) n m le = le

counted : (e : End) → HasMore e → IsCounted e
counted e h = record {
  step = record {
    commitment = h.ordered.commitment;
    signed = h.ordered.signed;
    revoked = h.ordered.revoked;
    one_unrevoked = h.ordered.one_unrevoked;
    acknowledged = h.ordered.acknowledged;
  };
  within = record {
    own_current = h.ordered.own_current;
    own_acknowledged = h.ordered.own_acknowledged;
    own_signed = h.ordered.own_signed;
    peer_acknowledged = h.ordered.peer_acknowledged;
    peer_signed = h.ordered.peer_signed;
    peer_current = h.ordered.peer_current;
  };
  first_own = h.steady.first_own;
  first_peer = h.steady.first_peer;
  undecided = h.steady.undecided;
  there = h.steady.there;
  events = at_most_one e.closing.closed (e.ledger.decided + length e.ledger.undecided)
      (e.dance.log.current.own + e.dance.log.acknowledged.peer) h.steady.events;
  decisions = h.steady.decisions;
  results = h.steady.results;
  point = h.ordered.point;
  next_point = h.ordered.next_point;
  secret = h.ordered.secret;
  own_fee = h.ordered.own_fee;
  peer_fee = h.steady.heard;
  closed = h.ordered.closed;
}

-- it has a record, with any failure that a record can have
pub has_record : (f : Option Refusal) (o : Origin) (e : End) → it.failure.fits f ≡ true → IsOrigin o → Fits o e
    → HasMore e → NoRecord f e → ⊥
has_record f o e fits is h more = record_so f e fits (opens o e is h) (counted e more) (wide_of o e h)
