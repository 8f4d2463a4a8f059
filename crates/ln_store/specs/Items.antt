-- What is stored of one end of a channel, item by item: how each is written and read.
use Rattle.std.specs.Prelude.{ℕ, ◌+◌, ◌*◌, ◌/◌, ◌%◌, List, [], ◌∷◌, Bool, true, false, ◌==◌, nat_lt, Option, Some, None}
use Rattle.std.specs.Prelude.{if◌then◌else◌}
use Rattle.ln_refusals.specs.declared.lost_data.LostData.TheVariants as lost_data
use Rattle.ln_refusals.specs.declared.refusal.Refusal.{Refusal}
use Rattle.ln_refusals.specs.declared.refusal.Refusal.TheVariants as refusal
use Rattle.ln_refusals.specs.Refusal.{refusal_number}
use Rattle.ln_keys.specs.declared.role.Role.{Role}
use Rattle.ln_keys.specs.declared.role.Role.TheVariants.{Funder, Fundee}
use Rattle.ln_log.specs.declared.update.Add.{Add}
use Rattle.ln_log.specs.declared.update.Fulfil.{Fulfil}
use Rattle.ln_log.specs.declared.update.Fail.{Fail}
use Rattle.ln_log.specs.declared.update.Malformed.{Malformed}
use Rattle.ln_log.specs.declared.update.Fee.{Fee}
use Rattle.ln_log.specs.declared.update.Update.{Update}
use Rattle.ln_log.specs.declared.update.Update.TheVariants as kinds
use Rattle.ln_log.specs.Updates.{offered, removed}
use Rattle.ln_dance.specs.declared.dance.Later.{Later}
use Rattle.ln_dance.specs.declared.dance.Later.TheVariants.{Signature, Revocation}
use Rattle.ln_dance.specs.declared.dance.Numbers.{Numbers}
use Rattle.ln_dance.specs.declared.dance.Peer.{Peer}
use Rattle.ln_close.specs.declared.closing.Fees.{Fees}
use Rattle.ln_log.specs.declared.mark.Mark.{Mark}
use Rattle.ln_log.specs.declared.mark.Mark.TheVariants as mark
use Rattle.ln_log.specs.declared.mark.EventRef.{EventRef}
use Rattle.ln_log.specs.declared.mark.EventRef.TheVariants as ref
use Rattle.ln_store.specs.declared.record.Flags.{Flags}
use Rattle.ln_store.specs.declared.record.Agreement.{Agreement}
use Rattle.ln_store.specs.declared.record.LiveHtlc.{LiveHtlc}
use Rattle.ln_store.specs.declared.record.Base.{Base}
use Rattle.ln_store.specs.declared.record.Window.{Window}
use Rattle.ln_store.specs.declared.record.Covered.{Covered}
use Rattle.ln_store.specs.declared.record.Pairs.{Pairs}
use Rattle.ln_store.specs.declared.record.Events.{Events}
use Rattle.ln_log.specs.declared.mark.Decision.{Decision}
use Rattle.ln_log.specs.declared.mark.Settlement.{Settlement}
use Rattle.ln_store.specs.declared.record.Forwards.{Forwards}
use Rattle.ln_store.specs.declared.record.ClosingFees.{ClosingFees}
use Rattle.ln_store.specs.declared.record.Sides.{Sides}
use Rattle.ln_store.specs.declared.record.Header.{Header}
use Rattle.ln_store.specs.declared.record.Commitments.{Commitments}
use Rattle.ln_store.specs.declared.record.Updates.{Updates}
use Rattle.ln_store.specs.declared.record.Progress.{Progress}
use Rattle.ln_store.specs.declared.record.Items.{Items}
use Rattle.ln_store.specs.Format.{Format, number, fixed, sized, ◌&◌, list, optional, tagged, nothing, made, kind, code}
use Rattle.ln_store.specs.Format.{only}
use Rattle.ln_store.specs.Format.{is_some}

-- ---- who, and what was sent and taken

abbrev pub role_number : Role → ℕ
role_number Funder = 0
role_number Fundee = 1

abbrev pub role_of : ℕ → Option Role
role_of n = if n == 0 then Some Funder else (if n == 1 then Some Fundee else None)

-- one byte: 0 for the funder, 1 for the fundee
unfoldable pub role : Format Role
role = code 1 role_number role_of

abbrev pub bit : Bool → ℕ
bit false = 0
bit true = 1

abbrev pub later_bit : Later → ℕ
later_bit Signature = 0
later_bit Revocation = 1

abbrev pub flags_number : Flags → ℕ
flags_number f = bit f.ready_sent + 2 * bit f.ready_received + 4 * bit f.shut_sent + 8 * bit f.shut_received
    + 16 * later_bit f.later

abbrev pub is_odd : ℕ → Bool
is_odd n = n % 2 == 1

abbrev pub flags_of : ℕ → Option Flags
flags_of n = if nat_lt n 32 then Some (record {
  ready_sent = is_odd n;
  ready_received = is_odd (n / 2);
  shut_sent = is_odd (n / 4);
  shut_received = is_odd (n / 8);
  later = if is_odd (n / 16) then Revocation else Signature;
}) else None

-- one byte, a bit each from the lowest on; the other bits are 0
unfoldable pub flags : Format Flags
flags = code 1 flags_number flags_of

-- the refusals by which a channel fails
abbrev pub failures : List Refusal
failures = refusal.OutOfPlace ∷ refusal.BadId ∷ refusal.AmountBelowMinimum ∷ refusal.TooManyHtlcs
    ∷ refusal.InFlightOver ∷ refusal.CannotAfford ∷ refusal.ExpiryRange ∷ refusal.NoSuchHtlc ∷ refusal.PreimageWrong
    ∷ refusal.NotFunder ∷ refusal.SignatureWrong ∷ refusal.SecretWrong ∷ refusal.NothingToRevoke
    ∷ refusal.ReestablishNumber lost_data.Unproved ∷ refusal.ReestablishNumber lost_data.Own
    ∷ refusal.ReestablishNumber lost_data.Peer ∷ refusal.AddAfterShutdown ∷ refusal.PeerError ∷ []

-- its number, and at 34 whose data is lost in the higher byte: 1 the own, 2 the peer's
abbrev pub failure_code : Refusal → ℕ
failure_code (refusal.ReestablishNumber lost_data.Own) = 34 + 256
failure_code (refusal.ReestablishNumber lost_data.Peer) = 34 + 512
failure_code r = refusal_number r

abbrev pub failure_with : ℕ → List Refusal → Option (Option Refusal)
failure_with n [] = None
failure_with n (r ∷ rs) = if n == failure_code r then Some (Some r) else failure_with n rs

abbrev pub failure_number : Option Refusal → ℕ
failure_number None = 0
failure_number (Some r) = failure_code r

abbrev pub failure_of : ℕ → Option (Option Refusal)
failure_of n = if n == 0 then Some None else failure_with n failures

-- two bytes: 0 for none, else the code of a refusal by which a channel fails
unfoldable pub failure : Format (Option Refusal)
failure = code 2 failure_number failure_of

-- ---- what was agreed on, and numbers of commitments

unfoldable pub fees : Format Fees
fees = made (λ p. record { first = p.0; least = p.1.0; greatest = p.1.1 }) (λ f. (f.first, (f.least, f.greatest)))
    (number 8 & number 8 & number 8)

unfoldable pub agreement : Format Agreement
agreement =
    made (λ p. record {
      open_payload = p.0;
      accept_payload = p.1.0;
      place = p.1.1.0;
      fees = p.1.1.1.0;
      script = p.1.1.1.1.0;
      peer_script = p.1.1.1.1.1;
    }) (λ a. (a.open_payload, (a.accept_payload, (a.place, (a.fees, (a.script, a.peer_script))))))
    (sized 4 & sized 4 & optional (fixed 8) & fees & sized 2 & optional (sized 2))

unfoldable pub numbers : Format Numbers
numbers = made (λ p. record { commitment = p.0; signed = p.1.0; revoked = p.1.1 })
    (λ n. (n.commitment, (n.signed, n.revoked))) (number 8 & number 8 & number 8)

unfoldable pub peer : Format Peer
peer = made (λ p. record { point = p.0; next_point = p.1.0; secret = p.1.1 }) (λ p. (p.point, (p.next_point, p.secret)))
    (fixed 33 & fixed 33 & optional (fixed 32))

-- ---- updates

-- the fields of BOLT 2 without the channel's id, and where the HTLC came from
unfoldable pub add : Format Add
add =
    made (λ p. record {
      id = p.0;
      amount = p.1.0;
      hash = p.1.1.0;
      expiry = p.1.1.1.0;
      onion = p.1.1.1.1.0;
      origin = p.1.1.1.1.1;
    }) (λ a. (a.id, (a.amount, (a.hash, (a.expiry, (a.onion, a.origin))))))
    (number 8 & number 8 & fixed 32 & number 4 & fixed 1366 & optional (fixed 32 & number 8))

unfoldable pub fulfil : Format Fulfil
fulfil = made (λ p. record { id = p.0; preimage = p.1 }) (λ f. (f.id, f.preimage)) (number 8 & fixed 32)

unfoldable pub fail : Format Fail
fail = made (λ p. record { id = p.0; reason = p.1 }) (λ f. (f.id, f.reason)) (number 8 & sized 2)

unfoldable pub malformed : Format Malformed
malformed = made (λ p. record { id = p.0; sha256_of_onion = p.1.0; failure_code = p.1.1 })
    (λ m. (m.id, (m.sha256_of_onion, m.failure_code))) (number 8 & fixed 32 & number 2)

unfoldable pub fee : Format Fee
fee = made (λ n. record { feerate = n }) (λ f. f.feerate) (number 4)

abbrev pub the_fulfil : Update → Option Fulfil
the_fulfil (kinds.Add a) = None
the_fulfil (kinds.Fulfil f) = Some f
the_fulfil (kinds.Fail f) = None
the_fulfil (kinds.Malformed m) = None
the_fulfil (kinds.Fee f) = None

abbrev pub the_fail : Update → Option Fail
the_fail (kinds.Add a) = None
the_fail (kinds.Fulfil f) = None
the_fail (kinds.Fail f) = Some f
the_fail (kinds.Malformed m) = None
the_fail (kinds.Fee f) = None

abbrev pub the_malformed : Update → Option Malformed
the_malformed (kinds.Add a) = None
the_malformed (kinds.Fulfil f) = None
the_malformed (kinds.Fail f) = None
the_malformed (kinds.Malformed m) = Some m
the_malformed (kinds.Fee f) = None

abbrev pub the_fee : Update → Option Fee
the_fee (kinds.Add a) = None
the_fee (kinds.Fulfil f) = None
the_fee (kinds.Fail f) = None
the_fee (kinds.Malformed m) = None
the_fee (kinds.Fee f) = Some f

abbrev pub update_tag : Update → ℕ
update_tag (kinds.Add a) = 0
update_tag (kinds.Fulfil f) = 1
update_tag (kinds.Fail f) = 2
update_tag (kinds.Malformed m) = 3
update_tag (kinds.Fee f) = 4

abbrev pub update_form : ℕ → Format Update
update_form tag =
    if tag == 0 then kind kinds.Add offered add
    else (if tag == 1 then kind kinds.Fulfil the_fulfil fulfil
    else (if tag == 2 then kind kinds.Fail the_fail fail
    else (if tag == 3 then kind kinds.Malformed the_malformed malformed
    else (if tag == 4 then kind kinds.Fee the_fee fee else nothing))))

-- a byte for the kind, and its fields
unfoldable pub update : Format Update
update = tagged update_tag update_form

abbrev pub is_removal : Update → Bool
is_removal u = is_some (removed u)

-- ---- the base and the window after it

abbrev pub add_form : ℕ → Format Add
add_form tag = if tag == 0 then add else nothing

-- who offers it, and then the add as an update
unfoldable pub live : Format LiveHtlc
live = made (λ p. record { offerer = p.0; add = p.1 }) (λ h. (h.offerer, h.add)) (role & tagged (λ a. 0) add_form)

-- the funder's, and then the fundee's
unfoldable pub sides : Format Sides
sides = made (λ p. record { funder = p.0; fundee = p.1 }) (λ s. (s.funder, s.fundee)) (number 8 & number 8)

-- how many updates, the next ids, the balances; the feerate; the live HTLCs
unfoldable pub base : Format Base
base =
    made (λ p. record {
      updates = p.0;
      next_ids = p.1.0;
      balances = p.1.1.0;
      feerate = p.1.1.1.0;
      live = p.1.1.1.1;
    }) (λ b. (b.updates, (b.next_ids, (b.balances, (b.feerate, b.live)))))
    (sides & sides & sides & number 4 & list live)

unfoldable pub window : Format Window
window = made (λ p. record { funder = p.0; fundee = p.1 }) (λ w. (w.funder, w.fundee)) (list update & list update)

-- own ones first
unfoldable pub covered : Format Covered
covered = made (λ p. record { own = p.0; peer = p.1 }) (λ c. (c.own, c.peer)) (number 8 & number 8)

-- those of the peer first
unfoldable pub covered_by_own : Format Covered
covered_by_own = made (λ p. record { own = p.1; peer = p.0 }) (λ c. (c.peer, c.own)) (number 8 & number 8)

unfoldable pub pairs : Format Pairs
pairs = made (λ p. record { signed = p.0; acknowledged = p.1.0; current = p.1.1 })
    (λ p. (p.signed, (p.acknowledged, p.current))) (covered & covered & covered_by_own)

-- ---- events and forwarded HTLCs

abbrev pub own_number : EventRef → Option ℕ
own_number (ref.Own n) = Some n
own_number (ref.Peer n) = None
own_number ref.Close = None

abbrev pub peer_number : EventRef → Option ℕ
peer_number (ref.Own n) = None
peer_number (ref.Peer n) = Some n
peer_number ref.Close = None

abbrev pub the_close : EventRef → Option (Unit {0})
the_close (ref.Own n) = None
the_close (ref.Peer n) = None
the_close ref.Close = Some tt

abbrev pub event_tag : EventRef → ℕ
event_tag (ref.Own n) = 0
event_tag (ref.Peer n) = 1
event_tag ref.Close = 2

-- eight zero bytes
unfoldable pub no_number : Format (Unit {0})
no_number = code 8 (λ u. 0) (λ n. if n == 0 then Some tt else None)

abbrev pub event_form : ℕ → Format EventRef
event_form tag =
    if tag == 0 then kind ref.Own own_number (number 8)
    else (if tag == 1 then kind ref.Peer peer_number (number 8)
    else (if tag == 2 then kind (λ u. ref.Close) the_close no_number else nothing))

-- a byte for the side, 2 for the close, and the number of the update
unfoldable pub event : Format EventRef
event = tagged event_tag event_form

unfoldable pub events : Format Events
events = made (λ p. record { decided = p.0; undecided = p.1 }) (λ e. (e.decided, e.undecided)) (number 8 & list event)

abbrev pub forward_of : Mark → Option (List ℕ × (ℕ × ℕ))
forward_of mark.None = None
forward_of (mark.Forward channel amount expiry) = Some (channel, (amount, expiry))
forward_of (mark.Fail reason) = None
forward_of (mark.Malformed failure_code) = None
forward_of (mark.Fulfil preimage) = None
forward_of (mark.Held told) = None

abbrev pub reason_of : Mark → Option (List ℕ)
reason_of mark.None = None
reason_of (mark.Forward channel amount expiry) = None
reason_of (mark.Fail reason) = Some reason
reason_of (mark.Malformed failure_code) = None
reason_of (mark.Fulfil preimage) = None
reason_of (mark.Held told) = None

abbrev pub code_of : Mark → Option ℕ
code_of mark.None = None
code_of (mark.Forward channel amount expiry) = None
code_of (mark.Fail reason) = None
code_of (mark.Malformed failure_code) = Some failure_code
code_of (mark.Fulfil preimage) = None
code_of (mark.Held told) = None

abbrev pub preimage_of : Mark → Option (List ℕ)
preimage_of mark.None = None
preimage_of (mark.Forward channel amount expiry) = None
preimage_of (mark.Fail reason) = None
preimage_of (mark.Malformed failure_code) = None
preimage_of (mark.Fulfil preimage) = Some preimage
preimage_of (mark.Held told) = None

abbrev pub event_held : Mark → Option ℕ
event_held mark.None = None
event_held (mark.Forward channel amount expiry) = None
event_held (mark.Fail reason) = None
event_held (mark.Malformed failure_code) = None
event_held (mark.Fulfil preimage) = None
event_held (mark.Held told) = Some told

abbrev pub mark_tag : Mark → ℕ
mark_tag mark.None = 0
mark_tag (mark.Forward channel amount expiry) = 1
mark_tag (mark.Fail reason) = 2
mark_tag (mark.Malformed failure_code) = 3
mark_tag (mark.Fulfil preimage) = 4
mark_tag (mark.Held told) = 5

-- a decision does something, so None has no form
abbrev pub mark_form : ℕ → Format Mark
mark_form tag =
    if tag == 1 then kind (λ p. mark.Forward p.0 p.1.0 p.1.1) forward_of (fixed 32 & number 8 & number 4)
    else (if tag == 2 then kind mark.Fail reason_of (sized 8)
    else (if tag == 3 then kind mark.Malformed code_of (number 2)
    else (if tag == 4 then kind mark.Fulfil preimage_of (fixed 32)
    else (if tag == 5 then kind mark.Held event_held (number 8) else nothing))))

unfoldable pub stored_mark : Format Mark
stored_mark = tagged mark_tag mark_form

unfoldable pub decision : Format Decision
decision = made (λ p. record { id = p.0; mark = p.1 }) (λ d. (d.id, d.mark)) (number 8 & stored_mark)

unfoldable pub settlement : Format Settlement
settlement = made (λ p. record { id = p.0; origin = p.1.0; removal = p.1.1 }) (λ s. (s.id, (s.origin, s.removal)))
    (number 8 & (fixed 32 & number 8) & only is_removal update)

unfoldable pub forwards : Format Forwards
forwards = made (λ p. record { decisions = p.0; results = p.1 }) (λ f. (f.decisions, f.results))
    (list decision & list settlement)

unfoldable pub closing_fees : Format ClosingFees
closing_fees = made (λ p. record { own = p.0; peer = p.1.0; closed = p.1.1 }) (λ f. (f.own, (f.peer, f.closed)))
    (optional (number 8) & optional (number 8) & optional (number 8))

-- ---- all of them

unfoldable pub header : Format Header
header = made (λ p. record { channel = p.0; role = p.1.0; flags = p.1.1.0; failure = p.1.1.1 })
    (λ h. (h.channel, (h.role, (h.flags, h.failure)))) (fixed 32 & role & flags & failure)

unfoldable pub commitments : Format Commitments
commitments = made (λ p. record { numbers = p.0; peer = p.1 }) (λ c. (c.numbers, c.peer)) (numbers & peer)

unfoldable pub updates : Format Updates
updates = made (λ p. record { base = p.0; window = p.1.0; pairs = p.1.1 }) (λ u. (u.base, (u.window, u.pairs)))
    (base & window & pairs)

unfoldable pub progress : Format Progress
progress = made (λ p. record { events = p.0; forwards = p.1.0; fees = p.1.1 })
    (λ p. (p.events, (p.forwards, p.fees))) (events & forwards & closing_fees)

unfoldable pub items : Format Items
items =
    made (λ p. record {
      header = p.0;
      agreement = p.1.0;
      commitments = p.1.1.0;
      updates = p.1.1.1.0;
      progress = p.1.1.1.1;
    }) (λ i. (i.header, (i.agreement, (i.commitments, (i.updates, i.progress)))))
    (header & agreement & commitments & updates & progress)
