-- Whether a payment is forwarded, or taken by the final node (BOLT 4, "Accepting and Forwarding a Payment";
-- BOLT 7, "HTLC Fees"): ordered conditions, of which the first that fits names the failure.
use Rattle.std.specs.Prelude.{ℕ, ◌+◌, ◌*◌, ◌/◌, Option, Some, None, is_none, Result, Ok, Err, Bool, false, not, ◌&&◌}
use Rattle.std.specs.Prelude.{◌||◌, ◌==◌, nat_lt, nat_le, nat_eq, if◌then◌else◌}
use Rattle.std.specs.Cmp.Lexicographic.{pointwise}
use Rattle.ln_forward.specs.declared.failure.Failure.{Failure}
use Rattle.ln_forward.specs.declared.failure.Failure.TheVariants as failure
use Rattle.ln_forward.specs.declared.payload.Payload.{Payload}
use Rattle.ln_forward.specs.declared.payload.Payment.{Payment}
use Rattle.ln_forward.specs.declared.checks.Incoming.{Incoming}
use Rattle.ln_forward.specs.declared.checks.Route.{Route}
use Rattle.ln_forward.specs.declared.checks.Policy.{Policy}
use Rattle.ln_forward.specs.declared.checks.Expected.{Expected}

abbrev pub answer_of : Option Failure → Result (Unit {0}) Failure
answer_of None = Ok tt
answer_of (Some f) = Err f

-- for an amount that is forwarded, rounded down
abbrev pub fee : Policy → ℕ → ℕ
fee p amount = p.base + amount * p.proportional / 1000000

-- the record of this type is missing
abbrev pub missing : ℕ → Option Failure
missing typ = Some (failure.InvalidOnionPayload typ)

-- ---- at a hop that isn't final

-- an amount and an expiry are forwarded by this channel
abbrev pub forward_by : Incoming → Policy → ℕ → ℕ → ℕ → Option Route → Option Failure
forward_by i p height amount expiry None = Some failure.UnknownNextPeer
forward_by i p height amount expiry (Some r) =
    if not r.usable then Some failure.TemporaryChannelFailure
    else (if (amount == 0) || nat_lt amount r.minimum then Some (failure.AmountBelowMinimum amount)
    else (if nat_lt i.amount (amount + fee p amount) then Some (failure.FeeInsufficient i.amount)
    else (if nat_lt i.expiry (expiry + p.delta) then Some (failure.IncorrectCltvExpiry expiry)
    else (if nat_le expiry (height + 3) then Some failure.ExpiryTooSoon
    else (if nat_lt (height + 2016) expiry then Some failure.ExpiryTooFar
    else None)))))

abbrev pub forward_at : Incoming → Payload → Option Route → Policy → ℕ → Option ℕ → Option ℕ → Option Failure
forward_at i l r p height None expiry = missing 2
forward_at i l r p height (Some amount) None = missing 4
forward_at i l r p height (Some amount) (Some expiry) =
    if is_none l.next then missing 6 else forward_by i p height amount expiry r

abbrev pub forward_fault : Incoming → Payload → Option Route → Policy → ℕ → Option Failure
forward_fault i l r p height = forward_at i l r p height l.amount l.expiry

-- ---- at the final hop

-- it is the payment that is expected
abbrev pub pays_for : Incoming → ℕ → ℕ → Option Payment → Expected → Bool
pays_for i amount height None e = false
pays_for i amount height (Some p) e =
    pointwise nat_eq p.secret e.secret && (p.total == amount) && nat_le e.amount i.amount
    && nat_le i.amount (2 * e.amount) && nat_lt (height + 3) i.expiry

abbrev pub pays : Incoming → ℕ → Option Payment → Option Expected → ℕ → Bool
pays i amount payment None height = false
pays i amount payment (Some e) height = pays_for i amount height payment e

abbrev pub take_at : Incoming → Payload → Option Expected → ℕ → Option ℕ → Option ℕ → Option Failure
take_at i l e height None expiry = missing 2
take_at i l e height (Some amount) None = missing 4
take_at i l e height (Some amount) (Some expiry) =
    if nat_lt i.amount amount then Some (failure.FinalIncorrectHtlcAmount i.amount)
    else (if nat_lt i.expiry expiry then Some (failure.FinalIncorrectCltvExpiry i.expiry)
    else (if pays i amount l.payment e height then None
    else Some (failure.IncorrectOrUnknownPaymentDetails i.amount height)))

abbrev pub final_fault : Incoming → Payload → Option Expected → ℕ → Option Failure
final_fault i l e height = take_at i l e height l.amount l.expiry
