-- Which items a record may have.
use Rattle.std.specs.Prelude.{ℕ, ◌+◌, ◌^◌, List, ◌∷◌, length, Bool, true, false, not, ◌==◌, ◌&&◌, ◌||◌}
use Rattle.std.specs.Prelude.{nat_lt, nat_le, slice_get, Option, Some, None, Result, Ok, Err}
use Rattle.std.specs.List.{list_all}
use Rattle.ln_bytes.specs.declared.fault.Fault.{Fault}
use Rattle.ln_msgs.specs.Codec.Field.{Value, Num, Str, Many}
use Rattle.ln_msgs.specs.Messages.Message.{Heard, Known, Ignored, message_at}
use Rattle.ln_keys.specs.declared.role.Role.{Role}
use Rattle.ln_keys.specs.declared.role.Role.TheVariants.{Funder, Fundee}
use Rattle.ln_dance.specs.declared.dance.Numbers.{Numbers}
use Rattle.ln_dance.specs.Dance.{are_in_step}
use Rattle.ln_log.specs.declared.mark.EventRef.{EventRef}
use Rattle.ln_log.specs.declared.mark.EventRef.TheVariants as ref
use Rattle.ln_store.specs.declared.record.Covered.{Covered}
use Rattle.ln_store.specs.declared.record.Pairs.{Pairs}
use Rattle.ln_store.specs.declared.record.Updates.{Updates}
use Rattle.ln_store.specs.declared.record.Items.{Items}
use Rattle.ln_store.specs.Items as it
use Rattle.ln_store.specs.Window.{updates_fit}

-- ---- the opening (BOLT 2, "Channel Establishment v1")

abbrev pub is_of_type : ℕ → Result Heard Fault → Bool
is_of_type typ (Ok (Known w)) = w.typ == typ
is_of_type typ (Ok (Ignored other)) = false
is_of_type typ (Err f) = false

-- the third field of open_channel is its funding
abbrev pub has_funds : Option Value → Bool
has_funds (Some (Num satoshis)) = nat_le 1 satoshis && nat_le satoshis 2100000000000000
has_funds (Some (Str bytes)) = false
has_funds (Some (Many items)) = false
has_funds None = false

abbrev pub is_open : Result Heard Fault → Bool
is_open (Ok (Known w)) = (w.typ == 32) && has_funds (slice_get w.values 2)
is_open (Ok (Ignored typ)) = false
is_open (Err f) = false

abbrev pub satoshis_of : Option Value → ℕ
satoshis_of (Some (Num satoshis)) = satoshis
satoshis_of (Some (Str bytes)) = 0
satoshis_of (Some (Many items)) = 0
satoshis_of None = 0

abbrev pub funding_of : Result Heard Fault → ℕ
funding_of (Ok (Known w)) = satoshis_of (slice_get w.values 2)
funding_of (Ok (Ignored typ)) = 0
funding_of (Err f) = 0

-- what the payload of an open_channel tells of the funding, in satoshi
abbrev pub funding_in : List ℕ → ℕ
funding_in payload = funding_of (message_at (0 ∷ 32 ∷ payload))

-- the payload of an open_channel whose funding is 1 to 2,100,000,000,000,000 satoshi
abbrev pub is_open_payload : List ℕ → Bool
is_open_payload payload = is_open (message_at (0 ∷ 32 ∷ payload))

-- the payload of an accept_channel
abbrev pub is_accept_payload : List ℕ → Bool
is_accept_payload payload = is_of_type 33 (message_at (0 ∷ 33 ∷ payload))

-- ---- the numbers of commitments

abbrev pub cover_the_same : Covered → Covered → Bool
cover_the_same a b = (a.own == b.own) && (a.peer == b.peer)

-- where no signature is unrevoked, what the peer acknowledged is what was signed
abbrev pub are_settled : Numbers → Pairs → Bool
are_settled n p = not (n.signed == n.revoked) || cover_the_same p.acknowledged p.signed

-- ---- events

-- an update of the window, counted from the opening, where so many are in the base and so many in the window
abbrev pub is_in_window : ℕ → ℕ → ℕ → Bool
is_in_window based windowed n = nat_le based n && nat_lt n (based + windowed)

abbrev pub is_of_funder : Updates → ℕ → Bool
is_of_funder u n = is_in_window u.base.updates.funder (length u.window.funder) n

abbrev pub is_of_fundee : Updates → ℕ → Bool
is_of_fundee u n = is_in_window u.base.updates.fundee (length u.window.fundee) n

abbrev pub is_of : Role → Updates → ℕ → Bool
is_of Funder u n = is_of_funder u n
is_of Fundee u n = is_of_fundee u n

abbrev pub is_of_other : Role → Updates → ℕ → Bool
is_of_other Funder u n = is_of_fundee u n
is_of_other Fundee u n = is_of_funder u n

abbrev pub names_an_update : Role → Updates → EventRef → Bool
names_an_update own u (ref.Own n) = is_of own u n
names_an_update own u (ref.Peer n) = is_of_other own u n
names_an_update own u ref.Close = true

-- ---- all conditions

-- what the items say fits together
abbrev pub is_sound : Items → Bool
is_sound i =
    is_open_payload i.agreement.open_payload
    && is_accept_payload i.agreement.accept_payload
    && are_in_step i.commitments.numbers
    && are_settled i.commitments.numbers i.updates.pairs
    && nat_le i.progress.events.decided (2 ^ 63 + 1)
    && list_all (names_an_update i.header.role i.updates) i.progress.events.undecided
    && updates_fit i.header.role (funding_in i.agreement.open_payload) i.updates

-- the items have their forms, and fit together
abbrev pub is_readable : Items → Bool
is_readable i = it.items.fits i && is_sound i
