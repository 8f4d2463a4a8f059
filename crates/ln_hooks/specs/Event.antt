-- What a channel end tells of the updates that it comes to hold as irrevocably committed.
use Rattle.std.specs.Prelude.{ℕ, Bool, not, Option, Some, None, option_map, nat_le, true, false}
use Rattle.ln_hooks.specs.Amount.{bounded, greatest_amount}
use Rattle.ln_log.specs.declared.update.Add.{Add}
use Rattle.ln_log.specs.declared.update.Update.{Update}
use Rattle.ln_log.specs.declared.update.Update.TheVariants as update
use Rattle.ln_hooks.specs.declared.event.How.{How}
use Rattle.ln_hooks.specs.declared.event.How.TheVariants as how
use Rattle.ln_hooks.specs.declared.event.ChannelEvent.{ChannelEvent}
use Rattle.ln_hooks.specs.declared.event.ChannelEvent.TheVariants as event

-- a side removes HTLCs of the other side
abbrev pub settled : Bool → ℕ → How → ChannelEvent
settled own id how = event.Settled (not own) id how

-- none where the amount is beyond the bound
abbrev pub added : Bool → Add → Option ChannelEvent
added own a = option_map (λ amount. event.Added own a.id amount a.hash a.expiry a.onion) (bounded a.amount)

-- the event that an update of a side is, this side's own or the other's; a fee is none
abbrev pub event_of : Bool → Update → Option ChannelEvent
event_of own (update.Add a) = added own a
event_of own (update.Fulfil f) = Some (settled own f.id (how.Fulfilled f.preimage))
event_of own (update.Fail f) = Some (settled own f.id (how.Failed f.reason))
event_of own (update.Malformed m) = Some (settled own m.id (how.Malformed m.sha256_of_onion m.failure_code))
event_of own (update.Fee f) = None

-- an add pays no more than an event can tell
abbrev pub is_bounded : Update → Bool
is_bounded (update.Add a) = nat_le a.amount greatest_amount
is_bounded (update.Fulfil f) = true
is_bounded (update.Fail f) = true
is_bounded (update.Malformed m) = true
is_bounded (update.Fee f) = true

abbrev pub is_fee : Update → Bool
is_fee (update.Add a) = false
is_fee (update.Fulfil f) = false
is_fee (update.Fail f) = false
is_fee (update.Malformed m) = false
is_fee (update.Fee f) = true
