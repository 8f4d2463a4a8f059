-- The events that an end has yet to decide, and those of the machine's moves.
use Rattle.std.specs.Prelude.{◌≡◌, ◌+◌, ℕ, List, [], ◌∷◌, length, drop}
use Rattle.ln_keys.specs.declared.role.Role.{Role}
use Rattle.ln_keys.specs.declared.role.Role.TheVariants.{Funder, Fundee}
use Rattle.ln_hooks.specs.declared.event.ChannelEvent.{ChannelEvent}
use Rattle.ln_channel.specs.End.{End}
use Rattle.ln_channel.specs.Pending.{pending_events}
use Rattle.ln_channel_laws.specs.Ends.{Ends}

-- the end of this role, the funder being x
abbrev pub end_of_role : Role → Ends → End
end_of_role Funder p = p.x
end_of_role Fundee p = p.y

-- events with their numbers, from this one on
abbrev pub counted : ℕ → List ChannelEvent → List (ℕ × ChannelEvent)
counted n [] = []
counted n (e ∷ es) = (n, e) ∷ counted (n + 1) es

-- the undecided events are the machine's from the count of decided ones on, by number, and none is missing
pub record IsInStep (events : List ChannelEvent) (e : End) : Type 0 where
  pub pending : pending_events e ≡ counted e.ledger.decided (drop e.ledger.decided events)
  pub all : e.ledger.decided + length e.ledger.undecided ≡ length events
