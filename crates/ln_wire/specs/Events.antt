-- What a channel end tells of its updates, as bytes.
use Rattle.std.specs.Prelude.{ℕ, List, ◌==◌, Option, None, if◌then◌else◌}
use Rattle.ln_hooks.specs.Amount.{bounded}
use Rattle.ln_hooks.specs.declared.event.How.{How}
use Rattle.ln_hooks.specs.declared.event.How.TheVariants as how
use Rattle.ln_hooks.specs.declared.event.ChannelEvent.{ChannelEvent}
use Rattle.ln_hooks.specs.declared.event.ChannelEvent.TheVariants as event
use Rattle.ln_store.specs.Format.{Format, number, fixed, sized, ◌&◌, code, made_at}
use Rattle.ln_wire.specs.Forms.{Told, told_by, one_of, bit}

-- eight bytes, in millisatoshi: no more than a channel can be funded with
unfoldable pub msat : Format ℕ
msat = code 8 (λ n. n) bounded

abbrev pub how_told : How → Told
how_told (how.Fulfilled preimage) = told_by 0 (fixed 32) preimage
how_told (how.Failed reason) = told_by 1 (sized 2) reason
how_told (how.Malformed sha code) = told_by 2 (fixed 32 & number 2) (sha, code)

abbrev pub how_at : ℕ → List ℕ → Option (How × List ℕ)
how_at n bytes =
    if n == 0 then made_at how.Fulfilled (fixed 32) bytes
    else (if n == 1 then made_at how.Failed (sized 2) bytes
    else (if n == 2 then made_at (λ p. how.Malformed p.0 p.1) (fixed 32 & number 2) bytes else None))

-- how an HTLC was removed: a byte for the kind, and its fields
unfoldable pub how_form : Format How
how_form = one_of how_told how_at

abbrev pub event_told : ChannelEvent → Told
event_told (event.Added own id amount hash expiry onion) =
    told_by 0 (bit & number 8 & msat & fixed 32 & number 4 & fixed 1366) (own, (id, (amount, (hash, (expiry, onion)))))
event_told (event.Settled own id h) = told_by 1 (bit & number 8 & how_form) (own, (id, h))
event_told (event.Closed fee) = told_by 2 (number 8) fee

abbrev pub event_at : ℕ → List ℕ → Option (ChannelEvent × List ℕ)
event_at n bytes =
    if n == 0 then made_at (λ p. event.Added p.0 p.1.0 p.1.1.0 p.1.1.1.0 p.1.1.1.1.0 p.1.1.1.1.1)
    (bit & number 8 & msat & fixed 32 & number 4 & fixed 1366) bytes
    else (if n == 1 then made_at (λ p. event.Settled p.0 p.1.0 p.1.1) (bit & number 8 & how_form) bytes
    else (if n == 2 then made_at event.Closed (number 8) bytes else None))

-- a byte for the kind, and its fields in their order
unfoldable pub event_form : Format ChannelEvent
event_form = one_of event_told event_at
