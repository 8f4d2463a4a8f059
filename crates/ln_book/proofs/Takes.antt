-- Which payments an end takes, by what refuses an offer.
use Rattle.std.proofs.Common.{◌≡◌, Bool, true, false, Some, None, refl, cond}
use Rattle.std.specs.Prelude.{not, ◌&&◌, ◌||◌, is_none}
use Rattle.ln_refusals.specs.declared.refusal.Refusal.TheVariants as refusal

-- an end that has sent channel_ready and taken it, and neither sent shutdown nor taken it
pub no-fault : (sent received shut peer_shut closed : Bool)
    → ((sent && received) && (not shut && (not peer_shut && closed)))
    ≡ (is_none (cond (not (sent && received)) (Some refusal.NotReady)
    (cond (shut || peer_shut) (Some refusal.Shut) None)) && closed)
no-fault false received shut peer_shut closed = refl
no-fault true false shut peer_shut closed = refl
no-fault true true true peer_shut closed = refl
no-fault true true false true closed = refl
no-fault true true false false closed = refl
