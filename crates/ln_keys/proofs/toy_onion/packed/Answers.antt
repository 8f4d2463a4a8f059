use Rattle.std.proofs.Common.{◌≡◌, ◌+◌, ◌++◌, ◌∷◌, ◌≤◌, length, take, ap, ◌∙◌, arith, rules}
use Rattle.ln_keys.specs.ToyOnion.{toy_key}
use Rattle.ln_keys.proofs.Packets.{take-written, written_last}
use Rattle.ln_keys.proofs.toy_onion.packed.Goals as goal

pub returns : goal.returns
returns c =
    let room = c.args.room.now in
    let first = c.headed-packet.result in
    let hmac = c.hmac_of.result in
    let all : length first ≡ 1366 = search rules in
    let tail : length hmac ≡ 32 = search rules in
    let full : length c.put.new.room ≤ 1334 + length hmac = omega (arith, all, tail, c.put.auto.room) in
    let front : take 1334 c.put.new.room ≡ take 34 first ++ room = ap (take 1334) c.put.ensures
    ∙ take-written 34 room first 1334 (omega (arith, all)) (omega (arith, c.told-room)) in
    c.put-2.ensures ∙ written_last 1334 hmac c.put.new.room full
    ∙ ap (λ l. l ++ hmac) (front ∙ ap (λ l. l ++ room) c.headed-packet.ensures)
    ∙ ap (λ h. (0 ∷ toy_key) ++ room ++ h) c.hmac_of.ensures
