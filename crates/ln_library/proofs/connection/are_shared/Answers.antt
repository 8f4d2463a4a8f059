use Rattle.std.proofs.Common.{◌≡◌, true, length, ◌+◌, ◌-◌, ◌*◌, ◌/◌, take, drop, sym, ap, ◌∙◌, arith}
use Rattle.ln_library.specs.Greetings.{is_among, chain_at}
use Rattle.ln_library.proofs.Shared.{found_below}
use Rattle.ln_library.proofs.connection.are_shared.Goals as goal

-- the chain of this place is among them
pub returns-then-is_among : goal.returns-then-is_among
returns-then-is_among c =
    let size : 32 ≡ 32 * c.loop-place.place + 32 - 32 * c.loop-place.place = omega arith in
    let there : is_among (chain_at c.loop-place.place c.args.networks.now) c.args.chains.now ≡ true =
    ap (λ n. is_among (take n (drop (32 * c.loop-place.place) c.args.networks.now)) c.args.chains.now) size
    ∙ sym (c.if-is_among.ensures) in
    sym (found_below (λ n. is_among (chain_at n c.args.networks.now) c.args.chains.now)
    (length c.args.networks.now / 32) c.loop-place.place c.loop-place-test.true there)
