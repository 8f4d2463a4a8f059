use Rattle.std.proofs.Common.{◌≡◌, true, length, ◌+◌, ◌-◌, ◌*◌, ◌/◌, take, drop, sym, ap, ◌∙◌, arith}
use Rattle.ln_bytes.specs.Same.{are_same}
use Rattle.ln_library.specs.Greetings.{chain_at}
use Rattle.ln_library.proofs.Shared.{found_below}
use Rattle.ln_library.proofs.connection.is_among.Goals as goal

-- the chain is that of this place
pub returns-then-eq : goal.returns-then-eq
returns-then-eq c =
    let size : 32 ≡ 32 * c.loop-place.place + 32 - 32 * c.loop-place.place = omega arith in
    let same : are_same c.args.chain.now (chain_at c.loop-place.place c.args.chains.now) ≡ true =
    ap (λ n. are_same c.args.chain.now (take n (drop (32 * c.loop-place.place) c.args.chains.now))) size
    ∙ sym (c.if-eq.ensures) in
    sym (found_below (λ n. are_same c.args.chain.now (chain_at n c.args.chains.now)) (length c.args.chains.now / 32)
    c.loop-place.place c.loop-place-test.true same)
