use Rattle.std.proofs.Common.{◌≡◌, ℕ, suc, ◌+◌, ◌*◌, ◌<◌, ◌≤◌, List, [], ◌∷◌, get_or, false, ◌==◌, ◌||◌, nat_lt, refl}
use Rattle.std.proofs.Common.{sym, ap, ◌∙◌, arith}
use Rattle.std.proofs.lemmas.Bool.Decides.{nat_tests}
use Rattle.ln_msgs.specs.Messages.Features.{is_listed}
use Rattle.ln_msgs.proofs.messages.features.lists.Goals as goal

-- numbers below a bound aren't one at or above it
none_so_great : (known : List ℕ) (k : ℕ) → ((i : ℕ) → get_or known i 0 < 65536) → 65536 ≤ k → is_listed known k ≡ false
none_so_great [] k small great = refl
none_so_great (x ∷ xs) k small great =
    let here : x < 65536 = small 0 in
    let other : (x == k) ≡ false = grind (arith, nat_tests) in
    ap (λ b. b || is_listed xs k) other ∙ none_so_great xs k (λ i. small (suc i)) great

pub returns-else-place-lt8192 : goal.returns-else-place-lt8192
returns-else-place-lt8192 c =
    let past : nat_lt c.args.place 8192 ≡ false = grind (arith, nat_tests) in
    past ∙ sym (none_so_great c.args.known.now (8 * c.args.place + c.args.bit)
    (λ i. omega (arith, c.type_inv.known i)) (omega arith))
