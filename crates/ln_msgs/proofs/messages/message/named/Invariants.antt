use Rattle.std.proofs.Common.{◌≡◌, ◌++◌, map}
use Rattle.ln_msgs.proofs.messages.message.named.Given as goal

abbrev pub invariant-loop-name : goal.invariant-loop-name
invariant-loop-name l =
    (map (λ f. f.name.now) l.fields.items ++ map (λ n. n.now) l.name-iterator.a.rest.now ≡ map (λ n. n.now) l.names)
    × (map (λ f. f.value) l.fields.items ++ l.name-iterator.b.rest.now ≡ l.items)
