-- Events through a relay into which one sender alone puts events.
use Rattle.std.proofs.Common.{◌≡◌, ◌++◌, ◌∷◌, [], List, refl, sym, ap, ◌∙◌, length, arith}
use Rattle.ln_node_loops.specs.declared.task.Task.{Task}
use Rattle.ln_node_loops.specs.declared.task.Task.TheVariants as task
use Rattle.ln_relay.specs.Merge.{IsMerge, neither, from_first, from_second}
use Rattle.ln_node_loops.specs.Served.{events_in, Begins}

events-append : {H : Type 0} (xs ys : List (Task H)) → events_in (xs ++ ys) ≡ events_in xs ++ events_in ys
events-append [] ys = refl
events-append (task.Event c n e ∷ xs) ys = ap (λ l. (c, n, e) ∷ l) (events-append xs ys)
events-append (task.Register h ∷ xs) ys = events-append xs ys
events-append (task.Stop ∷ xs) ys = events-append xs ys

not_nil : {A B : Type 0} (x : A) (xs : List A) → x ∷ xs ≡ [] → B
not_nil x xs none = absurd (omega (arith, ap length none))

merged : {H : Type 0} (xs ys zs : List (Task H)) → IsMerge xs ys zs → events_in ys ≡ [] → events_in zs ≡ events_in xs
merged [] [] [] neither none = refl
merged [] (_ ∷ ys) [] m none = elim m [ ]
merged (_ ∷ xs) ys [] m none = elim m [ ]
merged (task.Event c n e ∷ xs) ys (_ ∷ zs) (from_first _ _ _ _ m) none =
    ap (λ l. (c, n, e) ∷ l) (merged xs ys zs m none)
merged (task.Register h ∷ xs) ys (_ ∷ zs) (from_first _ _ _ _ m) none = merged xs ys zs m none
merged (task.Stop ∷ xs) ys (_ ∷ zs) (from_first _ _ _ _ m) none = merged xs ys zs m none
merged xs (task.Event c n e ∷ ys) (_ ∷ zs) (from_second _ _ _ _ m) none = not_nil (c, n, e) (events_in ys) none
merged xs (task.Register h ∷ ys) (_ ∷ zs) (from_second _ _ _ _ m) none = merged xs ys zs m none
merged xs (task.Stop ∷ ys) (_ ∷ zs) (from_second _ _ _ _ m) none = merged xs ys zs m none

pub follows : {H : Type 0} (first second taken left : List (Task H)) → IsMerge first second (taken ++ left)
    → events_in second ≡ [] → Begins (events_in taken) (events_in first)
follows first second taken left m none =
    (events_in left, sym (merged first second (taken ++ left) m none) ∙ events-append taken left)
