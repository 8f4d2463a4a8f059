-- A worker stops at once.
use Rattle.std.proofs.Common.{◌≡◌, ◌++◌, ◌∷◌, [], List, true, refl, sym, ap, ◌∙◌, append-nil}
use Rattle.std.proofs.lemmas.List.{append_assoc}
use Rattle.ln_node_loops.specs.declared.item.Item.{Item}
use Rattle.ln_node_loops.specs.declared.item.Item.TheVariants as item
use Rattle.ln_node_loops.specs.Turns.{is_stop, NoneStops, TakesNoStop}

pub stop-only : {W : Type 0} (i : Item W) → is_stop i ≡ true → i ≡ item.Stop
stop-only (item.Joined w) e = absurd (cc e)
stop-only (item.Read m) e = absurd (cc e)
stop-only item.Broken e = absurd (cc e)
stop-only (item.Order c) e = absurd (cc e)
stop-only item.Stop e = refl

none-append : {W : Type 0} (is js : List (Item W)) → NoneStops is → NoneStops js → NoneStops (is ++ js)
none-append [] js one two = two
none-append (i ∷ is) js one two = (one.0, none-append is js one.1 two)

pub stops-not : {W : Type 0} (taken : List (Item W)) → TakesNoStop taken taken
stops-not taken = ([], tt, sym (append-nil taken))

-- first these items were taken, then those, and then none
pub goes-on : {W : Type 0} (a b c : List (Item W)) {d : List (Item W)} → TakesNoStop a b → TakesNoStop b c → d ≡ c
    → TakesNoStop a d
goes-on a b c one two same = (
  one.0 ++ two.0,
  none-append one.0 two.0 one.1 two.1,
  same ∙ two.2 ∙ ap (λ l. l ++ two.0) one.2 ∙ append_assoc a one.0 two.0,
)
