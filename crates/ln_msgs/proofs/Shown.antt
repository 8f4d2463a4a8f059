-- The values of a message's fields and their names, by the table.
use Rattle.std.proofs.Common.{◌≡◌, ℕ, List, [], ◌∷◌, length, map, Option, Some, None, Result, Ok, Err, refl, sym, ap}
use Rattle.std.proofs.Common.{◌∙◌}
use Rattle.std.proofs.lemmas.List.{length-map}
use Rattle.std.specs.Prelude.{IfOk}
use Rattle.std.specs.Global.{Vec}
use Rattle.ln_msgs.specs.declared.messages.form.Form.{Form}
use Rattle.ln_msgs.specs.declared.messages.item.Field.{Field}
use Rattle.ln_msgs.specs.declared.messages.item.Item.{Item}
use Rattle.ln_msgs.specs.Messages.Forms.{IsFormBy}
use Rattle.ln_msgs.specs.Messages.Items.{kind_of, value_of, AreItemsBy, IsShownByForm}
use Rattle.ln_msgs.specs.Messages.Message.{Wire}
use Rattle.ln_msgs.specs.Messages.Table as table

twice : {A B C : Type 0} (f : A → B) (g : B → C) (xs : List A) → map g (map f xs) ≡ map (λ x. g (f x)) xs
twice f g [] = refl
twice f g (x ∷ xs) = ap (λ l. g (f x) ∷ l) (twice f g xs)

is_shown : (row : Option table.Form) (form : Form) (typ : ℕ) (w : Wire) (is : List Item) (fs : List Field)
    → IsFormBy row form typ → AreItemsBy row w is
    → (length form.fields.now ≡ length is → map (λ f. f.name.now) fs ≡ map (λ n. n.now) form.fields.now)
    → (length form.fields.now ≡ length is → map (λ f. f.value) fs ≡ is) → IsShownByForm row w fs
is_shown None form typ w is fs by are names values = absurd by
is_shown (Some row) form typ w is fs by are names values =
    let many : length form.fields.now ≡ length is = sym (length-map form.fields.now (λ n. n.now)) ∙ ap length by.0.names
    ∙ length-map row.fields (λ f. f.0) ∙ sym (length-map row.fields (λ f. f.1)) ∙ sym (ap length are.kinds)
    ∙ length-map is kind_of in
    record {
      names = names many ∙ by.0.names;
      kinds = sym (twice (λ f. f.value) kind_of fs) ∙ ap (map kind_of) (values many) ∙ are.kinds;
      values = sym (twice (λ f. f.value) value_of fs) ∙ ap (map value_of) (values many) ∙ are.values;
    }

pub is_answered : {E : Type 0} (row : Option table.Form) (form : Form) (typ : ℕ) (w : Wire) (is : List Item)
    (r : Result (Vec Field) E) → IsFormBy row form typ → AreItemsBy row w is
    → IfOk r (λ fs. length form.fields.now ≡ length is
    → map (λ f. f.name.now) fs.items ≡ map (λ n. n.now) form.fields.now)
    → IfOk r (λ fs. length form.fields.now ≡ length is → map (λ f. f.value) fs.items ≡ is)
    → IfOk r (λ fs. IsShownByForm row w fs.items)
is_answered row form typ w is (Ok fs) by are names values = is_shown row form typ w is fs.items by are names values
is_answered row form typ w is (Err e) by are names values = tt
