-- The text of a message's fields, from the fields that it hands out.
use Rattle.std.proofs.Common.{◌≡◌, ℕ, ◌+◌, ◌<◌, List, [], ◌∷◌, ◌++◌, length, get_or, take, map, Option, Some, None}
use Rattle.std.proofs.Common.{refl, sym, ap, ◌∙◌}
use Rattle.std.specs.List.{flat_map}
use Rattle.std.proofs.lemmas.List.{flat_map_more, take_more}
use Rattle.ln_msgs.specs.declared.messages.item.Field.{Field}
use Rattle.ln_msgs.specs.Codec.Field.{Value}
use Rattle.ln_msgs.specs.Messages.Table.{Form, form_of, names_of}
use Rattle.ln_msgs.specs.Messages.Message.{Wire}
use Rattle.ln_msgs.specs.Messages.Items.{value_of, IsShownByForm, IsShownAs}
use Rattle.ln_bytes.specs.declared.record.Record.{Record}
use Rattle.ln_text.specs.MessageText.{fields_text, names_by, record_text, type_line, known_text, signature_line}
use Rattle.ln_text.specs.Shown.{shown_field}

zipped : (fs : List Field) → flat_map shown_field fs
    ≡ fields_text (map (λ f. f.name.now) fs) (map (λ f. value_of f.value) fs)
zipped [] = refl
zipped (f ∷ fs) = ap (λ (t : List ℕ). shown_field f ++ t) (zipped fs)

by_row : (o : Option Form) (w : Wire) (fs : List Field) → IsShownByForm o w fs
    → flat_map shown_field fs ≡ fields_text (names_by o) w.values
by_row None w fs shown = absurd shown
by_row (Some form) w fs shown =
    zipped fs ∙ ap (λ (ns : List (List ℕ)). fields_text ns (map (λ f. value_of f.value) fs)) shown.names
    ∙ ap (λ (vs : List Value). fields_text (names_of form) vs) shown.values

pub fields_shown : (w : Wire) (fs : List Field) → IsShownAs w fs
    → flat_map shown_field fs ≡ fields_text (names_by (form_of w.typ)) w.values
fields_shown w fs shown = by_row (form_of w.typ) w fs shown

-- a text that was put together so is the message's
pub put_together : (w : Wire) (fs : List Field) (rs : List Record) (head a b : List ℕ) → IsShownAs w fs → rs ≡ w.records
    → head ≡ type_line w.typ
    → a ≡ head ++ flat_map shown_field fs → b ≡ a ++ flat_map record_text rs → b ≡ known_text w
unfolding known_text
put_together w fs rs head a b shown records first fields all =
    all ∙ ap (λ (t : List ℕ). t ++ flat_map record_text rs) (fields
    ∙ ap (λ (t : List ℕ). t ++ flat_map shown_field fs) first
    ∙ ap (λ (t : List ℕ). type_line w.typ ++ t) (fields_shown w fs shown))
    ∙ ap (λ (x : List Record). (type_line w.typ ++ fields_text (names_by (form_of w.typ)) w.values)
    ++ flat_map record_text x) records

pub signatures_more : (old now new : List ℕ) (xs : List (List ℕ)) (i : ℕ) (d : List ℕ) → i < length xs
    → now ≡ old ++ flat_map signature_line (take i xs)
    → new ≡ now ++ signature_line (get_or xs i d) → new ≡ old ++ flat_map signature_line (take (i + 1) xs)
signatures_more old now new xs i d within before put =
    put ∙ ap (λ (t : List ℕ). t ++ signature_line (get_or xs i d)) before
    ∙ flat_map_more signature_line old (take i xs) (get_or xs i d)
    ∙ ap (λ (ys : List (List ℕ)). old ++ flat_map signature_line ys) (sym (take_more xs i d within))
