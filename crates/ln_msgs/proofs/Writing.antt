-- What is written for a message is spelled by the grammar.
use Rattle.std.proofs.Common.{◌≡◌, ℕ, ◌<◌, ◌≤◌, ◌⊎◌, ◌↔◌, List, [], ◌∷◌, ◌++◌, length, get_or, map, Option, Some, None}
use Rattle.std.proofs.Common.{Result, Ok, Err, refl, sym, ap, subst, ◌∙◌, arith, inl, inr}
use Rattle.std.specs.Prelude.{IfOk, IfErr, IsErrOf}
use Rattle.std.specs.Global.{Vec}
use Rattle.std.proofs.lemmas.Bool.{cases_lt}
use Rattle.ln_bytes.specs.Endian.{big_bytes}
use Rattle.ln_bytes.specs.Tlv.{stream_bytes, AreFit}
use Rattle.ln_bytes.specs.declared.fault.Fault.{Fault}
use Rattle.ln_bytes.specs.declared.fault.Fault.TheVariants.{TooLong, Memory}
use Rattle.ln_bytes.specs.declared.record.Record.{Record}
use Rattle.ln_msgs.specs.declared.messages.item.Item.{Item}
use Rattle.ln_msgs.specs.Codec.Field.{AreOf, fields_bytes}
use Rattle.ln_msgs.specs.Messages.Items.{kind_of, value_of, item_bytes, items_bytes, AreItemsOf, AreItemsBy}
use Rattle.ln_msgs.specs.Messages.Table.{Form, kinds_of, form_of}
use Rattle.ln_msgs.specs.Messages.Message.{Wire, wire_bytes, formed_bytes, Known, Says}
use Rattle.ln_msgs.specs.Codec.Writing.{MayFollowForm, CanBeWritten}
use Rattle.ln_msgs.specs.Codec.Steps.{AreProper, AreOfForm, IsWritten, parts_bytes}
use Rattle.ln_msgs.proofs.Sums.{flat_fits}

pub item_below : (is : List Item) (i : ℕ) (d : Item) → i < length is → length (items_bytes is) ≤ 65535
    → length (item_bytes (get_or is i d)) ≤ 65535
item_below is i d below short = let more = flat_fits item_bytes is i d below in omega (arith, more)

-- kinds and values apart give the same bytes
same_fields : (is : List Item) → fields_bytes (map kind_of is) (map value_of is) ≡ items_bytes is
same_fields [] = refl
same_fields (i ∷ is) = ap (λ l. item_bytes i ++ l) (same_fields is)

pub fields_are : (form : Form) (w : Wire) (is : List Item) → AreItemsOf form w is
    → items_bytes is ≡ fields_bytes (kinds_of form) w.values
fields_are form w is are = sym (same_fields is) ∙ ap (λ ks. fields_bytes ks (map value_of is)) are.kinds
    ∙ ap (λ vs. fields_bytes (kinds_of form) vs) are.values

are_of : (is : List Item) → AreProper is → AreOf (map kind_of is) (map value_of is)
are_of [] all = tt
are_of (i ∷ is) all = (all.0, are_of is all.1)

fields_are_of : (form : Form) (w : Wire) (is : List Item) → AreItemsOf form w is → AreProper is
    → AreOf (kinds_of form) w.values
fields_are_of form w is are all =
    subst (λ ks. AreOf ks w.values) are.kinds (subst (AreOf (map kind_of is)) are.values (are_of is all))

parts_are : (form : Form) (w : Wire) (typ : ℕ) (fs : List Item) (rs : List Record) → AreItemsOf form w fs
    → form_of w.typ ≡ Some form → w.typ ≡ typ → w.records ≡ rs → parts_bytes typ fs rs ≡ wire_bytes w
parts_are form w typ fs rs are is typ_is records_are =
    ap (λ n. big_bytes 2 n ++ items_bytes fs ++ stream_bytes rs) (sym typ_is)
    ∙ ap (λ l. big_bytes 2 w.typ ++ l ++ stream_bytes rs) (fields_are form w fs are)
    ∙ ap (λ l. big_bytes 2 w.typ ++ fields_bytes (kinds_of form) w.values ++ stream_bytes l) (sym records_are)
    ∙ ap (λ f. formed_bytes f w) (sym is)

short_enough : (r : Result (Vec ℕ) Fault) (bytes : List ℕ) → r ≡ Err Memory
    → (65535 < length bytes → r ≡ Err TooLong) → length bytes ≤ 65535
short_enough r bytes memory long =
    elim (cases_lt (length bytes) 65536) [
      | inl below ↦ omega (arith, below)
      | inr above ↦ absurd (memory_is_not_long (sym memory ∙ long (omega arith)))
    ]
  where
    memory_is_not_long : ◌≡◌ {A = Result (Vec ℕ) Fault} (Err Memory) (Err TooLong) → ⊥
    memory_is_not_long e = cc

is_written_as : (r : Result (Vec ℕ) Fault) (form : Form) (w : Wire) (typ : ℕ) (fs : List Item) (rs : List Record)
    → typ < 65536 → AreItemsOf form w fs → form_of w.typ ≡ Some form → w.typ ≡ typ → w.records ≡ rs
    → IfOk r (λ v. (v.items ≡ parts_bytes typ fs rs) × (length v.items ≤ 65535) × AreFit rs × AreProper fs)
    → IsErrOf r TooLong ↔ (65535 < length (parts_bytes typ fs rs))
    → IfErr r (λ e. (e ≡ TooLong) ⊎ (e ≡ Memory)) → IsWritten r w
is_written_as (Ok v) form w typ fs rs below are is typ_is records_are ok long err =
    let parts = parts_are form w typ fs rs are is typ_is records_are in
    let proper : AreOfForm (Some form) w = (omega (arith, typ_is), fields_are_of form w fs are ok.3) in
    record {
      answer = (
        ok.0 ∙ parts,
        ok.1,
        subst AreFit (sym records_are) ok.2,
        subst (λ f. AreOfForm f w) (sym is) proper,
      );
    }
is_written_as (Err f) form w typ fs rs below are is typ_is records_are ok long err =
    let parts = parts_are form w typ fs rs are is typ_is records_are in
    elim err [
      | inl e ↦ record { answer = inl (e, subst (λ l. 65535 < length l) parts (long.0 (ap Err e))) }
      | inr e ↦ record {
        answer = inr (
          e,
          short_enough (Err f) (wire_bytes w) (ap Err e)
              (λ more. long.1 (subst (λ l. 65535 < length l) (sym parts) more)),
        );
      }
    ]

pub is_written_by : (form : Option Form) (r : Result (Vec ℕ) Fault) (w : Wire) (typ : ℕ) (fs : List Item)
    (rs : List Record) → form_of w.typ ≡ form → typ < 65536 → AreItemsBy form w fs → w.typ ≡ typ → w.records ≡ rs
    → IfOk r (λ v. (v.items ≡ parts_bytes typ fs rs) × (length v.items ≤ 65535) × AreFit rs × AreProper fs)
    → IsErrOf r TooLong ↔ (65535 < length (parts_bytes typ fs rs))
    → IfErr r (λ e. (e ≡ TooLong) ⊎ (e ≡ Memory)) → IsWritten r w
is_written_by None r w typ fs rs is below are typ_is records_are ok long err = absurd are
is_written_by (Some form) r w typ fs rs is below are typ_is records_are ok long err =
    is_written_as r form w typ fs rs below are is typ_is records_are ok long err

says_some : (form : Option Form) (w : Wire) (bytes : List ℕ) → form_of w.typ ≡ form → MayFollowForm form w.records
    → AreOfForm form w → AreFit w.records → length bytes ≤ 65535 → bytes ≡ wire_bytes w → Says (Known w) bytes
says_some None w bytes is may are fit short e = absurd may
says_some (Some form) w bytes is may are fit short e = (
  short,
  (
    form,
    is,
    record { typ = are.0; values = are.1; valid = may.valid; fit = fit; lengths = may.lengths },
    e
        ∙ ap (λ f. formed_bytes f w) is,
  ),
)

pub says_it : (r : Result (Vec ℕ) Fault) (w : Wire) → CanBeWritten w → IsWritten r w
    → IfOk r (λ v. Says (Known w) v.items)
says_it (Ok v) w can written = says_some (form_of w.typ) w v.items refl can written.answer.3 written.answer.2
    written.answer.1 written.answer.0
says_it (Err f) w can written = tt
