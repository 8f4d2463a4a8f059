use Rattle.std.proofs.Common.{◌∙◌, ap, arith, rules, is_some, length, subst}
use Rattle.std.proofs.lemmas.Fn.{filter_same}
use Rattle.ln_book_tables.specs.Slots.{in_slots}
use Rattle.ln_book_tables.specs.Indices.{IsIndexed}
use Rattle.ln_book_tables.specs.Filled.{held_in, IsCounted, IsExact}
use Rattle.ln_book_tables.proofs.InSlots.{in_squeezed}
use Rattle.ln_book_tables.proofs.Filled.{all_hold}
use Rattle.ln_book_tables.proofs.slots.take_out_empty.Goals as goal

pub index_all-requires-clause-keys : goal.index_all-requires-clause-keys
index_all-requires-clause-keys c =
    let same = filter_same _ is_some _ (λ x b f' k. search rules) _ _ c.retain.ensures.filtered in
    omega (
      arith,
      ap held_in c.as_slice.ensures.value,
      ap held_in same,
      ap length (in_squeezed c.args.slots.now.items),
      c.requires.counted.room,
    )

pub returns-clause-same : goal.returns-clause-same
returns-clause-same c =
    ap in_slots (filter_same _ is_some _ (λ x b f' k. search rules) _ _ c.retain.ensures.filtered)
    ∙ in_squeezed c.args.slots.now.items

pub returns-clause-kept : goal.returns-clause-kept
returns-clause-kept c =
    let same = filter_same _ is_some _ (λ x b f' k. search rules) _ _ c.retain.ensures.filtered in record {
      indexed = subst (λ ss. IsIndexed ss c.index_all.new.indices) c.as_slice.ensures.value
          c.index_all.ensures.indexed;
      counted = subst (λ ss. IsCounted ss c.index_all.new.indices.by_key) c.as_slice.ensures.value
          c.index_all.ensures.counted;
      exact = subst (λ ss. IsExact ss c.index_all.new.indices.by_key) c.as_slice.ensures.value
          c.index_all.ensures.exact;
      half = omega (
        arith,
        ap length same,
        ap held_in same,
        all_hold c.args.slots.now.items,
        ap length (in_squeezed c.args.slots.now.items),
      );
    }
