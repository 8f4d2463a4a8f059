use Rattle.std.proofs.Common.{◌≡◌, ℕ, ◌%◌, List, IsTrue, refl, subst, inl, inr}
use Rattle.ln_msgs.specs.Messages.Features.{HasFeature, is_listed, HasUnknown}
use Rattle.ln_msgs.specs.declared.messages.setup.Init.{Init}
use Rattle.ln_msgs.proofs.messages.features.check_init.Goals as goal
use Rattle.ln_msgs.proofs.messages.features.check_init.Goals.{
  else-global_known-via-then-global_known+else-features_known,
}
use Rattle.ln_msgs.proofs.messages.features.check_init.Goals.{else-global_known-via-else-global_known}

-- an even bit of one map that isn't in the list
unfoldable HasUnknownIn : List ℕ → List ℕ → Type 0
HasUnknownIn features known = (k : ℕ) × HasFeature features k × (k % 2 ≡ 0) × ¬ IsTrue (is_listed known k)

in_global : (init : Init) (map known : List ℕ) → map ≡ init.global_features
    → HasUnknownIn map known → HasUnknown init known
unfolding HasUnknownIn
in_global init map known e u = (u.0, inl (subst (λ m. HasFeature m u.0) e u.1), u.2, u.3)

in_features : (init : Init) (map known : List ℕ) → map ≡ init.features → HasUnknownIn map known → HasUnknown init known
unfolding HasUnknownIn
in_features init map known e u = (u.0, inr (subst (λ m. HasFeature m u.0) e u.1), u.2, u.3)

pub returns-else-global_known-clause-tells_an_unknown_bit : goal.returns-else-global_known-clause-tells_an_unknown_bit
unfolding HasUnknownIn
returns-else-global_known-clause-tells_an_unknown_bit c =
    elim c.else-global_known.branch [
      | else-global_known-via-then-global_known+else-features_known w ↦ (
        refl,
        in_features c.args.init.now c.as_slice-2.result.now c.args.known_even_bits.now c.as_slice-2.ensures
            (c.knows_all-features_known.ensures.false_has_an_unknown_bit w.if-features_known.false),
      )
      | else-global_known-via-else-global_known w ↦ (
        refl,
        in_global c.args.init.now c.as_slice.result.now c.args.known_even_bits.now c.as_slice.ensures
            (c.knows_all-global_known.ensures.false_has_an_unknown_bit w.if-global_known.false),
      )
    ]
