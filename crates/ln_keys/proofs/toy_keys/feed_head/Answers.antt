use Rattle.std.proofs.Common.{ℕ, List, subst, ◌∙◌, refl}
use Rattle.sha2.specs.Hashers.{Holds256}
use Rattle.ln_keys.specs.Toy.{view_head}
use Rattle.ln_keys.proofs.Joined.{four}
use Rattle.ln_keys.proofs.toy_keys.feed_head.Goals as goal

pub returns : goal.returns
unfolding view_head
returns c = λ m held.
    let all = c.update-4.ensures _ (c.update-3.ensures _ (c.update-2.ensures _ (c.update.ensures m held))) in
    let P : List ℕ → Type 0 = λ l. Holds256 c.update-4.new.self l in
    subst P (four m c.as_slice.result.now c.as_slice-2.result.now c.as_slice-3.result.now c.as_slice-4.result.now
    ∙ rw (
      c.as_slice.ensures,
      c.as_slice-2.ensures,
      c.as_slice-3.ensures,
      c.as_slice-4.ensures,
      c.to_be_bytes.ensures,
      c.to_be_bytes-2.ensures,
      c.to_be_bytes-3.ensures,
      c.to_be_bytes-4.ensures,
      c.len.ensures,
    ) refl) all
