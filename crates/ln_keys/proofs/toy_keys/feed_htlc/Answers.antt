use Rattle.std.proofs.Common.{ℕ, List, subst, ◌∙◌, refl}
use Rattle.sha2.specs.Hashers.{Holds256}
use Rattle.ln_keys.specs.Toy.{htlc_bytes}
use Rattle.ln_keys.proofs.Joined.{five}
use Rattle.ln_keys.proofs.toy_keys.feed_htlc.Goals as goal

pub returns : goal.returns
unfolding htlc_bytes
returns c = λ m held.
    let all = c.update-5.ensures _ (c.update-4.ensures _
    (c.update-3.ensures _ (c.update-2.ensures _ (c.update.ensures m held)))) in
    let P : List ℕ → Type 0 = λ l. Holds256 c.update-5.new.self l in
    subst P (five m c.as_slice.result.now c.as_slice-2.result.now c.as_slice-3.result.now c.as_slice-4.result.now
    c.as_slice-5.result.now ∙ rw (
      c.as_slice.ensures,
      c.as_slice-2.ensures,
      c.as_slice-3.ensures,
      c.as_slice-4.ensures,
      c.as_slice-5.ensures,
      c.owner_of.ensures,
      c.to_be_bytes.ensures,
      c.to_be_bytes-2.ensures,
      c.to_be_bytes-3.ensures,
    ) refl) all
