-- What channels have of payments, one channel after the other.
use Rattle.std.proofs.Common.{◌≡◌, ◌++◌, ◌∷◌, [], ℕ, ◌+◌, ◌<◌, List, length, take, refl, sym, ap, ◌∙◌, append-nil}
use Rattle.std.proofs.Math.ListN.{get_or}
use Rattle.std.proofs.lemmas.List.{take_more, append_assoc}
use Rattle.ln_book.specs.Rebuild.{ChannelSnapshot}
use Rattle.ln_node.specs.declared.stored.Loaded.{Loaded}
use Rattle.ln_book.specs.Snapshots.{snapshot_by}
use Rattle.ln_node.specs.Stored.{loaded_end, channel_snapshots_of}

module _ {K S T : Type 0} where
  snapshots-append : (xs ys : List (Loaded K S T))
      → channel_snapshots_of (xs ++ ys) ≡ channel_snapshots_of xs ++ channel_snapshots_of ys
  snapshots-append [] ys = refl
  snapshots-append (x ∷ xs) ys =
      ap (λ l. snapshot_by (loaded_end x) ++ l) (snapshots-append xs ys)
      ∙ sym (append_assoc (snapshot_by (loaded_end x)) (channel_snapshots_of xs) (channel_snapshots_of ys))

  pub one-more : (now next : List ChannelSnapshot) (ls : List (Loaded K S T)) (i : ℕ) (l : Loaded K S T) → i < length ls
      → l ≡ get_or ls i l → now ≡ channel_snapshots_of (take i ls) → next ≡ now ++ snapshot_by (loaded_end l)
      → next ≡ channel_snapshots_of (take (i + 1) ls)
  one-more now next ls i l within is before after =
      after ∙ ap (λ x. x ++ snapshot_by (loaded_end l)) before
      ∙ ap (λ x. channel_snapshots_of (take i ls) ++ x) (sym (append-nil (snapshot_by (loaded_end l))))
      ∙ sym (snapshots-append (take i ls) (l ∷ []))
      ∙ ap channel_snapshots_of (ap (λ x. take i ls ++ x ∷ []) is ∙ sym (take_more ls i l within))
