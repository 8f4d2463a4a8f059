-- Held HTLCs with their channels' numbers, one more at the end.
use Rattle.std.proofs.Common.{◌≡◌, ◌++◌, ◌∷◌, [], ℕ, List, Option, sym, ap, ◌∙◌, append-nil}
use Rattle.std.proofs.lemmas.List.{append_assoc}
use Rattle.ln_book_tables.specs.declared.held.HeldHtlc.{HeldHtlc}
use Rattle.ln_node.specs.Held.{place_of, with_number, numbered}

pub one-more : (ids : List (Option (List ℕ))) (hs : List HeldHtlc) (h : HeldHtlc)
    → numbered ids (hs ++ h ∷ []) ≡ numbered ids hs ++ with_number (place_of ids h.channel) h
one-more ids [] h = append-nil (with_number (place_of ids h.channel) h)
one-more ids (x ∷ hs) h =
    ap (λ l. with_number (place_of ids x.channel) x ++ l) (one-more ids hs h)
    ∙ sym (append_assoc (with_number (place_of ids x.channel) x) (numbered ids hs)
    (with_number (place_of ids h.channel) h))
