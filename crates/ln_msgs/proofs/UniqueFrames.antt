-- The bytes of a stream determine the messages that are heard.
use Rattle.std.proofs.Common.{◌≡◌, ℕ, ◌<◌, ◌/◌, ◌%◌, List, [], ◌∷◌, ◌++◌, length, get_or, take, drop, Result, Ok, refl}
use Rattle.std.proofs.Common.{sym, ap, ◌∙◌, arith, append_assoc}
use Rattle.std.proofs.lemmas.List.{take_at, drop_at}
use Rattle.ln_bytes.specs.declared.fault.Fault.{Fault}
use Rattle.ln_msgs.specs.Messages.Message.{Heard, message_at}
use Rattle.ln_msgs.specs.Frames.Frame.{frame, Hears, EndsHearing}

same_length : (m n x y : List ℕ) → length m < 65536 → length n < 65536
    → frame m ++ x ≡ frame n ++ y → length m ≡ length n
same_length m n x y fm fn e =
    let high : length m / 256 % 256 ≡ length n / 256 % 256 = ap (λ l. get_or l 0 0) e in
    let low : length m % 256 ≡ length n % 256 = ap (λ l. get_or l 1 0) e in
    omega arith

-- two frames at the front of the same bytes are one
pub same_frame : (m n x y : List ℕ) → length m < 65536 → length n < 65536
    → frame m ++ x ≡ frame n ++ y → (m ≡ n) × (x ≡ y)
same_frame m n x y fm fn e =
    let len = same_length m n x y fm fn e in
    let tails : m ++ x ≡ n ++ y = ap (drop 2) e in (
      sym (take_at m x (length m) refl) ∙ ap (take (length m)) tails ∙ take_at n y (length m) (sym len),
      sym (drop_at m x (length m) refl) ∙ ap (drop (length m)) tails ∙ drop_at n y (length m) (sym len),
    )

ok_is : (g h : Heard) → ◌≡◌ {A = Result Heard Fault} (Ok g) (Ok h) → g ≡ h
ok_is g h e = cc

pub unique_frames : (hs gs : List Heard) (xs ys more rest : List ℕ) → Hears hs xs → Hears gs ys → EndsHearing more
    → EndsHearing rest → xs ++ more ≡ ys ++ rest → (hs ≡ gs) × (more ≡ rest)
unique_frames [] [] xs ys more rest p q a b e = (refl, sym (ap (λ l. l ++ more) p) ∙ e ∙ ap (λ l. l ++ rest) q)
unique_frames [] (g ∷ gs) xs ys more rest p q a b e =
    absurd (a q.0 (q.1 ++ rest) g (record {
      fits = q.2.fits;
      bytes_are = sym (ap (λ l. l ++ more) p) ∙ e
          ∙ ap (λ l. l ++ rest) q.2.bytes_are ∙ append_assoc (frame q.0) q.1 rest;
    }) q.3)
unique_frames (h ∷ hs) [] xs ys more rest p q a b e =
    absurd (b p.0 (p.1 ++ more) h (record {
      fits = p.2.fits;
      bytes_are = sym (ap (λ l. l ++ rest) q) ∙ sym e
          ∙ ap (λ l. l ++ more) p.2.bytes_are ∙ append_assoc (frame p.0) p.1 more;
    }) p.3)
unique_frames (h ∷ hs) (g ∷ gs) xs ys more rest p q a b e =
    let left = ap (λ l. l ++ more) p.2.bytes_are ∙ append_assoc (frame p.0) p.1 more in
    let right = ap (λ l. l ++ rest) q.2.bytes_are ∙ append_assoc (frame q.0) q.1 rest in
    let one = same_frame p.0 q.0 (p.1 ++ more) (q.1 ++ rest) p.2.fits q.2.fits (sym left ∙ e ∙ right) in
    let same : h ≡ g = ok_is h g (sym p.3 ∙ ap message_at one.0 ∙ q.3) in
    let others = unique_frames hs gs p.1 q.1 more rest p.4 q.4 a b one.1 in
    (ap (λ k. k ∷ hs) same ∙ ap (λ ks. g ∷ ks) others.0, others.1)
