-- Payloads hop by hop.
use Rattle.std.proofs.Common.{◌≡◌, ◌≢◌, ℕ, List, [], ◌∷◌, ◌++◌, Option, Some, None, refl, sym, ap, ◌∙◌, append_assoc}
use Rattle.std.proofs.Common.{◌-◌, ◌==◌, Bool, true, false, length, take, drop, arith}
use Rattle.std.proofs.lemmas.List.{take_all}
use Rattle.std.proofs.lemmas.Bool.Decides.{nat_tests}
use Rattle.std.specs.Borrow.{Bor}
use Rattle.ln_script.specs.declared.hop.Hop.{Hop}
use Rattle.ln_script.specs.Word.{◌>>=◌}
use Rattle.ln_script.specs.Onion.{hop_payload, last_payload, payloads_at, in_front, front_hop}
use Rattle.ln_script.specs.Step.{texts}

in_front_nothing : (o : Option (List (List ℕ))) → o ≡ in_front [] o
in_front_nothing None = refl
in_front_nothing (Some ps) = refl

in_front_both : (ps qs : List (List ℕ)) (o : Option (List (List ℕ)))
    → in_front ps (in_front qs o) ≡ in_front (ps ++ qs) o
in_front_both ps qs None = refl
in_front_both ps qs (Some rs) = ap (λ (xs : List (List ℕ)). let it : Option (List (List ℕ)) = Some xs in
    it) (sym (append_assoc ps qs rs))

-- what the words ask for, with the hop in front told
abbrev told : ℕ → List (List ℕ) → Option Hop → Option (List (List ℕ))
told payment rest o = do
  h ← o
  in_front (hop_payload h ∷ []) (payloads_at payment h.amount h.expiry rest)

front : (payment amount expiry : ℕ) (ws : List (List ℕ)) → ws ≢ []
    → payloads_at payment amount expiry ws ≡ told payment (drop 3 ws) (front_hop ws)
unfolding payloads_at
front payment amount expiry [] some = absurd (some refl)
front payment amount expiry (a ∷ []) some = refl
front payment amount expiry (a ∷ b ∷ []) some = refl
front payment amount expiry (id ∷ amt ∷ cltv ∷ ws) some = refl

pub behind_three : (ws : List (Bor (List ℕ))) (n : ℕ) → n ≡ length ws - 3
    → drop 3 (texts ws) ≡ texts (take n (drop 3 ws))
behind_three [] n e = rw e refl
behind_three (a ∷ []) n e = rw e refl
behind_three (a ∷ b ∷ []) n e = rw e refl
behind_three (a ∷ b ∷ c ∷ ws) n e = ap texts (sym (take_all n ws (omega (arith, e))))

pub not_empty : (ws : List (Bor (List ℕ))) (b : Bool) → b ≡ (length ws == 0) → b ≡ false → texts ws ≢ []
not_empty [] b e f none = absurd (let it : true ≡ false = sym e ∙ f in cc)
not_empty (w ∷ ws) b e f none = absurd cc

zero_length : (n : ℕ) → (n == 0) ≡ true → n ≡ 0
zero_length n e = grind (arith, nat_tests)

pub empty : (ws : List (Bor (List ℕ))) (b : Bool) → b ≡ (length ws == 0) → b ≡ true → texts ws ≡ []
empty [] b e f = refl
empty (w ∷ ws) b e f =
    let none : length (w ∷ ws) ≡ 0 = zero_length (length (w ∷ ws)) (sym e ∙ f) in
    absurd (omega arith)

-- what r is: these payloads, and what the words that are left ask for
abbrev Reads : Option (List (List ℕ)) → List (List ℕ) → ℕ → ℕ → ℕ → List (List ℕ) → Type 0
Reads r ps payment amount expiry ws = r ≡ in_front ps (payloads_at payment amount expiry ws)

pub first_words : (ps : List (List ℕ)) (payment amount expiry : ℕ) (ws : List (List ℕ)) → ps ≡ []
    → Reads (payloads_at payment amount expiry ws) ps payment amount expiry ws
first_words ps payment amount expiry ws none =
    in_front_nothing (payloads_at payment amount expiry ws)
    ∙ ap (λ (qs : List (List ℕ)). in_front qs (payloads_at payment amount expiry ws)) (sym none)

pub after_hop : (r : Option (List (List ℕ))) (ps : List (List ℕ)) (payment amount expiry : ℕ) (ws rest : List (List ℕ))
    → (h : Hop) → Reads r ps payment amount expiry ws → ws ≢ [] → front_hop ws ≡ Some h → drop 3 ws ≡ rest
    → Reads r (ps ++ hop_payload h ∷ []) payment h.amount h.expiry rest
after_hop r ps payment amount expiry ws rest h reads some is behind =
    reads ∙ ap (in_front ps) (front payment amount expiry ws some ∙ ap (told payment (drop 3 ws)) is)
    ∙ in_front_both ps (hop_payload h ∷ []) (payloads_at payment h.amount h.expiry (drop 3 ws))
    ∙ ap (λ (xs : List (List ℕ)). in_front (ps ++ hop_payload h ∷ []) (payloads_at payment h.amount h.expiry xs)) behind

pub no_hop : (r : Option (List (List ℕ))) (ps : List (List ℕ)) (payment amount expiry : ℕ) (ws : List (List ℕ))
    → Reads r ps payment amount expiry ws → ws ≢ [] → front_hop ws ≡ None → None ≡ r
no_hop r ps payment amount expiry ws reads some is =
    sym (reads ∙ ap (in_front ps) (front payment amount expiry ws some ∙ ap (told payment (drop 3 ws)) is))

pub at_last : (r : Option (List (List ℕ))) (ps : List (List ℕ)) (payment amount expiry : ℕ) (ws : List (List ℕ))
    → Reads r ps payment amount expiry ws → ws ≡ [] → Some (ps ++ last_payload payment amount expiry ∷ []) ≡ r
unfolding payloads_at
at_last r ps payment amount expiry ws reads none =
    sym (reads ∙ ap (λ (xs : List (List ℕ)). in_front ps (payloads_at payment amount expiry xs)) none)
