-- Writing one thing after another.
use Rattle.std.proofs.Common.{◌≡◌, List, ◌++◌, ap, ◌∙◌, append_assoc, ℕ}

pub follows : (x y z a b : List ℕ) → y ≡ x ++ a → z ≡ y ++ b → z ≡ x ++ (a ++ b)
follows x y z a b p q = q ∙ ap (λ (l : List ℕ). l ++ b) p ∙ append_assoc x a b

-- five things
pub five_follow : (x s1 s2 s3 s4 z a1 a2 a3 a4 a5 : List ℕ) → s1 ≡ x ++ a1 → s2 ≡ s1 ++ a2 → s3 ≡ s2 ++ a3
    → s4 ≡ s3 ++ a4 → z ≡ s4 ++ a5 → z ≡ x ++ (a1 ++ (a2 ++ (a3 ++ (a4 ++ (a5)))))
five_follow x s1 s2 s3 s4 z a1 a2 a3 a4 a5 p1 p2 p3 p4 p5 =
    follows x s1 z a1 _ p1 (follows s1 s2 z a2 _ p2 (follows s2 s3 z a3 _ p3 (follows s3 s4 z a4 _ p4 p5)))

-- six things
pub six_follow : (x s1 s2 s3 s4 s5 z a1 a2 a3 a4 a5 a6 : List ℕ) → s1 ≡ x ++ a1 → s2 ≡ s1 ++ a2 → s3 ≡ s2 ++ a3
    → s4 ≡ s3 ++ a4 → s5 ≡ s4 ++ a5 → z ≡ s5 ++ a6 → z ≡ x ++ (a1 ++ (a2 ++ (a3 ++ (a4 ++ (a5 ++ (a6))))))
six_follow x s1 s2 s3 s4 s5 z a1 a2 a3 a4 a5 a6 p1 p2 p3 p4 p5 p6 =
    follows x s1 z a1 _ p1 (follows s1 s2 z a2 _ p2 (follows s2 s3 z a3 _ p3 (follows s3 s4 z a4 _ p4 (follows s4
    s5 z a5 _ p5 p6))))

-- seven things
pub seven_follow : (x s1 s2 s3 s4 s5 s6 z a1 a2 a3 a4 a5 a6 a7 : List ℕ) → s1 ≡ x ++ a1 → s2 ≡ s1 ++ a2
    → s3 ≡ s2 ++ a3 → s4 ≡ s3 ++ a4 → s5 ≡ s4 ++ a5 → s6 ≡ s5 ++ a6 → z ≡ s6 ++ a7
    → z ≡ x ++ (a1 ++ (a2 ++ (a3 ++ (a4 ++ (a5 ++ (a6 ++ (a7)))))))
seven_follow x s1 s2 s3 s4 s5 s6 z a1 a2 a3 a4 a5 a6 a7 p1 p2 p3 p4 p5 p6 p7 =
    follows x s1 z a1 _ p1 (follows s1 s2 z a2 _ p2 (follows s2 s3 z a3 _ p3 (follows s3 s4 z a4 _ p4 (follows s4
    s5 z a5 _ p5 (follows s5 s6 z a6 _ p6 p7)))))

-- eight things
pub eight_follow : (x s1 s2 s3 s4 s5 s6 s7 z a1 a2 a3 a4 a5 a6 a7 a8 : List ℕ) → s1 ≡ x ++ a1 → s2 ≡ s1 ++ a2
    → s3 ≡ s2 ++ a3 → s4 ≡ s3 ++ a4 → s5 ≡ s4 ++ a5 → s6 ≡ s5 ++ a6 → s7 ≡ s6 ++ a7 → z ≡ s7 ++ a8
    → z ≡ x ++ (a1 ++ (a2 ++ (a3 ++ (a4 ++ (a5 ++ (a6 ++ (a7 ++ (a8))))))))
eight_follow x s1 s2 s3 s4 s5 s6 s7 z a1 a2 a3 a4 a5 a6 a7 a8 p1 p2 p3 p4 p5 p6 p7 p8 =
    follows x s1 z a1 _ p1 (follows s1 s2 z a2 _ p2 (follows s2 s3 z a3 _ p3 (follows s3 s4 z a4 _ p4 (follows s4
    s5 z a5 _ p5 (follows s5 s6 z a6 _ p6 (follows s6 s7 z a7 _ p7 p8))))))

-- eleven things
pub eleven_follow : (x s1 s2 s3 s4 s5 s6 s7 s8 s9 s10 z a1 a2 a3 a4 a5 a6 a7 a8 a9 a10 a11 : List ℕ) → s1 ≡ x ++ a1
    → s2 ≡ s1 ++ a2 → s3 ≡ s2 ++ a3 → s4 ≡ s3 ++ a4 → s5 ≡ s4 ++ a5 → s6 ≡ s5 ++ a6 → s7 ≡ s6 ++ a7 → s8 ≡ s7 ++ a8
    → s9 ≡ s8 ++ a9 → s10 ≡ s9 ++ a10 → z ≡ s10 ++ a11
    → z ≡ x ++ (a1 ++ (a2 ++ (a3 ++ (a4 ++ (a5 ++ (a6 ++ (a7 ++ (a8 ++ (a9 ++ (a10 ++ (a11)))))))))))
eleven_follow x s1 s2 s3 s4 s5 s6 s7 s8 s9 s10 z a1 a2 a3 a4 a5 a6 a7 a8 a9 a10 a11 p1 p2 p3 p4 p5 p6 p7 p8 p9 p10 p11 =
    follows x s1 z a1 _ p1 (follows s1 s2 z a2 _ p2 (follows s2 s3 z a3 _ p3 (follows s3 s4 z a4 _ p4 (follows s4
    s5 z a5 _ p5 (follows s5 s6 z a6 _ p6 (follows s6 s7 z a7 _ p7 (follows s7 s8 z a8 _ p8 (follows s8 s9 z a9 _
    p9 (follows s9 s10 z a10 _ p10 p11)))))))))
