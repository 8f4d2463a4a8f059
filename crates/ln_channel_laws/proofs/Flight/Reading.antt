-- Messages that are read one after the other.
use Rattle.ln_log.specs.declared.opening.Opening.{Opening}
use Rattle.ln_keys.specs.declared.role.Role.{Role}
use Rattle.ln_log.specs.Limits.{update_fault}
use Rattle.ln_log.proofs.More.{fault_more}
use Rattle.std.proofs.Common.{None, ◌≡◌, ℕ, ◌+◌, ◌≤◌, List, [], ◌∷◌, ◌++◌, take, refl, sym, ap, ◌∙◌, subst, arith}
use Rattle.std.proofs.Common.{append_assoc, append-nil, false, zero, suc}
use Rattle.ln_log.specs.declared.update.Update.{Update as Change}
use Rattle.ln_channel_laws.proofs.Flight.Sides.{Ready, Shutdown, Close, Notice, Update, Sign, Revoke, Again, updates_of}
use Rattle.ln_channel_laws.proofs.Flight.Walk.{FitsBehind, AllFit, Sender, IsBehind, Reads, Anywhere}

-- what is within the limits stays so where more of the peer's updates stand with it
pub fits-more : (o : Opening) (r : Role) (own p q held : List Change) (u : Change) → FitsBehind o r own p held u
    → FitsBehind o r own (p ++ q) held u
fits-more o r own p q held u h = record {
  room = h.room;
  next = h.next;
  sent = h.sent;
  within = subst (λ k. update_fault o r own (p ++ q) k u ≡ None) (append-nil held)
      (fault_more o r own p q held [] u h.within);
}

-- or where its side holds more of them
pub fits-held : (o : Opening) (r : Role) (own p h k : List Change) (u : Change) → FitsBehind o r own p h u
    → FitsBehind o r own p (h ++ k) u
fits-held o r own p h k u f = record {
  room = f.room;
  next = f.next;
  sent = f.sent;
  within = subst (λ q. update_fault o r own q (h ++ k) u ≡ None) (append-nil p)
      (fault_more o r own p [] h k u f.within);
}

-- somewhere else, that follows
pub reads-to : (w : Sender) (own held : List Change) (all : ℕ) (P Q : List Change → ℕ → ℕ → ℕ
    → Type 0) (got : List Change) (a c r : ℕ) (ms : List Notice)
    → ((g : List Change) (b d s : ℕ) → P g b d s → Q g b d s) → Reads w own held all P got a c r ms
    → Reads w own held all Q got a c r ms
reads-to w own held all P Q got a c r [] f h = f got a c r h
reads-to w own held all P Q got a c r (Update u ∷ ms) f h =
    (h.0, reads-to w own held all P Q (got ++ u ∷ []) a c r ms f h.1)
reads-to w own held all P Q got a c r (Sign k ∷ ms) f h = (h.0, reads-to w own held all P Q got a (c + 1) r ms f h.1)
reads-to w own held all P Q got a c r (Revoke k ∷ ms) f h =
    (h.0, reads-to w own held all P Q got all c (r + 1) ms f h.1)
reads-to w own held all P Q got a c r (Ready z ∷ ms) f h = reads-to w own held all P Q got a c r ms f h
reads-to w own held all P Q got a c r (Shutdown z ∷ ms) f h = reads-to w own held all P Q got a c r ms f h
reads-to w own held all P Q got a c r (Close z ∷ ms) f h = reads-to w own held all P Q got a c r ms f h
reads-to w own held all P Q got a c r (Again n ∷ ms) f h = absurd h

-- more messages after
pub reads-push : (w : Sender) (own held : List Change) (all : ℕ) (P Q : List Change → ℕ → ℕ → ℕ
    → Type 0) (got : List Change) (a c r : ℕ) (ms ns : List Notice)
    → ((g : List Change) (b d s : ℕ) → P g b d s → Reads w own held all Q g b d s ns)
    → Reads w own held all P got a c r ms → Reads w own held all Q got a c r (ms ++ ns)
reads-push w own held all P Q got a c r [] ns f h = f got a c r h
reads-push w own held all P Q got a c r (Update u ∷ ms) ns f h =
    (h.0, reads-push w own held all P Q (got ++ u ∷ []) a c r ms ns f h.1)
reads-push w own held all P Q got a c r (Sign k ∷ ms) ns f h =
    (h.0, reads-push w own held all P Q got a (c + 1) r ms ns f h.1)
reads-push w own held all P Q got a c r (Revoke k ∷ ms) ns f h =
    (h.0, reads-push w own held all P Q got all c (r + 1) ms ns f h.1)
reads-push w own held all P Q got a c r (Ready z ∷ ms) ns f h = reads-push w own held all P Q got a c r ms ns f h
reads-push w own held all P Q got a c r (Shutdown z ∷ ms) ns f h = reads-push w own held all P Q got a c r ms ns f h
reads-push w own held all P Q got a c r (Close z ∷ ms) ns f h = reads-push w own held all P Q got a c r ms ns f h
reads-push w own held all P Q got a c r (Again n ∷ ms) ns f h = absurd h

pub take-begins : (n : ℕ) (us vs : List Change) → (rest : List Change) × (take n us ++ rest ≡ take n (us ++ vs))
take-begins zero us vs = ([], refl)
take-begins (suc n) [] vs = (take (suc n) vs, refl)
take-begins (suc n) (u ∷ us) vs = let b = take-begins n us vs in (b.0, ap (λ ws. u ∷ ws) b.1)

-- the reader proposes
pub reads-proposed : (w : Sender) (own more held : List Change) (all : ℕ) (Q : List Change → ℕ → ℕ → ℕ
    → Type 0) (got : List Change) (a c r : ℕ) (ms : List Notice) → Reads w own held all Q got a c r ms
    → Reads w (own ++ more) held all Q got a c r ms
reads-proposed w own more held all Q got a c r [] h = h
reads-proposed w own more held all Q got a c r (Update u ∷ ms) h = (
  let b = take-begins a own more in subst (λ p. FitsBehind w.opening w.role got p held u) b.1
      (fits-more w.opening w.role got (take a own) b.0 held u h.0),
  reads-proposed w own more held all Q (got ++ u ∷ []) a c r ms h.1,
)
reads-proposed w own more held all Q got a c r (Sign k ∷ ms) h =
    (h.0, reads-proposed w own more held all Q got a (c + 1) r ms h.1)
reads-proposed w own more held all Q got a c r (Revoke k ∷ ms) h =
    (h.0, reads-proposed w own more held all Q got all c (r + 1) ms h.1)
reads-proposed w own more held all Q got a c r (Ready z ∷ ms) h = reads-proposed w own more held all Q got a c r ms h
reads-proposed w own more held all Q got a c r (Shutdown z ∷ ms) h = reads-proposed w own more held all Q got a c r ms h
reads-proposed w own more held all Q got a c r (Close z ∷ ms) h = reads-proposed w own more held all Q got a c r ms h
reads-proposed w own more held all Q got a c r (Again n ∷ ms) h = absurd h

-- the reader signs: it has taken all revocations
pub reads-signed : (w : Sender) (own held : List Change) (all more : ℕ) (Q : List Change → ℕ → ℕ → ℕ
    → Type 0) (got : List Change) (a c r : ℕ) (ms : List Notice) → w.number ≤ r → Reads w own held all Q got a c r ms
    → Reads w own held more Q got a c r ms
reads-signed w own held all more Q got a c r [] le h = h
reads-signed w own held all more Q got a c r (Update u ∷ ms) le h =
    (h.0, reads-signed w own held all more Q (got ++ u ∷ []) a c r ms le h.1)
reads-signed w own held all more Q got a c r (Sign k ∷ ms) le h =
    (h.0, reads-signed w own held all more Q got a (c + 1) r ms le h.1)
reads-signed w own held all more Q got a c r (Revoke k ∷ ms) le h = absurd (omega (arith, le, h.0.next))
reads-signed w own held all more Q got a c r (Ready z ∷ ms) le h = reads-signed w own held all more Q got a c r ms le h
reads-signed w own held all more Q got a c r (Shutdown z ∷ ms) le h =
    reads-signed w own held all more Q got a c r ms le h
reads-signed w own held all more Q got a c r (Close z ∷ ms) le h =
    reads-signed w own held all more Q got a c r ms le h
reads-signed w own held all more Q got a c r (Again n ∷ ms) le h = absurd h

fits-same : (w v : Sender) (got seen held : List Change) (u : Change) → v.opening ≡ w.opening → v.role ≡ w.role
    → FitsBehind w.opening w.role got seen held u → FitsBehind v.opening v.role got seen held u
fits-same w v got seen held u eo er h = subst (λ o. FitsBehind o v.role got seen held u) (sym eo)
    (subst (λ r. FitsBehind w.opening r got seen held u) (sym er) h)

-- the sender signs: its last signature was accepted
pub reads-signing : (w v : Sender) (own held : List Change) (all : ℕ) (Q : List Change → ℕ → ℕ → ℕ
    → Type 0) (got : List Change) (a c r : ℕ) (ms : List Notice) → v.opening ≡ w.opening → v.role ≡ w.role
    → w.signatures ≤ c → v.number ≡ w.number → v.revocation ≡ w.revocation → v.late ≡ false
    → Reads w own held all Q got a c r ms → Reads v own held all Q got a c r ms
reads-signing w v own held all Q got a c r [] eo er le e m f h = h
reads-signing w v own held all Q got a c r (Update u ∷ ms) eo er le e m f h = (
  fits-same w v got (take a own) held u eo er h.0,
  reads-signing w v own held all Q (got ++ u ∷ []) a c r ms eo er le e m f h.1,
)
reads-signing w v own held all Q got a c r (Sign k ∷ ms) eo er le e m f h = absurd (omega (arith, le, h.0.next))
reads-signing w v own held all Q got a c r (Revoke k ∷ ms) eo er le e m f h = (
  record {
    named = h.0.named ∙ sym m;
    next = h.0.next ∙ sym e;
    order = subst (λ b. IsBehind b c v.signatures) (sym f) tt;
  },
  reads-signing w v own held all Q got all c (r + 1) ms eo er le e m f h.1,
)
reads-signing w v own held all Q got a c r (Ready z ∷ ms) eo er le e m f h =
    reads-signing w v own held all Q got a c r ms eo er le e m f h
reads-signing w v own held all Q got a c r (Shutdown z ∷ ms) eo er le e m f h =
    reads-signing w v own held all Q got a c r ms eo er le e m f h
reads-signing w v own held all Q got a c r (Close z ∷ ms) eo er le e m f h =
    reads-signing w v own held all Q got a c r ms eo er le e m f h
reads-signing w v own held all Q got a c r (Again n ∷ ms) eo er le e m f h = absurd h

-- the sender learns: its last signature was accepted
pub reads-learned : (w v : Sender) (own held : List Change) (all : ℕ) (Q : List Change → ℕ → ℕ → ℕ
    → Type 0) (got : List Change) (a c r : ℕ) (ms : List Notice) → v.opening ≡ w.opening → v.role ≡ w.role
    → w.signatures ≤ c → v.number ≡ w.number → v.revocation ≡ w.revocation → v.late ≡ w.late
    → v.signatures ≡ w.signatures
    → Reads w own held all Q got a c r ms → Reads v own held all Q got a c r ms
reads-learned w v own held all Q got a c r [] eo er le e m f es h = h
reads-learned w v own held all Q got a c r (Update u ∷ ms) eo er le e m f es h = (
  fits-same w v got (take a own) held u eo er h.0,
  reads-learned w v own held all Q (got ++ u ∷ []) a c r ms eo er le e m f es h.1,
)
reads-learned w v own held all Q got a c r (Sign k ∷ ms) eo er le e m f es h = absurd (omega (arith, le, h.0.next))
reads-learned w v own held all Q got a c r (Revoke k ∷ ms) eo er le e m f es h = (
  record {
    named = h.0.named ∙ sym m;
    next = h.0.next ∙ sym e;
    order = subst (λ b. IsBehind b c v.signatures) (sym f) (subst (λ s. IsBehind w.late c s) (sym es) h.0.order);
  },
  reads-learned w v own held all Q got all c (r + 1) ms eo er le e m f es h.1,
)
reads-learned w v own held all Q got a c r (Ready z ∷ ms) eo er le e m f es h =
    reads-learned w v own held all Q got a c r ms eo er le e m f es h
reads-learned w v own held all Q got a c r (Shutdown z ∷ ms) eo er le e m f es h =
    reads-learned w v own held all Q got a c r ms eo er le e m f es h
reads-learned w v own held all Q got a c r (Close z ∷ ms) eo er le e m f es h =
    reads-learned w v own held all Q got a c r ms eo er le e m f es h
reads-learned w v own held all Q got a c r (Again n ∷ ms) eo er le e m f es h = absurd h

-- the sender accepts: all its revocations were taken
pub reads-accepting : (w v : Sender) (own held : List Change) (all : ℕ) (Q : List Change → ℕ → ℕ → ℕ
    → Type 0) (got : List Change) (a c r : ℕ) (ms : List Notice) → v.opening ≡ w.opening
    → v.role ≡ w.role → w.number ≤ r
    → v.covered ≡ w.covered → v.seen ≡ w.seen → v.signatures ≡ w.signatures → v.signature ≡ w.signature
    → Reads w own held all Q got a c r ms → Reads v own held all Q got a c r ms
reads-accepting w v own held all Q got a c r [] eo er le ec es en em h = h
reads-accepting w v own held all Q got a c r (Update u ∷ ms) eo er le ec es en em h = (
  fits-same w v got (take a own) held u eo er h.0,
  reads-accepting w v own held all Q (got ++ u ∷ []) a c r ms eo er le ec es en em h.1,
)
reads-accepting w v own held all Q got a c r (Sign k ∷ ms) eo er le ec es en em h = (
  record {
    named = h.0.named ∙ sym em;
    next = h.0.next ∙ sym en;
    covers = h.0.covers ∙ sym ec;
    knows = h.0.knows
        ∙ sym es;
  },
  reads-accepting w v own held all Q got a (c + 1) r ms eo er le ec es en em h.1,
)
reads-accepting w v own held all Q got a c r (Revoke k ∷ ms) eo er le ec es en em h =
    absurd (omega (arith, le, h.0.next))
reads-accepting w v own held all Q got a c r (Ready z ∷ ms) eo er le ec es en em h =
    reads-accepting w v own held all Q got a c r ms eo er le ec es en em h
reads-accepting w v own held all Q got a c r (Shutdown z ∷ ms) eo er le ec es en em h =
    reads-accepting w v own held all Q got a c r ms eo er le ec es en em h
reads-accepting w v own held all Q got a c r (Close z ∷ ms) eo er le ec es en em h =
    reads-accepting w v own held all Q got a c r ms eo er le ec es en em h
reads-accepting w v own held all Q got a c r (Again n ∷ ms) eo er le ec es en em h = absurd h

-- what is told of the sender is the same
pub reads-same : (w v : Sender) (own held : List Change) (all : ℕ) (Q : List Change → ℕ → ℕ → ℕ
    → Type 0) (got : List Change) (a c r : ℕ) (ms : List Notice) → w ≡ v → Reads w own held all Q got a c r ms
    → Reads v own held all Q got a c r ms
reads-same w v own held all Q got a c r ms e h = subst (λ s. Reads s own held all Q got a c r ms) e h

-- updates that are sent together
pub reads-updates : (w : Sender) (own held : List Change) (all : ℕ) (Q : List Change → ℕ → ℕ → ℕ
    → Type 0) (got : List Change) (a c r : ℕ) (us : List Change) (ms : List Notice)
    → AllFit w.opening w.role got (take a own) held us → Reads w own held all Q (got ++ us) a c r ms
    → Reads w own held all Q got a c r (updates_of us ++ ms)
reads-updates w own held all Q got a c r [] ms f h = subst (λ g. Reads w own held all Q g a c r ms) (append-nil got) h
reads-updates w own held all Q got a c r (u ∷ us) ms f h = (
  f.0,
  reads-updates w own held all Q (got ++ u ∷ []) a c r us ms f.1
      (subst (λ g. Reads w own held all Q g a c r ms) (sym (append_assoc got (u ∷ []) us)) h),
)

-- messages that say nothing of updates and commitments
abbrev pub IsQuiet : List Notice → Type 0
IsQuiet [] = Unit {0}
IsQuiet (Update u ∷ ms) = ⊥
IsQuiet (Sign k ∷ ms) = ⊥
IsQuiet (Revoke k ∷ ms) = ⊥
IsQuiet (Ready z ∷ ms) = IsQuiet ms
IsQuiet (Shutdown z ∷ ms) = IsQuiet ms
IsQuiet (Close z ∷ ms) = IsQuiet ms
IsQuiet (Again n ∷ ms) = ⊥

pub reads-quiet : (w : Sender) (own held : List Change) (all : ℕ) (Q : List Change → ℕ → ℕ → ℕ
    → Type 0) (got : List Change) (a c r : ℕ) (ms ns : List Notice) → IsQuiet ms → Reads w own held all Q got a c r ns
    → Reads w own held all Q got a c r (ms ++ ns)
reads-quiet w own held all Q got a c r [] ns q h = h
reads-quiet w own held all Q got a c r (Update u ∷ ms) ns q h = absurd q
reads-quiet w own held all Q got a c r (Sign k ∷ ms) ns q h = absurd q
reads-quiet w own held all Q got a c r (Revoke k ∷ ms) ns q h = absurd q
reads-quiet w own held all Q got a c r (Ready z ∷ ms) ns q h = reads-quiet w own held all Q got a c r ms ns q h
reads-quiet w own held all Q got a c r (Shutdown z ∷ ms) ns q h = reads-quiet w own held all Q got a c r ms ns q h
reads-quiet w own held all Q got a c r (Close z ∷ ms) ns q h = reads-quiet w own held all Q got a c r ms ns q h
reads-quiet w own held all Q got a c r (Again n ∷ ms) ns q h = absurd q

-- the reader holds more of its own
pub reads-held : (w : Sender) (own h k : List Change) (all : ℕ) (Q : List Change → ℕ → ℕ → ℕ
    → Type 0) (got : List Change) (a c r : ℕ) (ms : List Notice) → Reads w own h all Q got a c r ms
    → Reads w own (h ++ k) all Q got a c r ms
reads-held w own h k all Q got a c r [] f = f
reads-held w own h k all Q got a c r (Update u ∷ ms) f =
    (fits-held w.opening w.role got (take a own) h k u f.0, reads-held w own h k all Q (got ++ u ∷ []) a c r ms f.1)
reads-held w own h k all Q got a c r (Sign n ∷ ms) f = (f.0, reads-held w own h k all Q got a (c + 1) r ms f.1)
reads-held w own h k all Q got a c r (Revoke n ∷ ms) f = (f.0, reads-held w own h k all Q got all c (r + 1) ms f.1)
reads-held w own h k all Q got a c r (Ready z ∷ ms) f = reads-held w own h k all Q got a c r ms f
reads-held w own h k all Q got a c r (Shutdown z ∷ ms) f = reads-held w own h k all Q got a c r ms f
reads-held w own h k all Q got a c r (Close z ∷ ms) f = reads-held w own h k all Q got a c r ms f
reads-held w own h k all Q got a c r (Again n ∷ ms) f = absurd f

-- what is lost is a tail
pub reads-front : (w : Sender) (own held : List Change) (all : ℕ) (P : List Change → ℕ → ℕ → ℕ
    → Type 0) (got : List Change) (a c r : ℕ) (ms ns : List Notice) → Reads w own held all P got a c r (ms ++ ns)
    → Reads w own held all Anywhere got a c r ms
reads-front w own held all P got a c r [] ns f = tt
reads-front w own held all P got a c r (Update u ∷ ms) ns f =
    (f.0, reads-front w own held all P (got ++ u ∷ []) a c r ms ns f.1)
reads-front w own held all P got a c r (Sign n ∷ ms) ns f =
    (f.0, reads-front w own held all P got a (c + 1) r ms ns f.1)
reads-front w own held all P got a c r (Revoke n ∷ ms) ns f =
    (f.0, reads-front w own held all P got all c (r + 1) ms ns f.1)
reads-front w own held all P got a c r (Ready z ∷ ms) ns f = reads-front w own held all P got a c r ms ns f
reads-front w own held all P got a c r (Shutdown z ∷ ms) ns f = reads-front w own held all P got a c r ms ns f
reads-front w own held all P got a c r (Close z ∷ ms) ns f = reads-front w own held all P got a c r ms ns f
reads-front w own held all P got a c r (Again n ∷ ms) ns f = absurd f
