-- Each step of a relay keeps its rule.
use Rattle.std.proofs.Common.{◌≡◌, ◌<◌, ℕ, List, [], ◌∷◌, ◌++◌, Some, None, length, drop, set, sym, refl, ap, ◌∙◌}
use Rattle.std.proofs.Common.{subst, ⊎_elim}
use mathlib.Core.Option.{some}
use lib.ListN.{get_elem?}
use Rattle.crossbeam_queue.specs.Fifo.{Pushes, Pops, Forks, Merges, Learns}
use Rattle.crossbeam_queue.proofs.Lists.{at_set}
use Rattle.ln_relay.specs.declared.rule.Hand.{Hand}
use Rattle.ln_relay.specs.Merge.{neither}
use Rattle.ln_relay.specs.History.{History, FirstPuts, SecondPuts, Takes, after, nothing}
use Rattle.ln_relay.specs.Rule.{hand, Relayed, HasHistory, of_first, of_second, of_receiver, spent}
use Rattle.ln_relay.proofs.Histories.{keeps_order}
use Rattle.ln_relay.proofs.Owners as owners

module _ {T : Type 0} where
  pub begins : Relayed {T = T} [] (hand (Some []) (Some []) (Some []) ∷ [])
  begins = let v : Hand T = hand (Some []) (Some []) (Some []) in (
    nothing,
    refl,
    neither,
    owners.begins (λ v. v.first) v refl,
    owners.begins (λ v. v.second) v refl,
    owners.begins (λ v. v.taken) v refl,
  )

  pub first_puts : (n port : ℕ) (l : List T) (x : T)
      → Pushes Relayed n port (of_first l) x (λ w. w ≡ of_first (l ++ x ∷ []))
  first_puts n port l x queued views room r at =
      let h : History T = r.0 in
      let k : History T = after (FirstPuts x) h in
      let v : Hand T = of_first l in
      let w : Hand T = of_first (l ++ x ∷ []) in
      let mine = owners.known (λ v. v.first) h.first views r.3 port v l at refl in (
        w,
        (
          k,
          ap (λ q. q ++ x ∷ []) r.1,
          keeps_order n (FirstPuts x) h (subst (λ q. length q < n) (sym r.1) room) r.2,
          owners.changes (λ v. v.first) h.first views r.3 port v w l k.first at refl
              (ap (λ m. Some (m ++ x ∷ [])) mine.1),
          owners.same (λ v. v.second) h.second views r.4 port v w at refl,
          owners.same (λ v. v.taken) h.taken views r.5 port v w at refl,
        ),
        refl,
      )

  pub second_puts : (n port : ℕ) (l : List T) (x : T)
      → Pushes Relayed n port (of_second l) x (λ w. w ≡ of_second (l ++ x ∷ []))
  second_puts n port l x queued views room r at =
      let h : History T = r.0 in
      let k : History T = after (SecondPuts x) h in
      let v : Hand T = of_second l in
      let w : Hand T = of_second (l ++ x ∷ []) in
      let mine = owners.known (λ v. v.second) h.second views r.4 port v l at refl in (
        w,
        (
          k,
          ap (λ q. q ++ x ∷ []) r.1,
          keeps_order n (SecondPuts x) h (subst (λ q. length q < n) (sym r.1) room) r.2,
          owners.same (λ v. v.first) h.first views r.3 port v w at refl,
          owners.changes (λ v. v.second) h.second views r.4 port v w l k.second at refl
              (ap (λ m. Some (m ++ x ∷ [])) mine.1),
          owners.same (λ v. v.taken) h.taken views r.5 port v w at refl,
        ),
        refl,
      )

  pub takes : (port : ℕ) (l : List T) → Pops Relayed port (of_receiver l) (λ x w. w ≡ of_receiver (l ++ x ∷ []))
  takes port l x queued views r at =
      let h : History T = r.0 in
      let k : History T = after (Takes x) h in
      let v : Hand T = of_receiver l in
      let w : Hand T = of_receiver (l ++ x ∷ []) in
      let rest : drop 1 h.queued ≡ queued = ap (λ q. drop 1 q) r.1 in
      let mine = owners.known (λ v. v.taken) h.taken views r.5 port v l at refl in (
        w,
        (
          k,
          rest,
          keeps_order 0 (Takes x) h (r.1 ∙ ap (λ q. x ∷ q) (sym rest)) r.2,
          owners.same (λ v. v.first) h.first views r.3 port v w at refl,
          owners.same (λ v. v.second) h.second views r.4 port v w at refl,
          owners.changes (λ v. v.taken) h.taken views r.5 port v w l k.taken at refl
              (ap (λ m. Some (m ++ x ∷ [])) mine.1),
        ),
        refl,
      )

  -- the second sender's part goes to a new pass
  pub second_leaves : (port : ℕ) (a b c : List T)
      → Forks Relayed port (hand (Some a) (Some b) (Some c)) (hand (Some a) None (Some c)) (of_second b)
  second_leaves port a b c queued views r at =
      let h : History T = r.0 in
      let v : Hand T = hand (Some a) (Some b) (Some c) in
      let left : Hand T = hand (Some a) None (Some c) in
      let right : Hand T = of_second b in
      let vs : List (Hand T) = set views port left in
      let first = owners.same (λ v. v.first) h.first views r.3 port v left at refl in
      let taken = owners.same (λ v. v.taken) h.taken views r.5 port v left at refl in (
        h,
        r.1,
        r.2,
        owners.joined (λ v. v.first) h.first vs first right refl,
        owners.handed (λ v. v.second) h.second views r.4 port v left right b at refl refl refl,
        owners.joined (λ v. v.taken) h.taken vs taken right refl,
      )

  -- the receiver's part goes to a new pass
  pub receiver_leaves : (port : ℕ) (a c : List T)
      → Forks Relayed port (hand (Some a) None (Some c)) (of_first a) (of_receiver c)
  receiver_leaves port a c queued views r at =
      let h : History T = r.0 in
      let v : Hand T = hand (Some a) None (Some c) in
      let left : Hand T = of_first a in
      let right : Hand T = of_receiver c in
      let vs : List (Hand T) = set views port left in
      let first = owners.same (λ v. v.first) h.first views r.3 port v left at refl in
      let second = owners.same (λ v. v.second) h.second views r.4 port v left at refl in (
        h,
        r.1,
        r.2,
        owners.joined (λ v. v.first) h.first vs first right refl,
        owners.joined (λ v. v.second) h.second vs second right refl,
        owners.handed (λ v. v.taken) h.taken views r.5 port v left right c at refl refl refl,
      )

  -- the first sender's pass takes in the second's
  pub second_returns : (port : ℕ) (a : List T) (other : ℕ) (b : List T)
      → Merges Relayed port (of_first a) other (of_second b) (hand (Some a) (Some b) None) spent
  second_returns port a other b queued views r at apart at' =
      let h : History T = r.0 in
      let v : Hand T = of_first a in
      let u : Hand T = of_second b in
      let w : Hand T = hand (Some a) (Some b) None in
      let vs : List (Hand T) = set views port w in
      let was : get_elem? views other ≡ some u =
      ⊎_elim (λ x. absurd (apart x.0)) (λ x. x.1) (at_set views port other w u at') in
      let first = owners.same (λ v. v.first) h.first views r.3 port v w at refl in
      let taken = owners.same (λ v. v.taken) h.taken views r.5 port v w at refl in (
        h,
        r.1,
        r.2,
        owners.forgets (λ v. v.first) h.first vs first other spent refl,
        owners.fetched (λ v. v.second) h.second views r.4 port other u w spent b apart was refl refl refl,
        owners.forgets (λ v. v.taken) h.taken vs taken other spent refl,
      )

  -- and the receiver's
  pub receiver_returns : (port : ℕ) (a b : List T) (other : ℕ) (c : List T)
      → Merges Relayed port (hand (Some a) (Some b) None) other (of_receiver c) (hand (Some a) (Some b) (Some c)) spent
  receiver_returns port a b other c queued views r at apart at' =
      let h : History T = r.0 in
      let v : Hand T = hand (Some a) (Some b) None in
      let u : Hand T = of_receiver c in
      let w : Hand T = hand (Some a) (Some b) (Some c) in
      let vs : List (Hand T) = set views port w in
      let was : get_elem? views other ≡ some u =
      ⊎_elim (λ x. absurd (apart x.0)) (λ x. x.1) (at_set views port other w u at') in
      let first = owners.same (λ v. v.first) h.first views r.3 port v w at refl in
      let second = owners.same (λ v. v.second) h.second views r.4 port v w at refl in (
        h,
        r.1,
        r.2,
        owners.forgets (λ v. v.first) h.first vs first other spent refl,
        owners.forgets (λ v. v.second) h.second vs second other spent refl,
        owners.fetched (λ v. v.taken) h.taken views r.5 port other u w spent c apart was refl refl refl,
      )

  -- a look at the queue shows a history in which the lists are those that the pass knows
  pub learns : (port : ℕ) (v : Hand T) → Learns Relayed port v (HasHistory v)
  learns port v queued views r at = let h : History T = r.0 in (
    h,
    r.1,
    r.2,
    owners.agrees v.first r.3.0 h.first port (r.3.1 port v at),
    owners.agrees v.second r.4.0 h.second port (r.4.1 port v at),
    owners.agrees v.taken r.5.0 h.taken port (r.5.1 port v at),
  )
