-- Each step keeps a history in order, and so does every run of steps.
use Rattle.std.proofs.Common.{◌≡◌, ◌<◌, ◌≤◌, ℕ, suc, List, [], ◌∷◌, ◌++◌, length, drop, subst, sym, ap, refl, ◌∙◌}
use Rattle.std.proofs.Common.{append_assoc, append-nil, length-append, arith}
use Rattle.ln_relay.specs.Merge.{IsMerge}
use Rattle.ln_relay.specs.History.{Seat, First, Second, Receiver, History, IsInOrder, own, Step, FirstPuts}
use Rattle.ln_relay.specs.History.{SecondPuts, Takes, RefusedAsFull, RefusedAsEmpty, CanHappen, after, adds, nothing}
use Rattle.ln_relay.specs.History.{CanRun, run, all_added}
use Rattle.ln_relay.proofs.Merges.{more_first, more_second}

-- an item that leaves the queue at its front
leaves : {A : Type 0} (x : A) (xs ys taken queued rest : List A) → queued ≡ x ∷ rest → IsMerge xs ys (taken ++ queued)
    → IsMerge xs ys ((taken ++ x ∷ []) ++ rest)
leaves x xs ys taken queued rest e m =
    subst (λ l. IsMerge xs ys l) (ap (λ q. taken ++ q) e ∙ sym (append_assoc taken (x ∷ []) rest)) m

module _ {T : Type 0} where
  pub keeps_order : (room : ℕ) (step : Step T) (h : History T) → CanHappen room step h → IsInOrder h
      → IsInOrder (after step h)
  keeps_order room (FirstPuts x) h can m =
      subst (λ l. IsMerge (h.first ++ x ∷ []) h.second l) (append_assoc h.taken h.queued (x ∷ []))
      (more_first x h.first h.second (h.taken ++ h.queued) m)
  keeps_order room (SecondPuts x) h can m =
      subst (λ l. IsMerge h.first (h.second ++ x ∷ []) l) (append_assoc h.taken h.queued (x ∷ []))
      (more_second x h.first h.second (h.taken ++ h.queued) m)
  keeps_order room (Takes x) h can m = leaves x h.first h.second h.taken h.queued (drop 1 h.queued) can m
  keeps_order room RefusedAsFull h can m = m
  keeps_order room RefusedAsEmpty h can m = m

  one_more : (q : List T) (x : T) (room : ℕ) → length q < room → length (q ++ x ∷ []) ≤ room
  one_more q x room lt = let e = length-append q (x ∷ []) in omega arith

  pub keeps_room : (room : ℕ) (step : Step T) (h : History T) → CanHappen room step h → length h.queued ≤ room
      → length (after step h).queued ≤ room
  keeps_room room (FirstPuts x) h can le = one_more h.queued x room can
  keeps_room room (SecondPuts x) h can le = one_more h.queued x room can
  keeps_room room (Takes x) h can le =
      let e : length h.queued ≡ suc (length (drop 1 h.queued)) = ap length can in omega arith
  keeps_room room RefusedAsFull h can le = le
  keeps_room room RefusedAsEmpty h can le = le

  pub adds_own : (seat : Seat) (step : Step T) (h : History T) → own seat (after step h) ≡ own seat h ++ adds seat step
  adds_own First (FirstPuts x) h = refl
  adds_own First (SecondPuts x) h = sym (append-nil h.first)
  adds_own First (Takes x) h = sym (append-nil h.first)
  adds_own First RefusedAsFull h = sym (append-nil h.first)
  adds_own First RefusedAsEmpty h = sym (append-nil h.first)
  adds_own Second (FirstPuts x) h = sym (append-nil h.second)
  adds_own Second (SecondPuts x) h = refl
  adds_own Second (Takes x) h = sym (append-nil h.second)
  adds_own Second RefusedAsFull h = sym (append-nil h.second)
  adds_own Second RefusedAsEmpty h = sym (append-nil h.second)
  adds_own Receiver (FirstPuts x) h = sym (append-nil h.taken)
  adds_own Receiver (SecondPuts x) h = sym (append-nil h.taken)
  adds_own Receiver (Takes x) h = refl
  adds_own Receiver RefusedAsFull h = sym (append-nil h.taken)
  adds_own Receiver RefusedAsEmpty h = sym (append-nil h.taken)

  pub runs_in_order : (room : ℕ) (steps : List (Step T)) (h : History T) → CanRun room steps h → IsInOrder h
      → IsInOrder (run steps h)
  runs_in_order room [] h can m = m
  runs_in_order room (step ∷ steps) h can m =
      runs_in_order room steps (after step h) can.1 (keeps_order room step h can.0 m)

  pub runs_within : (room : ℕ) (steps : List (Step T)) (h : History T) → CanRun room steps h → length h.queued ≤ room
      → length (run steps h).queued ≤ room
  runs_within room [] h can le = le
  runs_within room (step ∷ steps) h can le =
      runs_within room steps (after step h) can.1 (keeps_room room step h can.0 le)

  pub runs_own : (seat : Seat) (steps : List (Step T)) (h : History T)
      → own seat (run steps h) ≡ own seat h ++ all_added seat steps
  runs_own seat [] h = sym (append-nil (own seat h))
  runs_own seat (step ∷ steps) h =
      runs_own seat steps (after step h) ∙ ap (λ l. l ++ all_added seat steps) (adds_own seat step h)
      ∙ append_assoc (own seat h) (adds seat step) (all_added seat steps)

  pub starts_empty : (seat : Seat) → own {T = T} seat nothing ≡ []
  starts_empty First = refl
  starts_empty Second = refl
  starts_empty Receiver = refl
