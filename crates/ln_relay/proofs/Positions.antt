-- What a step does to the view of a seat, and what a refused one tells it.
use Rattle.std.proofs.Common.{◌≡◌, ℕ, Bool, true, false, true≢false, List, [], Option, Some, None, sym, refl, ap, ◌∙◌}
use Rattle.std.proofs.Common.{subst}
use Rattle.crossbeam_queue.specs.Fifo.{Pushes, Pops, Forks, Merges}
use Rattle.ln_relay.specs.declared.rule.Hand.{Hand}
use Rattle.ln_relay.specs.History.{Seat, First, Second, Receiver}
use Rattle.ln_relay.specs.Rule.{hand, Relayed, of_first, of_second, of_receiver, with_put, with_taken, both, spent}
use Rattle.ln_relay.specs.Rule.{without_second, only_second, without_taken, only_taken, is_sender, is_one_sender}
use Rattle.ln_relay.specs.Rule.{is_receiver, is_one_receiver, put_in, taken_in, seat_in}
use Rattle.ln_relay.proofs.Steps.{first_puts, second_puts, takes, second_leaves, receiver_leaves, second_returns}
use Rattle.ln_relay.proofs.Steps.{receiver_returns}

abbrev is_first : Seat → Bool
is_first First = true
is_first Second = false
is_first Receiver = false

second_is_not_first : Second ≡ First → ⊥
second_is_not_first e = true≢false (sym (ap is_first e))

first_is_not_second : First ≡ Second → ⊥
first_is_not_second e = true≢false (ap is_first e)

module _ {T : Type 0} where
  put_by : (n port : ℕ) (a b c : Option (List T)) (x : T) → is_one_sender a b c ≡ true
      → Pushes Relayed n port (hand a b c) x (λ w. w ≡ with_put (hand a b c) x)
  put_by n port (Some a) (Some b) c x e = absurd (true≢false (sym e))
  put_by n port (Some a) None (Some c) x e = absurd (true≢false (sym e))
  put_by n port (Some a) None None x e = first_puts n port a x
  put_by n port None (Some b) (Some c) x e = absurd (true≢false (sym e))
  put_by n port None (Some b) None x e = second_puts n port b x
  put_by n port None None c x e = absurd (true≢false (sym e))

  pub sender_puts : (n port : ℕ) (v : Hand T) (x : T) → is_sender v ≡ true
      → Pushes Relayed n port v x (λ w. w ≡ with_put v x)
  sender_puts n port v x e = put_by n port v.first v.second v.taken x e

  take_by : (port : ℕ) (a b c : Option (List T)) → is_one_receiver a b c ≡ true
      → Pops Relayed port (hand a b c) (λ x w. w ≡ with_taken (hand a b c) x)
  take_by port (Some a) b c e = absurd (true≢false (sym e))
  take_by port None (Some b) c e = absurd (true≢false (sym e))
  take_by port None None None e = absurd (true≢false (sym e))
  take_by port None None (Some c) e = takes port c

  pub receiver_takes : (port : ℕ) (v : Hand T) → is_receiver v ≡ true
      → Pops Relayed port v (λ x w. w ≡ with_taken v x)
  receiver_takes port v e = take_by port v.first v.second v.taken e

  first_parts : (a b c : Option (List T)) → is_one_sender a b c ≡ true → seat_in (hand a b c) ≡ First
      → hand a b c ≡ of_first (put_in (hand a b c))
  first_parts (Some a) (Some b) c e n = absurd (true≢false (sym e))
  first_parts (Some a) None (Some c) e n = absurd (true≢false (sym e))
  first_parts (Some a) None None e n = refl
  first_parts None b c e n = absurd (second_is_not_first n)

  is_of_first : (v : Hand T) → is_sender v ≡ true → seat_in v ≡ First → v ≡ of_first (put_in v)
  is_of_first v e n = first_parts v.first v.second v.taken e n

  second_parts : (a b c : Option (List T)) → is_one_sender a b c ≡ true → seat_in (hand a b c) ≡ Second
      → hand a b c ≡ of_second (put_in (hand a b c))
  second_parts (Some a) b c e n = absurd (first_is_not_second n)
  second_parts None (Some b) (Some c) e n = absurd (true≢false (sym e))
  second_parts None (Some b) None e n = refl
  second_parts None None c e n = absurd (true≢false (sym e))

  is_of_second : (v : Hand T) → is_sender v ≡ true → seat_in v ≡ Second → v ≡ of_second (put_in v)
  is_of_second v e n = second_parts v.first v.second v.taken e n

  receiver_parts : (a b c : Option (List T)) → is_one_receiver a b c ≡ true
      → hand a b c ≡ of_receiver (taken_in (hand a b c))
  receiver_parts (Some a) b c e = absurd (true≢false (sym e))
  receiver_parts None (Some b) c e = absurd (true≢false (sym e))
  receiver_parts None None None e = absurd (true≢false (sym e))
  receiver_parts None None (Some c) e = refl

  is_of_receiver : (v : Hand T) → is_receiver v ≡ true → v ≡ of_receiver (taken_in v)
  is_of_receiver v e = receiver_parts v.first v.second v.taken e

  pub second_out : (port : ℕ) (v : Hand T) → v ≡ hand (Some []) (Some []) (Some [])
      → Forks Relayed port v (without_second v) (only_second v)
  second_out port v e =
      subst (λ u. Forks Relayed port u (without_second u) (only_second u)) (sym e) (second_leaves port [] [] [])

  pub receiver_out : (port : ℕ) (v : Hand T) → v ≡ hand (Some []) None (Some [])
      → Forks Relayed port v (without_taken v) (only_taken v)
  receiver_out port v e =
      subst (λ u. Forks Relayed port u (without_taken u) (only_taken u)) (sym e) (receiver_leaves port [] [])

  second_comes : (port : ℕ) (v : Hand T) (other : ℕ) (w : Hand T) (a b : List T) → v ≡ of_first a → w ≡ of_second b
      → Merges Relayed port v other w (both v w) spent
  second_comes port v other w a b e f =
      subst (λ (y : Hand T × Hand T). Merges Relayed port y.0 other y.1 (both y.0 y.1) spent) (λ i. (sym e i, sym f i))
      (second_returns port a other b)

  receiver_comes : (port : ℕ) (v : Hand T) (other : ℕ) (w : Hand T) (a b c : List T) → v ≡ hand (Some a) (Some b) None
      → w ≡ of_receiver c → Merges Relayed port v other w (both v w) spent
  receiver_comes port v other w a b c e f =
      subst (λ (y : Hand T × Hand T). Merges Relayed port y.0 other y.1 (both y.0 y.1) spent) (λ i. (sym e i, sym f i))
      (receiver_returns port a b other c)

  -- the first sender's pass takes in the second's
  pub second_in : (port : ℕ) (v : Hand T) (other : ℕ) (w : Hand T) → is_sender v ≡ true → seat_in v ≡ First
      → is_sender w ≡ true → seat_in w ≡ Second → Merges Relayed port v other w (both v w) spent
  second_in port v other w sends first sends' second =
      second_comes port v other w (put_in v) (put_in w) (is_of_first v sends first) (is_of_second w sends' second)

  -- and then, as u, the receiver's
  pub receiver_in : (port : ℕ) (u : Hand T) (other : ℕ) (r v w : Hand T) → is_sender v ≡ true → seat_in v ≡ First
      → is_sender w ≡ true → seat_in w ≡ Second → u ≡ both v w → is_receiver r ≡ true
      → Merges Relayed port u other r (both u r) spent
  receiver_in port u other r v w sends first sends' second e receives =
      receiver_comes port u other r (put_in v) (put_in w) (taken_in r)
      (e ∙ (λ i. both (is_of_first v sends first i) (is_of_second w sends' second i))) (is_of_receiver r receives)
