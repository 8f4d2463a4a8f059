-- An end that has no connection is as a lost connection leaves it.
use Rattle.std.proofs.Common.{◌≡◌, ℕ, List, [], ◌∷◌, ap, ◌∙◌, arith, take, Bool, true, false, cond, Result, Ok, Err}
use Rattle.std.proofs.lemmas.List.{take-take}
use Rattle.ln_msgs.specs.declared.messages.message.Message.{Message}
use Rattle.ln_refusals.specs.declared.refusal.Refusal.{Refusal}
use Rattle.ln_keys.specs.declared.role.Role.TheVariants.{Funder, Fundee}
use Rattle.ln_keys.specs.Signer.{Signer}
use Rattle.ln_log.specs.Log.{Log, after_drop}
use Rattle.ln_dance.specs.Dance.{with_log}
use Rattle.ln_channel.specs.declared.machine.ConnectionState.{ConnectionState}
use Rattle.ln_channel.specs.declared.machine.ConnectionState.TheVariants.{Down, AwaitingReestablish, Connected}
use Rattle.ln_channel.specs.declared.opening.Opened.{Opened}
use Rattle.ln_channel.specs.End.{End, Turn, with_dance, end_dropped}
use Rattle.ln_channel.specs.State.{is_down}
use Rattle.ln_channel_laws.specs.Ends.{Ends, Step, By, Connect, Act, Deliver, Give, Note, Lose, Cut, message_at}
use Rattle.ln_channel_laws.specs.Ends.{Save, command_at}
use Rattle.ln_channel_laws.specs.Ends.{ledger_behind}
use Rattle.ln_channel.specs.Base.{next_base, entering, without_removed}
use Rattle.ln_channel.specs.Commands.{ledgered}
use Rattle.ln_channel_laws.specs.Ends as pair

-- what is lost twice is lost once
lost_twice : (l : Log) → after_drop (after_drop l) ≡ after_drop l
lost_twice l =
    ap (λ us. record l { own = us; received = take l.current.peer (take l.current.peer l.received) })
    (take-take l.signed.own l.signed.own l.own (omega arith))
    ∙ ap (λ us. record l { own = take l.signed.own l.own; received = us })
    (take-take l.current.peer l.current.peer l.received (omega arith))

dropped_twice : (e : End) → end_dropped (end_dropped e) ≡ end_dropped e
dropped_twice e = ap (λ l. with_dance (with_log l e.dance) e) (lost_twice e.dance.log)

abbrev pub IsDropped : ConnectionState → End → Type 0
IsDropped l e = is_down l ≡ true → end_dropped e ≡ e

pub record AreDropped (q : Ends) : Type 0 where
  pub x : IsDropped q.x_line q.x
  pub y : IsDropped q.y_line q.y

turned_so : (q : Ends) → AreDropped q → AreDropped (pair.turned q)
turned_so q h = record { x = h.y; y = h.x }

-- ---- over the steps of a pair

answered_so : (r : Result Turn Refusal) (q : Ends) → AreDropped q → AreDropped (pair.answers r q)
answered_so (Ok t) q h = record { x = λ e. absurd (cc); y = h.y }
answered_so (Err r) q h = h

delivered_so : (keys : Signer) (ms : List Message) (q : Ends) → AreDropped q → AreDropped (pair.delivers keys ms q)
delivered_so keys [] q h = h
delivered_so keys (m ∷ ms) q h =
    answered_so (message_at keys q.x_line m q.x) (record q { to_x = ms }) (record { x = h.x; y = h.y })

lost_so : (b : Bool) (q : Ends) → AreDropped q
    → AreDropped (cond b q (record q { x_line = Down; x = end_dropped q.x; to_x = [] }))
lost_so true q h = h
lost_so false q h = record { x = λ e. dropped_twice q.x; y = h.y }

cut_so : (b : Bool) (n : ℕ) (q : Ends) → AreDropped q
    → AreDropped (cond b (record q { to_y = pair.still_come n q.y_line q.to_y }) q)
cut_so true n q h = record { x = h.x; y = h.y }
cut_so false n q h = h

acted_so : (keys : Signer) (a : Act) (q : Ends) → AreDropped q → AreDropped (pair.acts keys a q)
acted_so keys Deliver q h = delivered_so keys q.to_x q h
acted_so keys (Give c) q h = answered_so (command_at keys q.x_line c q.x) q h
acted_so keys (Note c) q h = record {
  x = λ down. ap (λ (e : End). record e { ledger = ledger_behind (ledgered c q.x) q.x.ledger }) (h.x down);
  y = h.y;
}
acted_so keys Lose q h = lost_so (is_down q.x_line) q h
acted_so keys (Cut n) q h = cut_so (is_down q.x_line) n q h
acted_so keys Save q h = record {
  x = λ down. ap (λ (e : End). record e {
    dance = with_log (record e.dance.log { first = next_base q.x }) e.dance;
    ledger = without_removed (entering q.x) q.x.ledger;
  }) (h.x down);
  y = h.y;
}

module _ (a b : Signer) where
  connected_so : (lx ly : ConnectionState) (q : Ends) → AreDropped q → AreDropped (pair.connects a b lx ly q)
  connected_so Down Down q h = record { x = λ e. absurd (cc); y = λ e. absurd (cc) }
  connected_so Down AwaitingReestablish q h = h
  connected_so Down Connected q h = h
  connected_so AwaitingReestablish ly q h = h
  connected_so Connected ly q h = h

  happened_so : (s : Step) (q : Ends) → AreDropped q → AreDropped (pair.happens a b s q)
  happened_so (By Funder act) q h = acted_so a act q h
  happened_so (By Fundee act) q h =
      turned_so (pair.acts b act (pair.turned q)) (acted_so b act (pair.turned q) (turned_so q h))
  happened_so Connect q h = connected_so q.x_line q.y_line q h

  pub ran_so : (ss : List Step) (q : Ends) → AreDropped q → AreDropped (pair.run a b ss q)
  ran_so [] q h = h
  ran_so (s ∷ ss) q h = ran_so ss (pair.happens a b s q) (happened_so s q h)

  pub are_dropped : (ss : List Step) (funder fundee : Opened)
      → AreDropped (pair.run a b ss (pair.opened funder fundee))
  are_dropped ss funder fundee =
      ran_so ss (pair.opened funder fundee) (record { x = λ e. absurd (cc); y = λ e. absurd (cc) })
