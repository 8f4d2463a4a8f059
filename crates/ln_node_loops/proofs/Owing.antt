-- What turns owe the book.
use Rattle.std.proofs.Common.{◌≡◌, ◌++◌, ◌∷◌, [], ℕ, List, Bool, true, false, Option, Some, None, Result, Ok}
use Rattle.std.proofs.Common.{refl, sym, ap, ◌∙◌}
use Rattle.std.proofs.lemmas.List.{append_assoc}
use Rattle.std.specs.Prelude.{not, ◌&&◌}
use Rattle.ln_msgs.specs.declared.messages.message.Message.{Message}
use Rattle.ln_refusals.specs.declared.refusal.Refusal.{Refusal}
use Rattle.ln_hooks.specs.declared.event.ChannelEvent.{ChannelEvent}
use Rattle.ln_channel.specs.declared.command.Command.{Command}
use Rattle.ln_channel.specs.declared.output.Output.{Output}
use Rattle.ln_book.specs.declared.switch.saying.Saying.{Saying}
use Rattle.ln_book.specs.Saying.{took_one, answered}
use Rattle.ln_book.specs.Seen.{Seen, channel_of, next_htlc}
use Rattle.ln_node_loops.specs.declared.item.Item.{Item}
use Rattle.ln_node_loops.specs.declared.item.Item.TheVariants as item
use Rattle.ln_node_loops.specs.declared.worker.Phase.{Phase}
use Rattle.ln_node_loops.specs.Phase.{is_served, met_by}
use Rattle.ln_book.specs.Answers.{command_subject, answer_to}
use Rattle.ln_node_loops.specs.Owed.{owed, asked, kept_if, settled_at, use_word}
use Rattle.ln_node_loops.specs.Orders.{subject_in, reply_of, replies_to}
use Rattle.ln_node_loops.specs.Turns.{turn_of, says, drops, events, may_come, replies, Declines, Stand, notes, met_in}
use Rattle.ln_node_loops.specs.Noted.{meets, became, awaits_init, beside_reply}

-- the three parts, one after the other
pub in-parts : (x : Option Seen) (b : Bool) (es : List (ℕ × ChannelEvent)) (s one two end : List Saying)
    → one ≡ s ++ kept_if b x → two ≡ one ++ settled_at x es → end ≡ two ++ use_word x → end ≡ s ++ owed x b es
in-parts x b es s one two end first second third =
    third ∙ ap (λ l. l ++ use_word x) (second ∙ ap (λ l. l ++ settled_at x es) first)
    ∙ append_assoc (s ++ kept_if b x) (settled_at x es) (use_word x)
    ∙ append_assoc s (kept_if b x) (settled_at x es ++ use_word x)

-- whether what the end has kept is to be told
drops-so : {W : Type 0} (i : Item W) (h : Bool) → drops i h ≡ (drops i false && not h)
drops-so (item.Joined w) h = refl
drops-so (item.Read m) h = refl
drops-so item.Broken h = refl
drops-so (item.Order c) h = refl
drops-so item.Stop h = refl

not-passed : {W : Type 0} (p : Phase) (i : Item W) (h : Bool) → is_served p i ≡ false → drops i h ≡ false
not-passed p (item.Joined w) h e = refl
not-passed p (item.Read m) h e = refl
not-passed p item.Broken h e = cc
not-passed p (item.Order c) h e = refl
not-passed p item.Stop h e = refl

module _ {S : Type 0} (halted : S → Bool) (seen : S → Option Seen) where
  -- an item's turn
  pub item-owes : {W : Type 0} (s s' : S) (p : Phase) (served : Bool) (i : Item W) (os : List Output)
      (answer written : Result (Unit {0}) Refusal) → (served ≡ false → is_served p i ≡ false)
      → (served ≡ false → os ≡ [])
      → owed (seen s') (drops i false && not (halted s')) (events os)
      ≡ says halted seen s (turn_of served i os answer written) s'
  item-owes s s' p true (item.Joined w) os answer written at none = refl
  item-owes s s' p true (item.Read m) os answer written at none = refl
  item-owes s s' p true item.Broken os answer written at none = refl
  item-owes s s' p true (item.Order c) os answer written at none = refl
  item-owes s s' p true item.Stop os answer written at none = refl
  item-owes s s' p false i os answer written at none =
      ap (λ b. owed (seen s') b (events os)) (sym (drops-so i (halted s')) ∙ not-passed p i (halted s') (at refl))
      ∙ ap (λ l. owed (seen s') false (events l)) (none refl)

  passed-notes : {W : Type 0} (s s' : Stand S) (i : Item W) (said : Result (Unit {0}) Refusal) (met : Option Message)
      → met ≡ met_by s.phase i s'.phase → said ≡ Ok tt
      → meets met ++ became (awaits_init s.phase) (halted s.end) said s'.phase (halted s'.end)
      ≡ meets (met_by s.phase i s'.phase)
      ++ became (awaits_init s.phase) (halted s.end) (Ok tt) s'.phase (halted s'.end)
  passed-notes s s' i said met is so =
      ap (λ m. meets m ++ became (awaits_init s.phase) (halted s.end) said s'.phase (halted s'.end)) is
      ∙ ap (λ r. meets (met_by s.phase i s'.phase)
      ++ became (awaits_init s.phase) (halted s.end) r s'.phase (halted s'.end)) so

  -- and its reply, where it is an order
  pub item-replies : {W : Type 0} (s : S) (served : Bool) (i : Item W) (os : List Output)
      (answer written : Result (Unit {0}) Refusal) (next : ℕ) → next ≡ next_htlc (seen s)
      → (served ≡ false → Declines i answer)
      → replies_to (subject_in next i) answer ≡ replies seen s (turn_of served i os answer written)
  item-replies s true (item.Joined w) os answer written next is declined = refl
  item-replies s true (item.Read m) os answer written next is declined = refl
  item-replies s true item.Broken os answer written next is declined = refl
  item-replies s true (item.Order c) os answer written next is declined =
      ap (λ n. reply_of (command_subject n c) answer ∷ []) is
  item-replies s true item.Stop os answer written next is declined = refl
  item-replies s false (item.Joined w) os answer written next is declined = refl
  item-replies s false (item.Read m) os answer written next is declined = refl
  item-replies s false item.Broken os answer written next is declined = refl
  item-replies s false (item.Order c) os answer written next is declined =
      ap (λ a. reply_of (command_subject next c) a ∷ []) (declined refl)
  item-replies s false item.Stop os answer written next is declined = refl

  -- and what is noted of it
  pub item-notes : {W : Type 0} (s s' : Stand S) (served : Bool) (i : Item W) (os : List Output)
      (answer written : Result (Unit {0}) Refusal) (next : ℕ) (met : Option Message)
      → (served ≡ false → Declines i answer) → (served ≡ false → written ≡ Ok tt)
      → met ≡ met_in served s.phase i s'.phase
      → meets met ++ became (awaits_init s.phase) (halted s.end) (beside_reply (subject_in next i) answer written)
      s'.phase (halted s'.end)
      ≡ notes halted seen s (turn_of served i os answer written) s'
  item-notes s s' true (item.Joined w) os answer written next met declined dry is =
      ap (λ m. meets m ++ became (awaits_init s.phase) (halted s.end) answer s'.phase (halted s'.end)) is
  item-notes s s' true (item.Read m) os answer written next met declined dry is =
      ap (λ m. meets m ++ became (awaits_init s.phase) (halted s.end) answer s'.phase (halted s'.end)) is
  item-notes s s' true item.Broken os answer written next met declined dry is =
      ap (λ m. meets m ++ became (awaits_init s.phase) (halted s.end) answer s'.phase (halted s'.end)) is
  item-notes s s' true (item.Order c) os answer written next met declined dry is =
      ap (λ m. meets m ++ became (awaits_init s.phase) (halted s.end) written s'.phase (halted s'.end)) is
  item-notes s s' true item.Stop os answer written next met declined dry is =
      ap (λ m. meets m ++ became (awaits_init s.phase) (halted s.end) answer s'.phase (halted s'.end)) is
  item-notes s s' false (item.Joined w) os answer written next met declined dry is =
      passed-notes s s' (item.Joined w) answer met is (declined refl)
  item-notes s s' false (item.Read m) os answer written next met declined dry is =
      passed-notes s s' (item.Read m) answer met is (declined refl)
  item-notes s s' false item.Broken os answer written next met declined dry is =
      passed-notes s s' item.Broken answer met is (declined refl)
  item-notes s s' false (item.Order c) os answer written next met declined dry is =
      passed-notes s s' (item.Order c) written met is (dry refl)
  item-notes s s' false item.Stop os answer written next met declined dry is =
      passed-notes s s' item.Stop answer met is (declined refl)

pub item-comes : {W : Type 0} (served h : Bool) (i : Item W) (os : List Output)
    (answer written : Result (Unit {0}) Refusal)
    → may_come true h (turn_of served i os answer written) ≡ true
item-comes true h (item.Joined w) os answer written = refl
item-comes true h (item.Read m) os answer written = refl
item-comes true h item.Broken os answer written = refl
item-comes true h (item.Order c) os answer written = refl
item-comes true h item.Stop os answer written = refl
item-comes false h i os answer written = refl

-- a command's, whose channel is that of the end before
got : Option (List ℕ) → List ℕ
got None = []
got (Some c) = c

pub asked-at : (x : Option Seen) (channel : List ℕ) (next : ℕ) (c : Command) (a : Result (Unit {0}) Refusal)
    → Some channel ≡ channel_of x → next ≡ next_htlc x
    → took_one channel c ∷ answered channel (answer_to (command_subject next c) a) ∷ [] ≡ asked x c a
unfolding got
asked-at None channel next c a e n = cc
asked-at (Some x) channel next c a e n =
    ap (λ d. took_one d c ∷ answered d (answer_to (command_subject next c) a) ∷ []) (ap got e)
    ∙ ap (λ m. took_one x.end.dance.channel c ∷ answered x.end.dance.channel (answer_to (command_subject m c) a) ∷ []) n
