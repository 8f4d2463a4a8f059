-- What a link that works answers to a command, and what its book makes of that answer.
use Rattle.std.proofs.Common.{◌≡◌, ◌⊎◌, inl, inr, ℕ, List, [], ◌∷◌, refl, sym, ap, ◌∙◌, subst, Bool, true, false, cond}
use Rattle.std.proofs.Common.{Option, Some, None, Result, Ok, Err}
use Rattle.std.specs.Map.{lookup}
use Rattle.indexmap.specs.IndexMap.{insert_entry}
use Rattle.ln_refusals.specs.declared.refusal.Refusal.{Refusal}
use Rattle.ln_refusals.specs.declared.refusal.Refusal.TheVariants as refusal
use Rattle.ln_keys.specs.Signer.{Signer}
use Rattle.ln_channel.specs.declared.command.Command as declared
use Rattle.ln_channel.specs.declared.machine.ConnectionState.{ConnectionState}
use Rattle.ln_channel.specs.declared.machine.Stage.{Stage}
use Rattle.ln_channel.specs.declared.machine.Stage.TheVariants as stage
use Rattle.ln_channel.specs.Commands.{command_row, note_row, unready_fault}
use Rattle.ln_channel.specs.End.{End, Turn}
use Rattle.ln_channel.specs.Outputs.{all_of}
use Rattle.ln_channel.specs.Record.{saved_end}
use Rattle.ln_channel.specs.State.{State}
use Rattle.ln_channel.specs.Step.{Done, turned, faulted, line_fault, is_of_records, noted, asked, commanded}
use Rattle.ln_channel.specs.Step as step
use Rattle.ln_book_tables.specs.declared.entry.Out.{Out}
use Rattle.ln_book_tables.specs.declared.entry.PendingCommand.{PendingCommand}
use Rattle.ln_book_tables.specs.declared.entry.PendingCommand.TheVariants as pending_command
use Rattle.ln_book_tables.specs.declared.entry.Entry.TheVariants as entry
use Rattle.ln_book_tables.specs.Replay.{Table, same, replay, taken_by, refused_by, pending_command_of}
use Rattle.ln_book_tables.specs.Replay.{with_pending_command, answered_at, answered_out, is_unsure, is_later}
use Rattle.ln_book_tables.specs.Replay.{refused}
use Rattle.ln_payment_circuits.specs.Happens.{obeyed}
use Rattle.ln_payment_circuits.proofs.Calls.{IfTurn, PlainIf, command_so, note_so, IsPlainCommand}
use Rattle.ln_payment_circuits.proofs.Entries.{is_same}

-- ---- what the book has out

put_here : (c : List ℕ) (d : PendingCommand) (es : List (List ℕ × PendingCommand))
    → lookup (same c) (insert_entry same es c d) ≡ Some d
put_here c d [] = ap (λ b. cond b (Some d) None) (is_same c c refl)
put_here c d (e ∷ es) = cases (same c e.0) refl (put_here c d es)
  where
    cases : (b : Bool) → same c e.0 ≡ b → lookup (same c) (insert_entry same es c d) ≡ Some d
        → lookup (same c) (cond b ((e.0, d) ∷ es) (e ∷ insert_entry same es c d)) ≡ Some d
    cases true is r = ap (λ b. cond b (Some d) (lookup (same c) es)) is
    cases false is r = ap (λ b. cond b (Some e.1) (lookup (same c) (insert_entry same es c d))) is ∙ r

-- a command is taken, and answered so
abbrev pub told_answer : List ℕ → Out → Result ℕ ℕ → Table → Table
told_answer c o a t = replay t (entry.Taken c o ∷ entry.Answered c a ∷ [])

answer_out : (c : List ℕ) (o : Out) (a : Result ℕ ℕ) (t : Table)
    → told_answer c o a t ≡ answered_out c a o (with_pending_command c (pending_command.InFlight o) t)
answer_out c o a t =
    ap (λ p. answered_at c a (pending_command_of p) (with_pending_command c (pending_command.InFlight o) t))
    (put_here c (pending_command.InFlight o) t.pending_commands)

pub answer_done : (c : List ℕ) (o : Out) (i : ℕ) (t : Table)
    → (told_answer c o (Ok i) t).htlcs ≡ taken_by c i o t.queue t.htlcs
answer_done c o i t = ap (λ (u : Table). u.htlcs) (answer_out c o (Ok i) t)

-- refused for good, or nothing changes
pub answer_refused : (c : List ℕ) (o : Out) (r : ℕ) (t : Table)
    → ((told_answer c o (Err r) t).htlcs ≡ t.htlcs)
    ⊎ ((is_unsure r ≡ false) × (is_later r ≡ false) × ((told_answer c o (Err r) t).htlcs ≡ refused_by c r o t.htlcs))
answer_refused c o r t = by_unsure (is_unsure r) refl (is_later r) refl
  where
    u : Table
    u = with_pending_command c (pending_command.InFlight o) t

    by_unsure : (b : Bool) → is_unsure r ≡ b → (d : Bool) → is_later r ≡ d
        → ((told_answer c o (Err r) t).htlcs ≡ t.htlcs)
        ⊎ ((is_unsure r ≡ false) × (is_later r ≡ false)
        × ((told_answer c o (Err r) t).htlcs ≡ refused_by c r o t.htlcs))
    by_unsure true is d at = inl (ap (λ (w : Table). w.htlcs) (answer_out c o (Err r) t
        ∙ ap (λ x. cond x (with_pending_command c (pending_command.Unknown o) u)
        (cond (is_later r) (with_pending_command c pending_command.Idle u)
        (refused c r o (with_pending_command c pending_command.Idle u)))) is))
    by_unsure false is true at = inl (ap (λ (w : Table). w.htlcs) (answer_out c o (Err r) t
        ∙ ap (λ x. cond x (with_pending_command c (pending_command.Unknown o) u)
        (cond (is_later r) (with_pending_command c pending_command.Idle u)
        (refused c r o (with_pending_command c pending_command.Idle u)))) is
        ∙ ap (λ x. cond x (with_pending_command c pending_command.Idle u)
        (refused c r o (with_pending_command c pending_command.Idle u))) at))
    by_unsure false is false at = inr (
      is,
      at,
      ap (λ (w : Table). w.htlcs) (answer_out c o (Err r) t
          ∙ ap (λ x. cond x (with_pending_command c (pending_command.Unknown o) u)
          (cond (is_later r) (with_pending_command c pending_command.Idle u)
          (refused c r o (with_pending_command c pending_command.Idle u)))) is
          ∙ ap (λ x. cond x (with_pending_command c pending_command.Idle u)
          (refused c r o (with_pending_command c pending_command.Idle u))) at),
    )

-- where whether it was taken is known, and it isn't to be taken later
pub answer_for_good : (c : List ℕ) (o : Out) (r : ℕ) (t : Table) → is_unsure r ≡ false → is_later r ≡ false
    → (told_answer c o (Err r) t).htlcs ≡ refused_by c r o t.htlcs
answer_for_good c o r t sure never =
    let u = with_pending_command c (pending_command.InFlight o) t in
    ap (λ (w : Table). w.htlcs) (answer_out c o (Err r) t
    ∙ ap (λ x. cond x (with_pending_command c (pending_command.Unknown o) u)
    (cond (is_later r) (with_pending_command c pending_command.Idle u)
    (refused c r o (with_pending_command c pending_command.Idle u)))) sure
    ∙ ap (λ x. cond x (with_pending_command c pending_command.Idle u)
    (refused c r o (with_pending_command c pending_command.Idle u))) never)

-- ---- what the link answers

pub record IsObeyed (keys : Signer) (y : declared.Command) (e : End) (d : Done) : Type 0 where
  pub turn : Turn
  pub row : obeyed keys y e ≡ Ok turn
  pub stage : d.stage ≡ stage.Funded turn.end

turned_is : (keys : Signer) (y : declared.Command) (e : End) (l : ConnectionState) (row : Result Turn Refusal)
    (d : Done)
    → obeyed keys y e ≡ row → turned l row ≡ Ok d → IsObeyed keys y e d
turned_is keys y e l (Ok t) d is f =
    let same_done : record { connection = l; stage = stage.Funded t.end; outputs = all_of t.handed } ≡ d = cc in
    record { turn = t; row = is; stage = ap (λ (z : Done). z.stage) (sym same_done) }
turned_is keys y e l (Err r) d is f = absurd (cc)

unfaulted : {A : Type 0} (o : Option Refusal) (row : Result A Refusal) (d : A) → faulted o row ≡ Ok d → row ≡ Ok d
unfaulted None row d e = e
unfaulted (Some r) row d e = absurd (cc)

-- a link whose end is this one
pub stage_is : (s : Stage) (e : End) → saved_end s ≡ Some e → s ≡ stage.Funded e
stage_is (stage.Funded f) e is = let same_end : f ≡ e = cc in ap stage.Funded same_end
stage_is (stage.AwaitsOpen c) e is = absurd (cc)
stage_is (stage.AwaitsAccept s) e is = absurd (cc)
stage_is (stage.AwaitsCreated a) e is = absurd (cc)
stage_is (stage.AwaitsSigned f) e is = absurd (cc)
stage_is stage.Gone e is = absurd (cc)

pub commanded_is : {K : Type 0} (keys : Signer) (l : State K) (y : declared.Command) (e : End) (d : Done)
    → saved_end l.stage ≡ Some e → commanded keys l y ≡ Ok d → IsObeyed keys y e d
commanded_is keys l y e d is f = by_halted l.halted f
  where
    noted_is : (s : Stage) → s ≡ stage.Funded e → is_of_records y ≡ true → noted l.connection y s ≡ Ok d
        → IsObeyed keys y e d
    noted_is s at kind f =
        turned_is keys y e l.connection (note_row y e) d
        (ap (λ b. cond b (note_row y e) (command_row keys y e)) kind) (sym (ap (noted l.connection y) at) ∙ f)

    obeyed_is : (s : Stage) → s ≡ stage.Funded e → is_of_records y ≡ false → step.obeyed keys l.connection y s ≡ Ok d
        → IsObeyed keys y e d
    obeyed_is s at kind f =
        let row : faulted (unready_fault y e) (faulted (line_fault l.connection)
        (turned l.connection (command_row keys y e))) ≡ Ok d = sym (ap (step.obeyed keys l.connection y) at) ∙ f in
        turned_is keys y e l.connection (command_row keys y e) d
        (ap (λ b. cond b (note_row y e) (command_row keys y e)) kind)
        (unfaulted (line_fault l.connection) _ d (unfaulted (unready_fault y e) _ d row))

    by_kind : (b : Bool) → is_of_records y ≡ b
        → cond b (noted l.connection y l.stage) (faulted l.failure (step.obeyed keys l.connection y l.stage)) ≡ Ok d
        → IsObeyed keys y e d
    by_kind true kind f = noted_is l.stage (stage_is l.stage e is) kind f
    by_kind false kind f = obeyed_is l.stage (stage_is l.stage e is) kind
        (unfaulted l.failure (step.obeyed keys l.connection y l.stage) d f)

    by_halted : (b : Bool) → cond b (Err refusal.Halted) (asked keys l y) ≡ Ok d → IsObeyed keys y e d
    by_halted true f = absurd (cc)
    by_halted false f = by_kind (is_of_records y) refl f

-- it is of the same channel
turn_holds : (P : End → Type 0) (row : Result Turn Refusal) (turn : Turn) → IfTurn P row → row ≡ Ok turn → P turn.end
turn_holds P (Ok t) turn h is = let same_turn : t ≡ turn = cc in subst (λ (z : Turn). P z.end) same_turn h
turn_holds P (Err r) turn h is = absurd (cc)

pub obeyed_channel : (keys : Signer) (y : declared.Command) (e : End) (turn : Turn) → obeyed keys y e ≡ Ok turn
    → turn.end.dance.channel ≡ e.dance.channel
obeyed_channel keys y e turn = by_kind (is_of_records y)
  where
    by_kind : (b : Bool) → cond b (note_row y e) (command_row keys y e) ≡ Ok turn
        → turn.end.dance.channel ≡ e.dance.channel
    by_kind true is = (turn_holds (PlainIf ⊥ e) (note_row y e) turn (note_so y e) is).2
    by_kind false is = (turn_holds (PlainIf (IsPlainCommand y) e) (command_row keys y e) turn
        (command_so keys y e) is).2
