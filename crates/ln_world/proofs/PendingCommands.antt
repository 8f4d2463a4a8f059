-- Which commands of a book are out: nothing between steps; and a command that is handed out and answered in one step.
use Rattle.std.proofs.Common.{◌≡◌, ℕ, List, [], ◌∷◌, refl, sym, ap, ◌∙◌, subst, Bool, true, false}
use Rattle.std.proofs.Common.{cond, Some, None, Result, Ok, Err}
use Rattle.std.specs.Map.{lookup}
use Rattle.indexmap.specs.IndexMap.{insert_entry}
use Rattle.ln_history.specs.History.{with_entry}
use Rattle.ln_book_tables.specs.declared.htlc.Htlc.{Htlc}
use Rattle.ln_book_tables.specs.declared.entry.Out.{Out}
use Rattle.ln_book_tables.specs.declared.entry.KeptState.{KeptState}
use Rattle.ln_book_tables.specs.declared.entry.Queued.{Queued}
use Rattle.ln_book_tables.specs.declared.entry.PendingCommand.{PendingCommand}
use Rattle.ln_book_tables.specs.declared.entry.PendingCommand.TheVariants as pending_command
use Rattle.ln_book_tables.specs.declared.entry.Entry.TheVariants as entry
use Rattle.ln_book_tables.specs.Replay.{Table, table_of, same, pending_command_of, pending_command_at}
use Rattle.ln_book_tables.specs.Replay.{with_pending_command, answered_at, answered_out}
use Rattle.ln_book_tables.specs.Replay.{with_answer}
use Rattle.ln_book_tables.specs.Replay.{refused, taken_by, refused_by, queue_behind, is_unsure, is_later}
use Rattle.ln_book_tables.specs.Replay.{put_back_all, kept_at}
use Rattle.ln_book.specs.Commands.{with_answered}
use Rattle.ln_world.specs.Node.{Book}
use Rattle.ln_payment_circuits.proofs.Entries.{same_is, is_same}
use Rattle.ln_world.proofs.Books.{one_more, IsAlike}

-- ---- one pending command by its channel

put_here : (c : List ℕ) (d : PendingCommand) (es : List (List ℕ × PendingCommand))
    → lookup (same c) (insert_entry same es c d) ≡ Some d
put_here c d [] = ap (λ b. cond b (Some d) None) (is_same c c refl)
put_here c d (e ∷ es) = cases (same c e.0) refl (put_here c d es)
  where
    cases : (b : Bool) → same c e.0 ≡ b → lookup (same c) (insert_entry same es c d) ≡ Some d
        → lookup (same c) (cond b ((e.0, d) ∷ es) (e ∷ insert_entry same es c d)) ≡ Some d
    cases true is r = ap (λ b. cond b (Some d) (lookup (same c) es)) is
    cases false is r = ap (λ b. cond b (Some e.1) (lookup (same c) (insert_entry same es c d))) is ∙ r

put_there : (c a : List ℕ) → same a c ≡ false → (d : PendingCommand) (es : List (List ℕ × PendingCommand))
    → lookup (same a) (insert_entry same es c d) ≡ lookup (same a) es
put_there c a isnt d [] = ap (λ b. cond b (Some d) None) isnt
put_there c a isnt d (e ∷ es) = cases (same c e.0) refl (put_there c a isnt d es)
  where
    cases : (b : Bool) → same c e.0 ≡ b → lookup (same a) (insert_entry same es c d) ≡ lookup (same a) es
        → lookup (same a) (cond b ((e.0, d) ∷ es) (e ∷ insert_entry same es c d)) ≡ cond (same a e.0) (Some e.1)
        (lookup (same a) es)
    cases true is r =
        let apart : same a e.0 ≡ false = ap (same a) (sym (same_is c e.0 is)) ∙ isnt in
        ap (λ b. cond b (Some d) (lookup (same a) es)) apart
        ∙ sym (ap (λ b. cond b (Some e.1) (lookup (same a) es)) apart)
    cases false is r = ap (cond (same a e.0) (Some e.1)) r

pub pending_put : (c : List ℕ) (d : PendingCommand) (t : Table) → pending_command_at c (with_pending_command c d t) ≡ d
pending_put c d t = ap pending_command_of (put_here c d t.pending_commands)

pub pending_other : (c a : List ℕ) → same a c ≡ false → (d : PendingCommand) (t : Table)
    → pending_command_at a (with_pending_command c d t) ≡ pending_command_at a t
pending_other c a isnt d t = ap pending_command_of (put_there c a isnt d t.pending_commands)

-- ---- nothing is out

abbrev pub Calm : Table → Type 0
Calm t = (a : List ℕ) → pending_command_at a t ≡ pending_command.Idle

abbrev pub IsCalm : Book → Type 0
IsCalm b = Calm (table_of b)

pub calm_as : (t u : Table) → u.pending_commands ≡ t.pending_commands → Calm t → Calm u
calm_as t u e h a = ap (λ ds. pending_command_of (lookup (same a) ds)) e ∙ h a

pub calm_alike : (a b : Book) → IsAlike a b → IsCalm a → IsCalm b
calm_alike a b k h = calm_as (table_of a) (table_of b) k.pending_commands h

-- idle again
idle_again : (c : List ℕ) (t : Table) → Calm t → (o : Out)
    → Calm (with_pending_command c pending_command.Idle (with_pending_command c (pending_command.InFlight o) t))
idle_again c t h o a = cases (same a c) refl
  where
    cases : (b : Bool) → same a c ≡ b
        → pending_command_at a (with_pending_command c pending_command.Idle (with_pending_command c
        (pending_command.InFlight o) t)) ≡ pending_command.Idle
    cases true is =
        subst (λ k. pending_command_at k (with_pending_command c pending_command.Idle (with_pending_command c
        (pending_command.InFlight o) t)) ≡ pending_command.Idle) (sym (same_is a c is))
        (pending_put c pending_command.Idle (with_pending_command c (pending_command.InFlight o) t))
    cases false isnt =
        pending_other c a isnt pending_command.Idle (with_pending_command c (pending_command.InFlight o) t)
        ∙ pending_other c a isnt (pending_command.InFlight o) t ∙ h a

pub calm_dropped : (c : List ℕ) (told : KeptState) (b : Book) → IsCalm b → IsCalm (with_entry (entry.Dropped c told) b)
calm_dropped c told b h a = ap (pending_command_at a) (one_more (entry.Dropped c told) b)
    ∙ ap (λ d. pending_command_at a (put_back_all c told (kept_at c told.decides d (table_of b)))) (h c) ∙ h a

-- ---- a command is handed out, and answered in the same step

-- what the answer makes of the HTLCs, and of the queue
abbrev pub turned_htlcs : List ℕ → Result ℕ ℕ → Out → Table → List Htlc
turned_htlcs c (Ok i) o t = taken_by c i o t.queue t.htlcs
turned_htlcs c (Err r) o t = cond (is_later r) t.htlcs (refused_by c r o t.htlcs)

abbrev pub turned_queue : List ℕ → Result ℕ ℕ → Out → Table → List Queued
turned_queue c (Ok i) o t = queue_behind c o t.queue
turned_queue c (Err r) o t = cond (is_later r) t.queue (queue_behind c o t.queue)

abbrev pub IsSure : Result ℕ ℕ → Type 0
IsSure (Ok i) = Unit {0}
IsSure (Err r) = is_unsure r ≡ false

pub record Turned (c : List ℕ) (a : Result ℕ ℕ) (o : Out) (t u : Table) : Type 0 where
  pub htlcs : u.htlcs ≡ turned_htlcs c a o t
  pub queue : u.queue ≡ turned_queue c a o t
  pub calm : Calm u

out_turned : (c : List ℕ) (a : Result ℕ ℕ) (o : Out) (t : Table) → IsSure a → Calm t
    → Turned c a o t (answered_out c a o (with_pending_command c (pending_command.InFlight o) t))
out_turned c (Ok i) o t sure h = record {
  htlcs = refl;
  queue = refl;
  calm =
      calm_as (with_pending_command c pending_command.Idle (with_pending_command c (pending_command.InFlight o) t))
      (answered_out c (Ok i) o (with_pending_command c (pending_command.InFlight o) t)) refl
      (idle_again c t h o);
}
out_turned c (Err r) o t sure h = cases (is_unsure r) sure (is_later r) refl
  where
    cases : (b : Bool) → b ≡ false → (l : Bool) → is_later r ≡ l → Turned c (Err r) o t
        (cond b (with_pending_command c (pending_command.Unknown o) (with_pending_command c
        (pending_command.InFlight o) t))
        (cond l (with_pending_command c pending_command.Idle (with_pending_command c (pending_command.InFlight o) t))
        (refused c r o (with_pending_command c pending_command.Idle (with_pending_command c
        (pending_command.InFlight o) t)))))
    cases true e l f = absurd (cc)
    cases false e true f = record {
      htlcs = sym (ap (λ b. cond b t.htlcs (refused_by c r o t.htlcs)) f);
      queue = sym (ap (λ b. cond b t.queue (queue_behind c o t.queue)) f);
      calm = idle_again c t h o;
    }
    cases false e false f = record {
      htlcs = sym (ap (λ b. cond b t.htlcs (refused_by c r o t.htlcs)) f);
      queue = sym (ap (λ b. cond b t.queue (queue_behind c o t.queue)) f);
      calm = calm_as (with_pending_command c pending_command.Idle (with_pending_command c
          (pending_command.InFlight o) t))
          (refused c r o (with_pending_command c pending_command.Idle (with_pending_command c
          (pending_command.InFlight o) t))) refl (idle_again c t h o);
    }

-- of books
pub book_turned : (c : List ℕ) (a : Result ℕ ℕ) (o : Out) (b : Book) → IsSure a → IsCalm b
    → Turned c a o (table_of b)
    (table_of (with_answered c a (pending_command_at c (table_of (with_entry (entry.Taken c o) b)))
    (with_entry (entry.Taken c o) b)))
book_turned c a o b sure h =
    let t1 = with_entry (entry.Taken c o) b in
    let first : table_of t1 ≡ with_pending_command c (pending_command.InFlight o) (table_of b) = one_more
    (entry.Taken c o) b in
    let out : pending_command_at c (table_of t1) ≡ pending_command.InFlight o = ap (pending_command_at c) first
    ∙ pending_put c (pending_command.InFlight o) (table_of b) in
    let all : table_of (with_answered c a (pending_command_at c (table_of t1)) t1)
    ≡ answered_out c a o (with_pending_command c (pending_command.InFlight o) (table_of b)) =
    ap (λ d. table_of (with_answered c a d t1)) out ∙ one_more (entry.Answered c a) t1
    ∙ ap (λ t. with_answer c a t) first
    ∙ ap (λ d. answered_at c a d (with_pending_command c (pending_command.InFlight o) (table_of b))) (pending_put c
    (pending_command.InFlight o) (table_of b)) in
    subst (Turned c a o (table_of b)) (sym all) (out_turned c a o (table_of b) sure h)
