-- Which commands of a book are out after what was entered.
use Rattle.std.proofs.Common.{◌≡◌, ◌⊎◌, inl, inr, ℕ, List, [], ◌∷◌, refl, sym, ap, ◌∙◌, subst, Bool, true, false, cond}
use Rattle.std.proofs.Common.{Some, None, Result, Ok, Err}
use Rattle.std.specs.Map.{lookup}
use Rattle.std.proofs.lemmas.List.Sums.{fold-append}
use Rattle.indexmap.specs.IndexMap.{insert_entry}
use Rattle.ln_history.specs.History.{with_entry}
use Rattle.ln_book_tables.specs.declared.entry.Entry.{Entry}
use Rattle.ln_book_tables.specs.declared.entry.Entry.TheVariants as entry
use Rattle.ln_book_tables.specs.declared.entry.KeptState.{KeptState}
use Rattle.ln_book_tables.specs.declared.entry.Out.{Out}
use Rattle.ln_book_tables.specs.declared.entry.Out.TheVariants as out
use Rattle.ln_book_tables.specs.declared.entry.PendingCommand.{PendingCommand}
use Rattle.ln_book_tables.specs.declared.entry.PendingCommand.TheVariants as pending_command
use Rattle.ln_book_tables.specs.Replay.{Table, table_of, after, same, pending_command_of, pending_command_at}
use Rattle.ln_book_tables.specs.Replay.{with_pending_command, answered_at, answered_out, done, refused, is_unsure}
use Rattle.ln_book_tables.specs.Replay.{is_later}
use Rattle.ln_book_tables.specs.Replay.{put_back_all, kept_at, kept_out}
use Rattle.ln_payment_circuits.proofs.Entries.{same_is, is_same}
use Rattle.ln_manager_channels.specs.Books.{Book}
use Rattle.ln_manager_laws.proofs.Answering.{told_answer}

pub one_more : (x : Entry) (b : Book) → table_of (with_entry x b) ≡ after (table_of b) x
one_more x b = fold-append after b.start b.entries (x ∷ [])

-- ---- one pending command by its channel

put_here : (c : List ℕ) (d : PendingCommand) (es : List (List ℕ × PendingCommand))
    → lookup (same c) (insert_entry same es c d) ≡ Some d
put_here c d [] = ap (λ b. cond b (Some d) None) (is_same c c refl)
put_here c d (e ∷ es) = cases (same c e.0) refl (put_here c d es)
  where
    cases : (b : Bool) → same c e.0 ≡ b → lookup (same c) (insert_entry same es c d) ≡ Some d
        → lookup (same c) (cond b ((e.0, d) ∷ es) (e ∷ insert_entry same es c d)) ≡ Some d
    cases true is r = ap (λ b. cond b (Some d) (lookup (same c) es)) is
    cases false is r = ap (λ b. cond b (Some e.1) (lookup (same c) (insert_entry same es c d))) is ∙ r

put_there : (c a : List ℕ) → same a c ≡ false → (d : PendingCommand) (es : List (List ℕ × PendingCommand))
    → lookup (same a) (insert_entry same es c d) ≡ lookup (same a) es
put_there c a isnt d [] = ap (λ b. cond b (Some d) None) isnt
put_there c a isnt d (e ∷ es) = cases (same c e.0) refl (put_there c a isnt d es)
  where
    cases : (b : Bool) → same c e.0 ≡ b → lookup (same a) (insert_entry same es c d) ≡ lookup (same a) es
        → lookup (same a) (cond b ((e.0, d) ∷ es) (e ∷ insert_entry same es c d)) ≡ cond (same a e.0) (Some e.1)
        (lookup (same a) es)
    cases true is r =
        let apart : same a e.0 ≡ false = ap (same a) (sym (same_is c e.0 is)) ∙ isnt in
        ap (λ b. cond b (Some d) (lookup (same a) es)) apart
        ∙ sym (ap (λ b. cond b (Some e.1) (lookup (same a) es)) apart)
    cases false is r = ap (cond (same a e.0) (Some e.1)) r

pub pending_put : (c : List ℕ) (d : PendingCommand) (t : Table) → pending_command_at c (with_pending_command c d t) ≡ d
pending_put c d t = ap pending_command_of (put_here c d t.pending_commands)

-- that of one channel alone is another one
pub pending_else : (c : List ℕ) (d : PendingCommand) (t : Table) (a : List ℕ)
    → (c ≡ a) ⊎ (pending_command_at a (with_pending_command c d t) ≡ pending_command_at a t)
pending_else c d t a = cases (same a c) refl
  where
    cases : (b : Bool) → same a c ≡ b
        → (c ≡ a) ⊎ (pending_command_at a (with_pending_command c d t) ≡ pending_command_at a t)
    cases true is = inl (sym (same_is a c is))
    cases false isnt = inr (ap pending_command_of (put_there c a isnt d t.pending_commands))

-- ---- what is out then was out before, or is out in this channel

abbrev pub OutOnly : (List ℕ → Type 0) → Table → Table → Type 0
OutOnly P t u = (id : List ℕ) → (pending_command_at id u ≡ pending_command.Idle)
    ⊎ ((pending_command_at id u ≡ pending_command_at id t) ⊎ P id)

pub out_wide : (P Q : List ℕ → Type 0) (t u : Table) → ((id : List ℕ) → P id → Q id) → OutOnly P t u → OutOnly Q t u
out_wide P Q t u f h id = elim (h id) [
  | inl idle ↦ inl idle
  | inr (inl k) ↦ inr (inl k)
  | inr (inr p) ↦ inr (inr (f id p))
]

pub out_same : (P : List ℕ → Type 0) (t u : Table) → u.pending_commands ≡ t.pending_commands → OutOnly P t u
out_same P t u is id = inr (inl (ap (λ ds. pending_command_of (lookup (same id) ds)) is))

-- one that is taken
pub out_taken : (P : List ℕ → Type 0) (c : List ℕ) (o : Out) (t : Table) → P c → OutOnly P t (after t (entry.Taken c o))
out_taken P c o t h id = elim (pending_else c (pending_command.InFlight o) t id) [
  | inl is ↦ inr (inr (subst P is h))
  | inr k ↦ inr (inl k)
]

pub out_then : (P : List ℕ → Type 0) (t u w : Table) → OutOnly P t u → OutOnly P u w → OutOnly P t w
out_then P t u w f g id = elim (g id) [
  | inl idle ↦ inl idle
  | inr (inl k) ↦ elim (f id) [
    | inl idle ↦ inl (k ∙ idle)
    | inr (inl j) ↦ inr (inl (k ∙ j))
    | inr (inr p) ↦ inr (inr p)
  ]
  | inr (inr p) ↦ inr (inr p)
]

-- nothing is out in this channel any more
idle_put : (P : List ℕ → Type 0) (c : List ℕ) (t u : Table)
    → u.pending_commands ≡ (with_pending_command c pending_command.Idle t).pending_commands → OutOnly P t u
idle_put P c t u is id =
    let as_put : pending_command_at id u ≡ pending_command_at id (with_pending_command c pending_command.Idle t) =
    ap (λ ds. pending_command_of (lookup (same id) ds)) is in
    elim (pending_else c pending_command.Idle t id) [
      | inl own ↦ inl (as_put ∙ subst (λ a. pending_command_at a (with_pending_command c pending_command.Idle t)
          ≡ pending_command.Idle) own (pending_put c pending_command.Idle t))
      | inr k ↦ inr (inl (as_put ∙ k))
    ]

-- ---- a lost connection

out_kept : (c : List ℕ) (decides : Bool) (o : Out) (t : Table) → (kept_out c decides o t).pending_commands
    ≡ t.pending_commands
out_kept c true (out.Deciding n) t = refl
out_kept c false (out.Deciding n) t = refl
out_kept c decides (out.Adding k) t = refl
out_kept c decides (out.Removing k) t = refl
out_kept c decides (out.Forgetting k) t = refl
out_kept c true (out.Resuming n) t = refl
out_kept c false (out.Resuming n) t = refl

pub out_dropped : (P : List ℕ → Type 0) (c : List ℕ) (told : KeptState) (t : Table)
    → OutOnly P t (after t (entry.Dropped c told))
out_dropped P c told t = cases (pending_command_at c t)
  where
    cases : (d : PendingCommand) → OutOnly P t (put_back_all c told (kept_at c told.decides d t))
    cases pending_command.Idle =
        out_same P t (put_back_all c told (kept_at c told.decides pending_command.Idle t)) refl
    cases (pending_command.InFlight o) =
        idle_put P c t (put_back_all c told (kept_at c told.decides (pending_command.InFlight o) t))
        (out_kept c told.decides o (with_pending_command c pending_command.Idle t))
    cases (pending_command.Unknown o) =
        idle_put P c t (put_back_all c told (kept_at c told.decides (pending_command.Unknown o) t))
        (out_kept c told.decides o (with_pending_command c pending_command.Idle t))

-- ---- a command is taken, and answered at once

abbrev pub IsSure : Result ℕ ℕ → Type 0
IsSure (Ok i) = Unit {0}
IsSure (Err r) = is_unsure r ≡ false

pub taken_out : (c : List ℕ) (o : Out) (t : Table) → pending_command_at c (after t (entry.Taken c o))
    ≡ pending_command.InFlight o
taken_out c o t = pending_put c (pending_command.InFlight o) t

twice_put : (P : List ℕ → Type 0) (c : List ℕ) (o : Out) (t u : Table)
    → u.pending_commands ≡ (with_pending_command c pending_command.Idle (with_pending_command c
    (pending_command.InFlight o) t)).pending_commands → OutOnly P t u
twice_put P c o t u is id =
    let one = with_pending_command c (pending_command.InFlight o) t in
    let as_put : pending_command_at id u ≡ pending_command_at id (with_pending_command c pending_command.Idle one) =
    ap (λ ds. pending_command_of (lookup (same id) ds)) is in
    elim (pending_else c pending_command.Idle one id) [
      | inl own ↦ inl (as_put ∙ subst (λ a. pending_command_at a (with_pending_command c pending_command.Idle one)
          ≡ pending_command.Idle) own (pending_put c pending_command.Idle one))
      | inr k ↦ elim (pending_else c (pending_command.InFlight o) t id) [
        | inl own ↦ inl (as_put ∙ subst (λ a. pending_command_at a (with_pending_command c pending_command.Idle one)
            ≡ pending_command.Idle) own (pending_put c pending_command.Idle one))
        | inr j ↦ inr (inl (as_put ∙ k ∙ j))
      ]
    ]

answer_out : (c : List ℕ) (o : Out) (a : Result ℕ ℕ) (t : Table)
    → told_answer c o a t ≡ answered_out c a o (with_pending_command c (pending_command.InFlight o) t)
answer_out c o a t =
    ap (λ p. answered_at c a p (with_pending_command c (pending_command.InFlight o) t)) (taken_out c o t)

pub out_answered : (P : List ℕ → Type 0) (c : List ℕ) (o : Out) (a : Result ℕ ℕ) (t : Table) → IsSure a
    → OutOnly P t (told_answer c o a t)
out_answered P c o a t sure = subst (OutOnly P t) (sym (answer_out c o a t)) (by_answer a sure)
  where
    one : Table
    one = with_pending_command c (pending_command.InFlight o) t

    refusing : (r : ℕ) (b : Bool) → b ≡ false → (d : Bool)
        → OutOnly P t (cond b (with_pending_command c (pending_command.Unknown o) one)
        (cond d (with_pending_command c pending_command.Idle one)
        (refused c r o (with_pending_command c pending_command.Idle one))))
    refusing r true sure d = absurd (cc)
    refusing r false sure true = twice_put P c o t (with_pending_command c pending_command.Idle one) refl
    refusing r false sure false =
        twice_put P c o t (refused c r o (with_pending_command c pending_command.Idle one)) refl

    by_answer : (a : Result ℕ ℕ) → IsSure a → OutOnly P t (answered_out c a o one)
    by_answer (Ok i) sure = twice_put P c o t (done c i o (with_pending_command c pending_command.Idle one)) refl
    by_answer (Err r) sure = refusing r (is_unsure r) sure (is_later r)
