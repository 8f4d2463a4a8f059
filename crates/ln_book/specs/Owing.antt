-- What a book of payments has to command a channel, whether it was handed out before or not.
use Rattle.std.specs.Prelude.{◌≡◌, ◌⊎◌, ℕ, List, [], ◌∷◌, Bool, true, not, Some}
use Rattle.ln_channel.specs.declared.command.Command.{Command}
use Rattle.ln_book_tables.specs.declared.htlc.Htlc.{Htlc}
use Rattle.ln_book_tables.specs.declared.entry.Queued.{Queued}
use Rattle.ln_book_tables.specs.declared.entry.Out.{Out}
use Rattle.ln_book_tables.specs.declared.entry.Out.TheVariants as out
use Rattle.ln_book_tables.specs.declared.entry.KeptState.{KeptState}
use Rattle.ln_book_tables.specs.Replay.{Table, is_among}
use Rattle.ln_keys.specs.Services.{Services}
use Rattle.ln_book.specs.Commands.{due, command_by, is_queued_in, queued_command}

abbrev pub IsIn : {A : Type 0} → A → List A → Type 0
IsIn {A} a [] = ⊥
IsIn {A} a (x ∷ xs) = (a ≡ x) ⊎ IsIn a xs

-- it is a decision that is to be taken, or what an HTLC is due
abbrev pub Owes : Services → List ℕ → Out × Command → Table → Type 0
Owes s c x t =
    ((q : Queued) × IsIn q t.queue × (is_queued_in c q ≡ true) × (x ≡ queued_command q))
    ⊎ ((h : Htlc) × IsIn h t.htlcs × (command_by s h (due c h) ≡ Some x))

-- the channel has kept nothing of this command
abbrev pub is_lost : Out → KeptState → Bool
is_lost (out.Deciding n) told = true
is_lost (out.Adding k) told = true
is_lost (out.Removing k) told = not (is_among k.id told.removes)
is_lost (out.Forgetting k) told = true
is_lost (out.Resuming n) told = true
