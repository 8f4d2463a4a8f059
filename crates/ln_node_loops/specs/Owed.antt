-- What a worker tells the book of its node for what it does (BOLT 2, "Forwarding HTLCs").
use Rattle.std.specs.Prelude.{ℕ, List, [], ◌∷◌, ◌++◌, Option, Some, None, Result, Ok, Err, Bool, true, false}
use Rattle.ln_refusals.specs.declared.refusal.Refusal.{Refusal}
use Rattle.ln_hooks.specs.declared.event.ChannelEvent.{ChannelEvent}
use Rattle.ln_hooks.specs.declared.event.ChannelEvent.TheVariants as event
use Rattle.ln_channel.specs.declared.command.Command.{Command}
use Rattle.ln_book.specs.declared.switch.saying.Saying.{Saying}
use Rattle.ln_book.specs.Saying.{took_one, answered, settled, dropped, uses}
use Rattle.ln_book.specs.Seen.{Seen}
use Rattle.ln_book.specs.Answers.{command_subject, answer_to}
use Rattle.ln_book.specs.Kept.{next_own_id}

-- what the end has kept, where both have signed its opening
abbrev pub kept_word : Option Seen → List Saying
kept_word None = []
kept_word (Some x) = dropped x.end ∷ []

abbrev pub kept_if : Bool → Option Seen → List Saying
kept_if true x = kept_word x
kept_if false x = []

-- which payments it takes
abbrev pub use_word : Option Seen → List Saying
use_word None = []
use_word (Some x) = uses x.use_now ∷ []

abbrev pub is_settled : ChannelEvent → Bool
is_settled (event.Added own id amount hash expiry onion) = false
is_settled (event.Settled own id how) = true
is_settled (event.Closed fee) = false

-- what has become of an HTLC, where an event tells of that
abbrev pub settled_word : List ℕ → ChannelEvent → List Saying
settled_word c (event.Added own id amount hash expiry onion) = []
settled_word c (event.Settled own id how) = settled c (event.Settled own id how) ∷ []
settled_word c (event.Closed fee) = []

abbrev pub settled_words : List ℕ → List (ℕ × ChannelEvent) → List Saying
settled_words c [] = []
settled_words c ((n, e) ∷ es) = settled_word c e ++ settled_words c es

abbrev pub settled_at : Option Seen → List (ℕ × ChannelEvent) → List Saying
settled_at None es = []
settled_at (Some x) es = settled_words x.end.dance.channel es

-- What is owed after a turn that tells of these events: what the end has kept, where it is to be told; what has become
-- of HTLCs; and which payments the end takes now.
abbrev pub owed : Option Seen → Bool → List (ℕ × ChannelEvent) → List Saying
owed x drops es = kept_if drops x ++ (settled_at x es ++ use_word x)

-- a command that was taken, and what the end has answered to it
abbrev pub asked : Option Seen → Command → Result (Unit {0}) Refusal → List Saying
asked None c a = []
asked (Some x) c a =
    took_one x.end.dance.channel c ∷ answered x.end.dance.channel (answer_to (command_subject
    (next_own_id x.end) c) a) ∷ []

-- what is owed after a load; nothing after one that was refused
abbrev pub load_words : Result (Unit {0}) Refusal → Option Seen → List (ℕ × ChannelEvent) → List Saying
load_words (Ok u) x es = owed x true es
load_words (Err r) x es = []
