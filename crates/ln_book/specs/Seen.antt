-- What a node's book is told of a link: its end, once both have signed its opening, and which payments that takes.
use Rattle.std.specs.Prelude.{List, ℕ, Option, Some, None}
use Rattle.ln_channel.specs.End.{End}
use Rattle.ln_channel.specs.Record.{saved_end}
use Rattle.ln_channel.specs.State.{State}
use Rattle.ln_book.specs.Kept.{next_own_id}
use Rattle.ln_book.specs.declared.switch.uses.Use.{Use}
use Rattle.ln_book.specs.Uses.{use_of}

pub record Seen : Type 0 where
  pub end : End
  pub use_now : Use

abbrev pub seen_by : {K : Type 0} → State K → Option End → Option Seen
seen_by l None = None
seen_by l (Some e) = Some (record { end = e; use_now = use_of l e })

abbrev pub seen_of : {K : Type 0} → State K → Option Seen
seen_of l = seen_by l (saved_end l.stage)

-- the id of the next HTLC that it offers
abbrev pub next_htlc : Option Seen → ℕ
next_htlc None = 0
next_htlc (Some x) = next_own_id x.end

-- its channel
abbrev pub channel_of : Option Seen → Option (List ℕ)
channel_of None = None
channel_of (Some x) = Some x.end.dance.channel
