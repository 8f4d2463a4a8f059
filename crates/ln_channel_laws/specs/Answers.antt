-- A shutdown that an end has taken is answered (BOLT 2, "Closing Initiation: shutdown").
use Rattle.std.specs.Prelude.{◌≡◌, true}
use Rattle.ln_channel.specs.declared.machine.ConnectionState.{ConnectionState}
use Rattle.ln_channel.specs.declared.machine.ConnectionState.TheVariants.{Connected}
use Rattle.ln_channel.specs.End.{End, all_acknowledged}
use Rattle.ln_channel_laws.specs.Ends.{Ends}

-- an end that has met its peer and has taken its shutdown has sent its own, once all its updates are acknowledged
abbrev pub HasAnswered : ConnectionState → End → Type 0
HasAnswered l e =
    l ≡ Connected → e.closing.peer_shut ≡ true → all_acknowledged e.dance.log ≡ true → e.closing.shut ≡ true

abbrev pub BothHaveAnswered : Ends → Type 0
BothHaveAnswered p = HasAnswered p.x_line p.x × HasAnswered p.y_line p.y
