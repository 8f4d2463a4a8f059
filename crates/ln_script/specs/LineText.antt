-- The text of a report's lines.
use Rattle.std.specs.Prelude.{ℕ, ◌/◌, ◌%◌, List, ◌++◌, codes, Bool, true, false}
use Rattle.std.specs.Char.{encode_utf8}
use Rattle.std.specs.Fmt.{decimal, digits}
use Rattle.ln_refusals.specs.declared.refusal.Refusal.{Refusal}
use Rattle.ln_refusals.specs.Refusal.{refusal_number}
use Rattle.ln_refusals.specs.RefusalText.{refusal_text}
use Rattle.ln_hooks.specs.declared.verdict.FailureCode.TheVariants as failure
use Rattle.ln_hooks.specs.declared.verdict.Verdict.{Verdict}
use Rattle.ln_hooks.specs.declared.verdict.Verdict.TheVariants as verdict
use Rattle.ln_channel.specs.declared.summary.ChannelStatus.{ChannelStatus}
use Rattle.ln_channel.specs.declared.summary.ChannelStatus.TheVariants as status
use Rattle.ln_channel.specs.declared.summary.Summary.{Summary}
use Rattle.ln_world_channels.specs.declared.step.End.{End}
use Rattle.ln_world_channels.specs.declared.step.Node.{Node}
use Rattle.ln_world_channels.specs.declared.line.Word.{Word}
use Rattle.ln_world_channels.specs.declared.line.Word.TheVariants as word
use Rattle.ln_world_channels.specs.declared.line.Ending.{Ending}
use Rattle.ln_world_channels.specs.declared.line.Ending.TheVariants as ending
use Rattle.ln_world_channels.specs.declared.line.Choice.{Choice}
use Rattle.ln_world_channels.specs.declared.line.Choice.TheVariants as choice
use Rattle.ln_world_channels.specs.declared.line.EndLine.{EndLine}
use Rattle.ln_world_channels.specs.declared.line.Line.{Line}
use Rattle.ln_world_channels.specs.declared.line.Line.TheVariants as line

-- a node's letter and the channel's number
unfoldable pub end_text : End → List ℕ
end_text e = encode_utf8 e.node.letter ++ decimal e.channel

-- a word and its number
abbrev pub with_number : List ℕ → ℕ → List ℕ
with_number w n = w ++ (codes " " ++ decimal n)

-- ---- what a step did

-- a message
abbrev pub word_text : Word → List ℕ
word_text word.ChannelReady = codes "channel_ready"
word_text (word.Add id) = with_number (codes "add") id
word_text (word.Fulfil id) = with_number (codes "fulfil") id
word_text (word.Fail id) = with_number (codes "fail") id
word_text (word.Malformed id) = with_number (codes "malformed") id
word_text (word.Fee rate) = with_number (codes "fee") rate
word_text (word.Sign n) = with_number (codes "sign") n
word_text (word.Revoke n) = with_number (codes "revoke") n
word_text (word.Reestablish c r) = codes "reestablish " ++ (decimal c ++ (codes " " ++ decimal r))
word_text word.Shutdown = codes "shutdown"
word_text (word.Closing fee) = with_number (codes "closing") fee
word_text word.Warning = codes "warning"
word_text word.Error = codes "error"

-- whose HTLC it is
abbrev pub owner_text : Bool → List ℕ
owner_text true = codes "own"
owner_text false = codes "peer"

abbrev pub ending_text : Ending → List ℕ
ending_text ending.Fulfilled = codes "fulfilled"
ending_text ending.Failed = codes "failed"
ending_text ending.Malformed = codes "malformed"

-- an end's event of this number
abbrev pub event_text : End → ℕ → List ℕ
event_text e number = end_text e ++ (codes " event " ++ decimal number)

unfoldable pub sends_text : End → Word → List ℕ
sends_text e w = end_text e ++ (codes " sends " ++ word_text w)

unfoldable pub added_text : End → ℕ → Bool → ℕ → List ℕ
added_text e number own id =
    event_text e number ++ (codes " added " ++ (owner_text own ++ (codes " " ++ decimal id)))

unfoldable pub settled_text : End → ℕ → Bool → ℕ → Ending → List ℕ
settled_text e number own id how =
    event_text e number ++ (codes " settled " ++ (owner_text own ++ (codes " " ++ (decimal id
    ++ (codes " " ++ ending_text how)))))

unfoldable pub closed_text : End → ℕ → ℕ → List ℕ
closed_text e number fee = event_text e number ++ (codes " closed " ++ decimal fee)

unfoldable pub refused_text : End → Refusal → List ℕ
refused_text e why = end_text e ++ (codes " " ++ refusal_text why)

unfoldable pub restarts_text : Node → List ℕ
restarts_text n = encode_utf8 n.letter ++ codes " restarts"

-- what a dispatcher's hooks say of an event: a failure's code in four hexadecimal digits
abbrev pub verdict_text : Verdict → List ℕ
verdict_text verdict.Continue = codes "continue"
verdict_text verdict.Hold = codes "hold"
verdict_text (verdict.Fail failure.TemporaryChannelFailure) = codes "fail 1007"
verdict_text (verdict.Fail failure.UnknownNextPeer) = codes "fail 400a"
verdict_text (verdict.Fail failure.AmountBelowMinimum) = codes "fail 100b"
verdict_text (verdict.Fail failure.FeeInsufficient) = codes "fail 100c"
verdict_text (verdict.Fail failure.IncorrectCltvExpiry) = codes "fail 100d"
verdict_text (verdict.Fail failure.ExpiryTooSoon) = codes "fail 100e"
verdict_text (verdict.Fail failure.IncorrectOrUnknownPaymentDetails) = codes "fail 400f"
verdict_text (verdict.Fail failure.FinalIncorrectCltvExpiry) = codes "fail 0012"
verdict_text (verdict.Fail failure.FinalIncorrectHtlcAmount) = codes "fail 0013"
verdict_text (verdict.Fail failure.ExpiryTooFar) = codes "fail 0015"
verdict_text (verdict.Fail failure.InvalidOnionPayload) = codes "fail 4016"

unfoldable pub dispatched_text : End → ℕ → Verdict → List ℕ
dispatched_text e number v = end_text e ++ (codes " dispatch " ++ (decimal number ++ (codes " " ++ verdict_text v)))

-- four hexadecimal digits, in lower case
abbrev pub hex_digit : ℕ → List ℕ
hex_digit n = digits 16 false n

unfoldable pub code_text : ℕ → List ℕ
code_text n =
    hex_digit (n / 4096) ++ (hex_digit (n / 256 % 16) ++ (hex_digit (n / 16 % 16) ++ hex_digit (n % 16)))

-- what is done about an event
abbrev pub choice_text : Choice → List ℕ
choice_text choice.None = codes "none"
choice_text (choice.Forward channel) = with_number (codes "forward") channel
choice_text (choice.Fail code) = codes "fail " ++ code_text code
choice_text (choice.Malformed code) = codes "malformed " ++ code_text code
choice_text choice.Fulfil = codes "fulfil"
choice_text choice.Held = codes "held"

unfoldable pub decided_text : End → ℕ → Choice → List ℕ
decided_text e number c = end_text e ++ (codes " decided " ++ (decimal number ++ (codes " " ++ choice_text c)))

unfoldable pub resumed_text : End → ℕ → Choice → List ℕ
resumed_text e number c = end_text e ++ (codes " resumed " ++ (decimal number ++ (codes " " ++ choice_text c)))

abbrev pub line_text : Line → List ℕ
line_text (line.Open channel) = decimal channel ++ codes " open"
line_text (line.Sends e w) = sends_text e w
line_text (line.Added e number own id) = added_text e number own id
line_text (line.Settled e number own id how) = settled_text e number own id how
line_text (line.Closed e number fee) = closed_text e number fee
line_text (line.Refused e why) = refused_text e why
line_text (line.Restarts n) = restarts_text n
line_text (line.Dispatched e number v) = dispatched_text e number v
line_text (line.Decided e number c) = decided_text e number c
line_text (line.Resumed e number c) = resumed_text e number c
line_text line.Idle = codes "idle"

-- ---- how an end stands

abbrev pub status_text : ChannelStatus → List ℕ
status_text status.Open = codes "open"
status_text status.Ready = codes "ready"
status_text status.Shut = codes "shut"
status_text (status.Closed fee) = with_number (codes "closed") fee
status_text (status.Failed why) = with_number (codes "failed") (refusal_number why)

-- the own updates that its last signature covers, and the own ones and the peer's that it holds as committed
abbrev pub counts_text : Summary → List ℕ
counts_text s =
    codes " signed " ++ (decimal s.signed ++ (codes " committed " ++ (decimal s.own_held
    ++ (codes " peer " ++ decimal s.peer_held))))

-- both balances in msat, how many HTLCs are live, and how far the channel is
abbrev pub balances_text : Summary → List ℕ
balances_text s =
    codes " balance " ++ (decimal s.own ++ (codes "/" ++ (decimal s.peer ++ (codes " live " ++ (decimal s.live
    ++ (codes " " ++ status_text s.status))))))

abbrev pub end_line_text : EndLine → List ℕ
end_line_text l = end_text l.end ++ (counts_text l.summary ++ balances_text l.summary)
