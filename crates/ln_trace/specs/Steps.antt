-- What is logged of a step of a trace: level, target, text and key-values.
use Rattle.std.specs.Prelude.{ℕ, List, [], ◌∷◌, ◌++◌, Option, Some, None, Err, codes, decimal, string_bytes}
use Rattle.std.specs.Borrow.{Bor}
use Rattle.std.specs.Str.Lines.{lines}
use Rattle.log.specs.Kv.{Pair}
use Rattle.log.specs.declared.level.Level.{Level}
use Rattle.log.specs.declared.level.Level.TheVariants as level
use Rattle.ln_bytes.specs.Fault.{fault_number}
use Rattle.ln_refusals.specs.Refusal.{refusal_number}
use Rattle.ln_node_loops.specs.declared.notice.Notice.{Notice}
use Rattle.ln_node_loops.specs.declared.notice.Notice.TheVariants.{Ended, NoInit, Met, Refused, OrderRefused, Halted}
use Rattle.ln_node_loops.specs.declared.notice.Notice.TheVariants.{Loaded, Held}
use Rattle.ln_node.specs.declared.trace.Step.{Step}
use Rattle.ln_node.specs.declared.trace.Step.TheVariants.{Took, Sent, Saved, Noticed}
use Rattle.ln_trace.specs.Saves.{listed, error_text, save_level, save_words, save_error}

-- lines, with the first text before the first of them, and a comma and a space before each other one
abbrev pub joined : List ℕ → List (List ℕ) → List ℕ
joined before [] = []
joined before (line ∷ rest) = before ++ (line ++ joined (codes ", ") rest)

-- the lines of a text on one line
abbrev pub one_line : List ℕ → List ℕ
one_line text = joined [] (lines text)

-- a refused order was told to who gave it; a halted end, or one that refused its peer or its book, is worth a look
abbrev pub notice_level : Notice → Level
notice_level (OrderRefused order refusal) = level.Debug
notice_level (Refused refusal) = level.Warn
notice_level Halted = level.Warn
notice_level notice = level.Info

abbrev pub step_level : Step → Level
step_level (Took text) = level.Trace
step_level (Sent text) = level.Trace
step_level (Saved bytes answer) = save_level answer
step_level (Noticed notice) = notice_level notice

abbrev pub step_target : Step → List ℕ
step_target (Took text) = codes "lnlink::message"
step_target (Sent text) = codes "lnlink::message"
step_target (Saved bytes answer) = codes "lnlink::save"
step_target (Noticed notice) = codes "lnlink::notice"

abbrev pub notice_words : Notice → List ℕ
notice_words (Ended answer) = codes "connection ended"
notice_words NoInit = codes "no init"
notice_words Met = codes "peer met"
notice_words (Refused refusal) = codes "refused"
notice_words (OrderRefused order refusal) = codes "order refused"
notice_words Halted = codes "halted"
notice_words Loaded = codes "loaded"
notice_words (Held event) = codes "payment held"

abbrev pub step_words : Step → List ℕ
step_words (Took text) = codes "took"
step_words (Sent text) = codes "sent"
step_words (Saved bytes answer) = save_words answer
step_words (Noticed notice) = notice_words notice

-- a message's text
abbrev pub message_pair : Step → Option Pair
message_pair (Took text) = Some (codes "message", one_line (string_bytes text))
message_pair (Sent text) = Some (codes "message", one_line (string_bytes text))
message_pair step = None

-- how many bytes were to be saved, which order was refused, which event is held
abbrev pub number_pair : Step → Option Pair
number_pair (Saved bytes answer) = Some (codes "bytes", decimal bytes)
number_pair (Noticed (OrderRefused order refusal)) = Some (codes "order", decimal order)
number_pair (Noticed (Held event)) = Some (codes "event", decimal event)
number_pair step = None

abbrev pub notice_error : Notice → Option Pair
notice_error (Ended (Err fault)) = Some (error_text (fault_number fault))
notice_error (Refused refusal) = Some (error_text (refusal_number refusal))
notice_error (OrderRefused order refusal) = Some (error_text (refusal_number refusal))
notice_error notice = None

abbrev pub error_pair : Step → Option Pair
error_pair (Saved bytes answer) = save_error answer
error_pair (Noticed notice) = notice_error notice
error_pair step = None

-- the channel's number, and what the step has of these
abbrev pub step_pairs : ℕ → Step → List Pair
step_pairs channel step =
    (codes "channel", decimal channel)
    ∷ (listed (message_pair step) ++ (listed (number_pair step) ++ listed (error_pair step)))

-- a text as the message of a pair, a number by its key
abbrev pub message_text : Bor (List ℕ) → Pair
message_text text = (codes "message", one_line text.now)

abbrev pub number_text : Bor (List ℕ) × ℕ → Pair
number_text number = (number.0.now, decimal number.1)
