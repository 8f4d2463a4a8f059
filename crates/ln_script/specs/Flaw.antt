-- What is wrong with a line that isn't one of a script: the first of its words that isn't what is to stand there, or
-- what is missing.
use Rattle.std.specs.Prelude.{ℕ, List, [], ◌∷◌, ◌++◌, codes, Bool, true, false, is_some, Option, Some, None}
use Rattle.std.specs.Prelude.{if◌then◌else◌}
use Rattle.std.specs.Prelude.{◌-◌, get_or}
use Rattle.std.specs.Fmt.{decimal}
use Rattle.std.specs.Str.{bytes_eq}
use Rattle.ln_script.specs.declared.want.Want.{Want}
use Rattle.ln_script.specs.declared.want.Want.TheVariants as want
use Rattle.ln_script.specs.declared.flaw.Flaw.{Flaw}
use Rattle.ln_script.specs.declared.flaw.Flaw.TheVariants as flaw
use Rattle.ln_script.specs.declared.flaw.Flawed.{Flawed}
use Rattle.ln_script.specs.declared.bad_line.BadLine.{BadLine}
use Rattle.ln_script.specs.Hook.{lawful_at}
use Rattle.ln_script.specs.Script.{lines, words}
use Rattle.ln_script.specs.Word.{decimal_at, number_at, node_at, end_at, short_id_at, code_at}

-- ---- one word

abbrev pub is_setting : List ℕ → Bool
is_setting w =
    if bytes_eq w (codes "fees") then true
    else (if bytes_eq w (codes "limits") then true
    else (if bytes_eq w (codes "policy") then true else false))

abbrev pub is_hook : List ℕ → Bool
is_hook w =
    if bytes_eq w (codes "count") then true
    else (if bytes_eq w (codes "above") then true
    else (if bytes_eq w (codes "hold") then true else false))

abbrev pub is_verdict : List ℕ → Bool
is_verdict w =
    if bytes_eq w (codes "continue") then true
    else (if bytes_eq w (codes "fail") then true else false)

-- a word is what is to stand there; first words are told by what follows them
abbrev pub is_wanted : Want → List ℕ → Bool
is_wanted want.Command w = false
is_wanted want.Act w = false
is_wanted want.Setting w = is_setting w
is_wanted want.Hook w = is_hook w
is_wanted want.Verdict w = is_verdict w
is_wanted want.Node w = is_some (node_at w)
is_wanted want.Channel w = is_some (number_at 99 w)
is_wanted want.End w = is_some (end_at w)
is_wanted want.Number64 w = is_some (decimal_at w)
is_wanted want.Number32 w = is_some (number_at 4294967295 w)
is_wanted want.Number16 w = is_some (number_at 65535 w)
is_wanted want.Payment w = is_some (number_at 255 w)
is_wanted want.Height w = is_some (number_at 400000000 w)
is_wanted want.ShortId w = is_some (short_id_at w)
is_wanted want.Code w = is_some (code_at w)
is_wanted want.FailureCode w = is_some (lawful_at w)

-- ---- what is to stand after a line's first word

-- by the word after set's node
abbrev pub setting_wants : List ℕ → List Want
setting_wants w =
    if bytes_eq w (codes "fees")
    then want.Node ∷ want.Setting ∷ want.Number64 ∷ want.Number64 ∷ want.Number64 ∷ []
    else (if bytes_eq w (codes "limits")
    then want.Node ∷ want.Setting ∷ want.Number64 ∷ want.Number16 ∷ want.Number64 ∷ want.Number64 ∷ []
    else (if bytes_eq w (codes "policy")
    then want.Node ∷ want.Setting ∷ want.Number32 ∷ want.Number32 ∷ want.Number16 ∷ []
    else want.Node ∷ want.Setting ∷ []))

-- by the word after hook's end
abbrev pub hook_wants : List ℕ → List Want
hook_wants w =
    if bytes_eq w (codes "above") then want.End ∷ want.Hook ∷ want.Number64 ∷ want.FailureCode ∷ []
    else (if bytes_eq w (codes "hold") then want.End ∷ want.Hook ∷ want.Number64 ∷ []
    else want.End ∷ want.Hook ∷ [])

-- by the word after resume's end and number
abbrev pub verdict_wants : List ℕ → List Want
verdict_wants w =
    if bytes_eq w (codes "fail") then want.End ∷ want.Number64 ∷ want.Verdict ∷ want.FailureCode ∷ []
    else want.End ∷ want.Number64 ∷ want.Verdict ∷ []

-- the second and the third of words, empty where there are fewer
abbrev pub second : List (List ℕ) → List ℕ
second (v ∷ w ∷ ws) = w
second ws = []

abbrev pub third : List (List ℕ) → List ℕ
third (u ∷ v ∷ w ∷ ws) = w
third ws = []

-- of an add's words only those before its hops
abbrev pub command_wants : List ℕ → Option (List Want)
command_wants w =
    if bytes_eq w (codes "confirm") then Some (want.End ∷ want.ShortId ∷ [])
    else (if bytes_eq w (codes "add") then Some (want.End ∷ want.Number64 ∷ want.Number32 ∷ want.Payment ∷ [])
    else (if bytes_eq w (codes "fulfil") then Some (want.End ∷ want.Number64 ∷ want.Payment ∷ [])
    else (if bytes_eq w (codes "fail") then Some (want.End ∷ want.Number64 ∷ want.Code ∷ [])
    else (if bytes_eq w (codes "malformed") then Some (want.End ∷ want.Number64 ∷ want.Code ∷ [])
    else (if bytes_eq w (codes "fee") then Some (want.End ∷ want.Number32 ∷ [])
    else (if bytes_eq w (codes "sign") then Some (want.End ∷ [])
    else (if bytes_eq w (codes "shutdown") then Some (want.End ∷ []) else None)))))))

abbrev pub act_wants : List ℕ → List (List ℕ) → Option (List Want)
act_wants w ws =
    if bytes_eq w (codes "deliver") then Some (want.End ∷ [])
    else (if bytes_eq w (codes "take") then Some (want.End ∷ [])
    else (if bytes_eq w (codes "decide") then Some (want.End ∷ [])
    else (if bytes_eq w (codes "resume") then Some (verdict_wants (third ws)) else command_wants w)))

abbrev pub step_wants : List ℕ → List (List ℕ) → Option (List Want)
step_wants w ws =
    if bytes_eq w (codes "up") then Some (want.Channel ∷ [])
    else (if bytes_eq w (codes "down") then Some (want.End ∷ [])
    else (if bytes_eq w (codes "restart") then Some (want.Node ∷ [])
    else (if bytes_eq w (codes "reload") then Some (want.End ∷ [])
    else (if bytes_eq w (codes "height") then Some (want.Node ∷ want.Height ∷ [])
    else (if bytes_eq w (codes "expect") then Some (want.Node ∷ want.Payment ∷ want.Number64 ∷ [])
    else (if bytes_eq w (codes "dispatch") then Some (want.End ∷ []) else act_wants w ws))))))

unfoldable pub line_wants : List ℕ → List (List ℕ) → Option (List Want)
line_wants w ws =
    if bytes_eq w (codes "set") then Some (setting_wants (second ws))
    else (if bytes_eq w (codes "hook") then Some (hook_wants (second ws))
    else (if bytes_eq w (codes "open")
    then Some (want.Channel ∷ want.Node ∷ want.Node ∷ want.Number64 ∷ want.Number64 ∷ [])
    else (if bytes_eq w (codes "ready")
    then Some (want.Channel ∷ want.Node ∷ want.Node ∷ want.Number64 ∷ want.Number64 ∷ want.ShortId ∷ [])
    else step_wants w ws)))

-- ---- the first flaw, with its word; the word is empty where none alone has the flaw

abbrev pub told : Flawed → Flaw × List ℕ
told f = (f.flaw, f.word.now)

-- an empty word stands between two blanks, or beside one at an end of the line
abbrev pub wrong : Want → List ℕ → Flaw × List ℕ
wrong k w = if bytes_eq w [] then (flaw.Blank, w) else (flaw.NoSuch k, w)

abbrev pub too_many : List ℕ → Flaw × List ℕ
too_many w = if bytes_eq w [] then (flaw.Blank, w) else (flaw.TooMany, w)

abbrev pub missing : Want → Flaw × List ℕ
missing k = (flaw.Missing k, [])

-- of words that are to be these
abbrev pub flaw_among : List Want → List (List ℕ) → Option (Flaw × List ℕ)
flaw_among [] [] = None
flaw_among [] (w ∷ ws) = Some (too_many w)
flaw_among (k ∷ ks) [] = Some (missing k)
flaw_among (k ∷ ks) (w ∷ ws) = if is_wanted k w then flaw_among ks ws else Some (wrong k w)

abbrev pub flaw_or : Option (Flaw × List ℕ) → Option (Flaw × List ℕ) → Option (Flaw × List ℕ)
flaw_or (Some f) other = Some f
flaw_or None other = other

abbrev pub hop_wants : List Want
hop_wants = want.ShortId ∷ want.Number64 ∷ want.Number32 ∷ []

-- of the words of hops, three each
abbrev pub route_flaw : List (List ℕ) → Option (Flaw × List ℕ)
route_flaw [] = None
route_flaw (id ∷ amt ∷ cltv ∷ ws) = flaw_or (flaw_among hop_wants (id ∷ amt ∷ cltv ∷ [])) (route_flaw ws)
route_flaw ws = flaw_among hop_wants ws

-- of the words after add: four, and hops
abbrev pub add_flaw : List Want → List (List ℕ) → Option (Flaw × List ℕ)
add_flaw ks (e ∷ a ∷ x ∷ n ∷ ws) = flaw_or (flaw_among ks (e ∷ a ∷ x ∷ n ∷ [])) (route_flaw ws)
add_flaw ks ws = flaw_among ks ws

-- of a word and those after it, of which this is wanted
abbrev pub wanted_flaw : Want → List ℕ → Option (List Want) → List (List ℕ) → Option (Flaw × List ℕ)
wanted_flaw kind w None ws = Some (wrong kind w)
wanted_flaw kind w (Some ks) ws = if bytes_eq w (codes "add") then add_flaw ks ws else flaw_among ks ws

-- of the words after stop-before, stop-after and no-memory
abbrev pub round_flaw : List (List ℕ) → Option (Flaw × List ℕ)
round_flaw [] = Some (missing want.Act)
round_flaw (w ∷ ws) = wanted_flaw want.Act w (act_wants w ws) ws

unfoldable pub words_flaw : List ℕ → List (List ℕ) → Option (Flaw × List ℕ)
words_flaw w ws =
    if bytes_eq w (codes "stop-before") then round_flaw ws
    else (if bytes_eq w (codes "stop-after") then round_flaw ws
    else (if bytes_eq w (codes "no-memory") then round_flaw ws
    else wanted_flaw want.Command w (line_wants w ws) ws))

-- of a bad line each of whose words may stand there: the fees that it sets, or the hops that it adds
abbrev pub last_flaw : List ℕ → Flaw × List ℕ
last_flaw w = if bytes_eq w (codes "set") then (flaw.Fees, []) else (flaw.Route, [])

abbrev pub flaw_else : Option (Flaw × List ℕ) → Flaw × List ℕ → Flaw × List ℕ
flaw_else None other = other
flaw_else (Some f) other = f

-- what is wrong with a line of these words that is bad
abbrev pub flaw_at : List (List ℕ) → Flaw × List ℕ
flaw_at [] = missing want.Command
flaw_at (w ∷ ws) = flaw_else (words_flaw w ws) (last_flaw w)

abbrev pub bad_line : ℕ → List (List ℕ) → BadLine
bad_line line ws = record { line = line; flaw = (flaw_at ws).0; word = (flaw_at ws).1 }

-- the line of this number, counted from 1
abbrev pub line_of : ℕ → List (List ℕ) → List ℕ
line_of n ls = get_or ls (n - 1) []

-- what is wrong with the line of this number, which is bad
unfoldable pub bad_line_in : List ℕ → ℕ → BadLine
bad_line_in text line = bad_line line (words (line_of line (lines text)))

-- ---- its text

abbrev pub want_name : Want → List ℕ
want_name want.Command = codes "command"
want_name want.Act = codes "act"
want_name want.Setting = codes "setting"
want_name want.Hook = codes "hook"
want_name want.Verdict = codes "verdict"
want_name want.Node = codes "node"
want_name want.Channel = codes "channel"
want_name want.End = codes "end"
want_name want.Number64 = codes "number of 64 bits"
want_name want.Number32 = codes "number of 32 bits"
want_name want.Number16 = codes "number of 16 bits"
want_name want.Payment = codes "payment"
want_name want.Height = codes "block height"
want_name want.ShortId = codes "short channel id"
want_name want.Code = codes "code"
want_name want.FailureCode = codes "failure code"

abbrev pub flaw_text : Flaw → List ℕ
flaw_text (flaw.NoSuch k) = codes "no such " ++ want_name k
flaw_text (flaw.Missing k) = codes "missing " ++ want_name k
flaw_text flaw.TooMany = codes "one word too many"
flaw_text flaw.Blank = codes "a blank too many"
flaw_text flaw.Fees = codes "fees out of order"
flaw_text flaw.Route = codes "no room in an onion"

-- what stands before the word
abbrev pub mark_before : List ℕ → List ℕ
mark_before w = if bytes_eq w [] then [] else codes ": "

abbrev pub told_text : Flaw × List ℕ → List ℕ
told_text f = flaw_text f.0 ++ (mark_before f.1 ++ f.1)

abbrev pub bad_line_text : BadLine → List ℕ
bad_line_text b =
    codes "line " ++ (decimal b.line ++ (codes ": " ++ (told_text (b.flaw, b.word) ++ codes " (refused 64 BadScript)")))
