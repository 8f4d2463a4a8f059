-- The commands of a script: what its lines tell an end to do.
use Rattle.std.specs.Prelude.{ℕ, ◌/◌, ◌%◌, List, [], ◌∷◌, codes, replicate, Option, Some, None, ◌==◌}
use Rattle.std.specs.Prelude.{if◌then◌else◌}
use Rattle.std.specs.Str.{bytes_eq}
use Rattle.ln_keys.specs.Hash.{payment_hash}
use Rattle.ln_keys.specs.ToyOnion.{toy_made}
use Rattle.ln_channel.specs.declared.command.Command.{Command}
use Rattle.ln_channel.specs.declared.command.Command.TheVariants as command
use Rattle.ln_world_channels.specs.declared.step.Node.{Node}
use Rattle.ln_script.specs.Word.{◌>>=◌, decimal_at, number_at, short_id_at, code_at}
use Rattle.ln_script.specs.Onion.{payloads_at}

-- a payment's preimage, and the hash that names it
unfoldable pub preimage_of : ℕ → List ℕ
preimage_of payment = replicate 32 payment

unfoldable pub hash_of : ℕ → List ℕ
hash_of payment = payment_hash (preimage_of payment)

-- a failure's code in two bytes; after one whose UPDATE bit, 4096, is set the length of a channel_update that is left
-- out (BOLT 4, "Failure Messages")
unfoldable pub reason_of : ℕ → List ℕ
reason_of code = code / 256 ∷ code % 256 ∷ (if (code / 4096) % 2 == 1 then 0 ∷ 0 ∷ [] else [])

-- ---- what the words after the end ask for

-- confirm E BxTxO
abbrev pub confirm_at : List ℕ → Option Command
confirm_at id = do
  channel ← short_id_at id
  Some (command.Confirm channel)

-- the onion of an HTLC, where its payloads fit
unfoldable pub onion_at : ℕ → ℕ → ℕ → List (List ℕ) → Option (List ℕ)
onion_at payment amount expiry hops = do
  payloads ← payloads_at payment amount expiry hops
  toy_made payloads (hash_of payment)

-- add E AMOUNT EXPIRY N, and BxTxO AMT CLTV for each hop
unfoldable pub add_at : List ℕ → List ℕ → List ℕ → List (List ℕ) → Option Command
add_at amount expiry n hops = do
  offered ← decimal_at amount
  height ← number_at 4294967295 expiry
  payment ← number_at 255 n
  onion ← onion_at payment offered height hops
  Some (command.Add offered (hash_of payment) height onion None)

-- fulfil E ID N
abbrev pub fulfil_at : List ℕ → List ℕ → Option Command
fulfil_at id n = do
  htlc ← decimal_at id
  payment ← number_at 255 n
  Some (command.Fulfil htlc (preimage_of payment))

-- fail E ID CODE
abbrev pub fail_at : List ℕ → List ℕ → Option Command
fail_at id code = do
  htlc ← decimal_at id
  failure ← code_at code
  Some (command.Fail htlc (reason_of failure))

-- malformed E ID CODE
abbrev pub malformed_at : List ℕ → List ℕ → Option Command
malformed_at id code = do
  htlc ← decimal_at id
  failure ← code_at code
  Some (command.Malformed htlc (replicate 32 0) failure)

-- fee E RATE
abbrev pub fee_at : List ℕ → Option Command
fee_at rate = do
  feerate ← number_at 4294967295 rate
  Some (command.Fee feerate)

-- shutdown E: the script is the node's letter
abbrev pub shutdown_by : Node → Command
shutdown_by node = command.Shutdown (node.letter ∷ [])

-- ---- the lines

abbrev pub confirm_line : List (List ℕ) → Option Command
confirm_line (id ∷ []) = confirm_at id
confirm_line _ = None

abbrev pub add_line : List (List ℕ) → Option Command
add_line (amount ∷ expiry ∷ n ∷ hops) = add_at amount expiry n hops
add_line _ = None

abbrev pub fulfil_line : List (List ℕ) → Option Command
fulfil_line (id ∷ n ∷ []) = fulfil_at id n
fulfil_line _ = None

abbrev pub fail_line : List (List ℕ) → Option Command
fail_line (id ∷ code ∷ []) = fail_at id code
fail_line _ = None

abbrev pub malformed_line : List (List ℕ) → Option Command
malformed_line (id ∷ code ∷ []) = malformed_at id code
malformed_line _ = None

abbrev pub fee_line : List (List ℕ) → Option Command
fee_line (rate ∷ []) = fee_at rate
fee_line _ = None

abbrev pub sign_line : List (List ℕ) → Option Command
sign_line [] = Some command.Sign
sign_line _ = None

abbrev pub shutdown_line : Node → List (List ℕ) → Option Command
shutdown_line node [] = Some (shutdown_by node)
shutdown_line node _ = None

-- what an end of this node is told by a line's first word and those after the end
abbrev pub update_at : List ℕ → List (List ℕ) → Option Command
update_at w ws =
    if bytes_eq w (codes "add") then add_line ws
    else (if bytes_eq w (codes "fulfil") then fulfil_line ws
    else (if bytes_eq w (codes "fail") then fail_line ws
    else (if bytes_eq w (codes "malformed") then malformed_line ws
    else (if bytes_eq w (codes "fee") then fee_line ws else None))))

unfoldable pub command_at : Node → List ℕ → List (List ℕ) → Option Command
command_at node w ws =
    if bytes_eq w (codes "confirm") then confirm_line ws
    else (if bytes_eq w (codes "sign") then sign_line ws
    else (if bytes_eq w (codes "shutdown") then shutdown_line node ws else update_at w ws))
