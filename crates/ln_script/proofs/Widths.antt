-- What a script's lines bring is as wide as it is in code: numbers of 16, 32 and 64 bits, payment secrets, hashes and
-- preimages of 32 bytes, onions of 1,366 (BOLT 2).
use Rattle.std.proofs.Common.{◌≡◌, ℕ, ◌+◌, ◌-◌, ◌*◌, ◌<◌, ◌≤◌, ◌^◌, List, [], ◌∷◌, ◌++◌, length, replicate}
use Rattle.std.proofs.Common.{Bool, true, false, ◌&&◌, codes, nat_le, nat_lt, Option, Some, None, Ok, refl}
use Rattle.std.proofs.Common.{arith, length-append}
use Rattle.std.specs.Str.{bytes_eq}
use Rattle.std.proofs.lemmas.Bool.{leb-true, ltb-true, ltb-false, and_parts}
use Rattle.std.specs.Str.Parse.{digits_value}
use Rattle.std.proofs.lemmas.List.{length-replicate}
use Rattle.sha2.proofs.Facts256.{length-sha256}
use Rattle.ln_keys.specs.ToyOnion.{toy_key, toy_hmac, filled, toy_packet, payload_bytes, toy_made}
use Rattle.ln_channel.specs.declared.command.Command.{Command}
use Rattle.ln_world_channels.specs.declared.step.End.{End}
use Rattle.ln_world_channels.specs.declared.step.Node.{Node}
use Rattle.ln_channel_laws.specs.Widths.{IsCommand}
use Rattle.ln_world.specs.declared.step.Act.TheVariants as act
use Rattle.ln_world.specs.declared.step.Step.TheVariants as step
use Rattle.ln_script.specs.Word.{◌>>=◌, is_decimal, decimal_at, number_at, node_at, short_id_at, digit_at, code_at}
use Rattle.ln_script.specs.Onion.{payloads_at}
use Rattle.ln_script.specs.Command.{preimage_of, hash_of, onion_at, add_at, fulfil_at, fail_at}
use Rattle.ln_script.specs.Command.{malformed_at, fee_at, confirm_line, add_line, fulfil_line, fail_line}
use Rattle.ln_script.specs.Command.{malformed_line, fee_line, sign_line, shutdown_line, update_at, command_at}
use Rattle.ln_script.specs.Step.{ToyStep, fees_at, limits_at, policy_at, expect_at}
use Rattle.ln_script.specs.Script.{script_at}
use Rattle.ln_script.specs.Wide.{IsWide, AreAsWide}
use Rattle.ln_script.proofs.Walk.{Has, then, then_of, either, if_true, if_false, if_in_order, IsOfEachKind, RoundAct}
use Rattle.ln_script.proofs.Walk.{each_step}

-- ---- numbers

abbrev IsShort : ℕ → Type 0
IsShort n = n < 2 ^ 64

both_short : (a : Bool) (n : ℕ) → (a && nat_lt n (2 ^ 64)) ≡ true → n < 2 ^ 64
both_short true n e = ltb-true n (2 ^ 64) e
both_short false n e = absurd cc

decimals_are_short : (w : List ℕ) → Has IsShort (decimal_at w)
unfolding decimal_at
decimals_are_short w = if_true IsShort (is_decimal w && nat_lt (digits_value 10 w) (2 ^ 64)) (digits_value 10 w) None
    (both_short (is_decimal w) (digits_value 10 w)) tt

abbrev AtMost : ℕ → ℕ → Type 0
AtMost greatest n = n ≤ greatest

numbers_are_at_most : (greatest : ℕ) (w : List ℕ) → Has (AtMost greatest) (number_at greatest w)
numbers_are_at_most greatest w =
    then (AtMost greatest) (decimal_at w) _ (λ n.
    if_true (AtMost greatest) (nat_le n greatest) n None (leb-true n greatest) tt)

abbrev IsDigit : ℕ → Type 0
IsDigit n = n < 16

at_most : (a b n : ℕ) → (nat_le a n && nat_le n b) ≡ true → n ≤ b
at_most a b n e = leb-true n b (and_parts (nat_le a n) (nat_le n b) e).1

digits : (b : ℕ) → Has IsDigit (digit_at b)
digits b =
    if_true IsDigit (nat_le 48 b && nat_le b 57) (b - 48) _
    (λ e. let most = at_most 48 57 b e in omega (arith, most))
    (if_true IsDigit (nat_le 97 b && nat_le b 102) (b - 87) None
    (λ e. let most = at_most 97 102 b e in omega (arith, most)) tt)

four_digits : (p q r s : ℕ) → IsDigit p → IsDigit q → IsDigit r → IsDigit s
    → p * 4096 + q * 256 + r * 16 + s ≤ 65535
four_digits p q r s hp hq hr hs = omega (arith, hp, hq, hr, hs)

codes_are_short : (w : List ℕ) → Has (AtMost 65535) (code_at w)
codes_are_short [] = tt
codes_are_short (a ∷ []) = tt
codes_are_short (a ∷ b ∷ []) = tt
codes_are_short (a ∷ b ∷ c ∷ []) = tt
codes_are_short (a ∷ b ∷ c ∷ d ∷ []) =
    then_of IsDigit (AtMost 65535) (digit_at a) _ (digits a) (λ p hp.
    then_of IsDigit (AtMost 65535) (digit_at b) _ (digits b) (λ q hq.
    then_of IsDigit (AtMost 65535) (digit_at c) _ (digits c) (λ r hr.
    then_of IsDigit (AtMost 65535) (digit_at d) _ (digits d) (λ s hs. four_digits p q r s hp hq hr hs))))
codes_are_short (a ∷ b ∷ c ∷ d ∷ e ∷ w) = tt

in_16_bits : (n : ℕ) → n ≤ 65535 → n < 2 ^ 16
in_16_bits n most = omega (arith, most)

in_32_bits : (n : ℕ) → n ≤ 4294967295 → n < 2 ^ 32
in_32_bits n most = omega (arith, most)

-- ---- bytes

length-preimage : (payment : ℕ) → length (preimage_of payment) ≡ 32
unfolding preimage_of
length-preimage payment = length-replicate 32 payment

length-hash : (payment : ℕ) → length (hash_of payment) ≡ 32
unfolding hash_of
length-hash payment = length-sha256 (preimage_of payment)

-- an onion's version and key, its payloads, its hmac (BOLT 4, "Packet Structure")
length-key : length toy_key ≡ 33
unfolding toy_key
length-key = refl

length-filled : (bytes : List ℕ) → length bytes ≤ 1300 → length (filled bytes) ≡ 1300
unfolding filled
length-filled bytes fits = omega (
  arith,
  length-append bytes (replicate (1300 - length bytes) 0),
  length-replicate {A = ℕ} (1300 - length bytes) 0,
)

length-hmac : (payloads hash : List ℕ) → length (toy_hmac payloads hash) ≡ 32
unfolding toy_hmac
length-hmac payloads hash = length-sha256 (payloads ++ hash)

abbrev IsOnion : List ℕ → Type 0
IsOnion onion = length onion ≡ 1366

length-packet : (bytes hash : List ℕ) → length bytes ≤ 1300 → IsOnion (toy_packet bytes hash)
length-packet bytes hash fits =
    let payloads = filled bytes in
    omega (
      arith,
      length-append ((0 ∷ toy_key) ++ payloads) (toy_hmac payloads hash),
      length-append (0 ∷ toy_key) payloads,
      length-key,
      length-filled bytes fits,
      length-hmac payloads hash,
    )

made : (payloads : List (List ℕ)) (hash : List ℕ) → Has IsOnion (toy_made payloads hash)
made payloads hash =
    let bytes = payload_bytes payloads in
    if_false IsOnion (nat_lt 1300 (length bytes)) (toy_packet bytes hash)
    (λ e. length-packet bytes hash (ltb-false 1300 (length bytes) e))

onions : (payment amount expiry : ℕ) (hops : List (List ℕ)) → Has IsOnion (onion_at payment amount expiry hops)
unfolding onion_at
onions payment amount expiry hops =
    then IsOnion (payloads_at payment amount expiry hops) _ (λ payloads. made payloads (hash_of payment))

-- ---- commands

add_wide : (amount expiry n : List ℕ) (hops : List (List ℕ)) → Has IsCommand (add_at amount expiry n hops)
unfolding add_at
add_wide amount expiry n hops =
    then_of IsShort IsCommand (decimal_at amount) _ (decimals_are_short amount) (λ offered short.
    then_of (AtMost 4294967295) IsCommand (number_at 4294967295 expiry) _ (numbers_are_at_most 4294967295 expiry)
    (λ height low.
    then IsCommand (number_at 255 n) _ (λ payment.
    then_of IsOnion IsCommand (onion_at payment offered height hops) _ (onions payment offered height hops)
    (λ onion long. record {
      amount_fits = short;
      hash_fits = length-hash payment;
      expiry_fits = in_32_bits height low;
      onion_fits = long;
      origin_fits = tt;
    }))))

fulfil_wide : (id n : List ℕ) → Has IsCommand (fulfil_at id n)
fulfil_wide id n =
    then_of IsShort IsCommand (decimal_at id) _ (decimals_are_short id) (λ htlc short.
    then IsCommand (number_at 255 n) _ (λ payment. record { id = short; preimage = length-preimage payment }))

fail_wide : (id code : List ℕ) → Has IsCommand (fail_at id code)
fail_wide id code =
    then_of IsShort IsCommand (decimal_at id) _ (decimals_are_short id) (λ htlc short.
    then IsCommand (code_at code) _ (λ failure. short))

malformed_wide : (id code : List ℕ) → Has IsCommand (malformed_at id code)
malformed_wide id code =
    then_of IsShort IsCommand (decimal_at id) _ (decimals_are_short id) (λ htlc short.
    then_of (AtMost 65535) IsCommand (code_at code) _ (codes_are_short code) (λ failure low.
    record { id = short; sha256_of_onion = refl; failure_code = in_16_bits failure low }))

fee_wide : (rate : List ℕ) → Has IsCommand (fee_at rate)
fee_wide rate =
    then_of (AtMost 4294967295) IsCommand (number_at 4294967295 rate) _ (numbers_are_at_most 4294967295 rate)
    (λ feerate low. in_32_bits feerate low)

confirm_lines : (ws : List (List ℕ)) → Has IsCommand (confirm_line ws)
confirm_lines [] = tt
confirm_lines (id ∷ []) = then IsCommand (short_id_at id) _ (λ channel. tt)
confirm_lines (id ∷ w ∷ ws) = tt

add_lines : (ws : List (List ℕ)) → Has IsCommand (add_line ws)
add_lines [] = tt
add_lines (amount ∷ []) = tt
add_lines (amount ∷ expiry ∷ []) = tt
add_lines (amount ∷ expiry ∷ n ∷ hops) = add_wide amount expiry n hops

fulfil_lines : (ws : List (List ℕ)) → Has IsCommand (fulfil_line ws)
fulfil_lines [] = tt
fulfil_lines (id ∷ []) = tt
fulfil_lines (id ∷ n ∷ []) = fulfil_wide id n
fulfil_lines (id ∷ n ∷ w ∷ ws) = tt

fail_lines : (ws : List (List ℕ)) → Has IsCommand (fail_line ws)
fail_lines [] = tt
fail_lines (id ∷ []) = tt
fail_lines (id ∷ code ∷ []) = fail_wide id code
fail_lines (id ∷ code ∷ w ∷ ws) = tt

malformed_lines : (ws : List (List ℕ)) → Has IsCommand (malformed_line ws)
malformed_lines [] = tt
malformed_lines (id ∷ []) = tt
malformed_lines (id ∷ code ∷ []) = malformed_wide id code
malformed_lines (id ∷ code ∷ w ∷ ws) = tt

fee_lines : (ws : List (List ℕ)) → Has IsCommand (fee_line ws)
fee_lines [] = tt
fee_lines (rate ∷ []) = fee_wide rate
fee_lines (rate ∷ w ∷ ws) = tt

sign_lines : (ws : List (List ℕ)) → Has IsCommand (sign_line ws)
sign_lines [] = tt
sign_lines (w ∷ ws) = tt

shutdown_lines : (node : Node) (ws : List (List ℕ)) → Has IsCommand (shutdown_line node ws)
shutdown_lines node [] = tt
shutdown_lines node (w ∷ ws) = tt

updates : (w : List ℕ) (ws : List (List ℕ)) → Has IsCommand (update_at w ws)
updates w ws =
    either IsCommand (bytes_eq w (codes "add")) _ _ (add_lines ws)
    (either IsCommand (bytes_eq w (codes "fulfil")) _ _ (fulfil_lines ws)
    (either IsCommand (bytes_eq w (codes "fail")) _ _ (fail_lines ws)
    (either IsCommand (bytes_eq w (codes "malformed")) _ _ (malformed_lines ws)
    (either IsCommand (bytes_eq w (codes "fee")) _ None (fee_lines ws) tt))))

commands_are_wide : (node : Node) (w : List ℕ) (ws : List (List ℕ)) → Has IsCommand (command_at node w ws)
unfolding command_at
commands_are_wide node w ws =
    either IsCommand (bytes_eq w (codes "confirm")) _ _ (confirm_lines ws)
    (either IsCommand (bytes_eq w (codes "sign")) _ _ (sign_lines ws)
    (either IsCommand (bytes_eq w (codes "shutdown")) _ _ (shutdown_lines node ws) (updates w ws)))

-- ---- steps

fees_wide : (node : Node) (f l m : List ℕ) → Has IsWide (fees_at node f l m)
unfolding fees_at
fees_wide node f l m =
    then_of IsShort IsWide (decimal_at f) _ (decimals_are_short f) (λ first hf.
    then_of IsShort IsWide (decimal_at l) _ (decimals_are_short l) (λ least hl.
    then_of IsShort IsWide (decimal_at m) _ (decimals_are_short m) (λ most hm.
    if_in_order IsWide node first least most (record { first = hf; least = hl; greatest = hm }))))

limits_wide : (node : Node) (m a i r : List ℕ) → Has IsWide (limits_at node m a i r)
unfolding limits_at
limits_wide node m a i r =
    then_of IsShort IsWide (decimal_at m) _ (decimals_are_short m) (λ minimum hm.
    then_of (AtMost 65535) IsWide (number_at 65535 a) _ (numbers_are_at_most 65535 a) (λ accepted ha.
    then_of IsShort IsWide (decimal_at i) _ (decimals_are_short i) (λ in_flight hi.
    then_of IsShort IsWide (decimal_at r) _ (decimals_are_short r) (λ reserve hr. record {
      minimum = hm;
      accepted = in_16_bits accepted ha;
      in_flight = hi;
      reserve = hr;
    }))))

policies_wide : (node : Node) (b p d : List ℕ) → Has IsWide (policy_at node b p d)
unfolding policy_at
policies_wide node b p d =
    then_of (AtMost 4294967295) IsWide (number_at 4294967295 b) _ (numbers_are_at_most 4294967295 b) (λ base hb.
    then_of (AtMost 4294967295) IsWide (number_at 4294967295 p) _ (numbers_are_at_most 4294967295 p)
    (λ proportional hp.
    then_of (AtMost 65535) IsWide (number_at 65535 d) _ (numbers_are_at_most 65535 d) (λ delta hd. record {
      base = in_32_bits base hb;
      proportional = in_32_bits proportional hp;
      delta = in_16_bits delta hd;
    })))

heights_wide : (node : Node) (h : List ℕ)
    → Has IsWide (number_at 400000000 h >>= (λ height. let it : Option ToyStep = Some (step.Height node height) in it))
heights_wide node h =
    then_of (AtMost 400000000) IsWide (number_at 400000000 h) _ (numbers_are_at_most 400000000 h) (λ height low. low)

expects_wide : (x n a : List ℕ) → Has IsWide (expect_at x n a)
unfolding expect_at
expects_wide x n a =
    then IsWide (node_at x) _ (λ node.
    then IsWide (number_at 255 n) _ (λ payment.
    then_of IsShort IsWide (decimal_at a) _ (decimals_are_short a) (λ amount short. record {
      preimage = length-preimage payment;
      secret = length-replicate 32 payment;
      amount = short;
    })))

round_each : (end : End) (o : Option Command) → Has IsCommand o → Has (λ c. RoundAct IsWide end (act.Send c)) o
round_each end None h = tt
round_each end (Some c) h = (h, (h, (h, h)))

all_wide : IsOfEachKind IsWide
all_wide = record {
  fees = fees_wide;
  limits = limits_wide;
  policies = policies_wide;
  heights = heights_wide;
  expects = expects_wide;
  opens = λ o. tt;
  up = λ channel. tt;
  down = λ end. tt;
  restarts = λ node. tt;
  reloads = λ end. tt;
  dispatches = λ end. tt;
  delivers = λ end. (tt, (tt, (tt, tt)));
  takes = λ end. (tt, (tt, (tt, tt)));
  decides = λ end. (tt, (tt, (tt, tt)));
  resumes = λ end number said. (tt, (tt, (tt, tt)));
  confirms = λ end id. tt;
  commands = λ end w ws. round_each end (command_at end.node w ws) (commands_are_wide end.node w ws);
}

-- ---- scripts

pub steps_are_wide : (text : List ℕ) (steps : List ToyStep) → script_at text ≡ Ok steps → AreAsWide steps
steps_are_wide text steps read = each_step IsWide all_wide (λ end hook. tt) text steps read
