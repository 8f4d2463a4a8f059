-- Onions for tests. They have the parts and the sizes of BOLT 4 and hide nothing: each hop's payload stands
-- open in its place.
use Rattle.std.specs.Prelude.{ℕ, zero, suc, ◌-◌, List, [], ◌∷◌, ◌++◌, length, take, drop, replicate, Option, Some, None}
use Rattle.std.specs.Prelude.{Result, Ok, Err, not, nat_lt, ◌==◌, if◌then◌else◌}
use Rattle.std.specs.List.{flat_map}
use Rattle.sha2.specs.Sha256.{sha256}
use Rattle.ln_bytes.specs.Bigsize.{bigsize, bigsize_at}
use Rattle.ln_bytes.specs.Same.{are_same}
use Rattle.ln_bytes.specs.declared.fault.Fault.{Fault}
use Rattle.ln_keys.specs.Services.{Services}
use Rattle.ln_keys.specs.declared.onion.Opened.{Opened}
use Rattle.ln_keys.specs.declared.onion.OpenFault.{OpenFault}
use Rattle.ln_keys.specs.declared.onion.OpenFault.TheVariants.{Version, Key, Hmac, Payload}
use Rattle.ln_keys.specs.Onion.{onion_version, onion_key, onion_payloads, onion_hmac}

-- ---- the packet

-- 02 and 32 zero bytes
unfoldable pub toy_key : List ℕ
toy_key = 2 ∷ replicate 32 0

unfoldable pub toy_hmac : List ℕ → List ℕ → List ℕ
toy_hmac payloads hash = sha256 (payloads ++ hash)

-- zeros up to 1,300 bytes
unfoldable pub filled : List ℕ → List ℕ
filled bytes = bytes ++ replicate (1300 - length bytes) 0

-- version 0, the key, the payloads and their hmac
abbrev pub toy_packet : List ℕ → List ℕ → List ℕ
toy_packet bytes hash = (0 ∷ toy_key) ++ filled bytes ++ toy_hmac (filled bytes) hash

-- a payload after its length, and all of them one after the other
abbrev pub with_length : List ℕ → List ℕ
with_length payload = bigsize (length payload) ++ payload

abbrev pub payload_bytes : List (List ℕ) → List ℕ
payload_bytes payloads = flat_map with_length payloads

-- the packet of these payloads, where they fit
abbrev pub toy_made : List (List ℕ) → List ℕ → Option (List ℕ)
toy_made payloads hash =
    if nat_lt 1300 (length (payload_bytes payloads)) then None else Some (toy_packet (payload_bytes payloads) hash)

-- ---- opening

-- what is left for the next hop; where nothing is left, or a zero comes next, there is none
abbrev pub next_packet : List ℕ → List ℕ → Option (List ℕ)
next_packet [] hash = None
next_packet (zero ∷ rest) hash = None
next_packet (suc b ∷ rest) hash = Some (toy_packet (suc b ∷ rest) hash)

-- the payload of so many bytes at the front
abbrev pub hop_of : ℕ → List ℕ → List ℕ → Result Opened OpenFault
hop_of len bytes hash =
    if (len == 0) then Err Payload
    else (if nat_lt (length bytes) len then Err Payload
    else Ok (record { payload = take len bytes; next = next_packet (drop len bytes) hash }))

-- a length as a BigSize, and the payload
abbrev pub hop_behind : Result (ℕ × ℕ) Fault → List ℕ → List ℕ → Result Opened OpenFault
hop_behind (Err fault) bytes hash = Err Payload
hop_behind (Ok len) bytes hash = hop_of len.0 (drop len.1 bytes) hash

-- the first fault of the packet's parts: the version is tested first, then the key, then the hmac
abbrev pub packet_fault : List ℕ → List ℕ → Option OpenFault
packet_fault onion hash =
    if not (onion_version onion == 0) then Some Version
    else (if not (are_same (onion_key onion) toy_key) then Some Key
    else (if not (are_same (onion_hmac onion) (toy_hmac (onion_payloads onion) hash)) then Some Hmac
    else None))

abbrev pub unless : Option OpenFault → Result Opened OpenFault → Result Opened OpenFault
unless (Some fault) hop = Err fault
unless None hop = hop

-- the packet is tested, and then its first payload is read
abbrev pub toy_opened : List ℕ → List ℕ → Result Opened OpenFault
toy_opened onion hash =
    unless (packet_fault onion hash) (hop_behind (bigsize_at (onion_payloads onion)) (onion_payloads onion) hash)

-- failures are passed on as they are
abbrev pub toy_services : Services
toy_services = record {
  opened = toy_opened;
  wrapped = λ onion hash failure. failure;
  wrapped_again = λ onion hash reason. reason;
}

-- ---- what was made is opened

-- The onion that goes on with these payloads: none where no payload is left, or the next one is empty, as its
-- length is then the zero that ends an onion.
abbrev pub passed_on : List (List ℕ) → List ℕ → Option (List ℕ)
passed_on [] hash = None
passed_on (payload ∷ payloads) hash = if (length payload == 0) then None else toy_made (payload ∷ payloads) hash
