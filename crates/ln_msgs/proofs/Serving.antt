-- How the frames that were served add up.
use Rattle.std.proofs.Common.{◌≡◌, ◌≢◌, ℕ, ◌+◌, ◌-◌, ◌^◌, ◌<◌, List, length, drop, [], ◌∷◌, ◌++◌, Option, Some, None}
use Rattle.std.proofs.Common.{Bool, true, false, cond, ◌==◌, Result, Ok, Err, refl, sym, ap, subst, ◌∙◌, arith}
use Rattle.std.proofs.Common.{append_assoc, append-nil, add-zero, length-append}
use Rattle.std.proofs.lemmas.List.{drop_at}
use Rattle.std.proofs.lemmas.List.Concat.{flat_map-append}
use Rattle.ln_bytes.specs.Reading.{◌>>=◌}
use Rattle.ln_bytes.specs.declared.fault.Fault.{Fault}
use Rattle.ln_msgs.specs.Codec.Checking.{checked}
use Rattle.std.proofs.lemmas.Bool.Decides.{nat_tests}
use Rattle.ln_bytes.specs.Tlv.{stream_at, have_lengths}
use Rattle.ln_bytes.specs.declared.fault.Fault.TheVariants.{FieldLength, UnknownEvenType}
use Rattle.ln_bytes.proofs.Reading.{bind_ok, ok_is}
use Rattle.ln_msgs.specs.Codec.Field.{fields_at}
use Rattle.ln_msgs.specs.Messages.Table.{Form, kinds_of}
use Rattle.ln_msgs.specs.Messages.Message.{Heard, Known, Ignored, formed_at, payload_at, may_be_ignored}
use Rattle.ln_msgs.specs.Messages.Message.{message_at}
use Rattle.ln_msgs.proofs.Grammar.{ends}
use Rattle.ln_msgs.specs.Frames.Frame.{frame, HasFrame, Hears}
use Rattle.ln_msgs.specs.Pings.Answer.{owed, asked, owed_at, paid, reply, replies, one_if_owed, pongs, told}
use Rattle.ln_msgs.specs.Pings.Outgoing.{Waiting}
use Rattle.ln_msgs.specs.Pings.Served.{Serves}

-- a message that asks for this was heard
pub heard_from : (message : List ℕ) (o : Option ℕ) → owed_at message ≡ Ok o
    → (h : Heard) × (message_at message ≡ Ok h) × (owed h ≡ o)
unfolding owed_at
heard_from message o e = asks (message_at message) refl e
  where
    asks : (r : Result Heard Fault) → message_at message ≡ r → (r >>= λ h. Ok (owed h)) ≡ Ok o
        → (h : Heard) × (message_at message ≡ Ok h) × (owed h ≡ o)
    asks (Ok h) is e = (h, is, cc)
    asks (Err f) is e = absurd cc

-- a message whose question can't be read is faulty
pub faulty_from : (message : List ℕ) (f : Fault) → owed_at message ≡ Err f → message_at message ≡ Err f
unfolding owed_at
faulty_from message f e = asks (message_at message) refl e
  where
    asks : (r : Result Heard Fault) → message_at message ≡ r → (r >>= λ h. Ok (owed h)) ≡ Err f
        → message_at message ≡ Err f
    asks (Ok h) is e = absurd cc
    asks (Err g) is e = is ∙ cc

no_pong : (b : Bool) (o : Option ℕ) → b ≡ false → cond b o None ≡ None
no_pong true o e = absurd cc
no_pong false o e = refl

formed_asks : (form : Form) (typ : ℕ) (bytes : List ℕ) (h : Heard) → typ ≢ 18
    → formed_at form typ bytes ≡ Ok h → owed h ≡ None
unfolding formed_at
formed_asks form typ bytes h other e =
    let a = bind_ok (fields_at (kinds_of form) bytes)
    (λ values. stream_at form.known_even values.1 >>= λ records. cond (have_lengths form.lengths records)
    (Ok (Known (record { typ = typ; values = values.0; records = records }))) (Err FieldLength)) h e in
    let b = bind_ok (stream_at form.known_even a.0.1)
    (λ records. cond (have_lengths form.lengths records)
    (Ok (Known (record { typ = typ; values = a.0.0; records = records }))) (Err FieldLength)) h a.2 in
    let made : Heard = Known (record { typ = typ; values = a.0.0; records = b.0 }) in
    let c = ends (have_lengths form.lengths b.0) FieldLength (Ok made) h b.2 in
    subst (λ (x : Heard). owed x ≡ None) (ok_is made h c.1)
    (no_pong (typ == 18) (asked a.0.0) (grind (arith, nat_tests)))

-- a message of another type than ping asks for nothing
asks_none : (form : Option Form) (typ : ℕ) (bytes : List ℕ) (h : Heard) → typ ≢ 18
    → payload_at form typ bytes ≡ Ok h → owed h ≡ None
asks_none (Some form) typ bytes h other e = formed_asks form typ bytes h other e
asks_none None typ bytes h other e =
    let c = ends (may_be_ignored typ) UnknownEvenType (Ok (Ignored typ)) h e in
    subst (λ (x : Heard). owed x ≡ None) (ok_is (Ignored typ) h c.1) refl

pub asks_nothing : (form : Option Form) (typ : ℕ) (bytes : List ℕ) → typ ≢ 18
    → checked (payload_at form typ bytes) ≡ Ok tt → (payload_at form typ bytes >>= λ heard. Ok (owed heard)) ≡ Ok None
asks_nothing form typ bytes other e =
    let a = bind_ok (payload_at form typ bytes) (λ found. Ok tt) tt e in
    ap (λ (r : Result Heard Fault). r >>= λ heard. Ok (owed heard)) a.1
    ∙ ap (λ (o : Option ℕ). Ok o) (asks_none form typ bytes a.0 other a.1)

pub asks_in_vain : (r : Result Heard Fault) (f : Fault) → checked r ≡ Err f → (r >>= λ heard. Ok (owed heard)) ≡ Err f
asks_in_vain (Ok heard) f e = absurd cc
asks_in_vain (Err g) f e = let same : g ≡ f = cc in ap (λ (d : Fault). Err d) same

-- one more whole frame
pub hears_more : (hs : List Heard) (front message : List ℕ) (h : Heard) → Hears hs front → length message < 65536
    → message_at message ≡ Ok h → Hears (hs ++ h ∷ []) (front ++ frame message)
hears_more [] front message h hears fits is = (
  message,
  [],
  record {
    fits = fits;
    bytes_are = ap (λ l. l ++ frame message) hears
        ∙ sym (append-nil (frame message));
  },
  is,
  refl,
)
hears_more (g ∷ gs) front message h hears fits is =
    let first = hears.0 in
    let rest = hears.1 in (
      first,
      rest ++ frame message,
      record {
        fits = hears.2.fits;
        bytes_are = ap (λ l. l ++ frame message) hears.2.bytes_are ∙ append_assoc (frame first) rest (frame message);
      },
      hears.3,
      hears_more gs rest message h hears.4 fits is,
    )

pub pongs-append : (hs gs : List Heard) → pongs (hs ++ gs) ≡ pongs hs + pongs gs
pongs-append [] gs = omega arith
pongs-append (h ∷ hs) gs = let more = pongs-append hs gs in omega arith

-- nothing was served yet
pub serves_none : (bytes : List ℕ) (w : Waiting) → w.pongs < 2 ^ 64 → Serves bytes bytes w w
serves_none bytes w fits = record {
  heard = [];
  front = [];
  hears = refl;
  bytes_are = refl;
  waiting = sym (append-nil w.bytes);
  counted = omega arith;
}

-- one more frame was served
pub serves_more : (bytes rest message after : List ℕ) (old mid new : Waiting) (o : Option ℕ) → Serves bytes rest old mid
    → HasFrame rest message after → owed_at message ≡ Ok o
    → new.bytes ≡ mid.bytes ++ paid o → new.pongs ≡ told (mid.pongs + one_if_owed o) → Serves bytes after old new
serves_more bytes rest message after old mid new o served whole is waits counts =
    let from = heard_from message o is in
    let h = from.0 in
    let last : replies (h ∷ []) ≡ paid o = append-nil (reply h) ∙ ap paid from.2 in
    let one : pongs (h ∷ []) ≡ one_if_owed o = add-zero (one_if_owed (owed h)) ∙ ap one_if_owed from.2 in
    record {
      heard = served.heard ++ h ∷ [];
      front = served.front ++ frame message;
      hears = hears_more served.heard served.front message h served.hears whole.fits from.1;
      bytes_are = served.bytes_are ∙ ap (λ l. served.front ++ l) whole.bytes_are
          ∙ sym (append_assoc served.front (frame message) after);
      waiting = waits ∙ ap (λ l. l ++ paid o) served.waiting ∙ append_assoc old.bytes (replies served.heard) (paid o)
          ∙ ap (λ l. old.bytes ++ l) (ap (λ l. replies served.heard ++ l) (sym last)
          ∙ sym (flat_map-append reply served.heard (h ∷ [])));
      counted = omega (arith, served.counted, counts, one, pongs-append served.heard (h ∷ []));
    }

-- what is left is the end of the bytes
pub left_is : (bytes rest : List ℕ) (old new : Waiting) → Serves bytes rest old new
    → drop (length bytes - length rest) bytes ≡ rest
left_is bytes rest old new served =
    let len : length bytes - length rest ≡ length served.front =
    omega (arith, ap length served.bytes_are, length-append served.front rest) in
    ap (λ n. drop n bytes) len ∙ ap (drop (length served.front)) served.bytes_are
    ∙ drop_at served.front rest (length served.front) refl
