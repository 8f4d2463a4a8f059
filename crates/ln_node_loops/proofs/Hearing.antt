-- What is heard of a stream, frame by frame.
use Rattle.std.proofs.Common.{◌≡◌, ◌++◌, ◌∷◌, [], ◌<◌, ◌≤◌, ℕ, List, Option, Some, None, Result, Ok, Err}
use Rattle.std.proofs.Common.{refl, sym, ap, ◌∙◌, subst, append-nil, append_assoc, inl, inr, ◌⊎◌, length, arith}
use Rattle.std.proofs.Common.{length-append}
use Rattle.std.specs.Prelude.{map}
use Rattle.std.proofs.lemmas.List.{map-append}
use Rattle.std.specs.Io.KnownBytes.{Consumes}
use Rattle.std.proofs.KnownBytes.{Consumes-nil, Consumes-trans}
use Rattle.byteorder.specs.Endian.{big_bytes, big_number}
use Rattle.byteorder.specs.Numbers.{big_number-reads_back}
use Rattle.ln_bytes.specs.declared.fault.Fault.{Fault}
use Rattle.ln_bytes.specs.declared.fault.Fault.TheVariants.{Memory}
use Rattle.ln_msgs.specs.declared.messages.message.Incoming.{Incoming}
use Rattle.ln_msgs.specs.declared.messages.message.Incoming.TheVariants.{Known, Ignored}
use Rattle.ln_msgs.specs.Messages.Message.{message_at}
use Rattle.ln_msgs.specs.Messages.Typed.{heard}
use Rattle.ln_msgs.specs.Frames.Frame.{frame, HasFrame, Hears, HasNoFrame}
use Rattle.ln_msgs.proofs.Serving.{hears_more}
use Rattle.ln_msgs.proofs.UniqueFrames.{same_frame}
use Rattle.ln_node_loops.specs.declared.item.Item.{Item}
use Rattle.ln_node_loops.specs.declared.item.Item.TheVariants as item
use Rattle.ln_node_loops.specs.Reads.{reads, Stops, Reads, HasNoneAfterAFrame, Fills, Finds}

-- ---- one frame

no_more : (more : List ℕ) → length more ≡ 0 → more ≡ []
no_more [] none = refl
no_more (x ∷ xs) none = absurd (omega (arith, none))

head_alone : (rest : List ℕ) → length rest ≤ 2 → HasNoneAfterAFrame rest
head_alone rest less message more whole =
    no_more more (omega (arith, less, ap length whole.bytes_are, length-append message more))

-- the length of a message, as it stands before it
tells_length : (n : ℕ) (came message more : List ℕ) → n < 65536 → length message < 65536
    → big_bytes 2 n ++ came ≡ frame message ++ more → n ≡ length message
tells_length n came message more small fits same =
    sym (big_number-reads_back 2 n came small)
    ∙ ap (big_number 2) (same ∙ append_assoc (big_bytes 2 (length message)) message more)
    ∙ big_number-reads_back 2 (length message) (message ++ more) fits

cut_off : (n : ℕ) (came : List ℕ) → n < 65536 → length came < n → HasNoFrame (big_bytes 2 n ++ came)
cut_off n came small less message more whole =
    let number = tells_length n came message more small whole.fits whole.bytes_are in
    omega (arith, less, number, ap length whole.bytes_are, length-append message more)

-- the bytes of a message were read after its length, or not
pub finds : {V : Type 0} (items : V → List ℕ) (before mid after : Option (List ℕ)) (n : ℕ)
    (found : Result (Option V) Fault) → n < 65536 → Consumes before mid (big_bytes 2 n)
    → Fills items n mid after found → Finds items before after found
finds items before mid after n (Ok (Some v)) small first (long, read) = (
  subst (λ k. k < 65536) (sym long) small,
  subst (λ k. Consumes before after (big_bytes 2 k ++ items v)) (sym long) (Consumes-trans _ _ _ _ _ first read),
)
finds items before mid after n (Ok None) small first (came, less, read, end) =
    (big_bytes 2 n ++ came, Consumes-trans _ _ _ _ _ first read, cut_off n came small less, end)
finds items before mid after n (Err f) small first (inl (io, (came, less, read))) =
    (big_bytes 2 n ++ came, Consumes-trans _ _ _ _ _ first read, inl (io, cut_off n came small less))
finds items before mid after n (Err f) small first (inr (memory, read)) = (
  big_bytes 2 n,
  subst (Consumes before after) (append-nil (big_bytes 2 n)) (Consumes-trans _ _ _ _ _ first read),
  inr (memory, head_alone (big_bytes 2 n) (omega arith)),
)

is_whole : (message : List ℕ) → length message < 65536 → HasFrame (frame message) message []
is_whole message fits = record { fits = fits; bytes_are = sym (append-nil (frame message)) }

none_after : (message : List ℕ) → length message < 65536 → HasNoneAfterAFrame (frame message)
none_after message fits other more whole =
    sym (same_frame message other [] more fits whole.fits (append-nil (frame message) ∙ whole.bytes_are)).1

-- ---- frames so far

reads-append : {J : Type 0} (hs gs : List Incoming) → reads {J = J} (hs ++ gs) ≡ reads hs ++ reads gs
reads-append [] gs = refl
reads-append (Known m ∷ hs) gs = ap (λ l. item.Read m ∷ l) (reads-append hs gs)
reads-append (Ignored typ ∷ hs) gs = reads-append hs gs

pub record SoFar {J : Type 0} (before now : Option (List ℕ)) (put put' : List (Item J)) : Type 0 where
  pub messages : List Incoming
  pub front : List ℕ
  pub hears : Hears (map heard messages) front
  pub consumed : Consumes before now front
  pub relayed : put' ≡ put ++ reads messages

pub begins : {J : Type 0} (before : Option (List ℕ)) (put : List (Item J)) → SoFar before before put put
begins before put = record {
  messages = [];
  front = [];
  hears = refl;
  consumed = Consumes-nil before;
  relayed = sym (append-nil put);
}

module _ {J : Type 0} (before now now' : Option (List ℕ)) (put put' : List (Item J))
    (so : SoFar before now put put') where
  stops : (rest : List ℕ) (why : Result (Unit {0}) Fault) → Consumes now now' rest → Stops rest now' why
      → Reads before now' why put put'
  stops rest why read is = record {
    messages = so.messages;
    front = so.front;
    rest = rest;
    hears = so.hears;
    consumed = Consumes-trans _ _ _ _ _ so.consumed read;
    stops = is;
    relayed = so.relayed;
  }

  module _ {V : Type 0} (items : V → List ℕ) (o : Option V) (v : V) (is : o ≡ Some v)
      (found : Finds items now now' (Ok o)) where
    whole : Finds items now now' (Ok (Some v))
    whole = subst (λ x. Finds items now now' (Ok x)) is found

    -- one whose message is refused
    pub refused : (f : Fault) → (f ≡ Memory) ⊎ (message_at (items v) ≡ Err f) → Reads before now' (Err f) put put'
    refused f (inl memory) =
        stops (frame (items v)) (Err f) whole.1 (inr (inr (memory, none_after (items v) whole.0)))
    refused f (inr fault) =
        stops (frame (items v)) (Err f) whole.1 (inl (record {
          message = items v;
          rest = [];
          whole = is_whole (items v) whole.0;
          fault = fault;
        }))

    -- one whose message was put
    pub turned : (put'' : List (Item J)) (h : Incoming) → message_at (items v) ≡ Ok (heard h)
        → put'' ≡ put' ++ reads (h ∷ []) → SoFar before now' put put''
    turned put'' h says more = record {
      messages = so.messages ++ h ∷ [];
      front = so.front ++ frame (items v);
      hears = subst (λ l. Hears l (so.front ++ frame (items v))) (sym (map-append heard so.messages (h ∷ [])))
          (hears_more (map heard so.messages) so.front (items v) (heard h) so.hears whole.0 says);
      consumed = Consumes-trans _ _ _ _ _ so.consumed whole.1;
      relayed = more ∙ ap (λ l. l ++ reads (h ∷ [])) so.relayed
          ∙ append_assoc put (reads so.messages) (reads (h ∷ []))
          ∙ ap (λ l. put ++ l) (sym (reads-append so.messages (h ∷ [])));
    }
