-- What the answerer knows between its turns, and what follows from it at each end.
use Rattle.std.proofs.Common.{◌≡◌, ◌≢◌, ℕ, List, [], ◌∷◌, ◌++◌, length, drop, Option, Some, None, Result, Ok, Err}
use Rattle.std.proofs.Common.{IfErr, refl, sym, ap, subst, ◌∙◌, arith, append_assoc, append-nil, inl, inr, false, ◌==◌}
use Rattle.std.specs.Io.KnownBytes.{Keeps, Consumes, Appends, IsAtEnd, prepend_known}
use Rattle.std.proofs.KnownBytes.{Consumes-nil, Consumes-kept, Appends-nil, Appends-trans, prepend_known-nil}
use Rattle.std.proofs.lemmas.List.Concat.{flat_map-append}
use Rattle.ln_bytes.specs.declared.fault.Fault.{Fault}
use Rattle.ln_bytes.specs.declared.fault.Fault.TheVariants.{Truncated}
use Rattle.ln_msgs.specs.Messages.Message.{Heard}
use Rattle.ln_msgs.specs.Frames.Frame.{frame, Hears, HasNoFrame, IsFaulty}
use Rattle.ln_msgs.specs.Pings.Answer.{reply, replies, pongs, told}
use Rattle.ln_msgs.specs.Pings.Answered.{AnswersAll, AnswersUpTo, AnswersSome}
use Rattle.ln_msgs.specs.Pings.Outgoing.{Waiting}
use Rattle.ln_msgs.specs.Pings.Served.{Serves, StopsAt}
use Rattle.ln_msgs.specs.declared.pings.answer.Stop.{Stop}
use Rattle.ln_msgs.specs.declared.pings.answer.Stop.TheVariants as stop
use Rattle.ln_msgs.specs.Pings.Written.{IsPartlyWritten}
use Rattle.ln_msgs.proofs.Serving.{pongs-append}

-- Whole frames were heard; of their replies some were written and the others wait. `outlook` is what is
-- held and what is left to read.
pub record Progress (reader outlook writer writer_now : Option (List ℕ)) (waiting : Waiting) : Type 0 where
  pub heard : List Heard
  pub front : List ℕ
  pub sent : List ℕ
  pub hears : Hears heard front
  pub consumed : Consumes reader outlook front
  pub written : Appends writer writer_now sent
  pub owed : replies heard ≡ sent ++ waiting.bytes
  pub counted : waiting.pongs ≡ told (pongs heard)

hears-append : (hs gs : List Heard) (xs ys : List ℕ) → Hears hs xs → Hears gs ys → Hears (hs ++ gs) (xs ++ ys)
hears-append [] gs xs ys h g = subst (Hears gs) (sym (ap (λ l. l ++ ys) h)) g
hears-append (k ∷ hs) gs xs ys h g = (
  h.0,
  h.1 ++ ys,
  record {
    fits = h.2.fits;
    bytes_are = ap (λ l. l ++ ys) h.2.bytes_are
        ∙ append_assoc (frame h.0) h.1 ys;
  },
  h.3,
  hears-append hs gs h.1 ys h.4 g,
)

-- what was held is taken too
consumes-held : (a b : Option (List ℕ)) (front held : List ℕ) → Consumes a (prepend_known held b) front
    → Consumes a b (front ++ held)
consumes-held None b front held p = tt
consumes-held (Some x) None front held p = absurd p
consumes-held (Some x) (Some y) front held p = p ∙ sym (append_assoc front held y)

consumes-front : (a b : Option (List ℕ)) (front held more rest : List ℕ) → held ≡ more ++ rest
    → Consumes a (prepend_known held b) front → Consumes a (prepend_known rest b) (front ++ more)
consumes-front None b front held more rest e p = tt
consumes-front (Some x) None front held more rest e p = absurd p
consumes-front (Some x) (Some y) front held more rest e p =
    p ∙ ap (λ l. front ++ (l ++ y)) e ∙ ap (λ l. front ++ l) (append_assoc more rest y)
    ∙ sym (append_assoc front more (rest ++ y))

pub begins : (reader writer : Option (List ℕ)) (input : List ℕ) (waiting : Waiting) → input ≡ [] → waiting.bytes ≡ []
    → waiting.pongs ≡ 0 → Progress reader (prepend_known input reader) writer writer waiting
begins reader writer input waiting empty none zero = record {
  heard = [];
  front = [];
  sent = [];
  hears = refl;
  consumed = subst (λ l. Consumes reader (prepend_known l reader) []) (sym empty)
      (subst (λ o. Consumes reader o []) (sym (prepend_known-nil reader)) (Consumes-nil reader));
  written = Appends-nil writer;
  owed = sym none;
  counted = omega arith;
}

pub served : (reader reader_now writer writer_now : Option (List ℕ)) (input rest : List ℕ) (old new : Waiting)
    → Progress reader (prepend_known input reader_now) writer writer_now old → Serves input rest old new
    → Progress reader (prepend_known rest reader_now) writer writer_now new
served reader reader_now writer writer_now input rest old new p s = record {
  heard = p.heard ++ s.heard;
  front = p.front ++ s.front;
  sent = p.sent;
  hears = hears-append p.heard s.heard p.front s.front p.hears s.hears;
  consumed = consumes-front reader reader_now p.front input s.front rest s.bytes_are p.consumed;
  written = p.written;
  owed = flat_map-append reply p.heard s.heard ∙ ap (λ l. l ++ replies s.heard) p.owed
      ∙ append_assoc p.sent old.bytes (replies s.heard) ∙ ap (λ l. p.sent ++ l) (sym s.waiting);
  counted = omega (arith, p.counted, s.counted, pongs-append p.heard s.heard);
}

pub sent_all : (reader outlook writer writer_now writer_after : Option (List ℕ)) (old new : Waiting)
    → Progress reader outlook writer writer_now old → Appends writer_now writer_after old.bytes
    → new.bytes ≡ [] → new.pongs ≡ old.pongs
    → Progress reader outlook writer writer_after new
sent_all reader outlook writer writer_now writer_after old new p wrote empty same = record {
  heard = p.heard;
  front = p.front;
  sent = p.sent ++ old.bytes;
  hears = p.hears;
  consumed = p.consumed;
  written = Appends-trans writer writer_now writer_after p.sent old.bytes p.written wrote;
  owed = p.owed ∙ sym (ap (λ l. (p.sent ++ old.bytes) ++ l) empty ∙ append-nil (p.sent ++ old.bytes));
  counted = same ∙ p.counted;
}

pub filled : (reader outlook outlook_after writer writer_now : Option (List ℕ)) (waiting : Waiting)
    → Progress reader outlook writer writer_now waiting → Keeps outlook outlook_after
    → Progress reader outlook_after writer writer_now waiting
filled reader outlook outlook_after writer writer_now waiting p kept = record {
  heard = p.heard;
  front = p.front;
  sent = p.sent;
  hears = p.hears;
  consumed = Consumes-kept reader outlook outlook_after p.front p.consumed kept;
  written = p.written;
  owed = p.owed;
  counted = p.counted;
}

-- ---- the ends

-- what holds anyhow holds of an error
pub anyhow : {T E : Type 0} (r : Result T E) (P : Type 0) → P → IfErr r (λ _. P)
anyhow (Ok x) P p = tt
anyhow (Err e) P p = p

-- nothing was read or written
pub nothing_done : (reader writer : Option (List ℕ)) → AnswersSome reader reader writer writer
nothing_done reader writer = record {
  heard = [];
  front = [];
  rest = [];
  hears = refl;
  consumed = Consumes-nil reader;
  replied = record { sent = []; left = []; bytes_are = refl; written = Appends-nil writer };
}

pub some_sent : (reader reader_now writer writer_now writer_after : Option (List ℕ)) (held : List ℕ) (waiting : Waiting)
    → Progress reader (prepend_known held reader_now) writer writer_now waiting
    → IsPartlyWritten writer_now writer_after waiting.bytes → AnswersSome reader reader_now writer writer_after
some_sent reader reader_now writer writer_now writer_after held waiting p part = record {
  heard = p.heard;
  front = p.front;
  rest = held;
  hears = p.hears;
  consumed = consumes-held reader reader_now p.front held p.consumed;
  replied = record {
    sent = p.sent ++ part.sent;
    left = part.left;
    bytes_are = p.owed ∙ ap (λ l. p.sent ++ l) part.bytes_are ∙ sym (append_assoc p.sent part.sent part.left);
    written = Appends-trans writer writer_now writer_after p.sent part.sent p.written part.written;
  };
}

none_sent : (writer : Option (List ℕ)) (bytes : List ℕ) → IsPartlyWritten writer writer bytes
none_sent writer bytes = record { sent = []; left = bytes; bytes_are = refl; written = Appends-nil writer }

pub some : (reader reader_now writer writer_now : Option (List ℕ)) (held : List ℕ) (waiting : Waiting)
    → Progress reader (prepend_known held reader_now) writer writer_now waiting
    → AnswersSome reader reader_now writer writer_now
some reader reader_now writer writer_now held waiting p =
    some_sent reader reader_now writer writer_now writer_now held waiting p (none_sent writer_now waiting.bytes)

all_sent : (reader outlook writer writer_now : Option (List ℕ)) (waiting : Waiting)
    → (p : Progress reader outlook writer writer_now waiting) → waiting.bytes ≡ []
    → Appends writer writer_now (replies p.heard)
all_sent reader outlook writer writer_now waiting p empty =
    subst (Appends writer writer_now) (sym (p.owed ∙ ap (λ l. p.sent ++ l) empty ∙ append-nil p.sent)) p.written

pub up_to_faulty : (reader reader_now writer writer_now : Option (List ℕ)) (held : List ℕ) (waiting : Waiting)
    (f : Fault) → Progress reader (prepend_known held reader_now) writer writer_now waiting → waiting.bytes ≡ []
    → IsFaulty held f → AnswersUpTo reader reader_now writer writer_now f
up_to_faulty reader reader_now writer writer_now held waiting f p empty faulty = record {
  heard = p.heard;
  front = p.front;
  rest = held;
  hears = p.hears;
  consumed = consumes-held reader reader_now p.front held p.consumed;
  fault = inl faulty;
  replied = all_sent reader (prepend_known held reader_now) writer writer_now waiting p empty;
}

pub up_to_cut : (reader reader_now writer writer_now : Option (List ℕ)) (held : List ℕ) (waiting : Waiting)
    → Progress reader (prepend_known held reader_now) writer writer_now waiting → waiting.bytes ≡ []
    → held ≢ [] → HasNoFrame held → IsAtEnd reader_now → AnswersUpTo reader reader_now writer writer_now Truncated
up_to_cut reader reader_now writer writer_now held waiting p empty some_held cut ended = record {
  heard = p.heard;
  front = p.front;
  rest = held;
  hears = p.hears;
  consumed = consumes-held reader reader_now p.front held p.consumed;
  fault = inr (refl, (some_held, cut), ended);
  replied = all_sent reader (prepend_known held reader_now) writer writer_now waiting p empty;
}

pub all_answered : (reader reader_now writer writer_now : Option (List ℕ)) (held : List ℕ) (waiting : Waiting)
    → Progress reader (prepend_known held reader_now) writer writer_now waiting → waiting.bytes ≡ []
    → held ≡ [] → IsAtEnd reader_now → AnswersAll reader reader_now writer writer_now waiting.pongs
all_answered reader reader_now writer writer_now held waiting p empty none_held ended = record {
  heard = p.heard;
  read = p.front;
  hears = p.hears;
  consumed = subst (Consumes reader reader_now) (ap (λ l. p.front ++ l) none_held
      ∙ append-nil p.front) (consumes-held reader reader_now p.front held p.consumed);
  ended = ended;
  replied = all_sent reader (prepend_known held reader_now) writer writer_now waiting p empty;
  counted = p.counted;
}

-- ---- one turn

-- a list whose length isn't 0 has elements
pub not_empty : (xs : List ℕ) → (length xs == 0) ≡ false → xs ≢ []
not_empty [] e h = absurd cc
not_empty (x ∷ xs) e h = absurd cc

-- what is left of what was held
same_left : (input slice after : List ℕ) (taken : ℕ) → slice ≡ input → after ≡ drop taken input
    → drop taken slice ≡ after
same_left input slice after taken same left = ap (drop taken) same ∙ sym left

pub turned : (reader reader_now writer writer_now : Option (List ℕ)) (input slice after : List ℕ) (taken : ℕ)
    (old new : Waiting) → slice ≡ input → after ≡ drop taken input
    → Progress reader (prepend_known input reader_now) writer writer_now old → Serves slice (drop taken slice) old new
    → Progress reader (prepend_known after reader_now) writer writer_now new
turned reader reader_now writer writer_now input slice after taken old new same left p s =
    served reader reader_now writer writer_now input after old new p
    (subst (λ l. Serves l after old new) same (subst (λ l. Serves slice l old new)
    (same_left input slice after taken same left) s))

pub stops : (input slice after : List ℕ) (taken : ℕ) (stop : Stop) → slice ≡ input → after ≡ drop taken input
    → StopsAt (drop taken slice) stop → StopsAt after stop
stops input slice after taken stop same left s =
    subst (λ l. StopsAt l stop) (same_left input slice after taken same left) s

-- the fault that it stopped at
pub stops_faulty : (input slice after : List ℕ) (taken : ℕ) (reason : Stop) (f : Fault) → slice ≡ input
    → after ≡ drop taken input → StopsAt (drop taken slice) reason → reason ≡ stop.Fault f → IsFaulty after f
stops_faulty input slice after taken reason f same left s is =
    subst (StopsAt after) is (stops input slice after taken reason same left s)
