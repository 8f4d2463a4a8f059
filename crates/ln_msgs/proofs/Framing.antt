-- How what a framer hears of each piece adds up to what it hears of the whole stream.
use Rattle.std.proofs.Common.{◌≡◌, ℕ, ◌≤◌, List, [], ◌∷◌, ◌++◌, Option, Some, None, Bool, false, cond, ◌==◌, Ok, Err}
use Rattle.std.proofs.Common.{MatchOption, inl, inr, refl, sym, ap, subst, ◌∙◌, arith, append_assoc, append-nil}
use Rattle.std.proofs.lemmas.Bool.Decides.{nat_tests}
use Rattle.ln_bytes.specs.Fault.{fault_number}
use Rattle.ln_bytes.specs.declared.fault.Fault.{Fault}
use Rattle.ln_msgs.specs.Messages.Message.{Heard, message_at}
use Rattle.ln_msgs.specs.Frames.Frame.{frame, HasFrame, HasNoFrame, Hears, IsFaulty, EndsHearing}
use Rattle.ln_msgs.specs.Frames.Framer.{Fed, unfed, HearsSoFar, HasHeard, Refuses, Call, Answered, Refused, Runs, came}
use Rattle.ln_msgs.specs.Frames.Framer.{answered}
use Rattle.ln_msgs.proofs.Faults.{message_tells}
use Rattle.ln_msgs.proofs.Serving.{hears_more}
use Rattle.ln_msgs.proofs.UniqueFrames.{same_frame, unique_frames}

-- ---- frames of one piece

-- one more whole frame
pub hears_on : (bytes rest message after : List ℕ) (hs : List Heard) (h : Heard) → HearsSoFar bytes hs rest
    → HasFrame rest message after → message_at message ≡ Ok h → HearsSoFar bytes (hs ++ h ∷ []) after
hears_on bytes rest message after hs h so_far whole is = record {
  front = so_far.front ++ frame message;
  hears = hears_more hs so_far.front message h so_far.hears whole.fits is;
  bytes_are = so_far.bytes_are ∙ ap (λ l. so_far.front ++ l) whole.bytes_are
      ∙ sym (append_assoc so_far.front (frame message) after);
}

-- ---- pieces

hears-append : (hs gs : List Heard) (xs ys : List ℕ) → Hears hs xs → Hears gs ys → Hears (hs ++ gs) (xs ++ ys)
hears-append [] gs xs ys p q = subst (λ l. Hears gs (l ++ ys)) (sym p) q
hears-append (h ∷ hs) gs xs ys p q = (
  p.0,
  p.1 ++ ys,
  record {
    fits = p.2.fits;
    bytes_are = ap (λ l. l ++ ys) p.2.bytes_are
        ∙ append_assoc (frame p.0) p.1 ys;
  },
  p.3,
  hears-append hs gs p.1 ys p.4 q,
)

-- what a framer does with the rest, where it found no fault, and where it found one
is_held : (o : Option Fault) (held rest : List ℕ) → o ≡ None
    → MatchOption o ((held ≡ rest) × HasNoFrame rest) (λ g. (held ≡ []) × IsFaulty rest g) → held ≡ rest
is_held None held rest e p = p.0
is_held (Some g) held rest e p = absurd cc

is_faulty : (o : Option Fault) (f : Fault) (held rest : List ℕ) → o ≡ Some f
    → MatchOption o ((held ≡ rest) × HasNoFrame rest) (λ g. (held ≡ []) × IsFaulty rest g) → IsFaulty rest f
is_faulty None f held rest e p = absurd cc
is_faulty (Some g) f held rest e p = let same : g ≡ f = cc in subst (IsFaulty rest) same p.1

-- the next piece, where no fault was found before it
then_hears : (bytes piece : List ℕ) (hs gs : List Heard) (old new : Fed) → HasHeard bytes hs old → old.fault ≡ None
    → HasHeard (old.held ++ piece) gs new → HasHeard (bytes ++ piece) (hs ++ gs) new
then_hears bytes piece hs gs old new p sound q =
    let held : old.held ≡ p.rest = is_held old.fault old.held p.rest sound p.left in
    record {
      front = p.front ++ q.front;
      rest = q.rest;
      hears = hears-append hs gs p.front q.front p.hears q.hears;
      bytes_are = ap (λ l. l ++ piece) p.bytes_are ∙ append_assoc p.front p.rest piece
          ∙ ap (λ l. p.front ++ (l ++ piece)) (sym held) ∙ ap (λ l. p.front ++ l) q.bytes_are
          ∙ sym (append_assoc p.front q.front q.rest);
      left = q.left;
    }

-- a faulty frame is that however the bytes go on
faulty-append : (rest piece : List ℕ) (f : Fault) → IsFaulty rest f → IsFaulty (rest ++ piece) f
faulty-append rest piece f p = record {
  message = p.message;
  rest = p.rest ++ piece;
  whole = record {
    fits = p.whole.fits;
    bytes_are = ap (λ l. l ++ piece) p.whole.bytes_are
        ∙ append_assoc (frame p.message) p.rest piece;
  };
  fault = p.fault;
}

stays_left : (o : Option Fault) (f : Fault) (held rest piece : List ℕ) → o ≡ Some f
    → MatchOption o ((held ≡ rest) × HasNoFrame rest) (λ g. (held ≡ []) × IsFaulty rest g)
    → MatchOption o ((held ≡ rest ++ piece) × HasNoFrame (rest ++ piece)) (λ g. (held ≡ [])
    × IsFaulty (rest ++ piece) g)
stays_left None f held rest piece e p = absurd cc
stays_left (Some g) f held rest piece e p = (p.0, faulty-append rest piece g p.1)

-- the next piece, where a fault was found before it
then_stays : (bytes piece : List ℕ) (hs : List Heard) (fed : Fed) (f : Fault) → HasHeard bytes hs fed
    → fed.fault ≡ Some f → HasHeard (bytes ++ piece) hs fed
then_stays bytes piece hs fed f p kept = record {
  front = p.front;
  rest = p.rest ++ piece;
  hears = p.hears;
  bytes_are = ap (λ l. l ++ piece) p.bytes_are ∙ append_assoc p.front p.rest piece;
  left = stays_left fed.fault f fed.held p.rest piece kept p.left;
}

-- a fault that a framer keeps is one of a message, and so not want of memory
is_of_message : (f : Fault) (rest : List ℕ) → IsFaulty rest f → (fault_number f == 60) ≡ false
is_of_message f rest p = let small : fault_number f ≤ 8 = (message_tells p.message).refused f p.fault in
    grind (arith, nat_tests)

refused_step : (bytes piece : List ℕ) (hs : List Heard) (old new : Fed) (f : Fault) → HasHeard bytes hs old
    → Refuses old piece f new → HasHeard (bytes ++ cond (fault_number f == 60) [] piece) hs new
refused_step bytes piece hs old new f p (inl (kept, same)) =
    let other = is_of_message f p.rest (is_faulty old.fault f old.held p.rest kept p.left) in
    subst (λ (n : Fed). HasHeard (bytes ++ cond (fault_number f == 60) [] piece) hs n) (sym same)
    (subst (λ (b : Bool). HasHeard (bytes ++ cond b [] piece) hs old) (sym other)
    (then_stays bytes piece hs old f p kept))
refused_step bytes piece hs old new f p (inr (inl (sound, memory, same))) =
    subst (λ (n : Fed). HasHeard (bytes ++ cond (fault_number f == 60) [] piece) hs n) (sym same)
    (subst (λ (g : Fault). HasHeard (bytes ++ cond (fault_number g == 60) [] piece) hs old) (sym memory)
    (subst (λ l. HasHeard l hs old) (sym (append-nil bytes)) p))
refused_step bytes piece hs old new f p (inr (inr finds)) =
    let other = is_of_message f finds.has_heard.rest
    (is_faulty new.fault f new.held finds.has_heard.rest finds.kept finds.has_heard.left) in
    subst (λ (b : Bool). HasHeard (bytes ++ cond b [] piece) hs new) (sym other)
    (subst (λ gs. HasHeard (bytes ++ piece) gs new) (append-nil hs)
    (then_hears bytes piece hs [] old new p finds.sound finds.has_heard))

runs : (calls : List Call) (bytes : List ℕ) (hs : List Heard) (old new : Fed) → HasHeard bytes hs old
    → Runs old calls new → HasHeard (bytes ++ came calls) (hs ++ answered calls) new
runs [] bytes hs old new p same =
    subst (λ (n : Fed). HasHeard (bytes ++ []) (hs ++ []) n) (sym same)
    (subst (λ l. HasHeard l (hs ++ []) old) (sym (append-nil bytes))
    (subst (λ gs. HasHeard bytes gs old) (sym (append-nil hs)) p))
runs (Answered piece gs ∷ calls) bytes hs old new p (mid, step, rest) =
    let next = runs calls (bytes ++ piece) (hs ++ gs) mid new
    (then_hears bytes piece hs gs old mid p step.sound step.has_heard) rest in
    subst (λ l. HasHeard l (hs ++ (gs ++ answered calls)) new) (append_assoc bytes piece (came calls))
    (subst (λ ks. HasHeard ((bytes ++ piece) ++ came calls) ks new) (append_assoc hs gs (answered calls)) next)
runs (Refused piece f ∷ calls) bytes hs old new p (mid, step, rest) =
    let next = runs calls (bytes ++ cond (fault_number f == 60) [] piece) hs mid new
    (refused_step bytes piece hs old mid f p step) rest in
    subst (λ l. HasHeard l (hs ++ answered calls) new)
    (append_assoc bytes (cond (fault_number f == 60) [] piece) (came calls)) next

start : HasHeard [] [] unfed
start = record {
  front = [];
  rest = [];
  hears = refl;
  bytes_are = refl;
  left = (refl, λ message rest whole. let e : [] ≡ frame message ++ rest = whole.bytes_are in absurd cc);
}

pub any_pieces_heard : (calls : List Call) (fed : Fed) → Runs unfed calls fed
    → HasHeard (came calls) (answered calls) fed
any_pieces_heard calls fed r = runs calls [] [] unfed fed start r

-- no further message is heard of what is left
ends_hearing : (o : Option Fault) (held rest : List ℕ)
    → MatchOption o ((held ≡ rest) × HasNoFrame rest) (λ f. (held ≡ []) × IsFaulty rest f) → EndsHearing rest
ends_hearing None held rest (same, none) = λ message after h whole is. none message after whole
ends_hearing (Some f) held rest (empty, p) = λ message after h whole is.
    let one = same_frame message p.message after p.rest whole.fits p.whole.fits
    (sym whole.bytes_are ∙ p.whole.bytes_are) in
    let fault : message_at message ≡ Err f = ap message_at one.0 ∙ p.fault in
    absurd cc

pub any_pieces_only : (calls : List Call) (fed : Fed) (hs : List Heard) (front rest : List ℕ) → Runs unfed calls fed
    → Hears hs front → EndsHearing rest → came calls ≡ front ++ rest → answered calls ≡ hs
any_pieces_only calls fed hs front rest r hears ends is =
    let p = any_pieces_heard calls fed r in
    (unique_frames (answered calls) hs p.front front p.rest rest p.hears hears
    (ends_hearing fed.fault fed.held p.rest p.left) ends (sym p.bytes_are ∙ is)).0
