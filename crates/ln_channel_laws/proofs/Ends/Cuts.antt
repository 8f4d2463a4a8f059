-- A connection that was lost takes the last of what was sent with it: a beginning of what is in flight is left.
use Rattle.std.proofs.Common.{◌≡◌, ℕ, zero, suc, List, [], ◌∷◌, ◌++◌, take, drop, length, refl, sym, ap, subst}
use Rattle.std.proofs.Common.{append-nil, true}
use Rattle.std.proofs.lemmas.List.{take-append-drop}
use Rattle.ln_msgs.specs.declared.messages.message.Message.{Message}
use Rattle.ln_keys.specs.Signer.{Signer}
use Rattle.ln_channel.specs.declared.machine.ConnectionState.{ConnectionState}
use Rattle.ln_channel.specs.declared.machine.ConnectionState.TheVariants.{Down, AwaitingReestablish, Connected}
use Rattle.ln_channel.specs.End.{End}
use Rattle.ln_channel.specs.State.{is_down}
use Rattle.ln_close.specs.declared.closing.Fees.{Fees}
use Rattle.ln_channel_laws.specs.Ends.{still_come}
use Rattle.ln_channel_laws.proofs.Flight.Sides.{Side, Notice, Update, Sign, Revoke, Ready, Shutdown, Close, Again}
use Rattle.ln_channel_laws.proofs.Flight.Walk.{sender, holds, Anywhere, Carries, InFlight}
use Rattle.ln_channel_laws.proofs.Readiness.ReadinessInFlight.{AnyReadiness, readiness_of, CarriesReadiness}
use Rattle.ln_channel_laws.proofs.Readiness.ReadinessInFlight.{ReadinessFlight}
use Rattle.ln_channel_laws.proofs.Flight.Reading.{reads-front}
use Rattle.ln_channel_laws.proofs.Readiness.ReadinessOverActs.{readiness-front}
use Rattle.ln_channel_laws.proofs.Closing.ClosingInFlight.{closer, closes-front, ClosesFlow}
use Rattle.ln_channel_laws.proofs.Flight.Images.{message_of, messages_of, side_of}
use Rattle.ln_channel_laws.proofs.Ends.Acts.{Hold}

-- what is left, and what is lost after it
pub front : {A : Type 0} (n : ℕ) (l : ConnectionState) (ms : List A) → (ns : List A) × (still_come n l ms ++ ns ≡ ms)
front n Down ms = ([], append-nil ms)
front n AwaitingReestablish [] = ([], refl)
front n AwaitingReestablish (m ∷ ms) = (drop n ms, ap (λ os. m ∷ os) (take-append-drop n ms))
front n Connected ms = (drop n ms, take-append-drop n ms)

messages-take : (channel : List ℕ) (n : ℕ) (ns : List Notice)
    → take n (messages_of channel ns) ≡ messages_of channel (take n ns)
messages-take channel zero ns = refl
messages-take channel (suc n) [] = refl
messages-take channel (suc n) (m ∷ ns) = ap (λ ms. message_of channel m ∷ ms) (messages-take channel n ns)

pub messages_left : (channel : List ℕ) (n : ℕ) (l : ConnectionState) (ns : List Notice)
    → still_come n l (messages_of channel ns) ≡ messages_of channel (still_come n l ns)
messages_left channel n Down ns = refl
messages_left channel n AwaitingReestablish [] = refl
messages_left channel n AwaitingReestablish (m ∷ ns) = ap (λ ms. message_of channel m ∷ ms) (messages-take channel n ns)
messages_left channel n Connected ns = messages-take channel n ns

module _ (n : ℕ) (x y : Side) where
  carries_front : (ms : List Notice) → Carries Down x y ms → Carries Down x y (take n ms)
  carries_front ms h =
      reads-front (sender x) y.own (holds y) y.signed.own Anywhere y.got y.acked.own y.number y.revocations (take n ms)
      (drop n ms) (subst (Carries Down x y) (sym (take-append-drop n ms)) h)

  flight_front : (l : ConnectionState) (ms : List Notice) → InFlight Down l x y ms
      → InFlight Down l x y (still_come n l ms)
  flight_front Down ms h = h
  flight_front AwaitingReestablish [] h = absurd h
  flight_front AwaitingReestablish (Update u ∷ ms) h = absurd h
  flight_front AwaitingReestablish (Sign m ∷ ms) h = absurd h
  flight_front AwaitingReestablish (Revoke m ∷ ms) h = absurd h
  flight_front AwaitingReestablish (Ready m ∷ ms) h = absurd h
  flight_front AwaitingReestablish (Shutdown m ∷ ms) h = absurd h
  flight_front AwaitingReestablish (Close m ∷ ms) h = absurd h
  flight_front AwaitingReestablish (Again m ∷ ms) h = (h.0, carries_front ms h.1)
  flight_front Connected ms h = carries_front ms h

  speaks_front : (ms : List Notice) → CarriesReadiness Down x y ms → CarriesReadiness Down x y (take n ms)
  speaks_front ms h = readiness-front (readiness_of x y) AnyReadiness y.peer_ready y.peer_shut (take n ms) (drop n ms)
      (subst (CarriesReadiness Down x y) (sym (take-append-drop n ms)) h)

  speech_front : (l : ConnectionState) (ms : List Notice) → ReadinessFlight Down l x y ms
      → ReadinessFlight Down l x y (still_come n l ms)
  speech_front Down ms h = h
  speech_front AwaitingReestablish [] h = absurd h
  speech_front AwaitingReestablish (Update u ∷ ms) h = absurd h
  speech_front AwaitingReestablish (Sign m ∷ ms) h = absurd h
  speech_front AwaitingReestablish (Revoke m ∷ ms) h = absurd h
  speech_front AwaitingReestablish (Ready m ∷ ms) h = absurd h
  speech_front AwaitingReestablish (Shutdown m ∷ ms) h = absurd h
  speech_front AwaitingReestablish (Close m ∷ ms) h = absurd h
  speech_front AwaitingReestablish (Again m ∷ ms) h = speaks_front ms h
  speech_front Connected ms h = speaks_front ms h

  due_front : (k : Signer) (f : Fees) (l : ConnectionState) (ms : List Notice) → ClosesFlow k f x y ms
      → ClosesFlow k f x y (still_come n l ms)
  due_front k f l ms h =
      let lost = front n l ms in
      closes-front k f (closer x) y.revocations y.peer_shut (length y.got) (still_come n l ms) lost.0
      (subst (ClosesFlow k f x y) (sym lost.1) h)

-- x has no connection
pub cut_so : (a b : Signer) (channel : List ℕ) (n : ℕ) (lx ly : ConnectionState) (x y : End) (to_x to_y : List Notice)
    (said_x said_y : List Message) → is_down lx ≡ true → Hold a b channel lx ly x y to_x to_y said_x said_y
    → Hold a b channel lx ly x y to_x (still_come n ly to_y) said_x said_y
cut_so a b channel n AwaitingReestablish ly x y to_x to_y said_x said_y e h = absurd (cc)
cut_so a b channel n Connected ly x y to_x to_y said_x said_y e h = absurd (cc)
cut_so a b channel n Down ly x y to_x to_y said_x said_y e h =
    let f = h.kept.there in
    let t = h.told.there in
    record {
      kept = record {
        there = record {
          same = f.same;
          roles = f.roles;
          within = f.within;
          cut = f.cut;
          fit = f.fit;
          fit_signed = f.fit_signed;
          phase = f.phase;
          agree = f.agree;
          order = f.order;
          flight = flight_front n (side_of a x) (side_of b y) ly to_y f.flight;
        };
        back = h.kept.back;
      };
      told = record {
        there = record {
          ready_sent = t.ready_sent;
          shut_sent = t.shut_sent;
          used = t.used;
          used_signature = t.used_signature;
          used_number = t.used_number;
          shut = t.shut;
          flight = speech_front n (side_of a x) (side_of b y) ly to_y t.flight;
        };
        back = h.told.back;
      };
      ended = h.ended;
      ended_back = h.ended_back;
      closes = due_front n (side_of a x) (side_of b y) a x.closing.fees ly to_y h.closes;
      closes_back = h.closes_back;
      x_signs = h.x_signs;
      y_signs = h.y_signs;
      x_channel = h.x_channel;
      y_channel = h.y_channel;
      x_knows = h.x_knows;
      y_knows = h.y_knows;
      x_said = h.x_said;
      y_said = h.y_said;
    }
