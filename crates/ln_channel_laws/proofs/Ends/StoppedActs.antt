-- An end that acts and then loses its connection, with all that it has sent in the act: of y, and of what is in flight
-- to it, everything is as it was before the act.
use Rattle.std.proofs.Common.{◌≡◌, ℕ, List, [], ◌∷◌, length, refl, sym, ap, ◌∙◌, subst, append-nil}
use Rattle.std.proofs.Common.{Bool, true, false, cond, Option, Some, None, Result, Ok, Err}
use Rattle.std.proofs.Math.Seq.{take-append_seam}
use Rattle.ln_msgs.specs.declared.messages.message.Message.{Message}
use Rattle.ln_refusals.specs.declared.refusal.Refusal.{Refusal}
use Rattle.ln_refusals.specs.declared.refusal.Refusal.TheVariants as refusal
use Rattle.ln_keys.specs.Signer.{Signer}
use Rattle.ln_channel.specs.declared.command.Command.{Command}
use Rattle.ln_channel.specs.declared.machine.ConnectionState.{ConnectionState}
use Rattle.ln_channel.specs.declared.machine.ConnectionState.TheVariants.{Down, AwaitingReestablish, Connected}
use Rattle.ln_channel.specs.Commands.{unready_fault}
use Rattle.ln_channel.specs.End.{End, Turn, end_dropped}
use Rattle.ln_channel.specs.State.{is_down}
use Rattle.ln_channel.specs.Step.{faulted}
use Rattle.ln_channel_laws.specs.Ends.{Ends, message_at, command_at, messages_in, arrive, answers, delivers, still_come}
use Rattle.ln_channel_laws.specs.Ends.{cuts}
use Rattle.ln_channel_laws.specs.Ends.{Act, Deliver, Give, Note, Lose, Cut, Save, acts}
use Rattle.ln_channel_laws.proofs.Flight.Sides.{Side, Notice}
use Rattle.ln_channel_laws.proofs.Flight.Walk.{InFlight}
use Rattle.ln_channel_laws.proofs.Flight.Images.{messages_of, side_of}
use Rattle.ln_channel_laws.proofs.Ends.Runs.{Sound}

-- ---- an end that waits has the peer's channel_reestablish in front

abbrev pub IsGreeted : ConnectionState → List Message → Type 0
IsGreeted l ms = l ≡ AwaitingReestablish → ms ≡ [] → ⊥

greeted_by : (lx l : ConnectionState) (x y : Side) (channel : List ℕ) (ns : List Notice) → InFlight lx l x y ns
    → IsGreeted l (messages_of channel ns)
greeted_by lx Down x y channel ns h is none = absurd (cc)
greeted_by lx Connected x y channel ns h is none = absurd (cc)
greeted_by lx AwaitingReestablish x y channel [] h is none = absurd h
greeted_by lx AwaitingReestablish x y channel (n ∷ ns) h is none = absurd (cc)

pub greeted : (a b : Signer) (q : Ends) → Sound a b q → IsGreeted q.y_line q.to_y
greeted a b q h =
    subst (IsGreeted q.y_line) (sym h.in_y)
    (greeted_by q.x_line q.y_line (side_of a q.x) (side_of b q.y) h.channel h.to_y h.hold.kept.there.flight)

-- ---- what an act leaves of the other end: what x sends joins what is in flight to it

pub record IsLeft (q r : Ends) : Type 0 where
  pub sent : List Message
  pub y_line : r.y_line ≡ q.y_line
  pub y : r.y ≡ q.y
  pub to_y : r.to_y ≡ arrive q.y_line sent q.to_y

-- x is told to do something, and has its connection as before
abbrev pub is_deed : Act → Bool
is_deed Deliver = true
is_deed (Give c) = true
is_deed (Note c) = true
is_deed Lose = false
is_deed (Cut n) = false
is_deed Save = true

nothing_sent : (l : ConnectionState) (ms : List Message) → ms ≡ arrive l [] ms
nothing_sent Down ms = refl
nothing_sent AwaitingReestablish ms = sym (append-nil ms)
nothing_sent Connected ms = sym (append-nil ms)

pub left_alone : (q : Ends) → IsLeft q q
left_alone q = record { sent = []; y_line = refl; y = refl; to_y = nothing_sent q.y_line q.to_y }

answers_leave : (r : Result Turn Refusal) (q : Ends) → IsLeft q (answers r q)
answers_leave (Ok t) q = record { sent = messages_in t.handed.sent; y_line = refl; y = refl; to_y = refl }
answers_leave (Err r) q = left_alone q

delivers_leave : (keys : Signer) (ms : List Message) (q : Ends) → IsLeft q (delivers keys ms q)
delivers_leave keys [] q = left_alone q
delivers_leave keys (m ∷ ms) q =
    let h = answers_leave (message_at keys q.x_line m q.x) (record q { to_x = ms }) in
    record { sent = h.sent; y_line = h.y_line; y = h.y; to_y = h.to_y }

pub deeds_leave : (keys : Signer) (a : Act) (q : Ends) → is_deed a ≡ true → IsLeft q (acts keys a q)
deeds_leave keys Deliver q is = delivers_leave keys q.to_x q
deeds_leave keys (Give c) q is = answers_leave (command_at keys q.x_line c q.x) q
deeds_leave keys (Note c) q is =
    record { sent = []; y_line = refl; y = refl; to_y = nothing_sent q.y_line q.to_y }
deeds_leave keys Lose q is = absurd (cc)
deeds_leave keys (Cut n) q is = absurd (cc)
deeds_leave keys Save q is =
    record { sent = []; y_line = refl; y = refl; to_y = nothing_sent q.y_line q.to_y }

-- ---- no deed makes a connection, or ends one

-- an end that is down refuses
abbrev RefusesAtDown : ConnectionState → Result Turn Refusal → Type 0
RefusesAtDown l r = l ≡ Down → (w : Refusal) × (r ≡ Err w)

answers_line : (l : ConnectionState) (r : Result Turn Refusal) (q : Ends) → q.x_line ≡ l → RefusesAtDown l r
    → is_down (answers r q).x_line ≡ is_down l
answers_line l (Err w) q e h = ap is_down e
answers_line AwaitingReestablish (Ok t) q e h = refl
answers_line Connected (Ok t) q e h = refl
answers_line Down (Ok t) q e h =
    let w = h refl in
    absurd (let no : Ok t ≡ Err w.0 = w.1 in cc)

faulted_so : (f : Option Refusal) (w : Refusal)
    → (v : Refusal) × (◌≡◌ {A = Result Turn Refusal} (faulted f (Err w)) (Err v))
faulted_so None w = (w, refl)
faulted_so (Some r) w = (r, refl)

message_down : (keys : Signer) (l : ConnectionState) (m : Message) (e : End) → RefusesAtDown l (message_at keys l m e)
message_down keys l m e is = (refusal.OutOfPlace, ap (λ n. message_at keys n m e) is)

command_down : (keys : Signer) (l : ConnectionState) (c : Command) (e : End) → RefusesAtDown l (command_at keys l c e)
command_down keys Down c e is = faulted_so (unready_fault c e) _
command_down keys AwaitingReestablish c e is = absurd (cc)
command_down keys Connected c e is = absurd (cc)

delivers_line : (keys : Signer) (ms : List Message) (q : Ends)
    → is_down (delivers keys ms q).x_line ≡ is_down q.x_line
delivers_line keys [] q = refl
delivers_line keys (m ∷ ms) q = answers_line q.x_line (message_at keys q.x_line m q.x) (record q { to_x = ms }) refl
    (message_down keys q.x_line m q.x)

pub deeds_line : (keys : Signer) (a : Act) (q : Ends) → is_deed a ≡ true
    → is_down (acts keys a q).x_line ≡ is_down q.x_line
deeds_line keys Deliver q is = delivers_line keys q.to_x q
deeds_line keys (Give c) q is = answers_line q.x_line (command_at keys q.x_line c q.x) q refl
    (command_down keys q.x_line c q.x)
deeds_line keys (Note c) q is = refl
deeds_line keys Lose q is = absurd (cc)
deeds_line keys (Cut n) q is = absurd (cc)
deeds_line keys Save q is = refl

-- ---- all that was sent is lost, and nothing else

-- how many still come, after the first where an end waits
abbrev count_behind : ConnectionState → List Message → ℕ
count_behind Down ms = 0
count_behind AwaitingReestablish [] = 0
count_behind AwaitingReestablish (m ∷ ms) = length ms
count_behind Connected ms = length ms

what_came : (l : ConnectionState) (sent ms : List Message) → IsGreeted l ms
    → still_come (count_behind l ms) l (arrive l sent ms) ≡ ms
what_came Down sent ms h = refl
what_came AwaitingReestablish sent [] h = absurd (h refl refl)
what_came AwaitingReestablish sent (m ∷ ms) h = ap (λ ns. m ∷ ns) (take-append_seam ms sent)
what_came Connected sent ms h = take-append_seam ms sent

-- x is cut off in r, and y is as in q: it has what was in flight to it in q, where this many messages still come
pub record IsCutOff (q r : Ends) : Type 0 where
  pub y_line : r.y_line ≡ q.y_line
  pub y : r.y ≡ q.y
  pub left : ℕ
  pub cut : cuts left r ≡ record r { to_y = q.to_y }

module _ (q r : Ends) (h : IsLeft q r) (g : IsGreeted q.y_line q.to_y) where
  comes : still_come (count_behind q.y_line q.to_y) r.y_line r.to_y ≡ q.to_y
  comes =
      let n = count_behind q.y_line q.to_y in
      ap (λ l. still_come n l r.to_y) h.y_line ∙ ap (still_come n q.y_line) h.to_y
      ∙ what_came q.y_line h.sent q.to_y g

  cut_by : (down : Bool) → is_down r.x_line ≡ down
      → IsCutOff q (cond down r (record r { x_line = Down; x = end_dropped r.x; to_x = [] }))
  cut_by true is = record {
    y_line = h.y_line;
    y = h.y;
    left = count_behind q.y_line q.to_y;
    cut = ap (λ b. cond b (record r { to_y = still_come (count_behind q.y_line q.to_y) r.y_line r.to_y }) r) is
        ∙ ap (λ ms. record r { to_y = ms }) comes;
  }
  cut_by false is = record {
    y_line = h.y_line;
    y = h.y;
    left = count_behind q.y_line q.to_y;
    cut = ap (λ ms. record r { x_line = Down; x = end_dropped r.x; to_x = []; to_y = ms }) comes;
  }

-- after the connection's loss
pub cut_off : (keys : Signer) (q r : Ends) → IsLeft q r → IsGreeted q.y_line q.to_y → IsCutOff q (acts keys Lose r)
cut_off keys q r h g = cut_by q r h g (is_down r.x_line) refl
