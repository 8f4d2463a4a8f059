-- A side of the machine that has closed tells nothing more: every commitment covers every update, so nothing newly
-- held can come, and no HTLC is live, so nothing can be proposed.
use Rattle.std.proofs.Common.{◌≡◌, ℕ, ◌+◌, List, [], ◌∷◌, ◌++◌, length, drop, refl, sym, ap, ◌∙◌, subst}
use Rattle.std.proofs.Common.{Bool, true, false, Option, Some, None, option_map}
use Rattle.std.specs.List.{cons_option}
use Rattle.ln_keys.specs.declared.role.Role.{Role}
use Rattle.ln_keys.specs.declared.role.Role.TheVariants.{Funder, Fundee}
use Rattle.ln_keys.specs.Role.{other_role}
use Rattle.ln_keys.specs.Signer.{Signer}
use Rattle.ln_log.specs.declared.opening.Opening.{Opening}
use Rattle.ln_log.specs.declared.update.Add.{Add}
use Rattle.ln_log.specs.declared.update.Update.{Update as Change}
use Rattle.ln_log.specs.declared.update.Update.TheVariants as update
use Rattle.ln_log.specs.Machine as machine
use Rattle.ln_log.specs.Machine.{Covered, Party, Machine, Move, Open, Propose, Sign, Accept, Learn, Drop, Shut, Close}
use Rattle.ln_log.specs.Machine.{party, with_party, moved, after, after_accept, after_learn, after_drop}
use Rattle.ln_log.specs.Machine.{after_propose, after_sign, after_shut, MayFollow, MayPropose, MaySign}
use Rattle.ln_log.specs.Machine.{MayClose, MayMove, IsRun}
use Rattle.ln_log.specs.Events.{Event, ClosedAt, held_events, grown, accept_events, learn_events, if_own, move_events}
use Rattle.ln_log.specs.Events.{events}
use Rattle.ln_log.specs.View.{live_adds}
use Rattle.ln_hooks.specs.Amount.{bounded}
use Rattle.ln_hooks.specs.declared.event.ChannelEvent.{ChannelEvent}
use Rattle.ln_hooks.specs.declared.event.ChannelEvent.TheVariants as event
use Rattle.ln_channel.specs.declared.config.Config.{Config}
use Rattle.ln_channel.specs.declared.config.OpenSpec.{OpenSpec}
use Rattle.ln_channel.specs.declared.opening.Opened.{Opened}
use Rattle.ln_channel.specs.declared.output.Output.{Output}
use Rattle.ln_channel.specs.declared.output.Output.TheVariants as output
use Rattle.ln_channel.specs.Meeting.{Opens}
use Rattle.ln_channel.specs.Outputs.{numbered}
use Rattle.ln_channel_laws.specs.Ends.{Step, opened, run}
use Rattle.ln_keys.specs.Partners.{ArePartners}
use Rattle.ln_channel_laws.specs.Moves.{machine_of, history}
use Rattle.ln_channel_laws.specs.Told.{as_told, events_in, all_told, is_closing, ClosesLast, unnumbered}
use Rattle.ln_channel_laws.proofs.All.{All}
use Rattle.ln_channel_laws.proofs.Flight.Sides.{opens}
use Rattle.ln_channel_laws.proofs.Closing.NothingMoves.{removes_none}
use Rattle.ln_channel_laws.proofs.Machine.RunMoves.{may_be_made}
use Rattle.ln_channel_laws.proofs.Events.EventsOverRuns.{events_so}
use Rattle.ln_channel_laws.proofs.Events.EventLists.{told_append}

-- ---- two parties of which one has closed

abbrev all : List Change → List Change → Covered
all own peer = record { own = own; peer = peer }

-- both have shut down, each of their commitments covers every update, and no HTLC is live
record Over (own peer : List Change) (a b c d e f : Covered) (s t : Bool) : Type 0 where
  signed : a ≡ all own peer
  current : b ≡ all own peer
  acknowledged : c ≡ all own peer
  peer_signed : d ≡ all peer own
  peer_current : e ≡ all peer own
  peer_acknowledged : f ≡ all peer own
  shut : s ≡ true
  peer_shut : t ≡ true
  none_live : live_adds own peer ≡ []
  none_live_of_the_peer : live_adds peer own ≡ []

abbrev IsOver : Party → Party → Type 0
IsOver x y = Over x.own y.own x.signed x.current x.acknowledged y.signed y.current y.acknowledged x.shut y.shut

turned : (x y : Party) → IsOver x y → IsOver y x
turned x y h = record {
  signed = h.peer_signed;
  current = h.peer_current;
  acknowledged = h.peer_acknowledged;
  peer_signed = h.signed;
  peer_current = h.current;
  peer_acknowledged = h.acknowledged;
  shut = h.peer_shut;
  peer_shut = h.shut;
  none_live = h.none_live_of_the_peer;
  none_live_of_the_peer = h.none_live;
}

over : (x y : Party) → MayClose x y → IsOver x y
over x y m = record {
  signed = m.own_covered.signed;
  current = m.own_covered.current;
  acknowledged = m.own_covered.acknowledged;
  peer_signed = m.peer_covered.signed;
  peer_current = m.peer_covered.current;
  peer_acknowledged = m.peer_covered.acknowledged;
  shut = m.shut;
  peer_shut = m.peer_shut;
  none_live = m.none_live;
  none_live_of_the_peer = m.none_live_of_the_peer;
}

-- ---- what x can still do then

follows : (u : Change) → MayFollow true u → opens u ≡ false
follows (update.Add a) h = absurd (cc)
follows (update.Fulfil f) h = refl
follows (update.Fail f) h = refl
follows (update.Malformed m) h = refl
follows (update.Fee f) h = absurd (cc)

no_proposal : (o : Opening) (r : Role) (u : Change) (x y : Party) → IsOver x y → MayPropose o r u x → ⊥
no_proposal o r u x y h m =
    removes_none o r x.own x.current.peer x.acknowledged.peer u
    (subst (λ (c : Covered). live_adds c.peer x.own ≡ []) (sym h.acknowledged) h.none_live_of_the_peer)
    (follows u (subst (λ s. MayFollow s u) h.shut m.open_still)) m.within

no_signature : (x y : Party) → IsOver x y → MaySign x → ⊥
no_signature x y h m = m.new (h.signed ∙ ap (λ (c : Covered). all x.own c.peer) (sym h.current))

accepted : (x y : Party) → IsOver x y → IsOver (after_accept y x) y
accepted x y h =
    subst (λ c. Over x.own y.own x.signed c x.acknowledged y.signed y.current y.acknowledged x.shut y.shut)
    (h.current ∙ sym (ap machine.turned h.peer_signed)) h

learned : (x y : Party) → IsOver x y → IsOver (after_learn y x) y
learned x y h =
    subst (λ c. Over x.own y.own x.signed x.current c y.signed y.current y.acknowledged x.shut y.shut)
    (h.acknowledged ∙ sym (ap machine.turned h.peer_current)) h

dropped : (x y : Party) → IsOver x y → IsOver (after_drop x) y
dropped x y h =
    subst (λ us. Over us y.own x.signed x.current x.acknowledged y.signed y.current y.acknowledged x.shut y.shut)
    (sym (ap (λ (c : Covered). c.own) h.signed)) h

shut : (x y : Party) → IsOver x y → IsOver (after_shut x) y
shut x y h =
    subst (λ s. Over x.own y.own x.signed x.current x.acknowledged y.signed y.current y.acknowledged s y.shut)
    h.shut h

abbrev AreOver : Machine → Type 0
AreOver m = IsOver m.funder m.fundee

stays : (move : Move) (m : Machine) → MayMove move (Some m) → AreOver m → AreOver (moved move m)
stays (Open o) m may h = absurd may
stays (Propose Funder u) m may h = absurd (no_proposal m.opening Funder u m.funder m.fundee h may)
stays (Propose Fundee u) m may h =
    absurd (no_proposal m.opening Fundee u m.fundee m.funder (turned m.funder m.fundee h) may)
stays (Sign Funder) m may h = absurd (no_signature m.funder m.fundee h may)
stays (Sign Fundee) m may h = absurd (no_signature m.fundee m.funder (turned m.funder m.fundee h) may)
stays (Accept Funder) m may h = accepted m.funder m.fundee h
stays (Accept Fundee) m may h =
    turned (after_accept m.funder m.fundee) m.funder (accepted m.fundee m.funder (turned m.funder m.fundee h))
stays (Learn Funder) m may h = learned m.funder m.fundee h
stays (Learn Fundee) m may h =
    turned (after_learn m.funder m.fundee) m.funder (learned m.fundee m.funder (turned m.funder m.fundee h))
stays (Drop Funder) m may h = dropped m.funder m.fundee h
stays (Drop Fundee) m may h =
    turned (after_drop m.fundee) m.funder (dropped m.fundee m.funder (turned m.funder m.fundee h))
stays (Shut Funder) m may h = shut m.funder m.fundee h
stays (Shut Fundee) m may h =
    turned (after_shut m.fundee) m.funder (shut m.fundee m.funder (turned m.funder m.fundee h))
stays (Close Funder fee) m may h = h
stays (Close Fundee fee) m may h = h

-- ---- what x tells then

drop_all : (us : List Change) → drop (length us) us ≡ []
drop_all [] = refl
drop_all (u ∷ us) = drop_all us

accepts_none : (x y : Party) → IsOver x y → accept_events x (after_accept y x) ≡ []
accepts_none x y h =
    ap (λ (c : Covered). held_events true (grown c.own y.signed.peer)) h.current
    ∙ ap (λ (c : Covered). held_events true (grown x.own c.peer)) h.peer_signed
    ∙ ap (held_events true) (drop_all x.own)

learns_none : (x y : Party) → IsOver x y → learn_events x (after_learn y x) ≡ []
learns_none x y h =
    ap (λ (c : Covered). held_events false (grown c.peer y.current.own)) h.acknowledged
    ∙ ap (λ (c : Covered). held_events false (grown y.own c.own)) h.peer_current
    ∙ ap (held_events false) (drop_all y.own)

silent : (r : Role) (move : Move) (m : Machine) (fee : ℕ) → (party r m).closed ≡ Some fee → MayMove move (Some m)
    → AreOver m → move_events r move m ≡ []
silent r (Open o) m fee is may h = refl
silent r (Propose y u) m fee is may h = refl
silent r (Sign y) m fee is may h = refl
silent Funder (Accept Funder) m fee is may h = accepts_none m.funder m.fundee h
silent Funder (Accept Fundee) m fee is may h = refl
silent Fundee (Accept Funder) m fee is may h = refl
silent Fundee (Accept Fundee) m fee is may h = accepts_none m.fundee m.funder (turned m.funder m.fundee h)
silent Funder (Learn Funder) m fee is may h = learns_none m.funder m.fundee h
silent Funder (Learn Fundee) m fee is may h = refl
silent Fundee (Learn Funder) m fee is may h = refl
silent Fundee (Learn Fundee) m fee is may h = learns_none m.fundee m.funder (turned m.funder m.fundee h)
silent r (Drop y) m fee is may h = refl
silent r (Shut y) m fee is may h = refl
silent Funder (Close Funder f) m fee is may h = absurd (let no : None ≡ Some fee = sym may.open_still ∙ is in cc)
silent Funder (Close Fundee f) m fee is may h = refl
silent Fundee (Close Funder f) m fee is may h = refl
silent Fundee (Close Fundee f) m fee is may h = absurd (let no : None ≡ Some fee = sym may.open_still ∙ is in cc)

-- ---- whether it has closed

closed_by : (r y : Role) (p : Party) (m : Machine) → p.closed ≡ (party y m).closed
    → (party r (with_party y p m)).closed ≡ (party r m).closed
closed_by Funder Funder p m e = e
closed_by Funder Fundee p m e = refl
closed_by Fundee Funder p m e = refl
closed_by Fundee Fundee p m e = e

still_closed : (r : Role) (move : Move) (m : Machine) (fee : ℕ) → (party r m).closed ≡ Some fee
    → MayMove move (Some m) → (party r (moved move m)).closed ≡ Some fee
still_closed r (Open o) m fee is may = is
still_closed r (Propose y u) m fee is may = closed_by r y (after_propose u (party y m)) m refl ∙ is
still_closed r (Sign y) m fee is may = closed_by r y (after_sign (party y m)) m refl ∙ is
still_closed r (Accept y) m fee is may =
    closed_by r y (after_accept (party (other_role y) m) (party y m)) m refl ∙ is
still_closed r (Learn y) m fee is may = closed_by r y (after_learn (party (other_role y) m) (party y m)) m refl ∙ is
still_closed r (Drop y) m fee is may = closed_by r y (after_drop (party y m)) m refl ∙ is
still_closed r (Shut y) m fee is may = closed_by r y (after_shut (party y m)) m refl ∙ is
still_closed Funder (Close Funder f) m fee is may = absurd (let no : None ≡ Some fee = sym may.open_still ∙ is in cc)
still_closed Funder (Close Fundee f) m fee is may = is
still_closed Fundee (Close Funder f) m fee is may = is
still_closed Fundee (Close Fundee f) m fee is may = absurd (let no : None ≡ Some fee = sym may.open_still ∙ is in cc)

after_some : (move : Move) (m : Machine) → after move (Some m) ≡ Some (moved move m)
after_some (Open o) m = refl
after_some (Propose x u) m = refl
after_some (Sign x) m = refl
after_some (Accept x) m = refl
after_some (Learn x) m = refl
after_some (Drop x) m = refl
after_some (Shut x) m = refl
after_some (Close x fee) m = refl

nothing_more : (r : Role) (ms : List Move) (m : Machine) (new : Option Machine) (fee : ℕ) → IsRun ms (Some m) new
    → (party r m).closed ≡ Some fee → AreOver m → events r ms (Some m) ≡ []
nothing_more r [] m new fee run is h = refl
nothing_more r (move ∷ ms) m new fee run is h =
    let same = after_some move m in
    ap (λ es. es ++ events r ms (after move (Some m))) (silent r move m fee is run.0 h)
    ∙ ap (events r ms) same
    ∙ nothing_more r ms (moved move m) new fee (subst (λ s. IsRun ms s new) same run.1)
    (still_closed r move m fee is run.0) (stays move m run.0 h)

-- ---- until it closes

abbrev NoneCloses : List ChannelEvent → Type 0
NoneCloses es = All (λ e. is_closing e ≡ false) es

behind : (es fs : List ChannelEvent) → NoneCloses es → ClosesLast fs → ClosesLast (es ++ fs)
behind [] fs h k = k
behind (e ∷ es) fs h k = ((λ is. absurd (let no : false ≡ true = sym h.0 ∙ is in cc)), behind es fs h.1 k)

added_open : (o : Option ℕ) (own : Bool) (a : Add) (es : List ChannelEvent) → NoneCloses es
    → NoneCloses (cons_option (option_map (λ n. event.Added own a.id n a.hash a.expiry a.onion) o) es)
added_open None own a es h = h
added_open (Some n) own a es h = (refl, h)

held_open : (own : Bool) (us : List Change) → NoneCloses (as_told (held_events own us))
held_open own [] = tt
held_open own (update.Add a ∷ us) =
    added_open (bounded a.amount) own a (as_told (held_events own us)) (held_open own us)
held_open own (update.Fulfil f ∷ us) = (refl, held_open own us)
held_open own (update.Fail f ∷ us) = (refl, held_open own us)
held_open own (update.Malformed m ∷ us) = (refl, held_open own us)
held_open own (update.Fee f ∷ us) = held_open own us

own_open : (r y : Role) (es : List Event) → NoneCloses (as_told es) → NoneCloses (as_told (if_own r y es))
own_open Funder Funder es h = h
own_open Funder Fundee es h = tt
own_open Fundee Funder es h = tt
own_open Fundee Fundee es h = h

told_behind : (es fs : List Event) → NoneCloses (as_told es) → ClosesLast (as_told fs)
    → ClosesLast (as_told (es ++ fs))
told_behind es fs h k = subst ClosesLast (sym (told_append es fs)) (behind (as_told es) (as_told fs) h k)

module _ (ms : List Move) (m : Machine) (new : Option Machine) where
  -- after this move
  abbrev Behind : Role → Move → Type 0
  Behind r move =
      IsRun ms (Some (moved move m)) new → (party r m).closed ≡ None
      → ((party r (moved move m)).closed ≡ None → ClosesLast (as_told (events r ms (Some (moved move m)))))
      → ClosesLast (as_told (move_events r move m ++ events r ms (Some (moved move m))))

  closed_now : (r : Role) (fee : ℕ) (next : Machine) → IsRun ms (Some next) new → (party r next).closed ≡ Some fee
      → AreOver next → ClosesLast (as_told (ClosedAt fee ∷ events r ms (Some next)))
  closed_now r fee next run is h =
      let rest = ap as_told (nothing_more r ms next new fee run is h) in
      ((λ e. rest), subst ClosesLast (sym rest) tt)

  one : (r : Role) (move : Move) → MayMove move (Some m) → Behind r move
  one r (Open o) may run none k = absurd may
  one r (Propose y u) may run none k = k (closed_by r y (after_propose u (party y m)) m refl ∙ none)
  one r (Sign y) may run none k = k (closed_by r y (after_sign (party y m)) m refl ∙ none)
  one r (Accept y) may run none k =
      let x = party y m in
      let n = after_accept (party (other_role y) m) x in
      let now = party y (moved (Accept y) m) in
      told_behind (if_own r y (accept_events x now)) (events r ms (Some (moved (Accept y) m)))
      (own_open r y (accept_events x now) (held_open true (grown x.current.own now.current.own)))
      (k (closed_by r y n m refl ∙ none))
  one r (Learn y) may run none k =
      let x = party y m in
      let n = after_learn (party (other_role y) m) x in
      let now = party y (moved (Learn y) m) in
      told_behind (if_own r y (learn_events x now)) (events r ms (Some (moved (Learn y) m)))
      (own_open r y (learn_events x now) (held_open false (grown x.acknowledged.peer now.acknowledged.peer)))
      (k (closed_by r y n m refl ∙ none))
  one r (Drop y) may run none k = k (closed_by r y (after_drop (party y m)) m refl ∙ none)
  one r (Shut y) may run none k = k (closed_by r y (after_shut (party y m)) m refl ∙ none)
  one Funder (Close Funder fee) may run none k =
      closed_now Funder fee (moved (Close Funder fee) m) run refl (over m.funder m.fundee may)
  one Funder (Close Fundee fee) may run none k = k none
  one Fundee (Close Funder fee) may run none k = k none
  one Fundee (Close Fundee fee) may run none k =
      closed_now Fundee fee (moved (Close Fundee fee) m) run refl
      (turned m.fundee m.funder (over m.fundee m.funder may))

closes_from : (r : Role) (ms : List Move) (m : Machine) (new : Option Machine) → IsRun ms (Some m) new
    → (party r m).closed ≡ None → ClosesLast (as_told (events r ms (Some m)))
closes_from r [] m new run none = tt
closes_from r (move ∷ ms) m new run none =
    let same = after_some move m in
    let rest : IsRun ms (Some (moved move m)) new = subst (λ s. IsRun ms s new) same run.1 in
    subst (λ s. ClosesLast (as_told (move_events r move m ++ events r ms s))) (sym same)
    (one ms m new r move run.0 rest none (closes_from r ms (moved move m) new rest))

-- over every run of the machine
pub closes_last : (r : Role) (ms : List Move) (new : Option Machine) → IsRun ms None new
    → ClosesLast (as_told (events r ms None))
closes_last r [] new run = tt
closes_last Funder (Open o ∷ ms) new run =
    closes_from Funder ms (record { opening = o; funder = machine.fresh; fundee = machine.fresh }) new run.1 refl
closes_last Fundee (Open o ∷ ms) new run =
    closes_from Fundee ms (record { opening = o; funder = machine.fresh; fundee = machine.fresh }) new run.1 refl
closes_last r (Propose x u ∷ ms) new run = absurd run.0
closes_last r (Sign x ∷ ms) new run = absurd run.0
closes_last r (Accept x ∷ ms) new run = absurd run.0
closes_last r (Learn x ∷ ms) new run = absurd run.0
closes_last r (Drop x ∷ ms) new run = absurd run.0
closes_last r (Shut x ∷ ms) new run = absurd run.0
closes_last r (Close x fee ∷ ms) new run = absurd run.0

-- ---- what is handed out

unnumbered_in : (os : List Output) → unnumbered (events_in os) ≡ unnumbered os
unnumbered_in [] = refl
unnumbered_in (output.Send m ∷ os) = unnumbered_in os
unnumbered_in (output.Signed n ∷ os) = unnumbered_in os
unnumbered_in (output.Committed own peer ∷ os) = unnumbered_in os
unnumbered_in (output.Event n e ∷ os) = ap (λ es. e ∷ es) (unnumbered_in os)
unnumbered_in (output.Closed fee ∷ os) = unnumbered_in os

unnumbered_so : (n : ℕ) (es : List ChannelEvent) → unnumbered (numbered n es) ≡ es
unnumbered_so n [] = refl
unnumbered_so n (e ∷ es) = ap (λ fs. e ∷ fs) (unnumbered_so (n + 1) es)

pub handed_last : (os : List Output) (es : List ChannelEvent) → events_in os ≡ numbered 0 es → ClosesLast es
    → ClosesLast (unnumbered os)
handed_last os es told h =
    subst ClosesLast (sym (sym (unnumbered_in os) ∙ ap unnumbered told ∙ unnumbered_so 0 es)) h

-- ---- two ends

pub moves_last : (a b : Signer) (s : OpenSpec) (c : Config) (funder fundee : Opened) (steps : List Step) (r : Role)
    → ArePartners a b → Opens a b s c funder fundee
    → ClosesLast (as_told (events r (history a b funder fundee steps) None))
moves_last a b s c funder fundee steps r keys o =
    closes_last r (history a b funder fundee steps) (Some (machine_of (run a b steps (opened funder fundee))))
    (may_be_made a b s c funder fundee steps keys o)

pub told_last : (a b : Signer) (s : OpenSpec) (c : Config) (funder fundee : Opened) (steps : List Step) (r : Role)
    → ArePartners a b → Opens a b s c funder fundee
    → ClosesLast (unnumbered (all_told a b r steps (opened funder fundee)))
told_last a b s c funder fundee steps r keys o =
    handed_last (all_told a b r steps (opened funder fundee))
    (as_told (events r (history a b funder fundee steps) None))
    (events_so a b s c funder fundee steps r keys o) (moves_last a b s c funder fundee steps r keys o)
