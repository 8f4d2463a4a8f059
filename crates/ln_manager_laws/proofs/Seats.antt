-- What holds of a link and its end over every list of calls.
use Rattle.std.proofs.Common.{◌≡◌, ℕ, List, [], ◌∷◌, refl, sym, ◌∙◌, subst, Bool, true, false, cond, Option, Some}
use Rattle.std.proofs.Common.{None, Result, Ok, Err, IfSome}
use Rattle.std.specs.Prelude.{option_map}
use Rattle.ln_refusals.specs.declared.refusal.Refusal.{Refusal}
use Rattle.ln_keys.specs.Signer.{Signer}
use Rattle.ln_channel.specs.End.{End, end_dropped}
use Rattle.ln_channel.specs.Record.{saved_end}
use Rattle.ln_channel.specs.declared.config.Config.{Config}
use Rattle.ln_channel.specs.declared.config.OpenSpec.{OpenSpec}
use Rattle.ln_channel.specs.declared.machine.ConnectionState.TheVariants as connection
use Rattle.ln_channel.specs.declared.machine.Stage.TheVariants as stage
use Rattle.ln_channel.specs.Failing.{fails}
use Rattle.ln_channel.specs.State.{State, drops, cut, is_down, refused, unless_failed, fails_by, failed}
use Rattle.ln_channel.specs.Step.{Done, commanded, connected}
use Rattle.ln_link.specs.Calls.{left_by}
use Rattle.ln_link.specs.Saving.{handled_beside}
use Rattle.ln_payment_circuits.specs.Snapshot.{IsFit}
use Rattle.ln_payment_circuits.proofs.Fitting.{fit_shift, fit_based, fit_dropped}
use Rattle.ln_manager_laws.specs.Calls.{Seat, working, begun_seat, Call, SetKeys, NameFunding, Handle, Command, Connect}
use Rattle.ln_manager_laws.specs.Calls.{DropConnection, Halt, Load, connected_by, made, seated, loaded, called}
use Rattle.ln_manager_laws.specs.Calls.{all_called}
use Rattle.ln_manager_laws.proofs.Turns.{Becomes, Stays, Opens, Turns, IsReady, Goes, message_goes}
use Rattle.ln_manager_laws.proofs.Turns.{command_goes, connection_goes, naming_goes, cut_so}

abbrev pub AreFitEnds : Option End → Type 0
AreFitEnds o = IfSome o IsFit

-- ---- an end

become_fit : (P : Type 0) (o p : Option End) → Becomes P o p → AreFitEnds o → AreFitEnds p
become_fit P o p (Stays is) h = subst AreFitEnds (sym is) h
become_fit P o p (Opens e new fit was is) h = subst AreFitEnds (sym is) (fit_based e fit)
become_fit P o p (Turns e f x plain channel was is) h =
    subst AreFitEnds (sym is) (fit_based f (fit_shift e f (subst AreFitEnds was h) x))

pub dropped_fit : (o : Option End) → AreFitEnds o → AreFitEnds (option_map end_dropped o)
dropped_fit None h = h
dropped_fit (Some e) h = fit_dropped e h

-- ---- a link

-- while it works, its end is the seat's
pub record IsSound {K : Type 0} (x : Seat K) : Type 0 where
  pub fit : AreFitEnds x.end
  pub works : x.link.halted ≡ false → (x.end ≡ saved_end x.link.stage) × IsReady x.link.stage

-- any id
abbrev Any : List ℕ → Type 0
Any id = Unit {0}

-- a link that goes on works
abbrev IsNext : {K : Type 0} → State K → State K → Type 0
IsNext l l' = AreFitEnds (saved_end l.stage) → AreFitEnds (saved_end l'.stage) × IsReady l'.stage

next_of : {K : Type 0} (P : Type 0) (O : List ℕ → Type 0) (l l' : State K) → Goes P O l l' → IsNext l l'
next_of P O l l' g h = (become_fit P (saved_end l.stage) (saved_end l'.stage) g.becomes h, g.ready)

dropped_next : {K : Type 0} (l : State K) → IsReady l.stage → IsNext l (drops l)
dropped_next l ready h = by_line (is_down l.connection)
  where
    by_line : (b : Bool)
        → AreFitEnds (saved_end (cond b l (record l { connection = connection.Down; stage = cut l.stage })).stage)
        × IsReady (cond b l (record l { connection = connection.Down; stage = cut l.stage })).stage
    by_line true = (h, ready)
    by_line false =
        let k = cut_so l.stage in (subst AreFitEnds (sym k.end) (dropped_fit (saved_end l.stage) h), k.ready)

made_next : {K : Type 0} (signer : K → Signer) (k : Call K) (l : State K) → IsReady l.stage → IsNext l (made signer k l)
made_next signer (SetKeys keys) l ready = λ h. (h, ready)
made_next signer (NameFunding txid output) l ready = next_of ⊥ Any l _ (naming_goes ⊥ Any txid output l ready)
made_next signer (Handle known m) l ready =
    next_of ⊥ Any l _ (message_goes ⊥ Any (signer l.keys) known m l ready (λ new id is. tt))
made_next signer (Command c) l ready =
    next_of ⊥ Any l _ (command_goes ⊥ Any (signer l.keys) c l ready (λ p. absurd p))
made_next signer Connect l ready = next_of ⊥ Any l _ (connection_goes ⊥ Any (signer l.keys) l ready)
made_next signer DropConnection l ready = dropped_next l ready
made_next signer (Halt left) l ready = λ h. (h, ready)
made_next signer (Load keys failure) l ready = λ h. (h, ready)

-- ---- a seat

seated_sound : {K : Type 0} (x : Seat K) (l : State K) → IsSound x → (l.halted ≡ x.link.halted)
    → (x.link.halted ≡ false → IsNext x.link l) → IsSound (seated x l)
seated_sound x l s same next = by_halted x.link.halted refl
  where
    by_halted : (b : Bool) → x.link.halted ≡ b → IsSound (cond b (record x { link = l }) (working l))
    by_halted true is = record {
      fit = s.fit;
      works = λ now. let no : true ≡ false = sym is ∙ sym same ∙ now in absurd (cc);
    }
    by_halted false is =
        let w = s.works is in
        let n = next is (subst AreFitEnds w.0 s.fit) in
        record { fit = n.0; works = λ now. (refl, n.1) }

-- ---- no call but a halt halts a link

refused_halted : {K : Type 0} (r : Refusal) (l : State K) → (refused r l).halted ≡ l.halted
refused_halted r l = by_halted l.halted
  where
    by_fault : (b : Bool) → (cond b (failed r l) l).halted ≡ l.halted
    by_fault true = refl
    by_fault false = refl

    by_failure : (o : Option Refusal) → (unless_failed o l (fails_by r l)).halted ≡ l.halted
    by_failure None = by_fault (fails r)
    by_failure (Some f) = refl

    by_halted : (b : Bool) → (cond b l (unless_failed l.failure l (fails_by r l))).halted ≡ l.halted
    by_halted true = refl
    by_halted false = by_failure l.failure

left_halted : {K : Type 0} (row : Result Done Refusal) (refusing : Refusal → State K) (l : State K)
    → ((r : Refusal) → (refusing r).halted ≡ l.halted) → (left_by row refusing l).halted ≡ l.halted
left_halted (Ok d) refusing l none = refl
left_halted (Err r) refusing l none = none r

connected_halted : {K : Type 0} (row : Result Done Refusal) (l : State K) → (connected_by row l).halted ≡ l.halted
connected_halted (Ok d) l = refl
connected_halted (Err r) l = refl

dropped_halted : {K : Type 0} (l : State K) → (drops l).halted ≡ l.halted
dropped_halted l = by_line (is_down l.connection)
  where
    by_line : (b : Bool)
        → (cond b l (record l { connection = connection.Down; stage = cut l.stage })).halted ≡ l.halted
    by_line true = refl
    by_line false = refl

pub made_halted : {K : Type 0} (signer : K → Signer) (k : Call K) (l : State K) → (made signer k l).halted ≡ l.halted
made_halted signer (SetKeys keys) l = refl
made_halted signer (NameFunding txid output) l = refl
made_halted signer (Handle known m) l =
    left_halted (handled_beside known (signer l.keys) l m) (λ r. refused r l) l (λ r. refused_halted r l)
made_halted signer (Command c) l = left_halted (commanded (signer l.keys) l c) (λ r. l) l (λ r. refl)
made_halted signer Connect l = connected_halted (connected (signer l.keys) l) l
made_halted signer DropConnection l = dropped_halted l
made_halted signer (Halt left) l = refl
made_halted signer (Load keys failure) l = refl

-- ---- every call, and every list of them

made_sound : {K : Type 0} (signer : K → Signer) (k : Call K) (x : Seat K) → IsSound x
    → IsSound (seated x (made signer k x.link))
made_sound signer k x s =
    seated_sound x (made signer k x.link) s (made_halted signer k x.link)
    (λ works. made_next signer k x.link (s.works works).1)

loaded_sound : {K : Type 0} (keys : K) (failure : Option Refusal) (o : Option End) (x : Seat K) → IsSound x
    → AreFitEnds o → IsSound (loaded keys failure o x)
loaded_sound keys failure (Some e) x s fit = record { fit = fit_dropped e fit; works = λ now. (refl, tt) }
loaded_sound keys failure None x s fit = s

pub called_sound : {K : Type 0} (signer : K → Signer) (k : Call K) (x : Seat K) → IsSound x
    → IsSound (called signer k x)
called_sound signer (SetKeys keys) x s = made_sound signer (SetKeys keys) x s
called_sound signer (NameFunding txid output) x s = made_sound signer (NameFunding txid output) x s
called_sound signer (Handle known m) x s = made_sound signer (Handle known m) x s
called_sound signer (Command c) x s = made_sound signer (Command c) x s
called_sound signer Connect x s = made_sound signer Connect x s
called_sound signer DropConnection x s = made_sound signer DropConnection x s
called_sound signer (Halt left) x s = record {
  fit = dropped_fit x.end s.fit;
  works = λ now. absurd (cc);
}
called_sound signer (Load keys failure) x s = loaded_sound keys failure x.end x s s.fit

all_sound : {K : Type 0} (signer : K → Signer) (ks : List (Call K)) (x : Seat K) → IsSound x
    → IsSound (all_called signer ks x)
all_sound signer [] x s = s
all_sound signer (k ∷ ks) x s = all_sound signer ks (called signer k x) (called_sound signer k x s)

-- ---- from the beginning

pub funder_fit : {K : Type 0} (signer : K → Signer) (ks : List (Call K)) (keys : K) (s : OpenSpec)
    → AreFitEnds (all_called signer ks (begun_seat keys (stage.AwaitsAccept s))).end
funder_fit signer ks keys s =
    (all_sound signer ks (begun_seat keys (stage.AwaitsAccept s)) (record { fit = tt; works = λ now. (refl, tt) })).fit

pub fundee_fit : {K : Type 0} (signer : K → Signer) (ks : List (Call K)) (keys : K) (c : Config)
    → AreFitEnds (all_called signer ks (begun_seat keys (stage.AwaitsOpen c))).end
fundee_fit signer ks keys c =
    (all_sound signer ks (begun_seat keys (stage.AwaitsOpen c)) (record { fit = tt; works = λ now. (refl, tt) })).fit
