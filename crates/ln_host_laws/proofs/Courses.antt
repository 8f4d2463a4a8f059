-- Every list of calls: step by step a host's link stays alike to one with the keys.
use Rattle.std.proofs.Common.{◌≡◌, refl, sym, ap, ◌∙◌, List, [], ◌∷◌, Bool, true, false, Option, Some, None}
use Rattle.std.proofs.Common.{Result, Ok, Err, if◌then◌else◌}
use Rattle.ln_refusals.specs.declared.refusal.Refusal.{Refusal}
use Rattle.ln_keys.specs.Signer.{Signer}
use Rattle.ln_channel.specs.declared.machine.ConnectionState.TheVariants as connection
use Rattle.ln_channel.specs.Failing.{fails}
use Rattle.ln_channel.specs.State.{State, refused, drops, is_down, unless_failed, fails_by, failed, cut}
use Rattle.ln_channel.specs.Step.{Done}
use Rattle.ln_host.specs.declared.keys.HostKeys.{HostKeys}
use Rattle.ln_host_laws.specs.Alike.{IsAlike}
use Rattle.ln_host_laws.specs.Filled.{filled_row}
use Rattle.ln_host_laws.specs.Course.{Step, Hears, Obeys, Connects, LosesConnection, Halts}
use Rattle.ln_host_laws.specs.Course.{unchanged, answer, left, outputs_of, told_by, host_answer, host_left, host_run}
use Rattle.ln_host_laws.specs.Course.{host_outputs, IsToldRight, AreToldRight, own_left, own_run, own_outputs}
use Rattle.ln_host_laws.specs.Course.{record_of}
use Rattle.ln_host_laws.proofs.Links.{over, is_over, message_law, command_law, connection_law}

-- ---- what becomes of a link doesn't depend on its keys, which stay

over_if : {A B : Type 0} (key : B) (b : Bool) (u v : State A) (u' v' : State B) → u' ≡ over key u → v' ≡ over key v
    → (if b then u' else v') ≡ over key (if b then u else v)
over_if key true u v u' v' p q = p
over_if key false u v u' v' p q = q

over_failed : {A B : Type 0} (key : B) (f : Option Refusal) (l fresh : State A) (fresh' : State B)
    → fresh' ≡ over key fresh → unless_failed f (over key l) fresh' ≡ over key (unless_failed f l fresh)
over_failed key None l fresh fresh' p = p
over_failed key (Some r) l fresh fresh' p = refl

over_refused : {A B : Type 0} (key : B) (r : Refusal) (l : State A) → refused r (over key l) ≡ over key (refused r l)
over_refused key r l =
    over_if key l.halted l (unless_failed l.failure l (fails_by r l)) (over key l)
    (unless_failed l.failure (over key l) (fails_by r (over key l))) refl
    (over_failed key l.failure l (fails_by r l) (fails_by r (over key l))
    (over_if key (fails r) (failed r l) l (failed r (over key l)) (over key l) refl refl))

over_drops : {A B : Type 0} (key : B) (l : State A) → drops (over key l) ≡ over key (drops l)
over_drops key l =
    over_if key (is_down l.connection) l (record l { connection = connection.Down; stage = cut l.stage })
    (over key l) (record (over key l) { connection = connection.Down; stage = cut l.stage }) refl refl

over_left : {A B : Type 0} (key : B) (s : Step) (r : Result Done Refusal) (l : State A)
    → left s r (over key l) ≡ over key (left s r l)
over_left key (Hears told m) (Ok d) l = refl
over_left key (Hears told m) (Err x) l = over_refused key x l
over_left key (Obeys c) (Ok d) l = refl
over_left key (Obeys c) (Err x) l = refl
over_left key Connects (Ok d) l = refl
over_left key Connects (Err x) l = refl
over_left key LosesConnection r l = over_drops key l
over_left {B} key Halts r l = ap (λ (x : State B). record x { halted = true }) (over_drops key l)
over_left key s r l = refl

left_keys : {A : Type 0} (s : Step) (r : Result Done Refusal) (l : State A) → (left s r l).keys ≡ l.keys
left_keys {A} s r l = ap (λ (x : State A). x.keys) (over_left l.keys s r l)

-- nor on what is blank in the outputs
left_filled : {A : Type 0} (k : Signer) (s : Step) (r : Result Done Refusal) (l : State A)
    → left s (filled_row k r) l ≡ left s r l
left_filled k (Hears told m) (Ok d) l = refl
left_filled k (Hears told m) (Err x) l = refl
left_filled k (Obeys c) (Ok d) l = refl
left_filled k (Obeys c) (Err x) l = refl
left_filled k Connects (Ok d) l = refl
left_filled k Connects (Err x) l = refl
left_filled k s r l = refl

-- ---- one call

are_alike : {A B : Type 0} (key : B) (l : State A) (l' : State B) → over key l ≡ l' → IsAlike l l'
are_alike {B} key l l' p = record {
  connection = ap (λ (x : State B). x.connection) p;
  halted = ap (λ (x : State B). x.halted) p;
  failure = ap (λ (x : State B). x.failure) p;
  stage = ap (λ (x : State B). x.stage) p;
}

told_alike : {K : Type 0} (s : Step) (l : State HostKeys) (l' : State K) → IsAlike l l' → IsAlike (told_by s l) l'
told_alike (Hears told m) l l' a =
    record { connection = a.connection; halted = a.halted; failure = a.failure; stage = a.stage }
told_alike s l l' a = a

told_point : (k : Signer) (s : Step) (l : State HostKeys) → l.keys.first_point ≡ k.point_of 0 → IsToldRight k s l
    → (told_by s l).keys.first_point ≡ k.point_of 0
told_point k (Hears told m) l p a = a.0
told_point k s l p a = p

left_point : (k : Signer) (s : Step) (l : State HostKeys) → l.keys.first_point ≡ k.point_of 0 → IsToldRight k s l
    → (host_left s l).keys.first_point ≡ k.point_of 0
left_point k s l p a =
    ap (λ (h : HostKeys). h.first_point) (left_keys s (host_answer s l) (told_by s l)) ∙ told_point k s l p a

answer_filled : {K : Type 0} (k : Signer) (s : Step) (l : State HostKeys) (l' : State K)
    → l.keys.first_point ≡ k.point_of 0 → IsAlike l l' → IsToldRight k s l
    → filled_row k (host_answer s l) ≡ answer k s l'
answer_filled k (Hears told m) l l' p same a =
    message_law k told (record l { keys = told }) l' m a.0 (told_alike (Hears told m) l l' same) a.1
answer_filled k (Obeys c) l l' p same a = command_law k l.keys l l' c p same
answer_filled k Connects l l' p same a = connection_law k l.keys l l' p same
answer_filled {K} k s l l' p same a = ap (λ (x : State K). Ok (unchanged x)) (is_over l l' same)

left_alike : {K : Type 0} (k : Signer) (s : Step) (l : State HostKeys) (l' : State K)
    → l.keys.first_point ≡ k.point_of 0 → IsAlike l l' → IsToldRight k s l → IsAlike (host_left s l) (own_left k s l')
left_alike {K} k s l l' p same a =
    are_alike l'.keys (host_left s l) (own_left k s l')
    (sym (over_left l'.keys s (host_answer s l) (told_by s l))
    ∙ ap (λ (x : State K). left s (host_answer s l) x) (is_over (told_by s l) l' (told_alike s l l' same))
    ∙ sym (left_filled k s (host_answer s l) l')
    ∙ ap (λ (r : Result Done Refusal). left s r l') (answer_filled k s l l' p same a))

-- ---- all calls

pub outputs_law : {K : Type 0} (k : Signer) (ss : List Step) (l : State HostKeys) (l' : State K)
    → l.keys.first_point ≡ k.point_of 0 → IsAlike l l' → AreToldRight k ss l
    → host_outputs k ss l ≡ own_outputs k ss l'
outputs_law k [] l l' p same a = refl
outputs_law k (s ∷ ss) l l' p same a =
    ap (λ r. outputs_of r ∷ host_outputs k ss (host_left s l)) (answer_filled k s l l' p same a.0)
    ∙ ap (λ os. outputs_of (answer k s l') ∷ os)
    (outputs_law k ss (host_left s l) (own_left k s l') (left_point k s l p a.0) (left_alike k s l l' p same a.0) a.1)

pub alike_law : {K : Type 0} (k : Signer) (ss : List Step) (l : State HostKeys) (l' : State K)
    → l.keys.first_point ≡ k.point_of 0 → IsAlike l l' → AreToldRight k ss l
    → IsAlike (host_run ss l) (own_run k ss l')
alike_law k [] l l' p same a = same
alike_law k (s ∷ ss) l l' p same a =
    alike_law k ss (host_left s l) (own_left k s l') (left_point k s l p a.0) (left_alike k s l l' p same a.0) a.1

pub record_law : {K : Type 0} (l : State HostKeys) (l' : State K) → IsAlike l l' → record_of l ≡ record_of l'
record_law {K} l l' same = ap (λ (x : State K). record_of x) (is_over l l' same)
