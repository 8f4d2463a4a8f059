-- A link over every list of calls: by its host, which tells before each message, and by the host's own keys.
use Rattle.std.specs.Prelude.{◌≡◌, ℕ, List, [], ◌∷◌, Option, option_map, Result, Ok, Err, ⊤}
use Rattle.ln_refusals.specs.declared.refusal.Refusal.{Refusal}
use Rattle.ln_keys.specs.Signer.{Signer}
use Rattle.ln_msgs.specs.declared.messages.message.Message.{Message}
use Rattle.ln_channel.specs.declared.command.Command.{Command}
use Rattle.ln_channel.specs.declared.output.Output.{Output}
use Rattle.ln_channel.specs.Asking.{with_named}
use Rattle.ln_channel.specs.Base.{based_link}
use Rattle.ln_channel.specs.Record.{saved_end}
use Rattle.ln_channel.specs.State.{State, refused, drops, halts}
use Rattle.ln_channel.specs.Step.{Done, handled, commanded, connected}
use Rattle.ln_store.specs.Record.{record_bytes}
use Rattle.ln_link.specs.Record.{items_of}
use Rattle.ln_link.specs.Saving.{reached}
use Rattle.ln_host.specs.declared.keys.HostKeys.{HostKeys}
use Rattle.ln_host.specs.Keys.{host_signer}
use Rattle.ln_host.specs.Question.{question_of}
use Rattle.ln_host_laws.specs.Right.{IsRight}
use Rattle.ln_host_laws.specs.Filled.{filled_row}

-- what is done with a link; a refusal for want of memory, or of a save, halts it
pub data Step : Type 0 where
  Hears : (told : HostKeys) (m : Message) → Step
  Obeys : (c : Command) → Step
  Connects : Step
  LosesConnection : Step
  NamesFunding : (txid : List ℕ) (output : ℕ) → Step
  Compacts : Step
  Halts : Step

-- nothing is handed out, and nothing changes
abbrev pub unchanged : {K : Type 0} → State K → Done
unchanged l = record { connection = l.connection; stage = l.stage; outputs = [] }

-- what a call answers
abbrev pub answer : {K : Type 0} → Signer → Step → State K → Result Done Refusal
answer k (Hears told m) l = handled k l m
answer k (Obeys c) l = commanded k l c
answer k Connects l = connected k l
answer k s l = Ok (unchanged l)

abbrev pub heard : {K : Type 0} → Result Done Refusal → State K → State K
heard (Ok d) l = reached d l
heard (Err r) l = refused r l

abbrev pub obeyed : {K : Type 0} → Result Done Refusal → State K → State K
obeyed (Ok d) l = reached d l
obeyed (Err r) l = l

-- what it leaves
abbrev pub left : {K : Type 0} → Step → Result Done Refusal → State K → State K
left (Hears told m) r l = heard r l
left (Obeys c) r l = obeyed r l
left Connects r l = obeyed r l
left LosesConnection r l = drops l
left (NamesFunding txid output) r l = record l { stage = with_named txid output l.stage }
left Compacts r l = based_link l
left Halts r l = halts l

abbrev pub outputs_of : Result Done Refusal → Result (List Output) Refusal
outputs_of (Ok d) = Ok d.outputs
outputs_of (Err r) = Err r

-- ---- a host's link has what was told last in place of its keys

abbrev pub told_by : Step → State HostKeys → State HostKeys
told_by (Hears told m) l = record l { keys = told }
told_by s l = l

abbrev pub host_answer : Step → State HostKeys → Result Done Refusal
host_answer s l = answer (host_signer (told_by s l).keys) s (told_by s l)

abbrev pub host_left : Step → State HostKeys → State HostKeys
host_left s l = left s (host_answer s l) (told_by s l)

abbrev pub host_run : List Step → State HostKeys → State HostKeys
host_run [] l = l
host_run (s ∷ ss) l = host_run ss (host_left s l)

-- what each call hands out, filled by the link as the call leaves it
abbrev pub host_outputs : Signer → List Step → State HostKeys → List (Result (List Output) Refusal)
host_outputs k [] l = []
host_outputs k (s ∷ ss) l = outputs_of (filled_row k (host_answer s l)) ∷ host_outputs k ss (host_left s l)

-- what is told before a message has the own first point, and is right for the question about that message
abbrev pub IsToldRight : Signer → Step → State HostKeys → Type 0
IsToldRight k (Hears told m) l = (told.first_point ≡ k.point_of 0) × IsRight k told (question_of l m) m
IsToldRight k s l = ⊤

abbrev pub AreToldRight : Signer → List Step → State HostKeys → Type 0
AreToldRight k [] l = ⊤
AreToldRight k (s ∷ ss) l = IsToldRight k s l × AreToldRight k ss (host_left s l)

-- ---- a link with the keys

abbrev pub own_left : {K : Type 0} → Signer → Step → State K → State K
own_left k s l = left s (answer k s l) l

abbrev pub own_run : {K : Type 0} → Signer → List Step → State K → State K
own_run k [] l = l
own_run k (s ∷ ss) l = own_run k ss (own_left k s l)

abbrev pub own_outputs : {K : Type 0} → Signer → List Step → State K → List (Result (List Output) Refusal)
own_outputs k [] l = []
own_outputs k (s ∷ ss) l = outputs_of (answer k s l) ∷ own_outputs k ss (own_left k s l)

-- ---- what is saved of a link

abbrev pub record_of : {K : Type 0} → State K → Option (List ℕ)
record_of l = option_map (λ e. record_bytes (items_of l.failure e)) (saved_end l.stage)
