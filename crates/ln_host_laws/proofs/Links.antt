-- A link by its host, and one that is alike by the host's own keys.
use Rattle.std.proofs.Common.{◌≡◌, sym, ap, ◌∙◌, subst}
use Rattle.ln_keys.specs.Signer.{Signer}
use Rattle.ln_msgs.specs.declared.messages.message.Message.{Message}
use Rattle.ln_channel.specs.declared.command.Command.{Command}
use Rattle.ln_channel.specs.State.{State}
use Rattle.ln_channel.specs.Step.{handled, commanded, connected}
use Rattle.ln_host.specs.declared.keys.HostKeys.{HostKeys}
use Rattle.ln_host.specs.Keys.{host_signer}
use Rattle.ln_host.specs.Question.{question_of}
use Rattle.ln_host_laws.specs.Alike.{IsAlike}
use Rattle.ln_host_laws.specs.Right.{IsRight}
use Rattle.ln_host_laws.specs.Filled.{filled_row}
use Rattle.ln_host_laws.proofs.Filling.{told}
use Rattle.ln_host_laws.proofs.Stages.{handled_filled, commanded_filled, connected_filled}

-- a link with other keys
abbrev pub over : {A B : Type 0} → B → State A → State B
over keys l = record {
  keys = keys;
  connection = l.connection;
  halted = l.halted;
  failure = l.failure;
  stage = l.stage;
}

pub is_over : {A B : Type 0} (l : State A) (l' : State B) → IsAlike l l' → over l'.keys l ≡ l'
is_over l l' a = λ i. record {
  keys = l'.keys;
  connection = a.connection i;
  halted = a.halted i;
  failure = a.failure i;
  stage = a.stage i;
}

-- what was told, with the own first point
pub is_told : (k : Signer) (h : HostKeys) → h.first_point ≡ k.point_of 0 → told k h.is_right h.secret ≡ h
is_told k h p = λ i. record { first_point = sym p i; is_right = h.is_right; secret = h.secret }

pub message_law : {K : Type 0} (k : Signer) (h : HostKeys) (l : State HostKeys) (l' : State K) (m : Message)
    → h.first_point ≡ k.point_of 0 → IsAlike l l' → IsRight k h (question_of l m) m
    → filled_row k (handled (host_signer h) l m) ≡ handled k l' m
message_law {K} k h l l' m p same a =
    ap (λ (x : HostKeys). filled_row k (handled (host_signer x) l m)) (sym (is_told k h p))
    ∙ handled_filled k h.is_right h.secret l m
    (subst (λ (x : HostKeys). IsRight k x (question_of l m) m) (sym (is_told k h p)) a)
    ∙ ap (λ (x : State K). handled k x m) (is_over l l' same)

pub command_law : {K : Type 0} (k : Signer) (h : HostKeys) (l : State HostKeys) (l' : State K) (c : Command)
    → h.first_point ≡ k.point_of 0 → IsAlike l l'
    → filled_row k (commanded (host_signer h) l c) ≡ commanded k l' c
command_law {K} k h l l' c p same =
    ap (λ (x : HostKeys). filled_row k (commanded (host_signer x) l c)) (sym (is_told k h p))
    ∙ commanded_filled k h.is_right h.secret l c
    ∙ ap (λ (x : State K). commanded k x c) (is_over l l' same)

pub connection_law : {K : Type 0} (k : Signer) (h : HostKeys) (l : State HostKeys) (l' : State K)
    → h.first_point ≡ k.point_of 0 → IsAlike l l'
    → filled_row k (connected (host_signer h) l) ≡ connected k l'
connection_law {K} k h l l' p same =
    ap (λ (x : HostKeys). filled_row k (connected (host_signer x) l)) (sym (is_told k h p))
    ∙ connected_filled k h.is_right h.secret l
    ∙ ap (λ (x : State K). connected k x) (is_over l l' same)
