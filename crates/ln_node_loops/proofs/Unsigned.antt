-- A signature is owed where Sign is done.
use Rattle.std.specs.Prelude.{◌≡◌, Bool, true, false, not, ◌&&◌, Option, Some, None, is_none, Err}
use Rattle.std.specs.Prelude.{if◌then◌else◌}
use Rattle.std.proofs.Common.{refl, sym, ap}
use Rattle.ln_refusals.specs.declared.refusal.Refusal.{Refusal}
use Rattle.ln_refusals.specs.declared.refusal.Refusal.TheVariants as refusal
use Rattle.ln_keys.specs.Signer.{Signer}
use Rattle.ln_channel.specs.declared.command.Command.TheVariants as command
use Rattle.ln_channel.specs.declared.machine.ConnectionState.{ConnectionState}
use Rattle.ln_channel.specs.declared.machine.Stage.{Stage}
use Rattle.ln_channel.specs.declared.machine.Stage.TheVariants as stage
use Rattle.ln_channel.specs.End.{Turn, is_ready}
use Rattle.ln_channel.specs.Opening.{unless}
use Rattle.ln_channel.specs.Record.{saved_end}
use Rattle.ln_channel.specs.State.{State, is_connected}
use Rattle.ln_channel.specs.Step.{Done, obeyed, faulted, turned, commanded}
use Rattle.ln_log.specs.Limits.{first_fault}
use Rattle.ln_dance.specs.Dance.{sign_fault}
use Rattle.ln_node_loops.specs.Signing.{owes_by, owes_signature, is_done}

-- what keeps a side from signing, where no signature of its own is unrevoked
pub unsigned_by : (owes : Bool) (fault next : Option Refusal) (r first : Refusal) → owes ≡ false → fault ≡ Some r
    → Some r ≡ (if owes then Some first else first_fault fault next)
unsigned_by true fault next r first none is = cc
unsigned_by false fault next r first none is = ap (λ f. first_fault f next) (sym is)

unsigned : (halted connected ready : Bool) (failure fault : Option Refusal) (c : ConnectionState) (t : Turn)
    → connected && (not halted && (is_none failure && is_none (if ready then fault else Some refusal.NotReady)))
    ≡ is_done (if halted then Err refusal.Halted
    else faulted failure (faulted (if ready then None else Some refusal.NotReady)
    (faulted (if connected then None else Some refusal.Disconnected)
    (turned c (unless (if ready then fault else Some refusal.NotReady) t)))))
unsigned true true ready failure fault c t = refl
unsigned true false ready failure fault c t = refl
unsigned false true ready (Some r) fault c t = refl
unsigned false false ready (Some r) fault c t = refl
unsigned false true true None None c t = refl
unsigned false true true None (Some r) c t = refl
unsigned false true false None fault c t = refl
unsigned false false true None fault c t = refl
unsigned false false false None fault c t = refl

-- before both have signed the opening
unopened : (halted connected : Bool) (failure : Option Refusal)
    → connected && (not halted && (is_none failure && false))
    ≡ is_done {A = Done} (if halted then Err refusal.Halted else faulted failure (Err refusal.NotReady))
unopened true true failure = refl
unopened true false failure = refl
unopened false true None = refl
unopened false true (Some r) = refl
unopened false false None = refl
unopened false false (Some r) = refl

at_stage : (keys : Signer) (c : ConnectionState) (halted : Bool) (failure : Option Refusal) (s : Stage)
    → is_connected c && (not halted && (is_none failure && owes_by (saved_end s)))
    ≡ is_done (if halted then Err refusal.Halted else faulted failure (obeyed keys c command.Sign s))
at_stage keys c halted failure (stage.AwaitsOpen x) = unopened halted (is_connected c) failure
at_stage keys c halted failure (stage.AwaitsAccept x) = unopened halted (is_connected c) failure
at_stage keys c halted failure (stage.AwaitsCreated x) = unopened halted (is_connected c) failure
at_stage keys c halted failure (stage.AwaitsSigned x) = unopened halted (is_connected c) failure
at_stage keys c halted failure (stage.Funded e) =
    unsigned halted (is_connected c) (is_ready e) failure (sign_fault e.dance) c _
at_stage keys c halted failure stage.Gone = unopened halted (is_connected c) failure

pub owed-so : {K : Type 0} (keys : Signer) (l : State K)
    → owes_signature l ≡ is_done (commanded keys l command.Sign)
owed-so keys l = at_stage keys l.connection l.halted l.failure l.stage
