-- Calls of a node's channels, by which one call of a manager leads from these to those.
use Rattle.std.specs.Prelude.{◌≡◌, List, Bool, true, Ok, slice_get, if◌then◌else◌}
use Rattle.std.specs.Global.{Vec}
use Rattle.ln_keys.specs.Signer.{Signer}
use Rattle.ln_log.specs.declared.mark.Mark.{Mark}
use Rattle.ln_channel.specs.declared.output.Output.{Output}
use Rattle.ln_channel.specs.State.{drops}
use Rattle.ln_manager_channels.specs.declared.given.Given.{Given}
use Rattle.ln_manager_channels.specs.Calls.{Call, Make, Makes, Parts, Running, known, obeyed}
use Rattle.ln_manager_channels.specs.Calls as call
use Rattle.ln_manager_channels.specs.Commands.{is_users}
use Rattle.ln_manager_channels.specs.Events.{next_event}
use Rattle.ln_manager_channels.specs.Links.{is_up, working_end, working_id}
use Rattle.ln_manager_channels.specs.Moves.{Connects, ObeysUser, TakesMessage}
use Rattle.ln_manager_channels.specs.Obeying.{Decides, Resumes}
use Rattle.ln_manager_channels.specs.Places.{AnswersAt, changed_at}

-- calls lead from these channels to those
pub record Leads {K : Type 0} (signer : K → Signer) (p q : Running K) : Type 0 where
  pub beginning : q.began ≡ p.began
  pub calls : List (Call K)
  pub made : Make signer calls p.parts q.parts

-- what a call that may be refused does where it isn't
abbrev pub Does : {K : Type 0} → (K → Signer) → Call K → Parts K → Parts K → Type 0
Does signer (call.Connect c) p q = (outs : Vec Output) × AnswersAt c (Connects signer) (Ok outs) p.links q.links
Does signer (call.Disconnect c) p q =
    q.links ≡ (if is_up (slice_get p.links c) then changed_at c drops p.links else p.links)
Does signer (call.Message c keys m) p q =
    (outs : Vec Output) × TakesMessage signer c keys m (Ok outs) (known p) (known q)
Does signer (call.Command c x) p q =
    (outs : Vec Output) × ObeysUser signer (is_users x) c x (Ok outs) p.links q.links p.records q.records
Does signer (call.Decide s c verdict) p q = (r : Mark × Given)
    × Decides signer s c (next_event (working_end (slice_get p.links c))) verdict r (obeyed p) (obeyed q)
Does signer (call.Resume s c event verdict) p q = (r : Mark × Given)
    × Resumes signer s c (working_id (slice_get p.links c)) event verdict r (obeyed p) (obeyed q)
Does signer k p q = Makes signer k p q

-- this call first, and then others; it isn't refused where it is said to be done
pub record LeadsBy {K : Type 0} (signer : K → Signer) (k : Call K) (done : Bool) (p q : Running K) : Type 0 where
  pub beginning : q.began ≡ p.began
  pub first : Parts K
  pub makes : Makes signer k p.parts first
  pub does : done ≡ true → Does signer k p.parts first
  pub others : List (Call K)
  pub made : Make signer others first q.parts
