-- A link that comes back from its record takes over what the link before had: the updates that aren't had one by one
-- any more, which proofs alone read.
use Rattle.ln_log.specs.Log.{after_drop}
use Rattle.ln_dance.specs.Dance.{with_log}
use Rattle.ln_dance.specs.Past.{IsReadOf}
use Rattle.ln_channel.specs.declared.machine.Stage.{Stage}
use Rattle.ln_channel.specs.declared.machine.Stage.TheVariants as stage
use Rattle.ln_channel.specs.End.{End, with_dance}
use Rattle.ln_channel.specs.State.{State}

-- an end with the updates that another one had, as a lost connection leaves it
abbrev pub with_past : End → End → End
with_past other e = with_dance (with_log (after_drop other.dance.log) e.dance) e

abbrev pub end_after : Stage → End → End
end_after (stage.Funded other) e = with_past other e
end_after s e = e

-- where both have signed the opening
abbrev pub stage_after : Stage → Stage → Stage
stage_after other (stage.Funded e) = stage.Funded (end_after other e)
stage_after other s = s

abbrev pub link_after : {K : Type 0} → State K → State K → State K
link_after other l = record l { stage = stage_after other.stage l.stage }

-- the end was loaded of what a record tells of the other one
abbrev pub IsEndOf : Stage → End → Type 0
IsEndOf (stage.Funded other) e = IsReadOf e.dance.log other.dance.log
IsEndOf s e = Unit {0}

abbrev pub IsStageOf : Stage → Stage → Type 0
IsStageOf other (stage.Funded e) = IsEndOf other e
IsStageOf other s = Unit {0}
