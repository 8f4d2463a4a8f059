-- A link that was loaded of another one's record, and takes over what that had.
use Rattle.std.proofs.Common.{◌≡◌, ◌∙◌, sym, ap, subst, Option}
use Rattle.ln_refusals.specs.declared.refusal.Refusal.{Refusal}
use Rattle.ln_channel.specs.declared.machine.Stage.{Stage}
use Rattle.ln_channel.specs.declared.machine.Stage.TheVariants as stage
use Rattle.ln_channel.specs.End.{End, end_dropped}
use Rattle.ln_channel.specs.Past.{with_past, stage_after, IsStageOf}
use Rattle.ln_channel.specs.Record.{came_back, saved_end}
use Rattle.ln_channel.specs.State.{State}
use Rattle.ln_link.specs.Record.{items_of}
use Rattle.ln_link.specs.Loading.{IsReadAgain, IsLoadedOf, CameBack, end_of}
use Rattle.ln_link.proofs.Loaded.{loaded}

taken_end : (e other : End) → IsReadAgain e other → with_past other e ≡ end_dropped other
taken_end e other h = ap (with_past other) h.same_end

-- the other one's updates are those of which the record tells
pub may_take : {K : Type 0} (s : Stage) (failure : Option Refusal) (l : State K) → IsLoadedOf l failure (saved_end s)
    → IsStageOf s l.stage
may_take (stage.Funded e) failure l h =
    subst (λ (x : State _). IsStageOf (stage.Funded e) x.stage) (sym h.1) (loaded failure e h.0).log
may_take (stage.AwaitsOpen c) failure l h = absurd h
may_take (stage.AwaitsAccept c) failure l h = absurd h
may_take (stage.AwaitsCreated c) failure l h = absurd h
may_take (stage.AwaitsSigned c) failure l h = absurd h
may_take stage.Gone failure l h = absurd h

pub taken_so : {K : Type 0} (s : Stage) (failure : Option Refusal) (l : State K) → IsLoadedOf l failure (saved_end s)
    → CameBack l.keys failure (saved_end s) (record l { stage = stage_after s l.stage })
taken_so (stage.Funded e) failure l h =
    ap (λ (x : State _). record x { keys = l.keys; stage = stage_after (stage.Funded e) x.stage }) h.1
    ∙ ap (λ (x : End). came_back l.keys failure x) (taken_end (end_of (items_of failure e)) e (loaded failure e h.0))
taken_so (stage.AwaitsOpen c) failure l h = absurd h
taken_so (stage.AwaitsAccept c) failure l h = absurd h
taken_so (stage.AwaitsCreated c) failure l h = absurd h
taken_so (stage.AwaitsSigned c) failure l h = absurd h
taken_so stage.Gone failure l h = absurd h
