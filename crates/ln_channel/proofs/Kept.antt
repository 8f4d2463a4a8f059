-- What is kept of a link, by its parts, and what it stands for.
use Rattle.std.proofs.Common.{refl, sym, ap, subst, inl, inr, Bool, false, ◌≡◌, ◌∙◌, Result, Ok, Err}
use Rattle.ln_refusals.specs.declared.refusal.Refusal.{Refusal}
use Rattle.ln_channel.specs.declared.machine.ConnectionState.{ConnectionState}
use Rattle.ln_channel.specs.declared.machine.Stage.{Stage}
use Rattle.ln_channel.specs.declared.machine.Stage.TheVariants as stage
use Rattle.ln_channel.specs.Outputs.{Handed}
use Rattle.ln_channel.specs.End as end
use Rattle.ln_channel.specs.End.{End}
use Rattle.ln_channel.specs.State.{State, StandsFor, StageStands}
use Rattle.ln_channel.specs.Step.{Done, IsLeft, Moves, MovesEnd, MovesBy, Takes, Loses}

-- ---- the parts of a link

pub same_keys : {K : Type 0} (kept l : State K) → StandsFor kept l → kept.keys ≡ l.keys
same_keys kept l s = ap (λ (x : State _). x.keys) s

pub same_line : {K : Type 0} (kept l : State K) → StandsFor kept l → kept.connection ≡ l.connection
same_line kept l s = ap (λ (x : State _). x.connection) s

pub stage_stands : {K : Type 0} (kept l : State K) → StandsFor kept l → StageStands kept.stage l.stage
stage_stands kept l s = ap (λ (x : State _). x.stage) s

-- with another line and stage
pub stands_with : {K : Type 0} (kept l : State K) (connection' connection : ConnectionState) (stage' s : Stage)
    → StandsFor kept l
    → connection ≡ connection' → StageStands stage' s
    → StandsFor (record kept { connection = connection'; stage = stage' })
    (record l { connection = connection; stage = s })
stands_with kept l connection' connection stage' s stands same by =
    ap (λ (x : State _). record x { connection = connection'; stage = stage' }) stands
    ∙ ap (λ (x : ConnectionState). record l { connection = x; stage = stage' }) (sym same)
    ∙ ap (λ (x : Stage). record l { connection = connection; stage = x }) by

-- the end that a saved stage is for
pub saved_for : (kept : End) (k s : Stage) → k ≡ stage.Funded kept → StageStands k s
    → (e : End) × (s ≡ stage.Funded e) × end.StandsFor kept e
saved_for kept k s is stands = (kept, sym stands ∙ is, refl)

-- ---- what an end moves, as what moves of its stage and of its link

-- as it was, by what is kept
back_again : (k new : End) (kept : Stage) → kept ≡ stage.Funded k → new ≡ k → stage.Funded new ≡ kept
back_again k new kept is same = ap stage.Funded same ∙ sym is

left_as : (k new : End) (kept s : Stage) → kept ≡ stage.Funded k → StageStands kept s → new ≡ k
    → StageStands (stage.Funded new) s
left_as k new kept s is stands same =
    subst (λ (x : Stage). StageStands x s) (sym (back_again k new kept is same)) stands

moved_stage : (views : Bool) (said : Result Done Refusal) (l l' : ConnectionState) (k new : End) (kept s : Stage)
    (answer : Result Handed Refusal) → kept ≡ stage.Funded k → StageStands kept s
    → MovesEnd views said answer l l' k new → Moves views said answer l l' s (stage.Funded new)
moved_stage views said l l' k new kept s (Ok h) is stands m = m
moved_stage views said l l' k new kept s (Err r) is stands (inl m) = inl m
moved_stage views said l l' k new kept s (Err r) is stands (inr m) =
    inr (m.0, m.1, inl (left_as k new kept s is stands m.2))

-- by what is said of each stage
pub stage_moves : (views : Bool) (row : Stage
    → Result Done Refusal) (l l' : ConnectionState) (k new : End) (kept s : Stage)
    (answer : Result Handed Refusal) → kept ≡ stage.Funded k → StageStands kept s
    → ((e : End) → end.StandsFor k e → MovesEnd views (row (stage.Funded e)) answer l l' k new)
    → Moves views (row s) answer l l' s (stage.Funded new)
stage_moves views row l l' k new kept s answer is stands moves =
    let for = saved_for k kept s is stands in
    moved_stage views (row s) l l' k new kept s answer is stands
    (subst (λ (x : Stage). MovesEnd views (row x) answer l l' k new) (sym for.1) (moves for.0 for.2))

-- ---- what a stage moves, as what moves of its link

lost_of : {K : Type 0} (e : Refusal) (kept l : State K) (connection' : ConnectionState) (stage' : Stage)
    → StandsFor kept l
    → connection' ≡ l.connection → IsLeft e l.stage stage'
    → Loses e l (record kept { connection = connection'; stage = stage' })
lost_of e kept l connection' stage' s same (inl x) = inl
    (stands_with kept l connection' l.connection stage' l.stage s (sym same) x)
lost_of e kept l connection' stage' s same (inr x) =
    inr (x.0, x.1, stands_with kept l connection' l.connection stage' stage.Gone s (sym same) x.2)

takes_of : {K : Type 0} (views : Bool) (said : Result Done Refusal) (kept l : State K) (connection' : ConnectionState)
    (stage' : Stage)
    (answer : Result Handed Refusal) → StandsFor kept l
    → Moves views said answer l.connection connection' l.stage stage'
    → Takes views said answer l (record kept { connection = connection'; stage = stage' })
takes_of views (Ok d) kept l connection' stage' (Ok h) s m =
    (m.2, stands_with kept l connection' d.connection stage' d.stage s m.0 m.1)
takes_of views (Err f) kept l connection' stage' (Ok h) s m = absurd m
takes_of views said kept l connection' stage' (Err e) s (inl m) = inl m
takes_of views said kept l connection' stage' (Err e) s (inr m) = inr
    (m.0, lost_of e kept l connection' stage' s m.1 m.2)

-- by what is said of each link
pub link_takes : {K : Type 0} (views : Bool) (row : K → ConnectionState → Stage
    → Result Done Refusal) (kept l : State K)
    (connection' : ConnectionState) (stage' : Stage) (answer : Result Handed Refusal) → StandsFor kept l
    → Moves views (row kept.keys kept.connection l.stage) answer kept.connection connection' l.stage stage'
    → Takes views (row l.keys l.connection l.stage) answer l (record kept { connection = connection'; stage = stage' })
link_takes views row kept l connection' stage' answer s m =
    takes_of views (row l.keys l.connection l.stage) kept l connection' stage' answer s
    (subst (λ (x : ConnectionState). Moves views (row l.keys x l.stage) answer x connection' l.stage stage')
    (same_line kept l s)
    (subst (λ k. Moves views (row k kept.connection l.stage) answer kept.connection connection' l.stage stage')
    (same_keys kept l s) m))

-- ---- what a saved end moves, as what moves of its link

moves_of : {K : Type 0} (said : Result Done Refusal) (kept l : State K) (k new : End) (answer : Result Handed Refusal)
    → StandsFor kept l → kept.stage ≡ stage.Funded k → MovesEnd false said answer l.connection l.connection k new
    → MovesBy said answer l (record kept { stage = stage.Funded new })
moves_of (Ok d) kept l k new (Ok h) s is m = (
  m.2,
  stands_with kept l kept.connection d.connection (stage.Funded new) d.stage s (m.0 ∙ sym (same_line kept l s)) m.1,
)
moves_of (Err f) kept l k new (Ok h) s is m = absurd m
moves_of said kept l k new (Err e) s is (inl m) = inl m
moves_of said kept l k new (Err e) s is (inr m) =
    inr (
      m.0,
      subst (λ (x : Stage). StandsFor (record kept { stage = x }) l) (sym (back_again k new kept.stage is m.2)) s,
    )

-- by what is said of each link
pub link_moves : {K : Type 0} (row : K → ConnectionState → Stage → Result Done Refusal) (kept l : State K) (k new : End)
    (answer : Result Handed Refusal) → StandsFor kept l → kept.stage ≡ stage.Funded k
    → ((e : End) → end.StandsFor k e
    → MovesEnd false (row kept.keys kept.connection (stage.Funded e)) answer kept.connection kept.connection k new)
    → MovesBy (row l.keys l.connection l.stage) answer l (record kept { stage = stage.Funded new })
link_moves row kept l k new answer s is moves =
    let for = saved_for k kept.stage l.stage is (stage_stands kept l s) in
    let at_stage = subst (λ (x : Stage). MovesEnd false
    (row kept.keys kept.connection x) answer kept.connection kept.connection k new)
    (sym for.1) (moves for.0 for.2) in
    let at_line = subst (λ (x : ConnectionState). MovesEnd false (row kept.keys x l.stage) answer x x k new)
    (same_line kept l s)
    at_stage in
    moves_of (row l.keys l.connection l.stage) kept l k new answer s is
    (subst (λ x. MovesEnd false (row x l.connection l.stage) answer l.connection l.connection k new)
    (same_keys kept l s) at_line)
