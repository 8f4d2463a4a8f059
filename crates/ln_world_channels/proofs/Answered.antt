-- What is answered of a link, as what it is then; and what that sends and tells.
use Rattle.std.proofs.Common.{◌≡◌, ◌∙◌, refl, sym, ap, ℕ, List, Option, Result, Ok, Err}
use Rattle.ln_refusals.specs.declared.refusal.Refusal.{Refusal}
use Rattle.ln_log.specs.declared.log.Side.{Side}
use Rattle.ln_channel.specs.declared.output.Output.{Output}
use Rattle.ln_channel.specs.declared.machine.Stage.{Stage}
use Rattle.ln_channel.specs.declared.machine.Stage.TheVariants as stage
use Rattle.ln_channel.specs.Base.{based_stage}
use Rattle.ln_channel.specs.State.{State, numbers_of}
use Rattle.ln_channel.specs.Step.{Done}
use Rattle.ln_store.specs.Store.{StoreView}
use Rattle.ln_link.specs.Saving.{HandsOut}
use Rattle.ln_world_channels.specs.declared.step.End.{End}
use Rattle.ln_world_channels.specs.Lines.{lines_of}
use Rattle.ln_world_channels.specs.Both.{Both, SimEnd, reaches, answers, left, as_saved, sent_by, answer_lines}

pub said_so : {K V : Type 0} (brings : List Output → Option Side) (outs : V → List Output) (said : Result Done Refusal)
    (l new : State K) (v : V) (s t : StoreView) → HandsOut brings outs said l v new s t
    → as_saved said ≡ Ok (record { connection = new.connection; stage = new.stage; outputs = outs v })
said_so brings outs (Ok d) l new v s t h =
    ap (λ (os : List Output). Ok (record {
      connection = d.connection;
      stage = based_stage d.stage;
      outputs =
          os;
    })) (sym h.0)
    ∙ ap (λ (x : State _). Ok (record { connection = x.connection; stage = x.stage; outputs = outs v })) (sym h.1)
said_so brings outs (Err r) l new v s t h = absurd h

pub left_so : {K V : Type 0} (brings : List Output → Option Side) (outs : V → List Output)
    (after : Refusal → State K → State K) (said : Result Done Refusal) (l new : State K) (v : V) (s t : StoreView)
    → HandsOut brings outs said l v new s t → new ≡ left after said l
left_so brings outs after (Ok d) l new v s t h = h.1
left_so brings outs after (Err r) l new v s t h = absurd h

-- ---- as it is saved, it sends the same, and the same is told

pub same_sent : (id : List ℕ) (row said : Result Done Refusal) → as_saved row ≡ said → sent_by id said ≡ sent_by id row
same_sent id (Ok d) said is = ap (sent_by id) (sym is)
same_sent id (Err r) said is = ap (sent_by id) (sym is)

-- a base that moves on changes no number
same_numbers : (s : Stage) → numbers_of (based_stage s) ≡ numbers_of s
same_numbers (stage.Funded e) = refl
same_numbers (stage.AwaitsOpen c) = refl
same_numbers (stage.AwaitsAccept c) = refl
same_numbers (stage.AwaitsCreated c) = refl
same_numbers (stage.AwaitsSigned c) = refl
same_numbers stage.Gone = refl

pub same_lines : (e : End) (id : List ℕ) (row said : Result Done Refusal) → as_saved row ≡ said
    → answer_lines e id said ≡ answer_lines e id row
same_lines e id (Ok d) said is =
    ap (answer_lines e id) (sym is) ∙ ap (λ n. lines_of e n d.outputs) (same_numbers d.stage)
same_lines e id (Err r) said is = ap (answer_lines e id) (sym is)

-- both ends after an answer, of which this was said
pub answered_so : {K : Type 0} (after : Refusal → State K → State K) (id : List ℕ) (row said : Result Done Refusal)
    (p : Both K) (l : State K) (y : SimEnd K) → l ≡ left after row p.x.link → as_saved row ≡ said
    → y ≡ reaches (sent_by id said) p.y
    → ◌≡◌ {A = Both K} (record { x = record p.x { link = l }; y = y }) (answers after id row p)
answered_so after id row said p l y link is sent =
    ap (λ (z : State _). record { x = record p.x { link = z }; y = y }) link
    ∙ ap (λ (z : SimEnd _). record { x = record p.x { link = left after row p.x.link }; y = z })
    (sent ∙ ap (λ ms. reaches ms p.y) (same_sent id row said is))
