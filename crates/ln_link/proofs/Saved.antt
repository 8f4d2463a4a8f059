-- A call of a link that is saved after what it did, where it has to be.
use Rattle.std.proofs.Common.{◌≡◌, ◌∙◌, ap, subst, sym, List, Bool, true, false, not, ◌&&◌, Option, Result, Ok, Err}
use Rattle.std.proofs.Common.{inr}
use Rattle.ln_msgs.specs.declared.messages.message.Message.{Message}
use Rattle.ln_refusals.specs.declared.refusal.Refusal.{Refusal}
use Rattle.ln_log.specs.declared.log.Side.{Side}
use Rattle.ln_log.specs.Log.{Counts, same_counts}
use Rattle.ln_channel.specs.declared.output.Output.{Output}
use Rattle.ln_channel.specs.Base.{based_link}
use Rattle.ln_channel.specs.Record.{saved_end}
use Rattle.ln_channel.specs.State.{State, StandsFor}
use Rattle.ln_channel.specs.Step.{Done, Reaches}
use Rattle.ln_store.specs.Store.{StoreView}
use Rattle.ln_link.specs.Saving.{SavesIf, SavesChange, Keeps, Settles, HandsOut, HaltsAnswered}
use Rattle.ln_link.specs.Saving.{HaltsBehind, is_update, taken_alone, is_forgotten, base_in, has_same_record, reached}

-- it is saved, and handed out
pub handed_so : {K V : Type 0} (brings : List Output → Option Side) (outs : V → List Output)
    (said : Result Done Refusal) (l mid new : State K) (v : V) (x : Option Side) (before behind : StoreView)
    → Reaches outs said l v mid → x ≡ brings (outs v)
    → ((k : State K) → StandsFor mid k → StandsFor new (based_link k) × SavesChange x k before behind)
    → HandsOut brings outs said l v new before behind
handed_so brings outs (Ok d) l mid new v x before behind did is keeps =
    let kept = keeps (reached d l) did.1 in (
      did.0,
      kept.0,
      subst (λ y. SavesChange y (reached d l) before behind) (is ∙ ap brings did.0) kept.1,
    )
handed_so brings outs (Err r) l mid new v x before behind did is keeps = absurd did

-- it couldn't be saved
pub halted_so : {K V : Type 0} (brings : List Output → Option Side) (outs : V → List Output)
    (said : Result Done Refusal) (l mid new : State K) (v : V) (x : Option Side) (e : Refusal)
    (before behind : StoreView) → Reaches outs said l v mid → x ≡ brings (outs v)
    → ((k : State K) → StandsFor mid k → HaltsAnswered x e k new before behind)
    → HaltsBehind brings e said l new before behind
halted_so brings outs (Ok d) l mid new v x e before behind did is halts =
    subst (λ y. HaltsAnswered y e (reached d l) new before behind) (is ∙ ap brings did.0) (halts (reached d l) did.1)
halted_so brings outs (Err r) l mid new v x e before behind did is halts = absurd did

-- an update that was taken, by the code's words for it
pub taken_so : (m : Message) (x : Option Side) (b : Bool) (os items : List Output) → x ≡ taken_alone b os
    → b ≡ is_update m → os ≡ items → x ≡ taken_alone (is_update m) items
taken_so m x b os items taken update are =
    taken ∙ ap (λ y. taken_alone y os) update ∙ ap (λ ys. taken_alone (is_update m) ys) are

-- what is kept of a link whose base has moved on
pub settles_so : {K : Type 0} (x : Option Side) (r : Result (Unit {0}) Refusal) (l new : State K)
    (before behind : StoreView) → has_same_record x l.stage ≡ false → Keeps r (based_link l) new before behind
    → Settles x r l new before behind
settles_so x (Ok u) l new before behind isnt k =
    (k.0, subst (λ b. SavesIf (not b) l.failure (saved_end (based_link l).stage) before behind) (sym isnt) k.1)
settles_so x (Err e) l new before behind isnt k = inr (isnt, k)

-- that is tested by the base of before and of now
pub tested_so : {K : Type 0} (x : Option Side) (l : State K) (forgotten same : Bool) (before now : Counts)
    → forgotten ≡ is_forgotten x (saved_end l.stage) → before ≡ base_in (saved_end l.stage)
    → now ≡ base_in (saved_end (based_link l).stage) → same ≡ (forgotten && same_counts now before)
    → has_same_record x l.stage ≡ same
tested_so x l forgotten same before now is was moved test =
    sym (test ∙ ap (λ b. b && same_counts now before) is
    ∙ ap (λ c. is_forgotten x (saved_end l.stage) && same_counts c before) moved
    ∙ ap (λ c. is_forgotten x (saved_end l.stage) && same_counts (base_in (saved_end (based_link l).stage)) c) was)

-- where its record is what it was
pub settles_same : {K : Type 0} (x : Option Side) (l new : State K) (before behind : StoreView)
    → has_same_record x l.stage ≡ true → StandsFor new (based_link l) → behind ≡ before
    → Settles x (Ok tt) l new before behind
settles_same x l new before behind is stands still =
    (stands, subst (λ b. SavesIf (not b) l.failure (saved_end (based_link l).stage) before behind) (sym is) still)
