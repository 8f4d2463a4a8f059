-- What is asked about a message, by the stage.
use Rattle.std.proofs.Common.{◌≡◌, Bool, true, false, not, ◌&&◌, ◌||◌, Option, Some, None, List, ℕ, cond, refl, sym, ap}
use Rattle.std.proofs.Common.{◌∙◌}
use Rattle.ln_msgs.specs.declared.messages.message.Message.{Message}
use Rattle.ln_channel.specs.declared.machine.ConnectionState.{ConnectionState}
use Rattle.ln_channel.specs.declared.machine.Stage.{Stage}
use Rattle.ln_channel.specs.declared.machine.Stage.TheVariants as stage
use Rattle.ln_channel.specs.End.{End}
use Rattle.ln_channel.specs.Record.{saved_end}
use Rattle.ln_channel.specs.Naming.{opens}
use Rattle.ln_channel.specs.State.{State}
use Rattle.ln_channel.specs.Step.{opened}
use Rattle.ln_channel.specs.Asking.{agreed_end, first_view, reaches_channel}
use Rattle.ln_host.specs.declared.question.Question.{Question}
use Rattle.ln_host.specs.Question.{asked_saved, asked_signed, asked_opening, asked_at, question_of}

abbrev here : {A : Type 0} → A → Option A
here x = Some x

some_is : {A : Type 0} (x y : A) → here x ≡ here y → x ≡ y
some_is x y e = cc

by_saved : (s : Stage) (e : End) (c : ConnectionState) (m : Message) → saved_end s ≡ Some e
    → asked_at c m s ≡ asked_saved c m e
by_saved (stage.AwaitsOpen x) e c m h = absurd cc
by_saved (stage.AwaitsAccept x) e c m h = absurd cc
by_saved (stage.AwaitsCreated x) e c m h = absurd cc
by_saved (stage.AwaitsSigned x) e c m h = absurd cc
by_saved (stage.Funded x) e c m h = ap (λ (y : End). asked_saved c m y) (some_is x e h)
by_saved stage.Gone e c m h = absurd cc

by_signed : (s : Stage) (e : End) (c : ConnectionState) (m : Message) → saved_end s ≡ None → agreed_end s ≡ Some e
    → asked_at c m s ≡ asked_signed m e
by_signed (stage.AwaitsOpen x) e c m n h = absurd cc
by_signed (stage.AwaitsAccept x) e c m n h = absurd cc
by_signed (stage.AwaitsCreated x) e c m n h = absurd cc
by_signed (stage.AwaitsSigned x) e c m n h = ap (λ (y : End). asked_signed m y) (some_is x e h)
by_signed (stage.Funded x) e c m n h = absurd cc
by_signed stage.Gone e c m n h = absurd cc

by_opening : (s : Stage) (c : ConnectionState) (m : Message) → agreed_end s ≡ None
    → asked_at c m s ≡ asked_opening (opens s m) (first_view s)
by_opening (stage.AwaitsOpen x) c m n = refl
by_opening (stage.AwaitsAccept x) c m n = refl
by_opening (stage.AwaitsCreated x) c m n = refl
by_opening (stage.AwaitsSigned x) c m n = absurd cc
by_opening (stage.Funded x) c m n = absurd cc
by_opening stage.Gone c m n = refl

opens_if : (h f rest : Bool) (x : Option (List ℕ)) → (not h && (f && rest)) ≡ true → cond (h || not f) None x ≡ x
opens_if true f rest x e = absurd cc
opens_if false true rest x e = refl
opens_if false false rest x e = absurd cc

question_is : {K : Type 0} (l : State K) (m : Message) (q : Option Question) → reaches_channel l m ≡ true
    → asked_at l.connection m l.stage ≡ q → question_of l m ≡ q
question_is l m q r e = ap (λ (b : Bool). cond b (asked_at l.connection m l.stage) None) r ∙ e

pub of_saved : {K : Type 0} (l : State K) (m : Message) (e : End) → reaches_channel l m ≡ true
    → saved_end l.stage ≡ Some e → question_of l m ≡ asked_saved l.connection m e
of_saved l m e r h = question_is l m _ r (by_saved l.stage e l.connection m h)

pub of_signed : {K : Type 0} (l : State K) (m : Message) (e : End) → reaches_channel l m ≡ true
    → saved_end l.stage ≡ None → agreed_end l.stage ≡ Some e → question_of l m ≡ asked_signed m e
of_signed l m e r n h = question_is l m _ r (by_signed l.stage e l.connection m n h)

pub of_opening : {K : Type 0} (l : State K) (m : Message) → reaches_channel l m ≡ true → agreed_end l.stage ≡ None
    → question_of l m ≡ asked_opening (opened l m) (first_view l.stage)
of_opening l m r n =
    question_is l m _ r (by_opening l.stage l.connection m n)
    ∙ ap (λ (x : Option (List ℕ)). asked_opening x (first_view l.stage)) (sym (opens_if l.halted _ _ (opens l.stage m)
    r))
