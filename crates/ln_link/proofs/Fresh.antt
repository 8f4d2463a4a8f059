-- A store whose records a link has changed is fresh.
use Rattle.std.proofs.Common.{◌≡◌, ◌∙◌, ap, inl, inr, Bool, true, false, List, [], ◌∷◌}
use Rattle.std.proofs.Common.{Option, Some, None, Result, Ok, Err}
use Rattle.ln_msgs.specs.declared.messages.message.Message.{Message}
use Rattle.ln_refusals.specs.declared.refusal.Refusal.{Refusal}
use Rattle.ln_keys.specs.Signer.{Signer}
use Rattle.ln_log.specs.declared.log.Side.{Side}
use Rattle.ln_channel.specs.declared.command.Command as command
use Rattle.ln_channel.specs.declared.output.Output.{Output}
use Rattle.ln_channel.specs.End.{End}
use Rattle.ln_channel.specs.State.{State}
use Rattle.ln_channel.specs.Step.{Done, makes_view, commanded}
use Rattle.ln_store.specs.Store.{StoreView, FreshIfChanged}
use Rattle.ln_link.specs.Saving.{IsSaved, SavesIf, HandsOut, HaltsAnswered, HaltsEarly, HaltsBehind, HaltsRefused}
use Rattle.ln_link.specs.Saving.{AnswersCommand, AnswersMessage, AnswersOver, handled_beside, fails_now}
use Rattle.ln_link.specs.Saving.{has_same_record, is_update, sends_update, sent_alone, taken_alone}
use Rattle.ln_link.specs.Calls.{Call, Handle, Command, Connect, DropConnection, Halt, Leads, Lead}

module _ (s t : StoreView) where
  same : t ≡ s → FreshIfChanged s t
  same is = inr (ap (λ (x : StoreView). x.records) is, ap (λ (x : StoreView). x.is_fresh) is)

  saved : (f : Option Refusal) (o : Option End) → IsSaved f o s t → FreshIfChanged s t
  saved f (Some e) h = inl (ap (λ (x : StoreView). x.is_fresh) h.1)
  saved f None h = same h.1

  saved_if : (b : Bool) (f : Option Refusal) (o : Option End) → SavesIf b f o s t → FreshIfChanged s t
  saved_if true f o h = saved f o h
  saved_if false f o h = same h

  module _ {K : Type 0} (l n : State K) where
    answered : (x : Option Side) (e : Refusal) → HaltsAnswered x e l n s t → FreshIfChanged s t
    answered x e (inl h) = same h.2
    answered x e (inr h) = h.1.1.fresh

    module _ (brings : List Output → Option Side) where
      behind : (e : Refusal) (said : Result Done Refusal) → HaltsBehind brings e said l n s t → FreshIfChanged s t
      behind e (Ok d) h = by h
        where
          by : HaltsBehind brings e (Ok d) l n s t → FreshIfChanged s t
          by (inl h) = same h.2
          by (inr h) = h.1.1.fresh
      behind e (Err r) h = absurd h

      handed : (said : Result Done Refusal) (os : List Output) → HandsOut brings (λ x. x) said l os n s t
          → FreshIfChanged s t
      handed (Ok d) os h = saved_if _ _ _ h.2
      handed (Err r) os h = absurd h

    refusing : (e : Refusal) (said : Result Done Refusal) → HaltsRefused e said l n s t → FreshIfChanged s t
    refusing e (Ok d) h = absurd h
    refusing e (Err r) h = h.1.1.fresh

    commanding : (c : command.Command) (said : Result Done Refusal) (answer : Result (List Output) Refusal)
        → AnswersCommand (λ x. x) said l c answer n s t → FreshIfChanged s t
    commanding c said (Ok os) h = handed (λ os. sent_alone (sends_update c)) said os h
    commanding c said (Err e) (inl h) = same h.2
    commanding c said (Err e) (inr (inl h)) = behind (λ os. sent_alone (sends_update c)) e said h
    commanding c said (Err e) (inr (inr h)) = same h.2

    messaging : (m : Message) (said : Result Done Refusal) (answer : Result (List Output) Refusal)
        → AnswersMessage (λ x. x) said l m answer n s t → FreshIfChanged s t
    messaging m said (Ok os) h = handed (taken_alone (is_update m)) said os h
    messaging m said (Err e) (inl h) = same h.2
    messaging m said (Err e) (inr (inl h)) = behind (taken_alone (is_update m)) e said h
    messaging m said (Err e) (inr (inr (inl h))) = refusing e said h
    messaging m said (Err e) (inr (inr (inr h))) = saved_if (fails_now e l) _ _ h.2

    over : (keys : Signer) (m : Message) (answer : Result (List Output) Refusal)
        → AnswersOver (λ x. x) keys l m answer n s t → FreshIfChanged s t
    over keys m (Ok os) h = messaging m (handled_beside s.records keys l m) (Ok os) h
    over keys m (Err e) (inl h) = inr (h.records, h.fresh)
    over keys m (Err e) (inr h) = messaging m (handled_beside s.records keys l m) (Err e) h

pub one_call : {K : Type 0} (keys : Signer) (c : Call) (l n : State K) (s t : StoreView) → Leads keys c l s n t
    → FreshIfChanged s t
one_call keys (Handle m) l n s t h = over s t l n keys m h.0 h.1
one_call keys (Command c) l n s t h = commanding s t l n c (commanded keys l c) h.0 h.1
one_call keys Connect l n s t h = same s t h.2
one_call keys DropConnection l n s t h = same s t h.1
one_call keys Halt l n s t h = same s t h.1

both : (s t u : StoreView) → FreshIfChanged s t → FreshIfChanged t u → FreshIfChanged s u
both s t u one (inl fresh) = inl fresh
both s t u (inl fresh) (inr other) = inl (other.1 ∙ fresh)
both s t u (inr one) (inr other) = inr (other.0 ∙ one.0, other.1 ∙ one.1)

pub all_calls : {K : Type 0} (keys : Signer) (cs : List Call) (l n : State K) (s t : StoreView) → Lead keys cs l s n t
    → FreshIfChanged s t
all_calls keys [] l n s t h = same s t h.1
all_calls keys (c ∷ cs) l n s t (k, u, leads, keeps, more) =
    both s u t (one_call keys c l k s u leads) (all_calls keys cs k n u t more)
