-- What a call of a link leaves: what it makes of the link, done or refused, or a link that has halted.
use Rattle.std.proofs.Common.{◌≡◌, ◌⊎◌, inl, inr, List, refl, sym, ap, ◌∙◌, true, Result, Ok, Err}
use Rattle.ln_msgs.specs.declared.messages.message.Message.{Message}
use Rattle.ln_refusals.specs.declared.refusal.Refusal.{Refusal}
use Rattle.ln_keys.specs.Signer.{Signer}
use Rattle.ln_log.specs.declared.log.Side.{Side}
use Rattle.ln_channel.specs.declared.command.Command.{Command}
use Rattle.ln_channel.specs.declared.output.Output.{Output}
use Rattle.ln_channel.specs.Base.{based_link}
use Rattle.ln_channel.specs.State.{State, refused}
use Rattle.ln_channel.specs.Step.{Done, Answered}
use Rattle.std.specs.Prelude.{Option}
use Rattle.ln_link.specs.Calls.{left_by}
use Rattle.ln_store.specs.Store.{StoreView}
use Rattle.ln_link.specs.Saving.{AnswersOver, AnswersMessage, AnswersCommand, HaltsAnswered, HaltsUnsaved}
use Rattle.ln_link.specs.Saving.{handled_beside, reached}
use Rattle.ln_manager_laws.specs.Calls.{connected_by}
use Rattle.ln_manager_laws.specs.Steps.{done_or_refused}
use Rattle.ln_manager_channels.specs.Links.{done_in}

module _ {K V : Type 0} (outs : V → List Output) (l new : State K) where
  -- as it is said, and answered so
  pub record IsMade (said : Result Done Refusal) (refusing : Refusal → State K) (reply : Result V Refusal)
      : Type 0 where
    pub is : new ≡ left_by said refusing l
    pub answer : done_in reply ≡ done_or_refused said

  unsaved : (e : Refusal) (k : State K) (s t : StoreView) → HaltsUnsaved e k new s t → new.halted ≡ true
  unsaved e k s t h = ap (λ (z : State K). z.halted) h.0

  unanswered : (brought : Option Side) (e : Refusal) (k : State K) (s t : StoreView)
      → HaltsAnswered brought e k new s t → new.halted ≡ true
  unanswered brought e k s t (inl h) = ap (λ (z : State K). z.halted) h.1
  unanswered brought e k s t (inr h) = unsaved e (based_link k) s t h.1

  by_said : (said : Result Done Refusal) (refusing : Refusal → State K) (e : Refusal) → said ≡ Err e
      → new ≡ refusing e → IsMade said refusing (Err e)
  by_said said refusing e is left = record {
    is = left ∙ ap (λ row. left_by row refusing l) (sym is);
    answer = ap done_or_refused (sym is);
  }

  pub command_left : (c : Command) (said : Result Done Refusal) (answer : Result V Refusal) (s t : StoreView)
      → AnswersCommand outs said l c answer new s t → IsMade said (λ r. l) answer ⊎ (new.halted ≡ true)
  command_left c (Ok d) (Ok v) s t h = inl (record { is = h.1; answer = refl })
  command_left c (Err r) (Ok v) s t h = absurd h
  command_left c said (Err e) s t (inl h) = inr h.1.halted
  command_left c (Ok d) (Err e) s t (inr (inl h)) = inr (unanswered _ e (reached d l) s t h)
  command_left c (Err r) (Err e) s t (inr (inl h)) = absurd h
  command_left c said (Err e) s t (inr (inr h)) = inl (by_said said (λ r. l) e h.0 h.1)

  taken_left : (m : Message) (said : Result Done Refusal) (answer : Result V Refusal) (s t : StoreView)
      → AnswersMessage outs said l m answer new s t → IsMade said (λ r. refused r l) answer ⊎ (new.halted ≡ true)
  taken_left m (Ok d) (Ok v) s t h = inl (record { is = h.1; answer = refl })
  taken_left m (Err r) (Ok v) s t h = absurd h
  taken_left m said (Err e) s t (inl h) = inr h.1.halted
  taken_left m (Ok d) (Err e) s t (inr (inl h)) = inr (unanswered _ e (reached d l) s t h)
  taken_left m (Err r) (Err e) s t (inr (inl h)) = absurd h
  taken_left m (Ok d) (Err e) s t (inr (inr (inl h))) = absurd h
  taken_left m (Err r) (Err e) s t (inr (inr (inl h))) = inr (unsaved e (refused r l) s t h.1)
  taken_left m said (Err e) s t (inr (inr (inr h))) = inl (by_said said (λ r. refused r l) e h.0 h.1)

  pub message_left : (keys : Signer) (m : Message) (answer : Result V Refusal) (s t : StoreView)
      → AnswersOver outs keys l m answer new s t
      → (new ≡ left_by (handled_beside s.records keys l m) (λ r. refused r l) l) ⊎ (new.halted ≡ true)
  message_left keys m (Ok v) s t h =
      elim (taken_left m (handled_beside s.records keys l m) (Ok v) s t h) [ inl k ↦ inl k.is | inr k ↦ inr k ]
  message_left keys m (Err e) s t (inl h) = inr (ap (λ (z : State K). z.halted) h.halts)
  message_left keys m (Err e) s t (inr h) =
      elim (taken_left m (handled_beside s.records keys l m) (Err e) s t h) [ inl k ↦ inl k.is | inr k ↦ inr k ]

  pub connection_left : (said : Result Done Refusal) (answer : Result V Refusal) → Answered outs said l answer new
      → (new ≡ connected_by said l) ⊎ (new.halted ≡ true)
  connection_left (Ok d) (Ok v) h = inl h.1
  connection_left (Err r) (Ok v) h = absurd h
  connection_left said (Err e) (inl h) = inr h.1.halted
  connection_left said (Err e) (inr h) = inl (h.1 ∙ sym (ap (λ row. connected_by row l) h.0))
