-- What a link answers, by its list of outputs.
use Rattle.std.proofs.Common.{◌≡◌, ℕ, List, Option, Result, Ok, Err, refl, ap, ◌∙◌, inl, inr, subst}
use Rattle.ln_msgs.specs.declared.messages.message.Message.{Message}
use Rattle.ln_refusals.specs.declared.refusal.Refusal.{Refusal}
use Rattle.ln_keys.specs.Signer.{Signer}
use Rattle.ln_log.specs.declared.log.Side.{Side}
use Rattle.ln_channel.specs.declared.command.Command.{Command}
use Rattle.ln_channel.specs.declared.output.Output.{Output}
use Rattle.ln_channel.specs.State.{State, kept_channel}
use Rattle.ln_channel.specs.Step.{Done, Reaches, Answered}
use Rattle.ln_link.specs.Saving.{HandsOut, AnswersOver, AnswersCommand, CannotTell, handled_beside}
use Rattle.ln_link.specs.Saving.{is_update, sends_update, taken_alone, sent_alone}
use Rattle.ln_store.specs.Store.{StoreView}
use Rattle.ln_store.proofs.Asked.{asked}
use Rattle.ln_node_loops.specs.Sent.{listed, loaded}
use Rattle.ln_node_loops.specs.Saved.{Saved, record_in, ComesBack, LoadsRecord}

handed : {K V : Type 0} (brings : List Output → Option Side) (outs : V → List Output) (l new : State K)
    (before behind : StoreView) (said : Result Done Refusal) (v : V)
    → HandsOut brings outs said l v new before behind → HandsOut brings (λ os. os) said l (outs v) new before behind
handed brings outs l new before behind (Ok d) v out = out
handed brings outs l new before behind (Err r) v out = out

pub message-listed : {K V : Type 0} (result : Result V Refusal) (outs : V → List Output) (l new : State K)
    (before behind : StoreView) (keys : Signer) (m : Message) → AnswersOver outs keys l m result new before behind
    → AnswersOver (λ os. os) keys l m (listed outs result) new before behind
message-listed (Ok v) outs l new before behind keys m out =
    handed (taken_alone (is_update m)) outs l new before behind (handled_beside before.records keys l m) v out
message-listed (Err e) outs l new before behind keys m out = out

module _ {K V : Type 0} (outs : V → List Output) (l : State K) (new : State K) (before behind : StoreView) where
  pub command-listed : (said : Result Done Refusal) (c : Command) (result : Result V Refusal)
      → AnswersCommand outs said l c result new before behind
      → AnswersCommand (λ os. os) said l c (listed outs result) new before behind
  command-listed said c (Ok v) out =
      handed (λ os. sent_alone (sends_update c)) outs l new before behind said v out
  command-listed said c (Err e) out = out

module _ {K V : Type 0} (outs : V → List Output) (l : State K) (new : State K) where
  reached : (said : Result Done Refusal) (v : V) → Reaches outs said l v new → Reaches (λ os. os) said l (outs v) new
  reached (Ok d) v out = out
  reached (Err r) v out = out

  pub connection-listed : (said : Result Done Refusal) (result : Result V Refusal)
      → Answered outs said l result new → Answered (λ os. os) said l (listed outs result) new
  connection-listed said (Ok v) out = reached said v out
  connection-listed said (Err e) out = out

-- ---- a load

pub loads-found : {K : Type 0} (s s' : Saved K) (found : Option (List ℕ)) (answer : Result (Unit {0}) Refusal)
    → ComesBack found (loaded answer) s.link s'.link
    → found ≡ record_in s.store_view.records (kept_channel s.link.stage)
    → s'.store_view.records ≡ s.store_view.records → s'.store_view.failed ≡ s.store_view.failed
    → s'.store_view.is_fresh ≡ s.store_view.is_fresh → LoadsRecord s (loaded answer) s'
loads-found s s' found answer comes is records failed fresh = inr (
  subst (λ o. ComesBack o (loaded answer) s.link s'.link) is comes,
  asked s.store_view s'.store_view records failed fresh,
)

pub loads-none : {K : Type 0} (s s' : Saved K) (e : Refusal)
    → CannotTell e (kept_channel s.link.stage) s.store_view.failed s'.store_view.failed → s'.link ≡ s.link
    → s'.store_view.records ≡ s.store_view.records → LoadsRecord s (Err e) s'
loads-none s s' e cause link records =
    inl (record { why = e; answers = refl; cause = cause; link = link; records = records })
