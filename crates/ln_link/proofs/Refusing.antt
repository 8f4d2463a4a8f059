-- A refusal that is answered to a message: what of it is saved.
use Rattle.std.proofs.Common.{refl, sym, ◌∙◌, ap, subst, inl, inr, Option}
use Rattle.std.proofs.Common.{Some, None, is_none, Bool, true, false, not, ◌&&◌, ◌≡◌}
use Rattle.std.proofs.Common.{ℕ, List, Result, Ok, Err, if◌then◌else◌}
use Rattle.ln_msgs.specs.declared.messages.message.Message.{Message}
use Rattle.ln_refusals.specs.declared.refusal.Refusal.{Refusal}
use Rattle.ln_refusals.specs.declared.refusal.Refusal.TheVariants as refusal
use Rattle.ln_keys.specs.Signer.{Signer}
use Rattle.ln_channel.specs.declared.machine.ConnectionState.{ConnectionState}
use Rattle.ln_channel.specs.declared.machine.Stage.{Stage}
use Rattle.ln_channel.specs.declared.output.Output.{Output}
use Rattle.ln_channel.specs.Failing.{fails}
use Rattle.ln_channel.specs.State.{State, failed, refused, IsHalted}
use Rattle.ln_channel.specs.Step.{Done, AnsweredMessage, handled, opened}
use Rattle.ln_channel.specs.State.{halts}
use Rattle.ln_channel.specs.Record.{saved_end}
use Rattle.ln_link.specs.Saving.{Refuses, IsSaved, IsUnsaved, HaltsRefused, SavesIf}
use Rattle.ln_link.specs.Saving.{is_failing, fails_now, AnswersMessage, AnswersOver, is_known}
use Rattle.ln_link.specs.Saving.{handled_beside}
use Rattle.ln_store.specs.Store.{Records, StoreView}

-- a link without a failure, by whether the refusal is one
by_refusal : {K : Type 0} (r : Refusal) (keys : K) (connection : ConnectionState) (s : Stage) (b : Bool)
    → let l : State K = record { keys = keys; connection = connection; halted = false; failure = None; stage = s } in
    (is_failing (if b then failed r l else l) && true) ≡ b
by_refusal r keys connection s true = refl
by_refusal r keys connection s false = refl

by_parts : {K : Type 0} (r : Refusal) (keys : K) (connection : ConnectionState) (halted : Bool)
    (failure : Option Refusal)
    (s : Stage)
    → let l : State K = record {
      keys = keys;
      connection = connection;
      halted = halted;
      failure =
          failure;
      stage = s;
    } in
    (is_failing (refused r l) && is_none failure) ≡ fails_now r l
by_parts r keys connection true failure s = refl
by_parts r keys connection false (Some x) s = refl
by_parts r keys connection false None s = by_refusal r keys connection s (fails r)

-- a link fails now where it has failed after the refusal, and had not before
pub failing : {K : Type 0} (r : Refusal) (l : State K)
    → (is_failing (refused r l) && is_none l.failure) ≡ fails_now r l
failing r l = by_parts r l.keys l.connection l.halted l.failure l.stage

-- a link that has halted saves nothing
pub halted : {K : Type 0} (m : State K) (b : Bool) → m.halted ≡ true → (is_failing m && b) ≡ false
halted m b h = ap (λ (x : Bool). (not x && not (is_none m.failure)) && b) h

settled : {K V : Type 0} (outs : V → List Output) (said : Result Done Refusal) (l m n : State K) (msg : Message)
    (e e' : Refusal) (before behind : StoreView) (b : Bool) → fails_now e l ≡ b → said ≡ Err e → m ≡ refused e l
    → Refuses b e e' m n before behind → AnswersMessage outs said l msg (Err e') n before behind
settled outs said l m n msg e e' before behind false w s p x =
    let k : fails_now e' l ≡ false = ap (λ (r : Refusal). fails_now r l) x.0 ∙ w in
    inr (inr (inr (
      s ∙ ap Err (sym x.0),
      x.1 ∙ p ∙ ap (λ (r : Refusal). refused r l) (sym x.0),
      subst (λ b. SavesIf b (refused e' l).failure (saved_end (refused e' l).stage) before behind) (sym k) x.2,
    )))
settled outs said l m n msg e e' before behind true w s p (inl x) =
    let k : fails_now e' l ≡ true = ap (λ (r : Refusal). fails_now r l) x.0 ∙ w in
    let q : m ≡ refused e' l = p ∙ ap (λ (r : Refusal). refused r l) (sym x.0) in
    inr (inr (inr (
      s ∙ ap Err (sym x.0),
      x.1 ∙ q,
      subst (λ b. SavesIf b (refused e' l).failure (saved_end (refused e' l).stage) before behind) (sym k)
          (subst (λ (y : State _). IsSaved y.failure (saved_end y.stage) before behind) q x.2),
    )))
settled outs said l m n msg e e' before behind true w s p (inr x) =
    inr (inr (inl (subst (λ z. HaltsRefused e' z l n before behind) (sym s) (
      w,
      (
        x.0 ∙ ap halts p,
        subst (λ (y : State _). IsUnsaved e' y.failure (saved_end y.stage) before behind) p x.1,
      ),
    ))))

pub has_halted : {K : Type 0} (l n : State K) → IsHalted l n → n.halted ≡ true
has_halted l n h = h.halted

-- what is answered to a message that is refused
pub after_refusal : {K V : Type 0} (outs : V → List Output) (said : Result Done Refusal) (l m n : State K)
    (msg : Message) (e e' : Refusal) (before behind : StoreView) → AnsweredMessage outs said l msg (Err e) m
    → Refuses (is_failing m && is_none l.failure) e e' m n before behind
    → AnswersMessage outs said l msg (Err e') n before behind
after_refusal outs said l m n msg e e' before behind (inl h) r =
    let q : Refuses false e e' m n before behind =
    subst (λ b. Refuses b e e' m n before behind) (halted m (is_none l.failure) (has_halted l m h.1)) r in
    inl ((q.0 ∙ h.0.0, h.0.1), subst (λ (x : State _). IsHalted l x) (sym q.1) h.1, q.2)
after_refusal outs said l m n msg e e' before behind (inr h) r =
    let q : Refuses (fails_now e l) e e' m n before behind =
    subst (λ b. Refuses b e e' m n before behind)
    (ap (λ (x : State _). is_failing x && is_none l.failure) h.1 ∙ failing e l) r in
    settled outs said l m n msg e e' before behind (fails_now e l) refl h.0 h.1 q

-- the same, where the link is told to have had no failure
pub after_refusal_of : {K V : Type 0} (outs : V → List Output) (said : Result Done Refusal) (l m n : State K)
    (msg : Message) (e e' : Refusal) (before behind : StoreView) (healthy : Bool) → healthy ≡ is_none l.failure
    → AnsweredMessage outs said l msg (Err e) m → Refuses (is_failing m && healthy) e e' m n before behind
    → AnswersMessage outs said l msg (Err e') n before behind
after_refusal_of outs said l m n msg e e' before behind healthy h a r =
    after_refusal outs said l m n msg e e' before behind a
    (subst (λ (b : Bool). Refuses (is_failing m && b) e e' m n before behind) h r)

-- ---- a channel that the store knows

-- it doesn't know the channel
pub unknown : {K : Type 0} (rs : Records) (known : Bool) (channel : Option (List ℕ)) (l : State K) (m : Message)
    → known ≡ false → known ≡ is_known channel rs → channel ≡ opened l m → false ≡ is_known (opened l m) rs
unknown rs known channel l m isnt told is = sym isnt ∙ told ∙ ap (λ (o : Option (List ℕ)). is_known o rs) is

-- the message opens none that it knows
pub taken_over : {K V : Type 0} (outs : V → List Output) (keys : Signer) (l n : State K) (m : Message)
    (answer : Result V Refusal) (s s' behind : StoreView) → false ≡ is_known (opened l m) s.records → s' ≡ s
    → AnswersMessage outs (handled keys l m) l m answer n s' behind → AnswersOver outs keys l m answer n s behind
taken_over {K} {V} outs keys l n m answer s s' behind unknown same a = by answer a
  where
    says : handled_beside s.records keys l m ≡ handled keys l m
    says = ap (λ (b : Bool). if b then Err refusal.OutOfPlace else handled keys l m) (sym unknown)

    over : (r : Result V Refusal) → AnswersMessage outs (handled keys l m) l m r n s' behind
        → AnswersMessage outs (handled_beside s.records keys l m) l m r n s behind
    over r x =
        subst (λ said. AnswersMessage outs said l m r n s behind) (sym says)
        (subst (λ t. AnswersMessage outs (handled keys l m) l m r n t behind) same x)

    by : (r : Result V Refusal) → AnswersMessage outs (handled keys l m) l m r n s' behind
        → AnswersOver outs keys l m r n s behind
    by (Ok v) x = over (Ok v) x
    by (Err e) x = inr (over (Err e) x)
