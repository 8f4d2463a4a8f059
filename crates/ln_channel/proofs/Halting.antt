-- A link that halts for want of memory, or hands out what a call has made.
use Rattle.std.proofs.Common.{refl, sym, ◌∙◌, ap, subst, inl, inr, ◌≡◌, ◌⊎◌, Bool, true, false, ◌&&◌}
use Rattle.std.proofs.Common.{Option, None, Some, is_none}
use Rattle.std.proofs.Common.{List}
use Rattle.std.proofs.Common.{Result, Ok, Err, OnOk, OnErr, IfOk, IfErr, if◌then◌else◌}
use Rattle.ln_bytes.specs.Answers.{fault_of}
use Rattle.ln_msgs.specs.declared.messages.message.Message.{Message}
use Rattle.ln_refusals.specs.declared.refusal.Refusal.{Refusal}
use Rattle.ln_refusals.specs.declared.refusal.Refusal.TheVariants as refusal
use Rattle.ln_keys.specs.Signer.{Signer}
use Rattle.ln_channel.specs.declared.command.Command.{Command}
use Rattle.ln_channel.specs.declared.output.Output.{Output}
use Rattle.ln_channel.specs.Opening.{LacksBy}
use Rattle.ln_channel.specs.Outputs.{Handed, all_of}
use Rattle.ln_channel.specs.State.{State, StandsFor, is_down, IsSameLink, IsHalted}
use Rattle.ln_channel.specs.Taking.{is_viewed}
use Rattle.ln_channel.specs.Step.{Done, Reaches, AnsweredBy, makes_view, handled, at_hand, faulted, commanded, asked}
use Rattle.ln_channel.specs.Step.{connected, connects}

-- what was made is handed out, or there is no memory for that
pub handed_out : {K V : Type 0} (views : Bool) (outs : V → List Output) (said : Result Done Refusal)
    (l m n : State K) (after : Refusal → State K) (h : Handed) (r : Result V Refusal) → Reaches all_of said l h m
    → IsSameLink l m → IfOk r (λ v. outs v ≡ all_of h) → OnOk r (n ≡ m)
    → OnErr r ((k : State K) → IsSameLink k m → IsHalted k n) → IfErr r (λ e. e ≡ refusal.Memory)
    → AnsweredBy views outs said l after r n
handed_out views outs (Ok d) l m n after h (Ok v) reached same o e halted fails = (
  o ∙ reached.0,
  subst (λ (x : State _). StandsFor x (record l { connection = d.connection; stage = d.stage })) (sym e) reached.1,
)
handed_out views outs (Ok d) l m n after h (Err x) reached same o e halted fails =
    inl ((fails, inl refl), halted l same)
handed_out views outs (Err f) l m n after h r reached same o e halted fails = absurd reached

-- there was none before that
pub lacked : {K A : Type 0} (views : Bool) (said : Result Done Refusal) (l m n : State K) (lack e : Refusal)
    → (A → said ≡ Err lack) → LacksBy views lack (fault_of said) ⊎ A → lack ≡ refusal.Memory → IsSameLink l m
    → ((k : State K) → IsSameLink k m → IsHalted k n) → e ≡ refusal.Memory
    → LacksBy views e (fault_of said) × IsHalted l n
lacked views said l m n lack e says (inl x) memory same halted is = ((is, x.1), halted l same)
lacked views said l m n lack e says (inr x) memory same halted is =
    ((is, inr (inl (ap fault_of (says x) ∙ ap Some memory))), halted l same)

-- a channel that hasn't failed looks at each signature
pub viewed_by : {K : Type 0} (l : State K) (m : Message) → l.failure ≡ None → makes_view l m ≡ is_viewed m
viewed_by l m f = ap (λ (o : Option Refusal). is_none o && is_viewed m) f

-- ---- what is said of a link that hasn't halted

pub handled_by : {K : Type 0} (keys : Signer) (l : State K) (m : Message) → l.halted ≡ false → l.failure ≡ None
    → handled keys l m ≡ at_hand keys l.connection m l.stage
handled_by keys l m h f =
    ap (λ (b : Bool). if b then Err refusal.Halted else faulted l.failure (at_hand keys l.connection m l.stage)) h
    ∙ ap (λ (o : Option Refusal). faulted o (at_hand keys l.connection m l.stage)) f

pub commanded_by : {K : Type 0} (keys : Signer) (l : State K) (c : Command) → l.halted ≡ false
    → commanded keys l c ≡ asked keys l c
commanded_by keys l c h = ap (λ (b : Bool). if b then Err refusal.Halted else asked keys l c) h

pub connected_by : {K : Type 0} (keys : Signer) (l : State K) → l.halted ≡ false → is_down l.connection ≡ true
    → connected keys l ≡ connects keys l.stage
connected_by keys l h d =
    ap (λ (b : Bool). if b then Err refusal.Halted
    else (if is_down l.connection then connects keys l.stage else Err refusal.NotReady)) h
    ∙ ap (λ (b : Bool). if b then connects keys l.stage else Err refusal.NotReady) d
