-- A turn of an end, as what a call makes of the stage that holds it.
use Rattle.std.proofs.Common.{refl, ap, sym, subst, inl, inr, Bool, true, false, not, ◌≡◌, ◌∙◌, Result, Ok, Err}
use Rattle.std.proofs.Common.{OnOk, IfOk, IfErr, if◌then◌else◌, Option, None, []}
use Rattle.ln_bytes.specs.Answers.{fault_of}
use Rattle.ln_refusals.specs.declared.refusal.Refusal.{Refusal}
use Rattle.ln_refusals.specs.declared.refusal.Refusal.TheVariants as refusal
use Rattle.ln_msgs.specs.declared.messages.closing.ClosingSigned.{ClosingSigned}
use Rattle.ln_msgs.specs.declared.messages.opening.FundingSigned.{FundingSigned}
use Rattle.ln_keys.specs.Signer.{Signer}
use Rattle.ln_close.specs.declared.closing.FeeAnswer.{FeeAnswer}
use Rattle.ln_close.specs.Closing.{answer_to}
use Rattle.ln_channel.specs.declared.machine.ConnectionState.{ConnectionState}
use Rattle.ln_channel.specs.declared.machine.Stage.{Stage}
use Rattle.ln_channel.specs.declared.machine.Stage.TheVariants as stage
use Rattle.ln_channel.specs.Opening.{first_fault, unless}
use Rattle.ln_channel.specs.Outputs.{Handed, nothing, all_of}
use Rattle.ln_channel.specs.End.{End, Turn, StandsFor, IsTurn, MakesBy, has_begun}
use Rattle.ln_channel.specs.Taking.{fee_row, range_in, answered, answering, answered_end}
use Rattle.ln_channel.specs.State.{StageStands, is_saved, KeepsChannel}
use Rattle.ln_channel.specs.Step.{Done, turned, signed_at, IsDone, MovesEnd}

saved_stands : (kept e : End) → StandsFor kept e → StageStands (stage.Funded kept) (stage.Funded e)
saved_stands kept e s = ap stage.Funded s

-- what it hands out, with the line that is left
pub turned_so : (l : ConnectionState) (row : Result Turn Refusal) (h : Handed) (new : End) → IsTurn row h new
    → IsDone (turned l row) h l (stage.Funded new)
turned_so l (Ok t) h new x = (refl, saved_stands new t.end x.0, ap all_of x.1)
turned_so l (Err r) h new x = absurd x

abbrev refusing : Refusal → Result Turn Refusal
refusing r = Err r

same_refusal : (f r : Refusal) → refusing f ≡ refusing r → f ≡ r
same_refusal f r e = cc

-- it is refused
pub refused_so : (views : Bool) (m l l' : ConnectionState) (row : Result Turn Refusal) (r : Refusal) (old new : End)
    → MakesBy views row (Err r) old new → l' ≡ l → MovesEnd views (turned m row) (Err r) l l' old new
refused_so views m l l' (Ok t) r old new (inl x) connection = inl x
refused_so views m l l' (Ok t) r old new (inr x) connection = absurd (let p = x.0 in cc)
refused_so views m l l' (Err f) r old new (inl x) connection = inl x
refused_so views m l l' (Err f) r old new (inr x) connection = inr (ap Err (same_refusal f r x.0), connection, x.1)

-- with the line as it is
pub moves_so : (views : Bool) (l : ConnectionState) (row : Result Turn Refusal) (answer : Result Handed Refusal)
    (old new : End) → MakesBy views row answer old new → MovesEnd views (turned l row) answer l l old new
moves_so views l row (Ok h) old new x = turned_so l row h new x
moves_so views l row (Err r) old new x = refused_so views l l l row r old new x refl

-- ---- an end that isn't signed by both

-- it has no channel yet
pub none_kept : (s s' : Stage) → is_saved s ≡ false → KeepsChannel s s'
none_kept (stage.Funded e) s' channel_machine = λ channel is. absurd (cc)
none_kept (stage.AwaitsSigned e) s' channel_machine = λ channel is. absurd (cc)
none_kept (stage.AwaitsOpen c) s' channel_machine = λ channel is. absurd (cc)
none_kept (stage.AwaitsAccept x) s' channel_machine = λ channel is. absurd (cc)
none_kept (stage.AwaitsCreated a) s' channel_machine = λ channel is. absurd (cc)
none_kept stage.Gone s' channel_machine = λ channel is. absurd (cc)

-- ---- a turn, by its parts

pub made_so : (views : Bool) (row : Result Turn Refusal) (t : Turn) (answer : Result Handed Refusal) (old new : End)
    → row ≡ Ok t → IfOk answer (λ h. h ≡ t.handed) → OnOk answer (StandsFor new t.end)
    → IfErr answer (λ e. e ≡ refusal.Memory) → MakesBy views row answer old new
made_so views row t (Ok h) old new is handed stands fails =
    subst (λ (r : Result Turn Refusal). IsTurn r h new) (sym is) (stands, handed)
made_so views row t (Err e) old new is handed stands fails = inl (fails, inl (ap fault_of is))

-- a fee that is answered
pub fee_answered : (keys : Signer) (m : ClosingSigned) (e : End) (a : FeeAnswer) → has_begun e ≡ true
    → keys.accepts_close m.fee_satoshis m.signature ≡ true → answer_to e.closing m.fee_satoshis (range_in m) ≡ Ok a
    → fee_row keys m e ≡ Ok (answering keys a (answered_end m a e))
fee_answered keys m e a begun right told =
    let looked : Bool → Result Turn Refusal = λ b. if b
    then answered keys m e (answer_to e.closing m.fee_satoshis (range_in m)) else Err refusal.SignatureWrong in
    ap (λ (b : Bool). if not b then Err refusal.OutOfPlace
    else looked (keys.accepts_close m.fee_satoshis m.signature)) begun
    ∙ ap looked right ∙ ap (answered keys m e) told

-- the funder's end, once the fundee has signed
pub signed_so : (keys : Signer) (l : ConnectionState) (m : FundingSigned) (kept : End) (now new s : Stage) (h : Handed)
    → now ≡ stage.AwaitsSigned kept → StageStands now s → first_fault keys kept.dance m.signature ≡ None
    → StageStands new (stage.Funded kept) → h ≡ nothing → IsDone (signed_at keys l m s) h l new
signed_so keys l m kept now new s h is stands right saves none =
    let done : Option Refusal → Result Done Refusal = λ f.
    unless f (record { connection = l; stage = stage.Funded kept; outputs = [] }) in
    subst (λ (x : Stage). IsDone (signed_at keys l m x) h l new) (sym is ∙ stands)
    (subst (λ (f : Option Refusal). IsDone (done f) h l new) (sym right) (refl, saves, ap all_of none))
