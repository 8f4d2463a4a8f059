-- What a closing fee is answered by: it is refused as one that can't be agreed to, or answered with a fee that isn't
-- above the greatest that the side takes.
use Rattle.std.proofs.Common.{◌≡◌, ℕ, ◌≤◌, min, max, refl, arith, Bool, true, false, cond, ◌&&◌, ◌==◌, nat_le}
use Rattle.std.proofs.Common.{Option, Some, None, is_none, Result, Ok, Err}
use Rattle.std.proofs.lemmas.Bool.{leb-true}
use Rattle.ln_refusals.specs.declared.refusal.Refusal.{Refusal}
use Rattle.ln_refusals.specs.declared.refusal.Refusal.TheVariants as refusal
use Rattle.ln_close.specs.declared.closing.Fees.{Fees}
use Rattle.ln_close.specs.declared.closing.FeeAnswer.{FeeAnswer}
use Rattle.ln_close.specs.declared.closing.FeeAnswer.TheVariants as answer
use Rattle.ln_close.specs.declared.closing.Closing.{Closing}
use Rattle.ln_close.specs.Closing.{is_funder, is_fee, nearest, within, within_both, counter, behind_close, answer_to}
use Rattle.ln_channel_laws.proofs.Tests.{and_right}

-- by an end with these fees
abbrev pub AnswersWithin : Fees → FeeAnswer → Type 0
AnswersWithin f answer.Nothing = Unit {0}
AnswersWithin f (answer.Close fee) = Unit {0}
AnswersWithin f (answer.EchoAndClose fee) = fee ≤ f.greatest
AnswersWithin f (answer.Propose fee) = fee ≤ f.greatest

abbrev pub IsFair : Fees → Result FeeAnswer Refusal → Type 0
IsFair f (Ok a) = AnswersWithin f a
IsFair f (Err r) = r ≡ refusal.FeeOutside

fair_when : (f : Fees) (b : Bool) (p q : Result FeeAnswer Refusal) → (b ≡ true → IsFair f p) → IsFair f q
    → IsFair f (cond b p q)
fair_when f true p q h k = h refl
fair_when f false p q h k = k

fair_within : (own : Fees) (least greatest fee : ℕ) → greatest ≤ own.greatest → IsFair own (within least greatest fee)
fair_within own least greatest fee le = fair_when own (nat_le least greatest)
    (Ok (answer.Propose (nearest least greatest fee))) (Err refusal.FeeOutside)
    (λ e. omega (arith, le)) refl

fair_both : (own : Fees) (fee : ℕ) (range : Option (ℕ × ℕ)) → IsFair own (within_both own fee range)
fair_both own fee None = refl
fair_both own fee (Some r) = fair_within own (max own.least r.0) (min own.greatest r.1) fee (omega arith)

fair_counter : (c : Closing) (fee : ℕ) (range : Option (ℕ × ℕ)) → IsFair c.fees (counter c fee range)
fair_counter c fee range = fair_when c.fees (is_funder c.role) (Err refusal.FeeOutside)
    (cond (is_none c.own_fee) (within_both c.fees fee range) (Err refusal.FeeOutside)) (λ e. refl)
    (fair_when c.fees (is_none c.own_fee) (within_both c.fees fee range) (Err refusal.FeeOutside)
    (λ e. fair_both c.fees fee range) refl)

fair_behind : (f : Fees) (o : Option ℕ) (fee : ℕ) (rest : Result FeeAnswer Refusal) → IsFair f rest
    → IsFair f (behind_close o fee rest)
fair_behind f None fee rest h = h
fair_behind f (Some n) fee rest h = fair_when f (n == fee) (Ok answer.Nothing) (Err refusal.FeeOutside) (λ e. tt) refl

pub fair : (c : Closing) (fee : ℕ) (range : Option (ℕ × ℕ)) → IsFair c.fees (answer_to c fee range)
fair c fee range =
    let within = nat_le c.fees.least fee && nat_le fee c.fees.greatest in
    let echoes = cond within (Ok (answer.EchoAndClose fee)) (counter c fee range) in
    let known = cond (is_fee c.peer_fee fee) (Ok answer.Nothing) echoes in
    fair_behind c.fees c.closed fee (cond (is_fee c.own_fee fee) (Ok (answer.Close fee)) known)
    (fair_when c.fees (is_fee c.own_fee fee) (Ok (answer.Close fee)) known (λ e. tt)
    (fair_when c.fees (is_fee c.peer_fee fee) (Ok answer.Nothing) echoes (λ e. tt)
    (fair_when c.fees within (Ok (answer.EchoAndClose fee)) (counter c fee range)
    (λ e. leb-true fee c.fees.greatest (and_right (nat_le c.fees.least fee) (nat_le fee c.fees.greatest) e))
    (fair_counter c fee range))))
