-- The end of a channel that both sides agree to (BOLT 2, "Channel Close").
use Rattle.std.specs.Prelude.{◌≡◌, ℕ, ◌≤◌, min, max, Bool, true, false, ◌&&◌, ◌==◌, nat_le, Option, Some, None, is_none}
use Rattle.std.specs.Prelude.{IfSome, Result, Ok, Err, if◌then◌else◌}
use Rattle.ln_refusals.specs.declared.refusal.Refusal.{Refusal}
use Rattle.ln_refusals.specs.declared.refusal.Refusal.TheVariants as refusal
use Rattle.ln_keys.specs.declared.role.Role.{Role}
use Rattle.ln_keys.specs.declared.role.Role.TheVariants.{Funder, Fundee}
use Rattle.ln_close.specs.declared.closing.Fees.{Fees}
use Rattle.ln_close.specs.declared.closing.FeeAnswer.{FeeAnswer}
use Rattle.ln_close.specs.declared.closing.FeeAnswer.TheVariants as answer
use Rattle.ln_close.specs.declared.closing.Closing.{Closing}

abbrev pub opened : Role → Fees → Closing
opened role fees = record {
  role = role;
  fees = fees;
  shut = false;
  peer_shut = false;
  own_fee = None;
  peer_fee = None;
  closed = None;
}

-- ---- shutdown (BOLT 2, "Closing Initiation")

-- once, and with every own update acknowledged by the other side
abbrev pub may_shut : Bool → Closing → Result (Unit {0}) Refusal
may_shut pending c = if c.shut then Err refusal.Shut else (if pending then Err refusal.UpdatesPending else Ok tt)

abbrev pub after_shut : Closing → Closing
after_shut c = record c { shut = true }

abbrev pub after_peer_shut : Closing → Closing
after_peer_shut c = record c { peer_shut = true }

-- ---- the funder's first fee (BOLT 2, "Closing Negotiation")

abbrev pub is_funder : Role → Bool
is_funder Funder = true
is_funder Fundee = false

-- both sides have shut down, and the funder has sent no fee yet
abbrev pub may_start : Closing → Bool
may_start c = is_funder c.role && (c.shut && (c.peer_shut && is_none c.own_fee))

abbrev pub first_fee : Closing → Option ℕ
first_fee c = if may_start c then Some c.fees.first else None

abbrev pub started : Closing → Closing
started c = if may_start c then record c { own_fee = Some c.fees.first } else c

-- ---- the answer to a fee of the other side's (BOLT 2, "Closing Negotiation")

abbrev pub is_fee : Option ℕ → ℕ → Bool
is_fee None fee = false
is_fee (Some known) fee = known == fee

-- the nearest fee from least to greatest
abbrev pub nearest : ℕ → ℕ → ℕ → ℕ
nearest least greatest fee = min (max fee least) greatest

abbrev pub within : ℕ → ℕ → ℕ → Result FeeAnswer Refusal
within least greatest fee = if nat_le least greatest then Ok (answer.Propose (nearest least greatest fee))
    else Err refusal.FeeOutside

-- by the other side's range, where it came with one
abbrev pub within_both : Fees → ℕ → Option (ℕ × ℕ) → Result FeeAnswer Refusal
within_both own fee None = Err refusal.FeeOutside
within_both own fee (Some r) = within (max own.least r.0) (min own.greatest r.1) fee

-- the fundee, where it has sent no fee yet, proposes one within both ranges
abbrev pub counter : Closing → ℕ → Option (ℕ × ℕ) → Result FeeAnswer Refusal
counter c fee range = if is_funder c.role then Err refusal.FeeOutside
    else (if is_none c.own_fee then within_both c.fees fee range else Err refusal.FeeOutside)

-- where the channel is closed
abbrev pub behind_close : Option ℕ → ℕ → Result FeeAnswer Refusal → Result FeeAnswer Refusal
behind_close None fee rest = rest
behind_close (Some agreed) fee rest = if agreed == fee then Ok answer.Nothing else Err refusal.FeeOutside

-- the first rule that fits
abbrev pub answer_to : Closing → ℕ → Option (ℕ × ℕ) → Result FeeAnswer Refusal
answer_to c fee range =
    behind_close c.closed fee (
    if is_fee c.own_fee fee then Ok (answer.Close fee)
    else (if is_fee c.peer_fee fee then Ok answer.Nothing
    else (if nat_le c.fees.least fee && nat_le fee c.fees.greatest then Ok (answer.EchoAndClose fee)
    else counter c fee range)))

-- what a side keeps after its answer to a fee
abbrev pub after : ℕ → FeeAnswer → Closing → Closing
after fee answer.Nothing c = c
after fee (answer.Close agreed) c = record c { peer_fee = Some fee; closed = Some agreed }
after fee (answer.EchoAndClose agreed) c = record c { own_fee = Some agreed; peer_fee = Some fee; closed = Some agreed }
after fee (answer.Propose proposed) c = record c { own_fee = Some proposed; peer_fee = Some fee }

-- ---- what it comes to

-- a side takes its own first fee
abbrev pub AreOrdered : Fees → Type 0
AreOrdered f = (f.least ≤ f.first) × (f.first ≤ f.greatest)

abbrev pub IsWithin : Fees → ℕ → Type 0
IsWithin f fee = (f.least ≤ fee) × (fee ≤ f.greatest)

-- it has sent no fee outside its own range, and is closed only at a fee that both sides have sent
pub record Agrees (c : Closing) : Type 0 where
  pub own_within : IfSome c.own_fee (IsWithin c.fees)
  pub by_both : IfSome c.closed (λ fee. (c.own_fee ≡ Some fee) × (c.peer_fee ≡ Some fee))
