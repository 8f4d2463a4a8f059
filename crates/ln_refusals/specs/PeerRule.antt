-- The rules by which a peer would refuse what a command sends it.
use Rattle.std.specs.Prelude.{ℕ}
use Rattle.ln_refusals.specs.declared.peer_rule.PeerRule.{PeerRule}
use Rattle.ln_refusals.specs.declared.peer_rule.PeerRule.TheVariants as rule
use Rattle.ln_refusals.specs.declared.refusal.Refusal.{Refusal}
use Rattle.ln_refusals.specs.declared.refusal.Refusal.TheVariants as refusal

abbrev pub rule_number : PeerRule → ℕ
rule_number rule.TooLong = 7
rule_number rule.OutOfPlace = 21
rule_number rule.AmountBelowMinimum = 23
rule_number rule.TooManyHtlcs = 24
rule_number rule.InFlightOver = 25
rule_number rule.CannotAfford = 26
rule_number rule.ExpiryRange = 27
rule_number rule.NoSuchHtlc = 28
rule_number rule.PreimageWrong = 29
rule_number rule.NotFunder = 30

-- the refusal of the same name, which has the same number
abbrev pub refusal_by : PeerRule → Refusal
refusal_by rule.TooLong = refusal.TooLong
refusal_by rule.OutOfPlace = refusal.OutOfPlace
refusal_by rule.AmountBelowMinimum = refusal.AmountBelowMinimum
refusal_by rule.TooManyHtlcs = refusal.TooManyHtlcs
refusal_by rule.InFlightOver = refusal.InFlightOver
refusal_by rule.CannotAfford = refusal.CannotAfford
refusal_by rule.ExpiryRange = refusal.ExpiryRange
refusal_by rule.NoSuchHtlc = refusal.NoSuchHtlc
refusal_by rule.PreimageWrong = refusal.PreimageWrong
refusal_by rule.NotFunder = refusal.NotFunder

-- the rule that a refusal of an update tells of; a refusal that can't be one of an update is as good as 21
abbrev pub rule_of : Refusal → PeerRule
rule_of refusal.TooLong = rule.TooLong
rule_of refusal.AmountBelowMinimum = rule.AmountBelowMinimum
rule_of refusal.TooManyHtlcs = rule.TooManyHtlcs
rule_of refusal.InFlightOver = rule.InFlightOver
rule_of refusal.CannotAfford = rule.CannotAfford
rule_of refusal.ExpiryRange = rule.ExpiryRange
rule_of refusal.NoSuchHtlc = rule.NoSuchHtlc
rule_of refusal.PreimageWrong = rule.PreimageWrong
rule_of refusal.NotFunder = rule.NotFunder
rule_of r = rule.OutOfPlace
