-- The text by which each refusal is told.
use Rattle.std.specs.Prelude.{ℕ, List, [], ◌++◌, codes}
use Rattle.std.specs.Fmt.{decimal}
use Rattle.ln_refusals.specs.declared.refusal.Refusal.{Refusal}
use Rattle.ln_refusals.specs.declared.refusal.Refusal.TheVariants as refusal
use Rattle.ln_refusals.specs.declared.lost_data.LostData.TheVariants as lost_data
use Rattle.ln_refusals.specs.PeerRule.{rule_number}
use Rattle.ln_refusals.specs.Refusal.{refusal_number}

-- what follows the number
abbrev pub detail : Refusal → List ℕ
detail (refusal.PeerLimit rule) = codes " " ++ decimal (rule_number rule)
detail (refusal.BadScript line) = codes " line " ++ decimal line
detail (refusal.ReestablishNumber lost_data.Own) = codes " own data lost"
detail (refusal.ReestablishNumber lost_data.Peer) = codes " peer data lost"
detail r = []

-- `refused` and the number, and what follows it
abbrev pub refusal_text : Refusal → List ℕ
refusal_text r = codes "refused " ++ decimal (refusal_number r) ++ detail r
