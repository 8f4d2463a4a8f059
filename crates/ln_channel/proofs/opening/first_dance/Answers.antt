use Rattle.std.proofs.Common.{◌∙◌, ap, ℕ, List, None, replicate}
use Rattle.ln_keys.specs.declared.role.Role.{Role}
use Rattle.ln_log.specs.declared.opening.Opening.{Opening}
use Rattle.ln_log.specs.Log.{opened}
use Rattle.ln_dance.specs.declared.dance.Later.TheVariants.{Signature}
use Rattle.ln_dance.specs.Dance.{Dancer}
use Rattle.ln_channel.specs.Opening.{opening_of, first_point}
use Rattle.ln_channel.proofs.opening.first_dance.Goals as goal

-- a side of the dance with this opening, and this point of the peer's
abbrev begun_at : Role → List ℕ → Opening → List ℕ → Dancer
begun_at role channel o point = record {
  channel = channel;
  log = opened o role;
  numbers = record { commitment = 0; signed = 0; revoked = 0 };
  peer = record { point = point; next_point = replicate 33 0; secret = None };
  later = Signature;
}

pub returns : goal.returns
returns c =
    c.new.ensures _ c.new-updates.ensures.before_any_update
    ∙ ap (λ (o : Opening). begun_at c.args.role c.args.channel o c.first_point.result) c.opening.ensures
    ∙ ap (begun_at c.args.role c.args.channel (opening_of c.args.terms.now)) (c.first_point.ensures
    ∙ ap (λ (r : Role). first_point r c.args.terms.now) c.other.ensures)
