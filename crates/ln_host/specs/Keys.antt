-- What keys answer whose host answers for them: what it told, and blanks.
use Rattle.std.specs.Prelude.{[], replicate}
use Rattle.ln_keys.specs.Signer.{Signer}
use Rattle.ln_host.specs.declared.keys.HostKeys.{HostKeys}

abbrev pub host_signer : HostKeys → Signer
host_signer k = record {
  secret_of = λ _. k.secret;
  point_of = λ _. k.first_point;
  signature = λ _ _ _. replicate 64 0;
  htlc_signatures = λ _ _ _. [];
  accepts = λ _ _ _ _ _. k.is_right;
  fits = λ _ _ _. k.is_right;
  close_signature = λ _. replicate 64 0;
  accepts_close = λ _ _. k.is_right;
}
