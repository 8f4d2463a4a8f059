-- A signature is made at one moment and taken at another, and so is a revocation: what has to hold between the
-- one who made it then and the one who takes it now.
use Rattle.std.specs.Prelude.{◌≡◌, ◌+◌, take, length}
use Rattle.ln_keys.specs.Role.{other_role}
use Rattle.ln_keys.specs.Signer.{Signer}
use Rattle.ln_log.specs.Updates.{all_sent}
use Rattle.ln_dance.specs.Dance.{Dancer}

-- x, as it signed, signed what y, with these keys, is to accept: they know the same updates as sent, the same
-- number of y's commitment, and x had y's point of the next one
pub record IsSignedFor (y_keys : Signer) (x y : Dancer) : Type 0 where
  pub opening : y.log.opening ≡ x.log.opening
  pub roles : y.log.role ≡ other_role x.log.role
  pub own : all_sent x.log.own ≡ all_sent y.log.received
  pub peer : all_sent (take x.log.current.peer x.log.received) ≡ all_sent (take y.log.acknowledged.own y.log.own)
  pub number : y.numbers.commitment ≡ x.numbers.signed
  pub point : x.peer.next_point ≡ y_keys.point_of (x.numbers.signed + 1)
  pub point_length : length x.peer.next_point ≡ 33

-- y, with these keys, revoked as it accepted what x has to hear of next: the commitment of the number that x is
-- at, whose point it has
pub record IsRevokedFor (y_keys : Signer) (y x : Dancer) : Type 0 where
  pub number : y.numbers.commitment ≡ x.numbers.revoked
  pub point : x.peer.point ≡ y_keys.point_of x.numbers.revoked
