-- What a lost connection leaves between two sides, and what stays of what a side has signed (BOLT 2, "Message
-- Retransmission").
use Rattle.std.specs.Prelude.{◌≡◌, ℕ, ◌+◌, ◌≤◌, take, Some}
use Rattle.ln_keys.specs.Signer.{Signer}
use Rattle.ln_dance.specs.Dance.{Dancer}

-- x signs, and y, with these keys, accepts and revokes: y's commitment lies between the one that x has the last
-- revocation for and the one that x signed last, which is at most one further; x keeps the last secret that y told
pub record KeepsUp (y_keys : Signer) (x y : Dancer) : Type 0 where
  pub revoked : x.numbers.revoked ≤ y.numbers.commitment
  pub accepted : y.numbers.commitment ≤ x.numbers.signed
  pub one_unrevoked : x.numbers.signed ≤ x.numbers.revoked + 1
  pub secret : (n : ℕ) → x.numbers.revoked ≡ n + 1 → x.peer.secret ≡ Some (y_keys.secret_of n)

-- each way round, wherever the connection was lost
pub record HaveParted (x_keys y_keys : Signer) (x y : Dancer) : Type 0 where
  pub there : KeepsUp y_keys x y
  pub back : KeepsUp x_keys y x

-- z is what has become of x, which signed: it has the updates that x signed, and the number and the point that x
-- signed with
pub record HasSigned (x z : Dancer) : Type 0 where
  pub channel : z.channel ≡ x.channel
  pub opening : z.log.opening ≡ x.log.opening
  pub role : z.log.role ≡ x.log.role
  pub own : take z.log.signed.own z.log.own ≡ x.log.own
  pub peer : take z.log.signed.peer z.log.received ≡ take x.log.current.peer x.log.received
  pub acknowledged : z.log.acknowledged.own ≡ x.log.acknowledged.own
  pub number : z.numbers.signed ≡ x.numbers.signed + 1
  pub point : z.peer.next_point ≡ x.peer.next_point

-- z is what has become of x, which accepted a signature: it is one commitment further
pub record HasRevoked (x z : Dancer) : Type 0 where
  pub channel : z.channel ≡ x.channel
  pub number : z.numbers.commitment ≡ x.numbers.commitment + 1
