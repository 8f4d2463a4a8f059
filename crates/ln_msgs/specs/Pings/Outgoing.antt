-- What a stream of pongs holds before it is written.
use Rattle.std.specs.Prelude.{ℕ, List}

-- the bytes that wait to be written, and how many pongs were owed so far
pub record Waiting : Type 0 where
  pub bytes : List ℕ
  pub pongs : ℕ
