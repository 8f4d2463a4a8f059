-- How long a thread waits that has nothing to do.
use Rattle.std.specs.Prelude.{ℕ, if◌then◌else◌, nat_lt, ◌==◌, ◌^◌}

-- in milliseconds: a tenth of a second; after a load that was refused 2, twice as long after each further one in a
-- row, and a second at most
abbrev pub pause_of : ℕ → ℕ
pause_of refused = if refused == 0 then 100 else (if nat_lt refused 10 then 2 ^ refused else 1000)
